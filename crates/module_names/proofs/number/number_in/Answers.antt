use Rattle.std.proofs.Common.{◌+◌, ◌-◌, ◌*◌, slice_index_or, rules, ◌∙◌, ◌≡◌, min, ap, arith}
use Rattle.std.proofs.Common.{drop}
use Rattle.grammar.specs.Looks.{decimal}
use Rattle.module_names.proofs.Capped.{decimal-cut-next}
use Rattle.module_names.specs.declared.number.TheConstants.{GREATEST}
use Rattle.module_names.proofs.number.number_in.Goals as goal

pub loop-digit-preserved : goal.loop-digit-preserved
loop-digit-preserved c =
    let ds = c.args.digits.now in
    let i = c.loop-digit.digit-index in
    let n = c.loop-digit.n in
    let next : c.min-n.result ≡ min (n * 10 + (slice_index_or ds i 0 - 48)) GREATEST =
    search rules in record {
      rest = ap (λ m. min (decimal m (drop (i + 1) ds)) GREATEST) next
          ∙ decimal-cut-next ds i n GREATEST c.loop-digit-test.true
          ∙ c.loop-digit.invariant.rest;
      within = omega arith;
    }
