use Rattle.std.proofs.Common.{◌+◌, ◌*◌, slice_index_or, rules, ◌∙◌, ◌≡◌, min, ap, arith, drop}
use Rattle.grammar.specs.Looks.{hexadecimal}
use Rattle.ir_lexer.specs.Names.{hexadecimal_value}
use Rattle.value_meaning.proofs.Capped.{hexadecimal-cut-next}
use Rattle.value_meaning.specs.declared.digits.TheConstants.{TOO_GREAT}
use Rattle.value_meaning.proofs.digits.hexadecimal.Goals as goal

pub loop-digit-preserved : goal.loop-digit-preserved
loop-digit-preserved c =
    let ds = c.args.digits.now in
    let i = c.loop-digit.digit-index in
    let n = c.loop-digit.n in
    let next : c.min-n.result ≡ min (n * 16 + hexadecimal_value (slice_index_or ds i 0)) TOO_GREAT =
    search rules in record {
      rest = ap (λ m. min (hexadecimal m (drop (i + 1) ds)) TOO_GREAT) next
          ∙ hexadecimal-cut-next ds i n TOO_GREAT c.loop-digit-test.true
          ∙ c.loop-digit.invariant.rest;
      within = omega arith;
    }
