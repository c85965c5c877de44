use Rattle.std.proofs.Common.{rules, ◌≡◌, ◌+◌, ◌++◌, ◌∷◌, [], ap, sym, subst, map, drop, ◌∙◌}
use Rattle.module_builder.specs.Firsts.{result_count, Numbered}
use Rattle.module_builder.proofs.Counting.{op-passed, made-from-here, on-three}
use Rattle.module_faults.specs.Listed.{seen}
use Rattle.module_faults.specs.Shape.{result_firsts}
use Rattle.module_builder.proofs.firsts.Numbering.pass.Goals as goal

pub returns-in-Op : goal.returns-in-Op
returns-in-Op c =
    let old = c.args.self.now in
    let new = c.pass_results.new.self in
    let counts = map result_count c.args.ids.now in
    let is = ap seen c.in-Op.is in
    let here : drop old.ops counts ≡ c.len.result ∷ drop (old.ops + 1) counts =
    made-from-here result_count c.args.ids.now old.ops c.index-ids-self.result (search rules)
    c.index-ids-self.is ∙ ap (λ k. k ∷ drop (old.ops + 1) counts) (ap result_count
    c.index-ids-self.is ∙ sym c.len.ensures.value) in
    on-three c.pass_results.result
    (λ (f : new.firsts.items ≡ old.firsts.items ++ result_firsts old.next c.as_slice.result.now)
    (n : new.next ≡ old.next + c.len.result) (o : new.ops ≡ old.ops + 1).
    subst (λ s. Numbered old new (s ∷ []) counts) (sym is)
    (op-passed old new c.in-Op.op.now c.in-Op.is_last counts c.len.result here
    (rw c.as_slice.ensures at f) n o))
    c.pass_results.ensures.firsts c.pass_results.ensures.next c.pass_results.ensures.ops
