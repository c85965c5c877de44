use Rattle.std.proofs.Common.{◌≡◌, ℕ, ◌<◌, [], ◌∷◌, ◌++◌, length, ap, sym, ◌∙◌, subst}
use Rattle.std.specs.List.{All, AllZip}
use Rattle.std.proofs.lemmas.List.Elements.{All-nil}
use Rattle.generic_syntax.specs.declared.module_cst.OpCst.{OpCst}
use Rattle.module_builder.specs.Fit.{IdsFit, uses_of, successors_of}
use Rattle.module_builder.specs.Fit.{definition_count}
use Rattle.module_builder.proofs.Trees.{in_ops, in_regions, op-stands}
use Rattle.module_faults.specs.Standings.{generic_regions, ops_standings}
use Rattle.module_builder.proofs.tests.a_module_of_one_operation_is_built.Goals as goal

-- an operation without regions stands alone
alone : (op : OpCst) → generic_regions op ≡ [] → in_ops 0 (op ∷ []) ≡ op ∷ []
alone op none = op-stands 0 op [] ∙ ap (λ l. op ∷ (in_regions 0 l ++ [])) none

pub build-requires-clause-fit : goal.build-requires-clause-fit
build-requires-clause-fit g c =
    let op = c.operation.result in
    let parts = c.no_parts.result in
    let ops : c.push.new.self ≡ op ∷ []
    = c.in_ok-push.ensures.ok ∙ ap (λ l. l ++ op ∷ []) c.new-ops.ensures in
    let ids : c.push-2.new.self.items ≡ parts ∷ []
    = c.in_ok-push-2.ensures.items ∙ ap (λ l. l ++ parts ∷ []) c.new-ids.ensures.items in
    let here : in_ops 0 c.push.new.self ≡ op ∷ []
    = ap (in_ops 0) ops ∙ alone op c.operation.ensures.regions in
    subst (λ l. AllZip IdsFit l c.push-2.new.self.items) (sym here)
    (subst (AllZip IdsFit (op ∷ [])) (sym ids) (
      c.operation.ensures.fit parts c.no_parts.ensures.results c.no_parts.ensures.args
          c.no_parts.ensures.keys c.no_parts.ensures.values,
      tt,
    ))

pub build-requires-clause-uses : goal.build-requires-clause-uses
build-requires-clause-uses g c =
    let op = c.operation.result in
    let ops : c.push.new.self ≡ op ∷ []
    = c.in_ok-push.ensures.ok ∙ ap (λ l. l ++ op ∷ []) c.new-ops.ensures in
    let here : in_ops 0 c.push.new.self ≡ op ∷ []
    = ap (in_ops 0) ops ∙ alone op c.operation.ensures.regions in
    record {
      values = ap length c.in_ok-uses.ensures.values
          ∙ sym (ap (λ l. length (uses_of l)) here
          ∙ ap (λ l. length (l ++ [])) c.operation.ensures.uses);
      blocks = ap length c.in_ok-uses.ensures.blocks
          ∙ sym (ap (λ l. length (successors_of l)) here
          ∙ ap (λ l. length (l ++ [])) c.operation.ensures.successors);
      defined = subst (All (λ (p : ℕ × ℕ).
          p.0 < definition_count (ops_standings 0 c.push.new.self)))
          (sym c.in_ok-uses.ensures.values) (All-nil _);
    }
