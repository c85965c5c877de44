use Rattle.std.proofs.Common.{◌-◌, ◌^◌, ◌∙◌, subst, arith}
use Rattle.std.specs.List.{flat_map}
use Rattle.first_fault.proofs.Firsts.{first-either}
use Rattle.dialect_registry.specs.declared.code.DefCode.TheVariants.{ChoiceLimit}
use Rattle.dialect_registry.specs.declared.limits.TheConstants.{CHOICE_LIMIT}
use Rattle.dialect_registry.specs.NameFaults.{marks_of_body, marks_of_statement, choices}
use Rattle.dialect_registry.specs.Scopes.{Knows}
use Rattle.dialect_registry.proofs.Breaking.{breaks-over}
use Rattle.dialect_registry.proofs.Walks.{flat_map-more, whole-take}
use Rattle.dialect_registry.proofs.body.judge_body.Goals as goal

pub loop-statement-preserved : goal.loop-statement-preserved
loop-statement-preserved c =
    subst (λ l. Knows l c.see_statement.new.scope)
    (flat_map-more marks_of_statement c.as_slice-statement-items.result.now
    c.loop-statement.statement-index c.statement-item.result c.loop-statement-test.true
    c.statement-item.is)
    (c.in_ok-see_statement.ensures _ c.loop-statement.invariant)

pub returns : goal.returns
returns c =
    let ms = marks_of_body c.args.def.now in
    let scope = c.loop-statement.scope in
    let known : Knows ms scope =
    subst (λ l. Knows (flat_map marks_of_statement l) scope)
    (whole-take c.as_slice-statement-items.result.now c.loop-statement.statement-index
    c.loop-statement.auto.statement-index-end c.loop-statement-test.false
    ∙ c.as_slice-statement-items.ensures) c.loop-statement.invariant in
    rw (c.earlier.ensures, c.fault_if-many.ensures)
    (first-either _ _ scope.first _ known.first
    (breaks-over CHOICE_LIMIT (2 ^ 64 - 1) (choices ms) scope.choices c.args.def.now.place
    ChoiceLimit known.choices (omega arith)))
