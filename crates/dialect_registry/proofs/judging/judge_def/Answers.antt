use Rattle.std.proofs.Common.{◌≡◌, true}
use Rattle.first_fault.specs.Firsts.{IsFirst}
use Rattle.first_fault.proofs.Firsts.{first-either}
use Rattle.dialect_registry.specs.declared.code.DefCode.TheVariants.{NameRepeated, ReservedName}
use Rattle.dialect_registry.specs.Codes.{Breaks}
use Rattle.dialect_registry.specs.DefFaults.{is_def}
use Rattle.dialect_registry.specs.NameShapes.{is_bare_id, IsBadDefName}
use Rattle.dialect_registry.proofs.Breaking.{breaks-true, breaks-false}
use Rattle.dialect_registry.proofs.judging.judge_def.Goals as goal

pub returns : goal.returns
returns g c = λ w before finds given is.
    let def = c.args.def.now in
    let again : IsFirst (Breaks (is_def before def.name ≡ true) def.place NameRepeated)
    c.fault_if-again.result = rw c.fault_if-again.ensures
    (breaks-true (is_def before def.name) c.args.known def.place NameRepeated is) in
    let bad : IsFirst (Breaks (IsBadDefName def.name) def.place ReservedName)
    c.fault_if-bad.result = rw c.fault_if-bad.ensures
    (breaks-false (is_bare_id def.name) c.is_bare_id.result def.place ReservedName
    (rw c.bytes.ensures at c.is_bare_id.ensures)) in
    let extra = rw c.as_slice-statements.ensures at c.judge_variables-extra.ensures in
    let wrong = rw c.as_slice-statements.ensures at
    (c.judge_statements-wrong.ensures w finds given) in
    rw (c.earlier-4.ensures, c.earlier.ensures, c.earlier-3.ensures, c.earlier-2.ensures)
    (first-either _ _ _ _ (first-either _ _ _ _ again bad)
    (first-either _ _ _ _ c.in_ok-body.ensures (first-either _ _ _ _ extra wrong)))
