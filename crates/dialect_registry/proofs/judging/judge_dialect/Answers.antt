use Rattle.std.proofs.Common.{◌≡◌, true}
use Rattle.first_fault.specs.Firsts.{IsFirst}
use Rattle.first_fault.proofs.Firsts.{first-either}
use Rattle.dialect_registry.specs.declared.code.DefCode.TheVariants.{NameRepeated, ReservedName}
use Rattle.dialect_registry.specs.Codes.{Breaks}
use Rattle.dialect_registry.specs.DefFaults.{is_dialect}
use Rattle.dialect_registry.specs.NameShapes.{IsBadDialectName}
use Rattle.dialect_registry.proofs.Breaking.{breaks-true, breaks-first}
use Rattle.dialect_registry.proofs.judging.judge_dialect.Goals as goal

pub returns : goal.returns
returns g c = λ w before finds given is.
    let dialect = c.args.dialect.now in
    let again : IsFirst (Breaks (is_dialect before dialect.name ≡ true) dialect.place NameRepeated)
    c.fault_if-again.result = rw c.fault_if-again.ensures
    (breaks-true (is_dialect before dialect.name) c.args.known dialect.place NameRepeated is) in
    let bad : IsFirst (Breaks (IsBadDialectName dialect.name) dialect.place ReservedName)
    c.fault_if-bad.result = rw c.fault_if-bad.ensures
    (breaks-first (IsBadDialectName dialect.name) c.is_bad_dialect.result dialect.place
    ReservedName (rw c.bytes-name.ensures at c.is_bad_dialect.ensures)) in
    let defs = rw (c.bytes-name.ensures, c.as_slice.ensures) at
    (c.in_ok-defs.ensures w finds given) in
    rw (c.earlier-2.ensures, c.earlier.ensures)
    (first-either _ _ _ _ (first-either _ _ _ _ again bad) defs)
