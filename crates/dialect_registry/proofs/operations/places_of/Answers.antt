use Rattle.std.proofs.Common.{◌∙◌, ap, bytes_eq, if◌then◌else◌, subst, sym}
use Rattle.std.proofs.lemmas.List.{take_all}
use Rattle.std.specs.Option.{option_or}
use Rattle.std.specs.declared.option.Option.TheVariants.{Some, None}
use Rattle.std.specs.HashMap.{get}
use Rattle.dialect_registry.specs.Registered.{ArePlaced}
use Rattle.dialect_registry.proofs.Placed.{places-more}
use Rattle.dialect_registry.proofs.operations.places_of.Goals as goal

pub loop-place-preserved : goal.loop-place-preserved
loop-place-preserved c = λ name.
    let op = c.index-list-place.result in
    (rw c.bytes.ensures at (c.in_ok-note.ensures name))
    ∙ ap (λ o. option_or o (if bytes_eq op.name name then Some c.loop-place.place else None))
    (c.loop-place.invariant name)
    ∙ sym (places-more c.args.list.now c.loop-place.place op name c.loop-place-test.true
    c.index-list-place.is)

pub returns : goal.returns
returns c =
    subst (λ l. ArePlaced l (get bytes_eq c.loop-place.places))
    (take_all c.loop-place.place c.args.list.now c.loop-place-test.false)
    c.loop-place.invariant
