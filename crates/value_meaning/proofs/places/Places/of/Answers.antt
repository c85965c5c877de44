use Rattle.std.proofs.Common.{◌≡◌, ◌∙◌, ap, sym, arith, refl, true, false, is_some}
use Rattle.std.proofs.lemmas.Option.{slice_get_read}
use Rattle.std.specs.declared.option.Option.{Option}
use Rattle.std.specs.declared.option.Option.TheVariants.{Some, None}
use Rattle.value_meaning.specs.Places.{place_of, with_place}
use Rattle.value_meaning.proofs.Placed.{placed-more, placed-twice}
use Rattle.value_meaning.proofs.places.Places.of.Goals as goal

some-of : {X : Type 0} (o : Option X) → is_some o ≡ true → (x : X) × (o ≡ Some x)
some-of None e = absurd (cc)
some-of (Some x) e = (x, refl)

none-of : {X : Type 0} (o : Option X) → is_some o ≡ false → o ≡ None
none-of None e = refl
none-of (Some x) e = absurd (cc)

pub returns-then-is_some-clause-none : goal.returns-then-is_some-clause-none
returns-then-is_some-clause-none c =
    let d = c.index-types-i.result in
    let found = some-of c.get.result (sym c.is_some.ensures ∙ c.if-is_some.true) in
    placed-twice c.args.types.now c.loop-i.i d
    (slice_get_read c.args.types.now _ c.loop-i.i d refl (omega arith) c.index-types-i.is)
    (place_of c.loop-i.places) c.loop-i.invariant found.0 (sym c.get.ensures ∙ found.1)

pub loop-i-preserved : goal.loop-i-preserved
loop-i-preserved c =
    let d = c.index-types-i.result in
    placed-more c.args.types.now c.loop-i.i d
    (slice_get_read c.args.types.now _ c.loop-i.i d refl (omega arith) c.index-types-i.is)
    (place_of c.loop-i.places) c.loop-i.invariant
    (sym c.get.ensures ∙ none-of c.get.result (sym c.is_some.ensures ∙ c.if-is_some.false))
    (place_of c.note.new.self)
    (λ kind other. c.in_ok-note.ensures kind other
    ∙ ap (λ name. with_place (place_of c.loop-i.places) d.is_type name c.loop-i.i kind other)
    (c.in_ok-name.ensures ∙ c.bytes.ensures))
