use Rattle.std.proofs.Common.{ℕ, ◌<◌, List, [], ◌∷◌, below_more, sym, subst, rules}
use Rattle.attr_value.specs.declared.head.ValueId.{ValueId}
use Rattle.attr_value.specs.Heads.{OwnRule}
use Rattle.attr_value.specs.Ids.{at, kids_at, AreKnown}
use Rattle.attr_value.specs.Values.{Value, list_of}
use Rattle.derived_printer.specs.Spellable.{IsNamed, NodeIsSpellable, AreSpellable}
use Rattle.derived_printer.proofs.tests.are_spellable.Goals as goal

-- kids that stand before a place
kids-spellable : (vs : List Value) (ids : List ValueId) (i : ℕ)
    → ((j : ℕ) → j < i
    → NodeIsSpellable (at vs j).head (at vs j).kids × AreSpellable (at vs j).kids)
    → AreKnown i ids → AreSpellable (kids_at vs ids)
kids-spellable vs [] i each known = tt
kids-spellable vs (id ∷ ids) i each (less, known) =
    let one = each id.0 less in (one.0, one.1, kids-spellable vs ids i each known)

pub loop-i-preserved : goal.loop-i-preserved
loop-i-preserved c =
    let vs = c.args.u.now in
    let head = c.view.result.0.now in
    let ids = c.view.result.1.now in
    let own : OwnRule head (list_of (kids_at vs ids)) = search rules in
    let named : IsNamed head = search rules in
    let kids = kids-spellable vs ids c.loop-i.i c.loop-i.invariant c.view.ensures.earlier in
    below_more _ _ c.loop-i.invariant
    (subst (λ v. NodeIsSpellable v.head v.kids × AreSpellable v.kids) (sym c.view.ensures.value)
    (record { rule = own; named = named }, kids))
