-- A whole whose parts are good, as it is kept.
use Rattle.std.proofs.Common.{◌≡◌, ℕ, Bool, List, [], ◌∷◌, length, sym, subst}
use Rattle.std.proofs.lemmas.Option.{get_or_from_slice_get}
use Rattle.std.specs.List.{AllByRecursion}
use Rattle.attr_uniquer.specs.Interned.{Interned}
use Rattle.attr_value.specs.declared.head.Head.TheVariants as h
use Rattle.attr_value.specs.declared.head.Head.{Head}
use Rattle.attr_value.specs.declared.head.ValueId.{ValueId}
use Rattle.attr_value.specs.Ids.{at, kids_at}
use Rattle.attr_value.specs.Values.{Value, list_of, none, value}
use Rattle.dialect_defs.specs.declared.definition.TypeDef.{TypeDef}
use Rattle.dialect_defs.specs.Assignments.{Tests}
use Rattle.dialect_defs.specs.Goodness.{Good}
use Rattle.constraint_solver.specs.Definitions.{AreSoundDefs, HasGoodKids}
use Rattle.constraint_solver.specs.Grown.{Extends}
use Rattle.constraint_solver.proofs.Grows.{each-good-grows}
use Rattle.type_infer.specs.Found.{AreGoodIds}

-- a value that was kept is that of its id
pub kept-is : (old new : List Value) (v : Value) (i : ℕ) → Interned old new v i → at new i ≡ v
kept-is old new v i interned =
    get_or_from_slice_get new i v (value h.Unit none) interned.stands

good-list : (values : List Value) (tests : Tests) (types : List TypeDef) (ids : List ValueId)
    → AreGoodIds values tests types ids
    → AllByRecursion (Good values tests types) (list_of (kids_at values ids))
good-list values tests types [] good = tt
good-list values tests types (id ∷ ids) good =
    (good.0, good-list values tests types ids good.1)

-- the kids of a whole that was kept are good
pub kept-good : (old new : List Value) (count : ℕ) (tests : Tests) (types : List TypeDef)
    (head : Head) (ids : List ValueId) (i : ℕ) → Extends old new
    → AreSoundDefs (length old) count types → AreGoodIds old tests types ids
    → at new i ≡ value head (kids_at old ids) → HasGoodKids new tests types (at new i)
kept-good old new count tests types head ids i grew sound good is = record {
  each = subst (λ (v : Value). AllByRecursion (Good new tests types) (list_of v.kids)) (sym is)
      (each-good-grows grew sound tests (list_of (kids_at old ids))
      (good-list old tests types ids good));
}

-- the same of a name and ids that are equal
pub interned-as : (old new : List Value) (is_type : Bool) (copy name : List ℕ)
    (slice ids : List ValueId) (i : ℕ) → copy ≡ name → slice ≡ ids
    → Interned old new (value (h.Dialect is_type copy) (kids_at old slice)) i
    → Interned old new (value (h.Dialect is_type name) (kids_at old ids)) i
interned-as old new is_type copy name slice ids i named same interned =
    subst (λ (n : List ℕ). Interned old new (value (h.Dialect is_type n) (kids_at old ids)) i) named
    (subst (λ (l : List ValueId). Interned old new (value (h.Dialect is_type copy) (kids_at old l)) i)
    same interned)
