-- The definition of a name is the only one.
use Rattle.std.proofs.Common.{◌≡◌, ◌∙◌, ◌<◌, ℕ, Bool, true, false, List, [], ◌∷◌, length, get_or, sym}
use Rattle.std.proofs.Common.{ap, subst, bytes_eq, Contains, slice_get, position, option_map, ◌+◌, ◌⊎◌, inl, inr, refl}
use Rattle.std.proofs.lemmas.List.Quantifiers.{position-Some}
use Rattle.std.proofs.lemmas.Option.{get_or_from_slice_get}
use Rattle.std.proofs.lemmas.Slice.Eq.{bytes_eq-Decides}
use Rattle.std.specs.declared.option.Option.{Option}
use Rattle.std.specs.declared.option.Option.TheVariants.{Some, None}
use Rattle.dialect_defs.specs.declared.definition.OpDef.{OpDef}
use Rattle.dialect_registry.specs.Registered.{AreApart, place_of}
use Rattle.dialect_registry.proofs.Placed.{position-behind, position-here}
use Rattle.dialect_registry.proofs.Walks.{slice_get-item}
use Rattle.ir_lexer.specs.Spelling.{Text}
use Rattle.value_meaning.proofs.Among.{contains-cons, contains-nil}

-- what is found has the name, and is there
pub found-known : (ops : List OpDef) (name : Text) (place : ℕ) (d : OpDef)
    → place_of ops name ≡ Some place → slice_get ops place ≡ Some d
    → Contains ops d × (name ≡ d.name)
found-known ops name place d is stands =
    let (within, test, first) = position-Some (λ op. bytes_eq op.name name) ops place d is in
    let here : get_or ops place d ≡ d = get_or_from_slice_get ops place d d stands in
    let equal : bytes_eq d.name name ≡ true =
    subst (λ (x : OpDef). bytes_eq x.name name ≡ true) here test in
    ((place, within, here), sym ((bytes_eq-Decides d.name name).0 equal))

-- where nothing is found, nothing has the name
pub none-known : (ops : List OpDef) (name : Text) → place_of ops name ≡ None → (d : OpDef)
    → Contains ops d → name ≡ d.name → ⊥
none-known [] name none d has same = contains-nil d has
none-known (op ∷ ops) name none d has same =
    by (bytes_eq op.name name) refl (none-known ops name) (contains-cons op ops d has)
  where
    no-more : (o : Option ℕ) → option_map (λ k. 1 + k) o ≡ None → o ≡ None
    no-more None e = refl
    no-more (Some k) e = absurd (cc)

    by : (b : Bool) → bytes_eq op.name name ≡ b
        → (place_of ops name ≡ None → (x : OpDef) → Contains ops x → name ≡ x.name → ⊥)
        → (op ≡ d) ⊎ Contains ops d → ⊥
    by true holds rest among =
        let here : place_of (op ∷ ops) name ≡ Some 0 =
        position-here (λ (x : OpDef). bytes_eq x.name name) op ops holds in
        let no_way : None ≡ Some 0 = sym none ∙ here in
        cc
    by false fails rest (inl is) =
        let equal : bytes_eq d.name name ≡ true = (bytes_eq-Decides d.name name).1 (sym same) in
        let here : bytes_eq op.name name ≡ true =
        subst (λ (x : OpDef). bytes_eq x.name name ≡ true) (sym is) equal in
        let no_way : true ≡ false = sym here ∙ fails in
        cc
    by false fails rest (inr later) =
        rest (no-more (place_of ops name)
        (sym (position-behind (λ (x : OpDef). bytes_eq x.name name) op ops fails) ∙ none))
        d later same

-- of one name there is one definition
pub only-known : (ops : List OpDef) → AreApart ops → (d e : OpDef) → Contains ops d
    → Contains ops e → d.name ≡ e.name → d ≡ e
only-known ops apart d e (i, below, is) (j, within, it) same =
    let one = slice_get-item ops i d below (sym is) in
    let two = slice_get-item ops j e within (sym it) in
    let level : i ≡ j = apart.same i j d e one two same in
    let both : Some d ≡ Some e = sym one ∙ ap (slice_get ops) level ∙ two in
    cc
