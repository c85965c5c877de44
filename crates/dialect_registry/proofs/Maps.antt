-- What a map has at a name, once a name has been given a value.
use Rattle.std.proofs.Common.{◌≡◌, ℕ, Bool, true, false, List, refl, sym, ◌∙◌, subst, cond, is_some, bytes_eq, if◌then◌else◌}
use Rattle.std.specs.declared.option.Option.{Option}
use Rattle.std.specs.declared.option.Option.TheVariants.{Some, None}
use Rattle.std.specs.Option.{option_or}
use Rattle.std.proofs.lemmas.Slice.Eq.{bytes_eq-Decides}

-- texts with the same bytes are one
pub same-name : (a b : List ℕ) → bytes_eq a b ≡ true → a ≡ b
same-name a b e = (bytes_eq-Decides a b).0 e

pub option_or-none : {A : Type 0} (a : Option A) → option_or a None ≡ a
option_or-none None = refl
option_or-none (Some a) = refl

option_or-some : {A : Type 0} (a b : Option A) → is_some a ≡ true → option_or a b ≡ a
option_or-some None b e = absurd (cc)
option_or-some (Some a) b e = refl

option_or-missing : {A : Type 0} (a b : Option A) → is_some a ≡ false → option_or a b ≡ b
option_or-missing None b e = refl
option_or-missing (Some a) b e = absurd (cc)

-- a name that has a value keeps it
pub keeps-known : {V : Type 0} (at : List ℕ → Option V) (name other : List ℕ) (v : V)
    → is_some (at name) ≡ true
    → at other ≡ option_or (at other) (if bytes_eq name other then Some v else None)
keeps-known {V = V} at name other v known = go (bytes_eq name other) refl
  where
    go : (b : Bool) → bytes_eq name other ≡ b
        → at other ≡ option_or (at other) (if b then Some v else None)
    go true e =
        let there : is_some (at other) ≡ true =
        subst (λ n. is_some (at n) ≡ true) (same-name name other e) known in
        sym (option_or-some (at other) (Some v) there)
    go false e = sym (option_or-none (at other))

-- a name that has none gets this one
pub gives-new : {V : Type 0} (old new : List ℕ → Option V) (name other : List ℕ) (v : V)
    → is_some (old name) ≡ false → new other ≡ cond (bytes_eq name other) (Some v) (old other)
    → new other ≡ option_or (old other) (if bytes_eq name other then Some v else None)
gives-new {V = V} old new name other v missing is = go (bytes_eq name other) refl is
  where
    go : (b : Bool) → bytes_eq name other ≡ b → new other ≡ cond b (Some v) (old other)
        → new other ≡ option_or (old other) (if b then Some v else None)
    go true e is =
        let gone : is_some (old other) ≡ false =
        subst (λ n. is_some (old n) ≡ false) (same-name name other e) missing in
        is ∙ sym (option_or-missing (old other) (Some v) gone)
    go false e is = is ∙ sym (option_or-none (old other))
