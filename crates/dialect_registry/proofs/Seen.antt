-- The names of a set, with one definition or one dialect more.
use Rattle.std.proofs.Common.{◌≡◌, ℕ, ◌+◌, ◌<◌, Bool, true, false, ◌||◌, List, [], ◌∷◌, ◌++◌, length, take, get_or, refl, sym, ◌∙◌, ap, bytes_eq, append_assoc}
use Rattle.std.specs.List.{list_any}
use Rattle.std.proofs.lemmas.List.{take_more}
use Rattle.ir_lexer.specs.Spelling.{Text}
use Rattle.irdl_ops.specs.declared.raw.RawDef.{RawDef}
use Rattle.irdl_ops.specs.declared.raw.RawDialect.{RawDialect}
use Rattle.dialect_registry.specs.declared.names.NameSet.{NameSet}
use Rattle.dialect_registry.specs.DefFaults.{is_def, is_dialect}
use Rattle.dialect_registry.specs.Scopes.{holds, HasDefs, HasDialects}

pub any-more : {A : Type 0} (p : A → Bool) (xs : List A) (x : A)
    → list_any p (xs ++ x ∷ []) ≡ (p x || list_any p xs)
any-more p [] x = refl
any-more {A = A} p (y ∷ xs) x = go (p y) (p x) (any-more p xs x)
  where
    go : (a b : Bool) → list_any p (xs ++ x ∷ []) ≡ (b || list_any p xs)
        → (a || list_any p (xs ++ x ∷ [])) ≡ (b || (a || list_any p xs))
    go true true e = refl
    go true false e = refl
    go false b e = e

pub take-item : {A : Type 0} (xs : List A) (i : ℕ) (x : A) → i < length xs → x ≡ get_or xs i x
    → take i xs ++ x ∷ [] ≡ take (i + 1) xs
take-item xs i x less is =
    ap (λ y. take i xs ++ y ∷ []) is ∙ sym (take_more xs i x less)

-- a new set has the name of no definition
pub defs-none : (s : NameSet) → ((name : Text) → holds s name ≡ false) → HasDefs [] s
defs-none s none = record { each = none }

-- the set with the name of one definition more
pub defs-more : (defs : List RawDef) (i : ℕ) (x : RawDef) (old new : NameSet) → i < length defs
    → x ≡ get_or defs i x → HasDefs (take i defs) old
    → ((other : Text) → holds new other ≡ (bytes_eq x.name other || holds old other))
    → HasDefs (take (i + 1) defs) new
defs-more defs i x old new less is k added = record {
  each = λ name.
      added name ∙ ap (λ b. bytes_eq x.name name || b) (k.each name)
      ∙ sym (any-more (λ d. bytes_eq d.name name) (take i defs) x)
      ∙ ap (λ l. is_def l name) (take-item defs i x less is);
}

-- a new set has the name of no dialect
pub dialects-none : (s : NameSet) → ((name : Text) → holds s name ≡ false) → HasDialects [] s
dialects-none s none = record { each = none }

-- the set with the name of one dialect more
pub dialects-more : (earlier dialects : List RawDialect) (i : ℕ) (x : RawDialect)
    (old new : NameSet)
    → i < length dialects → x ≡ get_or dialects i x → HasDialects (earlier ++ take i dialects) old
    → ((other : Text) → holds new other ≡ (bytes_eq x.name other || holds old other))
    → HasDialects (earlier ++ take (i + 1) dialects) new
dialects-more earlier dialects i x old new less is k added = record {
  each = λ name.
      added name ∙ ap (λ b. bytes_eq x.name name || b) (k.each name)
      ∙ sym (any-more (λ d. bytes_eq d.name name) (earlier ++ take i dialects) x)
      ∙ ap (λ l. is_dialect l name) (append_assoc earlier (take i dialects) (x ∷ [])
      ∙ ap (λ l. earlier ++ l) (take-item dialects i x less is));
}
