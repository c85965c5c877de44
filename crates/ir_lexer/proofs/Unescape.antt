-- The bytes of a string's items, item by item.
use Rattle.std.proofs.Common.{◌≡◌, ℕ, Bool, true, false, ◌||◌, [], ◌∷◌, refl, ap, ◌∙◌, ◌==◌}
use Rattle.std.specs.List.{list_any}
use Rattle.ir_lexer.specs.Signs.{backslash}
use Rattle.ir_lexer.specs.Spelling.{Text}
use Rattle.ir_lexer.specs.Names.{items_bytes}

-- a byte that begins no escape stands for itself
plain-item : (a : ℕ) (t : Text) → (a == backslash) ≡ false → items_bytes (a ∷ t) ≡ a ∷ items_bytes t
plain-item a [] e = refl
plain-item a (b ∷ []) e = rw e refl
plain-item a (b ∷ c ∷ t) e = rw e refl

-- where no backslash stands, the items are the bytes
pub items-bytes-plain : (t : Text) → list_any (λ b. b == backslash) t ≡ false → items_bytes t ≡ t
items-bytes-plain [] e = refl
items-bytes-plain (a ∷ t) e =
    plain-item a t (left (a == backslash) _ e)
    ∙ ap (λ u. a ∷ u) (items-bytes-plain t (right (a == backslash) _ e))
  where
    left : (p q : Bool) → (p || q) ≡ false → p ≡ false
    left true q e = e
    left false q e = refl

    right : (p q : Bool) → (p || q) ≡ false → q ≡ false
    right true q e = absurd (cc)
    right false q e = e
