-- Items that were put at the end of a list one by one.
use Rattle.std.proofs.Common.{◌≡◌, List, [], ◌∷◌, ◌++◌, refl, ap}

-- five
pub five : {A : Type 0} (old : List A) (a b d e f : A)
    → (((((old ++ a ∷ []) ++ b ∷ []) ++ d ∷ []) ++ e ∷ []) ++ f ∷ [])
    ≡ old ++ a ∷ b ∷ d ∷ e ∷ f ∷ []
five [] a b d e f = refl
five (x ∷ old) a b d e f = ap (λ l. x ∷ l) (five old a b d e f)

-- four more behind five
pub four : {A : Type 0} (old : List A) (a b d e f g h i j : A)
    → (((((old ++ a ∷ b ∷ d ∷ e ∷ f ∷ []) ++ g ∷ []) ++ h ∷ []) ++ i ∷ []) ++ j ∷ [])
    ≡ old ++ a ∷ b ∷ d ∷ e ∷ f ∷ g ∷ h ∷ i ∷ j ∷ []
four [] a b d e f g h i j = refl
four (x ∷ old) a b d e f g h i j = ap (λ l. x ∷ l) (four old a b d e f g h i j)
