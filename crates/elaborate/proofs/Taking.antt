-- Lists that are gone over item by item.
use Rattle.std.proofs.Common.{◌≡◌, ◌<◌, ◌+◌, ℕ, List, [], ◌∷◌, ◌++◌, length, map, take, get_or}
use Rattle.std.proofs.Common.{drop, suc, add-one, drop-cons, ◌∙◌, ap, sym}
use Rattle.std.proofs.lemmas.List.{map-append, take_more, take-append-drop}

-- what is made of one item more
pub map-next : {A B : Type 0} (f : A → B) (xs : List A) (i : ℕ) (x : A) → i < length xs
    → x ≡ get_or xs i x → map f (take (i + 1) xs) ≡ map f (take i xs) ++ f x ∷ []
map-next f xs i x less is =
    ap (map f) (take_more xs i x less ∙ ap (λ y. take i xs ++ y ∷ []) (sym is))
    ∙ map-append f (take i xs) (x ∷ [])

-- the items before one, the item, and those behind it
pub around-item : {A : Type 0} (xs : List A) (i : ℕ) (x : A) → i < length xs → x ≡ get_or xs i x
    → xs ≡ take i xs ++ x ∷ drop (i + 1) xs
around-item xs i x less is =
    sym (take-append-drop i xs)
    ∙ ap (λ l. take i xs ++ l) (drop-cons xs i x less ∙ ap (λ y. y ∷ drop (suc i) xs) (sym is)
    ∙ ap (λ k. x ∷ drop k xs) (sym (add-one i)))
