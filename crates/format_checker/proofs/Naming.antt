-- Names that are resolved one after the other, for the loops over elements.
use Rattle.std.proofs.Common.{◌≡◌, ℕ, suc, ◌+◌, ◌<◌, ◌≤◌, List, [], ◌∷◌, ◌++◌, length, drop, get_or, refl, sym, ◌∙◌, ap, arith, drop-cons, drop_of_length-le, append_assoc}
use Rattle.std.proofs.lemmas.List.{append-nil}
use Rattle.std.specs.declared.result.Result.TheVariants.{Ok, Err}
use Rattle.format_checker.specs.Named.{Named, named_each, ◌>>=◌}

-- what there is, before more that may mean nothing
abbrev pub before : {B : Type 0} → List B → Named (List B) → Named (List B)
before found more = more >>= (λ ys. Ok (found ++ ys))

before-one : {B : Type 0} (found : List B) (y : B) (more : Named (List B))
    → before found (more >>= (λ ys. Ok (y ∷ ys))) ≡ before (found ++ y ∷ []) more
before-one found y (Ok ys) = ap (λ l. Ok l) (sym (append_assoc found (y ∷ []) ys))
before-one found y (Err at) = refl

before-none : {B : Type 0} (more : Named (List B)) → more ≡ before [] more
before-none (Ok ys) = refl
before-none (Err at) = refl

-- The first items have been resolved: what all mean is what there is, before what the others mean.
pub record Resolved {A B : Type 0} (f : A → Named B) (xs : List A) (found : List B) (i : ℕ)
    : Type 0 where
  pub so_far : named_each f xs ≡ before found (named_each f (drop i xs))

module _ {A B : Type 0} (f : A → Named B) (xs : List A) where
  cut : (i : ℕ) (x : A) → i < length xs → x ≡ get_or xs i x → drop i xs ≡ x ∷ drop (i + 1) xs
  cut i x less is =
      let next : suc i ≡ i + 1 = omega arith in
      drop-cons xs i x less
      ∙ ap (λ e. e ∷ drop (suc i) xs) (sym is)
      ∙ ap (λ n. x ∷ drop n xs) next

  pub resolved-none : Resolved f xs [] 0
  resolved-none = record { so_far = before-none (named_each f xs) }

  -- one item more
  pub resolved-more : (found more : List B) (i : ℕ) (x : A) (y : B) → i < length xs
      → x ≡ get_or xs i x → f x ≡ Ok y → more ≡ found ++ y ∷ [] → Resolved f xs found i
      → Resolved f xs more (i + 1)
  resolved-more found more i x y less is means put known = record {
    so_far = known.so_far
        ∙ ap (λ l. before found (named_each f l)) (cut i x less is)
        ∙ ap (λ n. before found (n >>= (λ z. named_each f (drop (i + 1) xs) >>= (λ ys. Ok (z ∷ ys))))) means
        ∙ before-one found y (named_each f (drop (i + 1) xs))
        ∙ ap (λ l. before l (named_each f (drop (i + 1) xs))) (sym put);
  }

  -- one that means nothing
  pub resolved-stops : (found : List B) (i : ℕ) (x : A) (at : ℕ) → i < length xs
      → x ≡ get_or xs i x → f x ≡ Err at → Resolved f xs found i → named_each f xs ≡ Err at
  resolved-stops found i x at less is none known =
      known.so_far
      ∙ ap (λ l. before found (named_each f l)) (cut i x less is)
      ∙ ap (λ n. before found (n >>= (λ z. named_each f (drop (i + 1) xs) >>= (λ ys. Ok (z ∷ ys))))) none

  -- no item is left
  pub resolved-all : (found : List B) (i : ℕ) → length xs ≤ i → Resolved f xs found i
      → named_each f xs ≡ Ok found
  resolved-all found i le known =
      known.so_far
      ∙ ap (λ l. before found (named_each f l)) (drop_of_length-le xs {i = i} le)
      ∙ ap (λ l. Ok l) (append-nil found)
