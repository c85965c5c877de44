-- What a list of facts tells of: if it tells of a topic, one of its facts does.
use Rattle.std.proofs.Common.{◌≡◌, Bool, true, false, ◌||◌, List, [], ◌∷◌, refl}
use Rattle.std.specs.List.{AllByRecursion}
use Rattle.module_meaning.specs.Facts.{Fact, Topic, is_of, tells}

-- two properties of all items are one
pub both-hold : {A : Type 0} (P Q : A → Type 0) (xs : List A) → AllByRecursion P xs
    → AllByRecursion Q xs → AllByRecursion (λ x. P x × Q x) xs
both-hold P Q [] a b = tt
both-hold P Q (x ∷ xs) (p, a) (q, b) = ((p, q), both-hold P Q xs a b)

-- a fact that tells of the topic, with what holds of all facts
pub told-of : (topic : Topic) (facts : List Fact) (P : Fact → Type 0) → tells facts topic ≡ true
    → AllByRecursion P facts → (fact : Fact) × (is_of topic fact ≡ true) × P fact
told-of topic [] P e all = absurd (cc)
told-of topic (f ∷ facts) P e (p, all) =
    go (is_of topic f) refl e (λ later. told-of topic facts P later all)
  where
    go : (b : Bool) → is_of topic f ≡ b → (b || tells facts topic) ≡ true
        → (tells facts topic ≡ true → (fact : Fact) × (is_of topic fact ≡ true) × P fact)
        → (fact : Fact) × (is_of topic fact ≡ true) × P fact
    go true is e more = (f, is, p)
    go false is e more = more e
