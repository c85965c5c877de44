-- The tokens that a source went over.
--
-- A call that took no token went over none (`gone-none`), a step over the present one (`gone-one`),
-- and two calls over the tokens of the first and then those of the second (`gone-then`). What a
-- reader does on such tokens is known from the token at which the source stood (`head-is`).
use Rattle.std.proofs.Common.{◌≡◌, ◌≢◌, ◌≤◌, ◌<◌, ℕ, Bool, List, [], ◌∷◌, ◌++◌, Some, Ok, refl, sym, ◌∙◌, ap, subst, arith, append_assoc, inl, inr}
use Rattle.std.specs.List.{AllByRecursion}
use Rattle.ir_lexer.specs.declared.class.Class.TheVariants as class
use Rattle.ir_lexer.specs.Source.{Source, IsToken, PlacesAscend, IsInOrder, Advances}
use Rattle.ir_lexer.specs.Spelling.{Fits, Spells, spelling}
use Rattle.ir_lexer.specs.Tokens.{Token}
use Rattle.grammar.specs.Grammar.{Tokens, on_head, place_of}
use Rattle.grammar.specs.Ran.{GoneOver, AreShort}

-- the text of the end is empty
pub end-empty : (t : Token) → t.class ≡ class.End → IsToken t → t.text ≡ []
unfolding Spells
end-empty t e (inl f) = absurd (subst (λ c. Fits (spelling c) t.text) e f)
end-empty t e (inr (inl f)) = absurd (cc (e, f.0))
end-empty t e (inr (inr f)) = f.1

-- what holds of each token of two lists holds of each of both together
pub all-append : (P : Token → Type 0) (xs ys : Tokens) → AllByRecursion P xs → AllByRecursion P ys
    → AllByRecursion P (xs ++ ys)
all-append P [] ys p q = q
all-append P (x ∷ xs) ys p q = (p.0, all-append P xs ys p.1 q)

-- texts within a bound are within a greater one
pub short-within : (most more : ℕ) (ts : Tokens) → most ≤ more → AreShort most ts
    → AreShort more ts
short-within most more [] le h = tt
short-within most more (t ∷ ts) le h = let u = h.0 in (omega arith, short-within most more ts le h.1)

-- places ascend through a list and on from its last token
pub ascend-join : (front : Tokens) (t : Token) (more : Tokens) → PlacesAscend (front ++ t ∷ [])
    → PlacesAscend (t ∷ more) → PlacesAscend (front ++ t ∷ more)
ascend-join [] t more p q = q
ascend-join (x ∷ []) t more p q = (p.0, q)
ascend-join (x ∷ y ∷ front) t more p q = (p.0, ascend-join (y ∷ front) t more p.1 q)

-- no token
pub gone-none : (s : Source) → GoneOver s [] s
gone-none s = record {
  spelled = tt;
  short = tt;
  ascend = tt;
  left = omega arith;
  begins = λ rest. (rest, refl);
  told = λ ts is. (ts, refl, is);
}

-- behind the present token come the tokens behind the first of those that were told
one-told : (s s' : Source) (ts : Tokens) → (s.later ≡ Some [] → s.now.class ≡ class.End)
    → s.now.class ≢ class.End
    → ((t : Token) (more : List Token) → s.later ≡ Some (t ∷ more)
    → (s'.now ≡ t) × (s'.later ≡ Some more))
    → s.later ≡ Some ts
    → (rest : Tokens) × (s.now ∷ ts ≡ (s.now ∷ []) ++ s'.now ∷ rest) × (s'.later ≡ Some rest)
one-told s s' [] ends other told is = absurd (other (ends is))
one-told s s' (t ∷ ts) ends other told is =
    let next = told t ts is in (ts, ap (λ x. s.now ∷ x ∷ ts) (sym next.0), next.1)

-- the present token
pub gone-one : {s s' : Source} {u : Unit {0}} → IsInOrder s
    → (s.later ≡ Some [] → s.now.class ≡ class.End) → s.now.class ≢ class.End → Advances s (Ok u) s'
    → GoneOver s (s.now ∷ []) s'
gone-one {s = s} {s' = s'} order ends other step =
    let less = step.less other in
    let fewer : s'.left < s.left = less.0 in
    record {
      spelled = (order.spells, tt);
      short = (order.short, tt);
      ascend = (less.1, tt);
      left = omega arith;
      begins = λ rest. (s'.now ∷ rest, refl);
      told = λ ts is. one-told s s' ts ends other step.told is;
    }

-- the tokens of one call, and then those of another
pub gone-then : {s0 s1 s2 : Source} (f g : Tokens) → GoneOver s0 f s1 → GoneOver s1 g s2
    → GoneOver s0 (f ++ g) s2
gone-then {s0 = s0} {s1 = s1} {s2 = s2} f g x y = record {
  spelled = all-append _ f g x.spelled y.spelled;
  short = all-append _ f g x.short (short-within s1.left s0.left g x.left y.short);
  ascend =
      let next = y.begins [] in
      let on = subst PlacesAscend next.1 y.ascend in
      let all = ascend-join f s1.now next.0 x.ascend on in
      subst PlacesAscend (ap (λ w. f ++ w) (sym next.1) ∙ sym (append_assoc f g (s2.now ∷ []))) all;
  left = let u = x.left in let v = y.left in omega arith;
  begins = λ rest.
      let next = y.begins rest in
      let first = x.begins next.0 in
      (first.0, append_assoc f g (s2.now ∷ rest) ∙ ap (λ w. f ++ w) next.1 ∙ first.1);
  told = λ ts is.
      let first = x.told ts is in
      let next = y.told first.0 first.2 in (
        next.0,
        first.1 ∙ ap (λ w. f ++ w) next.1 ∙ sym (append_assoc f g (s2.now ∷ next.0)),
        next.2,
      );
}

-- the first token is the one at which the source stood
pub head-is : {s s' : Source} {front : Tokens} (test : Token → Bool) → GoneOver s front s'
    → (rest : Tokens) → on_head test (front ++ s'.now ∷ rest) ≡ test s.now
head-is test x rest = ap (on_head test) (x.begins rest).1

-- and its place is the present one's
pub place-is : {s s' : Source} {front : Tokens} → GoneOver s front s' → (rest : Tokens)
    → place_of (front ++ s'.now ∷ rest) ≡ s.now.place
place-is x rest = ap place_of (x.begins rest).1
