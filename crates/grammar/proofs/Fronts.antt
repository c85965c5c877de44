-- A token list has one front, or is refused at one place, or is too deep at one.
--
-- Each of the three says where a text that begins with these tokens must end or fail, by what may
-- follow and what may not; so no two of them hold of one list at two places.
use Rattle.std.proofs.Common.{◌≡◌, ℕ, [], ◌∷◌, ◌++◌, inl, inr, sym, ◌∙◌, ap, subst, append-nil, append_assoc}
use Rattle.ir_lexer.specs.Tokens.{Token}
use Rattle.grammar.specs.declared.stop.SyntaxCode.{SyntaxCode}
use Rattle.grammar.specs.Answers.{IsRefusal}
use Rattle.grammar.specs.Grammar.{Tokens}
use Rattle.grammar.specs.Ran.{IsCodeOf}
use Rattle.grammar.proofs.Codes.{code-once}
use Rattle.grammar.specs.Exact.{HasMore}
use Rattle.grammar.specs.Front.{Lists, Barred, Shallow, Some_of, Front, Refused, TooDeep}
use Rattle.grammar.proofs.Cut.{Split, same, longer, shorter, split}

-- two ends of what may come lie at one place
ends : (P : Lists) (d f rest more : Tokens) → HasMore P d → HasMore P f → Barred P d rest
    → Barred P f more → d ++ rest ≡ f ++ more → (d ≡ f) × (rest ≡ more)
ends P d f rest more vd vf bd bf e = go (split d rest f more e)
  where
    go : Split d rest f more → (d ≡ f) × (rest ≡ more)
    go (same p q) = (p, q)
    go (longer y k p q) =
        absurd (bf y (k ++ rest) (k ++ vd.0) q
        (subst P (ap (λ w. w ++ vd.0) p ∙ append_assoc f (y ∷ k) vd.0) vd.1))
    go (shorter y k p q) =
        absurd (bd y (k ++ more) (k ++ vf.0) q
        (subst P (ap (λ w. w ++ vf.0) p ∙ append_assoc d (y ∷ k) vf.0) vf.1))

-- a whole piece has more, if only nothing
whole-viable : {A : Type 0} (R : Tokens → A → Type 0) (d : Tokens) (a : A) → R d a
    → HasMore (Some_of R) d
whole-viable R d a r = ([], (a, subst (λ (w : Tokens). R w a) (sym (append-nil d)) r))

module _ {A : Type 0} (R : Tokens → A → Type 0) (D : Lists) where
  -- two fronts of one list are one, with one tree
  pub one-front : ((d : Tokens) (a b : A) → R d a → R d b → a ≡ b)
      → (ts : Tokens) (a b : A) (rest more : Tokens)
      → Front R D ts a rest → Front R D ts b more → (a ≡ b) × (rest ≡ more)
  one-front one ts a b rest more x y =
      let e = ends (Some_of R) x.front y.front rest more (whole-viable R x.front a x.tree)
      (whole-viable R y.front b y.tree) x.barred y.barred (sym x.is ∙ y.is) in
      (one y.front a b (subst (λ (w : Tokens). R w a) e.0 x.tree) y.tree, e.1)

  -- a list with a front is not refused
  pub front-or-refused : (ts : Tokens) (a : A) (rest more : Tokens) → Front R D ts a rest
      → Refused R D ts more → ⊥
  front-or-refused ts a rest more x y =
      let e = ends (Some_of R) x.front y.front rest more
      (whole-viable R x.front a x.tree) (y.viable.0, y.viable.2) x.barred y.barred (sym x.is ∙ y.is) in
      y.none (a, subst (λ (w : Tokens). R w a) e.0 x.tree)

  -- a list is refused at one place
  pub refused-once : (ts rest more : Tokens) → Refused R D ts rest → Refused R D ts more
      → rest ≡ more
  refused-once ts rest more x y =
      (ends (Some_of R) x.front y.front rest more (x.viable.0, x.viable.2) (y.viable.0, y.viable.2) x.barred y.barred
      (sym x.is ∙ y.is)).1

  module _ (seen : (p : Tokens) → D p → HasMore (Some_of R) p) where
    -- what is too deep doesn't stand before a shallow end of what may come
    no-deep-end : (ts d rest more : Tokens) → ts ≡ d ++ rest → Barred (Some_of R) d rest
        → Shallow D d → TooDeep D ts more → ⊥
    no-deep-end ts d rest more is barred shallow y =
        go (split d rest (y.front ++ y.next ∷ []) y.more all)
      where
        all : d ++ rest ≡ (y.front ++ y.next ∷ []) ++ y.more
        all = sym is ∙ y.is ∙ ap (λ w. y.front ++ w) y.at
            ∙ sym (append_assoc y.front (y.next ∷ []) y.more)

        v : HasMore (Some_of R) (y.front ++ y.next ∷ [])
        v = seen (y.front ++ y.next ∷ []) y.deep

        go : Split d rest (y.front ++ y.next ∷ []) y.more → ⊥
        go (same p q) =
            shallow (y.front ++ y.next ∷ []) []
            (p ∙ sym (append-nil (y.front ++ y.next ∷ []))) y.deep
        go (longer t k p q) = shallow (y.front ++ y.next ∷ []) (t ∷ k) p y.deep
        go (shorter t k p q) =
            barred t (k ++ y.more) (k ++ v.0) q
            (subst (Some_of R) (ap (λ w. w ++ v.0) p ∙ append_assoc d (t ∷ k) v.0) v.1)

    -- a list with a front is not too deep
    pub front-or-deep : (ts : Tokens) (a : A) (rest more : Tokens) → Front R D ts a rest
        → TooDeep D ts more → ⊥
    front-or-deep ts a rest more x y = no-deep-end ts x.front rest more x.is x.barred x.shallow y

    -- a list that is refused is not too deep
    pub refused-or-deep : (ts rest more : Tokens) → Refused R D ts rest → TooDeep D ts more → ⊥
    refused-or-deep ts rest more x y = no-deep-end ts x.front rest more x.is x.barred x.shallow y

  -- a list is too deep at one place
  pub deep-once : (ts rest more : Tokens) → TooDeep D ts rest → TooDeep D ts more → rest ≡ more
  deep-once ts rest more x y = go (split x.front rest y.front more (sym x.is ∙ y.is))
    where
      go : Split x.front rest y.front more → rest ≡ more
      go (same p q) = q
      go (longer t k p q) =
          let head : t ≡ y.next = cc (q, y.at) in
          absurd (x.shallow (y.front ++ y.next ∷ []) k
          (p ∙ ap (λ z. y.front ++ z ∷ k) head ∙ sym (append_assoc y.front (y.next ∷ []) k)) y.deep)
      go (shorter t k p q) =
          let head : t ≡ x.next = cc (q, x.at) in
          absurd (y.shallow (x.front ++ x.next ∷ []) k
          (p ∙ ap (λ z. x.front ++ z ∷ k) head ∙ sym (append_assoc x.front (x.next ∷ []) k)) x.deep)

-- ---- refusals

module _ {A : Type 0} (R : Tokens → A → Type 0) (D : Lists)
    (seen : (p : Tokens) → D p → HasMore (Some_of R) p) (ts : Tokens) where
  -- tokens that have a front aren't refused
  pub front-no-refusal : (a : A) (rest : Tokens) (place : ℕ) (code : SyntaxCode)
      → Front R D ts a rest → IsRefusal R D ts place code → ⊥
  front-no-refusal a rest place code f (t, more, p, inl (x, k)) =
      front-or-refused R D ts a rest (t ∷ more) f x
  front-no-refusal a rest place code f (t, more, p, inr (x, k)) =
      front-or-deep R D seen ts a rest (t ∷ more) f x

  heads : (t u : Token) (more rest : Tokens) → t ∷ more ≡ u ∷ rest → t ≡ u
  heads t u more rest e = cc

  -- tokens are refused at one place, with one code
  pub one-refusal : (p q : ℕ) (c e : SyntaxCode) → IsRefusal R D ts p c → IsRefusal R D ts q e
      → (p ≡ q) × (c ≡ e)
  one-refusal p q c e (t, more, at, inl (x, k)) (u, rest, at2, inl (y, k2)) =
      let same = heads t u more rest (refused-once R D ts (t ∷ more) (u ∷ rest) x y) in (
        at ∙ ap (λ z. z.place) same ∙ sym at2,
        code-once t.class c e k (subst (λ (z : Token). IsCodeOf z.class e) (sym same) k2),
      )
  one-refusal p q c e (t, more, at, inr (x, k)) (u, rest, at2, inr (y, k2)) =
      let same = heads t u more rest (deep-once R D ts (t ∷ more) (u ∷ rest) x y) in
      (at ∙ ap (λ z. z.place) same ∙ sym at2, k ∙ sym k2)
  one-refusal p q c e (t, more, at, inl (x, k)) (u, rest, at2, inr (y, k2)) =
      absurd (refused-or-deep R D seen ts (t ∷ more) (u ∷ rest) x y)
  one-refusal p q c e (t, more, at, inr (x, k)) (u, rest, at2, inl (y, k2)) =
      absurd (refused-or-deep R D seen ts (u ∷ rest) (t ∷ more) y x)
