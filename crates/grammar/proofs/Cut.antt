-- A piece and then a piece: where one ends and the other begins.
--
-- Two ways to cut one list into a piece and a rest are the same, or one is longer. Where a token
-- that goes on with a piece of the first never begins one of the second, only the same is left: so
-- what is barred, viable and shallow behind both is so behind the one in which the reader stands.
use Rattle.std.proofs.Common.{◌≡◌, [], ◌∷◌, ◌++◌, ◌⊎◌, inl, inr, refl, sym, ◌∙◌, ap, subst, append-nil, append_assoc}
use Rattle.ir_lexer.specs.Tokens.{Token}
use Rattle.grammar.specs.Grammar.{Tokens}
use Rattle.grammar.specs.Exact.{HasMore}
use Rattle.grammar.specs.Front.{Lists, Barred, Shallow}

-- how two ways to cut a list lie
pub data Split (a b c d : Tokens) : Type 0 where
  same : a ≡ c → b ≡ d → Split a b c d
  longer : (y : Token) (e : Tokens) → a ≡ c ++ y ∷ e → d ≡ y ∷ (e ++ b) → Split a b c d
  shorter : (y : Token) (e : Tokens) → c ≡ a ++ y ∷ e → b ≡ y ∷ (e ++ d) → Split a b c d

-- the same with one more token before both
split-cons : (x : Token) {a b c d : Tokens} → Split a b c d → Split (x ∷ a) b (x ∷ c) d
split-cons x (same p q) = same (ap (λ l. x ∷ l) p) q
split-cons x (longer y e p q) = longer y e (ap (λ l. x ∷ l) p) q
split-cons x (shorter y e p q) = shorter y e (ap (λ l. x ∷ l) p) q

-- two ways to cut a list lie in one of these ways
pub split : (a b c d : Tokens) → a ++ b ≡ c ++ d → Split a b c d
split [] b [] d h = same refl h
split [] b (y ∷ c) d h = shorter y c refl h
split (x ∷ a) b [] d h = longer x a refl (sym h)
split (x ∷ a) b (y ∷ c) d h =
    let head : x ≡ y = cc in
    let tail : a ++ b ≡ c ++ d = cc in
    subst (λ (z : Token). Split (x ∷ a) b (z ∷ c) d) head (split-cons x (split a b c d tail))

-- the head of what stands behind a front
head-of : (d2 : Tokens) (t y : Token) (e more w : Tokens) → d2 ++ t ∷ e ≡ y ∷ w
    → (v : Tokens) × (d2 ++ t ∷ more ≡ y ∷ v)
head-of [] t y e more w h = (more, ap (λ z. z ∷ more) (cc))
head-of (x ∷ d2) t y e more w h = (d2 ++ t ∷ more, ap (λ z. z ∷ (d2 ++ t ∷ more)) (cc))

module _ (P Q DP DQ : Lists)
    (apart : (d : Tokens) (y : Token) (e w : Tokens) → P d → P (d ++ y ∷ e) → Q (y ∷ w) → ⊥)
    (seen : (p : Tokens) → DP p → HasMore P p) (next_seen : (p : Tokens) → DQ p → HasMore Q p)
    (some : DQ [] → ⊥) where
  -- a piece and then a piece
  abbrev pub Joined : Lists
  Joined w = (front back : Tokens) × (w ≡ front ++ back) × P front × Q back

  -- the last token begins a value too deep in the one or in the other
  abbrev pub Deeper : Lists
  Deeper p = DP p ⊎ ((front back : Tokens) × (p ≡ front ++ back) × P front × DQ back)

  -- behind a piece the next begins where the reader says
  align : (d z front back : Tokens) → P d
      → ((y : Token) (e w : Tokens) → z ≡ y ∷ w → P (d ++ y ∷ e) → ⊥) → P front → Q back
      → d ++ z ≡ front ++ back → Q z
  align d z front back p bar pf qb h = go (split front back d z (sym h))
    where
      go : Split front back d z → Q z
      go (same e1 e2) = subst Q e2 qb
      go (longer y e e1 e2) = absurd (bar y e (e ++ back) e2 (subst P e1 pf))
      go (shorter y e e1 e2) = absurd (apart front y e (e ++ z) pf (subst P e1 p) (subst Q e2 qb))

  -- behind both pieces the same is barred as behind the second
  pub barred-second : (d1 d2 rest : Tokens) → P d1 → Barred P d1 (d2 ++ rest) → Barred Q d2 rest
      → Barred Joined (d1 ++ d2) rest
  barred-second d1 d2 rest p bp bq t more e is (front, back, h, pf, qb) =
      bq t more e is (align d1 (d2 ++ t ∷ e) front back p
      (λ y e' w hw px. let v = head-of d2 t y e more w hw in
      bp y v.0 e' (ap (λ l. d2 ++ l) is ∙ v.1) px)
      pf qb (sym (append_assoc d1 d2 (t ∷ e)) ∙ h))

  -- where the second is no piece, both are none
  pub none-second : (d1 d2 rest : Tokens) → P d1 → Barred P d1 (d2 ++ rest) → (Q d2 → ⊥)
      → Joined (d1 ++ d2) → ⊥
  none-second d1 d2 rest p bp nq (front, back, h, pf, qb) =
      nq (align d1 d2 front back p
      (λ y e' w hw px. bp y (w ++ rest) e' (ap (λ l. l ++ rest) hw) px) pf qb h)

  -- where nothing is too deep in either, nothing is in both
  pub shallow-second : (d1 d2 rest : Tokens) → P d1 → Barred P d1 (d2 ++ rest) → Shallow DP d1
      → Shallow DQ d2 → Shallow Deeper (d1 ++ d2)
  shallow-second d1 d2 rest p bp sp sq a b h (inl x) = go (split a b d1 d2 (sym h))
    where
      v : HasMore P a
      v = seen a x

      go : Split a b d1 d2 → ⊥
      go (same e1 e2) = sp a [] (sym e1 ∙ sym (append-nil a)) x
      go (longer y e e1 e2) = bp y ((e ++ b) ++ rest) (e ++ v.0) (ap (λ l. l ++ rest) e2)
          (subst P (ap (λ l. l ++ v.0) e1 ∙ append_assoc d1 (y ∷ e) v.0) v.1)
      go (shorter y e e1 e2) = sp a (y ∷ e) e1 x
  shallow-second d1 d2 rest p bp sp sq a b h (inr (front, back, is, pf, x)) =
      go back refl
      (split front (back ++ b) d1 d2 (sym (h ∙ ap (λ l. l ++ b) is ∙ append_assoc front back b)))
    where
      v : HasMore Q back
      v = next_seen back x

      go : (k : Tokens) → back ≡ k → Split front (back ++ b) d1 d2 → ⊥
      go k ek (same e1 e2) = sq back b (sym e2) x
      go k ek (longer y e e1 e2) =
          bp y ((e ++ (back ++ b)) ++ rest) e (ap (λ l. l ++ rest) e2) (subst P e1 pf)
      go [] ek (shorter y e e1 e2) = some (subst DQ ek x)
      go (z ∷ k) ek (shorter y e e1 e2) =
          let hd : z ≡ y = cc (ap (λ l. l ++ b) ek) in
          apart front y e (k ++ v.0) pf (subst P e1 p)
          (subst Q (ap (λ l. l ++ v.0) ek ∙ ap (λ w. w ∷ (k ++ v.0)) hd) v.1)

  -- where the first goes on to no piece, both are barred as the first is
  pub barred-first : (d rest : Tokens) → HasMore P d → (P d → ⊥) → Barred P d rest
      → Barred Joined d rest
  barred-first d rest v n bp t more e is (front, back, h, pf, qb) =
      go (split front back d (t ∷ e) (sym h))
    where
      go : Split front back d (t ∷ e) → ⊥
      go (same e1 e2) = n (subst P e1 pf)
      go (longer y e' e1 e2) = bp y more e' (is ∙ ap (λ z. z ∷ more) (cc)) (subst P e1 pf)
      go (shorter y e' e1 e2) = apart front y (e' ++ v.0) (e' ++ t ∷ e) pf
          (subst P (ap (λ l. l ++ v.0) e1 ∙ append_assoc front (y ∷ e') v.0) v.1) (subst Q e2 qb)

  -- where the first is no piece yet, both are none
  pub none-first : (d : Tokens) → HasMore P d → (P d → ⊥) → Joined d → ⊥
  none-first d v n (front, back, h, pf, qb) = go back refl
    where
      go : (k : Tokens) → back ≡ k → ⊥
      go [] ek = n (subst P (sym (h ∙ ap (λ l. front ++ l) ek ∙ append-nil front)) pf)
      go (y ∷ k) ek = apart front y (k ++ v.0) k pf
          (subst P (ap (λ l. l ++ v.0) (h ∙ ap (λ l. front ++ l) ek)
          ∙ append_assoc front (y ∷ k) v.0) v.1) (subst Q ek qb)

  -- where the first goes on and is shallow, both are shallow
  pub shallow-first : (d : Tokens) → HasMore P d → Shallow DP d → Shallow Deeper d
  shallow-first d v sp a b h (inl x) = sp a b h x
  shallow-first d v sp a b h (inr (front, back, is, pf, x)) = go back refl
    where
      u : HasMore Q back
      u = next_seen back x

      go : (k : Tokens) → back ≡ k → ⊥
      go [] ek = some (subst DQ ek x)
      go (y ∷ k) ek = apart front y ((k ++ b) ++ v.0) (k ++ u.0) pf
          (subst P (ap (λ l. l ++ v.0)
          (h ∙ ap (λ l. l ++ b) (is ∙ ap (λ l. front ++ l) ek) ∙ append_assoc front (y ∷ k) b)
          ∙ append_assoc front (y ∷ (k ++ b)) v.0) v.1)
          (subst Q (ap (λ l. l ++ u.0) ek) u.1)
