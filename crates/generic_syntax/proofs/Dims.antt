-- Dimensions are split at each `x`, and a dimension is looked at as a whole.
use Rattle.std.proofs.Math.Seq.{take-suc, drop-cons}
use Rattle.std.proofs.lemmas.Bool.{ne_eqb}
use Rattle.std.proofs.lemmas.List.{get_or-drop}
use Rattle.std.proofs.Common.{◌≡◌, ℕ, suc, ◌+◌, ◌-◌, ◌<◌, ◌≤◌, Bool, true, false, ◌||◌, [], ◌∷◌, ◌++◌, length, take, drop, get_or, refl, sym, ◌∙◌, ap, add-one, append-nil, length-drop, arith, if◌then◌else◌, ◌==◌}
use Rattle.std.specs.List.{list_any}
use Rattle.ir_lexer.specs.Spelling.{Text}
use Rattle.generic_syntax.specs.Dims.{known}
use Rattle.generic_syntax.specs.Values.{dims_from}

-- a byte that is no `x` goes to the dimension
dims-on : (before : Text) (b : ℕ) (t : Text) → (b == 120) ≡ false
    → dims_from before (b ∷ t) ≡ dims_from (before ++ known (b ∷ [])) t
dims-on before b t e = rw e (go (b == 63))
  where
    go : (q : Bool)
        → (if q then dims_from before t else dims_from (before ++ b ∷ []) t)
        ≡ dims_from (before ++ (if q then [] else b ∷ [])) t
    go true = ap (λ x. dims_from x t) (sym (append-nil before))
    go false = refl

known-append : (s t : Text) → known (s ++ t) ≡ known s ++ known t
known-append [] t = refl
known-append (b ∷ s) t = go (b == 63) (known-append s t)
  where
    go : (q : Bool) → known (s ++ t) ≡ known s ++ known t
        → (if q then known (s ++ t) else b ∷ known (s ++ t))
        ≡ (if q then known s else b ∷ known s) ++ known t
    go true e = e
    go false e = ap (λ x. b ∷ x) e

-- without a question mark, a dimension is its bytes
pub known-plain : (t : Text) → list_any (λ b. b == 63) t ≡ false → known t ≡ t
known-plain [] e = refl
known-plain (b ∷ t) e = go (b == 63) e (known-plain t)
  where
    go : (q : Bool) → (q || list_any (λ b. b == 63) t) ≡ false
        → (list_any (λ b. b == 63) t ≡ false → known t ≡ t)
        → (if q then known t else b ∷ known t) ≡ b ∷ t
    go true e f = absurd (cc)
    go false e f = ap (λ x. b ∷ x) (f e)

-- a dimension that goes on
pub dims-grow : (text : Text) (from at : ℕ) → from ≤ at → at < length text
    → (get_or text at 0 ≡ 120 → ⊥)
    → dims_from (known (take (at + 1 - from) (drop from text))) (drop (at + 1) text)
    ≡ dims_from (known (take (at - from) (drop from text))) (drop at text)
dims-grow text from at h w e =
    let piece = take (at - from) (drop from text) in
    let rest = drop (at + 1) text in
    let b = get_or text at 0 in
    let n : at + 1 - from ≡ suc (at - from) = omega arith in
    let k : from + (at - from) ≡ at = omega arith in
    let within : at - from < length (drop from text) = omega (arith, length-drop from text) in
    let same : get_or (drop from text) (at - from) 0 ≡ b =
    get_or-drop from text (at - from) 0 ∙ ap (λ (i : ℕ). get_or text i 0) k in
    let grown : take (at + 1 - from) (drop from text) ≡ piece ++ b ∷ [] =
    ap (λ (i : ℕ). take i (drop from text)) n
    ∙ take-suc (drop from text) (at - from) 0 within
    ∙ ap (λ (x : ℕ). piece ++ x ∷ []) same in
    let next : drop at text ≡ b ∷ rest =
    drop-cons text at 0 w ∙ ap (λ (i : ℕ). b ∷ drop i text) (sym (add-one at)) in
    ap (λ (x : Text). dims_from (known x) rest) grown
    ∙ ap (λ (x : Text). dims_from x rest) (known-append piece (b ∷ []))
    ∙ sym (dims-on (known piece) b rest (ne_eqb b 120 e))
    ∙ ap (λ (x : Text). dims_from (known piece) x) (sym next)
