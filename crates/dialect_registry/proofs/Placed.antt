-- The places of operations, one after another.
use Rattle.std.proofs.Common.{◌≡◌, ◌∙◌, ℕ, suc, ◌+◌, ◌<◌, Bool, true, false, not, List, [], ◌∷◌, ◌++◌, length, take, get_or, refl, sym, ap, arith, bytes_eq, cond, option_map, if◌then◌else◌}
use Rattle.std.specs.Prelude.{nat_lt, position}
use Rattle.std.specs.List.{position_or_len}
use Rattle.std.specs.Option.{option_or}
use Rattle.std.specs.declared.option.Option.{Option}
use Rattle.std.specs.declared.option.Option.TheVariants.{Some, None}
use Rattle.std.proofs.lemmas.Bool.{le-ltb, lt-ltb, ltb-false, ltb-true}
use Rattle.std.proofs.lemmas.List.{length-take-le, take_more}
use Rattle.dialect_defs.specs.declared.definition.OpDef.{OpDef}
use Rattle.ir_lexer.specs.Spelling.{Text}
use Rattle.dialect_registry.specs.Registered.{place_of}

-- a number, where it is below another
abbrev if_below : ℕ → ℕ → Option ℕ
if_below len n = cond (nat_lt n len) (Some n) None

if_below-behind : (len n : ℕ)
    → if_below (suc len) (1 + n) ≡ option_map (λ k. 1 + k) (if_below len n)
if_below-behind len n = by (nat_lt n len) refl
  where
    moved : (b : Bool) → cond b (Some (1 + n)) None ≡ option_map (λ k. 1 + k) (cond b (Some n) None)
    moved true = refl
    moved false = refl

    by : (b : Bool) → nat_lt n len ≡ b
        → if_below (suc len) (1 + n) ≡ option_map (λ k. 1 + k) (if_below len n)
    by true e =
        let below = ltb-true n len e in
        ap (λ b. cond b (Some (1 + n)) None) (lt-ltb (1 + n) (suc len) (omega (arith, below)))
        ∙ moved true ∙ sym (ap (λ b. option_map (λ k. 1 + k) (cond b (Some n) None)) e)
    by false e =
        let past = ltb-false n len e in
        ap (λ b. cond b (Some (1 + n)) None) (le-ltb (1 + n) (suc len) (omega (arith, past)))
        ∙ moved false ∙ sym (ap (λ b. option_map (λ k. 1 + k) (cond b (Some n) None)) e)

-- the place of an item behind one for which it doesn't hold
pub position-behind : {A : Type 0} (p : A → Bool) (x : A) (xs : List A) → p x ≡ false
    → position p (x ∷ xs) ≡ option_map (λ k. 1 + k) (position p xs)
position-behind p x xs fails =
    ap (λ b. if_below (suc (length xs)) (cond (not b) (1 + position_or_len p xs) 0)) fails
    ∙ if_below-behind (length xs) (position_or_len p xs)

pub position-here : {A : Type 0} (p : A → Bool) (x : A) (xs : List A) → p x ≡ true
    → position p (x ∷ xs) ≡ Some 0
position-here p x xs holds =
    ap (λ b. if_below (suc (length xs)) (cond (not b) (1 + position_or_len p xs) 0)) holds
    ∙ ap (λ b. cond b (Some 0) None) (lt-ltb 0 (suc (length xs)) (omega arith))

-- the place of an item, with one more item behind
pub position-more : {A : Type 0} (p : A → Bool) (xs : List A) (x : A)
    → position p (xs ++ x ∷ [])
    ≡ option_or (position p xs) (if p x then Some (length xs) else None)
position-more p [] x = by (p x) refl
  where
    by : (b : Bool) → p x ≡ b → position p (x ∷ []) ≡ (if b then Some 0 else None)
    by true holds = position-here p x [] holds
    by false fails = position-behind p x [] fails
position-more p (y ∷ xs) x = by (p y) refl (position-more p xs x)
  where
    moved : (a : Option ℕ) (b : Bool)
        → option_map (λ k. 1 + k) (option_or a (if b then Some (length xs) else None))
        ≡ option_or (option_map (λ k. 1 + k) a) (if b then Some (suc (length xs)) else None)
    moved None true = ap Some (omega arith)
    moved None false = refl
    moved (Some n) b = refl

    by : (b : Bool) → p y ≡ b
        → position p (xs ++ x ∷ [])
        ≡ option_or (position p xs) (if p x then Some (length xs) else None)
        → position p (y ∷ (xs ++ x ∷ []))
        ≡ option_or (position p (y ∷ xs)) (if p x then Some (suc (length xs)) else None)
    by true holds rest =
        position-here p y (xs ++ x ∷ []) holds
        ∙ sym (ap (λ o. option_or o (if p x then Some (suc (length xs)) else None))
        (position-here p y xs holds))
    by false fails rest =
        position-behind p y (xs ++ x ∷ []) fails ∙ ap (option_map (λ k. 1 + k)) rest
        ∙ moved (position p xs) (p x)
        ∙ sym (ap (λ o. option_or o (if p x then Some (suc (length xs)) else None))
        (position-behind p y xs fails))

-- the places of some operations, with the next one
pub places-more : (ops : List OpDef) (i : ℕ) (op : OpDef) (name : Text) → i < length ops
    → op ≡ get_or ops i op
    → place_of (take (i + 1) ops) name
    ≡ option_or (place_of (take i ops) name) (if bytes_eq op.name name then Some i else None)
places-more ops i op name less is =
    ap (λ l. place_of l name) (take_more ops i op less ∙ ap (λ y. take i ops ++ y ∷ []) (sym is))
    ∙ position-more (λ x. bytes_eq x.name name) (take i ops) op
    ∙ ap (λ n. option_or (place_of (take i ops) name)
    (if bytes_eq op.name name then Some n else None))
    (length-take-le i ops (omega (arith, less)))
