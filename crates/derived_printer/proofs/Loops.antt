-- Pieces that a loop lays down, with a sign before each but the first.
--
--   Went written faults start all now rest   of all marks, the rest is still to come
--   went-start, turn, went-end               a loop begins, goes on by one turn, and ends
--   turn-first, turn-second                  an error at the sign, or at the piece
use Rattle.std.proofs.Common.{◌≡◌, ℕ, ◌+◌, ◌<◌, ◌≤◌, ◌==◌, suc, Bool, true, false, length, map, drop, get_or, drop-cons, List, [], ◌∷◌, ◌++◌, refl, sym, ◌∙◌, ap, arith, append-nil, append_assoc, cond, Option, Ok, Err}
use Rattle.std.proofs.lemmas.Bool.{eqb-true}
use Rattle.std.proofs.Math.ListN.{drop_of_length-le}
use Rattle.std.specs.List.{zip}
use Rattle.attr_value.specs.declared.head.ValueId.{ValueId}
use Rattle.attr_value.specs.Ids.{at, kids_at}
use Rattle.attr_value.specs.Values.{Value}
use Rattle.ir_lexer.specs.declared.class.Class.{Class}
use Rattle.ir_lexer.specs.declared.class.Class.TheVariants as c
use Rattle.ir_lexer.specs.Spelling.{Text}
use Rattle.text_layout.specs.declared.error.PrintError.{PrintError}
use Rattle.text_layout.specs.declared.layout.Layout.{Layout}
use Rattle.text_layout.specs.Page.{Page}
use Rattle.derived_printer.specs.Parts.{separator, from_place, entry_of}
use Rattle.derived_printer.specs.Prints.{Prints}
use Rattle.derived_printer.specs.ValueMarks.{Marks, a_sign, between_signs, behind_signs, marks_of, kid_marks, value_marks, entry_marks}
use Rattle.derived_printer.proofs.Printing.{prints-nothing, step, stop, named}

-- of all marks that are laid down from the start, the rest is still to come
pub record Went {S : Type 0} (written : S → Option Text) (faults : S → ℕ) (start : Layout S Page)
    (all : Marks) (now : Layout S Page) (rest : Marks) : Type 0 where
  pub done : Marks
  pub is : all ≡ done ++ rest
  pub prints : Prints written faults start done (Ok tt) now

-- all is still to come
pub went-start : {S : Type 0} {written : S → Option Text} {faults : S → ℕ} {a : Layout S Page}
    {all : Marks} → Went written faults a all a all
went-start = record { done = []; is = refl; prints = prints-nothing }

module _ {S : Type 0} {written : S → Option Text} {faults : S → ℕ} {a b : Layout S Page}
    {all : Marks} where
  -- nothing is still to come
  pub went-end : {rest : Marks} → Went written faults a all b rest → rest ≡ []
      → Prints written faults a all (Ok tt) b
  went-end went none =
      named (went.is ∙ ap (λ t. went.done ++ t) none ∙ append-nil went.done) went.prints

  -- an error at the first of what is still to come
  pub turn-first : {c : Layout S Page} {rest : Marks} (p more : Marks) {e : PrintError}
      → Went written faults a all b rest → Prints written faults b p (Err e) c
      → rest ≡ p ++ more → Prints written faults a all (Err e) c
  turn-first p more went fails is =
      named (went.is ∙ ap (λ t. went.done ++ t) is)
      (step went.done (p ++ more) went.prints (stop p more fails))

  -- a sign and a piece were laid down
  pub turn : {c d : Layout S Page} {rest : Marks} (s p more : Marks) {u v : Unit {0}}
      → Went written faults a all b rest → Prints written faults b s (Ok u) c
      → Prints written faults c p (Ok v) d → rest ≡ s ++ (p ++ more)
      → Went written faults a all d more
  turn s p more went first second is = record {
    done = went.done ++ (s ++ p);
    is =
        went.is ∙ ap (λ t. went.done ++ t) (is ∙ sym (append_assoc s p more))
        ∙ sym (append_assoc went.done (s ++ p) more);
    prints = step went.done (s ++ p) went.prints (step s p first second);
  }

  -- an error at the piece behind a sign
  pub turn-second : {c d : Layout S Page} {rest : Marks} (s p more : Marks) {u : Unit {0}}
      {e : PrintError} → Went written faults a all b rest → Prints written faults b s (Ok u) c
      → Prints written faults c p (Err e) d → rest ≡ s ++ (p ++ more)
      → Prints written faults a all (Err e) d
  turn-second s p more went first fails is =
      named (went.is ∙ ap (λ t. went.done ++ t) is)
      (step went.done (s ++ (p ++ more)) went.prints (step s (p ++ more) first (stop p more fails)))

-- ---- pieces from a place on

later-place : (i j : ℕ) → j ≡ i + 1 → (j == 0) ≡ false
later-place i j next = go (j == 0) refl
  where
    go : (q : Bool) → (j == 0) ≡ q → q ≡ false
    go true e = absurd (let none : j ≡ 0 = eqb-true j 0 e in omega (arith, next, none))
    go false e = refl

-- the sign before the first of them, that piece, and the others
pub from-next : (class : Class) (i j : ℕ) (p : Marks) (ps : List Marks) → j ≡ i + 1
    → from_place class i (p ∷ ps) ≡ separator class i ++ (p ++ from_place class j ps)
from-next class i j p ps next = rw (later-place i j next) (go (i == 0))
  where
    go : (q : Bool)
        → cond q (between_signs class (p ∷ ps)) (behind_signs class (p ∷ ps))
        ≡ cond q [] (a_sign class) ++ (p ++ behind_signs class ps)
    go true = refl
    go false = refl

-- none
pub from-end : (class : Class) (i : ℕ) (ps : List Marks) → ps ≡ [] → from_place class i ps ≡ []
from-end class i ps none = rw none (go (i == 0))
  where
    go : (q : Bool) → cond q (between_signs class []) (behind_signs class []) ≡ []
    go true = refl
    go false = refl

-- ---- one turn of a loop over a list

-- an item and those behind it
pub drop-at : {A : Type 0} (xs : List A) (i j : ℕ) (x d : A) → i < length xs → j ≡ i + 1
    → x ≡ get_or xs i d → drop i xs ≡ x ∷ drop j xs
drop-at xs i j x d less next is =
    let same : j ≡ suc i = omega (arith, next) in
    drop-cons xs i d less ∙ ap (λ y. y ∷ drop (suc i) xs) (sym is)
    ∙ ap (λ k. x ∷ drop k xs) (sym same)

-- pieces that are made of the items of a list
pub next-at : {A : Type 0} (class : Class) (f : A → Marks) (xs : List A) (i j : ℕ) (x d : A)
    → i < length xs → j ≡ i + 1 → x ≡ get_or xs i d
    → from_place class i (map f (drop i xs))
    ≡ separator class i ++ (f x ++ from_place class j (map f (drop j xs)))
next-at class f xs i j x d less next is =
    ap (λ ys. from_place class i (map f ys)) (drop-at xs i j x d less next is)
    ∙ from-next class i j (f x) (map f (drop j xs)) next

-- what some kids give
abbrev kids_of : List Value → List ValueId → List Marks
kids_of vs ids = marks_of (kid_marks (kids_at vs ids))

-- what some entries give
abbrev entries_of : List Value → List Text → List ValueId → List Marks
entries_of vs keys ids = map entry_marks (zip keys (kid_marks (kids_at vs ids)))

-- kids
pub next-kid : (vs : List Value) (ids : List ValueId) (i j : ℕ) (x d : ValueId) → i < length ids
    → j ≡ i + 1 → x ≡ get_or ids i d
    → from_place c.Comma i (kids_of vs (drop i ids))
    ≡ separator c.Comma i
    ++ (value_marks (at vs x.0) ++ from_place c.Comma j (kids_of vs (drop j ids)))
next-kid vs ids i j x d less next is =
    ap (λ l. from_place c.Comma i (kids_of vs l)) (drop-at ids i j x d less next is)
    ∙ from-next c.Comma i j (value_marks (at vs x.0)) (kids_of vs (drop j ids)) next

-- no kids
pub end-kids : (vs : List Value) (ids : List ValueId) (i : ℕ) → length ids ≤ i
    → from_place c.Comma i (kids_of vs (drop i ids)) ≡ []
end-kids vs ids i le = from-end c.Comma i _ (ap (kids_of vs) (drop_of_length-le ids le))

-- the entries of a dictionary
pub next-entry : (vs : List Value) (keys : List Text) (ids : List ValueId) (i j : ℕ) (key : Text)
    (x : ValueId) (dk : Text) (dx : ValueId) → i < length keys → length ids ≡ length keys
    → j ≡ i + 1 → key ≡ get_or keys i dk → x ≡ get_or ids i dx
    → from_place c.Comma i (entries_of vs (drop i keys) (drop i ids))
    ≡ separator c.Comma i ++ (entry_marks (entry_of key (at vs x.0))
    ++ from_place c.Comma j (entries_of vs (drop j keys) (drop j ids)))
next-entry vs keys ids i j key x dk dx less count next is-key is-id =
    ap (λ l. from_place c.Comma i (entries_of vs l (drop i ids)))
    (drop-at keys i j key dk less next is-key)
    ∙ ap (λ l. from_place c.Comma i (entries_of vs (key ∷ drop j keys) l))
    (drop-at ids i j x dx (omega (arith, less, count)) next is-id)
    ∙ from-next c.Comma i j (entry_marks (entry_of key (at vs x.0)))
    (entries_of vs (drop j keys) (drop j ids)) next

-- no entries
pub end-entries : (vs : List Value) (keys : List Text) (ids : List ValueId) (i : ℕ)
    → length keys ≤ i
    → from_place c.Comma i (entries_of vs (drop i keys) (drop i ids)) ≡ []
end-entries vs keys ids i le =
    from-end c.Comma i _ (ap (λ l. entries_of vs l (drop i ids)) (drop_of_length-le keys le))
