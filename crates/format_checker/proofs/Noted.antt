-- What a judgement knows of what was shown, thing by thing and element by element.
use Rattle.std.proofs.Common.{◌≡◌, ℕ, ◌+◌, ◌<◌, Bool, true, false, ◌||◌, List, [], ◌∷◌, ◌++◌, length, get_or, take, map, refl, sym, ◌∙◌, ap, subst, append_assoc, Option, Some, None, if◌then◌else◌, arith}
use Rattle.std.proofs.lemmas.List.{append-nil, take_more}
use Rattle.std.specs.List.{flat_map, range_with_len}
use Rattle.std.specs.Option.{option_or}
use Rattle.std.proofs.lemmas.Grind.{flat_map-append}
use Rattle.std.proofs.lemmas.List.FromFn.{map-range_with_len_more}
use Rattle.std.proofs.lemmas.List.Folds.{list_any-append}
use Rattle.format_checker.specs.declared.shown.Shown.{Shown}
use Rattle.format_checker.specs.declared.shown.Thing.{Thing}
use Rattle.format_checker.specs.declared.shown.Thing.TheVariants as thing
use Rattle.format_checker.specs.Shown.{Showing, showing, same_thing, is_among, repeated_behind}
use Rattle.format_checker.specs.Tables.{holds, Saw, Notes}

map-both : {A B : Type 0} (f : A → B) (xs ys : List A) → map f (xs ++ ys) ≡ map f xs ++ map f ys
map-both f [] ys = refl
map-both f (x ∷ xs) ys = ap (λ l. f x ∷ l) (map-both f xs ys)

or-last : (a b : Bool) → (a || (b || false)) ≡ (b || a)
or-last true true = refl
or-last true false = refl
or-last false true = refl
or-last false false = refl

-- among one more
among-more : (o : Thing) (before : List Showing) (s : Showing)
    → is_among o (before ++ s ∷ []) ≡ (same_thing o s.thing || is_among o before)
among-more o before s =
    list_any-append (λ (x : Showing). same_thing o x.thing) before (s ∷ [])
    ∙ or-last (is_among o before) (same_thing o s.thing)

-- the first that is repeated, with one showing more
repeated-more : (shown more : List Showing) (s : Showing)
    → repeated_behind shown (more ++ s ∷ [])
    ≡ option_or (repeated_behind shown more)
    (if is_among s.thing (shown ++ more) then Some s.at else None)
repeated-more shown [] s =
    ap (λ l. if is_among s.thing l then Some s.at else None) (sym (append-nil shown))
repeated-more shown (x ∷ more) s =
    go (is_among x.thing shown) (repeated-more (shown ++ x ∷ []) more s)
  where
    go : (b : Bool)
        → repeated_behind (shown ++ x ∷ []) (more ++ s ∷ [])
        ≡ option_or (repeated_behind (shown ++ x ∷ []) more)
        (if is_among s.thing ((shown ++ x ∷ []) ++ more) then Some s.at else None)
        → (if b then Some x.at else repeated_behind (shown ++ x ∷ []) (more ++ s ∷ []))
        ≡ option_or (if b then Some x.at else repeated_behind (shown ++ x ∷ []) more)
        (if is_among s.thing (shown ++ x ∷ more) then Some s.at else None)
    go true step = refl
    go false step =
        step
        ∙ ap (λ l. option_or (repeated_behind (shown ++ x ∷ []) more)
        (if is_among s.thing l then Some s.at else None)) (append_assoc shown (x ∷ []) more)

holds-kept : (s : Shown) (f : Option ℕ) (t : Thing) → holds (record s { repeated = f }) t ≡ holds s t
holds-kept s f (thing.Operand i) = refl
holds-kept s f (thing.Attr i) = refl
holds-kept s f (thing.Region i) = refl
holds-kept s f (thing.Successor i) = refl
holds-kept s f (thing.OperandTypes i) = refl
holds-kept s f (thing.ResultTypes i) = refl
holds-kept s f thing.Dict = refl

-- one thing more is noted
pub note-one : (at : ℕ) (t : Thing) (old new : Shown) (f : Option ℕ)
    → ((o : Thing) → holds new o ≡ (same_thing o t || holds old o))
    → f ≡ option_or old.repeated (if holds old t then Some at else None)
    → Notes (showing at t ∷ []) old (record new { repeated = f })
note-one at t old new f adds first = record {
  sees = λ before saw. record {
    knows = λ o.
        holds-kept new f o
        ∙ adds o
        ∙ ap (λ b. same_thing o t || b) (saw.knows o)
        ∙ sym (among-more o before (showing at t));
    first =
        first
        ∙ ap (λ r. option_or r (if holds old t then Some at else None)) saw.first
        ∙ ap (λ b. option_or (repeated_behind [] before) (if b then Some at else None)) (saw.knows t)
        ∙ sym (repeated-more [] before (showing at t));
  };
}

-- nothing more
pub notes-none : (s : Shown) → Notes [] s s
notes-none s = record {
  sees = λ before saw. subst (λ l. Saw l s) (sym (append-nil before)) saw;
}

-- one after the other
pub notes-then : (xs ys : List Showing) (r s t : Shown) → Notes xs r s → Notes ys s t
    → Notes (xs ++ ys) r t
notes-then xs ys r s t first next = record {
  sees = λ before saw.
      subst (λ l. Saw l t) (append_assoc before xs ys) (next.sees (before ++ xs) (first.sees before saw));
}

-- the same, of things of one element
pub notes-map : (at : ℕ) (xs ys : List Thing) (r s t : Shown) → Notes (map (showing at) xs) r s
    → Notes (map (showing at) ys) s t → Notes (map (showing at) (xs ++ ys)) r t
notes-map at xs ys r s t first next =
    subst (λ l. Notes l r t) (sym (map-both (showing at) xs ys))
    (notes-then (map (showing at) xs) (map (showing at) ys) r s t first next)

-- the things of one number more
pub notes-number : (at n : ℕ) (f : ℕ → Thing) (start old new : Shown)
    → Notes (map (showing at) (map f (range_with_len 0 n))) start old
    → Notes (showing at (f n) ∷ []) old new
    → Notes (map (showing at) (map f (range_with_len 0 (n + 1)))) start new
notes-number at n f start old new so_far step =
    let next : 0 + n ≡ n = omega arith in
    subst (λ l. Notes (map (showing at) l) start new) (sym (map-range_with_len_more f 0 n n next))
    (notes-map at (map f (range_with_len 0 n)) (f n ∷ []) start old new so_far step)

pub flat_map-more : {A B : Type 0} (f : A → List B) (xs : List A) (i : ℕ) (x : A)
    → i < length xs → x ≡ get_or xs i x
    → flat_map f (take i xs) ++ f x ≡ flat_map f (take (i + 1) xs)
flat_map-more f xs i x less is =
    ap (λ l. flat_map f (take i xs) ++ l) (sym (append-nil (f x)))
    ∙ sym (flat_map-append f (take i xs) (x ∷ []))
    ∙ ap (λ y. flat_map f (take i xs ++ y ∷ [])) is
    ∙ ap (flat_map f) (sym (take_more xs i x less))

-- what one item more shows
pub notes-more : {A : Type 0} (f : A → List Showing) (xs : List A) (i : ℕ) (x : A)
    (start old new : Shown) → i < length xs → x ≡ get_or xs i x
    → Notes (flat_map f (take i xs)) start old → Notes (f x) old new
    → Notes (flat_map f (take (i + 1) xs)) start new
notes-more f xs i x start old new less is so_far step =
    subst (λ l. Notes l start new) (flat_map-more f xs i x less is)
    (notes-then (flat_map f (take i xs)) (f x) start old new so_far step)

-- the same, of a format from its front on
pub saw-more : {A : Type 0} (f : A → List Showing) (xs : List A) (i : ℕ) (x : A)
    (old new : Shown) → i < length xs → x ≡ get_or xs i x
    → Saw (flat_map f (take i xs)) old → Notes (f x) old new
    → Saw (flat_map f (take (i + 1) xs)) new
saw-more f xs i x old new less is so_far step =
    subst (λ l. Saw l new) (flat_map-more f xs i x less is) (step.sees (flat_map f (take i xs)) so_far)
