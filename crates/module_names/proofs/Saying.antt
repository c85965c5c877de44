-- Calls that said notes, one after another. A loop keeps what was said of its first items.
use Rattle.std.proofs.Common.{◌≡◌, ℕ, suc, ◌+◌, ◌<◌, ◌≤◌, List, [], ◌∷◌, ◌++◌, length}
use Rattle.std.proofs.Common.{map, take, get_or, refl, ap, sym, ◌∙◌, subst, arith, append_assoc}
use Rattle.std.proofs.Common.{append-nil}
use Rattle.std.proofs.lemmas.List.{take_more, take_all, map-append, length-map, length-take}
use Rattle.std.specs.declared.result.Result.{Result}
use Rattle.std.specs.declared.result.Result.TheVariants.{Ok, Err}
use Rattle.std.specs.Result.{OnOk}
use Rattle.symbol_scopes.specs.ScopeMarks.{ScopeMark}
use Rattle.symbol_scopes.specs.ScopeMarks as mark
use Rattle.symbol_scopes.specs.Regions.{Notes, no_notes, note, in_region, marks, mark_of_note}
use Rattle.module_names.specs.Said.{Said, joined, all_joined, noted}
use Rattle.module_names.specs.ModuleNotes.{in_order}

-- the marks of notes behind others
pub marks-joined : (a b : Notes) → marks (joined a b) ≡ marks a ++ marks b
marks-joined no_notes b = refl
marks-joined (note x ns) b = ap (λ l. mark_of_note x ∷ l) (marks-joined ns b)
marks-joined (in_region inner ns) b =
    ap (λ l. mark.enters ∷ (marks inner ++ (mark.leaves ∷ l))) (marks-joined ns b)
    ∙ ap (λ l. mark.enters ∷ l)
    (sym (append_assoc (marks inner) (mark.leaves ∷ marks ns) (marks b)))

-- no call said nothing
pub said-nothing : (s : List ScopeMark) → Said s s no_notes
said-nothing s = record { is = sym (append-nil s) }

-- what was said first, and then
pub said-then : (a b c : List ScopeMark) (x y : Notes) → Said a b x → Said b c y
    → Said a c (joined x y)
said-then a b c x y p q = record {
  is = q.is ∙ ap (λ l. l ++ marks y) p.is ∙ append_assoc a (marks x) (marks y)
      ∙ ap (λ l. a ++ l) (sym (marks-joined x y));
}

-- notes with the same marks
said-marks : (a b : List ScopeMark) (x y : Notes) → marks x ≡ marks y → Said a b x → Said a b y
said-marks a b x y e p = record { is = p.is ∙ ap (λ l. a ++ l) e }

-- one item more
all-more : (ns : List Notes) (y : Notes)
    → marks (all_joined (ns ++ y ∷ [])) ≡ marks (joined (all_joined ns) y)
all-more [] y = marks-joined y no_notes ∙ append-nil (marks y)
all-more (n ∷ ns) y =
    marks-joined n (all_joined (ns ++ y ∷ []))
    ∙ ap (λ l. marks n ++ l) (all-more ns y ∙ marks-joined (all_joined ns) y)
    ∙ sym (append_assoc (marks n) (marks (all_joined ns)) (marks y))
    ∙ ap (λ l. l ++ marks y) (sym (marks-joined n (all_joined ns)))
    ∙ sym (marks-joined (joined n (all_joined ns)) y)

module _ {A : Type 0} (f : A → Notes) (xs : List A) where
  -- what is said of the items so far
  pub record SaidSome (a b : List ScopeMark) (i : ℕ) : Type 0 where
    pub some : Said a b (noted f (take i xs))

  -- of no item nothing is said
  pub said-none : (a : List ScopeMark) → SaidSome a a 0
  said-none a = record { some = said-nothing a }

  -- what is said of the next item comes behind
  pub said-more : (a b c : List ScopeMark) (i : ℕ) (x : A) → i < length xs → x ≡ get_or xs i x
      → SaidSome a b i → Said b c (f x) → SaidSome a c (i + 1)
  said-more a b c i x less is p q = record {
    some = said-marks a c (joined (noted f (take i xs)) (f x)) (noted f (take (i + 1) xs))
        (sym (ap (λ l. marks (all_joined l))
        (ap (map f) (take_more xs i x less ∙ ap (λ y. take i xs ++ y ∷ []) (sym is))
        ∙ map-append f (take i xs) (x ∷ []))
        ∙ all-more (map f (take i xs)) (f x)))
        (said-then a b c (noted f (take i xs)) (f x) p.some q);
  }

  -- what is said of all items
  pub said-all : (a b : List ScopeMark) (i : ℕ) → length xs ≤ i → SaidSome a b i
      → Said a b (noted f xs)
  said-all a b i le p = subst (λ l. Said a b (noted f l)) (take_all i xs le) p.some

-- ---- blocks, each with its number

-- one block more
order-more : (n : ℕ) (fs : List (ℕ → Notes)) (g : ℕ → Notes)
    → marks (in_order n (fs ++ g ∷ [])) ≡ marks (joined (in_order n fs) (g (n + length fs)))
order-more n [] g =
    marks-joined (g n) no_notes ∙ append-nil (marks (g n)) ∙ ap (λ m. marks (g m)) (omega arith)
order-more n (f ∷ fs) g =
    marks-joined (f n) (in_order (suc n) (fs ++ g ∷ []))
    ∙ ap (λ l. marks (f n) ++ l) (order-more (suc n) fs g
    ∙ marks-joined (in_order (suc n) fs) (g (suc n + length fs)))
    ∙ sym (append_assoc (marks (f n)) (marks (in_order (suc n) fs))
    (marks (g (suc n + length fs))))
    ∙ ap (λ l. l ++ marks (g (suc n + length fs))) (sym (marks-joined (f n) (in_order (suc n) fs)))
    ∙ sym (marks-joined (joined (f n) (in_order (suc n) fs)) (g (suc n + length fs)))
    ∙ ap (λ m. marks (joined (joined (f n) (in_order (suc n) fs)) (g m))) (omega arith)

module _ {A : Type 0} (f : A → ℕ → Notes) (xs : List A) where
  -- what is said of the blocks so far, by their number
  pub record SaidOrder (a b : List ScopeMark) (n i : ℕ) : Type 0 where
    pub some : Said a b (in_order 0 (map f (take i xs)))
    pub number : n ≡ i
    pub most : i ≤ length xs

  -- of no block nothing is said
  pub order-none : (a : List ScopeMark) → SaidOrder a a 0 0
  order-none a = record { some = said-nothing a; number = refl; most = omega arith }

  -- what is said of the next block comes behind
  pub order-step : (a b c : List ScopeMark) (n i : ℕ) (x : A) → i < length xs → x ≡ get_or xs i x
      → SaidOrder a b n i → Said b c (f x n) → SaidOrder a c (n + 1) (i + 1)
  order-step a b c n i x less is p q =
      let many : length (map f (take i xs)) ≡ i = length-map (take i xs) f ∙ short in
      record {
        some = said-marks a c (joined (in_order 0 (map f (take i xs))) (f x n))
            (in_order 0 (map f (take (i + 1) xs)))
            (sym (ap (λ l. marks (in_order 0 l))
            (ap (map f) (take_more xs i x less ∙ ap (λ y. take i xs ++ y ∷ []) (sym is))
            ∙ map-append f (take i xs) (x ∷ []))
            ∙ order-more 0 (map f (take i xs)) (f x)
            ∙ ap (λ m. marks (joined (in_order 0 (map f (take i xs))) (f x m)))
            (let k = p.number in omega arith)))
            (said-then a b c (in_order 0 (map f (take i xs))) (f x n) p.some q);
        number = let k = p.number in omega arith;
        most = omega arith;
      }
    where
      short : length (take i xs) ≡ i
      short = omega (arith, length-take i xs)

  -- what is said of all blocks
  pub order-all : (a b : List ScopeMark) (n i : ℕ) → length xs ≤ i → SaidOrder a b n i
      → Said a b (in_order 0 (map f xs))
  order-all a b n i le p = subst (λ l. Said a b (in_order 0 (map f l))) (take_all i xs le) p.some

-- a region is entered, its notes are said, and it is left
pub said-region : (a b c d : List ScopeMark) (inner : Notes) → b ≡ a ++ mark.enters ∷ []
    → Said b c inner → d ≡ c ++ mark.leaves ∷ [] → Said a d (in_region inner no_notes)
said-region a b c d inner enters inside leaves = record {
  is = leaves ∙ ap (λ l. l ++ mark.leaves ∷ []) (inside.is ∙ ap (λ l. l ++ marks inner) enters)
      ∙ append_assoc (a ++ mark.enters ∷ []) (marks inner) (mark.leaves ∷ [])
      ∙ append_assoc a (mark.enters ∷ []) (marks inner ++ mark.leaves ∷ []);
}

-- what holds where a call went well, by what the call says
pub on-ok : {A E P Q : Type 0} (r : Result A E) → (P → Q) → OnOk r P → OnOk r Q
on-ok (Ok x) f h = f h
on-ok (Err e) f h = tt

-- what is said of items that are made of others
pub noted-map : {A B : Type 0} (g : A → B) (f : B → Notes) (xs : List A)
    → noted f (map g xs) ≡ noted (λ x. f (g x)) xs
noted-map g f [] = refl
noted-map g f (x ∷ xs) = ap (joined (f (g x))) (noted-map g f xs)
