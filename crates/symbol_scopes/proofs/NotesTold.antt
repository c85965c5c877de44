-- What is told of each mark of notes, and region by region.
use Rattle.std.proofs.Common.{◌≡◌, ℕ, suc, ◌+◌, ◌<◌, ◌≤◌, ◌⊎◌, inl, inr, List, [], ◌∷◌, ◌++◌, length, refl, ap, sym, ◌∙◌, subst, arith, length-append, append_assoc, append-nil}
use Rattle.std.specs.declared.option.Option.{Option}
use Rattle.std.specs.declared.option.Option.TheVariants.{Some, None}
use Rattle.symbol_scopes.specs.declared.slots.FoundBinding.{FoundBinding}
use Rattle.symbol_scopes.specs.declared.call.NameKind.{NameKind}
use Rattle.symbol_scopes.specs.ScopeMarks.{Name, ScopeMark, Binding, Standing, passed, after, along, top, standing, bindings, bindings_of}
use Rattle.symbol_scopes.specs.ScopeMarks as mark
use Rattle.symbol_scopes.specs.Meanings.{first_from, first_in, or_else}
use Rattle.symbol_scopes.specs.Regions.{Note, Notes, no_notes, note, in_region, mark_of_note, marks, RegionScope, known_of, count_of, count, own, found, told, told_in}
use Rattle.symbol_scopes.proofs.NoteBindings.{Defines, nothing, one, at, regions, step-note, after-notes, told_bindings, quiet-in, quiet-out, bindings-split, bindings-note, defines-note, as-many, counted, All, all-more, all-so, Here, all-here, seen, first-none, first-behind, own_found}

abbrev pub judged : {A : Type 0} → NameKind → (List ℕ → ℕ → ScopeMark → List A) → Standing → ℕ → List ScopeMark → List A
judged k f s n [] = []
judged k f s n (m ∷ ms) =
    f s.round n m ++ judged k f (passed s m) (n + length (bindings_of k s.round m)) ms

judged-append : {A : Type 0} (k : NameKind) (f : List ℕ → ℕ → ScopeMark → List A) (s : Standing) (n : ℕ) (xs ys : List ScopeMark)
    → judged k f s n (xs ++ ys)
    ≡ judged k f s n xs ++ judged k f (after s xs) (n + length (along (bindings_of k) s xs)) ys
judged-append k f s n [] ys = ap (λ m. judged k f s m ys) (omega arith)
judged-append k f s n (x ∷ xs) ys =
    let here = length (bindings_of k s.round x) in
    let sum = length-append (bindings_of k s.round x) (along (bindings_of k) (passed s x) xs) in
    ap (λ l. f s.round n x ++ l) (judged-append k f (passed s x) (n + here) xs ys)
    ∙ sym (append_assoc (f s.round n x) (judged k f (passed s x) (n + here) xs)
    (judged k f (after (passed s x) xs) (n + here + length (along (bindings_of k) (passed s x) xs)) ys))
    ∙ ap (λ m. (f s.round n x ++ judged k f (passed s x) (n + here) xs) ++ judged k f (after (passed s x) xs) m ys)
    (omega arith)

pub along-judged : {A : Type 0} (k : NameKind) (h : List ℕ → ScopeMark → List A) (s : Standing) (n : ℕ) (ms : List ScopeMark)
    → along h s ms ≡ judged k (λ round i m. h round m) s n ms
along-judged k h s n [] = refl
along-judged k h s n (m ∷ ms) =
    ap (λ l. h s.round m ++ l) (along-judged k h (passed s m) (n + length (bindings_of k s.round m)) ms)

-- in each region that is open, the definitions of the text are those of the notes
abbrev SameIn : List Binding → ℕ → RegionScope → Type 0
SameIn ds r s = (x : Name) → seen (first_in ds r x) ≡ found s x

abbrev pub Agree : List Binding → List ℕ → List RegionScope → Type 0
Agree ds [] [] = Unit {0}
Agree ds (r ∷ round) (s ∷ ss) = SameIn ds r s × Agree ds round ss
Agree ds [] (s ∷ ss) = ⊥
Agree ds (r ∷ round) [] = ⊥

-- a region's definitions among those of the whole text
region-found : (k : NameKind) (ds : List Binding) (e q : ℕ) (round : List ℕ) (n : ℕ) (ns : Notes)
    (before later : List Binding) → q ≤ e → ds ≡ before ++ (told_bindings k e q round ns ++ later) → n ≡ length before
    → All (λ r. r ≡ q → ⊥) before → All (λ r. r ≡ q → ⊥) later → SameIn ds q (own k n ns)
region-found k ds e q round n ns before later le cut is none none_later = λ x.
    ap (λ l. seen (first_in l q x)) cut
    ∙ ap seen (first-behind 0 q x before (told_bindings k e q round ns ++ later))
    ∙ ap (λ o. seen (or_else o (first_from (0 + length before) (told_bindings k e q round ns ++ later) q x)))
    (first-none 0 q x before none)
    ∙ ap (λ m. seen (first_from m (told_bindings k e q round ns ++ later) q x)) (omega arith)
    ∙ ap seen (first-behind n q x (told_bindings k e q round ns) later)
    ∙ ap (λ o. seen (or_else (first_from n (told_bindings k e q round ns) q x) o))
    (first-none (n + length (told_bindings k e q round ns)) q x later none_later)
    ∙ ap seen (else-none (first_from n (told_bindings k e q round ns) q x))
    ∙ own_found k e q round n x ns le
  where
    else-none : (o : Option FoundBinding) → or_else o None ≡ o
    else-none None = refl
    else-none (Some f) = refl

module _ {A : Type 0} (k : NameKind) (ds : List Binding) (f : List ℕ → ℕ → ScopeMark → List A) (g : List RegionScope → ℕ → Note → List A)
    (entering : (round : List ℕ) (n : ℕ) → f round n mark.enters ≡ [])
    (leaving : (round : List ℕ) (n : ℕ) → f round n mark.leaves ≡ [])
    (same : (q : ℕ) (round : List ℕ) (s : RegionScope) (ss : List RegionScope) (n : ℕ) (x : Note)
    → Agree ds (q ∷ round) (s ∷ ss) → f (q ∷ round) n (mark_of_note x) ≡ g (s ∷ ss) n x) where
  region-told : (e q : ℕ) (round : List ℕ) (n : ℕ) (inner ns : Notes)
      → judged k f (at e q round) n (marks (in_region inner ns))
      ≡ judged k f (at (e + 1) (e + 1) (q ∷ round)) n (marks inner)
      ++ judged k f (at (e + 1 + regions inner) q round) (n + count k inner) (marks ns)
  region-told e q round n inner ns =
      let inside = at (e + 1) (e + 1) (q ∷ round) in
      let there = at (e + 1 + regions inner) (e + 1) (q ∷ round) in
      let rest = marks inner ++ (mark.leaves ∷ marks ns) in
      let none = ap length (quiet-in k (q ∷ round)) in
      let none_out = ap length (quiet-out k ((e + 1) ∷ q ∷ round)) in
      let many = counted k (e + 1) (e + 1) (q ∷ round) inner in
      ap (λ l. l ++ judged k f inside (n + length (bindings_of k (q ∷ round) mark.enters)) rest) (entering (q ∷ round) n)
      ∙ ap (λ m. judged k f inside m rest) (omega arith)
      ∙ judged-append k f inside n (marks inner) (mark.leaves ∷ marks ns)
      ∙ ap (λ s. judged k f inside n (marks inner) ++ judged k f s (n + length (along (bindings_of k) inside (marks inner))) (mark.leaves ∷ marks ns))
      (after-notes (e + 1) (e + 1) (q ∷ round) inner)
      ∙ ap (λ l. judged k f inside n (marks inner) ++ (l ++ judged k f (passed there mark.leaves)
      (n + length (along (bindings_of k) inside (marks inner)) + length (bindings_of k ((e + 1) ∷ q ∷ round) mark.leaves)) (marks ns)))
      (leaving ((e + 1) ∷ q ∷ round) (n + length (along (bindings_of k) inside (marks inner))))
      ∙ ap (λ m. judged k f inside n (marks inner) ++ judged k f (at (e + 1 + regions inner) q round) m (marks ns)) (omega arith)

  -- Of the text's definitions, `before` stand before the notes and `later` behind them.
  pub walk : (e q : ℕ) (round : List ℕ) (s : RegionScope) (ss : List RegionScope) (n : ℕ) (ns : Notes) (before later : List Binding)
      → q ≤ e → Agree ds (q ∷ round) (s ∷ ss) → ds ≡ before ++ (told_bindings k e q round ns ++ later) → n ≡ length before
      → All (λ r. r ≤ e) before → All (λ r. (r ≤ e) ⊎ (e + regions ns < r)) later
      → judged k f (at e q round) n (marks ns) ≡ told k g (s ∷ ss) n ns
  walk e q round s ss n no_notes before later le agree cut is low high = refl
  walk e q round s ss n (note x ns) before later le agree cut is low high =
      let S = bindings_of k (q ∷ round) (mark_of_note x) in
      let T = told_bindings k e q round ns in
      let many = as-many k q round x in
      let sum = length-append before S in
      ap (λ t. f (q ∷ round) n (mark_of_note x) ++ judged k f t (n + length S) (marks ns)) (step-note (at e q round) x)
      ∙ ap (λ l. l ++ judged k f (at e q round) (n + length S) (marks ns)) (same q round s ss n x agree)
      ∙ ap (λ m. g (s ∷ ss) n x ++ judged k f (at e q round) (n + m) (marks ns)) many
      ∙ ap (λ l. g (s ∷ ss) n x ++ l)
      (walk e q round s ss (n + count_of k x) ns (before ++ S) later le agree
      (cut ∙ ap (λ l. before ++ (l ++ later)) (bindings-note k e q round x ns)
      ∙ ap (λ l. before ++ l) (append_assoc S T later)
      ∙ sym (append_assoc before S (T ++ later)))
      (omega arith)
      (all-more (λ r. r ≤ e) before S low (all-own (defines-note k 0 q round x)))
      high)
    where
      all-own : Defines q 0 (bindings_of k (q ∷ round) (mark_of_note x)) (known_of k 0 x)
          → All (λ r. r ≤ e) (bindings_of k (q ∷ round) (mark_of_note x))
      all-own (nothing a b) = subst (All (λ r. r ≤ e)) (sym a) tt
      all-own (one d r a b) = subst (All (λ r. r ≤ e)) (sym a) (omega arith, tt)
  walk e q round s ss n (in_region inner ns) before later le agree cut is low high =
      let Fi = told_bindings k (e + 1) (e + 1) (q ∷ round) inner in
      let Fr = told_bindings k (e + 1 + regions inner) q round ns in
      let here_inner = all-here k (e + 1) (e + 1) (q ∷ round) inner in
      let here_rest = all-here k (e + 1 + regions inner) q round ns in
      let split : ds ≡ before ++ (Fi ++ (Fr ++ later)) =
      cut ∙ ap (λ l. before ++ (l ++ later)) (bindings-split k e q round inner ns)
      ∙ ap (λ l. before ++ l) (append_assoc Fi Fr later) in
      let many = counted k (e + 1) (e + 1) (q ∷ round) inner in
      let sum = length-append before Fi in
      let found_in : SameIn ds (e + 1) (own k n inner) =
      region-found k ds (e + 1) (e + 1) (q ∷ round) n inner before (Fr ++ later) (omega arith) split is
      (all-so (λ r. r ≤ e) (λ r. r ≡ e + 1 → ⊥) (λ r h is. absurd (omega arith)) before low)
      (all-more (λ r. r ≡ e + 1 → ⊥) Fr later
      (all-so (Here q (e + 1 + regions inner) (e + 1 + regions inner + regions ns)) (λ r. r ≡ e + 1 → ⊥) rest-other Fr here_rest)
      (all-so (λ r. (r ≤ e) ⊎ (e + suc (regions inner + regions ns) < r)) (λ r. r ≡ e + 1 → ⊥) later-other later high)) in
      region-told e q round n inner ns
      ∙ ap (λ l. l ++ judged k f (at (e + 1 + regions inner) q round) (n + count k inner) (marks ns))
      (walk (e + 1) (e + 1) (q ∷ round) (own k n inner) (s ∷ ss) n inner before (Fr ++ later) (omega arith)
      (found_in, agree) split is
      (all-so (λ r. r ≤ e) (λ r. r ≤ e + 1) (λ r h. omega arith) before low)
      (all-more (λ r. (r ≤ e + 1) ⊎ (e + 1 + regions inner < r)) Fr later
      (all-so (Here q (e + 1 + regions inner) (e + 1 + regions inner + regions ns))
      (λ r. (r ≤ e + 1) ⊎ (e + 1 + regions inner < r)) rest-apart Fr here_rest)
      (all-so (λ r. (r ≤ e) ⊎ (e + suc (regions inner + regions ns) < r))
      (λ r. (r ≤ e + 1) ⊎ (e + 1 + regions inner < r)) later-apart later high)))
      ∙ ap (λ l. told k g (own k n inner ∷ s ∷ ss) n inner ++ l)
      (walk (e + 1 + regions inner) q round s ss (n + count k inner) ns (before ++ Fi) later (omega arith) agree
      (split ∙ sym (append_assoc before Fi (Fr ++ later)))
      (omega arith)
      (all-more (λ r. r ≤ e + 1 + regions inner) before Fi
      (all-so (λ r. r ≤ e) (λ r. r ≤ e + 1 + regions inner) (λ r h. omega arith) before low)
      (all-so (Here (e + 1) (e + 1) (e + 1 + regions inner)) (λ r. r ≤ e + 1 + regions inner) inner-low Fi here_inner))
      (all-so (λ r. (r ≤ e) ⊎ (e + suc (regions inner + regions ns) < r))
      (λ r. (r ≤ e + 1 + regions inner) ⊎ (e + 1 + regions inner + regions ns < r)) later-high later high))
    where
      rest-other : (r : ℕ) → Here q (e + 1 + regions inner) (e + 1 + regions inner + regions ns) r → r ≡ e + 1 → ⊥
      rest-other r (inl a) is = absurd (omega arith)
      rest-other r (inr h) is = let a = h.0 in absurd (omega arith)

      later-other : (r : ℕ) → (r ≤ e) ⊎ (e + suc (regions inner + regions ns) < r) → r ≡ e + 1 → ⊥
      later-other r (inl a) is = absurd (omega arith)
      later-other r (inr a) is = absurd (omega arith)

      rest-apart : (r : ℕ) → Here q (e + 1 + regions inner) (e + 1 + regions inner + regions ns) r
          → (r ≤ e + 1) ⊎ (e + 1 + regions inner < r)
      rest-apart r (inl a) = inl (omega arith)
      rest-apart r (inr h) = let a = h.0 in inr (omega arith)

      later-apart : (r : ℕ) → (r ≤ e) ⊎ (e + suc (regions inner + regions ns) < r)
          → (r ≤ e + 1) ⊎ (e + 1 + regions inner < r)
      later-apart r (inl a) = inl (omega arith)
      later-apart r (inr a) = inr (omega arith)

      inner-low : (r : ℕ) → Here (e + 1) (e + 1) (e + 1 + regions inner) r → r ≤ e + 1 + regions inner
      inner-low r (inl a) = omega arith
      inner-low r (inr h) = let a = h.1 in omega arith

      later-high : (r : ℕ) → (r ≤ e) ⊎ (e + suc (regions inner + regions ns) < r)
          → (r ≤ e + 1 + regions inner) ⊎ (e + 1 + regions inner + regions ns < r)
      later-high r (inl a) = inl (omega arith)
      later-high r (inr a) = inr (omega arith)

pub whole : {A : Type 0} (k : NameKind) (f : List ℕ → ℕ → ScopeMark → List A) (g : List RegionScope → ℕ → Note → List A) (ns : Notes)
    → ((round : List ℕ) (n : ℕ) → f round n mark.enters ≡ []) → ((round : List ℕ) (n : ℕ) → f round n mark.leaves ≡ [])
    → ((q : ℕ) (round : List ℕ) (s : RegionScope) (ss : List RegionScope) (n : ℕ) (x : Note)
    → Agree (bindings k (marks ns)) (q ∷ round) (s ∷ ss) → f (q ∷ round) n (mark_of_note x) ≡ g (s ∷ ss) n x)
    → judged k f top 0 (marks ns) ≡ told_in k g ns
whole k f g ns entering leaving same =
    walk k (bindings k (marks ns)) f g entering leaving same 0 0 [] (own k 0 ns) [] 0 ns [] []
    (omega arith) ((λ x. own_found k 0 0 [] 0 x ns (omega arith)), tt)
    (sym (append-nil (bindings k (marks ns)))) refl tt tt
