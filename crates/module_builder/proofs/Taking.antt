-- Rows in the making: some are made, and then others.
--
--   uses-joined, leads-joined     the uses and successors of operations, and of others behind them
--   rows-joined, rows-operands, rows-leads      rows, and others behind them
--   made-none, made-then          no row is made at the beginning; some rows, and then others
--   made-one                      a row is made
--   can-next                      what is left is enough for the next operation
--   made-more, made-all           the rows of so many are made, and of all
use Rattle.std.proofs.Common.{◌≡◌, ℕ, suc, ◌+◌, ◌<◌, ◌≤◌, List, [], ◌∷◌, ◌++◌, length, map, take}
use Rattle.std.proofs.Common.{drop, get_or, refl, ap, sym, ◌∙◌, append_assoc, append-nil, arith}
use Rattle.std.proofs.Common.{subst, length-append, add-one}
use Rattle.std.proofs.lemmas.List.{drop_all, map-append, take_more, take_all, take-append-drop}
use Rattle.std.specs.List.{slice_get}
use Rattle.std.specs.declared.result.Result.{Result}
use Rattle.std.specs.declared.result.Result.TheVariants.{Ok, Err}
use Rattle.std.specs.Result.{IfOk}
use Rattle.std.specs.declared.option.Option.TheVariants.{Some}
use Rattle.std.specs.Vec.Iter.{into_iter_items}
use Rattle.generic_syntax.specs.declared.module_cst.FormCst.{out-FormCst}
use Rattle.generic_syntax.specs.declared.module_cst.OpCst.{OpCst, out-OpCst}
use Rattle.module_builder.specs.declared.make.Making.{Making}
use Rattle.module_builder.specs.declared.row.Row.{Row}
use Rattle.module_builder.specs.Built.{value_number}
use Rattle.module_builder.specs.Fit.{uses_in, uses_of, successors_in, successors_of}
use Rattle.module_builder.specs.Making.{MeanBelow, Made, CanMake, AllMade}
use Rattle.module_builder.specs.Rows.{IsRow, AreRows, operands_of, successors_of_rows}
use Rattle.module_builder.proofs.Trees.{ops-of-joined}
use Rattle.symbol_scopes.proofs.Lists.{drop-here}
use Rattle.module_faults.specs.declared.ids.OpIds.{OpIds}
use Rattle.module_faults.specs.declared.standing.Standing.{Standing as Listed}
use Rattle.module_faults.specs.Listed.{seen}
use Rattle.module_faults.specs.Standings.{ops_of}
use Rattle.symbol_scopes.specs.Uses.{UseMeanings}

-- ---- lists

-- the items from one on that is there
pub got-here : {A : Type 0} (xs : List A) (i : ℕ) (x : A) → slice_get xs i ≡ Some x
    → drop i xs ≡ x ∷ drop (i + 1) xs
got-here xs i x is = drop-here xs i x is ∙ ap (λ k. x ∷ drop k xs) (sym (add-one i))

-- nothing is left
none-left : {A : Type 0} (xs ys zs : List A) → xs ≡ ys ++ zs → length zs ≡ 0 → xs ≡ ys
none-left xs ys [] is none = is ∙ append-nil ys
none-left xs ys (z ∷ zs) is none = absurd (let h : suc (length zs) ≡ 0 = none in omega arith)

-- the uses of operations, and of others behind them
pub uses-joined : (xs ys : List OpCst) → uses_of (xs ++ ys) ≡ uses_of xs ++ uses_of ys
uses-joined [] ys = refl
uses-joined (x ∷ xs) ys =
    ap (λ l. uses_in (out-FormCst (out-OpCst x).form) ++ l) (uses-joined xs ys)
    ∙ sym (append_assoc (uses_in (out-FormCst (out-OpCst x).form)) (uses_of xs) (uses_of ys))

pub leads-joined : (xs ys : List OpCst)
    → successors_of (xs ++ ys) ≡ successors_of xs ++ successors_of ys
leads-joined [] ys = refl
leads-joined (x ∷ xs) ys =
    ap (λ l. successors_in (out-FormCst (out-OpCst x).form) ++ l) (leads-joined xs ys)
    ∙ sym (append_assoc (successors_in (out-FormCst (out-OpCst x).form)) (successors_of xs)
    (successors_of ys))

-- ---- rows

pub rows-joined : (xs ys : List OpCst) (is js : List OpIds) (rs ss : List Row)
    → AreRows xs is rs → AreRows ys js ss → AreRows (xs ++ ys) (is ++ js) (rs ++ ss)
rows-joined [] ys [] js [] ss p q = q
rows-joined [] ys [] js (r ∷ rs) ss p q = absurd p
rows-joined [] ys (i ∷ is) js rs ss p q = absurd p
rows-joined (x ∷ xs) ys [] js rs ss p q = absurd p
rows-joined (x ∷ xs) ys (i ∷ is) js [] ss p q = absurd p
rows-joined (x ∷ xs) ys (i ∷ is) js (r ∷ rs) ss p q =
    (p.0, rows-joined xs ys is js rs ss p.1 q)

pub rows-long : (xs : List OpCst) (is : List OpIds) (rs : List Row) → AreRows xs is rs
    → length is ≡ length xs
rows-long [] [] [] p = refl
rows-long [] [] (r ∷ rs) p = absurd p
rows-long [] (i ∷ is) rs p = absurd p
rows-long (x ∷ xs) [] rs p = absurd p
rows-long (x ∷ xs) (i ∷ is) [] p = absurd p
rows-long (x ∷ xs) (i ∷ is) (r ∷ rs) p = ap suc (rows-long xs is rs p.1)

pub rows-operands : (rs ss : List Row) → operands_of (rs ++ ss) ≡ operands_of rs ++ operands_of ss
rows-operands [] ss = refl
rows-operands (r ∷ rs) ss =
    ap (λ l. r.row.operands.items ++ l) (rows-operands rs ss)
    ∙ sym (append_assoc r.row.operands.items (operands_of rs) (operands_of ss))

pub rows-leads : (rs ss : List Row)
    → successors_of_rows (rs ++ ss) ≡ successors_of_rows rs ++ successors_of_rows ss
rows-leads [] ss = refl
rows-leads (r ∷ rs) ss =
    ap (λ l. r.row.successors.items ++ l) (rows-leads rs ss)
    ∙ sym (append_assoc r.row.successors.items (successors_of_rows rs) (successors_of_rows ss))

-- some things were taken, and then others
through : {A : Type 0} (a b c : List A) (end mid begun : List A) → c ≡ a ++ b → b ++ end ≡ mid
    → a ++ mid ≡ begun → c ++ end ≡ begun
through a b c end mid begun joined second first =
    ap (λ l. l ++ end) joined ∙ append_assoc a b end ∙ ap (λ l. a ++ l) second ∙ first

-- ---- over a list of what stands

-- the operations among so many
abbrev pub ops_so_far : List Listed → ℕ → List OpCst
ops_so_far list i = ops_of (map seen (take i list))

-- one more
far-more : (list : List Listed) (i : ℕ) (s : Listed) → i < length list → s ≡ get_or list i s
    → ops_so_far list i ++ ops_of (seen s ∷ []) ≡ ops_so_far list (i + 1)
far-more list i s less is =
    sym (ap (λ l. ops_of (map seen l)) (take_more list i s less
    ∙ ap (λ x. take i list ++ x ∷ []) (sym is))
    ∙ ap ops_of (map-append seen (take i list) (s ∷ []))
    ∙ ops-of-joined (map seen (take i list)) (seen s ∷ []))

-- all of them
far-whole : (list : List Listed) (i : ℕ)
    → ops_of (map seen list) ≡ ops_so_far list i ++ ops_of (map seen (drop i list))
far-whole list i =
    ap (λ l. ops_of (map seen l)) (sym (take-append-drop i list))
    ∙ ap ops_of (map-append seen (take i list) (drop i list))
    ∙ ops-of-joined (map seen (take i list)) (map seen (drop i list))

-- ---- making

module _ (meant : UseMeanings) (firsts : List ℕ) where
  pub made-none : (m : Making) → Made m m [] meant firsts
  made-none m = record {
    taken = [];
    made = [];
    ids = refl;
    rows = sym (append-nil m.rows.items);
    are = tt;
    operands = refl;
    uses = omega arith;
    leads = refl;
    successors = omega arith;
  }

  pub made-then : (m mid end : Making) (xs ys : List OpCst) → Made m mid xs meant firsts
      → Made mid end ys meant firsts → Made m end (xs ++ ys) meant firsts
  made-then m mid end xs ys p q = record {
    taken = p.taken ++ q.taken;
    made = p.made ++ q.made;
    ids = p.ids ∙ ap (λ l. p.taken ++ l) q.ids
        ∙ sym (append_assoc p.taken q.taken (into_iter_items end.ids));
    rows = q.rows ∙ ap (λ l. l ++ q.made) p.rows ∙ append_assoc m.rows.items p.made q.made;
    are = rows-joined xs ys p.taken q.taken p.made q.made p.are q.are;
    operands = through (operands_of p.made) (operands_of q.made) (operands_of (p.made ++ q.made))
        (map (value_number firsts) (drop end.uses meant.values))
        (map (value_number firsts) (drop mid.uses meant.values))
        (map (value_number firsts) (drop m.uses meant.values)) (rows-operands p.made q.made)
        q.operands p.operands;
    uses =
        let first = p.uses in
        let second = q.uses in
        let both = ap length (uses-joined xs ys) in
        let long = length-append (uses_of xs) (uses_of ys) in
        omega arith;
    leads = through (successors_of_rows p.made) (successors_of_rows q.made)
        (successors_of_rows (p.made ++ q.made)) (drop end.successors meant.blocks)
        (drop mid.successors meant.blocks) (drop m.successors meant.blocks)
        (rows-leads p.made q.made) q.leads p.leads;
    successors =
        let first = p.successors in
        let second = q.successors in
        let both = ap length (leads-joined xs ys) in
        let long = length-append (successors_of xs) (successors_of ys) in
        omega arith;
  }

  -- a row is made of the ids that come next
  pub made-one : (m end : Making) (c : OpCst) (ids : OpIds) (row : Row) → IsRow c ids row
      → into_iter_items m.ids ≡ ids ∷ into_iter_items end.ids
      → end.rows.items ≡ m.rows.items ++ row ∷ []
      → row.row.operands.items ++ map (value_number firsts) (drop end.uses meant.values)
      ≡ map (value_number firsts) (drop m.uses meant.values)
      → end.uses ≡ m.uses + length (uses_in (out-FormCst (out-OpCst c).form))
      → row.row.successors.items ++ drop end.successors meant.blocks
      ≡ drop m.successors meant.blocks
      → end.successors ≡ m.successors + length (successors_in (out-FormCst (out-OpCst c).form))
      → Made m end (c ∷ []) meant firsts
  made-one m end c ids row is taken made operands uses leads successors = record {
    taken = ids ∷ [];
    made = row ∷ [];
    ids = taken;
    rows = made;
    are = (is, tt);
    operands = ap (λ l. l ++ map (value_number firsts) (drop end.uses meant.values))
        (append-nil row.row.operands.items) ∙ operands;
    uses = uses ∙ ap (λ l. m.uses + length l)
        (sym (append-nil (uses_in (out-FormCst (out-OpCst c).form))));
    leads = ap (λ l. l ++ drop end.successors meant.blocks)
        (append-nil row.row.successors.items) ∙ leads;
    successors = successors ∙ ap (λ l. m.successors + length l)
        (sym (append-nil (successors_in (out-FormCst (out-OpCst c).form))));
  }

  pub made-more : (m mid end : Making) (list : List Listed) (i : ℕ) (s : Listed)
      → i < length list → s ≡ get_or list i s → Made m mid (ops_so_far list i) meant firsts
      → Made mid end (ops_of (seen s ∷ [])) meant firsts
      → Made m end (ops_so_far list (i + 1)) meant firsts
  made-more m mid end list i s less is p q =
      subst (λ l. Made m end l meant firsts) (far-more list i s less is)
      (made-then m mid end (ops_so_far list i) (ops_of (seen s ∷ [])) p q)

  -- what there is at the beginning: enough for all operations
  pub record Enough (m : Making) (cs : List OpCst) : Type 0 where
    pub ids : length (into_iter_items m.ids) ≡ length cs
    pub uses : m.uses + length (uses_of cs) ≡ length meant.values
    pub successors : m.successors + length (successors_of cs) ≡ length meant.blocks

  -- what is left is enough for the others
  left-enough : (m now : Making) (xs ys : List OpCst) → Enough m (xs ++ ys)
      → Made m now xs meant firsts → Enough now ys
  left-enough m now xs ys all p = record {
    ids =
        let whole = all.ids in
        let taken = ap length p.ids ∙ length-append p.taken (into_iter_items now.ids) in
        let long = rows-long xs p.taken p.made p.are in
        let both = length-append xs ys in
        omega arith;
    uses =
        let whole = all.uses in
        let some = p.uses in
        let both = ap length (uses-joined xs ys) ∙ length-append (uses_of xs) (uses_of ys) in
        omega arith;
    successors =
        let whole = all.successors in
        let some = p.successors in
        let both = ap length (leads-joined xs ys)
        ∙ length-append (successors_of xs) (successors_of ys) in
        omega arith;
  }

  pub can-next : (m now : Making) (list : List Listed) (i : ℕ) (s : Listed) → i < length list
      → s ≡ get_or list i s → MeanBelow (length firsts) meant
      → Enough m (ops_of (map seen list)) → Made m now (ops_so_far list i) meant firsts
      → CanMake now (ops_of (seen s ∷ [])) meant firsts
  can-next m now list i s less is defined all p =
      let here = ops_of (seen s ∷ []) in
      let rest = ops_of (map seen (drop (i + 1) list)) in
      let cut : ops_of (map seen list) ≡ ops_so_far list i ++ (here ++ rest)
      = far-whole list (i + 1) ∙ ap (λ l. l ++ rest) (sym (far-more list i s less is))
      ∙ append_assoc (ops_so_far list i) here rest in
      let left : Enough now (here ++ rest) = left-enough m now (ops_so_far list i) (here ++ rest)
      (subst (Enough m) cut all) p in
      record {
        ids =
            let whole = left.ids in
            let both = length-append here rest in
            omega arith;
        uses =
            let whole = left.uses in
            let both = ap length (uses-joined here rest)
            ∙ length-append (uses_of here) (uses_of rest) in
            omega arith;
        successors =
            let whole = left.successors in
            let both = ap length (leads-joined here rest)
            ∙ length-append (successors_of here) (successors_of rest) in
            omega arith;
        defined = defined;
      }

  pub made-all : (m end : Making) (list : List Listed) (i : ℕ) → length list ≤ i
      → Enough m (ops_of (map seen list)) → m.rows.items ≡ [] → m.uses ≡ 0 → m.successors ≡ 0
      → Made m end (ops_so_far list i) meant firsts
      → AllMade (ops_of (map seen list)) (into_iter_items m.ids) end.rows.items meant firsts
  made-all m end list i most all no_rows no_uses no_successors some =
      let cs = ops_of (map seen list) in
      let p : Made m end cs meant firsts =
      subst (λ l. Made m end (ops_of (map seen l)) meant firsts)
      (take_all i list most) some in
      let made : end.rows.items ≡ p.made = p.rows ∙ ap (λ l. l ++ p.made) no_rows in
      let left : Enough end [] = left-enough m end cs []
      (subst (Enough m) (sym (append-nil cs)) all) p in
      let whole : into_iter_items m.ids ≡ p.taken
      = none-left (into_iter_items m.ids) p.taken (into_iter_items end.ids) p.ids left.ids in
      let uses_end : length meant.values ≤ end.uses = let e = left.uses in omega arith in
      let leads_end : length meant.blocks ≤ end.successors
      = let e = left.successors in omega arith in
      record {
        are = subst (λ l. AreRows cs l end.rows.items) (sym whole)
            (subst (AreRows cs p.taken) (sym made) p.are);
        operands = ap operands_of made ∙ sym (append-nil (operands_of p.made))
            ∙ ap (λ l. operands_of p.made ++ map (value_number firsts) l)
            (sym (drop_all end.uses meant.values uses_end))
            ∙ p.operands
            ∙ ap (λ n. map (value_number firsts) (drop n meant.values)) no_uses;
        leads = ap successors_of_rows made ∙ sym (append-nil (successors_of_rows p.made))
            ∙ ap (λ l. successors_of_rows p.made ++ l)
            (sym (drop_all end.successors meant.blocks leads_end))
            ∙ p.leads ∙ ap (λ n. drop n meant.blocks) no_successors;
      }

-- ---- the number of the value that a use means

pub meant-number : {E : Type 0} (values : List (ℕ × ℕ)) (at : ℕ) (firsts : List ℕ) (p : ℕ × ℕ)
    (r : Result ℕ E) → slice_get values at ≡ Some p → IfOk r (λ sum. sum ≡ value_number firsts p)
    → IfOk r (λ number. map (value_number firsts) (drop at values)
    ≡ number ∷ map (value_number firsts) (drop (at + 1) values))
meant-number values at firsts p (Ok n) is number =
    ap (map (value_number firsts)) (got-here values at p is)
    ∙ ap (λ k. k ∷ map (value_number firsts) (drop (at + 1) values)) (sym number)
meant-number values at firsts p (Err e) is number = tt
