-- The table of definitions, as it grows.
use Rattle.std.proofs.Common.{◌≡◌, ℕ, zero, suc, ◌+◌, ◌<◌, ◌≤◌, inl, inr, Bool, true, false, ◌==◌, List, [], ◌∷◌, ◌++◌, length, set, map, reverse, refl, ap, sym, ◌∙◌, subst, arith, slice_get, if◌then◌else◌, length-append, option_to_list}
use Rattle.std.proofs.lemmas.Bool.{cases_lt, eqb-true}
use Rattle.std.proofs.lemmas.Bool.Decides.{nat_tests}
use Rattle.std.proofs.lemmas.List.{map-append, length-set, length-map, reverse-append, append-nil}
use Rattle.std.proofs.lemmas.Option.{slice_get_within}
use Rattle.std.specs.declared.option.Option.{Option}
use Rattle.std.specs.declared.option.Option.TheVariants.{Some, None}
use Rattle.symbol_scopes.specs.declared.rows.BindingRow.{BindingRow}
use Rattle.symbol_scopes.specs.declared.rows.Listed.{Listed}
use Rattle.symbol_scopes.specs.ScopeMarks.{Name, Binding, ScopeMark, own, bindings_of, enters}
use Rattle.symbol_scopes.specs.declared.call.NameKind.{NameKind}
use Rattle.symbol_scopes.specs.declared.call.NameKind.TheVariants.{Values, Labels}
use Rattle.symbol_scopes.specs.declared.call.Call.{Call}
use Rattle.symbol_scopes.specs.declared.call.Call.TheVariants as c
use Rattle.symbol_scopes.specs.declared.call.Said.{Said}
use Rattle.symbol_scopes.specs.declared.call.Said.TheVariants as s
use Rattle.symbol_scopes.specs.Calls.{numbered_name, mark_of, said_mark, defined}
use Rattle.symbol_scopes.specs.Listed.{binding_of, bindings_in, is_in_region, last_own, IsListed}
use Rattle.symbol_scopes.specs.Slots.{Descend}
use Rattle.symbol_scopes.proofs.Lists.{get-front, get-seam, get-push, get-before, get-written, get-unwritten, get-unmap}
use Rattle.symbol_scopes.proofs.Finds.{itself}

-- the definitions that are there decide on the last one of a region below k
pub last-front : (ds more : List Binding) (r k : ℕ) → k ≤ length ds
    → last_own (ds ++ more) r k ≡ last_own ds r k
last-front ds more r zero most = refl
last-front ds more r (suc k) most =
    let same = get-before ds more k (omega arith) in
    let rest = last-front ds more r k (omega arith) in
    ap (λ o. if is_in_region r o then Some k else last_own (ds ++ more) r k) same
    ∙ ap (λ l. if is_in_region r (slice_get ds k) then Some k else l) rest

-- a region that has no definition has no last one
pub last-none : (ds : List Binding) (r k : ℕ)
    → ((d : ℕ) (s : Binding) → slice_get ds d ≡ Some s → s.region < r) → last_own ds r k ≡ None
last-none ds r zero less = refl
last-none ds r (suc k) less =
    ap (λ b. if b then Some k else last_own ds r k) (by (slice_get ds k) refl)
    ∙ last-none ds r k less
  where
    other : (n : ℕ) → n < r → (n == r) ≡ false
    other n h = grind (arith, nat_tests)

    by : (o : Option Binding) → slice_get ds k ≡ o → is_in_region r o ≡ false
    by None e = refl
    by (Some s) e = other s.region (less k s e)

regions-known : (ns : List Name) (ds : List Binding) (n : ℕ) (l : Listed) → IsListed ns ds n l
    → (d : ℕ) (s : Binding) → slice_get ds d ≡ Some s → s.region < n
regions-known ns ds n l h d s e =
    let at : slice_get (bindings_in ns l) d ≡ Some s = ap (λ x. slice_get x d) h.bindings ∙ e in
    let row = get-unmap (binding_of ns) l.rows.items d s at in
    let known = h.known d row.0 row.1 in
    let same : row.0.region ≡ s.region = ap (λ x. x.region) row.2 in
    omega arith

-- the table with one region more, which has no definition yet
pub listed-enter : (ns : List Name) (ds : List Binding) (n : ℕ) (old new : Listed)
    → IsListed ns ds n old → new.rows ≡ old.rows → new.heads.items ≡ old.heads.items ++ None ∷ []
    → IsListed ns ds (n + 1) new
listed-enter ns ds n old new h rows heads = record {
  bindings = ap (λ r. map (binding_of ns) r.items) rows ∙ h.bindings;
  named = λ d row e. h.named d row (ap (λ r. slice_get r.items d) (sym rows) ∙ e);
  next = λ d row e. h.next d row (ap (λ r. slice_get r.items d) (sym rows) ∙ e);
  heads = λ r less. elim (cases_lt r n) [
    | inl in_old ↦
        ap (λ l. slice_get l r) heads
        ∙ get-front old.heads.items (None ∷ []) r (last_own ds r (length ds)) (h.heads r in_old)
    | inr le ↦
        let same : length old.heads.items ≡ r = let k = h.count in omega arith in
        let none = last-none ds r (length ds) (λ d s e. let k = regions-known ns ds n old h d s e in omega arith) in
        ap (λ l. slice_get l r) heads
        ∙ subst (λ k. slice_get (old.heads.items ++ None ∷ []) k ≡ Some None) same
        (get-seam old.heads.items None)
        ∙ ap Some (sym none)
  ];
  count = let k = h.count in let m = length-append old.heads.items (None ∷ []) in ap length heads ∙ omega arith;
  known = λ d row e. let k = h.known d row (ap (λ r. slice_get r.items d) (sym rows) ∙ e) in omega arith;
}

-- the table with one definition more, the last one of its region
pub listed-add : (ns : List Name) (ds : List Binding) (n region name number : ℕ) (old : Listed)
    (next : Option ℕ) (at : ℕ) (new : Listed)
    → IsListed ns ds n old → name < length ns → region < length old.heads.items
    → slice_get old.heads.items region ≡ Some next → at ≡ length old.rows.items
    → new.rows.items ≡ old.rows.items
    ++ (record { name = name; region = region; number = number; next = next }) ∷ []
    → new.heads.items ≡ set old.heads.items region (Some at)
    → IsListed ns (ds ++ (record { name = numbered_name ns name; region = region; number = number }) ∷ []) n new
listed-add ns ds n region name number old next at new h in_names in_regions reads at_end rows heads = record {
  bindings = ap (map (binding_of ns)) rows ∙ map-append (binding_of ns) old.rows.items (row ∷ [])
      ∙ ap (λ l. l ++ binding ∷ []) h.bindings;
  named = λ d x e. elim (get-push old.rows.items row d x (ap (λ l. slice_get l d) (sym rows) ∙ e)) [
    | inl o ↦ h.named d x o
    | inr k ↦ subst (λ (y : BindingRow). y.name < length ns) k.1 in_names
  ];
  next = next-is;
  heads = heads-are;
  count = ap length heads ∙ length-set old.heads.items region (Some at) ∙ h.count;
  known = λ d x e. elim (get-push old.rows.items row d x (ap (λ l. slice_get l d) (sym rows) ∙ e)) [
    | inl o ↦ h.known d x o
    | inr k ↦ subst (λ (y : BindingRow). y.region < n) k.1 (let c = h.count in omega arith)
  ];
}
  where
    row : BindingRow
    row = record { name = name; region = region; number = number; next = next }

    binding : Binding
    binding = record { name = numbered_name ns name; region = region; number = number }

    as-many : length old.rows.items ≡ length ds
    as-many = sym (length-map old.rows.items (binding_of ns)) ∙ ap length h.bindings

    before : (d : ℕ) (x : BindingRow) → slice_get old.rows.items d ≡ Some x → d < length ds
    before d x o = let w = slice_get_within old.rows.items d x o in let m = as-many in omega arith

    head-was : next ≡ last_own ds region (length ds)
    head-was = let k = h.heads region (let c = h.count in omega arith) in cc

    next-is : (d : ℕ) (x : BindingRow) → slice_get new.rows.items d ≡ Some x
        → x.next ≡ last_own (ds ++ binding ∷ []) x.region d
    next-is d x e = elim (get-push old.rows.items row d x (ap (λ l. slice_get l d) (sym rows) ∙ e)) [
      | inl o ↦
          h.next d x o ∙ sym (last-front ds (binding ∷ []) x.region d (let w = before d x o in omega arith))
      | inr k ↦
          let place : d ≡ length ds = k.0 ∙ as-many in
          subst (λ (y : BindingRow). y.next ≡ last_own (ds ++ binding ∷ []) y.region d) k.1
          (head-was ∙ sym (last-front ds (binding ∷ []) region (length ds) (omega arith))
          ∙ ap (last_own (ds ++ binding ∷ []) region) (sym place))
    ]

    longer : length (ds ++ binding ∷ []) ≡ suc (length ds)
    longer = let m = length-append ds (binding ∷ []) in omega arith

    one-more : (r : ℕ) → last_own (ds ++ binding ∷ []) r (length (ds ++ binding ∷ []))
        ≡ (if region == r then Some (length ds) else last_own ds r (length ds))
    one-more r =
        ap (last_own (ds ++ binding ∷ []) r) longer
        ∙ ap (λ o. if is_in_region r o then Some (length ds) else last_own (ds ++ binding ∷ []) r (length ds))
        (get-seam ds binding)
        ∙ ap (λ l. if region == r then Some (length ds) else l)
        (last-front ds (binding ∷ []) r (length ds) (omega arith))

    heads-are : (r : ℕ) → r < n
        → slice_get new.heads.items r ≡ Some (last_own (ds ++ binding ∷ []) r (length (ds ++ binding ∷ [])))
    heads-are r less = by (region == r) refl
      where
        by : (b : Bool) → (region == r) ≡ b
            → slice_get new.heads.items r ≡ Some (last_own (ds ++ binding ∷ []) r (length (ds ++ binding ∷ [])))
        by true e =
            let same : region ≡ r = eqb-true region r e in
            let place : at ≡ length ds = at_end ∙ as-many in
            ap (λ l. slice_get l r) heads
            ∙ subst (λ k. slice_get (set old.heads.items region (Some at)) k ≡ Some (Some at)) same
            (get-written old.heads.items region (Some at) in_regions)
            ∙ ap (λ k. Some (Some k)) place
            ∙ sym (ap Some (one-more r
            ∙ ap (λ b. if b then Some (length ds) else last_own ds r (length ds)) e))
        by false e =
            ap (λ l. slice_get l r) heads
            ∙ get-unwritten old.heads.items region r (Some at) (λ same. absurd (let t = itself r in let u : (r == r) ≡ false = subst (λ k. (k == r) ≡ false) same e in cc))
            ∙ h.heads r less
            ∙ sym (ap Some (one-more r
            ∙ ap (λ b. if b then Some (length ds) else last_own ds r (length ds)) e))

descend-more : (xs : List ℕ) (m n : ℕ) → m ≤ n → Descend m xs → Descend n xs
descend-more [] m n le h = tt
descend-more (x ∷ xs) m n le h = let less = h.0 in (omega arith, h.1)

-- without the innermost region the others are round
pub round-left : (all xs : List ℕ) (o : Option ℕ) (n : ℕ) → all ≡ xs ++ option_to_list o
    → 1 < length all → Descend n (reverse all) → (0 < length xs) × Descend n (reverse xs)
round-left all xs None n cut more h =
    let same : all ≡ xs = cut ∙ append-nil xs in
    let one : length all ≡ length xs = ap length same in
    (omega arith, subst (λ l. Descend n (reverse l)) same h)
round-left all xs (Some x) n cut more h =
    let turned : reverse (xs ++ x ∷ []) ≡ x ∷ reverse xs = reverse-append xs (x ∷ []) in
    let longer = length-append xs (x ∷ []) in
    let one : length all ≡ length (xs ++ x ∷ []) = ap length cut in
    let there : Descend n (x ∷ reverse xs) = subst (Descend n) (ap reverse cut ∙ turned) h in
    let less = there.0 in
    (omega arith, descend-more (reverse xs) x n (omega arith) there.1)

-- the table of equal definitions and as many regions
pub listed-same : (ns : List Name) (a b : List Binding) (m n : ℕ) (l : Listed) → a ≡ b → m ≡ n
    → IsListed ns a m l → IsListed ns b n l
listed-same ns a b m n l e f h =
    subst (λ (x : List Binding). IsListed ns x n l) e (subst (λ (k : ℕ). IsListed ns a k l) f h)

-- a mark that defines nothing
pub none-more : (k : NameKind) (round : List ℕ) (m : ScopeMark) (ds : List Binding) → bindings_of k round m ≡ []
    → ds ≡ ds ++ bindings_of k round m
none-more k round m ds e = sym (ap (λ l. ds ++ l) e ∙ append-nil ds)

-- a region that begins defines no name
pub enters-none : (k : NameKind) (round : List ℕ) → bindings_of k round enters ≡ []
enters-none Values round = refl
enters-none Labels round = refl

-- the definition with this number
abbrev pub binding_with : List ℕ → Name → ℕ → Binding
binding_with round name number = record { name = name; region = own round; number = number }

-- what is said of a name defines it with the number that it gives
pub bindings-said : (k : NameKind) (round : List ℕ) (name : Name) (said : Said)
    → bindings_of k round (said_mark name said)
    ≡ map (binding_with round name) (option_to_list (defined k said))
bindings-said Values round name (s.Define p n) = refl
bindings-said Values round name (s.Use p n q) = refl
bindings-said Values round name (s.Label p n) = refl
bindings-said Values round name (s.LeadTo p) = refl
bindings-said Values round name (s.DefineAlias t p) = refl
bindings-said Values round name (s.MentionAlias t p) = refl
bindings-said Labels round name (s.Define p n) = refl
bindings-said Labels round name (s.Use p n q) = refl
bindings-said Labels round name (s.Label p n) = refl
bindings-said Labels round name (s.LeadTo p) = refl
bindings-said Labels round name (s.DefineAlias t p) = refl
bindings-said Labels round name (s.MentionAlias t p) = refl

-- the definition of a name, as a row and as a mark
pub binding-row : (ns : List Name) (k : NameKind) (round : List ℕ) (next : Call) (region name number : ℕ)
    (said : Said) (found : Option ℕ) → next ≡ c.Name name said → found ≡ defined k said
    → found ≡ Some number → region ≡ own round
    → (record { name = numbered_name ns name; region = region; number = number }) ∷ []
    ≡ bindings_of k round (mark_of ns next)
binding-row ns k round next region name number said found e is some f =
    ap (λ r. (record { name = numbered_name ns name; region = r; number = number }) ∷ []) f
    ∙ sym (ap (λ x. bindings_of k round (mark_of ns x)) e
    ∙ bindings-said k round (numbered_name ns name) said
    ∙ ap (λ o. map (binding_with round (numbered_name ns name)) (option_to_list o)) (sym is ∙ some))
