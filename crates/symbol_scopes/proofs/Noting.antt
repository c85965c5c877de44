-- One call more, and the list of marks that it makes longer.
use Rattle.std.proofs.Common.{◌≡◌, ℕ, ◌+◌, ◌<◌, ◌≤◌, ◌⊎◌, inl, inr, List, [], ◌∷◌, ◌++◌, length, refl, ap, sym, ◌∙◌, subst, arith, length-append}
use Rattle.std.proofs.Math.ListN.{get_or-append}
use Rattle.std.proofs.lemmas.List.{map-append, length-map}
use Rattle.std.proofs.lemmas.Grind.{flat_map-append}
use Rattle.std.specs.declared.result.Result.{Result}
use Rattle.std.specs.declared.result.Result.TheVariants.{Ok, Err}
use Rattle.std.specs.Result.{OnErr}
use Rattle.symbol_scopes.specs.declared.call.NameKind.TheVariants.{Values}
use Rattle.symbol_scopes.specs.declared.call.Call.{Call}
use Rattle.symbol_scopes.specs.declared.call.Call.TheVariants as c
use Rattle.symbol_scopes.specs.ScopeMarks.{Name, ScopeMark, Standing, passed, along, top, standing, bindings, bindings_of, uses_in, use_of, successors_in, successor_of}
use Rattle.symbol_scopes.specs.ScopeMarks as mark
use Rattle.symbol_scopes.specs.Calls.{mark_of, marks_of, said_mark, numbered_name, IsNamed, AreNamed}
use Rattle.symbol_scopes.proofs.Lists.{all-push, all-weaker}
use Rattle.symbol_scopes.proofs.Walks.{along-more}

-- a call's name stays where names are added
kept-name : (ns more : List Name) (n : ℕ) → n < length ns → numbered_name (ns ++ more) n ≡ numbered_name ns n
kept-name ns more n within = get_or-append ns more [] n within

kept-mark : (ns more : List Name) (x : Call) → IsNamed (length ns) x
    → mark_of (ns ++ more) x ≡ mark_of ns x
kept-mark ns more c.Enter h = refl
kept-mark ns more c.Leave h = refl
kept-mark ns more (c.BadPack p) h = refl
kept-mark ns more (c.Name n said) h = ap (λ y. said_mark y said) (kept-name ns more n h)

kept-named : (m n : ℕ) (x : Call) → m ≤ n → IsNamed m x → IsNamed n x
kept-named m n c.Enter le h = tt
kept-named m n c.Leave le h = tt
kept-named m n (c.BadPack p) le h = tt
kept-named m n (c.Name a said) le h = omega arith

-- calls stand for the same marks where names are added
pub kept-marks : (ns more : List Name) (calls : List Call) → AreNamed (length ns) calls
    → marks_of (ns ++ more) calls ≡ marks_of ns calls
kept-marks ns more [] h = refl
kept-marks ns more (x ∷ calls) h =
    let first = kept-mark ns more x h.0 in
    let rest = kept-marks ns more calls h.1 in
    λ i. first i ∷ rest i

-- the names of calls are among more names, too
pub named-more : (m n : ℕ) (calls : List Call) → m ≤ n → AreNamed m calls → AreNamed n calls
named-more m n calls le = all-weaker (IsNamed m) (IsNamed n) calls (λ x. kept-named m n x le)

-- names that may have grown by one
pub grown-marks : (old new : List Name) (name : Name) (calls : List Call)
    → ((new ≡ old) ⊎ (new ≡ old ++ name ∷ [])) → AreNamed (length old) calls
    → (marks_of new calls ≡ marks_of old calls) × AreNamed (length new) calls
grown-marks old new name calls (inl e) h =
    (ap (λ ns. marks_of ns calls) e, subst (λ (ns : List Name). AreNamed (length ns) calls) (sym e) h)
grown-marks old new name calls (inr e) h =
    let longer = length-append old (name ∷ []) in (
      ap (λ ns. marks_of ns calls) e ∙ kept-marks old (name ∷ []) calls h,
      subst (λ (ns : List Name). AreNamed (length ns) calls) (sym e)
          (named-more (length old) (length (old ++ name ∷ [])) calls (omega arith) h),
    )

-- one mark more defines as many value names more as it is definitions
pub bindings-more : (ms : List ScopeMark) (m : ScopeMark)
    → length (bindings Values (ms ++ m ∷ [])) ≡ length (bindings Values ms) + length (bindings_of Values (standing ms).round m)
bindings-more ms m = ap length (along-more (bindings_of Values) top ms m)
    ∙ length-append (bindings Values ms) (bindings_of Values (standing ms).round m)

-- one mark more is as many uses more
pub uses-more : (ms : List ScopeMark) (m : ScopeMark)
    → length (uses_in (ms ++ m ∷ [])) ≡ length (uses_in ms) + length (use_of m)
uses-more ms m =
    let one = length-append (use_of m) [] in
    let whole = ap length (flat_map-append use_of ms (m ∷ [])) in
    let sum = length-append (uses_in ms) (use_of m ++ []) in
    omega arith

-- one mark more is as many successors more
pub successors-more : (ms : List ScopeMark) (m : ScopeMark)
    → length (successors_in (ms ++ m ∷ [])) ≡ length (successors_in ms) + length (successor_of m)
successors-more ms m =
    let one = length-append (successor_of m) [] in
    let whole = ap length (flat_map-append successor_of ms (m ∷ [])) in
    let sum = length-append (successors_in ms) (successor_of m ++ []) in
    omega arith

-- a note, as an object keeps it
pub record Noted (ns : List Name) (calls : List Call) (x : Call) (ms : List ScopeMark) : Type 0 where
  pub marks : marks_of ns (calls ++ x ∷ []) ≡ ms ++ mark_of ns x ∷ []
  pub named : AreNamed (length ns) (calls ++ x ∷ [])

-- one call more stands for one mark more
pub noted : (old new : List Name) (name : Name) (calls : List Call) (x : Call)
    → ((new ≡ old) ⊎ (new ≡ old ++ name ∷ [])) → AreNamed (length old) calls → IsNamed (length new) x
    → Noted new calls x (marks_of old calls)
noted old new name calls x grown named here =
    let h = grown-marks old new name calls grown named in
    record {
      marks = map-append (mark_of new) calls (x ∷ []) ∙ ap (λ l. l ++ mark_of new x ∷ []) h.0;
      named = all-push (IsNamed (length new)) calls x h.1 here;
    }

-- few are counted
pub bindings-few : (s : Standing) (ms : List ScopeMark) → length (along (bindings_of Values) s ms) ≤ length ms
bindings-few s [] = omega arith
bindings-few s (m ∷ ms) =
    let rest = bindings-few (passed s m) ms in
    let one = single s.round m in
    let sum = length-append (bindings_of Values s.round m) (along (bindings_of Values) (passed s m) ms) in
    omega arith
  where
    single : (round : List ℕ) (m : ScopeMark) → length (bindings_of Values round m) ≤ 1
    single round mark.enters = omega arith
    single round mark.leaves = omega arith
    single round (mark.defines d) = omega arith
    single round (mark.uses u) = omega arith
    single round (mark.labels l) = omega arith
    single round (mark.leads_to t) = omega arith
    single round (mark.bad_pack p) = omega arith
    single round (mark.defines_alias a) = omega arith
    single round (mark.mentions_alias a) = omega arith

-- there are no more uses than marks
pub uses-few : (ms : List ScopeMark) → length (uses_in ms) ≤ length ms
uses-few [] = omega arith
uses-few (m ∷ ms) =
    let rest = uses-few ms in
    let one = single m in
    let sum = length-append (use_of m) (uses_in ms) in
    omega arith
  where
    single : (m : ScopeMark) → length (use_of m) ≤ 1
    single mark.enters = omega arith
    single mark.leaves = omega arith
    single (mark.defines d) = omega arith
    single (mark.uses u) = omega arith
    single (mark.labels l) = omega arith
    single (mark.leads_to t) = omega arith
    single (mark.bad_pack p) = omega arith
    single (mark.defines_alias a) = omega arith
    single (mark.mentions_alias a) = omega arith

-- there are no more successors than marks
pub successors-few : (ms : List ScopeMark) → length (successors_in ms) ≤ length ms
successors-few [] = omega arith
successors-few (m ∷ ms) =
    let rest = successors-few ms in
    let one = single m in
    let sum = length-append (successor_of m) (successors_in ms) in
    omega arith
  where
    single : (m : ScopeMark) → length (successor_of m) ≤ 1
    single mark.enters = omega arith
    single mark.leaves = omega arith
    single (mark.defines d) = omega arith
    single (mark.uses u) = omega arith
    single (mark.labels l) = omega arith
    single (mark.leads_to t) = omega arith
    single (mark.bad_pack p) = omega arith
    single (mark.defines_alias a) = omega arith
    single (mark.mentions_alias a) = omega arith

-- ---- an object that notes

abbrev pub Kept : List Name → List Call → ℕ → ℕ → ℕ → Type 0
Kept ns calls d u t = AreNamed (length ns) calls
    × (d ≡ length (bindings Values (marks_of ns calls)))
    × (u ≡ length (uses_in (marks_of ns calls)))
    × (t ≡ length (successors_in (marks_of ns calls)))

kept-by : (ns : List Name) (calls : List Call) (ms : List ScopeMark) (d u t : ℕ)
    → marks_of ns calls ≡ ms → AreNamed (length ns) calls
    → d ≡ length (bindings Values ms) → u ≡ length (uses_in ms) → t ≡ length (successors_in ms)
    → Kept ns calls d u t
kept-by ns calls ms d u t e n a b c = (
  n,
  a ∙ ap (λ l. length (bindings Values l)) (sym e),
  b ∙ ap (λ l. length (uses_in l)) (sym e),
  c ∙ ap (λ l. length (successors_in l)) (sym e),
)

module _ (old new : List Name) (name : Name) (calls : List Call) (d u t : ℕ)
    (grown : (new ≡ old) ⊎ (new ≡ old ++ name ∷ [])) (h : Kept old calls d u t)
    (after : List Call) where
  -- nothing was noted
  pub same-marks : after ≡ calls → marks_of new after ≡ marks_of old calls
  same-marks e = ap (marks_of new) e ∙ (grown-marks old new name calls grown h.0).0

  -- what is kept stays, where nothing was noted
  pub same-kept : after ≡ calls → Kept new after d u t
  same-kept e =
      kept-by new after (marks_of old calls) d u t (same-marks e)
      (subst (AreNamed (length new)) (sym e) (grown-marks old new name calls grown h.0).1)
      h.1 h.2 h.3

  -- one call more was noted
  pub more-marks : (x : Call) → after ≡ calls ++ x ∷ [] → IsNamed (length new) x
      → marks_of new after ≡ marks_of old calls ++ mark_of new x ∷ []
  more-marks x e here =
      ap (marks_of new) e ∙ (noted old new name calls x grown h.0 here).marks

  -- what is kept, once one call more was noted
  pub more-kept : (x : Call) (d2 u2 t2 : ℕ) → after ≡ calls ++ x ∷ [] → IsNamed (length new) x
      → ((r : List ℕ) → d2 ≡ d + length (bindings_of Values r (mark_of new x)))
      → u2 ≡ u + length (use_of (mark_of new x)) → t2 ≡ t + length (successor_of (mark_of new x))
      → Kept new after d2 u2 t2
  more-kept x d2 u2 t2 e here ds us ts =
      let ms = marks_of old calls in
      let m = mark_of new x in
      let a = ds (standing ms).round in
      let b = bindings-more ms m in
      let f = uses-more ms m in
      let g = successors-more ms m in
      let i = h.1 in
      let j = h.2 in
      let k = h.3 in
      kept-by new after (ms ++ m ∷ []) d2 u2 t2 (more-marks x e here)
      (subst (AreNamed (length new)) (sym e) (noted old new name calls x grown h.0 here).named)
      (omega arith) (omega arith) (omega arith)

-- no more is counted than was noted
pub counts-small : (ns : List Name) (calls : List Call) (d u t : ℕ) → Kept ns calls d u t
    → (d ≤ length calls) × (u ≤ length calls) × (t ≤ length calls)
counts-small ns calls d u t h =
    let ms = marks_of ns calls in
    let m : length ms ≡ length calls = length-map calls (mark_of ns) in
    let a = bindings-few top ms in
    let b = uses-few ms in
    let c = successors-few ms in
    let i = h.1 in
    let j = h.2 in
    let k = h.3 in
    (omega arith, omega arith, omega arith)

-- what holds always holds of an error
pub on-err : {T E : Type 0} (r : Result T E) (P : Type 0) → P → OnErr r P
on-err (Ok x) P p = tt
on-err (Err e) P p = p
