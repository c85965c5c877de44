-- What is at fault, by the marks of notes and region by region.
use Rattle.std.proofs.Common.{◌≡◌, ℕ, zero, suc, ◌+◌, ◌<◌, ◌⊎◌, inl, inr, ◌||◌, List, [], ◌∷◌, ◌++◌, length, take, drop, refl, ap, sym, ◌∙◌, subst, arith, length-append, option_to_list, slice_get, take}
use Rattle.std.proofs.lemmas.List.Elements.{Contains-append_left, Contains-append_right, Contains-append_cases, Contains-push, Contains-push_cases, at_from_Contains}
use Rattle.std.specs.List.{Contains}
use Rattle.std.specs.declared.option.Option.{Option}
use Rattle.std.specs.declared.option.Option.TheVariants.{Some, None}
use Rattle.first_fault.specs.declared.fault.Fault.{Fault}
use Rattle.symbol_scopes.specs.declared.slots.FoundBinding.{FoundBinding}
use Rattle.symbol_scopes.specs.declared.call.NameKind.{NameKind}
use Rattle.symbol_scopes.specs.declared.call.NameKind.TheVariants.{Values, Labels}
use Rattle.symbol_scopes.specs.ScopeMarks.{Name, ScopeMark, Binding, Standing, passed, after, along, top, standing, bindings, bindings_of}
use Rattle.symbol_scopes.specs.Meanings.{first_in, meant, is_before, is_defined_before}
use Rattle.first_fault.specs.Firsts.{Rule, IsFaultBy}
use Rattle.symbol_scopes.specs.Faults.{value_fault, block_fault, use_fault, target_fault, fault_if, IsNameFault}
use Rattle.symbol_scopes.specs.Regions.{Note, Notes, no_notes, note, in_region, mark_of_note, marks, ScopeName, RegionScope, known_of, count_of, count, own, found, looked, innermost, told, told_in, value_meant, block_meant, is_earlier, is_repeated, use_wrong, value_wrong, target_wrong, block_wrong, IsWrong}
use Rattle.symbol_scopes.specs.Regions as say
use Rattle.std.proofs.lemmas.List.{take-append-drop}
use Rattle.symbol_scopes.proofs.Lists.{drop-here, get-middle, take-front}
use Rattle.symbol_scopes.proofs.NoteBindings.{seen}
use Rattle.symbol_scopes.proofs.NotesTold.{judged, Agree, whole}
use Rattle.symbol_scopes.proofs.RegionMeanings.{meant-looked}

never-in : {X : Type 0} (x : X) → Contains [] x → ⊥
never-in x h = let at = at_from_Contains [] x h in let less : at.0 < 0 = at.1 in omega arith

listed-one : (o : Option Fault) (f : Fault) → o ≡ Some f → Contains (option_to_list o) f
listed-one None f e = absurd (cc)
listed-one (Some g) f e =
    let same : g ≡ f = cc in subst (λ (h : Fault). Contains (g ∷ []) h) same (Contains-push [] g)

one-listed : (o : Option Fault) (f : Fault) → Contains (option_to_list o) f → o ≡ Some f
one-listed None f h = absurd (never-in f h)
one-listed (Some g) f h = elim (Contains-push_cases [] g f h) [
  | inl none ↦ absurd (never-in f none)
  | inr same ↦ ap Some same
]

module _ (k : NameKind) (F : List ℕ → ℕ → ScopeMark → Option Fault) where
  abbrev wrongs : Standing → ℕ → List ScopeMark → List Fault
  wrongs s n ms = judged k (λ round i m. option_to_list (F round i m)) s n ms

  -- where a mark stands, F says that it has this fault
  record Fails (s : Standing) (n : ℕ) (ms : List ScopeMark) (f : Fault) : Type 0 where
    place : ℕ
    within : place < length ms
    its : ScopeMark
    there : slice_get ms place ≡ Some its
    fails : F (after s (take place ms)).round (n + length (along (bindings_of k) s (take place ms))) its ≡ Some f

  to-list : (s : Standing) (n : ℕ) (ms : List ScopeMark) (f : Fault) (i : ℕ) (m : ScopeMark) → slice_get ms i ≡ Some m
      → F (after s (take i ms)).round (n + length (along (bindings_of k) s (take i ms))) m ≡ Some f
      → Contains (wrongs s n ms) f
  to-list s n [] f i m there fails = absurd (cc)
  to-list s n (y ∷ ms) f zero m there fails =
      let same : y ≡ m = cc in
      Contains-append_left (option_to_list (F s.round n y)) (wrongs (passed s y) (n + length (bindings_of k s.round y)) ms) f
      (listed-one (F s.round n y) f
      (ap (F s.round n) same ∙ ap (λ j. F s.round j m) (omega arith) ∙ fails))
  to-list s n (y ∷ ms) f (suc i) m there fails =
      let sum = length-append (bindings_of k s.round y) (along (bindings_of k) (passed s y) (take i ms)) in
      Contains-append_right (option_to_list (F s.round n y)) (wrongs (passed s y) (n + length (bindings_of k s.round y)) ms) f
      (to-list (passed s y) (n + length (bindings_of k s.round y)) ms f i m there
      (ap (λ j. F (after (passed s y) (take i ms)).round j m) (omega arith) ∙ fails))

  from-list : (s : Standing) (n : ℕ) (ms : List ScopeMark) (f : Fault) → Contains (wrongs s n ms) f → Fails s n ms f
  from-list s n [] f h = absurd (never-in f h)
  from-list s n (y ∷ ms) f h =
      by (Contains-append_cases (option_to_list (F s.round n y)) (wrongs (passed s y) (n + length (bindings_of k s.round y)) ms) f h)
      (from-list (passed s y) (n + length (bindings_of k s.round y)) ms f)
    where
      by : Contains (option_to_list (F s.round n y)) f ⊎ Contains (wrongs (passed s y) (n + length (bindings_of k s.round y)) ms) f
          → (Contains (wrongs (passed s y) (n + length (bindings_of k s.round y)) ms) f
          → Fails (passed s y) (n + length (bindings_of k s.round y)) ms f)
          → Fails s n (y ∷ ms) f
      by (inl here) rest = record {
        place = 0;
        within = omega arith;
        its = y;
        there = refl;
        fails = ap (λ j. F s.round j y) (omega arith) ∙ one-listed (F s.round n y) f here;
      }
      by (inr later) rest =
          let r = rest later in
          let sum = length-append (bindings_of k s.round y) (along (bindings_of k) (passed s y) (take r.place ms)) in
          record {
            place = suc r.place;
            within = let w = r.within in omega arith;
            its = r.its;
            there = r.there;
            fails = ap (λ j. F (after (passed s y) (take r.place ms)).round j r.its) (omega arith) ∙ r.fails;
          }

  abbrev by_rule : Rule ScopeMark
  by_rule before m = F (standing before).round (length (bindings k before)) m

  -- what the rule finds of a mark is in the list
  fault-listed : (ms : List ScopeMark) (f : Fault) → IsFaultBy by_rule ms f
      → Contains (wrongs top 0 ms) f
  fault-listed ms f x =
      let front = take-front x.before (x.mark ∷ x.after) in
      subst (λ (l : List ScopeMark). Contains (wrongs top 0 l) f) (sym x.cut)
      (to-list top 0 (x.before ++ x.mark ∷ x.after) f (length x.before) x.mark
      (get-middle x.before x.after x.mark)
      (ap (λ bs. F (standing bs).round (0 + length (bindings k bs)) x.mark) front
      ∙ ap (λ j. F (standing x.before).round j x.mark) (omega arith) ∙ x.is))

  -- and what is in the list is what the rule finds
  listed-fault : (ms : List ScopeMark) (f : Fault) → Contains (wrongs top 0 ms) f
      → IsFaultBy by_rule ms f
  listed-fault ms f h =
      let r = from-list top 0 ms f h in
      record {
        before = take r.place ms;
        mark = r.its;
        after = drop (suc r.place) ms;
        cut = sym (take-append-drop r.place ms)
            ∙ ap (λ l. take r.place ms ++ l) (drop-here ms r.place r.its r.there);
        is = ap (λ j. F (standing (take r.place ms)).round j r.its) (omega arith) ∙ r.fails;
      }

earlier-same : (o : Option FoundBinding) (p : Option (ℕ × ℕ)) (n : ℕ) → seen o ≡ p → is_before o n ≡ is_earlier p n
earlier-same None p n e = ap (λ q. is_earlier q n) e
earlier-same (Some f) p n e = ap (λ q. is_earlier q n) e

repeated-same : (ds : List Binding) (round : List ℕ) (ss : List RegionScope) (x : Name) (n : ℕ) → Agree ds round ss
    → is_defined_before ds round x n ≡ is_repeated ss x n
repeated-same ds [] [] x n a = refl
repeated-same ds [] (s ∷ ss) x n a = absurd a
repeated-same ds (r ∷ round) [] x n a = absurd a
repeated-same ds (r ∷ round) (s ∷ ss) x n a =
    ap (λ b. b || is_defined_before ds round x n) (earlier-same (first_in ds r x) (found s x) n (a.0 x))
    ∙ ap (λ b. is_earlier (found s x) n || b) (repeated-same ds round ss x n a.1)

values-wrong : (ns : Notes) → wrongs Values (value_fault (bindings Values (marks ns))) top 0 (marks ns)
    ≡ told_in Values (λ ss n x. option_to_list (value_wrong ss n x)) ns
values-wrong ns =
    whole Values (λ round i m. option_to_list (value_fault (bindings Values (marks ns)) round i m))
    (λ ss n x. option_to_list (value_wrong ss n x)) ns (λ round n. refl) (λ round n. refl) same
  where
    used : (u : _) (o : Option FoundBinding) → use_fault u o ≡ use_wrong u (seen o)
    used u None = refl
    used u (Some f) = refl

    same : (q : ℕ) (round : List ℕ) (s : RegionScope) (ss : List RegionScope) (n : ℕ) (x : Note)
        → Agree (bindings Values (marks ns)) (q ∷ round) (s ∷ ss)
        → option_to_list (value_fault (bindings Values (marks ns)) (q ∷ round) n (mark_of_note x))
        ≡ option_to_list (value_wrong (s ∷ ss) n x)
    same q round s ss n (say.uses u) a =
        ap option_to_list (used u (meant (bindings Values (marks ns)) (q ∷ round) u.name)
        ∙ ap (use_wrong u) (meant-looked (bindings Values (marks ns)) (q ∷ round) (s ∷ ss) u.name a))
    same q round s ss n (say.defines d) a =
        ap (λ b. option_to_list (fault_if b d.place 8))
        (repeated-same (bindings Values (marks ns)) (q ∷ round) (s ∷ ss) d.name n a)
    same q round s ss n (say.labels l) a = refl
    same q round s ss n (say.leads_to t) a = refl
    same q round s ss n (say.bad_pack p) a = refl
    same q round s ss n (say.defines_alias b) a = refl
    same q round s ss n (say.mentions_alias b) a = refl

blocks-wrong : (ns : Notes) → wrongs Labels (block_fault (bindings Labels (marks ns))) top 0 (marks ns)
    ≡ told_in Labels (λ ss n x. option_to_list (block_wrong ss n x)) ns
blocks-wrong ns =
    whole Labels (λ round i m. option_to_list (block_fault (bindings Labels (marks ns)) round i m))
    (λ ss n x. option_to_list (block_wrong ss n x)) ns (λ round n. refl) (λ round n. refl) same
  where
    led : (t : _) (o : Option FoundBinding) → target_fault t o ≡ target_wrong t (seen o)
    led t None = refl
    led t (Some f) = refl

    same : (q : ℕ) (round : List ℕ) (s : RegionScope) (ss : List RegionScope) (n : ℕ) (x : Note)
        → Agree (bindings Labels (marks ns)) (q ∷ round) (s ∷ ss)
        → option_to_list (block_fault (bindings Labels (marks ns)) (q ∷ round) n (mark_of_note x))
        ≡ option_to_list (block_wrong (s ∷ ss) n x)
    same q round s ss n (say.leads_to t) a =
        ap option_to_list (led t (first_in (bindings Labels (marks ns)) q t.name) ∙ ap (target_wrong t) (a.0 t.name))
    same q round s ss n (say.labels l) a =
        ap (λ b. option_to_list (fault_if b l.place 11))
        (earlier-same (first_in (bindings Labels (marks ns)) q l.name) (found s l.name) n (a.0 l.name))
    same q round s ss n (say.defines d) a = refl
    same q round s ss n (say.uses u) a = refl
    same q round s ss n (say.bad_pack p) a = refl
    same q round s ss n (say.defines_alias b) a = refl
    same q round s ss n (say.mentions_alias b) a = refl

-- the faults are the same by marks and by regions
pub faults-by-regions : (ns : Notes) (f : Fault) → (IsNameFault (marks ns) f → IsWrong ns f) × (IsWrong ns f → IsNameFault (marks ns) f)
faults-by-regions ns f = (to, back)
  where
    ms : List ScopeMark
    ms = marks ns

    to : IsNameFault ms f → IsWrong ns f
    to (inl (inl x)) = inl (inl (subst (λ l. Contains l f) (values-wrong ns) (fault-listed Values (value_fault (bindings Values ms)) ms f x)))
    to (inl (inr x)) = inl (inr (subst (λ l. Contains l f) (blocks-wrong ns) (fault-listed Labels (block_fault (bindings Labels ms)) ms f x)))
    to (inr x) = inr x

    back : IsWrong ns f → IsNameFault ms f
    back (inl (inl x)) = inl (inl (listed-fault Values (value_fault (bindings Values ms)) ms f (subst (λ l. Contains l f) (sym (values-wrong ns)) x)))
    back (inl (inr x)) = inl (inr (listed-fault Labels (block_fault (bindings Labels ms)) ms f (subst (λ l. Contains l f) (sym (blocks-wrong ns)) x)))
    back (inr x) = inr x
