-- A walk that judges each mark where it stands.
use Rattle.std.proofs.Common.{◌≡◌, ℕ, ◌+◌, ◌<◌, ◌≤◌, ◌==◌, nat_lt, true, false, List, [], ◌∷◌, ◌++◌, length, map, take, drop, refl, ap, sym, ◌∙◌, subst, arith, length-append, append_assoc, if◌then◌else◌}
use Rattle.std.proofs.lemmas.Bool.Decides.{nat_tests}
use Rattle.std.proofs.lemmas.List.{take-append-drop, map-append}
use Rattle.std.specs.declared.option.Option.{Option}
use Rattle.std.specs.declared.option.Option.TheVariants.{Some, None}
use Rattle.symbol_scopes.specs.declared.slots.FoundBinding.{FoundBinding}
use Rattle.symbol_scopes.specs.declared.call.NameKind.{NameKind}
use Rattle.symbol_scopes.specs.declared.slots.NameSlot.{NameSlot}
use Rattle.symbol_scopes.specs.declared.call.Call.{Call}
use Rattle.symbol_scopes.specs.declared.call.Call.TheVariants.{Name as NameCall}
use Rattle.symbol_scopes.specs.declared.call.Said.TheVariants.{Define}
use Rattle.symbol_scopes.specs.declared.rows.Listed.{Listed}
use Rattle.first_fault.specs.Firsts.{IsFirst, IsFaultBy, Rule}
use Rattle.symbol_scopes.specs.Faults.{value_fault, fault_if}
use Rattle.first_fault.specs.Firsts.{earlier_of}
use Rattle.first_fault.specs.declared.fault.Fault.{Fault}
use Rattle.first_fault.proofs.Firsts.{earlier_of-both-none}
use Rattle.first_fault.proofs.Rules.{first-more, first-none}
use Rattle.symbol_scopes.specs.Calls.{numbered_name, mark_of}
use Rattle.symbol_scopes.specs.declared.walk.Walk.{Walk}
use Rattle.symbol_scopes.specs.ScopeMarks.{Name, ScopeMark, Binding, Standing, passed, after, along, top, standing, bindings, bindings_of, own}
use Rattle.symbol_scopes.specs.ScopeMarks.{enters, leaves, defines, uses, labels, leads_to, bad_pack, defines_alias, mentions_alias}
use Rattle.symbol_scopes.specs.Meanings.{first_in, meant, or_else}
use Rattle.symbol_scopes.specs.Listed.{IsListed, bindings_in}
use Rattle.symbol_scopes.specs.Slots.{AreSlots, Descend, in_own, slot_of}
use Rattle.symbol_scopes.proofs.Walks.{Further, further-along}
use Rattle.symbol_scopes.proofs.Finds.{found-is, meant-below, itself, least-tells}

-- what is said of marks and further marks is what is said of each
pub along-append : {A : Type 0} (f : List ℕ → ScopeMark → List A) (s : Standing) (xs ys : List ScopeMark)
    → along f s (xs ++ ys) ≡ along f s xs ++ along f (after s xs) ys
along-append f s [] ys = refl
along-append f s (x ∷ xs) ys =
    ap (λ l. f s.round x ++ l) (along-append f (passed s x) xs ys)
    ∙ sym (append_assoc (f s.round x) (along f (passed s x) xs) (along f (after (passed s x) xs) ys))

-- the standing behind marks and further marks
pub after-append : (s : Standing) (xs ys : List ScopeMark) → after s (xs ++ ys) ≡ after (after s xs) ys
after-append s [] ys = refl
after-append s (x ∷ xs) ys = after-append (passed s x) xs ys

-- as many definitions stand before as in all, at most
pub before-most : (k : NameKind) (ms : List ScopeMark) (i : ℕ)
    → length (bindings k (take i ms)) ≤ length (bindings k ms)
before-most k ms i =
    let whole : bindings k ms ≡ bindings k (take i ms) ++ along (bindings_of k) (standing (take i ms)) (drop i ms) =
    ap (bindings k) (sym (take-append-drop i ms))
    ∙ along-append (bindings_of k) top (take i ms) (drop i ms) in
    let longer = length-append (bindings k (take i ms)) (along (bindings_of k) (standing (take i ms)) (drop i ms)) in
    let same = ap length whole in
    omega arith

step-grows : (s : Standing) (m : ScopeMark) → s.entered ≤ (passed s m).entered
step-grows s enters = omega arith
step-grows s leaves = omega arith
step-grows s (defines d) = omega arith
step-grows s (uses u) = omega arith
step-grows s (labels l) = omega arith
step-grows s (leads_to t) = omega arith
step-grows s (bad_pack p) = omega arith
step-grows s (defines_alias a) = omega arith
step-grows s (mentions_alias a) = omega arith

entered-grows : (s : Standing) (ms : List ScopeMark) → s.entered ≤ (after s ms).entered
entered-grows s [] = omega arith
entered-grows s (m ∷ ms) = let a = step-grows s m in let b = entered-grows (passed s m) ms in omega arith

-- a part of the marks enters no more regions than all
pub entered-before : (ms : List ScopeMark) (i : ℕ) → (standing (take i ms)).entered ≤ (standing ms).entered
entered-before ms i =
    let whole : standing ms ≡ after (standing (take i ms)) (drop i ms) =
    ap standing (sym (take-append-drop i ms)) ∙ after-append top (take i ms) (drop i ms) in
    let grows = entered-grows (standing (take i ms)) (drop i ms) in
    let same = ap (λ s. s.entered) whole in
    omega arith

-- where a walk is, before the i-th mark
pub record Going (ns : List Name) (ms : List ScopeMark) (k : NameKind) (l : Listed) (w : Walk)
    (before i : ℕ) : Type 0 where
  pub round : w.round ≡ standing (take i ms)
  pub slots : AreSlots ns (bindings_in ns l) w.round.round w.slots
  pub before-is : before ≡ length (bindings k (take i ms))

-- the fault of a mark, by the definitions of the text, the open regions and how many definitions
-- stand before
abbrev pub FaultBy : Type 0
FaultBy = List Binding → List ℕ → ℕ → ScopeMark → Option Fault

-- what a mark means, by the definitions of the text and the open regions
abbrev pub MeaningBy : Type 0 → Type 0
MeaningBy A = List Binding → List ℕ → ScopeMark → List (Option A)

-- such faults as a rule of the marks of a text
abbrev pub rule_in : List ScopeMark → NameKind → FaultBy → Rule ScopeMark
rule_in ms k F bs m = F (bindings k ms) (standing bs).round (length (bindings k bs)) m

-- a walk that has judged the first i marks: their first fault, and what they mean
pub record Judges {A : Type 0} (ns : List Name) (ms : List ScopeMark) (k : NameKind) (l : Listed)
    (F : FaultBy) (G : MeaningBy A) (w : Walk) (before i : ℕ) (found : Option Fault) (told : List A)
    : Type 0 where
  pub going : Going ns ms k l w before i
  pub few : before ≤ i
  pub first : IsFirst (IsFaultBy (rule_in ms k F) (take i ms)) found
  pub meanings : found ≡ None → map Some told ≡ along (G (bindings k ms)) top (take i ms)

-- at the end all marks are judged
pub judges-first : {A : Type 0} (ns : List Name) (ms : List ScopeMark) (k : NameKind) (l : Listed)
    (F : FaultBy) (G : MeaningBy A) (w : Walk) (before i : ℕ) (found : Option Fault) (told : List A)
    → Judges ns ms k l F G w before i found told → take i ms ≡ ms
    → IsFirst (IsFaultBy (rule_in ms k F) ms) found
judges-first ns ms k l F G w before i found told j whole =
    subst (λ (l : List ScopeMark). IsFirst (IsFaultBy (rule_in ms k F) l) found) whole j.first

module _ (ns : List Name) (ms : List ScopeMark) (k : NameKind) (l : Listed)
    (h : IsListed ns (bindings k ms) ((standing ms).entered + 1) l) where
  -- a region that a mark enters has a head in the table
  pub regions-there : (w : Walk) (before i : ℕ) (m : ScopeMark) → Going ns ms k l w before i
      → Further ms i m → (passed w.round m).entered < length l.heads.items
  regions-there w before i m g x =
      let at : passed w.round m ≡ standing (take (i + 1) ms) =
      ap (λ s. passed s m) g.round ∙ sym x.stands in
      let less = entered-before ms (i + 1) in
      let same = ap (λ s. s.entered) at in
      let c = h.count in
      omega arith

  -- as many definitions stand before as the table has, at most
  pub most : (w : Walk) (before i : ℕ) → Going ns ms k l w before i
      → before ≤ length (bindings_in ns l)
  most w before i g =
      let a = before-most k ms i in
      let b = g.before-is in
      let c = ap length h.bindings in
      omega arith

  -- a walk begins before the first mark
  pub going-start : (w : Walk) → w.round ≡ top → AreSlots ns (bindings_in ns l) w.round.round w.slots
      → Going ns ms k l w 0 0
  going-start w round slots = record { round = round; slots = slots; before-is = refl }

  -- a walk goes on by one mark
  pub going-step : (w new : Walk) (before i more : ℕ) (m : ScopeMark) → Going ns ms k l w before i
      → Further ms i m → new.round ≡ passed w.round m
      → AreSlots ns (bindings_in ns l) new.round.round new.slots
      → more ≡ length (bindings_of k w.round.round m)
      → Going ns ms k l new (before + more) (i + 1)
  going-step w new before i more m g x round slots is = record {
    round = round ∙ ap (λ s. passed s m) g.round ∙ sym x.stands;
    slots = slots;
    before-is =
        let all : length (bindings k (take (i + 1) ms))
        ≡ length (bindings k (take i ms) ++ bindings_of k (standing (take i ms)).round m) =
        ap length (further-along (bindings_of k) ms i m x) in
        let sum = length-append (bindings k (take i ms)) (bindings_of k (standing (take i ms)).round m) in
        let one : more ≡ length (bindings_of k (standing (take i ms)).round m) =
        is ∙ ap (λ s. length (bindings_of k s.round m)) g.round in
        let b = g.before-is in
        omega arith;
  }

  -- what is found where the walk is, is found in the text
  pub rule-is : {B : Type 0} (F : List Binding → List ℕ → ℕ → ScopeMark → B) (w : Walk) (before i : ℕ)
      (m : ScopeMark) → Going ns ms k l w before i
      → F (bindings_in ns l) w.round.round before m
      ≡ F (bindings k ms) (standing (take i ms)).round (length (bindings k (take i ms))) m
  rule-is F w before i m g =
      ap (λ ds. F ds w.round.round before m) h.bindings
      ∙ ap (λ s. F (bindings k ms) s.round before m) g.round
      ∙ ap (λ n. F (bindings k ms) (standing (take i ms)).round n m) g.before-is

  -- a walk that judges goes on by one mark
  pub judges-step : {A : Type 0} (F : FaultBy) (G : MeaningBy A) (w new : Walk) (before i more : ℕ)
      (m : ScopeMark) (a b next : Option Fault) (olds one news : List A)
      → Judges ns ms k l F G w before i a olds → Further ms i m → new.round ≡ passed w.round m
      → AreSlots ns (bindings_in ns l) new.round.round new.slots
      → more ≡ length (bindings_of k w.round.round m) → more ≤ 1
      → b ≡ F (bindings_in ns l) w.round.round before m
      → (F (bindings_in ns l) w.round.round before m ≡ None
      → map Some one ≡ G (bindings_in ns l) w.round.round m)
      → next ≡ earlier_of a b → news ≡ olds ++ one
      → Judges ns ms k l F G new (before + more) (i + 1) next news
  judges-step F G w new before i more m a b next olds one news j x round slots count few is means found told = record {
    going = going-step w new before i more m j.going x round slots count;
    few = let less = j.few in omega arith;
    first =
        subst (λ (l : List ScopeMark). IsFirst (IsFaultBy (rule_in ms k F) l) next) (sym x.longer)
        (subst (IsFirst (IsFaultBy (rule_in ms k F) (take i ms ++ m ∷ [])))
        (sym (found ∙ ap (earlier_of a) (is ∙ rule-is F w before i m j.going)))
        (first-more (rule_in ms k F) (take i ms) m a j.first));
    meanings = λ none.
        let both = earlier_of-both-none a b (sym found ∙ none) in
        ap (map Some) told ∙ map-append Some olds one
        ∙ ap (λ y. y ++ map Some one) (j.meanings both.0)
        ∙ ap (λ y. along (G (bindings k ms)) top (take i ms) ++ y)
        (means (sym is ∙ both.1) ∙ rule-is (λ ds round n q. G ds round q) w before i m j.going)
        ∙ sym (further-along (G (bindings k ms)) ms i m x);
  }

  -- a walk that judges begins before the first mark
  pub judges-start : {A : Type 0} (F : FaultBy) (G : MeaningBy A) (w : Walk) (a : Option Fault)
      (told : List A) → w.round ≡ top → AreSlots ns (bindings_in ns l) w.round.round w.slots
      → a ≡ None → told ≡ [] → Judges ns ms k l F G w 0 0 a told
  judges-start F G w a told round slots none empty = record {
    going = going-start w round slots;
    few = omega arith;
    first = subst (IsFirst (IsFaultBy (rule_in ms k F) [])) (sym none) (first-none (rule_in ms k F));
    meanings = λ e. ap (map Some) empty;
  }

-- the same of regions that are written out
pub own-is : (ds : List Binding) (r n : ℕ) (rest : List ℕ) (x : Name) → Descend n (r ∷ rest)
    → in_own (meant ds (r ∷ rest) x) r ≡ first_in ds r x
own-is ds r n rest x descend = by (first_in ds r x) refl (meant ds rest x) refl
  where
    other : (k : ℕ) → k < r → (k == r) ≡ false
    other k less = grind (arith, nat_tests)

    by : (o : Option FoundBinding) → first_in ds r x ≡ o → (m : Option FoundBinding) → meant ds rest x ≡ m
        → in_own (or_else o m) r ≡ o
    by None e None f = refl
    by None e (Some g) f =
        ap (λ b. if b then Some g else None)
        (other g.region (meant-below ds rest r x g descend.1 f))
    by (Some g) e m f =
        let h = found-is ds 0 r x g e in
        let region : g.region ≡ r = ap (λ k. k.region) h.is ∙ h.own in
        ap (λ k. if k == r then Some g else None) region
        ∙ ap (λ b. if b then Some g else None) (itself r)

-- what is meant in the innermost region, by what is meant in all
pub own-round : (ds : List Binding) (n : ℕ) (round : List ℕ) (x : Name) → 0 < length round
    → Descend n round → in_own (meant ds round x) (own round) ≡ first_in ds (own round) x
own-round ds n [] x some descend = absurd (omega arith)
own-round ds n (r ∷ rest) x some descend = own-is ds r n rest x descend

-- the fault of a definition, by the least number of an earlier one
pub define-fault : (ns : List Name) (ds : List Binding) (round : List ℕ) (before : ℕ) (next : Call)
    (name place count : ℕ) (slot : NameSlot) → next ≡ NameCall name (Define place count)
    → slot ≡ slot_of ds round (numbered_name ns name) → before ≤ length ds
    → value_fault ds round before (mark_of ns next) ≡ fault_if (nat_lt slot.least before) place 8
define-fault ns ds round before next name place count slot e is most =
    ap (λ x. value_fault ds round before (mark_of ns x)) e
    ∙ ap (λ b. fault_if b place 8) (sym (least-tells ds round (numbered_name ns name) before most))
    ∙ ap (λ (l : NameSlot). fault_if (nat_lt l.least before) place 8) (sym is)

-- the test of what is less
pub less-is : (a b : ℕ) → a < b → nat_lt a b ≡ true
less-is a b h = grind (arith, nat_tests)

-- the test of what is not less
pub less-not : (a b : ℕ) → b ≤ a → nat_lt a b ≡ false
less-not a b h = grind (arith, nat_tests)
