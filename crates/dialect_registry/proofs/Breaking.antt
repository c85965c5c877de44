-- The first of the faults of one rule.
use Rattle.std.proofs.Common.{◌≡◌, inr, ℕ, Bool, true, false, List, refl, sym, ◌∙◌, ap, subst, slice_get, arith, not, is_some, min, ◌<◌, nat_lt, bytes_eq, position, ◌∷◌, [], ◌+◌, ◌||◌, cond, if◌then◌else◌, IsTrue, ◌↔◌}
use Rattle.std.specs.Prelude.{option_map}
use Rattle.std.specs.List.{list_any, position_from}
use Rattle.std.proofs.lemmas.Bool.Decides.{nat_tests}
use Rattle.std.proofs.lemmas.Iterator.Adapters.{position_from-zero}
use borrow.Author.Tests.{ltb-true}
use Rattle.std.specs.declared.option.Option.{Option}
use Rattle.std.specs.declared.option.Option.TheVariants.{Some, None}
use Rattle.first_fault.specs.declared.fault.Fault.{Fault}
use Rattle.first_fault.specs.Firsts.{IsFirst, NoLater}
use Rattle.dialect_registry.specs.declared.code.DefCode.{DefCode}
use Rattle.dialect_registry.specs.declared.code.DefCode.TheVariants.{VarLimit, PredicateUnknown}
use Rattle.dialect_registry.specs.Codes.{refusal, Breaks}
use Rattle.ir_lexer.specs.Spelling.{Text}
use Rattle.dialect_registry.specs.Limits.{IsExtra}
use Rattle.dialect_registry.specs.References.{is_given}

-- a set of one fault has that as its first
first-alone : (P : Fault → Type 0) (f : Fault) → P f → ((g : Fault) → P g → g ≡ f)
    → IsFirst P (Some f)
first-alone P f here only = (
  here,
  λ g p. subst (λ h. NoLater f h) (sym (only g p)) (inr (refl, omega arith)),
)

-- a rule that is broken where a test says so
pub breaks-first : (B : Type 0) (b : Bool) (place : ℕ) (code : DefCode) → (IsTrue b ↔ B)
    → IsFirst (Breaks B place code) (if b then Some (refusal place code) else None)
breaks-first B true place code means =
    first-alone (Breaks B place code) (refusal place code) (means.0 refl, refl) (λ g p. p.1)
breaks-first B false place code means = λ f p. absurd (let e : false ≡ true = means.1 p.0 in cc)

-- a test that is the rule
pub breaks-true : (x b : Bool) (place : ℕ) (code : DefCode) → b ≡ x
    → IsFirst (Breaks (x ≡ true) place code) (if b then Some (refusal place code) else None)
breaks-true x b place code is =
    breaks-first (x ≡ true) b place code ((λ e. sym is ∙ e), (λ e. is ∙ e))

pub breaks-false : (x b : Bool) (place : ℕ) (code : DefCode) → b ≡ x
    → IsFirst (Breaks (x ≡ false) place code) (if not b then Some (refusal place code) else None)
breaks-false x true place code is = λ f p. absurd (let e : true ≡ false = is ∙ p.0 in cc)
breaks-false x false place code is =
    breaks-first (x ≡ false) true place code ((λ e. sym is), (λ e. refl))

-- a rule that is broken, or isn't
pub breaks-here : (B : Type 0) (place : ℕ) (code : DefCode) → B
    → IsFirst (Breaks B place code) (Some (refusal place code))
breaks-here B place code here =
    breaks-first B true place code ((λ e. here), (λ b. refl))

pub breaks-never : (B : Type 0) (place : ℕ) (code : DefCode) → (B → ⊥)
    → IsFirst (Breaks B place code) None
breaks-never B place code never = λ f p. never p.0

from-some : {A : Type 0} (p : A → Bool) (n : ℕ) (xs : List A)
    → is_some (position_from p n xs) ≡ list_any p xs
from-some p n [] = refl
from-some p n (x ∷ xs) = go (p x) (from-some p (n + 1) xs)
  where
    go : (b : Bool) → is_some (position_from p (n + 1) xs) ≡ list_any p xs
        → is_some (cond b (Some n) (position_from p (n + 1) xs)) ≡ (b || list_any p xs)
    go true e = refl
    go false e = e

-- what is found in a list is there
position-some : {A : Type 0} (p : A → Bool) (xs : List A)
    → is_some (position p xs) ≡ list_any p xs
position-some p xs = ap is_some (position_from-zero p xs) ∙ from-some p 0 xs

-- a name that isn't found in the list of predicates
pub breaks-missing : (natives : List Text) (name : Text) (place : ℕ) (found : Option ℕ) (b : Bool)
    → found ≡ position (λ own. bytes_eq own name) natives → is_some found ≡ not b
    → IsFirst (Breaks (is_given natives name ≡ false) place PredicateUnknown)
    (if b then Some (refusal place PredicateUnknown) else None)
breaks-missing natives name place found b is means =
    let e : is_given natives name ≡ not b =
    sym (position-some (λ own. bytes_eq own name) natives) ∙ ap is_some (sym is) ∙ means in
    go b e
  where
    go : (b : Bool) → is_given natives name ≡ not b
        → IsFirst (Breaks (is_given natives name ≡ false) place PredicateUnknown)
        (if b then Some (refusal place PredicateUnknown) else None)
    go true e = breaks-here (is_given natives name ≡ false) place PredicateUnknown e
    go false e =
        breaks-never (is_given natives name ≡ false) place PredicateUnknown
        (λ none. let clash : true ≡ false = sym e ∙ none in cc)

-- the test of a number that was kept below another limit
pub breaks-over : (limit most n k place : ℕ) (code : DefCode) → k ≡ min n most → limit < most
    → IsFirst (Breaks (limit < n) place code)
    (if nat_lt limit k then Some (refusal place code) else None)
breaks-over limit most n k place code is less =
    breaks-first (limit < n) (nat_lt limit k) place code (
      (λ e. let f : limit < k = ltb-true limit k e in omega arith),
      (λ more. let f : limit < k = omega arith in grind (arith, nat_tests)),
    )

-- one is too many where it is there
pub extra-first : (limit : ℕ) (places : List ℕ) (o : Option ℕ) → slice_get places limit ≡ o
    → IsFirst (IsExtra limit places) (option_map (λ place. refusal place VarLimit) o)
extra-first limit places (Some place) is =
    first-alone (IsExtra limit places) (refusal place VarLimit) (place, is, refl)
    (λ g p. let e : Some p.0 ≡ Some place = sym p.1 ∙ is in
    let same : p.0 ≡ place = cc in p.2 ∙ ap (λ n. refusal n VarLimit) same)
extra-first limit places None is = λ f p. absurd (let e : Some p.0 ≡ None = sym p.1 ∙ is in cc)
