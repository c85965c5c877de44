-- The first fault of a text, from those of its three kinds of names.
use Rattle.std.proofs.Common.{◌≡◌, ◌⊎◌, List, ap, sym, ◌∙◌, subst}
use Rattle.std.specs.declared.option.Option.{Option}
use Rattle.first_fault.specs.declared.fault.Fault.{Fault}
use Rattle.first_fault.specs.Firsts.{earlier_of, IsFirst, IsFaultBy}
use Rattle.first_fault.proofs.Firsts.{first-either}
use Rattle.symbol_scopes.specs.declared.call.Call.{Call}
use Rattle.symbol_scopes.specs.ScopeMarks.{Name, ScopeMark}
use Rattle.symbol_scopes.specs.Calls.{marks_of}
use Rattle.symbol_scopes.specs.Faults.{IsNameFault, values_rule, blocks_rule, alias_fault}

-- the first of all faults is the earliest of the first of each kind
pub first-of-all : (ms : List ScopeMark) (a b c : Option Fault)
    → IsFirst (IsFaultBy (values_rule ms) ms) a → IsFirst (IsFaultBy (blocks_rule ms) ms) b
    → IsFirst (IsFaultBy alias_fault ms) c
    → IsFirst (IsNameFault ms) (earlier_of (earlier_of a b) c)
first-of-all ms a b c x y z =
    first-either (λ f. IsFaultBy (values_rule ms) ms f ⊎ IsFaultBy (blocks_rule ms) ms f)
    (IsFaultBy alias_fault ms) (earlier_of a b) c
    (first-either (IsFaultBy (values_rule ms) ms) (IsFaultBy (blocks_rule ms) ms) a b x y) z

-- the same, of the marks that calls stand for
pub first-of-three : (ns : List Name) (calls : List Call) (ms : List ScopeMark)
    (a b c both all : Option Fault) → marks_of ns calls ≡ ms
    → IsFirst (IsFaultBy (values_rule (marks_of ns calls)) (marks_of ns calls)) a
    → IsFirst (IsFaultBy (blocks_rule (marks_of ns calls)) (marks_of ns calls)) b
    → IsFirst (IsFaultBy alias_fault (marks_of ns calls)) c
    → both ≡ earlier_of a b → all ≡ earlier_of both c
    → IsFirst (IsNameFault ms) all
first-of-three ns calls ms a b c both all e p q r first second =
    subst (λ (l : List ScopeMark). IsFirst (IsNameFault l) all) e
    (subst (IsFirst (IsNameFault (marks_of ns calls)))
    (sym (second ∙ ap (λ o. earlier_of o c) first))
    (first-of-all (marks_of ns calls) a b c p q r))
