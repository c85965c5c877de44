-- The calls that steps stand for: a step has small numbers in place, and any other call is kept
-- among the large ones.
--
--   call_of large step      the call of a step
--   calls_of large steps    the calls of steps
--   AreSteps large steps    the places of the steps are among the large calls
--   IsStepOf call step      the step is of this call, which is not a large one
--
-- Inside: no public clause rests on this.
use Rattle.std.specs.Prelude.{◌≡◌, ℕ, ◌+◌, ◌<◌, ◌^◌, List, map, length, get_or}
use Rattle.std.specs.List.{AllByRecursion}
use Rattle.symbol_scopes.specs.declared.call.Call.{Call}
use Rattle.symbol_scopes.specs.declared.call.Call.TheVariants as c
use Rattle.symbol_scopes.specs.declared.call.Said.TheVariants as s
use Rattle.symbol_scopes.specs.declared.calls.Step.{Step}
use Rattle.symbol_scopes.specs.declared.calls.Step.TheVariants as t

-- the call of a step
abbrev pub call_of : List Call → Step → Call
call_of large t.Enter = c.Enter
call_of large t.Leave = c.Leave
call_of large (t.BadPack place) = c.BadPack place
call_of large (t.Define count name place) = c.Name name (s.Define place count)
call_of large (t.Use number ahead name place) = c.Name name (s.Use place number (place + ahead))
call_of large (t.Label block name place) = c.Name name (s.Label place block)
call_of large (t.LeadTo name place) = c.Name name (s.LeadTo place)
call_of large (t.DefineAlias is_type name place) = c.Name name (s.DefineAlias is_type place)
call_of large (t.MentionAlias is_type name place) = c.Name name (s.MentionAlias is_type place)
call_of large (t.Large at) = get_or large at c.Enter

-- the calls of steps
abbrev pub calls_of : List Call → List Step → List Call
calls_of large steps = map (call_of large) steps

-- the number of a use has a place of 32 bits, and a large call is among the first n
abbrev pub IsStep : ℕ → Step → Type 0
IsStep n (t.Use number ahead name place) = place + ahead < 2 ^ 32
IsStep n (t.Large at) = at < n
IsStep n _ = Unit {0}

-- each step is one among so many large calls
abbrev pub AreSteps : List Call → List Step → Type 0
AreSteps large steps = AllByRecursion (IsStep (length large)) steps

-- the step is of this call, whatever the large ones are
pub record IsStepOf (call : Call) (step : Step) : Type 0 where
  pub is : (large : List Call) → call_of large step ≡ call
  pub fits : (n : ℕ) → IsStep n step
