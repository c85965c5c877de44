-- The members of an `any_of` that were tried.
use Rattle.std.proofs.Common.{ℕ, List}
use Rattle.attr_value.specs.Values.{Value}
use Rattle.dialect_defs.specs.declared.body.Body.{Body}
use Rattle.dialect_defs.specs.declared.body.VarId.{VarId}
use Rattle.dialect_defs.specs.Assignments.{Tests, Assignment, Has}
use Rattle.constraint_solver.specs.Search.{Forced, Refuted, MeetsBelow}

-- no assignment above the first gives the member this value and settles the variables below v
abbrev pub MemberRefuted : ℕ → List Value → Tests → Body → Assignment → VarId → Value → Type 0
MemberRefuted v values tests body old m x =
    Refuted old (λ a. Has a m x × MeetsBelow v values tests body a)

-- a member whose value leaves the variables before unsettled is refused
pub member-taken : (v : ℕ) (values : List Value) (tests : Tests) (body : Body)
    (old mid : Assignment) (m : VarId) (x : Value) → Forced v old mid (λ a. Has a m x)
    → Refuted mid (MeetsBelow v values tests body) → MemberRefuted v values tests body old m x
member-taken v values tests body old mid m x f r a under h = r a (f.least a under h.0) h.1
