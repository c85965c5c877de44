-- The lists whose variables are given values: variables of one value, variables with a value each,
-- and roots.
use Rattle.std.proofs.Common.{◌≡◌, ℕ, ◌+◌, ◌<◌, ◌≤◌, List, length}
use Rattle.std.specs.List.{AllByRecursion}
use Rattle.attr_value.specs.declared.head.ValueId.{ValueId}
use Rattle.attr_value.specs.Ids.{at, kids_at}
use Rattle.attr_value.specs.Values.{Value, list_of}
use Rattle.dialect_defs.specs.declared.body.VarId.{VarId}
use Rattle.dialect_defs.specs.Assignments.{Assignment, Has, HaveEach}
use Rattle.constraint_solver.specs.Roots.{HasRoots}
use Rattle.constraint_solver.specs.Search.{Forced, Refuted}
use Rattle.constraint_solver.proofs.Filled.{Filled, filled-more, filled-forced, filled-refuted}
use Rattle.constraint_solver.proofs.Filled.{var_at, id_at, root_at, all-at, all-from}
use Rattle.constraint_solver.proofs.Filled.{have-from, have-at}

-- the first i variables of a list have one value
abbrev pub FilledAll : List Value → ℕ → Assignment → List VarId → ValueId → Assignment → ℕ → Type 0
FilledAll values n old vars id now i =
    Filled n old now (var_at vars) (λ k. at values id.0) (length vars) i

-- they have the values of the ids at their places
abbrev pub FilledEach : List Value → ℕ → Assignment → List VarId → List ValueId → Assignment → ℕ
    → Type 0
FilledEach values n old vars ids now i =
    Filled n old now (var_at vars) (λ k. at values (id_at ids k).0) (length vars) i

-- the variables of the first i roots have the values of the roots
abbrev pub FilledRoots : List Value → ℕ → Assignment → List (VarId × ValueId) → Assignment → ℕ
    → Type 0
FilledRoots values n old roots now i = Filled n old now (λ k. (root_at roots k).0)
    (λ k. at values (root_at roots k).1.0) (length roots) i

module _ (values : List Value) (n : ℕ) (old : Assignment) where
  module _ (vars : List VarId) (id : ValueId) where
    abbrev AllHave : Assignment → Type 0
    AllHave a = AllByRecursion (λ v. Has a v (at values id.0)) vars

    -- one more variable of the list has the value
    pub all-more : (now next : Assignment) (i : ℕ) → i < length vars
        → FilledAll values n old vars id now i
        → Forced n now next (λ a. Has a (var_at vars i) (at values id.0))
        → FilledAll values n old vars id next (i + 1)
    all-more = filled-more n old (var_at vars) (λ k. at values id.0) (length vars)

    -- all variables have it
    pub all-forced : (now : Assignment) (i : ℕ) → length vars ≤ i
        → FilledAll values n old vars id now i → Forced n old now AllHave
    all-forced now i past = filled-forced n old (var_at vars) (λ k. at values id.0) (length vars)
        now i AllHave past
        (λ a have. all-from (λ v. Has a v (at values id.0)) vars (record { 0 = 0 }) have)
        (λ a all k within.
        all-at (λ v. Has a v (at values id.0)) vars k (record { 0 = 0 }) within all)

    -- one can't have it
    pub all-refuted : (now : Assignment) (i : ℕ) → i < length vars
        → FilledAll values n old vars id now i
        → Refuted now (λ a. Has a (var_at vars i) (at values id.0)) → Refuted old AllHave
    all-refuted now i within = filled-refuted n old (var_at vars) (λ k. at values id.0)
        (length vars) now i AllHave within
        (λ a all k before.
        all-at (λ v. Has a v (at values id.0)) vars k (record { 0 = 0 }) before all)

  module _ (vars : List VarId) (ids : List ValueId) where
    abbrev EachHas : Assignment → Type 0
    EachHas a = HaveEach a vars (list_of (kids_at values ids))

    -- one more variable has the value at its place
    pub each-more : (now next : Assignment) (i : ℕ) → i < length vars
        → FilledEach values n old vars ids now i
        → Forced n now next (λ a. Has a (var_at vars i) (at values (id_at ids i).0))
        → FilledEach values n old vars ids next (i + 1)
    each-more =
        filled-more n old (var_at vars) (λ k. at values (id_at ids k).0) (length vars)

    -- each variable has its value
    pub each-forced : (now : Assignment) (i : ℕ) → length vars ≡ length ids → length vars ≤ i
        → FilledEach values n old vars ids now i → Forced n old now EachHas
    each-forced now i same past = filled-forced n old (var_at vars)
        (λ k. at values (id_at ids k).0) (length vars) now i EachHas past
        (λ a have. have-from values vars ids a same have) (λ a have. have-at values vars ids a have)

    -- one can't have its value
    pub each-refuted : (now : Assignment) (i : ℕ) → i < length vars
        → FilledEach values n old vars ids now i
        → Refuted now (λ a. Has a (var_at vars i) (at values (id_at ids i).0))
        → Refuted old EachHas
    each-refuted now i within = filled-refuted n old (var_at vars) (λ k. at values (id_at ids k).0)
        (length vars) now i EachHas within (λ a have. have-at values vars ids a have)

  module _ (roots : List (VarId × ValueId)) where
    abbrev IsRoot : Assignment → VarId × ValueId → Type 0
    IsRoot a root = Has a root.0 (at values root.1.0)

    abbrev variable : ℕ → VarId
    variable k = (root_at roots k).0

    abbrev valued : ℕ → Value
    valued k = at values (root_at roots k).1.0

    -- the variable of one more root has its value
    pub roots-more : (now next : Assignment) (i : ℕ) → i < length roots
        → FilledRoots values n old roots now i
        → Forced n now next (λ a. Has a (variable i) (valued i))
        → FilledRoots values n old roots next (i + 1)
    roots-more = filled-more n old variable valued (length roots)

    -- those of all roots have theirs
    pub roots-forced : (now : Assignment) (i : ℕ) → length roots ≤ i
        → FilledRoots values n old roots now i → Forced n old now (HasRoots values roots)
    roots-forced now i past = filled-forced n old variable valued (length roots) now i
        (HasRoots values roots) past
        (λ a have. all-from (IsRoot a) roots (record { 0 = 0 }, record { 0 = 0 }) have)
        (λ a all k within.
        all-at (IsRoot a) roots k (record { 0 = 0 }, record { 0 = 0 }) within all)

    -- that of one root can't have its value
    pub roots-refuted : (now : Assignment) (i : ℕ) → i < length roots
        → FilledRoots values n old roots now i
        → Refuted now (λ a. Has a (variable i) (valued i)) → Refuted old (HasRoots values roots)
    roots-refuted now i within = filled-refuted n old variable valued (length roots) now i
        (HasRoots values roots) within
        (λ a all k before.
        all-at (IsRoot a) roots k (record { 0 = 0 }, record { 0 = 0 }) before all)
