-- Giving values to the variables of a list, one after the other.
use Rattle.std.proofs.Common.{◌≡◌, ℕ, zero, suc, ◌+◌, ◌<◌, ◌≤◌, List, [], ◌∷◌, length}
use Rattle.std.proofs.Common.{refl, ap, sym, arith, get_or, below_more}
use Rattle.std.proofs.lemmas.List.{get_or-map}
use Rattle.std.specs.List.{AllByRecursion}
use Rattle.attr_value.specs.declared.head.ValueId.{ValueId}
use Rattle.attr_value.specs.Ids.{at, kids_at, AreKnown}
use Rattle.attr_value.specs.Values.{Value, list_of}
use Rattle.dialect_defs.specs.declared.body.VarId.{VarId}
use Rattle.dialect_defs.specs.declared.entry.Entry.{Entry}
use Rattle.dialect_defs.specs.Assignments.{Assignment, Has, HaveEach, IsWithin}
use Rattle.dialect_defs.specs.Goodness.{vars_of}
use Rattle.constraint_solver.specs.Search.{SameFrom, Forced, Refuted}

-- what holds of each item holds of the one at a place, and the other way round
pub all-at : {X : Type 0} (P : X → Type 0) (xs : List X) (k : ℕ) (d : X) → k < length xs
    → AllByRecursion P xs → P (get_or xs k d)
all-at P [] k d within all = absurd (omega arith)
all-at P (x ∷ xs) zero d within all = all.0
all-at P (x ∷ xs) (suc k) d within all = all-at P xs k d (omega arith) all.1

-- what holds at each place holds of each item
pub all-from : {X : Type 0} (P : X → Type 0) (xs : List X) (d : X)
    → ((k : ℕ) → k < length xs → P (get_or xs k d)) → AllByRecursion P xs
all-from P [] d each = tt
all-from P (x ∷ xs) d each =
    (each zero (omega arith), all-from P xs d (λ k within. each (suc k) (omega arith)))

-- the variable and the id at a place
abbrev pub var_at : List VarId → ℕ → VarId
var_at vars k = get_or vars k (record { 0 = 0 })

-- the id at a place
abbrev pub id_at : List ValueId → ℕ → ValueId
id_at ids k = get_or ids k (record { 0 = 0 })

-- the root at a place
abbrev pub root_at : List (VarId × ValueId) → ℕ → VarId × ValueId
root_at roots k = get_or roots k (record { 0 = 0 }, record { 0 = 0 })

-- the id at a place is known where all are
pub known-at : (n : ℕ) (ids : List ValueId) (k : ℕ) → k < length ids → AreKnown n ids
    → (id_at ids k).0 < n
known-at n [] k within known = absurd (omega arith)
known-at n (id ∷ ids) zero within known = known.0
known-at n (id ∷ ids) (suc k) within known = known-at n ids k (omega arith) known.1

-- as many variables as values
pub have-lengths : (a : Assignment) (vars : List VarId) (xs : List Value) → HaveEach a vars xs
    → length vars ≡ length xs
have-lengths a [] [] have = refl
have-lengths a [] (x ∷ xs) have = absurd have
have-lengths a (v ∷ vars) [] have = absurd have
have-lengths a (v ∷ vars) (x ∷ xs) have = ap suc (have-lengths a vars xs have.1)

-- each of the first variables of V has the value of X at its place
abbrev pub Have : (V : ℕ → VarId) (X : ℕ → Value) (len : ℕ) → Assignment → Type 0
Have V X len a = (k : ℕ) → k < len → Has a (V k) (X k)

-- variables that have the values at their places have them one by one
pub have-from : (values : List Value) (vars : List VarId) (ids : List ValueId) (a : Assignment)
    → length vars ≡ length ids
    → Have (var_at vars) (λ k. at values (id_at ids k).0) (length vars) a
    → HaveEach a vars (list_of (kids_at values ids))
have-from values [] [] a same have = tt
have-from values [] (id ∷ ids) a same have = absurd (omega arith)
have-from values (v ∷ vars) [] a same have = absurd (omega arith)
have-from values (v ∷ vars) (id ∷ ids) a same have = (
  have zero (omega arith),
  have-from values vars ids a (omega arith) (λ k within. have (suc k) (omega arith)),
)

-- and the other way round
pub have-at : (values : List Value) (vars : List VarId) (ids : List ValueId) (a : Assignment)
    → HaveEach a vars (list_of (kids_at values ids))
    → Have (var_at vars) (λ k. at values (id_at ids k).0) (length vars) a
have-at values [] ids a have k within = absurd (omega arith)
have-at values (v ∷ vars) [] a have k within = absurd have
have-at values (v ∷ vars) (id ∷ ids) a have zero within = have.0
have-at values (v ∷ vars) (id ∷ ids) a have (suc k) within =
    have-at values vars ids a have.1 k (omega arith)

-- the variable of the parameter at a place
pub param-at : (params : List Entry) (k : ℕ) (d : Entry) → k < length params
    → (get_or params k d).var ≡ var_at (vars_of params) k
param-at params k d within =
    sym (get_or-map (λ p. p.var) params k d (record { 0 = 0 }) within)

-- there are as many variables as parameters
pub length-vars : (params : List Entry) → length (vars_of params) ≡ length params
length-vars [] = refl
length-vars (p ∷ params) = ap suc (length-vars params)

-- the first i variables were given their values
pub record Filled (n : ℕ) (old now : Assignment) (V : ℕ → VarId) (X : ℕ → Value) (len i : ℕ)
    : Type 0 where
  pub grown : IsWithin old now
  pub done : Have V X i now
  pub least : (a : Assignment) → IsWithin old a → Have V X len a → IsWithin now a
  pub above : SameFrom n old now

module _ (n : ℕ) (old : Assignment) (V : ℕ → VarId) (X : ℕ → Value) (len : ℕ) where
  -- before the first, none was given its value
  pub filled-none : Filled n old old V X len 0
  filled-none = record {
    grown = λ v x has. has;
    done = λ k within. absurd (omega arith);
    least = λ a under have. under;
    above = λ v x from has. has;
  }

  -- the next variable is given its value
  pub filled-more : (now next : Assignment) (i : ℕ) → i < len → Filled n old now V X len i
      → Forced n now next (λ a. Has a (V i) (X i)) → Filled n old next V X len (i + 1)
  filled-more now next i within f s = record {
    grown = λ v x has. s.grown v x (f.grown v x has);
    done = below_more (λ k. Has next (V k) (X k)) i
        (λ k before. s.grown (V k) (X k) (f.done k before)) s.holds;
    least = λ a under have. s.least a (f.least a under have) (have i within);
    above = λ v x from has. f.above v x from (s.above v x from has);
  }

  -- where what all have is what is asked, all of them make it the least assignment
  pub filled-forced : (now : Assignment) (i : ℕ) (P : Assignment → Type 0) → len ≤ i
      → ((a : Assignment) → Have V X len a → P a) → ((a : Assignment) → P a → Have V X len a)
      → Filled n old now V X len i → Forced n old now P
  filled-forced now i P all there back f = record {
    grown = f.grown;
    holds = there now (λ k within. f.done k (omega arith));
    least = λ a under p. f.least a under (back a p);
    above = f.above;
  }

  -- where one of them can't be given its value, no assignment has what is asked
  pub filled-refuted : (now : Assignment) (i : ℕ) (P : Assignment → Type 0) → i < len
      → ((a : Assignment) → P a → Have V X len a) → Filled n old now V X len i
      → Refuted now (λ a. Has a (V i) (X i)) → Refuted old P
  filled-refuted now i P within back f r a under p =
      r a (f.least a under (back a p)) (back a p i within)
