-- What is asked of variables, as a list of roots.
use Rattle.std.proofs.Common.{◌≡◌, ℕ, zero, suc, ◌+◌, ◌<◌, ◌≤◌, List, [], ◌∷◌, ◌++◌, length}
use Rattle.std.proofs.Common.{Option, Some, None, slice_get, refl, ap, sym}
use Rattle.std.proofs.Common.{◌∙◌, subst, arith}
use Rattle.std.specs.Prelude.{slice_index_or}
use Rattle.std.specs.List.{AllByRecursion}
use Rattle.attr_value.specs.declared.head.ValueId.{ValueId}
use Rattle.attr_value.specs.Ids.{at}
use Rattle.attr_value.specs.Values.{Value}
use Rattle.dialect_defs.specs.declared.body.VarId.{VarId}
use Rattle.dialect_defs.specs.Assignments.{Assignment, Has, IsWithin}
use Rattle.constraint_solver.specs.Roots.{assigned, AreKnownIds}
use Rattle.op_verifier.specs.Asked.{Slots}
use Rattle.op_verifier.specs.Parts.{root_of, roots_of}
use Rattle.constraint_solver.proofs.Given.{has-slot, slot-has}

-- a root's variable has its value
abbrev pub RootHas : List Value → Assignment → VarId × ValueId → Type 0
RootHas values a root = Has a root.0 (at values root.1.0)

all-append : {X : Type 0} (P : X → Type 0) (xs ys : List X) → AllByRecursion P (xs ++ ys)
    → AllByRecursion P xs × AllByRecursion P ys
all-append P [] ys all = (tt, all)
all-append P (x ∷ xs) ys all = let rest = all-append P xs ys all.1 in ((all.0, rest.0), rest.1)

append-all : {X : Type 0} (P : X → Type 0) (xs ys : List X) → AllByRecursion P xs
    → AllByRecursion P ys → AllByRecursion P (xs ++ ys)
append-all P [] ys first second = second
append-all P (x ∷ xs) ys first second = (first.0, append-all P xs ys first.1 second)

-- the variables from n on have what is asked of them
abbrev WithinFrom : List Value → ℕ → Slots → Assignment → Type 0
WithinFrom values n slots a =
    (i : ℕ) (id : ValueId) → slice_index_or slots i None ≡ Some id
    → slice_get a (n + i) ≡ Some (Some (at values id.0))

within-of-roots : (values : List Value) (n : ℕ) (slots : Slots) (a : Assignment)
    → AllByRecursion (RootHas values a) (roots_of n slots) → WithinFrom values n slots a
within-of-roots values n [] a all i id e = cc
within-of-roots values n (None ∷ slots) a all zero id e = cc
within-of-roots values n (Some x ∷ slots) a all zero id e =
    let same : x ≡ id = cc in
    let start : n ≡ n + 0 = omega arith in
    let first : slice_get a n ≡ Some (Some (at values x.0)) = all.0 in
    subst (λ k. slice_get a k ≡ Some (Some (at values id.0))) start
    (first ∙ ap (λ (y : ValueId). Some (Some (at values y.0))) same)
within-of-roots values n (slot ∷ slots) a all (suc i) id e =
    let next : n + 1 + i ≡ n + suc i = omega arith in
    let rest = (all-append (RootHas values a) (root_of n slot) (roots_of (n + 1) slots) all).1 in
    subst (λ k. slice_get a k ≡ Some (Some (at values id.0))) next
    (within-of-roots values (n + 1) slots a rest i id e)

root-holds : (values : List Value) (n : ℕ) (slot : Option ValueId) (slots : Slots) (a : Assignment)
    → WithinFrom values n (slot ∷ slots) a → AllByRecursion (RootHas values a) (root_of n slot)
root-holds values n None slots a within = tt
root-holds values n (Some id) slots a within =
    let start : n + 0 ≡ n = omega arith in
    (subst (λ k. slice_get a k ≡ Some (Some (at values id.0))) start (within 0 id refl), tt)

roots-of-within : (values : List Value) (n : ℕ) (slots : Slots) (a : Assignment)
    → WithinFrom values n slots a → AllByRecursion (RootHas values a) (roots_of n slots)
roots-of-within values n [] a within = tt
roots-of-within values n (slot ∷ slots) a within =
    append-all (RootHas values a) (root_of n slot) (roots_of (n + 1) slots)
    (root-holds values n slot slots a within)
    (roots-of-within values (n + 1) slots a (λ i id e.
    let next : n + suc i ≡ n + 1 + i = omega arith in
    subst (λ k. slice_get a k ≡ Some (Some (at values id.0))) next (within (suc i) id e)))

-- a map that has the roots has what is asked, and the other way round
pub roots-within : (values : List Value) (slots : Slots) (a : Assignment)
    → AllByRecursion (RootHas values a) (roots_of 0 slots) → IsWithin (assigned values slots) a
roots-within values slots a all v x has =
    let slot = slot-has values slots v x has in
    let start : 0 + v.0 ≡ v.0 = omega arith in
    subst (λ k. slice_get a k ≡ Some (Some (at values slot.id.0))) start
    (within-of-roots values 0 slots a all v.0 slot.id slot.stands)
    ∙ ap (λ y. Some (Some y)) slot.value

-- a map that has what is asked has the roots
pub within-roots : (values : List Value) (slots : Slots) (a : Assignment)
    → IsWithin (assigned values slots) a → AllByRecursion (RootHas values a) (roots_of 0 slots)
within-roots values slots a within =
    roots-of-within values 0 slots a (λ i id e.
    let start : i ≡ 0 + i = omega arith in
    subst (λ k. slice_get a k ≡ Some (Some (at values id.0))) start
    (within (record { 0 = i }) (at values id.0)
    (has-slot values slots (record { 0 = i }) id e)))

-- the roots are those of a body of as many variables
pub roots-vars : (n total : ℕ) (slots : Slots) → n + length slots ≤ total
    → AllByRecursion (λ (root : VarId × ValueId). root.0.0 < total) (roots_of n slots)
roots-vars n total [] within = tt
roots-vars n total (None ∷ slots) within = roots-vars (n + 1) total slots (omega arith)
roots-vars n total (Some id ∷ slots) within =
    (omega arith, roots-vars (n + 1) total slots (omega arith))

-- the roots have known ids where the slots do
pub roots-ids : (n len : ℕ) (slots : Slots) → AreKnownIds len slots
    → AllByRecursion (λ (root : VarId × ValueId). root.1.0 < len) (roots_of n slots)
roots-ids n len [] known = tt
roots-ids n len (None ∷ slots) known = roots-ids (n + 1) len slots (λ i id e. known (suc i) id e)
roots-ids n len (Some id ∷ slots) known =
    (known 0 id refl, roots-ids (n + 1) len slots (λ i id e. known (suc i) id e))

-- where nothing is asked, each map has it
pub none-within : (values : List Value) (slots : Slots) → AllByRecursion (λ slot. slot ≡ None) slots
    → (a : Assignment) → IsWithin (assigned values slots) a
none-within values slots all a = roots-within values slots a (empty 0 slots all) where
  empty : (n : ℕ) (slots : Slots) → AllByRecursion (λ slot. slot ≡ None) slots
      → AllByRecursion (RootHas values a) (roots_of n slots)
  empty n [] all = tt
  empty n (slot ∷ slots) all =
      append-all (RootHas values a) (root_of n slot) (roots_of (n + 1) slots)
      (subst (λ s. AllByRecursion (RootHas values a) (root_of n s)) (sym all.0) tt)
      (empty (n + 1) slots all.1)
