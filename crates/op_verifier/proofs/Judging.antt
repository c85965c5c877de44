-- How what an operation asks decides whether it meets its definition.
use Rattle.std.proofs.Common.{◌≡◌, ◌↔◌, ℕ, ◌<◌, List, [], ◌∷◌, length, Some, None}
use Rattle.std.proofs.Common.{Option, IsTrue, Bool, false, IfSome, IfNone, slice_get}
use Rattle.std.proofs.Common.{refl, sym, subst, arith, is_some, map}
use Rattle.std.specs.List.{AllByRecursion}
use Rattle.attr_value.specs.declared.head.ValueId.{ValueId}
use Rattle.attr_value.specs.Values.{Value}
use Rattle.attr_value.specs.Ids.{AreKnown}
use Rattle.constraint_solver.specs.Roots.{HasRoots, AreRoots, assigned, AreKnownIds}
use Rattle.dialect_defs.specs.declared.body.Body.{Body}
use Rattle.dialect_defs.specs.declared.body.VarId.{VarId}
use Rattle.dialect_defs.specs.declared.definition.OpDef.{OpDef}
use Rattle.dialect_defs.specs.Assignments.{Tests, Assignment, MeetsBody}
use Rattle.dialect_defs.specs.Operations.{Operation, MeetsDefinition}
use Rattle.ir_store.specs.Modules.{types_in}
use Rattle.ir_store.specs.Numbering.{ops_in}
use Rattle.ir_store.specs.Store.{Module}
use Rattle.op_verifier.specs.Meets.{MeetsNamed, HasFronts, CanJudge}
use Rattle.op_verifier.specs.Seen.{Site, operation_seen, type_in, HasIds}
use Rattle.op_verifier.proofs.Fronts.{fronts-have, fronts-meet}
use Rattle.op_verifier.proofs.RegionSteps.{type-known}
use Rattle.op_verifier.specs.Asked.{Slots, Asks, Refuses}
use Rattle.op_verifier.specs.Parts.{HasParts, roots_of}
use Rattle.op_verifier.proofs.RootLists.{none-within, roots-within, within-roots, roots-vars}
use Rattle.op_verifier.proofs.RootLists.{roots-ids}

module _ (values : List Value) (tests : Tests) (d : OpDef) (o : Operation) where
  -- an assignment that meets the body and all parts shows that the operation meets its definition
  pub meets-of-parts : (a : Assignment) → MeetsBody values tests d.body a → HasParts d o a
      → MeetsDefinition values tests d o
  meets-of-parts a body parts = record {
    operand_sizes = parts.operands.sizes;
    result_sizes = parts.results.sizes;
    assignment = a;
    meets = record {
      operand_segments = parts.operands.segments;
      result_segments = parts.results.segments;
      body = body;
      operands = parts.operands.have;
      results = parts.results.have;
      attrs = parts.attrs;
      successors = parts.successors;
      regions = parts.regions;
    };
  }

  -- the assignment by which an operation meets its definition has all parts
  pub parts-of-meets : (m : MeetsDefinition values tests d o) → HasParts d o m.assignment
  parts-of-meets m = record {
    operands = record {
      sizes = m.operand_sizes;
      segments = m.meets.operand_segments;
      have = m.meets.operands;
    };
    results = record {
      sizes = m.result_sizes;
      segments = m.meets.result_segments;
      have = m.meets.results;
    };
    attrs = m.meets.attrs;
    successors = m.meets.successors;
    regions = m.meets.regions;
  }

  -- what refuses all maps refuses the operation
  pub refused : (s : Slots) → AllByRecursion (λ slot. slot ≡ None) s
      → Refuses values s (HasParts d o) → MeetsDefinition values tests d o → ⊥
  refused s none refuses m =
      refuses.none m.assignment (none-within values s none m.assignment) (parts-of-meets m)

  -- an assignment that has all that is asked
  pub solved : (s t : Slots) (roots : List (VarId × ValueId)) (a : Assignment)
      → roots ≡ roots_of 0 t → Asks values s t (HasParts d o)
      → MeetsBody values tests d.body a → HasRoots values roots a → MeetsDefinition values tests d o
  solved s t roots a same asks body has =
      let within = roots-within values t a (subst (λ l. HasRoots values l a) same has) in
      meets-of-parts a body (asks.up a within tt).1

  -- no assignment has it
  pub unsolved : (s t : Slots) (roots : List (VarId × ValueId))
      → AllByRecursion (λ slot. slot ≡ None) s
      → roots ≡ roots_of 0 t → Asks values s t (HasParts d o)
      → ((a : Assignment) → MeetsBody values tests d.body a → HasRoots values roots a → ⊥)
      → MeetsDefinition values tests d o → ⊥
  unsolved s t roots none same asks never m =
      let within = asks.down m.assignment (none-within values s none m.assignment)
      (parts-of-meets m) in
      never m.assignment m.meets.body (subst (λ l. HasRoots values l m.assignment) (sym same)
      (within-roots values t m.assignment within.0))

-- what is asked makes roots of the body
pub roots-sound : (len : ℕ) (body : Body) (t : Slots) (roots : List (VarId × ValueId))
    → roots ≡ roots_of 0 t → length t ≡ length body.vars → AreKnownIds len t
    → AreRoots len body roots
roots-sound len body t roots same size known =
    subst (AreRoots len body) (sym same) (record {
      vars = roots-vars 0 (length body.vars) t (omega arith);
      ids = roots-ids 0 len t known;
    })

-- what the solver answers decides
pub decided : (r : Option (List (Option ValueId))) (b : Bool) (Body Root : Assignment → Type 0)
    (P : Type 0) (values : List Value) → b ≡ is_some r
    → IfSome r (λ ids. Body (assigned values ids)) → IfSome r (λ ids. Root (assigned values ids))
    → IfNone r ((a : Assignment) → Body a → Root a → ⊥)
    → ((a : Assignment) → Body a → Root a → P)
    → (((a : Assignment) → Body a → Root a → ⊥) → P → ⊥)
    → IsTrue b ↔ P
decided None b Body Root P values is body root none some never =
    (λ yes. let no : b ≡ false = is in absurd (cc (no, yes)), λ p. absurd (never none p))
decided (Some ids) b Body Root P values is body root none some never =
    (λ yes. some (assigned values ids) body root, λ p. subst IsTrue (sym is) refl)

-- to meet the definition that is named is to meet the one at its place
pub named-meets : (values : List Value) (tests : Tests) (defs : List OpDef) (types : List ValueId)
    (x : Site) (d : OpDef) (b : Bool) → slice_get defs x.head.name.def ≡ Some d
    → (IsTrue b ↔ MeetsDefinition values tests d (operation_seen values types x))
    → IsTrue b ↔ MeetsNamed values tests defs types x
named-meets values tests defs types x d b e judged = (
  λ yes. record { definition = d; named = e; meets = judged.0 yes },
  λ m.
      let same : m.definition ≡ d = let f = m.named in cc in
      judged.1 (subst (λ k. MeetsDefinition values tests k (operation_seen values types x)) same
      m.meets),
)

-- an operation with the same fronts gets the same answer
pub same-answer : (values : List Value) (tests : Tests) (d : OpDef) (o p : Operation) (b : Bool)
    → HasFronts o p → (IsTrue b ↔ MeetsDefinition values tests d p)
    → IsTrue b ↔ MeetsDefinition values tests d o
same-answer values tests d o p b same judged = (
  λ yes. fronts-meet values tests d p o (fronts-have o p same) (judged.0 yes),
  λ m. judged.1 (fronts-meet values tests d o p same m),
)

-- the types of values of a module are known where all its types are
pub operands-known : (len : ℕ) (m : Module) (numbers : List ℕ) → AreKnown len (types_in m)
    → AllByRecursion (λ n. n < length (types_in m)) numbers → AreKnown len (map (type_in m) numbers)
operands-known len m [] known all = tt
operands-known len m (n ∷ numbers) known all =
    (type-known len m n known all.0, operands-known len m numbers known all.1)

-- what follows from P holds of each item of which P does
pub all-map : {X : Type 0} (P Q : X → Type 0) (xs : List X) → ((x : X) → P x → Q x)
    → AllByRecursion P xs → AllByRecursion Q xs
all-map P Q [] f all = tt
all-map P Q (x ∷ xs) f all = (f x all.0, all-map P Q xs f all.1)

-- a module that can be judged has known ids
pub judge-ids : (count len : ℕ) (m : Module) → CanJudge count len m → HasIds len m
judge-ids count len m can = record {
  types = can.types;
  attrs = all-map _ _ (ops_in m) (λ x judgeable. judgeable.values) can.ops;
}
