-- Files are refused in one place by one rule, or loaded.
use Rattle.std.proofs.Common.{◌≡◌, ◌<◌, ℕ, inl, inr, List, length, sym, ◌∙◌, subst, arith}
use Rattle.std.proofs.lemmas.Bool.{cases_lt}
use Rattle.std.proofs.lemmas.Option.{slice_get_within}
use Rattle.std.specs.declared.option.Option.TheVariants.{Some}
use Rattle.attr_value.specs.Values.{Value}
use Rattle.dialect_defs.specs.declared.definition.OpDef.{OpDef}
use Rattle.dialect_defs.specs.declared.definition.TypeDef.{TypeDef}
use Rattle.dialect_defs.specs.Assignments.{Tests}
use Rattle.first_fault.specs.declared.fault.Fault.{Fault}
use Rattle.first_fault.specs.Firsts.{IsFirst}
use Rattle.first_fault.proofs.Firsts.{first-once}
use Rattle.ir_lexer.specs.Spelling.{Text}
use Rattle.irdl_ops.specs.declared.raw.RawDefs.{RawDefs}
use Rattle.dialect_registry.specs.declared.refusal.DefRefusal.{DefRefusal}
use Rattle.dialect_registry.specs.declared.refusal.FileFault.{FileFault}
use Rattle.dialect_registry.specs.ConstantFaults.{IsConstantFault, shapes_of}
use Rattle.dialect_registry.specs.DefFaults.{fault_in, IsFault, IsFirstIn, dialects_of, world_of}
use Rattle.dialect_registry.specs.Loaded.{AreLoaded, HasNoFault, HaveTypes, IsNotGood, IsRefusedBy, in_rules, in_values, in_goodness, in_formats}
use Rattle.dialect_registry.specs.Resolved.{located_in, types_among}
use Rattle.dialect_registry.specs.Refusals.{fault_of, IsPlain}
use Rattle.dialect_registry.proofs.Files.{first-in-same}
use Rattle.dialect_registry.proofs.LoadingFaults.{constant-moved, fault-moved}
use Rattle.dialect_registry.proofs.OneFormat.{format-refused-once, loaded-or-refused}
use Rattle.dialect_registry.proofs.SameLoading.{means-moved}

-- there is one first fault
pub first-in-once : (P : ℕ → Fault → Type 0) (r s : FileFault) → IsFirstIn P (Some r)
    → IsFirstIn P (Some s) → r ≡ s
first-in-once P r s x y = elim (cases_lt r.file s.file) [
  | inl less ↦ absurd (y.1 r.file less (fault_in r) x.0.0)
  | inr le ↦ elim (cases_lt s.file r.file) [
    | inl less ↦ absurd (x.1 s.file less (fault_in s) y.0.0)
    | inr same ↦ both (omega (arith, le, same))
  ]
]
  where
    both : r.file ≡ s.file → r ≡ s
    both e =
        let first = subst (λ n. IsFirst (P n) (Some (fault_in r))) e x.0 in
        let one = first-once (P s.file) (fault_in r) (fault_in s) first y.0 in
        λ i. record { file = e i; place = one.0 i; code = one.1 i }

-- where no file has a fault, there is no first one
none-first : (P : ℕ → Fault → Type 0) (r : FileFault) → HasNoFault P → IsFirstIn P (Some r) → ⊥
none-first P r none first = none r.file (fault_in r) first.0.0

module _ (files : List RawDefs) (natives : List Text) (tests : Tests) where
  -- constants are good by one loading where they are by another
  good-same : (old new : List Value) (types kinds : List TypeDef)
      → HaveTypes files natives tests old types → HaveTypes files natives tests new kinds
      → (n : ℕ) (f : Fault) → IsNotGood files tests old types n f
      → IsNotGood files tests new kinds n f
  good-same old new types kinds first then =
      fault-moved (IsConstantFault old tests types) (IsConstantFault new tests kinds)
      (constant-moved old new tests types kinds
      (λ cst bad v means. bad v
      (means-moved (world_of files natives) tests (shapes_of files) new old
      (types_among (located_in (dialects_of files))) kinds types then.types_are first.types_are
      cst v means))) files

  -- of two refusals in one place by one rule, both of which tell no more, both are one
  plain-once : (r s : DefRefusal) → fault_of r ≡ fault_of s → IsPlain r → IsPlain s → r ≡ s
  plain-once r s e x y = λ i. record {
    file = (e i).file;
    place = (e i).place;
    code = (e i).code;
    at = (x.at ∙ sym y.at) i;
    look = (x.look ∙ sym y.look) i;
    entry = (x.entry ∙ sym y.entry) i;
  }

  -- files are refused in one place, by one rule
  pub refused-once : (r s : DefRefusal) → IsRefusedBy files natives tests r
      → IsRefusedBy files natives tests s → r ≡ s
  refused-once r s (in_rules x p) (in_rules y q) =
      plain-once r s (first-in-once (IsFault files natives) (fault_of r) (fault_of s) x y) p q
  refused-once r s (in_rules x p) (in_values none y q) =
      absurd (none-first (IsFault files natives) (fault_of r) none x)
  refused-once r s (in_rules x p) (in_goodness vals kinds have y q) =
      absurd (none-first (IsFault files natives) (fault_of r) have.rules x)
  refused-once r s (in_rules x p) (in_formats vals kinds have good y) =
      absurd (none-first (IsFault files natives) (fault_of r) have.rules x)
  refused-once r s (in_values none x p) (in_rules y q) =
      absurd (none-first (IsFault files natives) (fault_of s) none y)
  refused-once r s (in_values none x p) (in_values nothing y q) =
      plain-once r s (first-in-once _ (fault_of r) (fault_of s) x y) p q
  refused-once r s (in_values none x p) (in_goodness vals kinds have y q) =
      absurd (none-first _ (fault_of r) have.valued x)
  refused-once r s (in_values none x p) (in_formats vals kinds have good y) =
      absurd (none-first _ (fault_of r) have.valued x)
  refused-once r s (in_goodness old types first x p) (in_rules y q) =
      absurd (none-first (IsFault files natives) (fault_of s) first.rules y)
  refused-once r s (in_goodness old types first x p) (in_values none y q) =
      absurd (none-first _ (fault_of s) first.valued y)
  refused-once r s (in_goodness old types first x p) (in_goodness new kinds then y q) =
      plain-once r s (first-in-once (IsNotGood files tests old types) (fault_of r) (fault_of s) x
      (first-in-same (IsNotGood files tests new kinds) (IsNotGood files tests old types)
      (Some (fault_of s)) (good-same new old kinds types then first)
      (good-same old new types kinds first then) y)) p q
  refused-once r s (in_goodness old types first x p) (in_formats new kinds then good y) =
      absurd (good r.file (fault_in (fault_of r))
      (good-same old new types kinds first then r.file (fault_in (fault_of r)) x.0.0))
  refused-once r s (in_formats old types first good x) (in_rules y q) =
      absurd (none-first (IsFault files natives) (fault_of s) first.rules y)
  refused-once r s (in_formats old types first good x) (in_values none y q) =
      absurd (none-first _ (fault_of s) first.valued y)
  refused-once r s (in_formats old types first good x) (in_goodness new kinds then y q) =
      absurd (good s.file (fault_in (fault_of s))
      (good-same new old kinds types then first s.file (fault_in (fault_of s)) y.0.0))
  refused-once r s (in_formats old types first good x) (in_formats new kinds then fine y) =
      format-refused-once files r s x y

  -- files that are loaded aren't refused
  pub not-loaded-and-refused : (values : List Value) (types : List TypeDef) (ops : List OpDef)
      (r : DefRefusal) → AreLoaded files natives tests values types ops
      → IsRefusedBy files natives tests r → ⊥
  not-loaded-and-refused values types ops r loaded (in_rules x p) =
      none-first (IsFault files natives) (fault_of r) loaded.have.rules x
  not-loaded-and-refused values types ops r loaded (in_values none x p) =
      none-first _ (fault_of r) loaded.have.valued x
  not-loaded-and-refused values types ops r loaded (in_goodness vals kinds have x p) =
      loaded.good r.file (fault_in (fault_of r))
      (good-same vals values kinds types have loaded.have r.file (fault_in (fault_of r)) x.0.0)
  not-loaded-and-refused values types ops r loaded (in_formats vals kinds have good x) =
      loaded-or-refused files loaded.ops_are.own r loaded.formats x

  -- a refusal stands in one of the files
  pub refused-within : (r : DefRefusal) → IsRefusedBy files natives tests r
      → r.file < length files
  refused-within r (in_rules x p) =
      let fault = x.0.0 in slice_get_within files r.file fault.0 fault.1
  refused-within r (in_values none x p) =
      let fault = x.0.0 in slice_get_within files r.file fault.0 fault.1
  refused-within r (in_goodness vals kinds have x p) =
      let fault = x.0.0 in slice_get_within files r.file fault.0 fault.1
  refused-within r (in_formats vals kinds have good x) =
      slice_get_within files r.file x.file x.there
