-- The faults of a tree as the table of values grows: over sound definitions a tree has a fault over
-- a table exactly where it has it over a longer one.
use Rattle.std.proofs.Common.{◌≡◌, ◌⊎◌, inl, inr, ℕ, Bool, List, [], ◌∷◌, length}
use Rattle.std.specs.List.{AllByRecursion}
use Rattle.std.specs.declared.option.Option.{Option}
use Rattle.std.specs.declared.option.Option.TheVariants.{Some, None}
use Rattle.attr_value.specs.Values.{Value}
use Rattle.constraint_solver.specs.Definitions.{AreSoundDefs}
use Rattle.constraint_solver.specs.Grown.{Extends}
use Rattle.constraint_solver.proofs.Grows.{good-grows, good-shrinks, instance-grows}
use Rattle.constraint_solver.proofs.Grows.{instance-shrinks}
use Rattle.dialect_defs.specs.declared.definition.TypeDef.{TypeDef}
use Rattle.dialect_defs.specs.Assignments.{Tests}
use Rattle.dialect_defs.specs.Goodness.{Good, IsInstance}
use Rattle.first_fault.specs.declared.fault.Fault.{Fault}
use Rattle.generic_syntax.specs.declared.cst.ValueCst.{ValueCst}
use Rattle.ir_lexer.specs.Spelling.{Text}
use Rattle.value_meaning.specs.Faults.{AreNoTypes, Breaks, HasGood, HasWrongParameters, HaveGood}
use Rattle.value_meaning.specs.Faults.{IsFault, IsNamed}
use Rattle.value_meaning.specs.Meaning.{Aliases, Claim, stands, mentions, spells, counts, holds}
use Rattle.value_meaning.specs.Meaning.{measures, keys, names}
use Rattle.value_meaning.specs.Meaning as claim

-- What is good over the first table is good over the second, and what is an instance over the
-- second is one over the first.
module _ (vs ws : List Value) (tests : Tests) (types : List TypeDef)
    (good : (v : Value) → Good vs tests types v → Good ws tests types v)
    (instance : (is_type : Bool) (name : Text) (kids : List Value)
    → IsInstance ws tests types is_type name kids → IsInstance vs tests types is_type name kids)
  where
    each-good : (xs : List Value) → AllByRecursion (Good vs tests types) xs
        → AllByRecursion (Good ws tests types) xs
    each-good [] all = tt
    each-good (x ∷ xs) all = (good x all.0, each-good xs all.1)

    abbrev have-good : (os : List (Option Value)) → HaveGood vs tests types os
        → HaveGood ws tests types os
    have-good os h = record {
      values_are = h.values_are;
      are = h.are;
      good = each-good h.values_are h.good;
    }

    breaks : (c : Claim) (code : ℕ) → Breaks vs tests types c code → Breaks ws tests types c code
    breaks (stands n) code b = b
    breaks (mentions n None) code b = b
    breaks (mentions n (Some v)) code b = b
    breaks (spells x) code b = b
    breaks (claim.types kids) code b = (
      b.0,
      record { kids_good = have-good kids b.1.kids_good; wrong = b.1.wrong },
    )
    breaks (counts negative digits type) code b = b
    breaks (holds width item) code b = b
    breaks (measures kind dims element) code b = (
      b.0,
      record { value = b.1.value; is = b.1.is; good = good b.1.value b.1.good },
      b.2,
    )
    breaks (keys before key) code b = b
    breaks (names is_type name args) code (inl b) = inl b
    breaks (names is_type name args) code (inr b) = inr (
      b.0,
      record {
        named = b.1.named;
        parameters = have-good args b.1.parameters;
        wrong = λ i. b.1.wrong (instance is_type name b.1.parameters.values_are i);
      },
    )

    -- so a fault stays one
    fault-over : (aliases : Aliases) (n : ℕ) (c : ValueCst) (f : Fault)
        → IsFault vs tests types aliases n c f → IsFault ws tests types aliases n c f
    fault-over aliases n c f h = record {
      mark = h.mark;
      among = h.among;
      is = record { place = h.is.place; breaks = breaks h.mark.claim f.code h.is.breaks };
    }

module _ {old new : List Value} {count : ℕ} {tests : Tests} {types : List TypeDef}
    (grown : Extends old new) (sound : AreSoundDefs (length old) count types) (aliases : Aliases)
    (n : ℕ) (c : ValueCst) (f : Fault) where
  -- a fault is one over a longer table
  pub fault-grows : IsFault old tests types aliases n c f → IsFault new tests types aliases n c f
  fault-grows =
      fault-over old new tests types (λ v. good-grows grown sound)
      (λ is_type name kids. instance-shrinks grown sound) aliases n c f

  -- and was one before
  pub fault-shrinks : IsFault new tests types aliases n c f → IsFault old tests types aliases n c f
  fault-shrinks =
      fault-over new old tests types (λ v. good-shrinks grown sound)
      (λ is_type name kids. instance-grows grown sound) aliases n c f
