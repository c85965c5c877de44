-- What a constant means, without aliases and over any table.
use Rattle.std.proofs.Common.{◌≡◌, ℕ, Bool, List, [], length, refl, sym, ap, subst, option_map}
use Rattle.std.specs.declared.option.Option.TheVariants.{None}
use Rattle.first_fault.specs.declared.fault.Fault.{Fault}
use Rattle.value_meaning.specs.declared.value.ValueStop.{ValueStop}
use Rattle.value_meaning.specs.declared.value.ValueStop.TheVariants.{Refused}
use Rattle.value_meaning.specs.Refusals.{ExcludesValue}
use Rattle.attr_value.specs.Ids.{at}
use Rattle.attr_value.specs.Values.{Value}
use Rattle.constraint_solver.specs.Definitions.{AreSoundDefs}
use Rattle.constraint_solver.specs.Grown.{Extends}
use Rattle.dialect_defs.specs.declared.definition.TypeDef.{TypeDef}
use Rattle.dialect_defs.specs.Assignments.{Tests}
use Rattle.generic_syntax.specs.declared.cst.ValueCst.{ValueCst}
use Rattle.ir_lexer.specs.Spelling.{Text}
use Rattle.value_meaning.specs.declared.env.Aliases.{Aliases}
use Rattle.value_meaning.specs.AliasTable.{alias_values, id_of}
use Rattle.value_meaning.specs.Faults.{Means}
use Rattle.value_meaning.proofs.Meant.{means-grows, means-shrinks}
use Rattle.dialect_registry.specs.Resolved.{no_aliases}

-- where no alias is known, none has a value
none-valued : (table : List Value) (aliases : Aliases)
    → ((is_type : Bool) (name : Text) → id_of aliases is_type name ≡ None)
    → alias_values table aliases ≡ no_aliases
none-valued table aliases none =
    λ i is_type name. ap (option_map (λ id. at table id.0)) (none is_type name) i

-- every table is the empty one with more behind it
pub from-nothing : (values : List Value) → Extends [] values
from-nothing values = record { more = values; is = refl }

module _ {values table : List Value} {count : ℕ} {tests : Tests} {types : List TypeDef}
    {aliases : Aliases} {cst : ValueCst} {v : Value} (e : Extends values table)
    (sound : AreSoundDefs (length values) count types)
    (none : (is_type : Bool) (name : Text) → id_of aliases is_type name ≡ None) where
  -- a value that is meant without aliases was meant over an earlier table
  pub means-before : Means table tests types (alias_values table aliases) cst v
      → Means values tests types no_aliases cst v
  means-before means =
      means-shrinks e sound
      (subst (λ a. Means table tests types a cst v) (none-valued table aliases none) means)

  -- and one that was meant is meant
  pub means-after : Means values tests types no_aliases cst v
      → Means table tests types (alias_values table aliases) cst v
  means-after means =
      subst (λ a. Means table tests types a cst v) (sym (none-valued table aliases none))
      (means-grows e sound means)

-- where a tree is refused, it means no value
pub refused-unmeant : (P : Value → Type 0) {stop : ValueStop} {f : Fault} → stop ≡ Refused f
    → ExcludesValue P stop → (v : Value) → P v → ⊥
refused-unmeant P is unmeant = subst (ExcludesValue P) is unmeant
