-- Values that trees mean, as the table of values grows: over sound definitions a tree means a value
-- over a table exactly where it does over a longer one.
use Rattle.std.proofs.Common.{◌≡◌, ℕ, Bool, List, length, option_map, refl, ap}
use Rattle.std.specs.declared.option.Option.{Option}
use Rattle.std.specs.declared.option.Option.TheVariants.{Some, None}
use Rattle.attr_value.specs.declared.head.ValueId.{ValueId}
use Rattle.attr_value.specs.Ids.{at}
use Rattle.attr_value.specs.Values.{Value}
use Rattle.constraint_solver.specs.Definitions.{AreSoundDefs}
use Rattle.constraint_solver.specs.Grown.{Extends}
use Rattle.constraint_solver.proofs.Grows.{at-grows, good-grows, good-shrinks}
use Rattle.dialect_defs.specs.declared.definition.TypeDef.{TypeDef}
use Rattle.dialect_defs.specs.Assignments.{Tests}
use Rattle.generic_syntax.specs.declared.cst.ValueCst.{ValueCst}
use Rattle.ir_lexer.specs.Spelling.{Text}
use Rattle.value_meaning.specs.declared.env.Aliases.{Aliases}
use Rattle.value_meaning.specs.AliasTable.{AreGoodAliases, alias_values, id_of}
use Rattle.value_meaning.specs.Faults.{Means}
use Rattle.value_meaning.specs.Meaning as meaning

-- a value that a tree means is still meant, where aliases have the same values
pub means-grows : {old new : List Value} {count : ℕ} {tests : Tests} {types : List TypeDef}
    {aliases : meaning.Aliases} {c : ValueCst} {v : Value} → Extends old new
    → AreSoundDefs (length old) count types → Means old tests types aliases c v
    → Means new tests types aliases c v
means-grows grown sound means =
    record { spells = means.spells; good = good-grows grown sound means.good }

-- and was meant before
pub means-shrinks : {old new : List Value} {count : ℕ} {tests : Tests} {types : List TypeDef}
    {aliases : meaning.Aliases} {c : ValueCst} {v : Value} → Extends old new
    → AreSoundDefs (length old) count types → Means new tests types aliases c v
    → Means old tests types aliases c v
means-shrinks grown sound means =
    record { spells = means.spells; good = good-shrinks grown sound means.good }

-- aliases that are known have the values that they had
pub alias_values-grow : {old new : List Value} {tests : Tests} {types : List TypeDef}
    {aliases : Aliases} → Extends old new → AreGoodAliases old tests types aliases
    → alias_values new aliases ≡ alias_values old aliases
alias_values-grow {old} {new} {tests} {types} {aliases} grown good =
    λ i is_type name. same is_type name i
  where
    go : (o : Option ValueId) (is_type : Bool) (name : Text) → id_of aliases is_type name ≡ o
        → option_map (λ id. at new id.0) o ≡ option_map (λ id. at old id.0) o
    go None is_type name is = refl
    go (Some id) is_type name is = ap Some (at-grows grown id.0 (good.known is_type name id is))

    same : (is_type : Bool) (name : Text)
        → alias_values new aliases is_type name ≡ alias_values old aliases is_type name
    same is_type name = go (id_of aliases is_type name) is_type name refl
