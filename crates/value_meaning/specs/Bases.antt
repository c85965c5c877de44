-- What the surroundings of trees are judged by.
--
--   basis_of property env     the predicates, definitions and aliases of these surroundings
--
-- Inside: no public clause rests on this.
use Rattle.std.specs.Prelude.{Bool}
use Rattle.attr_value.specs.Values.{Value}
use Rattle.native_predicate.specs.Lists.{tests, count}
use Rattle.value_meaning.specs.declared.env.Env.{Env}
use Rattle.value_meaning.specs.AliasTable.{id_of}
use Rattle.value_meaning.specs.Judging.{Basis, basis}

module _ {I : Type 0} {Self : I → Type 0} where
  -- the predicates, of which a trait's ghost member says the meanings, definitions and aliases
  abbrev pub basis_of : ((i : I) × Self i → Value → Bool) → Env I Self → Basis
  basis_of property env =
      basis (tests property env.natives.now) (count env.natives.now) env.types.now
      (id_of env.aliases.now)
