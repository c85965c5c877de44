-- The aliases that a walk knows.
--
--   KnowsAliases ns before set    the set has the aliases that these marks define
--
-- Inside: no public clause rests on this.
use Rattle.std.specs.Prelude.{◌≡◌, true, false, List, map}
use Rattle.symbol_scopes.specs.declared.aliases.AliasSet.{AliasSet}
use Rattle.symbol_scopes.specs.ScopeMarks.{Name, ScopeMark}
use Rattle.symbol_scopes.specs.Faults.{is_alias_known}

-- for each name, whether an alias of types has it, and whether one of attributes does
pub record KnowsAliases (ns : List Name) (before : List ScopeMark) (k : AliasSet) : Type 0 where
  pub types : k.types.items ≡ map (is_alias_known before true) ns
  pub attributes : k.attributes.items ≡ map (is_alias_known before false) ns
