-- The kids of good values are good.
use Rattle.std.proofs.Common.{◌≤◌, List, arith}
use Rattle.std.specs.List.{AllByRecursion}
use Rattle.attr_value.specs.Values.{Value, Values, none, more, list_of, greatest_depth}
use Rattle.dialect_defs.specs.declared.definition.TypeDef.{TypeDef}
use Rattle.dialect_defs.specs.Assignments.{Tests}
use Rattle.dialect_defs.specs.Goodness.{Good, AreGoodNodes}
use Rattle.attr_value.specs.declared.head.TheConstants.{DEPTH_LIMIT}
use Rattle.constraint_solver.specs.Definitions.{HasGoodKids}

module _ (values : List Value) (tests : Tests) (types : List TypeDef) where
  each-good : (vs : Values) → greatest_depth vs ≤ DEPTH_LIMIT → AreGoodNodes values tests types vs
      → AllByRecursion (Good values tests types) (list_of vs)
  each-good none shallow nodes = tt
  each-good (more head kids rest) shallow nodes = (
    record { shallow = omega (arith, shallow); node = nodes.0; kids = nodes.1 },
    each-good rest (omega (arith, shallow)) nodes.2,
  )

  pub good-kids : (v : Value) → Good values tests types v → HasGoodKids values tests types v
  good-kids v good = record {
    each = each-good v.kids (let s = good.shallow in omega (arith, s)) good.kids;
  }
