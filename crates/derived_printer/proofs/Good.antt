-- Good values can be spelled, where the names of definitions have their shape: a good value keeps
-- to the rules of its heads, and the name of a dialect's value is that of a definition. By the
-- values that stand in it.
use Rattle.std.proofs.Common.{List, subst}
use Rattle.std.proofs.lemmas.List.Elements.{All-contains, All-from_recursion}
use Rattle.attr_value.specs.declared.head.Head.{Head}
use Rattle.attr_value.specs.declared.head.Head.TheVariants as h
use Rattle.attr_value.specs.Values.{Value, Values, none, more, list_of}
use Rattle.dialect_defs.specs.declared.definition.TypeDef.{TypeDef}
use Rattle.dialect_defs.specs.Assignments.{Tests}
use Rattle.dialect_defs.specs.Goodness.{IsDefined, IsGoodNode, AreGoodNodes, Good}
use Rattle.derived_printer.specs.Spellable.{IsFullName, IsNamed, HaveFullNames, NodeIsSpellable}
use Rattle.derived_printer.specs.Spellable.{AreSpellable, Spellable}

module _ (values : List Value) (tests : Tests) (types : List TypeDef)
    (names : HaveFullNames types) where
  -- the name of a dialect's value is that of the definition that it is an instance of
  good-named : (head : Head) (kids : List Value) → IsDefined values tests types head kids
      → IsNamed head
  good-named (h.Dialect is_type name) kids instance =
      let P : TypeDef → Type 0 = λ d. IsFullName d.name in
      subst IsFullName instance.defined.named
      (All-contains P types instance.definition (All-from_recursion P types names.each)
      instance.defined.listed)
  good-named _ kids defined = tt

  good-node : (head : Head) (kids : Values) → IsGoodNode values tests types head (list_of kids)
      → NodeIsSpellable head kids
  good-node head kids good =
      record { rule = good.rule; named = good-named head (list_of kids) good.defined }

  good-nodes : (kids : Values) → AreGoodNodes values tests types kids → AreSpellable kids
  good-nodes none good = tt
  good-nodes (more head kids rest) good =
      (good-node head kids good.0, good-nodes kids good.1, good-nodes rest good.2)

-- a good value can be spelled
pub good-spellable : (values : List Value) (tests : Tests) (types : List TypeDef) (v : Value)
    → HaveFullNames types → Good values tests types v → Spellable v
good-spellable values tests types v names good = record {
  node = good-node values tests types names v.head v.kids good.node;
  kids = good-nodes values tests types names v.kids good.kids;
  shallow = good.shallow;
}
