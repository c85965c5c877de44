-- A tree that means a value has no fault. By the parts of the tree: the marks of each form have
-- none where those of the values in it have none.
use Rattle.std.proofs.Common.{◌≡◌, ℕ, List, [], ◌∷◌, ◌++◌, length, map, sym}
use Rattle.std.proofs.Common.{subst, arith}
use Rattle.std.specs.List.{AllByRecursion}
use Rattle.std.specs.declared.option.Option.{Option}
use Rattle.std.specs.declared.option.Option.TheVariants.{Some, None}
use Rattle.attr_value.specs.Values.{Value}
use Rattle.constraint_solver.specs.Definitions.{AreSoundDefs}
use Rattle.dialect_defs.specs.declared.definition.TypeDef.{TypeDef}
use Rattle.dialect_defs.specs.Assignments.{Tests}
use Rattle.first_fault.specs.declared.fault.Fault.{Fault}
use Rattle.generic_syntax.specs.declared.cst.EntryCst.{EntryCst, EntryCst-F, map-EntryCst}
use Rattle.generic_syntax.specs.declared.cst.EntryCst.{fold-roll-EntryCst, roll-EntryCst}
use Rattle.generic_syntax.specs.declared.cst.ValueCst.{ValueCst, ValueCst-F, map-ValueCst}
use Rattle.generic_syntax.specs.declared.cst.ValueCst.{fold-roll-ValueCst, roll-ValueCst}
use Rattle.generic_syntax.specs.declared.cst.ValueCst.{ind-ValueCst}
use Rattle.generic_syntax.specs.declared.cst.ValueNode.{ValueNode, map-ValueNode}
use Rattle.generic_syntax.specs.declared.cst.ValueNode.{fold-roll-ValueNode, roll-ValueNode}
use Rattle.generic_syntax.specs.declared.cst.ValueNode.TheOpen.{ValueNode-F}
use Rattle.ir_lexer.specs.Spelling.{Text}
use Rattle.value_meaning.specs.declared.env.Aliases.{Aliases}
use Rattle.value_meaning.specs.AliasTable.{alias_values, id_of, AreGoodAliases}
use Rattle.value_meaning.specs.Faults.{IsFault, Means}
use Rattle.value_meaning.specs.Judging.{Ground, basis}
use Rattle.value_meaning.specs.Meaning.{EntrySeen, NodeSeen, Seen, entry_layer, entry_seen}
use Rattle.value_meaning.specs.Meaning.{node_layer, node_seen, seen, value_layer}
use Rattle.value_meaning.specs.Meaning as meaning
use Rattle.value_meaning.proofs.Clean.{IsFaultless, IsFaultlessNode, at-clean, unit-clean}
use Rattle.value_meaning.proofs.CleanForms.{HasFaultlessParts, layer-clean}
use Rattle.value_meaning.proofs.Integers.{HaveGoodValues, ready-good, spelled-integer}

module _ (g : Ground) (al : meaning.Aliases) (good : HaveGoodValues g al) where
  -- of a form, of an entry, and of a tree: where it is right it has no fault
  abbrev NodeIs : ValueNode → Type 0
  NodeIs node = IsFaultlessNode g (node_seen al node)

  abbrev EntryIs : EntryCst → Type 0
  EntryIs e = IsFaultless g (entry_seen al e).seen

  abbrev ValueIs : ValueCst → Type 0
  ValueIs c = IsFaultless g (seen al c)

  -- forms, entries and trees of which this is known
  module _ (N E V : Type 0) (fn : N → ValueNode) (fe : E → EntryCst) (fv : V → ValueCst)
      (node : (n : N) → NodeIs (fn n)) (entry : (e : E) → EntryIs (fe e))
      (value : (v : V) → ValueIs (fv v)) where
    trees-are : (vs : List V) → AllByRecursion (IsFaultless g) (map (seen al) (map fv vs))
    trees-are [] = tt
    trees-are (v ∷ vs) = (value v, trees-are vs)

    entries-are : (es : List E)
        → AllByRecursion (IsFaultless g) (map (λ e. e.seen) (map (entry_seen al) (map fe es)))
    entries-are [] = tt
    entries-are (e ∷ es) = (entry e, entries-are es)

    both-are : (xs ys : List V) → AllByRecursion (IsFaultless g)
        (map (seen al) (map fv xs) ++ map (seen al) (map fv ys))
    both-are [] ys = trees-are ys
    both-are (x ∷ xs) ys = (value x, both-are xs ys)

    -- what is seen of the parts of a form
    abbrev layer : ValueNode-F N E V → ValueNode-F NodeSeen EntrySeen Seen
    layer y = map-ValueNode ValueNode EntryCst ValueCst NodeSeen EntrySeen Seen (node_seen al)
        (entry_seen al) (seen al) (map-ValueNode N E V ValueNode EntryCst ValueCst fn fe fv y)

    parts-are : (y : ValueNode-F N E V) → HasFaultlessParts g (layer y)
    parts-are (ValueNode-F.Dialect is_type name args) = trees-are args
    parts-are (ValueNode-F.Function inputs outputs) = both-are inputs outputs
    parts-are (ValueNode-F.Tuple kids) = trees-are kids
    parts-are (ValueNode-F.Shaped kind dims element) = value element
    parts-are (ValueNode-F.Complex element) = value element
    parts-are (ValueNode-F.Number negative digits None) = tt
    parts-are (ValueNode-F.Number negative digits (Some type)) =
        (value type, spelled-integer g al good (fv type))
    parts-are (ValueNode-F.Array vs) = trees-are vs
    parts-are (ValueNode-F.Dict es) = entries-are es
    parts-are (ValueNode-F.Word w) = tt
    parts-are (ValueNode-F.TypeAlias w) = tt
    parts-are (ValueNode-F.AttrAlias w) = tt
    parts-are (ValueNode-F.Str w) = tt
    parts-are (ValueNode-F.Symbol ws) = tt
    parts-are (ValueNode-F.Dense width items) = tt

    -- of a form
    node-is : (x : ValueNode-F ValueNode EntryCst ValueCst) (y : ValueNode-F N E V)
        → map-ValueNode N E V ValueNode EntryCst ValueCst fn fe fv y ≡ x → NodeIs (roll-ValueNode x)
    unfolding node_seen entry_seen seen
    node-is x y is =
        subst (λ z. NodeIs (roll-ValueNode z)) is
        (subst (IsFaultlessNode g)
        (sym (fold-roll-ValueNode NodeSeen EntrySeen Seen (node_layer al) (entry_layer al)
        (value_layer al) (map-ValueNode N E V ValueNode EntryCst ValueCst fn fe fv y)))
        (layer-clean g al (layer y) (parts-are y)))

    -- of an entry
    abbrev entry_layers : EntryCst-F N E V → EntrySeen
    entry_layers y = entry_layer al (map-EntryCst ValueNode EntryCst ValueCst NodeSeen EntrySeen
        Seen (node_seen al) (entry_seen al) (seen al)
        (map-EntryCst N E V ValueNode EntryCst ValueCst fn fe fv y))

    entry-by : (place : ℕ) (key : Text) (v : Option V) → IsFaultless g
        (entry_layers (record { place = place; key = key; value = v })).seen
    entry-by place key None = unit-clean g place
    entry-by place key (Some v) = value v

    entry-is : (x : EntryCst-F ValueNode EntryCst ValueCst) (y : EntryCst-F N E V)
        → map-EntryCst N E V ValueNode EntryCst ValueCst fn fe fv y ≡ x → EntryIs (roll-EntryCst x)
    unfolding node_seen entry_seen seen
    entry-is x y is =
        subst (λ z. EntryIs (roll-EntryCst z)) is
        (subst (λ (e : EntrySeen). IsFaultless g e.seen)
        (sym (fold-roll-EntryCst NodeSeen EntrySeen Seen (node_layer al) (entry_layer al)
        (value_layer al) (map-EntryCst N E V ValueNode EntryCst ValueCst fn fe fv y)))
        (entry-by y.place y.key y.value))

    -- of a tree
    value-is : (x : ValueCst-F ValueNode EntryCst ValueCst) (y : ValueCst-F N E V)
        → map-ValueCst N E V ValueNode EntryCst ValueCst fn fe fv y ≡ x → ValueIs (roll-ValueCst x)
    unfolding node_seen entry_seen seen
    value-is x y is =
        subst (λ z. ValueIs (roll-ValueCst z)) is
        (subst (IsFaultless g)
        (sym (fold-roll-ValueCst NodeSeen EntrySeen Seen (node_layer al) (entry_layer al)
        (value_layer al) (map-ValueCst N E V ValueNode EntryCst ValueCst fn fe fv y)))
        (at-clean g y.place (node_seen al (fn y.node)) (node y.node)))

  tree-faultless : (c : ValueCst) → ValueIs c
  tree-faultless =
      ind-ValueCst NodeIs EntryIs ValueIs
      (λ x y is. node-is _ _ _ (λ e. e.0) (λ e. e.0) (λ e. e.0) (λ e. e.1) (λ e. e.1) (λ e. e.1)
      x y is)
      (λ x y is. entry-is _ _ _ (λ e. e.0) (λ e. e.0) (λ e. e.0) (λ e. e.1) (λ e. e.1) (λ e. e.1)
      x y is)
      (λ x y is. value-is _ _ _ (λ e. e.0) (λ e. e.0) (λ e. e.0) (λ e. e.1) (λ e. e.1) (λ e. e.1)
      x y is)

-- where aliases have good values, a tree that means a value has no fault
pub means-clean : {g : Ground} {al : meaning.Aliases} → HaveGoodValues g al → (c : ValueCst)
    (v : Value) → Means g.table g.tests g.types al c v → (f : Fault)
    → IsFault g.table g.tests g.types al 1 c f → ⊥
means-clean {g} {al} good c v means =
    let shallow = means.good.shallow in
    tree-faultless g al good c 1 (record {
      value = v;
      spells = means.spells;
      right = record { good = means.good; fits = omega (arith, shallow) };
    })

-- so it has none under aliases by the ids of good values
pub means-faultless : {table : List Value} {tests : Tests} {count : ℕ} {types : List TypeDef}
    {aliases : Aliases} → AreSoundDefs (length table) count types
    → AreGoodAliases table tests types aliases → (c : ValueCst) (v : Value)
    → Means table tests types (alias_values table aliases) c v → (f : Fault)
    → IsFault table tests types (alias_values table aliases) 1 c f → ⊥
means-faultless {table} {tests} {count} {types} {aliases} sound good =
    means-clean (ready-good (basis tests count types (id_of aliases)) table
    (record { can = record { defs = sound; known = good.known }; good = good.good }))
