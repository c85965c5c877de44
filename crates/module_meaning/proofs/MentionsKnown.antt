-- A tree that spells a value mentions aliases alone that have values. By the parts of the tree.
use Rattle.std.proofs.Common.{◌≡◌, ℕ, true, List, [], ◌∷◌, ◌++◌, map, refl, sym}
use Rattle.std.proofs.Common.{subst, is_some, option_map, option_and_then}
use Rattle.std.specs.declared.option.Option.{Option}
use Rattle.std.specs.declared.option.Option.TheVariants.{Some, None}
use Rattle.generic_syntax.specs.declared.cst.EntryCst.{EntryCst, EntryCst-F, map-EntryCst}
use Rattle.generic_syntax.specs.declared.cst.EntryCst.{fold-roll-EntryCst, roll-EntryCst}
use Rattle.generic_syntax.specs.declared.cst.EntryCst.{ind-EntryCst}
use Rattle.generic_syntax.specs.declared.cst.ValueCst.{ValueCst, ValueCst-F, map-ValueCst}
use Rattle.generic_syntax.specs.declared.cst.ValueCst.{fold-roll-ValueCst, roll-ValueCst}
use Rattle.generic_syntax.specs.declared.cst.ValueCst.{ind-ValueCst}
use Rattle.generic_syntax.specs.declared.cst.ValueNode.{ValueNode, map-ValueNode}
use Rattle.generic_syntax.specs.declared.cst.ValueNode.{fold-roll-ValueNode, roll-ValueNode}
use Rattle.generic_syntax.specs.declared.cst.ValueNode.TheOpen.{ValueNode-F}
use Rattle.ir_lexer.specs.Spelling.{Text}
use Rattle.module_names.proofs.Cut.{AllNotes, notes-joined}
use Rattle.module_names.specs.Mentions.{value_mentions, entry_mentions, node_mentions}
use Rattle.module_names.specs.Mentions as said
use Rattle.module_names.specs.Said.{joined, all_joined}
use Rattle.symbol_scopes.specs.Regions.{Note, Notes, bad_pack}
use Rattle.symbol_scopes.specs.Regions.{defines_alias, mentions_alias}
use Rattle.value_meaning.specs.Meaning.{Aliases, EntrySeen, NodeSeen, Seen, entry_layer, entry_seen}
use Rattle.value_meaning.specs.Meaning.{node_layer, node_seen, seen, value_layer, value_of}
use Rattle.value_meaning.specs.Meaning.{values_of, entry_value, dict_of}
use Rattle.value_meaning.specs.Spelled.{all_some, dim_of, sorted_entries, kind_of_number}

-- no alias is defined, those that are mentioned have values, and no size is wrong
abbrev pub IsTold : Aliases → Note → Type 0
IsTold aliases (bad_pack p) = ⊥
IsTold aliases (defines_alias a) = ⊥
IsTold aliases (mentions_alias a) = is_some (aliases a.is_type a.name) ≡ true
IsTold aliases _ = Unit {0}

abbrev pub AreTold : Aliases → Notes → Type 0
AreTold aliases ns = AllNotes (IsTold aliases) ns

pub told-two : (aliases : Aliases) (a b : Notes) → AreTold aliases a → AreTold aliases b
    → AreTold aliases (joined a b)
told-two aliases a b h k = notes-joined (IsTold aliases) a b h k

-- ---- what is something

some-map : {A B : Type 0} (f : A → B) (o : Option A) → is_some (option_map f o) ≡ true
    → is_some o ≡ true
some-map f None e = absurd (cc)
some-map f (Some x) e = refl

some-then : {A B : Type 0} (f : A → Option B) (o : Option A) → is_some (option_and_then f o) ≡ true
    → is_some o ≡ true
some-then f None e = absurd (cc)
some-then f (Some x) e = refl

some-inner : {A B C : Type 0} (f : A → B → C) (o : Option A) (p : Option B)
    → is_some (option_and_then (λ a. option_map (f a) p) o) ≡ true → is_some p ≡ true
some-inner f None p e = absurd (cc)
some-inner f (Some a) p e = some-map (f a) p e

-- the first of a list, and the others
all-first : {A : Type 0} (o : Option A) (xs : List (Option A)) → is_some (all_some (o ∷ xs)) ≡ true
    → is_some o ≡ true
all-first None xs e = absurd (cc)
all-first (Some x) xs e = refl

all-rest : {A : Type 0} (o : Option A) (xs : List (Option A)) → is_some (all_some (o ∷ xs)) ≡ true
    → is_some (all_some xs) ≡ true
all-rest None xs e = absurd (cc)
all-rest (Some x) xs e = some-map _ (all_some xs) e

module _ (al : Aliases) where
  abbrev NodeSaid : NodeSeen → (ℕ → Notes) → Type 0
  NodeSaid s m = is_some s.value ≡ true → (place : ℕ) → AreTold al (m place)

  abbrev NodeIs : ValueNode → Type 0
  NodeIs n = NodeSaid (node_seen al n) (node_mentions n)

  abbrev ValueSaid : Seen → Notes → Type 0
  ValueSaid s m = is_some s.value ≡ true → AreTold al m

  abbrev EntryIs : EntryCst → Type 0
  EntryIs e = ValueSaid (entry_seen al e).seen (entry_mentions e)

  abbrev ValueIs : ValueCst → Type 0
  ValueIs v = ValueSaid (seen al v) (value_mentions v)

  -- forms, entries and trees of which this is known
  module _ (N E V : Type 0) (fn : N → ValueNode) (fe : E → EntryCst) (fv : V → ValueCst)
      (node : (n : N) → NodeIs (fn n)) (entry : (e : E) → EntryIs (fe e))
      (value : (v : V) → ValueIs (fv v)) where
    trees-told : (vs : List V) → is_some (values_of (map (seen al) (map fv vs))) ≡ true
        → AreTold al (all_joined (map value_mentions (map fv vs)))
    trees-told [] e = tt
    trees-told (v ∷ vs) e =
        told-two al (value_mentions (fv v)) (all_joined (map value_mentions (map fv vs)))
        (value v (all-first (seen al (fv v)).value _ e))
        (trees-told vs (all-rest (seen al (fv v)).value _ e))

    both-told : (xs ys : List V)
        → is_some (values_of (map (seen al) (map fv xs) ++ map (seen al) (map fv ys))) ≡ true
        → AreTold al (all_joined (map value_mentions (map fv xs)))
        × AreTold al (all_joined (map value_mentions (map fv ys)))
    both-told [] ys e = (tt, trees-told ys e)
    both-told (x ∷ xs) ys e =
        let more = both-told xs ys (all-rest (seen al (fv x)).value _ e) in (
          told-two al (value_mentions (fv x)) (all_joined (map value_mentions (map fv xs)))
              (value x (all-first (seen al (fv x)).value _ e)) more.0,
          more.1,
        )

    entries-told : (es : List E)
        → is_some (all_some (map entry_value (map (entry_seen al) (map fe es)))) ≡ true
        → AreTold al (all_joined (map entry_mentions (map fe es)))
    entries-told [] e = tt
    entries-told (x ∷ es) e =
        told-two al (entry_mentions (fe x)) (all_joined (map entry_mentions (map fe es)))
        (entry x (some-map _ (entry_seen al (fe x)).seen.value
        (all-first (entry_value (entry_seen al (fe x))) _ e)))
        (entries-told es (all-rest (entry_value (entry_seen al (fe x))) _ e))

    -- one level of a form, and what is seen and said of it
    abbrev under : ValueNode-F N E V → ValueNode-F ValueNode EntryCst ValueCst
    under y = map-ValueNode N E V ValueNode EntryCst ValueCst fn fe fv y

    abbrev layer_seen : ValueNode-F N E V → NodeSeen
    layer_seen y = node_layer al (map-ValueNode ValueNode EntryCst ValueCst NodeSeen EntrySeen Seen
        (node_seen al) (entry_seen al) (seen al) (under y))

    abbrev layer_said : ValueNode-F N E V → ℕ → Notes
    layer_said y = said.node_layer (map-ValueNode ValueNode EntryCst ValueCst (ℕ → Notes) Notes
        Notes node_mentions entry_mentions value_mentions (under y))

    layer-told : (y : ValueNode-F N E V) → NodeSaid (layer_seen y) (layer_said y)
    layer-told (ValueNode-F.Dialect is_type name args) e place =
        trees-told args (some-map _ (values_of (map (seen al) (map fv args))) e)
    layer-told (ValueNode-F.Function inputs outputs) e place =
        let two = both-told inputs outputs (some-map _
        (values_of (map (seen al) (map fv inputs) ++ map (seen al) (map fv outputs))) e) in
        told-two al (all_joined (map value_mentions (map fv inputs)))
        (all_joined (map value_mentions (map fv outputs))) two.0 two.1
    layer-told (ValueNode-F.Tuple kids) e place =
        trees-told kids (some-map _ (values_of (map (seen al) (map fv kids))) e)
    layer-told (ValueNode-F.Shaped kind dims element) e place =
        value element (some-inner _ (all_some (map (dim_of kind) dims))
        (seen al (fv element)).value e)
    layer-told (ValueNode-F.Complex element) e place =
        value element (all-first (seen al (fv element)).value []
        (some-map _ (all_some ((seen al (fv element)).value ∷ [])) e))
    layer-told (ValueNode-F.Number negative digits None) e place = tt
    layer-told (ValueNode-F.Number negative digits (Some type)) e place =
        value type (some-then _ (seen al (fv type)).value
        (some-then _ (kind_of_number (Some (seen al (fv type)).value)) (some-map _ _ e)))
    layer-told (ValueNode-F.Array vs) e place =
        trees-told vs (some-map _ (values_of (map (seen al) (map fv vs))) e)
    layer-told (ValueNode-F.Dict es) e place =
        entries-told es (some-then sorted_entries
        (all_some (map entry_value (map (entry_seen al) (map fe es)))) (some-map dict_of _ e))
    layer-told (ValueNode-F.TypeAlias w) e place = (e, tt)
    layer-told (ValueNode-F.AttrAlias w) e place = (e, tt)
    layer-told (ValueNode-F.Word w) e place = tt
    layer-told (ValueNode-F.Str w) e place = tt
    layer-told (ValueNode-F.Symbol ws) e place = tt
    layer-told (ValueNode-F.Dense width items) e place = tt

    node-step : (x : ValueNode-F ValueNode EntryCst ValueCst) (y : ValueNode-F N E V)
        → map-ValueNode N E V ValueNode EntryCst ValueCst fn fe fv y ≡ x → NodeIs (roll-ValueNode x)
    unfolding node_seen entry_seen seen node_mentions entry_mentions value_mentions
    node-step x y is =
        subst (λ z. NodeIs (roll-ValueNode z)) is
        (subst (λ (s : NodeSeen). NodeSaid s (node_mentions (roll-ValueNode (under y))))
        (sym (fold-roll-ValueNode NodeSeen EntrySeen Seen (node_layer al) (entry_layer al)
        (value_layer al) (under y)))
        (subst (λ (m : ℕ → Notes). NodeSaid (layer_seen y) m)
        (sym (fold-roll-ValueNode (ℕ → Notes) Notes Notes said.node_layer said.entry_layer
        said.value_layer (under y))) (layer-told y)))

    abbrev entry_under : EntryCst-F N E V → EntryCst-F ValueNode EntryCst ValueCst
    entry_under y = map-EntryCst N E V ValueNode EntryCst ValueCst fn fe fv y

    abbrev entry_layer_seen : EntryCst-F N E V → EntrySeen
    entry_layer_seen y = entry_layer al (map-EntryCst ValueNode EntryCst ValueCst NodeSeen EntrySeen
        Seen (node_seen al) (entry_seen al) (seen al) (entry_under y))

    abbrev entry_layer_said : EntryCst-F N E V → Notes
    entry_layer_said y = said.entry_layer (map-EntryCst ValueNode EntryCst ValueCst (ℕ → Notes)
        Notes Notes node_mentions entry_mentions value_mentions (entry_under y))

    entry-by : (place : ℕ) (key : Text) (v : Option V)
        → ValueSaid (entry_layer_seen (record { place = place; key = key; value = v })).seen
        (entry_layer_said (record { place = place; key = key; value = v }))
    entry-by place key None e = tt
    entry-by place key (Some v) e = value v e

    entry-step : (x : EntryCst-F ValueNode EntryCst ValueCst) (y : EntryCst-F N E V)
        → map-EntryCst N E V ValueNode EntryCst ValueCst fn fe fv y ≡ x → EntryIs (roll-EntryCst x)
    unfolding node_seen entry_seen seen node_mentions entry_mentions value_mentions
    entry-step x y is =
        subst (λ z. EntryIs (roll-EntryCst z)) is
        (subst (λ (s : EntrySeen).
        ValueSaid s.seen (entry_mentions (roll-EntryCst (entry_under y))))
        (sym (fold-roll-EntryCst NodeSeen EntrySeen Seen (node_layer al) (entry_layer al)
        (value_layer al) (entry_under y)))
        (subst (λ (m : Notes). ValueSaid (entry_layer_seen y).seen m)
        (sym (fold-roll-EntryCst (ℕ → Notes) Notes Notes said.node_layer said.entry_layer
        said.value_layer (entry_under y))) (entry-by y.place y.key y.value)))

    abbrev value_under : ValueCst-F N E V → ValueCst-F ValueNode EntryCst ValueCst
    value_under y = map-ValueCst N E V ValueNode EntryCst ValueCst fn fe fv y

    value-step : (x : ValueCst-F ValueNode EntryCst ValueCst) (y : ValueCst-F N E V)
        → map-ValueCst N E V ValueNode EntryCst ValueCst fn fe fv y ≡ x → ValueIs (roll-ValueCst x)
    unfolding node_seen entry_seen seen node_mentions entry_mentions value_mentions
    value-step x y is =
        subst (λ z. ValueIs (roll-ValueCst z)) is
        (subst (λ (s : Seen). ValueSaid s (value_mentions (roll-ValueCst (value_under y))))
        (sym (fold-roll-ValueCst NodeSeen EntrySeen Seen (node_layer al) (entry_layer al)
        (value_layer al) (value_under y)))
        (subst (λ (m : Notes). is_some (node_seen al (fn y.node)).value ≡ true → AreTold al m)
        (sym (fold-roll-ValueCst (ℕ → Notes) Notes Notes said.node_layer said.entry_layer
        said.value_layer (value_under y))) (λ e. node y.node e y.place)))

  -- what a tree mentions has a value, where the tree has one
  pub value-told : (v : ValueCst) → is_some (value_of al v) ≡ true → AreTold al (value_mentions v)
  value-told =
      ind-ValueCst NodeIs EntryIs ValueIs
      (λ x y is. node-step _ _ _ (λ e. e.0) (λ e. e.0) (λ e. e.0) (λ e. e.1) (λ e. e.1) (λ e. e.1)
      x y is)
      (λ x y is. entry-step _ _ _ (λ e. e.0) (λ e. e.0) (λ e. e.0) (λ e. e.1) (λ e. e.1) (λ e. e.1)
      x y is)
      (λ x y is. value-step _ _ _ (λ e. e.0) (λ e. e.0) (λ e. e.0) (λ e. e.1) (λ e. e.1) (λ e. e.1)
      x y is)

  pub entry-told : (e : EntryCst) → is_some (entry_seen al e).seen.value ≡ true
      → AreTold al (entry_mentions e)
  entry-told =
      ind-EntryCst NodeIs EntryIs ValueIs
      (λ x y is. node-step _ _ _ (λ e. e.0) (λ e. e.0) (λ e. e.0) (λ e. e.1) (λ e. e.1) (λ e. e.1)
      x y is)
      (λ x y is. entry-step _ _ _ (λ e. e.0) (λ e. e.0) (λ e. e.0) (λ e. e.1) (λ e. e.1) (λ e. e.1)
      x y is)
      (λ x y is. value-step _ _ _ (λ e. e.0) (λ e. e.0) (λ e. e.0) (λ e. e.1) (λ e. e.1) (λ e. e.1)
      x y is)
