-- What a tree of a value mentions, by what stands in it: one lemma for each form.
use Rattle.std.proofs.Common.{◌≡◌, ℕ, Bool, true, false, List, [], ◌∷◌, ◌++◌, refl, ap}
use Rattle.std.proofs.Common.{sym, ◌∙◌, ◌⊎◌, inl, inr}
use Rattle.std.specs.declared.option.Option.{Option}
use Rattle.std.specs.declared.option.Option.TheVariants.{Some, None}
use Rattle.attr_value.specs.declared.kind.ShapeKind.{ShapeKind}
use Rattle.generic_syntax.specs.declared.cst.EntryCst.{EntryCst, out-EntryCst}
use Rattle.generic_syntax.specs.declared.cst.EntryCst.{map-EntryCst, fold_out-EntryCst}
use Rattle.generic_syntax.specs.declared.cst.ItemCst.{ItemCst}
use Rattle.generic_syntax.specs.declared.cst.ValueCst.{ValueCst, out-ValueCst, fold_out-ValueCst}
use Rattle.generic_syntax.specs.declared.cst.ValueNode.{ValueNode, roll-ValueNode}
use Rattle.generic_syntax.specs.declared.cst.ValueNode.{fold-roll-ValueNode}
use Rattle.generic_syntax.specs.declared.cst.ValueNode.TheOpen.{ValueNode-F}
use Rattle.generic_syntax.specs.declared.cst.ValueNode.TheVariants as node
use Rattle.ir_lexer.specs.Spelling.{Text}
use Rattle.std.specs.declared.result.Result.{Result}
use Rattle.std.specs.declared.result.Result.TheVariants.{Ok, Err}
use Rattle.std.specs.Result.{OnOk}
use Rattle.symbol_scopes.specs.Regions.{Notes, no_notes, marks}
use Rattle.symbol_scopes.specs.ScopeMarks.{ScopeMark}
use Rattle.symbol_scopes.specs.ScopeMarks as mark
use Rattle.module_names.specs.Mentions.{alias_mentioned, node_layer, entry_layer}
use Rattle.module_names.specs.Mentions.{value_layer}
use Rattle.module_names.specs.Mentions.{value_mentions, entry_mentions, node_mentions}
use Rattle.module_names.specs.Mentions.{maybe_mentions}
use Rattle.module_names.specs.Said.{Said, joined, noted}

-- a mention of an alias is all that is said
pub said-alias : {A E : Type 0} (r : Result A E) (a b : List ScopeMark) (is_type : Bool)
    (w bytes : Text) (place : ℕ) (ns : Notes) → bytes ≡ w → alias_mentioned is_type w place ≡ ns
    → OnOk r (b ≡ a ++ mark.mentions_alias
    (record { is_type = is_type; name = bytes; place = place }) ∷ [])
    → OnOk r (Said a b ns)
said-alias (Ok x) a b is_type w bytes place ns same is e = record {
  is = e
      ∙ ap (λ t. a ++ mark.mentions_alias
      (record { is_type = is_type; name = t; place = place }) ∷ []) same
      ∙ ap (λ m. a ++ marks m) is;
}
said-alias (Err x) a b is_type w bytes place ns same is e = tt

-- a value, by its form and its place
pub value-opens : (v : ValueCst)
    → node_mentions (out-ValueCst v).node (out-ValueCst v).place ≡ value_mentions v
unfolding value_mentions node_mentions
value-opens v = sym (fold_out-ValueCst _ _ _ node_layer entry_layer value_layer v)

-- an entry, by its value
pub entry-opens : (e : EntryCst) → maybe_mentions (out-EntryCst e).value ≡ entry_mentions e
unfolding value_mentions entry_mentions node_mentions
entry-opens e = sym (fold_out-EntryCst _ _ _ node_layer entry_layer value_layer e
    ∙ go (out-EntryCst e).place (out-EntryCst e).key (out-EntryCst e).value)
  where
    go : (place : ℕ) (key : Text) (v : Option ValueCst)
        → entry_layer (map-EntryCst ValueNode EntryCst ValueCst (ℕ → Notes) Notes Notes
        node_mentions entry_mentions value_mentions
        (record { place = place; key = key; value = v }))
        ≡ maybe_mentions v
    go place key None = refl
    go place key (Some v) = refl

module _ (n : ValueNode) (place : ℕ) where
  -- what a form says, by one level of it
  node-is : (q : ValueNode) (v : ValueNode-F ValueNode EntryCst ValueCst) (ns : ℕ → Notes)
      → n ≡ q → roll-ValueNode v ≡ q → node_mentions (roll-ValueNode v) ≡ ns
      → ns place ≡ node_mentions n place
  node-is q v ns e rolled opens =
      ap (λ f. f place) (sym opens ∙ ap node_mentions (rolled ∙ sym e))

  -- what the form mentions, of each form
  pub type_alias-node : (w : Text) → n ≡ node.TypeAlias w
      → alias_mentioned true w place ≡ node_mentions n place
  unfolding node_mentions
  type_alias-node w e = node-is (node.TypeAlias w) (ValueNode-F.TypeAlias w)
      (λ p. alias_mentioned true w p) e (node.rolls-TypeAlias w)
      (fold-roll-ValueNode _ _ _ node_layer entry_layer value_layer (ValueNode-F.TypeAlias w))

  pub attr_alias-node : (w : Text) → n ≡ node.AttrAlias w
      → alias_mentioned false w place ≡ node_mentions n place
  unfolding node_mentions
  attr_alias-node w e = node-is (node.AttrAlias w) (ValueNode-F.AttrAlias w)
      (λ p. alias_mentioned false w p) e (node.rolls-AttrAlias w)
      (fold-roll-ValueNode _ _ _ node_layer entry_layer value_layer (ValueNode-F.AttrAlias w))

  pub dialect-node : (is_type : Bool) (w : Text) (vs : List ValueCst)
      → n ≡ node.Dialect is_type w vs
      → noted value_mentions vs ≡ node_mentions n place
  unfolding node_mentions value_mentions
  dialect-node is_type w vs e = node-is (node.Dialect is_type w vs)
      (ValueNode-F.Dialect is_type w vs)
      (λ p. noted value_mentions vs) e (node.rolls-Dialect is_type w vs)
      (fold-roll-ValueNode _ _ _ node_layer entry_layer value_layer
      (ValueNode-F.Dialect is_type w vs))

  pub function-node : (xs ys : List ValueCst) → n ≡ node.Function xs ys
      → joined (noted value_mentions xs) (noted value_mentions ys) ≡ node_mentions n place
  unfolding node_mentions value_mentions
  function-node xs ys e = node-is (node.Function xs ys) (ValueNode-F.Function xs ys)
      (λ p. joined (noted value_mentions xs) (noted value_mentions ys)) e
      (node.rolls-Function xs ys)
      (fold-roll-ValueNode _ _ _ node_layer entry_layer value_layer (ValueNode-F.Function xs ys))

  pub tuple-node : (vs : List ValueCst) → n ≡ node.Tuple vs
      → noted value_mentions vs ≡ node_mentions n place
  unfolding node_mentions value_mentions
  tuple-node vs e = node-is (node.Tuple vs) (ValueNode-F.Tuple vs)
      (λ p. noted value_mentions vs) e (node.rolls-Tuple vs)
      (fold-roll-ValueNode _ _ _ node_layer entry_layer value_layer (ValueNode-F.Tuple vs))

  pub array-node : (vs : List ValueCst) → n ≡ node.Array vs
      → noted value_mentions vs ≡ node_mentions n place
  unfolding node_mentions value_mentions
  array-node vs e = node-is (node.Array vs) (ValueNode-F.Array vs)
      (λ p. noted value_mentions vs) e (node.rolls-Array vs)
      (fold-roll-ValueNode _ _ _ node_layer entry_layer value_layer (ValueNode-F.Array vs))

  pub shaped-node : (kind : ShapeKind) (ds : List Text) (c : ValueCst) → n ≡ node.Shaped kind ds c
      → value_mentions c ≡ node_mentions n place
  unfolding node_mentions value_mentions
  shaped-node kind ds c e = node-is (node.Shaped kind ds c) (ValueNode-F.Shaped kind ds c)
      (λ p. value_mentions c) e (node.rolls-Shaped kind ds c)
      (fold-roll-ValueNode _ _ _ node_layer entry_layer value_layer (ValueNode-F.Shaped kind ds c))

  pub complex-node : (c : ValueCst) → n ≡ node.Complex c
      → value_mentions c ≡ node_mentions n place
  unfolding node_mentions value_mentions
  complex-node c e = node-is (node.Complex c) (ValueNode-F.Complex c)
      (λ p. value_mentions c) e (node.rolls-Complex c)
      (fold-roll-ValueNode _ _ _ node_layer entry_layer value_layer (ValueNode-F.Complex c))

  pub number-node : (negative : Bool) (w : Text) (t : Option ValueCst)
      → n ≡ node.Number negative w t → maybe_mentions t ≡ node_mentions n place
  unfolding node_mentions value_mentions
  number-node negative w None e = node-is (node.Number negative w None)
      (ValueNode-F.Number negative w None)
      (λ p. no_notes) e (node.rolls-Number negative w None)
      (fold-roll-ValueNode _ _ _ node_layer entry_layer value_layer
      (ValueNode-F.Number negative w None))
  number-node negative w (Some t) e = node-is (node.Number negative w (Some t))
      (ValueNode-F.Number negative w (Some t))
      (λ p. value_mentions t) e (node.rolls-Number negative w (Some t))
      (fold-roll-ValueNode _ _ _ node_layer entry_layer value_layer
      (ValueNode-F.Number negative w (Some t)))

  pub dict-node : (es : List EntryCst) → n ≡ node.Dict es
      → noted entry_mentions es ≡ node_mentions n place
  unfolding node_mentions entry_mentions
  dict-node es e = node-is (node.Dict es) (ValueNode-F.Dict es)
      (λ p. noted entry_mentions es) e (node.rolls-Dict es)
      (fold-roll-ValueNode _ _ _ node_layer entry_layer value_layer (ValueNode-F.Dict es))

  -- a form in which nothing stands
  pub other-node : ((w : Text) × n ≡ node.Word w) ⊎ ((w : Text) × n ≡ node.Str w)
      ⊎ ((ws : List Text) × n ≡ node.Symbol ws)
      ⊎ ((width : ℕ) × (items : List ItemCst) × n ≡ node.Dense width items)
      → no_notes ≡ node_mentions n place
  unfolding node_mentions
  other-node (inl (w, e)) = node-is (node.Word w) (ValueNode-F.Word w)
      (λ p. no_notes) e (node.rolls-Word w)
      (fold-roll-ValueNode _ _ _ node_layer entry_layer value_layer (ValueNode-F.Word w))
  other-node (inr (inl (w, e))) = node-is (node.Str w) (ValueNode-F.Str w)
      (λ p. no_notes) e (node.rolls-Str w)
      (fold-roll-ValueNode _ _ _ node_layer entry_layer value_layer (ValueNode-F.Str w))
  other-node (inr (inr (inl (ws, e)))) = node-is (node.Symbol ws) (ValueNode-F.Symbol ws)
      (λ p. no_notes) e (node.rolls-Symbol ws)
      (fold-roll-ValueNode _ _ _ node_layer entry_layer value_layer (ValueNode-F.Symbol ws))
  other-node (inr (inr (inr (width, items, e)))) =
      node-is (node.Dense width items) (ValueNode-F.Dense width items)
      (λ p. no_notes) e (node.rolls-Dense width items)
      (fold-roll-ValueNode _ _ _ node_layer entry_layer value_layer
      (ValueNode-F.Dense width items))
