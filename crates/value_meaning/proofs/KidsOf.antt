-- The kids of a form, one equation for each form, and its kids' nesting.
use Rattle.std.proofs.Common.{◌≡◌, ◌≤◌, ◌∙◌, refl, sym, ap, subst, arith, ℕ, ◌+◌, Bool, List, [], ◌∷◌, ◌++◌, map}
use Rattle.std.specs.declared.option.Option.{Option}
use Rattle.std.specs.declared.option.Option.TheVariants.{Some, None}
use Rattle.attr_value.specs.declared.kind.ShapeKind.{ShapeKind}
use Rattle.generic_syntax.specs.declared.cst.EntryCst.{EntryCst}
use Rattle.generic_syntax.specs.declared.cst.ItemCst.{ItemCst}
use Rattle.generic_syntax.specs.declared.cst.ValueCst.{ValueCst}
use Rattle.generic_syntax.specs.declared.cst.ValueNode.{ValueNode, roll-ValueNode, map-ValueNode, out-ValueNode}
use Rattle.generic_syntax.specs.declared.cst.ValueNode.{out-roll-ValueNode, roll-out-ValueNode}
use Rattle.generic_syntax.specs.declared.cst.ValueNode.TheOpen.{ValueNode-F}
use Rattle.generic_syntax.specs.declared.cst.ValueNode.TheVariants as variant
use Rattle.ir_lexer.specs.Spelling.{Text}
use Rattle.value_meaning.specs.KidsSeen.{kids_layer, kids_seen, nesting_layer, kids_nesting}
use Rattle.value_meaning.specs.Entered.{seen_values}
use Rattle.value_meaning.specs.Meaning.{Aliases, Seen, NodeSeen, EntrySeen}
use Rattle.value_meaning.specs.Meaning.{seen, entry_seen, node_seen}

-- by the layer of a form
nesting-rolled : (r : ValueNode-F ValueNode EntryCst ValueCst) (n : ℕ)
    → kids_nesting (roll-ValueNode r) n ≡ nesting_layer r n
unfolding kids_nesting
nesting-rolled r n = ap (λ l. nesting_layer l n) (out-roll-ValueNode r)

pub nesting-word : (w : Text) (n : ℕ)
    → kids_nesting (variant.Word w) n ≡ n + 1
nesting-word w n =
    ap (λ r. kids_nesting r n) (sym (variant.rolls-Word w))
    ∙ nesting-rolled (ValueNode-F.Word w) n

pub nesting-type_alias : (w : Text) (n : ℕ)
    → kids_nesting (variant.TypeAlias w) n ≡ n + 1
nesting-type_alias w n =
    ap (λ r. kids_nesting r n) (sym (variant.rolls-TypeAlias w))
    ∙ nesting-rolled (ValueNode-F.TypeAlias w) n

pub nesting-attr_alias : (w : Text) (n : ℕ)
    → kids_nesting (variant.AttrAlias w) n ≡ n + 1
nesting-attr_alias w n =
    ap (λ r. kids_nesting r n) (sym (variant.rolls-AttrAlias w))
    ∙ nesting-rolled (ValueNode-F.AttrAlias w) n

pub nesting-dialect : (is_type : Bool) (w : Text) (vs : List ValueCst) (n : ℕ)
    → kids_nesting (variant.Dialect is_type w vs) n ≡ n + 1
nesting-dialect is_type w vs n =
    ap (λ r. kids_nesting r n) (sym (variant.rolls-Dialect is_type w vs))
    ∙ nesting-rolled (ValueNode-F.Dialect is_type w vs) n

pub nesting-function : (xs ys : List ValueCst) (n : ℕ)
    → kids_nesting (variant.Function xs ys) n ≡ n + 1
nesting-function xs ys n =
    ap (λ r. kids_nesting r n) (sym (variant.rolls-Function xs ys))
    ∙ nesting-rolled (ValueNode-F.Function xs ys) n

pub nesting-tuple : (vs : List ValueCst) (n : ℕ)
    → kids_nesting (variant.Tuple vs) n ≡ n + 1
nesting-tuple vs n =
    ap (λ r. kids_nesting r n) (sym (variant.rolls-Tuple vs))
    ∙ nesting-rolled (ValueNode-F.Tuple vs) n

pub nesting-shaped : (kind : ShapeKind) (ds : List Text) (c : ValueCst) (n : ℕ)
    → kids_nesting (variant.Shaped kind ds c) n ≡ n + 1
nesting-shaped kind ds c n =
    ap (λ r. kids_nesting r n) (sym (variant.rolls-Shaped kind ds c))
    ∙ nesting-rolled (ValueNode-F.Shaped kind ds c) n

pub nesting-complex : (c : ValueCst) (n : ℕ)
    → kids_nesting (variant.Complex c) n ≡ n + 1
nesting-complex c n =
    ap (λ r. kids_nesting r n) (sym (variant.rolls-Complex c))
    ∙ nesting-rolled (ValueNode-F.Complex c) n

pub nesting-str : (w : Text) (n : ℕ)
    → kids_nesting (variant.Str w) n ≡ n + 1
nesting-str w n =
    ap (λ r. kids_nesting r n) (sym (variant.rolls-Str w))
    ∙ nesting-rolled (ValueNode-F.Str w) n

pub nesting-array : (vs : List ValueCst) (n : ℕ)
    → kids_nesting (variant.Array vs) n ≡ n + 1
nesting-array vs n =
    ap (λ r. kids_nesting r n) (sym (variant.rolls-Array vs))
    ∙ nesting-rolled (ValueNode-F.Array vs) n

pub nesting-dict : (es : List EntryCst) (n : ℕ)
    → kids_nesting (variant.Dict es) n ≡ n + 1
nesting-dict es n =
    ap (λ r. kids_nesting r n) (sym (variant.rolls-Dict es))
    ∙ nesting-rolled (ValueNode-F.Dict es) n

pub nesting-symbol : (ws : List Text) (n : ℕ)
    → kids_nesting (variant.Symbol ws) n ≡ n + 1
nesting-symbol ws n =
    ap (λ r. kids_nesting r n) (sym (variant.rolls-Symbol ws))
    ∙ nesting-rolled (ValueNode-F.Symbol ws) n

pub nesting-dense : (width : ℕ) (items : List ItemCst) (n : ℕ)
    → kids_nesting (variant.Dense width items) n ≡ n + 1
nesting-dense width items n =
    ap (λ r. kids_nesting r n) (sym (variant.rolls-Dense width items))
    ∙ nesting-rolled (ValueNode-F.Dense width items) n

-- kids nest no less deep than their form
pub nesting-least : (node : ValueNode) (n : ℕ) → 1 ≤ n → 1 ≤ kids_nesting node n
nesting-least node n least =
    subst (λ (r : ValueNode). 1 ≤ kids_nesting r n) (roll-out-ValueNode node)
    (subst (λ m. 1 ≤ m) (sym (nesting-rolled (out-ValueNode node) n)) (go (out-ValueNode node)))
  where
    go : (r : ValueNode-F ValueNode EntryCst ValueCst) → 1 ≤ nesting_layer r n
    go (ValueNode-F.Number negative w t) = least
    go (ValueNode-F.Word w) = omega (arith)
    go (ValueNode-F.TypeAlias w) = omega (arith)
    go (ValueNode-F.AttrAlias w) = omega (arith)
    go (ValueNode-F.Dialect is_type w vs) = omega (arith)
    go (ValueNode-F.Function xs ys) = omega (arith)
    go (ValueNode-F.Tuple vs) = omega (arith)
    go (ValueNode-F.Shaped kind ds c) = omega (arith)
    go (ValueNode-F.Complex c) = omega (arith)
    go (ValueNode-F.Str w) = omega (arith)
    go (ValueNode-F.Array vs) = omega (arith)
    go (ValueNode-F.Dict es) = omega (arith)
    go (ValueNode-F.Symbol ws) = omega (arith)
    go (ValueNode-F.Dense width items) = omega (arith)

-- the type behind a number stands at the number's nesting
pub nesting-any_number : (negative : Bool) (w : Text) (t : Option ValueCst) (n : ℕ)
    → kids_nesting (variant.Number negative w t) n ≡ n
nesting-any_number negative w t n =
    ap (λ r. kids_nesting r n) (sym (variant.rolls-Number negative w t))
    ∙ nesting-rolled (ValueNode-F.Number negative w t) n

-- what is no number has its kids one deeper
pub nesting-other : (node : ValueNode) → ((negative : Bool) (w : Text) (t : Option ValueCst)
    → node ≡ variant.Number negative w t → ⊥) → (n : ℕ) → kids_nesting node n ≡ n + 1
nesting-other node other n =
    ap (λ r. kids_nesting r n) (sym (roll-out-ValueNode node))
    ∙ nesting-rolled (out-ValueNode node) n
    ∙ go (out-ValueNode node) (sym (roll-out-ValueNode node))
  where
    go : (r : ValueNode-F ValueNode EntryCst ValueCst) → node ≡ roll-ValueNode r
        → nesting_layer r n ≡ n + 1
    go (ValueNode-F.Number negative w t) is =
        absurd (other negative w t (is ∙ variant.rolls-Number negative w t))
    go (ValueNode-F.Word w) is = refl
    go (ValueNode-F.TypeAlias w) is = refl
    go (ValueNode-F.AttrAlias w) is = refl
    go (ValueNode-F.Dialect is_type w vs) is = refl
    go (ValueNode-F.Function xs ys) is = refl
    go (ValueNode-F.Tuple vs) is = refl
    go (ValueNode-F.Shaped kind ds c) is = refl
    go (ValueNode-F.Complex c) is = refl
    go (ValueNode-F.Str w) is = refl
    go (ValueNode-F.Array vs) is = refl
    go (ValueNode-F.Dict es) is = refl
    go (ValueNode-F.Symbol ws) is = refl
    go (ValueNode-F.Dense width items) is = refl

module _ (al : Aliases) where
  -- by the layer of a form
  kids-rolled : (r : ValueNode-F ValueNode EntryCst ValueCst)
      → kids_seen al (roll-ValueNode r) ≡ kids_layer (map-ValueNode ValueNode EntryCst ValueCst
      NodeSeen EntrySeen Seen (node_seen al) (entry_seen al) (seen al) r)
  unfolding kids_seen
  kids-rolled r = ap (λ l. kids_layer (map-ValueNode ValueNode EntryCst ValueCst
      NodeSeen EntrySeen Seen (node_seen al) (entry_seen al) (seen al) l)) (out-roll-ValueNode r)

  pub kids-word : (w : Text) → kids_seen al (variant.Word w) ≡ []
  kids-word w =
      ap (kids_seen al) (sym (variant.rolls-Word w))
      ∙ kids-rolled (ValueNode-F.Word w)

  pub kids-type_alias : (w : Text) → kids_seen al (variant.TypeAlias w) ≡ []
  kids-type_alias w =
      ap (kids_seen al) (sym (variant.rolls-TypeAlias w))
      ∙ kids-rolled (ValueNode-F.TypeAlias w)

  pub kids-attr_alias : (w : Text) → kids_seen al (variant.AttrAlias w) ≡ []
  kids-attr_alias w =
      ap (kids_seen al) (sym (variant.rolls-AttrAlias w))
      ∙ kids-rolled (ValueNode-F.AttrAlias w)

  pub kids-dialect : (is_type : Bool) (w : Text) (vs : List ValueCst) → kids_seen al (variant.Dialect is_type w vs) ≡ map (seen al) vs
  kids-dialect is_type w vs =
      ap (kids_seen al) (sym (variant.rolls-Dialect is_type w vs))
      ∙ kids-rolled (ValueNode-F.Dialect is_type w vs)

  pub kids-function : (xs ys : List ValueCst) → kids_seen al (variant.Function xs ys) ≡ map (seen al) xs ++ map (seen al) ys
  kids-function xs ys =
      ap (kids_seen al) (sym (variant.rolls-Function xs ys))
      ∙ kids-rolled (ValueNode-F.Function xs ys)

  pub kids-tuple : (vs : List ValueCst) → kids_seen al (variant.Tuple vs) ≡ map (seen al) vs
  kids-tuple vs =
      ap (kids_seen al) (sym (variant.rolls-Tuple vs))
      ∙ kids-rolled (ValueNode-F.Tuple vs)

  pub kids-shaped : (kind : ShapeKind) (ds : List Text) (c : ValueCst) → kids_seen al (variant.Shaped kind ds c) ≡ seen al c ∷ []
  kids-shaped kind ds c =
      ap (kids_seen al) (sym (variant.rolls-Shaped kind ds c))
      ∙ kids-rolled (ValueNode-F.Shaped kind ds c)

  pub kids-complex : (c : ValueCst) → kids_seen al (variant.Complex c) ≡ seen al c ∷ []
  kids-complex c =
      ap (kids_seen al) (sym (variant.rolls-Complex c))
      ∙ kids-rolled (ValueNode-F.Complex c)

  pub kids-number_plain : (negative : Bool) (w : Text) → kids_seen al (variant.Number negative w None) ≡ []
  kids-number_plain negative w =
      ap (kids_seen al) (sym (variant.rolls-Number negative w None))
      ∙ kids-rolled (ValueNode-F.Number negative w None)

  pub kids-number : (negative : Bool) (w : Text) (t : ValueCst) → kids_seen al (variant.Number negative w (Some t)) ≡ seen al t ∷ []
  kids-number negative w t =
      ap (kids_seen al) (sym (variant.rolls-Number negative w (Some t)))
      ∙ kids-rolled (ValueNode-F.Number negative w (Some t))

  pub kids-str : (w : Text) → kids_seen al (variant.Str w) ≡ []
  kids-str w =
      ap (kids_seen al) (sym (variant.rolls-Str w))
      ∙ kids-rolled (ValueNode-F.Str w)

  pub kids-array : (vs : List ValueCst) → kids_seen al (variant.Array vs) ≡ map (seen al) vs
  kids-array vs =
      ap (kids_seen al) (sym (variant.rolls-Array vs))
      ∙ kids-rolled (ValueNode-F.Array vs)

  pub kids-dict : (es : List EntryCst) → kids_seen al (variant.Dict es) ≡ seen_values (map (entry_seen al) es)
  kids-dict es =
      ap (kids_seen al) (sym (variant.rolls-Dict es))
      ∙ kids-rolled (ValueNode-F.Dict es)

  pub kids-symbol : (ws : List Text) → kids_seen al (variant.Symbol ws) ≡ []
  kids-symbol ws =
      ap (kids_seen al) (sym (variant.rolls-Symbol ws))
      ∙ kids-rolled (ValueNode-F.Symbol ws)

  pub kids-dense : (width : ℕ) (items : List ItemCst) → kids_seen al (variant.Dense width items) ≡ []
  kids-dense width items =
      ap (kids_seen al) (sym (variant.rolls-Dense width items))
      ∙ kids-rolled (ValueNode-F.Dense width items)
