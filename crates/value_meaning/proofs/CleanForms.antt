-- The marks of each form whose value is good and has room where it stands have no fault, where
-- those of the values in it have none (`layer-clean`).
use Rattle.std.proofs.Common.{◌≡◌, ◌∙◌, ◌≤◌, inl, inr, ℕ, ◌+◌, Bool, true, false}
use Rattle.std.proofs.Common.{List, [], ◌∷◌, ◌++◌, map, length, refl, sym, ap, subst, arith}
use Rattle.std.proofs.Common.{append_assoc, nat_lt, is_some, ℤ}
use Rattle.std.specs.List.{AllByRecursion}
use Rattle.std.specs.Prelude.{option_map, option_and_then}
use Rattle.std.specs.declared.option.Option.{Option}
use Rattle.std.specs.declared.option.Option.TheVariants.{Some, None}
use Rattle.attr_value.specs.declared.head.Head.{Head}
use Rattle.attr_value.specs.declared.head.Head.TheVariants as h
use Rattle.attr_value.specs.declared.head.TheConstants.{DEPTH_LIMIT}
use Rattle.attr_value.specs.declared.kind.Dim.{Dim}
use Rattle.attr_value.specs.declared.kind.IntKind.{IntKind}
use Rattle.attr_value.specs.declared.kind.ShapeKind.{ShapeKind}
use Rattle.attr_value.specs.Heads.{IsType, MayHaveKids, is_made_of_types}
use Rattle.attr_value.specs.Values.{Value, list_of, greatest_depth}
use Rattle.dialect_defs.specs.Goodness.{IsInstance}
use Rattle.first_fault.specs.declared.fault.Fault.{Fault}
use Rattle.generic_syntax.specs.declared.cst.ItemCst.{ItemCst}
use Rattle.generic_syntax.specs.declared.cst.ValueNode.TheOpen.{ValueNode-F}
use Rattle.ir_lexer.specs.Spelling.{Text}
use Rattle.value_meaning.specs.Entered.{seen_keys, seen_values, entry_values, key_claims}
use Rattle.value_meaning.specs.Judging.{Ground, IsGood, Fits, IsRight, HasRight, HaveRight}
use Rattle.value_meaning.specs.Judging.{IsNoBadInteger}
use Rattle.value_meaning.specs.Keys.{HasRepeat}
use Rattle.value_meaning.specs.Meaning.{Aliases, Mark, Seen, EntrySeen, NodeSeen, claim_at, leaf}
use Rattle.value_meaning.specs.Meaning.{made_of, kids_of, stands, mentions, spells, counts, holds}
use Rattle.value_meaning.specs.Meaning.{measures, keys, names, dict_value, entries_marks}
use Rattle.value_meaning.specs.Meaning.{marks_of, seen_at, seen_unit, seen_leaf, type_marks}
use Rattle.value_meaning.specs.Meaning.{node_layer, values_of}
use Rattle.value_meaning.specs.Meaning as claim
use Rattle.value_meaning.specs.Spelled.{all_some, dense_item, dim_of, is_dense_width, kind_of_head}
use Rattle.value_meaning.specs.Spelled.{kind_of_number, number_head, residue, signed_number}
use Rattle.value_meaning.specs.Spelled.{word_head}
use Rattle.value_meaning.proofs.Among.{among-cons}
use Rattle.value_meaning.proofs.Arrays.{dense-bad}
use Rattle.value_meaning.proofs.Dicts.{dict-spelled, good-entries}
use Rattle.value_meaning.proofs.EntryFaults.{entries-fault}
use Rattle.value_meaning.proofs.Leaves.{less-some, some-same}
use Rattle.value_meaning.proofs.Made.{all_some-are, list_of-kids_of}
use Rattle.value_meaning.proofs.Sorted.{sorted-all}
use Rattle.value_meaning.proofs.Clean.{Among, AreClean, Stays, clean-nil, clean-cons, no-kids}
use Rattle.value_meaning.proofs.Clean.{IsMadeRight, whole-right, made-kids, kids-right, kids-clean}
use Rattle.value_meaning.proofs.Clean.{IsFaultless, IsFaultlessNode}

module _ (g : Ground) where
  -- a form that texts have
  spells-clean : (place : ℕ) (b : Bool) → b ≡ true → AreClean g (claim_at place (spells b) ∷ [])
  spells-clean place b e =
      clean-cons g (claim_at place (spells b)) []
      (λ code breaks. let no = breaks.1 in absurd (cc)) (clean-nil g)

  -- a word that has a value is known
  word-known : (n : ℕ) (o : Option Head) → HasRight g n (option_map leaf o) → is_some o ≡ true
  word-known n None x = let no = x.spells in absurd (cc)
  word-known n (Some head) x = refl

  -- a good symbol has a part
  symbol-parts : (n : ℕ) (parts : List Text) → HasRight g n (Some (leaf (h.Symbol parts)))
      → nat_lt 0 (length parts) ≡ true
  symbol-parts n parts x =
      let is : x.value ≡ leaf (h.Symbol parts) = let e = x.spells in cc in
      less-some (length parts) (subst (IsGood g) is x.right.good).node.rule.right

  -- a mention of an alias for which there is room
  mention-clean : (place n : ℕ) (v : Option Value) → HasRight g n v
      → AreClean g (claim_at place (mentions n v) ∷ [])
  mention-clean place n None x = let no = x.spells in absurd (cc)
  mention-clean place n (Some v) x =
      let is : x.value ≡ v = let e = x.spells in cc in
      let right = subst (IsRight g n) is x.right in
      let fits = right.fits in let shallow = right.good.shallow in
      clean-cons g (claim_at place (mentions n (Some v))) []
      (λ code breaks. let deep = breaks.1 in omega (arith, deep, fits, shallow)) (clean-nil g)

  -- parameters of an instance
  names-clean : (place n : ℕ) (is_type : Bool) (name : Text) (args : List (Option Value))
      → IsMadeRight g n (h.Dialect is_type name) args
      → Stays g (claim_at place (names is_type name args))
  names-clean place n is_type name args m code breaks =
      let instance : IsInstance g.table g.tests g.types is_type name m.vs =
      subst (IsInstance g.table g.tests g.types is_type name) (list_of-kids_of m.vs)
      m.right.good.node.defined in
      elim breaks [
        | inl x ↦ x.1 (record { definition = instance.definition; defined = instance.defined })
        | inr x ↦ x.1.wrong (subst (IsInstance g.table g.tests g.types is_type name)
            (some-same m.vs x.1.parameters.values_are (sym m.are ∙ x.1.parameters.are)) instance)
      ]

  -- what is made of types holds types
  types-clean : (place n : ℕ) (head : Head) (spelled : List (Option Value))
      → is_made_of_types head ≡ true → IsMadeRight g n head spelled
      → Stays g (claim_at place (claim.types spelled))
  types-clean place n head spelled made m code breaks =
      let types : AllByRecursion IsType m.vs = subst (AllByRecursion IsType)
      (list_of-kids_of m.vs) (m.right.good.node.rule.types made) in
      breaks.1.wrong (subst (AllByRecursion IsType)
      (some-same m.vs breaks.1.kids_good.values_are (sym m.are ∙ breaks.1.kids_good.are)) types)

  -- ---- shapes

  -- the dimensions and the element of a right shape
  record IsShapeRight (n : ℕ) (kind : ShapeKind) (dims : Option (List Dim))
      (element : Option Value) : Type 0 where
    ds : List Dim
    dims_are : dims ≡ Some ds
    made : IsMadeRight g n (h.Shaped kind ds) (element ∷ [])

  shape-right : (n : ℕ) (kind : ShapeKind) (dims : Option (List Dim)) (element : Option Value)
      → HasRight g n (option_and_then
      (λ ds. option_map (λ v. made_of (h.Shaped kind ds) (v ∷ [])) element) dims)
      → IsShapeRight n kind dims element
  shape-right n kind None element x = let no = x.spells in absurd (cc)
  shape-right n kind (Some ds) None x = let no = x.spells in absurd (cc)
  shape-right n kind (Some ds) (Some v) x =
      let is : x.value ≡ made_of (h.Shaped kind ds) (v ∷ []) = let e = x.spells in cc in
      record {
        ds = ds;
        dims_are = refl;
        made = record { vs = v ∷ []; are = refl; right = subst (IsRight g n) is x.right };
      }

  -- ---- numbers

  -- a type that is an integer type, where it is right
  type-right : (n : ℕ) (v : Value) (kind : IntKind) → v.head ≡ h.Int kind → IsGood g v
      → n ≤ DEPTH_LIMIT → IsRight g n v
  type-right n v kind int good room =
      let none : greatest_depth v.kids ≡ 0 = no-kids v.kids
      (subst (λ head. MayHaveKids head (length (list_of v.kids))) int good.node.rule.count) in
      record { good = good; fits = omega (arith, none, room) }

  int-of : (head : Head) (kind : IntKind) → kind_of_head head ≡ Some kind → head ≡ h.Int kind
  int-of (h.Int kind) other e = let is : kind ≡ other = cc in ap h.Int is
  int-of _ other e = absurd (cc)

  -- a number has a kind at its type
  head-kind : (m : ℤ) (kind : Option IntKind) (head : Head)
      → option_and_then (λ k. option_map (λ n. h.Number k n) (residue k m)) kind ≡ Some head
      → (k : IntKind) × (kind ≡ Some k)
  head-kind m None head e = absurd (cc)
  head-kind m (Some k) head e = (k, refl)

  -- the type of a number that is right, is right
  number-type : (n : ℕ) (negative : Bool) (digits : Text) (type : Option Value)
      → IsNoBadInteger g type
      → HasRight g n (option_map leaf (number_head negative digits (Some type)))
      → HasRight g n type
  number-type n negative digits type integer x =
      go (number_head negative digits (Some type)) refl x
    where
      of_type : (o : Option Value) → type ≡ o → (kind : IntKind)
          → option_and_then (λ v. kind_of_head v.head) o ≡ Some kind → n ≤ DEPTH_LIMIT
          → HasRight g n type
      of_type None is kind e room = absurd (cc)
      of_type (Some v) is kind e room =
          let int = int-of v.head kind e in
          record {
            value = v;
            spells = is;
            right = type-right n v kind int (integer v kind is int) room;
          }

      go : (r : Option Head) → number_head negative digits (Some type) ≡ r
          → HasRight g n (option_map leaf r) → HasRight g n type
      go None is x = let no = x.spells in absurd (cc)
      go (Some head) is x =
          let it : x.value ≡ leaf head = let e = x.spells in cc in
          let fits : Fits n (leaf head) = subst (Fits n) it x.right.fits in
          let has = head-kind (signed_number negative digits) (kind_of_number (Some type)) head
          is in
          of_type type refl has.0 has.1 (omega (arith, fits))

  -- a number that may be written
  counts-clean : (place n : ℕ) (negative : Bool) (digits : Text) (type : Option (Option Value))
      → HasRight g n (option_map leaf (number_head negative digits type))
      → Stays g (claim_at place (counts negative digits type))
  counts-clean place n negative digits type x code breaks =
      let none = ap (option_map leaf) breaks.1 in
      let no : None ≡ Some x.value = sym none ∙ x.spells in absurd (cc)

  -- ---- dense arrays

  items-clean : (width : ℕ) (items : List ItemCst) (ns : List ℤ)
      → map (dense_item width) items ≡ map Some ns
      → AreClean g (map (λ item. claim_at item.place (holds width item)) items)
  items-clean width [] ns e = clean-nil g
  items-clean width (item ∷ items) [] e = absurd (cc)
  items-clean width (item ∷ items) (m ∷ ns) e =
      clean-cons g (claim_at item.place (holds width item))
      (map (λ item. claim_at item.place (holds width item)) items)
      (λ code breaks. let none = breaks.1 in
      let some : dense_item width item ≡ Some m = cc in
      let no : None ≡ Some m = sym none ∙ some in absurd (cc))
      (items-clean width items ns (cc))

  dense-clean : (place n width : ℕ) (items : List ItemCst)
      → HasRight g n (option_map (λ ns. leaf (h.Dense width ns))
      (all_some (map (dense_item width) items)))
      → AreClean g (claim_at place (spells (is_dense_width width))
      ∷ map (λ item. claim_at item.place (holds width item)) items)
  dense-clean place n width items x =
      clean-cons g (claim_at place (spells (is_dense_width width)))
      (map (λ item. claim_at item.place (holds width item)) items)
      (λ code breaks. dense-bad g width (all_some (map (dense_item width) items)) breaks.1
      (record { value = x.value; is = x.spells; good = x.right.good }))
      (go (all_some (map (dense_item width) items)) refl x.spells)
    where
      go : (r : Option (List ℤ)) → all_some (map (dense_item width) items) ≡ r
          → option_map (λ ns. leaf (h.Dense width ns)) r ≡ Some x.value
          → AreClean g (map (λ item. claim_at item.place (holds width item)) items)
      go None is e = absurd (cc)
      go (Some ns) is e = items-clean width items ns (all_some-are _ ns is)

  -- ---- dictionaries

  -- a fault of a key's claim is that of a key that stands twice
  key-repeats : (before : List Text) (es : List EntrySeen) (f : Fault)
      → Among g (key_claims before es) f → HasRepeat (before ++ seen_keys es)
  key-repeats before [] f x = absurd (clean-nil g f x)
  key-repeats before (e ∷ es) f x =
      elim (among-cons g.table g.tests g.types (claim_at e.place (keys before e.key))
      (key_claims (before ++ e.key ∷ []) es) f x) [
        | inl here ↦ record {
          before_it = before;
          key = e.key;
          after = seen_keys es;
          cut = refl;
          among = here.breaks.1;
        }
        | inr behind ↦ subst HasRepeat (append_assoc before (e.key ∷ []) (seen_keys es))
            (key-repeats (before ++ e.key ∷ []) es f behind)
      ]

  -- the values of the entries of a right dictionary are right, one deeper
  dict-kids-right : (n : ℕ) (es : List EntrySeen) → HasRight g n (dict_value es)
      → HaveRight g (n + 1) (entry_values es)
  dict-kids-right n es x =
      let it = dict-spelled es x.value x.spells in
      record {
        values_are = map (λ p. p.1) it.pairs;
        spell = it.spell;
        right = (sorted-all (IsRight g (n + 1)) it.pairs it.sorted it.sorts).1
            (kids-right g n (h.Dict (map (λ p. p.0) it.sorted)) (map (λ p. p.1) it.sorted)
            (subst (IsRight g n) it.is x.right));
      }

  dict-clean : (n : ℕ) (es : List EntrySeen) → AllByRecursion (IsFaultless g) (seen_values es)
      → HasRight g n (dict_value es) → AreClean g (entries_marks (n + 1) [] es)
  dict-clean n es all x f fault = elim (entries-fault g (n + 1) [] es f fault) [
    | inl key ↦ (good-entries g es (record {
      value = x.value;
      is = x.spells;
      good = x.right.good;
    })).distinct (key-repeats [] es f key)
    | inr value ↦ kids-clean g (n + 1) (seen_values es) all (dict-kids-right n es x) f value
  ]

  -- ---- layers

  -- the values in a form have no faults where they are right, and a number's type is no integer
  -- type or a good one
  abbrev pub HasFaultlessParts : ValueNode-F NodeSeen EntrySeen Seen → Type 0
  HasFaultlessParts (ValueNode-F.Dialect is_type name args) = AllByRecursion (IsFaultless g) args
  HasFaultlessParts (ValueNode-F.Function inputs outputs) =
      AllByRecursion (IsFaultless g) (inputs ++ outputs)
  HasFaultlessParts (ValueNode-F.Tuple kids) = AllByRecursion (IsFaultless g) kids
  HasFaultlessParts (ValueNode-F.Shaped kind dims element) = IsFaultless g element
  HasFaultlessParts (ValueNode-F.Complex element) = IsFaultless g element
  HasFaultlessParts (ValueNode-F.Number negative digits (Some type)) =
      IsFaultless g type × IsNoBadInteger g type.value
  HasFaultlessParts (ValueNode-F.Array vs) = AllByRecursion (IsFaultless g) vs
  HasFaultlessParts (ValueNode-F.Dict es) = AllByRecursion (IsFaultless g) (seen_values es)
  HasFaultlessParts _ = Unit {0}

  -- a value made of types, and its kids
  made-clean : (place n : ℕ) (head : Head) (kids : List Seen) → is_made_of_types head ≡ true
      → AllByRecursion (IsFaultless g) kids
      → HasRight g n (option_map (made_of head) (values_of kids))
      → AreClean g (claim_at place (claim.types (map (λ kid. kid.value) kids)) ∷ marks_of n kids)
  made-clean place n head kids made all x =
      let m = whole-right g n head (map (λ kid. kid.value) kids) x in
      clean-cons g (claim_at place (claim.types (map (λ kid. kid.value) kids))) (marks_of n kids)
      (types-clean place n head (map (λ kid. kid.value) kids) made m)
      (kids-clean g (n + 1) kids all (made-kids g n head (map (λ kid. kid.value) kids) m))

  module _ (al : Aliases) where
    pub layer-clean : (r : ValueNode-F NodeSeen EntrySeen Seen) → HasFaultlessParts r
        → IsFaultlessNode g (node_layer al r)
    layer-clean (ValueNode-F.Word w) parts place n x =
        spells-clean place (is_some (word_head w)) (word-known n (word_head w) x)
    layer-clean (ValueNode-F.TypeAlias name) parts place n x =
        mention-clean place n (al true name) x
    layer-clean (ValueNode-F.AttrAlias name) parts place n x =
        mention-clean place n (al false name) x
    layer-clean (ValueNode-F.Dialect is_type name args) parts place n x =
        let m = whole-right g n (h.Dialect is_type name) (map (λ arg. arg.value) args) x in
        clean-cons g (claim_at place (names is_type name (map (λ arg. arg.value) args)))
        (marks_of n args) (names-clean place n is_type name (map (λ arg. arg.value) args) m)
        (kids-clean g (n + 1) args parts
        (made-kids g n (h.Dialect is_type name) (map (λ arg. arg.value) args) m))
    layer-clean (ValueNode-F.Function inputs outputs) parts place n x =
        made-clean place n (h.Function (length inputs)) (inputs ++ outputs) refl parts x
    layer-clean (ValueNode-F.Tuple kids) parts place n x =
        made-clean place n h.Tuple kids refl parts x
    layer-clean (ValueNode-F.Shaped kind dims element) parts place n x =
        let s = shape-right n kind (all_some (map (dim_of kind) dims)) element.value x in
        clean-cons g (claim_at place (claim.types (element.value ∷ [])))
        (claim_at place (measures kind dims element.value) ∷ marks_of n (element ∷ []))
        (types-clean place n (h.Shaped kind s.ds) (element.value ∷ []) refl s.made)
        (clean-cons g (claim_at place (measures kind dims element.value))
        (marks_of n (element ∷ []))
        (λ code breaks. let no : None ≡ Some s.ds = sym breaks.2 ∙ s.dims_are in absurd (cc))
        (kids-clean g (n + 1) (element ∷ []) (parts, tt)
        (made-kids g n (h.Shaped kind s.ds) (element.value ∷ []) s.made)))
    layer-clean (ValueNode-F.Complex element) parts place n x =
        made-clean place n h.Complex (element ∷ []) refl (parts, tt) x
    layer-clean (ValueNode-F.Number negative digits None) parts place n x =
        clean-cons g (claim_at place (counts negative digits None)) []
        (counts-clean place n negative digits None x) (clean-nil g)
    layer-clean (ValueNode-F.Number negative digits (Some type)) parts place n x =
        clean-cons g (claim_at place (counts negative digits (Some type.value))) (type.marks n)
        (counts-clean place n negative digits (Some type.value) x)
        (parts.0 n (number-type n negative digits type.value parts.1 x))
    layer-clean (ValueNode-F.Str bytes) parts place n x = clean-nil g
    layer-clean (ValueNode-F.Array vs) parts place n x =
        let m = whole-right g n h.Array (map (λ kid. kid.value) vs) x in
        kids-clean g (n + 1) vs parts (made-kids g n h.Array (map (λ kid. kid.value) vs) m)
    layer-clean (ValueNode-F.Dict es) parts place n x = dict-clean n es parts x
    layer-clean (ValueNode-F.Symbol parts) all place n x =
        spells-clean place (nat_lt 0 (length parts)) (symbol-parts n parts x)
    layer-clean (ValueNode-F.Dense width items) parts place n x =
        dense-clean place n width items x
