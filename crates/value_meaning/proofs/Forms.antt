-- What the judgement of a form shows, by that of its kids.
use Rattle.std.proofs.Common.{◌≡◌, ◌≤◌, ℕ, ◌+◌, Bool, true, List, [], ◌∷◌, ◌++◌, map, length}
use Rattle.std.proofs.Common.{refl, sym, ◌∙◌, ap, subst, arith, IfOk, IfSome, is_some, length-append}
use Rattle.std.proofs.lemmas.List.{length-map}
use Rattle.std.specs.Prelude.{option_map, option_and_then}
use Rattle.std.specs.declared.option.Option.{Option}
use Rattle.std.specs.declared.option.Option.TheVariants.{Some, None}
use Rattle.std.specs.declared.result.Result.{Result}
use Rattle.attr_value.specs.declared.head.Head.{Head}
use Rattle.attr_value.specs.declared.head.Head.TheVariants as h
use Rattle.attr_value.specs.declared.kind.ShapeKind.{ShapeKind}
use Rattle.attr_value.specs.Ids.{kids_at}
use Rattle.attr_value.specs.Values.{Value, list_of}
use Rattle.generic_syntax.specs.declared.cst.EntryCst.{EntryCst}
use Rattle.generic_syntax.specs.declared.cst.ValueCst.{ValueCst}
use Rattle.generic_syntax.specs.declared.cst.ValueNode.{ValueNode}
use Rattle.generic_syntax.specs.declared.cst.ValueNode.TheVariants as node
use Rattle.ir_lexer.specs.Spelling.{Text}
use Rattle.value_meaning.specs.declared.judged.Judged.{Judged}
use Rattle.value_meaning.specs.declared.judged.Kids.{Kids}
use Rattle.value_meaning.specs.Entered.{seen_values}
use Rattle.value_meaning.specs.Judging.{AreJudged, Basis, ByEach, Ground, IsOnly}
use Rattle.value_meaning.specs.Judging.{IsOfTypes, IsOther, IsPart, IsTypeJudged}
use Rattle.value_meaning.specs.Judging.{Judges, JudgesKids, Keeps, values_at, with_table}
use Rattle.value_meaning.specs.KidsSeen.{kids_nesting, kids_seen}
use Rattle.value_meaning.specs.Meaning.{Aliases, Mark, Seen, NodeSeen, EntrySeen, seen, node_seen}
use Rattle.value_meaning.specs.Meaning.{entry_seen, leaf, made_of, claim_at, counts, measures, names}
use Rattle.value_meaning.specs.Meaning.{dict_value, entries_marks, type_marks}
use Rattle.value_meaning.specs.Meaning.{seen_array, seen_made, seen_dialect, seen_shape}
use Rattle.value_meaning.specs.Meaning.{seen_number, seen_dict}
use Rattle.value_meaning.specs.Meaning as claim
use Rattle.value_meaning.specs.Spelled.{all_some, dim_of, number_head}
use Rattle.value_meaning.proofs.Integers.{tree-integer}
use Rattle.value_meaning.proofs.KidsOf.{kids-array, kids-complex, kids-dialect, kids-dict}
use Rattle.value_meaning.proofs.KidsOf.{kids-function, kids-number, kids-shaped, kids-tuple}
use Rattle.value_meaning.proofs.KidsOf.{nesting-any_number, nesting-array, nesting-complex}
use Rattle.value_meaning.proofs.KidsOf.{nesting-dialect, nesting-dict, nesting-function}
use Rattle.value_meaning.proofs.KidsOf.{nesting-shaped, nesting-tuple}
use Rattle.value_meaning.proofs.Trees.{seen-number, seen-array, seen-tuple, seen-complex}
use Rattle.value_meaning.proofs.Trees.{seen-function, seen-shaped, seen-dialect, seen-dict}

-- ---- rules of heads

-- an array holds any values
array-keeps : (g : Ground) (kids : List Value) → Keeps g h.Array kids
array-keeps g kids = record {
  rule = record { count = tt; types = λ e. absurd (cc); right = tt };
  defined = tt;
}

-- a tuple is made of types
tuple-of : (g : Ground) (k : ℕ) → IsOfTypes g h.Tuple k
tuple-of g k = record {
  made = refl;
  keeps = λ kids many types. record {
    rule = record { count = tt; types = λ made. types; right = tt };
    defined = tt;
  };
}

-- a complex type of one
complex-of : (g : Ground) → IsOfTypes g h.Complex 1
complex-of g = record {
  made = refl;
  keeps = λ kids many types. record {
    rule = record { count = many; types = λ made. types; right = tt };
    defined = tt;
  };
}

-- a function type of no fewer than its inputs
function-of : (g : Ground) (m k : ℕ) → m ≤ k → IsOfTypes g (h.Function m) k
function-of g m k least = record {
  made = refl;
  keeps = λ kids many types. record {
    rule = record { count = omega (arith, many, least); types = λ made. types; right = tt };
    defined = tt;
  };
}

module _ (b : Basis) {E : Type 0} (nesting : ℕ) (now : List Value) (kids : Kids) (place : ℕ)
    (new : List Value) (r : Result Judged E) where
  -- a form whose kids are judged so is judged so
  abbrev pub IsFormJudged : ValueNode → Type 0
  IsFormJudged form = ByEach b now nesting (λ g n al.
      AreJudged g (kids_nesting form n) (kids_seen al form) now kids
      → IfOk r (Judges g n (node_seen al form).value ((node_seen al form).marks place n) new))

  -- by what is seen of it and of its kids
  pub form-is : (form : ValueNode) (inner : ℕ → ℕ) (layer : Aliases → NodeSeen)
      (list : Aliases → List Seen) → ((n : ℕ) → kids_nesting form n ≡ inner n)
      → ((al : Aliases) → node_seen al form ≡ layer al)
      → ((al : Aliases) → kids_seen al form ≡ list al)
      → ByEach b now nesting (λ g n al. AreJudged g (inner n) (list al) now kids
      → IfOk r (Judges g n (layer al).value ((layer al).marks place n) new))
      → IsFormJudged form
  form-is form inner layer list deep is are x = λ table n ready grown least same judged.
      let al = values_at table b.ids in
      let g = with_table b table in
      subst (λ (s : NodeSeen). IfOk r (Judges g n s.value (s.marks place n) new)) (sym (is al))
      (x table n ready grown least same
      (subst (λ (m : ℕ). AreJudged g m (list al) now kids) (deep n)
      (subst (λ (l : List Seen). AreJudged g (kids_nesting form n) l now kids) (are al) judged)))

  -- ---- made of other values

  -- what a call shows of a value made of others
  abbrev pub IsMade : Head → Type 0
  IsMade head = (g : Ground) (n : ℕ) (spelled : List (Option Value)) (ms : List Mark) → 1 ≤ n
      → IsOther head → JudgesKids g (n + 1) spelled ms now kids
      → (kids.all_good ≡ true → Keeps g head (list_of (kids_at now kids.ids.items)))
      → IfOk r (Judges g n (option_map (made_of head) (all_some spelled)) ms new)

  -- of one made of types
  abbrev pub IsMadeOfTypes : Head → Type 0
  IsMadeOfTypes head = (g : Ground) (n : ℕ) (spelled : List (Option Value)) (ms : List Mark)
      → 1 ≤ n → IsOther head → IsOfTypes g head (length spelled)
      → JudgesKids g (n + 1) spelled ms now kids
      → IfOk r (Judges g n (option_map (made_of head) (all_some spelled))
      (claim_at place (claim.types spelled) ∷ ms) new)

  -- of a shape
  abbrev pub IsMadeShape : ShapeKind → List Text → Type 0
  IsMadeShape kind dims = (g : Ground) (n : ℕ) (spelled : Option Value) (ms : List Mark) → 1 ≤ n
      → JudgesKids g (n + 1) (spelled ∷ []) ms now kids
      → IfOk r (Judges g n (option_and_then
      (λ ds. option_map (λ v. made_of (h.Shaped kind ds) (v ∷ [])) spelled)
      (all_some (map (dim_of kind) dims)))
      (claim_at place (claim.types (spelled ∷ []))
      ∷ claim_at place (measures kind dims spelled) ∷ ms) new)

  -- of a value of a dialect
  abbrev pub IsMadeDialect : Bool → Text → Type 0
  IsMadeDialect is_type name = (table : List Value) (n : ℕ) (spelled : List (Option Value))
      (ms : List Mark) → IsPart b table now (n + 1) spelled ms kids → 1 ≤ n
      → IfOk r (Judges (with_table b table) n
      (option_map (made_of (h.Dialect is_type name)) (all_some spelled))
      (claim_at place (names is_type name spelled) ∷ ms) new)

  -- of a number
  abbrev pub IsMadeNumber : Bool → Text → Option Judged → Type 0
  IsMadeNumber negative digits ty = (g : Ground) (n : ℕ) (type : Option Seen)
      → IsTypeJudged g n type now ty
      → IfOk r (Judges g n
      (option_map leaf (number_head negative digits (option_map (λ t. t.value) type)))
      (claim_at place (counts negative digits (option_map (λ t. t.value) type))
      ∷ type_marks n type) new)

  -- of a dictionary
  abbrev pub IsMadeDict : List EntryCst → Type 0
  IsMadeDict es = (g : Ground) (n : ℕ) (al : Aliases) → 1 ≤ n
      → AreJudged g (n + 1) (seen_values (map (entry_seen al) es)) now kids
      → IfOk r (Judges g n (dict_value (map (entry_seen al) es))
      (entries_marks (n + 1) [] (map (entry_seen al) es)) new)

  -- ---- forms

  pub form-array : (vs : List ValueCst) → IsMade h.Array → IsFormJudged (node.Array vs)
  form-array vs made =
      form-is (node.Array vs) (λ n. n + 1) (λ al. seen_array (map (seen al) vs))
      (λ al. map (seen al) vs) (nesting-array vs) (λ al. seen-array al vs) (λ al. kids-array al vs)
      (λ table n ready grown least same judged. made (with_table b table) n _ _ least
      (λ kind e. absurd (cc)) judged (λ all. array-keeps (with_table b table) _))

  pub form-tuple : (vs : List ValueCst) → IsMadeOfTypes h.Tuple → IsFormJudged (node.Tuple vs)
  form-tuple vs made =
      form-is (node.Tuple vs) (λ n. n + 1) (λ al. seen_made h.Tuple (map (seen al) vs))
      (λ al. map (seen al) vs) (nesting-tuple vs) (λ al. seen-tuple al vs) (λ al. kids-tuple al vs)
      (λ table n ready grown least same judged. made (with_table b table) n _ _ least
      (λ kind e. absurd (cc)) (tuple-of (with_table b table) _) judged)

  pub form-complex : (c : ValueCst) → IsMadeOfTypes h.Complex → IsFormJudged (node.Complex c)
  form-complex c made =
      form-is (node.Complex c) (λ n. n + 1) (λ al. seen_made h.Complex (seen al c ∷ []))
      (λ al. seen al c ∷ []) (nesting-complex c) (λ al. seen-complex al c) (λ al. kids-complex al c)
      (λ table n ready grown least same judged. made (with_table b table) n _ _ least
      (λ kind e. absurd (cc)) (complex-of (with_table b table)) judged)

  pub form-shaped : (kind : ShapeKind) (dims : List Text) (c : ValueCst) → IsMadeShape kind dims
      → IsFormJudged (node.Shaped kind dims c)
  form-shaped kind dims c made =
      form-is (node.Shaped kind dims c) (λ n. n + 1) (λ al. seen_shape kind dims (seen al c))
      (λ al. seen al c ∷ []) (nesting-shaped kind dims c) (λ al. seen-shaped al kind dims c)
      (λ al. kids-shaped al kind dims c)
      (λ table n ready grown least same judged.
      made (with_table b table) n (seen (values_at table b.ids) c).value _ least judged)

  pub form-dialect : (is_type : Bool) (name : Text) (vs : List ValueCst)
      → IsMadeDialect is_type name → IsFormJudged (node.Dialect is_type name vs)
  form-dialect is_type name vs made =
      form-is (node.Dialect is_type name vs) (λ n. n + 1)
      (λ al. seen_dialect is_type name (map (seen al) vs)) (λ al. map (seen al) vs)
      (nesting-dialect is_type name vs) (λ al. seen-dialect al is_type name vs)
      (λ al. kids-dialect al is_type name vs)
      (λ table n ready grown least same judged. made table n _ _
      (record { ready = ready; grown = grown; kids = judged }) least)

  pub form-function : (xs ys : List ValueCst) (m : ℕ) → m ≡ length xs
      → IsMadeOfTypes (h.Function m) → IsFormJudged (node.Function xs ys)
  form-function xs ys m many made =
      form-is (node.Function xs ys) (λ n. n + 1)
      (λ al. seen_made (h.Function m) (map (seen al) xs ++ map (seen al) ys))
      (λ al. map (seen al) xs ++ map (seen al) ys) (nesting-function xs ys)
      (λ al. seen-function al xs ys
      ∙ ap (λ i. seen_made (h.Function i) (map (seen al) xs ++ map (seen al) ys))
      (length-map xs (seen al) ∙ sym many))
      (λ al. kids-function al xs ys)
      (λ table n ready grown least same judged.
      let al = values_at table b.ids in
      made (with_table b table) n _ _ least (λ kind e. absurd (cc))
      (function-of (with_table b table) m _
      (few (length xs) many (map (seen al) xs) (map (seen al) ys) (length-map xs (seen al))))
      judged)
    where
      few : (i : ℕ) → m ≡ i → (ss ts : List Seen) → length ss ≡ i
          → m ≤ length (map (λ (s : Seen). s.value) (ss ++ ts))
      few i is ss ts e =
          omega (
            arith,
            is,
            e,
            length-map (ss ++ ts) (λ (s : Seen). s.value),
            length-append ss ts,
          )

  pub form-dict : (es : List EntryCst) → IsMadeDict es → IsFormJudged (node.Dict es)
  form-dict es made =
      form-is (node.Dict es) (λ n. n + 1) (λ al. seen_dict (map (entry_seen al) es))
      (λ al. seen_values (map (entry_seen al) es)) (nesting-dict es) (λ al. seen-dict al es)
      (λ al. kids-dict al es)
      (λ table n ready grown least same judged.
      made (with_table b table) n (values_at table b.ids) least judged)

  -- a number, whose type is judged so where one stands there
  pub form-number : (negative : Bool) (digits : Text) (t : Option ValueCst) (ty : Option Judged)
      → is_some ty ≡ is_some t → IfSome ty (IsOnly kids) → IsMadeNumber negative digits ty
      → IsFormJudged (node.Number negative digits t)
  form-number negative digits None None there only made =
      λ table n ready grown least same judged.
      let al = values_at table b.ids in
      subst (λ (s : NodeSeen).
      IfOk r (Judges (with_table b table) n s.value (s.marks place n) new))
      (sym (seen-number al negative digits None))
      (made (with_table b table) n None tt)
  form-number negative digits None (Some ty) there only made = absurd (cc)
  form-number negative digits (Some t) None there only made = absurd (cc)
  form-number negative digits (Some t) (Some ty) there only made =
      form-is (node.Number negative digits (Some t)) (λ n. n)
      (λ al. seen_number negative digits (Some (seen al t))) (λ al. seen al t ∷ [])
      (nesting-any_number negative digits (Some t))
      (λ al. seen-number al negative digits (Some t)) (λ al. kids-number al negative digits t)
      (λ table n ready grown least same judged.
      let al = values_at table b.ids in
      made (with_table b table) n (Some (seen al t))
      (only (with_table b table) n (seen al t) now judged (tree-integer b table ready t)))

  -- a form without kids
  pub form-leaf : (form : ValueNode) (layer : Aliases → NodeSeen)
      → ((al : Aliases) → node_seen al form ≡ layer al)
      → ByEach b now nesting (λ g n al.
      IfOk r (Judges g n (layer al).value ((layer al).marks place n) new))
      → IsFormJudged form
  form-leaf form layer is x = λ table n ready grown least same judged.
      subst (λ (s : NodeSeen).
      IfOk r (Judges (with_table b table) n s.value (s.marks place n) new))
      (sym (is (values_at table b.ids))) (x table n ready grown least same)

  -- one that aliases have no part in
  pub form-plain : (form : ValueNode) (layer : NodeSeen) → ((al : Aliases) → node_seen al form ≡ layer)
      → ((g : Ground) (n : ℕ) → IfOk r (Judges g n layer.value (layer.marks place n) new))
      → IsFormJudged form
  form-plain form layer is x =
      form-leaf form (λ al. layer) is
      (λ table n ready grown least same. x (with_table b table) n)

  -- of a form that is the same
  pub form-same : (form other : ValueNode) → other ≡ form → IsFormJudged form → IsFormJudged other
  form-same form other is x = subst IsFormJudged (sym is) x
