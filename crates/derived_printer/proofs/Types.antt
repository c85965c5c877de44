-- Types are read as they are written.
use Rattle.std.proofs.Common.{◌≡◌, ℕ, suc, true, false, List, [], ◌∷◌, ◌++◌, map, take, drop, refl, sym, ◌∙◌, ap, Some, None, option_map, codes, append-nil, inl}
use Rattle.std.proofs.lemmas.List.{take-append-drop, length-take-le}
use Rattle.std.specs.List.{AllByRecursion, AllZip}
use Rattle.attr_value.specs.declared.head.Head.{Head}
use Rattle.attr_value.specs.declared.head.Head.TheVariants as h
use Rattle.attr_value.specs.declared.kind.Dim.{Dim}
use Rattle.attr_value.specs.declared.kind.ShapeKind.{ShapeKind}
use Rattle.attr_value.specs.declared.kind.ShapeKind.TheVariants as shape
use Rattle.attr_value.specs.Heads.{IsDim, IsType, is_type_head, OwnRule}
use Rattle.attr_value.specs.Values.{Value, Values, none, more, value, list_of}
use Rattle.generic_syntax.specs.declared.cst.ValueCst.{ValueCst}
use Rattle.generic_syntax.specs.declared.cst.ValueNode.{ValueNode}
use Rattle.generic_syntax.specs.declared.cst.ValueNode.TheVariants as node
use Rattle.generic_syntax.specs.Values.{a_type, inner, dims_from, function_node, ◌then◌}
use Rattle.generic_syntax.specs.Values as syntax
use Rattle.grammar.specs.Grammar.{alt}
use Rattle.ir_lexer.specs.declared.class.Class.TheVariants as c
use Rattle.ir_lexer.specs.Spelling.{Text}
use Rattle.text_layout.specs.Apart.{clash_never}
use Rattle.text_layout.specs.Tidy.{last_alone}
use Rattle.text_layout.proofs.Gives.{token_at, gives-ret, gives-both, gives-left, gives-right, gives-made, gives-same}
use Rattle.value_meaning.specs.Meaning.{Aliases, seen, values_of, leaf, made_of}
use Rattle.value_meaning.specs.Spelled.{word_head, all_some, dim_of}
use Rattle.derived_printer.specs.Spelling.{shape_text, dims_text}
use Rattle.derived_printer.specs.ValueMarks.{Marks, Kid, a_sign, a_word, commas, in_parens, in_angles, is_unit_head, dims_marks, marks_of, head_marks, kid_marks, value_marks}
use Rattle.derived_printer.proofs.Dims.{dims-back}
use Rattle.derived_printer.proofs.KidMarks.{all-marks, take-marks, drop-marks, all-take, all-drop}
use Rattle.derived_printer.proofs.Pieces.{given-parens, given-angles, given-type-word}
use Rattle.derived_printer.proofs.Readable.{GivesAt, HasValue, FormHas, Readable, plain-readable, function-readable, type-given, types-given, all-spelled, both-spelled, as-many, made-of-kids}
use Rattle.derived_printer.proofs.Signs.{pass-any, given-sign, given-word, given-before}
use Rattle.derived_printer.proofs.Spelled.{word-spelled, shape-bare, dims-spelled}
use Rattle.derived_printer.proofs.Trees.{of-word, of-tuple, of-complex, of-function, of-shaped}
use Rattle.derived_printer.proofs.Words.{IsTypeWord}

module _ (al : Aliases) (room : ℕ) where
  -- ---- words

  -- a word has the value of its head
  pub word-value : (w x : Text) (head : Head) → x ≡ w → word_head w ≡ Some head
      → FormHas al (leaf head) (node.Word x)
  word-value w x head e k = of-word al x ∙ ap (λ y. option_map leaf (word_head y)) e
      ∙ ap (option_map leaf) k

  -- a word that is a type is read as it
  pub type-word-given : (w : Text) (head : Head) → IsTypeWord w head
      → GivesAt room syntax.plain_node (a_word w) (FormHas al (leaf head))
  type-word-given w head t =
      gives-left (gives-made (given-type-word w t.spelled t.found)
      (λ x e. word-value w x head e t.is))

  pub word-readable : (head : Head) (w : Text) → is_unit_head head ≡ false
      → value_marks (leaf head) ≡ a_word w → IsTypeWord w head → Readable al (suc room) (leaf head)
  word-readable head w u e t =
      plain-readable al room (leaf head) u (gives-same (sym e) (type-word-given w head t))

  -- ---- types of types

  pub tuple-readable : (kids : Values) → OwnRule h.Tuple (list_of kids)
      → AllByRecursion (Readable al room) (list_of kids)
      → Readable al (suc room) (value h.Tuple kids)
  tuple-readable kids r b = plain-readable al room (value h.Tuple kids) refl
      (gives-right (gives-right (gives-right (gives-left
      (gives-same (ap (λ l. a_word (codes "tuple") ++ in_angles (commas l)) (all-marks kids))
      (gives-made (given-before (given-word (codes "tuple") (word-spelled (codes "tuple") refl))
      (given-angles (types-given al room (list_of kids) b (r.types refl))))
      (λ ts q. of-tuple al ts ∙ made-of-kids al h.Tuple kids _
      (all-spelled al ts (list_of kids) q))))))))

  pub complex-readable : (v : Value) → Readable al room v → IsType v
      → Readable al (suc room) (value h.Complex (more v.head v.kids none))
  complex-readable v b t = plain-readable al room (value h.Complex (more v.head v.kids none)) refl
      (gives-right (gives-right (gives-right (gives-right (gives-left
      (gives-same (ap (λ l. a_word (codes "complex") ++ in_angles l)
      (sym (append-nil (value_marks v))))
      (gives-made (given-before (given-word (codes "complex") (word-spelled (codes "complex") refl))
      (given-angles (type-given al room v b t)))
      (λ x q. of-complex al x ∙ rw q refl))))))))

  -- the marks of a function type, by the lists of its values
  function-marks : (n : ℕ) (kids : Values)
      → in_parens (commas (map value_marks (take n (list_of kids))))
      ++ (a_sign c.Arrow ++ in_parens (commas (map value_marks (drop n (list_of kids)))))
      ≡ value_marks (value (h.Function n) kids)
  function-marks n kids =
      ap (λ l. in_parens (commas l)
      ++ (a_sign c.Arrow ++ in_parens (commas (map value_marks (drop n (list_of kids))))))
      (take-marks n kids)
      ∙ ap (λ l. in_parens (commas (marks_of (take n (kid_marks kids))))
      ++ (a_sign c.Arrow ++ in_parens (commas l))) (drop-marks n kids)

  -- trees of inputs and of results have the value of the function type
  function-value : (n : ℕ) (kids : Values) → OwnRule (h.Function n) (list_of kids)
      → (x : List ValueCst × List ValueCst) → AllZip (HasValue al) x.0 (take n (list_of kids))
      → AllZip (HasValue al) x.1 (drop n (list_of kids))
      → FormHas al (value (h.Function n) kids) (function_node x)
  function-value n kids r x p q = let vs = list_of kids in
      let many = as-many al x.0 (take n vs) p ∙ length-take-le n vs r.count in
      let whole = both-spelled al x.0 x.1 (take n vs) (drop n vs) p q
      ∙ ap (λ l. Some l) (take-append-drop n vs) in
      of-function al x.0 x.1
      ∙ ap (λ k. option_map (made_of (h.Function k))
      (values_of (map (seen al) x.0 ++ map (seen al) x.1))) many
      ∙ made-of-kids al (h.Function n) kids _ whole

  pub function-type-readable : (n : ℕ) (kids : Values) → OwnRule (h.Function n) (list_of kids)
      → AllByRecursion (Readable al room) (list_of kids)
      → Readable al (suc room) (value (h.Function n) kids)
  function-type-readable n kids r b = let vs = list_of kids in
      let ins = types-given al room (take n vs) (all-take (Readable al room) n vs b)
      (all-take IsType n vs (r.types refl)) in
      let outs = types-given al room (drop n vs) (all-drop (Readable al room) n vs b)
      (all-drop IsType n vs (r.types refl)) in
      function-readable al room (value (h.Function n) kids) refl refl
      (gives-same (function-marks n kids)
      (gives-made
      (gives-both {R = λ x. AllZip (HasValue al) x.0 (take n vs) × AllZip (HasValue al) x.1
      (drop n vs)} (given-parens ins)
      (given-before (given-sign refl) (gives-left (given-parens outs))) (λ xs ys p q. (p, q)))
      (λ x q. function-value n kids r x q.0 q.1)))

  -- ---- shaped types

  -- The text of a type begins with a word, a name or a parenthesis, and none of them runs together
  -- with dimensions.
  type-behind-dims : (head : Head) (ks : List Kid) → is_type_head head ≡ true
      → clash_never None (head_marks head ks) ≡ true
      → clash_never (Some c.Dims) (head_marks head ks) ≡ true
  type-behind-dims (h.Int kind) ks t e = e
  type-behind-dims h.NoneType ks t e = e
  type-behind-dims (h.Float kind) ks t e = e
  type-behind-dims (h.Function n) ks t e = e
  type-behind-dims h.Tuple ks t e = e
  type-behind-dims (h.Shaped kind ds) ks t e = e
  type-behind-dims h.Complex ks t e = e
  type-behind-dims (h.Dialect true name) ks t e = e
  type-behind-dims _ ks t e = absurd (cc)

  -- it isn't empty
  type-ends : (head : Head) (ks : List Kid) → is_type_head head ≡ true
      → last_alone true (head_marks head ks) ≡ true → last_alone false (head_marks head ks) ≡ true
  type-ends (h.Int kind) ks t e = e
  type-ends h.NoneType ks t e = e
  type-ends (h.Float kind) ks t e = e
  type-ends (h.Function n) ks t e = e
  type-ends h.Tuple ks t e = e
  type-ends (h.Shaped kind ds) ks t e = e
  type-ends h.Complex ks t e = e
  type-ends (h.Dialect true name) ks t e = e
  type-ends _ ks t e = absurd (cc)

  -- dimensions before the element type
  dims-given : (kind : ShapeKind) (ds : List Dim) (v : Value) → AllByRecursion (IsDim kind) ds
      → Readable al room v → IsType v
      → GivesAt room (syntax.dims then inner a_type) (dims_marks ds ++ value_marks v)
      (λ x. (all_some (map (dim_of kind) x.0) ≡ Some ds) × HasValue al x.1 v)
  dims-given kind [] v s b t =
      gives-both {P = λ l. l ≡ []} (gives-right (gives-ret [] refl)) (type-given al room v b t)
      (λ l x p q. (rw p refl, q))
  dims-given kind (d ∷ ds) v s b t = let k = type-given al room v b t in
      let w : Text = dims_text (d ∷ ds) in record {
        tidy = record {
          spelled = (dims-spelled kind d ds s, k.tidy.spelled);
          apart = type-behind-dims v.head (kid_marks v.kids) t k.tidy.apart;
          first = refl;
          last = type-ends v.head (kid_marks v.kids) t k.tidy.last;
        };
        tree = λ ts (place, rest, e, s2). let tk = token_at c.Dims w place in
            let (x, y, q) = k.tree rest s2 in
            let is : ts ≡ (tk ∷ []) ++ rest = cc in (
              (dims_from [] w, x),
              (
                tk ∷ [],
                rest,
                dims_from [] w,
                x,
                is,
                inl (tk, refl, pass-any c.Dims w place, refl, refl),
                y,
                refl,
              ),
              (dims-back kind (d ∷ ds) s, q),
            );
      }

  shape-given : (kind : ShapeKind) (ds : List Dim) (v : Value) → AllByRecursion (IsDim kind) ds
      → Readable al room v → IsType v
      → GivesAt room (syntax.shaped kind (shape_text kind))
      (value_marks (value (h.Shaped kind ds) (more v.head v.kids none)))
      (FormHas al (value (h.Shaped kind ds) (more v.head v.kids none)))
  shape-given kind ds v s b t =
      gives-same (ap (λ l. a_word (shape_text kind) ++ in_angles (dims_marks ds ++ l))
      (sym (append-nil (value_marks v))))
      (gives-made (given-before
      (given-word (shape_text kind) (word-spelled (shape_text kind) (shape-bare kind)))
      (given-angles (dims-given kind ds v s b t)))
      (λ x q. of-shaped al kind x.0 x.1 ∙ rw (q.0, q.1) refl))

  pub shape-readable : (kind : ShapeKind) (ds : List Dim) (v : Value)
      → AllByRecursion (IsDim kind) ds → Readable al room v → IsType v
      → Readable al (suc room) (value (h.Shaped kind ds) (more v.head v.kids none))
  shape-readable kind ds v s b t =
      plain-readable al room (value (h.Shaped kind ds) (more v.head v.kids none)) refl
      (gives-right
      (gives-right
      (gives-right (gives-right (gives-right (branch kind (shape-given kind ds v s b t)))))))
    where
      branch : (kind : ShapeKind) {ms : Marks} {P : ValueNode → Type 0}
          → GivesAt room (syntax.shaped kind (shape_text kind)) ms P
          → GivesAt room
          (alt (syntax.shaped shape.Vector (codes "vector"))
          (alt (syntax.shaped shape.Tensor (codes "tensor"))
          (syntax.shaped shape.Memref (codes "memref")))) ms P
      branch shape.Vector x = gives-left x
      branch shape.Tensor x = gives-right (gives-left x)
      branch shape.Memref x = gives-right (gives-right x)
