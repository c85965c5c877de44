-- What is written of a value is read as it: what this says, and what each head has to show for it.
--
-- A value is read where a type is asked, where one without parentheses is, and where an attribute
-- is. A head shows one fact, of one branch of the grammar, and the three follow.
use Rattle.std.proofs.Common.{◌≡◌, ℕ, suc, true, false, ◌==◌, List, [], ◌∷◌, ◌++◌, length, map, refl, ◌∙◌, ap, Some, Option, option_map}
use Rattle.std.specs.List.{AllByRecursion, AllZip}
use Rattle.attr_value.specs.declared.head.Head.{Head}
use Rattle.attr_value.specs.declared.head.Head.TheVariants as h
use Rattle.attr_value.specs.Heads.{IsType, is_type_head}
use Rattle.attr_value.specs.Values.{Value, Values, value, list_of}
use Rattle.generic_syntax.specs.declared.cst.ValueCst.{ValueCst}
use Rattle.generic_syntax.specs.declared.cst.ValueNode.{ValueNode}
use Rattle.generic_syntax.specs.Values.{Sort, a_type, plain, an_attr, OfValues, rule, node_at, inner}
use Rattle.generic_syntax.specs.Values as syntax
use Rattle.grammar.specs.Grammar.{placed}
use Rattle.grammar.specs.Rules.{list}
use Rattle.text_layout.specs.Gives.{Gives, GivesKid}
use Rattle.text_layout.proofs.Gives.{gives-left, gives-right, gives-placed, gives-kid}
use Rattle.value_meaning.specs.Meaning.{Aliases, seen, value_of, values_of, leaf, made_of}
use Rattle.derived_printer.specs.ReadBack.{is_function}
use Rattle.derived_printer.specs.ValueMarks.{Marks, commas, is_unit_head, value_marks}
use Rattle.derived_printer.proofs.KidMarks.{kids-of-list}
use Rattle.derived_printer.proofs.Nesting.{within}
use Rattle.derived_printer.proofs.Signs.{given-list}
use Rattle.derived_printer.proofs.Trees.{node_value, of-at}

-- a piece of the grammar of values, in which values may nest so deep
abbrev pub GivesAt : {A : Type 0} → ℕ → OfValues A → Marks → (A → Type 0) → Type 0
GivesAt room g ms P = Gives (within room) (room == 0) g ms P

module _ (al : Aliases) where
  -- the tree has the value
  abbrev pub HasValue : ValueCst → Value → Type 0
  HasValue t v = value_of al t ≡ Some v

  -- the form has the value
  abbrev pub FormHas : Value → ValueNode → Type 0
  FormHas v n = node_value al n ≡ Some v

  -- What is written of the value is read as it, where values nest less than n deep. The unit
  -- attribute is one value, since a key alone stands for it.
  pub record Readable (n : ℕ) (v : Value) : Type 0 where
    pub as_type : IsType v → GivesKid (within n) a_type (value_marks v) (λ t. HasValue t v)
    pub as_plain : IsType v → is_function v.head ≡ false
        → GivesKid (within n) plain (value_marks v) (λ t. HasValue t v)
    pub as_attr : GivesKid (within n) an_attr (value_marks v) (λ t. HasValue t v)
    pub unit : is_unit_head v.head ≡ true → v ≡ leaf h.Unit

  module _ (room : ℕ) where
    -- what the rule of a nonterminal gives, the nonterminal does, one deeper
    by-rule : {x : Sort} {ms : Marks} {v : Value} → GivesAt room (rule x) ms (λ t. HasValue t v)
        → GivesKid (within (suc room)) x ms (λ t. HasValue t v)
    by-rule g = record { tidy = g.tidy; tree = λ ts s. let (a, d, p) = g.tree ts s in (a, d, p) }

    -- a form at the place of its first token
    pub form-placed : {g : OfValues ValueNode} {ms : Marks} {v : Value}
        → GivesAt room g ms (FormHas v) → GivesAt room (placed node_at g) ms (λ t. HasValue t v)
    form-placed g = gives-placed g (λ place n p. of-at al place n ∙ p)

    -- of a type that doesn't begin with a parenthesis
    pub plain-readable : (v : Value) → is_unit_head v.head ≡ false
        → GivesAt room syntax.plain_node (value_marks v) (FormHas v) → Readable (suc room) v
    plain-readable v u x = record {
      as_type = λ t. by-rule {x = a_type} (form-placed (gives-left x));
      as_plain = λ t other. by-rule {x = plain} (form-placed x);
      as_attr = by-rule {x = an_attr} (form-placed (gives-left (gives-left x)));
      unit = λ e. absurd (cc);
    }

    -- of a function type
    pub function-readable : (v : Value) → is_unit_head v.head ≡ false → is_function v.head ≡ true
        → GivesAt room syntax.function (value_marks v) (FormHas v) → Readable (suc room) v
    function-readable v u f x = record {
      as_type = λ t. by-rule {x = a_type} (form-placed (gives-right x));
      as_plain = λ t other. absurd (cc);
      as_attr = by-rule {x = an_attr} (form-placed (gives-left (gives-right x)));
      unit = λ e. absurd (cc);
    }

    -- of an attribute that is no type
    pub attr-readable : (v : Value) → is_type_head v.head ≡ false
        → (is_unit_head v.head ≡ true → v ≡ leaf h.Unit)
        → GivesAt room syntax.attr_node (value_marks v) (FormHas v) → Readable (suc room) v
    attr-readable v not_type u x = record {
      as_type = λ t. absurd (cc);
      as_plain = λ t f. absurd (cc);
      as_attr = by-rule {x = an_attr} (form-placed (gives-right x));
      unit = u;
    }

    -- ---- kids

    pub type-given : (v : Value) → Readable room v → IsType v
        → GivesAt room (inner a_type) (value_marks v) (λ t. HasValue t v)
    type-given v b t = gives-kid (b.as_type t) (λ t p. p)

    pub attr-given : (v : Value) → Readable room v
        → GivesAt room (inner an_attr) (value_marks v) (λ t. HasValue t v)
    attr-given v b = gives-kid b.as_attr (λ t p. p)

    each-type : (vs : List Value) → AllByRecursion (Readable room) vs → AllByRecursion IsType vs
        → AllByRecursion (λ v. GivesAt room (inner a_type) (value_marks v) (λ t. HasValue t v)) vs
    each-type [] b t = tt
    each-type (v ∷ vs) (x, b) (y, t) = (type-given v x y, each-type vs b t)

    each-attr : (vs : List Value) → AllByRecursion (Readable room) vs
        → AllByRecursion (λ v. GivesAt room (inner an_attr) (value_marks v) (λ t. HasValue t v)) vs
    each-attr [] b = tt
    each-attr (v ∷ vs) (x, b) = (attr-given v x, each-attr vs b)

    -- types with commas between them, and attributes
    pub types-given : (vs : List Value) → AllByRecursion (Readable room) vs
        → AllByRecursion IsType vs
        → GivesAt room (list (inner a_type)) (commas (map value_marks vs))
        (λ ts. AllZip HasValue ts vs)
    types-given vs b t = given-list (within room) (room == 0) (inner a_type) value_marks HasValue vs
        (each-type vs b t)

    pub attrs-given : (vs : List Value) → AllByRecursion (Readable room) vs
        → GivesAt room (list (inner an_attr)) (commas (map value_marks vs))
        (λ ts. AllZip HasValue ts vs)
    attrs-given vs b = given-list (within room) (room == 0) (inner an_attr) value_marks HasValue vs
        (each-attr vs b)

  -- ---- the values of kids

  -- trees that have the values spell them
  pub all-spelled : (ts : List ValueCst) (vs : List Value) → AllZip HasValue ts vs
      → values_of (map (seen al) ts) ≡ Some vs
  all-spelled [] [] q = refl
  all-spelled (t ∷ ts) (v ∷ vs) (p, q) = rw (p, all-spelled ts vs q) refl
  all-spelled [] (v ∷ vs) q = absurd q
  all-spelled (t ∷ ts) [] q = absurd q

  -- the same of two lists
  pub both-spelled : (ts us : List ValueCst) (vs ws : List Value) → AllZip HasValue ts vs
      → AllZip HasValue us ws → values_of (map (seen al) ts ++ map (seen al) us) ≡ Some (vs ++ ws)
  both-spelled [] us [] ws q r = all-spelled us ws r
  both-spelled (t ∷ ts) us (v ∷ vs) ws (p, q) r = rw (p, both-spelled ts us vs ws q r) refl
  both-spelled [] us (v ∷ vs) ws q r = absurd q
  both-spelled (t ∷ ts) us [] ws q r = absurd q

  pub as-many : (ts : List ValueCst) (vs : List Value) → AllZip HasValue ts vs
      → length (map (seen al) ts) ≡ length vs
  as-many [] [] q = refl
  as-many (t ∷ ts) (v ∷ vs) (p, q) = ap suc (as-many ts vs q)
  as-many [] (v ∷ vs) q = absurd q
  as-many (t ∷ ts) [] q = absurd q

  -- the value of kids that are all spelled
  pub made-of-kids : (head : Head) (kids : Values) (o : Option (List Value))
      → o ≡ Some (list_of kids) → option_map (made_of head) o ≡ Some (value head kids)
  made-of-kids head kids o e = ap (option_map (made_of head)) e ∙ ap (λ k. Some (value head k))
      (kids-of-list kids)
