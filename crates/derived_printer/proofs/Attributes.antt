-- Strings, arrays, symbols, and types and attributes of dialects are read as they are written.
use Rattle.std.proofs.Common.{◌≡◌, ℕ, suc, ◌==◌, Bool, true, false, List, [], ◌∷◌, ◌++◌, map, refl, ◌∙◌, ap, Some, option_map, codes}
use Rattle.std.specs.List.{AllByRecursion, AllZip}
use Rattle.attr_value.specs.declared.head.Head.{Head}
use Rattle.attr_value.specs.declared.head.Head.TheVariants as h
use Rattle.attr_value.specs.Values.{Values, none, more, value, list_of}
use Rattle.generic_syntax.specs.declared.cst.ValueNode.TheVariants as node
use Rattle.generic_syntax.specs.Values.{◌then◌}
use Rattle.generic_syntax.specs.Values as syntax
use Rattle.grammar.specs.Grammar.{Tokens, EachPiece, made}
use Rattle.grammar.specs.Looks.{any_of, dotted, passes, has_dot, is_among}
use Rattle.grammar.specs.Rules.{punct, ◌>>◌}
use Rattle.grammar.specs.Within.{Within}
use Rattle.ir_lexer.specs.declared.class.Class.{Class}
use Rattle.ir_lexer.specs.declared.class.Class.TheVariants as c
use Rattle.ir_lexer.specs.Names.{name_bytes, literal_bytes}
use Rattle.ir_lexer.specs.Spelling.{Text, Spells}
use Rattle.ir_lexer.proofs.Machine.{same-class-refl}
use Rattle.text_layout.specs.Apart.{AreSpelled, clash_never}
use Rattle.text_layout.specs.Gives.{MarksSpell}
use Rattle.text_layout.specs.Lines.{token}
use Rattle.text_layout.specs.Tidy.{Tidy, last_alone}
use Rattle.text_layout.proofs.Gives.{token_at, gives-ret, gives-tok, gives-both, gives-left, gives-right, gives-made, gives-same}
use Rattle.text_layout.proofs.Tidy.{tidy-token}
use Rattle.value_meaning.specs.Meaning.{Aliases, seen, values_of, leaf, made_of}
use Rattle.value_meaning.specs.Spelled.{word_head}
use Rattle.derived_printer.specs.Spelling.{string_text, symbol_text, name_class, name_text}
use Rattle.derived_printer.specs.Spellable.{AreBytes, IsFullName}
use Rattle.derived_printer.specs.ValueMarks.{Marks, a_word, commas, in_angles, in_squares, behind_signs, part_marks, symbol_marks, marks_of, kid_marks, value_marks, unless_empty}
use Rattle.derived_printer.proofs.KidMarks.{all-marks}
use Rattle.derived_printer.proofs.Nesting.{within}
use Rattle.derived_printer.proofs.Pieces.{given-angles, given-squares, given-one-of}
use Rattle.derived_printer.proofs.Readable.{GivesAt, HasValue, FormHas, Readable, plain-readable, attr-readable, attrs-given, all-spelled, made-of-kids}
use Rattle.derived_printer.proofs.Signs.{pass-any}
use Rattle.derived_printer.proofs.Spelled.{sign-spelled, word-spelled, string-spelled, symbol-spelled, name-spelled}
use Rattle.derived_printer.proofs.Strings.{string-back, symbol-back, full-name-dotted, full-name-back}
use Rattle.derived_printer.proofs.Trees.{of-string, of-array, of-symbol, of-dialect}
use Rattle.derived_printer.proofs.Types.{word-value}
use Rattle.derived_printer.proofs.Words.{unit-head}

-- ---- the parts of a symbol

-- the parts behind the first
abbrev parts_behind : List Text → Marks
parts_behind ns = behind_signs c.ColonColon (map part_marks ns)

parts-spelled : (ns : List Text) → AllByRecursion AreBytes ns → AreSpelled (parts_behind ns)
parts-spelled [] all = tt
parts-spelled (n ∷ ns) (x, all) =
    (sign-spelled c.ColonColon refl, (symbol-spelled n x, parts-spelled ns all))

parts-apart : (ns : List Text) → clash_never (Some c.SymbolName) (parts_behind ns) ≡ true
parts-apart [] = refl
parts-apart (n ∷ ns) = parts-apart ns

parts-last : (ns : List Text) → last_alone true (parts_behind ns) ≡ true
parts-last [] = refl
parts-last (n ∷ ns) = parts-last ns

symbol-tidy : (n : Text) (ns : List Text) → AllByRecursion AreBytes (n ∷ ns)
    → Tidy (symbol_marks (n ∷ ns))
symbol-tidy n ns (x, all) = record {
  spelled = (symbol-spelled n x, parts-spelled ns all);
  apart = parts-apart ns;
  first = refl;
  last = parts-last ns;
}

module _ (al : Aliases) (room : ℕ) where
  -- ---- words, strings, arrays

  -- a word that is an attribute
  pub attr-word-given : (w : Text) (head : Head) → Spells c.Word w
      → is_among (codes "true" ∷ codes "false" ∷ codes "unit" ∷ []) w ≡ true
      → word_head w ≡ Some head → GivesAt room syntax.attr_node (a_word w) (FormHas al (leaf head))
  attr-word-given w head s m k =
      gives-left (gives-made (given-one-of (codes "true") (codes "false" ∷ codes "unit" ∷ []) w s m)
      (λ x e. word-value al room w x head e k))

  pub unit-readable : Readable al (suc room) (leaf h.Unit)
  unit-readable = attr-readable al room (leaf h.Unit) refl (λ e. refl)
      (attr-word-given (codes "unit") h.Unit (word-spelled (codes "unit") refl) refl unit-head)

  pub string-readable : (t : Text) → AreBytes t → Readable al (suc room) (leaf (h.Str t))
  string-readable t s = attr-readable al room (leaf (h.Str t)) refl (λ e. absurd (cc))
      (gives-right (gives-left
      (gives-made
      (gives-tok {P = λ y. y ≡ t} false refl (any_of c.Str) (λ t. literal_bytes t.text) c.Str
      (string_text t)
      (tidy-token c.Str (string_text t) (string-spelled t s) refl)
      (λ place. pass-any c.Str (string_text t) place) (λ place. string-back t s))
      (λ y e. of-string al y ∙ ap (λ k. Some (leaf (h.Str k))) e))))

  pub array-readable : (kids : Values) → AllByRecursion (Readable al room) (list_of kids)
      → Readable al (suc room) (value h.Array kids)
  array-readable kids b = attr-readable al room (value h.Array kids) refl (λ e. absurd (cc))
      (gives-right (gives-right (gives-right (gives-right (gives-left
      (gives-same (ap (λ l. in_squares (commas l)) (all-marks kids))
      (gives-made (given-squares (attrs-given al room (list_of kids) b))
      (λ ts q. of-array al ts ∙ made-of-kids al h.Array kids _
      (all-spelled al ts (list_of kids) q)))))))))

  -- ---- symbols

  -- `::` and a part, for each part
  parts-within : (ns : List Text) → AllByRecursion AreBytes ns → (ts : Tokens)
      → MarksSpell (parts_behind ns) ts
      → (ms : List Text)
      × EachPiece (Within (within room) (room == 0) (punct c.ColonColon >> syntax.symbol_name)) ts
      ms × (ms ≡ ns)
  parts-within [] all ts s = ([], s, refl)
  parts-within (n ∷ ns) (x, all) ts (p1, r1, e1, (p2, r2, e2, s)) =
      let t1 = token_at c.ColonColon (codes "::") p1 in
      let t2 = token_at c.SymbolName (symbol_text n) p2 in
      let (ms, d, q) = parts-within ns all r2 s in
      let is : ts ≡ (t1 ∷ t2 ∷ []) ++ r2 = cc in
      let m : name_bytes (symbol_text n) ≡ n = symbol-back n x in
      let l : name_bytes (symbol_text n) ∷ ms ≡ n ∷ ns = cc in (
        name_bytes (symbol_text n) ∷ ms,
        (
          t1 ∷ t2 ∷ [],
          r2,
          is,
          (
            t1 ∷ [],
            t2 ∷ [],
            tt,
            name_bytes (symbol_text n),
            refl,
            (t1, refl, pass-any c.ColonColon (codes "::") p1, refl, refl),
            (t2, refl, pass-any c.SymbolName (symbol_text n) p2, refl, refl),
            refl,
          ),
          d,
        ),
        l,
      )

  symbol-given : (n : Text) (ns : List Text) → AllByRecursion AreBytes (n ∷ ns)
      → GivesAt room syntax.symbol (symbol_marks (n ∷ ns)) (FormHas al (leaf (h.Symbol (n ∷ ns))))
  symbol-given n ns (x, all) = record {
    tidy = symbol-tidy n ns (x, all);
    tree = λ ts (p, r, e, s2). let t = token_at c.SymbolName (symbol_text n) p in
        let (ms, d, q) = parts-within ns all r s2 in
        let is : ts ≡ (t ∷ []) ++ r = cc in
        let m : name_bytes (symbol_text n) ≡ n = symbol-back n x in
        let l : name_bytes (symbol_text n) ∷ ms ≡ n ∷ ns = cc in (
          node.Symbol (name_bytes (symbol_text n) ∷ ms),
          (
            t ∷ [],
            r,
            name_bytes (symbol_text n),
            ms,
            is,
            (t, refl, pass-any c.SymbolName (symbol_text n) p, refl, refl),
            (ms, d, refl),
            refl,
          ),
          of-symbol al (name_bytes (symbol_text n) ∷ ms) ∙ ap (λ w. Some (leaf (h.Symbol w))) l,
        );
  }

  pub symbol-readable : (n : Text) (ns : List Text) → AllByRecursion AreBytes (n ∷ ns)
      → Readable al (suc room) (leaf (h.Symbol (n ∷ ns)))
  symbol-readable n ns all = attr-readable al room (leaf (h.Symbol (n ∷ ns))) refl
      (λ e. absurd (cc))
      (gives-right (gives-right (gives-left (symbol-given n ns all))))

  -- ---- dialects' values

  -- parameters, or none
  arguments-given : (kids : Values) → AllByRecursion (Readable al room) (list_of kids)
      → GivesAt room syntax.arguments
      (unless_empty (kid_marks kids) (in_angles (commas (marks_of (kid_marks kids)))))
      (λ ts. AllZip (HasValue al) ts (list_of kids))
  arguments-given none b = gives-right (gives-ret [] tt)
  arguments-given (more head kids rest) b =
      gives-left (gives-same (ap (λ l. in_angles (commas l)) (all-marks (more head kids rest)))
      (given-angles (attrs-given al room (list_of (more head kids rest)) b)))

  pass-dotted : (class : Class) (text : Text) (place : ℕ) → has_dot text ≡ true
      → passes (dotted class) (token_at class text place) ≡ true
  pass-dotted class text place e = rw (same-class-refl class, e) refl

  name-given : (is_type : Bool) (name : Text) → IsFullName name
      → Tidy (token (name_class is_type) (name_text is_type name) ∷ [])
      → GivesAt room (syntax.dialect_name (name_class is_type))
      (token (name_class is_type) (name_text is_type name) ∷ []) (λ y. y ≡ name)
  name-given is_type name n t =
      gives-tok false refl (dotted (name_class is_type)) (λ t. name_bytes t.text)
      (name_class is_type) (name_text is_type name) t
      (λ place. pass-dotted (name_class is_type) (name_text is_type name) place
      (full-name-dotted is_type name n))
      (λ place. full-name-back is_type name n)

  dialect-given : (is_type : Bool) (name : Text) (kids : Values) → IsFullName name
      → Tidy (token (name_class is_type) (name_text is_type name) ∷ [])
      → AllByRecursion (Readable al room) (list_of kids)
      → GivesAt room
      (made (syntax.dialect_node is_type)
      (syntax.dialect_name (name_class is_type) then syntax.arguments))
      (value_marks (value (h.Dialect is_type name) kids))
      (FormHas al (value (h.Dialect is_type name) kids))
  dialect-given is_type name kids n tidy b = gives-made
      (gives-both {R = λ x. (x.0 ≡ name) × AllZip (HasValue al) x.1 (list_of kids)}
      (name-given is_type name n tidy) (arguments-given kids b) (λ x ts p q. (p, q)))
      (λ x q. of-dialect al is_type x.0 x.1
      ∙ ap (λ k. option_map (made_of (h.Dialect is_type k)) (values_of (map (seen al) x.1))) q.0
      ∙ made-of-kids al (h.Dialect is_type name) kids _ (all-spelled al x.1 (list_of kids) q.1))

  pub dialect-readable : (is_type : Bool) (name : Text) (kids : Values) → IsFullName name
      → AllByRecursion (Readable al room) (list_of kids)
      → Readable al (suc room) (value (h.Dialect is_type name) kids)
  dialect-readable true name kids n b = plain-readable al room (value (h.Dialect true name) kids)
      refl
      (gives-right (gives-right (gives-left
      (dialect-given true name kids n (tidy-token c.TypeName _ (name-spelled true name n.bare) refl)
      b))))
  dialect-readable false name kids n b = attr-readable al room (value (h.Dialect false name) kids)
      refl (λ e. absurd (cc))
      (gives-right
      (gives-right (gives-right (gives-right (gives-right (gives-right (gives-right (gives-left
      (dialect-given false name kids n
      (tidy-token c.AttrName _ (name-spelled false name n.bare) refl) b)))))))))
