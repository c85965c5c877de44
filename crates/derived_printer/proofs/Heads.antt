-- What is written of a value is read as it, whatever its head: by recursion over values.
use Rattle.std.proofs.Common.{◌≡◌, ℕ, zero, suc, ◌≤◌, [], ◌∷◌, length, refl, sym, subst, arith, codes}
use Rattle.std.specs.List.{AllByRecursion}
use Rattle.attr_value.specs.declared.head.Head.{Head}
use Rattle.attr_value.specs.declared.head.Head.TheVariants as h
use Rattle.attr_value.specs.Values.{Value, Values, none, more, value, list_of, greatest_depth, depth}
use Rattle.value_meaning.specs.Meaning.{Aliases, leaf}
use Rattle.derived_printer.specs.Spelling.{int_text, float_text}
use Rattle.derived_printer.specs.Spellable.{NodeIsSpellable, AreSpellable, Spellable, HeadHasBytes, HaveBytes, HasBytes}
use Rattle.derived_printer.proofs.Attributes.{unit-readable, string-readable, array-readable, symbol-readable, dialect-readable}
use Rattle.derived_printer.proofs.Dicts.{dict-readable}
use Rattle.derived_printer.proofs.KidMarks.{no-kids}
use Rattle.derived_printer.proofs.Numerals.{number-readable, dense-readable}
use Rattle.derived_printer.proofs.Readable.{Readable}
use Rattle.derived_printer.proofs.Types.{word-readable, tuple-readable, complex-readable, function-type-readable, shape-readable}
use Rattle.derived_printer.proofs.Words.{int-word, none-word, float-word}

module _ (al : Aliases) where
  -- a value that may have no kids
  leaf-readable : (room : ℕ) (head : Head) (kids : Values) → length (list_of kids) ≡ 0
      → Readable al (suc room) (leaf head) → Readable al (suc room) (value head kids)
  leaf-readable room head kids e b =
      subst (λ (k : Values). Readable al (suc room) (value head k)) (sym (no-kids kids e)) b

  -- a value, where its kids are read
  node-readable : (room : ℕ) (head : Head) (kids : Values) → greatest_depth kids ≤ room
      → NodeIsSpellable head kids → HeadHasBytes head
      → AllByRecursion (Readable al room) (list_of kids) → Readable al (suc room) (value head kids)
  node-readable room (h.Int kind) kids deep r s b =
      leaf-readable room _ kids r.rule.count
      (word-readable al room (h.Int kind) (int_text kind) refl refl (int-word kind r.rule.right))
  node-readable room h.NoneType kids deep r s b =
      leaf-readable room _ kids r.rule.count
      (word-readable al room h.NoneType (codes "none") refl refl none-word)
  node-readable room (h.Float kind) kids deep r s b =
      leaf-readable room _ kids r.rule.count
      (word-readable al room (h.Float kind) (float_text kind) refl refl (float-word kind))
  node-readable room (h.Function n) kids deep r s b = function-type-readable al room n kids r.rule b
  node-readable room h.Tuple kids deep r s b = tuple-readable al room kids r.rule b
  node-readable room (h.Shaped kind ds) none deep r s b = absurd (omega (arith, r.rule.count))
  node-readable room (h.Shaped kind ds) (more head kids none) deep r s b =
      shape-readable al room kind ds (value head kids) r.rule.right b.0 (r.rule.types refl).0
  node-readable room (h.Shaped kind ds) (more head kids (more other under rest)) deep r s b =
      absurd (omega (arith, r.rule.count))
  node-readable room h.Complex none deep r s b = absurd (omega (arith, r.rule.count))
  node-readable room h.Complex (more head kids none) deep r s b =
      complex-readable al room (value head kids) b.0 (r.rule.types refl).0
  node-readable room h.Complex (more head kids (more other under rest)) deep r s b =
      absurd (omega (arith, r.rule.count))
  node-readable room (h.Number kind n) kids deep r s b = leaf-readable room _ kids r.rule.count
      (number-readable al room kind n r.rule.right)
  node-readable room (h.Str t) kids deep r s b = leaf-readable room _ kids r.rule.count
      (string-readable al room t s)
  node-readable room h.Unit kids deep r s b = leaf-readable room _ kids r.rule.count
      (unit-readable al room)
  node-readable room h.Array kids deep r s b = array-readable al room kids b
  node-readable room (h.Dict keys) kids deep r s b = dict-readable al room keys kids deep r.rule s b
  node-readable room (h.Symbol []) kids deep r s b = absurd (omega (arith, r.rule.right))
  node-readable room (h.Symbol (n ∷ ns)) kids deep r s b = leaf-readable room _ kids r.rule.count
      (symbol-readable al room n ns s)
  node-readable room (h.Dense width items) kids deep r s b =
      leaf-readable room _ kids r.rule.count
      (dense-readable al room width items r.rule.right.0 r.rule.right.1)
  node-readable room (h.Dialect is_type name) kids deep r s b =
      dialect-readable al room is_type name kids r.named b

  -- each of some values
  each-readable : (room : ℕ) (vs : Values) → greatest_depth vs ≤ room → AreSpellable vs
      → HaveBytes vs → AllByRecursion (Readable al room) (list_of vs)
  each-readable room none d r s = tt
  each-readable zero (more head kids rest) d r s = absurd (omega (arith, d))
  each-readable (suc room) (more head kids rest) d r s = (
    node-readable room head kids (omega (arith, d)) r.0 s.0
        (each-readable room kids (omega (arith, d)) r.1 s.1),
    each-readable (suc room) rest (omega (arith, d)) r.2 s.2,
  )

  -- What is written of a value that can be spelled is read as it, and nothing in it is too deep.
  pub value-readable : (room : ℕ) (v : Value) → depth v ≤ suc room → Spellable v → HasBytes v
      → Readable al (suc room) v
  value-readable room v d r s =
      node-readable room v.head v.kids (omega (arith, d)) r.node s.head
      (each-readable room v.kids (omega (arith, d)) r.kids s.kids)
