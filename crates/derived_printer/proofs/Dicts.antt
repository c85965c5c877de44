-- Dictionaries are read as they are written.
--
-- A key alone stands for the unit attribute, and so is a value one deeper.
use Rattle.std.proofs.Common.{◌≡◌, ℕ, suc, ◌<◌, ◌≤◌, ◌==◌, Bool, true, false, List, [], ◌∷◌, ◌++◌, length, map, refl, sym, ◌∙◌, ap, subst, Option, Some, None, cond, option_map, option_and_then, inl, inr, ◌⊎◌, arith}
use Rattle.std.proofs.lemmas.Bool.{eqb-true}
use Rattle.std.proofs.lemmas.Slice.Zip.{firsts-zip}
use Rattle.std.specs.List.{AllByRecursion, AllZip, zip}
use Rattle.attr_value.specs.declared.head.Head.TheVariants as h
use Rattle.attr_value.specs.Heads.{OwnRule, Ascend}
use Rattle.attr_value.specs.Values.{Value, Values, none, more, value, list_of, greatest_depth}
use Rattle.generic_syntax.specs.declared.cst.EntryCst.{EntryCst}
use Rattle.generic_syntax.specs.declared.cst.ValueCst.{ValueCst}
use Rattle.generic_syntax.specs.Values.{entry_at}
use Rattle.generic_syntax.specs.Values as syntax
use Rattle.grammar.specs.Looks.{any_of}
use Rattle.ir_lexer.specs.declared.class.Class.TheVariants as c
use Rattle.ir_lexer.specs.Names.{literal_bytes}
use Rattle.ir_lexer.specs.Spelling.{Text}
use Rattle.text_layout.specs.Lines.{token}
use Rattle.text_layout.proofs.Gives.{gives-ret, gives-tok, gives-both, gives-left, gives-right, gives-made, gives-placed, gives-same}
use Rattle.text_layout.proofs.Tidy.{tidy-token}
use Rattle.value_meaning.specs.Meaning.{Aliases, entry_seen, entry_value, leaf, dict_of}
use Rattle.value_meaning.specs.Spelled.{all_some, sorted_entries}
use Rattle.derived_printer.specs.Spelling.{string_text, is_bare, key_class, key_text}
use Rattle.derived_printer.specs.Spellable.{AreBytes}
use Rattle.derived_printer.specs.ValueMarks.{a_sign, commas, in_braces, is_unit_head, entry_marks, value_marks}
use Rattle.derived_printer.proofs.KidMarks.{shown_kid, keyed-marks, dict-of-zip, sorted-ascend}
use Rattle.derived_printer.proofs.Nesting.{within}
use Rattle.derived_printer.proofs.Pieces.{given-braces}
use Rattle.derived_printer.proofs.Readable.{GivesAt, HasValue, Readable, attr-readable, attr-given}
use Rattle.derived_printer.proofs.Signs.{pass-any, given-sign, given-before, given-list}
use Rattle.derived_printer.proofs.Spelled.{word-spelled, string-spelled}
use Rattle.derived_printer.proofs.Strings.{string-back}
use Rattle.derived_printer.proofs.Trees.{of-dict, of-entry, of-key}

not-zero : (n : ℕ) → 0 < n → (n == 0) ≡ false
not-zero n some = go (n == 0) refl
  where
    go : (b : Bool) → (n == 0) ≡ b → b ≡ false
    go true e = absurd (omega (arith, eqb-true n 0 e))
    go false e = refl

module _ (al : Aliases) (room : ℕ) where
  -- ---- entries

  -- a key, where a value may nest one deeper
  key-given : (room == 0) ≡ false → (k : Text) → AreBytes k
      → GivesAt room syntax.key (token (key_class k) (key_text k) ∷ []) (λ y. y ≡ k)
  key-given some k s = go (is_bare k) refl
    where
      go : (b : Bool) → is_bare k ≡ b
          → GivesAt room syntax.key (token (cond b c.Word c.Str) (cond b k (string_text k)) ∷ [])
          (λ y. y ≡ k)
      go true e = gives-left (gives-tok true some (any_of c.Word) (λ t. t.text) c.Word k
          (tidy-token c.Word k (word-spelled k e) refl) (λ place. pass-any c.Word k place)
          (λ place. refl))
      go false e =
          gives-right (gives-tok true some (any_of c.Str) (λ t. literal_bytes t.text) c.Str
          (string_text k)
          (tidy-token c.Str (string_text k) (string-spelled k s) refl)
          (λ place. pass-any c.Str (string_text k) place)
          (λ place. string-back k s))

  -- The value of an entry is left out where it is the unit attribute.
  abbrev Holds : Value → Option ValueCst → Type 0
  Holds v o = ((o ≡ None) × (v ≡ leaf h.Unit)) ⊎ ((t : ValueCst) × (o ≡ Some t) × HasValue al t v)

  value-behind-given : (v : Value) → Readable al room v
      → GivesAt room syntax.value_behind
      (cond (is_unit_head v.head) [] (a_sign c.Equal ++ value_marks v)) (Holds v)
  value-behind-given v b = go (is_unit_head v.head) refl
    where
      go : (u : Bool) → is_unit_head v.head ≡ u
          → GivesAt room syntax.value_behind (cond u [] (a_sign c.Equal ++ value_marks v)) (Holds v)
      go true e = gives-right (gives-ret None (inl (refl, b.unit e)))
      go false e =
          gives-left (gives-made (given-before (given-sign refl) (attr-given al room v b))
          (λ t q. inr (t, refl, q)))

  -- the entry has this key and this value
  abbrev pub EntryHas : EntryCst → Text × Value → Type 0
  EntryHas e kv = entry_value (entry_seen al e) ≡ Some kv

  entry-has : (place : ℕ) (w : Text) (o : Option ValueCst) (k : Text) (v : Value) → w ≡ k
      → Holds v o → EntryHas (entry_at place (w, o)) (k, v)
  entry-has place w o k v e (inl (n, u)) =
      ap (λ o. entry_value (entry_seen al (entry_at place (w, o)))) n ∙ of-key al place w
      ∙ (let s : leaf h.Unit ≡ v = sym u in rw (e, s) refl)
  entry-has place w o k v e (inr (t, s, q)) =
      ap (λ o. entry_value (entry_seen al (entry_at place (w, o)))) s ∙ of-entry al place w t
      ∙ rw (e, q) refl

  entry-given : (room == 0) ≡ false → (k : Text) (v : Value) → AreBytes k → Readable al room v
      → GivesAt room syntax.entry (entry_marks (k, shown_kid v)) (λ e. EntryHas e (k, v))
  entry-given some k v s b = gives-placed
      (gives-both {R = λ x. (x.0 ≡ k) × Holds v x.1} (key-given some k s) (value-behind-given v b)
      (λ w o p q. (p, q)))
      (λ place x q. entry-has place x.0 x.1 k v q.0 q.1)

  -- entries, one for each key, where a value may nest one deeper
  pub each-entry : (keys : List Text) (vs : List Value) → (0 < length vs → (room == 0) ≡ false)
      → AllByRecursion AreBytes keys → AllByRecursion (Readable al room) vs
      → AllByRecursion (λ e. GivesAt room syntax.entry (entry_marks (e.0, shown_kid e.1))
      (λ a. EntryHas a e)) (zip keys vs)
  each-entry [] vs some s b = tt
  each-entry (k ∷ ks) [] some s b = tt
  each-entry (k ∷ ks) (v ∷ vs) some (x, s) (y, b) =
      (entry-given (some (omega arith)) k v x y, each-entry ks vs (λ _. some (omega arith)) s b)

  -- ---- dictionaries

  all-have : (es : List EntryCst) (kvs : List (Text × Value)) → AllZip EntryHas es kvs
      → all_some (map entry_value (map (entry_seen al) es)) ≡ Some kvs
  all-have [] [] q = refl
  all-have (e ∷ es) (kv ∷ kvs) (p, q) = rw (p, all-have es kvs q) refl
  all-have [] (kv ∷ kvs) q = absurd q
  all-have (e ∷ es) [] q = absurd q

  -- where there is a kid, values may nest one deeper
  some-room : (kids : Values) → greatest_depth kids ≤ room → 0 < length (list_of kids)
      → (room == 0) ≡ false
  some-room none d some = absurd (omega arith)
  some-room (more head kids rest) d some = not-zero room (omega (arith, d))

  dict-form : (keys : List Text) (kids : Values) → OwnRule (h.Dict keys) (list_of kids)
      → (es : List EntryCst) → AllZip EntryHas es (zip keys (list_of kids))
      → option_map dict_of
      (option_and_then sorted_entries (all_some (map entry_value (map (entry_seen al) es))))
      ≡ Some (value (h.Dict keys) kids)
  dict-form keys kids r es q = let entries = zip keys (list_of kids) in
      let ascend = subst Ascend (sym (firsts-zip keys (list_of kids) r.count)) r.right in
      ap (λ o. option_map dict_of (option_and_then sorted_entries o)) (all-have es entries q)
      ∙ ap (option_map dict_of) (sorted-ascend entries ascend)
      ∙ ap (λ v. Some v) (dict-of-zip keys kids r.count)

  pub dict-readable : (keys : List Text) (kids : Values) → greatest_depth kids ≤ room
      → OwnRule (h.Dict keys) (list_of kids) → AllByRecursion AreBytes keys
      → AllByRecursion (Readable al room) (list_of kids)
      → Readable al (suc room) (value (h.Dict keys) kids)
  dict-readable keys kids deep r s b = let vs = list_of kids in
      attr-readable al room (value (h.Dict keys) kids) refl (λ e. absurd (cc))
      (gives-right (gives-right (gives-right (gives-right (gives-right (gives-left
      (gives-same (ap (λ l. in_braces (commas l)) (keyed-marks keys kids))
      (gives-made
      (given-braces
      (given-list (within room) (room == 0) syntax.entry (λ e. entry_marks (e.0, shown_kid e.1))
      EntryHas (zip keys vs)
      (each-entry keys vs (some-room kids deep) s b)))
      (λ es q. of-dict al es ∙ dict-form keys kids r es q)))))))))
