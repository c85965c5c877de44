-- Types and attributes of a module, as the pieces that its grammar takes whole: what is written of
-- them is read as them, and no value in it is too deep.
use Rattle.std.proofs.Common.{◌≡◌, ℕ, ◌==◌, Bool, true, false, List, [], ◌∷◌, refl, sym, append-nil}
use Rattle.std.specs.List.{AllByRecursion, AllZip, zip}
use Rattle.attr_value.specs.Heads.{IsType}
use Rattle.attr_value.specs.Values.{Value}
use Rattle.derived_printer.specs.ModuleMarks.{type_list_marks, outs_marks, dict_marks}
use Rattle.derived_printer.specs.ReadBack.{is_function}
use Rattle.derived_printer.specs.Spellable.{AreBytes, HasBytes}
use Rattle.derived_printer.specs.ValueMarks.{Marks, value_marks, entry_marks}
use Rattle.derived_printer.proofs.Dicts.{EntryHas, each-entry}
use Rattle.derived_printer.proofs.Good.{good-spellable}
use Rattle.derived_printer.proofs.Heads.{value-readable}
use Rattle.derived_printer.proofs.KidMarks.{shown_kid}
use Rattle.derived_printer.proofs.Nesting.{within}
use Rattle.derived_printer.proofs.Pieces.{given-parens, given-braces}
use Rattle.derived_printer.proofs.Readable.{GivesAt, HasValue, Readable, type-given, types-given}
use Rattle.derived_printer.proofs.Signs.{given-list}
use Rattle.generic_syntax.specs.declared.cst.EntryCst.{EntryCst}
use Rattle.generic_syntax.specs.declared.cst.ValueCst.{ValueCst}
use Rattle.generic_syntax.specs.ModuleForms.{of_values}
use Rattle.generic_syntax.specs.Operations.{Customs}
use Rattle.generic_syntax.specs.Pieces.{Piece, one_type, some_types, results, dictionary}
use Rattle.generic_syntax.specs.Pieces.{PieceTree, piece}
use Rattle.generic_syntax.specs.Values as syntax
use Rattle.ir_lexer.specs.Spelling.{Text}
use Rattle.module_meaning.specs.AliasValues.{no_aliases}
use Rattle.module_meaning.specs.WholeModules.{Loaded, IsGood}
use Rattle.module_text.proofs.Nesting.{inside}
use Rattle.module_text.proofs.Ready.{TypeIsRight}
use Rattle.module_text.specs.WellFormed.{NamesAreSpellable}
use Rattle.text_layout.specs.Gives.{GivesKid}
use Rattle.text_layout.proofs.Gives.{gives-left, gives-right, gives-made, gives-kid, gives-same}

-- the tree has the value
abbrev pub Spells : ValueCst → Value → Type 0
Spells t v = HasValue no_aliases t v

-- the entry has the key and the value
abbrev pub EntryIs : EntryCst → Text × Value → Type 0
EntryIs e kv = EntryHas no_aliases 64 e kv

-- a piece of values is one that modules take whole
piece-given : (cs : Customs) (n : ℕ) {p : Piece} {ms : Marks} {P : PieceTree p → Type 0}
    → GivesAt 64 (piece p) ms P → GivesKid (inside cs n) (of_values p) ms P
piece-given cs n x = record { tidy = x.tidy; tree = x.tree }

module _ (loaded : Loaded) (names : NamesAreSpellable loaded) where
  -- what is written of a good value is read as it
  readable : (v : Value) → IsGood loaded v → HasBytes v → Readable no_aliases 64 v
  readable v good bytes =
      value-readable no_aliases 63 v good.shallow
      (good-spellable loaded.values loaded.tests loaded.types v names.types good) bytes

  each-readable : (vs : List Value) → AllByRecursion (IsGood loaded) vs
      → AllByRecursion HasBytes vs → AllByRecursion (Readable no_aliases 64) vs
  each-readable [] p q = tt
  each-readable (v ∷ vs) (p, ps) (q, qs) = (readable v p q, each-readable vs ps qs)

  right-readable : (ts : List Value) → AllByRecursion (TypeIsRight loaded) ts
      → AllByRecursion (Readable no_aliases 64) ts
  right-readable [] r = tt
  right-readable (t ∷ ts) (r, rs) = (readable t r.good.good r.bytes, right-readable ts rs)

  right-types : (ts : List Value) → AllByRecursion (TypeIsRight loaded) ts
      → AllByRecursion IsType ts
  right-types [] r = tt
  right-types (t ∷ ts) (r, rs) = (r.good.type, right-types ts rs)

  -- a type
  pub type-kid : (cs : Customs) (n : ℕ) (t : Value) → TypeIsRight loaded t
      → GivesKid (inside cs n) (of_values one_type) (value_marks t) (λ u. Spells u t)
  type-kid cs n t r = piece-given cs n {p = one_type}
      (type-given no_aliases 64 t (readable t r.good.good r.bytes) r.good.type)

  -- types in parentheses
  list-given : (ts : List Value) → AllByRecursion (TypeIsRight loaded) ts
      → GivesAt 64 syntax.types (type_list_marks ts) (λ us. AllZip Spells us ts)
  list-given ts r =
      given-parens (types-given no_aliases 64 ts (right-readable ts r) (right-types ts r))

  pub types-kid : (cs : Customs) (n : ℕ) (ts : List Value) → AllByRecursion (TypeIsRight loaded) ts
      → GivesKid (inside cs n) (of_values some_types) (type_list_marks ts)
      (λ us. AllZip Spells us ts)
  types-kid cs n ts r = piece-given cs n {p = some_types} (list-given ts r)

  -- the types of results, of which one alone has no parentheses where it is no function type
  outs-given : (ts : List Value) → AllByRecursion (TypeIsRight loaded) ts
      → GivesAt 64 syntax.outs (outs_marks ts) (λ us. AllZip Spells us ts)
  outs-given [] r = gives-left (list-given [] r)
  outs-given (t ∷ []) (r, rs) = go (is_function t.head) refl
    where
      go : (b : Bool) → is_function t.head ≡ b
          → GivesAt 64 syntax.outs (outs_marks (t ∷ [])) (λ us. AllZip Spells us (t ∷ []))
      go true e = rw e (gives-left (list-given (t ∷ []) (r, rs)))
      go false e = rw e (gives-same (sym (append-nil (value_marks t)))
          (gives-right (gives-made
          (gives-kid ((readable t r.good.good r.bytes).as_plain r.good.type e) (λ u p. p))
          (λ u p. (p, tt)))))
  outs-given (t ∷ u ∷ ts) r = gives-left (list-given (t ∷ u ∷ ts) r)

  pub outs-kid : (cs : Customs) (n : ℕ) (ts : List Value) → AllByRecursion (TypeIsRight loaded) ts
      → GivesKid (inside cs n) (of_values results) (outs_marks ts) (λ us. AllZip Spells us ts)
  outs-kid cs n ts r = piece-given cs n {p = results} (outs-given ts r)

  -- attributes in braces
  pub dict-kid : (cs : Customs) (n : ℕ) (keys : List Text) (vs : List Value)
      → AllByRecursion AreBytes keys → AllByRecursion (IsGood loaded) vs
      → AllByRecursion HasBytes vs
      → GivesKid (inside cs n) (of_values dictionary) (dict_marks (zip keys vs))
      (λ es. AllZip EntryIs es (zip keys vs))
  dict-kid cs n keys vs k p q = piece-given cs n {p = dictionary}
      (given-braces (given-list (within 64) (64 == 0) syntax.entry
      (λ e. entry_marks (e.0, shown_kid e.1)) (EntryHas no_aliases 64) (zip keys vs)
      (each-entry no_aliases 64 keys vs (λ some. refl) k (each-readable vs p q))))
