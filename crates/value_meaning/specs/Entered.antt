-- The entries of a dictionary: their keys, and what is known of their values.
--
--   keys_of es, seen_keys es   the keys of entries
--   entry_values es            what their values spell
--   key_claims before es       what entries claim of their keys, behind other keys
--   IsFirstRepeat es repeat    repeat is the fault of the first key that stands twice
--   AreKeyed g es new pairs    these are the keys and ids of all, which are good
--   AreGoodEntries g es        the values are good, and no key stands twice
--   AreRightEntries g n es     and there is room for each at nesting n
--
-- Inside: no public clause rests on this.
use Rattle.std.specs.Prelude.{◌≡◌, ◌≢◌, ℕ, List, [], ◌∷◌, ◌++◌, map}
use Rattle.std.specs.declared.option.Option.{Option}
use Rattle.std.specs.declared.option.Option.TheVariants.{None}
use Rattle.attr_value.specs.declared.head.ValueId.{ValueId}
use Rattle.attr_value.specs.Values.{Value}
use Rattle.first_fault.specs.declared.fault.Fault.{Fault}
use Rattle.first_fault.specs.Firsts.{IsFirst}
use Rattle.generic_syntax.specs.declared.cst.EntryCst.{EntryCst, out-EntryCst}
use Rattle.ir_lexer.specs.Spelling.{Text}
use Rattle.value_meaning.specs.Faults.{HaveGood, IsFaultAmong}
use Rattle.value_meaning.specs.Judging.{Ground, AreIdsOf, HaveRight}
use Rattle.value_meaning.specs.Keys.{HasRepeat}
use Rattle.value_meaning.specs.Meaning.{EntrySeen, Mark, Seen, claim_at, keys}

-- the keys of entries
abbrev pub keys_of : List EntryCst → List Text
keys_of es = map (λ e. (out-EntryCst e).key) es

-- the same, by what is seen of them
abbrev pub seen_keys : List EntrySeen → List Text
seen_keys es = map (λ e. e.key) es

-- what is seen of their values
abbrev pub seen_values : List EntrySeen → List Seen
seen_values es = map (λ e. e.seen) es

-- what their values spell
abbrev pub entry_values : List EntrySeen → List (Option Value)
entry_values es = map (λ s. s.value) (seen_values es)

-- what entries claim of their keys, behind other keys
abbrev pub key_claims : List Text → List EntrySeen → List Mark
key_claims before [] = []
key_claims before (e ∷ es) = claim_at e.place (keys before e.key) ∷ key_claims (before ++ e.key ∷ []) es

-- the fault of the first key that stands before its place too, where one does
pub record IsFirstRepeat (es : List EntrySeen) (repeat : Option Fault) : Type 0 where
  pub first : (g : Ground) → IsFirst (IsFaultAmong g.table g.tests g.types (key_claims [] es)) repeat
  pub none : repeat ≡ None → ¬ HasRepeat (seen_keys es)
  pub some : repeat ≢ None → HasRepeat (seen_keys es)

-- the keys of entries, with the ids of their values, which are good; no key stands twice
pub record AreKeyed (g : Ground) (es : List EntrySeen) (new : List Value)
    (pairs : List (Text × ValueId)) : Type 0 where
  pub keys : map (λ p. p.0) pairs ≡ seen_keys es
  pub ids : AreIdsOf g (entry_values es) new (map (λ p. p.1) pairs)
  pub distinct : ¬ HasRepeat (seen_keys es)

-- the values of entries are good, and no key stands twice
pub record AreGoodEntries (g : Ground) (es : List EntrySeen) : Type 0 where
  pub all : HaveGood g.table g.tests g.types (entry_values es)
  pub distinct : ¬ HasRepeat (seen_keys es)

-- the values of entries are good and there is room for them, and no key stands twice
pub record AreRightEntries (g : Ground) (n : ℕ) (es : List EntrySeen) : Type 0 where
  pub all : HaveRight g n (entry_values es)
  pub distinct : ¬ HasRepeat (seen_keys es)
