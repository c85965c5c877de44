-- Keys that were seen, and keys that stand twice.
--
--   HasSeen keys s    the set holds exactly these keys
--   HasRepeat keys    one of the keys stands before its place too
use Rattle.std.specs.Prelude.{◌≡◌, ◌↔◌, List, ◌∷◌, ◌++◌, Contains, IsTrue, bytes_eq}
use Rattle.std.specs.HashSet.{contains_by}
use Rattle.ir_lexer.specs.Spelling.{Text}
use Rattle.value_meaning.specs.declared.keys.KeySet.{KeySet}

-- the set holds exactly these keys
pub record HasSeen (seen : List Text) (s : KeySet) : Type 0 where
  pub same : (key : Text)
      → IsTrue (contains_by (λ k. bytes_eq key k.now) s.keys) ↔ Contains seen key

-- one of the keys stands before its place too
pub record HasRepeat (keys : List Text) : Type 0 where
  pub before_it : List Text
  pub key : Text
  pub after : List Text
  pub cut : keys ≡ before_it ++ key ∷ after
  pub among : Contains before_it key
