-- Names and texts in order, by their numbers. The first has the number 0.
--
--   text_at texts n      the text with this number, and no bytes where there is none
--   IsReached P texts n t
--                        the text t has the number n, and each one before it has the property P
use Rattle.std.specs.Prelude.{◌≡◌, ℕ, ◌<◌, List, [], slice_get, slice_index_or}
use Rattle.std.specs.declared.option.Option.TheVariants.{Some}
use Rattle.ir_lexer.specs.Spelling.{Text}

-- the text with this number, and no bytes where there is none
abbrev pub text_at : List Text → ℕ → Text
text_at texts n = slice_index_or texts n []

-- The text has this number, and each one before it has the property.
pub record IsReached (P : Text → Type 0) (texts : List Text) (number : ℕ) (text : Text)
    : Type 0 where
  pub there : slice_get texts number ≡ Some text
  pub before : (n : ℕ) (earlier : Text) → n < number → slice_get texts n ≡ Some earlier
      → P earlier
