-- What the code asks of a gap is what its bytes are.
use Rattle.std.proofs.Common.{◌≡◌, ◌≢◌, Bool, true, false, [], ◌∷◌, refl, sym, ap, ◌∙◌, if◌then◌else◌}
use Rattle.ir_lexer.specs.declared.class.Class.{Class}
use Rattle.ir_lexer.specs.declared.class.Class.TheVariants as c
use Rattle.ir_lexer.specs.Signs.{space}
use Rattle.ir_lexer.specs.Spelling.{Text}
use Rattle.text_layout.specs.Lines.{Row, is_tight, stays_apart, plain_gap}

-- dimensions are tight
pub tight-dims : (first a b : Class) (text : Text) → is_tight first a text b ≡ false → a ≢ c.Dims
tight-dims first a b text e is =
    absurd (cc (sym e ∙ ap (λ x. is_tight first x text b) is))

-- an empty literal between tight tokens makes no space
pub empty-tight : (row : Row) (b : Class) (text : Text)
    → is_tight row.first row.last row.text b ≡ true
    → [] ≡ (if stays_apart row.text text then [] else plain_gap row b)
empty-tight row b text e = go (stays_apart row.text text)
  where
    go : (apart : Bool) → [] ≡ (if apart then [] else plain_gap row b)
    go true = refl
    go false = rw e refl

-- an empty literal between others makes none where the texts stay apart
pub empty-loose : (row : Row) (b : Class) (text : Text)
    → is_tight row.first row.last row.text b ≡ false
    → (if stays_apart row.text text then [] else space ∷ [])
    ≡ (if stays_apart row.text text then [] else plain_gap row b)
empty-loose row b text e = rw e refl

pub ruleset gaps = (tight-dims, empty-tight, empty-loose)
