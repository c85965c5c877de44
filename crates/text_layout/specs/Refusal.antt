-- The line that tells of a refusal.
--
--   refusal_line file place code name detail
--                 `FILE:LINE:COLUMN: error CODE NAME`, the detail as it stands, and a line feed
use Rattle.std.specs.Prelude.{[], ◌∷◌, codes, decimal}
use Rattle.std.specs.List.{concat}
use Rattle.ir_lexer.specs.declared.place.LineCol.{LineCol}
use Rattle.ir_lexer.specs.Spelling.{Text}

-- `FILE:LINE:COLUMN: error CODE NAME`, the detail, and a line feed
abbrev pub refusal_line : Text → LineCol → Text → Text → Text → Text
refusal_line file place code name detail = concat
    (file ∷ codes ":" ∷ decimal place.line ∷ codes ":" ∷ decimal place.column
    ∷ codes ": error " ∷ code ∷ codes " " ∷ name ∷ detail ∷ codes "\n" ∷ [])
