-- The shapes of names in definition files, and the reserved names.
--
--   is_bare_id name        a letter or `_`, and then letters, digits, `_`, `$` and `.`
--   is_dialect_name name   such a name without `$` and `.`
--   reserved_dialects      the dialects that no file may define
--   reserved_attrs         the attributes that hold the sizes of segments
--   IsBadDefName name, IsBadDialectName name, IsBadAttrName name
--                          the name of a definition, a dialect or an attribute breaks the rule
use Rattle.std.specs.Prelude.{◌≡◌, ◌⊎◌, ℕ, Bool, true, false, not, ◌&&◌, ◌||◌, ◌==◌, List, [], ◌∷◌, codes, bytes_eq}
use Rattle.std.specs.List.{list_all, list_any}
use Rattle.std.specs.Prelude.{nat_lt}
use Rattle.ir_lexer.specs.Spelling.{Text}

-- a byte from the first to the second
abbrev pub is_between : ℕ → ℕ → ℕ → Bool
is_between low high b = not (nat_lt b low) && not (nat_lt high b)

-- a letter or `_`
abbrev pub is_start : ℕ → Bool
is_start b = is_between 65 90 b || (is_between 97 122 b || (b == 95))

-- a `$` or a `.`, which no dialect's name has
abbrev pub is_sign : ℕ → Bool
is_sign b = (b == 36) || (b == 46)

-- a letter, a digit, or one of `_`, `$` and `.`
abbrev pub is_inner : ℕ → Bool
is_inner b = is_start b || (is_between 48 57 b || is_sign b)

-- a bare id
abbrev pub is_bare_id : Text → Bool
is_bare_id [] = false
is_bare_id (b ∷ t) = is_start b && list_all is_inner t

-- a bare id without `$` and `.`
abbrev pub is_dialect_name : Text → Bool
is_dialect_name name = is_bare_id name && not (list_any is_sign name)

-- the dialects that no file may define
abbrev pub reserved_dialects : List Text
reserved_dialects = codes "builtin" ∷ codes "irdl" ∷ codes "irdl_opt" ∷ []

-- the attributes that hold the sizes of segments
abbrev pub reserved_attrs : List Text
reserved_attrs = codes "operandSegmentSizes" ∷ codes "resultSegmentSizes" ∷ []

-- the name is one of these
abbrev pub is_one_of : List Text → Text → Bool
is_one_of names name = list_any (bytes_eq name) names

-- the name of a definition is a bare id
abbrev pub IsBadDefName : Text → Type 0
IsBadDefName name = is_bare_id name ≡ false

-- the name of a dialect is a bare id without `$` and `.`, and isn't reserved
abbrev pub IsBadDialectName : Text → Type 0
IsBadDialectName name = (is_dialect_name name ≡ false) ⊎ (is_one_of reserved_dialects name ≡ true)

-- the name of an attribute isn't reserved
abbrev pub IsBadAttrName : Text → Type 0
IsBadAttrName name = is_one_of reserved_attrs name ≡ true
