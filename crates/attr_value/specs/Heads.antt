-- What the head of a value keeps to by itself, whatever dialects define.
--
--   is_type_head head        values with this head are types
--   IsType v                 the value is a type
--   MayHaveKids head n       a value with this head may have n kids
--   is_made_of_types head    the kids of a value with this head are types
--   IsTypeWidth width        an integer type may be so wide, in bits
--   IsIntType kind           an integer type may be of this kind
--   IsDim kind dim           a shape of this kind may have the dimension
--   IsDenseWidth width       the items of a dense array may be so wide, in bits
--   text_lt a b              the text a stands before b by the order of bytes
--   Ascend texts             each text stands before the next
--   HeadIsRight head         widths, kept numbers, dimensions, keys and parts of the head are right
--   OwnRule head kids        a value of this head and these kids keeps to its head's rule
use Rattle.std.specs.Prelude.{◌≡◌, ◌⊎◌, ℕ, ◌^◌, ◌<◌, ◌≤◌, Bool, true, false, ◌&&◌, ◌||◌, ◌==◌}
use Rattle.std.specs.Prelude.{List, [], ◌∷◌, length, IsTrue, nat_lt}
use Rattle.std.specs.List.{AllByRecursion}
use Rattle.attr_value.specs.declared.head.Head.{Head}
use Rattle.attr_value.specs.declared.head.Head.TheVariants as h
use Rattle.attr_value.specs.declared.kind.Dim.{Dim}
use Rattle.attr_value.specs.declared.kind.Dim.TheVariants.{Known, Unknown}
use Rattle.attr_value.specs.declared.kind.IntKind.{IntKind}
use Rattle.attr_value.specs.declared.kind.IntKind.TheVariants.{Index, Signless, Signed, Unsigned}
use Rattle.attr_value.specs.declared.kind.ShapeKind.{ShapeKind}
use Rattle.attr_value.specs.declared.kind.TheConstants.{WIDTH_LIMIT}
use Rattle.attr_value.specs.declared.kind.ShapeKind.TheVariants as shape
use Rattle.attr_value.specs.Numbers.{IsKept}
use Rattle.attr_value.specs.Values.{Value}

-- values with this head are types; the others are attributes
abbrev pub is_type_head : Head → Bool
is_type_head (h.Int kind) = true
is_type_head h.NoneType = true
is_type_head (h.Float kind) = true
is_type_head (h.Function inputs) = true
is_type_head h.Tuple = true
is_type_head (h.Shaped kind dims) = true
is_type_head h.Complex = true
is_type_head (h.Dialect is_type name) = is_type
is_type_head _ = false

-- a value is a type
abbrev pub IsType : Value → Type 0
IsType v = IsTrue (is_type_head v.head)

-- A value with this head may have n kids: an element type for shapes and complex types, at least
-- the inputs for a function type, one for each key of a dictionary, any number for tuples, arrays
-- and dialects, and none for the rest.
abbrev pub MayHaveKids : Head → ℕ → Type 0
MayHaveKids (h.Shaped kind dims) n = n ≡ 1
MayHaveKids h.Complex n = n ≡ 1
MayHaveKids (h.Function inputs) n = inputs ≤ n
MayHaveKids (h.Dict keys) n = n ≡ length keys
MayHaveKids h.Tuple n = Unit {0}
MayHaveKids h.Array n = Unit {0}
MayHaveKids (h.Dialect is_type name) n = Unit {0}
MayHaveKids _ n = n ≡ 0

-- function, tuple, shaped and complex types are made of types
abbrev pub is_made_of_types : Head → Bool
is_made_of_types (h.Function inputs) = true
is_made_of_types h.Tuple = true
is_made_of_types (h.Shaped kind dims) = true
is_made_of_types h.Complex = true
is_made_of_types _ = false

-- an integer type has 1 bit to so many as the limit says
abbrev pub IsTypeWidth : ℕ → Type 0
IsTypeWidth width = (1 ≤ width) × (width ≤ WIDTH_LIMIT)

-- an integer type may be of this kind
abbrev pub IsIntType : IntKind → Type 0
IsIntType Index = Unit {0}
IsIntType (Signless width) = IsTypeWidth width
IsIntType (Signed width) = IsTypeWidth width
IsIntType (Unsigned width) = IsTypeWidth width

-- dimensions go from 1 to the greatest signed number of 64 bits, and no vector's is unknown
abbrev pub IsDim : ShapeKind → Dim → Type 0
IsDim kind (Known n) = (1 ≤ n) × (n < 2 ^ 63)
IsDim shape.Vector Unknown = ⊥
IsDim _ Unknown = Unit {0}

-- the items of dense arrays have one of five widths
abbrev pub IsDenseWidth : ℕ → Type 0
IsDenseWidth width =
    (width ≡ 1) ⊎ (width ≡ 8) ⊎ (width ≡ 16) ⊎ (width ≡ 32) ⊎ (width ≡ 64)

-- a text stands before another by the order of bytes
abbrev pub text_lt : List ℕ → List ℕ → Bool
text_lt [] [] = false
text_lt [] (b ∷ bs) = true
text_lt (a ∷ rest) [] = false
text_lt (a ∷ rest) (b ∷ bs) = nat_lt a b || ((a == b) && text_lt rest bs)

-- each text stands before the next
abbrev pub Ascend : List (List ℕ) → Type 0
Ascend [] = Unit {0}
Ascend (a ∷ []) = Unit {0}
Ascend (a ∷ b ∷ rest) = IsTrue (text_lt a b) × Ascend (b ∷ rest)

-- Widths, kept numbers and dimensions are in their ranges, keys strictly ascend, and a reference
-- to a symbol has a part.
abbrev pub HeadIsRight : Head → Type 0
HeadIsRight (h.Int kind) = IsIntType kind
HeadIsRight (h.Shaped kind dims) = AllByRecursion (IsDim kind) dims
HeadIsRight (h.Number kind n) = IsKept kind n
HeadIsRight (h.Dict keys) = Ascend keys
HeadIsRight (h.Symbol parts) = 0 < length parts
HeadIsRight (h.Dense width items) =
    IsDenseWidth width × AllByRecursion (IsKept (Signless width)) items
HeadIsRight _ = Unit {0}

-- the rule that a value keeps to, apart from what dialects define
pub record OwnRule (head : Head) (kids : List Value) : Type 0 where
  pub count : MayHaveKids head (length kids)
  pub types : IsTrue (is_made_of_types head) → AllByRecursion IsType kids
  pub right : HeadIsRight head
