-- The places of definitions in a list, by their kinds and names.
--
--   PlaceIds                    a place for each kind and name, where one is noted
--   place_of places             those of a table of places
--   with_place ids ..           with one place more, instead of one of its kind and name
--   IsPlaced types i ids        they are the places of the first i definitions
--
-- Inside: no public clause rests on this.
use Rattle.std.specs.Prelude.{◌≡◌, ◌<◌, ℕ, Bool, true, false, if◌then◌else◌, bytes_eq, cond, List}
use Rattle.std.specs.Prelude.{slice_get}
use Rattle.std.specs.HashMap.{get}
use Rattle.std.specs.declared.option.Option.{Option}
use Rattle.std.specs.declared.option.Option.TheVariants.{Some}
use Rattle.dialect_defs.specs.declared.definition.TypeDef.{TypeDef}
use Rattle.ir_lexer.specs.Spelling.{Text}
use Rattle.value_meaning.specs.declared.places.Places.{Places}

-- places, by kinds and names
abbrev pub PlaceIds : Type 0
PlaceIds = Bool → Text → Option ℕ

-- those of a table of places
abbrev pub place_of : Places → PlaceIds
place_of places is_type name =
    get bytes_eq (if is_type then places.types else places.attributes) name

-- with one place more, instead of one of its kind and name
abbrev pub with_place : PlaceIds → Bool → Text → ℕ → PlaceIds
with_place ids true name place true other = cond (bytes_eq name other) (Some place) (ids true other)
with_place ids true name place false other = ids false other
with_place ids false name place true other = ids true other
with_place ids false name place false other =
    cond (bytes_eq name other) (Some place) (ids false other)

-- a definition of this kind and name stands at this place, before the place i
pub record IsPlace (types : List TypeDef) (i : ℕ) (is_type : Bool) (name : Text) (place : ℕ)
    : Type 0 where
  pub definition : TypeDef
  pub before_it : place < i
  pub stands : slice_get types place ≡ Some definition
  pub kind : definition.is_type ≡ is_type
  pub named : definition.name ≡ name

-- each of the first i definitions has its place, and no others are noted
pub record ArePlaced (types : List TypeDef) (i : ℕ) (ids : PlaceIds) : Type 0 where
  pub each : (k : ℕ) (d : TypeDef) → k < i → slice_get types k ≡ Some d
      → ids d.is_type d.name ≡ Some k
  pub only : (is_type : Bool) (name : Text) (place : ℕ) → ids is_type name ≡ Some place
      → IsPlace types i is_type name place
