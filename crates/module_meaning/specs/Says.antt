-- When an operation is what facts say of it, apart from what its uses and successors mean.
--
-- An operation is taken as its definition sees it, and cut into segments of some sizes. Each fact
-- speaks of the part that it tells of; and the facts cover the operation, so that no part of it is
-- left open by a tree that tells nothing of it.
--
--   number_value kind item      the value of a number that is shown without its type
--   keys_in entries             the keys of a dictionary, in order
--   seen_in aliases entries     each key with the value that its tree spells
--   argument_types aliases r    the types of the arguments of each block of a region's tree
--   Says .. o fact              the operation is what a fact says
--   IsToldKey hides facts key   a key that the dictionary may not have belongs to what is told
--   Covers d hides facts o      the facts tell of all that the operation has
--   HasSizes hidden attrs ..    an attribute of sizes that a form hides is the list of the sizes
--   Shows .. o ..               the operation is what all facts together say
--   ShowsGeneric aliases g o    the same of the generic form, said without facts
use Rattle.std.specs.Prelude.{◌≡◌, ◌<◌, ◌⊎◌, ℕ, Bool, true, false, List, ◌++◌, map, length}
use Rattle.std.specs.Prelude.{pos}
use Rattle.std.specs.Prelude.{bytes_eq, slice_get, IsSomeAnd, option_map}
use Rattle.std.specs.List.{AllByRecursion, IsDistinct}
use Rattle.std.specs.declared.option.Option.{Option}
use Rattle.std.specs.declared.option.Option.TheVariants.{Some}
use Rattle.attr_value.specs.declared.head.Head.TheVariants as h
use Rattle.attr_value.specs.declared.kind.IntKind.{IntKind}
use Rattle.attr_value.specs.declared.kind.IntKind.TheVariants.{Signless}
use Rattle.attr_value.specs.Numbers.{IsKept}
use Rattle.attr_value.specs.Values.{Value}
use Rattle.dialect_defs.specs.declared.definition.OpDef.{OpDef}
use Rattle.dialect_defs.specs.declared.entry.Entry.{Entry}
use Rattle.dialect_defs.specs.Operations.{Operation, Attrs, attr_at}
use Rattle.dialect_defs.specs.Operations.{operand_sizes_key, result_sizes_key}
use Rattle.dialect_defs.specs.Segments.{parts, is_single}
use Rattle.generic_syntax.specs.declared.cst.EntryCst.{EntryCst, out-EntryCst}
use Rattle.generic_syntax.specs.declared.cst.ItemCst.{ItemCst}
use Rattle.generic_syntax.specs.declared.cst.ValueCst.{ValueCst}
use Rattle.generic_syntax.specs.declared.module_cst.ArgCst.{ArgCst}
use Rattle.generic_syntax.specs.declared.module_cst.BlockCst.{out-BlockCst}
use Rattle.generic_syntax.specs.declared.module_cst.GenericCst.{GenericCst, out-GenericCst}
use Rattle.generic_syntax.specs.declared.module_cst.RegionCst.{RegionCst, out-RegionCst}
use Rattle.grammar.specs.Looks.{is_among}
use Rattle.ir_lexer.specs.Spelling.{Text}
use Rattle.module_meaning.specs.Facts.{Fact, uses_are, all_uses_are, types_are, attr_is, unit_is}
use Rattle.module_meaning.specs.Facts.{string_is, number_is, region_is, successor_is, dict_is}
use Rattle.module_meaning.specs.Facts.{of_operand, of_result, all_operands, all_results, dict_in}
use Rattle.module_meaning.specs.Facts.{dict_topic, region_topic, successor_topic, operand_topic}
use Rattle.module_meaning.specs.Facts.{all_uses_topic, result_topic, attr_topic, tells, Hides}
use Rattle.value_meaning.specs.Meaning.{Aliases, value_of, entry_seen, leaf}
use Rattle.value_meaning.specs.Spelled.{number_head}

-- the value of a number of this type that is shown alone, where it may be written at the type
abbrev pub number_value : IntKind → ItemCst → Option Value
number_value kind item =
    option_map leaf (number_head item.negative item.spelling (Some (Some (leaf (h.Int kind)))))

-- the keys of entries, in order
abbrev pub keys_in : List EntryCst → List Text
keys_in entries = map (λ e. (out-EntryCst e).key) entries

-- the list of sizes as an attribute: a dense array of 32 bits
abbrev pub sizes_value : List ℕ → Value
sizes_value sizes = leaf (h.Dense 32 (map pos sizes))

-- The attribute of a key gives the sizes, where the form hides it. Each is a number of 32 bits.
abbrev pub HasSizes : Bool → Attrs → Text → List ℕ → Type 0
HasSizes false attrs key sizes = Unit {0}
HasSizes true attrs key sizes =
    (attr_at attrs key ≡ Some (sizes_value sizes))
    × AllByRecursion (λ n. IsKept (Signless 32) (pos n)) sizes

-- A key that the dictionary may not have is that of an attribute of which a fact tells, or it
-- gives sizes that the form hides.
abbrev pub IsToldKey : Hides → List Fact → Text → Type 0
IsToldKey hides facts key =
    (tells facts (attr_topic key) ≡ true)
    ⊎ (((hides.operand_sizes ≡ true) × (key ≡ operand_sizes_key))
    ⊎ ((hides.result_sizes ≡ true) × (key ≡ result_sizes_key)))

-- The facts tell of the dictionary, of each region and successor that the operation has, of each
-- attribute that the dictionary may not have, and of the uses: of all at once, or of each entry's.
-- Where the sizes of segments are hidden they tell of each operand entry, and of each result entry
-- that isn't single.
pub record Covers (d : OpDef) (hides : Hides) (facts : List Fact) (o : Operation) : Type 0 where
  pub dict : tells facts dict_topic ≡ true
  pub regions : (i : ℕ) → i < length o.regions → tells facts (region_topic i) ≡ true
  pub successors : (i : ℕ) → i < o.successors → tells facts (successor_topic i) ≡ true
  pub keys : (key : Text) → is_among hides.keys key ≡ true → IsToldKey hides facts key
  pub uses : (tells facts all_uses_topic ≡ true)
      ⊎ ((i : ℕ) → i < length d.operands → tells facts (operand_topic i) ≡ true)
  pub operands : hides.operand_sizes ≡ true → (i : ℕ) → i < length d.operands
      → tells facts (operand_topic i) ≡ true
  pub results : hides.result_sizes ≡ true → (i : ℕ) (entry : Entry)
      → slice_get d.results i ≡ Some entry → is_single entry.arity ≡ false
      → tells facts (result_topic i) ≡ true

module _ (aliases : Aliases) where
  -- each key with the value that its tree spells, if it spells one; without a tree it is the unit
  -- attribute
  abbrev pub seen_in : List EntryCst → List (Text × Option Value)
  seen_in entries = map (λ e. ((out-EntryCst e).key, (entry_seen aliases e).seen.value)) entries

  -- the types that the trees of arguments spell, for each block
  abbrev pub argument_types : RegionCst → List (List (Option Value))
  argument_types r =
      map (λ b. map (λ (x : ArgCst). value_of aliases x.ty) (out-BlockCst b).args)
      (out-RegionCst r).blocks

  -- the trees spell these types, one by one
  abbrev pub SpellTypes : List ValueCst → List Value → Type 0
  SpellTypes trees types = map (value_of aliases) trees ≡ map Some types

  -- What a fact says of an operation that is cut into segments of these sizes: how long a list of
  -- uses is, which types and which attribute a tree spells, what the arguments of a region's blocks
  -- are. It says that the entry, the region or the successor is there.
  abbrev pub Says : List ℕ → List ℕ → Operation → Fact → Type 0
  Says operand_sizes result_sizes o (uses_are i us) = slice_get operand_sizes i ≡ Some (length us)
  Says operand_sizes result_sizes o (all_uses_are us) = length us ≡ length o.operands
  Says operand_sizes result_sizes o (types_are (of_operand i) trees) =
      IsSomeAnd (slice_get (parts operand_sizes o.operands) i) (SpellTypes trees)
  Says operand_sizes result_sizes o (types_are (of_result i) trees) =
      IsSomeAnd (slice_get (parts result_sizes o.results) i) (SpellTypes trees)
  Says operand_sizes result_sizes o (types_are all_operands trees) = SpellTypes trees o.operands
  Says operand_sizes result_sizes o (types_are all_results trees) = SpellTypes trees o.results
  Says operand_sizes result_sizes o (attr_is key tree) =
      option_map (value_of aliases) tree ≡ option_map Some (attr_at o.attrs key)
  Says operand_sizes result_sizes o (unit_is key) = attr_at o.attrs key ≡ Some (leaf h.Unit)
  Says operand_sizes result_sizes o (string_is key name) =
      attr_at o.attrs key ≡ option_map (λ n. leaf (h.Str n.name)) name
  Says operand_sizes result_sizes o (number_is key kind item) =
      option_map (number_value kind) item ≡ option_map Some (attr_at o.attrs key)
  Says operand_sizes result_sizes o (region_is i r) =
      IsSomeAnd (slice_get o.regions i) (λ blocks. argument_types r ≡ map (map Some) blocks)
  Says operand_sizes result_sizes o (successor_is i s) = i < o.successors
  Says operand_sizes result_sizes o (dict_is entries) = Unit {0}

  -- The operation is what the facts say, and they cover it. Each attribute that the dictionary may
  -- have stands there with its value, or is absent in both; no key stands twice, and none that the
  -- dictionary may not have stands there. Sizes that the form hides are attributes too.
  pub record Shows (d : OpDef) (hides : Hides) (facts : List Fact) (o : Operation)
      (operand_sizes result_sizes : List ℕ) : Type 0 where
    pub said : AllByRecursion (Says operand_sizes result_sizes o) facts
    pub covers : Covers d hides facts o
    pub others : (key : Text) → is_among hides.keys key ≡ false
        → attr_at (seen_in (dict_in facts)) key ≡ option_map Some (attr_at o.attrs key)
    pub distinct : IsDistinct bytes_eq (keys_in (dict_in facts))
    pub free : AllByRecursion (λ key. is_among hides.keys key ≡ false) (keys_in (dict_in facts))
    pub operand_sizes_are : HasSizes hides.operand_sizes o.attrs operand_sizes_key operand_sizes
    pub result_sizes_are : HasSizes hides.result_sizes o.attrs result_sizes_key result_sizes

-- ---- the generic form

-- What the generic form shows of an operation, said without facts: as many uses as operands, the
-- types of all operands and results, each attribute in the properties or the dictionary, as many
-- successors, and the arguments of the blocks of each region.
pub record ShowsGeneric (aliases : Aliases) (g : GenericCst) (o : Operation) : Type 0 where
  pub uses : length (out-GenericCst g).operands ≡ length o.operands
  pub inputs : SpellTypes aliases (out-GenericCst g).inputs o.operands
  pub outputs : SpellTypes aliases (out-GenericCst g).outputs o.results
  pub attrs : (key : Text)
      → attr_at (seen_in aliases ((out-GenericCst g).props ++ (out-GenericCst g).attrs)) key
      ≡ option_map Some (attr_at o.attrs key)
  pub distinct : IsDistinct bytes_eq
      (keys_in ((out-GenericCst g).props ++ (out-GenericCst g).attrs))
  pub successors : length (out-GenericCst g).successors ≡ o.successors
  pub regions : map (argument_types aliases) (out-GenericCst g).regions
      ≡ map (map (map Some)) o.regions
