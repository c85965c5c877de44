-- What the view of an operation shows, whether or not the operation stands in a module.
--
-- Types and attributes are ids of a table of values, which is `values` throughout.
--
--   view_attrs values op       the attributes
--   listed_regions ..          regions of some numbers of blocks, whose arguments are listed
--   HasFront values regions rs     the regions have the fronts of rs
--   IsShown values op o        o is what the view shows, but for blocks behind the first ones
--   AreKnownRegions len regions    the types of blocks' arguments are in a table of len values
--   IsKnownView len op         types and attributes are in such a table, and keys ascend
use Rattle.std.specs.Prelude.{◌≡◌, ◌<◌, ℕ, List, length, map, sum}
use Rattle.std.specs.List.{AllByRecursion}
use Rattle.std.specs.Option.{ForSome}
use Rattle.attr_value.specs.declared.head.ValueId.{ValueId}
use Rattle.attr_value.specs.Heads.{Ascend}
use Rattle.attr_value.specs.Ids.{AreKnown}
use Rattle.attr_value.specs.Values.{Value}
use Rattle.dialect_defs.specs.Operations.{Attrs, Operation, attr_at}
use Rattle.dialect_defs.specs.Segments.{parts}
use Rattle.ir_store.specs.Modules.{types_in}
use Rattle.ir_store.specs.Named.{op_at}
use Rattle.ir_store.specs.Numbering.{ops_in}
use Rattle.op_verifier.specs.declared.view.OpView.{OpView}
use Rattle.op_verifier.specs.declared.view.OpRegions.{OpRegions}
use Rattle.op_verifier.specs.declared.view.OpRegions.TheVariants.{Listed, Stored}
use Rattle.op_verifier.specs.Meets.{SameFronts}
use Rattle.op_verifier.specs.Seen.{attrs_seen, regions_seen, values_at}
use Rattle.op_verifier.specs.Types.{ids_of}

-- the attributes, each key with its value
abbrev pub view_attrs : List Value → OpView → Attrs
view_attrs values op = attrs_seen values op.keys.now op.values.now

-- regions of these numbers of blocks, which have arguments of these types
abbrev pub listed_regions : List Value → List ℕ → List (List ValueId) → List (List (List Value))
listed_regions values counts args = parts counts (map (values_at values) args)

-- there are as many regions, each with as many blocks and the same arguments of the first
abbrev pub HasFront : List Value → OpRegions → List (List (List Value)) → Type 0
HasFront values (Listed counts args) rs =
    SameFronts rs (listed_regions values counts.now args.now)
HasFront values (Stored store op) rs =
    ForSome (op_at store.now op) (λ x. SameFronts rs (regions_seen values x.regions))

-- The operation is what the view shows: each key has the same attribute, and of each region the
-- number of blocks and the first one's arguments are the same.
pub record IsShown (values : List Value) (op : OpView) (o : Operation) : Type 0 where
  pub operands : o.operands ≡ values_at values (ids_of op.operands)
  pub results : o.results ≡ values_at values op.results.now
  pub successors : o.successors ≡ op.successors
  pub attrs : (key : List ℕ) → attr_at o.attrs key ≡ attr_at (view_attrs values op) key
  pub regions : HasFront values op.regions o.regions

-- The types of the arguments are in a table of so many values. Listed ones are those of as many
-- blocks as there are; stored ones are of an operation of the module.
abbrev pub AreKnownRegions : ℕ → OpRegions → Type 0
AreKnownRegions len (Listed counts args) =
    AllByRecursion (AreKnown len) args.now × (sum counts.now ≡ length args.now)
AreKnownRegions len (Stored store op) =
    AreKnown len (types_in store.now) × (op.0 < length (ops_in store.now))

-- Types and attributes are in a table of so many values. Keys strictly ascend, each with a value.
pub record IsKnownView (len : ℕ) (op : OpView) : Type 0 where
  pub operands : AreKnown len (ids_of op.operands)
  pub results : AreKnown len op.results.now
  pub ascend : Ascend op.keys.now
  pub counts : length op.values.now ≡ length op.keys.now
  pub values : AreKnown len op.values.now
  pub regions : AreKnownRegions len op.regions
