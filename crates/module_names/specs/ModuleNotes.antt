-- What the tree of a module says of names, region by region.
--
-- Aliases come first, each with the mentions in its own value before its definition. Then come the
-- operations, in order. Of an operation there come its results, then what its form says itself,
-- which is uses, successors and mentions of aliases, and then its regions. Of a region there come
-- its blocks, each with its number from 0: its label, its arguments with the mentions in their
-- types, and its operations.
--
--   module_notes tree             what a module says
--   alias_noted a                 what the definition of an alias says
--   op_notes o, ops_notes os      what an operation says, and operations
--   form_notes f                  what stands behind the names of an operation's results says
--   PartNotes, part_notes p       what a part of a custom form says itself, and its regions
--   region_notes r                what a region says, as one whole
--   block_notes b n, blocks_notes bs
--                                 what the block with the number n says, and blocks from 0
--   result_noted, use_noted, successor_noted, argument_noted, label_noted
--                                 what single names say
use Rattle.std.specs.Prelude.{ℕ, suc, List, [], ◌∷◌, map}
use Rattle.std.specs.declared.option.Option.{Option}
use Rattle.std.specs.declared.option.Option.TheVariants.{Some, None}
use Rattle.generic_syntax.specs.declared.cst.NameCst.{NameCst}
use Rattle.generic_syntax.specs.declared.module_cst.AliasCst.{AliasCst}
use Rattle.generic_syntax.specs.declared.module_cst.ArgCst.{ArgCst}
use Rattle.generic_syntax.specs.declared.module_cst.BlockCst.{BlockCst, fold-BlockCst}
use Rattle.generic_syntax.specs.declared.module_cst.CustomCst.{CustomCst, fold-CustomCst}
use Rattle.generic_syntax.specs.declared.module_cst.FormCst.{FormCst, fold-FormCst}
use Rattle.generic_syntax.specs.declared.module_cst.FormCst.TheOpen.{FormCst-F, PartCst-F}
use Rattle.generic_syntax.specs.declared.module_cst.FormCst.TheOpen.{BlockCst-F, CustomCst-F}
use Rattle.generic_syntax.specs.declared.module_cst.FormCst.TheOpen.{GenericCst-F, OpCst-F}
use Rattle.generic_syntax.specs.declared.module_cst.FormCst.TheOpen.{RegionCst-F}
use Rattle.generic_syntax.specs.declared.module_cst.GenericCst.{GenericCst, fold-GenericCst}
use Rattle.generic_syntax.specs.declared.module_cst.ModuleCst.{ModuleCst}
use Rattle.generic_syntax.specs.declared.module_cst.NumberCst.{NumberCst}
use Rattle.generic_syntax.specs.declared.module_cst.OpCst.{OpCst, fold-OpCst}
use Rattle.generic_syntax.specs.declared.module_cst.PartCst.{PartCst, fold-PartCst}
use Rattle.generic_syntax.specs.declared.module_cst.RegionCst.{RegionCst, fold-RegionCst}
use Rattle.generic_syntax.specs.declared.module_cst.ResultCst.{ResultCst}
use Rattle.generic_syntax.specs.declared.module_cst.UseCst.{UseCst}
use Rattle.symbol_scopes.specs.Regions.{Notes, no_notes, in_region}
use Rattle.symbol_scopes.specs.Regions as say
use Rattle.module_names.specs.Mentions.{value_mentions, maybe_mentions, entry_mentions}
use Rattle.module_names.specs.Numbers.{use_number, number_place, pack_size, pack_count}
use Rattle.module_names.specs.Said.{joined, all_joined, noted, one}

-- ---- single names

-- a use, of the number 0 where none is written
abbrev pub use_noted : UseCst → Notes
use_noted u = one (say.uses (record {
  name = u.name;
  place = u.place;
  number = use_number u.number;
  number_place = number_place u.place u.number;
}))

-- a successor
abbrev pub successor_noted : NameCst → Notes
successor_noted s = one (say.leads_to (record { name = s.name; place = s.place }))

-- a size that is wrong, at this place
abbrev pub wrong_size : ℕ → Option ℕ → Notes
wrong_size place (Some n) = no_notes
wrong_size place None = one (say.bad_pack place)

-- the size of a pack, where it is wrong
abbrev pub size_noted : Option NumberCst → Notes
size_noted None = no_notes
size_noted (Some n) = wrong_size n.place (pack_size n.digits)

-- a result, or a pack of them
abbrev pub result_noted : ResultCst → Notes
result_noted r = joined (size_noted r.pack) (one (say.defines
    (record { name = r.name; place = r.place; count = pack_count r.pack })))

-- an argument of a block: its name, and the mentions in its type
abbrev pub argument_noted : ArgCst → Notes
argument_noted a = joined
    (one (say.defines (record { name = a.name; place = a.place; count = 1 })))
    (value_mentions a.ty)

-- the label of the block with this number, which may have none
abbrev pub label_noted : Option NameCst → ℕ → Notes
label_noted None n = no_notes
label_noted (Some l) n =
    one (say.labels (record { name = l.name; place = l.place; block = n }))

-- the definition of an alias, behind the mentions in its value
abbrev pub alias_noted : AliasCst → Notes
alias_noted a = joined (value_mentions a.value) (one (say.defines_alias
    (record { is_type = a.is_type; name = a.name; place = a.place })))

-- ---- one level of a tree, by what each level below says

-- what a part of a custom form says itself, and what its regions say
pub record PartNotes : Type 0 where
  pub own : Notes
  pub regions : Notes

-- a part without regions
abbrev pub own_alone : Notes → PartNotes
own_alone ns = record { own = ns; regions = no_notes }

-- what parts say themselves, and what their regions say
abbrev pub own_of : List PartNotes → Notes
own_of ps = noted (λ p. p.own) ps

abbrev pub regions_of : List PartNotes → Notes
regions_of ps = noted (λ p. p.regions) ps

-- blocks, the first of which has this number
abbrev pub in_order : ℕ → List (ℕ → Notes) → Notes
in_order n [] = no_notes
in_order n (b ∷ bs) = joined (b n) (in_order (suc n) bs)

-- a part of a custom form
abbrev pub part_layer
    : PartCst-F Notes PartNotes (ℕ → Notes) Notes Notes Notes Notes → PartNotes
part_layer (PartCst-F.Uses us) = own_alone (noted use_noted us)
part_layer (PartCst-F.Value v) = own_alone (maybe_mentions v)
part_layer (PartCst-F.Region r) = record { own = no_notes; regions = r }
part_layer (PartCst-F.Successor s) = own_alone (successor_noted s)
part_layer (PartCst-F.Types types) = own_alone (noted value_mentions types)
part_layer (PartCst-F.Functional inputs outputs) =
    own_alone (joined (noted value_mentions inputs) (noted value_mentions outputs))
part_layer (PartCst-F.Dict entries) = own_alone (noted entry_mentions entries)
part_layer (PartCst-F.Group taken ps) = record { own = own_of ps; regions = regions_of ps }
part_layer _ = own_alone no_notes

-- a custom form: what its parts say themselves, and then their regions
abbrev pub custom_layer
    : CustomCst-F Notes PartNotes (ℕ → Notes) Notes Notes Notes Notes → Notes
custom_layer c = joined (own_of c.parts) (regions_of c.parts)

-- a generic form: operands, successors, properties, the dictionary, the types of operands and
-- results, and then the regions
abbrev pub generic_layer
    : GenericCst-F Notes PartNotes (ℕ → Notes) Notes Notes Notes Notes → Notes
generic_layer g =
    joined (noted use_noted g.operands) (joined (noted successor_noted g.successors)
    (joined (noted entry_mentions g.props) (joined (noted entry_mentions g.attrs)
    (joined (noted value_mentions g.inputs) (joined (noted value_mentions g.outputs)
    (all_joined g.regions))))))

-- a form
abbrev pub form_layer : FormCst-F Notes PartNotes (ℕ → Notes) Notes Notes Notes Notes → Notes
form_layer (FormCst-F.Generic g) = g
form_layer (FormCst-F.Custom c) = c

-- an operation: its results, and then its form
abbrev pub op_layer : OpCst-F Notes PartNotes (ℕ → Notes) Notes Notes Notes Notes → Notes
op_layer o = joined (noted result_noted o.results) o.form

-- a block with its number: its label, its arguments, and then its operations
abbrev pub block_layer
    : BlockCst-F Notes PartNotes (ℕ → Notes) Notes Notes Notes Notes → ℕ → Notes
block_layer b n =
    joined (label_noted b.label n) (joined (noted argument_noted b.args) (all_joined b.ops))

-- a region: its blocks, the first of which has the number 0
abbrev pub region_layer
    : RegionCst-F Notes PartNotes (ℕ → Notes) Notes Notes Notes Notes → Notes
region_layer r = in_region (in_order 0 r.blocks) no_notes

-- ---- trees

unfoldable pub op_notes : OpCst → Notes
op_notes = fold-OpCst Notes PartNotes (ℕ → Notes) Notes Notes Notes Notes
    form_layer part_layer block_layer custom_layer generic_layer op_layer region_layer

unfoldable pub form_notes : FormCst → Notes
form_notes = fold-FormCst Notes PartNotes (ℕ → Notes) Notes Notes Notes Notes
    form_layer part_layer block_layer custom_layer generic_layer op_layer region_layer

unfoldable pub part_notes : PartCst → PartNotes
part_notes = fold-PartCst Notes PartNotes (ℕ → Notes) Notes Notes Notes Notes
    form_layer part_layer block_layer custom_layer generic_layer op_layer region_layer

unfoldable pub custom_notes : CustomCst → Notes
custom_notes = fold-CustomCst Notes PartNotes (ℕ → Notes) Notes Notes Notes Notes
    form_layer part_layer block_layer custom_layer generic_layer op_layer region_layer

unfoldable pub generic_notes : GenericCst → Notes
generic_notes = fold-GenericCst Notes PartNotes (ℕ → Notes) Notes Notes Notes Notes
    form_layer part_layer block_layer custom_layer generic_layer op_layer region_layer

unfoldable pub region_notes : RegionCst → Notes
region_notes = fold-RegionCst Notes PartNotes (ℕ → Notes) Notes Notes Notes Notes
    form_layer part_layer block_layer custom_layer generic_layer op_layer region_layer

unfoldable pub block_notes : BlockCst → ℕ → Notes
block_notes = fold-BlockCst Notes PartNotes (ℕ → Notes) Notes Notes Notes Notes
    form_layer part_layer block_layer custom_layer generic_layer op_layer region_layer

-- what a part says itself, and what its regions say
abbrev pub part_own : PartCst → Notes
part_own p = (part_notes p).own

abbrev pub part_regions : PartCst → Notes
part_regions p = (part_notes p).regions

-- operations in order
abbrev pub ops_notes : List OpCst → Notes
ops_notes ops = noted op_notes ops

-- the blocks of a region
abbrev pub blocks_notes : List BlockCst → Notes
blocks_notes bs = in_order 0 (map block_notes bs)

-- a module: its aliases, and then its operations
abbrev pub module_notes : ModuleCst → Notes
module_notes tree = joined (noted alias_noted tree.aliases) (ops_notes tree.ops)
