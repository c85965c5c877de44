-- How modules are spelled.
--
--   file   = alias* ops
--   alias  = TypeName `=` type | AttrName `=` attr       (names without a dot)
--   region = `{` ops block* `}`
--   block  = BlockName (`(` list(ValueName `:` type) `)`)? `:` ops
--
-- Behind a file stands the end of the text. Operations stand in `Operations`, and the custom forms
-- that they may have are a parameter of each rule. Operations before the first label of a region
-- are a block without a label; where there are none, there is no such block.
--
--   region cs   a region, whose operations have these custom forms
--   file cs     a module, whose operations have these custom forms
use Rattle.std.specs.Prelude.{ℕ, Bool, true, false, List, [], ◌∷◌, ◌++◌, Some, None}
use Rattle.generic_syntax.specs.declared.cst.NameCst.{NameCst}
use Rattle.generic_syntax.specs.declared.cst.ValueCst.{ValueCst}
use Rattle.generic_syntax.specs.declared.module_cst.AliasCst.{AliasCst}
use Rattle.generic_syntax.specs.declared.module_cst.ArgCst.{ArgCst}
use Rattle.generic_syntax.specs.declared.module_cst.BlockCst.{BlockCst, roll-BlockCst}
use Rattle.generic_syntax.specs.declared.module_cst.ModuleCst.{ModuleCst}
use Rattle.generic_syntax.specs.declared.module_cst.OpCst.{OpCst}
use Rattle.generic_syntax.specs.declared.module_cst.RegionCst.{RegionCst, roll-RegionCst}
use Rattle.generic_syntax.specs.ModuleForms.{OfModules, piece_of, ◌then◌, or_none, in_parens, in_braces, sign_name}
use Rattle.generic_syntax.specs.Operations.{Customs, ops, block_name}
use Rattle.generic_syntax.specs.Pieces.{one_type, one_attr}
use Rattle.grammar.specs.Grammar.{tok, both, alt, placed}
use Rattle.grammar.specs.Looks.{undotted}
use Rattle.grammar.specs.Rules.{punct, ◌>>◌, many, list}
use Rattle.ir_lexer.specs.declared.class.Class.{Class}
use Rattle.ir_lexer.specs.declared.class.Class.TheVariants as c
use Rattle.ir_lexer.specs.Names.{name_bytes}
use Rattle.ir_lexer.specs.Spelling.{Text}

-- ---- blocks and regions

-- an argument, at the place of its name
abbrev pub argument_at : ℕ → Text × ValueCst → ArgCst
argument_at place x = record { place = place; name = x.0; ty = x.1 }

-- `%0 : i8`
abbrev pub argument : OfModules ArgCst
argument = placed argument_at (sign_name c.ValueName then (punct c.Colon >> piece_of one_type))

-- `(%0 : i8, %1 : i1)`, or nothing
abbrev pub block_arguments : OfModules (List ArgCst)
block_arguments = or_none (in_parens (list argument))

-- a block with a label
unfoldable pub labelled : NameCst → List ArgCst × List OpCst → BlockCst
labelled name x = roll-BlockCst (record { label = Some name; args = x.0; ops = x.1 })

-- `^a(%0 : i8): ..`
abbrev pub block : Customs → OfModules BlockCst
block cs = both labelled block_name (block_arguments then (punct c.Colon >> ops cs))

-- the block of the operations before the first label, or none
unfoldable pub unlabelled : List OpCst → List BlockCst
unlabelled [] = []
unlabelled (o ∷ os) = roll-BlockCst (record { label = None; args = []; ops = o ∷ os }) ∷ []

-- operations before the first label, and then blocks with labels
abbrev pub blocks : Customs → OfModules (List BlockCst)
blocks cs = both (λ os bs. unlabelled os ++ bs) (ops cs) (many (block cs))

-- a region, at the place of its bracket
unfoldable pub region_at : ℕ → List BlockCst → RegionCst
region_at place bs = roll-RegionCst (record { place = place; blocks = bs })

-- `{ .. ^a: .. }`
abbrev pub region : Customs → OfModules RegionCst
region cs = placed region_at (in_braces (blocks cs))

-- ---- files

-- the name of an alias, in which no dot stands
abbrev pub alias_name : Class → OfModules Text
alias_name class = tok false (undotted class) (λ t. name_bytes t.text)

-- an alias, at the place of its name
abbrev pub alias_at : Bool → ℕ → Text × ValueCst → AliasCst
alias_at is_type place x =
    record { place = place; is_type = is_type; name = x.0; value = x.1 }

-- `!a = i8`
abbrev pub type_alias : OfModules AliasCst
type_alias =
    placed (alias_at true) (alias_name c.TypeName then (punct c.Equal >> piece_of one_type))

-- `#a = 5`
abbrev pub attr_alias : OfModules AliasCst
attr_alias =
    placed (alias_at false) (alias_name c.AttrName then (punct c.Equal >> piece_of one_attr))

-- the definition of an alias
abbrev pub alias : OfModules AliasCst
alias = alt type_alias attr_alias

-- the aliases of a module
abbrev pub aliases : OfModules (List AliasCst)
aliases = many alias

-- a module, by its aliases and its operations
abbrev pub module_of : List AliasCst → List OpCst → ModuleCst
module_of as_ os = record { aliases = as_; ops = os }

-- a module has any number of aliases, and then any number of operations
abbrev pub file : Customs → OfModules ModuleCst
file cs = both module_of aliases (ops cs)
