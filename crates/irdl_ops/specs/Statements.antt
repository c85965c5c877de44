-- The statements of a definition's body.
--
--   named      = ValueName `=` (expr | region)
--   region     = `irdl.region` (`(` list(ValueName) `)`)? (`with` `size` Integer)?
--   parameters = `irdl.parameters` `(` list(named_entry) `)`
--   operands   = `irdl.operands` `(` list(entry) `)`
--   results    = `irdl.results` `(` list(entry) `)`
--   attributes = `irdl.attributes` `{` list(attr_entry) `}`
--   regions    = `irdl.regions` `(` list(named_entry) `)`
--   successors = `irdl_opt.successors` `(` list(Word) `)`
--   terminator = `irdl_opt.terminator`
--   format     = `irdl_opt.format` Str
--
-- A body of a type or an attribute has no regions, and of the other statements parameters alone. A
-- size has 32 bits. The place of a statement is that of its first token.
use Rattle.std.specs.Prelude.{ℕ, ◌^◌, ◌-◌, false, List, Option, codes}
use Rattle.ir_lexer.specs.declared.class.Class.TheVariants.{Equal}
use Rattle.grammar.specs.Grammar.{tok, both, alt, made, placed}
use Rattle.grammar.specs.Looks.{number_to, number_in}
use Rattle.grammar.specs.Rules.{punct, keyword, ◌>>◌, opt, list}
use Rattle.generic_syntax.specs.declared.cst.NameCst.{NameCst}
use Rattle.irdl_ops.specs.declared.raw.RawExpr.{RawExpr}
use Rattle.irdl_ops.specs.declared.raw.RawStatement.{RawStatement}
use Rattle.irdl_ops.specs.declared.raw.StatementKind.{StatementKind}
use Rattle.irdl_ops.specs.declared.raw.StatementKind.TheVariants as kind
use Rattle.irdl_ops.specs.Constraints.{expr}
use Rattle.irdl_ops.specs.Entries.{variable, variables, plain_name, string, named_entry, entry, attr_entry}
use Rattle.irdl_ops.specs.Forms.{OfDefs, in_parens, in_braces}

-- a statement of this kind at this place
abbrev pub statement : ℕ → StatementKind → RawStatement
statement place kind = record { place = place; kind = kind }

-- ---- statements that define a value name

-- a constraint of this name
abbrev pub constraint_of : NameCst → RawExpr → RawStatement
constraint_of name e = statement name.place (kind.Constraint name e)

-- `%0 = irdl.any`
abbrev pub constraint : OfDefs RawStatement
constraint = both constraint_of variable (punct Equal >> expr)

-- the number of blocks
abbrev pub size : OfDefs ℕ
size =
    keyword (codes "with") >> keyword (codes "size")
    >> tok false (number_to (2 ^ 32 - 1)) (λ t. number_in t.text)

-- what a region's arguments and its size are, where they are written
abbrev pub Shape : Type 0
Shape = Option (List NameCst) × Option ℕ

-- `irdl.region(%0) with size 1`
abbrev pub region : OfDefs Shape
region =
    keyword (codes "irdl.region")
    >> both (λ args n. (args, n)) (opt (in_parens variables)) (opt size)

-- a region of this name
abbrev pub region_of : Shape → NameCst → RawStatement
region_of shape name = statement name.place (kind.Region name shape.0 shape.1)

-- `%0 = irdl.any` or `%0 = irdl.region`
abbrev pub named : OfDefs RawStatement
named =
    both (λ name meant. meant name) variable
    (punct Equal >> alt (made region_of region) (made (λ e name. constraint_of name e) expr))

-- ---- statements that begin with a word

-- `irdl.parameters(..)`
abbrev pub parameters : OfDefs RawStatement
parameters = placed (λ place es. statement place (kind.Parameters es))
    (keyword (codes "irdl.parameters") >> in_parens (list named_entry))

-- `irdl.operands(..)`
abbrev pub operands : OfDefs RawStatement
operands = placed (λ place es. statement place (kind.Operands es))
    (keyword (codes "irdl.operands") >> in_parens (list entry))

-- `irdl.results(..)`
abbrev pub results : OfDefs RawStatement
results = placed (λ place es. statement place (kind.Results es))
    (keyword (codes "irdl.results") >> in_parens (list entry))

-- `irdl.attributes {..}`
abbrev pub attributes : OfDefs RawStatement
attributes = placed (λ place es. statement place (kind.Attributes es))
    (keyword (codes "irdl.attributes") >> in_braces (list attr_entry))

-- `irdl.regions(..)`
abbrev pub regions : OfDefs RawStatement
regions = placed (λ place es. statement place (kind.Regions es))
    (keyword (codes "irdl.regions") >> in_parens (list named_entry))

-- `irdl_opt.successors(..)`
abbrev pub successors : OfDefs RawStatement
successors = placed (λ place names. statement place (kind.Successors names))
    (keyword (codes "irdl_opt.successors") >> in_parens (list plain_name))

-- `irdl_opt.terminator`
abbrev pub terminator : OfDefs RawStatement
terminator =
    placed (λ place _. statement place kind.Terminator) (keyword (codes "irdl_opt.terminator"))

-- `irdl_opt.format ".."`
abbrev pub format : OfDefs RawStatement
format = placed (λ place s. statement place (kind.Format s))
    (keyword (codes "irdl_opt.format") >> string)

-- ---- bodies

-- a statement of a type or an attribute
abbrev pub type_statement : OfDefs RawStatement
type_statement = alt constraint parameters

-- a statement of an operation
abbrev pub op_statement : OfDefs RawStatement
op_statement =
    alt named
    (alt operands
    (alt results
    (alt attributes (alt regions (alt successors (alt terminator format))))))
