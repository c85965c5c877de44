-- How operations are spelled: in generic form, or in a form of their own.
--
--   ops     = op*
--   op      = (list1(result) `=`)? (generic | custom)
--   result  = ValueName (`:` Integer)?
--   generic = Str `(` list(use) `)` (`[` list1(BlockName) `]`)? (`<` dict `>`)?
--             (`(` list1(region) `)`)? dict? `:` `(` list(type) `)` `->` outs
--   use     = ValueName ResultNumber?
--
-- Which custom forms there are isn't said here: rules in which operations stand take them as a
-- parameter. An operation in the custom form of a terminator is the last of its `ops`.
--
--   Customs      the custom forms of a module's operations
--   ops cs       operations, each in generic form or in one of these
use Rattle.std.specs.Prelude.{ℕ, false, List, [], ◌∷◌, Option}
use Rattle.generic_syntax.specs.declared.cst.EntryCst.{EntryCst}
use Rattle.generic_syntax.specs.declared.cst.NameCst.{NameCst}
use Rattle.generic_syntax.specs.declared.cst.ValueCst.{ValueCst}
use Rattle.generic_syntax.specs.declared.module_cst.FormCst.{FormCst}
use Rattle.generic_syntax.specs.declared.module_cst.FormCst.TheVariants as form
use Rattle.generic_syntax.specs.declared.module_cst.GenericCst.{GenericCst, roll-GenericCst}
use Rattle.generic_syntax.specs.declared.module_cst.NumberCst.{NumberCst}
use Rattle.generic_syntax.specs.declared.module_cst.OpCst.{OpCst, roll-OpCst}
use Rattle.generic_syntax.specs.declared.module_cst.RegionCst.{RegionCst}
use Rattle.generic_syntax.specs.declared.module_cst.ResultCst.{ResultCst}
use Rattle.generic_syntax.specs.declared.module_cst.UseCst.{UseCst}
use Rattle.generic_syntax.specs.ModuleForms.{OfModules, piece_of, inner_region, ◌then◌, or_none, list1, in_parens, in_angles, in_squares, sign_name}
use Rattle.generic_syntax.specs.Names.{name_of}
use Rattle.generic_syntax.specs.Pieces.{some_types, results, dictionary}
use Rattle.grammar.specs.Grammar.{tok, both, alt, chain, made, placed}
use Rattle.grammar.specs.Looks.{any_of}
use Rattle.grammar.specs.Rules.{punct, ◌>>◌, ◌<<◌, many, opt, list}
use Rattle.ir_lexer.specs.declared.class.Class.TheVariants as c
use Rattle.ir_lexer.specs.Names.{name_bytes, literal_bytes}
use Rattle.ir_lexer.specs.Spelling.{Text}
use Rattle.ir_lexer.specs.Tokens.{Token}

-- ---- names with numbers

-- the size of a pack, `2` of `%0:2`
unfoldable pub size_of : Token → NumberCst
size_of t = record { place = t.place; digits = t.text }

-- the number of a result, `#1` of `%0#1`, without its sign
unfoldable pub number_of : Token → NumberCst
number_of t = record { place = t.place; digits = name_bytes t.text }

-- the size of a pack, or none
abbrev pub pack : OfModules (Option NumberCst)
pack = opt (punct c.Colon >> tok false (any_of c.Integer) size_of)

-- a result, at the place of its name
abbrev pub result_at : ℕ → Text × Option NumberCst → ResultCst
result_at place x = record { place = place; name = x.0; pack = x.1 }

-- `%0` or `%0:2`
abbrev pub result_name : OfModules ResultCst
result_name = placed result_at (sign_name c.ValueName then pack)

-- `%0, %1:2 =`, or nothing
abbrev pub result_names : OfModules (List ResultCst)
result_names = or_none (list1 result_name << punct c.Equal)

-- the number of a result, or none
abbrev pub use_number : OfModules (Option NumberCst)
use_number = opt (tok false (any_of c.ResultNumber) number_of)

-- a use, at the place of its name
abbrev pub use_at : ℕ → Text × Option NumberCst → UseCst
use_at place x = record { place = place; name = x.0; number = x.1 }

-- `%0` or `%0#1`
abbrev pub operand : OfModules UseCst
operand = placed use_at (sign_name c.ValueName then use_number)

-- ---- the generic form

-- `(%0, %1#1)`
abbrev pub operands : OfModules (List UseCst)
operands = in_parens (list operand)

-- `^a`
abbrev pub block_name : OfModules NameCst
block_name = tok false (any_of c.BlockName) name_of

-- `[^a, ^b]`, or nothing
abbrev pub successors : OfModules (List NameCst)
successors = or_none (in_squares (list1 block_name))

-- `<{a = 1}>`, or nothing
abbrev pub properties : OfModules (List EntryCst)
properties = or_none (in_angles (piece_of dictionary))

-- `({}, {})`, or nothing
abbrev pub regions : OfModules (List RegionCst)
regions = or_none (in_parens (list1 inner_region))

-- `{a = 1}`, or nothing
abbrev pub attributes : OfModules (List EntryCst)
attributes = or_none (piece_of dictionary)

-- `: (i8) -> i1`
abbrev pub signature : OfModules (List ValueCst × List ValueCst)
signature = punct c.Colon >> piece_of some_types then (punct c.Arrow >> piece_of results)

-- the bytes of a string
abbrev pub string_name : OfModules Text
string_name = tok false (any_of c.Str) (λ t. literal_bytes t.text)

-- what a generic form consists of, in its order
abbrev pub GenericParts : Type 0
GenericParts =
    Text × (List UseCst × (List NameCst × (List EntryCst × (List RegionCst × (List EntryCst
    × (List ValueCst × List ValueCst))))))

-- a generic form, by these
abbrev pub generic_of : GenericParts → GenericCst
generic_of (name, (uses, (targets, (props, (regions, (attrs, types)))))) =
    roll-GenericCst (record {
      name = name;
      operands = uses;
      successors = targets;
      props = props;
      regions = regions;
      attrs = attrs;
      inputs = types.0;
      outputs = types.1;
    })

-- `"d.op"(%0)[^a] <{b = 1}> ({}) {c = 2} : (i8) -> i1`
abbrev pub generic : OfModules GenericCst
generic =
    made generic_of
    (string_name then operands then successors then properties then regions then attributes
    then signature)

-- ---- operations

-- the form of an operation, and the place of its name
abbrev pub Formed : Type 0
Formed = ℕ × FormCst

-- a generic form, at the place of its name
abbrev pub formed_at : ℕ → GenericCst → Formed
formed_at place g = (place, form.Generic g)

-- an operation in generic form, without its results
abbrev pub generic_form : OfModules Formed
generic_form = placed formed_at generic

-- The custom forms of a module's operations, each of which begins with the name that has it.
pub record Customs : Type 1 where
  -- of operations that may stand anywhere
  pub anywhere : List (OfModules Formed)
  -- of terminators, which stand last among operations
  pub last : List (OfModules Formed)

-- no operation has a custom form
abbrev pub no_customs : Customs
no_customs = record { anywhere = []; last = [] }

-- one of these forms, or the generic one
abbrev pub form_of : List (OfModules Formed) → OfModules Formed
form_of [] = generic_form
form_of (g ∷ gs) = alt g (form_of gs)

-- one of some forms
abbrev pub one_form : OfModules Formed → List (OfModules Formed) → OfModules Formed
one_form g [] = g
one_form g (h ∷ hs) = alt g (one_form h hs)

-- an operation, at the place of its name
unfoldable pub op_of : List ResultCst → Formed → OpCst
op_of rs f = roll-OpCst (record { place = f.0; results = rs; form = f.1 })

-- an operation that may stand anywhere
abbrev pub op_with : List (OfModules Formed) → OfModules OpCst
op_with gs = both op_of result_names (form_of gs)

-- Operations in the forms of the first list, or in generic form. One in a form of the second list
-- ends them.
abbrev pub ops_with : List (OfModules Formed) → List (OfModules Formed) → OfModules (List OpCst)
ops_with gs [] = many (op_with gs)
ops_with gs (l ∷ ls) = chain (λ os. os) op_of op_of result_names (form_of gs) (one_form l ls)

-- operations, each in generic form or in one of these custom forms
abbrev pub ops : Customs → OfModules (List OpCst)
ops cs = ops_with cs.anywhere cs.last
