-- Constraints.
--
--   expr = `irdl.is` attr | `irdl.any` | `irdl.c_pred` Str
--        | `irdl.base` (reference | Str) | `irdl.parametric` reference `<` list(ValueName) `>`
--        | `irdl.any_of` `(` list1(ValueName) `)` | `irdl.all_of` `(` list1(ValueName) `)`
--   reference = SymbolName (`::` SymbolName)?
--
-- An attribute is a piece of the grammar of values, and stands at nesting 1.
use Rattle.std.specs.Prelude.{Option, Some, None, codes}
use Rattle.ir_lexer.specs.declared.class.Class.TheVariants.{ColonColon}
use Rattle.grammar.specs.Grammar.{both, alt, made, kid}
use Rattle.grammar.specs.Rules.{punct, keyword, ◌>>◌, opt}
use Rattle.generic_syntax.specs.declared.cst.NameCst.{NameCst}
use Rattle.generic_syntax.specs.Pieces.{one_attr}
use Rattle.irdl_ops.specs.declared.raw.RawExpr.{RawExpr}
use Rattle.irdl_ops.specs.declared.raw.RawExpr.TheVariants.{Is, Any, Pred, BaseRef, BaseName, Parametric, AnyOf, AllOf}
use Rattle.irdl_ops.specs.declared.raw.RawRef.{RawRef}
use Rattle.irdl_ops.specs.Forms.{OfDefs, in_parens, in_angles}
use Rattle.irdl_ops.specs.Entries.{variables, some_variables, symbol, string}

-- a reference by one name, or by a dialect's and then by its own
abbrev pub ref_of : NameCst → Option NameCst → RawRef
ref_of first None = record { place = first.place; dialect = None; name = first.name }
ref_of first (Some second) =
    record { place = first.place; dialect = Some first.name; name = second.name }

-- `@t` or `@d::@t`
abbrev pub reference : OfDefs RawRef
reference = both ref_of symbol (opt (punct ColonColon >> symbol))

-- `irdl.is i32`
abbrev pub is_expr : OfDefs RawExpr
is_expr = keyword (codes "irdl.is") >> made (λ v. Is v) (kid one_attr (λ v. v))

-- `irdl.any`
abbrev pub any_expr : OfDefs RawExpr
any_expr = made (λ _. Any) (keyword (codes "irdl.any"))

-- `irdl.c_pred ".."`
abbrev pub pred_expr : OfDefs RawExpr
pred_expr = keyword (codes "irdl.c_pred") >> made (λ s. Pred s) string

-- `irdl.base @d::@t` or `irdl.base "!builtin.integer"`
abbrev pub base_expr : OfDefs RawExpr
base_expr =
    keyword (codes "irdl.base")
    >> alt (made (λ r. BaseRef r) reference) (made (λ s. BaseName s) string)

-- `irdl.parametric @d::@t<%0>`
abbrev pub parametric_expr : OfDefs RawExpr
parametric_expr =
    keyword (codes "irdl.parametric")
    >> both (λ r parts. Parametric r parts) reference (in_angles variables)

-- `irdl.any_of(%0, %1)`
abbrev pub any_of_expr : OfDefs RawExpr
any_of_expr = keyword (codes "irdl.any_of") >> made (λ xs. AnyOf xs) (in_parens some_variables)

-- `irdl.all_of(%0, %1)`
abbrev pub all_of_expr : OfDefs RawExpr
all_of_expr = keyword (codes "irdl.all_of") >> made (λ xs. AllOf xs) (in_parens some_variables)

-- a constraint
abbrev pub expr : OfDefs RawExpr
expr =
    alt is_expr
    (alt any_expr
    (alt pred_expr (alt base_expr (alt parametric_expr (alt any_of_expr all_of_expr)))))
