-- What groups and the marks of anchors keep to.
--
-- Code 13, at the first place where one of these isn't so: a mark stands in the first branch of a
-- group alone; that branch has one mark, on an attribute that may be missing, on operands that
-- needn't be one, or on the types of one such entry; beside literals and white space a group holds
-- only elements that may be such an anchor; and the first branch isn't empty where its anchor is
-- there. What is about a group as a whole stands at the group, the rest at the element.
--
--   may_anchor op k             the element may be the anchor of a group
--   may_stand op k              it may stand in a group
--   first_group_fault op raw es the place of the first element or group that isn't right, of the
--                               elements as they are written and with names as places
use Rattle.std.specs.Prelude.{ℕ, ◌==◌, Bool, true, false, not, ◌&&◌, ◌||◌, List, ◌∷◌, Option, Some, None, count_by, if◌then◌else◌}
use Rattle.std.specs.Option.{option_or}
use Rattle.dialect_defs.specs.declared.definition.OpDef.{OpDef}
use Rattle.dialect_defs.specs.declared.format.Element.{Element}
use Rattle.dialect_defs.specs.declared.format.ElementKind.TheOpen.{ElementKind-F}
use Rattle.dialect_defs.specs.declared.format.TypeArg.{TypeArg}
use Rattle.dialect_defs.specs.declared.format.TypeArg.TheVariants as arg
use Rattle.dialect_defs.specs.declared.raw_format.RawElement.{RawElement}
use Rattle.dialect_defs.specs.declared.raw_format.RawKind.TheOpen.{RawKind-F}
use Rattle.format_checker.specs.Columns.{Kind, kind_of, arity_at, is_optional, is_single, branch_empty}
use Rattle.format_checker.specs.Named.{RawForm, is_marked, place_of, raw_kind_of}

-- the types of one entry that isn't single
abbrev pub types_may_anchor : OpDef → TypeArg → Bool
types_may_anchor op (arg.Operand i) = not (is_single (arity_at op.operands i))
types_may_anchor op (arg.Result i) = not (is_single (arity_at op.results i))
types_may_anchor op arg.AllOperands = false
types_may_anchor op arg.AllResults = false

-- the element may be the anchor of a group
abbrev pub may_anchor : OpDef → Kind → Bool
may_anchor op (ElementKind-F.Operand i) = not (is_single (arity_at op.operands i))
may_anchor op (ElementKind-F.Attr i) = is_optional op i
may_anchor op (ElementKind-F.SymbolName i) = is_optional op i
may_anchor op (ElementKind-F.IntText i k) = is_optional op i
may_anchor op (ElementKind-F.Types a) = types_may_anchor op a
may_anchor op _ = false

-- a literal or white space
abbrev pub is_literal : Kind → Bool
is_literal (ElementKind-F.Word w) = true
is_literal (ElementKind-F.Punct class) = true
is_literal ElementKind-F.Space = true
is_literal ElementKind-F.Newline = true
is_literal ElementKind-F.Empty = true
is_literal _ = false

-- the element may stand in a group
abbrev pub may_stand : OpDef → Kind → Bool
may_stand op k = is_literal k || may_anchor op k

-- ---- places

abbrev pub fault_if : Bool → ℕ → Option ℕ
fault_if broken at = if broken then Some at else None

-- the first that two lists give together
abbrev pub first_of_both : {A B C : Type 0} → (A → B → Option C) → List A → List B → Option C
first_of_both f (x ∷ xs) (y ∷ ys) = option_or (f x y) (first_of_both f xs ys)
first_of_both f _ _ = None

-- of an element of a branch, the first or the other one
abbrev pub is_bad_item : OpDef → Bool → Bool → Kind → Bool
is_bad_item op in_first marked k =
    not (may_stand op k) || (marked && not (in_first && may_anchor op k))

abbrev pub item_fault : OpDef → Bool → RawElement → Element → Option ℕ
item_fault op in_first x e =
    fault_if (is_bad_item op in_first (is_marked x) (kind_of e)) (place_of x)

abbrev pub items_fault : OpDef → Bool → List RawElement → List Element → Option ℕ
items_fault op in_first raw es = first_of_both (item_fault op in_first) raw es

-- of a group as a whole
abbrev pub is_bad_group : OpDef → Bool → List RawElement → List Element → ℕ → Bool
is_bad_group op marked raw first anchor =
    marked || (not (count_by is_marked raw == 1) || branch_empty op (Some anchor) 0 first)

-- of any element; one that is no group has no mark
abbrev pub form_fault : OpDef → ℕ → Bool → RawForm → Kind → Option ℕ
form_fault op at marked (RawKind-F.Group raw_first raw_otherwise)
    (ElementKind-F.Group first otherwise anchor) =
    option_or (fault_if (is_bad_group op marked raw_first first anchor) at)
    (option_or (items_fault op true raw_first first) (items_fault op false raw_otherwise otherwise))
form_fault op at marked x k = fault_if marked at

abbrev pub element_fault : OpDef → RawElement → Element → Option ℕ
element_fault op x e = form_fault op (place_of x) (is_marked x) (raw_kind_of x) (kind_of e)

abbrev pub first_group_fault : OpDef → List RawElement → List Element → Option ℕ
first_group_fault op raw es = first_of_both (element_fault op) raw es
