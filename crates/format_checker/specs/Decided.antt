-- One token decides in a format.
--
-- Where an element may be left out, or go on, the tokens with which it does so must be apart from
-- those that come next. `After` an element come the starts of the elements behind it, up to and
-- with the first that isn't empty, and where all of them may be empty, what follows too. What follows a
-- branch of a group is what comes after the group.
--
--   starts_then op anchor i es next   what comes at the front of a branch's rest
--   after op es follow                what comes at the front of elements
--   is_clear op anchor k next         the element's open looks are apart from what comes next, and
--                                     its starts too where it may be empty
--   is_clear_group                    the starts of the first branch are apart from those of the
--                                     other one, and, where that may be empty, from what comes next
--   is_one_token op es follow         all elements are so
--   AreSound op es                    no literal is the number of a result, and a group's first
--                                     branch isn't empty where its anchor is there, which may be one
--   Shows region op es ts parts       the tokens are the pieces of these elements
use Rattle.std.specs.Prelude.{◌≡◌, ℕ, ◌+◌, Bool, true, false, not, ◌&&◌, ◌||◌, List, [], ◌∷◌, ◌++◌, Option, Some, None, codes, if◌then◌else◌}
use Rattle.ir_lexer.specs.declared.class.Class.TheVariants as c
use Rattle.ir_lexer.specs.Classes.{same_class}
use Rattle.ir_lexer.specs.Tokens.{Token}
use Rattle.grammar.specs.Grammar.{Tokens, ret, both, Derives}
use Rattle.grammar.specs.Looks as grammar
use Rattle.grammar.specs.Looks.{any}
use Rattle.generic_syntax.specs.declared.module_cst.PartCst.{PartCst}
use Rattle.generic_syntax.specs.declared.module_cst.RegionCst.{RegionCst}
use Rattle.generic_syntax.specs.Pieces.{IsPiece}
use Rattle.dialect_defs.specs.declared.definition.OpDef.{OpDef}
use Rattle.dialect_defs.specs.declared.format.Element.{Element}
use Rattle.dialect_defs.specs.declared.format.ElementKind.TheOpen.{ElementKind-F}
use Rattle.format_checker.specs.declared.look.Look.{Look}
use Rattle.format_checker.specs.declared.look.Look.TheVariants as look
use Rattle.format_checker.specs.Columns.{Kind, kind_of, is_anchor, counts_empty, counts_starts, counts_open, branch_empty, branch_starts, may_be_empty, starts}
use Rattle.format_checker.specs.Fits.{looks, AnchorFits}
use Rattle.format_checker.specs.Pieces.{Inner, value, a_region, InnerTree, inner_looks, Rule, shown}

-- no token passes one of the first and one of the second
abbrev pub apart : List Look → List Look → Bool
apart ls ms = grammar.apart (looks ls) (looks ms)

-- ---- what comes next

-- where all of a branch may be empty, what follows it comes next too
abbrev pub starts_then : OpDef → Option ℕ → ℕ → List Element → List Look → List Look
starts_then op anchor i es next =
    branch_starts op anchor i es ++ (if branch_empty op anchor i es then next else [])

-- at the front of elements
abbrev pub after : OpDef → List Element → List Look → List Look
after op [] follow = follow
after op (e ∷ es) follow =
    starts op (kind_of e) ++ (if may_be_empty op (kind_of e) then after op es follow else [])

-- the looks of another operation; a terminator is the last of its block
abbrev pub next_operation : Bool → List Look
next_operation terminator =
    if terminator then []
    else look.Value ∷ look.Str ∷ look.Dotted ∷ look.Word (codes "module") ∷ []

-- what follows the format of an operation
abbrev pub follow : Bool → List Look
follow terminator = next_operation terminator ++ (look.Block ∷ look.Punct c.RBrace ∷ look.End ∷ [])

-- ---- the condition

abbrev pub is_clear : OpDef → Bool → Kind → List Look → Bool
is_clear op anchor k next =
    apart (counts_open op anchor k) next
    && (not (counts_empty op anchor k) || apart (counts_starts op anchor k) next)

abbrev pub is_clear_branch : OpDef → Option ℕ → ℕ → List Element → List Look → Bool
is_clear_branch op anchor i [] next = true
is_clear_branch op anchor i (e ∷ es) next =
    is_clear op (is_anchor anchor i) (kind_of e) (starts_then op anchor (i + 1) es next)
    && is_clear_branch op anchor (i + 1) es next

abbrev pub is_clear_group : OpDef → List Element → List Element → ℕ → List Look → Bool
is_clear_group op first otherwise anchor next =
    apart (branch_starts op (Some anchor) 0 first) (branch_starts op None 0 otherwise)
    && ((not (branch_empty op None 0 otherwise)
    || apart (branch_starts op (Some anchor) 0 first) next)
    && (is_clear_branch op (Some anchor) 0 first next && is_clear_branch op None 0 otherwise next))

abbrev pub is_clear_element : OpDef → Kind → List Look → Bool
is_clear_element op (ElementKind-F.Group first otherwise anchor) next =
    is_clear_group op first otherwise anchor next
is_clear_element op k next = is_clear op false k next

-- one token decides in these elements, before what follows
abbrev pub is_one_token : OpDef → List Element → List Look → Bool
is_one_token op [] follow = true
is_one_token op (e ∷ es) follow =
    is_clear_element op (kind_of e) (after op es follow) && is_one_token op es follow

-- ---- what else counts

-- a literal isn't the number of a result
abbrev pub is_sign : Kind → Bool
is_sign (ElementKind-F.Punct class) = not (same_class c.ResultNumber class)
is_sign _ = true

abbrev pub all_signs : List Element → Bool
all_signs [] = true
all_signs (e ∷ es) = is_sign (kind_of e) && all_signs es

abbrev pub element_signs : Kind → Bool
element_signs (ElementKind-F.Group first otherwise anchor) = all_signs first && all_signs otherwise
element_signs k = is_sign k

-- a group's anchor may be one, and its first branch isn't empty where that is there
abbrev pub IsFullGroup : OpDef → Kind → Type 0
IsFullGroup op (ElementKind-F.Group first otherwise anchor) =
    AnchorFits (Some anchor) 0 first × (branch_empty op (Some anchor) 0 first ≡ false)
IsFullGroup op k = Unit {0}

-- of each element
abbrev pub AreSound : OpDef → List Element → Type 0
AreSound op [] = Unit {0}
AreSound op (e ∷ es) =
    IsFullGroup op (kind_of e) × (element_signs (kind_of e) ≡ true) × AreSound op es

-- the pieces of elements, one after the other
abbrev pub shown_each : OpDef → List Element → Rule (List PartCst)
shown_each op [] = ret []
shown_each op (e ∷ es) = both (λ xs ys. xs ++ ys) (shown op (kind_of e)) (shown_each op es)

-- ---- what is derived

-- The tokens are a piece of what is taken whole, with this tree. What a region is, is told.
abbrev pub IsInner : (Tokens → RegionCst → Bool) → (x : Inner) → Tokens → InnerTree x → Type 0
IsInner region (value p) ts v = IsPiece p ts v
IsInner region a_region ts r = region ts r ≡ true

-- A region begins with a brace, and no longer list of tokens is one; tokens have one tree.
pub record AreRegions (region : Tokens → RegionCst → Bool) : Type 0 where
  pub first : (t : Token) (ts : Tokens) (r : RegionCst) → region (t ∷ ts) r ≡ true
      → any (inner_looks a_region) t ≡ true
  pub full : (r : RegionCst) → region [] r ≡ true → ⊥
  pub ends : (d : Tokens) (y : Token) (e : Tokens) (r s : RegionCst) → region d r ≡ true
      → region (d ++ y ∷ e) s ≡ true → ⊥
  pub one : (d : Tokens) (r s : RegionCst) → region d r ≡ true → region d s ≡ true → r ≡ s

-- the tokens are the pieces of these elements, with these parts
abbrev pub Shows : (Tokens → RegionCst → Bool) → OpDef → List Element → Tokens → List PartCst
    → Type 0
Shows region op es = Derives (IsInner region) (shown_each op es)
