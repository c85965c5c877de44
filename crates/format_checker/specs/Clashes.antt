-- Where one token doesn't decide in a format.
--
-- Code 14, at the first element or group of which one of these isn't so, with the first look of its
-- own that meets one of the others. Of an element that is no group: its open looks don't meet those
-- that come next; and where it may be empty, its starts don't. Of a group: the starts of the first
-- branch don't meet those of the other one; and where that may be empty, they don't meet what comes
-- next. A group stands before its elements.
--
--   item_clash op anchor k next       of an element that is no group
--   group_clash op f o anchor next    of a group as a whole
--   branch_clash op anchor i es next  the first in a branch, from the element with the number i on
--   first_clash op es follow          the first in a format before what follows
use Rattle.std.specs.Prelude.{ℕ, ◌+◌, Bool, false, List, [], ◌∷◌, Option, Some, None, if◌then◌else◌}
use Rattle.std.specs.Option.{option_or}
use Rattle.dialect_defs.specs.declared.definition.OpDef.{OpDef}
use Rattle.dialect_defs.specs.declared.format.Element.{Element}
use Rattle.dialect_defs.specs.declared.format.ElementKind.TheOpen.{ElementKind-F}
use Rattle.format_checker.specs.declared.clash.Clash.{Clash}
use Rattle.format_checker.specs.declared.look.Look.{Look}
use Rattle.format_checker.specs.Columns.{Kind, kind_of, is_anchor, counts_empty, counts_starts, counts_open, branch_empty, branch_starts}
use Rattle.format_checker.specs.Decided.{starts_then, after}
use Rattle.format_checker.specs.Meeting.{first_meeting}
use Rattle.format_checker.specs.Shown.{at_of}

-- where there is a look, it is told at a place
abbrev pub clash_at : ℕ → Option Look → Option Clash
clash_at at (Some l) = Some (record { at = at; look = l })
clash_at at None = None

abbrev pub item_clash : OpDef → Bool → Kind → List Look → Option Look
item_clash op anchor k next =
    option_or (first_meeting (counts_open op anchor k) next)
    (if counts_empty op anchor k then first_meeting (counts_starts op anchor k) next else None)

abbrev pub branch_clash : OpDef → Option ℕ → ℕ → List Element → List Look → Option Clash
branch_clash op anchor i [] next = None
branch_clash op anchor i (e ∷ es) next =
    option_or (clash_at (at_of e) (item_clash op (is_anchor anchor i) (kind_of e)
    (starts_then op anchor (i + 1) es next)))
    (branch_clash op anchor (i + 1) es next)

abbrev pub group_clash : OpDef → List Element → List Element → ℕ → List Look → Option Look
group_clash op first otherwise anchor next =
    let own = branch_starts op (Some anchor) 0 first in
    option_or (first_meeting own (branch_starts op None 0 otherwise))
    (if branch_empty op None 0 otherwise then first_meeting own next else None)

-- of any element, at its place
abbrev pub form_clash : OpDef → ℕ → Kind → List Look → Option Clash
form_clash op at (ElementKind-F.Group first otherwise anchor) next =
    option_or (clash_at at (group_clash op first otherwise anchor next))
    (option_or (branch_clash op (Some anchor) 0 first next) (branch_clash op None 0 otherwise next))
form_clash op at k next = clash_at at (item_clash op false k next)

abbrev pub first_clash : OpDef → List Element → List Look → Option Clash
first_clash op [] follow = None
first_clash op (e ∷ es) follow =
    option_or (form_clash op (at_of e) (kind_of e) (after op es follow)) (first_clash op es follow)
