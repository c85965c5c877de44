-- Which formats are accepted, and why the others are refused.
--
-- The rules are judged in their order, and each at the first place where it is broken: names mean
-- something (10), all is shown that has to be (11), nothing is shown twice (12), groups are right
-- (13), one token decides (14), and each entry has a type (15).
--
--   IsAccepted op raw es      no rule is broken, and es are the elements with names as places
--   IsRefused op raw length code at look entry
--                             the rule is the first that is broken, there, with that look or entry
--   is_sound op es            what the elements name is there, literals are words and signs, and
--                             groups hold what may stand in one, and have an anchor that may be one
--   IsReadable op es          what reading and printing by a format ask of it
use Rattle.std.specs.Prelude.{◌≡◌, ℕ, Bool, true, false, ◌&&◌, List, length, Option, Some, None, nat_lt, slice_get}
use Rattle.std.specs.List.{list_all}
use Rattle.std.specs.declared.result.Result.TheVariants.{Ok, Err}
use Rattle.dialect_defs.specs.declared.definition.OpDef.{OpDef}
use Rattle.dialect_defs.specs.declared.format.Element.{Element}
use Rattle.dialect_defs.specs.declared.format.ElementKind.TheOpen.{ElementKind-F}
use Rattle.dialect_defs.specs.declared.format.TypeArg.{TypeArg}
use Rattle.dialect_defs.specs.declared.format.TypeArg.TheVariants as arg
use Rattle.dialect_defs.specs.declared.raw_format.RawElement.{RawElement}
use Rattle.format_reader.specs.Spelling.{is_bare_id}
use Rattle.format_checker.specs.declared.look.Look.{Look}
use Rattle.format_checker.specs.declared.stop.EntryRef.{EntryRef}
use Rattle.format_checker.specs.declared.stop.FormatCode.{FormatCode}
use Rattle.format_checker.specs.declared.stop.FormatCode.TheVariants as code
use Rattle.format_checker.specs.Clashes.{first_clash}
use Rattle.format_checker.specs.Columns.{Kind, kind_of}
use Rattle.format_checker.specs.Decided.{AreSound, follow, is_one_token}
use Rattle.format_checker.specs.Anchors.{first_group_fault, may_anchor, may_stand}
use Rattle.format_checker.specs.Named.{named_elements, is_literal_sign}
use Rattle.format_checker.specs.Shown.{ShowsAll, first_repeated, AllTyped, FirstUntyped}

-- ---- the rules in their order

-- names mean something
abbrev pub IsNamed : OpDef → List RawElement → List Element → Type 0
IsNamed op raw es = named_elements op raw ≡ Ok es

-- and all is shown that has to be
abbrev pub IsWhole : OpDef → List RawElement → List Element → Type 0
IsWhole op raw es = IsNamed op raw es × ShowsAll op es

-- and nothing twice
abbrev pub IsOnce : OpDef → List RawElement → List Element → Type 0
IsOnce op raw es = IsWhole op raw es × (first_repeated op es ≡ None)

-- and groups are right
abbrev pub IsGrouped : OpDef → List RawElement → List Element → Type 0
IsGrouped op raw es = IsOnce op raw es × (first_group_fault op raw es ≡ None)

-- and one token decides
abbrev pub IsClear : OpDef → List RawElement → List Element → Type 0
IsClear op raw es =
    IsGrouped op raw es × (first_clash op es (follow op.terminator) ≡ None)

-- and each entry has a type: no rule is broken
pub record IsAccepted (op : OpDef) (raw : List RawElement) (es : List Element) : Type 0 where
  pub named : IsNamed op raw es
  pub shows : ShowsAll op es
  pub once : first_repeated op es ≡ None
  pub grouped : first_group_fault op raw es ≡ None
  pub clear : first_clash op es (follow op.terminator) ≡ None
  pub typed : AllTyped op es

-- ---- the first that is broken

-- it comes with no look and no entry
abbrev pub IsAlone : Option Look → Option EntryRef → Type 0
IsAlone look entry = (look ≡ None) × (entry ≡ None)

-- the rule of this code is broken there, of a format that keeps those before it
abbrev pub IsRefused : OpDef → List RawElement → ℕ → FormatCode → ℕ → Option Look → Option EntryRef
    → Type 0
IsRefused op raw end code.Unknown at look entry =
    (named_elements op raw ≡ Err at) × IsAlone look entry
IsRefused op raw end code.Missing at look entry =
    (es : List Element) × IsNamed op raw es × (ShowsAll op es → ⊥) × (at ≡ end) × IsAlone look entry
IsRefused op raw end code.Repeated at look entry =
    (es : List Element) × IsWhole op raw es × (first_repeated op es ≡ Some at) × IsAlone look entry
IsRefused op raw end code.Group at look entry =
    (es : List Element) × IsOnce op raw es × (first_group_fault op raw es ≡ Some at)
    × IsAlone look entry
IsRefused op raw end code.Ambiguous at look entry =
    (es : List Element) × (l : Look) × IsGrouped op raw es
    × (first_clash op es (follow op.terminator) ≡ Some (record { at = at; look = l }))
    × (look ≡ Some l) × (entry ≡ None)
IsRefused op raw end code.NoType at look entry =
    (es : List Element) × (e : EntryRef) × IsClear op raw es × FirstUntyped op es e × (at ≡ end)
    × (look ≡ None) × (entry ≡ Some e)

-- ---- what is there

abbrev pub is_there : {A : Type 0} → ℕ → List A → Bool
is_there i xs = nat_lt i (length xs)

abbrev pub types_are_there : OpDef → TypeArg → Bool
types_are_there op (arg.Operand i) = is_there i op.operands
types_are_there op (arg.Result i) = is_there i op.results
types_are_there op arg.AllOperands = true
types_are_there op arg.AllResults = true

-- of an element that is no group
abbrev pub is_known : OpDef → Kind → Bool
is_known op (ElementKind-F.Word w) = is_bare_id w
is_known op (ElementKind-F.Punct class) = is_literal_sign class
is_known op (ElementKind-F.Operand i) = is_there i op.operands
is_known op (ElementKind-F.Attr i) = is_there i op.attrs
is_known op (ElementKind-F.Region i) = is_there i op.regions
is_known op (ElementKind-F.Successor i) = is_there i op.successors
is_known op (ElementKind-F.SymbolName i) = is_there i op.attrs
is_known op (ElementKind-F.IntText i k) = is_there i op.attrs
is_known op (ElementKind-F.Types a) = types_are_there op a
is_known op (ElementKind-F.Functional a b) = types_are_there op a && types_are_there op b
is_known op (ElementKind-F.Group first otherwise anchor) = false
is_known op _ = true

-- of each element of a branch, which may stand there
abbrev pub are_known : OpDef → List Element → Bool
are_known op es = list_all (λ e. is_known op (kind_of e) && may_stand op (kind_of e)) es

-- the element of this number may be an anchor
abbrev pub has_anchor : OpDef → List Element → ℕ → Bool
has_anchor op es anchor =
    elim (slice_get es anchor) [ Some e ↦ may_anchor op (kind_of e) | None ↦ false ]

abbrev pub is_sound_form : OpDef → Kind → Bool
is_sound_form op (ElementKind-F.Group first otherwise anchor) =
    are_known op first && (are_known op otherwise && has_anchor op first anchor)
is_sound_form op k = is_known op k

abbrev pub is_sound : OpDef → List Element → Bool
is_sound op es = list_all (λ e. is_sound_form op (kind_of e)) es

-- ---- what reading and printing ask

-- All is shown that has to be, what is named is there, groups are as they have to be, and one token
-- decides before what follows an operation.
pub record IsReadable (op : OpDef) (es : List Element) : Type 0 where
  pub shows : ShowsAll op es
  pub sound : is_sound op es ≡ true
  pub groups : AreSound op es
  pub one_token : is_one_token op es (follow op.terminator) ≡ true
