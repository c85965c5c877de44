-- The marks that calls stand for: a call has a name by its number among the names.
--
--   numbered_name ns n     the name with the number n
--   said_mark name said    the mark of what is said of a name
--   marks_of ns calls      the marks that calls stand for
--   AreNamed n calls       each name of the calls is among n names
--   defined kind said      the number that a name of the kind is defined with
--   is_of_blocks call      the call is a label or a successor
--   call_at calls i        the call at a place
--
-- Inside: no public clause rests on this.
use Rattle.std.specs.Prelude.{◌<◌, ℕ, Bool, true, false, List, [], map, get_or}
use Rattle.std.specs.List.{AllByRecursion}
use Rattle.std.specs.declared.option.Option.{Option}
use Rattle.std.specs.declared.option.Option.TheVariants.{Some, None}
use Rattle.symbol_scopes.specs.declared.call.NameKind.{NameKind}
use Rattle.symbol_scopes.specs.declared.call.NameKind.TheVariants.{Values, Labels}
use Rattle.symbol_scopes.specs.declared.call.Said.{Said}
use Rattle.symbol_scopes.specs.declared.call.Said.TheVariants as s
use Rattle.symbol_scopes.specs.declared.call.Call.{Call}
use Rattle.symbol_scopes.specs.declared.call.Call.TheVariants as c
use Rattle.symbol_scopes.specs.ScopeMarks.{Name, ScopeMark}
use Rattle.symbol_scopes.specs.ScopeMarks as mark

-- the name with the number n, or the empty one where there is none
abbrev pub numbered_name : List Name → ℕ → Name
numbered_name ns n = get_or ns n []

-- the mark of what is said of a name
abbrev pub said_mark : Name → Said → ScopeMark
said_mark name (s.Define place count) =
    mark.defines (record { name = name; place = place; count = count })
said_mark name (s.Use place number number_place) =
    mark.uses (record {
      name = name;
      place = place;
      number = number;
      number_place = number_place;
    })
said_mark name (s.Label place block) =
    mark.labels (record { name = name; place = place; block = block })
said_mark name (s.LeadTo place) = mark.leads_to (record { name = name; place = place })
said_mark name (s.DefineAlias is_type place) =
    mark.defines_alias (record { is_type = is_type; name = name; place = place })
said_mark name (s.MentionAlias is_type place) =
    mark.mentions_alias (record { is_type = is_type; name = name; place = place })

-- the mark that a call stands for
abbrev pub mark_of : List Name → Call → ScopeMark
mark_of ns c.Enter = mark.enters
mark_of ns c.Leave = mark.leaves
mark_of ns (c.BadPack place) = mark.bad_pack place
mark_of ns (c.Name name said) = said_mark (numbered_name ns name) said

-- the marks that calls stand for
abbrev pub marks_of : List Name → List Call → List ScopeMark
marks_of ns calls = map (mark_of ns) calls

-- the name of a call is among the first n
abbrev pub IsNamed : ℕ → Call → Type 0
IsNamed n (c.Name name said) = name < n
IsNamed n _ = Unit {0}

-- the name of each call is among the first n
abbrev pub AreNamed : ℕ → List Call → Type 0
AreNamed n calls = AllByRecursion (IsNamed n) calls

-- the number that a name of the kind is defined with: the size of a pack, or a block
abbrev pub defined : NameKind → Said → Option ℕ
defined Values (s.Define place count) = Some count
defined Labels (s.Label place block) = Some block
defined _ _ = None

-- the call is a label or a successor
abbrev pub is_of_blocks : Call → Bool
is_of_blocks (c.Name name (s.Label place block)) = true
is_of_blocks (c.Name name (s.LeadTo place)) = true
is_of_blocks _ = false

-- the call at a place
abbrev pub call_at : List Call → ℕ → Call
call_at calls i = get_or calls i c.Enter
