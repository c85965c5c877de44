-- What the sets and maps of a judgement know of what they have seen.
--
--   holds s name            the name is in the set
--   value_at m name         what the map has at the name
--   noted broken first f    the first fault, where one more rule may be broken
--   Knows ms s              the scope has seen these marks, and holds the first of their faults
--   Sees ms old new         it has seen these marks more
--   HasDialects ds s, HasDefs ds s
--                           the set has the names of these, and no others
--   or_in_file first n f    the fault that was found, or else f in the file n
--   Finds dialects t        the table finds what references to these dialects name
--
-- Inside: no public clause rests on this.
use Rattle.std.specs.Prelude.{◌≡◌, ◌-◌, ◌^◌, ℕ, min, Bool, List, ◌++◌, bytes_eq, if◌then◌else◌, is_some, option_and_then}
use Rattle.std.specs.HashMap.{get_by}
use Rattle.std.specs.HashSet.{contains_by}
use Rattle.std.specs.Option.{option_flatten}
use Rattle.std.specs.declared.option.Option.{Option}
use Rattle.std.specs.declared.option.Option.TheVariants.{Some, None}
use Rattle.first_fault.specs.declared.fault.Fault.{Fault}
use Rattle.first_fault.specs.Firsts.{earlier_of, IsFirst}
use Rattle.ir_lexer.specs.Spelling.{Text}
use Rattle.irdl_ops.specs.declared.raw.RawDef.{RawDef}
use Rattle.irdl_ops.specs.declared.raw.RawDialect.{RawDialect}
use Rattle.dialect_registry.specs.declared.names.NameMap.{NameMap}
use Rattle.dialect_registry.specs.declared.names.NameSet.{NameSet}
use Rattle.dialect_registry.specs.declared.refusal.FileFault.{FileFault}
use Rattle.dialect_registry.specs.declared.scope.Scope.{Scope}
use Rattle.dialect_registry.specs.declared.targets.Target.{Target}
use Rattle.dialect_registry.specs.declared.targets.Targets.{Targets}
use Rattle.dialect_registry.specs.NameFaults.{NameMark, stands_for, is_label, is_begun, choices, IsFaultIn}
use Rattle.dialect_registry.specs.DefFaults.{is_def, is_dialect}
use Rattle.dialect_registry.specs.Targets.{named, dialect_named}

-- whether a name is in the set
unfoldable pub holds : NameSet → Text → Bool
holds s name = contains_by (λ k. bytes_eq name k.now) s.names

-- what the map has at a name
unfoldable pub value_at : {V : Type 0} → NameMap V → Text → Option V
value_at m name = get_by (λ k. bytes_eq name k.now) m.entries

-- the first fault, where one more rule may be broken
abbrev pub noted : Bool → Option Fault → Fault → Option Fault
noted broken first f = if broken then earlier_of first (Some f) else first

-- the scope has seen these marks, and holds the first of their faults
pub record Knows (ms : List NameMark) (s : Scope) : Type 0 where
  pub values : (name : Text) → value_at s.values name ≡ stands_for ms name
  pub labels : (name : Text) → holds s.labels name ≡ is_label ms name
  pub words : (word : Text) → holds s.words word ≡ is_begun ms word
  pub choices : s.choices ≡ min (choices ms) (2 ^ 64 - 1)
  pub first : IsFirst (IsFaultIn ms) s.first

-- the scope has seen these marks behind those that it had seen
abbrev pub Sees : List NameMark → Scope → Scope → Type 0
Sees ms old new = (before : List NameMark) → Knows before old → Knows (before ++ ms) new

-- the set has the names of these dialects, and no others
pub record HasDialects (dialects : List RawDialect) (s : NameSet) : Type 0 where
  pub each : (name : Text) → holds s name ≡ is_dialect dialects name

-- the set has the names of these definitions, and no others
pub record HasDefs (defs : List RawDef) (s : NameSet) : Type 0 where
  pub each : (name : Text) → holds s name ≡ is_def defs name

-- what a dialect's table finds at a name
abbrev pub found_in : Text → NameMap (Option Target) → Option Target
found_in n m = option_flatten (value_at m n)

-- what the table finds at two names
abbrev pub found : Targets → Text → Text → Option Target
found t d n = option_and_then (found_in n) (value_at t.dialects d)

-- the table finds what references to these dialects name
pub record Finds (dialects : List RawDialect) (t : Targets) : Type 0 where
  pub there : (d : Text) → is_some (value_at t.dialects d) ≡ is_some (dialect_named dialects d)
  pub each : (d n : Text) → found t d n ≡ named dialects d n

-- the fault that was found, or else this one in the file with this number
abbrev pub or_in_file : Option FileFault → ℕ → Option Fault → Option FileFault
or_in_file None n (Some f) = Some (record { file = n; place = f.place; code = f.code })
or_in_file first n fault = first
