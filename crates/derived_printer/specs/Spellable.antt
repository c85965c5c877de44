-- Which values can be spelled.
--
-- A value can be spelled where it and all values in it keep to the rules of their heads, names of
-- dialects' values have their shape, and it nests no deeper than the limit. No dialect's definition
-- is asked. That texts have bytes is known of all that a program holds, and is apart here.
--
--   IsFullName name       the name of a dialect's value: a bare id in which a dot stands
--   HaveFullNames types   the names of all definitions are such names
--   Spellable v           the value can be spelled
--   HasBytes v            all texts in the value have bytes
use Rattle.std.specs.Prelude.{◌≡◌, ◌<◌, ◌≤◌, true, List}
use Rattle.std.specs.List.{AllByRecursion}
use Rattle.attr_value.specs.declared.head.Head.{Head}
use Rattle.attr_value.specs.declared.head.Head.TheVariants as h
use Rattle.attr_value.specs.declared.head.TheConstants.{DEPTH_LIMIT}
use Rattle.attr_value.specs.Heads.{OwnRule}
use Rattle.attr_value.specs.Values.{Value, Values, none, more, list_of, depth}
use Rattle.dialect_defs.specs.declared.definition.TypeDef.{TypeDef}
use Rattle.grammar.specs.Looks.{has_dot}
use Rattle.ir_lexer.specs.Spelling.{Text}
use Rattle.derived_printer.specs.Spelling.{is_bare}

-- ---- heads and the values in them

-- A dialect's name, a dot and the name of its type or attribute are such a bare id.
pub record IsFullName (name : Text) : Type 0 where
  pub bare : is_bare name ≡ true
  pub dotted : has_dot name ≡ true

-- the name of each definition of a list has its shape
pub record HaveFullNames (types : List TypeDef) : Type 0 where
  pub each : AllByRecursion (λ d. IsFullName d.name) types

-- the name of a dialect's value has its shape
abbrev pub IsNamed : Head → Type 0
IsNamed (h.Dialect is_type name) = IsFullName name
IsNamed _ = Unit {0}

-- a head with these kids can be spelled
pub record NodeIsSpellable (head : Head) (kids : Values) : Type 0 where
  pub rule : OwnRule head (list_of kids)
  pub named : IsNamed head

-- all values of a list can be spelled, and all in them
abbrev pub AreSpellable : Values → Type 0
AreSpellable none = Unit {0}
AreSpellable (more head kids rest) =
    NodeIsSpellable head kids × AreSpellable kids × AreSpellable rest

-- a value can be spelled
pub record Spellable (v : Value) : Type 0 where
  pub node : NodeIsSpellable v.head v.kids
  pub kids : AreSpellable v.kids
  pub shallow : depth v ≤ DEPTH_LIMIT

-- ---- bytes

-- each number is that of a byte
abbrev pub AreBytes : Text → Type 0
AreBytes t = AllByRecursion (λ b. b < 256) t

-- the texts of a head have bytes
abbrev pub HeadHasBytes : Head → Type 0
HeadHasBytes (h.Str bytes) = AreBytes bytes
HeadHasBytes (h.Dict keys) = AllByRecursion AreBytes keys
HeadHasBytes (h.Symbol parts) = AllByRecursion AreBytes parts
HeadHasBytes _ = Unit {0}

-- all texts in a list of values have bytes
abbrev pub HaveBytes : Values → Type 0
HaveBytes none = Unit {0}
HaveBytes (more head kids rest) = HeadHasBytes head × HaveBytes kids × HaveBytes rest

-- all texts in a value have bytes
pub record HasBytes (v : Value) : Type 0 where
  pub head : HeadHasBytes v.head
  pub kids : HaveBytes v.kids
