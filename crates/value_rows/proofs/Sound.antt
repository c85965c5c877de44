-- Between two texts the definitions stay sound, and the aliases good.
use Rattle.std.proofs.Common.{◌≡◌, ◌<◌, List, [], length, ap, sym, subst, map, Bool}
use Rattle.std.specs.declared.option.Option.TheVariants.{None}
use Rattle.attr_value.specs.declared.head.ValueId.{ValueId}
use Rattle.attr_value.specs.Ids.{at}
use Rattle.attr_value.specs.Values.{Value}
use Rattle.constraint_solver.specs.Definitions.{AreSoundDefs}
use Rattle.constraint_solver.specs.Grown.{Extends}
use Rattle.constraint_solver.proofs.Grows.{length-grows, sound-defs-grows}
use Rattle.dialect_defs.specs.declared.definition.TypeDef.{TypeDef}
use Rattle.dialect_defs.specs.Assignments.{Tests}
use Rattle.dialect_defs.specs.Goodness.{Good}
use Rattle.derived_printer.specs.Spellable.{HaveFullNames}
use Rattle.derived_printer.proofs.Good.{good-spellable}
use Rattle.ir_lexer.specs.Spelling.{Text}
use Rattle.value_meaning.specs.AliasTable.{AreGoodAliases, id_of}
use Rattle.value_meaning.proofs.AliasesKept.{aliases-grow, aliases-none}
use Rattle.value_rows.specs.declared.desk.Desk.{Desk}
use Rattle.value_rows.specs.Desks.{IsSound, IsPrintable}

-- no objects have no tests
pub map-none : {A B : Type 0} (f : A → B) (xs : List A) → xs ≡ [] → map f xs ≡ []
map-none f xs none = ap (map f) none

-- no value is kept, and no alias is known
pub sound-new : (types : List TypeDef) (desk : Desk) → AreSoundDefs 0 0 types
    → HaveFullNames types → desk.values ≡ []
    → ((is_type : Bool) (name : Text) → id_of desk.aliases is_type name ≡ None)
    → IsSound types desk
sound-new types desk sound names empty none = record {
  defs = subst (λ (vs : List Value). AreSoundDefs (length vs) 0 types) (sym empty) sound;
  names = names;
  aliases = aliases-none desk.values [] types desk.aliases none;
}

-- the values grew, and the aliases are the same
pub sound-grown : (types : List TypeDef) (old new : Desk) → IsSound types old
    → Extends old.values new.values → new.aliases ≡ old.aliases → IsSound types new
sound-grown types old new sound grown same = record {
  defs = sound-defs-grows (length-grows grown) sound.defs;
  names = sound.names;
  aliases = subst (AreGoodAliases new.values [] types) (sym same)
      (aliases-grow grown sound.defs sound.aliases);
}

-- the values grew, and the aliases are good by no tests
pub sound-defined : (types : List TypeDef) (old new : Desk) (tests : Tests) → tests ≡ []
    → IsSound types old → Extends old.values new.values
    → AreGoodAliases new.values tests types new.aliases → IsSound types new
sound-defined types old new tests none sound grown aliases = record {
  defs = sound-defs-grows (length-grows grown) sound.defs;
  names = sound.names;
  aliases = subst (λ (ts : Tests). AreGoodAliases new.values ts types new.aliases) none aliases;
}

-- a good value can be printed
pub good-printable : (types : List TypeDef) (old new : Desk) (tests : Tests) (id : ValueId)
    → IsSound types old → id.0 < length new.values
    → Good old.values tests types (at new.values id.0) → IsPrintable new id
good-printable types old new tests id sound known good = record {
  known = known;
  spellable = good-spellable old.values tests types (at new.values id.0) sound.names good;
}
