-- What trees are judged by, as the table of values grows; and what `value` of a registry says of a
-- tree, over an earlier table.
use Rattle.std.proofs.Common.{◌≡◌, ◌∙◌, ◌<◌, ℕ, Bool, List, length, refl, sym, ap, subst}
use Rattle.std.specs.declared.option.Option.TheVariants.{Some}
use Rattle.attr_value.specs.declared.head.ValueId.{ValueId}
use Rattle.attr_value.specs.Ids.{at}
use Rattle.attr_value.specs.Values.{Value}
use Rattle.constraint_solver.specs.Grown.{Extends}
use Rattle.constraint_solver.proofs.Grows.{extends-trans, length-grows, sound-defs-grows}
use Rattle.constraint_solver.proofs.Grows.{good-shrinks}
use Rattle.dialect_registry.specs.Registered.{IsSound, Registered}
use Rattle.first_fault.specs.declared.fault.Fault.{Fault}
use Rattle.first_fault.specs.Firsts.{IsFirst}
use Rattle.first_fault.proofs.Firsts.{first-same}
use Rattle.generic_syntax.specs.declared.cst.ValueCst.{ValueCst}
use Rattle.ir_lexer.specs.Spelling.{Text}
use Rattle.op_judgement.specs.Found.{IsTreeFault, IsValue}
use Rattle.op_judgement.specs.Grounds.{Basis, IsGround, IsReady, loaded_by}
use Rattle.op_verifier.proofs.Grows.{sound-ops-grows}
use Rattle.value_meaning.specs.AliasTable.{alias_values}
use Rattle.value_meaning.specs.Faults.{IsFault, Means}
use Rattle.value_meaning.specs.Meaning.{Aliases, value_of}
use Rattle.value_meaning.proofs.AliasesKept.{aliases-grow}
use Rattle.value_meaning.proofs.Faultless.{means-faultless}
use Rattle.value_meaning.proofs.FaultsGrow.{fault-grows, fault-shrinks}
use Rattle.value_meaning.proofs.Meant.{alias_values-grow}

-- definitions stay sound
pub sound-grows : {old new : List Value} {count : ℕ} {r : Registered} → Extends old new
    → IsSound (length old) count r → IsSound (length new) count r
sound-grows {old} {new} {count} {r} grown sound = record {
  types = sound-defs-grows (length-grows grown) sound.types;
  ops = sound-ops-grows (length old) (length new) count r.ops (length-grows grown) sound.ops;
  type_names = sound.type_names;
  op_names = sound.op_names;
  types_apart = sound.types_apart;
  ops_apart = sound.ops_apart;
}

-- and aliases stay good
pub ready-grows : {b : Basis} {now new : List Value} → IsReady b now → Extends now new
    → IsReady b new
ready-grows ready grown = record {
  sound = sound-grows grown ready.sound;
  good = aliases-grow grown ready.sound.types ready.good;
}

-- what was there before a table was there before a longer one
pub ground-grows : {b : Basis} {old now new : List Value} {al : Aliases} → IsReady b now
    → IsGround b old al now → Extends now new → IsGround b old al new
ground-grows {b} {old} {now} {new} {al} ready g grown = record {
  grown = extends-trans g.grown grown;
  sound = g.sound;
  agree = λ is_type name. g.agree is_type name
      ∙ sym (ap (λ (a : Aliases). a is_type name) (alias_values-grow grown ready.good));
}

-- the table itself is one, with the values that aliases have
pub ground-itself : {b : Basis} {now : List Value} → IsReady b now → Extends now now
    → IsGround b now (alias_values now b.aliases) now
ground-itself ready grown =
    record { grown = grown; sound = ready.sound; agree = λ is_type name. refl }

-- aliases with the same values are the same
pub same-aliases : {b : Basis} {old now : List Value} {al : Aliases} → IsGround b old al now
    → alias_values now b.aliases ≡ al
same-aliases g = λ i is_type name. sym (g.agree is_type name) i

module _ (b : Basis) {old now : List Value} {al : Aliases} (ready : IsReady b now)
    (g : IsGround b old al now) (tree : ValueCst) where
  -- a fault over the present table is one over the earlier one
  fault-before : (f : Fault)
      → IsFault now b.tests b.registry.types (alias_values now b.aliases) 1 tree f
      → IsTreeFault (loaded_by b old) al tree f
  fault-before f fault =
      subst (λ (a : Aliases). IsFault old b.tests b.registry.types a 1 tree f) (same-aliases g)
      (fault-shrinks g.grown g.sound.types (alias_values now b.aliases) 1 tree f fault)

  -- and the other way round
  fault-after : (f : Fault) → IsTreeFault (loaded_by b old) al tree f
      → IsFault now b.tests b.registry.types (alias_values now b.aliases) 1 tree f
  fault-after f fault =
      fault-grows g.grown g.sound.types (alias_values now b.aliases) 1 tree f
      (subst (λ (a : Aliases). IsFault old b.tests b.registry.types a 1 tree f)
      (sym (same-aliases g)) fault)

  -- a value that is meant
  pub value-found : (new : List Value) (id : ValueId) → id.0 < length new
      → Means now b.tests b.registry.types (alias_values now b.aliases) tree (at new id.0)
      → IsValue (loaded_by b old) al tree new id
  value-found new id known means = record {
    known = known;
    spells = subst
        (λ (a : Aliases). value_of a tree ≡ Some (at new id.0))
        (same-aliases g) means.spells;
    good = good-shrinks g.grown g.sound.types means.good;
    right = λ f fault. means-faultless ready.sound.types ready.good tree (at new id.0) means f
        (fault-after f fault);
  }

  -- the first fault
  pub fault-found : (f : Fault)
      → IsFirst (IsFault now b.tests b.registry.types (alias_values now b.aliases) 1 tree) (Some f)
      → IsFirst (IsTreeFault (loaded_by b old) al tree) (Some f)
  fault-found f first = first-same _ _ (Some f) fault-before fault-after first
