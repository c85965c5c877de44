use Rattle.std.proofs.Common.{◌≡◌, List, take, drop, ◌+◌, ◌∙◌, subst, sym}
use Rattle.std.specs.Prelude.{IfErr}
use Rattle.std.specs.declared.option.Option.TheVariants.{Some}
use Rattle.std.specs.declared.result.Result.{Result}
use Rattle.attr_value.specs.declared.head.ValueId.{ValueId}
use Rattle.constraint_solver.proofs.Grows.{extends-refl, extends-trans, length-grows}
use Rattle.constraint_solver.proofs.Grows.{sound-defs-grows}
use Rattle.dialect_registry.proofs.Walks.{whole-take}
use Rattle.elaborate.specs.Aliases.{AreKnownSo, IsFaultyAlias}
use Rattle.first_fault.specs.declared.fault.Fault.{Fault}
use Rattle.first_fault.specs.Firsts.{IsFirst}
use Rattle.generic_syntax.specs.declared.module_cst.AliasCst.{AliasCst}
use Rattle.native_predicate.specs.Lists.{count, tests}
use Rattle.op_judgement.proofs.Finding.{take-push}
use Rattle.value_meaning.specs.declared.value.ValueStop.{ValueStop}
use Rattle.value_meaning.specs.declared.value.ValueStop.TheVariants.{Refused}
use Rattle.value_meaning.specs.AliasTable.{alias_values}
use Rattle.value_meaning.specs.Faults.{IsFault}
use Rattle.value_meaning.specs.Refusals.{RefusesValue}
use Rattle.value_meaning.proofs.AliasesKept.{aliases-none}
use Rattle.elaborate.proofs.AliasSteps.{faulty-next, known-more, known-none}
use Rattle.elaborate.proofs.Taking.{around-item}
use Rattle.elaborate.proofs.aliases.define_aliases.Goals as goal

pub loop-alias-init : goal.loop-alias-init
loop-alias-init g c =
    let said = tests (λ p. (goal.NativePredicate-dyn g p).property p.1) c.args.natives.now in
    record {
      grown = extends-refl c.args.u.now;
      good = aliases-none c.args.u.now said c.args.registry.now.types c.args.aliases.now
          c.requires.none;
      known = known-none c.args.u.now c.args.u.now said c.args.registry.now.types
          c.args.aliases.now c.requires.none;
    }

pub define_alias-defined-requires-clause-defs : goal.define_alias-defined-requires-clause-defs
define_alias-defined-requires-clause-defs g c =
    rw c.definitions.ensures
    (sound-defs-grows (length-grows c.loop-alias.invariant.grown) c.requires.sound.types)

pub loop-alias-preserved : goal.loop-alias-preserved
loop-alias-preserved g c =
    let said = tests (λ p. (goal.NativePredicate-dyn g p).property p.1) c.args.natives.now in
    let list = c.args.list.now in
    let i = c.loop-alias.alias-index in
    let alias = c.alias-item.result in
    let next = take-push list i alias c.loop-alias-test.true c.alias-item.is in
    let later = c.define_alias-defined.ensures.later in
    let named : c.in_ok-from_slice.field-0 ≡ alias.name =
    c.in_ok-from_slice.ensures ∙ c.bytes.ensures in
    record {
      grown = extends-trans c.loop-alias.invariant.grown later;
      good = rw c.definitions.ensures at c.define_alias-defined.ensures.good;
      known = rw next (known-more c.args.u.now c.loop-alias.u c.define_alias-defined.new.u
          (count c.args.natives.now) said c.args.registry.now.types (take i list) alias
          c.loop-alias.aliases c.define_alias-defined.new.aliases c.in-Ok.field-0
          c.requires.sound.types c.loop-alias.invariant.grown later c.loop-alias.invariant.good
          c.loop-alias.invariant.known (rw c.definitions.ensures at c.in-Ok.ensures.ok)
          (λ kind other. rw named at (c.in-Ok.ensures.defined kind other)));
    }

pub returns-in-Err-Refused-clause-defined : goal.returns-in-Err-Refused-clause-defined
returns-in-Err-Refused-clause-defined g c =
    let said = tests (λ p. (goal.NativePredicate-dyn g p).property p.1) c.args.natives.now in
    let types = c.args.registry.now.types in
    let list = c.args.list.now in
    let i = c.loop-alias.alias-index in
    let alias = c.alias-item.result in
    let fault = c.in-Err-Refused.fault in
    let P : Fault → Type 0 = IsFault c.loop-alias.u said c.definitions.result.now
    (alias_values c.loop-alias.u c.loop-alias.aliases) 1 alias.value in
    let refused : RefusesValue P c.in-Err-Refused.field-0 =
    subst (λ (r : Result ValueId ValueStop). IfErr r (RefusesValue P)) c.in-Err-Refused.is
    c.define_alias-defined.ensures.refused in
    let is : c.in-Err-Refused.field-0 ≡ Refused fault =
    rw c.in-Err-Refused.is at c.in-Err-Refused.field-0-is in
    let first : IsFirst P (Some fault) = subst (RefusesValue P) is refused in
    subst (λ (xs : List AliasCst). IsFaultyAlias c.args.u.now said types xs fault)
    (sym (around-item list i alias c.loop-alias-test.true c.alias-item.is))
    (faulty-next c.args.u.now c.loop-alias.u (count c.args.natives.now) said types (take i list)
    (drop (i + 1) list) alias c.loop-alias.aliases fault c.requires.sound.types
    c.loop-alias.invariant.grown c.loop-alias.invariant.known (rw c.definitions.ensures at first))

pub returns-clause-defined : goal.returns-clause-defined
returns-clause-defined g c =
    let said = tests (λ p. (goal.NativePredicate-dyn g p).property p.1) c.args.natives.now in
    subst (λ (xs : List AliasCst). AreKnownSo c.args.u.now said c.args.registry.now.types xs
    c.loop-alias.u c.loop-alias.aliases)
    (whole-take c.args.list.now c.loop-alias.alias-index c.loop-alias.auto.alias-index-end
    c.loop-alias-test.false) c.loop-alias.invariant.known
