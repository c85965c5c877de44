use Rattle.std.proofs.Common.{◌≡◌, ◌∙◌, sym, ap, subst, refl}
use Rattle.std.specs.declared.option.Option.TheVariants.{Some}
use Rattle.constraint_solver.proofs.Grows.{extends-refl, extends-trans}
use Rattle.first_fault.proofs.Firsts.{first-same}
use Rattle.generic_syntax.specs.declared.module_cst.OpCst.{out-OpCst}
use Rattle.module_faults.specs.OpFaults.{IsValueFault}
use Rattle.module_meaning.specs.Facts.{no_forms}
use Rattle.op_judgement.specs.Found.{basis_of}
use Rattle.op_judgement.specs.Grounds.{loaded_by}
use Rattle.op_judgement.specs.Parts.{IsGenericFault, IsPartsOrFault}
use Rattle.op_judgement.specs.Rules.{IsPlaceOrRule}
use Rattle.op_judgement.proofs.Breaking.{breaks-op, generic-right, right-op}
use Rattle.op_judgement.proofs.Completing.{generic-value, parts-known, value-generic}
use Rattle.op_judgement.proofs.Grown.{ground-itself, ready-grows}
use Rattle.value_meaning.specs.AliasTable.{alias_values}
use Rattle.op_judgement.proofs.judge.judge_generic.Goals as goal

pub returns-in-Err-clause-judged : goal.returns-in-Err-clause-judged
returns-in-Err-clause-judged g c =
    let b = basis_of (λ p. (goal.NativePredicate-dyn g p).property p.1) c.args.env.now in
    λ old al over.
    first-same (IsGenericFault (loaded_by b old) al c.args.form.now)
    (IsValueFault (loaded_by b old) no_forms al c.args.op.now) (Some c.in-Err.fault)
    (generic-value (loaded_by b old) al c.args.op.now c.args.form.now c.requires.form)
    (value-generic (loaded_by b old) al c.args.op.now c.args.form.now c.requires.form)
    (subst (IsPartsOrFault (loaded_by b old) al c.args.form.now c.parts_of.new.u) c.in-Err.is
    (c.in_ok-parts.ensures.found old al over))

pub judge_form-requires-clause-ready : goal.judge_form-requires-clause-ready
judge_form-requires-clause-ready g c = ready-grows c.requires.ready c.parts_of.ensures.later

pub judge_form-requires-clause-parts : goal.judge_form-requires-clause-parts
judge_form-requires-clause-parts g c =
    let b = basis_of (λ p. (goal.NativePredicate-dyn g p).property p.1) c.args.env.now in
    let u = c.args.u.now in
    let al = alias_values u b.aliases in
    parts-known (loaded_by b u) al c.args.form.now c.parts_of.new.u c.in-Ok.parts
    (subst (IsPartsOrFault (loaded_by b u) al c.args.form.now c.parts_of.new.u) c.in-Ok.is
    (c.in_ok-parts.ensures.found u al (ground-itself c.requires.ready (extends-refl u))))

pub returns-in-Ok-2-clause-judged : goal.returns-in-Ok-2-clause-judged
returns-in-Ok-2-clause-judged g c =
    let b = basis_of (λ p. (goal.NativePredicate-dyn g p).property p.1) c.args.env.now in
    let now = c.parts_of.new.u in
    λ old al over.
    let grown = extends-trans over.grown c.parts_of.ensures.later in
    let are = subst (IsPartsOrFault (loaded_by b old) al c.args.form.now now) c.in-Ok.is
    (c.in_ok-parts.ensures.found old al over) in
    let right = rw c.as_slice.ensures at (subst
    (IsPlaceOrRule b now c.as_slice.result.now c.args.form.now c.args.is_last c.in-Ok.parts)
    c.in-Ok-2.is c.in_ok-def.ensures) in
    right-op b grown over.sound al c.args.op.now c.args.form.now c.requires.form c.args.is_last
    c.in-Ok.parts are c.in-Ok-2.def right

pub returns-in-Err-2-clause-judged : goal.returns-in-Err-2-clause-judged
returns-in-Err-2-clause-judged g c =
    let b = basis_of (λ p. (goal.NativePredicate-dyn g p).property p.1) c.args.env.now in
    let now = c.parts_of.new.u in
    λ old al over.
    let grown = extends-trans over.grown c.parts_of.ensures.later in
    let are = subst (IsPartsOrFault (loaded_by b old) al c.args.form.now now) c.in-Ok.is
    (c.in_ok-parts.ensures.found old al over) in
    let wrong = rw c.as_slice.ensures at (subst
    (IsPlaceOrRule b now c.as_slice.result.now c.args.form.now c.args.is_last c.in-Ok.parts)
    c.in-Err-2.is c.in_ok-def.ensures) in
    record {
      values = generic-right b grown over.sound al c.args.op.now c.args.form.now c.requires.form
          c.args.is_last c.in-Ok.parts are;
      breaks = breaks-op b grown over.sound al c.args.op.now c.args.form.now c.requires.form
          c.args.is_last c.in-Ok.parts are c.in-Err-2.rule wrong;
    }
