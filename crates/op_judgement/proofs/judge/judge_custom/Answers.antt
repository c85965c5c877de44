use Rattle.std.proofs.Common.{◌≡◌, ◌∙◌, Some, sym, ap, refl, slice_get}
use Rattle.dialect_registry.specs.Registered.{place_of}
use Rattle.module_faults.specs.OpFaults.{unknown, not_last, unsatisfied}
use Rattle.module_meaning.specs.Facts.{name_in}
use Rattle.generic_syntax.specs.declared.module_cst.CustomCst.{out-CustomCst}
use Rattle.generic_syntax.specs.declared.module_cst.OpCst.{out-OpCst}
use Rattle.op_judgement.specs.Found.{basis_of}
use Rattle.op_judgement.specs.Grounds.{loaded_by}
use Rattle.op_judgement.proofs.Breaking.{custom-fits, custom-right, custom-unsatisfied, known-of}
use Rattle.op_judgement.proofs.Breaking.{may-stand, unknown-of}
use Rattle.op_judgement.proofs.judge.judge_custom.Goals as goal

pub returns-in_default : goal.returns-in_default
returns-in_default g c =
    let b = basis_of (λ p. (goal.NativePredicate-dyn g p).property p.1) c.args.env.now in
    let op = c.args.op.now in
    let k = c.args.form.now in
    let named = ap name_in c.requires.form in
    let none = ap (place_of b.registry.ops) (sym c.bytes.ensures) ∙ sym c.op.ensures
    ∙ c.in_default.is in
    λ old now al over. record {
      values = custom-right (loaded_by b old) al op k c.requires.form;
      breaks = unknown (unknown-of b over.sound al op (out-CustomCst k).name named none);
    }

pub returns-then-stands_early : goal.returns-then-stands_early
returns-then-stands_early g c =
    let b = basis_of (λ p. (goal.NativePredicate-dyn g p).property p.1) c.args.env.now in
    let op = c.args.op.now in
    let k = c.args.form.now in
    let named = ap name_in c.requires.form in
    let is = ap (place_of b.registry.ops) (sym c.bytes.ensures) ∙ sym c.op.ensures
    ∙ c.in-Some.is in
    let stands = ap (λ l. slice_get l c.in-Some.place) (sym c.ops.ensures)
    ∙ c.definition_at-def.ensures in
    let early = c.if-stands_early.ensures.0 refl in
    λ old now al over. record {
      values = custom-right (loaded_by b old) al op k c.requires.form;
      breaks = not_last c.definition_at-def.result.now
          (known-of b over.sound al op (out-CustomCst k).name named c.in-Some.place
          c.definition_at-def.result.now is stands)
          (custom-fits (loaded_by b old) al op k c.requires.form (out-OpCst op).results)
          early.0 early.1;
    }

pub returns : goal.returns
returns g c =
    let b = basis_of (λ p. (goal.NativePredicate-dyn g p).property p.1) c.args.env.now in
    let op = c.args.op.now in
    let k = c.args.form.now in
    let named = ap name_in c.requires.form in
    let is = ap (place_of b.registry.ops) (sym c.bytes.ensures) ∙ sym c.op.ensures
    ∙ c.in-Some.is in
    let stands = ap (λ l. slice_get l c.in-Some.place) (sym c.ops.ensures)
    ∙ c.definition_at-def.ensures in
    λ old now al over. record {
      values = custom-right (loaded_by b old) al op k c.requires.form;
      breaks = unsatisfied c.definition_at-def.result.now
          (known-of b over.sound al op (out-CustomCst k).name named c.in-Some.place
          c.definition_at-def.result.now is stands)
          (custom-fits (loaded_by b old) al op k c.requires.form (out-OpCst op).results)
          (may-stand c.definition_at-def.result.now.terminator c.args.is_last
          (λ both. absurd (cc (c.if-stands_early.ensures.1 both))))
          (custom-unsatisfied (loaded_by b old) al op k c.requires.form);
    }
