use Rattle.std.proofs.Common.{◌∙◌, ◌<◌, arith, refl, length}
use Rattle.std.proofs.lemmas.Option.{slice_get-get_or}
use Rattle.std.specs.List.{AllByRecursion}
use Rattle.attr_value.specs.Ids.{at}
use Rattle.dialect_defs.specs.declared.body.VarId.{VarId}
use Rattle.dialect_defs.specs.Assignments.{Has}
use Rattle.constraint_solver.proofs.Given.{has-one}
use Rattle.type_infer.proofs.Downs.{each-none, each-step}
use Rattle.type_infer.proofs.Filling.{filled-size}
use Rattle.type_infer.proofs.Lists.{all-get}
use Rattle.type_infer.proofs.wanted.Wanted.find_all.Goals as goal

pub loop-var-init : goal.loop-var-init
loop-var-init c = record {
  size = refl;
  found = λ values says types known good id right.
      each-none says types values
      (λ final a. AllByRecursion (λ w. Has a w (at final c.args.id.0)) c.args.vars.now)
      c.args.vars.now c.args.self.now.slots.items known good;
}

pub loop-var-preserved : goal.loop-var-preserved
loop-var-preserved c =
    let i = c.loop-var.var-index in
    let v = slice_get-get_or c.args.vars.now i (record { 0 = 0 }) c.loop-var-test.true in
    let below = all-get (λ (w : VarId). w.0 < length c.args.self.now.slots.items) c.args.vars.now i _
    c.requires v in
    let size = c.loop-var.invariant.size in
    record {
      size = filled-size _ _ _ _ _ c.find-changed.ensures ∙ c.loop-var.invariant.size;
      found = λ values says types known good id right.
          each-step says types values
          (λ final a. AllByRecursion (λ w. Has a w (at final c.args.id.0)) c.args.vars.now)
          c.args.vars.now c.args.self.now.slots.items _ _ _ _ i _ c.args.id id right v
          (omega (arith, below, size))
          (λ final a later have z has.
          has-one a _ z (at final c.args.id.0) has
          (all-get (λ w. Has a w (at final c.args.id.0)) c.args.vars.now i _ have v))
          (c.loop-var.invariant.found values says types known good id right) c.find-changed.ensures;
    }
