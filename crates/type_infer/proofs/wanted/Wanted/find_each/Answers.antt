use Rattle.std.proofs.Common.{◌∙◌, ◌<◌, arith, refl, length}
use Rattle.std.proofs.lemmas.Option.{slice_get-get_or}
use Rattle.attr_value.specs.declared.head.ValueId.{ValueId}
use Rattle.attr_value.specs.Ids.{at}
use Rattle.dialect_defs.specs.declared.body.VarId.{VarId}
use Rattle.dialect_defs.specs.Assignments.{HaveEach}
use Rattle.constraint_solver.proofs.Given.{has-one}
use Rattle.type_infer.specs.Completes.{values_at}
use Rattle.type_infer.proofs.Downs.{each-none, each-step, good-id}
use Rattle.type_infer.proofs.Filling.{filled-size}
use Rattle.type_infer.proofs.Lists.{all-get, each-get, get-mapped, known-at}
use Rattle.type_infer.proofs.wanted.Wanted.find_each.Goals as goal

pub loop-i-init : goal.loop-i-init
loop-i-init c = record {
  size = refl;
  found = λ values says types known good ids right.
      each-none says types values
      (λ final a. HaveEach a c.args.vars.now (values_at final c.args.ids.now)) c.args.vars.now
      c.args.self.now.slots.items known good;
}

pub loop-i-preserved : goal.loop-i-preserved
loop-i-preserved c =
    let i = c.loop-i.i in
    let v = slice_get-get_or c.args.vars.now i (record { 0 = 0 }) c.loop-i-test.true in
    let id = slice_get-get_or c.args.ids.now i (record { 0 = 0 })
    (omega (arith, c.requires.many, c.loop-i-test.true)) in
    let below = all-get (λ (w : VarId). w.0 < length c.args.self.now.slots.items) c.args.vars.now i _
    c.requires.vars v in
    let size = c.loop-i.invariant.size in
    record {
      size = filled-size _ _ _ _ _ c.find-changed.ensures ∙ c.loop-i.invariant.size;
      found = λ values says types known good ids right.
          each-step says types values
          (λ final a. HaveEach a c.args.vars.now (values_at final c.args.ids.now)) c.args.vars.now
          c.args.self.now.slots.items _ _ _ _ i _ _
          (known-at _ c.args.ids.now i _ ids id) (good-id values says types c.args.ids.now i _ right id)
          v (omega (arith, below, size))
          (λ final a later have z has.
          has-one a _ z _ has (each-get a c.args.vars.now (values_at final c.args.ids.now) i _ _ have v
          (get-mapped (λ (k : ValueId). at final k.0) c.args.ids.now i _ id)))
          (c.loop-i.invariant.found values says types known good ids right) c.find-changed.ensures;
    }
