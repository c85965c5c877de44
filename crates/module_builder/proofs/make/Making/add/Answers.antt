use Rattle.std.proofs.Common.{◌≡◌, ◌+◌, length, refl, arith, ap, ◌∙◌}
use Rattle.generic_syntax.specs.declared.module_cst.FormCst.{out-FormCst}
use Rattle.module_builder.specs.Fit.{uses_in, successors_in}
use Rattle.module_builder.proofs.Taking.{made-one}
use Rattle.module_builder.proofs.make.Making.add.Goals as goal

pub returns : goal.returns
returns c =
    let uses : c.in_ok-uses_end.uses_end ≡ c.args.self.now.uses
    + length (uses_in (out-FormCst c.args.op.now.form))
    = c.in_ok-uses_end.ensures ∙ ap (λ n. c.args.self.now.uses + n) c.use_count.ensures in
    let successors : c.in_ok-successors_end.successors_end ≡ c.args.self.now.successors
    + length (successors_in (out-FormCst c.args.op.now.form))
    = c.in_ok-successors_end.ensures
    ∙ ap (λ n. c.args.self.now.successors + n) c.successor_count.ensures in
    let operands_long : length c.in_ok-operands.operands.items
    ≡ length (uses_in (out-FormCst c.args.op.now.form))
    = omega (arith, uses, c.in_ok-operands.ensures.count) in
    let successors_long : length c.in_ok-successors.successors.items
    ≡ length (successors_in (out-FormCst c.args.op.now.form))
    = omega (arith, successors, c.in_ok-successors.ensures.count) in
    made-one c.args.uses.now c.args.firsts.now c.args.self.now _ c.args.op.now
    c.next_ids-def.result _
    (record {
      def = refl;
      place = refl;
      results = refl;
      keys = refl;
      values = refl;
      args = refl;
      operands = operands_long;
      successors = successors_long;
    })
    c.next_ids-def.ensures c.in_ok-push.ensures.items c.in_ok-operands.ensures.numbers uses
    c.in_ok-successors.ensures.numbers successors
