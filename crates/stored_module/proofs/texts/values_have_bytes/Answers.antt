use Rattle.std.proofs.Common.{arith}
use Rattle.attr_value.specs.declared.head.Head.TheVariants as h
use Rattle.attr_value.specs.Values.{none, value}
use Rattle.constraint_solver.proofs.Filled.{all-from}
use Rattle.derived_printer.specs.Spellable.{HasBytes}
use Rattle.stored_module.proofs.texts.values_have_bytes.Goals as goal

pub returns : goal.returns
returns c = all-from HasBytes c.args.u.now (value h.Unit none)
    (λ i l. c.loop-i.invariant i (omega arith))
