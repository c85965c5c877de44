use Rattle.std.proofs.Common.{arith}
use Rattle.derived_printer.proofs.Printing.{prints-call}
use Rattle.derived_printer.proofs.Spelled.{made, block-spelled}
use Rattle.derived_printer.proofs.number_names.block_name.Goals as goal

pub token-requires : goal.token-requires
token-requires g c =
    made _ _ _ _ _ c.as_slice.ensures.value c.in-Ok.ensures c.clear.ensures.items
    (block-spelled _ (let small = c.ranges.k in omega (arith, small)))

pub returns-in-Err : goal.returns-in-Err
returns-in-Err g c =
    prints-call (c.out_of_memory.ensures.lays _) c.out_of_memory.ensures.again
    (λ stopped. c.out_of_memory.ensures.untouched) c.out_of_memory.ensures.same_sink
