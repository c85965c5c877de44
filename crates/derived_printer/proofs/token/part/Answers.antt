use Rattle.derived_printer.proofs.Printing.{prints-call}
use Rattle.derived_printer.proofs.Spelled.{made, are-bytes, symbol-spelled}
use Rattle.derived_printer.proofs.token.part.Goals as goal

pub token-requires : goal.token-requires
token-requires g c =
    made _ _ _ _ _ c.as_slice.ensures.value c.in-Ok.ensures c.clear.ensures.items
    (symbol-spelled c.args.name.now (are-bytes c.args.name.now c.type_inv.name))

pub returns-in-Err : goal.returns-in-Err
returns-in-Err g c =
    prints-call (c.out_of_memory.ensures.lays _) c.out_of_memory.ensures.again
    (λ stopped. c.out_of_memory.ensures.untouched) c.out_of_memory.ensures.same_sink
