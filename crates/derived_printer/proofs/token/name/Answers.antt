use Rattle.derived_printer.proofs.Printing.{prints-call}
use Rattle.derived_printer.proofs.Spelled.{made, name-spelled}
use Rattle.derived_printer.proofs.token.name.Goals as goal

pub token-requires : goal.token-requires
token-requires g c =
    rw c.name_class.ensures
    (made _ _ _ _ _ c.as_slice.ensures.value c.in-Ok.ensures c.clear.ensures.items
    (name-spelled c.args.is_type c.args.name.now c.requires))

pub returns-in-Err : goal.returns-in-Err
returns-in-Err g c =
    prints-call (c.out_of_memory.ensures.lays _) c.out_of_memory.ensures.again
    (λ stopped. c.out_of_memory.ensures.untouched) c.out_of_memory.ensures.same_sink
