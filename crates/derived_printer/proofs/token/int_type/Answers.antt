use Rattle.derived_printer.specs.Spelling.{int_text}
use Rattle.derived_printer.proofs.Printing.{prints-call}
use Rattle.derived_printer.proofs.Spelled.{made, word-spelled}
use Rattle.derived_printer.proofs.token.int_type.Goals as goal

pub token-requires : goal.token-requires
token-requires g c =
    made _ _ _ _ _ c.as_slice.ensures.value c.in-Ok.ensures.text c.clear.ensures.items
    (word-spelled (int_text c.args.kind) c.add_int.ensures.bare)

pub returns-in-Err : goal.returns-in-Err
returns-in-Err g c =
    prints-call (c.out_of_memory.ensures.lays _) c.out_of_memory.ensures.again
    (λ stopped. c.out_of_memory.ensures.untouched) c.out_of_memory.ensures.same_sink
