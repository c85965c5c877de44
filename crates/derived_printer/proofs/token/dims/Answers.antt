use Rattle.std.proofs.Common.{◌≢◌, []}
use Rattle.derived_printer.proofs.Parts.{not-empty}
use Rattle.derived_printer.proofs.Printing.{prints-call}
use Rattle.derived_printer.proofs.Spelled.{made, some-dims-spelled}
use Rattle.derived_printer.proofs.token.dims.Goals as goal

pub token-requires : goal.token-requires
token-requires g c =
    let some : c.args.dims.now ≢ [] = not-empty _ _ c.is_empty.ensures c.if-is_empty.false in
    made _ _ _ _ _ c.as_slice.ensures.value c.in-Ok.ensures c.clear.ensures.items
    (some-dims-spelled c.args.kind c.args.dims.now c.requires some)

pub returns-in-Err : goal.returns-in-Err
returns-in-Err g c =
    prints-call (c.out_of_memory.ensures.lays _) c.out_of_memory.ensures.again
    (λ stopped. c.out_of_memory.ensures.untouched) c.out_of_memory.ensures.same_sink
