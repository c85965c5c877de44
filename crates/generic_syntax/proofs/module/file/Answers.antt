use Rattle.grammar.proofs.Runs.{exit, both-ok, both-first, both-second}
use Rattle.generic_syntax.specs.declared.pieces.TheConstants.{ROOM}
use Rattle.generic_syntax.specs.Operations.{no_customs}
use Rattle.generic_syntax.proofs.Regions.{reader-of}
use Rattle.generic_syntax.proofs.ModuleTokens.{generic-decides}
use Rattle.generic_syntax.proofs.module.file.Goals as goal

pub returns-in_err-aliases : goal.returns-in_err-aliases
returns-in_err-aliases g c = exit c.from_residual.ensures
    (both-first (c.in_err-aliases.ensures (reader-of no_customs generic-decides ROOM)))

pub returns-in_err-ops : goal.returns-in_err-ops
returns-in_err-ops g c = exit c.from_residual-in_err-ops.ensures
    (both-second (c.in_ok-aliases.ensures (reader-of no_customs generic-decides ROOM))
    c.in_err-ops.ensures)

pub returns : goal.returns
returns g c =
    both-ok (c.in_ok-aliases.ensures (reader-of no_customs generic-decides ROOM))
    c.in_ok-ops.ensures
