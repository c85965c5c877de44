-- What a reader of definition files takes of the grammar of values, and how lists go on behind it.
use Rattle.std.proofs.Common.{◌==◌}
use Rattle.grammar.proofs.Known.{known-fits}
use Rattle.grammar.proofs.Repeats.{Fits}
use Rattle.generic_syntax.specs.declared.pieces.TheConstants.{ROOM}
use Rattle.generic_syntax.proofs.Above.{pieces-known}
use Rattle.irdl_ops.specs.Forms.{in_defs}

-- the pieces of values in a definition file take tokens
pub defs-fit : Fits in_defs
defs-fit = known-fits (pieces-known ROOM) (ROOM == 0)
