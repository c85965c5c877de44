use Rattle.std.proofs.Common.{◌==◌}
use Rattle.grammar.proofs.Known.{whole-answered, whole-accepts, whole-read-from}
use Rattle.generic_syntax.specs.declared.pieces.TheConstants.{ROOM}
use Rattle.generic_syntax.proofs.Above.{pieces-known}
use Rattle.irdl_ops.specs.Definitions.{file, DefText, TooDeepDef}
use Rattle.irdl_ops.proofs.OneToken.{file-checked, file-met}
use Rattle.irdl_ops.proofs.read.read_definitions.Goals as goal

pub returns-clause-answer : goal.returns-clause-answer
unfolding DefText TooDeepDef
returns-clause-answer g c = whole-answered (pieces-known ROOM) (ROOM == 0) file file-checked
    file-met c.whole_file.result c.whole_file.ensures.whole

pub returns-clause-accepts : goal.returns-clause-accepts
unfolding DefText TooDeepDef
returns-clause-accepts g c = whole-accepts (pieces-known ROOM) (ROOM == 0) file file-checked
    file-met c.whole_file.result c.whole_file.ensures.whole

pub returns-clause-derived : goal.returns-clause-derived
unfolding DefText TooDeepDef
returns-clause-derived g c = whole-read-from (pieces-known ROOM) (ROOM == 0) file file-checked
    file-met c.whole_file.result c.whole_file.ensures.whole
