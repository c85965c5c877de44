use Rattle.std.proofs.Common.{◌==◌}
use Rattle.grammar.proofs.Known.{whole-answered, whole-accepts, whole-read-from}
use Rattle.generic_syntax.specs.declared.pieces.TheConstants.{ROOM}
use Rattle.generic_syntax.specs.Modules.{file}
use Rattle.generic_syntax.specs.ModuleText.{ModText, TooDeepMod}
use Rattle.generic_syntax.specs.Operations.{no_customs}
use Rattle.generic_syntax.proofs.Regions.{modules-known}
use Rattle.generic_syntax.proofs.ModuleTokens.{generic-decides}
use Rattle.generic_syntax.proofs.module.parse_generic.Goals as goal

pub returns-clause-kept : goal.returns-clause-kept
returns-clause-kept g c = c.whole_module.ensures.whole.kept

pub returns-clause-answer : goal.returns-clause-answer
unfolding ModText TooDeepMod
returns-clause-answer g c =
    whole-answered (modules-known no_customs generic-decides ROOM) (ROOM == 0) (file no_customs)
    generic-decides.file_one generic-decides.file_met c.whole_module.result
    c.whole_module.ensures.whole

pub returns-clause-accepts : goal.returns-clause-accepts
unfolding ModText TooDeepMod
returns-clause-accepts g c =
    whole-accepts (modules-known no_customs generic-decides ROOM) (ROOM == 0) (file no_customs)
    generic-decides.file_one generic-decides.file_met c.whole_module.result
    c.whole_module.ensures.whole

pub returns-clause-derived : goal.returns-clause-derived
unfolding ModText TooDeepMod
returns-clause-derived g c =
    whole-read-from (modules-known no_customs generic-decides ROOM) (ROOM == 0) (file no_customs)
    generic-decides.file_one generic-decides.file_met c.whole_module.result
    c.whole_module.ensures.whole
