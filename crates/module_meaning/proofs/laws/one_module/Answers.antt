use Rattle.module_meaning.proofs.OneCompletes.{generic-typing}
use Rattle.module_meaning.proofs.OneModule.{one-completed, one-nearly-completed, completed-nearly}
use Rattle.module_meaning.specs.Facts.{no_forms}
use Rattle.module_meaning.proofs.laws.one_module.Goals as goal

pub returns-clause-generic : goal.returns-clause-generic
returns-clause-generic c loaded distinct =
    one-completed loaded no_forms distinct (generic-typing loaded)

pub returns-clause-custom : goal.returns-clause-custom
returns-clause-custom c = one-completed

pub returns-clause-generic_nearly : goal.returns-clause-generic_nearly
returns-clause-generic_nearly c loaded distinct =
    one-nearly-completed loaded no_forms distinct (generic-typing loaded)

pub returns-clause-custom_nearly : goal.returns-clause-custom_nearly
returns-clause-custom_nearly c = one-nearly-completed

pub returns-clause-apart : goal.returns-clause-apart
returns-clause-apart c = completed-nearly
