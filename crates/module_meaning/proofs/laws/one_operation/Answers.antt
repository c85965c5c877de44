use Rattle.module_meaning.proofs.OneCompletes.{one-completes, generic-typing}
use Rattle.module_meaning.specs.Facts.{no_forms}
use Rattle.module_meaning.proofs.laws.one_operation.Goals as goal

pub returns-clause-generic : goal.returns-clause-generic
returns-clause-generic c loaded aliases distinct =
    one-completes loaded no_forms aliases distinct (generic-typing loaded)

pub returns-clause-custom : goal.returns-clause-custom
returns-clause-custom c = one-completes
