use Rattle.module_meaning.proofs.GenericForm.{shows-generic, generic-shows}
use Rattle.module_meaning.proofs.laws.generic_form.Goals as goal

pub returns : goal.returns
returns c aliases d g o ins outs =
    (generic-shows aliases d g o ins outs, shows-generic aliases d g o ins outs)
