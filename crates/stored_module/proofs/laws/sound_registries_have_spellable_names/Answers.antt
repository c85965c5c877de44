use Rattle.stored_module.proofs.Names.{names-spellable}
use Rattle.stored_module.proofs.laws.sound_registries_have_spellable_names.Goals as goal

pub returns : goal.returns
returns c = names-spellable
