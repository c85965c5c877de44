use Rattle.constraint_solver.proofs.Grows.{good-grows}
use Rattle.value_meaning.proofs.AliasesKept.{aliases-grow, aliases-more, aliases-same}
use Rattle.value_meaning.proofs.value.define_alias.Goals as goal

pub returns-in_err-id-clause-good : goal.returns-in_err-id-clause-good
returns-in_err-id-clause-good g c =
    aliases-grow c.value_in.ensures.later c.requires.defs c.requires.aliases

pub returns-in-Ok-clause-good : goal.returns-in-Ok-clause-good
returns-in-Ok-clause-good g c =
    aliases-more c.value_in.new.u _ c.args.types.now c.args.aliases.now c.define.new.self
    c.args.is_type _ c.in_ok-id.id
    (aliases-grow c.value_in.ensures.later c.requires.defs c.requires.aliases)
    c.in-Ok.ensures.ok c.in_ok-id.ensures.known
    (good-grows c.value_in.ensures.later c.requires.defs c.in_ok-id.ensures.ok.good)

pub returns-in-Err-clause-good : goal.returns-in-Err-clause-good
returns-in-Err-clause-good g c =
    aliases-same c.value_in.new.u _ c.args.types.now c.args.aliases.now c.define.new.self
    (aliases-grow c.value_in.ensures.later c.requires.defs c.requires.aliases)
    c.in-Err.ensures.err
