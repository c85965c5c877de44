use Rattle.value_meaning.proofs.Answered.{answered-first, answered-means, answered-some}
use Rattle.value_meaning.proofs.Answered.{answered-unmeant}
use Rattle.value_meaning.proofs.value.value_in.Goals as goal

pub unwrap-requires : goal.unwrap-requires
unwrap-requires g c =
    answered-some c.args.u.now _ _ c.args.types.now c.args.aliases.now c.requires.defs
    c.requires.aliases c.args.cst.now c.judge.new.u c.in-Ok.judged c.in-Ok.ensures.judged
    c.in-None.is

pub returns-in-Some-clause-refused : goal.returns-in-Some-clause-refused
returns-in-Some-clause-refused g c =
    answered-first c.args.u.now _ _ c.args.types.now c.args.aliases.now c.requires.defs
    c.requires.aliases c.args.cst.now c.judge.new.u c.in-Ok.judged c.in-Ok.ensures.judged
    _ c.in-Some.is

pub returns-in-None-clause-right : goal.returns-in-None-clause-right
returns-in-None-clause-right g c =
    answered-first c.args.u.now _ _ c.args.types.now c.args.aliases.now c.requires.defs
    c.requires.aliases c.args.cst.now c.judge.new.u c.in-Ok.judged c.in-Ok.ensures.judged
    _ c.in-None.is

pub returns-in-None-clause-ok : goal.returns-in-None-clause-ok
returns-in-None-clause-ok g c =
    answered-means c.args.u.now _ _ c.args.types.now c.args.aliases.now c.requires.defs
    c.requires.aliases c.args.cst.now c.judge.new.u c.in-Ok.judged c.in-Ok.ensures.judged
    c.unwrap.result (search (c.unwrap.ensures))

pub returns-in-Some-clause-unmeant : goal.returns-in-Some-clause-unmeant
returns-in-Some-clause-unmeant g c =
    answered-unmeant c.args.u.now _ _ c.args.types.now c.args.aliases.now c.requires.defs
    c.requires.aliases c.args.cst.now c.judge.new.u c.in-Ok.judged c.in-Ok.ensures.judged
    _ c.in-Some.is
