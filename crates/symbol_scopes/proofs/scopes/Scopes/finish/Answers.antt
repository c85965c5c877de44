use Rattle.symbol_scopes.proofs.Finishing.{first-of-three}
use Rattle.symbol_scopes.proofs.scopes.Scopes.finish.Goals as goal

pub returns-in-Some-clause-refused : goal.returns-in-Some-clause-refused
returns-in-Some-clause-refused c =
    first-of-three c.self.inside.names c.self.inside.calls c.args.self c.in-Ok.values.first
    c.in-Ok-judge_blocks.blocks.first c.in-Ok-judge_aliases.others _ _ c.self.view_is
    c.in-Ok.ensures.first c.in-Ok-judge_blocks.ensures.first c.in-Ok-judge_aliases.ensures
    c.earlier.ensures c.in-Some.ensures

pub returns-clause-ok : goal.returns-clause-ok
returns-clause-ok c =
    first-of-three c.self.inside.names c.self.inside.calls c.args.self c.in-Ok.values.first
    c.in-Ok-judge_blocks.blocks.first c.in-Ok-judge_aliases.others _ _ c.self.view_is
    c.in-Ok.ensures.first c.in-Ok-judge_blocks.ensures.first c.in-Ok-judge_aliases.ensures
    c.earlier.ensures c.in-None.ensures
