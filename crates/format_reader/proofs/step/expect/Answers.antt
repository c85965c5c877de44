use Rattle.std.proofs.Common.{refl, sym, ◌∙◌}
use Rattle.grammar.specs.Looks.{any_of}
use Rattle.format_reader.specs.Ran.{now_of}
use Rattle.format_reader.proofs.Runs.{tok-ok, tok-err, past-end}
use Rattle.format_reader.proofs.step.expect.Goals as goal

pub returns-then-not-is_class : goal.returns-then-not-is_class
returns-then-not-is_class c = tok-err (sym c.is_class.ensures.passes ∙ c.if-not-is_class.true) c.refused.ensures

pub returns : goal.returns
returns c = let passed = (sym c.is_class.ensures.passes ∙ c.if-not-is_class.false) in
    tok-ok c.is_class.ensures.some passed refl
    (c.advance.ensures (past-end (any_of c.args.kind) (now_of c.args.t.now) passed c.requires))
