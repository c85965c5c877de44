use Rattle.std.proofs.Common.{◌∙◌, sym, arith}
use Rattle.ir_lexer.proofs.Longest.{run-end, spells-where, spells-none}
use Rattle.ir_lexer.proofs.scan.class_of.Goals as goal

pub returns-then-is_whole : goal.returns-then-is_whole
returns-then-is_whole c =
    let l = c.loop-at in
    spells-where c.args.text.now l.state c.class_at.result
    (sym (run-end c.args.text.now l.state l.at (omega arith)) ∙ l.invariant.0)
    (sym c.is_whole.ensures ∙ c.if-is_whole.true) c.class_at.ensures

pub returns-else-is_whole : goal.returns-else-is_whole
returns-else-is_whole c =
    let l = c.loop-at in
    spells-none c.args.text.now l.state
    (sym (run-end c.args.text.now l.state l.at (omega arith)) ∙ l.invariant.0)
    (sym c.is_whole.ensures ∙ c.if-is_whole.false)
