use Rattle.ir_lexer.proofs.Next.{cut-is}
use Rattle.ir_lexer.proofs.lexer.token_at.Goals as goal

pub returns-clause-value : goal.returns-clause-value
returns-clause-value c =
    let start = c.layout_end-start in
    let found = c.longest-found in
    cut-is c.args.src.now c.args.at start.result found.result.len found.result.class
    start.ensures.value found.ensures.value
