use Rattle.std.proofs.Common.{◌+◌, ◌∙◌, ap}
use Rattle.std.specs.List.{prefix_len}
use Rattle.std.proofs.lemmas.List.{take_rest}
use Rattle.format_reader.specs.Scan.{front}
use Rattle.format_reader.specs.Tokens.{is_blank}
use Rattle.format_reader.proofs.Next.{cut-is}
use Rattle.format_reader.proofs.tokens.token_at.Goals as goal

pub returns-clause-value : goal.returns-clause-value
returns-clause-value c =
    let src = c.args.text.now in
    let start = c.args.at + c.blank_len.result in
    let found = c.front-found in
    cut-is src c.args.at start found.result.len found.result.class
    (ap (λ n. c.args.at + n)
    (c.blank_len.ensures.value ∙ ap (prefix_len is_blank) (take_rest src c.args.at)))
    (found.ensures.value ∙ ap front (take_rest src start))
