use Rattle.std.proofs.Common.{◌∷◌, ap}
use Rattle.format_reader.specs.Scan.{tokens_behind}
use Rattle.format_reader.proofs.tokens.FormatTokens.new.Goals as goal

pub returns : goal.returns
returns c = ap (λ t. t ∷ tokens_behind c.args.text.now t) c.token_at.ensures.value
