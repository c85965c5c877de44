use Rattle.std.proofs.Common.{sym, ◌∙◌}
use Rattle.derived_printer.proofs.Spelled.{word-spelled}
use Rattle.derived_printer.proofs.token.key.Goals as goal

pub token-requires : goal.token-requires
token-requires g c = word-spelled c.args.bytes.now (sym c.is_bare.ensures ∙ c.if-is_bare.true)
