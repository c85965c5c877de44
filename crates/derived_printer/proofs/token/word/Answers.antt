use Rattle.derived_printer.proofs.Spelled.{word-spelled}
use Rattle.derived_printer.proofs.token.word.Goals as goal

pub token-requires : goal.token-requires
token-requires g c = word-spelled _ c.requires
