use Rattle.derived_printer.proofs.Spelled.{sign-spelled}
use Rattle.derived_printer.proofs.token.sign.Goals as goal

pub token-requires : goal.token-requires
token-requires g c = rw c.sign_text.ensures (sign-spelled c.args.class c.requires)
