use Rattle.std.proofs.Common.{sym, ◌∙◌}
use Rattle.value_meaning.proofs.keys.KeySet.has.Goals as goal

pub returns : goal.returns
returns c = λ seen is. (
  λ found. (is.same c.args.key.now).0 (sym c.contains.ensures ∙ found),
  λ among. c.contains.ensures ∙ (is.same c.args.key.now).1 among,
)
