-- One token decides at each place of a format, and for each look of its grammar there is a token
-- that a text may have.
use Rattle.std.proofs.Common.{◌≡◌, true, refl}
use Rattle.ir_lexer.specs.Classes.{same_class}
use Rattle.grammar.specs.OneToken.{check}
use Rattle.grammar.specs.Rules.{whole}
use Rattle.grammar.proofs.FlatReads.{no_looks}
use Rattle.format_reader.specs.Formats.{format}
use Rattle.format_reader.proofs.Respelled.{all_met}

-- one token decides
pub format-checked : check no_looks no_looks (whole format) ≡ true
unfolding same_class
format-checked = refl

-- a text may have a token for each look
pub format-met : all_met (whole format) ≡ true
unfolding same_class
format-met = refl
