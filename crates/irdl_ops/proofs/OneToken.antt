-- One token decides at each place of a definition file, and bytes can give a token for each look.
use Rattle.std.proofs.Common.{◌≡◌, true, refl}
use Rattle.ir_lexer.specs.Scan.{step, is_whole, class_at}
use Rattle.ir_lexer.specs.Classes.{same_class}
use Rattle.grammar.specs.OneToken.{check}
use Rattle.grammar.specs.Rules.{whole}
use Rattle.grammar.proofs.Respelled.{all_met}
use Rattle.generic_syntax.specs.Pieces.{piece_looks, piece_more_looks}
use Rattle.irdl_ops.specs.Definitions.{file}

-- one token decides at each place of a definition file
pub file-checked : check piece_looks piece_more_looks (whole file) ≡ true
unfolding same_class
file-checked = refl

-- bytes can give a token for each look of a definition file
pub file-met : all_met (whole file) ≡ true
unfolding step is_whole class_at same_class
file-met = refl
