-- One token decides at each place of a module without custom forms, and bytes can give a token for
-- each look of one.
use Rattle.std.proofs.Common.{refl}
use Rattle.ir_lexer.specs.Classes.{same_class}
use Rattle.ir_lexer.specs.Scan.{step, is_whole, class_at}
use Rattle.generic_syntax.specs.Operations.{no_customs}
use Rattle.generic_syntax.proofs.Regions.{Decides}

pub generic-decides : Decides no_customs
unfolding step is_whole class_at same_class
generic-decides = record {
  region_one = refl;
  region_met = refl;
  file_one = refl;
  file_met = refl;
}
