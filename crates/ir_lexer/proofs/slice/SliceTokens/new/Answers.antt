use Rattle.ir_lexer.specs.Slice.{slice_source}
use Rattle.ir_lexer.proofs.Sliced.{tells}
use Rattle.ir_lexer.proofs.slice.SliceTokens.new.Goals as goal

pub returns : goal.returns
unfolding slice_source
returns c = tells c.args.src.now c.requires.short
