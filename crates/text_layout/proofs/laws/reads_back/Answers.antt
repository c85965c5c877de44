use Rattle.text_layout.proofs.Classes.{no-clashes}
use Rattle.text_layout.proofs.ReadsBack.{layout-reads-back}
use Rattle.text_layout.proofs.Single.{apart-is, is-apart}
use Rattle.text_layout.proofs.Touching.{tight-texts}
use Rattle.text_layout.proofs.laws.reads_back.Goals as goal

pub returns : goal.returns
returns c = record {
  tokens = layout-reads-back;
  classes = no-clashes;
  tight = tight-texts;
  empty = λ a x y spelled. (is-apart a x y spelled, apart-is a x y spelled);
}
