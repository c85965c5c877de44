use Rattle.text_layout.proofs.Laying.{lays-nothing, lays-then, lays-more, whole, whole-stopped}
use Rattle.text_layout.proofs.laws.adds_up.Goals as goal

pub returns : goal.returns
returns c = record {
  nothing = lays-nothing;
  behind = lays-then;
  stopped = lays-more;
  whole = whole;
  cut = whole-stopped;
}
