use Rattle.format_checker.proofs.Trees.{format-one, format-ends}
use Rattle.format_checker.proofs.laws.formats_are_decided.Goals as goal

pub returns : goal.returns
returns c = record {
  one = λ op es region known sound clear. format-one region known op es sound clear;
  ends = λ op es region known sound clear. format-ends region known op es sound clear;
}
