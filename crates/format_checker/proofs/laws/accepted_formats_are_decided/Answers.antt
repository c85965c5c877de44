use Rattle.format_checker.proofs.Accepting.{accepted-readable}
use Rattle.format_checker.proofs.Trees.{format-one, format-ends}
use Rattle.format_checker.proofs.laws.accepted_formats_are_decided.Goals as goal

pub returns : goal.returns
returns c = record {
  readable = accepted-readable;
  one = λ op raw es region known x. let r = accepted-readable op raw es x in
      format-one region known op es r.groups r.one_token;
  ends = λ op raw es region known x. let r = accepted-readable op raw es x in
      format-ends region known op es r.groups r.one_token;
}
