use Rattle.op_verifier.proofs.wanted.Wanted.ask_results.Goals as goal

pub returns : goal.returns
returns c = record {
  same = c.ask_segments.ensures.same;
  decides = rw c.sizes_given-given.ensures at c.ask_segments.ensures.decides;
}
