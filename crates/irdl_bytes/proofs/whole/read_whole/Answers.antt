-- A piece moves from what comes to what was read.
use Rattle.std.proofs.Common.{◌≡◌, ◌++◌, take, rules}
use Rattle.irdl_bytes.proofs.Reading.{reading-more}
use Rattle.irdl_bytes.proofs.whole.read_whole.Goals as goal

pub loop-count-preserved : goal.loop-count-preserved
loop-count-preserved g c = record {
  same_map = search rules;
  stays_steady = search rules;
  later = search rules;
  room = search rules;
  within = search rules;
  reading =
      let grown : c.extend_from_slice.new.self.items ≡
      c.loop-count.bytes.items ++ take c.in-Ok.count c.read.new.into = search rules in
      rw grown (reading-more _ _ _ _ _ c.in-Ok.count c.read.new.into c.loop-count.invariant.reading
      c.in-Ok.ensures.within (rw c.loop-count.invariant.same_map at c.in-Ok.ensures.bytes));
}
