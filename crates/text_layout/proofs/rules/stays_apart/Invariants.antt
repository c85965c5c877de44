use Rattle.std.proofs.Common.{◌≡◌, ◌++◌, take}
use Rattle.text_layout.proofs.Single.{NoneYet}
use Rattle.text_layout.proofs.rules.stays_apart.Given as goal

abbrev pub invariant-loop-byte : goal.invariant-loop-byte
invariant-loop-byte l = record {
  joined : l.joined.items ≡ l.a ++ take l.byte-index l.front;
  none : NoneYet l.a l.front l.byte-index;
}
