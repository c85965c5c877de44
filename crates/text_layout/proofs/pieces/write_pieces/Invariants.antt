use Rattle.std.proofs.Common.{◌≤◌, take}
use Rattle.std.specs.List.{flat_map}
use Rattle.text_layout.specs.Pieces.{Sends}
use Rattle.text_layout.proofs.pieces.write_pieces.Given as goal

abbrev pub invariant-loop-piece : goal.invariant-loop-piece
invariant-loop-piece g l = record {
  sends : Sends (g.S.Sink.written l.fn.sink) (g.S.Sink.written l.sink)
      (flat_map (λ p. p.now) (take l.piece-index l.pieces)) l.held.items;
  later : g.S.Sink.faults l.fn.sink ≤ g.S.Sink.faults l.sink;
}
