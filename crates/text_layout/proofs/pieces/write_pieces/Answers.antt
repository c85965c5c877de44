use Rattle.std.proofs.Common.{◌≡◌, add-one, arith, take}
use Rattle.std.proofs.lemmas.List.{take_all}
use Rattle.std.proofs.lemmas.Result.{err_from_is_err_and, on_err_weaker}
use Rattle.text_layout.proofs.Appending.{front-piece, sends-front, sends-piece}
use Rattle.text_layout.proofs.pieces.write_pieces.Goals as goal

pub loop-piece-preserved : goal.loop-piece-preserved
loop-piece-preserved g c = record {
  sends =
      rw add-one (sends-piece (λ p. p.now) c.args.pieces.now c.loop-piece.piece-index _
      (omega arith) _ _ _ c.loop-piece.held.items _ c.loop-piece.invariant.sends
      c.in_ok-put.ensures.ok);
  later = omega arith;
}

pub returns-in_err-put-clause-part : goal.returns-in_err-put-clause-part
returns-in_err-put-clause-part g c =
    let p = err_from_is_err_and c.from_residual.result c.from_residual.ensures.1 in
    rw p.1 (front-piece (λ q. q.now) c.args.pieces.now c.loop-piece.piece-index _ (omega arith)
    _ _ _ c.loop-piece.held.items c.loop-piece.invariant.sends c.in_err-put.ensures.err)

pub returns-clause-part : goal.returns-clause-part
returns-clause-part g c =
    let all : take c.loop-piece.piece-index c.args.pieces.now ≡ c.args.pieces.now =
    take_all c.loop-piece.piece-index c.args.pieces.now (omega arith) in
    on_err_weaker c.hand_over.result
    (sends-front _ _ _ _ c.loop-piece.held.items (rw all at c.loop-piece.invariant.sends))
    c.hand_over.ensures.err
