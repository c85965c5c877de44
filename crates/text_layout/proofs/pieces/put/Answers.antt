use Rattle.std.proofs.Common.{◌≡◌, rules}
use Rattle.std.proofs.lemmas.Result.{on_err_weaker}
use Rattle.text_layout.proofs.Appending.{front-behind}
use Rattle.text_layout.proofs.pieces.put.Goals as goal

pub returns-clause-err : goal.returns-clause-err
returns-clause-err g c =
    let same : c.try_extend_from_slice.new.self.items ≡ c.args.held.now.items = search rules in
    on_err_weaker c.write_all.result
    (front-behind _ _ _ c.args.held.now.items c.args.piece.now
    (rw same at c.in_ok-hand_over.ensures.ok)) c.write_all.ensures.err
