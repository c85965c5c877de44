use Rattle.std.proofs.lemmas.Result.{err_from_is_err_and}
use Rattle.irdl_engine.proofs.definition_files.load_texts.Goals as goal

pub returns-in_err-trees-clause-stopped : goal.returns-in_err-trees-clause-stopped
returns-in_err-trees-clause-stopped g c =
    let p = err_from_is_err_and c.from_residual.result c.from_residual.ensures.1 in
    rw (p.1, p.2) (c.in_err-trees.ensures.err _)
