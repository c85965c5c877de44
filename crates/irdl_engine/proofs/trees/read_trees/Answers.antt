use Rattle.std.proofs.lemmas.Result.{err_from_is_err_and}
use Rattle.irdl_engine.specs.Judged.{SpellsFile}
use Rattle.irdl_engine.specs.Said.{bytes_of, IsTreeOf}
use Rattle.irdl_engine.proofs.Items.{pushed, zip-more}
use Rattle.irdl_engine.proofs.Judging.{bytes-there, stops-spelling}
use Rattle.std.proofs.Common.{Err, subst, sym}
use Rattle.irdl_engine.specs.Judged.{SpellFiles}
use Rattle.std.proofs.Common.{take, ◌+◌}
use Rattle.irdl_engine.proofs.trees.read_trees.Goals as goal

pub read_tree-requires : goal.read_tree-requires
read_tree-requires c =
    rw c.deref.ensures.value (c.requires c.loop-file.file c.index-texts-file.result.items
    (bytes-there c.args.texts.now c.loop-file.file c.index-texts-file.result
    c.loop-file-test.true c.index-texts-file.is))

pub returns-in_err-tree-clause-err : goal.returns-in_err-tree-clause-err
returns-in_err-tree-clause-err c =
    let p = err_from_is_err_and c.from_residual.result c.from_residual.ensures.1 in
    rw (p.1, p.2) (λ natives. stops-spelling natives (bytes_of c.args.texts.now)
    c.loop-file.trees.items c.loop-file.file c.index-texts-file.result.items _
    c.loop-file.invariant
    (bytes-there c.args.texts.now c.loop-file.file c.index-texts-file.result
    c.loop-file-test.true c.index-texts-file.is)
    (subst (λ t. IsTreeOf t c.loop-file.file (Err c.in_err-tree.field-0.0)) c.deref.ensures.value
    c.in_err-tree.ensures))

pub loop-file-preserved : goal.loop-file-preserved
loop-file-preserved c =
    let more = pushed _ c.loop-file.trees.items c.push.new.self.items c.in_ok-tree.tree
    c.in_ok-map_err.ensures.variant c.push.ensures.items in
    subst (λ l. SpellFiles (take (c.loop-file.file + 1) (bytes_of c.args.texts.now)) l) (sym more)
    (zip-more SpellsFile (bytes_of c.args.texts.now) c.loop-file.trees.items c.loop-file.file
    c.index-texts-file.result.items c.in_ok-tree.tree
    (bytes-there c.args.texts.now c.loop-file.file c.index-texts-file.result
    c.loop-file-test.true c.index-texts-file.is)
    c.loop-file.invariant (rw c.deref.ensures.value at c.in_ok-tree.ensures))
