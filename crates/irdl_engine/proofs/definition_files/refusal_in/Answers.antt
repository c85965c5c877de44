use Rattle.irdl_engine.proofs.Judging.{bytes-there}
use Rattle.irdl_engine.proofs.definition_files.refusal_in.Goals as goal

pub refusal_at-requires : goal.refusal_at-requires
refusal_at-requires c =
    rw c.deref.ensures.value (c.requires.short c.args.found.now.file c.index-texts-file.result.items
    (bytes-there c.args.texts.now c.args.found.now.file c.index-texts-file.result c.requires.there
    c.index-texts-file.is))
