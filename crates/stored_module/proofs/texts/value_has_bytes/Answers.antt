use Rattle.std.proofs.Common.{sym, subst}
use Rattle.derived_printer.specs.Spellable.{HasBytes}
use Rattle.stored_module.proofs.Bytes.{kids-bytes}
use Rattle.stored_module.proofs.texts.value_has_bytes.Goals as goal

pub returns : goal.returns
returns c = subst HasBytes (sym c.view.ensures.value) (record {
  head = c.head_has_bytes.ensures;
  kids = kids-bytes c.args.u.now c.args.id.0 c.view.result.1.now c.view.ensures.earlier
      c.requires.earlier;
})
