use Rattle.std.proofs.Common.{◌++◌, refl}
use Rattle.std.specs.Io.KnownBytes.{Appends}
use Rattle.irdl_bytes.specs.Outside.{AppendsPrefix}
use Rattle.text_layout.proofs.Flows.{beyond-some, cut-owed}
use Rattle.text_layout.proofs.output.Output.cut.Goals as goal

pub returns-in-Ok-clause-cause : goal.returns-in-Ok-clause-cause
returns-in-Ok-clause-cause g c =
    let out = c.args.self.now in (
      c.requires.beyond,
      cut-owed (Appends _ _) c.deref.result.now out.held.items c.args.gap.now c.args.text.now
          out.laid _ _ c.min.ensures refl c.deref.ensures.value c.in-Ok.ensures.whole,
    )

pub returns-in-Err-clause-cause : goal.returns-in-Err-clause-cause
returns-in-Err-clause-cause g c =
    let out = c.args.self.now in (
      c.in-Err.ensures.cause,
      cut-owed (AppendsPrefix _ _) c.deref.result.now out.held.items c.args.gap.now
          c.args.text.now out.laid _ _ c.min.ensures refl c.deref.ensures.value
          c.in-Err.ensures.part,
      beyond-some out.held.items (c.args.gap.now ++ c.args.text.now) out.laid c.requires.within
          c.requires.beyond,
    )
