-- What a call gave that wrote the text of a module.
--
--   GivesPrinted a status out err    the answer was given, whole or in part, and a write fault has
--                                    its cause
--
-- Inside: no public clause rests on this.
use Rattle.std.specs.Prelude.{◌≡◌, ◌⊎◌, true}
use Rattle.irdl_bytes.specs.Outside.{Rose}
use Rattle.irdl_engine.specs.declared.status.Status.{Status}
use Rattle.irdl_engine.specs.declared.status.Status.TheVariants.{WriteFault}
use Rattle.irdl_engine.specs.Answer.{Answer}
use Rattle.irdl_engine.specs.Obeyed.{SinkSeen, may_print}
use Rattle.irdl_engine.specs.Writes.{GivesAll, GivesFronts, GivesOut}

-- the answer was given: all of it, or up to a write that failed, or until memory ran out
pub record GivesPrinted (a : Answer) (status : Status) (out err : SinkSeen) : Type 0 where
  pub given : GivesAll a status out.bytes err.bytes
      ⊎ (GivesFronts a status out.bytes err.bytes ⊎ GivesOut a status out.bytes err.bytes)
  pub printing : may_print status ≡ true
  pub cause : status ≡ WriteFault → Rose out.before out.after ⊎ Rose err.before err.after
