-- A write that fails for want of space appended as much as there was space for.
use Rattle.std.proofs.Common.{◌-◌, length, arith}
use Rattle.irdl_bytes.proofs.mem_sink.MemSinkSink.write_all.Goals as goal

pub returns-clause-err : goal.returns-clause-err
returns-clause-err c = (c.self.inside.limit - length c.self.inside.bytes.items, grind arith)
