-- The numbers with which the process ends.
--
--   status_number s  the number of a status
use Rattle.std.specs.Prelude.{ℕ}
use Rattle.irdl_engine.specs.declared.status.Status.{Status}
use Rattle.irdl_engine.specs.declared.status.Status.TheVariants.{Done, DefinitionRefused, Usage}
use Rattle.irdl_engine.specs.declared.status.Status.TheVariants.{ReadFault, WriteFault}
use Rattle.irdl_engine.specs.declared.status.Status.TheVariants.{OutOfMemory, InputLimit, OutputLimit}
use Rattle.irdl_engine.specs.declared.status.Status.TheVariants.{ModuleRefused}

-- the number of each status
abbrev pub status_number : Status → ℕ
status_number Done = 0
status_number DefinitionRefused = 1
status_number ModuleRefused = 2
status_number Usage = 3
status_number ReadFault = 4
status_number WriteFault = 5
status_number OutOfMemory = 6
status_number InputLimit = 7
status_number OutputLimit = 8
