use Rattle.std.proofs.Common.{take}
use Rattle.first_fault.specs.Firsts.{IsFirst}
use Rattle.dialect_registry.specs.DefFaults.{IsAttrFault}
use Rattle.dialect_registry.specs.Parts.{Among}
use Rattle.dialect_registry.proofs.statement.judge_attrs.Given as goal

abbrev pub invariant-loop-attr : goal.invariant-loop-attr
invariant-loop-attr l = IsFirst (Among IsAttrFault (take l.attr-index l.attrs)) l.first
