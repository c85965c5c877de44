use Rattle.std.proofs.Common.{List, ◌++◌, take}
use Rattle.irdl_ops.specs.declared.raw.RawDialect.{RawDialect}
use Rattle.dialect_registry.specs.Scopes.{Finds}
use Rattle.dialect_registry.proofs.targets.Targets.add_file.Given as goal

abbrev pub invariant-loop-dialect : goal.invariant-loop-dialect
invariant-loop-dialect l = (before : List RawDialect) → Finds before l.fn.self
    → Finds (before ++ take l.dialect-index l.dialect-items) l.self
