use Rattle.std.proofs.Common.{◌↔◌, drop}
use Rattle.std.specs.List.{AllByRecursion}
use Rattle.attr_value.specs.Ids.{AreKnown}
use Rattle.ir_store.specs.Numbering.{ops_in}
use Rattle.op_verifier.specs.Seen.{Site}
use Rattle.op_verifier.proofs.sound.has_attrs.Given as goal

-- what is left decides the rest
abbrev pub invariant-loop-i : goal.invariant-loop-i
invariant-loop-i l =
    AllByRecursion (λ (site : Site). AreKnown l.len site.head.values) (ops_in l.store)
    ↔ AllByRecursion (λ (site : Site). AreKnown l.len site.head.values) (drop l.i (ops_in l.store))
