use Rattle.std.proofs.Common.{◌↔◌, ◌-◌, drop}
use Rattle.attr_value.specs.Heads.{Ascend}
use Rattle.attr_value.proofs.rule.ascend.Given as goal

-- what is left, with the text before it, decides the rest
abbrev pub invariant-loop-i : goal.invariant-loop-i
invariant-loop-i l = Ascend l.texts ↔ Ascend (drop (l.i - 1) l.texts)
