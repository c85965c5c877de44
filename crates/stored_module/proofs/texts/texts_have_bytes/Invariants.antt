use Rattle.std.proofs.Common.{◌↔◌, drop}
use Rattle.std.specs.List.{AllByRecursion}
use Rattle.derived_printer.specs.Spellable.{AreBytes}
use Rattle.stored_module.proofs.texts.texts_have_bytes.Given as goal

-- it holds of all if it does of what is left
abbrev pub invariant-loop-text : goal.invariant-loop-text
invariant-loop-text l =
    AllByRecursion AreBytes l.texts ↔ AllByRecursion AreBytes (drop l.text-index l.texts)
