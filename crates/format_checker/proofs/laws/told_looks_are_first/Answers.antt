use Rattle.format_checker.proofs.Order.{told-first, none-told}
use Rattle.format_checker.proofs.laws.told_looks_are_first.Goals as goal

pub returns : goal.returns
returns c = record { some = told-first; none = none-told }
