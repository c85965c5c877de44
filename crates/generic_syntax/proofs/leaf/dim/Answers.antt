use Rattle.std.proofs.Common.{◌≡◌, false, sym, ◌∙◌, rules, ◌==◌}
use Rattle.std.specs.List.{list_any}
use Rattle.generic_syntax.proofs.Dims.{known-plain}
use Rattle.generic_syntax.proofs.leaf.dim.Goals as goal

pub returns-then-not-contains : goal.returns-then-not-contains
returns-then-not-contains c =
    let none : list_any (λ b. b == 63) c.args.spelling.now ≡ false =
    sym c.contains.ensures.value ∙ search rules in
    rw (known-plain c.args.spelling.now none) c.from_slice.ensures
