use Rattle.std.proofs.Common.{◌≡◌, [], rules}
use Rattle.generic_syntax.specs.Modules.{unlabelled}
use Rattle.generic_syntax.proofs.ModuleSteps.{unlabelled-some}
use Rattle.generic_syntax.proofs.module.operations.unlabelled.Goals as goal

pub returns-then-is_empty : goal.returns-then-is_empty
unfolding unlabelled
returns-then-is_empty c =
    let none : c.args.ops ≡ [] = search rules in rw none c.new-found.ensures

pub returns : goal.returns
returns c =
    let some : c.args.ops ≡ [] → ⊥ = λ e. absurd (search rules) in
    rw (c.in_ok-push.ensures.ok, c.new-found.ensures) (unlabelled-some c.args.ops _ some
    c.new.ensures)
