use Rattle.std.proofs.Common.{◌≡◌, ℕ, ◌+◌, ◌-◌, ◌++◌, get_or, ◌∙◌, ap, arith}
use Rattle.generic_syntax.proofs.Dims.{dims-grow}
use Rattle.generic_syntax.proofs.leaf.split_dims.Goals as goal

pub loop-at-preserved : goal.loop-at-preserved
loop-at-preserved c =
    let l = c.loop-at in
    let text = c.args.text.now in
    let here : l.at + 1 - 1 ≡ l.at = omega arith in
    let grows = dims-grow text l.from l.at (omega arith) (omega arith)
    (λ q. c.if-text-at-eq120.false (ap (λ (i : ℕ). get_or text i 0) here ∙ q)) in
    (ap (λ x. l.found ++ x) grows ∙ l.invariant.0, omega arith, omega arith)
