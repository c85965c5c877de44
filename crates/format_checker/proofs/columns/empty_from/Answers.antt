use Rattle.std.proofs.Common.{◌≡◌, ◌≤◌, ℕ, ap, sym, ◌∙◌, subst, length, drop, arith}
use Rattle.std.specs.Prelude.{nat_le}
use Rattle.dialect_defs.specs.declared.format.Element.{Element}
use Rattle.format_checker.specs.Columns.{branch_empty, counts_empty, kind_of}
use Rattle.format_checker.proofs.Branches.{empty-from, front, full}
use Rattle.format_checker.proofs.columns.empty_from.Goals as goal

pub returns-then-not-counts_empty-clause-empty : goal.returns-then-not-counts_empty-clause-empty
returns-then-not-counts_empty-clause-empty c =
    let l = c.loop-at in
    let e = c.index-items-at.result in
    empty-from c.args.op.now c.args.anchor c.args.items.now l.at l.invariant.1 l.invariant.0
    (full e (omega arith) c.index-items-at.is
    (ap (λ b. counts_empty c.args.op.now b (kind_of e)) (sym c.is_anchor.ensures)
    ∙ ap (λ (x : Element). counts_empty c.args.op.now c.is_anchor.result (kind_of x)) c.index-items-at.is
    ∙ sym c.counts_empty.ensures ∙ c.if-not-counts_empty.true))

pub returns-clause-empty : goal.returns-clause-empty
returns-clause-empty c =
    let l = c.loop-at in
    let zero : l.at ≡ 0 = omega arith in
    subst (λ n. (k : ℕ) → k ≤ length c.args.items.now
    → branch_empty c.args.op.now c.args.anchor k (drop k c.args.items.now) ≡ nat_le n k) zero
    (empty-from c.args.op.now c.args.anchor c.args.items.now l.at l.invariant.1 l.invariant.0
    (front zero))
