use Rattle.std.proofs.Common.{List, [], ◌∷◌, ◌++◌, take, ap, sym, ◌∙◌, subst, arith}
use Rattle.first_fault.specs.Firsts.{earlier_of, IsFirst, IsFaultBy}
use Rattle.symbol_scopes.specs.Faults.{alias_fault}
use Rattle.symbol_scopes.specs.Aliases.{KnowsAliases}
use Rattle.symbol_scopes.specs.ScopeMarks.{ScopeMark}
use Rattle.symbol_scopes.specs.Calls.{mark_of, marks_of}
use Rattle.first_fault.proofs.Rules.{first-more, first-none}
use Rattle.symbol_scopes.proofs.Walks.{at-step, marks-whole}
use Rattle.symbol_scopes.proofs.aliases.judge_aliases.Goals as goal

pub loop-at-init : goal.loop-at-init
loop-at-init c = record { known = c.in_ok-known.ensures; first = first-none alias_fault }

pub alias_fault-requires-clause-known : goal.alias_fault-requires-clause-known
alias_fault-requires-clause-known c = (_, c.loop-at.invariant.known)

pub take-requires-clause-known : goal.take-requires-clause-known
take-requires-clause-known c = (_, c.loop-at.invariant.known)

pub loop-at-preserved : goal.loop-at-preserved
loop-at-preserved c =
    let ns = c.args.names.now in
    let calls = c.args.calls.now in
    let i = c.loop-at.at in
    let ms = marks_of ns calls in
    let m = mark_of ns c.get-next.result in
    let count = c.len-at-end.ensures.count in
    let test = c.loop-at-test.true in
    let here = at-step ns calls i c.get-next.result (omega arith) c.get-next.ensures in
    let before = take i ms in
    record {
      known = subst (λ l. KnowsAliases ns l c.take.new.self) (sym here.longer)
          (c.take.ensures before c.loop-at.invariant.known);
      first = subst (λ (l : List ScopeMark). IsFirst (IsFaultBy alias_fault l) c.earlier-first.result) (sym here.longer)
          (subst (IsFirst (IsFaultBy alias_fault (before ++ m ∷ [])))
          (sym (c.earlier-first.ensures ∙ ap (earlier_of c.loop-at.first)
          (c.alias_fault.ensures before c.loop-at.invariant.known)))
          (first-more alias_fault before m c.loop-at.first c.loop-at.invariant.first));
    }

pub returns : goal.returns
returns c =
    let ns = c.args.names.now in
    let count = c.len-at-end.ensures.count in
    let test = c.loop-at-test.false in
    subst (λ (l : List ScopeMark). IsFirst (IsFaultBy alias_fault l) c.loop-at.first)
    (marks-whole ns c.args.calls.now c.loop-at.at (omega arith)) c.loop-at.invariant.first
