use Rattle.std.proofs.Common.{◌≡◌, ◌∙◌, sym, rules, arith, ap}
use Rattle.ir_lexer.specs.declared.table.TheConstants.{START}
use Rattle.ir_lexer.specs.Scan.{scan}
use Rattle.ir_lexer.proofs.Longest.{scan-end, scan-dead, front-end, front-found, on-whole, on-part}
use Rattle.ir_lexer.proofs.scan.longest.Goals as goal
use Rattle.ir_lexer.proofs.scan.longest.Goals.{else-loop-at-test, then-loop-at-test+then-state-eq0}

pub returns-then-is_empty-clause-value : goal.returns-then-is_empty-clause-value
returns-then-is_empty-clause-value c = front-end c.args.text.now (search rules)

pub loop-at-preserved-then-is_whole : goal.loop-at-preserved-then-is_whole
loop-at-preserved-then-is_whole c =
    let l = c.loop-at in
    let to = c.same_state_end-at in
    let grows = on-whole c.args.text.now l.state c.step-state.result l.whole l.end l.at to.result
    (omega arith) c.if-state-eq0.false c.step-state.ensures.value
    (sym c.is_whole.ensures ∙ c.if-is_whole.true) (omega arith) (omega arith) to.ensures.same in
    (grows ∙ l.invariant.0, c.step-state.ensures.within, c.step-state.ensures.within, omega arith, omega arith)

pub loop-at-preserved : goal.loop-at-preserved
loop-at-preserved c =
    let l = c.loop-at in
    let to = c.same_state_end-at in
    let stays = on-part c.args.text.now l.state c.step-state.result l.whole l.end l.at to.result
    (omega arith) c.if-state-eq0.false c.step-state.ensures.value
    (sym c.is_whole.ensures ∙ c.if-is_whole.false) (omega arith) (omega arith) to.ensures.same in
    (stays ∙ l.invariant.0, c.step-state.ensures.within, l.invariant.2, omega arith, omega arith)

pub returns-clause-value : goal.returns-clause-value
returns-clause-value c =
    let l = c.loop-at in
    let text = c.args.text.now in
    let found : (l.whole, l.end) ≡ scan START 0 1 0 text =
    elim c.loop-at-test.branch [
      | else-loop-at-test w ↦
          sym (scan-end text l.state l.whole l.end l.at (omega arith)) ∙ l.invariant.0
      | then-loop-at-test+then-state-eq0 w ↦
          let dead = sym w.step-state.ensures.value ∙ w.if-state-eq0.true in
          sym (scan-dead text l.state l.whole l.end l.at (omega arith) dead) ∙ l.invariant.0
    ] in
    ap (λ x. (x, l.end)) c.class_at.ensures
    ∙ front-found text l.whole l.end (grind arith) found
