use Rattle.std.proofs.Common.{◌≡◌, true, false, rules, refl}
use Rattle.grammar.specs.Looks.{passes, word}
use Rattle.grammar.proofs.Codes.{refuses-is, refuses-at}
use Rattle.grammar.proofs.Meet.{before-end, word-before-end}
use Rattle.grammar.proofs.Runs.{took-token, took-refused, took-failed, took-exit, past-exit}
use Rattle.grammar.proofs.step.expect_word.Goals as goal

pub returns-then-not-is_word : goal.returns-then-not-is_word
returns-then-not-is_word g c =
    let now = (g.T.TokenSource.state c.args.t.now).now in
    let failed : passes (word c.args.word.now) now ≡ false = search rules in
    record {
      took = took-refused failed (refuses-is now _ c.refused.ensures);
      refused = refuses-at (Unit {0}) (passes (word c.args.word.now)) (g.T.TokenSource.state c.args.t.now) _ failed c.refused.ensures;
      memory = λ e. absurd (cc (refuses-is now _ c.refused.ensures, e));
    }

pub returns-in_err-advance : goal.returns-in_err-advance
returns-in_err-advance g c =
    let s = g.T.TokenSource.state c.args.t.now in
    let passed : passes (word c.args.word.now) s.now ≡ true = search rules in
    record {
      took = took-exit c.from_residual.ensures (took-failed c.in_err-advance.ensures);
      refused = past-exit (passes (word c.args.word.now)) s _ _ c.from_residual.ensures passed;
      memory = λ e. c.in_err-advance.ensures.stops;
    }

pub returns : goal.returns
returns g c =
    let now = (g.T.TokenSource.state c.args.t.now).now in
    let passed : passes (word c.args.word.now) now ≡ true = search rules in
    let other = before-end (word c.args.word.now) now passed word-before-end in
    record {
      took = took-token passed c.is_word.ensures.order (g.met.T.TokenSource.ends _) other refl c.in_ok-advance.ensures;
      refused = passed;
      memory = λ e. absurd (cc);
    }
