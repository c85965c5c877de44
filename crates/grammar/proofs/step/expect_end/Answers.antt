use Rattle.std.proofs.Common.{rules, sym, ◌∙◌}
use Rattle.grammar.proofs.Codes.{no-end-at}
use Rattle.grammar.proofs.Gone.{end-empty}
use Rattle.grammar.proofs.step.expect_end.Goals as goal

pub returns-then-same_class : goal.returns-then-same_class
returns-then-same_class g c =
    let ended = sym c.class.ensures.class ∙ c.same_class.ensures.same (search rules) in
    record {
      ended = ended;
      empty =
          end-empty (g.T.TokenSource.state c.args.t.now).now ended c.class.ensures.order.spells;
      alone = λ ts is. g.met.T.TokenSource.end_is_last _ ts is ended;
    }

pub returns-else-same_class : goal.returns-else-same_class
returns-else-same_class g c =
    no-end-at (g.T.TokenSource.state c.args.t.now) _ (λ e. c.same_class.ensures.other (search rules) (c.class.ensures.class ∙ e))
    c.refused.ensures
