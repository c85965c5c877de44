use Rattle.std.proofs.Common.{refl, subst, sym, true≢false}
use Rattle.attr_value.specs.Heads.{MayHaveKids}
use Rattle.attr_value.proofs.Kids.{length-kids-at}
use Rattle.attr_uniquer.proofs.uniquer.Uniquer.keeps_own_rule.Goals as goal

pub returns-then-not-kids_ok : goal.returns-then-not-kids_ok
returns-then-not-kids_ok c = (
  λ is. absurd (true≢false (sym is)),
  λ rule. c.if-not-kids_ok.ensures.1 (subst (MayHaveKids c.args.head.now)
      (length-kids-at c.args.self.now c.args.kids.now) rule.count),
)

pub returns : goal.returns
returns c = (
  λ is. record {
    count = subst (MayHaveKids c.args.head.now)
        (sym (length-kids-at c.args.self.now c.args.kids.now)) (c.if-not-kids_ok.ensures.0 refl);
    types = c.if-not-kids_are_right.ensures.0 refl;
    right = c.is_right.ensures.0 is;
  },
  λ rule. c.is_right.ensures.1 rule.right,
)
