use Rattle.std.proofs.Common.{subst, ap, ◌∙◌, sym, [], eq-eqb}
use Rattle.std.proofs.lemmas.Map.Views.{exact_unsigned_eq}
use Rattle.attr_value.specs.declared.head.Head.TheVariants as h
use Rattle.attr_value.specs.Ids.{AreDistinct, at}
use Rattle.attr_uniquer.proofs.Once.{values-distinct}
use Rattle.attr_uniquer.proofs.uniquer.Uniquer.same.Goals as goal

pub returns-clause-distinct : goal.returns-clause-distinct
returns-clause-distinct c = subst AreDistinct c.self.view_is
    (values-distinct c.self.inside.rows.keys (record { head = h.Unit; kids = []; depth = 0 })
    c.self.invariant c.len.ensures.unique)

pub returns-clause-same : goal.returns-clause-same
returns-clause-same c =
    let a = c.args.a.0 in
    let b = c.args.b.0 in
    let distinct = returns-clause-distinct c in (
      λ t. ap (at c.args.self.now) (exact_unsigned_eq a b (sym c.eq.ensures ∙ t)),
      λ same. c.eq.ensures
          ∙ eq-eqb a b (distinct a b c.requires.a c.requires.b same),
    )
