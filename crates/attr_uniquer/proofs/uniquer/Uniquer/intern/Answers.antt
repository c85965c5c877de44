use Rattle.std.proofs.Common.{rules, subst, ap, ◌∙◌, sym, length, []}
use Rattle.attr_value.specs.declared.head.Head.TheVariants as h
use Rattle.attr_value.specs.Ids.{AreKnown, AreDistinct}
use Rattle.attr_uniquer.proofs.Grown.{as-many}
use Rattle.attr_uniquer.proofs.Inserted.{known-if-ok}
use Rattle.attr_uniquer.proofs.Once.{values-distinct}
use Rattle.attr_uniquer.proofs.uniquer.Uniquer.intern.Goals as goal

pub depth_over-depth-requires-clause-known : goal.depth_over-depth-requires-clause-known
depth_over-depth-requires-clause-known c = subst (λ n. AreKnown n c.args.kids.now)
    (sym (ap length c.as_slice.ensures.keys ∙ as-many _ _ c.self.view_is)) c.requires

pub intern_row-requires-clause-next : goal.intern_row-requires-clause-next
intern_row-requires-clause-next c = record {
  known = subst (AreKnown (length c.self.inside.rows.keys)) (sym c.in_ok-kids.ensures)
      (subst (λ n. AreKnown n c.args.kids.now) (sym (as-many _ _ c.self.view_is)) c.requires);
  deep = search rules;
}

pub returns-in_err-kids-clause-distinct : goal.returns-in_err-kids-clause-distinct
returns-in_err-kids-clause-distinct c = subst AreDistinct c.self.view_is
    (values-distinct c.self.inside.rows.keys (record { head = h.Unit; kids = []; depth = 0 })
    c.self.invariant c.as_slice.ensures.unique)

pub returns-clause-known : goal.returns-clause-known
returns-clause-known c = known-if-ok _ _ _ _ c.intern_row.ensures.ok
