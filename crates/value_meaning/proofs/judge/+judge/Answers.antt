use Rattle.std.proofs.Common.{refl}
use Rattle.generic_syntax.specs.declared.cst.ValueCst.{out-ValueCst}
use Rattle.value_meaning.specs.KidsSeen.{kid_seen, kids_seen}
use Rattle.value_meaning.proofs.Listing.{by-each, so-far-more, so-far-all, tree-judged}
use Rattle.value_meaning.proofs.judge.+judge.Goals as goal
use Rattle.value_meaning.proofs.judge.+judge.Goals.{in-Tree+in_ok-judged-in-Tree}
use Rattle.value_meaning.proofs.judge.+judge.Goals.{in-Lone+in_ok-judged-in-Lone}

pub loop-kid-preserved : goal.loop-kid-preserved
loop-kid-preserved g t c =
    so-far-more _ c.kids_nesting-inner.result c.args.u.now
    (λ al. kids_seen al (out-ValueCst c.args.cst.now).node) c.loop-kid.u c.loop-kid.i
    c.loop-kid.kids c.loop-kid.invariant c.match-kid.u (λ al. kid_seen al c.in-Some.kid)
    c.match-kid.judged c.add.new.self c.in-Some-checked_add.next
    (search (c.in-Some-checked_add.ensures)) c.in-Some.ensures.kid
    (elim c.match-kid.branch [
      | in-Tree+in_ok-judged-in-Tree w ↦ rw (w.u-is, w.judged-is, w.in-Tree.is) (record {
        more = w.in_ok-judged-in-Tree.ensures.grown;
        less = w.in_ok-judged-in-Tree.ensures.known;
        judged = w.in_ok-judged-in-Tree.ensures.judged;
      })
      | in-Lone+in_ok-judged-in-Lone w ↦ rw (w.u-is, w.judged-is, w.in-Lone.is) (record {
        more = w.in_ok-judged-in-Lone.ensures.grown;
        less = w.in_ok-judged-in-Lone.ensures.known;
        judged = by-each _ _ _ _ _ _ w.in_ok-judged-in-Lone.ensures.judged;
      })
    ])
    c.in_ok-add.ensures

pub returns-clause-judged : goal.returns-clause-judged
returns-clause-judged g t c =
    tree-judged _ c.args.nesting c.kids_nesting-inner.result c.args.u.now c.loop-kid.u c.form.new.u
    c.args.cst.now _ c.loop-kid.kids c.in_ok-node.node c.stood.result refl
    c.loop-kid.invariant.grown c.kids_nesting-inner.ensures
    (so-far-all _ c.kids_nesting-inner.result c.args.u.now
    (λ al. kids_seen al (out-ValueCst c.args.cst.now).node) c.loop-kid.u c.loop-kid.i
    c.loop-kid.kids c.loop-kid.invariant
    (λ al. search (c.in_default.ensures.kid al)))
    c.in_ok-node.ensures.judged c.stood.ensures.judged
