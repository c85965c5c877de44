use Rattle.std.proofs.Common.{◌↔◌, IsTrue, Contains, ◌∙◌, ◌++◌, ◌∷◌, [], ap, sym, subst, take, map, ◌+◌}
use Rattle.value_meaning.specs.Entered.{IsFirstRepeat, keys_of}
use Rattle.value_meaning.specs.Keys.{HasSeen}
use Rattle.value_meaning.specs.Meaning.{entry_seen}
use Rattle.generic_syntax.specs.declared.cst.EntryCst.{out-EntryCst}
use Rattle.value_meaning.proofs.Entering.{map-next, next-again, next-other}
use Rattle.value_meaning.proofs.entries.first_repeat.Goals as goal
use Rattle.value_meaning.proofs.entries.first_repeat.Goals.{then-branch, else-branch}

pub loop-entry-preserved : goal.loop-entry-preserved
loop-entry-preserved c =
    let es = c.args.entries.now in
    let i = c.loop-entry.entry-index in
    let e = c.entry-item.result in
    let seen = c.in_ok-add.ensures.ok (keys_of (take i es)) c.loop-entry.invariant.0 in
    let known = subst (λ k. IsTrue c.in_ok-add.field-0 ↔ Contains (keys_of (take i es)) k)
    c.bytes.ensures (c.in_ok-add.ensures.value (keys_of (take i es)) c.loop-entry.invariant.0) in (
      subst (λ ks. HasSeen ks c.add.new.self)
          (ap (λ k. keys_of (take i es) ++ k ∷ []) c.bytes.ensures
          ∙ sym (map-next (λ d. (out-EntryCst d).key) es i e c.loop-entry-test.true c.entry-item.is))
          seen,
      elim c.if-branch.branch [
        | then-branch w ↦ λ al.
            subst (λ f. IsFirstRepeat (map (entry_seen al) (take (i + 1) es)) f)
            (sym (w.first-is ∙ w.earlier-first.ensures))
            (next-again al es i e c.loop-entry-test.true c.entry-item.is c.loop-entry.first
            c.in_ok-add.field-0 (c.loop-entry.invariant.1 al) known w.if-branch.true)
        | else-branch w ↦ λ al.
            subst (λ f. IsFirstRepeat (map (entry_seen al) (take (i + 1) es)) f) (sym w.first-is)
            (next-other al es i e c.loop-entry-test.true c.entry-item.is c.loop-entry.first
            c.in_ok-add.field-0 (c.loop-entry.invariant.1 al) known w.if-branch.false)
      ],
    )
