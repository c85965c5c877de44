use Rattle.std.proofs.Common.{◌≡◌, ◌∙◌, sym, subst, List, ap, append-nil, append_assoc, ◌++◌, ◌∷◌, []}
use Rattle.constraint_solver.proofs.Grows.{extends-refl, extends-trans}
use Rattle.dialect_registry.proofs.Walks.{whole-take}
use Rattle.generic_syntax.specs.declared.cst.EntryCst.{EntryCst}
use Rattle.op_judgement.specs.Entered.{AreEntered}
use Rattle.op_judgement.specs.Found.{basis_of}
use Rattle.op_judgement.specs.Grounds.{loaded_by}
use Rattle.op_judgement.proofs.Finding.{take-push}
use Rattle.op_judgement.proofs.Grown.{ready-grows, ground-grows}
use Rattle.op_judgement.proofs.entries.Entries.add_all.Goals as goal

pub loop-entry-init : goal.loop-entry-init
loop-entry-init g c =
    let b = basis_of (λ p. (goal.NativePredicate-dyn g p).property p.1) c.args.env.now in
    record {
      grown = extends-refl c.args.u.now;
      entered = λ old al before over x.
          subst (λ (l : List EntryCst). AreEntered (loaded_by b old) al l c.args.u.now
          c.args.self.now) (sym (append-nil before)) x;
    }

pub add-requires : goal.add-requires
add-requires g c =
    record { ready = ready-grows c.requires.ready c.loop-entry.invariant.grown }

pub loop-entry-preserved : goal.loop-entry-preserved
loop-entry-preserved g c =
    let b = basis_of (λ p. (goal.NativePredicate-dyn g p).property p.1) c.args.env.now in
    let items = c.args.entries.now in
    let i = c.loop-entry.entry-index in
    let entry = c.entry-item.result in
    let next = take-push items i entry c.loop-entry-test.true c.entry-item.is in
    record {
      grown = extends-trans c.loop-entry.invariant.grown c.add.ensures.later;
      entered = λ old al before over x.
          let here = ground-grows c.requires.ready over c.loop-entry.invariant.grown in
          subst (λ (l : List EntryCst). AreEntered (loaded_by b old) al l c.add.new.u
          c.add.new.self)
          (append_assoc before _ (entry ∷ []) ∙ ap (λ l. before ++ l) (sym next))
          (c.in_ok-add.ensures.entered old al _ here
          (c.loop-entry.invariant.entered old al before over x));
    }

pub returns-clause-entered : goal.returns-clause-entered
returns-clause-entered g c =
    let b = basis_of (λ p. (goal.NativePredicate-dyn g p).property p.1) c.args.env.now in
    λ old al before over x.
    subst (λ (l : List EntryCst). AreEntered (loaded_by b old) al (before ++ l) c.loop-entry.u
    c.loop-entry.self)
    (whole-take c.args.entries.now c.loop-entry.entry-index c.loop-entry.auto.entry-index-end
    c.loop-entry-test.false)
    (c.loop-entry.invariant.entered old al before over x)
