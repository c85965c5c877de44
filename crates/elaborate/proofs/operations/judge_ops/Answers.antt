use Rattle.std.proofs.Common.{List, ap, map, take, refl, subst}
use Rattle.constraint_solver.proofs.Grows.{extends-refl, extends-trans}
use Rattle.dialect_registry.proofs.Walks.{whole-take}
use Rattle.elaborate.specs.Operations.{AreFound}
use Rattle.module_faults.specs.declared.standing.Standing.{Standing as Listed}
use Rattle.module_faults.specs.Listed.{seen}
use Rattle.native_predicate.specs.Lists.{count, tests}
use Rattle.op_judgement.specs.Grounds.{IsReady, basis, loaded_by}
use Rattle.op_judgement.proofs.Grown.{ground-grows, sound-grows}
use Rattle.op_judgement.proofs.Known.{only-known}
use Rattle.value_meaning.proofs.AliasesKept.{aliases-grow}
use Rattle.elaborate.proofs.Finding.{found-grows, found-none, found-other, seen-other}
use Rattle.elaborate.proofs.Taking.{map-next}
use Rattle.elaborate.proofs.operations.judge_ops.Goals as goal
use Rattle.elaborate.proofs.operations.judge_ops.Goals.{in-Op+in_ok-judgement+in_ok-add, in_default}

pub loop-standing-init : goal.loop-standing-init
loop-standing-init g c = record {
  grown = extends-refl c.args.u.now;
  found = λ old al over. found-none _ al _ _ refl refl c.new.ensures.items;
}

pub judge_op-requires-clause-sound : goal.judge_op-requires-clause-sound
judge_op-requires-clause-sound g c =
    sound-grows c.loop-standing.invariant.grown c.requires.sound

pub judge_op-requires-clause-aliases : goal.judge_op-requires-clause-aliases
judge_op-requires-clause-aliases g c =
    aliases-grow c.loop-standing.invariant.grown c.requires.sound.types c.requires.aliases

pub loop-standing-preserved : goal.loop-standing-preserved
loop-standing-preserved g c =
    let registry = c.args.registry.now in
    let b = basis (tests (λ p. (goal.NativePredicate-dyn g p).property p.1) c.args.natives.now)
    (count c.args.natives.now) registry c.args.aliases.now in
    let list = c.args.standings.now in
    let i = c.loop-standing.standing-index in
    let before = map seen (take i list) in
    let item = c.standing-item.result in
    let next = map-next seen list i item c.loop-standing-test.true c.standing-item.is in
    let ready : IsReady b c.args.u.now =
    record { sound = c.requires.sound; good = c.requires.aliases } in
    elim c.match-standing.branch [
      | in-Op+in_ok-judgement+in_ok-add w ↦
          let later = w.judge_op.ensures.later in
          rw (w.u-is, w.found-is, next) (record {
            grown = extends-trans c.loop-standing.invariant.grown later;
            found = λ old al over.
                let now = c.loop-standing.invariant.found old al over in
                let here = ground-grows ready over c.loop-standing.invariant.grown in
                let loaded = loaded_by b old in
                rw (ap seen w.in-Op.is) (w.in_ok-add.ensures loaded al before _ _ _
                (record { same = only-known registry.ops c.requires.sound.ops_apart }) refl
                (found-grows loaded al later before c.loop-standing.found now)
                (w.in_ok-judgement.ensures.judged old al here));
          })
      | in_default w ↦
          rw (w.u-is, w.found-is, next) (record {
            grown = c.loop-standing.invariant.grown;
            found = λ old al over.
                found-other (loaded_by b old) al before c.loop-standing.u (seen item)
                c.loop-standing.found (seen-other item w.in_default.not-Op)
                (c.loop-standing.invariant.found old al over);
          })
    ]

pub returns-clause-found : goal.returns-clause-found
returns-clause-found g c =
    let b = basis (tests (λ p. (goal.NativePredicate-dyn g p).property p.1) c.args.natives.now)
    (count c.args.natives.now) c.args.registry.now c.args.aliases.now in
    λ old al over.
    subst (λ (l : List Listed). AreFound (loaded_by b old) al (map seen l) c.loop-standing.u
    c.loop-standing.found)
    (whole-take c.args.standings.now c.loop-standing.standing-index
    c.loop-standing.auto.standing-index-end c.loop-standing-test.false)
    (c.loop-standing.invariant.found old al over)
