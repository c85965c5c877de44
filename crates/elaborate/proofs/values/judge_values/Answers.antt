use Rattle.std.proofs.Common.{◌≡◌, ◌∙◌, ap, map, refl, subst, sym, rules}
use Rattle.module_faults.specs.OpFaults.{rank}
use Rattle.constraint_solver.proofs.Grows.{extends-trans}
use Rattle.elaborate.specs.Elaborated.{loaded_of}
use Rattle.elaborate.specs.Regions.{IsDeepRegion}
use Rattle.first_fault.specs.Firsts.{IsFirst}
use Rattle.module_faults.specs.Listed.{seen}
use Rattle.native_predicate.specs.Lists.{count, tests}
use Rattle.op_judgement.proofs.Grown.{sound-grows}
use Rattle.elaborate.proofs.Staging.{alias-refused, fault-ranked, faulty-found, found-judged}
use Rattle.elaborate.proofs.Staging.{found-over, known-found, operations-refused, values-refused}
use Rattle.elaborate.proofs.values.judge_values.Goals as goal

pub judge_ops-requires-clause-sound : goal.judge_ops-requires-clause-sound
judge_ops-requires-clause-sound g c =
    sound-grows c.define_aliases.ensures.later c.requires.sound

pub returns-in-Some-clause-refused : goal.returns-in-Some-clause-refused
returns-in-Some-clause-refused g c =
    let said = tests (λ p. (goal.NativePredicate-dyn g p).property p.1) c.args.natives.now in
    let r = c.args.registry.now in
    let tree = c.args.tree.now in
    let faulty = faulty-found c.args.u.now c.define_aliases.new.u said r.types _ tree.aliases
    c.define_aliases.new.aliases c.in_ok-faulty.faulty c.in_ok-faulty.ensures.defined
    c.as_slice.ensures c.in-Some.fault c.in-Some.is in
    alias-refused (loaded_of c.args.u.now said r) tree c.in-Some.fault _
    c.first_deep_region-deep.result faulty
    (subst (λ ss. IsFirst (IsDeepRegion ss) c.first_deep_region-deep.result) c.requires.stands
    c.first_deep_region-deep.ensures)
    (sym c.earlier.ensures ∙ search rules)

pub returns-in-Some-earlier-clause-refused : goal.returns-in-Some-earlier-clause-refused
returns-in-Some-earlier-clause-refused g c =
    let said = tests (λ p. (goal.NativePredicate-dyn g p).property p.1) c.args.natives.now in
    let r = c.args.registry.now in
    let tree = c.args.tree.now in
    let known = known-found c.args.u.now c.define_aliases.new.u said r.types _ tree.aliases
    c.define_aliases.new.aliases c.in_ok-faulty.faulty c.in_ok-faulty.ensures.defined
    c.as_slice.ensures c.in_default.is in
    let all = found-over said (count c.args.natives.now) r tree c.args.u.now
    c.define_aliases.new.u c.judge_ops.new.u c.define_aliases.new.aliases
    (map seen c.args.list.now) c.in_ok-found.found c.define_aliases.ensures.later
    c.requires.sound known c.requires.stands c.in_ok-found.ensures.found in
    values-refused (loaded_of c.args.u.now said r) tree c.judge_ops.new.u
    c.first_deep_region-deep.result c.in_ok-found.found known.valued
    (subst (λ ss. IsFirst (IsDeepRegion ss) c.first_deep_region-deep.result) c.requires.stands
    c.first_deep_region-deep.ensures)
    all _ (sym c.earlier-2.ensures ∙ c.in-Some-earlier.is)

pub returns-in-Some-operations-clause-refused : goal.returns-in-Some-operations-clause-refused
returns-in-Some-operations-clause-refused g c =
    let said = tests (λ p. (goal.NativePredicate-dyn g p).property p.1) c.args.natives.now in
    let r = c.args.registry.now in
    let tree = c.args.tree.now in
    let known = known-found c.args.u.now c.define_aliases.new.u said r.types _ tree.aliases
    c.define_aliases.new.aliases c.in_ok-faulty.faulty c.in_ok-faulty.ensures.defined
    c.as_slice.ensures c.in_default.is in
    let all = found-over said (count c.args.natives.now) r tree c.args.u.now
    c.define_aliases.new.u c.judge_ops.new.u c.define_aliases.new.aliases
    (map seen c.args.list.now) c.in_ok-found.found c.define_aliases.ensures.later
    c.requires.sound known c.requires.stands c.in_ok-found.ensures.found in
    let ranked = fault-ranked (loaded_of c.args.u.now said r) tree c.judge_ops.new.u
    c.first_deep_region-deep.result c.in_ok-found.found known.valued
    (subst (λ ss. IsFirst (IsDeepRegion ss) c.first_deep_region-deep.result) c.requires.stands
    c.first_deep_region-deep.ensures)
    all (sym c.earlier-2.ensures ∙ c.in_default-earlier.is) c.in-Some-operations.fault
    c.in-Some-operations.is in
    let same = c.rule_of.ensures ranked.0 ranked.1 in
    operations-refused (loaded_of c.args.u.now said r) tree c.judge_ops.new.u
    c.first_deep_region-deep.result c.in_ok-found.found known.valued
    (subst (λ ss. IsFirst (IsDeepRegion ss) c.first_deep_region-deep.result) c.requires.stands
    c.first_deep_region-deep.ensures)
    all (sym c.earlier-2.ensures ∙ c.in_default-earlier.is) c.in-Some-operations.fault _
    c.rule_of.result c.in-Some-operations.is (ranked.1 ∙ ap rank (sym same)) refl
    c.code.ensures

pub returns-clause-judged : goal.returns-clause-judged
returns-clause-judged g c =
    let said = tests (λ p. (goal.NativePredicate-dyn g p).property p.1) c.args.natives.now in
    let r = c.args.registry.now in
    let tree = c.args.tree.now in
    let known = known-found c.args.u.now c.define_aliases.new.u said r.types _ tree.aliases
    c.define_aliases.new.aliases c.in_ok-faulty.faulty c.in_ok-faulty.ensures.defined
    c.as_slice.ensures c.in_default.is in
    let all = found-over said (count c.args.natives.now) r tree c.args.u.now
    c.define_aliases.new.u c.judge_ops.new.u c.define_aliases.new.aliases
    (map seen c.args.list.now) c.in_ok-found.found c.define_aliases.ensures.later
    c.requires.sound known c.requires.stands c.in_ok-found.ensures.found in
    found-judged (loaded_of c.args.u.now said r) tree c.judge_ops.new.u
    c.first_deep_region-deep.result c.in_ok-found.found known.valued
    (subst (λ ss. IsFirst (IsDeepRegion ss) c.first_deep_region-deep.result) c.requires.stands
    c.first_deep_region-deep.ensures)
    all (sym c.earlier-2.ensures ∙ c.in_default-earlier.is) c.in_default-operations.is
