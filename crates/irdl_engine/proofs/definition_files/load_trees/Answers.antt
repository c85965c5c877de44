use Rattle.native_predicate.specs.Lists.{names, tests}
use Rattle.irdl_engine.specs.Judged.{predicates}
use Rattle.irdl_engine.proofs.Judging.{refused-in-texts}
use Rattle.irdl_engine.proofs.Rules.{refuses-this}
use Rattle.irdl_engine.proofs.definition_files.load_trees.Goals as goal

pub refusal_in-requires-clause-there : goal.refusal_in-requires-clause-there
refusal_in-requires-clause-there g c =
    let natives = predicates
    (names (λ p. (goal.NativePredicate-dyn g p).title p.1) c.args.natives.now)
    (tests (λ p. (goal.NativePredicate-dyn g p).property p.1) c.args.natives.now) in
    refused-in-texts natives c.args.texts.now c.args.trees.now c.in-Err-Refused.refusal
    c.requires.spelled (record {
      refused = refuses-this _ c.in-Err-Refused.field-0-is c.in-Err-Refused.ensures.refused;
    })
