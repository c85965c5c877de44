use Rattle.std.proofs.Common.{subst}
use Rattle.std.specs.Prelude.{IfErr}
use Rattle.std.specs.declared.result.Result.TheVariants.{Err}
use Rattle.native_predicate.specs.Lists.{names, tests}
use Rattle.irdl_engine.specs.Judged.{predicates}
use Rattle.irdl_engine.specs.Said.{bytes_of, IsVerdict}
use Rattle.irdl_engine.specs.Words.{texts}
use Rattle.irdl_engine.proofs.Judging.{judged-results, results-within}
use Rattle.irdl_engine.proofs.definition_files.load_files.Goals as goal

pub returns-clause-stopped : goal.returns-clause-stopped
returns-clause-stopped g c =
    let natives = predicates
    (names (λ p. (goal.NativePredicate-dyn g p).title p.1) c.args.natives.now)
    (tests (λ p. (goal.NativePredicate-dyn g p).property p.1) c.args.natives.now) in
    judged-results (g.F.Files.file_map c.args.files.now) natives _ (texts c.args.defs.now)
    (bytes_of c.in_ok-texts.texts.items) c.load_texts.result c.in_ok-texts.ensures.ok.right
    (subst (λ l. IfErr c.load_texts.result (λ stop. IsVerdict natives (bytes_of l) (Err stop)))
    c.deref.ensures.value c.load_texts.ensures.stopped)

pub returns-clause-within : goal.returns-clause-within
returns-clause-within g c =
    let natives = predicates
    (names (λ p. (goal.NativePredicate-dyn g p).title p.1) c.args.natives.now)
    (tests (λ p. (goal.NativePredicate-dyn g p).property p.1) c.args.natives.now) in
    results-within natives c.args.defs.now (bytes_of c.in_ok-texts.texts.items)
    c.load_texts.result c.in_ok-texts.ensures.ok.count
    (subst (λ l. IfErr c.load_texts.result (λ stop. IsVerdict natives (bytes_of l) (Err stop)))
    c.deref.ensures.value c.load_texts.ensures.stopped)
