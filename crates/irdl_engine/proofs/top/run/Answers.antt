use Rattle.native_predicate.specs.Lists.{names, tests}
use Rattle.irdl_engine.specs.Command.{command_of}
use Rattle.irdl_engine.specs.Judged.{predicates}
use Rattle.irdl_engine.specs.Words.{texts}
use Rattle.irdl_engine.proofs.Accepting.{told-denoted, told-unrefused}
use Rattle.irdl_engine.proofs.Canonical.{denoted-again}
use Rattle.irdl_engine.proofs.Denoted.{denoted-once}
use Rattle.irdl_engine.proofs.OneAnswer.{one-answer}
use Rattle.irdl_engine.proofs.Whole.{completes}
use Rattle.irdl_engine.proofs.top.run.Goals as goal

pub returns-clause-single : goal.returns-clause-single
returns-clause-single g c =
    one-answer (g.F.Files.file_map c.args.files.now)
    (predicates (names (λ p. (goal.NativePredicate-dyn g p).title p.1) c.args.natives.now)
    (tests (λ p. (goal.NativePredicate-dyn g p).property p.1) c.args.natives.now))
    (command_of (texts c.args.words.now))

pub returns-clause-denoted : goal.returns-clause-denoted
returns-clause-denoted g c =
    told-denoted (g.F.Files.file_map c.args.files.now) _ _ _ _ _ _ c.obey.ensures.planned

pub returns-clause-refused : goal.returns-clause-refused
returns-clause-refused g c =
    told-unrefused (g.F.Files.file_map c.args.files.now) _ _ _ _ _ _ c.obey.ensures.planned

pub returns-clause-one_module : goal.returns-clause-one_module
returns-clause-one_module g c =
    λ defs loaded other one two bytes. denoted-once
    (predicates (names (λ p. (goal.NativePredicate-dyn g p).title p.1) c.args.natives.now)
    (tests (λ p. (goal.NativePredicate-dyn g p).property p.1) c.args.natives.now)) defs loaded other
    one two bytes

pub returns-clause-canonical : goal.returns-clause-canonical
returns-clause-canonical g c =
    λ defs loaded is. denoted-again
    (predicates (names (λ p. (goal.NativePredicate-dyn g p).title p.1) c.args.natives.now)
    (tests (λ p. (goal.NativePredicate-dyn g p).property p.1) c.args.natives.now)) defs loaded is

pub returns-clause-complete : goal.returns-clause-complete
returns-clause-complete g c =
    completes (g.F.Files.file_map c.args.files.now) _ _ _ _ _ _ _ _ _ _ _ _
    c.obey.ensures.write_fault c.obey.ensures.planned
