use Rattle.native_predicate.specs.Lists.{tests}
use Rattle.irdl_engine.proofs.Storing.{stored-back, stored-printable}
use Rattle.irdl_engine.proofs.module_reading.read_module_text.Goals as goal

pub returns-clause-printable : goal.returns-clause-printable
returns-clause-printable g c =
    stored-printable _ _ c.args.registry.now c.requires.sound c.args.u.now
    (tests (λ p. (goal.NativePredicate-dyn g p).property p.1) c.args.natives.now)
    c.in_ok-tree.tree c.elaborate.new.u c.in_ok-store.store c.in_ok-store.ensures.completes
    c.in_ok-store.ensures.named c.in_ok-store.ensures.ids

pub returns-clause-read_back : goal.returns-clause-read_back
returns-clause-read_back g c =
    stored-back _ _ c.args.registry.now c.requires.sound c.args.u.now
    (tests (λ p. (goal.NativePredicate-dyn g p).property p.1) c.args.natives.now)
    c.in_ok-tree.tree _ c.in_ok-store.ensures.completes
    (c.module_is_storable.ensures c.args.registry.now.ops)
