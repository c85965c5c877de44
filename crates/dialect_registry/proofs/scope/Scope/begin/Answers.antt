use Rattle.std.proofs.Common.{refl}
use Rattle.dialect_registry.proofs.Known.{knows-begin}
use Rattle.dialect_registry.proofs.scope.Scope.begin.Goals as goal

pub returns : goal.returns
returns c = λ ms k. rw c.note_if.ensures
    (knows-begin ms c.args.place c.args.word.now c.args.self.now _ k c.in_ok-known.known
    c.in_ok-known.ensures.before c.in_ok-known.ensures.after refl refl refl refl)
