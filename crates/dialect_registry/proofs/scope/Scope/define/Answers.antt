use Rattle.std.proofs.Common.{refl}
use Rattle.dialect_registry.proofs.Known.{knows-define}
use Rattle.dialect_registry.proofs.scope.Scope.define.Goals as goal

pub returns : goal.returns
returns c = λ ms k. rw c.note_if.ensures
    (knows-define ms c.args.place c.args.name.now c.args.self.now _ k c.args.sort c.args.choices
    c.in_ok-known.known c.in_ok-known.ensures.before c.in_ok-known.ensures.after refl refl
    c.multiplied-self.ensures refl)
