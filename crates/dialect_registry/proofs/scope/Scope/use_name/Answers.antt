use Rattle.std.proofs.Common.{refl, ◌∙◌, ap}
use Rattle.dialect_registry.specs.NameFaults.{is_usable}
use Rattle.dialect_registry.proofs.Known.{knows-use}
use Rattle.dialect_registry.proofs.scope.Scope.use_name.Goals as goal

pub returns : goal.returns
returns c = λ ms k.
    let known = c.is_usable-usable.ensures
    ∙ ap (λ o. is_usable o c.args.sort) (c.copied.ensures ∙ c.get.ensures) in
    rw c.note_if.ensures
    (knows-use ms c.args.place c.args.name.now c.args.self.now _ k c.args.sort
    c.is_usable-usable.result known refl refl refl refl refl)
