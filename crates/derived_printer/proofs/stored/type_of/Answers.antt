use Rattle.std.proofs.Common.{◌∙◌, ap, unwrap_or}
use Rattle.std.proofs.lemmas.Option.{unwrap_or-slice_get}
use Rattle.ir_store.specs.Modules.{types_in}
use Rattle.derived_printer.proofs.stored.type_of.Goals as goal

pub returns : goal.returns
returns c =
    c.unwrap_or.ensures
    ∙ ap (λ o. unwrap_or o (record { 0 = 0 })) c.type_of.ensures
    ∙ unwrap_or-slice_get (types_in c.args.store.now) c.args.n (record { 0 = 0 })
