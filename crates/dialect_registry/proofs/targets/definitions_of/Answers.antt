use Rattle.std.proofs.Common.{sym, ◌∙◌, ap, bytes_eq, if◌then◌else◌}
use Rattle.std.specs.Prelude.{option_map}
use Rattle.std.specs.Option.{option_or, option_flatten}
use Rattle.std.specs.declared.option.Option.TheVariants.{Some, None}
use Rattle.dialect_registry.specs.Targets.{target_of, def_named}
use Rattle.dialect_registry.proofs.Targeted.{defs-more, found-named}
use Rattle.dialect_registry.proofs.Walks.{whole-take}
use Rattle.dialect_registry.proofs.targets.definitions_of.Goals as goal

pub loop-def-preserved : goal.loop-def-preserved
loop-def-preserved c = λ name.
    let def = c.def-item.result in
    (rw (c.bytes.ensures, c.target_of.ensures) at (c.in_ok-add.ensures.after name))
    ∙ ap (λ o. option_or o (if bytes_eq def.name name then Some (target_of def) else None))
    (c.loop-def.invariant name)
    ∙ sym (defs-more c.as_slice-def-items.result.now c.loop-def.def-index def name
    c.loop-def-test.true c.def-item.is)

pub returns : goal.returns
returns c = λ name.
    ap option_flatten (c.loop-def.invariant name)
    ∙ ap (λ l. option_flatten (option_map target_of (def_named l name)))
    (whole-take c.as_slice-def-items.result.now c.loop-def.def-index
    c.loop-def.auto.def-index-end c.loop-def-test.false ∙ c.as_slice-def-items.ensures)
    ∙ found-named (def_named c.args.dialect.now.defs name)
