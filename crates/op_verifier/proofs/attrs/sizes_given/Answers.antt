use Rattle.std.proofs.Common.{◌∙◌, ap, sym, option_copied}
use Rattle.attr_value.specs.Values.{Value}
use Rattle.dialect_defs.specs.Operations.{given_sizes, sizes_of_head}
use Rattle.op_verifier.proofs.Found.{attr_at-attrs_seen, key-known, value_of}
use Rattle.op_verifier.proofs.attrs.sizes_given.Goals as goal

pub returns-in_err-id : goal.returns-in_err-id
returns-in_err-id c =
    ap option_copied c.from_residual.ensures
    ∙ ap (λ o. given_sizes (value_of c.args.u.now o))
    (sym c.in_err-id.was ∙ c.attribute.ensures)
    ∙ ap given_sizes (sym (attr_at-attrs_seen c.args.u.now c.args.op.now.keys.now
    c.args.op.now.values.now c.args.key.now))

pub view-requires : goal.view-requires
view-requires c =
    key-known _ c.args.op.now.keys.now c.args.op.now.values.now c.args.key.now _
    c.requires.values (sym c.attribute.ensures ∙ c.in_ok-id.was)

pub returns : goal.returns
returns c =
    c.sizes_of.ensures
    ∙ ap (λ (v : Value). sizes_of_head v.head) (sym c.view.ensures.value)
    ∙ ap (λ o. given_sizes (value_of c.args.u.now o))
    (sym c.in_ok-id.was ∙ c.attribute.ensures)
    ∙ ap given_sizes (sym (attr_at-attrs_seen c.args.u.now c.args.op.now.keys.now
    c.args.op.now.values.now c.args.key.now))
