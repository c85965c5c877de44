use Rattle.std.proofs.Common.{◌∙◌, ap, sym, refl}
use Rattle.std.specs.List.{zip}
use Rattle.dialect_defs.specs.Operations.{attr_at}
use Rattle.op_verifier.proofs.Found.{attr_at-attrs_seen, key-known, value_of}
use Rattle.op_verifier.proofs.PartSteps.{attr-there, attr-missing}
use Rattle.op_verifier.proofs.wanted.Wanted.ask_attr.Goals as goal

pub ask-requires-clause-id : goal.ask-requires-clause-id
ask-requires-clause-id c =
    key-known _ c.args.op.now.keys.now c.args.op.now.values.now c.bytes.result.now _
    c.requires.op.values (sym c.attribute.ensures ∙ c.in-Some.is)

pub returns-in-Some : goal.returns-in-Some
returns-in-Some c =
    let values = c.args.self.now.u.now in
    let e =
    attr_at-attrs_seen values c.args.op.now.keys.now c.args.op.now.values.now
    c.args.entry.now.name
    ∙ ap (λ key. value_of values (attr_at (zip c.args.op.now.keys.now c.args.op.now.values.now)
    key))
    (sym c.bytes.ensures)
    ∙ ap (value_of values) (sym c.attribute.ensures ∙ c.in-Some.is) in
    record {
      same = c.ask.ensures.same;
      decides = attr-there values c.args.entry.now _ _ _ _ _ e c.ask.ensures.decides;
    }

pub returns-in-None : goal.returns-in-None
returns-in-None c =
    let values = c.args.self.now.u.now in
    let e =
    attr_at-attrs_seen values c.args.op.now.keys.now c.args.op.now.values.now
    c.args.entry.now.name
    ∙ ap (λ key. value_of values (attr_at (zip c.args.op.now.keys.now c.args.op.now.values.now)
    key))
    (sym c.bytes.ensures)
    ∙ ap (value_of values) (sym c.attribute.ensures ∙ c.in-None.is) in
    record {
      same = refl;
      decides = attr-missing values c.args.entry.now _ _ e;
    }
