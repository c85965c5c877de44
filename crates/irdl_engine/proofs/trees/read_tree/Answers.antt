use Rattle.std.proofs.Common.{◌∙◌, ap, Err, subst}
use Rattle.irdl_engine.specs.Judged.{rule_of}
use Rattle.irdl_engine.specs.Said.{StandsAt}
use Rattle.irdl_engine.proofs.Spelled.{told-spells, told-refused}
use Rattle.irdl_engine.proofs.trees.read_tree.Goals as goal

pub returns-in-Ok : goal.returns-in-Ok
returns-in-Ok c = told-spells _ c.args.text.now _ c.new-tokens.ensures
    c.read_definitions.ensures.answer c.in-Ok.defs c.in-Ok.is

pub returns-in-Err-At : goal.returns-in-Err-At
returns-in-Err-At c = record {
  in_file = c.refusal_at.ensures.in_file;
  at = c.in-Err-At.place;
  refused = told-refused _ c.args.text.now _ c.new-tokens.ensures c.read_definitions.ensures.answer
      c.in-Err-At.place c.in-Err-At.code c.refusal_at.result.code
      (c.in-Err-At.is ∙ ap Err c.in-Err-At.field-0-is)
      (c.refusal_at.ensures.rule ∙ c.rule_of.ensures ∙ ap rule_of c.in-Err-At.code-is);
  stands = subst (StandsAt c.args.text.now c.refusal_at.result) c.in-Err-At.place-is
      c.refusal_at.ensures.stands;
  nothing = ap (λ v. v.items) c.refusal_at.ensures.told ∙ c.new-told.ensures.items;
}
