use Rattle.std.proofs.Common.{sym, subst, List}
use Rattle.std.specs.List.{AllByRecursion}
use Rattle.derived_printer.specs.Spellable.{AreBytes}
use Rattle.ir_lexer.specs.Spelling.{Text}
use Rattle.ir_store.specs.Numbering.{past_op, ops_in}
use Rattle.ir_store.specs.Store.{StoredHead}
use Rattle.op_verifier.proofs.RegionSteps.{an-element}
use Rattle.stored_module.proofs.Holding.{few-of, within-of}
use Rattle.stored_module.proofs.places.op_is_held.Goals as goal

pub regions_have_few_blocks-requires : goal.regions_have_few_blocks-requires
regions_have_few_blocks-requires c =
    let x = an-element (ops_in c.args.store.now) c.args.op.0 c.requires in
    within-of c.args.store.now (past_op x.0.at x.0.head) c.regions_of.result.now x.0.regions
    (c.regions_of.ensures x.0 x.1)

pub returns : goal.returns
returns c = λ x e. record {
  keys = subst (λ (h : StoredHead). AllByRecursion AreBytes h.keys) (sym (c.op.ensures.head x e))
      (subst (λ (l : List Text). AllByRecursion AreBytes l) c.as_slice.ensures
      c.texts_have_bytes.ensures);
  regions = few-of c.args.store.now (past_op x.at x.head) c.regions_of.result.now x.regions
      (c.regions_of.ensures x e) c.regions_have_few_blocks.ensures;
}
