use Rattle.std.proofs.Common.{◌≡◌, false, ap, sym, ◌∙◌, subst, Some, map}
use Rattle.first_fault.specs.Firsts.{IsFirst, IsFaultBy}
use Rattle.symbol_scopes.specs.Faults.{blocks_rule}
use Rattle.std.specs.List.{list_any}
use Rattle.symbol_scopes.specs.Calls.{is_of_blocks, marks_of}
use Rattle.symbol_scopes.proofs.Unlabelled.{first-unlabelled, block_meanings-unlabelled}
use Rattle.symbol_scopes.proofs.blocks.judge_blocks.Goals as goal

pub returns-else-speak_of_blocks-clause-first : goal.returns-else-speak_of_blocks-clause-first
returns-else-speak_of_blocks-clause-first c =
    let quiet : list_any is_of_blocks c.args.calls.now ≡ false =
    sym c.speak_of_blocks.ensures ∙ c.if-speak_of_blocks.false in
    subst (IsFirst (IsFaultBy (blocks_rule (marks_of c.args.names.now c.args.calls.now))
    (marks_of c.args.names.now c.args.calls.now))) (sym c.new.ensures.first)
    (first-unlabelled c.args.names.now c.args.calls.now quiet)

pub returns-else-speak_of_blocks-clause-meanings : goal.returns-else-speak_of_blocks-clause-meanings
returns-else-speak_of_blocks-clause-meanings c = λ e.
    let quiet : list_any is_of_blocks c.args.calls.now ≡ false =
    sym c.speak_of_blocks.ensures ∙ c.if-speak_of_blocks.false in
    ap (map Some) c.new.ensures.meanings
    ∙ sym (block_meanings-unlabelled c.args.names.now c.args.calls.now quiet)
