use Rattle.std.proofs.Common.{◌≡◌, Some, None, slice_set, length, sym, refl, ◌∙◌, subst, ap, true}
use Rattle.std.proofs.Common.{true≢false}
use Rattle.std.proofs.lemmas.List.{length-set}
use Rattle.std.specs.Prelude.{slice_index_or}
use Rattle.arrayvec.proofs.ArrayVecLemmas.{items-with_items}
use Rattle.attr_value.specs.Ids.{at}
use Rattle.dialect_defs.specs.Assignments.{Has}
use Rattle.op_verifier.specs.Asked.{Slots, Decides}
use Rattle.op_verifier.proofs.Asking.{Decides-true}
use Rattle.op_verifier.proofs.Slots.{ask-first, ask-again, ask-other}
use Rattle.op_verifier.proofs.wanted.Wanted.ask.Goals as goal

pub returns-in-None : goal.returns-in-None
returns-in-None c =
    let values = c.args.self.now.u.now in
    let s : Slots = c.args.self.now.slots.items in
    let free : slice_index_or s c.args.var.0 None ≡ None =
    let e = c.in-None.is in let f = c.deref.ensures.0 in cc in
    let same : slice_set c.deref_mut.result.now c.args.var.0 (Some c.args.id)
    ≡ slice_set s c.args.var.0 (Some c.args.id) =
    ap (λ l. slice_set l c.args.var.0 (Some c.args.id)) c.deref_mut.ensures.value in
    let written =
    items-with_items c.args.self.now.slots
    (slice_set c.deref_mut.result.now c.args.var.0 (Some c.args.id))
    (ap length same ∙ length-set s c.args.var.0 (Some c.args.id)) in
    record {
      same = refl;
      decides = subst (λ new. Decides values s new true (λ a. Has a c.args.var (at values
          c.args.id.0)))
          (sym (written ∙ same))
          (Decides-true (ask-first values s c.args.var c.args.id free c.requires.var));
    }

pub returns-in-Some : goal.returns-in-Some
returns-in-Some c =
    let s : Slots = c.args.self.now.slots.items in
    let has : slice_index_or s c.args.var.0 None ≡ Some c.in-Some.other =
    let e = c.in-Some.is in let f = c.deref.ensures.0 in cc in
    record {
      same = refl;
      decides = record {
        asks = λ yes. ask-again c.args.self.now.u.now s c.args.var c.args.id c.in-Some.other
            has (c.same.ensures.same.0 yes);
        refuses = λ no. ask-other c.args.self.now.u.now s c.args.var c.args.id c.in-Some.other has
            (λ same. true≢false (sym (c.same.ensures.same.1 same) ∙ no));
      };
    }
