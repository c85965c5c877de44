use Rattle.std.proofs.Common.{◌∙◌, ap, sym, length, subst, option_copied}
use Rattle.std.proofs.lemmas.List.{length-map}
use Rattle.segment_match.proofs.Unique.{FitEach-length}
use Rattle.op_verifier.specs.Asked.{Decides}
use Rattle.dialect_defs.specs.Operations.{EntriesHave}
use Rattle.dialect_defs.specs.Segments.{parts}
use Rattle.op_verifier.specs.Seen.{values_at}
use Rattle.op_verifier.specs.Types.{ids_of}
use Rattle.op_verifier.proofs.PartSteps.{segments-asked}
use Rattle.op_verifier.proofs.wanted.Wanted.ask_segments.Goals as goal

pub ask_entries-requires-clause-count : goal.ask_entries-requires-clause-count
ask_entries-requires-clause-count c =
    ap length c.as_slice.ensures.value
    ∙ FitEach-length c.args.entries.now c.in-Some.sizes.items c.in-Some.ensures.some.fit

pub returns : goal.returns
returns c =
    let values = c.args.self.now.u.now in
    let vs = values_at values (ids_of c.args.types.now) in
    let count = c.len.ensures ∙ sym (length-map (ids_of c.args.types.now) _) in
    record {
      same = c.ask_entries.ensures.same;
      decides = segments-asked values c.args.entries.now vs (option_copied c.args.given) _ _ _
          c.len.result c.in-Some.sizes count c.in-Some.ensures.some c.in-Some.ensures.only
          (subst (λ ns. Decides values c.args.self.now.slots.items
          c.ask_entries.new.self.slots.items c.ask_entries.result
          (λ a. EntriesHave a c.args.entries.now (parts ns vs)))
          c.as_slice.ensures.value c.ask_entries.ensures.decides);
    }
