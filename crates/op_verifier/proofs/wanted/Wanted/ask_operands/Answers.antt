use Rattle.std.proofs.Common.{subst}
use Rattle.op_verifier.specs.Asked.{Decides}
use Rattle.op_verifier.specs.Parts.{HasSegments}
use Rattle.op_verifier.specs.Seen.{values_at}
use Rattle.op_verifier.specs.Types.{ids_of}
use Rattle.op_verifier.proofs.wanted.Wanted.ask_operands.Goals as goal

pub returns : goal.returns
returns c =
    let values = c.args.self.now.u.now in
    record {
      same = c.ask_segments.ensures.same;
      decides = subst
          (λ given. Decides values c.args.self.now.slots.items c.ask_segments.new.self.slots.items
          c.ask_segments.result (λ a. HasSegments a c.args.entries.now
          (values_at values (ids_of c.args.op.now.operands)) given))
          c.sizes_given-given.ensures c.ask_segments.ensures.decides;
    }
