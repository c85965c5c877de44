-- One step of a page at which memory ran out.
use Rattle.std.proofs.Common.{◌≡◌, [], sym, ◌∙◌, subst, arith}
use Rattle.std.proofs.lemmas.List.{append-nil}
use Rattle.irdl_bytes.specs.Outside.{AppendsPrefix}
use Rattle.ir_lexer.specs.Spelling.{Text}
use Rattle.text_layout.specs.declared.error.PrintError.TheVariants.{OutOfMemory}
use Rattle.text_layout.specs.Flow.{Flow, owed, Adds, PrintHasCause, Stops}
use Rattle.text_layout.proofs.Flows.{no-front, whole-front, held-front}
use Rattle.text_layout.proofs.Appending.{front-longer}

-- memory ran out before anything went in
pub out-of-memory : (f : Flow) (bytes : Text) → Stops f bytes OutOfMemory f
out-of-memory f bytes = record { cause = no-front f.written (owed f bytes); later = omega arith }

-- memory ran out where the sink got more of what it was owed before
pub out-of-memory-then : (f g h : Flow) (bytes : Text) → Adds f [] g → h.written ≡ g.written
    → h.faults ≡ g.faults → Stops f bytes OutOfMemory h
out-of-memory-then f g h bytes a written faults = record {
  cause = subst (λ w. PrintHasCause f bytes OutOfMemory w h.faults) (sym written) got;
  later = let later = a.later in omega (arith, later, faults);
}
  where
    got : AppendsPrefix f.written g.written (owed f bytes)
    got = held-front f bytes g.written
        (subst (AppendsPrefix f.written g.written) (a.held ∙ append-nil f.held)
        (front-longer f.written g.written a.sent g.held
        (whole-front f.written g.written a.sent a.written)))

pub ruleset going = (out-of-memory)
