-- An output as the flow of its bytes to a sink.
--
--   flow_of out written faults  its flow to a sink that got these bytes and failed so often
--
-- Inside: no public clause rests on this.
use Rattle.std.specs.Prelude.{ℕ, Option}
use Rattle.ir_lexer.specs.Spelling.{Text}
use Rattle.text_layout.specs.declared.output.Output.{Output}
use Rattle.text_layout.specs.Flow.{Flow}

-- the flow of an output, with a sink that got these bytes and failed so often
abbrev pub flow_of : Output → Option Text → ℕ → Flow
flow_of out written faults =
    record { laid = out.laid; held = out.held.items; written = written; faults = faults }
