-- An accepted format is one that can be read and printed by.
use Rattle.std.proofs.Common.{List, IfOk}
use Rattle.std.specs.declared.result.Result.{Result}
use Rattle.std.specs.declared.result.Result.TheVariants.{Ok, Err}
use Rattle.dialect_defs.specs.declared.definition.OpDef.{OpDef}
use Rattle.dialect_defs.specs.declared.format.Element.{Element}
use Rattle.dialect_defs.specs.declared.format.Format.{Format}
use Rattle.dialect_defs.specs.declared.raw_format.RawElement.{RawElement}
use Rattle.format_checker.specs.declared.stop.FormatStop.{FormatStop}
use Rattle.format_checker.specs.Accepted.{IsAccepted, IsReadable}
use Rattle.format_checker.specs.Decided.{follow}
use Rattle.format_checker.proofs.Decides.{format-decides}
use Rattle.format_checker.proofs.Soundness.{elements-sound}

pub accepted-readable : (op : OpDef) (raw : List RawElement) (es : List Element)
    → IsAccepted op raw es → IsReadable op es
accepted-readable op raw es x =
    let sound = elements-sound op raw es x.named x.grouped in
    record {
      shows = x.shows;
      sound = sound.1;
      groups = sound.0;
      one_token = format-decides op es (follow op.terminator) x.clear;
    }

-- of what a call gives
pub readable-from : (op : OpDef) (raw : List RawElement) (r : Result Format FormatStop)
    → IfOk r (λ f. IsAccepted op raw f.elements) → IfOk r (λ f. IsReadable op f.elements)
readable-from op raw (Ok f) x = accepted-readable op raw f.elements x
readable-from op raw (Err e) x = tt
