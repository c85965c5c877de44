use Rattle.std.proofs.Common.{◌∙◌, arith}
use Rattle.std.proofs.lemmas.Result.{err_from_is_err_and}
use Rattle.irdl_engine.specs.Obeyed.{files_seen}
use Rattle.irdl_engine.proofs.Items.{pushed}
use Rattle.irdl_engine.proofs.Reading.{one-more, one-stops}
use Rattle.irdl_engine.proofs.texts.read_texts.Goals as goal

pub loop-file-preserved : goal.loop-file-preserved
loop-file-preserved g c =
    let more = pushed _ c.loop-file.texts.items c.push.new.self.items c.in_ok-text.text
    c.in_ok-map_err.ensures.variant c.push.ensures.items in
    record {
      same_map = c.in_ok-text.ensures.same_map ∙ c.loop-file.invariant.same_map;
      stays_steady = λ s. c.in_ok-text.ensures.stays_steady (c.loop-file.invariant.stays_steady s);
      later = omega (arith, c.in_ok-text.ensures.later);
      whole = one-more (g.F.Files.file_map c.args.files.now) c.args.names.now
          c.loop-file.texts.items c.push.new.self.items c.loop-file.file _ c.in_ok-text.text
          (files_seen g.F.Files.file_map g.F.Files.steady g.F.Files.faults c.loop-file.files
          c.read_text.new.files)
          c.loop-file-test.true c.loop-file.invariant.same_map more c.in_ok-text.ensures.reads
          c.loop-file.invariant.whole;
    }

pub returns-in_err-text-clause-err : goal.returns-in_err-text-clause-err
returns-in_err-text-clause-err g c =
    let p = err_from_is_err_and c.from_residual.result c.from_residual.ensures.1 in
    rw (p.1, p.2) (one-stops (g.F.Files.file_map c.args.files.now)
    (g.F.Files.steady c.args.files.now) (g.F.Files.faults c.args.files.now) c.args.names.now
    c.loop-file.texts.items c.loop-file.file _ c.in_err-text.field-0.0
    (files_seen g.F.Files.file_map g.F.Files.steady g.F.Files.faults c.loop-file.files
    c.read_text.new.files)
    c.loop-file-test.true c.loop-file.invariant.same_map c.loop-file.invariant.stays_steady
    c.loop-file.invariant.later c.loop-file.invariant.whole c.in_err-text.ensures.reads)
