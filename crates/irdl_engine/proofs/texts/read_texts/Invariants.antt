use Rattle.std.proofs.Common.{◌≡◌, ◌≤◌, take}
use Rattle.std.specs.Prelude.{IsTrue}
use Rattle.irdl_engine.specs.Said.{bytes_of, AreWhole}
use Rattle.irdl_engine.specs.Words.{texts}
use Rattle.irdl_engine.proofs.texts.read_texts.Given as goal

-- the files before were read whole
abbrev pub invariant-loop-file : goal.invariant-loop-file
invariant-loop-file g l = record {
  same_map : g.F.Files.file_map l.files ≡ g.F.Files.file_map l.fn.files;
  stays_steady : IsTrue (g.F.Files.steady l.fn.files) → IsTrue (g.F.Files.steady l.files);
  later : g.F.Files.faults l.fn.files ≤ g.F.Files.faults l.files;
  whole : AreWhole (g.F.Files.file_map l.fn.files) (take l.file (texts l.names))
      (bytes_of l.texts.items);
}
