-- What holds each time the loop asks for a piece: the front of the file was read, within the limit.
use Rattle.std.proofs.Common.{◌≡◌, ◌<◌, ◌≤◌, ◌-◌, ◌+◌, vec_len}
use Rattle.std.specs.Prelude.{IsTrue}
use Rattle.irdl_bytes.specs.declared.whole.TheConstants.{FILE_LIMIT}
use Rattle.irdl_bytes.proofs.Reading.{Reading}
use Rattle.irdl_bytes.proofs.whole.read_whole.Given as goal

abbrev pub invariant-loop-count : goal.invariant-loop-count
invariant-loop-count g l = record {
  same_map : g.F.Files.file_map l.files ≡ g.F.Files.file_map l.fn.files;
  stays_steady : IsTrue (g.F.Files.steady l.fn.files) → IsTrue (g.F.Files.steady l.files);
  later : g.F.Files.faults l.fn.files ≤ g.F.Files.faults l.files;
  room : 0 < vec_len l.buffer;
  within : vec_len l.bytes ≤ FILE_LIMIT;
  reading : Reading (g.F.Files.file_map l.fn.files) l.name l.bytes.items
      (g.F.Files.open_file l.files);
}

-- each piece takes at least one byte
abbrev pub decreases-loop-count : goal.decreases-loop-count
decreases-loop-count g l = FILE_LIMIT + 1 - vec_len l.bytes
