-- What a read gives of the open file, from what is copied.
use Rattle.std.proofs.Common.{◌≡◌, sym, ap, ◌∙◌}
use Rattle.std.specs.Prelude.{drop}
use Rattle.irdl_bytes.specs.declared.mem_file.MemFile.{MemFile}
use Rattle.irdl_bytes.specs.MemFiles.{rest_of}
use Rattle.irdl_bytes.specs.OpenAt.{opened}
use Rattle.irdl_bytes.proofs.OpenFiles.{rest-is, reads-told}
use Rattle.irdl_bytes.proofs.mem_files.read_on.Goals as goal

-- the slice that is copied from has the bytes of the open file
bytes : (c : goal.After-cursor-2-1) → c.as_slice.result.now ≡ c.index-files-cursor.result.bytes
bytes c = c.as_slice.ensures ∙ ap (λ (file : MemFile). file.bytes) (sym c.index-files-cursor.is)

-- what is left of the open file
rest : (c : goal.After-cursor-2-1) →
    rest_of c.args.files.now (opened c.args.files.now c.args.cursor.now) ≡
    drop c.in-Some.cursor.place c.as_slice.result.now
rest c =
    rest-is c.args.files.now c.args.cursor.now c.in-Some.cursor c.index-files-cursor.result
    c.in-Some.is c.requires.first c.index-files-cursor.is ∙
    ap (drop c.in-Some.cursor.place) (sym (bytes c))

pub returns-clause-count : goal.returns-clause-count
returns-clause-count c = rw (rest c) c.copy_from-count.ensures.count

pub returns-clause-front : goal.returns-clause-front
returns-clause-front c = rw (rest c) c.copy_from-count.ensures.front

pub returns-clause-told : goal.returns-clause-told
returns-clause-told c =
    reads-told c.args.files.now c.args.cursor.now c.in-Some.cursor c.index-files-cursor.result
    c.in-Some.is c.requires.first c.index-files-cursor.is
    c.copy_from-count.result _ c.copy_from-count.new.into c.requires.room
    (rw (bytes c) at c.copy_from-count.ensures.count)
    (rw (bytes c) at c.copy_from-count.ensures.front)
