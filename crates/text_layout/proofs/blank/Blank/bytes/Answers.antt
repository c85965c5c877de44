use Rattle.text_layout.proofs.Blanks.{indent-front, break-front}
use Rattle.text_layout.proofs.blank.Blank.bytes.Goals as goal

pub returns-in-Indent : goal.returns-in-Indent
returns-in-Indent c =
    let short = rw c.in-Indent.is at c.requires in
    rw c.in-Indent.is (indent-front 132 c.in-Indent.n _ short c.longest_blank-longest.ensures)

pub returns-in-Break : goal.returns-in-Break
returns-in-Break c =
    let short = rw c.in-Break.is at c.requires in
    rw c.in-Break.is (break-front 132 c.in-Break.n _ short c.longest_blank-longest.ensures)
