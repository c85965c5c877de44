use Rattle.std.proofs.Common.{refl}
use Rattle.grammar.proofs.Runs.{took-ok}
use Rattle.irdl_ops.specs.Entries.{text_of}
use Rattle.irdl_ops.proofs.Entries.{took-tree}
use Rattle.irdl_ops.proofs.read.entries.string.Goals as goal

pub returns : goal.returns
unfolding text_of
returns g c = took-ok text_of
    (rw (c.place-place.ensures, took-tree _ _ c.in_ok-text.text _ _ c.in_ok-text.ensures) refl)
    c.in_ok-text.ensures
