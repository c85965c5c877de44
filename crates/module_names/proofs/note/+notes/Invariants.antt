use Rattle.module_names.specs.ModuleNotes.{op_notes, part_regions, region_notes, block_notes}
use Rattle.module_names.proofs.Saying.{SaidSome, SaidOrder}
use Rattle.module_names.proofs.note.+notes.Given as goal

abbrev pub invariant-note_blocks-loop-block : goal.invariant-note_blocks-loop-block
invariant-note_blocks-loop-block l =
    SaidOrder block_notes l.blocks l.initial.scopes l.scopes l.number l.block-index

abbrev pub invariant-note_ops-loop-op : goal.invariant-note_ops-loop-op
invariant-note_ops-loop-op l = SaidSome op_notes l.ops l.initial.scopes l.scopes l.op-index

abbrev pub invariant-note_part_regions-loop-part : goal.invariant-note_part_regions-loop-part
invariant-note_part_regions-loop-part l =
    SaidSome part_regions l.parts l.initial.scopes l.scopes l.part-index

abbrev pub invariant-note_regions-loop-region : goal.invariant-note_regions-loop-region
invariant-note_regions-loop-region l =
    SaidSome region_notes l.regions l.initial.scopes l.scopes l.region-index
