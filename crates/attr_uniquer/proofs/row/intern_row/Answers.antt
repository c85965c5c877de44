use Rattle.std.proofs.Common.{[], rules}
use Rattle.attr_value.specs.declared.head.Head.TheVariants as h
use Rattle.attr_uniquer.specs.Rows.{AreSound}
use Rattle.attr_uniquer.proofs.Inserted.{inserts}
use Rattle.attr_uniquer.proofs.Once.{values-distinct}
use Rattle.attr_uniquer.proofs.row.intern_row.Goals as goal

pub returns-clause-ok : goal.returns-clause-ok
returns-clause-ok c = (inserts c.args.rows.now.keys c.insert_full.new.self.keys c.args.row
    c.in_ok-index.index c.requires.sound c.requires.next.known c.requires.next.deep
    c.in_ok-index.ensures.keys c.in_ok-index.ensures.stored).interned

pub returns-clause-sound : goal.returns-clause-sound
returns-clause-sound c = (inserts c.args.rows.now.keys c.insert_full.new.self.keys c.args.row
    c.in_ok-index.index c.requires.sound c.requires.next.known c.requires.next.deep
    c.in_ok-index.ensures.keys c.in_ok-index.ensures.stored).sound

pub returns-in_err-index-clause-distinct : goal.returns-in_err-index-clause-distinct
returns-in_err-index-clause-distinct c =
    let sound : AreSound [] c.insert_full.new.self.keys = search rules in
    values-distinct c.insert_full.new.self.keys (record { head = h.Unit; kids = []; depth = 0 })
    sound c.insert_full.ensures.unique

pub returns-clause-distinct : goal.returns-clause-distinct
returns-clause-distinct c = values-distinct c.insert_full.new.self.keys
    (record { head = h.Unit; kids = []; depth = 0 }) (returns-clause-sound c)
    c.insert_full.ensures.unique
