use Rattle.std.proofs.Common.{subst, sym}
use Rattle.ir_store.specs.Growth.{to_block, one_op}
use Rattle.ir_store.specs.Store.{head_of}
use Rattle.ir_store.specs.Read.{IsSound}
use Rattle.ir_store.proofs.Stored.{stored, block-within, sound-op, read-added, stored-types, opens-op, either-way, when-ok, if-ok}
use Rattle.ir_store.proofs.store.Store.add_op.Goals as goal

pub add_op-requires : goal.add_op-requires
add_op-requires c =
    block-within c.self.inside.tables c.args.self.now _ (stored c.self.inside.tables _ c.self.invariant c.self.view_is) c.requires.open

pub invariant_of-self : goal.invariant_of-self
invariant_of-self c =
    either-way c.add_op.result _ _ _ c.add_op.ensures.ok c.add_op.ensures.err
    (λ made. sound-op c.self.inside.tables c.add_op.new.self c.args.self.now c.args.block (head_of c.args.row) c.self.invariant c.self.view_is c.requires.open c.requires.attrs made)
    (λ same. subst IsSound (sym same) c.self.invariant)

pub returns-clause-ok : goal.returns-clause-ok
returns-clause-ok c =
    when-ok c.add_op.result _ _ c.add_op.ensures.ok
    (λ made. read-added c.self.inside.tables c.add_op.new.self c.args.self.now (to_block c.args.block (one_op (head_of c.args.row)))
    (stored c.self.inside.tables _ c.self.invariant c.self.view_is) c.requires.open made)

pub returns-clause-opens : goal.returns-clause-opens
returns-clause-opens c =
    let is = stored c.self.inside.tables c.args.self.now c.self.invariant c.self.view_is in
    if-ok c.add_op.result _ _ _ c.add_op.ensures.ok c.add_op.ensures.id
    (λ id made count. opens-op c.self.inside.tables c.args.self.now _ c.args.block (head_of c.args.row) id is
    (read-added c.self.inside.tables c.add_op.new.self c.args.self.now (to_block c.args.block (one_op (head_of c.args.row))) is c.requires.open made) c.requires.open count)

pub returns-clause-types : goal.returns-clause-types
returns-clause-types c =
    when-ok c.add_op.result _ _ c.add_op.ensures.ok
    (λ made. stored-types c.self.inside.tables c.add_op.new.self c.args.self.now (to_block c.args.block (one_op (head_of c.args.row)))
    (stored c.self.inside.tables _ c.self.invariant c.self.view_is) c.requires.open made)
