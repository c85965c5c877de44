use Rattle.std.proofs.Common.{subst, sym}
use Rattle.ir_store.specs.Growth.{to_op, one_region}
use Rattle.ir_store.specs.Read.{IsSound}
use Rattle.ir_store.proofs.Stored.{stored, op-within, sound-region, read-added, stored-types, opens-region, either-way, when-ok, if-ok}
use Rattle.ir_store.proofs.store.Store.add_region.Goals as goal

pub add_region-requires : goal.add_region-requires
add_region-requires c =
    op-within c.self.inside.tables c.args.self.now _ (stored c.self.inside.tables _ c.self.invariant c.self.view_is) c.requires

pub invariant_of-self : goal.invariant_of-self
invariant_of-self c =
    either-way c.add_region.result _ _ _ c.add_region.ensures.ok c.add_region.ensures.err
    (λ made. sound-region c.self.inside.tables c.add_region.new.self c.args.self.now c.args.op c.self.invariant c.self.view_is c.requires made)
    (λ same. subst IsSound (sym same) c.self.invariant)

pub returns-clause-ok : goal.returns-clause-ok
returns-clause-ok c =
    when-ok c.add_region.result _ _ c.add_region.ensures.ok
    (λ made. read-added c.self.inside.tables c.add_region.new.self c.args.self.now (to_op c.args.op one_region)
    (stored c.self.inside.tables _ c.self.invariant c.self.view_is) c.requires made)

pub returns-clause-opens : goal.returns-clause-opens
returns-clause-opens c =
    let is = stored c.self.inside.tables c.args.self.now c.self.invariant c.self.view_is in
    if-ok c.add_region.result _ _ _ c.add_region.ensures.ok c.add_region.ensures.id
    (λ id made count. opens-region c.self.inside.tables c.args.self.now _ c.args.op id is
    (read-added c.self.inside.tables c.add_region.new.self c.args.self.now (to_op c.args.op one_region) is c.requires made) c.requires count)

pub returns-clause-types : goal.returns-clause-types
returns-clause-types c =
    when-ok c.add_region.result _ _ c.add_region.ensures.ok
    (λ made. stored-types c.self.inside.tables c.add_region.new.self c.args.self.now (to_op c.args.op one_region)
    (stored c.self.inside.tables _ c.self.invariant c.self.view_is) c.requires made)
