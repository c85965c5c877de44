use Rattle.std.proofs.Common.{subst, sym}
use Rattle.ir_store.specs.Growth.{to_region, one_block}
use Rattle.ir_store.specs.Read.{IsSound}
use Rattle.ir_store.proofs.Stored.{stored, region-within, sound-block, read-added, stored-types, opens-block, either-way, when-ok, if-ok}
use Rattle.ir_store.proofs.store.Store.add_block.Goals as goal

pub add_block-requires : goal.add_block-requires
add_block-requires c =
    region-within c.self.inside.tables c.args.self.now _ (stored c.self.inside.tables _ c.self.invariant c.self.view_is) c.requires

pub invariant_of-self : goal.invariant_of-self
invariant_of-self c =
    either-way c.add_block.result _ _ _ c.add_block.ensures.ok c.add_block.ensures.err
    (λ made. sound-block c.self.inside.tables c.add_block.new.self c.args.self.now c.args.region c.args.args.now c.self.invariant c.self.view_is c.requires made)
    (λ same. subst IsSound (sym same) c.self.invariant)

pub returns-clause-ok : goal.returns-clause-ok
returns-clause-ok c =
    when-ok c.add_block.result _ _ c.add_block.ensures.ok
    (λ made. read-added c.self.inside.tables c.add_block.new.self c.args.self.now (to_region c.args.region (one_block c.args.args.now))
    (stored c.self.inside.tables _ c.self.invariant c.self.view_is) c.requires made)

pub returns-clause-opens : goal.returns-clause-opens
returns-clause-opens c =
    let is = stored c.self.inside.tables c.args.self.now c.self.invariant c.self.view_is in
    if-ok c.add_block.result _ _ _ c.add_block.ensures.ok c.add_block.ensures.id
    (λ id made count. opens-block c.self.inside.tables c.args.self.now _ c.args.region c.args.args.now id is
    (read-added c.self.inside.tables c.add_block.new.self c.args.self.now (to_region c.args.region (one_block c.args.args.now)) is c.requires made) c.requires count)

pub returns-clause-types : goal.returns-clause-types
returns-clause-types c =
    when-ok c.add_block.result _ _ c.add_block.ensures.ok
    (λ made. stored-types c.self.inside.tables c.add_block.new.self c.args.self.now (to_region c.args.region (one_block c.args.args.now))
    (stored c.self.inside.tables _ c.self.invariant c.self.view_is) c.requires made)
