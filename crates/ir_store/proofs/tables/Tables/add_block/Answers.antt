use Rattle.std.proofs.Common.{rules, ◌≡◌, ◌<◌, arith, ap}
use Rattle.std.proofs.Common.{[], ◌∷◌, ◌++◌, length, slice_index_or}
use Rattle.std.proofs.lemmas.Grind.{common_steps}
use Rattle.ir_store.specs.Named.{block_id}
use Rattle.ir_store.proofs.Changed.{set-changed-plain}
use Rattle.ir_store.proofs.tables.Tables.add_block.Goals as goal

pub returns-clause-ok : goal.returns-clause-ok
returns-clause-ok c =
    let many : length c.self.inside.regions.items ≡ length c.args.self.now.regions = ap (λ s. length s.regions) c.self.view_is in
    let within : c.args.region.0 < length c.self.inside.regions.items = omega arith in
    let id : c.len.result ≡ length c.self.inside.blocks.items = search rules in
    let is : c.index_mut-entry.result.now ≡ slice_index_or c.self.inside.regions.items c.args.region.0 c.index_mut-entry.result.now = c.index_mut-entry.ensures.value in
    let pushed : c.push.new.self ≡ c.index_mut-entry.result.now.blocks ++ block_id c.len.result ∷ [] = c.in_ok-push.ensures.ok in
    let regions = set-changed-plain (λ n. record n { blocks = n.blocks ++ block_id (length c.self.inside.blocks.items) ∷ [] }) c.self.inside.regions.items c.args.region.0
    (record { blocks = c.push.new.self }) c.index_mut-entry.result.now within (rw (← is) (cc)) in
    let first : c.len-first.result ≡ length c.self.inside.types.items = search rules in
    let types : c.extend_from_slice.new.self.items ≡ c.self.inside.types.items ++ c.args.args.now = grind (arith, common_steps) in
    let blocks : c.push_reserved.new.self.items ≡ c.self.inside.blocks.items ++ (record { first = length c.self.inside.types.items; count = length c.args.args.now; ops = [] }) ∷ [] = cc in
    rw (← c.self.view_is) (cc)
