use Rattle.std.proofs.Common.{rules, ◌≡◌, ◌<◌, arith, ap}
use Rattle.std.proofs.Common.{[], ◌∷◌, ◌++◌, length, map, slice_index_or}
use Rattle.std.proofs.lemmas.List.{length-map}
use Rattle.ir_store.specs.Rows.{node_of}
use Rattle.ir_store.specs.Named.{region_id}
use Rattle.ir_store.proofs.Changed.{set-changed}
use Rattle.ir_store.proofs.tables.Tables.add_region.Goals as goal

pub returns-clause-ok : goal.returns-clause-ok
returns-clause-ok c =
    let many : length (map node_of c.self.inside.ops.items) ≡ length c.args.self.now.ops = ap (λ s. length s.ops) c.self.view_is in
    let within : c.args.op.0 < length c.self.inside.ops.items = omega (arith, length-map c.self.inside.ops.items node_of) in
    let id : c.len.result ≡ length c.self.inside.regions.items = search rules in
    let is : c.index_mut-entry.result.now ≡ slice_index_or c.self.inside.ops.items c.args.op.0 c.index_mut-entry.result.now = c.index_mut-entry.ensures.value in
    let pushed : c.push.new.self ≡ c.index_mut-entry.result.now.regions ++ region_id c.len.result ∷ [] = c.in_ok-push.ensures.ok in
    let ops = set-changed node_of (λ n. record n { regions = n.regions ++ region_id (length c.self.inside.regions.items) ∷ [] }) c.self.inside.ops.items c.args.op.0
    (record { row = c.index_mut-entry.result.now.row; first = c.index_mut-entry.result.now.first; regions = c.push.new.self }) c.index_mut-entry.result.now within (rw (← is) (cc)) in
    let regions : c.push_reserved.new.self.items ≡ c.self.inside.regions.items ++ (record { blocks = [] }) ∷ [] = cc in
    rw (← c.self.view_is) (cc)
