use Rattle.std.proofs.Common.{rules, ◌≡◌, arith}
use Rattle.std.proofs.Common.{[], ◌∷◌, ◌++◌, length, map}
use Rattle.std.proofs.lemmas.Grind.{common_steps}
use Rattle.std.proofs.lemmas.List.{length-map, map-append}
use Rattle.ir_store.specs.Rows.{node_of, top_with, blocks_with, OpNode}
use Rattle.ir_store.specs.Store.{head_of}
use Rattle.ir_store.specs.Named.{op_id}
use Rattle.ir_store.proofs.tables.Tables.add_op.Goals as goal

pub returns-clause-ok : goal.returns-clause-ok
returns-clause-ok c =
    let count : c.len.result ≡ length c.self.inside.ops.items = search rules in
    let id : c.len.result ≡ length (map node_of c.self.inside.ops.items) = omega (arith, length-map c.self.inside.ops.items node_of) in
    let first : c.len-first.result ≡ length c.self.inside.types.items = search rules in
    let types : c.extend_from_slice.new.self.items ≡ c.self.inside.types.items ++ c.args.row.results.items = grind (arith, common_steps) in
    let pushed : c.push_reserved.new.self.items ≡ c.self.inside.ops.items ++ (record { row = c.args.row; first = c.len-first.result; regions = c.new.result }) ∷ [] = cc in
    let empty : c.new.result ≡ [] = c.new.ensures in
    let last : OpNode = record { head = head_of c.args.row; first = length c.self.inside.types.items; regions = [] } in
    let ops : map node_of c.push_reserved.new.self.items ≡ map node_of c.self.inside.ops.items ++ last ∷ [] = rw (pushed, map-append, first, empty) in
    let top : c.hang.new.top ≡ top_with c.args.block (op_id (length (map node_of c.self.inside.ops.items)) ∷ []) c.self.inside.top = rw (← id) c.in_ok-hang.ensures.top in
    let blocks : c.hang.new.blocks.items ≡ blocks_with c.args.block (op_id (length (map node_of c.self.inside.ops.items)) ∷ []) c.self.inside.blocks.items = rw (← id) c.in_ok-hang.ensures.blocks in
    rw (← c.self.view_is) (cc)
