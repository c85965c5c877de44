use Rattle.std.proofs.Common.{◌≡◌, ◌<◌, [], ◌∷◌, ◌++◌, length, slice_index_or}
use Rattle.ir_store.proofs.Changed.{set-changed-plain}
use Rattle.ir_store.proofs.tables.hang.Goals as goal

pub returns-in_ok-push-in-Some-clause-blocks : goal.returns-in_ok-push-in-Some-clause-blocks
returns-in_ok-push-in-Some-clause-blocks c =
    let within : c.in-Some.block.0 < length c.args.blocks.now.items = c.requires _ c.in-Some.is in
    let is : c.index_mut-entry.result.now ≡ slice_index_or c.args.blocks.now.items c.in-Some.block.0 c.index_mut-entry.result.now = c.index_mut-entry.ensures.value in
    let pushed : c.push-in-Some.new.self ≡ c.index_mut-entry.result.now.ops ++ c.args.op ∷ [] = c.in_ok-push-in-Some.ensures.ok in
    rw c.in-Some.is (set-changed-plain (λ n. record n { ops = n.ops ++ c.args.op ∷ [] }) c.args.blocks.now.items c.in-Some.block.0
    (record { first = c.index_mut-entry.result.now.first; count = c.index_mut-entry.result.now.count; ops = c.push-in-Some.new.self }) c.index_mut-entry.result.now within (rw (← is) (cc)))
