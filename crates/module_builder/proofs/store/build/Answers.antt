use Rattle.std.proofs.Common.{◌≡◌, length, map, ap, sym, ◌∙◌, subst, arith, None}
use Rattle.std.proofs.lemmas.Slice.Zip.{AllZip-long}
use Rattle.std.specs.Vec.Iter.{into_iter_items}
use Rattle.ir_store.specs.Modules.{no_ops}
use Rattle.module_builder.specs.Filled.{Await, OpsFilled}
use Rattle.module_builder.specs.Firsts.{firsts_of, result_count}
use Rattle.module_builder.specs.Fit.{IdsFit}
use Rattle.module_builder.specs.Making.{MeanBelow, AllMade}
use Rattle.module_builder.proofs.Composing.{as-many, all-await, rows-fit}
use Rattle.module_builder.proofs.Composing.{built-shape, built-parts, built-places}
use Rattle.module_builder.proofs.Composing.{built-operands, built-successors}
use Rattle.module_faults.specs.Standings.{standings as standings_of}
use Rattle.module_faults.specs.Standings.{ops_of, ops_standings}
use Rattle.module_builder.proofs.store.build.Goals as goal

pub first_values-requires : goal.first_values-requires
first_values-requires c =
    let long = AllZip-long IdsFit (ops_of (standings_of c.args.tree.now)) c.args.ids.items
    c.requires.fit in
    let same = ap (λ ss. length (ops_of ss)) c.requires.stands in
    let ids = ap length c.as_slice.ensures.value in
    omega arith

pub make_rows-requires-clause-ids : goal.make_rows-requires-clause-ids
make_rows-requires-clause-ids c =
    AllZip-long IdsFit (ops_of (standings_of c.args.tree.now)) c.args.ids.items c.requires.fit
    ∙ sym (ap (λ ss. length (ops_of ss)) c.requires.stands)

pub make_rows-requires-clause-defined : goal.make_rows-requires-clause-defined
make_rows-requires-clause-defined c =
    let begin : c.in_ok-firsts.firsts.items
    ≡ firsts_of 0 (standings_of c.args.tree.now) (map result_count c.args.ids.items)
    = rw (c.requires.stands, c.as_slice.ensures.value) at c.in_ok-firsts.ensures in
    subst (λ n. MeanBelow n c.args.uses.now)
    (as-many (standings_of c.args.tree.now) c.args.ids.items c.in_ok-firsts.firsts.items
    c.requires.fit begin ∙ ap length (sym c.as_slice-2.ensures.value))
    (record { all = c.requires.uses.defined })

pub fill_ops-requires-clause-rows : goal.fill_ops-requires-clause-rows
fill_ops-requires-clause-rows c =
    let cs = ops_of (standings_of c.args.tree.now) in
    let all : AllMade cs c.args.ids.items c.in_ok-rows.rows.items c.args.uses.now
    c.as_slice-2.result.now
    = rw c.requires.stands at c.in_ok-rows.ensures in
    let rows : Await (λ n. ops_standings n c.args.tree.now.ops) c.in_ok-rows.rows.items
    = all-await c.args.tree.now.ops c.in_ok-rows.rows.items
    (rows-fit cs c.args.ids.items c.in_ok-rows.rows.items c.requires.fit all.are) in
    let there : Await (λ n. ops_standings n c.as_slice-3.result.now)
    (into_iter_items c.into_iter.result)
    = subst (λ l. Await (λ n. ops_standings n c.as_slice-3.result.now) l)
    (sym c.into_iter.ensures.rest)
    (subst (λ l. Await (λ n. ops_standings n l) c.in_ok-rows.rows.items)
    (sym c.as_slice-3.ensures) rows) in
    there

pub returns : goal.returns
returns c =
    let tree = c.args.tree.now in
    let ids = c.args.ids.items in
    let rows = c.in_ok-rows.rows.items in
    let left = into_iter_items c.fill_ops.new.rows in
    let meant = c.args.uses.now in
    let firsts = c.in_ok-firsts.firsts.items in
    let store = c.fill_ops.new.store in
    let begin : firsts ≡ firsts_of 0 (standings_of tree) (map result_count ids)
    = rw (c.requires.stands, c.as_slice.ensures.value) at c.in_ok-firsts.ensures in
    let all : AllMade (ops_of (standings_of tree)) ids rows meant firsts
    = rw (c.requires.stands, c.as_slice-2.ensures.value) at c.in_ok-rows.ensures in
    let filled : OpsFilled no_ops store None tree.ops rows left
    = rw (c.new-store.ensures, c.as_slice-3.ensures, c.into_iter.ensures.rest)
    at c.in_ok-fill_ops.ensures in
    record {
      shape = built-shape tree.ops ids rows left meant firsts store c.requires.fit all begin filled;
      parts = built-parts tree.ops ids rows left meant firsts store c.requires.fit all begin filled;
      places = built-places tree.ops ids rows left meant firsts store c.requires.fit all begin
          filled;
      operands = built-operands tree.ops ids rows left meant firsts store c.requires.fit all begin
          filled;
      successors = built-successors tree.ops ids rows left meant firsts store c.requires.fit all
          begin filled;
    }
