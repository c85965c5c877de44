use Rattle.symbol_scopes.specs.Regions as say
use Rattle.module_names.specs.ModuleNotes.{result_noted}
use Rattle.module_names.specs.Numbers.{pack_count}
use Rattle.module_names.specs.Said.{Said, one}
use Rattle.module_names.proofs.Saying.{said-more, said-then}
use Rattle.module_names.proofs.names.note_results.Goals as goal

pub loop-r-preserved : goal.loop-r-preserved
loop-r-preserved c =
    let r = c.r-item.result in
    let defined : Said c.note_size.new.scopes c.define.new.self (one (say.defines
    (record { name = r.name; place = r.place; count = pack_count r.pack }))) =
    record {
      is = rw c.in_ok-count.ensures.count at
          (rw c.bytes.ensures at c.in_ok-define.ensures.ok);
    } in
    said-more result_noted c.args.results.now _ _ _ _ _ c.loop-r-test.true c.r-item.is
    c.loop-r.invariant (said-then _ _ _ _ _ c.in_ok-count.ensures.noted defined)
