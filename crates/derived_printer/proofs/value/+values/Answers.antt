use Rattle.std.proofs.Common.{◌≡◌, ◌<◌, ◌≤◌, ◌-◌, length, drop, arith, rules, refl, sym, ◌∙◌}
use Rattle.attr_value.specs.Ids.{at}
use Rattle.derived_printer.proofs.Printing.{exit, step, stop, named}
use Rattle.derived_printer.proofs.Loops.{went-start, went-end, turn, turn-first, turn-second, next-kid, end-kids, next-entry, end-entries}
use Rattle.derived_printer.proofs.Parts.{shaped-parts, function-parts, dialect-parts, entry-parts, not-empty, whole-rest}
use Rattle.derived_printer.proofs.Kids.{can-at, can-take, can-drop, deep-kid, deep-take, deep-drop, function-count, dict-count}
use Rattle.derived_printer.proofs.value.+values.Goals as goal

pub enclosed-returns-in_err-sign : goal.enclosed-returns-in_err-sign
enclosed-returns-in_err-sign g t c = exit c.from_residual.ensures (stop _ _ c.in_err-sign.ensures)

pub enclosed-returns-in_err-commas : goal.enclosed-returns-in_err-commas
enclosed-returns-in_err-commas g t c =
    exit c.from_residual-in_err-commas.ensures
    (step _ _ c.in_ok-sign.ensures (stop _ _ c.in_err-commas.ensures))

pub enclosed-returns : goal.enclosed-returns
enclosed-returns g t c =
    step _ _ c.in_ok-sign.ensures (step _ _ c.in_ok-commas.ensures c.sign-2.ensures)

pub worded-returns-in_err-word : goal.worded-returns-in_err-word
worded-returns-in_err-word g t c = exit c.from_residual.ensures (stop _ _ c.in_err-word.ensures)

pub worded-returns : goal.worded-returns
worded-returns g t c = step _ _ c.in_ok-word.ensures c.enclosed.ensures

pub dict-returns-in_err-sign : goal.dict-returns-in_err-sign
dict-returns-in_err-sign g t c = exit c.from_residual.ensures (stop _ _ c.in_err-sign.ensures)

pub dict-returns-in_err-entries : goal.dict-returns-in_err-entries
dict-returns-in_err-entries g t c =
    exit c.from_residual-in_err-entries.ensures
    (step _ _ c.in_ok-sign.ensures (stop _ _ c.in_err-entries.ensures))

pub dict-returns : goal.dict-returns
dict-returns g t c =
    step _ _ c.in_ok-sign.ensures (step _ _ c.in_ok-entries.ensures c.sign-2.ensures)

pub shaped-returns-in_err-word : goal.shaped-returns-in_err-word
shaped-returns-in_err-word g t c =
    named (shaped-parts c.args.kind c.args.sizes.now _ _ c.shape_text.ensures)
    (exit c.from_residual.ensures (stop _ _ c.in_err-word.ensures))

pub shaped-returns-in_err-sign : goal.shaped-returns-in_err-sign
shaped-returns-in_err-sign g t c =
    named (shaped-parts c.args.kind c.args.sizes.now _ _ c.shape_text.ensures)
    (exit c.from_residual-in_err-sign.ensures
    (step _ _ c.in_ok-word.ensures (stop _ _ c.in_err-sign.ensures)))

pub shaped-returns-in_err-dims : goal.shaped-returns-in_err-dims
shaped-returns-in_err-dims g t c =
    named (shaped-parts c.args.kind c.args.sizes.now _ _ c.shape_text.ensures)
    (exit c.from_residual-in_err-dims.ensures
    (step _ _ c.in_ok-word.ensures
    (step _ _ c.in_ok-sign.ensures (stop _ _ c.in_err-dims.ensures))))

pub shaped-returns-in_err-commas : goal.shaped-returns-in_err-commas
shaped-returns-in_err-commas g t c =
    named (shaped-parts c.args.kind c.args.sizes.now _ _ c.shape_text.ensures)
    (exit c.from_residual-in_err-commas.ensures
    (step _ _ c.in_ok-word.ensures
    (step _ _ c.in_ok-sign.ensures
    (step _ _ c.in_ok-dims.ensures (stop _ _ c.in_err-commas.ensures)))))

pub shaped-returns : goal.shaped-returns
shaped-returns g t c =
    named (shaped-parts c.args.kind c.args.sizes.now _ _ c.shape_text.ensures)
    (step _ _ c.in_ok-word.ensures
    (step _ _ c.in_ok-sign.ensures
    (step _ _ c.in_ok-dims.ensures (step _ _ c.in_ok-commas.ensures c.sign-2.ensures))))

pub function-returns-in_err-enclosed : goal.function-returns-in_err-enclosed
function-returns-in_err-enclosed g t c =
    named
    (function-parts c.args.u.now c.args.inputs c.args.kids.now _ _ refl
    (whole-rest c.args.inputs c.args.kids.now))
    (exit c.from_residual.ensures (stop _ _ c.in_err-enclosed.ensures))

pub function-returns-in_err-sign : goal.function-returns-in_err-sign
function-returns-in_err-sign g t c =
    named
    (function-parts c.args.u.now c.args.inputs c.args.kids.now _ _ refl
    (whole-rest c.args.inputs c.args.kids.now))
    (exit c.from_residual-in_err-sign.ensures
    (step _ _ c.in_ok-enclosed.ensures (stop _ _ c.in_err-sign.ensures)))

pub function-returns : goal.function-returns
function-returns g t c =
    named
    (function-parts c.args.u.now c.args.inputs c.args.kids.now _ _ refl
    (whole-rest c.args.inputs c.args.kids.now))
    (step _ _ c.in_ok-enclosed.ensures (step _ _ c.in_ok-sign.ensures c.enclosed-2.ensures))

pub dialect-returns-in_err-name : goal.dialect-returns-in_err-name
dialect-returns-in_err-name g t c = exit c.from_residual.ensures (stop _ _ c.in_err-name.ensures)

pub dialect-returns : goal.dialect-returns
dialect-returns g t c =
    named
    (dialect-parts c.args.is_type c.args.full_name.now c.args.u.now c.args.kids.now
    (not-empty _ _ c.is_empty.ensures c.if-is_empty.false))
    (step _ _ c.in_ok-name.ensures c.enclosed.ensures)

pub entry-returns-in_err-key : goal.entry-returns-in_err-key
entry-returns-in_err-key g t c = exit c.from_residual.ensures (stop _ _ c.in_err-key.ensures)

pub entry-returns-in_err-sign : goal.entry-returns-in_err-sign
entry-returns-in_err-sign g t c =
    named
    (entry-parts c.args.name.now (at c.args.u.now c.args.id.0)
    (sym c.is_unit.ensures ∙ c.if-is_unit.false))
    (exit c.from_residual-in_err-sign.ensures
    (step _ _ c.in_ok-key.ensures (stop _ _ c.in_err-sign.ensures)))

pub entry-returns : goal.entry-returns
entry-returns g t c =
    named
    (entry-parts c.args.name.now (at c.args.u.now c.args.id.0)
    (sym c.is_unit.ensures ∙ c.if-is_unit.false))
    (step _ _ c.in_ok-key.ensures (step _ _ c.in_ok-sign.ensures c.value.ensures))

pub commas-returns-in_err-separate : goal.commas-returns-in_err-separate
commas-returns-in_err-separate g t c =
    exit c.from_residual.ensures
    (turn-first _ _ c.loop-i.invariant c.in_err-separate.ensures
    (next-kid c.args.u.now c.args.kids.now c.loop-i.i _ _ (record { 0 = 0 }) c.loop-i-test.true
    refl refl))

pub commas-returns-in_err-value : goal.commas-returns-in_err-value
commas-returns-in_err-value g t c =
    exit c.from_residual-in_err-value.ensures
    (turn-second _ _ _ c.loop-i.invariant c.in_ok-separate.ensures c.in_err-value.ensures
    (next-kid c.args.u.now c.args.kids.now c.loop-i.i _ _ (record { 0 = 0 }) c.loop-i-test.true
    refl refl))

pub commas-loop-i-preserved : goal.commas-loop-i-preserved
commas-loop-i-preserved g t c =
    turn _ _ _ c.loop-i.invariant c.in_ok-separate.ensures c.in_ok-value.ensures
    (next-kid c.args.u.now c.args.kids.now c.loop-i.i _ _ (record { 0 = 0 }) c.loop-i-test.true refl
    refl)

pub commas-returns : goal.commas-returns
commas-returns g t c =
    went-end c.loop-i.invariant (end-kids c.args.u.now c.args.kids.now c.loop-i.i (omega arith))

pub entries-returns-in_err-separate : goal.entries-returns-in_err-separate
entries-returns-in_err-separate g t c =
    exit c.from_residual.ensures
    (turn-first _ _ c.loop-i.invariant c.in_err-separate.ensures
    (next-entry c.args.u.now c.args.keys.now c.args.kids.now c.loop-i.i _ _ _ _ (record { 0 = 0 })
    c.loop-i-test.true c.requires.count refl c.index-keys-i.is refl))

pub entries-returns-in_err-entry : goal.entries-returns-in_err-entry
entries-returns-in_err-entry g t c =
    exit c.from_residual-in_err-entry.ensures
    (turn-second _ _ _ c.loop-i.invariant c.in_ok-separate.ensures c.in_err-entry.ensures
    (next-entry c.args.u.now c.args.keys.now c.args.kids.now c.loop-i.i _ _ _ _ (record { 0 = 0 })
    c.loop-i-test.true c.requires.count refl (c.bytes.ensures ∙ c.index-keys-i.is) refl))

pub entries-loop-i-preserved : goal.entries-loop-i-preserved
entries-loop-i-preserved g t c =
    turn _ _ _ c.loop-i.invariant c.in_ok-separate.ensures c.in_ok-entry.ensures
    (next-entry c.args.u.now c.args.keys.now c.args.kids.now c.loop-i.i _ _ _ _ (record { 0 = 0 })
    c.loop-i-test.true c.requires.count refl (c.bytes.ensures ∙ c.index-keys-i.is) refl)

pub entries-returns : goal.entries-returns
entries-returns g t c =
    went-end c.loop-i.invariant
    (end-entries c.args.u.now c.args.keys.now c.args.kids.now c.loop-i.i (omega arith))

pub entries-loop-i-init : goal.entries-loop-i-init
entries-loop-i-init g t c = went-start

pub commas-value-requires : goal.commas-value-requires
commas-value-requires g t c =
    let less = c.loop-i-test.true in
    let can = can-at c.args.u.now c.args.kids.now c.loop-i.i (record { 0 = 0 }) less c.requires in
    let deep = deep-kid c.args.u.now c.args.kids.now c.loop-i.i (record { 0 = 0 }) less in
    search rules

pub entries-entry-requires : goal.entries-entry-requires
entries-entry-requires g t c =
    let less : c.loop-i.i < length c.args.kids.now =
    omega (arith, c.loop-i-test.true, c.requires.count) in
    let can =
    can-at c.args.u.now c.args.kids.now c.loop-i.i (record { 0 = 0 }) less c.requires.kids in
    let deep = deep-kid c.args.u.now c.args.kids.now c.loop-i.i (record { 0 = 0 }) less in
    search rules

pub function-enclosed-requires : goal.function-enclosed-requires
function-enclosed-requires g t c =
    let can = can-take c.args.u.now c.args.inputs c.args.kids.now c.requires.kids in
    let deep = deep-take c.args.u.now c.args.inputs c.args.kids.now in
    search rules

pub function-enclosed-requires-2 : goal.function-enclosed-requires-2
function-enclosed-requires-2 g t c =
    let n = length c.args.kids.now - c.args.inputs in
    let rest = drop c.args.inputs c.args.kids.now in
    let can =
    can-take c.args.u.now n rest
    (can-drop c.args.u.now c.args.inputs c.args.kids.now c.requires.kids) in
    let deep = deep-take c.args.u.now n rest in
    let deeper = deep-drop c.args.u.now c.args.inputs c.args.kids.now in
    search rules

pub node-function-requires : goal.node-function-requires
node-function-requires g t c =
    let count : c.in-Function.inputs ≤ length c.args.kids.now =
    function-count c.args.u.now c.args.kids.now _ _ c.in-Function.is c.requires.head in
    search rules

pub node-dict-requires : goal.node-dict-requires
node-dict-requires g t c =
    let count : length c.args.kids.now ≡ length c.as_slice-in-Dict.result.now =
    dict-count c.args.u.now c.args.kids.now _ _ _ c.in-Dict.is c.as_slice-in-Dict.ensures
    c.requires.head in
    search rules
