use Rattle.std.proofs.Common.{◌≡◌, sym, ap, length, nat_lt}
use Rattle.std.specs.declared.option.Option.TheVariants.{Some}
use Rattle.std.proofs.lemmas.Bool.{eqb-true}
use Rattle.attr_value.specs.declared.head.Head.TheVariants as h
use Rattle.value_meaning.specs.Meaning.{leaf}
use Rattle.value_meaning.proofs.Leaves.{form-right, form-wrong, symbol-good, symbol-bad, symbol-other}
use Rattle.value_meaning.proofs.Leaves.{some-less, less-some}
use Rattle.value_meaning.proofs.Results.{ok-map}
use Rattle.value_meaning.proofs.node.symbol.Goals as goal

pub returns-then-is_empty-clause-judged : goal.returns-then-is_empty-clause-judged
returns-then-is_empty-clause-judged c = λ g n.
    let none : length c.args.parts.now ≡ 0 =
    eqb-true (length c.args.parts.now) 0 (sym c.if-is_empty.ensures) in
    rw c.wrong.ensures.value (rw c.wrong.ensures.first
    (form-wrong g n c.args.place c.args.u.now (nat_lt 0 (length c.args.parts.now))
    (Some (leaf (h.Symbol c.args.parts.now))) (ap (nat_lt 0) none)
    (symbol-bad g c.args.parts.now none) (symbol-other g c.args.parts.now)))

pub returns-clause-judged : goal.returns-clause-judged
returns-clause-judged c = λ g n.
    let some = some-less (length c.args.parts.now) (sym c.if-is_empty.ensures) in
    rw (sym c.in_ok-parts.ensures) (ok-map c.leaf_of.result
    (λ j x. form-right g n c.args.place c.leaf_of.new.u
    (nat_lt 0 (length c.in_ok-parts.parts)) _ j
    (rw c.in_ok-parts.ensures (less-some (length c.args.parts.now) some)) x)
    (c.leaf_of.ensures.judged g n
    (symbol-good g c.in_ok-parts.parts (rw c.in_ok-parts.ensures some))))
