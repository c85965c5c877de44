use Rattle.std.proofs.Common.{◌≡◌, ◌+◌, sym, ◌∙◌, subst}
use Rattle.std.specs.declared.option.Option.TheVariants.{Some, None}
use Rattle.first_fault.specs.Firsts.{IsFirst}
use Rattle.value_meaning.specs.Faults.{IsFaultOf}
use Rattle.value_meaning.specs.Meaning.{claim_at}
use Rattle.value_meaning.specs.Meaning as claim
use Rattle.value_meaning.proofs.Nodes.{judges-and}
use Rattle.value_meaning.proofs.Parts.{types-bad, kids-many}
use Rattle.value_meaning.proofs.Results.{ok-map}
use Rattle.value_meaning.proofs.part.of_types.Goals as goal

pub returns-in-Some-clause-judged : goal.returns-in-Some-clause-judged
returns-in-Some-clause-judged c = λ g n spelled ms least other of x.
    rw c.bad.ensures.value (rw c.bad.ensures.first
    (types-bad g n c.args.place c.args.u.now c.args.head other spelled ms c.args.kids x of
    c.in-Some.fault
    (subst (IsFirst (IsFaultOf g.table g.tests g.types
    (claim_at c.args.place (claim.types spelled)))) c.in-Some.is
    (c.types_fault.ensures.first g (n + 1) spelled ms x))
    (c.types_fault.ensures.wrong (λ e. some-none (sym c.in-Some.is ∙ e))).1))
  where
    some-none : {A : Type 0} {x : A} → Some x ≡ None → ⊥
    some-none e = cc

pub returns-in-None-clause-judged : goal.returns-in-None-clause-judged
returns-in-None-clause-judged c = λ g n spelled ms least other of x.
    ok-map c.made.result
    (λ j y. judges-and g n c.made.new.u _ (claim_at c.args.place (claim.types spelled)) ms None j
    (subst (IsFirst (IsFaultOf g.table g.tests g.types
    (claim_at c.args.place (claim.types spelled)))) c.in-None.is
    (c.types_fault.ensures.first g (n + 1) spelled ms x)) y)
    (c.made.ensures.judged g n spelled ms least other x
    (λ all. of.keeps _ (kids-many g n c.args.place c.args.u.now c.args.head other spelled ms
    c.args.kids x all) (c.types_fault.ensures.types all c.in-None.is)))
