use Rattle.std.proofs.Common.{◌∙◌, ap, refl, subst}
use Rattle.std.specs.declared.option.Option.TheVariants.{Some}
use Rattle.first_fault.specs.Firsts.{earlier_of}
use Rattle.op_judgement.specs.Judged.{IsJudgement}
use Rattle.elaborate.proofs.Finding.{found-right, found-rule, found-values}
use Rattle.elaborate.proofs.operations.Found.add.Goals as goal

pub returns-in-Values : goal.returns-in-Values
returns-in-Values c = λ loaded al ss now op is_last distinct place found judged.
    found-values loaded al distinct ss now op is_last c.args.self.now _ found c.in-Values.fault
    c.earlier-self.ensures (subst (IsJudgement loaded al op is_last now) c.in-Values.is judged)

pub returns-in-Operation : goal.returns-in-Operation
returns-in-Operation c = λ loaded al ss now op is_last distinct place found judged.
    found-rule loaded al distinct ss now op is_last c.args.self.now _ found c.in-Operation.rule
    c.args.place refl
    (c.earlier-self-in-Operation.ensures
    ∙ ap (λ n. earlier_of c.args.self.now.operations (Some (record { place = c.args.place; code = n })))
    c.rank_of.ensures)
    place (subst (IsJudgement loaded al op is_last now) c.in-Operation.is judged)

pub returns-in_ok-push-in-Right : goal.returns-in_ok-push-in-Right
returns-in_ok-push-in-Right c = λ loaded al ss now op is_last distinct place found judged.
    found-right loaded al distinct ss now op is_last c.args.self.now _ found c.in-Right.ids refl refl
    c.in_ok-push-in-Right.ensures.items
    (subst (IsJudgement loaded al op is_last now) c.in-Right.is judged)
