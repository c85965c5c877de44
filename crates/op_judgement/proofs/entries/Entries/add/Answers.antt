use Rattle.std.proofs.Common.{List, ◌∙◌, ◌∷◌, ◌++◌, [], ap, subst}
use Rattle.std.specs.declared.option.Option.{Option}
use Rattle.std.specs.declared.option.Option.TheVariants.{Some}
use Rattle.first_fault.specs.declared.fault.Fault.{Fault}
use Rattle.first_fault.specs.Firsts.{earlier_of}
use Rattle.std.proofs.lemmas.List.{map-append}
use Rattle.op_judgement.specs.Entered.{IsEntryValue}
use Rattle.op_judgement.specs.Found.{basis_of}
use Rattle.op_judgement.specs.Grounds.{loaded_by}
use Rattle.op_judgement.proofs.Entering.{entered-value, entered-fault}
use Rattle.value_meaning.specs.declared.dict.Entry.{Entry}
use Rattle.value_meaning.specs.Dicts.{keyed}
use Rattle.module_meaning.specs.Says.{keys_in}
use Rattle.op_judgement.proofs.entries.Entries.add.Goals as goal

pub returns-in_ok-push-in-Ok-clause-entered : goal.returns-in_ok-push-in-Ok-clause-entered
returns-in_ok-push-in-Ok-clause-entered g c =
    let b = basis_of (λ p. (goal.NativePredicate-dyn g p).property p.1) c.args.env.now in
    let e = c.args.entry.now in
    λ old al before over x.
    entered-value (loaded_by b old) al before e c.args.u.now c.entry_value.new.u c.args.self.now _
    c.in_ok-repeated.repeated c.entry_value.ensures.later x
    (c.in_ok-repeated.ensures.seen (keys_in before) x.seen)
    (c.in_ok-repeated.ensures.first (keys_in before) x.seen) c.in-Ok.value
    (subst (IsEntryValue (loaded_by b old) al e c.entry_value.new.u) c.in-Ok.is
    (c.in_ok-value.ensures.found old al over))
    c.earlier-self.ensures
    (ap keyed c.in_ok-push-in-Ok.ensures.items
    ∙ map-append (λ (d : Entry). (d.key.now, d.value)) c.args.self.now.pairs.items
    (record { key = c.bytes-key.result; value = c.in-Ok.value } ∷ [])
    ∙ ap (λ k. keyed c.args.self.now.pairs.items ++ (k, c.in-Ok.value) ∷ []) c.bytes-key.ensures)

pub returns-in-Err-clause-entered : goal.returns-in-Err-clause-entered
returns-in-Err-clause-entered g c =
    let b = basis_of (λ p. (goal.NativePredicate-dyn g p).property p.1) c.args.env.now in
    let e = c.args.entry.now in
    λ old al before over x.
    entered-fault (loaded_by b old) al before e c.args.u.now c.entry_value.new.u c.args.self.now _
    c.in_ok-repeated.repeated c.entry_value.ensures.later x
    (c.in_ok-repeated.ensures.seen (keys_in before) x.seen)
    (c.in_ok-repeated.ensures.first (keys_in before) x.seen) c.in-Err.fault
    (subst (IsEntryValue (loaded_by b old) al e c.entry_value.new.u) c.in-Err.is
    (c.in_ok-value.ensures.found old al over))
    (c.earlier-self-in-Err.ensures
    ∙ ap (λ (o : Option Fault). earlier_of o (Some c.in-Err.fault)) c.earlier-self.ensures)
