use Rattle.std.proofs.Common.{◌∙◌, sym, ap, subst}
use Rattle.std.specs.declared.option.Option.{Option}
use Rattle.constraint_solver.proofs.Grows.{extends-trans}
use Rattle.first_fault.specs.declared.fault.Fault.{Fault}
use Rattle.first_fault.specs.Firsts.{earlier_of, IsFirst}
use Rattle.op_judgement.specs.Found.{basis_of}
use Rattle.op_judgement.specs.Grounds.{loaded_by}
use Rattle.op_judgement.specs.Parts.{IsGenericFault, entries_of}
use Rattle.op_judgement.proofs.Entering.{entered-grow}
use Rattle.op_judgement.proofs.Finding.{args-grow}
use Rattle.op_judgement.proofs.Gathering.{first-of-all, parts-are}
use Rattle.op_judgement.proofs.Grown.{ready-grows, ground-grows}
use Rattle.op_judgement.proofs.parts.parts_of.Goals as goal

pub args_of-requires : goal.args_of-requires
args_of-requires g c = record { ready = ready-grows c.requires.ready c.entries_of.ensures.later }

pub types_of-requires : goal.types_of-requires
types_of-requires g c = record {
  ready = ready-grows (ready-grows c.requires.ready c.entries_of.ensures.later)
      c.args_of.ensures.later;
}

pub returns-in-Some-clause-found : goal.returns-in-Some-clause-found
returns-in-Some-clause-found g c =
    let b = basis_of (λ p. (goal.NativePredicate-dyn g p).property p.1) c.args.env.now in
    let then = extends-trans c.args_of.ensures.later c.types_of.ensures.later in
    λ old al over.
    let over2 = ground-grows c.requires.ready over c.entries_of.ensures.later in
    let ready2 = ready-grows c.requires.ready c.entries_of.ensures.later in
    let over3 = ground-grows ready2 over2 c.args_of.ensures.later in
    subst (IsFirst (IsGenericFault (loaded_by b old) al c.args.form.now))
    (ap (earlier_of c.in_ok-types.types.first) (sym c.earlier-others.ensures)
    ∙ sym c.earlier.ensures ∙ c.in-Some.is)
    (first-of-all (loaded_by b old) al c.args.form.now c.types_of.new.u c.in_ok-types.types
    c.in_ok-entries.entries c.in_ok-args.args (c.in_ok-types.ensures.found old al over3)
    (entered-grow (loaded_by b old) al (entries_of c.args.form.now) c.entries_of.new.u
    c.types_of.new.u c.in_ok-entries.entries then (c.in_ok-entries.ensures.found old al over))
    (args-grow c.types_of.ensures.later (c.in_ok-args.ensures.found old al over2)))

pub returns-clause-found : goal.returns-clause-found
returns-clause-found g c =
    let b = basis_of (λ p. (goal.NativePredicate-dyn g p).property p.1) c.args.env.now in
    let then = extends-trans c.args_of.ensures.later c.types_of.ensures.later in
    λ old al over.
    let over2 = ground-grows c.requires.ready over c.entries_of.ensures.later in
    let ready2 = ready-grows c.requires.ready c.entries_of.ensures.later in
    let over3 = ground-grows ready2 over2 c.args_of.ensures.later in
    parts-are (loaded_by b old) al c.args.form.now c.types_of.new.u c.in_ok-types.types
    c.in_ok-entries.entries c.in_ok-args.args (c.in_ok-types.ensures.found old al over3)
    (entered-grow (loaded_by b old) al (entries_of c.args.form.now) c.entries_of.new.u
    c.types_of.new.u c.in_ok-entries.entries then (c.in_ok-entries.ensures.found old al over))
    (args-grow c.types_of.ensures.later (c.in_ok-args.ensures.found old al over2))
    c.in_ok-keys.keys c.in_ok-keys.values
    (ap (earlier_of c.in_ok-types.types.first) (sym c.earlier-others.ensures)
    ∙ sym c.earlier.ensures ∙ c.in_default.is)
    c.in_ok-keys.ensures.keys c.in_ok-keys.ensures.values
