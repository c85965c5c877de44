-- What follows from the answer that is given: where accepted files have the answer that all is
-- well, no other can be given but by a fault or for want of memory.
use Rattle.std.proofs.Common.{◌≡◌, ◌⊎◌, inl, inr, ℕ, List, [], length, Bool, true, false}
use Rattle.std.proofs.Common.{refl, sym, ◌∙◌, ap, subst}
use Rattle.std.specs.Prelude.{IfSome, IsTrue, nat_le}
use Rattle.std.specs.declared.option.Option.{Option}
use Rattle.std.specs.declared.option.Option.TheVariants.{Some, None}
use Rattle.derived_printer.specs.declared.form.Form.{Form}
use Rattle.dialect_defs.specs.declared.definition.OpDef.{OpDef}
use Rattle.irdl_bytes.specs.Outside.{FileMap, FaultsByItself, Rose}
use Rattle.ir_lexer.specs.declared.lexer.TheConstants.{TEXT_LIMIT}
use Rattle.ir_lexer.specs.Spelling.{Text}
use Rattle.module_meaning.specs.WholeModules.{WholeModule}
use Rattle.irdl_engine.specs.declared.status.Status.{Status}
use Rattle.irdl_engine.specs.declared.status.Status.TheVariants.{Done, OutOfMemory, WriteFault}
use Rattle.irdl_engine.specs.declared.status.Status.TheVariants.{OutputLimit}
use Rattle.irdl_engine.specs.Answer.{Answer, Accepted, AcceptedModule, IsDenoted}
use Rattle.irdl_engine.specs.Answer.{Obeys, MayAnswer, answered, done}
use Rattle.irdl_engine.specs.Answer.{module_command, printed}
use Rattle.irdl_engine.specs.Command.{Command, printed_by}
use Rattle.irdl_engine.specs.Modules.{canonical_text}
use Rattle.irdl_engine.specs.Judged.{Predicates}
use Rattle.irdl_engine.specs.Writes.{Change, GivesAll, GivesFronts, GivesOut, GivesPlanned, MayGive}
use Rattle.irdl_engine.proofs.OneAnswer.{obeys-once, one-answer}

-- ---- completeness

-- all is well, or memory ran out
abbrev Ends : Status → Type 0
Ends status = (status ≡ Done) ⊎ (status ≡ OutOfMemory)

-- the files can't fail by themselves, or didn't
abbrev Calm : Bool → ℕ → ℕ → Type 0
Calm steady before now = IsTrue steady ⊎ (Rose before now → ⊥)

-- no stream's fault matters, or none was counted
abbrev NoFault : Option Form → ℕ → ℕ → ℕ → ℕ → Type 0
NoFault form out-before out-after err-before err-after = (form ≡ None)
    ⊎ ((Rose out-before out-after → ⊥) × (Rose err-before err-after → ⊥))

-- ---- the answer for accepted files

-- an answer whose status is that all is well has nothing for standard error
module-done : (form : Option Form) (ops : List OpDef) (w : WholeModule)
    → (answered form ops w).status ≡ Done → (answered form ops w).err ≡ []
module-done None ops w e = refl
module-done (Some form) ops w e =
    printed-done (canonical_text form ops w)
    (nat_le (length (canonical_text form ops w)) TEXT_LIMIT) refl e
  where
    printed-done : (text : Text) (within : Bool) → nat_le (length text) TEXT_LIMIT ≡ within
        → (printed text).status ≡ Done → (printed text).err ≡ []
    printed-done text true is e = rw is refl
    printed-done text false is e =
        let wrong : OutputLimit ≡ Done = rw is at e in absurd (cc)

-- what accepted files are answered: the status is that all is well, and nothing is for standard
-- error; nothing is for standard output but where a module is printed
record GoodAnswer (natives : Predicates) (m : FileMap) (command : Option Command) (a : Answer)
    : Type 0 where
  obeys : Obeys natives m command a
  status : a.status ≡ Done
  err : a.err ≡ []
  out : printed_by command ≡ None → a.out ≡ []

-- what a denoted module is answered
pub denoted-obeys : (natives : Predicates) (m : FileMap) (command : Option Command)
    (x : IsDenoted natives m command)
    → Obeys natives m command (answered x.form x.loaded.ops x.denoted)
denoted-obeys natives m command x =
    subst (λ c. Obeys natives m c (answered x.form x.loaded.ops x.denoted)) (sym x.spells)
    (at-form x.form)
  where
    at-form : (form : Option Form) → Obeys natives m
        (Some (module_command form x.name x.names)) (answered form x.loaded.ops x.denoted)
    at-form None = inr (
      x.loaded,
      x.defined,
      inr (record {
        text = x.text;
        has = x.has;
        told = inr (record { denoted = x.denoted; denotes = x.denotes; is = refl });
      }),
    )
    at-form (Some form) = inr (
      x.loaded,
      x.defined,
      inr (record {
        text = x.text;
        has = x.has;
        told = inr (record { denoted = x.denoted; denotes = x.denotes; is = refl });
      }),
    )

accepted-module : (natives : Predicates) (m : FileMap) (command : Option Command)
    → AcceptedModule natives m command → (a : Answer) × GoodAnswer natives m command a
accepted-module natives m command y =
    let x = y.module_is in (
      answered x.form x.loaded.ops x.denoted,
      record {
        obeys = denoted-obeys natives m command x;
        status = y.within;
        err = module-done x.form x.loaded.ops x.denoted y.within;
        out = λ e. no-out x.form (ap printed_by (sym x.spells) ∙ e);
      },
    )
  where
    no-out : (form : Option Form)
        → printed_by (Some (module_command form y.module_is.name y.module_is.names)) ≡ None
        → (answered form y.module_is.loaded.ops y.module_is.denoted).out ≡ []
    no-out None e = refl
    no-out (Some form) e = absurd (cc)

accepted-good : (natives : Predicates) (m : FileMap) (command : Option Command)
    → Accepted natives m command → (a : Answer) × GoodAnswer natives m command a
accepted-good natives m command (inl x) = (
  done,
  record {
    obeys = subst (λ c. Obeys natives m c done) (sym x.spells)
        (inr (x.texts, x.has, inl (x.accepted, refl)));
    status = refl;
    err = refl;
    out = λ e. refl;
  },
)
accepted-good natives m command (inr x) = accepted-module natives m command x

-- where a good answer is given no write fails
given-good : (natives : Predicates) (m : FileMap) (command : Option Command) (a good : Answer)
    (status : Status) (out err : Change) (ob oa eb ea : ℕ) → a ≡ good
    → GoodAnswer natives m command good
    → GivesAll a status out err ⊎ (GivesFronts a status out err ⊎ GivesOut a status out err)
    → (status ≡ WriteFault → Rose ob oa ⊎ Rose eb ea)
    → NoFault (printed_by command) ob oa eb ea → Ends status
given-good natives m command a good status out err ob oa eb ea e g (inl h) cause calm =
    inl (h.status_is ∙ ap (λ x. x.status) e ∙ g.status)
given-good natives m command a good status out err ob oa eb ea e g (inr (inr h)) cause calm =
    inr h.status_is
given-good natives m command a good status out err ob oa eb ea e g (inr (inl h)) cause (inl none) =
    elim h.has_bytes [
      | inl some ↦ absurd (some (ap (λ x. x.out) e ∙ g.out none))
      | inr some ↦ absurd (some (ap (λ x. x.err) e ∙ g.err))
    ]
given-good natives m command a good status out err ob oa eb ea e g (inr (inl h)) cause (inr calm) =
    elim (cause h.status_is) [
      | inl rose ↦ absurd (calm.0 rose)
      | inr rose ↦ absurd (calm.1 rose)
    ]

true-or-false : (b : Bool) → IsTrue b → b ≡ false → ⊥
true-or-false true t e = absurd (cc)
true-or-false false t e = absurd (cc)

module _ (natives : Predicates) (m : FileMap) (steady : Bool) (before now : ℕ)
    (command : Option Command) (status : Status) (out err : Change) (ob oa eb ea : ℕ)
    (cause : status ≡ WriteFault → Rose ob oa ⊎ Rose eb ea) where
  completes-at : (g : GivesPlanned natives m (FaultsByItself steady before now) command status
      out err)
      → MayAnswer natives m (FaultsByItself steady before now) command g.answer
      → Accepted natives m command → Calm steady before now
      → NoFault (printed_by command) ob oa eb ea → Ends status
  completes-at g (inl e) a calm quiet =
      let good = accepted-good natives m command a in
      let same = obeys-once natives m command g.answer good.0 e good.1.obeys in
      given-good natives m command g.answer good.0 status out err ob oa eb ea same good.1 g.given
      cause quiet
  completes-at g (inr f) a (inl s) quiet = absurd (true-or-false steady s f.0.0)
  completes-at g (inr f) a (inr c) quiet = absurd (c f.0.1)

  may-complete : MayGive natives m (FaultsByItself steady before now) command status out err
      → Accepted natives m command → Calm steady before now
      → NoFault (printed_by command) ob oa eb ea → Ends status
  may-complete (inl g) a calm quiet = completes-at g g.planned a calm quiet
  may-complete (inr u) a calm quiet = inr u.status_is

-- faults and want of memory aside, accepted files are accepted
pub completes : (told : Option FileMap) (natives : Predicates) (steady : Bool) (before now : ℕ)
    (command : Option Command) (status : Status) (out err : Change) (ob oa eb ea : ℕ)
    → (status ≡ WriteFault → Rose ob oa ⊎ Rose eb ea)
    → IfSome told (λ m. MayGive natives m (FaultsByItself steady before now) command status out err)
    → IfSome told (λ m. Accepted natives m command → IsTrue steady ⊎ (Rose before now → ⊥)
    → (printed_by command ≡ None) ⊎ ((Rose ob oa → ⊥) × (Rose eb ea → ⊥))
    → (status ≡ Done) ⊎ (status ≡ OutOfMemory))
completes None natives steady before now command status out err ob oa eb ea cause h = tt
completes (Some m) natives steady before now command status out err ob oa eb ea cause h =
    λ a calm quiet. may-complete natives m steady before now command status out err ob oa eb ea
    cause h a calm quiet

pub ruleset whole = (completes, one-answer)
