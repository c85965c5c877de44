-- From what was judged and what was said to what is given.
use Rattle.std.proofs.Common.{◌≡◌, ◌⊎◌, inl, inr, true, false, List, [], ◌∷◌, refl, sym, ◌∙◌, ap, subst, rules}
use Rattle.std.specs.Prelude.{Bool, IfSome, MatchOption, length, nat_le}
use Rattle.std.specs.declared.option.Option.{Option}
use Rattle.std.specs.declared.option.Option.TheVariants.{Some, None}
use Rattle.std.specs.Io.KnownBytes.{Appends, Keeps}
use Rattle.derived_printer.specs.declared.form.Form.{Form}
use Rattle.dialect_defs.specs.declared.definition.OpDef.{OpDef}
use Rattle.irdl_bytes.specs.Outside.{FileMap, AppendsPrefix}
use Rattle.ir_lexer.specs.declared.lexer.TheConstants.{TEXT_LIMIT}
use Rattle.ir_lexer.specs.Spelling.{Text}
use Rattle.module_meaning.specs.WholeModules.{WholeModule}
use Rattle.irdl_engine.specs.declared.status.Status.{Status}
use Rattle.irdl_engine.specs.declared.status.Status.TheVariants.{Done, Usage, ReadFault, WriteFault}
use Rattle.irdl_engine.specs.declared.status.Status.TheVariants.{OutOfMemory, OutputLimit}
use Rattle.irdl_engine.specs.declared.stop.Stop.{Stop}
use Rattle.irdl_engine.specs.declared.stop.Stop.TheVariants.{Unreadable, TooLong, Refused}
use Rattle.irdl_engine.specs.declared.stop.Stop.TheVariants as stop
use Rattle.irdl_engine.specs.declared.stop.ModuleStop.{ModuleStop}
use Rattle.irdl_engine.specs.declared.stop.ModuleStop.TheVariants.{Definitions, Module, Fault}
use Rattle.irdl_engine.specs.Answer.{Answer, MayAnswer, Obeys, answered, done, module_command}
use Rattle.irdl_engine.specs.Answer.{printed, usage}
use Rattle.irdl_engine.specs.Command.{Command, Verify, Print, printed_by}
use Rattle.irdl_engine.specs.Judged.{Predicates}
use Rattle.irdl_engine.specs.Modules.{canonical_text}
use Rattle.irdl_engine.specs.ModuleTexts.{DenotedBy, MayStopModule}
use Rattle.irdl_engine.specs.Obeyed.{SinkSeen, may_print}
use Rattle.irdl_engine.specs.Printed.{GivesPrinted}
use Rattle.irdl_engine.specs.ReadBack.{IsPrinted}
use Rattle.irdl_engine.specs.Said.{said, said_of_module, IsModuleUnreadable, IsUnreadable}
use Rattle.irdl_engine.specs.Writes.{Change, change, Got, GivesAll, GivesFronts, GivesOut, MayGive}
use Rattle.irdl_engine.specs.Writes.{Says}
use Rattle.irdl_engine.proofs.Lines.{said-line, said-module-line, usage-has}

-- a line that stands for another
pub says-as : (s s' r : Status) (t t' : Text) (e : Change)
    → Says s t r e → s ≡ s' → t ≡ t' → Says s' t' r e
says-as s s' r t t' e h p q = rw (← p, ← q) h

-- a sink that is left alone got nothing
pub got-nothing : (b : Option Text) → Appends b b []
got-nothing None = tt
got-nothing (Some bs) = search rules

-- nothing is a front of any text
pub got-front-of-all : (b : Option Text) (t : Text) → AppendsPrefix b b t
got-front-of-all None t = (0, tt)
got-front-of-all (Some bs) t = (0, search rules)

-- a sink that is left alone keeps its bytes
pub kept : (b : Option Text) → Keeps b b
kept None = tt
kept (Some bs) = refl

-- an answer that has nothing for standard output, of which the line was said
pub gives-said : (natives : Predicates) (m : FileMap) (failed : Type 0) (command : Option Command)
    (a : Answer) (status : Status) (out : Option Text) (err : Change)
    → MayAnswer natives m failed command a → a.out ≡ [] → (a.err ≡ [] → status ≡ WriteFault → ⊥)
    → Says a.status a.err status err
    → MayGive natives m failed command status (change out out) err
gives-said natives m failed command a status out err may none quiet (inl h) =
    let all : GivesAll a status (change out out) err =
    record { status_is = h.0; out_got = rw none (got-nothing out); err_got = h.1 } in
    inl (record { answer = a; planned = may; given = inl all })
gives-said natives m failed command a status out err may none quiet (inr h) =
    let has : (a.out ≡ [] → ⊥) ⊎ (a.err ≡ [] → ⊥) = inr (λ e. quiet e h.0) in
    let got = got-front-of-all out a.out in
    let fronts : GivesFronts a status (change out out) err =
    record { status_is = h.0; has_bytes = has; out_got = got; err_got = h.1 } in
    inl (record { answer = a; planned = may; given = inr (inl fronts) })

-- the usage line, where the words are no command
pub usage-given : (told : Option FileMap) (natives : Predicates) (failed : Type 0)
    (command : Option Command) (status : Status) (out : Option Text) (err : Change)
    → None ≡ command → Says usage.status usage.err status err
    → IfSome told (λ m. MayGive natives m failed command status (change out out) err)
usage-given None natives failed command status out err e h = tt
usage-given (Some m) natives failed command status out err e h =
    gives-said natives m failed command usage status out err (inl (rw (← e) refl)) refl
    (λ none _. usage-has none) h

-- ---- what a stop gives

-- what is said of a stop, or that memory ran out
abbrev pub SaysStop : List Text → Stop → Status → Change → Type 0
SaysStop names stop status err = MatchOption (said names stop)
    ((status ≡ OutOfMemory) × (err.after ≡ err.before)) (λ a. Says a.status a.err status err)

-- what is said of a stop is no usage line
pub stop-usage : (names : List Text) (stop : Stop) (status : Status) (err : Change)
    → SaysStop names stop status err → status ≡ Usage → ⊥
stop-usage names (Unreadable n) status err (inl h) e = let s = h.0 in absurd (cc)
stop-usage names (Unreadable n) status err (inr h) e = let s = h.0 in absurd (cc)
stop-usage names (TooLong n) status err (inl h) e = let s = h.0 in absurd (cc)
stop-usage names (TooLong n) status err (inr h) e = let s = h.0 in absurd (cc)
stop-usage names (Refused r) status err (inl h) e = let s = h.0 in absurd (cc)
stop-usage names (Refused r) status err (inr h) e = let s = h.0 in absurd (cc)
stop-usage names stop.OutOfMemory status err h e = let s = h.0 in absurd (cc)

-- a read fault is said of a file that couldn't be read
pub stop-unreadable : (names : List Text) (stop : Stop) (status : Status) (err : Change)
    → SaysStop names stop status err → status ≡ ReadFault → IsUnreadable stop
stop-unreadable names (Unreadable n) status err h e = tt
stop-unreadable names (TooLong n) status err (inl h) e = let s = h.0 in absurd (cc)
stop-unreadable names (TooLong n) status err (inr h) e = let s = h.0 in absurd (cc)
stop-unreadable names (Refused r) status err (inl h) e = let s = h.0 in absurd (cc)
stop-unreadable names (Refused r) status err (inr h) e = let s = h.0 in absurd (cc)
stop-unreadable names stop.OutOfMemory status err h e = let s = h.0 in absurd (cc)

module _ (natives : Predicates) (m : FileMap) (failed : Type 0) (command : Option Command)
    (names : List Text) (status : Status) (out : Option Text) (err : Change) where
  stop-gives : (stop : Stop) → IfSome (said names stop) (MayAnswer natives m failed command)
      → SaysStop names stop status err
      → MayGive natives m failed command status (change out out) err
  stop-gives (Unreadable n) may h =
      gives-said natives m failed command _ status out err may refl
      (λ none _. said-line names (Unreadable n) _ refl none) h
  stop-gives (TooLong n) may h =
      gives-said natives m failed command _ status out err may refl
      (λ none _. said-line names (TooLong n) _ refl none) h
  stop-gives (Refused r) may h =
      gives-said natives m failed command _ status out err may refl
      (λ none _. said-line names (Refused r) _ refl none) h
  stop-gives stop.OutOfMemory may h = inr (record {
    status_is = h.0;
    out_kept = kept out;
    err_kept = subst (λ b. Keeps err.before b) (sym h.1) (kept err.before);
  })

-- what is given for a stop, where the files may tell their bytes
pub stop-given : (told : Option FileMap) (natives : Predicates) (failed : Type 0)
    (command : Option Command) (names : List Text) (status : Status) (out : Option Text)
    (err : Change) (stop : Stop)
    → IfSome told (λ m. IfSome (said names stop) (MayAnswer natives m failed command))
    → SaysStop names stop status err
    → IfSome told (λ m. MayGive natives m failed command status (change out out) err)
stop-given None natives failed command names status out err stop may h = tt
stop-given (Some m) natives failed command names status out err stop may h =
    stop-gives natives m failed command names status out err stop may h

-- nothing stopped the call, and nothing is written
pub done-given : (told : Option FileMap) (natives : Predicates) (failed : Type 0)
    (command : Option Command) (out err : Option Text)
    → IfSome told (λ m. MayAnswer natives m failed command done)
    → IfSome told (λ m. MayGive natives m failed command Done (change out out) (change err err))
done-given None natives failed command out err may = tt
done-given (Some m) natives failed command out err may = inl (record {
  answer = done;
  planned = may;
  given = inl (record {
    status_is = refl;
    out_got = got-nothing out;
    err_got = got-nothing err;
  });
})

-- ---- what a denoted module gives

-- what is to be answered for a module that is denoted
denoted-obeys : (natives : Predicates) (m : FileMap) (names : List Text) (name : Text)
    (form : Option Form) (ops : List OpDef) (w : WholeModule) → DenotedBy natives m names name ops w
    → Obeys natives m (Some (module_command form name names)) (answered form ops w)
denoted-obeys natives m names name None ops w d = inr (
  d.loaded,
  d.defined,
  inr (record {
    text = d.text;
    has = d.has;
    told = inr (record { denoted = w; denotes = d.denotes; is = refl });
  }),
)
denoted-obeys natives m names name (Some form) ops w d = inr (
  d.loaded,
  d.defined,
  inr (record {
    text = d.text;
    has = d.has;
    told = inr (record {
      denoted = w;
      denotes = d.denotes;
      is = ap (λ (l : List OpDef). printed (canonical_text form l w)) (sym d.defines);
    });
  }),
)

-- ---- what a stop over a module file and definition files gives

-- what may be answered for any form may be for this one
of-form : (natives : Predicates) (m : FileMap) (failed : Type 0) (form : Option Form)
    (name : Text) (names : List Text) (a : Option Answer)
    → IfSome a (MayStopModule natives m failed name names)
    → IfSome a (MayAnswer natives m failed (Some (module_command form name names)))
of-form natives m failed form name names None may = tt
of-form natives m failed form name names (Some a) may = may form

-- what is said of such a stop, or that memory ran out
abbrev pub SaysModuleStop : Text → List Text → ModuleStop → Status → Change → Type 0
SaysModuleStop name names stop status err = MatchOption (said_of_module name names stop)
    ((status ≡ OutOfMemory) × (err.after ≡ err.before)) (λ a. Says a.status a.err status err)

-- what is said of such a stop is no usage line
pub module-stop-usage : (name : Text) (names : List Text) (stop : ModuleStop) (status : Status)
    (err : Change) → SaysModuleStop name names stop status err → status ≡ Usage → ⊥
module-stop-usage name names (Definitions stop) status err h e =
    stop-usage names stop status err h e
module-stop-usage name names (Module stop) status err h e =
    stop-usage (name ∷ []) stop status err h e
module-stop-usage name names (Fault r) status err (inl h) e = let s = h.0 in absurd (cc)
module-stop-usage name names (Fault r) status err (inr h) e = let s = h.0 in absurd (cc)

-- nor that all is well
stop-ends : (names : List Text) (stop : Stop) (status : Status) (err : Change)
    → SaysStop names stop status err → status ≡ Done → ⊥
stop-ends names (Unreadable n) status err (inl h) e = let s = h.0 in absurd (cc)
stop-ends names (Unreadable n) status err (inr h) e = let s = h.0 in absurd (cc)
stop-ends names (TooLong n) status err (inl h) e = let s = h.0 in absurd (cc)
stop-ends names (TooLong n) status err (inr h) e = let s = h.0 in absurd (cc)
stop-ends names (Refused r) status err (inl h) e = let s = h.0 in absurd (cc)
stop-ends names (Refused r) status err (inr h) e = let s = h.0 in absurd (cc)
stop-ends names stop.OutOfMemory status err h e = let s = h.0 in absurd (cc)

pub module-stop-ends : (name : Text) (names : List Text) (stop : ModuleStop) (status : Status)
    (err : Change) → SaysModuleStop name names stop status err → status ≡ Done → ⊥
module-stop-ends name names (Definitions stop) status err h e = stop-ends names stop status err h e
module-stop-ends name names (Module stop) status err h e =
    stop-ends (name ∷ []) stop status err h e
module-stop-ends name names (Fault r) status err (inl h) e = let s = h.0 in absurd (cc)
module-stop-ends name names (Fault r) status err (inr h) e = let s = h.0 in absurd (cc)

-- a read fault is said of a file that couldn't be read
pub module-stop-unreadable : (name : Text) (names : List Text) (stop : ModuleStop)
    (status : Status) (err : Change) → SaysModuleStop name names stop status err
    → status ≡ ReadFault → IsModuleUnreadable stop
module-stop-unreadable name names (Definitions stop) status err h e =
    stop-unreadable names stop status err h e
module-stop-unreadable name names (Module stop) status err h e =
    stop-unreadable (name ∷ []) stop status err h e
module-stop-unreadable name names (Fault r) status err (inl h) e = let s = h.0 in absurd (cc)
module-stop-unreadable name names (Fault r) status err (inr h) e = let s = h.0 in absurd (cc)

-- what is given for such a stop, where the files may tell their bytes
pub module-stop-given : (told : Option FileMap) (natives : Predicates) (failed : Type 0)
    (form : Option Form) (name : Text) (names : List Text) (status : Status) (out : Option Text)
    (err : Change) (stop : ModuleStop)
    → IfSome told (λ m. IfSome (said_of_module name names stop)
    (MayStopModule natives m failed name names))
    → SaysModuleStop name names stop status err
    → IfSome told (λ m. MayGive natives m failed (Some (module_command form name names)) status
    (change out out) err)
module-stop-given None natives failed form name names status out err stop may h = tt
module-stop-given (Some m) natives failed form name names status out err (Definitions stop) may h =
    stop-gives natives m failed (Some (module_command form name names)) names status out err stop
    (of-form natives m failed form name names (said names stop) may) h
module-stop-given (Some m) natives failed form name names status out err (Module stop) may h =
    stop-gives natives m failed (Some (module_command form name names)) (name ∷ []) status out err
    stop (of-form natives m failed form name names (said (name ∷ []) stop) may) h
module-stop-given (Some m) natives failed form name names status out err (Fault r) may h =
    gives-said natives m failed (Some (module_command form name names)) _ status out err
    (may form) refl (λ none _. said-module-line name names (Fault r) _ refl none) h

-- nothing stopped the call, and the module is written: all of it, or up to what went wrong
pub printed-given : (told : Option FileMap) (natives : Predicates) (failed : Type 0)
    (form : Form) (name : Text) (names : List Text) (ops : List OpDef) (w : WholeModule)
    (status : Status) (out err : SinkSeen)
    → IfSome told (λ m. DenotedBy natives m names name ops w)
    → GivesPrinted (printed (canonical_text form ops w)) status out err
    → IfSome told (λ m. MayGive natives m failed (Some (Print form name names)) status out.bytes
    err.bytes)
printed-given None natives failed form name names ops w status out err d g = tt
printed-given (Some m) natives failed form name names ops w status out err d g = inl (record {
  answer = printed (canonical_text form ops w);
  planned = inl (denoted-obeys natives m names name (Some form) ops w d);
  given = g.given;
})

-- nothing stopped the call, and nothing is written
pub verified-given : (told : Option FileMap) (natives : Predicates) (failed : Type 0)
    (name : Text) (names : List Text) (ops : List OpDef) (w : WholeModule) (out err : Option Text)
    → IfSome told (λ m. DenotedBy natives m names name ops w)
    → IfSome told (λ m. MayGive natives m failed (Some (Verify name names)) Done (change out out)
    (change err err))
verified-given None natives failed name names ops w out err d = tt
verified-given (Some m) natives failed name names ops w out err d =
    done-given (Some m) natives failed (Some (Verify name names)) out err
    (inl (denoted-obeys natives m names name None ops w d))

-- ---- what is read again

-- what prints nothing has nothing to be read again
pub unprinted : (told : Option FileMap) (natives : Predicates) (command : Option Command)
    (status : Status) (out : Change) → printed_by command ≡ None
    → IfSome told (λ m. (printed_by command ≡ None → ⊥) → status ≡ Done
    → IsPrinted natives m command out)
unprinted None natives command status out e = tt
unprinted (Some m) natives command status out e = λ asked ends. absurd (asked e)

-- so it is of words that are no command
pub usage-unprinted : (told : Option FileMap) (natives : Predicates) (command : Option Command)
    (status : Status) (out : Change) → None ≡ command
    → IfSome told (λ m. (printed_by command ≡ None → ⊥) → status ≡ Done
    → IsPrinted natives m command out)
usage-unprinted told natives command status out e =
    unprinted told natives command status out (ap printed_by (sym e))

-- with another status nothing was printed whole
pub unfinished : (told : Option FileMap) (natives : Predicates) (command : Option Command)
    (status : Status) (out : Change) → (status ≡ Done → ⊥)
    → IfSome told (λ m. (printed_by command ≡ None → ⊥) → status ≡ Done
    → IsPrinted natives m command out)
unfinished None natives command status out no_end = tt
unfinished (Some m) natives command status out no_end = λ asked ends. absurd (no_end ends)

-- where all is well with a text, standard output got it
printed-got : (text : Text) (within : Bool) (status : Status) (out err : SinkSeen)
    → nat_le (length text) TEXT_LIMIT ≡ within → status ≡ Done
    → GivesPrinted (printed text) status out err → Got out.bytes text
printed-got text within status out err is ends g = by-given within is g.given
  where
    by-given : (within : Bool) → nat_le (length text) TEXT_LIMIT ≡ within
        → GivesAll (printed text) status out.bytes err.bytes
        ⊎ (GivesFronts (printed text) status out.bytes err.bytes
        ⊎ GivesOut (printed text) status out.bytes err.bytes) → Got out.bytes text
    by-given true is (inl h) = rw is at h.out_got
    by-given false is (inl h) =
        let wrong : Done ≡ OutputLimit = sym ends ∙ (rw is at h.status_is) in absurd (cc)
    by-given within is (inr (inl h)) =
        let wrong : Done ≡ WriteFault = sym ends ∙ h.status_is in absurd (cc)
    by-given within is (inr (inr h)) =
        let wrong : Done ≡ OutOfMemory = sym ends ∙ h.status_is in absurd (cc)

-- the module that was printed denotes itself again
pub printed-again : (told : Option FileMap) (natives : Predicates) (form : Form) (name : Text)
    (names : List Text) (ops : List OpDef) (w : WholeModule) (status : Status) (out err : SinkSeen)
    → IfSome told (λ m. DenotedBy natives m names name ops w)
    → GivesPrinted (printed (canonical_text form ops w)) status out err
    → IfSome told (λ m. (printed_by (Some (Print form name names)) ≡ None → ⊥) → status ≡ Done
    → IsPrinted natives m (Some (Print form name names)) out.bytes)
printed-again None natives form name names ops w status out err d g = tt
printed-again (Some m) natives form name names ops w status out err d g = λ asked ends. record {
  form = form;
  asked = refl;
  module_is = record {
    form = Some form;
    name = name;
    names = names;
    loaded = d.loaded;
    text = d.text;
    denoted = w;
    spells = refl;
    defined = d.defined;
    has = d.has;
    denotes = d.denotes;
  };
  got = subst (λ (l : List OpDef). Got out.bytes (canonical_text form l w)) (sym d.defines)
      (printed-got (canonical_text form ops w) _ status out err refl ends g);
  again = d.read_back.each form;
}

-- a command is one
pub some-none : {A B : Type 0} (x : A) → Some x ≡ None → B
some-none x e = absurd (cc)

-- with these statuses nothing was printed
pub printing-no : {A : Type 0} (status other : Status) → may_print other ≡ false
    → may_print status ≡ true → status ≡ other → A
printing-no status other silent prints e =
    let wrong : true ≡ false = sym prints ∙ ap may_print e ∙ silent in absurd (cc)

-- a module is printed, or isn't
pub prints-or-not : (status : Status) → may_print status ≡ false → may_print status ≡ true → ⊥
prints-or-not status silent prints =
    let wrong : true ≡ false = sym prints ∙ silent in absurd (cc)

pub ruleset giving = (
  stop-given,
  done-given,
  usage-given,
  stop-usage,
  stop-unreadable,
  kept,
  module-stop-given,
  module-stop-usage,
  module-stop-unreadable,
  printed-given,
  verified-given,
  usage-unprinted,
)
