-- A module is accepted exactly where its file's bytes denote one.
--
-- Where all is well the answer that was given is that for a denoted module. Such a module has one
-- answer, which is no refusal.
use Rattle.std.proofs.Common.{◌≡◌, ◌⊎◌, inl, inr, Bool, true, false, List, length, refl, sym, ◌∙◌}
use Rattle.std.proofs.Common.{ap}
use Rattle.std.specs.Prelude.{IfSome, nat_le}
use Rattle.std.specs.declared.option.Option.{Option}
use Rattle.std.specs.declared.option.Option.TheVariants.{Some, None}
use Rattle.derived_printer.specs.declared.form.Form.{Form}
use Rattle.dialect_defs.specs.declared.definition.OpDef.{OpDef}
use Rattle.irdl_bytes.specs.Outside.{FileMap}
use Rattle.ir_lexer.specs.declared.lexer.TheConstants.{TEXT_LIMIT}
use Rattle.ir_lexer.specs.Spelling.{Text}
use Rattle.module_meaning.specs.WholeModules.{Loaded, WholeModule}
use Rattle.irdl_engine.specs.declared.status.Status.{Status}
use Rattle.irdl_engine.specs.declared.status.Status.TheVariants.{Done, DefinitionRefused}
use Rattle.irdl_engine.specs.declared.status.Status.TheVariants.{InputLimit, ModuleRefused}
use Rattle.irdl_engine.specs.declared.status.Status.TheVariants.{OutOfMemory, OutputLimit}
use Rattle.irdl_engine.specs.declared.status.Status.TheVariants.{ReadFault}
use Rattle.irdl_engine.specs.declared.status.Status.TheVariants.{WriteFault}
use Rattle.irdl_engine.specs.Answer.{Answer, FaultsAt, IsDenoted, IsLoadedOf, MayAnswer}
use Rattle.irdl_engine.specs.Answer.{ModuleChecked, Obeys, ReadsModule, Stopped, TellsModule}
use Rattle.irdl_engine.specs.Answer.{TellsModuleFault, TellsUnread, answered, module_command}
use Rattle.irdl_engine.specs.Answer.{module_of, printed}
use Rattle.irdl_engine.specs.Command.{Command, Check, Verify, Print}
use Rattle.irdl_engine.specs.Judged.{Predicates}
use Rattle.irdl_engine.specs.Modules.{canonical_text}
use Rattle.irdl_engine.specs.Writes.{Change, GivesAll, GivesFronts, GivesOut, MayGive}
use Rattle.irdl_engine.proofs.OneAnswer.{obeys-once}
use Rattle.irdl_engine.proofs.Whole.{denoted-obeys}

-- ---- what isn't well

-- a file that can't be read
unread-ends : (name : Text) (found : Option Text) (a : Answer) → TellsUnread name found a
    → a.status ≡ Done → ⊥
unread-ends name None a x e =
    let wrong : Done ≡ ReadFault = sym e ∙ ap (λ b. b.status) x in absurd (cc)
unread-ends name (Some long) a x e =
    let wrong : Done ≡ InputLimit = sym e ∙ ap (λ b. b.status) x.1 in absurd (cc)

-- definition files that can't be read or are refused
stopped-ends : (natives : Predicates) (m : FileMap) (names : List Text) (a : Answer)
    → Stopped natives m names a → a.status ≡ Done → ⊥
stopped-ends natives m names a (inl x) e = unread-ends x.name (m x.name) a x.unread e
stopped-ends natives m names a (inr x) e =
    let wrong : Done ≡ DefinitionRefused = sym e ∙ ap (λ b. b.status) x.2.is in absurd (cc)

-- a read fault
fault-ends : (command : Option Command) (a : Answer) → FaultsAt command a → a.status ≡ Done → ⊥
fault-ends command a x e =
    let wrong : Done ≡ ReadFault = sym e ∙ ap (λ b. b.status) x.is in absurd (cc)

-- ---- what is no refusal

-- definitions or a module are refused
abbrev Refused : Status → Type 0
Refused status = (status ≡ DefinitionRefused) ⊎ (status ≡ ModuleRefused)

fault-unrefused : (status : Status) → Refused status → status ≡ WriteFault → ⊥
fault-unrefused status (inl r) e =
    let wrong : DefinitionRefused ≡ WriteFault = sym r ∙ e in absurd (cc)
fault-unrefused status (inr r) e =
    let wrong : ModuleRefused ≡ WriteFault = sym r ∙ e in absurd (cc)

memory-unrefused : (status : Status) → Refused status → status ≡ OutOfMemory → ⊥
memory-unrefused status (inl r) e =
    let wrong : DefinitionRefused ≡ OutOfMemory = sym r ∙ e in absurd (cc)
memory-unrefused status (inr r) e =
    let wrong : ModuleRefused ≡ OutOfMemory = sym r ∙ e in absurd (cc)

read-unrefused : (status : Status) → Refused status → status ≡ ReadFault → ⊥
read-unrefused status (inl r) e =
    let wrong : DefinitionRefused ≡ ReadFault = sym r ∙ e in absurd (cc)
read-unrefused status (inr r) e =
    let wrong : ModuleRefused ≡ ReadFault = sym r ∙ e in absurd (cc)

done-unrefused : (status : Status) → Refused status → status ≡ Done → ⊥
done-unrefused status (inl r) e = let wrong : DefinitionRefused ≡ Done = sym r ∙ e in absurd (cc)
done-unrefused status (inr r) e = let wrong : ModuleRefused ≡ Done = sym r ∙ e in absurd (cc)

limit-unrefused : (status : Status) → Refused status → status ≡ OutputLimit → ⊥
limit-unrefused status (inl r) e =
    let wrong : DefinitionRefused ≡ OutputLimit = sym r ∙ e in absurd (cc)
limit-unrefused status (inr r) e =
    let wrong : ModuleRefused ≡ OutputLimit = sym r ∙ e in absurd (cc)

-- the answer for a denoted module is none
answered-unrefused : (form : Option Form) (ops : List OpDef) (w : WholeModule) (status : Status)
    → Refused status → status ≡ (answered form ops w).status → ⊥
answered-unrefused None ops w status refused e = done-unrefused status refused e
answered-unrefused (Some form) ops w status refused e =
    by-length (canonical_text form ops w) _ refl e
  where
    by-length : (text : Text) (within : Bool) → nat_le (length text) TEXT_LIMIT ≡ within
        → status ≡ (printed text).status → ⊥
    by-length text true is e = done-unrefused status refused (rw is at e)
    by-length text false is e = limit-unrefused status refused (rw is at e)

-- ---- what is well

-- where a module file is answered by this, it denotes a module
module _ (natives : Predicates) (m : FileMap) (form : Option Form) (name : Text)
    (names : List Text) (a : Answer) (ends : a.status ≡ Done) where
  read-denoted : (loaded : Loaded) → IsLoadedOf natives m names loaded
      → ReadsModule loaded m name form a
      → IsDenoted natives m (Some (module_command form name names))
  read-denoted loaded l x = by-told x.told
    where
      by-told : TellsModuleFault loaded name x.text a ⊎ TellsModule loaded form x.text a
          → IsDenoted natives m (Some (module_command form name names))
      by-told (inl fault) =
          let wrong : Done ≡ ModuleRefused = sym ends ∙ ap (λ b. b.status) fault.is in absurd (cc)
      by-told (inr told) = record {
        form = form;
        name = name;
        names = names;
        loaded = loaded;
        text = x.text;
        denoted = told.denoted;
        spells = refl;
        defined = l;
        has = x.has;
        denotes = told.denotes;
      }

  checked-denoted : ModuleChecked natives m names name form a
      → IsDenoted natives m (Some (module_command form name names))
  checked-denoted (inl x) = absurd (stopped-ends natives m names a x ends)
  checked-denoted (inr (loaded, l, inl x)) = absurd (unread-ends name (m name) a x ends)
  checked-denoted (inr (loaded, l, inr x)) = read-denoted loaded l x

-- where the answer is that all is well, a command that judges a module has one
obeyed-denoted : (natives : Predicates) (m : FileMap) (command : Option Command) (a : Answer)
    → Obeys natives m command a → a.status ≡ Done → (module_of command ≡ None → ⊥)
    → IsDenoted natives m command
obeyed-denoted natives m None a x ends named = absurd (named refl)
obeyed-denoted natives m (Some (Check names)) a x ends named = absurd (named refl)
obeyed-denoted natives m (Some (Verify name names)) a x ends named =
    checked-denoted natives m None name names a ends x
obeyed-denoted natives m (Some (Print form name names)) a x ends named =
    checked-denoted natives m (Some form) name names a ends x

-- ---- what was given

module _ (natives : Predicates) (m : FileMap) (failed : Type 0) (command : Option Command)
    (status : Status) (out err : Change) where
  -- a status that no fault and no want of memory gives is that of the answer
  given-status : (a : Answer)
      → GivesAll a status out err ⊎ (GivesFronts a status out err ⊎ GivesOut a status out err)
      → (status ≡ WriteFault → ⊥) → (status ≡ OutOfMemory → ⊥) → a.status ≡ status
  given-status a (inl h) no_fault no_memory = sym h.status_is
  given-status a (inr (inl h)) no_fault no_memory = absurd (no_fault h.status_is)
  given-status a (inr (inr h)) no_fault no_memory = absurd (no_memory h.status_is)

  -- where all is well, a command that judges a module has one
  given-denoted : MayGive natives m failed command status out err → status ≡ Done
      → (module_of command ≡ None → ⊥) → IsDenoted natives m command
  given-denoted (inr h) ends named =
      let wrong : Done ≡ OutOfMemory = sym ends ∙ h.status_is in absurd (cc)
  given-denoted (inl g) ends named = by-answer g.planned
    where
      is-done : g.answer.status ≡ Done
      is-done = given-status g.answer g.given
          (λ e. let wrong : Done ≡ WriteFault = sym ends ∙ e in absurd (cc))
          (λ e. let wrong : Done ≡ OutOfMemory = sym ends ∙ e in absurd (cc)) ∙ ends

      by-answer : MayAnswer natives m failed command g.answer → IsDenoted natives m command
      by-answer (inl x) = obeyed-denoted natives m command g.answer x is-done named
      by-answer (inr x) = absurd (fault-ends command g.answer x.1 is-done)

  -- a denoted module isn't refused, and neither are the files that define its operations
  given-unrefused : MayGive natives m failed command status out err
      → (status ≡ DefinitionRefused) ⊎ (status ≡ ModuleRefused) → IsDenoted natives m command → ⊥
  given-unrefused (inr h) refused x = memory-unrefused status refused h.status_is
  given-unrefused (inl g) refused x = by-answer g.planned
    where
      is-status : g.answer.status ≡ status
      is-status = given-status g.answer g.given (fault-unrefused status refused)
          (memory-unrefused status refused)

      by-answer : MayAnswer natives m failed command g.answer → ⊥
      by-answer (inl y) =
          let same = obeys-once natives m command g.answer _ y
          (denoted-obeys natives m command x) in
          answered-unrefused x.form x.loaded.ops x.denoted status refused
          (sym is-status ∙ ap (λ b. b.status) same)
      by-answer (inr y) =
          read-unrefused status refused (sym is-status ∙ ap (λ b. b.status) y.1.is)

-- ---- where the files may tell their bytes

-- where all is well, a command that judges a module has one
pub told-denoted : (told : Option FileMap) (natives : Predicates) (failed : Type 0)
    (command : Option Command) (status : Status) (out err : Change)
    → IfSome told (λ m. MayGive natives m failed command status out err)
    → IfSome told (λ m. (module_of command ≡ None → ⊥) → status ≡ Done
    → IsDenoted natives m command)
told-denoted None natives failed command status out err h = tt
told-denoted (Some m) natives failed command status out err h =
    λ named ends. given-denoted natives m failed command status out err h ends named

-- a denoted module isn't refused, and neither are the files that define its operations
pub told-unrefused : (told : Option FileMap) (natives : Predicates) (failed : Type 0)
    (command : Option Command) (status : Status) (out err : Change)
    → IfSome told (λ m. MayGive natives m failed command status out err)
    → IfSome told (λ m. (status ≡ DefinitionRefused) ⊎ (status ≡ ModuleRefused)
    → IsDenoted natives m command → ⊥)
told-unrefused None natives failed command status out err h = tt
told-unrefused (Some m) natives failed command status out err h =
    λ refused x. given-unrefused natives m failed command status out err h refused x
