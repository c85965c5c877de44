-- What stops the work on a module file, and what is to be answered then.
use Rattle.std.proofs.Common.{◌≡◌, ◌⊎◌, ◌≤◌, inl, inr, ℕ, zero, suc, Bool, List, [], ◌∷◌}
use Rattle.std.proofs.Common.{refl, sym, ap, subst}
use Rattle.std.proofs.lemmas.List.Elements.{Contains-append_left, Contains-append_right}
use Rattle.std.proofs.lemmas.Option.{same_Some}
use Rattle.std.specs.Prelude.{IfSome, IsTrue, slice_get}
use Rattle.std.specs.declared.option.Option.{Option}
use Rattle.std.specs.declared.option.Option.TheVariants.{Some, None}
use Rattle.derived_printer.specs.declared.form.Form.{Form}
use Rattle.ir_lexer.specs.Spelling.{Text}
use Rattle.irdl_bytes.specs.Outside.{FaultsByItself, FileMap}
use Rattle.module_meaning.specs.WholeModules.{Loaded}
use Rattle.irdl_engine.specs.declared.stop.ModuleRefusal.{ModuleRefusal}
use Rattle.irdl_engine.specs.declared.stop.ModuleStop.{ModuleStop}
use Rattle.irdl_engine.specs.declared.stop.ModuleStop.TheVariants.{Definitions, Module, Fault}
use Rattle.irdl_engine.specs.declared.stop.Stop.{Stop}
use Rattle.irdl_engine.specs.declared.stop.Stop.TheVariants.{OutOfMemory}
use Rattle.irdl_engine.specs.Answer.{Answer, FaultsAt, IsLoadedOf, Obeys, Stopped}
use Rattle.irdl_engine.specs.Answer.{TellsFirstUnread, TellsModuleFault, TellsUnread}
use Rattle.irdl_engine.specs.Answer.{module_command, module_refused, ReadsModule}
use Rattle.irdl_engine.specs.Command.{Check}
use Rattle.irdl_engine.specs.Judged.{Predicates}
use Rattle.irdl_engine.specs.ModuleTexts.{HasFault, IsFileStop, MayStopModule}
use Rattle.irdl_engine.specs.Said.{MayStop, MayStopLoading, said, said_of_module}
use Rattle.irdl_engine.proofs.Reading.{stops-reading, whole-none}

-- ---- commands over a module file

-- definition files that aren't accepted are answered to each command
module _ (natives : Predicates) (m : FileMap) (failed : Type 0) (name : Text)
    (names : List Text) where
  stopped-obeys : (form : Option Form) (a : Answer) → Stopped natives m names a
      → Obeys natives m (Some (module_command form name names)) a
  stopped-obeys None a x = inl x
  stopped-obeys (Some form) a x = inl x

  -- so is a module file that isn't read or is refused, where the definition files are accepted
  read-obeys : (loaded : Loaded) → IsLoadedOf natives m names loaded
      → (form : Option Form) (a : Answer)
      → TellsUnread name (m name) a ⊎ ReadsModule loaded m name form a
      → Obeys natives m (Some (module_command form name names)) a
  read-obeys loaded l None a x = inr (loaded, l, x)
  read-obeys loaded l (Some form) a x = inr (loaded, l, x)

  -- a fault at one of the definition files, or at the module file
  faults-at-names : (form : Option Form) (a : Answer) → FaultsAt (Some (Check names)) a
      → FaultsAt (Some (module_command form name names)) a
  faults-at-names None a x = record {
    name = x.name;
    named = Contains-append_left names (name ∷ []) x.name x.named;
    is = x.is;
  }
  faults-at-names (Some form) a x = record {
    name = x.name;
    named = Contains-append_left names (name ∷ []) x.name x.named;
    is = x.is;
  }

  faults-at-module : (form : Option Form) (a : Answer) → FaultsAt (Some (Check (name ∷ []))) a
      → FaultsAt (Some (module_command form name names)) a
  faults-at-module None a x = record {
    name = x.name;
    named = Contains-append_right names (name ∷ []) x.name x.named;
    is = x.is;
  }
  faults-at-module (Some form) a x = record {
    name = x.name;
    named = Contains-append_right names (name ∷ []) x.name x.named;
    is = x.is;
  }

  -- what stops the definition files
  loading-stops : (a : Option Answer) → IfSome a (MayStopLoading natives m failed names)
      → IfSome a (MayStopModule natives m failed name names)
  loading-stops None h = tt
  loading-stops (Some a) (inl x) = λ form. inl (stopped-obeys form a x)
  loading-stops (Some a) (inr x) = λ form. inr (x.0, faults-at-names form a x.1)

  -- the first of one file is this file
  only-unread : (a : Answer) → TellsFirstUnread m (name ∷ []) a → TellsUnread name (m name) a
  only-unread a x = at-number x.number x.reached.there
    where
      at-number : (n : ℕ) → slice_get (name ∷ []) n ≡ Some x.name → TellsUnread name (m name) a
      at-number zero e =
          subst (λ (t : Text). TellsUnread t (m t) a) (sym (same_Some name x.name e)) x.unread
      at-number (suc n) e = absurd (cc)

  module _ (loaded : Loaded) (l : IsLoadedOf natives m names loaded) where
    -- what stops the reading of the module file
    reading-stops : (a : Option Answer) → IfSome a (MayStop m failed (name ∷ []))
        → IfSome a (MayStopModule natives m failed name names)
    reading-stops None h = tt
    reading-stops (Some a) (inl x) = λ form.
        inl (read-obeys loaded l form a (inl (only-unread a x)))
    reading-stops (Some a) (inr x) = λ form. inr (x.0, faults-at-module form a x.1)

    -- what its text is refused for
    fault-stops : (r : ModuleRefusal) → HasFault loaded name r m
        → MayStopModule natives m failed name names (module_refused name r.place r.code)
    fault-stops r x = λ form.
        let read : ReadsModule loaded m name form (module_refused name r.place r.code) =
        record { text = x.text; has = x.has; told = inl told } in
        inl (read-obeys loaded l form (module_refused name r.place r.code) (inr read))
      where
        told : TellsModuleFault loaded name x.text (module_refused name r.place r.code)
        told = record {
          fault = record { place = x.fault.at; code = r.code };
          refused = x.fault.refused;
          is = ap (λ p. module_refused name p r.code) x.fault.place;
        }

-- ---- where the files may tell their bytes

-- what stops the definition files
pub files-stop : (told : Option FileMap) (natives : Predicates) (failed : Type 0) (name : Text)
    (names : List Text) (stop : Stop)
    → IfSome told (λ m. IfSome (said names stop) (MayStopLoading natives m failed names))
    → IfSome told (λ m. IfSome (said_of_module name names (Definitions stop))
    (MayStopModule natives m failed name names))
files-stop None natives failed name names stop h = tt
files-stop (Some m) natives failed name names stop h =
    loading-stops natives m failed name names (said names stop) h

-- what stops the module file behind accepted definition files
pub file-stops : (told now_told : Option FileMap) (steady now_steady : Bool)
    (before now after : ℕ) (natives : Predicates) (name : Text) (names : List Text)
    (loaded : Loaded) (stop : ModuleStop)
    → now_told ≡ told → (IsTrue steady → IsTrue now_steady) → before ≤ now
    → IfSome told (λ m. IsLoadedOf natives m names loaded)
    → IsFileStop (record { told = now_told; steady = now_steady; before = now; after = after })
    loaded name stop
    → IfSome told (λ m. IfSome (said_of_module name names stop)
    (MayStopModule natives m (FaultsByItself steady before after) name names))
file-stops None now_told steady now_steady before now after natives name names loaded stop same
    stays later l h = tt
file-stops (Some m) now_told steady now_steady before now after natives name names loaded
    (Definitions stop) same stays later l h = absurd h
file-stops (Some m) now_told steady now_steady before now after natives name names loaded
    (Module stop) same stays later l (inl e) = memory stop e
  where
    memory : (stop : Stop) → stop ≡ OutOfMemory → IfSome (said (name ∷ []) stop)
        (MayStopModule natives m (FaultsByItself steady before after) name names)
    memory stop e = rw e tt
file-stops (Some m) now_told steady now_steady before now after natives name names loaded
    (Module stop) same stays later l (inr reads) =
    let stopped = stops-reading (Some m) now_told steady now_steady before now after (name ∷ []) []
    0 name stop same stays later refl (whole-none (Some m) [] refl) reads in
    reading-stops natives m (FaultsByItself steady before after) name names loaded l
    (said (name ∷ []) stop) stopped.right
file-stops (Some m) now_told steady now_steady before now after natives name names loaded
    (Fault r) same stays later l h =
    fault-stops natives m (FaultsByItself steady before after) name names loaded l r
    (subst (λ t. IfSome t (HasFault loaded name r)) same h)
