-- What a text of a module is said to be has one answer, whatever table the definitions stand in.
use Rattle.std.proofs.Common.{◌≡◌, inl, inr, List, refl, subst}
use Rattle.std.specs.declared.option.Option.{Option}
use Rattle.std.specs.declared.option.Option.TheVariants.{Some, None}
use Rattle.derived_printer.specs.declared.form.Form.{Form}
use Rattle.derived_printer.specs.declared.form.Form.TheVariants.{Generic}
use Rattle.completion_laws.proofs.Faultless.{refused-none}
use Rattle.dialect_defs.specs.declared.definition.OpDef.{OpDef}
use Rattle.first_fault.specs.declared.fault.Fault.{Fault}
use Rattle.generic_syntax.specs.declared.module_cst.ModuleCst.{ModuleCst}
use Rattle.ir_lexer.specs.Spelling.{Text}
use Rattle.irdl_ops.specs.declared.raw.RawDefs.{RawDefs}
use Rattle.loading_laws.specs.Alike.{IsLoaded}
use Rattle.loading_laws.proofs.LoadedTwice.{loaded-alike, loaded-distinct}
use Rattle.loading_laws.proofs.OneAnswer.{meant-once-generic, refused-once}
use Rattle.loading_laws.proofs.SameFaults.{refusal-alike}
use Rattle.module_faults.specs.ModuleFaults as faults
use Rattle.module_meaning.specs.Completes.{Completes}
use Rattle.module_meaning.specs.Facts.{no_forms}
use Rattle.module_meaning.specs.WholeModules.{Loaded, WholeModule}
use Rattle.irdl_engine.specs.Answer.{answered}
use Rattle.irdl_engine.specs.Judged.{Predicates}
use Rattle.irdl_engine.specs.Modules.{IsLoadedFrom, IsModuleFault, Denotes}
use Rattle.irdl_engine.proofs.Spelled.{all-spelled-once}
use Rattle.irdl_engine.proofs.SpelledModules.{module-once, module-or-token, token-fault-once}

-- the generic form hangs on no definition
pub same-answer : (form : Option Form) (a b : List OpDef) (m : WholeModule)
    → answered form a m ≡ answered form b m
same-answer None a b m = refl
same-answer (Some Generic) a b m = refl

module _ (natives : Predicates) (texts : List Text) (loaded other : Loaded)
    (l : IsLoadedFrom natives texts loaded) (o : IsLoadedFrom natives texts other) (src : Text)
  where
    -- the texts spell the same files
    one : IsLoaded l.defs natives.names natives.tests loaded
    one = record { tests_are = l.tests; are_loaded = l.are }

    two : IsLoaded l.defs natives.names natives.tests other
    two =
        subst (λ (d : List RawDefs). IsLoaded d natives.names natives.tests other)
        (all-spelled-once texts o.defs l.defs o.spelled l.spelled)
        (record { tests_are = o.tests; are_loaded = o.are })

    -- bytes denote one module
    pub denoted-once : (m n : WholeModule) → Denotes loaded src m → Denotes other src n → m ≡ n
    denoted-once m n x y =
        let same = module-once src x.tree y.tree x.spelled y.spelled in
        meant-once-generic l.defs natives.names natives.tests loaded other one two y.tree m n
        (subst (λ (t : ModuleCst). Completes loaded no_forms t m) same x.completes) y.completes

    -- a text is refused for one fault
    pub fault-once : (f g : Fault) → IsModuleFault loaded src f → IsModuleFault other src g → f ≡ g
    fault-once f g (inl x) (inl y) = token-fault-once src f g x y
    fault-once f g (inl x) (inr y) = absurd (module-or-token src y.tree f y.spelled x)
    fault-once f g (inr x) (inl y) = absurd (module-or-token src x.tree g x.spelled y)
    fault-once f g (inr x) (inr y) =
        let same = module-once src x.tree y.tree x.spelled y.spelled in
        refused-once l.defs natives.names natives.tests loaded other one two no_forms y.tree f g
        (subst (λ (t : ModuleCst). faults.IsRefusal loaded no_forms t f) same x.refused) y.refused

    -- what is refused denotes nothing
    pub fault-or-denoted : (f : Fault) (m : WholeModule) → IsModuleFault loaded src f
        → Denotes other src m → ⊥
    fault-or-denoted f m (inl x) y = module-or-token src y.tree f y.spelled x
    fault-or-denoted f m (inr x) y =
        let same = module-once src x.tree y.tree x.spelled y.spelled in
        let refused = subst (λ (t : ModuleCst). faults.IsRefusal loaded no_forms t f) same x.refused
        in
        let alike = loaded-alike l.defs natives.names natives.tests loaded other one two in
        refused-none other (loaded-distinct l.defs natives.names natives.tests other two)
        y.tree m y.completes f (refusal-alike loaded other alike no_forms y.tree f refused)
