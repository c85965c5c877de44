-- A tree that a module completes has no fault in any stage; so a tree that is refused has none.
--
-- The stage of names is taken as a premise here.
use Rattle.std.proofs.Common.{◌≡◌, ℕ, ◌≤◌, Bool, List, sym, ◌∙◌, subst}
use Rattle.std.proofs.Common.{arith, inl, inr, slice_get}
use Rattle.std.specs.List.{AllByRecursion, AllZip}
use Rattle.attr_value.specs.declared.head.TheConstants.{DEPTH_LIMIT}
use Rattle.attr_value.specs.Values.{Value}
use Rattle.first_fault.specs.declared.fault.Fault.{Fault}
use Rattle.generic_syntax.specs.declared.module_cst.FormCst.{out-FormCst}
use Rattle.generic_syntax.specs.declared.module_cst.ModuleCst.{ModuleCst}
use Rattle.generic_syntax.specs.declared.module_cst.OpCst.{OpCst, out-OpCst}
use Rattle.ir_lexer.specs.Spelling.{Text}
use Rattle.ir_store.specs.Modules.{Regions, types_in, region_args}
use Rattle.ir_store.specs.Numbering.{first_numbers, ops_in}
use Rattle.completion_laws.specs.Beside.{OpsBeside, Completing, InEach}
use Rattle.completion_laws.proofs.Besides.{Stands, ops-both, ops-wider, ops-stand}
use Rattle.completion_laws.proofs.Flat.{Here, ops-flat}
use Rattle.completion_laws.proofs.Forms.{FormShows, form-shows}
use Rattle.completion_laws.proofs.Knowing.{breaks-none}
use Rattle.completion_laws.proofs.Lists.{one-of}
use Rattle.completion_laws.proofs.Proper.{IsProperAlone, Alone, proper-ops}
use Rattle.completion_laws.proofs.Saying.{Done, says-ops}
use Rattle.completion_laws.proofs.Standing.{SaidOf, said-ops}
use Rattle.completion_laws.proofs.Types.{OfArguments, types-ops}
use Rattle.completion_laws.proofs.Uses.{ShowsTypes, SpellsType, WithTypes, flat-spells}
use Rattle.completion_laws.proofs.Values.{Meant, ground_of, told-meant, keys-clean, numbers-clean}
use Rattle.completion_laws.proofs.Values.{attr-good, none-good, aliases-good, alias-clean}
use Rattle.completion_laws.proofs.Zips.{zip-at}
use Rattle.module_faults.specs.ModuleFaults.{IsValuesFault, IsOperationsFault, IsUseFault}
use Rattle.module_faults.specs.ModuleFaults.{IsUsesFault, NoNamesFault, IsFaultless, IsRefusal}
use Rattle.module_faults.specs.ModuleFaults.{by_names, by_values, by_operations, by_uses}
use Rattle.module_faults.specs.ModuleFaults.{shown_uses, operands_in}
use Rattle.module_faults.specs.OpFaults.{IsValueFault, IsOpFault, told_values}
use Rattle.module_faults.specs.Standings.{Standing, an_op, a_region, a_block, standings, ops_of}
use Rattle.module_meaning.proofs.AliasesRight as names
use Rattle.module_meaning.proofs.OneCompletes.{generic-typing}
use Rattle.module_meaning.proofs.OneModule.{one-nearly-completed, completed-nearly, are-as-many}
use Rattle.module_meaning.specs.AliasValues.{no_aliases, AreAliases}
use Rattle.module_meaning.specs.Completes.{AreTypes, Completes, HaveDistinctOps}
use Rattle.module_meaning.specs.Completes.{NearlyCompletes}
use Rattle.module_meaning.specs.Completes.{aliases_of, top_level}
use Rattle.module_meaning.specs.Facts.{form_facts, no_forms}
use Rattle.module_meaning.specs.WholeModules.{WholeHead, WholeModule, Loaded, IsGood, IsGoodType}
use Rattle.module_meaning.specs.WholeModules.{operation_with, own_numbers}
use Rattle.value_meaning.proofs.Faultless.{means-clean}
use Rattle.value_meaning.proofs.Integers.{HaveGoodValues}
use Rattle.value_meaning.specs.Meaning.{Aliases, value_of}

-- ---- one operation

module _ (loaded : Loaded) (al : Aliases) (good : HaveGoodValues (ground_of loaded) al)
    (c : OpCst) (head : WholeHead) (rs : Regions Text Value) (Typed : List Value → List ℕ → Type 0)
    (done : Completing loaded al Typed c head rs) where
  shows : FormShows al (out-FormCst (out-OpCst c).form) (operation_with done.types head rs)
  shows = form-shows al done.completes.def (operation_with done.types head rs)
      done.completes.operand_sizes done.completes.result_sizes (out-FormCst (out-OpCst c).form)
      done.completes.shows

  -- none of its values has a fault
  values-clean : (last : Bool) → IsProperAlone loaded head last
      → InEach (IsGoodType loaded) (region_args rs) → (f : Fault)
      → IsValueFault loaded no_forms al c f → ⊥
  values-clean last alone arguments f (inl x) =
      let meant = one-of (Meant loaded al) (told_values (form_facts no_forms c)) x.tree
      (told-meant loaded al (out-FormCst (out-OpCst c).form)
      (operation_with done.types head rs) shows done.completes.operand_types
      done.completes.result_types
      (attr-good (IsGood loaded) head.keys head.values alone.values) arguments) x.told in
      means-clean good x.tree meant.value meant.means f x.fault
  values-clean last alone arguments f (inr (inl x)) =
      keys-clean loaded al (out-FormCst (out-OpCst c).form) (operation_with done.types head rs)
      shows f x
  values-clean last alone arguments f (inr (inr x)) =
      numbers-clean loaded al (out-FormCst (out-OpCst c).form) f x

  -- and it breaks no rule
  rules-clean : (last : Bool) → IsProperAlone loaded head last → (f : Fault)
      → IsOpFault loaded no_forms al c last f → ⊥
  rules-clean last alone =
      breaks-none loaded no_forms al c (operation_with done.types head rs) done.completes last
      (λ d known ends. alone.terminator d known.known
      (sym known.named ∙ (done.completes.named ∙ done.named)) ends)

-- ---- uses

module _ (loaded : Loaded) (distinct : HaveDistinctOps loaded.ops) (tree : ModuleCst)
    (m : WholeModule) (nearly : NearlyCompletes loaded no_forms tree m) (f : Fault) where
  -- whatever module completes the tree but for the types of uses is this one
  pub uses-are-those : IsUsesFault loaded no_forms tree f → IsUseFault tree (types_in m) m f
  uses-are-those x =
      let same : x.module_is ≡ m =
      one-nearly-completed loaded no_forms distinct (generic-typing loaded) tree x.module_is m
      x.completes nearly in
      subst (λ k. IsUseFault tree (types_in k) k f) same x.fault

  pub those-are-uses : IsUseFault tree (types_in m) m f → IsUsesFault loaded no_forms tree f
  those-are-uses x = record { module_is = m; completes = nearly; fault = x }

-- ---- a module

module _ (loaded : Loaded) (tree : ModuleCst) (m : WholeModule)
    (completes : Completes loaded no_forms tree m) where
  abbrev al : Aliases
  al = aliases_of tree

  abbrev types : List Value
  types = types_in m

  good : HaveGoodValues (ground_of loaded) al
  good = aliases-good loaded no_aliases tree.aliases (none-good loaded) completes.aliases

  done : OpsBeside (Done loaded al (AreTypes types)) tree.ops m
  done = says-ops loaded al (AreTypes types) (top_level tree.ops m) 0 tree.ops m completes.says

  stand : OpsBeside Stands tree.ops m
  stand = ops-stand (Done loaded al (AreTypes types)) tree.ops m done

  -- nothing that stands in the tree has a fault
  abbrev Clean : Standing → Type 0
  Clean (an_op c last) =
      ((f : Fault) → IsValueFault loaded no_forms (aliases_of tree) c f → ⊥)
      × ((f : Fault) → IsOpFault loaded no_forms (aliases_of tree) c last f → ⊥)
  Clean (a_region n r) = n ≤ DEPTH_LIMIT
  Clean (a_block b) = Unit {0}

  -- the parts of a proper module
  abbrev Parts : OpCst → WholeHead → Regions Text Value → Bool → Type 0
  Parts c head rs last =
      IsProperAlone loaded head last × InEach (IsGoodType loaded) (region_args rs)

  parts : OpsBeside Parts tree.ops m
  parts = ops-both (Alone loaded) (OfArguments (IsGoodType loaded)) Parts
      (λ c head rs last a t. (a, t)) tree.ops m
      (proper-ops loaded (own_numbers 0 m) 0 0 tree.ops m completes.proper.each stand)
      (types-ops (IsGoodType loaded) tree.ops m stand completes.proper.types)

  all-clean : AllByRecursion Clean (standings tree)
  all-clean =
      let nested = completes.proper.nested in
      said-ops Clean (λ b. tt) (λ n r low. low) 0 tree.ops m
      (ops-both (Done loaded al (AreTypes types)) Parts (SaidOf Clean)
      (λ c head rs last d p. (
        values-clean loaded al good c head rs (AreTypes types) d last p.0 p.1,
        rules-clean loaded al good c head rs (AreTypes types) d last p.0,
      )) tree.ops m done parts) (omega (arith, nested))

  -- ---- stages

  -- no value has a fault
  pub no-values-fault : (f : Fault) → IsValuesFault loaded no_forms tree f → ⊥
  no-values-fault f (inl x) =
      alias-clean loaded no_aliases x.before x.alias x.after (none-good loaded)
      (subst (AreAliases loaded.values loaded.tests loaded.types no_aliases) x.cut
      completes.aliases) f x.fault
  no-values-fault f (inr (inl x)) =
      (one-of Clean (standings tree) (an_op x.op x.is_last) all-clean x.stands).0 f x.fault
  no-values-fault f (inr (inr x)) =
      let low : x.nesting ≤ DEPTH_LIMIT =
      one-of Clean (standings tree) (a_region x.nesting x.region) all-clean x.stands in
      let deep = x.deep in
      absurd (omega (arith, low, deep))

  -- no operation has one
  pub no-operations-fault : (f : Fault) → IsOperationsFault loaded no_forms tree f → ⊥
  no-operations-fault f x =
      (one-of Clean (standings tree) (an_op x.op x.is_last) all-clean x.stands).1 f x.fault

  -- with operands that have the types of their values
  abbrev Complete : OpCst → WholeHead → Regions Text Value → Type 0
  Complete c head rs = Completing loaded al (AreTypes types) c head rs

  abbrev ts : (c : OpCst) (head : WholeHead) (rs : Regions Text Value) → Complete c head rs
      → List Value
  ts c head rs d = d.types

  done-shows : (c : OpCst) (head : WholeHead) (rs : Regions Text Value) (d : Complete c head rs)
      → ShowsTypes al c head rs (ts c head rs d)
  done-shows c head rs d = record {
    shows = shows loaded al good c head rs (AreTypes types) d;
    many = are-as-many types d.types head.operands d.typed;
  }

  abbrev Typed : OpCst → WholeHead → Regions Text Value → Type 0
  Typed c head rs = WithTypes al types Complete ts done-shows c head rs

  -- each use spells the type of its value
  spells : AllZip (SpellsType al types) (shown_uses (ops_of (standings tree))) (operands_in m)
  spells = flat-spells al types Complete ts done-shows (ops_of (standings tree)) (ops_in m)
      (ops-flat Typed 0 first_numbers tree.ops m
      (ops-wider (Done loaded al (AreTypes types)) (Here Typed)
      (λ c head rs last d. (d, d.typed)) tree.ops m done))

  no-use-fault : (f : Fault) → IsUseFault tree (types_in m) m f → ⊥
  no-use-fault f x =
      let same : value_of al x.shown.1 ≡ slice_get types x.number =
      zip-at (SpellsType al types) (shown_uses (ops_of (standings tree))) (operands_in m) x.at
      x.shown x.number spells x.stands x.means in
      x.differs (sym same ∙ x.spelled)

  -- no use has one
  pub no-uses-fault : HaveDistinctOps loaded.ops → (f : Fault)
      → IsUsesFault loaded no_forms tree f → ⊥
  no-uses-fault distinct f x =
      no-use-fault f (uses-are-those loaded distinct tree m
      (completed-nearly loaded no_forms tree m completes) f x)

-- ---- together

module _ (loaded : Loaded) (distinct : HaveDistinctOps loaded.ops) (tree : ModuleCst) where
  -- no name has one
  no-names-fault : (m : WholeModule) → Completes loaded no_forms tree m
      → NoNamesFault loaded no_forms tree
  no-names-fault m completes f at =
      names.no-fault loaded tree m (completed-nearly loaded no_forms tree m completes) f at

  -- no stage has a fault
  pub no-fault : (m : WholeModule) → Completes loaded no_forms tree m
      → IsFaultless loaded no_forms tree
  no-fault m completes = record {
    names = no-names-fault m completes;
    values = no-values-fault loaded tree m completes;
    operations = no-operations-fault loaded tree m completes;
    uses = no-uses-fault loaded tree m completes distinct;
  }

  -- a refused tree has no module
  pub refused-none : (m : WholeModule) → Completes loaded no_forms tree m → (f : Fault)
      → IsRefusal loaded no_forms tree f → ⊥
  refused-none m completes f (by_names first) = no-names-fault m completes f first.0
  refused-none m completes f (by_values none first) =
      no-values-fault loaded tree m completes f first.0
  refused-none m completes f (by_operations none none2 rule first code) =
      no-operations-fault loaded tree m completes _ first.0
  refused-none m completes f (by_uses none none2 none3 first) =
      no-uses-fault loaded tree m completes distinct f first.0
