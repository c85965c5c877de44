-- A module that was built for a tree without faults completes the tree, but for the types of uses;
-- and where uses have their types it completes the tree.
use Rattle.std.proofs.Common.{◌≡◌, ℕ, ◌≤◌, ◌+◌, Bool, List, length, refl}
use Rattle.std.proofs.Common.{sym, ◌∙◌, arith, Some, inl, inr, slice_get, Contains}
use Rattle.std.proofs.lemmas.Bool.{cases_lt}
use Rattle.std.specs.List.{AllByRecursion, AllZip}
use Rattle.attr_value.specs.declared.head.TheConstants.{DEPTH_LIMIT}
use Rattle.attr_value.specs.Values.{Value}
use Rattle.first_fault.specs.declared.fault.Fault.{Fault}
use Rattle.generic_syntax.specs.declared.cst.ValueCst.{ValueCst}
use Rattle.generic_syntax.specs.declared.module_cst.FormCst.{out-FormCst}
use Rattle.generic_syntax.specs.declared.module_cst.FormCst.TheOpen.{FormCst-F}
use Rattle.generic_syntax.specs.declared.module_cst.ModuleCst.{ModuleCst}
use Rattle.generic_syntax.specs.declared.module_cst.OpCst.{OpCst, out-OpCst}
use Rattle.generic_syntax.specs.declared.module_cst.RegionCst.{out-RegionCst}
use Rattle.generic_syntax.specs.declared.module_cst.UseCst.{UseCst}
use Rattle.ir_lexer.specs.Spelling.{Text}
use Rattle.ir_store.specs.Modules.{Regions, types_in}
use Rattle.ir_store.specs.Numbering.{first_numbers, ops_in}
use Rattle.completion_laws.specs.Beside.{OpsBeside, IsRightOp}
use Rattle.completion_laws.specs.Built.{IsBuilt}
use Rattle.completion_laws.proofs.Besides.{Stands, Fits, ops-both, ops-wider, ops-stand}
use Rattle.completion_laws.proofs.Besides.{shape-beside}
use Rattle.completion_laws.proofs.Decided.{not-other}
use Rattle.completion_laws.proofs.Flat.{Here, At, ops-flat, flat-ops}
use Rattle.completion_laws.proofs.Forms.{FormShows, form-shows}
use Rattle.completion_laws.proofs.Knowing.{none-ends}
use Rattle.completion_laws.proofs.Lists.{all-contained}
use Rattle.completion_laws.proofs.Proper.{Alone, Targets, ops-proper, named-targets}
use Rattle.completion_laws.proofs.Saying.{Done, named-says}
use Rattle.completion_laws.proofs.Standing.{SaidOf, Shallow, ops-said, ops-shallow}
use Rattle.completion_laws.proofs.Types.{OfTypes, ops-types}
use Rattle.completion_laws.proofs.Uses.{ShowsTypes, IsTyped, WithTypes, flat-many, flat-typed}
use Rattle.completion_laws.proofs.Zips.{zip-places}
use Rattle.module_faults.specs.ModuleFaults.{NoValuesFault, NoOperationsFault, shown_uses}
use Rattle.module_faults.specs.ModuleFaults.{operands_in, IsUseFault}
use Rattle.module_faults.specs.declared.rule.TheConstants.{USE_TYPE}
use Rattle.module_faults.specs.OpFaults.{IsOpFault}
use Rattle.module_faults.specs.Shape.{FormFits}
use Rattle.module_faults.specs.Standings.{Standing, an_op, a_region, a_block, standings, ops_of}
use Rattle.module_meaning.proofs.ScopesHold.{module-in-scope}
use Rattle.module_meaning.specs.Completes.{AsMany, AreTypes, NearlySays, NearlyCompletes}
use Rattle.module_meaning.specs.Completes.{Completes, aliases_of, top_level}
use Rattle.module_meaning.specs.Facts.{FormSeen, no_forms}
use Rattle.module_meaning.specs.WholeModules.{WholeHead, WholeModule, Loaded, IsGoodType, Proper}
use Rattle.module_meaning.specs.WholeModules.{operation_with, own_numbers, region_depth}
use Rattle.value_meaning.specs.declared.code.TheConstants.{NESTING}
use Rattle.value_meaning.specs.Meaning.{Aliases, value_of}

-- as many types as operands
fits-many : (aliases : Aliases) (v : FormSeen) (head : WholeHead) (rs : Regions Text Value)
    (ts : List Value) → FormFits v head → FormShows aliases v (operation_with ts head rs)
    → length ts ≡ length head.operands
fits-many aliases (FormCst-F.Generic g) head rs ts fits shows = sym shows.uses ∙ fits.0
fits-many aliases (FormCst-F.Custom k) head rs ts fits shows = absurd fits

-- each use has the type of the value that it means
record UsesAreTyped (tree : ModuleCst) (types : List Value) (m : WholeModule) : Type 0 where
  typed : (at : ℕ) (shown : UseCst × ValueCst) (number : ℕ) (type : Value)
      → slice_get (shown_uses (ops_of (standings tree))) at ≡ Some shown
      → slice_get (operands_in m) at ≡ Some number
      → value_of (aliases_of tree) shown.1 ≡ Some type
      → slice_get types number ≡ Some type

-- where no use has a fault, each has the type of its value
none-typed : (tree : ModuleCst) (types : List Value) (m : WholeModule)
    → ((f : Fault) → IsUseFault tree types m f → ⊥) → UsesAreTyped tree types m
none-typed tree types m none = record {
  typed = λ at shown number type stands means spelled.
      not-other (slice_get types number) type (λ differs.
      none (record { place = shown.0.place; code = USE_TYPE }) (record {
        at = at;
        shown = shown;
        type = type;
        number = number;
        stands = stands;
        means = means;
        spelled = spelled;
        differs = differs;
        place = refl;
        code = refl;
      }));
}

module _ (loaded : Loaded) (tree : ModuleCst) where
  abbrev al : Aliases
  al = aliases_of tree

  -- ---- what no fault says of what stands in the tree

  -- an operation breaks no rule
  abbrev Unbroken : Standing → Type 0
  Unbroken (an_op c last) =
      (f : Fault) → IsOpFault loaded no_forms (aliases_of tree) c last f → ⊥
  Unbroken (a_region n r) = Unit {0}
  Unbroken (a_block b) = Unit {0}

  all-unbroken : NoOperationsFault loaded no_forms tree
      → AllByRecursion Unbroken (standings tree)
  all-unbroken none = all-contained Unbroken (standings tree) one
    where
      one : (s : Standing) → Contains (standings tree) s → Unbroken s
      one (an_op c last) has =
          λ f fault. none f (record { op = c; is_last = last; stands = has; fault = fault })
      one (a_region n r) has = tt
      one (a_block b) has = tt

  all-shallow : NoValuesFault loaded no_forms tree → AllByRecursion Shallow (standings tree)
  all-shallow none = all-contained Shallow (standings tree) one
    where
      one : (s : Standing) → Contains (standings tree) s → Shallow s
      one (an_op c last) has = tt
      one (a_region n r) has = elim (cases_lt DEPTH_LIMIT n) [
        | inl deep ↦
            absurd (none (record { place = (out-RegionCst r).place; code = NESTING })
            (inr (inr (record {
              nesting = n;
              region = r;
              stands = has;
              deep = deep;
              place = refl;
              code = refl;
            }))))
        | inr low ↦ low
      ]
      one (a_block b) has = tt

  -- ---- operations beside their trees

  -- right, with a form that fits
  record Known (c : OpCst) (head : WholeHead) (regions : Regions Text Value) : Type 0 where
    pub right : IsRightOp loaded (aliases_of tree) c head regions
    pub fits : FormFits (out-FormCst (out-OpCst c).form) head

  known-shows : (c : OpCst) (head : WholeHead) (regions : Regions Text Value)
      (k : Known c head regions) → ShowsTypes al c head regions k.right.types
  known-shows c head regions k =
      let completes = k.right.completes in
      let shows = form-shows al completes.def (operation_with k.right.types head regions)
      completes.operand_sizes completes.result_sizes (out-FormCst (out-OpCst c).form)
      completes.shows in
      record {
        shows = shows;
        many = fits-many al (out-FormCst (out-OpCst c).form) head regions k.right.types k.fits
            shows;
      }

  module _ (m : WholeModule) (built : IsBuilt loaded tree m) where
    fits : OpsBeside Fits tree.ops m
    fits = shape-beside tree.ops m built.shape

    stand : OpsBeside Stands tree.ops m
    stand = ops-stand Fits tree.ops m fits

    right : OpsBeside (Here (IsRightOp loaded al)) tree.ops m
    right = flat-ops (IsRightOp loaded al) 0 first_numbers tree.ops m stand built.each

    known : OpsBeside (Here Known) tree.ops m
    known = ops-both Fits (Here (IsRightOp loaded al)) (Here Known)
        (λ c head rs last f r. record { right = r; fits = f }) tree.ops m fits right

    -- they complete the trees
    pub built-says : NearlySays loaded no_forms al tree.ops m
    built-says = named-says loaded al AsMany (top_level tree.ops m) 0 tree.ops m built.named
        (ops-wider (Here Known) (Done loaded al AsMany)
        (λ c head rs last k. record {
          types = k.right.types;
          typed = (known-shows c head rs k).many;
          completes = k.right.completes;
          named = k.right.named;
        }) tree.ops m known)

    -- its successors, and that it breaks no rule
    abbrev Ends : OpCst → WholeHead → Regions Text Value → Bool → Type 0
    Ends c head rs last = Targets c head rs last × SaidOf Unbroken c head rs last

    -- each is proper but for its scope
    alone : OpsBeside (Alone loaded) tree.ops m
    alone = ops-both (Here (IsRightOp loaded al)) Ends (Alone loaded)
        (λ c head rs last r e. record {
          targets = e.0;
          attrs = r.attrs;
          values = r.values;
          terminator = λ d has named ends. none-ends loaded no_forms al c
              (operation_with r.types head rs) r.completes last e.1 d (record {
                known = has;
                named = r.completes.named ∙ (r.named ∙ sym named);
              }) ends;
        }) tree.ops m right
        (ops-both Targets (SaidOf Unbroken) Ends (λ c head rs last t s. (t, s)) tree.ops m
        (named-targets (top_level tree.ops m) 0 tree.ops m built.named)
        (ops-said Unbroken 0 tree.ops m stand (all-unbroken built.operations)))

    proper : Proper loaded m
    proper = record {
      each = ops-proper loaded (own_numbers 0 m) 0 0 tree.ops m
          (module-in-scope loaded no_forms al AsMany (λ ts ns e. e) tree.ops m built-says) alone;
      types = ops-types (IsGoodType loaded) tree.ops m
          (ops-wider (Here (IsRightOp loaded al)) (OfTypes (IsGoodType loaded))
          (λ c head rs last r. (r.completes.result_types, r.completes.argument_types)) tree.ops m right);
      nested = (let low : 0 + region_depth m ≤ DEPTH_LIMIT =
          ops-shallow 0 tree.ops m stand (omega arith) (all-shallow built.values) in
          omega (arith, low));
    }

    -- the module completes the tree, but for the types of uses
    pub built-nearly : NearlyCompletes loaded no_forms tree m
    built-nearly = record { aliases = built.aliases; proper = proper; says = built-says }

    -- the types of operands
    abbrev ts : (c : OpCst) (head : WholeHead) (rs : Regions Text Value) → Known c head rs
        → List Value
    ts c head rs k = k.right.types

    -- operands have these types in the module
    abbrev Typed : OpCst → WholeHead → Regions Text Value → Type 0
    Typed c head rs = WithTypes al (types_in m) Known ts known-shows c head rs

    flat : AllZip (At Known) (ops_of (standings tree)) (ops_in m)
    flat = ops-flat Known 0 first_numbers tree.ops m known

    -- where no use has a fault it completes the tree
    pub built-completes : ((f : Fault) → IsUseFault tree (types_in m) m f → ⊥)
        → Completes loaded no_forms tree m
    built-completes none = record {
      aliases = built.aliases;
      proper = proper;
      says = named-says loaded al (AreTypes (types_in m)) (top_level tree.ops m) 0 tree.ops m
          built.named
          (ops-wider (Here Typed) (Done loaded al (AreTypes (types_in m)))
          (λ c head rs last k. record {
            types = k.0.right.types;
            typed = k.1;
            completes = k.0.right.completes;
            named = k.0.right.named;
          }) tree.ops m
          (flat-ops Typed 0 first_numbers tree.ops m stand
          (flat-typed al (types_in m) Known ts known-shows (ops_of (standings tree)) (ops_in m) flat
          (zip-places (IsTyped al (types_in m)) (shown_uses (ops_of (standings tree)))
          (operands_in m)
          (flat-many al (types_in m) Known ts known-shows (ops_of (standings tree)) (ops_in m)
          flat)
          (λ i shown n a b type is.
          (none-typed tree (types_in m) m none).typed i shown n type a b is)))));
    }
