-- What a form tells where no operation has a custom one: it is generic, or nothing has it.
use Rattle.std.proofs.Common.{◌≡◌, ℕ, List, length, map, sym, ◌∙◌, ap, Some}
use Rattle.std.proofs.Common.{slice_get}
use Rattle.std.proofs.lemmas.List.{length-map}
use Rattle.std.specs.List.{AllByRecursion}
use Rattle.dialect_defs.specs.declared.definition.OpDef.{OpDef}
use Rattle.dialect_defs.specs.Operations.{Operation}
use Rattle.generic_syntax.specs.declared.module_cst.FormCst.TheOpen.{FormCst-F}
use Rattle.generic_syntax.specs.declared.module_cst.GenericCst.{out-GenericCst}
use Rattle.generic_syntax.specs.declared.module_cst.RegionCst.{RegionCst}
use Rattle.completion_laws.specs.Named.{FormNamed}
use Rattle.module_faults.specs.Standings.{regions_in_form}
use Rattle.module_meaning.proofs.GenericForm.{generic-shows, names-generic, generic-names}
use Rattle.module_meaning.specs.Facts.{FormSeen, facts_in, hides_in, no_forms}
use Rattle.module_meaning.specs.Names.{Env, Names}
use Rattle.module_meaning.specs.Says.{Shows, ShowsGeneric, argument_types}
use Rattle.module_meaning.specs.WholeModules.{WholeHead}
use Rattle.value_meaning.specs.Meaning.{Aliases}

-- the form is generic, and shows the operation
abbrev pub FormShows : Aliases → FormSeen → Operation → Type 0
FormShows aliases (FormCst-F.Generic g) o = ShowsGeneric aliases g o
FormShows aliases (FormCst-F.Custom k) o = ⊥

module _ (aliases : Aliases) (d : OpDef) (o : Operation) (ins outs : List ℕ) where
  pub form-shows : (v : FormSeen)
      → Shows aliases d (hides_in no_forms v) (facts_in no_forms v) o ins outs
      → FormShows aliases v o
  form-shows (FormCst-F.Generic g) p = generic-shows aliases d g o ins outs p
  form-shows (FormCst-F.Custom k) p = let dict = p.covers.dict in absurd (cc)

-- it has as many regions as the operation
pub regions-many : (aliases : Aliases) (v : FormSeen) (o : Operation) → FormShows aliases v o
    → length (regions_in_form v) ≡ length o.regions
regions-many aliases (FormCst-F.Generic g) o p =
    sym (length-map (out-GenericCst g).regions (argument_types aliases))
    ∙ (ap length p.regions ∙ length-map o.regions (map (map Some)))
regions-many aliases (FormCst-F.Custom k) o p = absurd p

module _ (env : Env) (sizes : List ℕ) (head : WholeHead) (Region : ℕ → RegionCst → Type 0) where
  -- names that are right are so fact by fact
  pub form-names : (v : FormSeen) → FormNamed env v head
      → ((i : ℕ) (r : RegionCst) → slice_get (regions_in_form v) i ≡ Some r → Region i r)
      → AllByRecursion (Names env sizes head.operands head.successors Region)
      (facts_in no_forms v)
  form-names (FormCst-F.Generic g) named inside =
      names-generic env g sizes head.operands head.successors Region (record {
        uses = named.0;
        labels = named.1;
        regions = inside;
      })
  form-names (FormCst-F.Custom k) named inside = absurd named

  -- and what facts say of regions is said of each tree
  pub names-inside : (aliases : Aliases) (o : Operation) (v : FormSeen) → FormShows aliases v o
      → o.successors ≡ length head.successors
      → AllByRecursion (Names env sizes head.operands head.successors Region)
      (facts_in no_forms v)
      → (i : ℕ) (r : RegionCst) → slice_get (regions_in_form v) i ≡ Some r → Region i r
  names-inside aliases o (FormCst-F.Generic g) shows many names =
      (generic-names env g sizes head.operands head.successors Region (shows.successors ∙ many)
      names).regions
  names-inside aliases o (FormCst-F.Custom k) shows many names = absurd shows
