-- What the notes of a tree in generic form mean fits what stands in the tree: a meaning for each
-- use and successor, and each use means one of the definitions.
use Rattle.std.proofs.Common.{◌≡◌, ℕ, ◌+◌, ◌<◌, ◌≤◌, Bool, true, false, List, [], ◌∷◌, length}
use Rattle.std.proofs.Common.{map, sym, ◌∙◌, ap, subst, arith, Option, Some, None, option_map}
use Rattle.std.proofs.Common.{bytes_eq, if◌then◌else◌}
use Rattle.std.proofs.lemmas.List.{length-map}
use Rattle.std.proofs.lemmas.List.Elements.{All-from_recursion}
use Rattle.std.specs.List.{AllByRecursion, AllZip}
use Rattle.generic_syntax.specs.declared.module_cst.FormCst.{out-FormCst}
use Rattle.generic_syntax.specs.declared.module_cst.FormCst.TheOpen.{FormCst-F}
use Rattle.generic_syntax.specs.declared.module_cst.ModuleCst.{ModuleCst}
use Rattle.generic_syntax.specs.declared.module_cst.OpCst.{OpCst, out-OpCst}
use Rattle.ir_lexer.specs.Spelling.{Text}
use Rattle.module_builder.specs.Fit.{UsesFit, IdsFit, ShowsResults, definition_count}
use Rattle.module_faults.specs.declared.ids.OpIds.{OpIds}
use Rattle.module_faults.specs.Standings.{standings, ops_of}
use Rattle.module_meaning.proofs.Places.{all-joined}
use Rattle.module_meaning.specs.Facts.{FormSeen}
use Rattle.module_names.proofs.Cut.{told-length}
use Rattle.module_names.proofs.Whole.{told-ops, no-value, no-block}
use Rattle.module_names.specs.ModuleNotes.{module_notes, ops_notes}
use Rattle.name_laws.proofs.Counted.{is_use, is_target}
use Rattle.name_laws.proofs.Flat.{notes-flat}
use Rattle.name_laws.proofs.Early.{IsBelow, below-more, own-below}
use Rattle.name_laws.proofs.Pieces.{meant-length, blocks-length}
use Rattle.name_laws.specs.Generic.{IsGenericForm, IsGenericOp}
use Rattle.symbol_scopes.specs.declared.call.NameKind.TheVariants.{Values, Labels}
use Rattle.symbol_scopes.specs.Meanings.{or_else}
use Rattle.symbol_scopes.specs.Regions.{Note, Notes, no_notes, note, in_region, defines, uses}
use Rattle.symbol_scopes.specs.Regions.{labels, leads_to, bad_pack, defines_alias, mentions_alias}
use Rattle.symbol_scopes.specs.Regions.{RegionScope, own, count, count_of, found, looked, told}
use Rattle.symbol_scopes.specs.Regions.{told_in, value_meant, block_meant}
use Rattle.symbol_scopes.specs.Uses.{UseMeanings}

-- ---- definitions by their numbers

module _ (total : ℕ) where
  abbrev IsOne : Option (ℕ × ℕ) → Type 0
  IsOne None = Unit {0}
  IsOne (Some d) = d.0 < total

  found-one : (s : RegionScope) (name : Text) → AllByRecursion (IsBelow total) s
      → IsOne (found s name)
  found-one [] name h = tt
  found-one (x ∷ s) name (le, h) = go (bytes_eq x.name name) (found-one s name h)
    where
      go : (b : Bool) → IsOne (found s name)
          → IsOne (if b then Some (x.at, x.number) else found s name)
      go true more = omega (arith, le)
      go false more = more

  looked-one : (ss : List RegionScope) (name : Text)
      → AllByRecursion (AllByRecursion (IsBelow total)) ss → IsOne (looked ss name)
  looked-one [] name h = tt
  looked-one (s ∷ ss) name (p, h) = go (found s name) (found-one s name p) (looked-one ss name h)
    where
      go : (o : Option (ℕ × ℕ)) → IsOne o → IsOne (looked ss name)
          → IsOne (or_else o (looked ss name))
      go None here more = more
      go (Some d) here more = here

  meant-one : (ss : List RegionScope) (n : ℕ) (x : Note)
      → AllByRecursion (AllByRecursion (IsBelow total)) ss
      → AllByRecursion IsOne (value_meant ss n x)
  meant-one ss n (uses u) h = (go (looked ss u.name) (looked-one ss u.name h), tt)
    where
      go : (o : Option (ℕ × ℕ)) → IsOne o → IsOne (option_map (λ d. (d.0, u.number)) o)
      go None h = tt
      go (Some d) h = h
  meant-one ss n (defines u) h = tt
  meant-one ss n (labels u) h = tt
  meant-one ss n (leads_to u) h = tt
  meant-one ss n (bad_pack u) h = tt
  meant-one ss n (defines_alias u) h = tt
  meant-one ss n (mentions_alias u) h = tt

  told-one : (ss : List RegionScope) (n : ℕ) (ns : Notes) → n + count Values ns ≤ total
      → AllByRecursion (AllByRecursion (IsBelow total)) ss
      → AllByRecursion IsOne (told Values value_meant ss n ns)
  told-one ss n no_notes le h = tt
  told-one ss n (note x ns) le h =
      all-joined IsOne (value_meant ss n x) (told Values value_meant ss (n + count_of Values x) ns)
      (meant-one ss n x h) (told-one ss (n + count_of Values x) ns (omega (arith, le)) h)
  told-one ss n (in_region inner ns) le h =
      all-joined IsOne (told Values value_meant (own Values n inner ∷ ss) n inner)
      (told Values value_meant ss (n + count Values inner) ns)
      (told-one (own Values n inner ∷ ss) n inner (omega (arith, le)) (
        below-more (n + count Values inner) total (own Values n inner) (omega (arith, le))
            (own-below Values n inner),
        h,
      ))
      (told-one ss (n + count Values inner) ns (omega (arith, le)) h)

  somes-one : (values : List (ℕ × ℕ)) → AllByRecursion IsOne (map Some values)
      → AllByRecursion (λ (p : ℕ × ℕ). p.0 < total) values
  somes-one [] h = tt
  somes-one (x ∷ values) (p, h) = (p, somes-one values h)

-- ---- the law

pub notes-fit : (tree : ModuleCst) → AllByRecursion IsGenericOp (ops_of (standings tree))
    → (meanings : UseMeanings)
    → told_in Values value_meant (module_notes tree) ≡ map Some meanings.values
    → told_in Labels block_meant (module_notes tree) ≡ map Some meanings.blocks
    → UsesFit (standings tree) meanings
notes-fit tree generic meanings values blocks =
    let ns = ops_notes tree.ops in
    let counted = (notes-flat 0 tree.ops generic).counted in
    let total = definition_count (standings tree) in
    let many : count Values ns ≡ total = counted.definitions in
    let values_are : told_in Values value_meant (ops_notes tree.ops) ≡ map Some meanings.values =
    sym (told-ops Values value_meant no-value tree) ∙ values in
    let blocks_are : told_in Labels block_meant (ops_notes tree.ops) ≡ map Some meanings.blocks =
    sym (told-ops Labels block_meant no-block tree) ∙ blocks in
    record {
      values = sym (length-map meanings.values Some)
          ∙ (sym (ap length values_are)
          ∙ (told-length Values value_meant is_use meant-length (own Values 0 ns ∷ []) 0 ns
          ∙ counted.uses));
      blocks = sym (length-map meanings.blocks Some)
          ∙ (sym (ap length blocks_are)
          ∙ (told-length Labels block_meant is_target blocks-length (own Labels 0 ns ∷ []) 0 ns
          ∙ counted.targets));
      defined = All-from_recursion (λ (p : ℕ × ℕ). p.0 < total) meanings.values
          (somes-one total meanings.values
          (subst (AllByRecursion (IsOne total)) values_are
          (told-one total (own Values 0 ns ∷ []) 0 ns (omega (arith, many)) (
            below-more (0 + count Values ns) total (own Values 0 ns) (omega (arith, many))
                (own-below Values 0 ns),
            tt,
          ))));
    }

-- operations of which there are ids are in generic form
pub ids-generic : (cs : List OpCst) (ids : List OpIds) → AllZip IdsFit cs ids
    → AllByRecursion IsGenericOp cs
ids-generic [] [] h = tt
ids-generic [] (x ∷ ids) h = absurd h
ids-generic (c ∷ cs) [] h = absurd h
ids-generic (c ∷ cs) (x ∷ ids) (p, h) =
    (by (out-FormCst (out-OpCst c).form) _ p.shown, ids-generic cs ids h)
  where
    by : (f : FormSeen) (n : ℕ) → ShowsResults f n → IsGenericForm f
    by (FormCst-F.Generic g) n h = tt
    by (FormCst-F.Custom k) n h = h
