-- What a tree says, by what stands in it: one lemma for each kind of tree, and for each part of a
-- custom form.
use Rattle.std.proofs.Common.{◌≡◌, ℕ, Bool, List, map, refl, ap, sym, ◌∙◌, ◌⊎◌, inl, inr}
use Rattle.std.specs.declared.option.Option.{Option}
use Rattle.generic_syntax.specs.declared.cst.EntryCst.{EntryCst}
use Rattle.generic_syntax.specs.declared.cst.ItemCst.{ItemCst}
use Rattle.generic_syntax.specs.declared.cst.NameCst.{NameCst}
use Rattle.generic_syntax.specs.declared.cst.ValueCst.{ValueCst}
use Rattle.generic_syntax.specs.declared.module_cst.BlockCst.{BlockCst, out-BlockCst}
use Rattle.generic_syntax.specs.declared.module_cst.BlockCst.{fold_out-BlockCst}
use Rattle.generic_syntax.specs.declared.module_cst.CustomCst.{CustomCst, out-CustomCst}
use Rattle.generic_syntax.specs.declared.module_cst.CustomCst.{fold_out-CustomCst}
use Rattle.generic_syntax.specs.declared.module_cst.FormCst.{FormCst, out-FormCst}
use Rattle.generic_syntax.specs.declared.module_cst.FormCst.{fold_out-FormCst, map-FormCst}
use Rattle.generic_syntax.specs.declared.module_cst.FormCst.{out-roll-FormCst}
use Rattle.generic_syntax.specs.declared.module_cst.FormCst.TheOpen.{FormCst-F, PartCst-F}
use Rattle.generic_syntax.specs.declared.module_cst.GenericCst.{GenericCst, out-GenericCst}
use Rattle.generic_syntax.specs.declared.module_cst.GenericCst.{fold_out-GenericCst}
use Rattle.generic_syntax.specs.declared.module_cst.OpCst.{OpCst, out-OpCst, fold_out-OpCst}
use Rattle.generic_syntax.specs.declared.module_cst.PartCst.{PartCst, out-PartCst}
use Rattle.generic_syntax.specs.declared.module_cst.PartCst.{fold_out-PartCst, map-PartCst}
use Rattle.generic_syntax.specs.declared.module_cst.PartCst.{roll-PartCst, out-roll-PartCst}
use Rattle.generic_syntax.specs.declared.module_cst.PartCst.{roll-out-PartCst}
use Rattle.generic_syntax.specs.declared.module_cst.RegionCst.{RegionCst, out-RegionCst}
use Rattle.generic_syntax.specs.declared.module_cst.RegionCst.{fold_out-RegionCst}
use Rattle.generic_syntax.specs.declared.module_cst.UseCst.{UseCst}
use Rattle.generic_syntax.specs.declared.module_cst.FormCst.TheVariants as form
use Rattle.generic_syntax.specs.declared.module_cst.PartCst.TheVariants as part
use Rattle.symbol_scopes.specs.Regions.{Notes, no_notes, in_region}
use Rattle.module_names.specs.Mentions.{value_mentions, maybe_mentions, entry_mentions}
use Rattle.module_names.specs.ModuleNotes.{use_noted, successor_noted, result_noted}
use Rattle.module_names.specs.ModuleNotes.{argument_noted, label_noted}
use Rattle.module_names.specs.ModuleNotes.{PartNotes, own_alone, own_of, regions_of}
use Rattle.module_names.specs.ModuleNotes.{part_layer, form_layer, block_layer, custom_layer}
use Rattle.module_names.specs.ModuleNotes.{generic_layer, op_layer, region_layer}
use Rattle.module_names.specs.ModuleNotes.{custom_notes, generic_notes, op_notes, form_notes}
use Rattle.module_names.specs.ModuleNotes.{part_notes, region_notes, block_notes, ops_notes}
use Rattle.module_names.specs.ModuleNotes.{blocks_notes, part_own, part_regions}
use Rattle.module_names.specs.Said.{joined, noted}
use Rattle.module_names.proofs.Saying.{noted-map}

-- ---- structs

-- an operation
pub op-opens : (c : OpCst) → op_notes c
    ≡ joined (noted result_noted (out-OpCst c).results) (form_notes (out-OpCst c).form)
unfolding op_notes form_notes
op-opens c = fold_out-OpCst _ _ _ _ _ _ _ form_layer part_layer block_layer custom_layer
    generic_layer op_layer region_layer c

-- a region
pub region-opens : (c : RegionCst)
    → region_notes c ≡ in_region (blocks_notes (out-RegionCst c).blocks) no_notes
unfolding region_notes block_notes
region-opens c = fold_out-RegionCst _ _ _ _ _ _ _ form_layer part_layer block_layer custom_layer
    generic_layer op_layer region_layer c

-- a block with its number
pub block-opens : (c : BlockCst) (n : ℕ) → block_notes c n
    ≡ joined (label_noted (out-BlockCst c).label n)
    (joined (noted argument_noted (out-BlockCst c).args) (ops_notes (out-BlockCst c).ops))
unfolding block_notes op_notes
block-opens c n = ap (λ f. f n) (fold_out-BlockCst _ _ _ _ _ _ _ form_layer part_layer block_layer
    custom_layer generic_layer op_layer region_layer c)

-- a generic form
pub generic-opens : (g : GenericCst) → generic_notes g
    ≡ joined (noted use_noted (out-GenericCst g).operands)
    (joined (noted successor_noted (out-GenericCst g).successors)
    (joined (noted entry_mentions (out-GenericCst g).props)
    (joined (noted entry_mentions (out-GenericCst g).attrs)
    (joined (noted value_mentions (out-GenericCst g).inputs)
    (joined (noted value_mentions (out-GenericCst g).outputs)
    (noted region_notes (out-GenericCst g).regions))))))
unfolding generic_notes region_notes
generic-opens g = fold_out-GenericCst _ _ _ _ _ _ _ form_layer part_layer block_layer custom_layer
    generic_layer op_layer region_layer g

-- a custom form
pub custom-opens : (k : CustomCst) → custom_notes k
    ≡ joined (noted part_own (out-CustomCst k).parts) (noted part_regions (out-CustomCst k).parts)
unfolding custom_notes part_notes
custom-opens k =
    fold_out-CustomCst _ _ _ _ _ _ _ form_layer part_layer block_layer custom_layer generic_layer
    op_layer region_layer k
    ∙ ap (λ ns. joined ns (regions_of (map part_notes (out-CustomCst k).parts)))
    (noted-map part_notes (λ (p : PartNotes). p.own) (out-CustomCst k).parts)
    ∙ ap (λ ns. joined (noted part_own (out-CustomCst k).parts) ns)
    (noted-map part_notes (λ (p : PartNotes). p.regions) (out-CustomCst k).parts)

-- ---- forms

-- what a form says, by one level of it
abbrev form_says : FormCst-F FormCst PartCst BlockCst CustomCst GenericCst OpCst RegionCst
    → Notes
form_says (FormCst-F.Generic g) = generic_notes g
form_says (FormCst-F.Custom k) = custom_notes k

form-opens : (f : FormCst) → form_notes f ≡ form_says (out-FormCst f)
unfolding part_notes region_notes form_notes block_notes custom_notes generic_notes op_notes
form-opens f =
    fold_out-FormCst _ _ _ _ _ _ _ form_layer part_layer block_layer custom_layer generic_layer
    op_layer region_layer f
    ∙ by (out-FormCst f)
  where
    by : (v : FormCst-F FormCst PartCst BlockCst CustomCst GenericCst OpCst RegionCst)
        → form_layer (map-FormCst FormCst PartCst BlockCst CustomCst GenericCst OpCst RegionCst
        Notes PartNotes (ℕ → Notes) Notes Notes Notes Notes
        form_notes part_notes block_notes custom_notes generic_notes op_notes region_notes v)
        ≡ form_says v
    by (FormCst-F.Generic g) = refl
    by (FormCst-F.Custom k) = refl

-- the generic form of a tree
pub form-generic : (f : FormCst) (g : GenericCst) → out-FormCst f ≡ FormCst-F.Generic g
    → form_notes f ≡ generic_notes g
form-generic f g e = form-opens f ∙ ap form_says e

-- a form that is generic
pub generic-form : (f : FormCst) (g : GenericCst) → f ≡ form.Generic g
    → generic_notes g ≡ form_notes f
generic-form f g e = sym (form-opens f ∙ ap form_says
    (ap out-FormCst (e ∙ sym (form.rolls-Generic g)) ∙ out-roll-FormCst (FormCst-F.Generic g)))

-- a form that is custom
pub custom-form : (f : FormCst) (k : CustomCst) → f ≡ form.Custom k
    → custom_notes k ≡ form_notes f
custom-form f k e = sym (form-opens f ∙ ap form_says
    (ap out-FormCst (e ∙ sym (form.rolls-Custom k)) ∙ out-roll-FormCst (FormCst-F.Custom k)))

-- ---- parts

-- what a part says, by one level of it
abbrev part_says : PartCst-F FormCst PartCst BlockCst CustomCst GenericCst OpCst RegionCst
    → PartNotes
part_says (PartCst-F.Uses us) = own_alone (noted use_noted us)
part_says (PartCst-F.Value v) = own_alone (maybe_mentions v)
part_says (PartCst-F.Region r) = record { own = no_notes; regions = region_notes r }
part_says (PartCst-F.Successor s) = own_alone (successor_noted s)
part_says (PartCst-F.Types types) = own_alone (noted value_mentions types)
part_says (PartCst-F.Functional inputs outputs) =
    own_alone (joined (noted value_mentions inputs) (noted value_mentions outputs))
part_says (PartCst-F.Dict entries) = own_alone (noted entry_mentions entries)
part_says (PartCst-F.Group taken ps) =
    record { own = own_of (map part_notes ps); regions = regions_of (map part_notes ps) }
part_says _ = own_alone no_notes

part-opens : (p : PartCst) → part_notes p ≡ part_says (out-PartCst p)
unfolding part_notes region_notes form_notes block_notes custom_notes generic_notes op_notes
part-opens p =
    fold_out-PartCst _ _ _ _ _ _ _ form_layer part_layer block_layer custom_layer generic_layer
    op_layer region_layer p
    ∙ by (out-PartCst p)
  where
    by : (v : PartCst-F FormCst PartCst BlockCst CustomCst GenericCst OpCst RegionCst)
        → part_layer (map-PartCst FormCst PartCst BlockCst CustomCst GenericCst OpCst RegionCst
        Notes PartNotes (ℕ → Notes) Notes Notes Notes Notes
        form_notes part_notes block_notes custom_notes generic_notes op_notes region_notes v)
        ≡ part_says v
    by (PartCst-F.Uses us) = refl
    by (PartCst-F.Value x) = refl
    by (PartCst-F.SymbolName x) = refl
    by (PartCst-F.IntText x) = refl
    by (PartCst-F.Region r) = refl
    by (PartCst-F.Successor x) = refl
    by (PartCst-F.Types x) = refl
    by (PartCst-F.Functional x y) = refl
    by (PartCst-F.Dict x) = refl
    by (PartCst-F.Group taken ps) = refl

part-is : (p q : PartCst)
    (v : PartCst-F FormCst PartCst BlockCst CustomCst GenericCst OpCst RegionCst)
    → p ≡ q → roll-PartCst v ≡ q → part_notes p ≡ part_says v
part-is p q v e rolled =
    part-opens p ∙ ap part_says (ap out-PartCst (e ∙ sym rolled) ∙ out-roll-PartCst v)

module _ (p : PartCst) where
  -- what it says itself, of each kind of part
  pub uses-own : (us : List UseCst) → p ≡ part.Uses us → noted use_noted us ≡ part_own p
  uses-own us e =
      sym (ap (λ n. n.own) (part-is p (part.Uses us) (PartCst-F.Uses us) e (part.rolls-Uses us)))

  pub value-own : (v : Option ValueCst) → p ≡ part.Value v → maybe_mentions v ≡ part_own p
  value-own v e =
      sym (ap (λ n. n.own) (part-is p (part.Value v) (PartCst-F.Value v) e (part.rolls-Value v)))

  pub successor-own : (s : NameCst) → p ≡ part.Successor s → successor_noted s ≡ part_own p
  successor-own s e = sym (ap (λ n. n.own)
      (part-is p (part.Successor s) (PartCst-F.Successor s) e (part.rolls-Successor s)))

  pub types-own : (ts : List ValueCst) → p ≡ part.Types ts
      → noted value_mentions ts ≡ part_own p
  types-own ts e = sym (ap (λ n. n.own)
      (part-is p (part.Types ts) (PartCst-F.Types ts) e (part.rolls-Types ts)))

  pub functional-own : (xs ys : List ValueCst) → p ≡ part.Functional xs ys
      → joined (noted value_mentions xs) (noted value_mentions ys) ≡ part_own p
  functional-own xs ys e = sym (ap (λ n. n.own)
      (part-is p (part.Functional xs ys) (PartCst-F.Functional xs ys) e
      (part.rolls-Functional xs ys)))

  pub dict-own : (es : List EntryCst) → p ≡ part.Dict es → noted entry_mentions es ≡ part_own p
  dict-own es e =
      sym (ap (λ n. n.own) (part-is p (part.Dict es) (PartCst-F.Dict es) e (part.rolls-Dict es)))

  pub group-own : (taken : Bool) (ps : List PartCst) → p ≡ part.Group taken ps
      → noted part_own ps ≡ part_own p
  group-own taken ps e = sym (ap (λ n. n.own)
      (part-is p (part.Group taken ps) (PartCst-F.Group taken ps) e (part.rolls-Group taken ps))
      ∙ noted-map part_notes (λ (n : PartNotes). n.own) ps)

  -- a part that says nothing itself
  pub other-own : ((x : Option NameCst) × p ≡ part.SymbolName x)
      ⊎ ((x : Option ItemCst) × p ≡ part.IntText x) ⊎ ((r : RegionCst) × p ≡ part.Region r)
      → no_notes ≡ part_own p
  other-own (inl (x, e)) = sym (ap (λ n. n.own)
      (part-is p (part.SymbolName x) (PartCst-F.SymbolName x) e (part.rolls-SymbolName x)))
  other-own (inr (inl (x, e))) = sym (ap (λ n. n.own)
      (part-is p (part.IntText x) (PartCst-F.IntText x) e (part.rolls-IntText x)))
  other-own (inr (inr (r, e))) = sym (ap (λ n. n.own)
      (part-is p (part.Region r) (PartCst-F.Region r) e (part.rolls-Region r)))

  -- what its regions say
  pub region-regions : (r : RegionCst) → p ≡ part.Region r → region_notes r ≡ part_regions p
  region-regions r e = sym (ap (λ n. n.regions)
      (part-is p (part.Region r) (PartCst-F.Region r) e (part.rolls-Region r)))

  pub group-regions : (taken : Bool) (ps : List PartCst) → p ≡ part.Group taken ps
      → noted part_regions ps ≡ part_regions p
  group-regions taken ps e = sym (ap (λ n. n.regions)
      (part-is p (part.Group taken ps) (PartCst-F.Group taken ps) e (part.rolls-Group taken ps))
      ∙ noted-map part_notes (λ (n : PartNotes). n.regions) ps)

  -- any other part has no region
  pub other-regions : ((r : RegionCst) → p ≡ part.Region r → ⊥)
      → ((taken : Bool) (ps : List PartCst) → p ≡ part.Group taken ps → ⊥)
      → no_notes ≡ part_regions p
  other-regions region grouped =
      sym (ap (λ n. n.regions) (part-opens p) ∙ by (out-PartCst p) (sym (roll-out-PartCst p)))
    where
      by : (v : PartCst-F FormCst PartCst BlockCst CustomCst GenericCst OpCst RegionCst)
          → p ≡ roll-PartCst v → (part_says v).regions ≡ no_notes
      by (PartCst-F.Uses us) e = refl
      by (PartCst-F.Value x) e = refl
      by (PartCst-F.SymbolName x) e = refl
      by (PartCst-F.IntText x) e = refl
      by (PartCst-F.Region r) e = absurd (region r (e ∙ part.rolls-Region r))
      by (PartCst-F.Successor s) e = refl
      by (PartCst-F.Types x) e = refl
      by (PartCst-F.Functional x y) e = refl
      by (PartCst-F.Dict x) e = refl
      by (PartCst-F.Group taken ps) e = absurd (grouped taken ps (e ∙ part.rolls-Group taken ps))
