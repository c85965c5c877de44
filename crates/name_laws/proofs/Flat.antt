-- The notes of trees in generic form hold as many definitions, uses and successors as what stands
-- in the trees. By the parts of the trees.
use Rattle.std.proofs.Common.{◌≡◌, ℕ, suc, ◌+◌, Bool, List, [], ◌∷◌, ◌++◌, length, map}
use Rattle.std.proofs.Common.{refl, sym, ◌∙◌, ap, subst, arith, append_assoc}
use Rattle.std.proofs.lemmas.List.{length-append}
use Rattle.std.specs.List.{AllByRecursion}
use Rattle.generic_syntax.specs.declared.module_cst.BlockCst.{BlockCst, BlockCst-F, out-BlockCst}
use Rattle.generic_syntax.specs.declared.module_cst.BlockCst.{map-BlockCst, roll-BlockCst}
use Rattle.generic_syntax.specs.declared.module_cst.BlockCst.{out-roll-BlockCst}
use Rattle.generic_syntax.specs.declared.module_cst.CustomCst.{CustomCst}
use Rattle.generic_syntax.specs.declared.module_cst.FormCst.{FormCst, out-FormCst, map-FormCst}
use Rattle.generic_syntax.specs.declared.module_cst.FormCst.{roll-FormCst, out-roll-FormCst}
use Rattle.generic_syntax.specs.declared.module_cst.FormCst.TheOpen.{FormCst-F}
use Rattle.generic_syntax.specs.declared.module_cst.GenericCst.{GenericCst, GenericCst-F}
use Rattle.generic_syntax.specs.declared.module_cst.GenericCst.{out-GenericCst, map-GenericCst}
use Rattle.generic_syntax.specs.declared.module_cst.GenericCst.{roll-GenericCst}
use Rattle.generic_syntax.specs.declared.module_cst.GenericCst.{out-roll-GenericCst}
use Rattle.generic_syntax.specs.declared.module_cst.OpCst.{OpCst, OpCst-F, out-OpCst, map-OpCst}
use Rattle.generic_syntax.specs.declared.module_cst.OpCst.{roll-OpCst, out-roll-OpCst, ind-OpCst}
use Rattle.generic_syntax.specs.declared.module_cst.PartCst.{PartCst}
use Rattle.generic_syntax.specs.declared.module_cst.RegionCst.{RegionCst, RegionCst-F}
use Rattle.generic_syntax.specs.declared.module_cst.RegionCst.{out-RegionCst, map-RegionCst}
use Rattle.generic_syntax.specs.declared.module_cst.RegionCst.{roll-RegionCst, out-roll-RegionCst}
use Rattle.module_builder.specs.Fit.{uses_in, uses_of, successors_in, successors_of}
use Rattle.module_builder.specs.Fit.{definition_count}
use Rattle.module_faults.proofs.Opening.{op-opens, region-opens, block-opens}
use Rattle.module_faults.specs.Standings.{Standing, an_op, a_region, a_block, deeper, ops_of}
use Rattle.module_faults.specs.Standings.{is_last_before, regions_in_form}
use Rattle.module_faults.specs.Standings.{op_inside, region_standings, block_standings}
use Rattle.module_faults.specs.Standings.{ops_standings, regions_standings, blocks_standings}
use Rattle.module_meaning.proofs.GenericFacts.{all-apart}
use Rattle.module_meaning.specs.Facts.{FormSeen}
use Rattle.module_names.specs.ModuleNotes.{op_notes, region_notes, block_notes, ops_notes}
use Rattle.module_names.specs.ModuleNotes.{in_order}
use Rattle.module_names.specs.Said.{joined, noted}
use Rattle.name_laws.proofs.Counted.{Counted, counted-joined, counted-as, counted-generic}
use Rattle.name_laws.proofs.Counted.{counted-region, counted-block}
use Rattle.name_laws.specs.Generic.{IsGenericForm, IsGenericOp}
use Rattle.symbol_scopes.specs.Regions.{Notes}

-- ---- what stands, one behind the other

count-both : (a b : List Standing)
    → definition_count (a ++ b) ≡ definition_count a + definition_count b
count-both [] b = omega arith
count-both (an_op c last ∷ a) b = let more = count-both a b in omega (arith, more)
count-both (a_region n r ∷ a) b = count-both a b
count-both (a_block c ∷ a) b = let more = count-both a b in omega (arith, more)

ops-both : (a b : List Standing) → ops_of (a ++ b) ≡ ops_of a ++ ops_of b
ops-both [] b = refl
ops-both (an_op c last ∷ a) b = ap (λ w. c ∷ w) (ops-both a b)
ops-both (a_region n r ∷ a) b = ops-both a b
ops-both (a_block c ∷ a) b = ops-both a b

uses-both : (xs ys : List OpCst) → uses_of (xs ++ ys) ≡ uses_of xs ++ uses_of ys
uses-both [] ys = refl
uses-both (c ∷ xs) ys =
    ap (λ w. uses_in (out-FormCst (out-OpCst c).form) ++ w) (uses-both xs ys)
    ∙ sym (append_assoc (uses_in (out-FormCst (out-OpCst c).form)) (uses_of xs) (uses_of ys))

successors-both : (xs ys : List OpCst)
    → successors_of (xs ++ ys) ≡ successors_of xs ++ successors_of ys
successors-both [] ys = refl
successors-both (c ∷ xs) ys =
    ap (λ w. successors_in (out-FormCst (out-OpCst c).form) ++ w) (successors-both xs ys)
    ∙ sym (append_assoc (successors_in (out-FormCst (out-OpCst c).form)) (successors_of xs)
    (successors_of ys))

abbrev use_count : List Standing → ℕ
use_count ss = length (uses_of (ops_of ss))

abbrev target_count : List Standing → ℕ
target_count ss = length (successors_of (ops_of ss))

uses-counted : (a b : List Standing) → use_count (a ++ b) ≡ use_count a + use_count b
uses-counted a b = ap (λ w. length (uses_of w)) (ops-both a b)
    ∙ (ap length (uses-both (ops_of a) (ops_of b))
    ∙ length-append (uses_of (ops_of a)) (uses_of (ops_of b)))

targets-counted : (a b : List Standing) → target_count (a ++ b) ≡ target_count a + target_count b
targets-counted a b = ap (λ w. length (successors_of w)) (ops-both a b)
    ∙ (ap length (successors-both (ops_of a) (ops_of b))
    ∙ length-append (successors_of (ops_of a)) (successors_of (ops_of b)))

-- ---- notes and what stands

-- notes hold as much as what stands
pub record Flat (ns : Notes) (ss : List Standing) : Type 0 where
  pub counted : Counted ns (definition_count ss) (use_count ss) (target_count ss)

abbrev AllGeneric : List Standing → Type 0
AllGeneric ss = AllByRecursion IsGenericOp (ops_of ss)

flat-both : (x y : Notes) (a b : List Standing) → Flat x a → Flat y b → Flat (joined x y) (a ++ b)
flat-both x y a b p q = record {
  counted = counted-as (joined x y) (definition_count a + definition_count b)
      (use_count a + use_count b) (target_count a + target_count b) (definition_count (a ++ b))
      (use_count (a ++ b)) (target_count (a ++ b)) (sym (count-both a b)) (sym (uses-counted a b))
      (sym (targets-counted a b))
      (counted-joined x y (definition_count a) (use_count a) (target_count a) (definition_count b)
      (use_count b) (target_count b) p.counted q.counted);
}

generic-both : (a b : List Standing) → AllGeneric (a ++ b) → AllGeneric a × AllGeneric b
generic-both a b h = all-apart IsGenericOp (ops_of a) (ops_of b)
    (subst (AllByRecursion IsGenericOp) (ops-both a b) h)

-- ---- what is shown of each tree

abbrev RegionIs : RegionCst → Type 0
RegionIs r = (n : ℕ) → AllGeneric (region_standings n r)
    → Flat (region_notes r) (region_standings n r)

abbrev BlockIs : BlockCst → Type 0
BlockIs b = (n k : ℕ) → AllGeneric (block_standings n b)
    → Flat (block_notes b k) (block_standings n b)

abbrev OpIs : OpCst → Type 0
OpIs c = (n : ℕ) (last : Bool) → AllGeneric (an_op c last ∷ op_inside n c)
    → Flat (op_notes c) (an_op c last ∷ op_inside n c)

abbrev GenericIs : GenericCst → Type 0
GenericIs g = AllByRecursion RegionIs (out-GenericCst g).regions

abbrev FormIs : FormCst → Type 0
FormIs f = (g : GenericCst) → out-FormCst f ≡ FormCst-F.Generic g → GenericIs g

abbrev AnyPart : PartCst → Type 0
AnyPart p = Unit {0}

abbrev AnyCustom : CustomCst → Type 0
AnyCustom k = Unit {0}

-- ---- lists of trees

regions-flat : (rs : List RegionCst) → AllByRecursion RegionIs rs → (n : ℕ)
    → AllGeneric (regions_standings n rs)
    → Flat (noted region_notes rs) (regions_standings n rs)
regions-flat [] each n h =
    record { counted = record { definitions = refl; uses = refl; targets = refl } }
regions-flat (r ∷ rs) (p, each) n h =
    let two = generic-both (region_standings n r) (regions_standings n rs) h in
    flat-both (region_notes r) (noted region_notes rs) (region_standings n r)
    (regions_standings n rs) (p n two.0) (regions-flat rs each n two.1)

blocks-flat : (bs : List BlockCst) → AllByRecursion BlockIs bs → (n k : ℕ)
    → AllGeneric (blocks_standings n bs)
    → Flat (in_order k (map block_notes bs)) (blocks_standings n bs)
blocks-flat [] each n k h =
    record { counted = record { definitions = refl; uses = refl; targets = refl } }
blocks-flat (b ∷ bs) (p, each) n k h =
    let two = generic-both (block_standings n b) (blocks_standings n bs) h in
    flat-both (block_notes b k) (in_order (suc k) (map block_notes bs)) (block_standings n b)
    (blocks_standings n bs) (p n k two.0) (blocks-flat bs each n (suc k) two.1)

pub ops-flat : (cs : List OpCst) → AllByRecursion OpIs cs → (n : ℕ)
    → AllGeneric (ops_standings n cs) → Flat (ops_notes cs) (ops_standings n cs)
ops-flat [] each n h =
    record { counted = record { definitions = refl; uses = refl; targets = refl } }
ops-flat (c ∷ cs) (p, each) n h =
    let here = an_op c (is_last_before cs) ∷ op_inside n c in
    let two = generic-both (an_op c (is_last_before cs) ∷ op_inside n c) (ops_standings n cs) h in
    flat-both (op_notes c) (ops_notes cs) here (ops_standings n cs) (p n (is_last_before cs) two.0)
    (ops-flat cs each n two.1)

-- ---- each tree, by its parts

region-is : (r : RegionCst) → AllByRecursion BlockIs (out-RegionCst r).blocks → RegionIs r
region-is r each n h =
    let inner = blocks_standings (deeper n) (out-RegionCst r).blocks in
    let flat = blocks-flat (out-RegionCst r).blocks each (deeper n) 0
    (subst AllGeneric (region-opens n r) h) in
    subst (Flat (region_notes r)) (sym (region-opens n r)) (record {
      counted = counted-region r (definition_count inner) (use_count inner) (target_count inner)
          flat.counted;
    })

block-is : (b : BlockCst) → AllByRecursion OpIs (out-BlockCst b).ops → BlockIs b
block-is b each n k h =
    let inner = ops_standings n (out-BlockCst b).ops in
    let flat = ops-flat (out-BlockCst b).ops each n (subst AllGeneric (block-opens n b) h) in
    subst (Flat (block_notes b k)) (sym (block-opens n b)) (record {
      counted = counted-block b k (definition_count inner) (use_count inner) (target_count inner)
          flat.counted;
    })

generic-of : (f : FormSeen) → IsGenericForm f → (g : GenericCst) × (f ≡ FormCst-F.Generic g)
generic-of (FormCst-F.Generic g) h = (g, refl)
generic-of (FormCst-F.Custom k) h = absurd h

op-is : (c : OpCst) → FormIs (out-OpCst c).form → OpIs c
op-is c form n last (here, h) =
    let (g, e) = generic-of (out-FormCst (out-OpCst c).form) here in
    let rs = (out-GenericCst g).regions in
    let inner = regions_standings n (out-GenericCst g).regions in
    let opened : op_inside n c ≡ regions_standings n (out-GenericCst g).regions =
    op-opens n c ∙ ap (λ (f : FormSeen). regions_standings n (regions_in_form f)) e in
    let flat = regions-flat rs (form g e) n (subst AllGeneric opened h) in
    let i = length (out-GenericCst g).operands in
    let j = length (out-GenericCst g).successors in
    let count = counted-generic c g e (definition_count inner) (use_count inner)
    (target_count inner) flat.counted in
    let uses : i + use_count inner ≡ use_count (an_op c last ∷ inner) =
    sym (length-append (uses_in (out-FormCst (out-OpCst c).form)) (uses_of (ops_of inner))
    ∙ ap (λ (f : FormSeen). length (uses_in f) + use_count inner) e) in
    let targets : j + target_count inner ≡ target_count (an_op c last ∷ inner) =
    sym (length-append (successors_in (out-FormCst (out-OpCst c).form))
    (successors_of (ops_of inner))
    ∙ ap (λ (f : FormSeen). length (successors_in f) + target_count inner) e) in
    subst (λ (ss : List Standing). Flat (op_notes c) (an_op c last ∷ ss)) (sym opened) (record {
      counted = counted-as (op_notes c) (length (out-OpCst c).results + definition_count inner)
          (i + use_count inner) (j + target_count inner)
          (definition_count (an_op c last ∷ inner)) (use_count (an_op c last ∷ inner))
          (target_count (an_op c last ∷ inner)) refl uses targets count;
    })

-- ---- the induction

-- trees of which this is known
module _ (F P B K G O R : Type 0) (ff : F → FormCst) (fp : P → PartCst) (fb : B → BlockCst)
    (fk : K → CustomCst) (fg : G → GenericCst) (fo : O → OpCst) (fr : R → RegionCst)
    (form : (f : F) → FormIs (ff f)) (block : (b : B) → BlockIs (fb b))
    (generic : (g : G) → GenericIs (fg g)) (op : (o : O) → OpIs (fo o))
    (region : (r : R) → RegionIs (fr r)) where
  all-blocks : (bs : List B) → AllByRecursion BlockIs (map fb bs)
  all-blocks [] = tt
  all-blocks (b ∷ bs) = (block b, all-blocks bs)

  all-ops : (os : List O) → AllByRecursion OpIs (map fo os)
  all-ops [] = tt
  all-ops (o ∷ os) = (op o, all-ops os)

  all-regions : (rs : List R) → AllByRecursion RegionIs (map fr rs)
  all-regions [] = tt
  all-regions (r ∷ rs) = (region r, all-regions rs)

  op-step : (x : OpCst-F FormCst PartCst BlockCst CustomCst GenericCst OpCst RegionCst)
      (y : OpCst-F F P B K G O R)
      → map-OpCst F P B K G O R FormCst PartCst BlockCst CustomCst GenericCst OpCst RegionCst
      ff fp fb fk fg fo fr y ≡ x → OpIs (roll-OpCst x)
  op-step x y is = op-is (roll-OpCst x)
      (subst FormIs (ap (λ z. z.form) (is ∙ sym (out-roll-OpCst x))) (form y.form))

  region-step : (x : RegionCst-F FormCst PartCst BlockCst CustomCst GenericCst OpCst RegionCst)
      (y : RegionCst-F F P B K G O R)
      → map-RegionCst F P B K G O R FormCst PartCst BlockCst CustomCst GenericCst OpCst RegionCst
      ff fp fb fk fg fo fr y ≡ x → RegionIs (roll-RegionCst x)
  region-step x y is = region-is (roll-RegionCst x)
      (subst (AllByRecursion BlockIs) (ap (λ z. z.blocks) (is ∙ sym (out-roll-RegionCst x)))
      (all-blocks y.blocks))

  block-step : (x : BlockCst-F FormCst PartCst BlockCst CustomCst GenericCst OpCst RegionCst)
      (y : BlockCst-F F P B K G O R)
      → map-BlockCst F P B K G O R FormCst PartCst BlockCst CustomCst GenericCst OpCst RegionCst
      ff fp fb fk fg fo fr y ≡ x → BlockIs (roll-BlockCst x)
  block-step x y is = block-is (roll-BlockCst x)
      (subst (AllByRecursion OpIs) (ap (λ z. z.ops) (is ∙ sym (out-roll-BlockCst x)))
      (all-ops y.ops))

  generic-step : (x : GenericCst-F FormCst PartCst BlockCst CustomCst GenericCst OpCst RegionCst)
      (y : GenericCst-F F P B K G O R)
      → map-GenericCst F P B K G O R FormCst PartCst BlockCst CustomCst GenericCst OpCst RegionCst
      ff fp fb fk fg fo fr y ≡ x → GenericIs (roll-GenericCst x)
  generic-step x y is =
      subst (AllByRecursion RegionIs) (ap (λ z. z.regions) (is ∙ sym (out-roll-GenericCst x)))
      (all-regions y.regions)

  form-by : (y : FormCst-F F P B K G O R) (g : GenericCst)
      → map-FormCst F P B K G O R FormCst PartCst BlockCst CustomCst GenericCst OpCst RegionCst
      ff fp fb fk fg fo fr y ≡ FormCst-F.Generic g → GenericIs g
  form-by (FormCst-F.Generic h) g e =
      let same : fg h ≡ g = cc in subst GenericIs same (generic h)
  form-by (FormCst-F.Custom h) g e = absurd (cc)

  form-step : (x : FormCst-F FormCst PartCst BlockCst CustomCst GenericCst OpCst RegionCst)
      (y : FormCst-F F P B K G O R)
      → map-FormCst F P B K G O R FormCst PartCst BlockCst CustomCst GenericCst OpCst RegionCst
      ff fp fb fk fg fo fr y ≡ x → FormIs (roll-FormCst x)
  form-step x y is g e = form-by y g (is ∙ (sym (out-roll-FormCst x) ∙ e))

each-op : (c : OpCst) → OpIs c
each-op =
    ind-OpCst FormIs AnyPart BlockIs AnyCustom GenericIs OpIs RegionIs
    (λ x y is. form-step _ _ _ _ _ _ _ (λ e. e.0) (λ e. e.0) (λ e. e.0) (λ e. e.0) (λ e. e.0)
    (λ e. e.0) (λ e. e.0) (λ e. e.1) (λ e. e.1) (λ e. e.1) (λ e. e.1) (λ e. e.1) x y is)
    (λ x y is. tt)
    (λ x y is. block-step _ _ _ _ _ _ _ (λ e. e.0) (λ e. e.0) (λ e. e.0) (λ e. e.0) (λ e. e.0)
    (λ e. e.0) (λ e. e.0) (λ e. e.1) (λ e. e.1) (λ e. e.1) (λ e. e.1) (λ e. e.1) x y is)
    (λ x y is. tt)
    (λ x y is. generic-step _ _ _ _ _ _ _ (λ e. e.0) (λ e. e.0) (λ e. e.0) (λ e. e.0) (λ e. e.0)
    (λ e. e.0) (λ e. e.0) (λ e. e.1) (λ e. e.1) (λ e. e.1) (λ e. e.1) (λ e. e.1) x y is)
    (λ x y is. op-step _ _ _ _ _ _ _ (λ e. e.0) (λ e. e.0) (λ e. e.0) (λ e. e.0) (λ e. e.0)
    (λ e. e.0) (λ e. e.0) (λ e. e.1) (λ e. e.1) (λ e. e.1) (λ e. e.1) (λ e. e.1) x y is)
    (λ x y is. region-step _ _ _ _ _ _ _ (λ e. e.0) (λ e. e.0) (λ e. e.0) (λ e. e.0) (λ e. e.0)
    (λ e. e.0) (λ e. e.0) (λ e. e.1) (λ e. e.1) (λ e. e.1) (λ e. e.1) (λ e. e.1) x y is)

-- operations in generic form say as much as what stands there
pub notes-flat : (n : ℕ) (cs : List OpCst) → AllGeneric (ops_standings n cs)
    → Flat (ops_notes cs) (ops_standings n cs)
notes-flat n cs h = ops-flat cs (all cs) n h
  where
    all : (cs : List OpCst) → AllByRecursion OpIs cs
    all [] = tt
    all (c ∷ cs) = (each-op c, all cs)
