-- Regions that nest too deep, one thing that stands in a tree after another.
use Rattle.std.proofs.Common.{◌≡◌, ◌⊎◌, ◌<◌, inl, inr, ℕ, List, [], ◌∷◌, ◌++◌, refl, sym, ◌∙◌, ap, arith}
use Rattle.std.specs.Prelude.{Contains}
use Rattle.std.specs.declared.option.Option.{Option}
use Rattle.std.specs.declared.option.Option.TheVariants.{Some, None}
use Rattle.std.proofs.lemmas.List.Elements.{Contains-append_cases, Contains-append_left}
use Rattle.std.proofs.lemmas.List.Elements.{Contains-append_right, Contains-push}
use Rattle.attr_value.specs.declared.head.TheConstants.{DEPTH_LIMIT}
use Rattle.elaborate.specs.Regions.{IsDeepRegion}
use Rattle.first_fault.specs.declared.fault.Fault.{Fault}
use Rattle.first_fault.specs.Firsts.{IsFirst, earlier_of}
use Rattle.first_fault.proofs.Firsts.{first-either, first-same}
use Rattle.generic_syntax.specs.declared.module_cst.RegionCst.{RegionCst, out-RegionCst}
use Rattle.module_faults.specs.Standings.{Standing, a_region}
use Rattle.value_meaning.specs.declared.code.TheConstants.{NESTING}
use Rattle.value_meaning.proofs.Among.{contains-nil, contains-one}

-- nothing stands there
pub deep-none : IsFirst (IsDeepRegion []) None
deep-none f h = contains-nil (a_region h.nesting h.region) h.stands

-- a region alone
pub deep-one : (n : ℕ) (r : RegionCst) → DEPTH_LIMIT < n
    → IsFirst (IsDeepRegion (a_region n r ∷ []))
    (Some (record { place = (out-RegionCst r).place; code = NESTING }))
deep-one n r deep = (
  record {
    nesting = n;
    region = r;
    stands = Contains-push [] (a_region n r);
    deep = deep;
    place = refl;
    code = refl;
  },
  λ g h.
      let same : a_region n r ≡ a_region h.nesting h.region =
      contains-one (a_region n r) (a_region h.nesting h.region) h.stands in
      let region : r ≡ h.region = cc in
      let place : (out-RegionCst r).place ≡ g.place =
      ap (λ x. (out-RegionCst x).place) region ∙ sym h.place in
      inr (place, let code : NESTING ≡ g.code = sym h.code in omega (arith, code)),
)

-- something that is no region too deep
pub deep-not : (s : Standing)
    → ((n : ℕ) (r : RegionCst) → s ≡ a_region n r → DEPTH_LIMIT < n → ⊥)
    → IsFirst (IsDeepRegion (s ∷ [])) None
deep-not s shallow f h =
    shallow h.nesting h.region (contains-one s (a_region h.nesting h.region) h.stands) h.deep

-- one more
pub deep-more : (ss : List Standing) (s : Standing) (a b : Option Fault)
    → IsFirst (IsDeepRegion ss) a → IsFirst (IsDeepRegion (s ∷ [])) b
    → IsFirst (IsDeepRegion (ss ++ s ∷ [])) (earlier_of a b)
deep-more ss s a b x y =
    first-same (λ f. IsDeepRegion ss f ⊎ IsDeepRegion (s ∷ []) f) (IsDeepRegion (ss ++ s ∷ []))
    (earlier_of a b)
    (λ f h. elim h [
      | inl p ↦ there f p (Contains-append_left ss (s ∷ []) (a_region p.nesting p.region) p.stands)
      | inr q ↦ there f q (Contains-append_right ss (s ∷ []) (a_region q.nesting q.region) q.stands)
    ])
    (λ f h. elim (Contains-append_cases ss (s ∷ []) (a_region h.nesting h.region) h.stands) [
      | inl before ↦ inl (there f h before)
      | inr last ↦ inr (there f h last)
    ])
    (first-either (IsDeepRegion ss) (IsDeepRegion (s ∷ [])) a b x y)
  where
    there : {xs ys : List Standing} (f : Fault) (h : IsDeepRegion xs f)
        → Contains ys (a_region h.nesting h.region) → IsDeepRegion ys f
    there f h stands = record {
      nesting = h.nesting;
      region = h.region;
      stands = stands;
      deep = h.deep;
      place = h.place;
      code = h.code;
    }
