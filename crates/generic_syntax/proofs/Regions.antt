-- Regions in regions: the reader meets what is asked of it, and tokens have one tree.
--
-- The knot is tied by how deep regions nest, for any custom forms with which one token decides.
-- Pieces of the grammar of values are known already, and have no region.
use Rattle.std.proofs.Common.{◌≡◌, ℕ, zero, suc, ◌≤◌, ◌==◌, true, List, [], ◌∷◌, refl, arith}
use Rattle.generic_syntax.specs.declared.module_cst.OpCst.{OpCst}
use Rattle.generic_syntax.specs.declared.module_cst.RegionCst.{RegionCst}
use Rattle.generic_syntax.specs.declared.pieces.TheConstants.{ROOM}
use Rattle.generic_syntax.specs.ModuleForms.{ModSort, of_values, a_region, ModTree, OfModules, region_looks, mod_looks, mod_more_looks}
use Rattle.generic_syntax.specs.Modules.{region, region_at, unlabelled, file}
use Rattle.generic_syntax.specs.ModuleText.{derived_by, derived_region, IsRegion, IsInModule, deep_by, deep_region, no_region, read_by, region_reader, RegionReader, modules_by}
use Rattle.generic_syntax.specs.Operations.{Customs, Formed, ops_with}
use Rattle.grammar.specs.Exact.{HasMore}
use Rattle.grammar.specs.Front.{Lists, Some_of}
use Rattle.grammar.specs.Grammar.{Tokens, Parser, Derives, nullable}
use Rattle.grammar.specs.Looks.{any_of, any}
use Rattle.grammar.specs.OneToken.{check, more_looks}
use Rattle.grammar.specs.Rules.{whole}
use Rattle.grammar.proofs.Height.{derives-in, bounded}
use Rattle.grammar.proofs.Known.{KnownTrees, Trees, KnownReader, Known, grammar-trees, grammar-known}
use Rattle.grammar.proofs.Knots.{no-trees, trees-as, heights-trees, guarded-begun, reader-as, zero-known}
use Rattle.grammar.proofs.Meet.{a-token, passes-some}
use Rattle.grammar.proofs.Repeats.{Fits}
use Rattle.grammar.proofs.Respelled.{all_met}
use Rattle.grammar.proofs.Shrink.{Takes}
use Rattle.ir_lexer.specs.declared.class.Class.TheVariants.{LBrace, RBrace}
use Rattle.ir_lexer.specs.Tokens.{Token}
use Rattle.generic_syntax.proofs.Above.{pieces-known}

-- With these custom forms one token decides at each place of a region, and at each place of a whole
-- module; and bytes can give a token for each look of them.
pub record Decides (cs : Customs) : Type 0 where
  pub region_one : check mod_looks mod_more_looks (region cs) ≡ true
  pub region_met : all_met (region cs) ≡ true
  pub file_one : check mod_looks mod_more_looks (whole (file cs)) ≡ true
  pub file_met : all_met (whole (file cs)) ≡ true

-- ---- operations may be none

-- no operation is a piece
no-ops : (Derived : (x : ModSort) → Tokens → ModTree x → Type 0) (gs ls : List (OfModules Formed))
    → (os : List OpCst) × Derives Derived (ops_with gs ls) [] os
no-ops Derived gs [] = ([], ([], refl, refl))
no-ops Derived gs (l ∷ ls) = ([], ([], refl, refl))

ops-nullable : (gs ls : List (OfModules Formed)) → nullable (ops_with gs ls) ≡ true
ops-nullable gs [] = refl
ops-nullable gs (l ∷ ls) = refl

-- nothing goes on with a whole region
mores : (cs : Customs) → more_looks mod_looks mod_more_looks (region cs) ≡ []
mores cs = rw (ops-nullable cs.anywhere cs.last) refl

-- ---- pieces of values and regions together

-- what holds of the trees of regions and of pieces holds of both
both-trees : {Region : Tokens → RegionCst → Type 0} → KnownTrees Region region_looks []
    → Trees (derived_by Region) mod_looks mod_more_looks
both-trees {Region = R} known = record { each = each-trees }
  where
    each-trees : (x : ModSort) → KnownTrees (derived_by R x) (mod_looks x) (mod_more_looks x)
    each-trees (of_values p) = ((pieces-known ROOM).each p).trees
    each-trees a_region = known

-- and so it is with their readers
both-known : {Region : Tokens → RegionCst → Type 0} {DeepRegion : Lists} {read : Parser RegionCst}
    → KnownReader Region DeepRegion region_looks [] read
    → Known (derived_by Region) (deep_by DeepRegion) mod_looks mod_more_looks (read_by read)
both-known {Region = R} {DeepRegion = D} {read = p} known = record { each = each-known }
  where
    each-known : (x : ModSort)
        → KnownReader (derived_by R x) (deep_by D x) (mod_looks x) (mod_more_looks x) (read_by p x)
    each-known (of_values p) = (pieces-known ROOM).each p
    each-known a_region = known

-- what regions have, both have
both-in : (R S : Tokens → RegionCst → Type 0)
    → ((ts : Tokens) (r : RegionCst) → R ts r → S ts r) → (x : ModSort) (ts : Tokens)
    (v : ModTree x) → derived_by R x ts v → derived_by S x ts v
both-in R S into (of_values p) ts v d = d
both-in R S into a_region ts v d = into ts v d

-- ---- trees, by height

up : (cs : Customs) (n m : ℕ) → n ≤ m → (ts : Tokens) (r : RegionCst) → derived_region cs n ts r
    → derived_region cs m ts r
up cs zero m le ts r d = absurd d
up cs (suc n) zero le ts r d = absurd (omega arith)
up cs (suc n) (suc m) le ts r d =
    derives-in (derived_by (derived_region cs n)) (derived_by (derived_region cs m))
    (both-in (derived_region cs n) (derived_region cs m) (up cs n m (omega arith))) (region cs) ts
    r d

-- what both stand for, by the height of regions
abbrev at_height : Customs → ℕ → (x : ModSort) → Tokens → ModTree x → Type 0
at_height cs n = derived_by (derived_region cs n)

both-up : (cs : Customs) (n m : ℕ) → n ≤ m → (x : ModSort) (ts : Tokens) (v : ModTree x)
    → at_height cs n x ts v → at_height cs m x ts v
both-up cs n m le = both-in (derived_region cs n) (derived_region cs m) (up cs n m le)

some-height : (cs : Customs) (x : ModSort) (ts : Tokens) (v : ModTree x) → IsInModule cs x ts v
    → (n : ℕ) × at_height cs n x ts v
some-height cs (of_values p) ts v d = (0, d)
some-height cs a_region ts v d = d

any-height : (cs : Customs) (n : ℕ) (x : ModSort) (ts : Tokens) (v : ModTree x)
    → at_height cs n x ts v → IsInModule cs x ts v
any-height cs n (of_values p) ts v d = d
any-height cs n a_region ts v d = (n, d)

-- what the rule derives is a region
fold : (cs : Customs) (ts : Tokens) (r : RegionCst) → Derives (IsInModule cs) (region cs) ts r
    → IsRegion cs ts r
fold cs ts r d =
    let u = bounded (at_height cs) (both-up cs) (region cs) ts r
    (derives-in (IsInModule cs) (λ x us v. (n : ℕ) × at_height cs n x us v) (some-height cs)
    (region cs) ts r d) in
    (suc u.0, u.1)

-- and what is a region, its rule derives
unfold-region : (cs : Customs) (ts : Tokens) (r : RegionCst) → IsRegion cs ts r
    → Derives (IsInModule cs) (region cs) ts r
unfold-region cs ts r (zero, d) = absurd d
unfold-region cs ts r (suc n, d) =
    derives-in (at_height cs n) (IsInModule cs) (any-height cs n) (region cs) ts r d

module _ (cs : Customs) (d : Decides cs) where
  trees-at : (n : ℕ) → KnownTrees (derived_region cs n) region_looks []
  trees-at zero = no-trees region_looks []
  trees-at (suc n) =
      trees-as (Derives (at_height cs n) (region cs)) (derived_region cs (suc n)) refl (mores cs)
      (λ ts v d. d) (λ ts v d. d)
      (grammar-trees (both-trees (trees-at n)) (region cs) d.region_one refl d.region_met)

  -- regions, of any height
  trees : KnownTrees (IsRegion cs) region_looks []
  trees = heights-trees (λ n. derived_region cs n) (up cs) trees-at

  -- ---- readers, by depth

  abbrev opening : Token
  opening = a-token (any_of LBrace)

  abbrev closing : Token
  closing = a-token (any_of RBrace)

  -- a region without blocks
  sample : (ts : Tokens) × Some_of (IsRegion cs) ts
  unfolding region_at unlabelled
  sample =
      let o = no-ops (IsInModule cs) cs.anywhere cs.last in (
        opening ∷ closing ∷ [],
        (
          _,
          fold cs (opening ∷ closing ∷ []) _ (
            _,
            (
              opening ∷ [],
              closing ∷ [],
              tt,
              _,
              refl,
              (opening, refl, passes-some (any_of LBrace), refl),
              (
                [],
                closing ∷ [],
                _,
                tt,
                refl,
                ([], [], o.0, [], refl, o.1, ([], refl, refl), refl),
                (closing, refl, passes-some (any_of RBrace), refl),
                refl,
              ),
              refl,
            ),
            refl,
          ),
        ),
      )

  both-samples : (x : ModSort) → (ts : Tokens) × Some_of (IsInModule cs x) ts
  both-samples (of_values p) = ((pieces-known ROOM).each p).sample
  both-samples a_region = sample

  -- a token with which a region begins is the first of one
  begun : (t : Token) → any region_looks t ≡ true → HasMore (Some_of (IsRegion cs)) (t ∷ [])
  begun t e =
      let u = guarded-begun (both-trees trees) both-samples (region cs) d.region_one refl t e in
      (u.0, (u.1.0, fold cs (t ∷ u.0) u.1.0 u.1.1))

  -- What a grammar of modules asks of regions is known, at each depth.
  pub region-known : (n : ℕ)
      → KnownReader (IsRegion cs) (deep_region cs n) region_looks [] (region_reader cs n)
  unfolding region_reader
  region-known zero = zero-known (IsRegion cs) trees sample begun no_region
  region-known (suc n) =
      reader-as (Derives (IsInModule cs) (region cs)) (IsRegion cs) refl (mores cs) (fold cs)
      (unfold-region cs)
      (grammar-known (both-known (region-known n)) (ROOM == 0) (region cs) d.region_one refl
      d.region_met)

  -- And so is what it asks of all nonterminals.
  pub modules-known : (n : ℕ)
      → Known (IsInModule cs) (deep_by (deep_region cs n)) mod_looks mod_more_looks
      (read_by (region_reader cs n))
  modules-known n = both-known (region-known n)

  -- the reader of regions, as one of which nothing else is known than that it takes a token
  abbrev pub reader-of : ℕ → RegionReader
  reader-of n = record {
    read = region_reader cs n;
    takes = (region-known n).takes.by;
  }

-- Where the reader of regions takes a token, so does that of each nonterminal.
pub modules-fit : (regions : RegionReader) → Fits (modules_by regions.read)
modules-fit regions = record { takes = each-takes }
  where
    each-takes : (x : ModSort) → Takes (read_by regions.read x)
    each-takes (of_values p) = ((pieces-known ROOM).each p).takes
    each-takes a_region = record { by = regions.takes }
