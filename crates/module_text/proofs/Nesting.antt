-- Modules that nest little enough: they are modules, and nothing in them is too deep.
--
-- By how many regions may stand one in the other. Pieces of the grammar of values have no region.
use Rattle.std.proofs.Common.{◌≡◌, ℕ, zero, suc, ◌==◌, true, refl}
use Rattle.derived_printer.proofs.Nesting.{within, within-value}
use Rattle.generic_syntax.specs.declared.module_cst.ModuleCst.{ModuleCst}
use Rattle.generic_syntax.specs.declared.module_cst.RegionCst.{RegionCst}
use Rattle.generic_syntax.specs.declared.pieces.TheConstants.{ROOM}
use Rattle.generic_syntax.specs.ModuleForms.{ModSort, of_values, a_region, ModTree, mod_looks}
use Rattle.generic_syntax.specs.ModuleForms.{mod_more_looks, OfModules}
use Rattle.generic_syntax.specs.Modules.{region, file}
use Rattle.generic_syntax.specs.ModuleText.{derived_by, derived_region, IsInModule}
use Rattle.generic_syntax.specs.ModuleText.{deep_by, deep_region, read_by, region_reader}
use Rattle.generic_syntax.specs.ModuleText.{ModText, TooDeepMod, IsModule}
use Rattle.generic_syntax.specs.Nested.{IsValue, value_looks, value_more_looks, deep}
use Rattle.generic_syntax.specs.Operations.{Customs}
use Rattle.generic_syntax.specs.Pieces.{Piece, one_type, one_attr, some_types, results}
use Rattle.generic_syntax.specs.Pieces.{dictionary, an_item, PieceTree, piece, IsPiece, deep_piece}
use Rattle.generic_syntax.proofs.Knot as knot
use Rattle.generic_syntax.proofs.Regions.{Decides, modules-known}
use Rattle.grammar.specs.Front.{Shallow}
use Rattle.grammar.specs.Grammar.{Tokens, Deep}
use Rattle.grammar.specs.OneToken.{by_looks, check}
use Rattle.grammar.specs.Rules.{whole}
use Rattle.grammar.specs.Within.{Within}
use Rattle.grammar.proofs.Begun.{Samples}
use Rattle.grammar.proofs.Check.{checked}
use Rattle.grammar.proofs.Known.{Known, trees-of, kids-of, decided}
use Rattle.grammar.proofs.Shallow.{within-derived, within-shallow}
use Rattle.ir_lexer.specs.Classes.{same_class}

-- ---- what is within the nesting

-- a piece of the grammar of values, in which no value is too deep
abbrev pub piece_within : (p : Piece) → Tokens → PieceTree p → Type 0
piece_within p ts v = Within (within ROOM) (ROOM == 0) (piece p) ts v

-- of each nonterminal, where `Region` says it of regions
abbrev pub inside_by : (Tokens → RegionCst → Type 0) → (x : ModSort) → Tokens → ModTree x → Type 0
inside_by Region (of_values p) = piece_within p
inside_by Region a_region = Region

-- a region in which regions nest less than n deep, and no value is too deep
abbrev pub region_within : Customs → ℕ → Tokens → RegionCst → Type 0
region_within cs zero ts r = ⊥
region_within cs (suc n) ts r =
    Within (inside_by (region_within cs n)) (ROOM == 0) (region cs) ts r

-- each nonterminal, where operations have these custom forms and regions may nest n deep
abbrev pub inside : Customs → ℕ → (x : ModSort) → Tokens → ModTree x → Type 0
inside cs n = inside_by (region_within cs n)

-- ---- pieces of values

-- one token decides at each place of a piece
piece-decided : (p : Piece) → check value_looks value_more_looks (piece p) ≡ true
unfolding same_class
piece-decided one_type = refl
piece-decided one_attr = refl
piece-decided some_types = refl
piece-decided results = refl
piece-decided dictionary = refl
piece-decided an_item = refl

-- what is within is a piece, and not too deep
piece-inside : (p : Piece) (ts : Tokens) (v : PieceTree p) → piece_within p ts v
    → IsPiece p ts v × Shallow (deep_piece ROOM p) ts
unfolding IsPiece deep_piece
piece-inside p ts v w = (
  within-derived (within ROOM) IsValue (λ x us t d. (within-value ROOM x us t d).0) (ROOM == 0)
      (piece p) ts v w,
  within-shallow (within ROOM) IsValue (by_looks value_looks) knot.kids knot.samples knot.begun
      (deep ROOM) (knot.deep-some ROOM) (knot.deep-seen ROOM) (ROOM == 0)
      (λ x us t d. (within-value ROOM x us t d).0) (λ x us t d. (within-value ROOM x us t d).1)
      (piece p)
      (knot.one-of-checks (piece p)
      (checked value_looks value_more_looks (piece p) (piece-decided p))) ts v w,
)

-- ---- regions

-- custom forms with which one token decides
module _ (cs : Customs) (decides : Decides cs) where
  -- what is derived, at this height of regions
  abbrev at_height : ℕ → (x : ModSort) → Tokens → ModTree x → Type 0
  at_height n = derived_by (derived_region cs n)

  -- where it is so of regions
  inside-derived : (n : ℕ)
      → ((ts : Tokens) (r : RegionCst) → region_within cs n ts r → derived_region cs n ts r)
      → (x : ModSort) (ts : Tokens) (v : ModTree x) → inside cs n x ts v → at_height n x ts v
  inside-derived n regions (of_values p) ts v w = (piece-inside p ts v w).0
  inside-derived n regions a_region ts v w = regions ts v w

  region-derived : (n : ℕ) (ts : Tokens) (r : RegionCst) → region_within cs n ts r
      → derived_region cs n ts r
  region-derived zero ts r w = absurd w
  region-derived (suc n) ts r w =
      within-derived (inside cs n) (at_height n) (inside-derived n (region-derived n)) (ROOM == 0)
      (region cs) ts r w

  -- of any height
  any-height : (n : ℕ) (x : ModSort) (ts : Tokens) (v : ModTree x) → inside cs n x ts v
      → IsInModule cs x ts v
  any-height n (of_values p) ts v w = (piece-inside p ts v w).0
  any-height n a_region ts v w = (n, region-derived n ts v w)

  -- what is known of nonterminals, where regions may nest n deep
  abbrev known : (n : ℕ)
      → Known (IsInModule cs) (deep_by (deep_region cs n)) mod_looks mod_more_looks
      (read_by (region_reader cs n))
  known n = modules-known cs decides n

  samples : (n : ℕ) → Samples (IsInModule cs) (by_looks mod_looks)
  samples n = record { sample = λ x. ((known n).each x).sample }

  -- what is within a grammar that passes the check is not too deep, where it is so of regions
  grammar-shallow : (n : ℕ)
      → ((x : ModSort) (ts : Tokens) (v : ModTree x) → inside cs n x ts v
      → Shallow (deep_by (deep_region cs n) x) ts)
      → {A : Type 0} (g : OfModules A) → check mod_looks mod_more_looks g ≡ true
      → (ts : Tokens) (a : A) → Within (inside cs n) (ROOM == 0) g ts a
      → Shallow (Deep (IsInModule cs) (deep_by (deep_region cs n)) (ROOM == 0) g) ts
  grammar-shallow n shallow g one ts a w =
      within-shallow (inside cs n) (IsInModule cs) (by_looks mod_looks)
      (kids-of (trees-of (known n))) (samples n) (λ x. ((known n).each x).begun)
      (deep_by (deep_region cs n)) (λ x. ((known n).each x).no_deep)
      (λ x. ((known n).each x).seen) (ROOM == 0) (any-height n) shallow g
      (decided (trees-of (known n)) g one) ts a w

  -- of each nonterminal, where it is so of regions
  inside-shallow : (n : ℕ)
      → ((ts : Tokens) (r : RegionCst) → region_within cs n ts r
      → Shallow (deep_region cs n) ts)
      → (x : ModSort) (ts : Tokens) (v : ModTree x) → inside cs n x ts v
      → Shallow (deep_by (deep_region cs n) x) ts
  inside-shallow n regions (of_values p) ts v w = (piece-inside p ts v w).1
  inside-shallow n regions a_region ts v w = regions ts v w

  region-shallow : (n : ℕ) (ts : Tokens) (r : RegionCst) → region_within cs n ts r
      → Shallow (deep_region cs n) ts
  region-shallow zero ts r w = absurd w
  region-shallow (suc n) ts r w =
      grammar-shallow n (inside-shallow n (region-shallow n)) (region cs)
      decides.region_one ts r w

  -- ---- modules

  -- What is within the nesting is a module, and nothing in it is too deep.
  pub module-inside : (ts : Tokens) (m : ModuleCst)
      → Within (inside cs ROOM) (ROOM == 0) (whole (file cs)) ts m → IsModule cs ts m
  unfolding ModText TooDeepMod
  module-inside ts m w = record {
    spelled = within-derived (inside cs ROOM) (IsInModule cs) (any-height ROOM) (ROOM == 0)
        (whole (file cs)) ts m w;
    shallow = grammar-shallow ROOM (inside-shallow ROOM (region-shallow ROOM))
        (whole (file cs))
        decides.file_one ts m w;
  }
