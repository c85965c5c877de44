-- Modules up to their end, and regions in regions: what is derived at any depth, and what is too
-- deep.
--
-- A region of an operation at top level has nesting 1, and each region inside it one more. A value
-- that stands directly in an operation or an alias has nesting 1, in whatever region.
--
--   IsRegion cs ts r    the tokens ts are spelled with the region r
--   ModText cs ts m     the tokens ts, up to and with the end, spell the module m
--   IsModule cs ts m    the same, and nothing nests too deep
--   TooDeepMod cs p     the last of p begins a value or a region nested too deep
--   region_reader cs n  the reader of a region in which regions nest less than n deep
--   modules_by read     how grammars of modules are read, where regions are read so
--   modules_within cs n the same, where regions may nest n deep
use Rattle.std.specs.Prelude.{◌≡◌, ℕ, zero, suc, ◌+◌, ◌≤◌, ◌==◌, true, Bool, [], length}
use Rattle.generic_syntax.specs.declared.module_cst.ModuleCst.{ModuleCst}
use Rattle.generic_syntax.specs.declared.module_cst.RegionCst.{RegionCst}
use Rattle.generic_syntax.specs.declared.pieces.TheConstants.{ROOM}
use Rattle.generic_syntax.specs.ModuleForms.{ModSort, of_values, a_region, ModTree, OfModules, mod_looks, region_looks}
use Rattle.generic_syntax.specs.Modules.{region, region_at, file}
use Rattle.generic_syntax.specs.Operations.{Customs}
use Rattle.generic_syntax.specs.Pieces.{IsPiece, deep_piece, piece_at}
use Rattle.grammar.specs.Front.{Lists, Shallow}
use Rattle.grammar.specs.Grammar.{Tokens, Parser, done, Derives, Deep, reads, read_tok, starts}
use Rattle.grammar.specs.Looks.{any}
use Rattle.grammar.specs.OneToken.{by_looks, begins_too_deep}
use Rattle.grammar.specs.Ran.{Env}
use Rattle.grammar.specs.Rules.{whole}
use Rattle.ir_lexer.specs.Tokens.{Token}

-- ---- what is derived

-- what each nonterminal stands for, where `Region` says it of regions
abbrev pub derived_by : (Tokens → RegionCst → Type 0) → (x : ModSort) → Tokens → ModTree x → Type 0
derived_by Region (of_values p) = IsPiece p
derived_by Region a_region = Region

-- the tokens are spelled with this region, in which regions nest less than n deep
abbrev pub derived_region : Customs → ℕ → Tokens → RegionCst → Type 0
derived_region cs zero ts r = ⊥
derived_region cs (suc n) ts r = Derives (derived_by (derived_region cs n)) (region cs) ts r

-- the tokens are spelled with this region
abbrev pub IsRegion : Customs → Tokens → RegionCst → Type 0
IsRegion cs ts r = (n : ℕ) × derived_region cs n ts r

-- what each nonterminal stands for
abbrev pub IsInModule : Customs → (x : ModSort) → Tokens → ModTree x → Type 0
IsInModule cs = derived_by (IsRegion cs)

-- ---- what is too deep

-- what is too deep in each nonterminal, where `DeepRegion` says it of regions
abbrev pub deep_by : Lists → ModSort → Lists
deep_by DeepRegion (of_values p) = deep_piece ROOM p
deep_by DeepRegion a_region = DeepRegion

-- The last of the tokens begins a value or a region nested too deep, where regions may nest n deep.
abbrev pub deep_region : Customs → ℕ → Lists
deep_region cs zero p = begins_too_deep region_looks p
deep_region cs (suc n) p =
    Deep (IsInModule cs) (deep_by (deep_region cs n)) (ROOM == 0) (region cs) p

-- ---- readers

-- a region that is never given
abbrev pub no_region : Token → RegionCst
no_region t = region_at t.place []

-- the reader of each nonterminal, where this one reads regions
abbrev pub read_by : Parser RegionCst → (x : ModSort) → Parser (ModTree x)
read_by read (of_values p) = piece_at ROOM p
read_by read a_region = read

-- reading a region, where regions may nest n deep
unfoldable pub region_reader : Customs → ℕ → Parser RegionCst
region_reader cs zero = read_tok true (any region_looks) no_region
region_reader cs (suc n) =
    reads (by_looks mod_looks) (read_by (region_reader cs n)) (ROOM == 0) (region cs)

-- how grammars of modules are read, where this one reads regions
abbrev pub modules_by : Parser RegionCst → Env ModSort ModTree
modules_by read =
    record { begins = by_looks mod_looks; inside = read_by read; none = ROOM == 0 }

-- how they are read, where regions may nest n deep
abbrev pub modules_within : Customs → ℕ → Env ModSort ModTree
modules_within cs n = modules_by (region_reader cs n)

-- A reader of regions, whatever custom forms the operations in them have: where it reads one, it
-- takes a token at least.
pub record RegionReader : Type 0 where
  pub read : Parser RegionCst
  pub takes : (ts : Tokens) (r : RegionCst) (rest : Tokens) → read ts ≡ done r rest
      → 1 + length rest ≤ length ts

-- a piece of the grammar begins with this token
abbrev pub Begins : {A : Type 0} → OfModules A → Token → Bool
Begins g t = starts (by_looks mod_looks) g t

-- ---- whole texts

-- the tokens, up to and with the end, spell this module
unfoldable pub ModText : Customs → Tokens → ModuleCst → Type 0
ModText cs = Derives (IsInModule cs) (whole (file cs))

-- the last of the tokens begins a value or a region nested too deep
unfoldable pub TooDeepMod : Customs → Lists
TooDeepMod cs = Deep (IsInModule cs) (deep_by (deep_region cs ROOM)) (ROOM == 0) (whole (file cs))

-- The tokens, up to and with the end, spell this module, and nothing in them nests too deep.
pub record IsModule (cs : Customs) (ts : Tokens) (m : ModuleCst) : Type 0 where
  pub spelled : ModText cs ts m
  pub shallow : Shallow (TooDeepMod cs) ts
