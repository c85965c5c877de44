-- Steps of rules that the readers of modules take, beside those of values.
--
--   in-module       a piece of the grammar of values, in a module
--   region-..       a region that stands in an operation
--   blocks-first    operations before the first label, behind which blocks come
--   never           a reader of regions that reads none
use Rattle.std.proofs.Common.{◌≡◌, ℕ, zero, suc, ◌-◌, ◌<◌, Bool, true, false, ◌||◌, List, [], ◌∷◌, Result, Ok, Err, None, refl, arith}
use Rattle.generic_syntax.specs.declared.module_cst.ArgCst.{ArgCst}
use Rattle.generic_syntax.specs.declared.module_cst.BlockCst.{roll-BlockCst}
use Rattle.generic_syntax.specs.declared.module_cst.OpCst.{OpCst}
use Rattle.generic_syntax.specs.declared.module_cst.RegionCst.{RegionCst}
use Rattle.generic_syntax.specs.declared.pieces.TheConstants.{ROOM}
use Rattle.generic_syntax.specs.ModuleForms.{of_values, a_region, region_looks, piece_of, inner_region}
use Rattle.generic_syntax.specs.Modules.{region, blocks, block, unlabelled}
use Rattle.generic_syntax.specs.ModuleText.{no_region, region_reader, modules_by, modules_within, RegionReader}
use Rattle.generic_syntax.specs.Nested.{values_within}
use Rattle.generic_syntax.specs.Operations.{Customs, ops}
use Rattle.generic_syntax.specs.Pieces.{Piece, PieceTree, piece}
use Rattle.grammar.specs.declared.stop.SyntaxStop.{SyntaxStop}
use Rattle.grammar.specs.declared.stop.SyntaxStop.TheVariants.{At}
use Rattle.grammar.specs.declared.stop.SyntaxCode.TheVariants.{Nesting}
use Rattle.grammar.specs.Grammar.{stop}
use Rattle.grammar.specs.Looks.{any_of, passes, any}
use Rattle.grammar.specs.Ran.{Ran, Reads, reads_in, code_by_class}
use Rattle.grammar.proofs.Calls.{tok-refused}
use Rattle.grammar.proofs.Inside.{at-kid, tok-deep}
use Rattle.grammar.proofs.Runs.{both-ok, both-second}
use Rattle.ir_lexer.specs.declared.class.Class.TheVariants.{LBrace}
use Rattle.ir_lexer.specs.Source.{Source}
use Rattle.generic_syntax.proofs.Above.{piece-ran}
use Rattle.generic_syntax.proofs.Rows.{Builds}

-- a piece of the grammar of values, in a module
pub in-module : (p : Piece) (regions : RegionReader) {s s' : Source}
    {r : Result (PieceTree p) SyntaxStop} → Reads (values_within ROOM) (piece p) s r s'
    → Reads (modules_by regions.read) (piece_of p) s r s'
in-module p regions h = at-kid (of_values p) (piece-ran ROOM p h)

-- a reader of regions that reads none
pub never : RegionReader
never = record { read = λ ts. stop false ts; takes = λ ts r rest e. absurd (cc) }

-- ---- a region that stands in an operation

one-deeper : (cs : Customs) (n : ℕ) (s s' : Source) (r : Result RegionCst SyntaxStop)
    → Reads (modules_within cs n) (region cs) s r s' → Ran 1 (region_reader cs (suc n)) s r s'
unfolding region_reader reads_in
one-deeper cs n s s' r h =
    record { kept = h.ran.kept; less = h.ran.less; went = h.ran.went }

-- the rule of a region, for the region
pub region-deeper : (cs : Customs) (n : ℕ) {s s' : Source} {r : Result RegionCst SyntaxStop}
    → 0 < n → Reads (modules_within cs (n - 1)) (region cs) s r s'
    → Reads (modules_within cs n) inner_region s r s'
region-deeper cs zero h q = absurd (omega arith)
region-deeper cs (suc n) {s = s} {s' = s'} {r = r} h q =
    let e : suc n - 1 ≡ n = omega arith in at-kid a_region (one-deeper cs n s s' r (rw e at q))

-- one token is in the table of regions where it is their bracket
bracket : (b : Bool) → b ≡ true → (b || false) ≡ true
bracket true e = refl
bracket false e = absurd (cc)

no-bracket : (b : Bool) → b ≡ false → (b || false) ≡ false
no-bracket true e = absurd (cc)
no-bracket false e = refl

-- no region may nest so deep
pub region-deep : (cs : Customs) (n : ℕ) {s : Source} {why : SyntaxStop} → n ≡ 0
    → passes (any_of LBrace) s.now ≡ true → why ≡ At s.now.place Nesting
    → Reads (modules_within cs n) inner_region s (Err why) s
unfolding region_reader
region-deep cs zero {s = s} {why = why} z h is =
    at-kid a_region (tok-deep (any region_looks) no_region s why (bracket _ h) is)
region-deep cs (suc n) z h is = absurd (omega arith)

-- no region begins so
pub region-refused : (cs : Customs) (n : ℕ) {s : Source} {why : SyntaxStop} → n ≡ 0
    → passes (any_of LBrace) s.now ≡ false → why ≡ At s.now.place (code_by_class s.now.class)
    → Reads (modules_within cs n) inner_region s (Err why) s
unfolding region_reader
region-refused cs zero {s = s} {why = why} z h is =
    at-kid a_region (tok-refused true (any region_looks) no_region s why (no-bracket _ h) is)
region-refused cs (suc n) z h is = absurd (omega arith)

-- ---- blocks

-- operations before the first label, behind which blocks come
pub blocks-first : (cs : Customs) (n : ℕ) {os : List OpCst} {s0 s1 : Source}
    → Reads (modules_within cs n) (ops cs) s0 (Ok os) s1
    → Builds (modules_within cs n) (block cs) (blocks cs) (λ bs. bs) (unlabelled os) s0 s1
blocks-first cs n x =
    record { ok = λ bs s2 y. both-ok x y; err = λ why s2 y. both-second x y }

-- operations before the first label, where there are some, are a block without arguments
pub unlabelled-some : (os : List OpCst) (args : List ArgCst) → (os ≡ [] → ⊥) → args ≡ []
    → roll-BlockCst (record { label = None; args = args; ops = os }) ∷ [] ≡ unlabelled os
unfolding unlabelled
unlabelled-some [] args some none = absurd (some refl)
unlabelled-some (o ∷ os) args some none = rw none refl
