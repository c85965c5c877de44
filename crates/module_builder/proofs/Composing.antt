-- What is built of rows that fit trees.
--
--   rows-fit       the rows of parts that fit trees fit them too
--   counts-same    a row has as many results as the parts of its operation
--   as-many        there are as many first values as definitions
--   all-await      rows that fit what stands in trees are awaited
--   built-shape, built-parts, ..     what the module is
use Rattle.std.proofs.Common.{◌≡◌, ℕ, List, [], ◌∷◌, ◌++◌, length, map, refl, ap, sym, ◌∙◌}
use Rattle.std.proofs.Common.{subst, append-nil, None, inl}
use Rattle.std.proofs.lemmas.List.{length-map}
use Rattle.std.proofs.lemmas.Slice.Zip.{AllZip-long}
use Rattle.std.specs.List.{AllZip}
use Rattle.attr_value.specs.Heads.{Ascend}
use Rattle.attr_value.specs.declared.head.ValueId.{ValueId}
use Rattle.generic_syntax.specs.declared.module_cst.FormCst.{out-FormCst}
use Rattle.generic_syntax.specs.declared.module_cst.FormCst.TheOpen.{FormCst-F}
use Rattle.generic_syntax.specs.declared.module_cst.OpCst.{OpCst, out-OpCst}
use Rattle.ir_store.specs.Growth.{IsOpen, in_block}
use Rattle.ir_store.specs.Modules.{no_ops}
use Rattle.ir_store.specs.Numbering.{ops_in, first_numbers}
use Rattle.ir_store.specs.Store.{OpName, StoredHead, Module, head_of}
use Rattle.module_builder.specs.declared.row.Row.{Row}
use Rattle.module_builder.specs.Built.{HasParts, HasPlace, value_number, successors_at}
use Rattle.module_builder.specs.Filled.{Await, OpsFilled, shown_of, shown_in}
use Rattle.module_builder.specs.Firsts.{firsts_of, result_count}
use Rattle.module_builder.specs.Fit.{IdsFit, ArgsFit, ShowsResults, blocks_under, uses_in}
use Rattle.module_builder.specs.Fit.{successors_in, definition_count}
use Rattle.module_builder.specs.Making.{AllMade}
use Rattle.module_builder.specs.Rows.{IsRow, AreRows, RowFits}
use Rattle.module_builder.proofs.Defining.{counts_of, firsts-in-ops, firsts-long}
use Rattle.module_builder.proofs.Filling.{zip-none}
use Rattle.module_builder.proofs.Sites.{site_shown, ops-sites, sites-have-parts, sites-have-places}
use Rattle.module_builder.proofs.Sites.{sites-operands, sites-successors}
use Rattle.module_faults.specs.declared.ids.OpIds.{OpIds}
use Rattle.module_faults.specs.ModuleFaults.{operands_at}
use Rattle.module_faults.specs.Shape.{FormFits, HasShape, definitions_in}
use Rattle.module_faults.specs.Standings.{Standing, generic_regions, ops_of, ops_standings}
use Rattle.module_meaning.specs.Facts.{FormSeen}
use Rattle.symbol_scopes.specs.Uses.{UseMeanings}

-- ---- rows that fit

form-fits : (v : FormSeen) (h : StoredHead) → length h.operands ≡ length (uses_in v)
    → length h.successors ≡ length (successors_in v) → ShowsResults v (length h.results)
    → FormFits v h
form-fits (FormCst-F.Generic g) h uses successors results = (sym uses, sym successors, results)
form-fits (FormCst-F.Custom k) h uses successors results = absurd results

row-fits : (c : OpCst) (ids : OpIds) (r : Row) → IdsFit c ids → IsRow c ids r → RowFits c r
row-fits c ids r fits is = record {
  form = form-fits (out-FormCst (out-OpCst c).form) (head_of r.row) is.operands is.successors
      (subst (λ l. ShowsResults (out-FormCst (out-OpCst c).form) (length l)) (sym is.results)
      fits.shown);
  names = λ some. fits.names some ∙ ap length (sym is.results);
  args = subst (AllZip ArgsFit (blocks_under (generic_regions c))) (sym is.args) fits.args;
  attrs = record {
    ascend = subst Ascend (sym is.keys) fits.ascend;
    counts = ap length is.values ∙ fits.counts ∙ ap length (sym is.keys);
  };
}

pub rows-fit : (cs : List OpCst) (is : List OpIds) (rs : List Row) → AllZip IdsFit cs is
    → AreRows cs is rs → AllZip RowFits cs rs
rows-fit [] [] [] p q = tt
rows-fit [] [] (r ∷ rs) p q = absurd q
rows-fit [] (i ∷ is) rs p q = absurd p
rows-fit (c ∷ cs) [] rs p q = absurd p
rows-fit (c ∷ cs) (i ∷ is) [] p q = absurd q
rows-fit (c ∷ cs) (i ∷ is) (r ∷ rs) p q = (row-fits c i r p.0 q.0, rows-fit cs is rs p.1 q.1)

pub counts-same : (cs : List OpCst) (is : List OpIds) (rs : List Row) → AreRows cs is rs
    → map result_count is ≡ counts_of (map shown_of rs)
counts-same [] [] [] p = refl
counts-same [] [] (r ∷ rs) p = absurd p
counts-same [] (i ∷ is) rs p = absurd p
counts-same (c ∷ cs) [] rs p = absurd p
counts-same (c ∷ cs) (i ∷ is) [] p = absurd p
counts-same (c ∷ cs) (i ∷ is) (r ∷ rs) p =
    ap (λ k. k ∷ map result_count is) (ap length (sym p.0.results))
    ∙ ap (λ l. length r.row.results.items ∷ l) (counts-same cs is rs p.1)

-- there are as many first values as definitions
pub as-many : (ss : List Standing) (ids : List OpIds) (firsts : List ℕ)
    → AllZip IdsFit (ops_of ss) ids → firsts ≡ firsts_of 0 ss (map result_count ids)
    → definition_count ss ≡ length firsts
as-many ss ids firsts fit begin = sym (ap length begin ∙ firsts-long 0 ss (map result_count ids)
    (length-map ids result_count ∙ AllZip-long IdsFit (ops_of ss) ids fit))

-- rows that fit what stands in trees are awaited
pub all-await : (cs : List OpCst) (rows : List Row)
    → AllZip RowFits (ops_of (ops_standings 0 cs)) rows
    → Await (λ n. ops_standings n cs) rows
all-await cs rows fit = record {
  round = 0;
  more = [];
  fit = subst (λ l. AllZip RowFits l rows) (sym (append-nil (ops_of (ops_standings 0 cs)))) fit;
}

-- the top level of an empty module is open
pub empty-open : IsOpen {N = OpName} {V = ValueId} no_ops (in_block None)
empty-open = record { among = inl refl }

-- ---- the module

module _ (cs : List OpCst) (ids : List OpIds) (rows left : List Row) (meant : UseMeanings)
    (firsts : List ℕ) (store : Module)
    (fit : AllZip IdsFit (ops_of (ops_standings 0 cs)) ids)
    (all : AllMade (ops_of (ops_standings 0 cs)) ids rows meant firsts)
    (begin : firsts ≡ firsts_of 0 (ops_standings 0 cs) (map result_count ids))
    (filled : OpsFilled no_ops store None cs rows left) where
  rows_fit : AllZip RowFits (ops_of (ops_standings 0 cs)) rows
  rows_fit = rows-fit (ops_of (ops_standings 0 cs)) ids rows fit all.are

  none_left : left ≡ []
  none_left = zip-none RowFits left (filled.leaves 0 [] (subst (λ l. AllZip RowFits l rows)
      (sym (append-nil (ops_of (ops_standings 0 cs)))) rows_fit))

  shown_same : shown_in store ≡ map shown_of rows
  shown_same = ap shown_in filled.is ∙ sym (append-nil (shown_in filled.ops))
      ∙ ap (λ l. shown_in filled.ops ++ map shown_of l) (sym none_left) ∙ filled.shown

  sites_same : map site_shown (ops_in store) ≡ map shown_of rows
  sites_same = ops-sites store first_numbers ∙ shown_same

  pub built-shape : HasShape cs store
  built-shape = subst (HasShape cs) (sym filled.is) filled.shape

  pub built-parts : AllZip HasParts (ops_in store) ids
  built-parts =
      sites-have-parts (ops_in store) (ops_of (ops_standings 0 cs)) ids rows sites_same all.are

  pub built-places : AllZip HasPlace (ops_in store) (ops_of (ops_standings 0 cs))
  built-places =
      sites-have-places (ops_in store) (ops_of (ops_standings 0 cs)) ids rows sites_same all.are

  firsts_same : firsts ≡ definitions_in 0 cs store
  firsts_same =
      begin
      ∙ ap (firsts_of 0 (ops_standings 0 cs))
      (counts-same (ops_of (ops_standings 0 cs)) ids rows all.are
      ∙ ap counts_of (sym shown_same) ∙ sym (append-nil (counts_of (shown_in store))))
      ∙ ap (λ l. firsts_of 0 l (counts_of (shown_in store) ++ []))
      (sym (append-nil (ops_standings 0 cs)))
      ∙ firsts-in-ops store cs 0 0 [] [] built-shape
      ∙ append-nil (definitions_in 0 cs store)

  pub built-operands : operands_at (ops_in store)
      ≡ map (value_number (definitions_in 0 cs store)) meant.values
  built-operands =
      sites-operands (ops_in store) rows sites_same ∙ all.operands
      ∙ ap (λ l. map (value_number l) meant.values) firsts_same

  pub built-successors : successors_at (ops_in store) ≡ meant.blocks
  built-successors = sites-successors (ops_in store) rows sites_same ∙ all.leads
