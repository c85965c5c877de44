-- The operations of a module where they stand, and those that it shows.
--
--   ops-sites        they are the same, in the same order
--   sites-have-parts, sites-have-places      the parts and places are those of rows
--   sites-operands, sites-successors       so are the operands and the successors
use Rattle.std.proofs.Common.{◌≡◌, List, [], ◌∷◌, ◌++◌, map, refl, ap, ◌∙◌}
use Rattle.std.proofs.lemmas.List.{map-append}
use Rattle.std.specs.List.{AllZip}
use Rattle.attr_value.specs.declared.head.ValueId.{ValueId}
use Rattle.generic_syntax.specs.declared.module_cst.OpCst.{OpCst}
use Rattle.ir_store.specs.Modules.{Regions, Blocks, no_ops, then_op, no_regions, region}
use Rattle.ir_store.specs.Modules.{no_blocks, block}
use Rattle.ir_store.specs.Numbering.{Numbers, OpSite, Part, an_op, a_region, a_block, past_op}
use Rattle.ir_store.specs.Numbering.{past_region, past_block, behind, behind_regions}
use Rattle.ir_store.specs.Numbering.{behind_blocks, parts, parts_of_regions, parts_of_blocks}
use Rattle.ir_store.specs.Numbering.{op_sites}
use Rattle.ir_store.specs.Store.{OpName, Module}
use Rattle.module_builder.specs.declared.row.Row.{Row}
use Rattle.module_builder.specs.Built.{all_args, HasParts, HasPlace, successors_at}
use Rattle.module_builder.specs.Filled.{Shown, shown_of, shown_in, shown_in_regions}
use Rattle.module_builder.specs.Filled.{shown_in_blocks}
use Rattle.module_builder.specs.Rows.{AreRows, operands_of, successors_of_rows}
use Rattle.module_faults.specs.declared.ids.OpIds.{OpIds}
use Rattle.module_faults.specs.ModuleFaults.{operands_at}

-- what a module shows of an operation where it stands
abbrev pub site_shown : OpSite OpName ValueId → Shown
site_shown x = record { head = x.head; args = all_args x.regions }

sites-joined : (ps qs : List (Part OpName ValueId))
    → op_sites (ps ++ qs) ≡ op_sites ps ++ op_sites qs
sites-joined [] qs = refl
sites-joined (an_op x ∷ ps) qs = ap (λ l. x ∷ l) (sites-joined ps qs)
sites-joined (a_region x ∷ ps) qs = sites-joined ps qs
sites-joined (a_block x ∷ ps) qs = sites-joined ps qs

shown-joined : (ps qs : List (Part OpName ValueId)) (a b : List Shown)
    → map site_shown (op_sites ps) ≡ a → map site_shown (op_sites qs) ≡ b
    → map site_shown (op_sites (ps ++ qs)) ≡ a ++ b
shown-joined ps qs a b p q =
    ap (map site_shown) (sites-joined ps qs) ∙ map-append site_shown (op_sites ps) (op_sites qs)
    ∙ ap (λ l. l ++ map site_shown (op_sites qs)) p ∙ ap (λ l. a ++ l) q

mutual
  pub ops-sites : (os : Module) (c : Numbers) → map site_shown (op_sites (parts c os)) ≡ shown_in os
  ops-sites no_ops c = refl
  ops-sites (then_op h rs os) c = ap (λ l. record { head = h; args = all_args rs } ∷ l)
      (shown-joined (parts_of_regions (past_op c h) rs)
      (parts (behind_regions (past_op c h) rs) os) (shown_in_regions rs) (shown_in os)
      (regions-sites rs (past_op c h)) (ops-sites os (behind_regions (past_op c h) rs)))

  regions-sites : (rs : Regions OpName ValueId) (c : Numbers)
      → map site_shown (op_sites (parts_of_regions c rs)) ≡ shown_in_regions rs
  regions-sites no_regions c = refl
  regions-sites (region bs rs) c =
      shown-joined (parts_of_blocks (past_region c) bs)
      (parts_of_regions (behind_blocks (past_region c) bs) rs) (shown_in_blocks bs)
      (shown_in_regions rs) (blocks-sites bs (past_region c))
      (regions-sites rs (behind_blocks (past_region c) bs))

  blocks-sites : (bs : Blocks OpName ValueId) (c : Numbers)
      → map site_shown (op_sites (parts_of_blocks c bs)) ≡ shown_in_blocks bs
  blocks-sites no_blocks c = refl
  blocks-sites (block args os bs) c =
      shown-joined (parts (past_block c args) os)
      (parts_of_blocks (behind (past_block c args) os) bs) (shown_in os) (shown_in_blocks bs)
      (ops-sites os (past_block c args)) (blocks-sites bs (behind (past_block c args) os))

-- ---- rows

-- the first of two lists that are the same, and the others
first-same : (x y : Shown) (xs ys : List Shown) → x ∷ xs ≡ y ∷ ys → x ≡ y
first-same x y xs ys e = cc

others-same : (x y : Shown) (xs ys : List Shown) → x ∷ xs ≡ y ∷ ys → xs ≡ ys
others-same x y xs ys e = cc

pub sites-have-parts : (sites : List (OpSite OpName ValueId)) (cs : List OpCst) (is : List OpIds)
    (rs : List Row) → map site_shown sites ≡ map shown_of rs → AreRows cs is rs
    → AllZip HasParts sites is
sites-have-parts [] [] [] [] e p = tt
sites-have-parts [] [] [] (r ∷ rs) e p = absurd p
sites-have-parts [] [] (i ∷ is) [] e p = absurd p
sites-have-parts [] [] (i ∷ is) (r ∷ rs) e p = absurd p
sites-have-parts [] (c ∷ cs) [] [] e p = absurd p
sites-have-parts [] (c ∷ cs) [] (r ∷ rs) e p = absurd p
sites-have-parts [] (c ∷ cs) (i ∷ is) [] e p = absurd p
sites-have-parts [] (c ∷ cs) (i ∷ is) (r ∷ rs) e p = absurd (cc)
sites-have-parts (x ∷ xs) [] [] [] e p = absurd (cc)
sites-have-parts (x ∷ xs) [] [] (r ∷ rs) e p = absurd p
sites-have-parts (x ∷ xs) [] (i ∷ is) [] e p = absurd p
sites-have-parts (x ∷ xs) [] (i ∷ is) (r ∷ rs) e p = absurd p
sites-have-parts (x ∷ xs) (c ∷ cs) [] [] e p = absurd p
sites-have-parts (x ∷ xs) (c ∷ cs) [] (r ∷ rs) e p = absurd p
sites-have-parts (x ∷ xs) (c ∷ cs) (i ∷ is) [] e p = absurd p
sites-have-parts (x ∷ xs) (c ∷ cs) (i ∷ is) (r ∷ rs) e p =
    let same = first-same (site_shown x) (shown_of r) (map site_shown xs) (map shown_of rs) e in
    let row = p.0 in (
      record {
        def = ap (λ (s : Shown). s.head.name.def) same ∙ row.def;
        results = ap (λ (s : Shown). s.head.results) same ∙ row.results;
        keys = ap (λ (s : Shown). s.head.keys) same ∙ row.keys;
        values = ap (λ (s : Shown). s.head.values) same ∙ row.values;
        args = ap (λ (s : Shown). s.args) same ∙ row.args;
      },
      sites-have-parts xs cs is rs
          (others-same (site_shown x) (shown_of r) (map site_shown xs) (map shown_of rs) e) p.1,
    )

pub sites-have-places : (sites : List (OpSite OpName ValueId)) (cs : List OpCst)
    (is : List OpIds) (rs : List Row) → map site_shown sites ≡ map shown_of rs
    → AreRows cs is rs → AllZip HasPlace sites cs
sites-have-places [] [] [] [] e p = tt
sites-have-places [] [] [] (r ∷ rs) e p = absurd p
sites-have-places [] [] (i ∷ is) [] e p = absurd p
sites-have-places [] [] (i ∷ is) (r ∷ rs) e p = absurd p
sites-have-places [] (c ∷ cs) [] [] e p = absurd p
sites-have-places [] (c ∷ cs) [] (r ∷ rs) e p = absurd p
sites-have-places [] (c ∷ cs) (i ∷ is) [] e p = absurd p
sites-have-places [] (c ∷ cs) (i ∷ is) (r ∷ rs) e p = absurd (cc)
sites-have-places (x ∷ xs) [] [] [] e p = absurd (cc)
sites-have-places (x ∷ xs) [] [] (r ∷ rs) e p = absurd p
sites-have-places (x ∷ xs) [] (i ∷ is) [] e p = absurd p
sites-have-places (x ∷ xs) [] (i ∷ is) (r ∷ rs) e p = absurd p
sites-have-places (x ∷ xs) (c ∷ cs) [] [] e p = absurd p
sites-have-places (x ∷ xs) (c ∷ cs) [] (r ∷ rs) e p = absurd p
sites-have-places (x ∷ xs) (c ∷ cs) (i ∷ is) [] e p = absurd p
sites-have-places (x ∷ xs) (c ∷ cs) (i ∷ is) (r ∷ rs) e p =
    let same = first-same (site_shown x) (shown_of r) (map site_shown xs) (map shown_of rs) e in
    let row = p.0 in (
      record { place = ap (λ (s : Shown). s.head.name.place) same ∙ row.place },
      sites-have-places xs cs is rs
          (others-same (site_shown x) (shown_of r) (map site_shown xs) (map shown_of rs) e) p.1,
    )

pub sites-operands : (sites : List (OpSite OpName ValueId)) (rs : List Row)
    → map site_shown sites ≡ map shown_of rs → operands_at sites ≡ operands_of rs
sites-operands [] [] e = refl
sites-operands [] (r ∷ rs) e = absurd (cc)
sites-operands (x ∷ xs) [] e = absurd (cc)
sites-operands (x ∷ xs) (r ∷ rs) e =
    let same = first-same (site_shown x) (shown_of r) (map site_shown xs) (map shown_of rs) e in
    ap (λ l. x.head.operands ++ l) (sites-operands xs rs
    (others-same (site_shown x) (shown_of r) (map site_shown xs) (map shown_of rs) e))
    ∙ ap (λ (s : Shown). s.head.operands ++ operands_of rs) same

pub sites-successors : (sites : List (OpSite OpName ValueId)) (rs : List Row)
    → map site_shown sites ≡ map shown_of rs → successors_at sites ≡ successors_of_rows rs
sites-successors [] [] e = refl
sites-successors [] (r ∷ rs) e = absurd (cc)
sites-successors (x ∷ xs) [] e = absurd (cc)
sites-successors (x ∷ xs) (r ∷ rs) e =
    let same = first-same (site_shown x) (shown_of r) (map site_shown xs) (map shown_of rs) e in
    ap (λ l. x.head.successors ++ l) (sites-successors xs rs
    (others-same (site_shown x) (shown_of r) (map site_shown xs) (map shown_of rs) e))
    ∙ ap (λ (s : Shown). s.head.successors ++ successors_of_rows rs) same
