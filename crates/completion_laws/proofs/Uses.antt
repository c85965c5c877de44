-- The types of uses, operation by operation, and in the flat lists of uses and operands.
use Rattle.std.proofs.Common.{◌≡◌, ℕ, List, [], ◌∷◌, length, map, refl, sym, ◌∙◌, ap}
use Rattle.std.proofs.Common.{arith, Some, slice_get, length-append}
use Rattle.std.proofs.lemmas.List.{length-map}
use Rattle.std.proofs.lemmas.Slice.Zip.{length-zip}
use Rattle.std.specs.List.{AllZip, zip}
use Rattle.attr_value.specs.Values.{Value}
use Rattle.dialect_defs.specs.Operations.{Operation}
use Rattle.generic_syntax.specs.declared.cst.ValueCst.{ValueCst}
use Rattle.generic_syntax.specs.declared.module_cst.FormCst.{out-FormCst}
use Rattle.generic_syntax.specs.declared.module_cst.FormCst.TheOpen.{FormCst-F}
use Rattle.generic_syntax.specs.declared.module_cst.GenericCst.{out-GenericCst}
use Rattle.generic_syntax.specs.declared.module_cst.OpCst.{OpCst, out-OpCst}
use Rattle.generic_syntax.specs.declared.module_cst.UseCst.{UseCst}
use Rattle.ir_lexer.specs.Spelling.{Text}
use Rattle.ir_store.specs.Modules.{Regions}
use Rattle.ir_store.specs.Numbering.{OpSite}
use Rattle.completion_laws.proofs.Flat.{At}
use Rattle.completion_laws.proofs.Forms.{FormShows}
use Rattle.completion_laws.proofs.Zips.{zip-joined, zip-cut}
use Rattle.module_faults.specs.ModuleFaults.{uses_shown, shown_uses, operands_at}
use Rattle.module_meaning.specs.Completes.{AreTypes}
use Rattle.module_meaning.specs.Facts.{FormSeen}
use Rattle.module_meaning.specs.WholeModules.{WholeHead, operation_with}
use Rattle.value_meaning.specs.Meaning.{Aliases, value_of}

module _ (aliases : Aliases) where
  -- The form shows an operation with operands of these types, as many as it has operands.
  pub record ShowsTypes (c : OpCst) (head : WholeHead) (regions : Regions Text Value)
      (ts : List Value) : Type 0 where
    pub shows : FormShows aliases (out-FormCst (out-OpCst c).form)
        (operation_with ts head regions)
    pub many : length ts ≡ length head.operands

  -- as many uses with types as operands
  shown-many : (v : FormSeen) (o : Operation) → FormShows aliases v o
      → length (uses_shown v) ≡ length o.operands
  shown-many (FormCst-F.Generic g) o p =
      let us = length-zip (out-GenericCst g).operands (out-GenericCst g).inputs in
      let ts : length (out-GenericCst g).inputs ≡ length o.operands =
      sym (length-map (out-GenericCst g).inputs (value_of aliases))
      ∙ (ap length p.inputs ∙ length-map o.operands Some) in
      let ns = p.uses in
      omega (arith, us, ts, ns)
  shown-many (FormCst-F.Custom k) o p = absurd p

  module _ (types : List Value) where
    -- a use whose type is spelled has it
    abbrev pub IsTyped : UseCst × ValueCst → ℕ → Type 0
    IsTyped shown n =
        (type : Value) → value_of aliases shown.1 ≡ Some type → slice_get types n ≡ Some type

    -- a use spells the type of its value
    abbrev pub SpellsType : UseCst × ValueCst → ℕ → Type 0
    SpellsType shown n = value_of aliases shown.1 ≡ slice_get types n

    -- ---- one operation

    typed-list : (us : List UseCst) (ins : List ValueCst) (ts : List Value) (ns : List ℕ)
        → length us ≡ length ts → length ns ≡ length ts
        → map (value_of aliases) ins ≡ map Some ts → AllZip IsTyped (zip us ins) ns
        → AreTypes types ts ns
    typed-list us ins [] [] a b e h = refl
    typed-list us ins [] (n ∷ ns) a b e h = absurd (omega arith)
    typed-list us ins (t ∷ ts) [] a b e h = absurd (omega arith)
    typed-list [] ins (t ∷ ts) (n ∷ ns) a b e h = absurd (omega arith)
    typed-list (u ∷ us) [] (t ∷ ts) (n ∷ ns) a b e h = absurd (cc)
    typed-list (u ∷ us) (c ∷ ins) (t ∷ ts) (n ∷ ns) a b e (h, hs) =
        let first : value_of aliases c ≡ Some t = cc in
        let tails : map (value_of aliases) ins ≡ map Some ts = cc in
        let here : slice_get types n ≡ Some t = h t first in
        let rest : AreTypes types ts ns =
        typed-list us ins ts ns (omega arith) (omega arith) tails hs in
        cc

    list-spells : (us : List UseCst) (ins : List ValueCst) (ts : List Value) (ns : List ℕ)
        → length us ≡ length ts → length ns ≡ length ts
        → map (value_of aliases) ins ≡ map Some ts → AreTypes types ts ns
        → AllZip SpellsType (zip us ins) ns
    list-spells [] ins [] [] a b e h = tt
    list-spells (u ∷ us) ins [] [] a b e h = absurd (omega arith)
    list-spells us ins [] (n ∷ ns) a b e h = absurd (omega arith)
    list-spells us ins (t ∷ ts) [] a b e h = absurd (omega arith)
    list-spells [] ins (t ∷ ts) (n ∷ ns) a b e h = absurd (omega arith)
    list-spells (u ∷ us) [] (t ∷ ts) (n ∷ ns) a b e h = absurd (cc)
    list-spells (u ∷ us) (c ∷ ins) (t ∷ ts) (n ∷ ns) a b e h =
        let first : value_of aliases c ≡ Some t = cc in
        let there : slice_get types n ≡ Some t = cc in
        let tails : map (value_of aliases) ins ≡ map Some ts = cc in
        let later : map (slice_get types) ns ≡ map Some ts = cc in
        (first ∙ sym there, list-spells us ins ts ns (omega arith) (omega arith) tails later)

    op-typed : (v : FormSeen) (head : WholeHead) (rs : Regions Text Value) (ts : List Value)
        → FormShows aliases v (operation_with ts head rs) → length ts ≡ length head.operands
        → AllZip IsTyped (uses_shown v) head.operands → AreTypes types ts head.operands
    op-typed (FormCst-F.Generic g) head rs ts p many h =
        typed-list (out-GenericCst g).operands (out-GenericCst g).inputs ts head.operands p.uses
        (sym many) p.inputs h
    op-typed (FormCst-F.Custom k) head rs ts p many h = absurd p

    op-spells : (v : FormSeen) (head : WholeHead) (rs : Regions Text Value) (ts : List Value)
        → FormShows aliases v (operation_with ts head rs) → length ts ≡ length head.operands
        → AreTypes types ts head.operands → AllZip SpellsType (uses_shown v) head.operands
    op-spells (FormCst-F.Generic g) head rs ts p many h =
        list-spells (out-GenericCst g).operands (out-GenericCst g).inputs ts head.operands p.uses
        (sym many) p.inputs h
    op-spells (FormCst-F.Custom k) head rs ts p many h = absurd p

    -- ---- all operations

    -- what is known of each operation beside its tree, with the types of its operands
    module _ (P : OpCst → WholeHead → Regions Text Value → Type 0)
        (ts : (c : OpCst) (head : WholeHead) (regions : Regions Text Value) → P c head regions
        → List Value)
        (shown : (c : OpCst) (head : WholeHead) (regions : Regions Text Value)
        (p : P c head regions) → ShowsTypes c head regions (ts c head regions p)) where
      -- with operands that have the types
      abbrev pub WithTypes : OpCst → WholeHead → Regions Text Value → Type 0
      WithTypes c head regions =
          (p : P c head regions) × AreTypes types (ts c head regions p) head.operands

      op-many : (c : OpCst) (site : OpSite Text Value) → At P c site
          → length (uses_shown (out-FormCst (out-OpCst c).form)) ≡ length site.head.operands
      op-many c site p =
          let it = shown c site.head site.regions p in
          shown-many (out-FormCst (out-OpCst c).form)
          (operation_with (ts c site.head site.regions p) site.head site.regions) it.shows
          ∙ it.many

      -- as many uses as operands in both flat lists
      pub flat-many : (cs : List OpCst) (sites : List (OpSite Text Value)) → AllZip (At P) cs sites
          → length (shown_uses cs) ≡ length (operands_at sites)
      flat-many [] [] h = refl
      flat-many [] (site ∷ sites) h = absurd h
      flat-many (c ∷ cs) [] h = absurd h
      flat-many (c ∷ cs) (site ∷ sites) (p, h) =
          let first = op-many c site p in
          let rest = flat-many cs sites h in
          let left = length-append (uses_shown (out-FormCst (out-OpCst c).form)) (shown_uses cs) in
          let right = length-append site.head.operands (operands_at sites) in
          omega (arith, first, rest, left, right)

      -- where all uses have their types, each operation has operands of its types
      pub flat-typed : (cs : List OpCst) (sites : List (OpSite Text Value))
          → AllZip (At P) cs sites → AllZip IsTyped (shown_uses cs) (operands_at sites)
          → AllZip (At WithTypes) cs sites
      flat-typed [] [] h u = tt
      flat-typed [] (site ∷ sites) h u = absurd h
      flat-typed (c ∷ cs) [] h u = absurd h
      flat-typed (c ∷ cs) (site ∷ sites) (p, h) u =
          let it = shown c site.head site.regions p in
          let cut = zip-cut IsTyped (uses_shown (out-FormCst (out-OpCst c).form)) (shown_uses cs)
          site.head.operands (operands_at sites) (op-many c site p) u in (
            (
              p,
              op-typed (out-FormCst (out-OpCst c).form) site.head site.regions
                  (ts c site.head site.regions p) it.shows it.many cut.0,
            ),
            flat-typed cs sites h cut.1,
          )

      -- and the other way round
      pub flat-spells : (cs : List OpCst) (sites : List (OpSite Text Value))
          → AllZip (At WithTypes) cs sites → AllZip SpellsType (shown_uses cs) (operands_at sites)
      flat-spells [] [] h = tt
      flat-spells [] (site ∷ sites) h = absurd h
      flat-spells (c ∷ cs) [] h = absurd h
      flat-spells (c ∷ cs) (site ∷ sites) ((p, typed), h) =
          let it = shown c site.head site.regions p in
          zip-joined SpellsType (uses_shown (out-FormCst (out-OpCst c).form)) (shown_uses cs)
          site.head.operands (operands_at sites)
          (op-spells (out-FormCst (out-OpCst c).form) site.head site.regions
          (ts c site.head site.regions p) it.shows it.many typed)
          (flat-spells cs sites h)
