-- Where a module completes trees without custom forms, no size of a pack in them is wrong, and the
-- aliases that they mention have values.
--
-- Each name of a result stands for one value or more, and each value in the trees of an operation
-- that completes its tree is spelled.
use Rattle.std.proofs.Common.{◌≡◌, ℕ, zero, suc, ◌+◌, ◌<◌, true, false, List, [], ◌∷◌, ◌++◌}
use Rattle.std.proofs.Common.{length, map, refl, sym, ◌∙◌, ap, subst, arith, Option, Some, None}
use Rattle.std.proofs.Common.{is_some, slice_get, option_map, bytes_eq, IsSomeAnd}
use Rattle.std.proofs.lemmas.Slice.Eq.{bytes_eq-Decides}
use Rattle.std.specs.List.{AllByRecursion, IsDistinct}
use Rattle.attr_value.specs.Values.{Value}
use Rattle.dialect_defs.specs.Operations.{Attrs, attr_at}
use Rattle.generic_syntax.specs.declared.cst.EntryCst.{EntryCst, out-EntryCst}
use Rattle.generic_syntax.specs.declared.cst.NameCst.{NameCst}
use Rattle.generic_syntax.specs.declared.cst.ValueCst.{ValueCst}
use Rattle.generic_syntax.specs.declared.module_cst.ArgCst.{ArgCst}
use Rattle.generic_syntax.specs.declared.module_cst.BlockCst.{BlockCst, out-BlockCst}
use Rattle.generic_syntax.specs.declared.module_cst.GenericCst.{GenericCst, out-GenericCst}
use Rattle.generic_syntax.specs.declared.module_cst.NumberCst.{NumberCst}
use Rattle.generic_syntax.specs.declared.module_cst.OpCst.{OpCst, out-OpCst}
use Rattle.generic_syntax.specs.declared.module_cst.RegionCst.{RegionCst, out-RegionCst}
use Rattle.generic_syntax.specs.declared.module_cst.ResultCst.{ResultCst}
use Rattle.generic_syntax.specs.declared.module_cst.UseCst.{UseCst}
use Rattle.ir_lexer.specs.Spelling.{Text}
use Rattle.ir_store.specs.Modules.{Regions, Blocks, no_ops, then_op, no_regions, region}
use Rattle.ir_store.specs.Modules.{no_blocks, block, types_in, types_in_regions, types_in_blocks}
use Rattle.module_meaning.proofs.GenericFacts.{all-apart, map-places}
use Rattle.module_meaning.proofs.MentionsKnown.{AreTold, told-two, value-told, entry-told}
use Rattle.module_meaning.proofs.NamesRight.{generic}
use Rattle.module_meaning.proofs.NotesJoined.{result_defined}
use Rattle.module_meaning.proofs.Places.{some-same}
use Rattle.module_meaning.specs.Completes.{IsPack, OpsSay, RegionSays, BlocksSay, block_scope}
use Rattle.module_meaning.specs.Completes.{AsMany}
use Rattle.module_meaning.specs.Facts.{no_forms}
use Rattle.module_meaning.specs.Names.{Env, inside, behind, label_scope, pack_size, result_names}
use Rattle.module_meaning.specs.Names.{argument_names, op_names}
use Rattle.module_meaning.specs.Says.{ShowsGeneric, seen_in, keys_in, argument_types}
use Rattle.module_meaning.specs.WholeModules.{WholeHead, WholeModule, Loaded, operation_with}
use Rattle.module_names.proofs.Opened.{op-opened, form_mentions}
use Rattle.module_names.proofs.Opening.{region-opens, block-opens}
use Rattle.module_names.specs.Mentions.{value_mentions, entry_mentions}
use Rattle.module_names.specs.ModuleNotes.{use_noted, successor_noted, result_noted, op_notes}
use Rattle.module_names.specs.ModuleNotes.{argument_noted, label_noted, size_noted, wrong_size}
use Rattle.module_names.specs.ModuleNotes.{region_notes, block_notes, ops_notes, in_order}
use Rattle.module_names.specs.Numbers as number
use Rattle.module_names.specs.Said.{noted}
use Rattle.value_meaning.specs.Meaning.{Aliases, value_of, entry_seen}

-- ---- entries that are spelled

module _ (al : Aliases) where
  abbrev key_of : EntryCst → Text
  key_of e = (out-EntryCst e).key

  abbrev value_in : EntryCst → Option Value
  value_in e = (entry_seen al e).seen.value

  abbrev IsFound : List (Text × Option Value) → EntryCst → Type 0
  IsFound all e = attr_at all (key_of e) ≡ Some (value_in e)

  found-behind : (k : Text) (v : Option Value) (all : List (Text × Option Value))
      (es : List EntryCst) → AllByRecursion (λ y. bytes_eq k y ≡ false) (keys_in es)
      → AllByRecursion (IsFound all) es → AllByRecursion (IsFound ((k, v) ∷ all)) es
  found-behind k v all [] d h = tt
  found-behind k v all (e ∷ es) (other, d) (p, h) = (rw other p, found-behind k v all es d h)

  -- where keys differ, each entry is the one of its key
  each-found : (es : List EntryCst) → IsDistinct bytes_eq (keys_in es)
      → AllByRecursion (IsFound (seen_in al es)) es
  unfolding IsDistinct
  each-found [] d = tt
  each-found (e ∷ es) (here, d) = (
    rw ((bytes_eq-Decides (key_of e) (key_of e)).1 refl) refl,
    found-behind (key_of e) (value_in e) (seen_in al es) es here (each-found es d),
  )

  -- entries that show the attributes have values
  each-spelled : (all : List (Text × Option Value)) (attrs : Attrs)
      → ((key : Text) → attr_at all key ≡ option_map Some (attr_at attrs key))
      → (es : List EntryCst) → AllByRecursion (IsFound all) es
      → AllByRecursion (λ e. is_some (value_in e) ≡ true) es
  each-spelled all attrs shown [] h = tt
  each-spelled all attrs shown (e ∷ es) (p, h) = (
    at (attr_at attrs (key_of e)) (sym p ∙ shown (key_of e)),
    each-spelled all attrs shown es h,
  )
    where
      at : (o : Option Value) → Some (value_in e) ≡ option_map Some o → is_some (value_in e) ≡ true
      at None is = absurd (cc)
      at (Some v) is = ap is_some (some-same (value_in e) (Some v) is)

  entries-told : (es : List EntryCst) → AllByRecursion (λ e. is_some (value_in e) ≡ true) es
      → AreTold al (noted entry_mentions es)
  entries-told [] h = tt
  entries-told (e ∷ es) (p, h) = told-two al (entry_mentions e) (noted entry_mentions es)
      (entry-told al e p) (entries-told es h)

  -- ---- types that are spelled

  types-told : (trees : List ValueCst) (types : List Value)
      → map (value_of al) trees ≡ map Some types → AreTold al (noted value_mentions trees)
  types-told [] types e = tt
  types-told (c ∷ trees) [] e = absurd (cc)
  types-told (c ∷ trees) (t ∷ types) e =
      let first : value_of al c ≡ Some t = cc in
      let rest : map (value_of al) trees ≡ map Some types = cc in
      told-two al (value_mentions c) (noted value_mentions trees)
      (value-told al c (ap is_some first)) (types-told trees types rest)

  arguments-told : (xs : List ArgCst) (types : List Value)
      → map (λ (x : ArgCst). value_of al x.ty) xs ≡ map Some types
      → AreTold al (noted argument_noted xs)
  arguments-told [] types e = tt
  arguments-told (x ∷ xs) [] e = absurd (cc)
  arguments-told (x ∷ xs) (t ∷ types) e =
      let first : value_of al x.ty ≡ Some t = cc in
      let rest : map (λ (x : ArgCst). value_of al x.ty) xs ≡ map Some types = cc in (
        tt,
        told-two al (value_mentions x.ty) (noted argument_noted xs)
            (value-told al x.ty (ap is_some first)) (arguments-told xs types rest),
      )

  -- ---- other parts of trees

  size-told : (p : Option NumberCst) → 0 < pack_size p → AreTold al (size_noted p)
  size-told None some = tt
  size-told (Some n) some = go (number.pack_size n.digits) some
    where
      go : (o : Option ℕ) → 0 < number.size_or_0 o → AreTold al (wrong_size n.place o)
      go None some = absurd (omega (arith, some))
      go (Some k) some = tt

  results-told : (rs : List ResultCst) → AllByRecursion IsPack rs
      → AreTold al (noted result_noted rs)
  results-told [] h = tt
  results-told (r ∷ rs) (p, h) = told-two al (result_noted r) (noted result_noted rs)
      (told-two al (size_noted r.pack) (result_defined r) (size-told r.pack p) (tt, tt))
      (results-told rs h)

  uses-told : (us : List UseCst) → AreTold al (noted use_noted us)
  uses-told [] = tt
  uses-told (u ∷ us) = (tt, uses-told us)

  successors-told : (ss : List NameCst) → AreTold al (noted successor_noted ss)
  successors-told [] = tt
  successors-told (s ∷ ss) = (tt, successors-told ss)

  label-told : (k : ℕ) (l : Option NameCst) → AreTold al (label_noted l k)
  label-told k None = tt
  label-told k (Some l) = (tt, tt)

  regions-told : (trees : List RegionCst)
      → ((i : ℕ) (r : RegionCst) → slice_get trees i ≡ Some r → AreTold al (region_notes r))
      → AreTold al (noted region_notes trees)
  regions-told [] each = tt
  regions-told (r ∷ trees) each = told-two al (region_notes r) (noted region_notes trees)
      (each 0 r refl) (regions-told trees (λ i x is. each (suc i) x is))

  -- the types of a region's arguments
  record IsSpelled (cs : List BlockCst) : Type 0 where
    pub types : List (List Value)
    pub is : map (λ b. map (λ (x : ArgCst). value_of al x.ty) (out-BlockCst b).args) cs
        ≡ map (map Some) types

  region-spelled : (trees : List RegionCst) (regions : List (List (List Value)))
      → map (argument_types al) trees ≡ map (map (map Some)) regions
      → (i : ℕ) (r : RegionCst) → slice_get trees i ≡ Some r
      → IsSpelled (out-RegionCst r).blocks
  region-spelled trees regions e i r is =
      by (slice_get regions i)
      (map-places (argument_types al) (map (map Some)) trees regions e i r is)
    where
      by : (o : Option (List (List Value)))
          → IsSomeAnd o (λ blocks. argument_types al r ≡ map (map Some) blocks)
          → IsSpelled (out-RegionCst r).blocks
      by None h = absurd h
      by (Some types) h = record { types = types; is = h }

  -- the mentions of a generic form that shows an operation
  module _ (g : GenericCst) (types : List Value) (head : WholeHead) (rs : Regions Text Value)
      (shown : ShowsGeneric al g (operation_with types head rs)) where
    form-told : AreTold al (form_mentions g)
    form-told =
        let props = (out-GenericCst g).props in
        let attrs = (out-GenericCst g).attrs in
        let each = each-spelled (seen_in al (props ++ attrs)) (operation_with types head rs).attrs
        shown.attrs (props ++ attrs) (each-found (props ++ attrs) shown.distinct) in
        let two = all-apart (λ e. is_some (value_in e) ≡ true) props attrs each in
        told-two al (noted entry_mentions props) _ (entries-told props two.0)
        (told-two al (noted entry_mentions attrs) _ (entries-told attrs two.1)
        (told-two al (noted value_mentions (out-GenericCst g).inputs) _
        (types-told (out-GenericCst g).inputs types shown.inputs)
        (types-told (out-GenericCst g).outputs head.results shown.outputs)))

module _ (loaded : Loaded) (al : Aliases) where
  abbrev Say : Env → ℕ → List OpCst → WholeModule → Type 0
  Say env n cs os = OpsSay loaded no_forms al AsMany env n cs os

  mutual
    pub ops-told : (env : Env) (n : ℕ) (cs : List OpCst) (os : WholeModule) → Say env n cs os
        → AreTold al (ops_notes cs)
    ops-told env n [] no_ops p = tt
    ops-told env n [] (then_op head rs os) p = absurd p
    ops-told env n (c ∷ cs) no_ops p = absurd p
    ops-told env n (c ∷ cs) (then_op head rs os) (new, (ts, typed, p), more) =
        let inner = behind env (result_names (out-OpCst c).results) in
        let g = generic loaded al env c ts head rs _ p in
        let results = noted result_noted (out-OpCst c).results in
        let us = noted use_noted (out-GenericCst g.form).operands in
        let ls = noted successor_noted (out-GenericCst g.form).successors in
        told-two al (op_notes c) (ops_notes cs)
        (subst (AreTold al) (sym (op-opened c g.form g.is))
        (told-two al results _ (results-told al (out-OpCst c).results p.packs)
        (told-two al us _ (uses-told al (out-GenericCst g.form).operands)
        (told-two al ls _ (successors-told al (out-GenericCst g.form).successors)
        (told-two al (form_mentions g.form) _
        (form-told al g.form g.types head g.regions g.shown)
        (regions-told al (out-GenericCst g.form).regions
        (λ k r is. region-told inner (n + length head.results) k r rs (g.names.regions k r is)
        (region-spelled al (out-GenericCst g.form).regions _ g.shown.regions k r is))))))))
        (ops-told inner (n + length head.results + length (types_in_regions rs)) cs os more)

    region-told : (env : Env) (n i : ℕ) (r : RegionCst) (rs : Regions Text Value)
        → RegionSays loaded no_forms al AsMany env n i r rs
        → IsSpelled al (out-RegionCst r).blocks → AreTold al (region_notes r)
    region-told env n i r no_regions p spelled = absurd p
    region-told env n zero r (region bs rs) (distinct, p) spelled =
        let env2 = inside env (block_scope n (out-RegionCst r).blocks bs)
        (label_scope 0 (out-RegionCst r).blocks) in
        subst (AreTold al) (sym (region-opens r))
        (blocks-told env2 n (out-RegionCst r).blocks bs p 0 spelled, tt)
    region-told env n (suc i) r (region bs rs) p spelled =
        region-told env (n + length (types_in_blocks bs)) i r rs p spelled

    blocks-told : (env : Env) (n : ℕ) (cs : List BlockCst) (bs : Blocks Text Value)
        → BlocksSay loaded no_forms al AsMany env n cs bs → (k : ℕ) → IsSpelled al cs
        → AreTold al (in_order k (map block_notes cs))
    blocks-told env n [] no_blocks p k spelled = tt
    blocks-told env n [] (block args os bs) p k spelled = absurd p
    blocks-told env n (c ∷ cs) no_blocks p k spelled = absurd p
    blocks-told env n (c ∷ cs) (block args os bs) (new, p, more) k spelled =
        let inner = behind env (argument_names (out-BlockCst c).args) in
        let outer = behind (behind env (argument_names (out-BlockCst c).args))
        (op_names (out-BlockCst c).ops) in
        let two = first-block spelled.types spelled.is in
        told-two al (block_notes c k) (in_order (suc k) (map block_notes cs))
        (subst (AreTold al) (sym (block-opens c k))
        (told-two al (label_noted (out-BlockCst c).label k) _
        (label-told al k (out-BlockCst c).label)
        (told-two al (noted argument_noted (out-BlockCst c).args) (ops_notes (out-BlockCst c).ops)
        two.0 (ops-told inner (n + length args) (out-BlockCst c).ops os p))))
        (blocks-told outer (n + length args + length (types_in os)) cs bs more (suc k) two.1)
      where
        first-block : (types : List (List Value))
            → map (λ b. map (λ (x : ArgCst). value_of al x.ty) (out-BlockCst b).args) (c ∷ cs)
            ≡ map (map Some) types
            → AreTold al (noted argument_noted (out-BlockCst c).args) × IsSpelled al cs
        first-block [] e = absurd (cc)
        first-block (t ∷ types) e =
            let first : map (λ (x : ArgCst). value_of al x.ty) (out-BlockCst c).args
            ≡ map Some t = cc in
            let rest : map (λ b. map (λ (x : ArgCst). value_of al x.ty) (out-BlockCst b).args) cs
            ≡ map (map Some) types = cc in
            (arguments-told al (out-BlockCst c).args t first, record { types = types; is = rest })
