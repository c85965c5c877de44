-- The types of uses by ids are those by values: in a table of distinct values, and where the ids of
-- operands are those of the values that the inputs of the trees spell.
--
--   SpellsOperands al now c ids     the inputs of the generic form spell the values of the ids of
--                                   operands, and there are as many uses
--   ids-spell             so it is for the ids of an operation that completes its tree
--   shown-as-many         there are as many types shown as uses
--   ids-shown             so it is for all operations, one by one
--   shown-known           and the ids of all types that are shown are known
--   uses-beside           what has the shape of trees has as many operands as they show uses
--   wrong-is-fault, fault-is-wrong     the faults of uses by ids are those by values
--   wrong-first           and so is the first
--   shown-enough, uses-first     the same of a list of what stands in the tree
use Rattle.std.proofs.Common.{◌≡◌, ◌≢◌, ℕ, zero, suc, ◌<◌, ◌≤◌, List, [], ◌∷◌, ◌++◌, length, map, zip}
use Rattle.std.proofs.Common.{refl, sym, ◌∙◌, ap, subst, arith, length-append, slice_get}
use Rattle.std.proofs.Common.{option_map, Some}
use Rattle.std.proofs.lemmas.List.{length-map, map-append}
use Rattle.std.proofs.lemmas.Slice.Zip.{firsts-zip, seconds-zip}
use Rattle.std.specs.List.{AllZip, flat_map}
use Rattle.std.specs.declared.option.Option.{Option}
use Rattle.std.specs.declared.option.Option.TheVariants.{None}
use Rattle.attr_value.specs.declared.head.ValueId.{ValueId}
use Rattle.attr_value.specs.Ids.{at, AreDistinct, AreKnown}
use Rattle.attr_value.specs.Values.{Value}
use Rattle.completion_laws.proofs.Besides.{shape-beside}
use Rattle.completion_laws.proofs.Flat.{At, ops-flat}
use Rattle.completion_laws.proofs.Forms.{FormShows, form-shows}
use Rattle.completion_laws.proofs.Zips.{zip-wider}
use Rattle.dialect_defs.specs.declared.definition.OpDef.{OpDef}
use Rattle.dialect_defs.specs.Operations.{Operation}
use Rattle.elaborate.proofs.AtPlaces.{known-at, made, made-of, same-id, something-shown}
use Rattle.elaborate.proofs.Seen.{operands-mapped}
use Rattle.elaborate.specs.Uses.{HasItsUses, HasOperands, IsWrongUse}
use Rattle.first_fault.specs.declared.fault.Fault.{Fault}
use Rattle.first_fault.specs.Firsts.{IsFirst}
use Rattle.first_fault.proofs.Firsts.{first-same}
use Rattle.generic_syntax.specs.declared.cst.ValueCst.{ValueCst}
use Rattle.generic_syntax.specs.declared.module_cst.FormCst.{out-FormCst}
use Rattle.generic_syntax.specs.declared.module_cst.FormCst.TheOpen.{FormCst-F}
use Rattle.generic_syntax.specs.declared.module_cst.GenericCst.{out-GenericCst}
use Rattle.generic_syntax.specs.declared.module_cst.ModuleCst.{ModuleCst}
use Rattle.generic_syntax.specs.declared.module_cst.OpCst.{OpCst, out-OpCst}
use Rattle.generic_syntax.specs.declared.module_cst.UseCst.{UseCst}
use Rattle.ir_lexer.specs.Spelling.{Text}
use Rattle.ir_store.specs.Modules.{Regions, types_in}
use Rattle.ir_store.specs.Numbering.{OpSite, first_numbers, ops_in}
use Rattle.ir_store.specs.Store.{OpName, Module}
use Rattle.ir_store.proofs.Sites.{mapped_site, sites-mapped, types-mapped}
use Rattle.module_builder.specs.Fit.{uses_in, uses_of}
use Rattle.module_faults.specs.declared.ids.OpIds.{OpIds}
use Rattle.module_faults.specs.ModuleFaults.{IsUseFault, operands_at, operands_in, shown_uses}
use Rattle.module_faults.specs.ModuleFaults.{uses_shown}
use Rattle.module_faults.specs.Shape.{FormFits, HasShape}
use Rattle.module_faults.specs.Standings.{Standing, standings, ops_of}
use Rattle.module_meaning.proofs.Places.{some-same}
use Rattle.module_meaning.specs.Completes.{aliases_of}
use Rattle.module_meaning.specs.Facts.{FormSeen}
use Rattle.module_meaning.specs.SeenModules.{name_in, seen_module}
use Rattle.module_meaning.specs.WholeModules.{Loaded, WholeHead, WholeModule}
use Rattle.op_judgement.specs.Judged.{AreIdsOf, operation_of}
use Rattle.op_verifier.specs.Seen.{values_at}
use Rattle.value_meaning.specs.Meaning.{Aliases, value_of}

-- the types of the operands of operations, one operation after the other
abbrev pub shown_ids : List OpIds → List ValueId
shown_ids ids = flat_map (λ (x : OpIds). x.operands.items) ids

-- ids of two lists are known
known-joined : (n : ℕ) (xs ys : List ValueId) → AreKnown n xs → AreKnown n ys
    → AreKnown n (xs ++ ys)
known-joined n [] ys k h = h
known-joined n (x ∷ xs) ys (k, ks) h = (k, known-joined n xs ys ks h)

-- ---- one operation

module _ (al : Aliases) (now : List Value) where
  -- the inputs of a form spell the values of these ids, one for each use
  abbrev pub FormSpells : FormSeen → List ValueId → Type 0
  FormSpells (FormCst-F.Generic g) ids =
      (length (out-GenericCst g).operands ≡ length ids)
      × (map (value_of al) (out-GenericCst g).inputs ≡ map Some (values_at now ids))
  FormSpells (FormCst-F.Custom k) ids = ⊥

  -- so do those of an operation's tree
  pub record SpellsOperands (c : OpCst) (ids : OpIds) : Type 0 where
    pub spells : FormSpells (out-FormCst (out-OpCst c).form) ids.operands.items

  -- a form that shows an operation with these operands spells them
  pub form-spells : (v : FormSeen) (o : Operation) (ids : List ValueId)
      → o.operands ≡ values_at now ids → FormShows al v o → FormSpells v ids
  form-spells (FormCst-F.Generic g) o ids is p = (
    p.uses ∙ ap length is ∙ length-map ids (λ (id : ValueId). at now id.0),
    p.inputs ∙ ap (map Some) is,
  )
  form-spells (FormCst-F.Custom k) o ids is p = absurd p

  -- as many inputs as uses
  inputs-many : (uses : List UseCst) (inputs : List ValueCst) (ids : List ValueId)
      → length uses ≡ length ids → map (value_of al) inputs ≡ map Some (values_at now ids)
      → length inputs ≡ length uses
  inputs-many uses inputs ids n e =
      sym (length-map inputs (value_of al)) ∙ ap length e
      ∙ length-map (values_at now ids) Some ∙ length-map ids (λ (id : ValueId). at now id.0)
      ∙ sym n

  -- the type that the tree beside a use spells
  abbrev pub type_of_shown : UseCst × ValueCst → Option Value
  type_of_shown p = value_of al p.1

  -- the uses of a form, of the list of both
  shown-first : (v : FormSeen) (ids : List ValueId) → FormSpells v ids
      → map (λ (p : UseCst × ValueCst). p.0) (uses_shown v) ≡ uses_in v
  shown-first (FormCst-F.Generic g) ids p =
      firsts-zip (out-GenericCst g).operands (out-GenericCst g).inputs
      (inputs-many (out-GenericCst g).operands (out-GenericCst g).inputs ids p.0 p.1)
  shown-first (FormCst-F.Custom k) ids p = refl

  map-second : (ps : List (UseCst × ValueCst))
      → map type_of_shown ps ≡ map (value_of al) (map (λ (p : UseCst × ValueCst). p.1) ps)
  map-second [] = refl
  map-second (p ∷ ps) = ap (λ l. value_of al p.1 ∷ l) (map-second ps)

  -- and what the inputs spell
  shown-second : (v : FormSeen) (ids : List ValueId) → FormSpells v ids
      → map type_of_shown (uses_shown v) ≡ map Some (values_at now ids)
  shown-second (FormCst-F.Generic g) ids p =
      map-second (zip (out-GenericCst g).operands (out-GenericCst g).inputs)
      ∙ ap (map (value_of al)) (seconds-zip (out-GenericCst g).operands (out-GenericCst g).inputs
      (inputs-many (out-GenericCst g).operands (out-GenericCst g).inputs ids p.0 p.1)) ∙ p.1
  shown-second (FormCst-F.Custom k) ids p = absurd p

  -- as many ids as uses
  form-many : (v : FormSeen) (ids : List ValueId) → FormSpells v ids
      → length (uses_in v) ≡ length ids
  form-many (FormCst-F.Generic g) ids p = p.0
  form-many (FormCst-F.Custom k) ids p = absurd p

  -- ---- all operations

  -- as many types are shown as uses
  pub shown-as-many : (cs : List OpCst) (ids : List OpIds) → AllZip SpellsOperands cs ids
      → length (uses_of cs) ≡ length (shown_ids ids)
  shown-as-many [] [] h = refl
  shown-as-many [] (x ∷ ids) h = absurd h
  shown-as-many (c ∷ cs) [] h = absurd h
  shown-as-many (c ∷ cs) (x ∷ ids) (h, hs) =
      let here = form-many (out-FormCst (out-OpCst c).form) x.operands.items h.spells in
      let rest = shown-as-many cs ids hs in
      let left = length-append (uses_in (out-FormCst (out-OpCst c).form)) (uses_of cs) in
      let right = length-append x.operands.items (shown_ids ids) in
      omega (arith, here, rest, left, right)

  -- the uses of the flat list
  pub uses-shown : (cs : List OpCst) (ids : List OpIds) → AllZip SpellsOperands cs ids
      → map (λ (p : UseCst × ValueCst). p.0) (shown_uses cs) ≡ uses_of cs
  uses-shown [] [] h = refl
  uses-shown [] (x ∷ ids) h = absurd h
  uses-shown (c ∷ cs) [] h = absurd h
  uses-shown (c ∷ cs) (x ∷ ids) (h, hs) =
      let v = out-FormCst (out-OpCst c).form in
      map-append (λ (p : UseCst × ValueCst). p.0) (uses_shown v) (shown_uses cs)
      ∙ ap (λ l. l ++ map (λ (p : UseCst × ValueCst). p.0) (shown_uses cs))
      (shown-first v x.operands.items h.spells)
      ∙ ap (λ l. uses_in v ++ l) (uses-shown cs ids hs)

  -- and what their types spell
  pub types-shown : (cs : List OpCst) (ids : List OpIds) → AllZip SpellsOperands cs ids
      → map type_of_shown (shown_uses cs) ≡ map Some (values_at now (shown_ids ids))
  types-shown [] [] h = refl
  types-shown [] (x ∷ ids) h = absurd h
  types-shown (c ∷ cs) [] h = absurd h
  types-shown (c ∷ cs) (x ∷ ids) (h, hs) =
      let v = out-FormCst (out-OpCst c).form in
      let front = map Some (values_at now x.operands.items) in
      map-append type_of_shown (uses_shown v) (shown_uses cs)
      ∙ ap (λ l. l ++ map type_of_shown (shown_uses cs))
      (shown-second v x.operands.items h.spells)
      ∙ ap (λ l. front ++ l) (types-shown cs ids hs)
      ∙ sym (ap (map Some) (map-append (λ (id : ValueId). at now id.0) x.operands.items
      (shown_ids ids))
      ∙ map-append Some (values_at now x.operands.items) (values_at now (shown_ids ids)))

-- ---- what completes trees

module _ (loaded : Loaded) (al : Aliases) (now : List Value) where
  -- the ids of an operation that completes its tree
  pub ids-spell : (c : OpCst) (ids : OpIds) → AreIdsOf loaded al c now ids
      → SpellsOperands al now c ids
  ids-spell c ids are = record {
    spells = form-spells al now (out-FormCst (out-OpCst c).form) (operation_of now c ids)
        ids.operands.items refl
        (form-shows al are.completes.def (operation_of now c ids) are.completes.operand_sizes
        are.completes.result_sizes (out-FormCst (out-OpCst c).form) are.completes.shows);
  }

  -- those of all operations
  pub ids-shown : (cs : List OpCst) (ids : List OpIds)
      → AllZip (λ c x. AreIdsOf loaded al c now x) cs ids → AllZip (SpellsOperands al now) cs ids
  ids-shown cs ids h =
      zip-wider (λ c x. AreIdsOf loaded al c now x) (SpellsOperands al now) ids-spell cs ids h

  -- are known
  pub shown-known : (cs : List OpCst) (ids : List OpIds)
      → AllZip (λ c x. AreIdsOf loaded al c now x) cs ids
      → AreKnown (length now) (shown_ids ids)
  shown-known [] [] h = tt
  shown-known [] (x ∷ ids) h = absurd h
  shown-known (c ∷ cs) [] h = absurd h
  shown-known (c ∷ cs) (x ∷ ids) (h, hs) =
      known-joined (length now) x.operands.items (shown_ids ids) h.known.operands
      (shown-known cs ids hs)

-- ---- the shape of trees

-- a form fits an operation
abbrev FormFitsOp : OpCst → WholeHead → Regions Text Value → Type 0
FormFitsOp c head rs = FormFits (out-FormCst (out-OpCst c).form) head

form-uses : (v : FormSeen) (f : OpName → Text) (g : ValueId → Value)
    (x : OpSite OpName ValueId) → FormFits v (mapped_site f g x).head → HasOperands v x
form-uses (FormCst-F.Generic k) f g x fits = record { many = fits.0 }
form-uses (FormCst-F.Custom k) f g x fits = absurd fits

-- operations with whole names and values have the operands of those in the store
mapped-uses : (f : OpName → Text) (g : ValueId → Value) (cs : List OpCst)
    (sites : List (OpSite OpName ValueId)) → AllZip (At FormFitsOp) cs (map (mapped_site f g) sites)
    → AllZip HasItsUses cs sites
mapped-uses f g [] [] h = tt
mapped-uses f g [] (x ∷ sites) h = absurd h
mapped-uses f g (c ∷ cs) [] h = absurd h
mapped-uses f g (c ∷ cs) (x ∷ sites) (h, hs) =
    (form-uses (out-FormCst (out-OpCst c).form) f g x h, mapped-uses f g cs sites hs)

-- a store has as many operands as the trees show uses, where its module has their shape
pub uses-beside : (tree : ModuleCst) (defs : List OpDef) (now : List Value) (store : Module)
    → HasShape tree.ops (seen_module defs now store)
    → AllZip HasItsUses (ops_of (standings tree)) (ops_in store)
uses-beside tree defs now store shape =
    let g : ValueId → Value = λ id. at now id.0 in
    mapped-uses (name_in defs) g (ops_of (standings tree)) (ops_in store)
    (subst (λ sites. AllZip (At FormFitsOp) (ops_of (standings tree)) sites)
    (sites-mapped (name_in defs) g store)
    (ops-flat FormFitsOp 0 first_numbers tree.ops (seen_module defs now store)
    (shape-beside tree.ops (seen_module defs now store) shape)))

-- ---- a stored module with whole values

-- operands have the same numbers
operands-seen : (defs : List OpDef) (now : List Value) (store : Module)
    → operands_in (seen_module defs now store) ≡ operands_at (ops_in store)
operands-seen defs now store =
    operands-mapped (name_in defs) (λ (id : ValueId). at now id.0) store

-- ---- faults

module _ (tree : ModuleCst) (defs : List OpDef) (now : List Value) (store : Module)
    (ids : List OpIds) (spell : AllZip (SpellsOperands (aliases_of tree) now)
    (ops_of (standings tree)) ids) where
  abbrev cs : List OpCst
  cs = ops_of (standings tree)

  abbrev m : WholeModule
  m = seen_module defs now store

  abbrev value_in : ValueId → Value
  value_in id = at now id.0

  -- a use is wrong by ids
  abbrev pub Wrong : Fault → Type 0
  Wrong = IsWrongUse (types_in store) (uses_of cs) (shown_ids ids) (operands_at (ops_in store))

  types-seen : types_in m ≡ map value_in (types_in store)
  types-seen = types-mapped (name_in defs) value_in store

  -- the values that stand at a place of all types that are shown
  spelled-there : (i : ℕ) (shown : UseCst × ValueCst) → slice_get (shown_uses cs) i ≡ Some shown
      → slice_get (map Some (values_at now (shown_ids ids))) i
      ≡ Some (value_of (aliases_of tree) shown.1)
  spelled-there i shown is =
      made (type_of_shown (aliases_of tree) now) (shown_uses cs)
      (map Some (values_at now (shown_ids ids))) i shown
      (types-shown (aliases_of tree) now cs ids spell) is

  -- a use that is wrong by ids has a fault, in a table of distinct values
  pub wrong-is-fault : (shown_ids ids ≢ [] → AreDistinct now)
      → AreKnown (length now) (types_in store) → AreKnown (length now) (shown_ids ids)
      → (f : Fault) → Wrong f
      → IsUseFault tree (types_in m) m f
  wrong-is-fault distinct known ids_known f h =
      let it = made-of (λ (p : UseCst × ValueCst). p.0) (shown_uses cs) (uses_of cs) h.at
      h.use_there (uses-shown (aliases_of tree) now cs ids spell) h.stands in
      let typed = made Some (values_at now (shown_ids ids))
      (map Some (values_at now (shown_ids ids))) h.at (value_in h.type) refl
      (made value_in (shown_ids ids) (values_at now (shown_ids ids)) h.at h.type refl h.typed) in
      record {
        at = h.at;
        shown = it.0;
        type = value_in h.type;
        number = h.number;
        stands = it.1;
        means = ap (λ l. slice_get l h.at) (operands-seen defs now store) ∙ h.means;
        spelled = some-same (value_of (aliases_of tree) it.0.1) (Some (value_in h.type))
            (sym (spelled-there h.at it.0 it.1) ∙ typed);
        differs = λ same. apart h same;
        place = h.place ∙ ap (λ (u : UseCst). u.place) (sym it.2);
        code = h.code;
      }
    where
      apart : (h : Wrong f) → slice_get (types_in m) h.number ≡ Some (value_in h.type) → ⊥
      apart h same =
          let it = made-of value_in (types_in store) (types_in m) h.number (value_in h.type)
          (sym types-seen) same in
          let there = something-shown (shown_ids ids) h.at h.type h.typed in
          let number : it.0.0 ≡ h.type.0 = distinct there it.0.0 h.type.0
          (known-at (length now) (types_in store) h.number it.0 known it.1)
          (known-at (length now) (shown_ids ids) h.at h.type ids_known h.typed) it.2 in
          h.differs (it.1 ∙ ap Some (same-id it.0 h.type number))

  -- and the other way round
  pub fault-is-wrong : (f : Fault) → IsUseFault tree (types_in m) m f → Wrong f
  fault-is-wrong f h =
      let values = values_at now (shown_ids ids) in
      let whole = made-of Some values (map Some values) h.at (Some h.type) refl
      (spelled-there h.at h.shown h.stands ∙ ap Some h.spelled) in
      let it = made-of value_in (shown_ids ids) values h.at whole.0 refl whole.1 in
      record {
        at = h.at;
        use_there = h.shown.0;
        type = it.0;
        number = h.number;
        stands = made (λ (p : UseCst × ValueCst). p.0) (shown_uses cs) (uses_of cs) h.at h.shown
            (uses-shown (aliases_of tree) now cs ids spell) h.stands;
        typed = it.1;
        means = ap (λ l. slice_get l h.at) (sym (operands-seen defs now store)) ∙ h.means;
        differs = λ same. h.differs (made value_in (types_in store) (types_in m) h.number it.0
            (sym types-seen) same ∙ ap Some it.2 ∙ whole.2);
        place = h.place;
        code = h.code;
      }

  -- so the first use that is wrong by ids is the first that has a fault
  pub wrong-first : (shown_ids ids ≢ [] → AreDistinct now)
      → AreKnown (length now) (types_in store) → AreKnown (length now) (shown_ids ids)
      → (first : Option Fault) → IsFirst Wrong first
      → IsFirst (IsUseFault tree (types_in m) m) first
  wrong-first distinct known ids_known first x =
      first-same Wrong (IsUseFault tree (types_in m) m) first
      (wrong-is-fault distinct known ids_known) fault-is-wrong x

-- ---- a list of what stands in the tree, and the types of ids as they were listed

module _ (loaded : Loaded) (tree : ModuleCst) (now : List Value) (ids : List OpIds)
    (are : AllZip (λ c x. AreIdsOf loaded (aliases_of tree) c now x) (ops_of (standings tree)) ids)
    (ss : List Standing) (shown : List ValueId) (stands : ss ≡ standings tree)
    (listed : shown ≡ shown_ids ids) where
  spelled : AllZip (SpellsOperands (aliases_of tree) now) (ops_of (standings tree)) ids
  spelled = ids-shown loaded (aliases_of tree) now (ops_of (standings tree)) ids are

  -- there is a type for each use
  pub shown-enough : length (uses_of (ops_of ss)) ≤ length shown
  shown-enough =
      let many = shown-as-many (aliases_of tree) now (ops_of (standings tree)) ids spelled in
      let uses = ap (λ l. length (uses_of (ops_of l))) stands in
      let types = ap length listed in
      omega (arith, many, uses, types)

  module _ (defs : List OpDef) (store : Module) where
    -- the first that is wrong by ids is the first with a fault in the module
    pub uses-first : (shown ≢ [] → AreDistinct now) → AreKnown (length now) (types_in store)
        → (first : Option Fault)
        → IsFirst (IsWrongUse (types_in store) (uses_of (ops_of ss)) shown
        (operands_at (ops_in store))) first
        → IsFirst (IsUseFault tree (types_in (seen_module defs now store))
        (seen_module defs now store)) first
    uses-first distinct known first x =
        wrong-first tree defs now store ids spelled
        (subst (λ l. l ≢ [] → AreDistinct now) listed distinct) known
        (shown-known loaded (aliases_of tree) now (ops_of (standings tree)) ids are) first
        (subst (λ l. IsFirst (IsWrongUse (types_in store) (uses_of (ops_of (standings tree))) l
        (operands_at (ops_in store))) first) listed
        (subst (λ l. IsFirst (IsWrongUse (types_in store) (uses_of (ops_of l)) shown
        (operands_at (ops_in store))) first) stands x))
