-- What the facts of the generic form tell: which trees of values, uses and lists of types.
use Rattle.std.proofs.Common.{◌≡◌, ◌≢◌, ◌∙◌, ◌⊎◌, inl, inr, ℕ, suc, Bool, true, false, List, []}
use Rattle.std.proofs.Common.{◌∷◌, ◌++◌, length, map, refl, sym, ap, subst, Contains, append_assoc}
use Rattle.std.proofs.lemmas.Grind.{flat_map-append}
use Rattle.std.proofs.lemmas.List.Elements.{Contains-append_left, Contains-append_right}
use Rattle.std.proofs.lemmas.List.Elements.{Contains-append_cases}
use Rattle.std.specs.List.{AllByRecursion, flat_map}
use Rattle.std.specs.declared.option.Option.{Option}
use Rattle.attr_value.specs.declared.kind.IntKind.{IntKind}
use Rattle.dialect_registry.specs.Parts.{Among}
use Rattle.dialect_registry.proofs.Walks.{slice_get-item}
use Rattle.first_fault.specs.declared.fault.Fault.{Fault}
use Rattle.generic_syntax.specs.declared.cst.EntryCst.{EntryCst}
use Rattle.generic_syntax.specs.declared.cst.ItemCst.{ItemCst}
use Rattle.generic_syntax.specs.declared.cst.NameCst.{NameCst}
use Rattle.generic_syntax.specs.declared.cst.ValueCst.{ValueCst}
use Rattle.generic_syntax.specs.declared.module_cst.BlockCst.{BlockCst}
use Rattle.generic_syntax.specs.declared.module_cst.GenericCst.{GenericCst, out-GenericCst}
use Rattle.generic_syntax.specs.declared.module_cst.RegionCst.{RegionCst, out-RegionCst}
use Rattle.generic_syntax.specs.declared.module_cst.ResultCst.{ResultCst}
use Rattle.generic_syntax.specs.declared.module_cst.UseCst.{UseCst}
use Rattle.ir_lexer.specs.Spelling.{Text}
use Rattle.module_faults.specs.OpFaults.{ListsDiffer, block_types, blocks_types, entries_values}
use Rattle.module_faults.specs.OpFaults.{told_values}
use Rattle.module_meaning.specs.Facts.{Fact, uses_are, all_uses_are, types_are, attr_is, unit_is}
use Rattle.module_meaning.specs.Facts.{string_is, number_is, region_is, successor_is, dict_is}
use Rattle.module_meaning.specs.Facts.{all_operands, all_results, generic_facts, region_facts}
use Rattle.module_meaning.specs.Facts.{successor_facts}
use Rattle.module_meaning.proofs.Places.{all-joined}
use Rattle.op_judgement.specs.Arity.{GenericListsDiffer}
use Rattle.op_judgement.specs.Entered.{entry_trees}
use Rattle.op_judgement.specs.Parts.{entries_of}
use Rattle.op_judgement.specs.Shown.{block_trees}
use Rattle.op_verifier.proofs.Walks.{all-get}
use Rattle.value_meaning.proofs.Among.{contains-cons, contains-head, contains-nil, contains-tail}

-- ---- faults of lists of lists

-- what stands in one of some lists
flat-in : {A B : Type 0} (f : A → List B) (xs : List A) (y : B) → Contains (flat_map f xs) y
    → (x : A) × Contains xs x × Contains (f x) y
flat-in f [] y has = absurd (contains-nil y has)
flat-in {A = A} {B = B} f (x ∷ xs) y has =
    go (flat-in f xs y) (Contains-append_cases (f x) (flat_map f xs) y has)
  where
    go : (Contains (flat_map f xs) y → (z : A) × Contains xs z × Contains (f z) y)
        → Contains (f x) y ⊎ Contains (flat_map f xs) y
        → (z : A) × Contains (x ∷ xs) z × Contains (f z) y
    go rest (inl here) = (x, contains-head x xs, here)
    go rest (inr later) =
        let (z, among, there) = rest later in (z, contains-tail x xs z among, there)

flat-out : {A B : Type 0} (f : A → List B) (xs : List A) (y : B) (x : A) → Contains xs x
    → Contains (f x) y → Contains (flat_map f xs) y
flat-out f [] y x among has = absurd (contains-nil x among)
flat-out {A = A} f (z ∷ xs) y x among has = go (flat-out f xs y x) (contains-cons z xs x among)
  where
    go : (Contains xs x → Contains (f x) y → Contains (flat_map f xs) y)
        → (z ≡ x) ⊎ Contains xs x → Contains (flat_map f (z ∷ xs)) y
    go rest (inl same) =
        Contains-append_left (f z) (flat_map f xs) y
        (subst (λ (w : A). Contains (f w) y) (sym same) has)
    go rest (inr later) = Contains-append_right (f z) (flat_map f xs) y (rest later has)

module _ {A B : Type 0} (P : B → Fault → Type 0) (f : A → List B) (xs : List A) (fault : Fault)
  where
    -- a fault of an item of one of some lists
    pub among-flat : Among P (flat_map f xs) fault → Among (λ x. Among P (f x)) xs fault
    among-flat (y, has, p) = let (x, among, there) = flat-in f xs y has in (x, among, (y, there, p))

    pub flat-among : Among (λ x. Among P (f x)) xs fault → Among P (flat_map f xs) fault
    flat-among (x, among, (y, there, p)) = (y, flat-out f xs y x among there, p)

-- ---- the trees of the generic form

entries-flat : (es : List EntryCst) → entries_values es ≡ flat_map entry_trees es
entries-flat [] = refl
entries-flat (e ∷ es) = ap (λ l. entry_trees e ++ l) (entries-flat es)

blocks-flat : (bs : List BlockCst)
    → blocks_types bs ≡ flat_map (λ (l : List ValueCst). l) (map block_types bs)
blocks-flat [] = refl
blocks-flat (b ∷ bs) = ap (λ l. block_types b ++ l) (blocks-flat bs)

-- the trees that regions tell
told-regions : (i : ℕ) (rs : List RegionCst)
    → told_values (region_facts i rs) ≡ flat_map (λ (l : List ValueCst). l) (block_trees rs)
told-regions i [] = refl
told-regions i (r ∷ rs) =
    ap (λ l. blocks_types (out-RegionCst r).blocks ++ l) (told-regions (suc i) rs)
    ∙ ap (λ l. l ++ flat_map (λ (l : List ValueCst). l) (block_trees rs))
    (blocks-flat (out-RegionCst r).blocks)
    ∙ sym (flat_map-append (λ (l : List ValueCst). l) (map block_types (out-RegionCst r).blocks)
    (block_trees rs))

told-successors : (i : ℕ) (ss : List NameCst) (facts : List Fact)
    → told_values (successor_facts i ss ++ facts) ≡ told_values facts
told-successors i [] facts = refl
told-successors i (s ∷ ss) facts = told-successors (suc i) ss facts

-- those of all facts
pub told-generic : (g : GenericCst) → told_values (generic_facts g)
    ≡ (out-GenericCst g).inputs ++ ((out-GenericCst g).outputs
    ++ (flat_map entry_trees (entries_of g)
    ++ flat_map (λ (l : List ValueCst). l) (block_trees (out-GenericCst g).regions)))
told-generic g =
    let shown = out-GenericCst g in
    ap (λ l. shown.inputs ++ (shown.outputs ++ (entries_values (entries_of g) ++ l)))
    (told-successors 0 shown.successors (region_facts 0 shown.regions)
    ∙ told-regions 0 shown.regions)
    ∙ ap (λ l. shown.inputs ++ (shown.outputs ++ (l
    ++ flat_map (λ (l : List ValueCst). l) (block_trees shown.regions))))
    (entries-flat (entries_of g))

-- ---- facts of one kind

-- a fact of a region or of a successor
abbrev is_placed : Fact → Bool
is_placed (region_is i r) = true
is_placed (successor_is i s) = true
is_placed _ = false

placed-successors : (i : ℕ) (ss : List NameCst)
    → AllByRecursion (λ x. is_placed x ≡ true) (successor_facts i ss)
placed-successors i [] = tt
placed-successors i (s ∷ ss) = (refl, placed-successors (suc i) ss)

placed-regions : (i : ℕ) (rs : List RegionCst)
    → AllByRecursion (λ x. is_placed x ≡ true) (region_facts i rs)
placed-regions i [] = tt
placed-regions i (r ∷ rs) = (refl, placed-regions (suc i) rs)

module _ (g : GenericCst) where
  abbrev rest_of : List Fact
  rest_of = successor_facts 0 (out-GenericCst g).successors
      ++ region_facts 0 (out-GenericCst g).regions

  abbrev behind_outs : List Fact
  behind_outs = dict_is (entries_of g) ∷ rest_of

  abbrev behind_ins : List Fact
  behind_ins = types_are all_results (out-GenericCst g).outputs ∷ behind_outs

  abbrev behind_uses : List Fact
  behind_uses = types_are all_operands (out-GenericCst g).inputs ∷ behind_ins

  placed : (x : Fact) → Contains rest_of x → is_placed x ≡ true
  placed x (k, within, is) =
      all-get (λ y. is_placed y ≡ true) rest_of k x
      (all-joined (λ y. is_placed y ≡ true) _ _
      (placed-successors 0 (out-GenericCst g).successors)
      (placed-regions 0 (out-GenericCst g).regions))
      (slice_get-item rest_of k x within (sym is))

  -- what is so of each fact of the generic form
  each-fact : (P : Fact → Type 0) → P (all_uses_are (out-GenericCst g).operands)
      → P (types_are all_operands (out-GenericCst g).inputs)
      → P (types_are all_results (out-GenericCst g).outputs) → P (dict_is (entries_of g))
      → ((y : Fact) → is_placed y ≡ true → P y) → (x : Fact) → Contains (generic_facts g) x → P x
  each-fact P uses ins outs dict others x has =
      one (contains-cons (all_uses_are (out-GenericCst g).operands) behind_uses x has)
    where
      four : (dict_is (entries_of g) ≡ x) ⊎ Contains rest_of x → P x
      four (inl is) = subst P is dict
      four (inr more) = others x (placed x more)

      three : (types_are all_results (out-GenericCst g).outputs ≡ x)
          ⊎ Contains behind_outs x → P x
      three (inl is) = subst P is outs
      three (inr more) = four (contains-cons (dict_is (entries_of g)) rest_of x more)

      two : (types_are all_operands (out-GenericCst g).inputs ≡ x)
          ⊎ Contains behind_ins x → P x
      two (inl is) = subst P is ins
      two (inr more) =
          three (contains-cons (types_are all_results (out-GenericCst g).outputs) behind_outs x more)

      one : (all_uses_are (out-GenericCst g).operands ≡ x)
          ⊎ Contains behind_uses x → P x
      one (inl is) = subst P is uses
      one (inr more) =
          two (contains-cons (types_are all_operands (out-GenericCst g).inputs) behind_ins x more)

  -- no number is told
  pub no-number : (key : Text) (kind : IntKind) (item : Option ItemCst)
      → Contains (generic_facts g) (number_is key kind item) → ⊥
  no-number key kind item has =
      each-fact (λ y. y ≡ number_is key kind item → ⊥) (λ e. absurd (cc)) (λ e. absurd (cc))
      (λ e. absurd (cc)) (λ e. absurd (cc))
      (λ y p e.
      let none : is_placed y ≡ false = ap is_placed e in
      let no_way : true ≡ false = sym p ∙ none in absurd (cc))
      (number_is key kind item) has refl

  -- the uses are those of the form
  uses-told : (us : List UseCst) → Contains (generic_facts g) (all_uses_are us)
      → us ≡ (out-GenericCst g).operands
  uses-told us has =
      each-fact (λ y. y ≡ all_uses_are us → us ≡ (out-GenericCst g).operands) (λ e. cc)
      (λ e. absurd (cc)) (λ e. absurd (cc)) (λ e. absurd (cc))
      (λ y p e.
      let none : is_placed y ≡ false = ap is_placed e in
      let no_way : true ≡ false = sym p ∙ none in absurd (cc))
      (all_uses_are us) has refl

  -- and so are types
  ins-told : (ts : List ValueCst) → Contains (generic_facts g) (types_are all_operands ts)
      → ts ≡ (out-GenericCst g).inputs
  ins-told ts has =
      each-fact (λ y. y ≡ types_are all_operands ts → ts ≡ (out-GenericCst g).inputs)
      (λ e. absurd (cc)) (λ e. cc) (λ e. absurd (cc)) (λ e. absurd (cc))
      (λ y p e.
      let none : is_placed y ≡ false = ap is_placed e in
      let no_way : true ≡ false = sym p ∙ none in absurd (cc))
      (types_are all_operands ts) has refl

  outs-told : (ts : List ValueCst) → Contains (generic_facts g) (types_are all_results ts)
      → ts ≡ (out-GenericCst g).outputs
  outs-told ts has =
      each-fact (λ y. y ≡ types_are all_results ts → ts ≡ (out-GenericCst g).outputs)
      (λ e. absurd (cc)) (λ e. absurd (cc)) (λ e. cc) (λ e. absurd (cc))
      (λ y p e.
      let none : is_placed y ≡ false = ap is_placed e in
      let no_way : true ≡ false = sym p ∙ none in absurd (cc))
      (types_are all_results ts) has refl

  -- lists differ as the form shows them
  pub differ-shown : (rs : List ResultCst) → ListsDiffer (generic_facts g) rs
      → GenericListsDiffer g rs
  differ-shown rs (inl x) = inl (λ e. x.differ (ap length (uses-told x.uses x.uses_told) ∙ e
      ∙ sym (ap length (ins-told x.types x.types_told))))
  differ-shown rs (inr x) =
      inr (x.named, λ e. x.differ (e ∙ sym (ap length (outs-told x.types x.told))))

  pub differ-told : (rs : List ResultCst) → GenericListsDiffer g rs
      → ListsDiffer (generic_facts g) rs
  differ-told rs (inl x) = inl (record {
    uses = (out-GenericCst g).operands;
    types = (out-GenericCst g).inputs;
    uses_told = contains-head (all_uses_are (out-GenericCst g).operands) behind_uses;
    types_told = contains-tail (all_uses_are (out-GenericCst g).operands) behind_uses
        (types_are all_operands (out-GenericCst g).inputs)
        (contains-head (types_are all_operands (out-GenericCst g).inputs) behind_ins);
    differ = x;
  })
  differ-told rs (inr x) = inr (record {
    types = (out-GenericCst g).outputs;
    told = contains-tail (all_uses_are (out-GenericCst g).operands) behind_uses
        (types_are all_results (out-GenericCst g).outputs)
        (contains-tail (types_are all_operands (out-GenericCst g).inputs) behind_ins
        (types_are all_results (out-GenericCst g).outputs)
        (contains-head (types_are all_results (out-GenericCst g).outputs) behind_outs));
    named = x.0;
    differ = x.1;
  })
