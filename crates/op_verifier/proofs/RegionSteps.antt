-- What regions ask, part by part.
use Rattle.std.proofs.Common.{◌≡◌, ℕ, zero, suc, ◌+◌, ◌-◌, ◌<◌, ◌≤◌, List, []}
use Rattle.std.proofs.Common.{◌∷◌, length, drop, slice_get, get_or, refl, ap, sym, IfSome, Bool}
use Rattle.std.proofs.Common.{◌∙◌, subst, arith, Option, Some, None}
use Rattle.std.proofs.Math.ListN.{drop_of_length-le}
use Rattle.std.proofs.lemmas.List.{length-map}
use Rattle.std.proofs.lemmas.Option.{slice_get_within, slice_get-get_or, get_or_from_slice_get}
use Rattle.attr_value.specs.declared.head.ValueId.{ValueId}
use Rattle.attr_value.specs.Ids.{at, AreKnown}
use Rattle.attr_value.specs.Values.{Value}
use Rattle.dialect_defs.specs.declared.body.VarId.{VarId}
use Rattle.dialect_defs.specs.declared.entry.RegionEntry.{RegionEntry}
use Rattle.dialect_defs.specs.Assignments.{Assignment, Has, HaveEach}
use Rattle.dialect_defs.specs.Operations.{ArgsHave, RegionHas, RegionsHave}
use Rattle.ir_store.specs.declared.rows.BlockId.{BlockId}
use Rattle.ir_store.specs.declared.rows.RegionId.{RegionId}
use Rattle.ir_store.specs.Modules.{Regions, Blocks, no_regions, region, no_blocks, block, types_in}
use Rattle.ir_store.specs.Named.{AreBlocks, AreRegions, HaveTypes, block_at, region_at}
use Rattle.ir_store.specs.Numbering.{Numbers, BlockSite, RegionSite, past_block, behind}
use Rattle.ir_store.specs.Numbering.{past_region, behind_blocks}
use Rattle.ir_store.specs.Store.{OpName, Module}
use Rattle.op_verifier.specs.Asked.{Slots, Rest, Asks, Refuses, Decides}
use Rattle.op_verifier.specs.Parts.{types_from}
use Rattle.op_verifier.specs.Seen.{type_in, values_at, blocks_seen, regions_seen}
use Rattle.constraint_solver.proofs.Filled.{have-lengths}
use Rattle.op_verifier.proofs.Asking.{rest-start, rest-step, rest-refused, rest-end, Decides-as}
use Rattle.op_verifier.proofs.Walks.{drop-next, known-at}

-- an element at a place within a list
pub an-element : {X : Type 0} (xs : List X) (i : ℕ) → i < length xs
    → (x : X) × (slice_get xs i ≡ Some x)
an-element [] i within = absurd (omega arith)
an-element (x ∷ xs) zero within = (x, refl)
an-element (x ∷ xs) (suc i) within = an-element xs i (omega arith)

-- ---- arguments

types-next : (m : Module) (n k : ℕ) → 0 < k
    → types_from m n k ≡ type_in m n ∷ types_from m (n + 1) (k - 1)
types-next m n zero some = absurd (omega arith)
types-next m n (suc k) some =
    let same : k ≡ suc k - 1 = omega arith in
    ap (λ j. type_in m n ∷ types_from m (n + 1) j) same

-- the types from a place on are the one there and those behind it
pub types-at : (m : Module) (first i count : ℕ) → i < count
    → types_from m (first + i) (count - i)
    ≡ type_in m (first + i) ∷ types_from m (first + (i + 1)) (count - (i + 1))
types-at m first i count less =
    let next : (first + i) + 1 ≡ first + (i + 1) = omega arith in
    let left : (count - i) - 1 ≡ count - (i + 1) = omega arith in
    types-next m (first + i) (count - i) (omega arith)
    ∙ ap (λ n. type_in m (first + i) ∷ types_from m n ((count - i) - 1)) next
    ∙ ap (λ k. type_in m (first + i) ∷ types_from m (first + (i + 1)) k) left

module _ (values : List Value) (m : Module) (vars : List VarId) (first i : ℕ) (var : VarId) where
  -- the next argument, and those behind it
  pub each-first : (a : Assignment) → slice_get vars i ≡ Some var → i < length vars
      → HaveEach a (drop i vars) (values_at values (types_from m (first + i) (length vars - i)))
      → Has a var (at values (type_in m (first + i)).0)
      × HaveEach a (drop (i + 1) vars)
      (values_at values (types_from m (first + (i + 1)) (length vars - (i + 1))))
  each-first a e less have =
      let one = subst (λ vs. HaveEach a vs (values_at values
      (types_from m (first + i) (length vars - i)))) (drop-next vars i var e) have in
      subst (λ ts. HaveEach a (var ∷ drop (i + 1) vars) (values_at values ts))
      (types-at m first i (length vars) less) one

  -- and the other way round
  pub each-joined : (a : Assignment) → slice_get vars i ≡ Some var → i < length vars
      → Has a var (at values (type_in m (first + i)).0)
      → HaveEach a (drop (i + 1) vars)
      (values_at values (types_from m (first + (i + 1)) (length vars - (i + 1))))
      → HaveEach a (drop i vars) (values_at values (types_from m (first + i) (length vars - i)))
  each-joined a e less here later =
      let one = subst (λ ts. HaveEach a (var ∷ drop (i + 1) vars) (values_at values ts))
      (sym (types-at m first i (length vars) less)) (here, later) in
      subst (λ vs. HaveEach a vs (values_at values (types_from m (first + i) (length vars - i))))
      (sym (drop-next vars i var e)) one

-- where no argument is left, nothing is asked
pub each-none : (values : List Value) (m : Module) (vars : List VarId) (first i : ℕ)
    (a : Assignment) → length vars ≤ i
    → HaveEach a (drop i vars) (values_at values (types_from m (first + i) (length vars - i)))
each-none values m vars first i a past =
    let none : length vars - i ≡ 0 = omega arith in
    let empty = subst (λ k. HaveEach a [] (values_at values (types_from m (first + i) k)))
    (sym none) tt in
    subst (λ vs. HaveEach a vs (values_at values (types_from m (first + i) (length vars - i))))
    (sym (drop_of_length-le vars {i = i} past)) empty

-- the type of a value of the module is known
pub type-known : (n : ℕ) (m : Module) (k : ℕ) → AreKnown n (types_in m) → k < length (types_in m)
    → (type_in m k).0 < n
type-known n m k known within =
    known-at n (types_in m) k (type_in m k) known (slice_get-get_or (types_in m) k _ within)

-- a block's arguments are the values from its first one on
pub args-are : (m : Module) (n : ℕ) (args : List ValueId) → HaveTypes m n args
    → args ≡ types_from m n (length args)
args-are m n [] have = refl
args-are m n (x ∷ xs) have =
    let start : n + 0 ≡ n = omega arith in
    let here : slice_get (types_in m) n ≡ Some x =
    subst (λ k. slice_get (types_in m) k ≡ Some x) start (have 0 x refl) in
    let first : type_in m n ≡ x = get_or_from_slice_get (types_in m) n x _ here in
    let later : xs ≡ types_from m (n + 1) (length xs) = args-are m (n + 1) xs (λ i t e.
    let next : n + suc i ≡ n + 1 + i = omega arith in
    subst (λ k. slice_get (types_in m) k ≡ Some t) next (have (suc i) t e)) in
    cc

-- the arguments of a block are values of the module
pub args-there : (m : Module) (n : ℕ) (args : List ValueId) → HaveTypes m n args
    → (i : ℕ) → i < length args → n + i < length (types_in m)
args-there m n args have i within =
    let t = get_or args i (record { 0 = 0 }) in
    slice_get_within (types_in m) (n + i) t
    (have i t (slice_get-get_or args i (record { 0 = 0 }) within))

-- the first block
pub record FirstBlock (m : Module) (id : BlockId) (values : List Value)
    (bs : Blocks OpName ValueId) : Type 0 where
  pub site : BlockSite OpName ValueId
  pub named : block_at m id ≡ Some site
  pub others : List (List Value)
  pub seen : blocks_seen values bs ≡ values_at values site.args ∷ others

-- the first id of a region's blocks names the first block
pub first-block : (m : Module) (c : Numbers) (values : List Value) (ids : List BlockId)
    (id : BlockId) (bs : Blocks OpName ValueId) → AreBlocks m c ids bs → slice_get ids 0 ≡ Some id
    → FirstBlock m id values bs
first-block m c values [] id bs are e = cc
first-block m c values (x ∷ xs) id no_blocks are e = absurd are
first-block m c values (x ∷ xs) id (block args ops bs) are e =
    let same : x ≡ id = cc in
    record {
      site = record { at = c; args = args; ops = ops };
      named = subst (λ k. block_at m k ≡ Some (record { at = c; args = args; ops = ops }))
          same are.1;
      others = blocks_seen values bs;
      seen = refl;
    }

-- there are as many ids as blocks
pub blocks-count : (m : Module) (c : Numbers) (values : List Value) (ids : List BlockId)
    (bs : Blocks OpName ValueId) → AreBlocks m c ids bs
    → length ids ≡ length (blocks_seen values bs)
blocks-count m c values [] no_blocks are = refl
blocks-count m c values [] (block args ops bs) are = absurd are
blocks-count m c values (x ∷ xs) no_blocks are = absurd are
blocks-count m c values (x ∷ xs) (block args ops bs) are =
    ap suc (blocks-count m (behind (past_block c args) ops) values xs bs are.2)

module _ (values : List Value) (m : Module) (vars : List VarId) (id : BlockId)
    (bs : Blocks OpName ValueId) where
  -- arguments of another number are refused
  pub args-count : (s : Slots) (count : ℕ) → (first : FirstBlock m id values bs)
      → ((x : BlockSite OpName ValueId) → block_at m id ≡ Some x → count ≡ length x.args)
      → (count ≡ length vars → ⊥)
      → Refuses values s (λ a. ArgsHave a (Some vars) (blocks_seen values bs))
  args-count s count first counts differ = record {
    none = λ a w have.
        let each = subst (ArgsHave a (Some vars)) first.seen have in
        let long = have-lengths a vars (values_at values first.site.args) each in
        let same = counts first.site first.named in
        differ (same ∙ sym (length-map first.site.args (λ (id : ValueId). at values id.0)) ∙ sym
        long);
  }

  block-seen : (a : Assignment) (count n : ℕ) (first : FirstBlock m id values bs)
      → count ≡ length first.site.args → count ≡ length vars → HaveTypes m n first.site.args
      → (values_at values first.site.args) ≡ (values_at values (types_from m n (length vars)))
  block-seen a count n first counts same have =
      ap (values_at values) (args-are m n first.site.args have)
      ∙ ap (λ k. values_at values (types_from m n k)) (sym counts ∙ same)

  -- the arguments of the first block are asked one by one
  pub args-asked : (s t : Slots) (taken : Bool) (count n : ℕ) (first : FirstBlock m id values bs)
      → ((x : BlockSite OpName ValueId) → block_at m id ≡ Some x
      → (n ≡ x.at.values) × (count ≡ length x.args))
      → ((x : BlockSite OpName ValueId) → block_at m id ≡ Some x → HaveTypes m n x.args)
      → count ≡ length vars
      → Decides values s t taken
      (λ a. HaveEach a vars (values_at values (types_from m n (length vars))))
      → Decides values s t taken (λ a. ArgsHave a (Some vars) (blocks_seen values bs))
  args-asked s t taken count n first counts types same asked =
      let seen = λ (a : Assignment). block-seen a count n first
      (counts first.site first.named).1 same
      (types first.site first.named) in
      Decides-as
      (λ a have. subst (ArgsHave a (Some vars)) (sym first.seen)
      (subst (HaveEach a vars) (sym (seen a)) have))
      (λ a have. subst (HaveEach a vars) (seen a) (subst (ArgsHave a (Some vars)) first.seen have))
      asked

-- no arguments are declared
pub any-args : (values : List Value) (vars : Option (List VarId)) (seen : List (List Value))
    (s : Slots) → vars ≡ None
    → Asks values s s (λ a. ArgsHave a vars seen)
any-args values vars seen s none =
    rest-end (rest-start s (λ a. ArgsHave a vars seen))
    (λ a. subst (λ o. ArgsHave a o seen) (sym none) tt)

-- ---- regions

module _ (values : List Value) (entry : RegionEntry) (seen : List (List Value)) where
  -- a region of the declared size asks its arguments
  pub region-asked : (s t : Slots) (taken : Bool) → IfSome entry.size (λ n. length seen ≡ n)
      → Decides values s t taken (λ a. ArgsHave a entry.args seen)
      → Decides values s t taken (λ a. RegionHas a entry seen)
  region-asked s t taken size asked =
      Decides-as (λ a have. record { size = size; args = have }) (λ a have. have.args) asked

  -- one of another size is refused
  pub size-refuses : (s : Slots) → (IfSome entry.size (λ n. length seen ≡ n) → ⊥)
      → Refuses values s (λ a. RegionHas a entry seen)
  size-refuses s differ = record { none = λ a w have. differ have.size }

-- the regions from the i-th on are left
pub record RegionsLeft (values : List Value) (m : Module) (entries : List RegionEntry)
    (ids : List RegionId) (i : ℕ) (old now : Slots) (regions : Regions OpName ValueId)
    : Type 0 where
  pub left : Regions OpName ValueId
  pub c : Numbers
  pub are : AreRegions m c (drop i ids) left
  pub rest : Rest values old now (λ a. RegionsHave a entries (regions_seen values regions))
      (λ a. RegionsHave a (drop i entries) (regions_seen values left))

-- at first all regions are left
pub regions-start : (values : List Value) (m : Module) (c : Numbers) (entries : List RegionEntry)
    (ids : List RegionId) (s : Slots) (regions : Regions OpName ValueId)
    → AreRegions m c ids regions
    → RegionsLeft values m entries ids 0 s s regions
regions-start values m c entries ids s regions are = record {
  left = regions;
  c = c;
  are = are;
  rest = rest-start s (λ a. RegionsHave a entries (regions_seen values regions));
}

-- the next region
pub record RegionNext (values : List Value) (m : Module) (ids : List RegionId) (i : ℕ)
    (id : RegionId) (left : Regions OpName ValueId) : Type 0 where
  pub site : RegionSite OpName ValueId
  pub named : region_at m id ≡ Some site
  pub others : Regions OpName ValueId
  pub c : Numbers
  pub are : AreRegions m c (drop (i + 1) ids) others
  pub seen : regions_seen values left ≡ blocks_seen values site.blocks ∷ regions_seen values others

next-by : (values : List Value) (m : Module) (c : Numbers) (ids : List RegionId) (i : ℕ)
    (id : RegionId) (left : Regions OpName ValueId) → AreRegions m c (id ∷ drop (i + 1) ids) left
    → RegionNext values m ids i id left
next-by values m c ids i id no_regions are = absurd are
next-by values m c ids i id (region blocks rs) are = record {
  site = record { at = c; blocks = blocks };
  named = are.1;
  others = rs;
  c = behind_blocks (past_region c) blocks;
  are = are.2;
  seen = refl;
}

-- the id at a place names the next region that is left
pub region-next : (values : List Value) (m : Module) (c : Numbers) (ids : List RegionId) (i : ℕ)
    (id : RegionId) (left : Regions OpName ValueId) → slice_get ids i ≡ Some id
    → AreRegions m c (drop i ids) left → RegionNext values m ids i id left
region-next values m c ids i id left e are =
    next-by values m c ids i id left (subst (λ l. AreRegions m c l left) (drop-next ids i id e) are)

module _ (values : List Value) (m : Module) (entries : List RegionEntry) (ids : List RegionId)
    (i : ℕ) (entry : RegionEntry) (id : RegionId) (old now : Slots)
    (regions : Regions OpName ValueId) where
  next-split : (left : Regions OpName ValueId) (next : RegionNext values m ids i id left)
      → slice_get entries i ≡ Some entry → (a : Assignment)
      → RegionsHave a (drop i entries) (regions_seen values left)
      → RegionHas a entry (blocks_seen values next.site.blocks)
      × RegionsHave a (drop (i + 1) entries) (regions_seen values next.others)
  next-split left next e a have =
      let one = subst (λ es. RegionsHave a es (regions_seen values left))
      (drop-next entries i entry e) have in
      subst (RegionsHave a (entry ∷ drop (i + 1) entries)) next.seen one

  next-join : (left : Regions OpName ValueId) (next : RegionNext values m ids i id left)
      → slice_get entries i ≡ Some entry → (a : Assignment)
      → RegionHas a entry (blocks_seen values next.site.blocks)
      → RegionsHave a (drop (i + 1) entries) (regions_seen values next.others)
      → RegionsHave a (drop i entries) (regions_seen values left)
  next-join left next e a here later =
      let one = subst (RegionsHave a (entry ∷ drop (i + 1) entries)) (sym next.seen)
      (here, later) in
      subst (λ es. RegionsHave a es (regions_seen values left))
      (sym (drop-next entries i entry e)) one

  -- the next region is asked
  pub regions-step : (new : Slots) → slice_get entries i ≡ Some entry → slice_get ids i ≡ Some id
      → RegionsLeft values m entries ids i old now regions
      → ((x : RegionSite OpName ValueId) → region_at m id ≡ Some x
      → Asks values now new (λ a. RegionHas a entry (blocks_seen values x.blocks)))
      → RegionsLeft values m entries ids (i + 1) old new regions
  regions-step new e f state asks =
      let next = region-next values m state.c ids i id state.left f state.are in
      record {
        left = next.others;
        c = next.c;
        are = next.are;
        rest = rest-step state.rest (next-split state.left next e)
            (λ a here later. next-join state.left next e a here later)
            (asks next.site next.named);
      }

  -- a region that is refused refuses them all
  pub regions-refuse : slice_get entries i ≡ Some entry → slice_get ids i ≡ Some id
      → RegionsLeft values m entries ids i old now regions
      → ((x : RegionSite OpName ValueId) → region_at m id ≡ Some x
      → Refuses values now (λ a. RegionHas a entry (blocks_seen values x.blocks)))
      → Refuses values old (λ a. RegionsHave a entries (regions_seen values regions))
  regions-refuse e f state refuses =
      let next = region-next values m state.c ids i id state.left f state.are in
      rest-refused state.rest (λ a have. (next-split state.left next e a have).0)
      (refuses next.site next.named)

-- where no region is left, all were asked
pub regions-end : (values : List Value) (m : Module) (entries : List RegionEntry)
    (ids : List RegionId) (i : ℕ) (old now : Slots) (regions : Regions OpName ValueId)
    → length entries ≤ i → length ids ≤ i
    → RegionsLeft values m entries ids i old now regions
    → Asks values old now (λ a. RegionsHave a entries (regions_seen values regions))
regions-end values m entries ids i old now regions past passed state =
    let none = drop_of_length-le entries {i = i} past in
    let gone = drop_of_length-le ids {i = i} passed in
    rest-end state.rest (λ a. subst (λ es. RegionsHave a es (regions_seen values state.left))
    (sym none)
    (empty a state.c state.left (subst (λ l. AreRegions m state.c l state.left) gone state.are)))
  where
    empty : (a : Assignment) (c : Numbers) (left : Regions OpName ValueId) → AreRegions m c [] left
        → RegionsHave a [] (regions_seen values left)
    empty a c no_regions are = tt
    empty a c (region blocks rs) are = absurd are

regions-length : (m : Module) (c : Numbers) (values : List Value) (ids : List RegionId)
    (rs : Regions OpName ValueId) → AreRegions m c ids rs
    → length ids ≡ length (regions_seen values rs)
regions-length m c values [] no_regions are = refl
regions-length m c values [] (region blocks rs) are = absurd are
regions-length m c values (x ∷ xs) no_regions are = absurd are
regions-length m c values (x ∷ xs) (region blocks rs) are =
    ap suc (regions-length m (behind_blocks (past_region c) blocks) values xs rs are.2)

pub regions-have-length : (a : Assignment) (entries : List RegionEntry)
    (seen : List (List (List Value))) → RegionsHave a entries seen → length entries ≡ length seen
regions-have-length a [] [] h = refl
regions-have-length a (e ∷ es) (x ∷ xs) h = ap suc (regions-have-length a es xs h.1)
regions-have-length a [] (x ∷ xs) h = absurd h
regions-have-length a (e ∷ es) [] h = absurd h

-- another number of regions is refused
pub regions-count : (values : List Value) (m : Module) (c : Numbers) (entries : List RegionEntry)
    (ids : List RegionId) (s : Slots) (regions : Regions OpName ValueId)
    → AreRegions m c ids regions → (length ids ≡ length entries → ⊥)
    → Refuses values s (λ a. RegionsHave a entries (regions_seen values regions))
regions-count values m c entries ids s regions are differ = record {
  none = λ a w have. differ (regions-length m c values ids regions are
      ∙ sym (regions-have-length a entries _ have));
}
