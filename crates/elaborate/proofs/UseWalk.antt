-- A walk over what stands in a tree, beside the operations of the store and their uses.
use Rattle.std.proofs.Common.{◌≡◌, ℕ, ◌+◌, ◌<◌, ◌≤◌, Bool, List, []}
use Rattle.std.proofs.Common.{◌∷◌, ◌++◌, length, map, take, drop, get_or, refl, sym, ◌∙◌, ap, subst}
use Rattle.std.proofs.Common.{Bor, arith, append_assoc, append-nil, length-append, length-take}
use Rattle.std.proofs.Common.{slice_get, Some}
use Rattle.std.proofs.lemmas.List.{length-map, map-append, take_more, take-append-drop}
use Rattle.std.specs.List.{AllZip}
use Rattle.std.specs.Option.{ForSome}
use Rattle.std.specs.declared.option.Option.{Option}
use Rattle.std.specs.declared.option.Option.TheVariants.{None}
use Rattle.attr_value.specs.declared.head.ValueId.{ValueId}
use Rattle.completion_laws.proofs.Zips.{zip-long}
use Rattle.elaborate.specs.Uses.{HasItsUses, HasOperands, IsWrongUse}
use Rattle.first_fault.specs.declared.fault.Fault.{Fault}
use Rattle.first_fault.specs.Firsts.{IsFirst, earlier_of}
use Rattle.generic_syntax.specs.declared.module_cst.FormCst.{FormCst, Generic, out-FormCst}
use Rattle.generic_syntax.specs.declared.module_cst.GenericCst.{GenericCst, out-GenericCst}
use Rattle.generic_syntax.specs.declared.module_cst.OpCst.{OpCst, out-OpCst}
use Rattle.generic_syntax.specs.declared.module_cst.UseCst.{UseCst}
use Rattle.ir_store.proofs.Sites.{an-op}
use Rattle.ir_store.specs.declared.rows.OpId.{OpId}
use Rattle.ir_store.specs.Modules.{types_in}
use Rattle.ir_store.specs.Named.{op_at}
use Rattle.ir_store.specs.Numbering.{OpSite, ops_in}
use Rattle.ir_store.specs.Store.{OpName, Module, StoredHead}
use Rattle.module_builder.specs.Fit.{uses_in, uses_of}
use Rattle.module_builder.proofs.Taking.{ops_so_far, uses-joined}
use Rattle.module_builder.proofs.Trees.{ops-of-joined}
use Rattle.module_faults.specs.declared.standing.Standing.{Standing as Listed}
use Rattle.module_faults.specs.declared.standing.Standing.TheVariants.{Op, Region, Block}
use Rattle.module_faults.specs.Listed.{seen}
use Rattle.module_faults.specs.ModuleFaults.{operands_at}
use Rattle.module_faults.specs.Standings.{Standing, an_op, a_region, a_block, ops_of}
use Rattle.module_meaning.proofs.Places.{some-same}
use Rattle.module_meaning.specs.Facts.{FormSeen}
use Rattle.symbol_scopes.proofs.Lists.{get-before}
use Rattle.elaborate.proofs.WrongUses.{GoesOn, get-behind, get-between, goes-left, none-wrong, wrong-behind}

-- ---- operations beside their trees

-- an operation has as many operands as its form shows uses, by what a row says of it
pub operands-there : (m : Module) (op : OpId) (form : FormSeen) (head : StoredHead)
    → op.0 < length (ops_in m) → ForSome (op_at m op) (HasOperands form)
    → ForSome (op_at m op) (λ x. x.head ≡ head)
    → length (uses_in form) ≡ length head.operands
operands-there m op form head less fits is =
    let there = an-op m op.0 less in
    (fits there.0 there.1).many ∙ ap (λ (h : StoredHead). length h.operands) (is there.0 there.1)

-- the uses of a generic form
pub generic-uses : (form : FormCst) (g : GenericCst) → form ≡ Generic g
    → uses_in (out-FormCst form) ≡ (out-GenericCst g).operands
unfolding out-GenericCst out-FormCst denote.Hole.Carrier.out
generic-uses form g is = ap (λ f. uses_in (out-FormCst f)) is

-- the operands of some operations, and of others behind them
pub operands-joined : {N V : Type 0} (xs ys : List (OpSite N V))
    → operands_at (xs ++ ys) ≡ operands_at xs ++ operands_at ys
operands-joined [] ys = refl
operands-joined (x ∷ xs) ys =
    ap (λ l. x.head.operands ++ l) (operands-joined xs ys)
    ∙ sym (append_assoc x.head.operands (operands_at xs) (operands_at ys))

abbrev Sites : Type 0
Sites = List (OpSite OpName ValueId)

-- as many operands as uses
pub operands-many : (cs : List OpCst) (sites : Sites) → AllZip HasItsUses cs sites
    → length (uses_of cs) ≡ length (operands_at sites)
operands-many [] [] h = refl
operands-many [] (x ∷ sites) h = absurd h
operands-many (c ∷ cs) [] h = absurd h
operands-many (c ∷ cs) (x ∷ sites) (h, hs) =
    let here = h.many in
    let rest = operands-many cs sites hs in
    let left = length-append (uses_in (out-FormCst (out-OpCst c).form)) (uses_of cs) in
    let right = length-append x.head.operands (operands_at sites) in
    omega (arith, here, rest, left, right)

-- what stands beside a tree
record Cut (xs : List OpCst) (c : OpCst) (sites : Sites) : Type 0 where
  before : Sites
  site : OpSite OpName ValueId
  after : Sites
  is : sites ≡ before ++ site ∷ after
  front : AllZip HasItsUses xs before
  fits : HasItsUses c site

cut-at : (xs : List OpCst) (c : OpCst) (ys : List OpCst) (sites : Sites)
    → AllZip HasItsUses (xs ++ c ∷ ys) sites → Cut xs c sites
cut-at [] c ys [] h = absurd h
cut-at [] c ys (s ∷ sites) (h, hs) =
    record { before = []; site = s; after = sites; is = refl; front = tt; fits = h }
cut-at (x ∷ xs) c ys [] h = absurd h
cut-at (x ∷ xs) c ys (s ∷ sites) (h, hs) =
    let it = cut-at xs c ys sites hs in
    record {
      before = s ∷ it.before;
      site = it.site;
      after = it.after;
      is = ap (λ l. s ∷ l) it.is;
      front = (h, it.front);
      fits = it.fits;
    }

-- the operation at its place, with its operands
pub record NextOp (sites : Sites) (ops uses : ℕ) (c : OpCst) : Type 0 where
  pub site : OpSite OpName ValueId
  pub there : slice_get sites ops ≡ Some site
  pub fits : HasItsUses c site
  pub numbers : GoesOn uses (length (uses_in (out-FormCst (out-OpCst c).form)))
      (operands_at sites) site.head.operands

-- what stands at the place of an operation has as many operands
pub fits-there : (sites : Sites) (ops uses : ℕ) (c : OpCst) → NextOp sites ops uses c
    → (x : OpSite OpName ValueId) → slice_get sites ops ≡ Some x → HasItsUses c x
fits-there sites ops uses c next x is =
    subst (HasItsUses c) (some-same next.site x (sym next.there ∙ is)) next.fits

next-there : (xs : List OpCst) (c : OpCst) (ys : List OpCst) (sites : Sites)
    → AllZip HasItsUses (xs ++ c ∷ ys) sites → NextOp sites (length xs) (length (uses_of xs)) c
next-there xs c ys sites h = record {
  site = it.site;
  there = ap (λ n. slice_get sites n) (zip-long HasItsUses xs it.before it.front)
      ∙ ap (λ l. slice_get l (length it.before)) it.is
      ∙ get-between it.before it.after it.site;
  fits = it.fits;
  numbers = record { same = same };
}
  where
    it : Cut xs c sites
    it = cut-at xs c ys sites h

    flat : operands_at sites
        ≡ operands_at it.before ++ (it.site.head.operands ++ operands_at it.after)
    flat = ap operands_at it.is ∙ operands-joined it.before (it.site ∷ it.after)

    same : (j : ℕ) → j < length (uses_in (out-FormCst (out-OpCst c).form))
        → slice_get (operands_at sites) (length (uses_of xs) + j)
        ≡ slice_get it.site.head.operands j
    same j less =
        let many = it.fits.many in
        let within : j < length it.site.head.operands = omega (arith, many, less) in
        ap (λ n. slice_get (operands_at sites) (n + j))
        (operands-many xs it.before it.front)
        ∙ ap (λ l. slice_get l (length (operands_at it.before) + j)) flat
        ∙ get-behind (operands_at it.before) (it.site.head.operands ++ operands_at it.after) j
        ∙ get-before it.site.head.operands (operands_at it.after) j within

-- ---- over a list of what stands

few-ops : (ss : List Standing) → length (ops_of ss) ≤ length ss
few-ops [] = omega arith
few-ops (an_op c last ∷ ss) = let rest = few-ops ss in omega (arith, rest)
few-ops (a_region n r ∷ ss) = let rest = few-ops ss in omega (arith, rest)
few-ops (a_block b ∷ ss) = let rest = few-ops ss in omega (arith, rest)

-- the operation that stands somewhere, or none
pub other-stands : (s : Listed)
    → ((op : Bor OpCst) (is_last : Bool) → s ≡ Op op is_last → ⊥) → ops_of (seen s ∷ []) ≡ []
other-stands (Op op is_last) none = absurd (none op is_last refl)
other-stands (Region region nesting) none = refl
other-stands (Block block) none = refl

-- one thing that stands, behind others
step : (list : List Listed) (i : ℕ) (s : Listed) → i < length list → s ≡ get_or list i s
    → ops_so_far list (i + 1) ≡ ops_so_far list i ++ ops_of (seen s ∷ [])
step list i s less is =
    ap (λ l. ops_of (map seen l))
    (take_more list i s less ∙ ap (λ x. take i list ++ x ∷ []) (sym is))
    ∙ ap ops_of (map-append seen (take i list) (s ∷ []))
    ∙ ops-of-joined (map seen (take i list)) (seen s ∷ [])

-- those behind a place
whole : (list : List Listed) (i : ℕ)
    → ops_of (map seen list) ≡ ops_so_far list i ++ ops_of (map seen (drop i list))
whole list i =
    ap (λ l. ops_of (map seen l)) (sym (take-append-drop i list))
    ∙ ap ops_of (map-append seen (take i list) (drop i list))
    ∙ ops-of-joined (map seen (take i list)) (map seen (drop i list))

-- what a walk knows behind so many things that stand: how many operations and uses were passed, and
-- the first wrong use among those
pub record Passed (m : Module) (list : List Listed) (shown : List ValueId) (i ops uses : ℕ)
    (first : Option Fault) : Type 0 where
  pub ops_passed : ops ≡ length (ops_so_far list i)
  pub uses_passed : uses ≡ length (uses_of (ops_so_far list i))
  pub wrong : IsFirst (IsWrongUse (types_in m) (uses_of (ops_so_far list i)) shown
      (operands_at (ops_in m))) first

module _ (m : Module) (list : List Listed) (shown : List ValueId) where
  -- no more operations were passed than things
  pub passed-few : (i ops uses : ℕ) (first : Option Fault)
      → Passed m list shown i ops uses first → ops ≤ i
  passed-few i ops uses first p =
      let few = few-ops (map seen (take i list)) in
      let long = length-map (take i list) seen in
      let taken = length-take i list in
      let is = p.ops_passed in
      omega (arith, few, long, taken, is)

  pub passed-none : Passed m list shown 0 0 0 None
  passed-none = record {
    ops_passed = refl;
    uses_passed = refl;
    wrong = none-wrong (types_in m) shown (operands_at (ops_in m));
  }

  -- what stands next is no operation
  pub passed-other : (i ops uses : ℕ) (first : Option Fault) (s : Listed) → i < length list
      → s ≡ get_or list i s → ops_of (seen s ∷ []) ≡ []
      → Passed m list shown i ops uses first → Passed m list shown (i + 1) ops uses first
  passed-other i ops uses first s less is none p =
      let same : ops_so_far list i ≡ ops_so_far list (i + 1) =
      sym (step list i s less is ∙ ap (λ l. ops_so_far list i ++ l) none
      ∙ append-nil (ops_so_far list i)) in
      record {
        ops_passed = p.ops_passed ∙ ap length same;
        uses_passed = p.uses_passed ∙ ap (λ l. length (uses_of l)) same;
        wrong = subst (λ cs. IsFirst (IsWrongUse (types_in m) (uses_of cs) shown
            (operands_at (ops_in m))) first) same p.wrong;
      }

  module _ (i ops uses : ℕ) (first : Option Fault) (s : Listed) (c : OpCst) (less : i < length list)
      (is : s ≡ get_or list i s) (here : ops_of (seen s ∷ []) ≡ c ∷ [])
      (fit : AllZip HasItsUses (ops_of (map seen list)) (ops_in m))
      (p : Passed m list shown i ops uses first) where
    -- what stands next is an operation, in the list of all
    all-ops : ops_of (map seen list)
        ≡ ops_so_far list i ++ c ∷ ops_of (map seen (drop (i + 1) list))
    all-ops =
        let rest = ops_of (map seen (drop (i + 1) list)) in
        whole list (i + 1)
        ∙ ap (λ l. l ++ rest) (step list i s less is ∙ ap (λ l. ops_so_far list i ++ l) here)
        ∙ append_assoc (ops_so_far list i) (c ∷ []) rest

    -- it stands in the store
    pub op-next : NextOp (ops_in m) ops uses c
    op-next =
        let it = next-there (ops_so_far list i) c (ops_of (map seen (drop (i + 1) list)))
        (ops_in m) (subst (λ cs. AllZip HasItsUses cs (ops_in m)) all-ops fit) in
        subst (λ n. NextOp (ops_in m) n uses c) (sym p.ops_passed)
        (subst (λ n. NextOp (ops_in m) (length (ops_so_far list i)) n c) (sym p.uses_passed) it)

    -- its uses are some of all
    pub uses-room : uses + length (uses_in (out-FormCst (out-OpCst c).form))
        ≤ length (uses_of (ops_of (map seen list)))
    uses-room =
        let rest = ops_of (map seen (drop (i + 1) list)) in
        let all = ap (λ l. length (uses_of l)) all-ops in
        let joined = ap length (uses-joined (ops_so_far list i) (c ∷ rest)) in
        let first_long = length-append (uses_of (ops_so_far list i)) (uses_of (c ∷ rest)) in
        let next_long = length-append (uses_in (out-FormCst (out-OpCst c).form)) (uses_of rest) in
        let is = p.uses_passed in
        omega (arith, all, joined, first_long, next_long, is)

    -- and it is passed
    pub passed-op : (b : Option Fault)
        → IsFirst (IsWrongUse (types_in m) (uses_in (out-FormCst (out-OpCst c).form))
        (drop uses shown) op-next.site.head.operands) b
        → Passed m list shown (i + 1) (ops + 1)
        (uses + length (uses_in (out-FormCst (out-OpCst c).form))) (earlier_of first b)
    passed-op b x = record {
      ops_passed =
          let a = p.ops_passed in
          let e = ap length more in
          let n = length-append (ops_so_far list i) (c ∷ []) in
          omega (arith, a, e, n);
      uses_passed =
          let a = p.uses_passed in
          let e = ap length flat in
          let n = length-append (uses_of (ops_so_far list i)) mine in
          omega (arith, a, e, n);
      wrong = subst (λ us. IsFirst (IsWrongUse (types_in m) us shown (operands_at (ops_in m)))
          (earlier_of first b)) (sym flat)
          (wrong-behind (types_in m) (uses_of (ops_so_far list i)) mine uses shown
          (drop uses shown) (operands_at (ops_in m)) op-next.site.head.operands first b
          p.uses_passed (goes-left uses (length mine) shown) op-next.numbers p.wrong x);
    }
      where
        mine : List UseCst
        mine = uses_in (out-FormCst (out-OpCst c).form)

        more : ops_so_far list (i + 1) ≡ ops_so_far list i ++ c ∷ []
        more = step list i s less is ∙ ap (λ l. ops_so_far list i ++ l) here

        flat : uses_of (ops_so_far list (i + 1)) ≡ uses_of (ops_so_far list i) ++ mine
        flat = ap uses_of more ∙ uses-joined (ops_so_far list i) (c ∷ [])
            ∙ ap (λ l. uses_of (ops_so_far list i) ++ l) (append-nil mine)
