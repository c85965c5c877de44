-- The definition that a walk over a region is at, as the tables have it.
use Rattle.std.proofs.Common.{◌≡◌, ℕ, suc, ◌<◌, List, [], ◌∷◌, length, get_or, map, refl, ap, sym, ◌∙◌, subst, arith, slice_get, Vec}
use Rattle.std.proofs.Common.{Global}
use Rattle.std.proofs.lemmas.List.{length-map}
use Rattle.std.proofs.lemmas.Option.{get_or_from_slice_get, slice_get-get_or, slice_get_read, slice_get_within}
use Rattle.std.specs.declared.option.Option.{Option}
use Rattle.std.specs.declared.option.Option.TheVariants.{Some, None}
use Rattle.symbol_scopes.specs.declared.slots.NameSlot.{NameSlot}
use Rattle.symbol_scopes.specs.declared.rows.BindingRow.{BindingRow}
use Rattle.symbol_scopes.specs.declared.rows.Listed.{Listed}
use Rattle.symbol_scopes.specs.ScopeMarks.{Name, Binding, own, behind_own}
use Rattle.symbol_scopes.specs.Calls.{numbered_name}
use Rattle.symbol_scopes.specs.Listed.{last_own, bindings_in, binding_of, IsListed}
use Rattle.symbol_scopes.specs.Slots.{Descend}
use Rattle.symbol_scopes.proofs.Lists.{get-map}
use Rattle.symbol_scopes.proofs.Finds.{bound, IsOwn, last-is}

-- what the row of a definition of the region says
pub record Visited (ns : List Name) (l : Listed) (r d : ℕ) (row : BindingRow) : Type 0 where
  pub there : slice_get (bindings_in ns l) d ≡ Some (binding_of ns row)
  pub named : slice_get ns row.name ≡ Some (numbered_name ns row.name)
  pub region : row.region ≡ r
  pub follows : row.next ≡ last_own (bindings_in ns l) r d

-- a definition of the region has a row
pub own-within : (ns : List Name) (l : Listed) (r k d : ℕ) → IsOwn (bindings_in ns l) r k d
    → d < l.rows.len
own-within ns l r k d is =
    let w = is.within in
    let m = length-map l.rows.items (binding_of ns) in
    let o = l.rows.ok.0 in
    omega arith

-- the row of a definition of the region
pub visited : (ns : List Name) (l : Listed) (n r k d : ℕ) (row : BindingRow)
    → IsListed ns (bindings_in ns l) n l → IsOwn (bindings_in ns l) r k d
    → row ≡ get_or l.rows.items d row → Visited ns l r d row
visited ns l n r k d row h is reads = record {
  there = at;
  named = slice_get-get_or ns row.name [] (h.named d row raw);
  region = region;
  follows = h.next d row raw ∙ ap (λ q. last_own (bindings_in ns l) q d) region;
}
  where
    raw : slice_get l.rows.items d ≡ Some row
    raw = slice_get_read l.rows.items l.rows.len d row l.rows.ok.0 (own-within ns l r k d is) reads

    at : slice_get (bindings_in ns l) d ≡ Some (binding_of ns row)
    at = get-map (binding_of ns) l.rows.items d row raw

    region : row.region ≡ r
    region = let h = is.there in let g = at in let one : is.binding ≡ binding_of ns row = cc in
        sym (ap (λ x. x.region) one) ∙ is.region

-- the head of a region is its last definition
pub head-is : (ns : List Name) (l : Listed) (n r : ℕ) (x : Option ℕ)
    → IsListed ns (bindings_in ns l) n l → r < length l.heads.items
    → x ≡ get_or l.heads.items r x → x ≡ last_own (bindings_in ns l) r (length (bindings_in ns l))
head-is ns l n r x h within reads =
    let raw : slice_get l.heads.items r ≡ Some x =
    slice_get_read l.heads.items (length l.heads.items) r x refl within reads in
    let c = h.count in
    let head = h.heads r (omega arith) in
    cc

-- what stands at the number of a name
pub slot-read : (f : Name → NameSlot) (ns : List Name) (slots : List NameSlot) (n : ℕ) (x : Name)
    (v : NameSlot) → slots ≡ map f ns → slice_get ns n ≡ Some x → v ≡ get_or slots n v → v ≡ f x
slot-read f ns slots n x v is named reads =
    reads ∙ ap (λ l. get_or l n v) is
    ∙ get_or_from_slice_get (map f ns) n (f x) v (get-map f ns n x named)

-- the name of a row has a slot
pub name-within : (f : Name → NameSlot) (ns : List Name) (slots : Vec NameSlot Global) (n : ℕ) (x : Name)
    → slots.items ≡ map f ns → slice_get ns n ≡ Some x → n < slots.len
name-within f ns slots n x is named =
    let w = slice_get_within ns n x named in
    let m = length-map ns f in
    let c : length slots.items ≡ length (map f ns) = ap length is in
    let o = slots.ok.0 in
    omega arith

-- the next definition stands lower
pub falls : (ds : List Binding) (r d : ℕ) (next : Option ℕ) → next ≡ last_own ds r d
    → bound next < suc d
falls ds r d next is = subst (λ o. bound o < suc d) (sym is) (by (last_own ds r d) refl)
  where
    by : (o : Option ℕ) → last_own ds r d ≡ o → bound o < suc d
    by None e = omega arith
    by (Some k) e = let h = last-is ds r d k e in let b = h.below in omega arith

-- the open regions are the innermost one and those round it
pub round-parts : (r : ℕ) (round : List ℕ) → r ≡ own round → 0 < length round
    → r ∷ behind_own round ≡ round
round-parts r [] is more = absurd (omega arith)
round-parts r (q ∷ rest) is more = ap (λ n. n ∷ rest) is

-- the regions round the innermost one have lower numbers
pub descend-behind : (n : ℕ) (round : List ℕ) → Descend n round
    → Descend (own round) (behind_own round)
descend-behind n [] h = tt
descend-behind n (r ∷ rest) h = h.1
