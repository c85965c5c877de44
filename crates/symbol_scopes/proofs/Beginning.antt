-- A region that begins: each definition of it is visited, from the last one down.
use Rattle.std.proofs.Common.{◌≡◌, ℕ, suc, ◌<◌, ◌≤◌, inl, inr, Bool, true, false, ◌==◌, List, [], ◌∷◌, ◌++◌, length, get_or, set, map, min, refl, ap, sym, ◌∙◌, subst, arith, slice_get, bytes_eq, if◌then◌else◌}
use Rattle.std.proofs.lemmas.Bool.{cases_lt}
use Rattle.std.proofs.lemmas.Bool.Decides.{nat_tests}
use Rattle.std.proofs.lemmas.List.{length-set}
use Rattle.std.proofs.lemmas.Option.{get_or_from_slice_get, slice_get_within}
use Rattle.std.specs.declared.option.Option.{Option}
use Rattle.std.specs.declared.option.Option.TheVariants.{Some, None}
use Rattle.symbol_scopes.specs.declared.slots.FoundBinding.{FoundBinding}
use Rattle.symbol_scopes.specs.declared.slots.NameSlot.{NameSlot}
use Rattle.symbol_scopes.specs.declared.slots.NameSlots.{NameSlots}
use Rattle.symbol_scopes.specs.ScopeMarks.{Name, Binding}
use Rattle.symbol_scopes.specs.Meanings.{found_at, meant, or_else}
use Rattle.symbol_scopes.specs.Listed.{last_own}
use Rattle.symbol_scopes.specs.Slots.{at_or, least_of, slot_of, Descend, AreDistinctNames, AreSlots, outer_of, outer_found}
use Rattle.symbol_scopes.proofs.Lists.{set-map, map-same, get-written, get-unwritten, same-name}
use Rattle.symbol_scopes.proofs.Finds.{bound, from, from-bound, from-end, last-below, found-is, meant-below, itself, from-known, or_else-known, meant-known, found-again}
use Rattle.symbol_scopes.proofs.Turns.{IsNext, next-is, first-stepped, slot_from, slot-same, unseen}

-- a region that begins: its definitions from b on were visited
pub record Begins (ns : List Name) (ds : List Binding) (r : ℕ) (rest : List ℕ) (at : Option ℕ)
    (t : NameSlots) : Type 0 where
  pub slots : t.slots.items ≡ map (slot_from ds rest r (bound at)) ns
  pub room : length t.saved.items ≡ length ds
  pub outer : (inner more : List ℕ) (q : ℕ) → rest ≡ inner ++ q ∷ more
      → (d : ℕ) (s : Binding) → slice_get ds d ≡ Some s → s.region ≡ q
      → slice_get t.saved.items d ≡ Some (slot_of ds more s.name)
  pub inside : (d : ℕ) (s : Binding) → slice_get ds d ≡ Some s → s.region ≡ r → bound at ≤ d
      → slice_get t.saved.items d ≡ Some (slot_of ds rest s.name)
  pub next : IsNext ds r at

module _ (ns : List Name) (ds : List Binding) (r : ℕ) (rest : List ℕ) where
  -- a region begins with none of its definitions visited
  pub begins-start : (t : NameSlots) → AreSlots ns ds rest t
      → Begins ns ds r rest (last_own ds r (length ds)) t
  begins-start t h = record {
    slots = h.slots ∙ map-same (slot_of ds rest)
        (slot_from ds rest r (bound (last_own ds r (length ds)))) ns
        (λ x. sym (unseen ds rest r (bound (last_own ds r (length ds))) x
        (from-bound ds (length ds) r x ∙ from-end ds r x)));
    room = h.room;
    outer = h.saved;
    inside = λ d s there region behind. absurd (
        let less = last-below ds r (length ds) d s there region (slice_get_within ds d s there) in
        omega arith);
    next = next-is ds r (length ds) (omega arith);
  }

  -- with all definitions visited the region is open
  pub begins-end : (t : NameSlots) → Begins ns ds r rest None t → AreSlots ns ds (r ∷ rest) t
  begins-end t h = record { slots = h.slots; room = h.room; saved = saved }
    where
      saved : (inner more : List ℕ) (q : ℕ) → r ∷ rest ≡ inner ++ q ∷ more
          → (d : ℕ) (s : Binding) → slice_get ds d ≡ Some s → s.region ≡ q
          → slice_get t.saved.items d ≡ Some (slot_of ds more s.name)
      saved [] more q e d s there region =
          let head : r ≡ q = cc in
          let tail : rest ≡ more = cc in
          subst (λ (l : List ℕ). slice_get t.saved.items d ≡ Some (slot_of ds l s.name)) tail
          (h.inside d s there (region ∙ sym head) (omega arith))
      saved (p ∷ inner) more q e d s there region =
          let tail : rest ≡ inner ++ q ∷ more = cc in
          h.outer inner more q tail d s there region

  -- the slot outside is found
  module _ (descend : Descend r rest) (t : NameSlots) (d : ℕ) (b : Begins ns ds r rest (Some d) t)
      (s : Binding) (there : slice_get ds d ≡ Some s) where
    pub outside-is : (slot : NameSlot) → slot ≡ slot_from ds rest r (suc d) s.name
        → outer_of ds slot t.saved.items r ≡ slot_of ds rest s.name
    outside-is slot is =
        subst (λ l. outer_of ds l t.saved.items r ≡ slot_of ds rest s.name) (sym is)
        (ap (λ o. outer_found o inside t.saved.items r)
        (found-again ds (or_else first (meant ds rest s.name))
        (or_else-known ds first (meant ds rest s.name) (from-known ds (suc d) r s.name)
        (meant-known ds rest s.name)))
        ∙ by first refl (meant ds rest s.name) refl)
      where
        first : Option FoundBinding
        first = from ds (suc d) r s.name

        inside : NameSlot
        inside = slot_from ds rest r (suc d) s.name

        other : (n : ℕ) → n < r → (n == r) ≡ false
        other n less = grind (arith, nat_tests)

        by : (o : Option FoundBinding) → first ≡ o
            → (m : Option FoundBinding) → meant ds rest s.name ≡ m
            → outer_found (or_else o m) inside t.saved.items r ≡ slot_of ds rest s.name
        by None e None m = unseen ds rest r (suc d) s.name e
        by None e (Some g) m =
            ap (λ b. if b then get_or t.saved.items g.at inside else inside)
            (other g.region (meant-below ds rest r s.name g descend m))
            ∙ unseen ds rest r (suc d) s.name e
        by (Some f) e m is =
            let h = found-is ds (suc d) r s.name f e in
            let region : f.region ≡ r = ap (λ k. k.region) h.is ∙ h.own in
            let behind = h.behind in
            let kept = b.inside f.at h.binding h.there h.own (omega arith) in
            ap (λ n. if n == r then get_or t.saved.items f.at inside else inside) region
            ∙ ap (λ b. if b then get_or t.saved.items f.at inside else inside) (itself r)
            ∙ get_or_from_slice_get t.saved.items f.at (slot_of ds rest h.binding.name) inside kept
            ∙ ap (slot_of ds rest) h.named

    -- one definition more was visited
    pub begins-step : (n : ℕ) (out : NameSlot) (next : Option ℕ) (new : NameSlots)
        → AreDistinctNames ns → slice_get ns n ≡ Some s.name → s.region ≡ r
        → out ≡ slot_of ds rest s.name → next ≡ last_own ds r d
        → new.saved.items ≡ set t.saved.items d out
        → new.slots.items ≡ set t.slots.items n
        (record { found = d; least = min d out.least })
        → Begins ns ds r rest next new
    begins-step n out next new distinct named region is follows saved slots = record {
      slots = slots ∙ ap (λ l. set l n v) b.slots
          ∙ set-map (slot_from ds rest r (suc d)) v ns n s.name distinct named
          ∙ map-same (λ x. if bytes_eq s.name x then v else slot_from ds rest r (suc d) x)
          (slot_from ds rest r (bound next)) ns each;
      room = ap length saved ∙ length-set t.saved.items d out ∙ b.room;
      outer = outer;
      inside = inside;
      next = subst (IsNext ds r) (sym follows) (next-is ds r d (omega arith));
    }
      where
        v : NameSlot
        v = record { found = d; least = min d out.least }

        d-within : d < length ds
        d-within = b.next.within

        stepped : (x : Name) → from ds (bound next) r x
            ≡ (if bytes_eq s.name x then Some (found_at d s) else from ds (suc d) r x)
        stepped = first-stepped ds r d s next there region follows

        each : (x : Name)
            → (if bytes_eq s.name x then v else slot_from ds rest r (suc d) x)
            ≡ slot_from ds rest r (bound next) x
        each x = by (bytes_eq s.name x) refl
          where
            by : (c : Bool) → bytes_eq s.name x ≡ c
                → (if c then v else slot_from ds rest r (suc d) x)
                ≡ slot_from ds rest r (bound next) x
            by true e =
                let same : s.name ≡ x = same-name s.name x e in
                let found : from ds (bound next) r x ≡ Some (found_at d s) =
                stepped x ∙ ap (λ b. if b then Some (found_at d s) else from ds (suc d) r x) e in
                let least : out.least ≡ least_of ds rest x =
                ap (λ l. l.least) is ∙ ap (least_of ds rest) same in
                slot-same v (slot_from ds rest r (bound next) x)
                (sym (ap (λ o. at_or (length ds) (or_else o (meant ds rest x))) found))
                (ap (min d) least
                ∙ sym (ap (λ o. min (at_or (length ds) o) (least_of ds rest x)) found))
            by false e =
                let found : from ds (bound next) r x ≡ from ds (suc d) r x =
                stepped x ∙ ap (λ b. if b then Some (found_at d s) else from ds (suc d) r x) e in
                slot-same (slot_from ds rest r (suc d) x) (slot_from ds rest r (bound next) x)
                (sym (ap (λ o. at_or (length ds) (or_else o (meant ds rest x))) found))
                (sym (ap (λ o. min (at_or (length ds) o) (least_of ds rest x)) found))

        -- a definition of another region isn't written
        outer : (inner more : List ℕ) (q : ℕ) → rest ≡ inner ++ q ∷ more
            → (e : ℕ) (z : Binding) → slice_get ds e ≡ Some z → z.region ≡ q
            → slice_get new.saved.items e ≡ Some (slot_of ds more z.name)
        outer inner more q cut e z at region_of =
            ap (λ l. slice_get l e) saved
            ∙ get-unwritten t.saved.items d e out differ
            ∙ b.outer inner more q cut e z at region_of
          where
            below : (inner : List ℕ) (r q : ℕ) (more : List ℕ) → Descend r (inner ++ q ∷ more) → q < r
            below [] r q more descend = descend.0
            below (p ∷ inner) r q more descend =
                let h = below inner p q more descend.1 in let g = descend.0 in omega arith

            differ : d ≡ e → ⊥
            differ same =
                let less : q < r = below inner r q more (subst (Descend r) cut descend) in
                let here : slice_get ds d ≡ Some z = subst (λ k. slice_get ds k ≡ Some z) (sym same) at in
                let one : s ≡ z = cc in
                let alike : s.region ≡ z.region = ap (λ k. k.region) one in
                omega arith

        inside : (e : ℕ) (z : Binding) → slice_get ds e ≡ Some z → z.region ≡ r → bound next ≤ e
            → slice_get new.saved.items e ≡ Some (slot_of ds rest z.name)
        inside e z at in_r behind = elim (cases_lt e d) [
          | inl less ↦ absurd (
              let h : e < bound (last_own ds r d) = last-below ds r d e z at in_r less in
              let g : bound next ≡ bound (last_own ds r d) = ap bound follows in
              omega arith)
          | inr le ↦ elim (cases_lt d e) [
            | inl less ↦
                ap (λ l. slice_get l e) saved
                ∙ get-unwritten t.saved.items d e out (λ same. omega arith)
                ∙ b.inside e z at in_r (omega arith)
            | inr le2 ↦
                let same : d ≡ e = omega arith in
                let room = b.room in
                let here : slice_get ds d ≡ Some z = subst (λ k. slice_get ds k ≡ Some z) (sym same) at in
                let one : s ≡ z = cc in
                ap (λ l. slice_get l e) saved
                ∙ subst (λ k. slice_get (set t.saved.items d out) k ≡ Some out) same
                (get-written t.saved.items d out (omega arith))
                ∙ ap Some (is ∙ ap (λ (k : Binding). slot_of ds rest k.name) one)
          ]
        ]
