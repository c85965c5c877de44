-- A region that ends: for each definition of it, from the last one down, what its name means outside
-- is put back.
use Rattle.std.proofs.Common.{◌≡◌, ℕ, suc, ◌<◌, Bool, true, false, List, [], ◌∷◌, ◌++◌, length, set, map, refl, ap, sym, ◌∙◌, subst, arith, slice_get, bytes_eq, if◌then◌else◌}
use Rattle.std.specs.declared.option.Option.{Option}
use Rattle.std.specs.declared.option.Option.TheVariants.{Some, None}
use Rattle.symbol_scopes.specs.declared.slots.FoundBinding.{FoundBinding}
use Rattle.symbol_scopes.specs.declared.slots.NameSlot.{NameSlot}
use Rattle.symbol_scopes.specs.declared.slots.NameSlots.{NameSlots}
use Rattle.symbol_scopes.specs.ScopeMarks.{Name, Binding}
use Rattle.symbol_scopes.specs.Meanings.{found_at}
use Rattle.symbol_scopes.specs.Listed.{last_own}
use Rattle.symbol_scopes.specs.Slots.{slot_of, AreDistinctNames, AreSlots}
use Rattle.symbol_scopes.proofs.Lists.{set-map, map-same, same-name}
use Rattle.symbol_scopes.proofs.Finds.{bound, from, from-bound, from-end}
use Rattle.symbol_scopes.proofs.Turns.{IsNext, next-is, first-stepped, unseen}

module _ (ns : List Name) (ds : List Binding) (r : ℕ) (rest : List ℕ) where
  -- what stands for a name once those definitions of it that are found were visited
  abbrev pub left : Option FoundBinding → Name → NameSlot
  left None x = slot_of ds (r ∷ rest) x
  left (Some f) x = slot_of ds rest x

  -- a region that ends: its definitions from `at` down are still to be put back
  pub record Ends (at : Option ℕ) (t : NameSlots) : Type 0 where
    pub slots : t.slots.items ≡ map (λ x. left (from ds (bound at) r x) x) ns
    pub room : length t.saved.items ≡ length ds
    pub saved : (inner more : List ℕ) (q : ℕ) → r ∷ rest ≡ inner ++ q ∷ more
        → (d : ℕ) (s : Binding) → slice_get ds d ≡ Some s → s.region ≡ q
        → slice_get t.saved.items d ≡ Some (slot_of ds more s.name)
    pub next : IsNext ds r at

  -- a region ends with none of its definitions visited
  pub ends-start : (t : NameSlots) → AreSlots ns ds (r ∷ rest) t → Ends (last_own ds r (length ds)) t
  ends-start t h = record {
    slots = h.slots ∙ map-same (slot_of ds (r ∷ rest))
        (λ x. left (from ds (bound (last_own ds r (length ds))) r x) x) ns
        (λ x. sym (ap (λ o. left o x)
        (from-bound ds (length ds) r x ∙ from-end ds r x)));
    room = h.room;
    saved = h.saved;
    next = next-is ds r (length ds) (omega arith);
  }

  -- with all definitions visited the region is closed
  pub ends-end : (t : NameSlots) → Ends None t → AreSlots ns ds rest t
  ends-end t h = record {
    slots = h.slots ∙ map-same (λ x. left (from ds 0 r x) x) (slot_of ds rest) ns each;
    room = h.room;
    saved = λ inner more q cut. h.saved (r ∷ inner) more q (ap (λ l. r ∷ l) cut);
  }
    where
      each : (x : Name) → left (from ds 0 r x) x ≡ slot_of ds rest x
      each x = by (from ds 0 r x) refl
        where
          by : (o : Option FoundBinding) → from ds 0 r x ≡ o → left o x ≡ slot_of ds rest x
          by None e = unseen ds rest r 0 x e
          by (Some f) e = refl

  -- one definition more was put back
  pub ends-step : (t : NameSlots) (d : ℕ) (b : Ends (Some d) t) (s : Binding) → slice_get ds d ≡ Some s
      → (n : ℕ) (next : Option ℕ) (out : NameSlot) (new : NameSlots)
      → AreDistinctNames ns → slice_get ns n ≡ Some s.name → s.region ≡ r
      → next ≡ last_own ds r d → slice_get t.saved.items d ≡ Some out
      → new.saved.items ≡ t.saved.items → new.slots.items ≡ set t.slots.items n out
      → Ends next new
  ends-step t d b s there n next out new distinct named region follows kept same slots = record {
    slots = slots ∙ ap (λ l. set l n out) b.slots
        ∙ set-map (λ x. left (from ds (suc d) r x) x) out ns n s.name distinct named
        ∙ map-same (λ x. if bytes_eq s.name x then out else left (from ds (suc d) r x) x)
        (λ x. left (from ds (bound next) r x) x) ns each;
    room = ap length same ∙ b.room;
    saved = λ inner more q cut e z at in_q.
        ap (λ l. slice_get l e) same ∙ b.saved inner more q cut e z at in_q;
    next = subst (IsNext ds r) (sym follows) (next-is ds r d (omega arith));
  }
    where
      d-within : d < length ds
      d-within = b.next.within

      out-is : out ≡ slot_of ds rest s.name
      out-is = let h = b.saved [] rest r refl d s there region in cc

      stepped : (x : Name) → from ds (bound next) r x
          ≡ (if bytes_eq s.name x then Some (found_at d s) else from ds (suc d) r x)
      stepped = first-stepped ds r d s next there region follows

      each : (x : Name) → (if bytes_eq s.name x then out else left (from ds (suc d) r x) x)
          ≡ left (from ds (bound next) r x) x
      each x = by (bytes_eq s.name x) refl
        where
          by : (c : Bool) → bytes_eq s.name x ≡ c
              → (if c then out else left (from ds (suc d) r x) x)
              ≡ left (from ds (bound next) r x) x
          by true e =
              out-is ∙ ap (slot_of ds rest) (same-name s.name x e)
              ∙ sym (ap (λ o. left o x) (stepped x
              ∙ ap (λ b. if b then Some (found_at d s) else from ds (suc d) r x) e))
          by false e =
              sym (ap (λ o. left o x) (stepped x
              ∙ ap (λ b. if b then Some (found_at d s) else from ds (suc d) r x) e))
