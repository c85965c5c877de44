-- Bytes that are appended in turn.
--
-- What a sink got in pieces is what it got of all of them: all where each was appended whole, a
-- front where one of them was cut.
use Rattle.std.proofs.Common.{◌≡◌, ◌<◌, ◌≤◌, List, ℕ, suc, ◌+◌, ◌-◌, ◌∷◌, ◌++◌, length, take, drop, min, get_or}
use Rattle.std.proofs.Common.{[], append_assoc, append-nil, arith, refl, ap, sym, subst, ◌∙◌}
use Rattle.std.specs.List.{flat_map}
use Rattle.std.proofs.Math.Seq.{take-append-add, take-suc}
use Rattle.std.proofs.lemmas.Grind.{flat_map-append}
use Rattle.std.proofs.lemmas.List.{take-append-le, take_min, take-append-drop}
use Rattle.std.specs.declared.option.Option.{Option}
use Rattle.std.specs.declared.option.Option.TheVariants.{Some, None}
use Rattle.std.specs.Io.KnownBytes.{Appends}
use Rattle.irdl_bytes.specs.Outside.{AppendsPrefix}
use Rattle.text_layout.specs.Pieces.{Sends}

-- the first piece and then the second are the two
pub appends-then : (a b c : Option (List ℕ)) (xs ys : List ℕ)
    → Appends a b xs → Appends b c ys → Appends a c (xs ++ ys)
appends-then None b c xs ys h k = tt
appends-then (Some x) None c xs ys h k = absurd h
appends-then (Some x) (Some y) None xs ys h k = absurd k
appends-then (Some x) (Some y) (Some z) xs ys h k = grind (arith, append_assoc, h, k)

-- a front of the second piece, after the whole first one, is a front of the two
pub fronts-then : (a b c : Option (List ℕ)) (xs ys zs : List ℕ)
    → Appends a b xs → AppendsPrefix b c ys → AppendsPrefix a c (xs ++ (ys ++ zs))
fronts-then None b c xs ys zs h k = (0, tt)
fronts-then (Some x) None c xs ys zs h k = absurd h
fronts-then (Some x) (Some y) None xs ys zs h k = absurd k.1
fronts-then (Some x) (Some y) (Some z) xs ys zs h k =
    let taken = min k.0 (length ys) in
    let e : take (length xs + min k.0 (length ys)) (xs ++ (ys ++ zs)) ≡ xs ++ take k.0 ys =
    rw (
      take-append-add xs (ys ++ zs) taken,
      take-append-le taken ys zs (omega arith),
      take_min k.0 ys,
    ) refl in
    (length xs + min k.0 (length ys), rw e (grind (arith, append_assoc, h, k.1)))

-- the first bytes of two pieces, where they pass the first one
pub cut-behind : (xs ys : List ℕ) (n : ℕ)
    → length xs ≤ n → take n (xs ++ ys) ≡ xs ++ take (n - length xs) ys
cut-behind xs ys n le =
    let is : n ≡ length xs + (n - length xs) = omega arith in
    ap (λ k. take k (xs ++ ys)) is ∙ take-append-add xs ys (n - length xs)

-- ---- pieces that are held back

-- a sink that is left alone got nothing
pub appends-nothing : (b : Option (List ℕ)) → Appends b b []
appends-nothing None = tt
appends-nothing (Some bs) = sym (append-nil bs)

-- a front of the second bytes, behind all of the first
pub front-behind : (a b c : Option (List ℕ)) (xs ys : List ℕ)
    → Appends a b xs → AppendsPrefix b c ys → AppendsPrefix a c (xs ++ ys)
front-behind a b c xs ys h k =
    subst (λ t. AppendsPrefix a c (xs ++ t)) (append-nil ys) (fronts-then a b c xs ys [] h k)

-- a front of bytes is a front of longer ones
pub front-longer : (a b : Option (List ℕ)) (xs ys : List ℕ)
    → AppendsPrefix a b xs → AppendsPrefix a b (xs ++ ys)
front-longer a b xs ys h = fronts-then a a b [] xs ys (appends-nothing a) h

-- nothing is sent of bytes that are all held
pub sends-held : (b : Option (List ℕ)) (held : List ℕ) → Sends b b held held
sends-held b held = record { sent = []; got = appends-nothing b; all = refl }

-- what was held is sent, and other bytes are held
pub sends-before : (a b : Option (List ℕ)) (held next : List ℕ)
    → Appends a b held → Sends a b (held ++ next) next
sends-before a b held next h = record { sent = held; got = h; all = refl }

-- all is sent, and nothing is held
pub sends-all : (a b c : Option (List ℕ)) (held next : List ℕ)
    → Appends a b held → Appends b c next → Sends a c (held ++ next) []
sends-all a b c held next h k =
    record { sent = held ++ next; got = appends-then a b c held next h k; all = append-nil _ }

-- what was sent before, and of what was held then, is all that was sent
pub sends-then : (a b c : Option (List ℕ)) (owed held next now : List ℕ)
    → Sends a b owed held → Sends b c (held ++ next) now → Sends a c (owed ++ next) now
sends-then a b c owed held next now s t = record {
  sent = s.sent ++ t.sent;
  got = appends-then a b c s.sent t.sent s.got t.got;
  all =
      append_assoc s.sent t.sent now ∙ ap (λ u. s.sent ++ u) t.all
      ∙ sym (append_assoc s.sent held next) ∙ ap (λ u. u ++ next) s.all;
}

-- the last bytes that were held are sent
pub sends-last : (a b c : Option (List ℕ)) (owed held : List ℕ)
    → Sends a b owed held → Appends b c held → Appends a c owed
sends-last a b c owed held s h =
    subst (Appends a c) s.all (appends-then a b c s.sent held s.got h)

-- a front of what was held, behind what was sent
pub sends-front : (a b c : Option (List ℕ)) (owed held : List ℕ)
    → Sends a b owed held → AppendsPrefix b c held → AppendsPrefix a c owed
sends-front a b c owed held s h =
    subst (AppendsPrefix a c) s.all (front-behind a b c s.sent held s.got h)

-- a front of what was held and of the next bytes, behind what was sent
pub sends-front-next : (a b c : Option (List ℕ)) (owed held next rest : List ℕ)
    → Sends a b owed held → AppendsPrefix b c (held ++ next)
    → AppendsPrefix a c ((owed ++ next) ++ rest)
sends-front-next a b c owed held next rest s h =
    let longer : Sends a b (owed ++ next) (held ++ next) = record {
      sent = s.sent;
      got = s.got;
      all = sym (append_assoc s.sent held next) ∙ ap (λ u. u ++ next) s.all;
    } in
    front-longer a c (owed ++ next) rest (sends-front a b c (owed ++ next) (held ++ next) longer h)

-- ---- the pieces of a list

module _ {P : Type 0} (f : P → List ℕ) (xs : List P) (i : ℕ) (d : P) (less : i < length xs) where
  one-more : flat_map f (take i xs) ++ f (get_or xs i d) ≡ flat_map f (take (suc i) xs)
  one-more =
      ap (λ ys. flat_map f (take i xs) ++ ys) (sym (append-nil (f (get_or xs i d))))
      ∙ sym (flat_map-append f (take i xs) (get_or xs i d ∷ []))
      ∙ ap (flat_map f) (sym (take-suc xs i d less))

  and-others : (flat_map f (take i xs) ++ f (get_or xs i d)) ++ flat_map f (drop (suc i) xs)
      ≡ flat_map f xs
  and-others =
      ap (λ ys. ys ++ flat_map f (drop (suc i) xs)) one-more
      ∙ sym (flat_map-append f (take (suc i) xs) (drop (suc i) xs))
      ∙ ap (flat_map f) (take-append-drop (suc i) xs)

  -- behind the first i pieces, one more
  pub sends-piece : (a b c : Option (List ℕ)) (held now : List ℕ)
      → Sends a b (flat_map f (take i xs)) held → Sends b c (held ++ f (get_or xs i d)) now
      → Sends a c (flat_map f (take (suc i) xs)) now
  sends-piece a b c held now s t =
      subst (λ owed. Sends a c owed now) one-more
      (sends-then a b c (flat_map f (take i xs)) held (f (get_or xs i d)) now s t)

  -- behind the first i pieces, a front of what is held and of the next one
  pub front-piece : (a b c : Option (List ℕ)) (held : List ℕ)
      → Sends a b (flat_map f (take i xs)) held → AppendsPrefix b c (held ++ f (get_or xs i d))
      → AppendsPrefix a c (flat_map f xs)
  front-piece a b c held s h =
      subst (AppendsPrefix a c) and-others
      (sends-front-next a b c (flat_map f (take i xs)) held (f (get_or xs i d))
      (flat_map f (drop (suc i) xs)) s h)

pub ruleset appending = (
  appends-then,
  appends-nothing,
  fronts-then,
  front-behind,
  front-longer,
  sends-held,
  sends-before,
  sends-all,
)
