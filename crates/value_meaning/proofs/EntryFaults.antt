-- The faults of entries: those of keys that stand before, and those of the entries' values.
use Rattle.std.proofs.Common.{◌≡◌, ◌⊎◌, inl, inr, ℕ}
use Rattle.std.proofs.Common.{List, [], ◌∷◌, ◌++◌, Contains}
use Rattle.std.proofs.Common.{refl, sym, ◌∙◌, ap, subst, append_assoc}
use Rattle.std.proofs.lemmas.List.{append-nil}
use Rattle.std.specs.List.{flat_map}
use Rattle.std.specs.declared.option.Option.{Option}
use Rattle.std.specs.declared.option.Option.TheVariants.{Some, None}
use Rattle.first_fault.specs.declared.fault.Fault.{Fault}
use Rattle.first_fault.specs.Firsts.{earlier_of, IsFirst}
use Rattle.first_fault.proofs.Firsts.{first-either, first-same}
use Rattle.ir_lexer.specs.Spelling.{Text}
use Rattle.value_meaning.specs.declared.code.TheConstants.{KEY_REPEATED}
use Rattle.value_meaning.specs.Entered.{seen_keys, seen_values, key_claims}
use Rattle.value_meaning.specs.Faults.{IsFaultOf, IsFaultAmong}
use Rattle.value_meaning.specs.Judging.{Ground}
use Rattle.value_meaning.specs.Meaning.{Mark, EntrySeen, claim_at, keys, entries_marks}
use Rattle.value_meaning.proofs.Among.{among-here, among-behind, among-cons, among-nil}
use Rattle.value_meaning.proofs.Among.{among-left, among-right, among-append}
use Rattle.value_meaning.proofs.Among.{first-right, first-wrong, first-single, first-append}

-- the claim of an entry's key, behind others
abbrev pub key_mark : List Text → EntrySeen → Mark
key_mark before e = claim_at e.place (keys before e.key)

-- with one entry more, its claim comes last, behind the keys of the others
pub key_claims-push : (before : List Text) (es : List EntrySeen) (e : EntrySeen)
    → key_claims before (es ++ e ∷ [])
    ≡ key_claims before es ++ key_mark (before ++ seen_keys es) e ∷ []
key_claims-push before [] e = ap (λ ks. key_mark ks e ∷ []) (sym (append-nil before))
key_claims-push before (g ∷ es) e =
    ap (λ ms. key_mark before g ∷ ms)
    (key_claims-push (before ++ g.key ∷ []) es e
    ∙ ap (λ ks. key_claims (before ++ g.key ∷ []) es ++ key_mark ks e ∷ [])
    (append_assoc before (g.key ∷ []) (seen_keys es)))

-- the marks of the entries' values
abbrev pub value_marks : ℕ → List EntrySeen → List Mark
value_marks n es = flat_map (λ s. s.marks n) (seen_values es)

-- the fault of a key that stands before
abbrev pub repeated : ℕ → Fault
repeated place = record { place = place; code = KEY_REPEATED }

module _ (g : Ground) where
  abbrev Of : Mark → Fault → Type 0
  Of = IsFaultOf g.table g.tests g.types

  abbrev Among : List Mark → Fault → Type 0
  Among = IsFaultAmong g.table g.tests g.types

  -- ---- keys

  -- the first fault of a key's claim is itself, where the key stands before
  pub first-key : (before : List Text) (e : EntrySeen) → Contains before e.key
      → IsFirst (Of (key_mark before e)) (Some (repeated e.place))
  first-key before e among =
      first-wrong g.table g.tests g.types (key_mark before e) (repeated e.place)
      (record { place = refl; breaks = (refl, among) })
      (λ code breaks. sym breaks.0)

  -- and it has none where the key doesn't
  pub first-other : (before : List Text) (e : EntrySeen) → ¬ Contains before e.key
      → IsFirst (Of (key_mark before e)) None
  first-other before e new =
      first-right g.table g.tests g.types (key_mark before e) (λ code breaks. new breaks.1)

  -- the first of keys and one more
  pub first-keys : (es : List EntrySeen) (e : EntrySeen) (a b : Option Fault)
      → IsFirst (Among (key_claims [] es)) a → IsFirst (Of (key_mark (seen_keys es) e)) b
      → IsFirst (Among (key_claims [] (es ++ e ∷ []))) (earlier_of a b)
  first-keys es e a b x y =
      subst (λ ms. IsFirst (Among ms) (earlier_of a b)) (sym (key_claims-push [] es e))
      (first-append g.table g.tests g.types (key_claims [] es) (key_mark (seen_keys es) e ∷ []) a b
      x (first-single g.table g.tests g.types (key_mark (seen_keys es) e) b y))

  -- ---- keys and values

  -- a fault of entries is one of their keys or of their values
  pub entries-fault : (n : ℕ) (before : List Text) (es : List EntrySeen) (f : Fault)
      → Among (entries_marks n before es) f
      → Among (key_claims before es) f ⊎ Among (value_marks n es) f
  entries-fault n before [] f x = absurd (among-nil g.table g.tests g.types f x)
  entries-fault n before (e ∷ es) f x =
      own (entries-fault n (before ++ e.key ∷ []) es f) (among-cons g.table g.tests g.types _ _ f x)
    where
      claims : List Mark
      claims = key_claims (before ++ e.key ∷ []) es

      others : Among claims f ⊎ Among (value_marks n es) f
          → Among (key_claims before (e ∷ es)) f ⊎ Among (value_marks n (e ∷ es)) f
      others (inl key) =
          inl (among-behind g.table g.tests g.types (key_mark before e) claims f key)
      others (inr value) =
          inr (among-right g.table g.tests g.types (e.seen.marks n) (value_marks n es) f value)

      Behind : Type 0
      Behind = Among (entries_marks n (before ++ e.key ∷ []) es) f
          → Among claims f ⊎ Among (value_marks n es) f

      rest : Behind
          → Among (e.seen.marks n) f ⊎ Among (entries_marks n (before ++ e.key ∷ []) es) f
          → Among (key_claims before (e ∷ es)) f ⊎ Among (value_marks n (e ∷ es)) f
      rest behind (inl value) =
          inr (among-left g.table g.tests g.types (e.seen.marks n) (value_marks n es) f value)
      rest behind (inr more) = others (behind more)

      own : Behind → Of (key_mark before e) f
          ⊎ Among (e.seen.marks n ++ entries_marks n (before ++ e.key ∷ []) es) f
          → Among (key_claims before (e ∷ es)) f ⊎ Among (value_marks n (e ∷ es)) f
      own behind (inl key) =
          inl (among-here g.table g.tests g.types (key_mark before e) claims f key)
      own behind (inr more) = rest behind (among-append g.table g.tests g.types _ _ f more)

  -- a fault of a key is one of the entries
  pub key-fault : (n : ℕ) (before : List Text) (es : List EntrySeen) (f : Fault)
      → Among (key_claims before es) f → Among (entries_marks n before es) f
  key-fault n before [] f x = absurd (among-nil g.table g.tests g.types f x)
  key-fault n before (e ∷ es) f x =
      go (key-fault n (before ++ e.key ∷ []) es f) (among-cons g.table g.tests g.types _ _ f x)
    where
      rest : List Mark
      rest = e.seen.marks n ++ entries_marks n (before ++ e.key ∷ []) es

      go : (Among (key_claims (before ++ e.key ∷ []) es) f
          → Among (entries_marks n (before ++ e.key ∷ []) es) f)
          → Of (key_mark before e) f ⊎ Among (key_claims (before ++ e.key ∷ []) es) f
          → Among (entries_marks n before (e ∷ es)) f
      go behind (inl own) = among-here g.table g.tests g.types (key_mark before e) rest f own
      go behind (inr more) =
          among-behind g.table g.tests g.types (key_mark before e) rest f
          (among-right g.table g.tests g.types (e.seen.marks n)
          (entries_marks n (before ++ e.key ∷ []) es) f (behind more))

  -- and so is one of a value
  pub value-fault : (n : ℕ) (before : List Text) (es : List EntrySeen) (f : Fault)
      → Among (value_marks n es) f → Among (entries_marks n before es) f
  value-fault n before [] f x = absurd (among-nil g.table g.tests g.types f x)
  value-fault n before (e ∷ es) f x =
      among-behind g.table g.tests g.types (key_mark before e) rest f
      (go (value-fault n (before ++ e.key ∷ []) es f)
      (among-append g.table g.tests g.types (e.seen.marks n) (value_marks n es) f x))
    where
      rest : List Mark
      rest = e.seen.marks n ++ entries_marks n (before ++ e.key ∷ []) es

      go : (Among (value_marks n es) f → Among (entries_marks n (before ++ e.key ∷ []) es) f)
          → Among (e.seen.marks n) f ⊎ Among (value_marks n es) f → Among rest f
      go behind (inl own) =
          among-left g.table g.tests g.types (e.seen.marks n)
          (entries_marks n (before ++ e.key ∷ []) es) f own
      go behind (inr more) =
          among-right g.table g.tests g.types (e.seen.marks n)
          (entries_marks n (before ++ e.key ∷ []) es) f (behind more)

  -- the first of entries is the earlier of the first of their keys and that of their values
  pub first-entries : (n : ℕ) (es : List EntrySeen) (a b : Option Fault)
      → IsFirst (Among (key_claims [] es)) a → IsFirst (Among (value_marks n es)) b
      → IsFirst (Among (entries_marks n [] es)) (earlier_of a b)
  first-entries n es a b x y =
      first-same (λ f. Among (key_claims [] es) f ⊎ Among (value_marks n es) f)
      (Among (entries_marks n [] es)) (earlier_of a b)
      (λ f z. elim z as (λ _. Among (entries_marks n [] es) f) [
        | inl p ↦ key-fault n [] es f p
        | inr q ↦ value-fault n [] es f q
      ])
      (entries-fault n [] es)
      (first-either (Among (key_claims [] es)) (Among (value_marks n es)) a b x y)
