-- What a scope knows, after one mark more.
use Rattle.std.proofs.Common.{◌≡◌, ℕ, zero, suc, ◌*◌, ◌-◌, ◌^◌, ◌≤◌, inl, inr, min, Bool, true, false, not, ◌||◌, List, [], ◌∷◌, ◌++◌, refl, sym, ◌∙◌, ap, subst, is_some, bytes_eq, if◌then◌else◌, append-nil, append_assoc, arith}
use Rattle.std.proofs.lemmas.Bool.{cases_lt}
use Rattle.std.specs.List.{list_any}
use Rattle.std.specs.Option.{option_or}
use Rattle.std.specs.declared.option.Option.{Option}
use Rattle.std.specs.declared.option.Option.TheVariants.{Some, None}
use Rattle.ir_lexer.specs.Spelling.{Text}
use Rattle.first_fault.specs.declared.fault.Fault.{Fault}
use Rattle.first_fault.specs.Firsts.{earlier_of, IsFirst}
use Rattle.first_fault.proofs.Firsts.{earlier_of-right-none}
use Rattle.first_fault.proofs.Rules.{first-more, first-none}
use Rattle.dialect_registry.specs.declared.scope.Scope.{Scope}
use Rattle.dialect_registry.specs.declared.scope.ValueSort.{ValueSort}
use Rattle.dialect_registry.specs.declared.code.DefCode.TheVariants.{NameRepeated, RefUnknown, StatementRepeated}
use Rattle.dialect_registry.specs.Codes.{refusal}
use Rattle.dialect_registry.specs.NameFaults.{NameMark, defines, uses, labels, begins, defined_as, labels_name, begins_with, stands_for, is_label, is_begun, is_usable, fault_of, own_choices, choices_behind, choices, IsFaultIn}
use Rattle.dialect_registry.specs.Scopes.{holds, value_at, noted, Knows}
use Rattle.dialect_registry.proofs.Maps.{option_or-none}

any-more : (p : NameMark → Bool) (ms : List NameMark) (m : NameMark)
    → list_any p (ms ++ m ∷ []) ≡ (p m || list_any p ms)
any-more p [] m = refl
any-more p (x ∷ ms) m = go (p x) (p m) (any-more p ms m)
  where
    go : (a b : Bool) → list_any p (ms ++ m ∷ []) ≡ (b || list_any p ms)
        → (a || list_any p (ms ++ m ∷ [])) ≡ (b || (a || list_any p ms))
    go true true e = refl
    go true false e = refl
    go false b e = e

option_or-assoc : {A : Type 0} (a b c : Option A)
    → option_or a (option_or b c) ≡ option_or (option_or a b) c
option_or-assoc None b c = refl
option_or-assoc (Some a) b c = refl

stands_for-more : (ms : List NameMark) (m : NameMark) (name : Text)
    → stands_for (ms ++ m ∷ []) name ≡ option_or (stands_for ms name) (defined_as name m)
stands_for-more [] m name = option_or-none (defined_as name m)
stands_for-more (x ∷ ms) m name =
    ap (λ o. option_or (defined_as name x) o) (stands_for-more ms m name)
    ∙ option_or-assoc (defined_as name x) (stands_for ms name) (defined_as name m)

mul-one : (n : ℕ) → n * 1 ≡ n
mul-one n = omega arith

times-more : (a b c : ℕ) → a * (b * c) ≡ (a * b) * c
times-more a b c = grind arith

choices-more : (before ms : List NameMark) (m : NameMark)
    → choices_behind before (ms ++ m ∷ [])
    ≡ choices_behind before ms * own_choices (before ++ ms) m
choices-more before [] m =
    let e : own_choices (before ++ []) m ≡ own_choices before m =
    ap (λ l. own_choices l m) (append-nil before) in omega arith
choices-more before (x ∷ ms) m =
    let own = own_choices before x in
    let rest = choices_behind (before ++ x ∷ []) ms in
    ap (λ n. own * n) (choices-more (before ++ x ∷ []) ms m)
    ∙ ap (λ l. own * (rest * own_choices l m)) (append_assoc before (x ∷ []) ms)
    ∙ times-more own rest (own_choices (before ++ x ∷ ms) m)

-- a product that is kept below a limit may be multiplied further
min-times : (most p n : ℕ) → min (min p most * n) most ≡ min (p * n) most
min-times most p zero = omega arith
min-times most p (suc n) = elim (cases_lt most p) [
  | inl more ↦
      let one : most ≤ most * suc n = grind arith in
      let two : most ≤ p * suc n = grind arith in
      let e : min p most ≡ most = omega arith in
      ap (λ q. min (q * suc n) most) e ∙ omega (arith, one, two)
  | inr le ↦ let e : min p most ≡ p = omega arith in ap (λ q. min (q * suc n) most) e
]

noted-is : (known : Bool) (a : Option Fault) (f : Fault)
    → noted known a f ≡ earlier_of a (if known then Some f else None)
noted-is true a f = refl
noted-is false a f = sym (earlier_of-right-none a)

noted-not : (known : Bool) (a : Option Fault) (f : Fault)
    → noted (not known) a f ≡ earlier_of a (if known then None else Some f)
noted-not true a f = sym (earlier_of-right-none a)
noted-not false a f = refl

module _ (ms : List NameMark) (m : NameMark) (old new : Scope) (k : Knows ms old) where
  values-same : new.values ≡ old.values → ((name : Text) → defined_as name m ≡ None)
      → (name : Text) → value_at new.values name ≡ stands_for (ms ++ m ∷ []) name
  values-same same none name =
      ap (λ v. value_at v name) same ∙ k.values name ∙ sym (option_or-none (stands_for ms name))
      ∙ ap (λ o. option_or (stands_for ms name) o) (sym (none name))
      ∙ sym (stands_for-more ms m name)

  labels-same : new.labels ≡ old.labels → ((name : Text) → labels_name name m ≡ false)
      → (name : Text) → holds new.labels name ≡ is_label (ms ++ m ∷ []) name
  labels-same same not_here name =
      ap (λ s. holds s name) same ∙ k.labels name
      ∙ ap (λ b. b || is_label ms name) (sym (not_here name))
      ∙ sym (any-more (labels_name name) ms m)

  words-same : new.words ≡ old.words → ((word : Text) → begins_with word m ≡ false)
      → (word : Text) → holds new.words word ≡ is_begun (ms ++ m ∷ []) word
  words-same same not_here word =
      ap (λ s. holds s word) same ∙ k.words word
      ∙ ap (λ b. b || is_begun ms word) (sym (not_here word))
      ∙ sym (any-more (begins_with word) ms m)

  choices-same : new.choices ≡ old.choices → own_choices ms m ≡ 1
      → new.choices ≡ min (choices (ms ++ m ∷ [])) (2 ^ 64 - 1)
  choices-same same one =
      same ∙ k.choices ∙ ap (λ n. min n (2 ^ 64 - 1)) (sym (mul-one (choices ms))
      ∙ ap (λ n. choices ms * n) (sym one) ∙ sym (choices-more [] ms m))

  first-same-mark : new.first ≡ earlier_of old.first (fault_of ms m)
      → IsFirst (IsFaultIn (ms ++ m ∷ [])) new.first
  first-same-mark is =
      subst (IsFirst (IsFaultIn (ms ++ m ∷ []))) (sym is)
      (first-more fault_of ms m old.first k.first)

module _ (ms : List NameMark) (place : ℕ) (name : Text) (old new : Scope) (k : Knows ms old) where
  -- what a scope knows once a value name is defined
  pub knows-define : (s : ValueSort) (n : ℕ) (known : Bool)
      → known ≡ is_some (value_at old.values name)
      → ((other : Text) → value_at new.values other
      ≡ option_or (value_at old.values other) (if bytes_eq name other then Some s else None))
      → new.labels ≡ old.labels → new.words ≡ old.words
      → new.choices ≡ min (old.choices * (if known then 1 else n)) (2 ^ 64 - 1)
      → new.first ≡ noted known old.first (refusal place NameRepeated)
      → Knows (ms ++ defines s place name n ∷ []) new
  knows-define s n known is added labels_same words_same more first =
      let m = defines s place name n in
      let e : known ≡ is_some (stands_for ms name) = is ∙ ap is_some (k.values name) in
      record {
        values = λ other. added other
            ∙ ap (λ o. option_or o (defined_as other m)) (k.values other)
            ∙ sym (stands_for-more ms m other);
        labels = labels-same ms m old new k labels_same (λ other. refl);
        words = words-same ms m old new k words_same (λ other. refl);
        choices =
            more ∙ ap (λ b. min (old.choices * (if b then 1 else n)) (2 ^ 64 - 1)) e
            ∙ ap (λ c. min (c * own_choices ms m) (2 ^ 64 - 1)) k.choices
            ∙ min-times (2 ^ 64 - 1) (choices ms) (own_choices ms m)
            ∙ ap (λ c. min c (2 ^ 64 - 1)) (sym (choices-more [] ms m));
        first = first-same-mark ms m old new k (first
            ∙ noted-is known old.first (refusal place NameRepeated)
            ∙ ap (λ b. earlier_of old.first
            (if b then Some (refusal place NameRepeated) else None)) e);
      }

  -- what a scope knows once a value name is used
  pub knows-use : (s : ValueSort) (usable : Bool)
      → usable ≡ is_usable (value_at old.values name) s
      → new.values ≡ old.values → new.labels ≡ old.labels → new.words ≡ old.words
      → new.choices ≡ old.choices
      → new.first ≡ noted (not usable) old.first (refusal place RefUnknown)
      → Knows (ms ++ uses s place name ∷ []) new
  knows-use s usable is same_values same_labels same_words same_choices first =
      let m = uses s place name in
      let e : usable ≡ is_usable (stands_for ms name) s =
      is ∙ ap (λ o. is_usable o s) (k.values name) in
      record {
        values = values-same ms m old new k same_values (λ other. refl);
        labels = labels-same ms m old new k same_labels (λ other. refl);
        words = words-same ms m old new k same_words (λ other. refl);
        choices = choices-same ms m old new k same_choices refl;
        first = first-same-mark ms m old new k (first
            ∙ noted-not usable old.first (refusal place RefUnknown)
            ∙ ap (λ b. earlier_of old.first
            (if b then None else Some (refusal place RefUnknown))) e);
      }

  -- what a scope knows once an entry has a name
  pub knows-label : (known : Bool) → known ≡ holds old.labels name
      → ((other : Text) → holds new.labels other ≡ (bytes_eq name other || holds old.labels other))
      → new.values ≡ old.values → new.words ≡ old.words → new.choices ≡ old.choices
      → new.first ≡ noted known old.first (refusal place NameRepeated)
      → Knows (ms ++ labels place name ∷ []) new
  knows-label known is added same_values same_words same_choices first =
      let m = labels place name in
      let e : known ≡ is_label ms name = is ∙ k.labels name in
      record {
        values = values-same ms m old new k same_values (λ other. refl);
        labels = λ other. added other ∙ ap (λ b. bytes_eq name other || b) (k.labels other)
            ∙ sym (any-more (labels_name other) ms m);
        words = words-same ms m old new k same_words (λ other. refl);
        choices = choices-same ms m old new k same_choices refl;
        first = first-same-mark ms m old new k (first
            ∙ noted-is known old.first (refusal place NameRepeated)
            ∙ ap (λ b. earlier_of old.first
            (if b then Some (refusal place NameRepeated) else None)) e);
      }

  -- what a scope knows once a statement has begun
  pub knows-begin : (known : Bool) → known ≡ holds old.words name
      → ((other : Text) → holds new.words other ≡ (bytes_eq name other || holds old.words other))
      → new.values ≡ old.values → new.labels ≡ old.labels → new.choices ≡ old.choices
      → new.first ≡ noted known old.first (refusal place StatementRepeated)
      → Knows (ms ++ begins place name ∷ []) new
  knows-begin known is added same_values same_labels same_choices first =
      let m = begins place name in
      let e : known ≡ is_begun ms name = is ∙ k.words name in
      record {
        values = values-same ms m old new k same_values (λ other. refl);
        labels = labels-same ms m old new k same_labels (λ other. refl);
        words = λ other. added other ∙ ap (λ b. bytes_eq name other || b) (k.words other)
            ∙ sym (any-more (begins_with other) ms m);
        choices = choices-same ms m old new k same_choices refl;
        first = first-same-mark ms m old new k (first
            ∙ noted-is known old.first (refusal place StatementRepeated)
            ∙ ap (λ b. earlier_of old.first
            (if b then Some (refusal place StatementRepeated) else None)) e);
      }

-- a scope with nothing in it has seen nothing
pub knows-none : (s : Scope) → ((name : Text) → value_at s.values name ≡ None)
    → ((name : Text) → holds s.labels name ≡ false) → ((word : Text) → holds s.words word ≡ false)
    → s.choices ≡ 1 → s.first ≡ None → Knows [] s
knows-none s no_values no_labels no_words one first = record {
  values = no_values;
  labels = no_labels;
  words = no_words;
  choices = one;
  first = subst (IsFirst (IsFaultIn [])) (sym first) (first-none fault_of);
}
