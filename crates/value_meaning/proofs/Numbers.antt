-- The judgement of a number, by the kind of its type, and of any value beside other marks.
use Rattle.std.proofs.Common.{◌≡◌, ℕ, Bool, List, [], ◌∷◌, ℤ, refl, sym, ap, subst}
use Rattle.std.proofs.Common.{option_map, option_and_then, IfSome, IfNone}
use Rattle.std.proofs.lemmas.List.{append-nil}
use Rattle.std.specs.declared.option.Option.{Option}
use Rattle.std.specs.declared.option.Option.TheVariants.{Some, None}
use Rattle.attr_value.specs.declared.head.Head.{Head}
use Rattle.attr_value.specs.declared.head.Head.TheVariants as h
use Rattle.attr_value.specs.declared.head.ValueId.{ValueId}
use Rattle.attr_value.specs.declared.kind.IntKind.{IntKind}
use Rattle.attr_value.specs.Ids.{at}
use Rattle.attr_value.specs.Values.{Value}
use Rattle.first_fault.specs.declared.fault.Fault.{Fault}
use Rattle.first_fault.specs.Firsts.{earlier_of, IsFirst}
use Rattle.first_fault.proofs.Firsts.{earlier_of-both-none}
use Rattle.ir_lexer.specs.Spelling.{Text}
use Rattle.value_meaning.specs.declared.code.TheConstants.{INT_RANGE}
use Rattle.value_meaning.specs.declared.judged.Judged.{Judged}
use Rattle.value_meaning.specs.Faults.{HasGood, IsFaultAmong}
use Rattle.value_meaning.specs.Judging.{Ground, IsGood, IsIdOf, IsNoBadInteger, Judges}
use Rattle.value_meaning.specs.Judging.{IsTypeJudged}
use Rattle.value_meaning.specs.Meaning.{Mark, Seen, claim_at, counts, leaf, type_marks}
use Rattle.value_meaning.specs.Spelled.{residue, signed_number, kind_of_head, kind_of_number}
use Rattle.value_meaning.specs.Spelled.{number_head}
use Rattle.value_meaning.proofs.Among.{first-append, first-right, first-wrong}
use Rattle.value_meaning.proofs.Leaves.{own-leaf}
use Rattle.value_meaning.proofs.Made.{good-leaf}
use Rattle.value_meaning.proofs.Mentions.{fault_at}
use Rattle.value_meaning.proofs.Nodes.{judged, judges-and, judges-wrong}
use Rattle.value_meaning.proofs.Right.{number-right}

-- ---- marks

-- a value beside other marks, of which this is the first fault
pub judges-beside : (g : Ground) (n : ℕ) (new : List Value) (spelled : Option Value)
    (ms : List Mark) (a : Option Fault) (j : Judged)
    → IsFirst (IsFaultAmong g.table g.tests g.types ms) a
    → Judges g n spelled [] new j
    → Judges g n spelled ms new (judged j.value (earlier_of a j.first))
judges-beside g n new spelled ms a j first x = record {
  some = x.some;
  none = x.none;
  first = subst
      (λ l. IsFirst (IsFaultAmong g.table g.tests g.types l) (earlier_of a j.first))
      (append-nil ms) (first-append g.table g.tests g.types ms [] a j.first first x.first);
  right = λ e room. x.right (earlier_of-both-none a j.first e).1 room;
  integer = x.integer;
}

-- ---- heads

-- the head of a number at a kind, where it may be written there
abbrev pub head_at : ℤ → Option IntKind → Option Head
head_at m = option_and_then (λ kind. option_map (λ n. h.Number kind n) (residue kind m))

-- a head that m has at a kind
record IsNumber (m : ℤ) (head : Head) : Type 0 where
  kind : IntKind
  kept : ℤ
  keeps : residue kind m ≡ Some kept
  is : h.Number kind kept ≡ head

-- what is a head of m
head_at-some : (m : ℤ) (kind : Option IntKind) (head : Head) → head_at m kind ≡ Some head
    → IsNumber m head
head_at-some m None head e = absurd (cc)
head_at-some m (Some kind) head e = go (residue kind m) refl e
  where
    go : (r : Option ℤ) → residue kind m ≡ r → option_map (λ n. h.Number kind n) r ≡ Some head
        → IsNumber m head
    go None is e = absurd (cc)
    go (Some kept) is e = record { kind = kind; kept = kept; keeps = is; is = cc }

-- a head that is none of an integer type has no kind
kind-none : (head : Head) → ((kind : IntKind) → head ≡ h.Int kind → ⊥) → kind_of_head head ≡ None
kind-none (h.Int kind) other = absurd (other kind refl)
kind-none _ other = refl

module _ (g : Ground) where
  -- a number that may be written is good
  pub number-good : (negative : Bool) (digits : Text) (type : Option (Option Value)) (head : Head)
      → number_head negative digits type ≡ Some head → IsGood g (leaf head)
  number-good negative digits type head e =
      let x = head_at-some (signed_number negative digits) (kind_of_number type) head e in
      subst (λ head. IsGood g (leaf head)) x.is
      (good-leaf g (h.Number x.kind x.kept)
      (own-leaf (h.Number x.kind x.kept) refl
      (number-right x.kind (signed_number negative digits) x.kept x.keeps)) tt)

  -- ---- the type behind a number

  -- The kind of a type, by its good value: what is no good value is no integer type.
  kind-known : (spelled : Option Value) (old : List Value) (v : Option ValueId)
      → IfSome v (IsIdOf g spelled old)
      → IfNone v (HasGood g.table g.tests g.types spelled → ⊥) → IsNoBadInteger g spelled
      → option_and_then (λ id. kind_of_head (at old id.0).head) v
      ≡ option_and_then (λ v. kind_of_head v.head) spelled
  kind-known spelled old (Some id) some none integer =
      ap (option_and_then (λ v. kind_of_head v.head)) (sym some.spells)
  kind-known None old None some none integer = refl
  kind-known (Some v) old None some none integer =
      sym (kind-none v.head
      (λ kind int. none (record { value = v; is = refl; good = integer v kind refl int })))

  module _ (n : ℕ) where
    -- the kind of a number and the first fault of its type, where one stands behind it
    pub record IsKnown (type : Option Seen) (kind : Option IntKind) (first : Option Fault)
        : Type 0 where
      pub kind_is : kind ≡ kind_of_number (option_map (λ t. t.value) type)
      pub first_is : IsFirst (IsFaultAmong g.table g.tests g.types (type_marks n type)) first

    -- where one stands there
    pub type-known : (type : Option Seen) (old : List Value) (ty : Judged)
        → IsTypeJudged g n type old (Some ty)
        → IsKnown type (option_and_then (λ id. kind_of_head (at old id.0).head) ty.value) ty.first
    type-known None old ty x = absurd x
    type-known (Some type) old ty x = record {
      kind_is = kind-known type.value old ty.value x.judges.some x.judges.none x.judges.integer;
      first_is = x.judges.first;
    }

    -- ---- numbers

    module _ (place : ℕ) (new : List Value) (negative : Bool) (digits : Text)
        (type : Option (Option Value)) (ms : List Mark) where
      abbrev mark : Mark
      mark = claim_at place (counts negative digits type)

      abbrev Whole : Option Head → Judged → Type 0
      Whole head = Judges g n (option_map leaf head) (mark ∷ ms) new

      -- a number that may be written
      pub number-written : (head : Head) → Some head ≡ number_head negative digits type
          → (j : Judged)
          → Judges g n (Some (leaf head)) ms new j → Whole (number_head negative digits type) j
      number-written head is j x =
          subst (λ o. Whole o j) is
          (judges-and g n new (Some (leaf head)) mark ms None j
          (first-right g.table g.tests g.types mark
          (λ code breaks. let none = breaks.1 in absurd (cc))) x)

      -- one that may not
      pub number-refused : (a : Option Fault) → None ≡ number_head negative digits type
          → IsFirst (IsFaultAmong g.table g.tests g.types ms) a
          → Whole (number_head negative digits type)
          (judged None (earlier_of (Some (fault_at place INT_RANGE)) a))
      number-refused a is first =
          subst (λ o. Whole o (judged None (earlier_of (Some (fault_at place INT_RANGE)) a))) is
          (judges-wrong g n new None mark ms (fault_at place INT_RANGE) a
          (first-wrong g.table g.tests g.types mark (fault_at place INT_RANGE)
          (record { place = refl; breaks = (refl, sym is) }) (λ code breaks. sym breaks.0))
          first
          (λ good. let never : None ≡ Some good.value = good.is in absurd (cc))
          (λ v kind e int. absurd (cc)))
