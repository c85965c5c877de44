-- Sets of variables to which nothing is to be added.
use Rattle.std.proofs.Common.{◌≡◌, ◌⊎◌, inl, inr, ℕ, ◌+◌, ◌<◌, ◌≤◌, Bool, true, false, List, [], ◌∷◌, length}
use Rattle.std.proofs.Common.{Some, sym, subst, arith, ◌||◌, refl}
use Rattle.std.specs.List.{AllByRecursion, Contains}
use Rattle.std.specs.Prelude.{slice_index_or}
use Rattle.std.proofs.lemmas.Bool.{cases_lt}
use Rattle.dialect_defs.specs.declared.body.Constraint.{Constraint}
use Rattle.dialect_defs.specs.declared.body.Constraint.TheVariants.{Is, Any, Base, Parametric}
use Rattle.dialect_defs.specs.declared.body.Constraint.TheVariants.{AnyOf, AllOf, Native}
use Rattle.dialect_defs.specs.declared.body.VarId.{VarId}
use Rattle.dialect_defs.specs.declared.definition.OpDef.{OpDef}
use Rattle.type_infer.specs.Determined.{IsOf, named_in, Forced, Determined, entry_at}
use Rattle.type_infer.specs.Marks.{In, left, Marked}
use Rattle.std.proofs.lemmas.Option.{slice_get_within}
use Rattle.dialect_defs.specs.declared.entry.AttrEntry.{AttrEntry}
use Rattle.dialect_defs.specs.declared.entry.Arity.TheVariants.{Single}
use Rattle.dialect_defs.specs.declared.entry.Entry.{Entry}
use Rattle.dialect_defs.specs.Bodies.{AreBelow}
use Rattle.type_infer.specs.declared.entries.EntryRef.{EntryRef}
use Rattle.type_infer.specs.declared.entries.EntryRef.TheVariants as ref
use Rattle.type_infer.specs.Determined.{by_entry, by_attr, by_whole, by_value, by_parts, by_member}
use Rattle.type_infer.specs.Rule.{Follows, IsClosed, MarkedAt, HasOrderedBody, ShowsBy}
use Rattle.type_infer.specs.Rule.{IsSingle, IsShownSingle, IsRequired}
use Rattle.type_infer.proofs.Lists.{all-of, all-by, contains-get, get-contains}
use Rattle.type_infer.proofs.Marking.{same-var}

-- nothing more follows at the variables below n
pub record IsClosedBelow (d : OpDef) (forced known : VarId → Type 0) (n : ℕ) : Type 0 where
  pub up : (v : VarId) (c : Constraint) → v.0 < n → IsOf d v c → Follows c known → known v
  pub down : (v whole : VarId) (c : Constraint) → whole.0 < n → IsOf d whole c → forced whole
      → known whole → Contains (named_in c) v → known v

-- rounds over the first n variables of the body
pub record Rounded (d : OpDef) (forced old now : List Bool) (changed : Bool) (n : ℕ) : Type 0 where
  pub kept : (v : VarId) → In old v → In now v
  pub sound : (operands : List Bool) (results : List Bool)
      → ((v : VarId) → In old v → Determined d (ShowsBy operands results) v)
      → (v : VarId) → In now v → Determined d (ShowsBy operands results) v
  pub fewer : changed ≡ true → left now < left old
  pub no_more : left now ≤ left old
  pub closed : changed ≡ false → IsClosedBelow d (In forced) (In now) n

-- what holds of all variables that were added to no variable holds of all
pub begun : (X : VarId → Type 0) (P Q R : VarId → Type 0) {a b c e : List Bool} {x y z : Bool}
    → ((v : ℕ) → slice_index_or a v false ≡ false)
    → ((v : VarId) → P v → X v) → ((v : VarId) → Q v → X v) → ((v : VarId) → R v → X v)
    → Marked a b x P → Marked b c y Q → Marked c e z R → (v : VarId) → In e v → X v
begun X P Q R {a} {b} {c} {e} none p_in q_in r_in first second third v has = by3 (third.only v has)
  where
    by1 : In a v ⊎ P v → X v
    by1 (inl in_a) = let n = none v.0 in absurd (cc)
    by1 (inr p) = p_in v p

    by2 : In b v ⊎ Q v → X v
    by2 (inl in_b) = by1 (first.only v in_b)
    by2 (inr q) = q_in v q

    by3 : In c v ⊎ R v → X v
    by3 (inl in_c) = by2 (second.only v in_c)
    by3 (inr r) = r_in v r

pub below-more : (m n : ℕ) (vs : List VarId) → m ≤ n → AllByRecursion (λ (v : VarId). v.0 < m) vs
    → AllByRecursion (λ (v : VarId). v.0 < n) vs
below-more m n [] more below = tt
below-more m n (v ∷ vs) more below = (omega arith, below-more m n vs more below.1)

module _ (d : OpDef) (sound : HasOrderedBody d) where
  -- what a constraint of the body names is within the sets
  pub named-within : (v : VarId) (c : Constraint) → IsOf d v c → AreBelow 64 (named_in c)
  named-within v c is =
      let within = slice_get_within d.body.vars v.0 c is in
      below-more v.0 64 (named_in c) (omega (arith, within, sound.few)) (sound.named v c is)

  -- the parts and members of the variables from n on are in the set
  abbrev pub ClosedFrom : List Bool → ℕ → Type 0
  ClosedFrom set n = (w whole : VarId) (c : Constraint) → n ≤ whole.0 → IsOf d whole c → In set whole
      → Contains (named_in c) w → In set w

  pub down-step : (v : VarId) (c : Constraint) (old new : List Bool) (x : Bool) → IsOf d v c
      → Marked old new x (λ w. In old v × Contains (named_in c) w)
      → ClosedFrom old (v.0 + 1) → ClosedFrom new v.0
  down-step v c old new x is m closed w whole e from at_whole has among =
      by (m.only whole has) (cases_lt v.0 whole.0)
    where
      here : In old v → whole.0 ≤ v.0 → In new w
      here in_old upto =
          let same : whole ≡ v = same-var whole v (omega (arith, from, upto)) in
          let is_e : IsOf d v e = subst (λ u. IsOf d u e) same at_whole in
          let one : e ≡ c = cc in
          m.added w (in_old, subst (λ k. Contains (named_in k) w) one among)

      by : In old whole ⊎ (In old v × Contains (named_in c) whole)
          → (v.0 < whole.0) ⊎ (whole.0 ≤ v.0) → In new w
      by (inl old_has) (inl later) =
          m.kept w (closed w whole e (omega arith) at_whole old_has among)
      by (inl old_has) (inr upto) =
          here (subst (In old) (same-var whole v (omega (arith, from, upto))) old_has) upto
      by (inr (in_old, named)) (inl later) =
          absurd (omega (
            arith,
            later,
            all-of (λ (u : VarId). u.0 < v.0) (named_in c) whole (sound.named v c is) named,
          ))
      by (inr (in_old, named)) (inr upto) = here in_old upto

  pub down-sound : (v : VarId) (c : Constraint) (old new : List Bool) (x : Bool) → IsOf d v c
      → Marked old new x (λ w. In old v × Contains (named_in c) w)
      → ((w : VarId) → In old w → Forced d w) → (w : VarId) → In new w → Forced d w
  down-sound v c old new x is m forced w has = by (m.only w has)
    where
      by : In old w ⊎ (In old v × Contains (named_in c) w) → Forced d w
      by (inl old_has) = forced w old_has
      by (inr (in_old, named)) = by_whole w v c (forced v in_old) is named

  required-of : (e : AttrEntry) → Contains d.attrs e → e.optional ≡ false
      → IsRequired d.attrs (length d.attrs) e.var
  required-of e among required =
      let place = get-contains d.attrs e among in
      record {
        place = place.0;
        before = slice_get_within d.attrs place.0 e place.1;
        entry = e;
        stands = place.1;
        required = required;
        is = refl;
      }

  -- a set with the first forced variables, that is closed, has all
  pub all-forced : (set : List Bool) → ((v : VarId) → IsSingle d.operands (length d.operands) v → In set v)
      → ((v : VarId) → IsSingle d.results (length d.results) v → In set v)
      → ((v : VarId) → IsRequired d.attrs (length d.attrs) v → In set v)
      → ((v whole : VarId) (c : Constraint) → IsOf d whole c → In set whole
      → Contains (named_in c) v → In set v)
      → (v : VarId) → Forced d v → In set v
  all-forced set operands results attrs closed _ (by_entry (ref.Operand k) e is single) =
      operands e.var (record {
        place = k;
        before = slice_get_within d.operands k e is;
        entry = e;
        stands = is;
        single = single;
        is = refl;
      })
  all-forced set operands results attrs closed _ (by_entry (ref.Result k) e is single) =
      results e.var (record {
        place = k;
        before = slice_get_within d.results k e is;
        entry = e;
        stands = is;
        single = single;
        is = refl;
      })
  all-forced set operands results attrs closed _ (by_attr e among required) =
      attrs e.var (required-of e among required)
  all-forced set operands results attrs closed _ (by_whole v whole c must is among) =
      closed v whole c is (all-forced set operands results attrs closed whole must) among

  pub operand-forced : (n : ℕ) (v : VarId) → IsSingle d.operands n v → Forced d v
  operand-forced n v s =
      subst (Forced d) (sym s.is) (by_entry (ref.Operand s.place) s.entry s.stands s.single)

  pub result-forced : (n : ℕ) (v : VarId) → IsSingle d.results n v → Forced d v
  result-forced n v s =
      subst (Forced d) (sym s.is) (by_entry (ref.Result s.place) s.entry s.stands s.single)

  pub required-forced : (n : ℕ) (v : VarId) → IsRequired d.attrs n v → Forced d v
  required-forced n v s =
      subst (Forced d) (sym s.is)
      (by_attr s.entry (contains-get d.attrs s.place s.entry s.stands) s.required)

  -- what follows from determined variables is determined
  pub follows-determined : (shows : EntryRef → Type 0) (v : VarId) (c : Constraint)
      (known : VarId → Type 0) → IsOf d v c → ((w : VarId) → known w → Determined d shows w)
      → Follows c known → Determined d shows v
  follows-determined shows v (Is id) known is told follows = by_value v id is
  follows-determined shows v (Parametric is_type name parts) known is told follows =
      by_parts v is_type name parts is
      (λ part among. told part (all-of known parts part follows among))
  follows-determined shows v (AllOf members) known is told follows =
      by_member v follows.0 members is follows.1 (told follows.0 follows.2)
  follows-determined shows v Any known is told follows = absurd follows
  follows-determined shows v (Base base) known is told follows = absurd follows
  follows-determined shows v (AnyOf members) known is told follows = absurd follows
  follows-determined shows v (Native i) known is told follows = absurd follows

  pub at-sound : (shows : EntryRef → Type 0) (v : VarId) (c : Constraint)
      (old new forced : List Bool) (x : Bool) → IsOf d v c → MarkedAt old new x forced v c
      → ((w : VarId) → In forced w → Forced d w) → ((w : VarId) → In old w → Determined d shows w)
      → (w : VarId) → In new w → Determined d shows w
  at-sound shows v c old new forced x is m must told w has = by (m.only w has)
    where
      up : Follows c (In old) → Determined d shows v
      up follows = follows-determined shows v c (In old) is told follows

      whole : In old v ⊎ Follows c (In old) → Determined d shows v
      whole (inl in_old) = told v in_old
      whole (inr follows) = up follows

      by : In old w ⊎ (Follows c (In old) × (w ≡ v))
          ⊎ (In forced v × (In old v ⊎ Follows c (In old)) × Contains (named_in c) w)
          → Determined d shows w
      by (inl in_old) = told w in_old
      by (inr (inl (follows, same))) = subst (Determined d shows) (sym same) (up follows)
      by (inr (inr (in_forced, known, among))) =
          by_whole w v c (must v in_forced) (whole known) is among

  -- what has the values that are shown, and all that follows, has all that is determined
  pub determined-known : (shows : EntryRef → Type 0) (forced known : VarId → Type 0)
      → ((v : VarId) → Forced d v → forced v)
      → ((i : EntryRef) (e : Entry) → entry_at d i ≡ Some e → e.arity ≡ Single → shows i → known e.var)
      → ((e : AttrEntry) → Contains d.attrs e → e.optional ≡ false → known e.var)
      → IsClosed d forced known → (v : VarId) → Determined d shows v → known v
  determined-known shows forced known must entries attrs closed _ (by_value v id is) =
      closed.up v (Is id) is tt
  determined-known shows forced known must entries attrs closed _ (by_entry i e is single shown) =
      entries i e is single shown
  determined-known shows forced known must entries attrs closed _ (by_attr e among required) =
      attrs e among required
  determined-known shows forced known must entries attrs closed _ (by_parts v is_type name parts is told) =
      closed.up v (Parametric is_type name parts) is (all-by known parts
      (λ part among. determined-known shows forced known must entries attrs closed part
      (told part among)))
  determined-known shows forced known must entries attrs closed _
      (by_member v member members is among told) =
      closed.up v (AllOf members) is (
        member,
        among,
        determined-known shows forced known must entries attrs closed member told,
      )
  determined-known shows forced known must entries attrs closed _
      (by_whole v whole c must_whole told is among) =
      closed.down v whole c is (must whole must_whole)
      (determined-known shows forced known must entries attrs closed whole told) among

  -- a closed set with what is shown has all that is determined
  pub all-determined : (operands results : List Bool) (forced known : List Bool)
      → ((v : VarId) → Forced d v → In forced v)
      → ((v : VarId) → IsShownSingle d.operands operands (length d.operands) v → In known v)
      → ((v : VarId) → IsShownSingle d.results results (length d.results) v → In known v)
      → ((v : VarId) → IsRequired d.attrs (length d.attrs) v → In known v)
      → IsClosed d (In forced) (In known)
      → (v : VarId) → Determined d (ShowsBy operands results) v → In known v
  all-determined os rs forced known must operands results attrs closed =
      determined-known (ShowsBy os rs) (In forced) (In known) must entries
      (λ e among required. attrs e.var (required-of e among required)) closed
    where
      entries : (i : EntryRef) (e : Entry) → entry_at d i ≡ Some e → e.arity ≡ Single
          → ShowsBy os rs i → In known e.var
      entries (ref.Operand k) e is single shown =
          operands e.var (record {
            place = k;
            before = slice_get_within d.operands k e is;
            entry = e;
            stands = is;
            single = single;
            shown = shown;
            is = refl;
          })
      entries (ref.Result k) e is single shown =
          results e.var (record {
            place = k;
            before = slice_get_within d.results k e is;
            entry = e;
            stands = is;
            single = single;
            shown = shown;
            is = refl;
          })

  pub operand-determined : (os rs : List Bool) (n : ℕ) (v : VarId)
      → IsShownSingle d.operands os n v → Determined d (ShowsBy os rs) v
  operand-determined os rs n v s =
      subst (Determined d (ShowsBy os rs)) (sym s.is)
      (by_entry (ref.Operand s.place) s.entry s.stands s.single s.shown)

  pub result-determined : (os rs : List Bool) (n : ℕ) (v : VarId)
      → IsShownSingle d.results rs n v → Determined d (ShowsBy os rs) v
  result-determined os rs n v s =
      subst (Determined d (ShowsBy os rs)) (sym s.is)
      (by_entry (ref.Result s.place) s.entry s.stands s.single s.shown)

  pub required-determined : (os rs : List Bool) (n : ℕ) (v : VarId)
      → IsRequired d.attrs n v → Determined d (ShowsBy os rs) v
  required-determined os rs n v s =
      subst (Determined d (ShowsBy os rs)) (sym s.is)
      (by_attr s.entry (contains-get d.attrs s.place s.entry s.stands) s.required)

  pub round-none : (forced old : List Bool) → Rounded d forced old old false 0
  round-none forced old = record {
    kept = λ v has. has;
    sound = λ operands results told. told;
    fewer = λ e. absurd cc;
    no_more = omega arith;
    closed = λ e. record {
      up = λ v c within. absurd (omega arith);
      down = λ v whole c within. absurd (omega arith);
    };
  }

  pub round-step : (forced old mid new : List Bool) (x y : Bool) (v : VarId) (c : Constraint)
      → IsOf d v c → ((w : VarId) → In forced w → Forced d w)
      → Rounded d forced old mid x v.0 → MarkedAt mid new y forced v c
      → Rounded d forced old new (x || y) (v.0 + 1)
  round-step forced old mid new x y v c is must r m = record {
    kept = λ w has. m.kept w (r.kept w has);
    sound = λ operands results told.
        at-sound (ShowsBy operands results) v c mid new forced y is m must
        (r.sound operands results told);
    fewer = by_fewer x y r.fewer m.fewer;
    no_more = omega (arith, r.no_more, m.no_more);
    closed = by_closed x y r.closed m.same;
  }
    where
      by_fewer : (x y : Bool) → (x ≡ true → left mid < left old) → (y ≡ true → left new < left mid)
          → (x || y) ≡ true → left new < left old
      by_fewer true y one two e = omega (arith, one refl, m.no_more)
      by_fewer false true one two e = omega (arith, two refl, r.no_more)
      by_fewer false false one two e = absurd cc

      step : new ≡ mid → IsClosedBelow d (In forced) (In mid) v.0
          → IsClosedBelow d (In forced) (In new) (v.0 + 1)
      step same before = record {
        up = λ w e within at_w follows. up_at w e within at_w follows (cases_lt w.0 v.0);
        down = λ w whole e within at_w must_be has among.
            down_at w whole e within at_w must_be has among (cases_lt whole.0 v.0);
      }
        where
          up_at : (w : VarId) (e : Constraint) → w.0 < v.0 + 1 → IsOf d w e → Follows e (In new)
              → (w.0 < v.0) ⊎ (v.0 ≤ w.0) → In new w
          up_at w e within at_w follows (inl earlier) =
              subst (λ (s : List Bool). In s w) (sym same) (before.up w e earlier at_w
              (subst (λ (s : List Bool). Follows e (In s)) same follows))
          up_at w e within at_w follows (inr from) =
              let here : w ≡ v = same-var w v (omega (arith, within, from)) in
              let is_e : IsOf d v e = subst (λ u. IsOf d u e) here at_w in
              let one : e ≡ c = cc in
              subst (In new) (sym here) (m.up
              (subst (λ k. Follows k (In mid)) one
              (subst (λ (s : List Bool). Follows e (In s)) same follows)))

          down_at : (w whole : VarId) (e : Constraint) → whole.0 < v.0 + 1 → IsOf d whole e
              → In forced whole → In new whole → Contains (named_in e) w
              → (whole.0 < v.0) ⊎ (v.0 ≤ whole.0) → In new w
          down_at w whole e within at_w must_be has among (inl earlier) =
              subst (λ (s : List Bool). In s w) (sym same) (before.down w whole e earlier at_w must_be
              (subst (λ (s : List Bool). In s whole) same has) among)
          down_at w whole e within at_w must_be has among (inr from) =
              let here : whole ≡ v = same-var whole v (omega (arith, within, from)) in
              let is_e : IsOf d v e = subst (λ u. IsOf d u e) here at_w in
              let one : e ≡ c = cc in
              m.down w (subst (In forced) here must_be)
              (subst (In mid) here (subst (λ (s : List Bool). In s whole) same has))
              (subst (λ k. Contains (named_in k) w) one among)

      by_closed : (x y : Bool) → (x ≡ false → IsClosedBelow d (In forced) (In mid) v.0)
          → (y ≡ false → new ≡ mid) → (x || y) ≡ false
          → IsClosedBelow d (In forced) (In new) (v.0 + 1)
      by_closed true y one two e = absurd cc
      by_closed false true one two e = absurd cc
      by_closed false false one two e = step (two refl) (one refl)

  -- the same of all variables
  pub closed-all : (forced known : VarId → Type 0) (n : ℕ) → length d.body.vars ≤ n
      → IsClosedBelow d forced known n → IsClosed d forced known
  closed-all forced known n all below = record {
    up = λ v c is. below.up v c (omega (arith, all, slice_get_within d.body.vars v.0 c is)) is;
    down = λ v whole c is.
        below.down v whole c (omega (arith, all, slice_get_within d.body.vars whole.0 c is)) is;
  }
