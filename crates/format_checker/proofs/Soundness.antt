-- An accepted format is sound: what it names is there, and its groups are right.
use Rattle.std.proofs.Common.{◌≡◌, ℕ, suc, ◌+◌, ◌<◌, ◌⊎◌, inl, inr, Bool, true, false, not, ◌&&◌, ◌||◌, ◌==◌, List, [], ◌∷◌, refl, sym, ◌∙◌, ap, subst, arith, Option, Some, None, count_by, cond}
use Rattle.std.specs.Option.{option_or}
use Rattle.std.specs.declared.result.Result.TheVariants.{Ok}
use Rattle.std.proofs.lemmas.Bool.{eqb-true}
use Rattle.std.proofs.lemmas.List.Sums.{sum_by-cons}
use Rattle.ir_lexer.specs.Classes.{same_class}
use Rattle.ir_lexer.specs.declared.class.Class.{Class}
use Rattle.ir_lexer.specs.declared.class.Class.TheVariants as c
use Rattle.dialect_defs.specs.declared.definition.OpDef.{OpDef}
use Rattle.dialect_defs.specs.declared.format.Element.{Element}
use Rattle.dialect_defs.specs.declared.format.ElementKind.{ElementKind}
use Rattle.dialect_defs.specs.declared.format.ElementKind.TheVariants as kind
use Rattle.dialect_defs.specs.declared.format.ElementKind.TheOpen.{ElementKind-F}
use Rattle.dialect_defs.specs.declared.raw_format.RawElement.{RawElement}
use Rattle.dialect_defs.specs.declared.raw_format.RawKind.TheOpen.{RawKind-F}
use Rattle.format_checker.specs.Accepted.{is_known, are_known, has_anchor, is_sound_form, is_sound}
use Rattle.format_checker.specs.Anchors.{may_anchor, may_stand, is_bad_item, item_fault, items_fault, fault_if, is_bad_group, form_fault, element_fault, first_group_fault}
use Rattle.format_checker.specs.Columns.{Kind, form_of, kind_of, is_anchor, branch_empty}
use Rattle.format_checker.specs.Decided.{AreSound, IsFullGroup, element_signs, is_sign, all_signs}
use Rattle.format_checker.specs.Fits.{AnchorFits, can_anchor}
use Rattle.format_checker.specs.Named.{Named, RawForm, ◌>>=◌, named_each, named_item, named_items, named_element, named_elements, named_form, named_kind, item_kind, element_at, anchor_in, is_literal_sign, is_marked, place_of, raw_kind_of}
use Rattle.format_checker.proofs.Known.{then-ok, and-both, item-known}
use Rattle.format_checker.proofs.Opened.{open-Group}

-- ---- steps

pub or-none : {A : Type 0} (a b : Option A) → option_or a b ≡ None → (a ≡ None) × (b ≡ None)
or-none None b e = (refl, e)
or-none (Some x) b e = absurd (cc)

no-fault : (b : Bool) (at : ℕ) → fault_if b at ≡ None → b ≡ false
no-fault true at e = absurd (cc)
no-fault false at e = refl

or-no : (a b : Bool) → (a || b) ≡ false → (a ≡ false) × (b ≡ false)
or-no true b e = absurd (cc)
or-no false b e = (refl, e)

not-no : (a : Bool) → not a ≡ false → a ≡ true
not-no true e = refl
not-no false e = absurd (cc)

and-marked : (a b : Bool) → (a && not b) ≡ false → a ≡ true → b ≡ true
and-marked true b e h = not-no b e
and-marked false b e h = absurd (cc)

-- the elements that are meant, one by one
each-ok : {A B : Type 0} (f : A → Named B) (x : A) (xs : List A) (es : List B)
    → named_each f (x ∷ xs) ≡ Ok es
    → (y : B) × (ys : List B) × (f x ≡ Ok y) × (named_each f xs ≡ Ok ys) × (es ≡ y ∷ ys)
each-ok f x xs es e =
    let h = then-ok (f x) (λ y. named_each f xs >>= (λ ys. Ok (y ∷ ys))) es e in
    let g = then-ok (named_each f xs) (λ ys. Ok (h.0 ∷ ys)) es h.2 in
    (h.0, g.0, h.1, g.1, cc (g.2))

none-ok : {A B : Type 0} (f : A → Named B) (es : List B) → named_each f [] ≡ Ok es → es ≡ []
none-ok f es e = cc

-- ---- elements that aren't groups

-- a sign that a literal may be is no number of a result
sign-is : (class : Class) → is_literal_sign class ≡ true → is_sign (ElementKind-F.Punct class) ≡ true
unfolding same_class
sign-is c.Colon e = refl
sign-is c.Comma e = refl
sign-is c.Equal e = refl
sign-is c.Less e = refl
sign-is c.Greater e = refl
sign-is c.LParen e = refl
sign-is c.RParen e = refl
sign-is c.LBrace e = refl
sign-is c.RBrace e = refl
sign-is c.LSquare e = refl
sign-is c.RSquare e = refl
sign-is c.Arrow e = refl
sign-is c.Question e = refl
sign-is c.Plus e = refl
sign-is c.Star e = refl
sign-is _ e = absurd (cc)

known-sign : (op : OpDef) (k : Kind) → is_known op k ≡ true → is_sign k ≡ true
known-sign op (ElementKind-F.Punct class) e = sign-is class e
known-sign op _ e = refl

-- what an element keeps to
pub record Right (op : OpDef) (k : Kind) : Type 0 where
  pub full : IsFullGroup op k
  pub signs : element_signs k ≡ true
  pub sound : is_sound_form op k ≡ true

known-right : (op : OpDef) (k : Kind) → is_known op k ≡ true → Right op k
known-right op (ElementKind-F.Group first otherwise anchor) e = absurd (cc)
known-right op (ElementKind-F.Word w) e = record { full = tt; signs = refl; sound = e }
known-right op (ElementKind-F.Punct class) e = record { full = tt; signs = sign-is class e; sound = e }
known-right op ElementKind-F.Space e = record { full = tt; signs = refl; sound = e }
known-right op ElementKind-F.Newline e = record { full = tt; signs = refl; sound = e }
known-right op ElementKind-F.Empty e = record { full = tt; signs = refl; sound = e }
known-right op (ElementKind-F.Operand i) e = record { full = tt; signs = refl; sound = e }
known-right op (ElementKind-F.Attr i) e = record { full = tt; signs = refl; sound = e }
known-right op (ElementKind-F.Region i) e = record { full = tt; signs = refl; sound = e }
known-right op (ElementKind-F.Successor i) e = record { full = tt; signs = refl; sound = e }
known-right op (ElementKind-F.SymbolName i) e = record { full = tt; signs = refl; sound = e }
known-right op (ElementKind-F.IntText i w) e = record { full = tt; signs = refl; sound = e }
known-right op (ElementKind-F.Types a) e = record { full = tt; signs = refl; sound = e }
known-right op (ElementKind-F.Functional a b) e = record { full = tt; signs = refl; sound = e }
known-right op ElementKind-F.Dict e = record { full = tt; signs = refl; sound = e }
known-right op ElementKind-F.DictKeyword e = record { full = tt; signs = refl; sound = e }

item-meant : (op : OpDef) (x : RawElement) (e : Element) → named_item op x ≡ Ok e
    → is_known op (kind_of e) ≡ true
item-meant op x e h =
    let g = then-ok (item_kind op (place_of x) (raw_kind_of x))
    (λ k. Ok (element_at (place_of x) k)) e h in
    let is : e ≡ element_at (place_of x) g.0 = cc (g.2) in
    ap (λ y. is_known op (kind_of y)) is ∙ item-known op (place_of x) (raw_kind_of x) g.0 g.1

-- ---- branches

anchors-can : (op : OpDef) (k : Kind) → may_anchor op k ≡ true → can_anchor k ≡ true
anchors-can op (ElementKind-F.Operand i) e = refl
anchors-can op (ElementKind-F.Attr i) e = refl
anchors-can op (ElementKind-F.SymbolName i) e = refl
anchors-can op (ElementKind-F.IntText i w) e = refl
anchors-can op (ElementKind-F.Types a) e = refl
anchors-can op _ e = absurd (cc)

-- what is said of an item of a branch that isn't bad
item-good : (op : OpDef) (in_first marked : Bool) (k : Kind) → is_bad_item op in_first marked k ≡ false
    → (may_stand op k ≡ true) × (marked ≡ true → (in_first && may_anchor op k) ≡ true)
item-good op in_first marked k e =
    let h = or-no (not (may_stand op k)) (marked && not (in_first && may_anchor op k)) e in
    (not-no (may_stand op k) h.0, and-marked marked (in_first && may_anchor op k) h.1)

module _ (op : OpDef) where
  -- an element of a branch
  pub record Stands (in_first : Bool) (x : RawElement) (e : Element) : Type 0 where
    pub known : is_known op (kind_of e) ≡ true
    pub stands : may_stand op (kind_of e) ≡ true
    pub anchors : is_marked x ≡ true → (in_first && may_anchor op (kind_of e)) ≡ true

  item-stands : (in_first : Bool) (x : RawElement) (e : Element) → named_item op x ≡ Ok e
      → item_fault op in_first x e ≡ None → Stands in_first x e
  item-stands in_first x e h none =
      let good = item-good op in_first (is_marked x) (kind_of e)
      (no-fault (is_bad_item op in_first (is_marked x) (kind_of e)) (place_of x) none) in
      record { known = item-meant op x e h; stands = good.0; anchors = good.1 }

  -- the elements of a branch, each with what was written
  abbrev Branch : Bool → List RawElement → List Element → Type 0
  Branch in_first [] [] = Unit {0}
  Branch in_first (x ∷ raw) (e ∷ es) = Stands in_first x e × Branch in_first raw es
  Branch in_first _ _ = ⊥

  branch-of : (in_first : Bool) (raw : List RawElement) (es : List Element)
      → named_items op raw ≡ Ok es → items_fault op in_first raw es ≡ None
      → Branch in_first raw es
  branch-of in_first [] es e none =
      subst (Branch in_first []) (sym (none-ok (named_item op) es e)) tt
  branch-of in_first (x ∷ raw) es e none =
      let h = each-ok (named_item op) x raw es e in
      let both = or-none (item_fault op in_first x h.0) (items_fault op in_first raw h.1)
      (ap (items_fault op in_first (x ∷ raw)) (sym h.4) ∙ none) in
      subst (Branch in_first (x ∷ raw)) (sym h.4)
      (item-stands in_first x h.0 h.2 both.0, branch-of in_first raw h.1 h.3 both.1)

  -- they are known, and may stand there
  branch-known : (in_first : Bool) (raw : List RawElement) (es : List Element)
      → Branch in_first raw es → are_known op es ≡ true
  branch-known in_first [] [] h = refl
  branch-known in_first (x ∷ raw) (e ∷ es) h =
      and-both (is_known op (kind_of e) && may_stand op (kind_of e)) (are_known op es)
      (and-both (is_known op (kind_of e)) (may_stand op (kind_of e)) h.0.known h.0.stands)
      (branch-known in_first raw es h.1)
  branch-known in_first [] (e ∷ es) h = absurd h
  branch-known in_first (x ∷ raw) [] h = absurd h

  branch-signs : (in_first : Bool) (raw : List RawElement) (es : List Element)
      → Branch in_first raw es → all_signs es ≡ true
  branch-signs in_first [] [] h = refl
  branch-signs in_first (x ∷ raw) (e ∷ es) h =
      and-both (is_sign (kind_of e)) (all_signs es) (known-sign op (kind_of e) h.0.known)
      (branch-signs in_first raw es h.1)
  branch-signs in_first [] (e ∷ es) h = absurd h
  branch-signs in_first (x ∷ raw) [] h = absurd h

  -- ---- anchors

  -- the anchor lies before, or is the first mark from here on
  abbrev Where : ℕ → ℕ → List RawElement → Type 0
  Where a i raw = (a < i) ⊎ (a ≡ i + anchor_in raw)

  here-marked : (a i : ℕ) (x : RawElement) (raw : List RawElement) → is_marked x ≡ false
      → a ≡ i + anchor_in (x ∷ raw) → a ≡ (i + 1) + anchor_in raw
  here-marked a i x raw out e =
      let step : anchor_in (x ∷ raw) ≡ 1 + anchor_in raw =
      ap (λ b. cond (not b) (1 + anchor_in raw) 0) out in
      omega arith

  here-is : (a i : ℕ) (x : RawElement) (raw : List RawElement) → is_marked x ≡ true
      → a ≡ i + anchor_in (x ∷ raw) → a ≡ i
  here-is a i x raw marked e =
      let step : anchor_in (x ∷ raw) ≡ 0 = ap (λ b. cond (not b) (1 + anchor_in raw) 0) marked in
      omega arith

  anchor-can : (a i : ℕ) (x : RawElement) (raw : List RawElement) (e : Element) (b : Bool)
      → is_marked x ≡ b → Stands true x e → Where a i (x ∷ raw) → is_anchor (Some a) i ≡ true
      → can_anchor (kind_of e) ≡ true
  anchor-can a i x raw e b m h (inl less) at =
      let same = eqb-true i a at in absurd (omega arith)
  anchor-can a i x raw e true m h (inr is) at = anchors-can op (kind_of e) (h.anchors m)
  anchor-can a i x raw e false m h (inr is) at =
      let same = eqb-true i a at in
      let next = here-marked a i x raw m is in absurd (omega arith)

  anchor-next : (a i : ℕ) (x : RawElement) (raw : List RawElement) (b : Bool) → is_marked x ≡ b
      → Where a i (x ∷ raw) → Where a (i + 1) raw
  anchor-next a i x raw b m (inl less) = inl (omega arith)
  anchor-next a i x raw true m (inr is) =
      let same = here-is a i x raw m is in inl (omega arith)
  anchor-next a i x raw false m (inr is) = inr (here-marked a i x raw m is)

  anchor-fits : (a i : ℕ) (raw : List RawElement) (es : List Element) → Branch true raw es
      → Where a i raw → AnchorFits (Some a) i es
  anchor-fits a i [] [] h w = tt
  anchor-fits a i (x ∷ raw) (e ∷ es) h w = (
    anchor-can a i x raw e (is_marked x) refl h.0 w,
    anchor-fits a (i + 1) raw es h.1 (anchor-next a i x raw (is_marked x) refl w),
  )
  anchor-fits a i [] (e ∷ es) h w = absurd h
  anchor-fits a i (x ∷ raw) [] h w = absurd h

  -- where a mark is, an anchor is that may be one
  mark-there : (raw : List RawElement) (es : List Element) (n : ℕ) → Branch true raw es
      → count_by is_marked raw ≡ n → 0 < n → has_anchor op es (anchor_in raw) ≡ true
  mark-there [] [] n h e some = absurd (omega arith)
  mark-there (x ∷ raw) (e ∷ es) n h counted some =
      go (is_marked x) refl (λ m. mark-there raw es m h.1)
    where
      go : (b : Bool) → is_marked x ≡ b
          → ((m : ℕ) → count_by is_marked raw ≡ m → 0 < m
          → has_anchor op es (anchor_in raw) ≡ true)
          → has_anchor op (e ∷ es) (anchor_in (x ∷ raw)) ≡ true
      go true m later =
          let is : anchor_in (x ∷ raw) ≡ 0 = ap (λ b. cond (not b) (1 + anchor_in raw) 0) m in
          ap (has_anchor op (e ∷ es)) is ∙ h.0.anchors m
      go false m later =
          let at : anchor_in (x ∷ raw) ≡ 1 + anchor_in raw =
          ap (λ b. cond (not b) (1 + anchor_in raw) 0) m in
          let is : anchor_in (x ∷ raw) ≡ suc (anchor_in raw) = omega arith in
          let counts : count_by is_marked (x ∷ raw) ≡ 0 + count_by is_marked raw =
          sum_by-cons (λ (y : RawElement). cond (is_marked y) 1 0) x raw
          ∙ ap (λ b. cond b 1 0 + count_by is_marked raw) m in
          let same : count_by is_marked raw ≡ n = omega arith in
          ap (has_anchor op (e ∷ es)) is ∙ later n same some
  mark-there [] (e ∷ es) n h counted some = absurd h
  mark-there (x ∷ raw) [] n h counted some = absurd h

  -- ---- groups

  group-right : (raw_first raw_otherwise : List RawElement) (first otherwise : List Element)
      → named_items op raw_first ≡ Ok first → named_items op raw_otherwise ≡ Ok otherwise
      → count_by is_marked raw_first ≡ 1
      → branch_empty op (Some (anchor_in raw_first)) 0 first ≡ false
      → items_fault op true raw_first first ≡ None
      → items_fault op false raw_otherwise otherwise ≡ None
      → Right op (ElementKind-F.Group first otherwise (anchor_in raw_first))
  group-right raw_first raw_otherwise first otherwise means others one full none more =
      let a = anchor_in raw_first in
      let left = branch-of true raw_first first means none in
      let right = branch-of false raw_otherwise otherwise others more in
      let there = mark-there raw_first first 1 left one (omega arith) in
      record {
        full = (anchor-fits a 0 raw_first first left (inr (omega arith)), full);
        signs = and-both (all_signs first) (all_signs otherwise) (branch-signs true raw_first first left)
            (branch-signs false raw_otherwise otherwise right);
        sound = and-both (are_known op first) (are_known op otherwise && has_anchor op first a)
            (branch-known true raw_first first left)
            (and-both (are_known op otherwise) (has_anchor op first a)
            (branch-known false raw_otherwise otherwise right) there);
      }

  -- ---- any element

  form-right : (at : ℕ) (marked : Bool) (x : RawForm) (k : ElementKind) → named_form op at x ≡ Ok k
      → form_fault op at marked x (form_of k) ≡ None → Right op (form_of k)
  form-right at marked (RawKind-F.Group raw_first raw_otherwise) k means none =
      let f = then-ok (named_items op raw_first)
      (λ f. named_items op raw_otherwise >>= (λ o. Ok (kind.Group f o (anchor_in raw_first)))) k means in
      let o = then-ok (named_items op raw_otherwise)
      (λ o. Ok (kind.Group f.0 o (anchor_in raw_first))) k f.2 in
      let is : k ≡ kind.Group f.0 o.0 (anchor_in raw_first) = cc (o.2) in
      let form = ap form_of is ∙ open-Group f.0 o.0 (anchor_in raw_first) in
      subst (Right op) (sym form)
      (made-right at marked raw_first raw_otherwise f.0 o.0 f.1 o.1
      (ap (form_fault op at marked (RawKind-F.Group raw_first raw_otherwise)) (sym form) ∙ none))
    where
      made-right : (at : ℕ) (marked : Bool) (raw_first raw_otherwise : List RawElement)
          (first otherwise : List Element) → named_items op raw_first ≡ Ok first
          → named_items op raw_otherwise ≡ Ok otherwise
          → form_fault op at marked (RawKind-F.Group raw_first raw_otherwise)
          (ElementKind-F.Group first otherwise (anchor_in raw_first)) ≡ None
          → Right op (ElementKind-F.Group first otherwise (anchor_in raw_first))
      made-right at marked raw_first raw_otherwise first otherwise means others none =
          let a = anchor_in raw_first in
          let whole = is_bad_group op marked raw_first first a in
          let one = items_fault op true raw_first first in
          let two = items_fault op false raw_otherwise otherwise in
          let p = or-none (fault_if whole at) (option_or one two) none in
          let q = or-none one two p.1 in
          let bad = or-no marked (not (count_by is_marked raw_first == 1)
          || branch_empty op (Some a) 0 first) (no-fault whole at p.0) in
          let parts = or-no (not (count_by is_marked raw_first == 1)) (branch_empty op (Some a) 0 first)
          bad.1 in
          group-right raw_first raw_otherwise first otherwise means others
          (eqb-true (count_by is_marked raw_first) 1 (not-no (count_by is_marked raw_first == 1) parts.0))
          parts.1 q.0 q.1
  form-right at marked (RawKind-F.Word w) k means none =
      known-right op (form_of k) (item-known op at (RawKind-F.Word w) k means)
  form-right at marked (RawKind-F.Punct class) k means none =
      known-right op (form_of k) (item-known op at (RawKind-F.Punct class) k means)
  form-right at marked RawKind-F.Space k means none =
      known-right op (form_of k) (item-known op at RawKind-F.Space k means)
  form-right at marked RawKind-F.Newline k means none =
      known-right op (form_of k) (item-known op at RawKind-F.Newline k means)
  form-right at marked RawKind-F.Empty k means none =
      known-right op (form_of k) (item-known op at RawKind-F.Empty k means)
  form-right at marked (RawKind-F.Variable name) k means none =
      known-right op (form_of k) (item-known op at (RawKind-F.Variable name) k means)
  form-right at marked (RawKind-F.Qualified n) k means none =
      known-right op (form_of k) (item-known op at (RawKind-F.Qualified n) k means)
  form-right at marked (RawKind-F.SymbolName n) k means none =
      known-right op (form_of k) (item-known op at (RawKind-F.SymbolName n) k means)
  form-right at marked (RawKind-F.IntText n w) k means none =
      known-right op (form_of k) (item-known op at (RawKind-F.IntText n w) k means)
  form-right at marked (RawKind-F.Types a) k means none =
      known-right op (form_of k) (item-known op at (RawKind-F.Types a) k means)
  form-right at marked (RawKind-F.Functional a b) k means none =
      known-right op (form_of k) (item-known op at (RawKind-F.Functional a b) k means)
  form-right at marked RawKind-F.Dict k means none =
      known-right op (form_of k) (item-known op at RawKind-F.Dict k means)
  form-right at marked RawKind-F.DictKeyword k means none =
      known-right op (form_of k) (item-known op at RawKind-F.DictKeyword k means)

  element-right : (x : RawElement) (e : Element) → named_element op x ≡ Ok e
      → element_fault op x e ≡ None → Right op (kind_of e)
  element-right x e means none =
      let h = then-ok (named_kind op x) (λ k. Ok (element_at (place_of x) k)) e means in
      let is : e ≡ element_at (place_of x) h.0 = cc (h.2) in
      subst (λ y. Right op (kind_of y)) (sym is)
      (form-right (place_of x) (is_marked x) (raw_kind_of x) h.0 h.1
      (ap (element_fault op x) (sym is) ∙ none))

  -- ---- formats

  -- what the other laws on formats ask
  pub elements-sound : (raw : List RawElement) (es : List Element) → named_elements op raw ≡ Ok es
      → first_group_fault op raw es ≡ None → AreSound op es × (is_sound op es ≡ true)
  elements-sound [] es means none =
      let e = none-ok (named_element op) es means in
      subst (λ l. AreSound op l × (is_sound op l ≡ true)) (sym e) (tt, refl)
  elements-sound (x ∷ raw) es means none =
      let h = each-ok (named_element op) x raw es means in
      let both = or-none (element_fault op x h.0) (first_group_fault op raw h.1)
      (ap (first_group_fault op (x ∷ raw)) (sym h.4) ∙ none) in
      let here = element-right x h.0 h.2 both.0 in
      let later = elements-sound raw h.1 h.3 both.1 in
      subst (λ l. AreSound op l × (is_sound op l ≡ true)) (sym h.4) (
        (here.full, here.signs, later.0),
        and-both (is_sound_form op (kind_of h.0)) (is_sound op h.1) here.sound later.1,
      )
