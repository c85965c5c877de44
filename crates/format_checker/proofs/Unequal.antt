-- A format is accepted, or refused for one reason.
use Rattle.std.proofs.Common.{◌≡◌, ℕ, ◌<◌, ◌⊎◌, inl, inr, List, refl, sym, ◌∙◌, ap, subst, arith, Option, Some, None, IfOk}
use Rattle.std.specs.declared.result.Result.{Result}
use Rattle.std.specs.declared.result.Result.TheVariants.{Ok, Err}
use Rattle.dialect_defs.specs.declared.definition.OpDef.{OpDef}
use Rattle.dialect_defs.specs.declared.format.Element.{Element}
use Rattle.dialect_defs.specs.declared.format.Format.{Format}
use Rattle.dialect_defs.specs.declared.raw_format.RawElement.{RawElement}
use Rattle.format_checker.specs.declared.clash.Clash.{Clash}
use Rattle.format_checker.specs.declared.look.Look.{Look}
use Rattle.format_checker.specs.declared.stop.EntryRef.{EntryRef}
use Rattle.format_checker.specs.declared.stop.EntryRef.TheVariants as entry
use Rattle.format_checker.specs.declared.stop.FormatCode.{FormatCode}
use Rattle.format_checker.specs.declared.stop.FormatCode.TheVariants as code
use Rattle.format_checker.specs.declared.stop.FormatStop.{FormatStop}
use Rattle.format_checker.specs.declared.stop.FormatStop.TheVariants as stop
use Rattle.format_checker.specs.Accepted.{IsNamed, IsAccepted, IsAlone, IsRefused}
use Rattle.format_checker.specs.Anchors.{first_group_fault}
use Rattle.format_checker.specs.Clashes.{first_clash}
use Rattle.format_checker.specs.Decided.{follow}
use Rattle.format_checker.specs.Named.{named_elements}
use Rattle.format_checker.specs.Shown.{AllTyped, FirstUntyped, ShowsAll, first_repeated}

-- names mean one thing
same-names : (op : OpDef) (raw : List RawElement) (es more : List Element) → IsNamed op raw es
    → IsNamed op raw more → more ≡ es
same-names op raw es more a b = cc (a, b)

-- ---- the first entry without a type

not-less : (i j : ℕ) → (i < j → ⊥) → (j < i → ⊥) → i ≡ j
not-less i j a b = grind arith

first-entry : (op : OpDef) (es : List Element) (a b : EntryRef) → FirstUntyped op es a
    → FirstUntyped op es b → a ≡ b
first-entry op es (entry.Operand i) (entry.Operand j) x y =
    ap (λ n. entry.Operand n) (not-less i j (λ less. x.1 (y.2 i less)) (λ less. y.1 (x.2 j less)))
first-entry op es (entry.Result i) (entry.Result j) x y =
    ap (λ n. entry.Result n) (not-less i j (λ less. x.1 (y.3 i less)) (λ less. y.1 (x.3 j less)))
first-entry op es (entry.Operand i) (entry.Result j) x y = absurd (x.1 (y.2 i x.0))
first-entry op es (entry.Result i) (entry.Operand j) x y = absurd (y.1 (x.2 j y.0))

all-first : (op : OpDef) (es : List Element) (e : EntryRef) → AllTyped op es
    → FirstUntyped op es e → ⊥
all-first op es (entry.Operand i) all x = x.1 (all.0 i x.0)
all-first op es (entry.Result i) all x = x.1 (all.1 i x.0)

-- ---- accepted, or refused

pub accepted-refused : (op : OpDef) (raw : List RawElement) (end : ℕ) (es : List Element)
    (c : FormatCode) (at : ℕ) (look : Option Look) (e : Option EntryRef) → IsAccepted op raw es
    → IsRefused op raw end c at look e → ⊥
accepted-refused op raw end es code.Unknown at look e x y = absurd (cc (x.named, y.0))
accepted-refused op raw end es code.Missing at look e x y =
    y.2 (subst (ShowsAll op) (sym (same-names op raw es y.0 x.named y.1)) x.shows)
accepted-refused op raw end es code.Repeated at look e x y =
    let same = same-names op raw es y.0 x.named y.1.0 in absurd (cc (x.once, y.2, same))
accepted-refused op raw end es code.Group at look e x y =
    let same = same-names op raw es y.0 x.named y.1.0.0 in absurd (cc (x.grouped, y.2, same))
accepted-refused op raw end es code.Ambiguous at look e x y =
    let same = same-names op raw es y.0 x.named y.2.0.0.0 in absurd (cc (x.clear, y.3, same))
accepted-refused op raw end es code.NoType at look e x y =
    let same = same-names op raw es y.0 x.named y.2.0.0.0.0 in
    all-first op y.0 y.1 (subst (AllTyped op) (sym same) x.typed) y.3

-- ---- refused for one reason

-- what a refusal is
abbrev refusal : FormatCode → ℕ → Option Look → Option EntryRef → FormatStop
refusal c at look e = stop.Refused c at look e

made-same : (c : FormatCode) (at place : ℕ) (l m : Option Look) (e f : Option EntryRef)
    → at ≡ place → l ≡ m → e ≡ f → refusal c at l e ≡ refusal c place m f
made-same c at place l m e f p q r =
    ap (λ n. refusal c n l e) p ∙ ap (λ o. refusal c place o e) q ∙ ap (λ o. refusal c place m o) r

-- with nothing but a place
alone : (c : FormatCode) (at place : ℕ) (l : Option Look) (e : Option EntryRef) → at ≡ place
    → IsAlone l e → refusal c at None None ≡ refusal c place l e
alone c at place l e p h = made-same c at place None l None e p (sym h.0) (sym h.1)

some-is : {A : Type 0} (a b : A) → Some a ≡ Some b → a ≡ b
some-is a b e = cc

-- the first place of the same elements
place-is : {A : Type 0} (first : List Element → Option A) (es more : List Element) (a b : A)
    → more ≡ es → first es ≡ Some a → first more ≡ Some b → a ≡ b
place-is first es more a b same x y = some-is a b (sym x ∙ ap first (sym same) ∙ y)

clash-is : (at place : ℕ) (l m : Look)
    → ◌≡◌ {A = Clash} (record { at = at; look = l }) (record { at = place; look = m })
    → (at ≡ place) × (l ≡ m)
clash-is at place l m e = (ap (λ (x : Clash). x.at) e, ap (λ (x : Clash). x.look) e)

module _ (op : OpDef) (raw : List RawElement) (end : ℕ) where
  -- another refusal of the same format
  abbrev Also : FormatCode → ℕ → Option Look → Option EntryRef → Type 0
  Also c at look e = IsRefused op raw end c at look e

  only-unknown : (place : ℕ) → named_elements op raw ≡ Err place
      → (d : FormatCode) (at : ℕ) (look : Option Look) (e : Option EntryRef) → Also d at look e
      → refusal code.Unknown place None None ≡ refusal d at look e
  only-unknown place h code.Unknown at look e y =
      let same : place ≡ at = cc (h, y.0) in
      alone code.Unknown place at look e same y.1
  only-unknown place h code.Missing at look e y =
      absurd (cc (h, y.1))
  only-unknown place h code.Repeated at look e y =
      absurd (cc (h, y.1.0))
  only-unknown place h code.Group at look e y =
      absurd (cc (h, y.1.0.0))
  only-unknown place h code.Ambiguous at look e y =
      absurd (cc (h, y.2.0.0.0))
  only-unknown place h code.NoType at look e y =
      absurd (cc (h, y.2.0.0.0.0))

  only-missing : (es : List Element) → IsNamed op raw es → (ShowsAll op es → ⊥)
      → (d : FormatCode) (at : ℕ) (look : Option Look) (e : Option EntryRef) → Also d at look e
      → refusal code.Missing end None None ≡ refusal d at look e
  only-missing es h hides code.Unknown at look e y =
      absurd (cc (h, y.0))
  only-missing es h hides code.Missing at look e y =
      alone code.Missing end at look e (sym y.3) y.4
  only-missing es h hides code.Repeated at look e y =
      let same = same-names op raw es y.0 h y.1.0 in
      absurd (hides (subst (ShowsAll op) same y.1.1))
  only-missing es h hides code.Group at look e y =
      let same = same-names op raw es y.0 h y.1.0.0 in
      absurd (hides (subst (ShowsAll op) same y.1.0.1))
  only-missing es h hides code.Ambiguous at look e y =
      let same = same-names op raw es y.0 h y.2.0.0.0 in
      absurd (hides (subst (ShowsAll op) same y.2.0.0.1))
  only-missing es h hides code.NoType at look e y =
      let same = same-names op raw es y.0 h y.2.0.0.0.0 in
      absurd (hides (subst (ShowsAll op) same y.2.0.0.0.1))

  only-repeated : (es : List Element) (place : ℕ) → IsNamed op raw es → ShowsAll op es
      → first_repeated op es ≡ Some place
      → (d : FormatCode) (at : ℕ) (look : Option Look) (e : Option EntryRef) → Also d at look e
      → refusal code.Repeated place None None ≡ refusal d at look e
  only-repeated es place h shows broken code.Unknown at look e y =
      absurd (cc (h, y.0))
  only-repeated es place h shows broken code.Missing at look e y =
      let same = same-names op raw es y.0 h y.1 in
      absurd (y.2 (subst (ShowsAll op) (sym same) shows))
  only-repeated es place h shows broken code.Repeated at look e y =
      let same = same-names op raw es y.0 h y.1.0 in
      alone code.Repeated place at look e
      (place-is (first_repeated op) es y.0 place at same broken y.2) y.3
  only-repeated es place h shows broken code.Group at look e y =
      let same = same-names op raw es y.0 h y.1.0.0 in
      absurd (cc (broken, y.1.1, same))
  only-repeated es place h shows broken code.Ambiguous at look e y =
      let same = same-names op raw es y.0 h y.2.0.0.0 in
      absurd (cc (broken, y.2.0.1, same))
  only-repeated es place h shows broken code.NoType at look e y =
      let same = same-names op raw es y.0 h y.2.0.0.0.0 in
      absurd (cc (broken, y.2.0.0.1, same))

  only-group : (es : List Element) (place : ℕ) → IsNamed op raw es → ShowsAll op es
      → first_repeated op es ≡ None → first_group_fault op raw es ≡ Some place
      → (d : FormatCode) (at : ℕ) (look : Option Look) (e : Option EntryRef) → Also d at look e
      → refusal code.Group place None None ≡ refusal d at look e
  only-group es place h shows once broken code.Unknown at look e y =
      absurd (cc (h, y.0))
  only-group es place h shows once broken code.Missing at look e y =
      let same = same-names op raw es y.0 h y.1 in
      absurd (y.2 (subst (ShowsAll op) (sym same) shows))
  only-group es place h shows once broken code.Repeated at look e y =
      let same = same-names op raw es y.0 h y.1.0 in
      absurd (cc (once, y.2, same))
  only-group es place h shows once broken code.Group at look e y =
      let same = same-names op raw es y.0 h y.1.0.0 in
      alone code.Group place at look e
      (place-is (first_group_fault op raw) es y.0 place at same broken y.2) y.3
  only-group es place h shows once broken code.Ambiguous at look e y =
      let same = same-names op raw es y.0 h y.2.0.0.0 in
      absurd (cc (broken, y.2.1, same))
  only-group es place h shows once broken code.NoType at look e y =
      let same = same-names op raw es y.0 h y.2.0.0.0.0 in
      absurd (cc (broken, y.2.0.1, same))

  only-ambiguous : (es : List Element) (place : ℕ) (l : Look) → IsNamed op raw es
      → ShowsAll op es → first_repeated op es ≡ None → first_group_fault op raw es ≡ None
      → first_clash op es (follow op.terminator) ≡ Some (record { at = place; look = l })
      → (d : FormatCode) (at : ℕ) (look : Option Look) (e : Option EntryRef) → Also d at look e
      → refusal code.Ambiguous place (Some l) None ≡ refusal d at look e
  only-ambiguous es place l h shows once grouped broken code.Unknown at look e y =
      absurd (cc (h, y.0))
  only-ambiguous es place l h shows once grouped broken code.Missing at look e y =
      let same = same-names op raw es y.0 h y.1 in
      absurd (y.2 (subst (ShowsAll op) (sym same) shows))
  only-ambiguous es place l h shows once grouped broken code.Repeated at look e y =
      let same = same-names op raw es y.0 h y.1.0 in
      absurd (cc (once, y.2, same))
  only-ambiguous es place l h shows once grouped broken code.Group at look e y =
      let same = same-names op raw es y.0 h y.1.0.0 in
      absurd (cc (grouped, y.2, same))
  only-ambiguous es place l h shows once grouped broken code.Ambiguous at look e y =
      let same = same-names op raw es y.0 h y.2.0.0.0 in
      let parts = clash-is place at l y.1 (place-is (λ m. first_clash op m (follow op.terminator)) es y.0
      (record { at = place; look = l }) (record { at = at; look = y.1 }) same broken y.3) in
      made-same code.Ambiguous place at (Some l) look None e parts.0
      (ap (λ x. Some x) parts.1 ∙ sym y.4) (sym y.5)
  only-ambiguous es place l h shows once grouped broken code.NoType at look e y =
      let same = same-names op raw es y.0 h y.2.0.0.0.0 in
      absurd (cc (broken, y.2.1, same))

  only-untyped : (es : List Element) (x : EntryRef) → IsNamed op raw es → ShowsAll op es
      → first_repeated op es ≡ None → first_group_fault op raw es ≡ None
      → first_clash op es (follow op.terminator) ≡ None → FirstUntyped op es x
      → (d : FormatCode) (at : ℕ) (look : Option Look) (e : Option EntryRef) → Also d at look e
      → refusal code.NoType end None (Some x) ≡ refusal d at look e
  only-untyped es x h shows once grouped clear first code.Unknown at look e y =
      absurd (cc (h, y.0))
  only-untyped es x h shows once grouped clear first code.Missing at look e y =
      let same = same-names op raw es y.0 h y.1 in
      absurd (y.2 (subst (ShowsAll op) (sym same) shows))
  only-untyped es x h shows once grouped clear first code.Repeated at look e y =
      let same = same-names op raw es y.0 h y.1.0 in
      absurd (cc (once, y.2, same))
  only-untyped es x h shows once grouped clear first code.Group at look e y =
      let same = same-names op raw es y.0 h y.1.0.0 in
      absurd (cc (grouped, y.2, same))
  only-untyped es x h shows once grouped clear first code.Ambiguous at look e y =
      let same = same-names op raw es y.0 h y.2.0.0.0 in
      absurd (cc (clear, y.3, same))
  only-untyped es x h shows once grouped clear first code.NoType at look e y =
      let same = same-names op raw es y.0 h y.2.0.0.0.0 in
      let one = first-entry op es x y.1 first (subst (λ m. FirstUntyped op m y.1) same y.3) in
      made-same code.NoType end at None look (Some x) e (sym y.4) (sym y.5)
      (ap (λ z. Some z) one ∙ sym y.6)

  -- both are one
  pub same-refusal : (c : FormatCode) (at : ℕ) (look : Option Look) (e : Option EntryRef)
      (d : FormatCode) (place : ℕ) (other : Option Look) (f : Option EntryRef)
      → IsRefused op raw end c at look e → IsRefused op raw end d place other f
      → refusal c at look e ≡ refusal d place other f
  same-refusal code.Unknown at look e d place other f x y =
      sym (alone code.Unknown at at look e refl x.1) ∙ only-unknown at x.0 d place other f y
  same-refusal code.Missing at look e d place other f x y =
      sym (alone code.Missing end at look e (sym x.3) x.4)
      ∙ only-missing x.0 x.1 x.2 d place other f y
  same-refusal code.Repeated at look e d place other f x y =
      sym (alone code.Repeated at at look e refl x.3)
      ∙ only-repeated x.0 at x.1.0 x.1.1 x.2 d place other f y
  same-refusal code.Group at look e d place other f x y =
      sym (alone code.Group at at look e refl x.3)
      ∙ only-group x.0 at x.1.0.0 x.1.0.1 x.1.1 x.2 d place other f y
  same-refusal code.Ambiguous at look e d place other f x y =
      made-same code.Ambiguous at at look (Some x.1) e None refl x.4 x.5
      ∙ only-ambiguous x.0 at x.1 x.2.0.0.0 x.2.0.0.1 x.2.0.1 x.2.1 x.3 d place other f y
  same-refusal code.NoType at look e d place other f x y =
      made-same code.NoType at end look None e (Some x.1) x.4 x.5 x.6
      ∙ only-untyped x.0 x.1 x.2.0.0.0.0 x.2.0.0.0.1 x.2.0.0.1 x.2.0.1 x.2.1 x.3 d place other f y

-- ---- what a call answers

module _ (op : OpDef) (raw : List RawElement) (end : ℕ) where
  -- an accepted format isn't refused
  pub accepts : (r : Result Format FormatStop) → IfOk r (λ f. IsAccepted op raw f.elements)
      → ((c : FormatCode) (at : ℕ) (look : Option Look) (e : Option EntryRef)
      → r ≡ Err (stop.Refused c at look e) → IsRefused op raw end c at look e)
      → (es : List Element) → IsAccepted op raw es
      → (r ≡ Ok (record { elements = es })) ⊎ (r ≡ Err stop.OutOfMemory)
  accepts (Ok f) ok says es x =
      inl (ap (λ (l : List Element). Ok (record { elements = l }))
      (same-names op raw es f.elements x.named ok.named))
  accepts (Err stop.OutOfMemory) ok says es x = inr refl
  accepts (Err (stop.Refused c at look e)) ok says es x =
      absurd (accepted-refused op raw end es c at look e x (says c at look e refl))

  -- and one that is to be refused is refused so
  pub refuses : (r : Result Format FormatStop) → IfOk r (λ f. IsAccepted op raw f.elements)
      → ((c : FormatCode) (at : ℕ) (look : Option Look) (e : Option EntryRef)
      → r ≡ Err (stop.Refused c at look e) → IsRefused op raw end c at look e)
      → (c : FormatCode) (at : ℕ) (look : Option Look) (e : Option EntryRef)
      → IsRefused op raw end c at look e
      → (r ≡ Err (stop.Refused c at look e)) ⊎ (r ≡ Err stop.OutOfMemory)
  refuses (Ok f) ok says c at look e x =
      absurd (accepted-refused op raw end f.elements c at look e ok x)
  refuses (Err stop.OutOfMemory) ok says c at look e x = inr refl
  refuses (Err (stop.Refused d place other f)) ok says c at look e x =
      inl (ap (λ (t : FormatStop). Err t) (same-refusal op raw end d place other f c at look e
      (says d place other f refl) x))
