-- The formats of operations, added one after the other.
use Rattle.std.proofs.Common.{◌≡◌, ℕ, ◌+◌, ◌<◌, ◌≤◌, inl, inr, List, [], ◌∷◌, ◌++◌, length, map, take, drop, get_or, refl, sym, ◌∙◌, ap, subst, append-nil, append_assoc, arith}
use Rattle.std.specs.List.{flat_map}
use Rattle.std.specs.Prelude.{slice_get}
use Rattle.std.specs.declared.option.Option.{Option}
use Rattle.std.specs.declared.option.Option.TheVariants.{Some, None}
use Rattle.std.proofs.lemmas.Bool.{cases_lt}
use Rattle.std.proofs.lemmas.Grind.{flat_map-append}
use Rattle.std.proofs.lemmas.List.{take-append-drop}
use Rattle.std.proofs.lemmas.List.Folds.{flat_map-map}
use Rattle.std.proofs.Math.Seq.{take-length}
use Rattle.dialect_defs.specs.declared.definition.OpDef.{OpDef}
use Rattle.dialect_defs.specs.declared.format.Format.{Format}
use Rattle.dialect_defs.specs.declared.raw_format.RawElement.{RawElement}
use Rattle.format_checker.specs.declared.look.Look.{Look}
use Rattle.format_checker.specs.declared.stop.EntryRef.{EntryRef}
use Rattle.format_checker.specs.declared.stop.FormatCode.{FormatCode}
use Rattle.format_checker.specs.declared.stop.FormatStop.{FormatStop}
use Rattle.format_checker.specs.declared.stop.FormatStop.TheVariants as format
use Rattle.format_checker.specs.Accepted.{IsRefused}
use Rattle.format_reader.specs.Formats.{IsFormat}
use Rattle.ir_lexer.specs.Spelling.{Text}
use Rattle.irdl_ops.specs.declared.raw.RawDefs.{RawDefs}
use Rattle.irdl_ops.specs.declared.raw.RawDialect.{RawDialect}
use Rattle.irdl_ops.specs.declared.raw.RawText.{RawText}
use Rattle.dialect_registry.specs.declared.code.DefCode.TheVariants.{FormatSyntax}
use Rattle.dialect_registry.specs.declared.loading.DefStop.{DefStop}
use Rattle.dialect_registry.specs.declared.refusal.DefRefusal.{DefRefusal}
use Rattle.dialect_registry.specs.Codes.{code_number, IsRule}
use Rattle.dialect_registry.specs.DefFaults.{dialects_of}
use Rattle.dialect_registry.specs.FormatFaults.{HasFormat, HaveFormats, IsFirstFault, IsFirstRefused, IsFormatFault, IsSaidFault, IsTextFault, unread, unfit, format_in, op_shape, ops_in, rule_of}
use Rattle.dialect_registry.specs.Formatting.{Adds, InFile, IsTold, def_ops, dialect_ops}
use Rattle.dialect_registry.specs.Refusals.{Refuses}
use Rattle.dialect_registry.specs.Resolved.{AreEach, Located, located, located_of, located_in, op_by, ops_among}
use Rattle.dialect_registry.proofs.Each.{each-appended}
use Rattle.dialect_registry.proofs.Walks.{flat_map-more}

-- nothing is added
pub adds-none : (xs : List (Option Format)) → Adds [] xs xs
adds-none xs = record { added = []; is = sym (append-nil xs); each = tt }

-- one format
pub adds-one : (d : Located) (f : Option Format) (old new : List (Option Format))
    → new ≡ old ++ f ∷ [] → HasFormat d f → Adds (d ∷ []) old new
adds-one d f old new is has = record { added = f ∷ []; is = is; each = (has, tt) }

-- some, and then others
adds-then : (ds es : List Located) (a b c : List (Option Format)) → Adds ds a b → Adds es b c
    → Adds (ds ++ es) a c
adds-then ds es a b c x y = record {
  added = x.added ++ y.added;
  is = y.is ∙ ap (λ l. l ++ y.added) x.is ∙ append_assoc a x.added y.added;
  each = each-appended HasFormat ds es x.added y.added x.each y.each;
}

-- those that were added are formats of the operations
adds-have : {ds : List Located} {a b : List (Option Format)} → Adds ds a b → HaveFormats ds
adds-have x = (x.added, x.each)

-- the first fault behind operations that have none
first-behind : (ds es fs all : List Located) (r : DefRefusal) → HaveFormats ds
    → IsFirstFault es r → all ≡ (ds ++ es) ++ fs → IsFirstFault all r
first-behind ds es fs all r have x is = record {
  before = ds ++ x.before;
  op = x.op;
  after = x.after ++ fs;
  cut = is ∙ ap (λ l. (ds ++ l) ++ fs) x.cut
      ∙ ap (λ l. l ++ fs) (sym (append_assoc ds x.before (x.op ∷ x.after)))
      ∙ append_assoc (ds ++ x.before) (x.op ∷ x.after) fs;
  accepted = (
    have.0 ++ x.accepted.0,
    each-appended HasFormat ds x.before have.0 x.accepted.0 have.1 x.accepted.1,
  );
  refused = x.refused;
}

module _ {A : Type 0} (f : A → List Located) (xs : List A) (i : ℕ) (x : A) (less : i < length xs)
    (is : x ≡ get_or xs i x) where
  -- with those of one more
  pub adds-next : (a b c : List (Option Format)) → Adds (flat_map f (take i xs)) a b
      → Adds (f x) b c → Adds (flat_map f (take (i + 1) xs)) a c
  adds-next a b c sofar more =
      subst (λ l. Adds l a c) (flat_map-more f xs i x less is)
      (adds-then (flat_map f (take i xs)) (f x) a b c sofar more)

  -- the first fault of one is that of all
  pub first-next : (a b : List (Option Format)) (r : DefRefusal)
      → Adds (flat_map f (take i xs)) a b → IsFirstFault (f x) r → IsFirstFault (flat_map f xs) r
  first-next a b r sofar first =
      first-behind (flat_map f (take i xs)) (f x) (flat_map f (drop (i + 1) xs)) (flat_map f xs) r
      (adds-have sofar) first
      (ap (flat_map f) (sym (take-append-drop (i + 1) xs))
      ∙ flat_map-append f (take (i + 1) xs) (drop (i + 1) xs)
      ∙ ap (λ l. l ++ flat_map f (drop (i + 1) xs)) (sym (flat_map-more f xs i x less is)))

-- those of all
pub adds-all : {A : Type 0} (f : A → List Located) (xs : List A) (i : ℕ)
    (a b : List (Option Format)) → i ≤ length xs → length xs ≤ i
    → Adds (flat_map f (take i xs)) a b → Adds (flat_map f xs) a b
adds-all f xs i a b within all sofar =
    let same : i ≡ length xs = omega (arith, within, all) in
    subst (λ l. Adds (flat_map f l) a b) (ap (λ n. take n xs) same ∙ take-length xs) sofar

-- ---- the operations of dialects, one by one

nested : {A B C : Type 0} (g : B → List C) (f : A → List B) (xs : List A)
    → flat_map g (flat_map f xs) ≡ flat_map (λ x. flat_map g (f x)) xs
nested g f [] = refl
nested g f (x ∷ xs) =
    flat_map-append g (f x) (flat_map f xs) ∙ ap (λ l. flat_map g (f x) ++ l) (nested g f xs)

same-each : {A B : Type 0} (f g : A → List B) → ((x : A) → f x ≡ g x) → (xs : List A)
    → flat_map f xs ≡ flat_map g xs
same-each f g same [] = refl
same-each f g same (x ∷ xs) =
    ap (λ l. l ++ flat_map f xs) (same x) ∙ ap (λ l. g x ++ l) (same-each f g same xs)

-- the operations of a dialect are those of its definitions
ops-of : (d : RawDialect) → ops_among (located_of d) ≡ dialect_ops d
ops-of d = flat_map-map (λ x. op_by x x.def.kind) (located d.name) d.defs

pub ops-in : (dialects : List RawDialect) → ops_in dialects ≡ flat_map dialect_ops dialects
ops-in dialects =
    nested (λ x. op_by x x.def.kind) located_of dialects
    ∙ same-each (λ d. ops_among (located_of d)) dialect_ops ops-of dialects

-- and those of files are those of each
pub ops-in-files : (files : List RawDefs)
    → ops_in (flat_map (λ d. d.dialects) files)
    ≡ flat_map (λ file. flat_map dialect_ops file.dialects) files
ops-in-files files =
    ops-in (flat_map (λ d. d.dialects) files) ∙ nested dialect_ops (λ d. d.dialects) files

-- ---- what is told

-- a refusal in a file of which less is asked
pub in-file : {n : ℕ} (P Q : DefRefusal → Type 0) → ((r : DefRefusal) → P r → Q r)
    → (r : DefRefusal) → InFile n P r → InFile n Q r
in-file P Q weaker r x = record { file = x.file; holds = weaker r x.holds }

-- a format that isn't accepted is told so
pub told-fault : (op : OpDef) (text : Text) (raw : List RawElement) (n place : ℕ)
    (stop : FormatStop) (told : DefStop) → IsFormat text raw
    → ((code : FormatCode) (at : ℕ) (look : Option Look) (entry : Option EntryRef)
    → stop ≡ format.Refused code at look entry
    → IsRefused op raw (length text) code at look entry)
    → IsTold n place stop told
    → Refuses (InFile n (λ r. (r.place ≡ place) × IsTextFault op text r)) told
told-fault op text raw n place (format.Refused code at look entry) told read says is =
    let known : InFile n (λ r. (r.place ≡ place) × IsTextFault op text r) (record {
      file = n;
      place = place;
      code = code_number (rule_of code);
      at = at;
      look = look;
      entry = entry;
    }) = record {
      file = refl;
      holds = (refl, unfit raw code refl read (says code at look entry refl));
    } in
    subst (Refuses (InFile n (λ r. (r.place ≡ place) × IsTextFault op text r))) (sym is) known
told-fault op text raw n place format.OutOfMemory told read says is =
    subst (Refuses (InFile n (λ r. (r.place ≡ place) × IsTextFault op text r))) (sym is) tt

-- the format of an operation is refused where its string is
pub fault-said : (d : Located) (op : OpDef) (text : RawText) → op ≡ op_shape d
    → format_in d.def.statements ≡ Some text → (r : DefRefusal)
    → (r.place ≡ text.place) × IsTextFault op text.text r → IsFormatFault d r
fault-said d op text is at r x = record {
  said = subst (λ t. IsSaidFault (op_shape d) t r) (sym at)
      (x.0, subst (λ o. IsTextFault o text.text r) is x.1);
}

-- one operation alone
pub first-alone : (ds : List Located) (d : Located) → ds ≡ d ∷ [] → (r : DefRefusal)
    → IsFormatFault d r → IsFirstFault ds r
first-alone ds d is r x =
    record { before = []; op = d; after = []; cut = is; accepted = ([], tt); refused = x }

-- ---- files

-- what was so of earlier files is so of one more
pub earlier-more : (files : List RawDefs) (i : ℕ) (file : RawDefs) → slice_get files i ≡ Some file
    → ((n : ℕ) (e : RawDefs) → n < i → slice_get files n ≡ Some e → HaveFormats (ops_in e.dialects))
    → HaveFormats (ops_in file.dialects) → (n : ℕ) (e : RawDefs) → n < i + 1
    → slice_get files n ≡ Some e → HaveFormats (ops_in e.dialects)
earlier-more files i file at earlier have n e less is = elim (cases_lt n i) [
  | inl before ↦ earlier n e before is
  | inr least ↦ last (omega (arith, less, least))
]
  where
    last : n ≡ i → HaveFormats (ops_in e.dialects)
    last p =
        let both : Some file ≡ Some e = sym at ∙ ap (slice_get files) (sym p) ∙ is in
        let one : file ≡ e = cc in
        subst (λ (f : RawDefs). HaveFormats (ops_in f.dialects)) one have

-- the operations of a file have formats where those were added
pub file-have : (file : RawDefs) (a b : List (Option Format))
    → Adds (flat_map dialect_ops file.dialects) a b → HaveFormats (ops_in file.dialects)
file-have file a b x = subst HaveFormats (sym (ops-in file.dialects)) (adds-have x)

-- the first fault of a file behind files without one
pub first-refused : (files : List RawDefs) (i : ℕ) (file : RawDefs) → slice_get files i ≡ Some file
    → ((n : ℕ) (e : RawDefs) → n < i → slice_get files n ≡ Some e → HaveFormats (ops_in e.dialects))
    → (r : DefRefusal) → InFile i (IsFirstFault (flat_map dialect_ops file.dialects)) r
    → IsFirstRefused files r
first-refused files i file at earlier r x = record {
  file = file;
  there = subst (λ n. slice_get files n ≡ Some file) (sym x.file) at;
  accepted = λ n e less is. earlier n e (subst (λ m. n < m) x.file less) is;
  first = subst (λ l. IsFirstFault l r) (sym (ops-in file.dialects)) x.holds;
}

-- the formats of all files
pub all-formats : (files : List RawDefs) (i : ℕ) (b : List (Option Format)) → i ≤ length files
    → length files ≤ i
    → Adds (flat_map (λ (file : RawDefs). flat_map dialect_ops file.dialects) (take i files)) [] b
    → AreEach HasFormat (ops_in (dialects_of files)) b
all-formats files i b within all x =
    let added = adds-all (λ (file : RawDefs). flat_map dialect_ops file.dialects) files i [] b within
    all x in
    subst (λ l. AreEach HasFormat l b) (sym (ops-in-files files))
    (subst (AreEach HasFormat (flat_map (λ (file : RawDefs). flat_map dialect_ops file.dialects)
    files)) (sym added.is) added.each)

-- ---- rules

said-rule : (op : OpDef) (text : Option RawText) (r : DefRefusal) → IsSaidFault op text r
    → IsRule r.code
said-rule op None r x = absurd x
said-rule op (Some text) r x = go x.1
  where
    go : IsTextFault op text.text r → IsRule r.code
    go (unread code at alone) = (FormatSyntax, code)
    go (unfit raw code is read refused) = (rule_of code, is)

pub format-rule : (files : List RawDefs) (r : DefRefusal) → IsFirstRefused files r → IsRule r.code
format-rule files r x =
    let d = x.first.op in
    said-rule (op_shape d) (format_in d.def.statements) r x.first.refused.said
