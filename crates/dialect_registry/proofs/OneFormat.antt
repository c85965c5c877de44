-- An operation has one format, or is refused for one reason.
use Rattle.std.proofs.Common.{◌≡◌, ℕ, zero, suc, ◌<◌, inl, inr, List, [], ◌∷◌, ◌++◌, length, sym, ◌∙◌, ap, subst, append_assoc, arith}
use Rattle.std.proofs.lemmas.Bool.{cases_lt}
use Rattle.std.proofs.lemmas.List.Elements.{Contains-append_right}
use Rattle.std.specs.Prelude.{slice_get}
use Rattle.std.specs.List.{Contains}
use Rattle.std.specs.declared.option.Option.{Option}
use Rattle.std.specs.declared.option.Option.TheVariants.{Some, None}
use Rattle.dialect_defs.specs.declared.definition.OpDef.{OpDef}
use Rattle.dialect_defs.specs.declared.format.Format.{Format}
use Rattle.dialect_defs.specs.declared.raw_format.RawElement.{RawElement}
use Rattle.format_checker.specs.declared.look.Look.{Look}
use Rattle.format_checker.specs.declared.stop.EntryRef.{EntryRef}
use Rattle.format_checker.specs.declared.stop.FormatCode.{FormatCode}
use Rattle.format_checker.specs.declared.stop.FormatStop.{FormatStop}
use Rattle.format_checker.specs.declared.stop.FormatStop.TheVariants as stop
use Rattle.format_checker.specs.Accepted.{IsAccepted, IsRefused}
use Rattle.format_checker.proofs.Unequal.{accepted-refused, same-refusal}
use Rattle.format_reader.specs.Formats.{format, FormatTokens, IsFormat, IsRefusedAt}
use Rattle.format_reader.proofs.Next.{one-list}
use Rattle.format_reader.proofs.OneToken.{format-checked}
use Rattle.grammar.specs.Grammar.{Tokens}
use Rattle.grammar.specs.Rules.{whole}
use Rattle.grammar.proofs.Cut.{Split, same, longer, shorter, split}
use Rattle.grammar.proofs.FlatReads.{flat-one-tree}
use Rattle.ir_lexer.specs.Spelling.{Text}
use Rattle.ir_lexer.specs.Tokens.{Token}
use Rattle.irdl_ops.specs.declared.raw.RawDefs.{RawDefs}
use Rattle.irdl_ops.specs.declared.raw.RawText.{RawText}
use Rattle.dialect_registry.specs.declared.refusal.DefRefusal.{DefRefusal}
use Rattle.dialect_registry.specs.Codes.{code_number}
use Rattle.dialect_registry.specs.FormatFaults.{IsFormatOf, IsTextFault, unread, unfit, rule_of, IsSaid, IsSaidFault, op_shape, format_in, HasFormat, IsFormatFault, HaveFormats, IsFirstFault, IsFirstRefused, ops_in}
use Rattle.dialect_registry.specs.DefFaults.{dialects_of}
use Rattle.dialect_registry.specs.Resolved.{AreEach, Located, located_of, located_in, op_by}
use Rattle.dialect_registry.proofs.Members.{contains-cases, contains-head, contains-tail, in-flat_map, of-flat_map}

-- ---- texts

-- a text has one list of elements
one-tree : (ts : Tokens) (a b : List RawElement) → FormatTokens ts a → FormatTokens ts b → a ≡ b
unfolding FormatTokens
one-tree ts a b x y = flat-one-tree (whole format) format-checked ts a b x y

format-once : (text : Text) (a b : List RawElement) → IsFormat text a → IsFormat text b → a ≡ b
format-once text a b x y =
    let is = one-list text x.tokens y.tokens x.are y.are in
    one-tree y.tokens a b (subst (λ (w : Tokens). FormatTokens w a) is x.spelled) y.spelled

-- it isn't refused too
format-or-refused : (text : Text) (place : ℕ) (a : List RawElement) → IsFormat text a
    → IsRefusedAt text place → ⊥
format-or-refused text place a y x =
    let is = one-list text (x.front ++ x.next ∷ x.rest) y.tokens x.are y.are in
    x.ends x.rest a (subst (λ (w : Tokens). FormatTokens w a) (sym is) y.spelled)

-- what is the first token of a rest
next-is : (a b : Token) (xs ys : Tokens) → a ∷ xs ≡ b ∷ ys → a ≡ b
next-is a b xs ys e = cc

-- a token at which a text is refused isn't followed by one at which it is
no-later : (text : Text) (p q : ℕ) (x : IsRefusedAt text p) (y : IsRefusedAt text q) (k : Token)
    (more : Tokens) → x.front ≡ y.front ++ k ∷ more → y.next ≡ k → ⊥
no-later text p q x y k more front is =
    let b = x.begins in
    let all : x.front ++ b.0 ≡ y.front ++ y.next ∷ (more ++ b.0) =
    ap (λ w. w ++ b.0) front ∙ append_assoc y.front (k ∷ more) b.0
    ∙ ap (λ t. y.front ++ t ∷ (more ++ b.0)) (sym is) in
    y.ends (more ++ b.0) b.1 (subst (λ (w : Tokens). FormatTokens w b.1) all b.3)

-- and a text is refused in one place
refused-once : (text : Text) (p q : ℕ) → IsRefusedAt text p → IsRefusedAt text q → p ≡ q
refused-once text p q x y =
    go (split x.front (x.next ∷ x.rest) y.front (y.next ∷ y.rest)
    (one-list text (x.front ++ x.next ∷ x.rest) (y.front ++ y.next ∷ y.rest) x.are y.are))
  where
    go : Split x.front (x.next ∷ x.rest) y.front (y.next ∷ y.rest) → p ≡ q
    go (same a b) =
        x.at ∙ ap (λ (t : Token). t.place) (next-is x.next y.next x.rest y.rest b) ∙ sym y.at
    go (longer k e a b) = absurd (no-later text p q x y k e a (next-is y.next k _ _ b))
    go (shorter k e a b) = absurd (no-later text q p y x k e a (next-is x.next k _ _ b))

-- ---- operations

-- two refusals tell the same of a format, whatever their files
pub record AreAlike (r s : DefRefusal) : Type 0 where
  pub place : r.place ≡ s.place
  pub code : r.code ≡ s.code
  pub at : r.at ≡ s.at
  pub look : r.look ≡ s.look
  pub entry : r.entry ≡ s.entry

-- an accepted format isn't refused
format-or-fault : (op : OpDef) (text : Text) (f : Format) (r : DefRefusal) → IsFormatOf op text f
    → IsTextFault op text r → ⊥
format-or-fault op text f r x (unread code at alone) =
    format-or-refused text r.at x.raw x.read at
format-or-fault op text f r x (unfit raw code is read refused) =
    let one = format-once text x.raw raw x.read read in
    accepted-refused op raw (length text) f.elements code r.at r.look r.entry
    (subst (λ l. IsAccepted op l f.elements) one x.accepted) refused

-- what a refusal of a checker tells
code-of : FormatStop → ℕ
code-of (stop.Refused c at look e) = code_number (rule_of c)
code-of stop.OutOfMemory = 0

at-of : FormatStop → ℕ
at-of (stop.Refused c at look e) = at
at-of stop.OutOfMemory = 0

look-of : FormatStop → Option Look
look-of (stop.Refused c at look e) = look
look-of stop.OutOfMemory = None

entry-of : FormatStop → Option EntryRef
entry-of (stop.Refused c at look e) = e
entry-of stop.OutOfMemory = None

fault-once : (op : OpDef) (text : Text) (r s : DefRefusal) → r.place ≡ s.place
    → IsTextFault op text r → IsTextFault op text s → AreAlike r s
unfolding code-of at-of look-of entry-of
fault-once op text r s place (unread c at alone) (unread d bt lone) = record {
  place = place;
  code = c ∙ sym d;
  at = refused-once text r.at s.at at bt;
  look = alone.0 ∙ sym lone.0;
  entry = alone.1 ∙ sym lone.1;
}
fault-once op text r s place (unread c at alone) (unfit raw d is read refused) =
    absurd (format-or-refused text r.at raw read at)
fault-once op text r s place (unfit raw c is read refused) (unread d bt lone) =
    absurd (format-or-refused text s.at raw read bt)
fault-once op text r s place (unfit raw c is read refused) (unfit raw2 d is2 read2 refused2) =
    let one = format-once text raw2 raw read2 read in
    let both = same-refusal op raw (length text) c r.at r.look r.entry d s.at s.look s.entry refused
    (subst (λ l. IsRefused op l (length text) d s.at s.look s.entry) one refused2) in
    record {
      place = place;
      code = is ∙ ap code-of both ∙ sym is2;
      at = ap at-of both;
      look = ap look-of both;
      entry = ap entry-of both;
    }

said-or-fault : (op : OpDef) (text : Option RawText) (f : Option Format) (r : DefRefusal)
    → IsSaid op text f → IsSaidFault op text r → ⊥
said-or-fault op None f r x y = y
said-or-fault op (Some text) None r x y = x
said-or-fault op (Some text) (Some f) r x y = format-or-fault op text.text f r x y.1

said-once : (op : OpDef) (text : Option RawText) (r s : DefRefusal)
    → IsSaidFault op text r → IsSaidFault op text s → AreAlike r s
said-once op None r s x y = absurd x
said-once op (Some text) r s x y = fault-once op text.text r s (x.0 ∙ sym y.0) x.1 y.1

-- ---- operations in order

-- of operations without a fault none has one
none-behind : (before : List Located) (d : Located) (after : List Located) (r : DefRefusal)
    (formats : List (Option Format)) → AreEach HasFormat (before ++ d ∷ after) formats
    → IsFormatFault d r → ⊥
none-behind [] d after r [] each fault = each
none-behind [] d after r (f ∷ fs) each fault =
    said-or-fault (op_shape d) (format_in d.def.statements) f r each.0.said fault.said
none-behind (b ∷ before) d after r [] each fault = each
none-behind (b ∷ before) d after r (f ∷ fs) each fault =
    none-behind before d after r fs each.1 fault

pub formats-or-first : (ds : List Located) (r : DefRefusal) → HaveFormats ds → IsFirstFault ds r → ⊥
formats-or-first ds r have first =
    none-behind first.before first.op first.after r have.0
    (subst (λ l. AreEach HasFormat l have.0) first.cut have.1) first.refused

tail-is : (a b : Located) (xs ys : List Located) → a ∷ xs ≡ b ∷ ys → xs ≡ ys
tail-is a b xs ys e = cc

head-is : (a b : Located) (xs ys : List Located) → a ∷ xs ≡ b ∷ ys → a ≡ b
head-is a b xs ys e = cc

-- the first fault of a list is one
cut-once : (front back : List Located) (d e : Located) (xs ys : List Located) (r s : DefRefusal)
    (fs gs : List (Option Format)) → front ++ d ∷ xs ≡ back ++ e ∷ ys
    → AreEach HasFormat front fs → AreEach HasFormat back gs
    → IsFormatFault d r → IsFormatFault e s → AreAlike r s
cut-once [] [] d e xs ys r s fs gs is good fine x y =
    said-once (op_shape e) (format_in e.def.statements) r s
    (subst (λ (l : Located). IsFormatFault l r) (head-is d e xs ys is) x).said y.said
cut-once [] (b ∷ back) d e xs ys r s fs [] is good fine x y = absurd fine
cut-once [] (b ∷ back) d e xs ys r s fs (g ∷ gs) is good fine x y =
    let one = subst (λ (l : Located). IsFormatFault l r)
    (head-is d b xs (back ++ e ∷ ys) is) x in
    absurd (said-or-fault (op_shape b) (format_in b.def.statements) g r fine.0.said one.said)
cut-once (a ∷ front) [] d e xs ys r s [] gs is good fine x y = absurd good
cut-once (a ∷ front) [] d e xs ys r s (f ∷ fs) gs is good fine x y =
    let one = subst (λ (l : Located). IsFormatFault l s)
    (sym (head-is a e (front ++ d ∷ xs) ys is)) y in
    absurd (said-or-fault (op_shape a) (format_in a.def.statements) f s good.0.said one.said)
cut-once (a ∷ front) (b ∷ back) d e xs ys r s [] gs is good fine x y = absurd good
cut-once (a ∷ front) (b ∷ back) d e xs ys r s (f ∷ fs) [] is good fine x y = absurd fine
cut-once (a ∷ front) (b ∷ back) d e xs ys r s (f ∷ fs) (g ∷ gs) is good fine x y =
    cut-once front back d e xs ys r s fs gs
    (tail-is a b (front ++ d ∷ xs) (back ++ e ∷ ys) is) good.1 fine.1 x y

first-once : (ds : List Located) (r s : DefRefusal) → IsFirstFault ds r → IsFirstFault ds s
    → AreAlike r s
first-once ds r s x y =
    cut-once x.before y.before x.op y.op x.after y.after r s x.accepted.0 y.accepted.0
    (sym x.cut ∙ y.cut) x.accepted.1 y.accepted.1 x.refused y.refused

some-is : (a b : RawDefs) → Some a ≡ Some b → a ≡ b
some-is a b e = cc

-- files are refused for one format
pub format-refused-once : (files : List RawDefs) (r s : DefRefusal) → IsFirstRefused files r
    → IsFirstRefused files s → r ≡ s
format-refused-once files r s x y = elim (cases_lt r.file s.file) [
  | inl less ↦ absurd (formats-or-first _ r (y.accepted r.file x.file less x.there) x.first)
  | inr le ↦ elim (cases_lt s.file r.file) [
    | inl less ↦ absurd (formats-or-first _ s (x.accepted s.file y.file less y.there) y.first)
    | inr least ↦ both (omega (arith, le, least))
  ]
]
  where
    both : r.file ≡ s.file → r ≡ s
    both e =
        let there = subst (λ n. slice_get files n ≡ Some x.file) e x.there in
        let one = some-is x.file y.file (sym there ∙ y.there) in
        let alike = first-once _ r s
        (subst (λ (l : RawDefs). IsFirstFault (ops_in l.dialects) r) one x.first) y.first in
        λ i. record {
          file = e i;
          place = alike.place i;
          code = alike.code i;
          at = alike.at i;
          look = alike.look i;
          entry = alike.entry i;
        }

-- ---- loaded, or refused

-- a format has no fault where that of each is accepted
each-said : (ds : List Located) (own : List OpDef)
    → AreEach (λ d op. HasFormat d op.format) ds own → (d : Located) → Contains ds d
    → (r : DefRefusal) → IsFormatFault d r → ⊥
each-said [] own each d (k, less, is) r fault = omega (arith, less)
each-said (x ∷ ds) [] each d has r fault = each
each-said (x ∷ ds) (o ∷ own) each d has r fault = elim (contains-cases x d ds has) [
  | inl here ↦ said-or-fault (op_shape d) (format_in d.def.statements) o.format r
      (subst (λ (l : Located). HasFormat l o.format) here each.0).said fault.said
  | inr later ↦ each-said ds own each.1 d later r fault
]

-- the middle of a list is one of its members
middle : (before after all : List Located) (d : Located) → all ≡ before ++ d ∷ after
    → Contains all d
middle before after all d is =
    subst (λ (l : List Located). Contains l d) (sym is)
    (Contains-append_right before (d ∷ after) d (contains-head d after))

there : (xs : List RawDefs) (i : ℕ) (file : RawDefs) → slice_get xs i ≡ Some file
    → Contains xs file
there [] i file e = absurd (cc)
there (y ∷ xs) zero file e = let same : y ≡ file = cc in (0, omega arith, same)
there (y ∷ xs) (suc i) file e = contains-tail y file xs (there xs i file e)

-- an operation of a file is one of those of all files
of-all : (files : List RawDefs) (file : RawDefs) (d : Located) → Contains files file
    → Contains (ops_in file.dialects) d → Contains (ops_in (dialects_of files)) d
of-all files file d in_files has =
    let op = of-flat_map (λ (x : Located). op_by x x.def.kind) (located_in file.dialects) d has in
    let dialect = of-flat_map located_of file.dialects op.0 op.1 in
    in-flat_map (λ (x : Located). op_by x x.def.kind) (located_in (dialects_of files)) op.0 d
    (in-flat_map located_of (dialects_of files) dialect.0 op.0
    (in-flat_map (λ (x : RawDefs). x.dialects) files file dialect.0 in_files dialect.1) dialect.2)
    op.2

pub loaded-or-refused : (files : List RawDefs) (own : List OpDef) (r : DefRefusal)
    → AreEach (λ d op. HasFormat d op.format) (ops_in (dialects_of files)) own
    → IsFirstRefused files r → ⊥
loaded-or-refused files own r each x =
    each-said (ops_in (dialects_of files)) own each x.first.op
    (of-all files x.file x.first.op (there files r.file x.file x.there)
    (middle x.first.before x.first.after (ops_in x.file.dialects) x.first.op x.first.cut))
    r x.first.refused
