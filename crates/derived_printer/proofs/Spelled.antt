-- Each text of a value's canonical spelling spells its class.
--
-- What is asked of one byte is a test, which computes for all 256; a text is taken byte by byte.
use Rattle.std.proofs.Common.{◌≡◌, ◌≢◌, ℕ, ◌<◌, ◌≤◌, ◌^◌, ◌==◌, suc, Bool, true, false, not, ◌||◌, List, [], ◌∷◌, ◌++◌, inl, inr, refl, sym, ◌∙◌, ap, arith, cond, codes, decimal, nat_le, get_or, Fits as FitsWidth, w8}
use Rattle.std.proofs.lemmas.Bool.{eqb-true, eqb-false, leb-true}
use Rattle.std.specs.List.{AllByRecursion, concat}
use Rattle.attr_value.specs.declared.kind.Dim.{Dim}
use Rattle.attr_value.specs.declared.kind.Dim.TheVariants.{Known, Unknown}
use Rattle.attr_value.specs.declared.kind.FloatKind.{FloatKind}
use Rattle.attr_value.specs.declared.kind.FloatKind.TheVariants as float
use Rattle.attr_value.specs.declared.kind.ShapeKind.{ShapeKind}
use Rattle.attr_value.specs.declared.kind.ShapeKind.TheVariants as shape
use Rattle.attr_value.specs.Heads.{IsDim}
use Rattle.grammar.specs.Looks.{all_digits}
use Rattle.grammar.proofs.Meet.{or-true}
use Rattle.ir_lexer.specs.declared.class.Class.{Class}
use Rattle.ir_lexer.specs.declared.class.Class.TheVariants as c
use Rattle.ir_lexer.specs.Names.{is_between}
use Rattle.ir_lexer.specs.Signs.{quote}
use Rattle.ir_lexer.specs.Spelling.{Text, Spelling, Fits, EachText, Spells, both, either, many, exactly, range, one_of, letter, digit, mark, plain_byte, escape, string, name, digits, spelling}
use Rattle.ir_lexer.proofs.Derive.{behind, behind_all, behind-out, takes_none, none-in, and-left, and-right, and-both}
use Rattle.ir_lexer.proofs.Machine.{upto, below}
use Rattle.text_layout.specs.Apart.{is_empty}
use Rattle.derived_printer.specs.Spelling.{is_bare_start, is_bare_byte, goes_on_bare, is_bare, escaped_byte, escaped, string_text, symbol_text, float_text, shape_text, dim_text, dims_text, name_class, name_text, value_text, block_text}
use Rattle.derived_printer.specs.Spellable.{AreBytes}
use Rattle.derived_printer.specs.ValueMarks.{sign_text}
use Rattle.derived_printer.proofs.Digits.{Digits, digits-decimal}

-- ---- short texts

-- a text fits where what is left of the spelling behind it takes nothing
pub fits-by : (t : Text) (r : Spelling) → takes_none (behind_all t r) ≡ true → Fits r t
fits-by [] r e = none-in r e
fits-by (b ∷ t) r e = behind-out r b t (fits-by t _ e)

-- bytes, as the type of a slice tells
pub are-bytes : (t : Text) → ((i : ℕ) → FitsWidth w8 (get_or t i 0)) → AreBytes t
are-bytes [] fits = tt
are-bytes (b ∷ t) fits =
    let first : FitsWidth w8 b = fits 0 in (omega (arith, first), are-bytes t (λ i. fits (suc i)))

-- a text that was made in an empty buffer
pub made : (class : Class) (s t u v : Text) → s ≡ u → u ≡ v ++ t → v ≡ [] → Spells class t
    → Spells class s
made class s t u v same is empty spelled =
    rw (same ∙ is ∙ ap (λ l. l ++ t) empty) spelled

-- ---- signs

-- a sign
pub sign-spelled : (class : Class) → is_empty (sign_text class) ≡ false
    → Spells class (sign_text class)
unfolding Spells
sign-spelled c.Colon e = fits-by _ (spelling c.Colon) refl
sign-spelled c.ColonColon e = fits-by _ (spelling c.ColonColon) refl
sign-spelled c.Comma e = fits-by _ (spelling c.Comma) refl
sign-spelled c.Equal e = fits-by _ (spelling c.Equal) refl
sign-spelled c.Less e = fits-by _ (spelling c.Less) refl
sign-spelled c.Greater e = fits-by _ (spelling c.Greater) refl
sign-spelled c.LParen e = fits-by _ (spelling c.LParen) refl
sign-spelled c.RParen e = fits-by _ (spelling c.RParen) refl
sign-spelled c.LBrace e = fits-by _ (spelling c.LBrace) refl
sign-spelled c.RBrace e = fits-by _ (spelling c.RBrace) refl
sign-spelled c.LSquare e = fits-by _ (spelling c.LSquare) refl
sign-spelled c.RSquare e = fits-by _ (spelling c.RSquare) refl
sign-spelled c.Arrow e = fits-by _ (spelling c.Arrow) refl
sign-spelled c.Minus e = fits-by _ (spelling c.Minus) refl
sign-spelled c.Word e = absurd (cc)
sign-spelled c.Integer e = absurd (cc)
sign-spelled c.Float e = absurd (cc)
sign-spelled c.Dims e = absurd (cc)
sign-spelled c.Str e = absurd (cc)
sign-spelled c.ValueName e = absurd (cc)
sign-spelled c.BlockName e = absurd (cc)
sign-spelled c.SymbolName e = absurd (cc)
sign-spelled c.TypeName e = absurd (cc)
sign-spelled c.AttrName e = absurd (cc)
sign-spelled c.ResultNumber e = absurd (cc)
sign-spelled c.Question e = absurd (cc)
sign-spelled c.Plus e = absurd (cc)
sign-spelled c.Star e = absurd (cc)
sign-spelled c.Bad e = absurd (cc)
sign-spelled c.End e = absurd (cc)

-- ---- strings

abbrev string_item : Spelling
string_item = either plain_byte escape

abbrev item_is_right : ℕ → Bool
item_is_right b = takes_none (behind_all (escaped_byte b) string_item)

all-items : upto 256 item_is_right ≡ true
all-items = refl

-- what stands for a byte is an item of a string
item-fits : (b : ℕ) → b < 256 → Fits string_item (escaped_byte b)
item-fits b small = fits-by (escaped_byte b) string_item (below 256 item_is_right all-items b small)

items-fit : (t : Text) → AreBytes t
    → (ps : List Text) × (escaped t ≡ concat ps) × EachText (Fits string_item) ps
items-fit [] bytes = ([], refl, tt)
items-fit (b ∷ t) (small, bytes) =
    let (ps, e, fit) = items-fit t bytes in
    (escaped_byte b ∷ ps, ap (λ l. escaped_byte b ++ l) e, (item-fits b small, fit))

string-fits : (t : Text) → AreBytes t → Fits string (string_text t)
unfolding string_text
string-fits t bytes =
    let (ps, e, fit) = items-fit t bytes in
    let mark : Fits (exactly (codes "\"")) (quote ∷ []) = (quote, refl, omega arith, omega arith) in (
      quote ∷ [],
      escaped t ++ quote ∷ [],
      refl,
      mark,
      (escaped t, quote ∷ [], refl, (ps, e, fit), mark),
    )

-- the text of a string
pub string-spelled : (t : Text) → AreBytes t → Spells c.Str (string_text t)
unfolding Spells
string-spelled t bytes = string-fits t bytes

-- ---- bare ids

abbrev bare_start : Spelling
bare_start = either letter (one_of (codes "_"))

abbrev bare_mark : Spelling
bare_mark = either letter (either digit (one_of (codes "_$.")))

-- a byte for which a test holds fits, where it is below 128
abbrev is_right_at : Spelling → (ℕ → Bool) → ℕ → Bool
is_right_at r p b = not (p b) || takes_none (behind b r)

implied : (a b : Bool) → (not a || b) ≡ true → a ≡ true → b ≡ true
implied true b e f = e
implied false b e f = absurd (cc)

byte-fits : (r : Spelling) (p : ℕ → Bool) → upto 128 (is_right_at r p) ≡ true
    → (b : ℕ) → b < 128 → p b ≡ true → Fits r (b ∷ [])
byte-fits r p all b small e =
    fits-by (b ∷ []) r (implied (p b) _ (below 128 (is_right_at r p) all b small) e)

between-most : (low high b : ℕ) → is_between low high b ≡ true → b ≤ high
between-most low high b e = leb-true b high (and-right _ _ e)

start-small : (b : ℕ) → is_bare_start b ≡ true → b < 128
start-small b e = elim (or-true (is_between 65 90 b) _ e) [
  | inl one ↦ let le = between-most 65 90 b one in omega arith
  | inr other ↦ elim (or-true (is_between 97 122 b) _ other) [
    | inl one ↦ let le = between-most 97 122 b one in omega arith
    | inr one ↦ let is = eqb-true b 95 one in omega arith
  ]
]

bare-small : (b : ℕ) → is_bare_byte b ≡ true → b < 128
bare-small b e = elim (or-true (is_bare_start b) _ e) [
  | inl one ↦ start-small b one
  | inr other ↦ elim (or-true (is_between 48 57 b) _ other) [
    | inl one ↦ let le = between-most 48 57 b one in omega arith
    | inr last ↦ elim (or-true (b == 36) _ last) [
      | inl one ↦ let is = eqb-true b 36 one in omega arith
      | inr one ↦ let is = eqb-true b 46 one in omega arith
    ]
  ]
]

rest-fits : (r : Spelling) → upto 128 (is_right_at r is_bare_byte) ≡ true → (t : Text)
    → goes_on_bare t ≡ true → Fits (many r) t
rest-fits r all [] e = ([], refl, tt)
rest-fits r all (b ∷ t) e =
    let one = and-left (is_bare_byte b) _ e in
    let (ps, f, fit) = rest-fits r all t (and-right (is_bare_byte b) _ e) in
    ((b ∷ []) ∷ ps, ap (λ l. b ∷ l) f, (byte-fits r is_bare_byte all b (bare-small b one) one, fit))

-- a bare id fits where its first byte and the others do
bare-fits : (first r : Spelling) → upto 128 (is_right_at first is_bare_start) ≡ true
    → upto 128 (is_right_at r is_bare_byte) ≡ true → (t : Text) → is_bare t ≡ true
    → Fits (both first (many r)) t
bare-fits first r one all [] e = absurd (cc)
bare-fits first r one all (b ∷ t) e =
    let start = and-left (is_bare_start b) _ e in (
      b ∷ [],
      t,
      refl,
      byte-fits first is_bare_start one b (start-small b start) start,
      rest-fits r all t (and-right (is_bare_start b) _ e),
    )

-- a bare id is a word
pub word-spelled : (t : Text) → is_bare t ≡ true → Spells c.Word t
unfolding Spells
word-spelled t e = bare-fits bare_start bare_mark refl refl t e

suffix-fits : (t : Text) → is_bare t ≡ true → Fits name t
suffix-fits t e = bare-fits mark (either digit mark) refl refl t e

-- the name of a dialect's value, behind its sign
pub name-spelled : (is_type : Bool) (t : Text) → is_bare t ≡ true
    → Spells (name_class is_type) (name_text is_type t)
unfolding Spells
name-spelled true t e =
    (33 ∷ [], t, refl, (33, refl, omega arith, omega arith), inr (suffix-fits t e))
name-spelled false t e =
    (35 ∷ [], t, refl, (35, refl, omega arith, omega arith), suffix-fits t e)

-- a symbol
pub symbol-spelled : (t : Text) → AreBytes t → Spells c.SymbolName (symbol_text t)
unfolding Spells symbol_text
symbol-spelled t bytes = go (is_bare t) refl
  where
    go : (b : Bool) → is_bare t ≡ b
        → Fits (spelling c.SymbolName) (64 ∷ cond b t (string_text t))
    go true e =
        (64 ∷ [], t, refl, (64, refl, omega arith, omega arith), inl (inr (suffix-fits t e)))
    go false e = (
      64 ∷ [],
      string_text t,
      refl,
      (64, refl, omega arith, omega arith),
      inr (string-fits t bytes),
    )

-- ---- numbers and types

digit-fits : (b : ℕ) → is_between 48 57 b ≡ true → Fits digit (b ∷ [])
digit-fits b e = (b, refl, leb-true 48 b (and-left _ _ e), leb-true b 57 (and-right _ _ e))

digits-fit : (ds : Text) → all_digits ds ≡ true → Fits (many digit) ds
digits-fit [] e = ([], refl, tt)
digits-fit (b ∷ ds) e =
    let (ps, f, fit) = digits-fit ds (and-right _ _ e) in
    ((b ∷ []) ∷ ps, ap (λ l. b ∷ l) f, (digit-fits b (and-left _ _ e), fit))

some-fit : (n : ℕ) (ds : Text) → Digits n ds → Fits digits ds
some-fit n ds x = go x.first x.rest x.is
  where
    go : (first : ℕ) (rest : Text) → ds ≡ first ∷ rest → Fits digits ds
    go first rest e =
        let all : all_digits (first ∷ rest) ≡ true = sym (ap all_digits e) ∙ x.all in
        let one = and-left (is_between 48 57 first) (all_digits rest) all in
        let more = and-right (is_between 48 57 first) (all_digits rest) all in
        (first ∷ [], rest, e, digit-fits first one, digits-fit rest more)

-- a decimal
pub decimal-spelled : (n : ℕ) → n < 10 ^ 64 → Spells c.Integer (decimal n)
unfolding Spells
decimal-spelled n small = inl (some-fit n (decimal n) (digits-decimal n small))

digits-bare : (ds : Text) → all_digits ds ≡ true → goes_on_bare ds ≡ true
digits-bare [] e = refl
digits-bare (b ∷ ds) e =
    and-both _ _ (digit-bare b (and-left _ _ e)) (digits-bare ds (and-right _ _ e))
  where
    digit-bare : (b : ℕ) → is_between 48 57 b ≡ true → is_bare_byte b ≡ true
    digit-bare b e = go (is_bare_start b)
      where
        go : (q : Bool) → (q || (is_between 48 57 b || ((b == 36) || (b == 46)))) ≡ true
        go true = refl
        go false = rw e refl

-- the name of a value
pub value-spelled : (n : ℕ) → n < 10 ^ 64 → Spells c.ValueName (value_text n)
unfolding Spells value_text
value-spelled n small = (
  37 ∷ [],
  decimal n,
  refl,
  (37, refl, omega arith, omega arith),
  inl (some-fit n (decimal n) (digits-decimal n small)),
)

-- the name of a block, whose number stands behind two letters
pub block-spelled : (n : ℕ) → n < 10 ^ 64 → Spells c.BlockName (block_text n)
unfolding Spells block_text
block-spelled n small = (
  94 ∷ [],
  98 ∷ 98 ∷ decimal n,
  refl,
  (94, refl, omega arith, omega arith),
  inr (suffix-fits (98 ∷ 98 ∷ decimal n) (digits-bare (decimal n) (digits-decimal n small).all)),
)

-- a width
pub width-bare : (w : ℕ) → w < 2 ^ 32 → goes_on_bare (decimal w) ≡ true
width-bare w small = digits-bare (decimal w) (digits-decimal w (omega arith)).all

-- the name of a float type
pub float-bare : (kind : FloatKind) → is_bare (float_text kind) ≡ true
float-bare float.Bf16 = refl
float-bare float.F16 = refl
float-bare float.Tf32 = refl
float-bare float.F32 = refl
float-bare float.F64 = refl
float-bare float.F80 = refl
float-bare float.F128 = refl

-- the word of a shaped type
pub shape-bare : (kind : ShapeKind) → is_bare (shape_text kind) ≡ true
shape-bare shape.Vector = refl
shape-bare shape.Tensor = refl
shape-bare shape.Memref = refl

-- ---- dimensions

abbrev one_dim : Spelling
one_dim =
    both (either (exactly (codes "?")) (both (range (codes "19")) (many digit)))
    (exactly (codes "x"))

above-zero : (b : ℕ) → (b == 48) ≡ false → 48 ≤ b → 49 ≤ b
above-zero b e le = let other : b ≡ 48 → ⊥ = eqb-false b 48 e in omega (arith, other)

known-fits : (n : ℕ) → 1 ≤ n → n < 2 ^ 63 → Fits one_dim (decimal n ++ 120 ∷ [])
known-fits n some small =
    let x = digits-decimal n (omega (arith, small)) in
    go (decimal n) x.first x.rest x.is x.all (x.lead some)
  where
    go : (ds : Text) (first : ℕ) (rest : Text) → ds ≡ first ∷ rest → all_digits ds ≡ true
        → (first == 48) ≡ false → Fits one_dim (ds ++ 120 ∷ [])
    go ds first rest e all lead =
        let k : all_digits (first ∷ rest) ≡ true = sym (ap all_digits e) ∙ all in
        let one = and-left (is_between 48 57 first) (all_digits rest) k in
        let more = and-right (is_between 48 57 first) (all_digits rest) k in
        let start : Fits (range (codes "19")) (first ∷ []) = (
          first,
          refl,
          above-zero first lead
              (leb-true 48 first (and-left (nat_le 48 first) (nat_le first 57) one)),
          leb-true first 57 (and-right (nat_le 48 first) (nat_le first 57) one),
        ) in (
          ds,
          120 ∷ [],
          refl,
          inr (first ∷ [], rest, e, start, digits-fit rest more),
          (120, refl, omega arith, omega arith),
        )

dim-fits : (kind : ShapeKind) (d : Dim) → IsDim kind d → Fits one_dim (dim_text d)
dim-fits kind (Known n) k = known-fits n k.0 k.1
dim-fits kind Unknown k = (
  63 ∷ [],
  120 ∷ [],
  refl,
  inl (63, refl, omega arith, omega arith),
  (120, refl, omega arith, omega arith),
)

dims-fit : (kind : ShapeKind) (ds : List Dim) → AllByRecursion (IsDim kind) ds
    → Fits (many one_dim) (dims_text ds)
unfolding dims_text
dims-fit kind [] right = ([], refl, tt)
dims-fit kind (d ∷ ds) (one, right) =
    let (ps, e, fit) = dims-fit kind ds right in
    (dim_text d ∷ ps, ap (λ l. dim_text d ++ l) e, (dim-fits kind d one, fit))

-- dimensions, where there is one
pub dims-spelled : (kind : ShapeKind) (d : Dim) (ds : List Dim)
    → AllByRecursion (IsDim kind) (d ∷ ds) → Spells c.Dims (dims_text (d ∷ ds))
unfolding Spells dims_text
dims-spelled kind d ds (one, right) =
    (dim_text d, dims_text ds, refl, dim-fits kind d one, dims-fit kind ds right)

-- dimensions that aren't none
pub some-dims-spelled : (kind : ShapeKind) (ds : List Dim) → AllByRecursion (IsDim kind) ds
    → ds ≢ [] → Spells c.Dims (dims_text ds)
some-dims-spelled kind [] right some = absurd (some refl)
some-dims-spelled kind (d ∷ ds) right some = dims-spelled kind d ds right

pub ruleset widths = (width-bare)
