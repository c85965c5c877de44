-- What the reader of a whole text answers, in the words of the grammar.
use Rattle.std.proofs.Common.{◌≡◌, ◌⊎◌, ℕ, true, false, ◌&&◌, List, [], ◌∷◌, ◌++◌, map, Result, Ok, Err, IfOk, inl, inr, refl, sym, ◌∙◌, ap, subst, append-nil}
use Rattle.std.specs.List.{list_all}
use Rattle.dialect_defs.specs.declared.raw_format.RawElement.{RawElement}
use Rattle.ir_lexer.specs.Spelling.{Text}
use Rattle.ir_lexer.specs.Tokens.{Token}
use Rattle.grammar.specs.Exact.{HasMore, IsExactAnswer}
use Rattle.grammar.specs.Flat.{flat, Spelled, TooDeepIn}
use Rattle.grammar.specs.Front.{Some_of}
use Rattle.grammar.specs.Grammar.{Tokens, done, stop}
use Rattle.grammar.specs.Ran.{reads_in}
use Rattle.grammar.specs.Rules.{whole}
use Rattle.grammar.proofs.FlatReads.{flat-known, flat-one-tree}
use Rattle.grammar.proofs.Known.{known-meets}
use Rattle.grammar.proofs.Meet.{and-true}
use Rattle.format_reader.specs.declared.stop.FormatAt.{FormatAt}
use Rattle.format_reader.specs.declared.stop.FormatAt.TheVariants.{At, OutOfMemory}
use Rattle.format_reader.specs.Formats.{format, FormatTokens, IsFormat, BeginsFormat, IsRefusedAt}
use Rattle.format_reader.specs.Ran.{ReadsWhole}
use Rattle.format_reader.specs.Scan.{tokens_at}
use Rattle.format_reader.specs.Tokens.{AreTokens, is_token}
use Rattle.format_reader.proofs.Next.{all-at, one-list}
use Rattle.format_reader.proofs.OneToken.{format-checked, format-met}
use Rattle.format_reader.proofs.Respelled.{mend, map-both, all-both, grammar-mended, kept, all-good}

-- the reader meets what is asked of it
exact-format : (ts : Tokens) → IsExactAnswer (Spelled (whole format)) (TooDeepIn (whole format)) ts
    (reads_in flat (whole format) ts)
unfolding reads_in
exact-format ts = known-meets flat-known false (whole format) format-checked ts

-- tokens that a text may have, and that begin some format, go on with such tokens
begins-good : (front : Tokens) → list_all is_token front ≡ true
    → HasMore (Some_of (Spelled (whole format))) front → BeginsFormat front
unfolding FormatTokens
begins-good front good (more, (a, x)) =
    let m = grammar-mended (whole format) format-met (front ++ more) a x in
    let is : map mend (front ++ more) ≡ front ++ map mend more =
    map-both front more ∙ ap (λ w. w ++ map mend more) (kept front good) in
    let all : (list_all is_token front && list_all is_token (map mend more)) ≡ true =
    sym (all-both front (map mend more))
    ∙ subst (λ (w : Tokens). list_all is_token w ≡ true) is m.good in (
      map mend more,
      m.tree,
      (and-true (list_all is_token front) _ all).1,
      subst (λ (w : Tokens). Spelled (whole format) w m.tree) is m.derived,
    )

-- what is read is spelled by all tokens
spelled-all : (ts : Tokens) (a : List RawElement) → reads_in flat (whole format) ts ≡ done a []
    → FormatTokens ts a
unfolding FormatTokens
spelled-all ts a e =
    let f = subst (IsExactAnswer (Spelled (whole format)) (TooDeepIn (whole format)) ts) e
    (exact-format ts) in
    subst (λ (w : Tokens). Spelled (whole format) w a) (sym (f.is ∙ append-nil f.front)) f.tree

-- and what is refused goes on in no format
refused-at : (src : Text) (place : ℕ) (t : Token) (rest : Tokens)
    → reads_in flat (whole format) (tokens_at src 0) ≡ stop false (t ∷ rest) → place ≡ t.place
    → IsRefusedAt src place
unfolding FormatTokens
refused-at src place t rest e at =
    let ts = tokens_at src 0 in
    let f = subst (IsExactAnswer (Spelled (whole format)) (TooDeepIn (whole format)) ts) e
    (exact-format ts) in
    let are : AreTokens src (f.front ++ t ∷ rest) = subst (AreTokens src) f.is (all-at src) in
    let good = all-good src 0 (f.front ++ t ∷ rest) are in
    let front = (and-true (list_all is_token f.front) _
    (sym (all-both f.front (t ∷ rest)) ∙ good)).0 in
    record {
      front = f.front;
      next = t;
      rest = rest;
      are = are;
      at = at;
      begins = begins-good f.front front f.viable;
      ends = λ more elements x. f.barred t rest more refl (elements, x);
    }

-- ---- the clauses

pub read-ok : (src : Text) (ts : Tokens) → ts ≡ tokens_at src 0
    → (r : Result (List RawElement) FormatAt) → ReadsWhole format ts r → IfOk r (IsFormat src)
read-ok src ts is (Ok a) x =
    record { tokens = ts; are = subst (AreTokens src) (sym is) (all-at src); spelled = spelled-all ts a x.went }
read-ok src ts is (Err e) x = tt

pub read-refused : (src : Text) (ts : Tokens) → ts ≡ tokens_at src 0
    → (r : Result (List RawElement) FormatAt) → ReadsWhole format ts r → (place : ℕ)
    → r ≡ Err (At place) → IsRefusedAt src place
read-refused src ts is r x place e =
    let w = subst (λ y. ReadsWhole format ts y) e x in
    refused-at src place w.went.0 w.went.1 (ap (reads_in flat (whole format)) (sym is) ∙ w.went.2) w.went.3

one-answer : (ts : Tokens) (a b : List RawElement) → FormatTokens ts a → FormatTokens ts b → a ≡ b
unfolding FormatTokens
one-answer ts a b x y = flat-one-tree (whole format) format-checked ts a b x y

no-refusal : (src : Text) (place : ℕ) (a : List RawElement) → IsRefusedAt src place
    → IsFormat src a → ⊥
no-refusal src place a x y =
    let same = one-list src (x.front ++ x.next ∷ x.rest) y.tokens x.are y.are in
    x.ends x.rest a (subst (λ (w : Tokens). FormatTokens w a) (sym same) y.spelled)

pub read-accepts : (src : Text) (ts : Tokens) → ts ≡ tokens_at src 0
    → (r : Result (List RawElement) FormatAt) → ReadsWhole format ts r
    → (a : List RawElement) → IsFormat src a → (r ≡ Ok a) ⊎ (r ≡ Err OutOfMemory)
read-accepts src ts is (Ok b) x a y =
    let same = one-list src y.tokens ts y.are (subst (AreTokens src) (sym is) (all-at src)) in
    let spelled = subst (λ (w : Tokens). FormatTokens w a) same y.spelled in
    inl (ap (λ l. Ok l) (one-answer ts b a (spelled-all ts b x.went) spelled))
read-accepts src ts is (Err (At place)) x a y =
    absurd (no-refusal src place a (read-refused src ts is (Err (At place)) x place refl) y)
read-accepts src ts is (Err OutOfMemory) x a y = inr refl
