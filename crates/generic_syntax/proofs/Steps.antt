-- Steps of rules that the readers of values take, beside those of `grammar`.
--
--   at-look        a token that passes a look, taken by its class
--   at-words       one of some words
--   deeper, ..     a value that stands in another
--   memory-after   memory ran out behind a piece
use Rattle.std.proofs.Common.{◌≡◌, ℕ, zero, suc, ◌-◌, ◌<◌, Bool, true, false, ◌||◌, List, [], ◌∷◌, Result, Ok, Err, refl, sym, ◌∙◌, arith, codes, subst}
use Rattle.generic_syntax.specs.declared.cst.ValueCst.{ValueCst}
use Rattle.grammar.specs.declared.stop.SyntaxStop.{SyntaxStop}
use Rattle.grammar.specs.declared.stop.SyntaxStop.TheVariants.{At, OutOfMemory}
use Rattle.grammar.specs.declared.stop.SyntaxCode.TheVariants.{Nesting}
use Rattle.grammar.specs.Grammar.{G, Tokens, tok, starts, read_tok}
use Rattle.grammar.specs.Looks.{Look, any_of, word, int_word, passes, any, class_of, text_fits}
use Rattle.grammar.specs.Ran.{Ran, Env, reads_in, Took, Reads, code_by_class}
use Rattle.grammar.proofs.Meet.{and-true}
use Rattle.grammar.proofs.Inside.{at-kid, tok-deep}
use Rattle.grammar.proofs.Calls.{tok-refused, went-as}
use Rattle.grammar.proofs.Runs.{at-tok, at-refused, at-ret, left, right}
use Rattle.ir_lexer.specs.declared.class.Class.TheVariants.{Word, LParen}
use Rattle.ir_lexer.specs.Source.{Source}
use Rattle.ir_lexer.specs.Spelling.{Text}
use Rattle.ir_lexer.specs.Tokens.{Token}
use Rattle.generic_syntax.specs.Values.{Sort, Sem, rule, inner, one_of, type_word, type_words, plain_node, type_node, list1}
use Rattle.grammar.specs.Rules.{list}
use Rattle.generic_syntax.specs.Begins.{Begins}
use Rattle.generic_syntax.specs.Nested.{value_looks, no_tree, value_at, values_within}
use Rattle.generic_syntax.proofs.OneToken.{full}
use Rattle.generic_syntax.proofs.Knot.{starts-rule, rule-starts}

module _ {X : Type 0} {Sem : X → Type 0} {e : Env X Sem} where
  -- memory ran out behind a piece
  pub memory-after : {A : Type 0} {g : G X Sem A} {a : A} {s s' : Source} → Reads e g s (Ok a) s'
      → Reads e g s (Err OutOfMemory) s'
  memory-after {s' = s'} x = record {
    ran = record {
      kept = record {
        faults = x.ran.kept.faults;
        cause = tt;
        origin = x.ran.kept.origin;
        steady = x.ran.kept.steady;
        goes_on = tt;
      };
      less = tt;
      went = tt;
    };
  }

-- the same tree, said in another way
pub reads-as : {X : Type 0} {Sem : X → Type 0} {A : Type 0} {e : Env X Sem} {g : G X Sem A}
    {v w : A} {s s' : Source} → v ≡ w → Reads e g s (Ok w) s' → Reads e g s (Ok v) s'
reads-as {e = e} {g = g} {s = s} {s' = s'} is x =
    subst (λ (y : _). Reads e g s (Ok y) s') (sym is) x

-- a reader of one token by another test, on tokens whose first passes both or none
tok-by : {A : Type 0} (test other : Token → Bool) (f : Token → A) (t : Token) (more w : Tokens)
    → w ≡ t ∷ more → test t ≡ other t → read_tok false other f w ≡ read_tok false test f w
tok-by test other f t more w is e = rw is (rw (sym e) refl)

-- a token taken by another test that it passes as well
pub took-as : {A : Type 0} {test other : Token → Bool} {f : Token → A} {s s' : Source}
    {r : Result A SyntaxStop} → test s.now ≡ other s.now → Took test f s r s'
    → Took other f s r s'
took-as {test = test} {other = other} {f = f} {s = s} {r = r} e x = record {
  ran = record {
    kept = x.ran.kept;
    less = x.ran.less;
    went = went-as _ _ r (λ front y rest. let b = y.begins rest in
        tok-by test other f s.now b.0 _ b.1 e) x.ran.went;
  };
}

-- what passes a look is of its class
by-class : (l : Look) (t : Token) → passes l t ≡ true → passes (any_of (class_of l)) t ≡ true
by-class l t h = let u = and-true _ (text_fits l t.text) h in rw u.0 refl

-- a token that passes the look, taken by its class
pub took-look : {A : Type 0} (l : Look) {f : Token → A} {s s' : Source} {r : Result A SyntaxStop}
    → passes l s.now ≡ true → Took (passes (any_of (class_of l))) f s r s'
    → Took (passes l) f s r s'
took-look l {s = s} h x = took-as (by-class l s.now h ∙ sym h) x

module _ {X : Type 0} {Sem : X → Type 0} {e : Env X Sem} where
  -- the same, as a piece of its own
  pub at-look : {A : Type 0} (l : Look) {f : Token → A} {s s' : Source} {r : Result A SyntaxStop}
      → passes l s.now ≡ true → Took (passes (any_of (class_of l))) f s r s'
      → Reads e (tok false l f) s r s'
  at-look l h x = at-tok (took-look l h x)

module _ {e : Env Sort Sem} where
  -- one of these words
  pub at-words : (w : Text) (vs : List Text) {s s' : Source} {r : Result Text SyntaxStop}
      → starts e.begins (one_of w vs) s.now ≡ true
      → Took (passes (any_of Word)) (λ t. t.text) s r s' → Reads e (one_of w vs) s r s'
  at-words w [] {s = s} h x = at-look (word w) h x
  at-words w (v ∷ vs) {s = s} {s' = s'} {r = r} h x =
      go (passes (word w) s.now) refl h (λ h. at-words v vs h x)
    where
      go : (b : Bool) → passes (word w) s.now ≡ b
          → (b || starts e.begins (one_of v vs) s.now) ≡ true
          → (starts e.begins (one_of v vs) s.now ≡ true → Reads e (one_of v vs) s r s')
          → Reads e (one_of w (v ∷ vs)) s r s'
      go true q h again = left q (at-look (word w) q x)
      go false q h again = right q (again h)

  -- a word that is none of these is refused
  pub no-words : (w : Text) (vs : List Text) {s : Source} {why : SyntaxStop}
      → starts e.begins (one_of w vs) s.now ≡ false
      → why ≡ At s.now.place (code_by_class s.now.class) → Reads e (one_of w vs) s (Err why) s
  no-words w [] h is = at-refused (word w) h is
  no-words w (v ∷ vs) {s = s} {why = why} h is =
      go (passes (word w) s.now) refl h (λ h. no-words v vs h is)
    where
      go : (b : Bool) → passes (word w) s.now ≡ b
          → (b || starts e.begins (one_of v vs) s.now) ≡ false
          → (starts e.begins (one_of v vs) s.now ≡ false → Reads e (one_of v vs) s (Err why) s)
          → Reads e (one_of w (v ∷ vs)) s (Err why) s
      go true q h again = absurd (cc)
      go false q h again = right q (again h)

  -- a word that is a type
  pub at-type-word : {s s' : Source} {r : Result Text SyntaxStop}
      → starts e.begins type_word s.now ≡ true → Took (passes (any_of Word)) (λ t. t.text) s r s'
      → Reads e type_word s r s'
  at-type-word {s = s} {s' = s'} {r = r} h x = go (passes int_word s.now) refl h
    where
      go : (b : Bool) → passes int_word s.now ≡ b
          → (b || starts e.begins (one_of (codes "index") type_words) s.now) ≡ true
          → Reads e type_word s r s'
      go true q h = left q (at-look int_word q x)
      go false q h = right q (at-words (codes "index") type_words h x)

-- ---- a value that stands in another

one-deeper : (n : ℕ) (x : Sort) (s s' : Source) (r : Result ValueCst SyntaxStop)
    → Reads (values_within n) (rule x) s r s' → Ran 1 (value_at (suc n) x) s r s'
unfolding value_at reads_in
one-deeper n x s s' r h =
    record { kept = h.ran.kept; less = rw (full x) at h.ran.less; went = h.ran.went }

-- the rule of a value, for the value
pub deeper : (n : ℕ) (x : Sort) {s s' : Source} {r : Result ValueCst SyntaxStop} → 0 < n
    → Reads (values_within (n - 1)) (rule x) s r s' → Reads (values_within n) (inner x) s r s'
deeper zero x h q = absurd (omega arith)
deeper (suc n) x {s = s} {s' = s'} {r = r} h q =
    let e : suc n - 1 ≡ n = omega arith in at-kid x (one-deeper n x s s' r (rw e at q))

-- the two ways to say with which tokens a value begins
same-bool : (a b : Bool) → (a ≡ true → b ≡ true) → (b ≡ true → a ≡ true) → a ≡ b
same-bool true b f g = sym (f refl)
same-bool false true f g = g refl
same-bool false false f g = refl

-- the two ways to say with which tokens a value begins are one
pub kid-begins : (x : Sort) (t : Token) → any (value_looks x) t ≡ Begins (rule x) t
kid-begins x t = same-bool _ _ (rule-starts x t) (starts-rule x t)

-- no value may nest so deep
pub value-deep : (n : ℕ) (x : Sort) {s : Source} {why : SyntaxStop} → n ≡ 0
    → Begins (rule x) s.now ≡ true → why ≡ At s.now.place Nesting
    → Reads (values_within n) (inner x) s (Err why) s
unfolding value_at
value-deep zero x {s = s} {why = why} z h is =
    at-kid x (tok-deep (any (value_looks x)) no_tree s why (kid-begins x s.now ∙ h) is)
value-deep (suc n) x z h is = absurd (omega arith)

-- no value begins so
pub value-refused : (n : ℕ) (x : Sort) {s : Source} {why : SyntaxStop} → n ≡ 0
    → Begins (rule x) s.now ≡ false → why ≡ At s.now.place (code_by_class s.now.class)
    → Reads (values_within n) (inner x) s (Err why) s
unfolding value_at
value-refused zero x {s = s} {why = why} z h is =
    at-kid x (tok-refused true (any (value_looks x)) no_tree s why (kid-begins x s.now ∙ h) is)
value-refused (suc n) x z h is = absurd (omega arith)

-- ---- with which tokens a type begins

-- a type without parentheses is a type
pub type-begins : (t : Token) → Begins plain_node t ≡ true → Begins type_node t ≡ true
type-begins t h = rw h refl

-- so is a function
pub function-begins : (t : Token) → Begins plain_node t ≡ false
    → passes (any_of LParen) t ≡ true → Begins type_node t ≡ true
function-begins t h e = rw (h, e) refl

-- and nothing else
pub no-type-begins : (t : Token) → Begins plain_node t ≡ false
    → passes (any_of LParen) t ≡ false → Begins type_node t ≡ false
no-type-begins t h e = rw (h, e) refl

-- ---- lists of values that stand in another

-- no value begins here
pub no-values : (n : ℕ) (x : Sort) {s : Source} → Begins (rule x) s.now ≡ false
    → Reads (values_within n) (list (inner x)) s (Ok []) s
no-values n x {s = s} h = right (or-nothing _ (kid-begins x s.now ∙ h)) at-ret
  where
    or-nothing : (b : Bool) → b ≡ false → (b || false) ≡ false
    or-nothing true e = absurd (cc)
    or-nothing false e = refl

-- one begins here
pub some-values : (n : ℕ) (x : Sort) {s s' : Source} {r : Result (List ValueCst) SyntaxStop}
    → Begins (rule x) s.now ≡ true
    → Reads (values_within n) (list1 (inner x)) s r s'
    → Reads (values_within n) (list (inner x)) s r s'
some-values n x {s = s} h y = left (or-this _ (kid-begins x s.now ∙ h)) y
  where
    or-this : (b : Bool) → b ≡ true → (b || false) ≡ true
    or-this true e = refl
    or-this false e = absurd (cc)
