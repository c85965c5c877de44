-- What a call that reads tokens did.
--
-- Of its source `Kept` says what stands after every call: the count of faults never fell, a failure
-- has its cause, and the origin and the steadiness are as they were. What a source is told to come
-- doesn't matter to `Went`: on the tokens that the call went over, and whatever comes behind the
-- present one, it answered what the reader of a grammar answers there. `Reads` is both, for a piece
-- of a grammar: it is the one clause of each function that reads a rule.
--
--   IsCodeOf class c       c is the code of a token of the class that no text has at its place
--   RefusesToken t e       the token t is refused
--   Kept old r new         what stands after every call that answered r
--   GoneOver old front new the source went over the tokens front, and stands behind them
--   HasRead p old a new    on the tokens that it went over, the reader p reads a
--   HasStopped p old place code new
--                          on these tokens, the reader stops before the present one
--   Went p old r new       the call answered r by the reader p
--   Took test f old r new  the call took one token, or was refused there
--   RefusesBy test s r     a token is refused exactly where it fails the test
--   Reads e g old r new    the call read a piece of the grammar g
--   IsAtEnd s r            the source stands at the end, or the present token is refused
--   ReadsWhole e g old r new   the call read a piece of g and saw the end behind it
use Rattle.std.specs.Prelude.{◌≡◌, ◌≢◌, ◌↔◌, ℕ, ◌+◌, ◌≤◌, Bool, true, false, if◌then◌else◌, [], ◌∷◌, ◌++◌, length, Some, Result, Ok, Err, OnOk}
use Rattle.std.specs.List.{AllByRecursion}
use Rattle.irdl_bytes.specs.Outside.{Rose}
use Rattle.ir_lexer.specs.declared.class.Class.{Class}
use Rattle.ir_lexer.specs.declared.class.Class.TheVariants as class
use Rattle.ir_lexer.specs.Source.{Source, PlacesAscend}
use Rattle.ir_lexer.specs.declared.source.TokenStop.{TokenStop}
use Rattle.ir_lexer.specs.declared.source.TokenStop.TheVariants as source
use Rattle.ir_lexer.specs.Tokens.{Token}
use Rattle.grammar.specs.declared.stop.SyntaxStop.{SyntaxStop}
use Rattle.grammar.specs.declared.stop.SyntaxStop.TheVariants.{At, Failed, OutOfMemory}
use Rattle.grammar.specs.declared.stop.SyntaxCode.{SyntaxCode}
use Rattle.grammar.specs.declared.stop.SyntaxCode.TheVariants as code
use Rattle.grammar.specs.Front.{AreSpelled}
use Rattle.grammar.specs.Grammar.{G, Tokens, Parser, done, stop, nullable, reads, read_tok}
use Rattle.grammar.specs.Rules.{whole}

-- ---- codes

-- The code of a token of this class that no text has at its place: a `Float` has one of its own, and
-- so has a `Bad` token.
pub record IsCodeOf (c : Class) (x : SyntaxCode) : Type 0 where
  pub float : (x ≡ code.Float) ↔ (c ≡ class.Float)
  pub bad : (x ≡ code.Bad) ↔ (c ≡ class.Bad)
  pub shallow : x ≢ code.Nesting

-- the token is refused, at its place and with the code of its class
abbrev pub RefusesToken : Token → SyntaxStop → Type 0
RefusesToken t (At place c) = (place ≡ t.place) × IsCodeOf t.class c
RefusesToken t Failed = ⊥
RefusesToken t OutOfMemory = ⊥

-- the code of a token of a class, as a table
abbrev pub code_by_class : Class → SyntaxCode
code_by_class class.Float = code.Float
code_by_class class.Bad = code.Bad
code_by_class _ = code.Syntax

-- the same, or that of a token which begins a value too deep
abbrev pub code_at : Bool → Token → SyntaxCode
code_at true t = code.Nesting
code_at false t = code_by_class t.class

-- ---- the source

-- a failed step as the call hands it on
abbrev pub handed_on : TokenStop → SyntaxStop
handed_on source.Failed = Failed
handed_on source.OutOfMemory = OutOfMemory

-- `Failed` comes only where the count of faults rose, and never from a steady source
abbrev pub CallHasCause : {A : Type 0} → Result A SyntaxStop → Source → Source → Type 0
CallHasCause (Ok a) old new = Unit {0}
CallHasCause (Err (At place c)) old new = Unit {0}
CallHasCause (Err Failed) old new = Rose old.faults new.faults × (old.steady ≢ true)
CallHasCause (Err OutOfMemory) old new = Unit {0}

-- no `advance` answered an error, unless the call handed it on
abbrev pub GoesOn : {A : Type 0} → Result A SyntaxStop → Source → Source → Type 0
GoesOn (Ok a) old new = new.stopped ≡ old.stopped
GoesOn (Err (At place c)) old new = new.stopped ≡ old.stopped
GoesOn (Err Failed) old new = Unit {0}
GoesOn (Err OutOfMemory) old new = Unit {0}

-- what stands after every call
pub record Kept {A : Type 0} (old : Source) (result : Result A SyntaxStop)
    (new : Source) : Type 0 where
  pub faults : old.faults ≤ new.faults
  pub cause : CallHasCause result old new
  pub origin : new.origin ≡ old.origin
  pub steady : old.steady ≡ true → new.steady ≡ true
  pub goes_on : GoesOn result old new

-- ---- the tokens that a source went over

-- tokens whose texts have at most so many bytes
abbrev pub AreShort : ℕ → Tokens → Type 0
AreShort most ts = AllByRecursion (λ t. length t.text ≤ most) ts

-- The source went over these tokens and stands at the one behind them. Told or not, their texts
-- spell their classes and are within its bound, and the places ascend to that of the present token.
-- The first of all these is the token at which the source stood; and where the source tells its
-- tokens, they are these.
pub record GoneOver (old : Source) (front : Tokens) (new : Source) : Type 0 where
  pub spelled : AreSpelled front
  pub short : AreShort old.left front
  pub ascend : PlacesAscend (front ++ new.now ∷ [])
  pub left : new.left ≤ old.left
  pub begins : (rest : Tokens) → (more : Tokens) × (front ++ new.now ∷ rest ≡ old.now ∷ more)
  pub told : (ts : Tokens) → old.later ≡ Some ts
      → (rest : Tokens) × (old.now ∷ ts ≡ front ++ new.now ∷ rest) × (new.later ≡ Some rest)

-- the source went over tokens of which the reader reads a, whatever comes behind the present one
pub record HasRead {A : Type 0} (p : Parser A) (old : Source) (a : A) (new : Source)
    : Type 0 where
  pub front : Tokens
  pub gone : GoneOver old front new
  pub reads : (rest : Tokens) → p (front ++ new.now ∷ rest) ≡ done a (new.now ∷ rest)

-- the source went over tokens behind which the reader stops before the present one, whatever comes
-- behind that; the place and the code are its own
pub record HasStopped {A : Type 0} (p : Parser A) (old : Source) (place : ℕ) (code : SyntaxCode)
    (new : Source) : Type 0 where
  pub front : Tokens
  pub gone : GoneOver old front new
  pub deep : Bool
  pub place_is : place ≡ new.now.place
  pub code_is : code ≡ code_at deep new.now
  pub stops : (rest : Tokens) → p (front ++ new.now ∷ rest) ≡ stop deep (new.now ∷ rest)

-- the call answered what the reader answers, or gave up for a fault or want of memory
abbrev pub Went : {A : Type 0} → Parser A → Source → Result A SyntaxStop → Source → Type 0
Went p old (Ok a) new = HasRead p old a new
Went p old (Err (At place c)) new = HasStopped p old place c new
Went p old (Err Failed) new = Unit {0}
Went p old (Err OutOfMemory) new = Unit {0}

-- The call did what this reader does, and took at least k tokens where it answered Ok.
pub record Ran {A : Type 0} (k : ℕ) (p : Parser A) (old : Source) (result : Result A SyntaxStop)
    (new : Source) : Type 0 where
  pub kept : Kept old result new
  pub less : OnOk result (k + new.left ≤ old.left)
  pub went : Went p old result new

-- how the nonterminals are read, with which tokens they begin, and whether no value may begin
-- one deeper
pub record Env (X : Type 0) (Sem : X → Type 0) : Type 0 where
  pub begins : X → Token → Bool
  pub inside : (x : X) → Parser (Sem x)
  pub none : Bool

-- the reader of a grammar, over such nonterminals
unfoldable pub reads_in : {X : Type 0} {Sem : X → Type 0} {A : Type 0} → Env X Sem → G X Sem A
    → Parser A
reads_in e g = reads e.begins e.inside e.none g

-- how many tokens a piece has at least: none where the empty list is one, else one
abbrev pub size : {X : Type 0} {Sem : X → Type 0} {A : Type 0} → G X Sem A → ℕ
size g = if nullable g then 0 else 1

-- the call took one token, or was refused there
pub record Took {A : Type 0} (test : Token → Bool) (f : Token → A) (old : Source)
    (result : Result A SyntaxStop) (new : Source) : Type 0 where
  pub ran : Ran 1 (read_tok false test f) old result new

-- the call read a piece of the grammar
pub record Reads {X : Type 0} {Sem : X → Type 0} {A : Type 0} (e : Env X Sem) (g : G X Sem A)
    (old : Source) (result : Result A SyntaxStop) (new : Source) : Type 0 where
  pub ran : Ran (size g) (reads_in e g) old result new

-- A step without memory of its own refuses a token exactly where it fails the test, at the token's
-- place and by its class. Any other answer is to a token that passes.
abbrev pub RefusesBy : {A : Type 0} → (Token → Bool) → Source → Result A SyntaxStop → Type 0
RefusesBy test s (Ok a) = test s.now ≡ true
RefusesBy test s (Err (At place c)) = (test s.now ≡ false) × RefusesToken s.now (At place c)
RefusesBy test s (Err Failed) = test s.now ≡ true
RefusesBy test s (Err OutOfMemory) = test s.now ≡ true

-- ---- whole texts

-- the present token is the end: its text is empty, and no token is told behind it
pub record IsEnd (s : Source) : Type 0 where
  pub ended : s.now.class ≡ class.End
  pub empty : s.now.text ≡ []
  pub alone : (ts : Tokens) → s.later ≡ Some ts → ts ≡ []

-- the source stands at the end, or the present token is refused
abbrev pub IsAtEnd : Source → Result (Unit {0}) SyntaxStop → Type 0
IsAtEnd s (Ok u) = IsEnd s
IsAtEnd s (Err (At place c)) = (s.now.class ≢ class.End) × RefusesToken s.now (At place c)
IsAtEnd s (Err Failed) = ⊥
IsAtEnd s (Err OutOfMemory) = ⊥

-- The source went over tokens and stands at the end, which isn't gone over: of these tokens and the
-- end the reader reads a, and nothing is left.
pub record HasReadAll {A : Type 0} (p : Parser A) (old : Source) (a : A) (new : Source)
    : Type 0 where
  pub front : Tokens
  pub gone : GoneOver old front new
  pub end : IsEnd new
  pub reads : p (front ++ new.now ∷ []) ≡ done a []

-- as `Went`, of a reader that reads the end last
abbrev pub WentToEnd : {A : Type 0} → Parser A → Source → Result A SyntaxStop → Source → Type 0
WentToEnd p old (Ok a) new = HasReadAll p old a new
WentToEnd p old (Err (At place c)) new = HasStopped p old place c new
WentToEnd p old (Err Failed) new = Unit {0}
WentToEnd p old (Err OutOfMemory) new = Unit {0}

-- The call read a piece of the grammar and saw the end behind it.
pub record ReadsWhole {X : Type 0} {Sem : X → Type 0} {A : Type 0} (e : Env X Sem) (g : G X Sem A)
    (old : Source) (result : Result A SyntaxStop) (new : Source) : Type 0 where
  pub kept : Kept old result new
  pub went : WentToEnd (reads_in e (whole g)) old result new
