-- What a parser of whole texts answers, in the words of its grammar.
--
-- 'No text goes on' and 'too deep' never hold of one token of one list (`refused-or-deep` of
-- `proofs/Fronts.antt`), so a refusal has one code.
--
--   Told s P              where the source s tells its tokens, P holds of them
--   IsRefusal R D ts p c  the tokens ts are refused at the place p, with the code c
--   Answered R D ts r     the answer r is the tree of ts, or its refusal, or says nothing of ts
--   Accepts R D ts r      where ts have a front, its tree is answered
--   ReadsFront R D old r new
--                         the call read the front of what comes, or was refused there
--   ComeFrom s ts         the source s may have these tokens, told or not
--   IsReadFrom R D s a    a is the tree of tokens that come from the source
use Rattle.std.specs.Prelude.{◌≡◌, ◌⊎◌, ℕ, ◌∷◌, ◌++◌, Some, Result, Ok, Err}
use Rattle.ir_lexer.specs.Source.{Source, PlacesAscend}
use Rattle.ir_lexer.specs.Tokens.{Token}
use Rattle.grammar.specs.declared.stop.SyntaxCode.{SyntaxCode}
use Rattle.grammar.specs.declared.stop.SyntaxCode.TheVariants.{Nesting}
use Rattle.grammar.specs.declared.stop.SyntaxStop.{SyntaxStop}
use Rattle.grammar.specs.declared.stop.SyntaxStop.TheVariants.{At, Failed, OutOfMemory}
use Rattle.grammar.specs.Front.{Lists, AreSpelled, Shallow, Front, Refused, TooDeep}
use Rattle.grammar.specs.Grammar.{Tokens}
use Rattle.grammar.specs.Ran.{AreShort, GoneOver, IsCodeOf}

-- where the source tells its tokens, this holds of them, from the present one on
abbrev pub Told : Source → (Tokens → Type 0) → Type 0
Told s P = (ts : Tokens) → s.later ≡ Some ts → P (s.now ∷ ts)

-- The tokens are refused at the first token that no text has there, by its class, or at the first
-- that begins a value too deep.
abbrev pub IsRefusal : {A : Type 0} → (Tokens → A → Type 0) → Lists → Tokens → ℕ → SyntaxCode
    → Type 0
IsRefusal R D ts place code = (t : Token) × (rest : Tokens) × (place ≡ t.place)
    × ((Refused R D ts (t ∷ rest) × IsCodeOf t.class code)
    ⊎ (TooDeep D ts (t ∷ rest) × (code ≡ Nesting)))

-- an answer that is Ok is the tree of the front; one with a place is the refusal
abbrev pub Answered : {A : Type 0} → (Tokens → A → Type 0) → Lists → Tokens → Result A SyntaxStop
    → Type 0
Answered R D ts (Ok a) = (rest : Tokens) × Front R D ts a rest
Answered R D ts (Err (At place code)) = IsRefusal R D ts place code
Answered R D ts (Err Failed) = Unit {0}
Answered R D ts (Err OutOfMemory) = Unit {0}

-- where the tokens have a front, its tree is answered, unless the source failed or memory ran out
abbrev pub Accepts : {A : Type 0} → (Tokens → A → Type 0) → Lists → Tokens → Result A SyntaxStop
    → Type 0
Accepts {A = A} R D ts result = (a : A) (rest : Tokens) → Front R D ts a rest
    → (result ≡ Ok a) ⊎ ((result ≡ Err Failed) ⊎ (result ≡ Err OutOfMemory))

-- The source went over a front of what comes. Its tree is a, whatever comes behind the token at
-- which the source stands now.
pub record IsFrontRead {A : Type 0} (R : Tokens → A → Type 0) (D : Lists) (old : Source) (a : A)
    (new : Source) : Type 0 where
  pub front : Tokens
  pub gone : GoneOver old front new
  pub is : (rest : Tokens) → Front R D (front ++ new.now ∷ rest) a (new.now ∷ rest)

-- The source went over tokens behind which the present one is refused, whatever comes behind it.
pub record IsFrontRefused {A : Type 0} (R : Tokens → A → Type 0) (D : Lists) (old : Source)
    (place : ℕ) (code : SyntaxCode) (new : Source) : Type 0 where
  pub front : Tokens
  pub gone : GoneOver old front new
  pub is : (rest : Tokens) → IsRefusal R D (front ++ new.now ∷ rest) place code

-- an answer that is Ok is the tree of the front of what comes, behind which the source stands; one
-- with a place is the refusal of the token at which it stands
abbrev pub ReadsFront : {A : Type 0} → (Tokens → A → Type 0) → Lists → Source
    → Result A SyntaxStop → Source → Type 0
ReadsFront R D old (Ok a) new = IsFrontRead R D old a new
ReadsFront R D old (Err (At place code)) new = IsFrontRefused R D old place code new
ReadsFront R D old (Err Failed) new = Unit {0}
ReadsFront R D old (Err OutOfMemory) new = Unit {0}

-- Tokens that a source may have, from its present one on: the texts spell their classes and are
-- within its bound, and the places ascend. Where it tells its tokens, they are these.
pub record ComeFrom (s : Source) (ts : Tokens) : Type 0 where
  pub spelled : AreSpelled ts
  pub short : AreShort s.left ts
  pub ascend : PlacesAscend ts
  pub told : (more : Tokens) → s.later ≡ Some more → ts ≡ s.now ∷ more

-- the tree of some tokens that come from the source, of which none is too deep
pub record IsReadFrom {A : Type 0} (R : Tokens → A → Type 0) (D : Lists) (s : Source) (a : A)
    : Type 0 where
  pub tokens : Tokens
  pub come : ComeFrom s tokens
  pub tree : R tokens a
  pub shallow : Shallow D tokens
