-- What a function of the reader did.
--
-- The tokens from the present one on are a list. A function that reads a rule of the grammar
-- answers what the grammar's reader answers of this list, and leaves the tokens behind.
--
--   now_of ts, behind ts   the present token, and those behind it
--   HasToken ts            there is a present token, and behind the end there is none
--   Refuses ts e           the present token is refused at its place
--   Reads g old r new      the call read a piece of the grammar g
--   IsAtEnd ts r           the present token is the end, the last one, or it is refused
--   ReadsWhole g old r     the call read a piece of g and saw the end behind it
use Rattle.std.specs.Prelude.{◌≡◌, Bool, true, false, [], ◌∷◌, Result, Ok, Err}
use Rattle.ir_lexer.specs.declared.class.Class.TheVariants.{End}
use Rattle.ir_lexer.specs.Tokens.{Token}
use Rattle.grammar.specs.Flat.{Flat, flat}
use Rattle.grammar.specs.Grammar.{Tokens, Parser, done, stop, starts}
use Rattle.grammar.specs.Looks.{any_of, passes}
use Rattle.grammar.specs.Ran.{reads_in}
use Rattle.grammar.specs.Rules.{whole}
use Rattle.format_reader.specs.declared.stop.FormatAt.{FormatAt}
use Rattle.format_reader.specs.declared.stop.FormatAt.TheVariants.{At, OutOfMemory}

-- the present token; of no tokens it means nothing
abbrev pub now_of : Tokens → Token
now_of [] = record { class = End; text = []; place = 0 }
now_of (t ∷ ts) = t

-- the tokens behind it
abbrev pub behind : Tokens → Tokens
behind [] = []
behind (t ∷ ts) = ts

-- there is a present token, and behind the end there is none
pub record HasToken (ts : Tokens) : Type 0 where
  pub is : ts ≡ now_of ts ∷ behind ts
  pub last : passes (any_of End) (now_of ts) ≡ true → behind ts ≡ []

-- a piece of the grammar begins with this token
abbrev pub begins : {A : Type 0} → Flat A → Token → Bool
begins g t = starts flat.begins g t

-- the present token is refused, at its place
abbrev pub Refuses : Tokens → FormatAt → Type 0
Refuses ts (At place) = HasToken ts × (place ≡ (now_of ts).place)
Refuses ts OutOfMemory = ⊥

-- the call answered what the reader answers, or memory ran out
abbrev pub Went : {A : Type 0} → Parser A → Tokens → Result A FormatAt → Tokens → Type 0
Went p old (Ok a) new = p old ≡ done a new
Went p old (Err (At place)) new =
    (t : Token) × (rest : Tokens) × (p old ≡ stop false (t ∷ rest)) × (place ≡ t.place)
Went p old (Err OutOfMemory) new = Unit {0}

-- the call read a piece of the grammar
pub record Reads {A : Type 0} (g : Flat A) (old : Tokens) (result : Result A FormatAt)
    (new : Tokens) : Type 0 where
  pub went : Went (reads_in flat g) old result new

-- the present token is the end, and the last one
pub record IsEnd (ts : Tokens) : Type 0 where
  pub alone : ts ≡ now_of ts ∷ []
  pub passes : passes (any_of End) (now_of ts) ≡ true

-- the present token is the end, or it is refused
abbrev pub IsAtEnd : Tokens → Result (Unit {0}) FormatAt → Type 0
IsAtEnd ts (Ok u) = IsEnd ts
IsAtEnd ts (Err e) = Refuses ts e × (passes (any_of End) (now_of ts) ≡ false)

-- the call read a piece of the grammar and saw the end behind it
pub record ReadsWhole {A : Type 0} (g : Flat A) (old : Tokens) (result : Result A FormatAt)
    : Type 0 where
  pub went : Went (reads_in flat (whole g)) old result []
