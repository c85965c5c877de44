-- What the theorem on readers says, of token lists of any texts.
--
-- `Refused` of `Front` speaks of tokens that bytes can give; it follows from `Blocked` where each
-- look of a grammar is met by such a token.
--
--   HasMore P ts          some list of the set begins with these tokens
--   Blocked R D ts rest   as `Refused`, where any tokens may come
--   IsExactAnswer R D ts o    what the answer o of a reader says of the tokens ts
--
-- Inside: no public clause rests on this.
use Rattle.std.specs.Prelude.{◌≡◌, true, false, ◌++◌}
use Rattle.grammar.specs.Front.{Lists, Barred, Shallow, Some_of, Front, TooDeep}
use Rattle.grammar.specs.Grammar.{Tokens, Outcome, done, stop}

-- some list of the set begins with these tokens
abbrev pub HasMore : Lists → Lists
HasMore P ts = (more : Tokens) × P (ts ++ more)

-- The tokens before the rest begin a list and are no piece, one token more begins none, and nothing
-- in them is too deep.
pub record Blocked {A : Type 0} (R : Tokens → A → Type 0) (D : Lists)
    (ts rest : Tokens) : Type 0 where
  pub front : Tokens
  pub is : ts ≡ front ++ rest
  pub viable : HasMore (Some_of R) front
  pub none : Some_of R front → ⊥
  pub barred : Barred (Some_of R) front rest
  pub shallow : Shallow D front

-- what the answer of a reader says
abbrev pub IsExactAnswer : {A : Type 0} → (Tokens → A → Type 0) → Lists → Tokens → Outcome A
    → Type 0
IsExactAnswer R D ts (done a rest) = Front R D ts a rest
IsExactAnswer R D ts (stop false rest) = Blocked R D ts rest
IsExactAnswer R D ts (stop true rest) = TooDeep D ts rest
