-- What a source of tokens means, and what a step of it does.
--
-- A source stands at a token. Some sources also tell which tokens come behind it: one over a text
-- in memory does, one over a file can only where the file's bytes are told. All else holds of every
-- source, told or not.
--
--   Source            what a source means at one moment
--   Origin            the file that a source reads, and where told, all files
--   IsToken t         the text of t spells its class
--   PlacesAscend ts   each token of ts stands at a greater place than the one before it
--   IsInOrder s       what always holds of a source
--   Advances s r s'   a step to the next token leads from s to s' and answers r
use Rattle.std.specs.Prelude.{◌≡◌, ◌≢◌, ◌⊎◌, ℕ, ◌≤◌, ◌<◌, Bool, true, List, [], ◌∷◌, length, All, Option, Some, IfSome, Result, Ok, Err, OnOk, OnErr}
use Rattle.irdl_bytes.specs.Outside.{FileMap, Rose}
use Rattle.ir_lexer.specs.declared.class.Class.TheVariants.{End, Bad}
use Rattle.ir_lexer.specs.declared.source.TokenStop.{TokenStop}
use Rattle.ir_lexer.specs.declared.source.TokenStop.TheVariants.{Failed, OutOfMemory}
use Rattle.ir_lexer.specs.Spelling.{Text, Spells}
use Rattle.ir_lexer.specs.Tokens.{Token}

-- the name of a file, and where told, the bytes of each name that has a file
pub record Origin : Type 0 where
  pub name : Text
  pub files : Option FileMap

-- what a source of tokens means at one moment
pub record Source : Type 0 where
  -- the present token
  pub now : Token
  -- the tokens behind it, up to and with `End`, where the source tells them
  pub later : Option (List Token)
  -- how often something outside has failed
  pub faults : ℕ
  -- a bound on the steps that are left
  pub left : ℕ
  -- what the source was made over: nothing, or a file
  pub origin : Option Origin
  -- nothing outside fails
  pub steady : Bool
  -- a step has answered an error
  pub stopped : Bool

-- A token's text spells its class; that of `Bad` is one byte, and that of `End` is empty.
abbrev pub IsToken : Token → Type 0
IsToken t =
    Spells t.class t.text
    ⊎ (((t.class ≡ Bad) × (length t.text ≡ 1)) ⊎ ((t.class ≡ End) × (t.text ≡ [])))

-- each token stands at a greater place than the one before it
abbrev pub PlacesAscend : List Token → Type 0
PlacesAscend [] = Unit {0}
PlacesAscend (t ∷ []) = Unit {0}
PlacesAscend (t ∷ u ∷ ts) = (t.place < u.place) × PlacesAscend (u ∷ ts)

-- What always holds of a source, told or not: the present token's text spells its class and is no
-- longer than the bound. The texts of the tokens that are told spell theirs, and all places ascend.
pub record IsInOrder (s : Source) : Type 0 where
  pub spells : IsToken s.now
  pub short : length s.now.text ≤ s.left
  pub later_spell : IfSome s.later (All IsToken)
  pub ascend : (ts : List Token) → s.later ≡ Some ts → PlacesAscend (s.now ∷ ts)

-- `Failed` comes only where the count rose, and never from a steady source. Want of memory is free.
abbrev pub StepHasCause : Source → Result (Unit {0}) TokenStop → Source → Type 0
StepHasCause old (Ok a) new = Unit {0}
StepHasCause old (Err Failed) new = Rose old.faults new.faults × (old.steady ≢ true)
StepHasCause old (Err OutOfMemory) new = Unit {0}

-- A step drops the present token. `Ok` at another class than `End` makes `left` less and goes to a
-- greater place, so every source comes to `End` or fails. At `End` nothing changes.
pub record Advances (old : Source) (result : Result (Unit {0}) TokenStop) (new : Source)
    : Type 0 where
  -- the count of faults never falls
  pub faults : old.faults ≤ new.faults
  pub cause : StepHasCause old result new
  pub less : OnOk result (old.now.class ≢ End
      → (new.left < old.left) × (old.now.place < new.now.place))
  pub stays : old.now.class ≡ End → new ≡ old
  -- the first of the tokens behind becomes the present one
  pub told : OnOk result ((t : Token) (ts : List Token) → old.later ≡ Some (t ∷ ts)
      → (new.now ≡ t) × (new.later ≡ Some ts))
  pub origin : new.origin ≡ old.origin
  pub steady : old.steady ≡ true → new.steady ≡ true
  -- whether a step has answered an error
  pub goes_on : OnOk result (new.stopped ≡ old.stopped)
  pub stops : OnErr result (new.stopped ≡ true)
