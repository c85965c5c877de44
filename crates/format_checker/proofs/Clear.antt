-- A piece that one token decides, also before what may follow it.
--
-- This is what the induction over a format keeps: one token decides in the pieces of its elements,
-- and no token that goes on with a whole one may come next (`Clear`).
use Rattle.std.proofs.Common.{◌≡◌, Bool, true, false, ◌&&◌, ◌||◌, refl}
use Rattle.ir_lexer.specs.Tokens.{Token}
use Rattle.grammar.specs.Grammar.{ret, both, alt, made, nullable, starts}
use Rattle.grammar.specs.OneToken.{by_looks}
use Rattle.grammar.proofs.Meet.{and-true, true-or, or-first}
use Rattle.grammar.proofs.More.{Disjoint, more, Checks}
use Rattle.format_checker.specs.Pieces.{Rule, inner_looks, inner_more_looks}

-- a piece begins with the token
abbrev pub Opens : {A : Type 0} → Rule A → Token → Bool
Opens g t = starts (by_looks inner_looks) g t

-- the token may go on with a whole piece
abbrev pub More : {A : Type 0} → Rule A → Token → Bool
More g t = more (by_looks inner_looks) (by_looks inner_more_looks) g t

-- one token decides in the grammar, and no token goes on with a whole piece of it that may follow
pub record Clear {A : Type 0} (g : Rule A) (next : Token → Bool) : Type 0 where
  pub checks : Checks (by_looks inner_looks) (by_looks inner_more_looks) g
  pub ends : Disjoint (More g) next

-- what may come next before a piece of h and what follows
abbrev pub Before : {A : Type 0} → Rule A → (Token → Bool) → Token → Bool
Before h next t = Opens h t || (nullable h && next t)

pub or-case : {P : Type 0} (a b : Bool) → (a || b) ≡ true → (a ≡ true → P) → (b ≡ true → P) → P
or-case true b e x y = x refl
or-case false b e x y = y e

-- before less
pub clear-less : {A : Type 0} {g : Rule A} (p q : Token → Bool)
    → ((t : Token) → p t ≡ true → q t ≡ true) → Clear g q → Clear g p
clear-less p q h x = record { checks = x.checks; ends = λ t m e. x.ends t m (h t e) }

-- no token
pub clear-ret : {A : Type 0} (a : A) (next : Token → Bool) → Clear (ret a) next
clear-ret a next = record { checks = tt; ends = λ t m e. absurd (cc) }

-- a piece that stands for something else
pub clear-made : {A B : Type 0} {f : B → A} {g : Rule B} {next : Token → Bool} → Clear g next
    → Clear (made f g) next
clear-made x = record { checks = x.checks; ends = x.ends }

-- two pieces
pub clear-both : {A B C : Type 0} {f : B → C → A} (g : Rule B) (h : Rule C) (next : Token → Bool)
    → Clear g (Before h next) → Clear h next → Clear (both f g h) next
clear-both g h next x y = record {
  checks = (x.checks, y.checks, λ t m s. x.ends t m (or-first (Opens h t) (nullable h && next t) s));
  ends = λ t m e. or-case (More h t) (nullable h && More g t) m (λ u. y.ends t u e)
      (λ u. let p = and-true (nullable h) (More g t) u in
      x.ends t p.1 (true-or (Opens h t) (nullable h && next t) (rw (p.0, e) refl)));
}

-- one of two pieces
pub clear-alt : {A : Type 0} (g h : Rule A) (next : Token → Bool) → Clear g next → Clear h next
    → nullable g ≡ false → Disjoint (Opens g) (Opens h)
    → (nullable h ≡ true → Disjoint (Opens g) next) → Clear (alt g h) next
clear-alt g h next x y full apart none = record {
  checks = (x.checks, y.checks, full, apart);
  ends = λ t m e. or-case (nullable h && Opens g t) (More g t || More h t) m
      (λ u. let p = and-true (nullable h) (Opens g t) u in none p.0 t p.1 e)
      (λ u. or-case (More g t) (More h t) u (λ v. x.ends t v e) (λ v. y.ends t v e));
}
