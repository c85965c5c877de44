-- What uses and successors mean, as it is handed out.
--
--   UseMeanings     what each use and each successor means, by its number
use Rattle.std.specs.Prelude.{ℕ, List}

-- for each use the number of a definition and the number in its pack, and for each successor the
-- number of a block
pub record UseMeanings : Type 0 where
  pub values : List (ℕ × ℕ)
  pub blocks : List ℕ
