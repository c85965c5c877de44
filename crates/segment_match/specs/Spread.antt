-- The sizes of segments where at most one entry isn't single.
--
--   looseness arity       0 for a single entry, 1 for another
--   flexible entries      how many entries aren't single
--   size_at arity rest    1 for a single entry, and the rest for another
--   spread entries rest   1 for each single entry, and the rest for another
--
-- Inside: no public clause rests on this.
use Rattle.std.specs.Prelude.{ℕ, ◌+◌, List, [], ◌∷◌}
use Rattle.dialect_defs.specs.declared.entry.Arity.{Arity}
use Rattle.dialect_defs.specs.declared.entry.Arity.TheVariants.{Single, Optional, Variadic}
use Rattle.dialect_defs.specs.declared.entry.Entry.{Entry}

-- 0 for a single entry, 1 for another
abbrev pub looseness : Arity → ℕ
looseness Single = 0
looseness Optional = 1
looseness Variadic = 1

-- how many entries aren't single
abbrev pub flexible : List Entry → ℕ
flexible [] = 0
flexible (entry ∷ entries) = looseness entry.arity + flexible entries

-- 1 for a single entry, and the rest for another
abbrev pub size_at : Arity → ℕ → ℕ
size_at Single rest = 1
size_at Optional rest = rest
size_at Variadic rest = rest

-- 1 for each single entry, and the rest for another
abbrev pub spread : List Entry → ℕ → List ℕ
spread [] rest = []
spread (entry ∷ entries) rest = size_at entry.arity rest ∷ spread entries rest
