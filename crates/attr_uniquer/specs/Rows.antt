-- The values that rows stand for.
--
--   value_of vs row      the value of a row, where vs are those of the rows before it
--   grow vs rows         the values vs, and those of the rows behind them
--   values rows          the values of all rows
--   AreSound [] rows     each row names earlier rows alone, and has its value's depth
--   IsNextRow rows row   a row may come behind these
--   IsRowAt vs i row     what soundness says of the row at a place
--
-- Inside: no public clause rests on this.
use Rattle.std.specs.Prelude.{◌≡◌, ℕ, List, [], ◌∷◌, ◌++◌, length}
use Rattle.attr_value.specs.Values.{Value, value, depth}
use Rattle.attr_value.specs.Ids.{at, kids_at, AreKnown}
use Rattle.attr_uniquer.specs.declared.row.Row.{Row}

-- the value of a row, where those of the rows before it are known
abbrev pub value_of : List Value → Row → Value
value_of vs row = value row.head (kids_at vs row.kids)

-- these values, and those of the rows behind them
abbrev pub grow : List Value → List Row → List Value
grow vs [] = vs
grow vs (row ∷ rows) = grow (vs ++ value_of vs row ∷ []) rows

-- the values of all rows
abbrev pub values : List Row → List Value
values rows = grow [] rows

-- each row behind the values vs names values before it alone, and has its value's depth
abbrev pub AreSound : List Value → List Row → Type 0
AreSound vs [] = Unit {0}
AreSound vs (row ∷ rows) = AreKnown (length vs) row.kids
    × (row.depth ≡ depth (value_of vs row))
    × AreSound (vs ++ value_of vs row ∷ []) rows

-- a row that may come behind these: it names their values alone, and has its value's depth
pub record IsNextRow (rows : List Row) (row : Row) : Type 0 where
  pub known : AreKnown (length rows) row.kids
  pub deep : row.depth ≡ depth (value_of (values rows) row)

-- what sound rows say of the one at a place
pub record IsRowAt (vs : List Value) (i : ℕ) (row : Row) : Type 0 where
  pub known : AreKnown i row.kids
  pub deep : row.depth ≡ depth (at vs i)
  pub stands : at vs i ≡ value_of vs row
