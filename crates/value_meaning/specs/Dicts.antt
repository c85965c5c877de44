-- Entries of a dictionary as calls are given them, whose values are in the table.
--
--   keyed entries   the keys, each with the id of its value
use Rattle.std.specs.Prelude.{List, map}
use Rattle.attr_value.specs.declared.head.ValueId.{ValueId}
use Rattle.ir_lexer.specs.Spelling.{Text}
use Rattle.value_meaning.specs.declared.dict.Entry.{Entry}

-- the keys, each with the id of its value
abbrev pub keyed : List Entry → List (Text × ValueId)
keyed entries = map (λ e. (e.key.now, e.value)) entries
