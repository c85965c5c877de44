use Rattle.std.proofs.Common.{take, map}
use Rattle.value_meaning.specs.Entered.{IsFirstRepeat, keys_of}
use Rattle.value_meaning.specs.Keys.{HasSeen}
use Rattle.value_meaning.specs.Meaning.{Aliases, entry_seen}
use Rattle.value_meaning.proofs.entries.first_repeat.Given as goal

abbrev pub invariant-loop-entry : goal.invariant-loop-entry
invariant-loop-entry l =
    HasSeen (keys_of (take l.entry-index l.entries)) l.seen
    × ((al : Aliases) → IsFirstRepeat (map (entry_seen al) (take l.entry-index l.entries)) l.first)
