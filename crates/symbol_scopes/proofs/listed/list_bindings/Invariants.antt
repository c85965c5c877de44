use Rattle.std.proofs.Common.{◌≡◌, ◌+◌, take}
use Rattle.symbol_scopes.specs.ScopeMarks.{standing, bindings}
use Rattle.symbol_scopes.specs.Calls.{marks_of}
use Rattle.symbol_scopes.specs.Listed.{IsListed}
use Rattle.symbol_scopes.proofs.listed.list_bindings.Given as goal

abbrev pub invariant-loop-at : goal.invariant-loop-at
invariant-loop-at l =
    let ms = take l.at (marks_of l.names l.calls) in
    (l.round ≡ standing ms) × IsListed l.names (bindings l.kind ms) ((standing ms).entered + 1) l.listed
