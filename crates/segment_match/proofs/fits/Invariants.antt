use Rattle.std.proofs.Common.{◌≡◌, ◌↔◌, drop, sum}
use Rattle.dialect_defs.specs.Segments.{FitEach}
use Rattle.segment_match.proofs.fits.Given as goal

-- what is left fits what is left exactly where all fits all
abbrev pub invariant-loop-i : goal.invariant-loop-i
invariant-loop-i l =
    (FitEach (drop l.i l.entries) (drop l.i l.sizes) × (sum (drop l.i l.sizes) ≡ l.left))
    ↔ (FitEach l.entries l.sizes × (sum l.sizes ≡ l.count))
