use Rattle.std.proofs.Common.{sym}
use Rattle.segment_match.proofs.Unique.{FitEach-length}
use Rattle.segment_match.proofs.fits.Goals as goal

pub returns-then-entries-sizes : goal.returns-then-entries-sizes
returns-then-entries-sizes c =
    (λ h. absurd (cc h), λ h. absurd (c.if-entries-sizes.true (sym (FitEach-length _ _ h.0))))
