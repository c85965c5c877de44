-- One mark more, and the call that stands for it.
use Rattle.std.proofs.Common.{◌≡◌, ℕ, ◌+◌, ◌<◌, ◌≤◌, List, [], ◌∷◌, ◌++◌, length, take, refl, ap, sym, ◌∙◌, arith, slice_get, append_assoc, append-nil}
use Rattle.std.proofs.lemmas.List.{take_more, length-map, take_all}
use Rattle.std.proofs.lemmas.Option.{get_or_from_slice_get, slice_get_within, slice_get-get_or}
use Rattle.std.specs.declared.option.Option.TheVariants.{Some}
use Rattle.symbol_scopes.specs.declared.call.Call.{Call}
use Rattle.symbol_scopes.specs.declared.call.Call.TheVariants.{Enter}
use Rattle.symbol_scopes.specs.ScopeMarks.{Name, ScopeMark, Standing, passed, after, along, top, standing, own}
use Rattle.symbol_scopes.specs.Calls.{mark_of, marks_of, call_at}
use Rattle.symbol_scopes.specs.Slots.{Descend}
use Rattle.symbol_scopes.proofs.Lists.{get-map}

-- the standing behind one mark more
pub after-more : (s : Standing) (ms : List ScopeMark) (m : ScopeMark)
    → after s (ms ++ m ∷ []) ≡ passed (after s ms) m
after-more s [] m = refl
after-more s (x ∷ ms) m = after-more (passed s x) ms m

-- what is said of one mark more
pub along-more : {A : Type 0} (f : List ℕ → ScopeMark → List A) (s : Standing) (ms : List ScopeMark) (m : ScopeMark)
    → along f s (ms ++ m ∷ []) ≡ along f s ms ++ f (after s ms).round m
along-more f s [] m = append-nil (f s.round m)
along-more f s (x ∷ ms) m =
    ap (λ l. f s.round x ++ l) (along-more f (passed s x) ms m)
    ∙ sym (append_assoc (f s.round x) (along f (passed s x) ms) (f (after (passed s x) ms).round m))

-- the marks so far, with one more
pub record Further (ms : List ScopeMark) (i : ℕ) (m : ScopeMark) : Type 0 where
  pub there : slice_get ms i ≡ Some m
  pub longer : take (i + 1) ms ≡ take i ms ++ m ∷ []
  pub stands : standing (take (i + 1) ms) ≡ passed (standing (take i ms)) m

-- a mark at a place is one mark more
pub further : (ms : List ScopeMark) (i : ℕ) (m : ScopeMark) → slice_get ms i ≡ Some m → Further ms i m
further ms i m e = record {
  there = e;
  longer = longer;
  stands = ap (after top) longer ∙ after-more top (take i ms) m;
}
  where
    longer : take (i + 1) ms ≡ take i ms ++ m ∷ []
    longer = take_more ms i m (slice_get_within ms i m e)
        ∙ ap (λ x. take i ms ++ x ∷ []) (get_or_from_slice_get ms i m m e)

-- what is said of the marks so far, with one more
pub further-along : {A : Type 0} (f : List ℕ → ScopeMark → List A) (ms : List ScopeMark) (i : ℕ) (m : ScopeMark)
    → Further ms i m
    → along f top (take (i + 1) ms) ≡ along f top (take i ms) ++ f (standing (take i ms)).round m
further-along f ms i m x = ap (along f top) x.longer ∙ along-more f top (take i ms) m

-- the mark of the call that a loop is at
pub at-step : (ns : List Name) (calls : List Call) (i : ℕ) (x : Call) → i < length calls
    → x ≡ call_at calls i → Further (marks_of ns calls) i (mark_of ns x)
at-step ns calls i x less is =
    further (marks_of ns calls) i (mark_of ns x)
    (get-map (mark_of ns) calls i x (slice_get-get_or calls i Enter less ∙ ap Some (sym is)))

-- the innermost region has a number below the bound
pub own-below : (n : ℕ) (round : List ℕ) → 0 < length round → Descend n round → own round < n
own-below n [] more h = absurd (omega arith)
own-below n (r ∷ round) more h = h.0

-- at the end of a loop, the marks gone over are all of them
pub marks-whole : (ns : List Name) (calls : List Call) (i : ℕ) → length calls ≤ i
    → take i (marks_of ns calls) ≡ marks_of ns calls
marks-whole ns calls i least =
    let same = length-map calls (mark_of ns) in
    take_all i (marks_of ns calls) (omega arith)
