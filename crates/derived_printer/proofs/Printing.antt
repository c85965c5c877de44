-- Marks that are laid down one after another.
--
-- A function lays its marks down by calls that lay parts of them down. Each lemma here goes one
-- step: from what the calls did to what the function did.
--
--   prints-nothing            no marks are laid down by doing nothing
--   prints-token, prints-out  one token, or a stop for want of memory
--   step                      marks, and then others
--   stop                      an error at marks, and the others aren't tried
--   exit                      an error that a `?` hands on
--   named                     marks under another name
use Rattle.std.proofs.Common.{◌≡◌, ◌≢◌, ℕ, List, [], ◌++◌, refl, sym, ◌∙◌, ap, subst, Option, Some, None, Result, Ok, Err}
use Rattle.std.specs.Result.{IsErr, IsErrAnd}
use Rattle.std.proofs.lemmas.Result.{err_from_is_err_and}
use Rattle.ir_lexer.specs.Spelling.{Text}
use Rattle.text_layout.specs.declared.error.PrintError.{PrintError}
use Rattle.text_layout.specs.declared.layout.Layout.{Layout}
use Rattle.text_layout.specs.Lines.{Mark}
use Rattle.text_layout.specs.Moment.{Lays, Repeats}
use Rattle.text_layout.specs.OfLayout.{sink_of, moment}
use Rattle.text_layout.specs.Page.{Page}
use Rattle.text_layout.proofs.Laying.{lays-nothing, lays-then, lays-more}
use Rattle.derived_printer.specs.Prints.{Repeated, Prints}

-- ---- one call of the layout

repeated : (marks : List Mark) (e : PrintError) (r : Result (Unit {0}) PrintError) → r ≡ Err e
    → Repeated marks e r
repeated marks e (Ok done) is = absurd (cc)
repeated marks e (Err x) is = cc

-- what a call of the layout says of one token, or of a stop
pub prints-call : {S : Type 0} {written : S → Option Text} {faults : S → ℕ} {a b : Layout S Page}
    {ms : List Mark} {r : Result (Unit {0}) PrintError}
    → Lays (moment written faults a) ms r (moment written faults b)
    → Repeats (moment written faults a) r (moment written faults b)
    → ((moment written faults a).stopped ≢ None → (sink_of b).now ≡ (sink_of a).now)
    → (sink_of b).ghost_name ≡ (sink_of a).ghost_name → Prints written faults a ms r b
prints-call {ms = ms} {r = r} lays again untouched same = record {
  lays = lays;
  again = λ e is. let both = again e is in (repeated ms e r both.0, both.1);
  untouched = untouched;
  same_sink = same;
}

-- no marks are laid down by doing nothing
pub prints-nothing : {S : Type 0} {written : S → Option Text} {faults : S → ℕ} {a : Layout S Page}
    → Prints written faults a [] (Ok tt) a
prints-nothing {written = written} {faults = faults} {a = a} = record {
  lays = lays-nothing (moment written faults a);
  again = λ e is. (refl, refl);
  untouched = λ stopped. refl;
  same_sink = refl;
}

-- ---- one behind the other

-- an error before both is answered by both
both-repeat : (ms ns : List Mark) (e : PrintError) (u : Unit {0}) (r : Result (Unit {0}) PrintError)
    → Repeated ms e (Ok u) → Repeated ns e r → Repeated (ms ++ ns) e r
both-repeat ms ns e u (Ok done) first second = ap (λ t. t ++ ns) first ∙ second
both-repeat ms ns e u (Err x) first second = second

-- an error before both leaves alone what each leaves alone
both-leave : {V : Type 0} (x y z : V) (first second : Option PrintError)
    → ((e : PrintError) → first ≡ Some e → second ≡ first) → (first ≢ None → y ≡ x)
    → (second ≢ None → z ≡ y) → first ≢ None → z ≡ x
both-leave x y z None second same one two stopped = absurd (stopped refl)
both-leave x y z (Some e) second same one two stopped =
    let again : second ≢ None =
    λ none. let both : Some e ≡ None = sym (same e refl) ∙ none in absurd (cc) in
    two again ∙ one stopped

module _ {S : Type 0} {written : S → Option Text} {faults : S → ℕ} where
  -- marks that went in, and then others
  pub step : {a b c : Layout S Page} (ms ns : List Mark) {u : Unit {0}}
      {r : Result (Unit {0}) PrintError} → Prints written faults a ms (Ok u) b
      → Prints written faults b ns r c → Prints written faults a (ms ++ ns) r c
  step {a = a} {b = b} {c = c} ms ns {u = u} {r = r} p q = record {
    lays = lays-then _ _ _ ms ns r p.lays q.lays;
    again = λ e is.
        let first = p.again e is in
        let second = q.again e (ap (λ m. m.stopped) first.1 ∙ is) in
        (both-repeat ms ns e u r first.0 second.0, second.1 ∙ first.1);
    untouched =
        both-leave _ _ _ (moment written faults a).stopped (moment written faults b).stopped
        (λ e is. ap (λ m. m.stopped) (p.again e is).1) p.untouched q.untouched;
    same_sink = q.same_sink ∙ p.same_sink;
  }

  -- an error at marks, and no others are tried
  pub stop : {a b : Layout S Page} (ms ns : List Mark) {e : PrintError}
      → Prints written faults a ms (Err e) b → Prints written faults a (ms ++ ns) (Err e) b
  stop ms ns {e = e} p = record {
    lays = lays-more _ _ ms ns e p.lays;
    again = p.again;
    untouched = p.untouched;
    same_sink = p.same_sink;
  }

  -- an error that a `?` hands on
  pub exit : {a b : Layout S Page} {ms : List Mark} {e : PrintError}
      {r : Result (Unit {0}) PrintError} → IsErr r × IsErrAnd r (λ x. x ≡ e)
      → Prints written faults a ms (Err e) b → Prints written faults a ms r b
  exit {r = r} h p = let is = err_from_is_err_and r h.1 in rw (is.1, is.2) p

  -- marks under another name
  pub named : {a b : Layout S Page} {ms ns : List Mark} {r : Result (Unit {0}) PrintError}
      → ms ≡ ns → Prints written faults a ns r b → Prints written faults a ms r b
  named {a = a} {b = b} {r = r} is p = subst (λ ms. Prints written faults a ms r b) (sym is) p
