-- Marks that go in one after another, and the text as a whole.
use Rattle.std.proofs.Common.{◌≡◌, ℕ, List, [], ◌∷◌, ◌++◌, refl, sym, ◌∙◌, ap, subst, arith, append_assoc, Option, Result, Ok, Err}
use Rattle.ir_lexer.specs.Spelling.{Text}
use Rattle.text_layout.specs.declared.error.PrintError.{PrintError}
use Rattle.text_layout.specs.declared.error.PrintError.TheVariants.{WriteFault, OutputLimit, OutOfMemory}
use Rattle.text_layout.specs.Flow.{Adds, PrintHasCause, Stops, Drains}
use Rattle.text_layout.specs.Lines.{Mark, Line, bytes_of, line_after, line_behind, line_end, text_of, layout}
use Rattle.text_layout.specs.Moment.{Moment, first_moment, Goes, Laid, Stopped, Lays, Ended, Wrote}
use Rattle.text_layout.proofs.Flows.{adds-then, adds-nothing, cause-then, cause-more, stops-more, drains-then}

-- ---- marks behind marks

-- the bytes of marks and then of others
pub text-join : (line : Line) (ms ns : List Mark)
    → text_of line (ms ++ ns) ≡ text_of line ms ++ text_of (line_behind line ms) ns
text-join line [] ns = refl
text-join line (m ∷ ms) ns =
    ap (λ t. bytes_of line m ++ t) (text-join (line_after line m) ms ns)
    ∙ sym (append_assoc (bytes_of line m) (text_of (line_after line m) ms)
    (text_of (line_behind (line_after line m) ms) ns))

-- where the line stands behind marks and then others
pub line-join : (line : Line) (ms ns : List Mark)
    → line_behind line (ms ++ ns) ≡ line_behind (line_behind line ms) ns
line-join line [] ns = refl
line-join line (m ∷ ms) ns = line-join (line_after line m) ms ns

-- no marks went in by doing nothing
pub lays-nothing : (m : Moment) → Lays m [] (Ok tt) m
lays-nothing m = λ goes. record { goes = goes; line = refl; adds = adds-nothing m.flow }

-- what marks add behind those that went in
behind : (a b : Moment) (ms ns : List Mark) → Laid a ms b
    → text_of a.line ms ++ text_of b.line ns ≡ text_of a.line (ms ++ ns)
behind a b ms ns x =
    ap (λ line. text_of a.line ms ++ text_of line ns) x.line ∙ sym (text-join a.line ms ns)

laid-then : (a b c : Moment) (ms ns : List Mark) → Laid a ms b → Laid b ns c → Laid a (ms ++ ns) c
laid-then a b c ms ns x y = record {
  goes = y.goes;
  line = y.line ∙ ap (λ line. line_behind line ns) x.line ∙ sym (line-join a.line ms ns);
  adds = subst (λ t. Adds a.flow t c.flow) (behind a b ms ns x)
      (adds-then a.flow b.flow c.flow (text_of a.line ms) (text_of b.line ns) x.adds y.adds);
}

stopped-then : (a b c : Moment) (ms ns : List Mark) (e : PrintError) → Laid a ms b
    → Stopped b ns e c → Stopped a (ms ++ ns) e c
stopped-then a b c ms ns e x y = record {
  is = y.is;
  stops = subst (λ t. Stops a.flow t e c.flow) (behind a b ms ns x) (record {
    cause = cause-then a.flow b.flow (text_of a.line ms) (text_of b.line ns) e c.flow.written
        c.flow.faults x.adds x.goes.within y.stops.cause;
    later = omega (arith, x.adds.later, y.stops.later);
  });
}

stopped-more : (a b : Moment) (ms ns : List Mark) (e : PrintError) → Stopped a ms e b
    → Stopped a (ms ++ ns) e b
stopped-more a b ms ns e x = record {
  is = x.is;
  stops = subst (λ t. Stops a.flow t e b.flow) (sym (text-join a.line ms ns))
      (stops-more a.flow b.flow (text_of a.line ms) (text_of (line_behind a.line ms) ns) e x.stops);
}

-- marks that went in, and then what became of others
pub lays-then : (a b c : Moment) (ms ns : List Mark) (r : Result (Unit {0}) PrintError)
    → Lays a ms (Ok tt) b → Lays b ns r c → Lays a (ms ++ ns) r c
lays-then a b c ms ns (Ok done) x y = λ goes.
    let first = x goes in laid-then a b c ms ns first (y first.goes)
lays-then a b c ms ns (Err e) x y = λ goes.
    let first = x goes in stopped-then a b c ms ns e first (y first.goes)

-- an error at one of the marks, and then no others are tried
pub lays-more : (a b : Moment) (ms ns : List Mark) (e : PrintError) → Lays a ms (Err e) b
    → Lays a (ms ++ ns) (Err e) b
lays-more a b ms ns e x = λ goes. stopped-more a b ms ns e (x goes)

-- ---- the text as a whole

starts : (w : Option Text) (f : ℕ) → Goes (first_moment w f)
starts w f = record { on = refl; within = omega arith }

-- what the sink got of a text
wrote-cause : (w v : Option Text) (f n : ℕ) (t : Text) (e : PrintError)
    → PrintHasCause (first_moment w f).flow t e v n → Wrote w f t (Err e) v n
wrote-cause w v f n t WriteFault (rose, part, some) = (part, rose, some)
wrote-cause w v f n t OutputLimit (beyond, all) = (all, omega arith)
wrote-cause w v f n t OutOfMemory part = part

wrote : (w v : Option Text) (f n : ℕ) (t : Text) (r : Result (Unit {0}) PrintError)
    → Drains (first_moment w f).flow t r v n → Wrote w f t r v n
wrote w v f n t (Ok done) (all, short, later) = (all, omega arith)
wrote w v f n t (Err e) (other, cause, later) = wrote-cause w v f n t e cause

-- an error at one of the marks, from the start
pub whole-stopped : (w : Option Text) (f : ℕ) (marks : List Mark) (m : Moment) (e : PrintError)
    → Lays (first_moment w f) marks (Err e) m
    → Wrote w f (layout marks) (Err e) m.flow.written m.flow.faults
whole-stopped w f marks m e x =
    let first = first_moment w f in
    wrote-cause w m.flow.written f m.flow.faults (layout marks) e
    (cause-more first.flow (text_of first.line marks) (line_end (line_behind first.line marks).row)
    e m.flow.written m.flow.faults (x (starts w f)).stops.cause)

-- marks from the start, and the end, which tells of them all
pub whole : (w v : Option Text) (f n : ℕ) (marks : List Mark) (m : Moment)
    (r s : Result (Unit {0}) PrintError) → Lays (first_moment w f) marks r m → Ended m s v n
    → Wrote w f (layout marks) s v n
whole w v f n marks m (Ok done) s x y =
    let first = first_moment w f in
    let laid = x (starts w f) in
    wrote w v f n (layout marks) s
    (subst (λ line. Drains first.flow (text_of first.line marks ++ line_end line.row) s v n)
    laid.line
    (drains-then first.flow m.flow (text_of first.line marks) (line_end m.line.row) s v n
    laid.adds laid.goes.within (y.ends laid.goes)))
whole w v f n marks m (Err e) s x y =
    let same = y.again e (x (starts w f)).is in
    rw same.0
    (subst (λ z. Wrote w f (layout marks) (Err e) z n) (sym same.1)
    (subst (λ z. Wrote w f (layout marks) (Err e) m.flow.written z) (sym same.2)
    (whole-stopped w f marks m e x)))
