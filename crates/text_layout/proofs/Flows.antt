-- Bytes that go in one after another.
use Rattle.std.proofs.Common.{◌≡◌, ◌≢◌, ◌⊎◌, inl, inr, ℕ, ◌+◌, ◌-◌, ◌<◌, ◌≤◌, [], ◌∷◌, ◌++◌, length, take, min, refl, sym, ◌∙◌, ap, subst, arith, append_assoc, length-append, Option, Result, Ok, Err}
use Rattle.std.proofs.Math.Seq.{take-append-add}
use Rattle.std.proofs.lemmas.List.{append-nil, length-take, take-append-le, take_all, take_min}
use Rattle.std.specs.Io.KnownBytes.{Appends}
use Rattle.irdl_bytes.specs.Outside.{Rose, AppendsPrefix}
use Rattle.ir_lexer.specs.declared.lexer.TheConstants.{TEXT_LIMIT}
use Rattle.ir_lexer.specs.Spelling.{Text}
use Rattle.text_layout.specs.declared.error.PrintError.{PrintError}
use Rattle.text_layout.specs.declared.error.PrintError.TheVariants.{WriteFault, OutputLimit, OutOfMemory}
use Rattle.text_layout.specs.Flow.{Flow, owed, Adds, PrintHasCause, Stops, Drains}
use Rattle.text_layout.proofs.Appending.{appends-then, appends-nothing, front-behind, front-longer, cut-behind}

-- ---- what sinks are told

-- a sink that is left alone got a front of any bytes
pub no-front : (w : Option Text) (t : Text) → AppendsPrefix w w t
no-front w t = (0, appends-nothing w)

-- all of it is a front
pub whole-front : (w v : Option Text) (t : Text) → Appends w v t → AppendsPrefix w v t
whole-front w v t h = (length t, subst (Appends w v) (sym (take_all (length t) t (omega arith))) h)

-- ---- up to the limit

-- the first bytes of two texts
take-both : (n : ℕ) (x y : Text) → take n (x ++ y) ≡ take n x ++ take (n - length x) y
take-both n x y = elim (compared n (length x)) [ inl le ↦ short le | inr less ↦ long less ]
  where
    compared : (k n : ℕ) → (k ≤ n) ⊎ (n < k)
    compared k n = grind arith

    short : n ≤ length x → take n (x ++ y) ≡ take n x ++ take (n - length x) y
    short le =
        let none : n - length x ≡ 0 = omega arith in
        take-append-le n x y le
        ∙ sym (ap (λ k. take n x ++ take k y) none ∙ append-nil (take n x))

    long : length x < n → take n (x ++ y) ≡ take n x ++ take (n - length x) y
    long less =
        cut-behind x y n (omega arith)
        ∙ ap (λ t. t ++ take (n - length x) y) (sym (take_all n x (omega arith)))

-- what is held back is owed, and the first bytes behind it
owed-is : (f : Flow) (x : Text) → owed f x ≡ f.held ++ take (TEXT_LIMIT - f.laid) x
owed-is f x = take-append-add f.held x (TEXT_LIMIT - f.laid)

-- where bytes go on, more may be owed
owed-more : (f : Flow) (x y : Text)
    → owed f (x ++ y) ≡ owed f x ++ take (TEXT_LIMIT - f.laid - length x) y
owed-more f x y =
    let room = TEXT_LIMIT - f.laid in
    owed-is f (x ++ y) ∙ ap (λ t. f.held ++ t) (take-both room x y)
    ∙ sym (append_assoc f.held (take room x) (take (room - length x) y))
    ∙ ap (λ t. t ++ take (room - length x) y) (sym (owed-is f x))

-- a front of what is held back is a front of what is owed
pub held-front : (f : Flow) (x : Text) (w : Option Text) → AppendsPrefix f.written w f.held
    → AppendsPrefix f.written w (owed f x)
held-front f x w part =
    subst (AppendsPrefix f.written w) (sym (owed-is f x))
    (front-longer f.written w f.held (take (TEXT_LIMIT - f.laid) x) part)

-- what the sink got of what was held, of a gap and of a text is what it is owed
pub cut-owed : (P : Text → Type 0) (sent held gap text : Text) (laid n m : ℕ)
    → n ≡ min (length gap) (TEXT_LIMIT - laid)
    → m ≡ TEXT_LIMIT - laid - length (take n gap)
    → sent ≡ held → P (sent ++ (take n gap ++ (take m text ++ [])))
    → P (take (length held + (TEXT_LIMIT - laid)) (held ++ (gap ++ text)))
cut-owed P sent held gap text laid n m e f is h = subst P all h
  where
    room : ℕ
    room = TEXT_LIMIT - laid

    first : take n gap ≡ take room gap
    first =
        let is : n ≡ min room (length gap) = omega (arith, e) in
        ap (λ k. take k gap) is ∙ take_min room gap

    rest : m ≡ room - length gap
    rest = omega (arith, e, f, length-take n gap)

    cut : take n gap ++ (take m text ++ []) ≡ take room (gap ++ text)
    cut =
        ap (λ t. take n gap ++ t) (append-nil (take m text))
        ∙ ap (λ t. t ++ take m text) first
        ∙ ap (λ k. take room gap ++ take k text) rest ∙ sym (take-both room gap text)

    all : sent ++ (take n gap ++ (take m text ++ []))
        ≡ take (length held + room) (held ++ (gap ++ text))
    all =
        ap (λ t. t ++ (take n gap ++ (take m text ++ []))) is ∙ ap (λ t. held ++ t) cut
        ∙ sym (take-append-add held (gap ++ text) room)

-- ---- nothing

-- where two lists are nothing together, each is
nothing-append : (xs ys : Text) → xs ++ ys ≡ [] → xs ≡ []
nothing-append [] ys e = refl
nothing-append (x ∷ xs) ys e = absurd (cc)

append-nothing : (xs ys : Text) → xs ++ ys ≡ [] → ys ≡ []
append-nothing [] ys e = e
append-nothing (x ∷ xs) ys e = absurd (cc)

-- where something is held, there is something to write
pub some-held : (held x : Text) → held ≢ [] → held ++ x ≢ []
some-held held x some none = some (nothing-append held x none)

-- bytes that pass the limit are something to write
pub beyond-some : (held x : Text) (laid : ℕ) → laid ≤ TEXT_LIMIT → TEXT_LIMIT < laid + length x
    → held ++ x ≢ []
beyond-some held x laid within beyond none =
    let empty : length x ≡ 0 = ap length (append-nothing held x none) in omega (arith, empty)

-- ---- bytes behind bytes

-- a count that rose later rose
pub rose-later : (m n k : ℕ) → m ≤ n → Rose n k → Rose m k
rose-later m n k le rose = omega arith

-- what was sent, what is held then, and more, is what was held before, and all that went in
held-then : (f g : Flow) (x y : Text) (a : Adds f x g)
    → a.sent ++ (g.held ++ y) ≡ f.held ++ (x ++ y)
held-then f g x y a =
    sym (append_assoc a.sent g.held y) ∙ ap (λ t. t ++ y) a.held ∙ append_assoc f.held x y

-- bytes that went in, and then others, went in together
pub adds-then : (f g h : Flow) (x y : Text) → Adds f x g → Adds g y h → Adds f (x ++ y) h
adds-then f g h x y a b = record {
  laid = omega (arith, a.laid, b.laid, length-append x y);
  sent = a.sent ++ b.sent;
  written = appends-then f.written g.written h.written a.sent b.sent a.written b.written;
  held = append_assoc a.sent b.sent h.held ∙ ap (λ t. a.sent ++ t) b.held ∙ held-then f g x y a;
  later = omega (arith, a.later, b.later);
}

-- no bytes went in by doing nothing
pub adds-nothing : (f : Flow) → Adds f [] f
adds-nothing f = record {
  laid = omega arith;
  sent = [];
  written = appends-nothing f.written;
  held = sym (append-nil f.held);
  later = omega arith;
}

-- behind what was sent, what is owed then is what was owed before
owed-then : (f g : Flow) (x y : Text) (a : Adds f x g) → g.laid ≤ TEXT_LIMIT
    → a.sent ++ owed g y ≡ owed f (x ++ y)
owed-then f g x y a within =
    sym (take-append-add a.sent (g.held ++ y) (length g.held + (TEXT_LIMIT - g.laid)))
    ∙ ap (λ n. take n (a.sent ++ (g.held ++ y))) count
    ∙ ap (take (length f.held + (TEXT_LIMIT - f.laid))) (held-then f g x y a)
  where
    both : length a.sent + length g.held ≡ length f.held + length x
    both = sym (length-append a.sent g.held) ∙ ap length a.held ∙ length-append f.held x

    count : length a.sent + (length g.held + (TEXT_LIMIT - g.laid))
        ≡ length f.held + (TEXT_LIMIT - f.laid)
    count = omega (arith, both, a.laid, within)

-- a front of what is owed then, behind what was sent
part-then : (f g : Flow) (x y : Text) (w : Option Text) → Adds f x g → g.laid ≤ TEXT_LIMIT
    → AppendsPrefix g.written w (owed g y) → AppendsPrefix f.written w (owed f (x ++ y))
part-then f g x y w a within part =
    subst (AppendsPrefix f.written w) (owed-then f g x y a within)
    (front-behind f.written g.written w a.sent (owed g y) a.written part)

-- where there is something to write then, there was before
some-then : (f g : Flow) (x y : Text) → Adds f x g → g.held ++ y ≢ [] → f.held ++ (x ++ y) ≢ []
some-then f g x y a some none =
    some (append-nothing a.sent (g.held ++ y) (held-then f g x y a ∙ none))

-- an error behind bytes that went in has its cause in all of them
pub cause-then : (f g : Flow) (x y : Text) (e : PrintError) (w : Option Text) (n : ℕ) → Adds f x g
    → g.laid ≤ TEXT_LIMIT → PrintHasCause g y e w n → PrintHasCause f (x ++ y) e w n
cause-then f g x y WriteFault w n a within (rose, part, some) = (
  rose-later f.faults g.faults n a.later rose,
  part-then f g x y w a within part,
  some-then f g x y a some,
)
cause-then f g x y OutputLimit w n a within (beyond, all) = (
  omega (arith, a.laid, length-append x y),
  subst (Appends f.written w) (owed-then f g x y a within)
      (appends-then f.written g.written w a.sent (owed g y) a.written all),
)
cause-then f g x y OutOfMemory w n a within part = part-then f g x y w a within part

-- a front of what is owed is a front of what is owed of longer bytes
part-more : (f : Flow) (x y : Text) (w : Option Text) → AppendsPrefix f.written w (owed f x)
    → AppendsPrefix f.written w (owed f (x ++ y))
part-more f x y w part =
    subst (AppendsPrefix f.written w) (sym (owed-more f x y))
    (front-longer f.written w (owed f x) (take (TEXT_LIMIT - f.laid - length x) y) part)

-- where there is something to write, there is with longer bytes
pub some-more : (held x y : Text) → held ++ x ≢ [] → held ++ (x ++ y) ≢ []
some-more held x y some none =
    some (nothing-append (held ++ x) y (append_assoc held x y ∙ none))

-- an error has its cause in longer bytes too
pub cause-more : (f : Flow) (x y : Text) (e : PrintError) (w : Option Text) (n : ℕ)
    → PrintHasCause f x e w n → PrintHasCause f (x ++ y) e w n
cause-more f x y WriteFault w n (rose, part, some) =
    (rose, part-more f x y w part, some-more f.held x y some)
cause-more f x y OutputLimit w n (beyond, all) =
    let none : TEXT_LIMIT - f.laid - length x ≡ 0 = omega (arith, beyond) in (
      omega (arith, length-append x y),
      subst (Appends f.written w)
          (sym (owed-more f x y ∙ ap (λ k. owed f x ++ take k y) none ∙ append-nil (owed f x)))
          all,
    )
cause-more f x y OutOfMemory w n part = part-more f x y w part

-- an error that came while bytes went in stands where more were to go in
pub stops-more : (f g : Flow) (x y : Text) (e : PrintError) → Stops f x e g
    → Stops f (x ++ y) e g
stops-more f g x y e s =
    record { cause = cause-more f x y e g.written g.faults s.cause; later = s.later }

-- last bytes behind others that went in are the last of all
pub drains-then : (f g : Flow) (x y : Text) (r : Result (Unit {0}) PrintError) (w : Option Text)
    (n : ℕ) → Adds f x g → g.laid ≤ TEXT_LIMIT → Drains g y r w n → Drains f (x ++ y) r w n
drains-then f g x y (Ok done) w n a within (all, short, later) = (
  subst (Appends f.written w) (held-then f g x y a)
      (appends-then f.written g.written w a.sent (g.held ++ y) a.written all),
  omega (arith, a.laid, length-append x y),
  omega (arith, a.later),
)
drains-then f g x y (Err e) w n a within (other, cause, later) =
    (other, cause-then f g x y e w n a within cause, omega (arith, a.later))

-- where nothing is added at the end
pub drains_last : (f g : Flow) (x : Text) (r : Result (Unit {0}) PrintError) (w : Option Text)
    (n : ℕ) → Adds f x g → g.laid ≤ TEXT_LIMIT → Drains g [] r w n → Drains f x r w n
drains_last f g x r w n a within h =
    subst (λ t. Drains f t r w n) (append-nil x) (drains-then f g x [] r w n a within h)
