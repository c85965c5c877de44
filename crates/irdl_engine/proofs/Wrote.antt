-- What the writing of a module's text gives.
use Rattle.std.proofs.Common.{◌≡◌, ◌⊎◌, ◌≤◌, ◌<◌, inl, inr, ℕ, [], length, take, true, false}
use Rattle.std.proofs.Common.{Bool, refl, sym, ◌∙◌, subst, arith}
use Rattle.std.specs.Prelude.{nat_le}
use Rattle.std.proofs.lemmas.Bool.{le-leb, leb-true}
use Rattle.std.proofs.lemmas.List.{take_all}
use Rattle.std.specs.Io.KnownBytes.{Appends}
use Rattle.std.specs.declared.option.Option.{Option}
use Rattle.std.specs.declared.result.Result.TheVariants.{Err}
use Rattle.ir_lexer.specs.declared.lexer.TheConstants.{TEXT_LIMIT}
use Rattle.ir_lexer.specs.Spelling.{Text}
use Rattle.irdl_bytes.specs.Outside.{AppendsPrefix, Rose}
use Rattle.text_layout.specs.declared.error.PrintError.{PrintError}
use Rattle.text_layout.specs.Moment.{Wrote}
use Rattle.text_layout.proofs.Flows.{whole-front}
use Rattle.irdl_engine.specs.declared.status.Status.{Status}
use Rattle.irdl_engine.specs.declared.status.Status.TheVariants as status
use Rattle.irdl_engine.specs.Answer.{output_limit_line, printed}
use Rattle.irdl_engine.specs.Obeyed.{SinkSeen}
use Rattle.irdl_engine.specs.Printed.{GivesPrinted}
use Rattle.irdl_engine.specs.Writes.{Says, change}
use Rattle.irdl_engine.proofs.Given.{got-front-of-all, got-nothing, kept}
use Rattle.irdl_engine.proofs.Lines.{limit-has}

-- ---- a text and the limit

is-within : (text : Text) → nat_le (length text) TEXT_LIMIT ≡ true → length text ≤ TEXT_LIMIT
is-within text is = leb-true (length text) TEXT_LIMIT is

not-within : (text : Text) → length text ≤ TEXT_LIMIT → nat_le (length text) TEXT_LIMIT ≡ false → ⊥
not-within text short is =
    let within = le-leb (length text) TEXT_LIMIT short in
    let wrong : true ≡ false = sym within ∙ is in absurd (cc)

not-beyond : (text : Text) → TEXT_LIMIT < length text → nat_le (length text) TEXT_LIMIT ≡ true → ⊥
not-beyond text beyond is = let short = is-within text is in omega arith

-- what was written where a call failed with an error that is known
pub wrote-as : (w : Option Text) (f : ℕ) (text : Text) (w' : Option Text) (f' : ℕ)
    (d e : PrintError) → d ≡ e → Wrote w f text (Err d) w' f' → Wrote w f text (Err e) w' f'
wrote-as w f text w' f' d e same h = subst (λ (x : PrintError). Wrote w f text (Err x) w' f') same h

-- ---- what stands in a sink

-- the sinks before and after, by their bytes and counts
module _ (text : Text) (w w' : Option Text) (f f' : ℕ) (e e' : Option Text) (g g' : ℕ) where
  abbrev out_seen : SinkSeen
  out_seen = record { bytes = change w w'; before = f; after = f' }

  abbrev err_seen : SinkSeen
  err_seen = record { bytes = change e e'; before = g; after = g' }

  -- all of a text within the limit was written
  all-written : (within : Bool) → nat_le (length text) TEXT_LIMIT ≡ within
      → Appends w w' text → length text ≤ TEXT_LIMIT → e' ≡ e
      → GivesPrinted (printed text) status.Done out_seen err_seen
  all-written true is all short same = record {
    given = inl (record {
      status_is = rw is refl;
      out_got = rw is all;
      err_got = rw (is, same) (got-nothing e);
    });
    printing = refl;
    cause = λ wrong. absurd (cc);
  }
  all-written false is all short same = absurd (not-within text short is)

  -- the bytes of a text up to the limit are all that is for standard output
  for-out : (within : Bool) → nat_le (length text) TEXT_LIMIT ≡ within
      → (printed text).out ≡ take TEXT_LIMIT text
  for-out true is = rw is (sym (take_all TEXT_LIMIT text (is-within text is)))
  for-out false is = rw is refl

  -- it has bytes, where the text has some, or else standard error gets a line
  has-bytes : (within : Bool) → nat_le (length text) TEXT_LIMIT ≡ within
      → (text ≡ [] → ⊥) → ((printed text).out ≡ [] → ⊥) ⊎ ((printed text).err ≡ [] → ⊥)
  has-bytes true is some = inl (λ none. some (rw is at none))
  has-bytes false is some = inr (λ none. limit-has (rw is at none))

  -- a write failed: a front was written
  pub part-written : AppendsPrefix w w' (take TEXT_LIMIT text) → Rose f f' → (text ≡ [] → ⊥)
      → e' ≡ e → GivesPrinted (printed text) status.WriteFault out_seen err_seen
  part-written part rose some same = record {
    given = inr (inl (record {
      status_is = refl;
      has_bytes = has-bytes (nat_le (length text) TEXT_LIMIT) refl some;
      out_got = subst (AppendsPrefix w w') (sym (for-out (nat_le (length text) TEXT_LIMIT) refl))
          part;
      err_got = rw same (got-front-of-all e (printed text).err);
    }));
    printing = refl;
    cause = λ _. inl rose;
  }

  -- memory ran out: a front was written
  pub memory-written : AppendsPrefix w w' (take TEXT_LIMIT text) → e' ≡ e
      → GivesPrinted (printed text) status.OutOfMemory out_seen err_seen
  memory-written part same = record {
    given = inr (inr (record {
      status_is = refl;
      out_got = subst (AppendsPrefix w w') (sym (for-out (nat_le (length text) TEXT_LIMIT) refl))
          part;
      err_kept = rw same (kept e);
    }));
    printing = refl;
    cause = λ wrong. absurd (cc);
  }

  -- the bytes up to the limit were written, and a line that says so, or a front of it
  pub limit-written : (r : Status) → Appends w w' (take TEXT_LIMIT text)
      → TEXT_LIMIT < length text → Says status.OutputLimit output_limit_line r (change e e')
      → (r ≡ status.WriteFault → Rose g g')
      → GivesPrinted (printed text) r out_seen err_seen
  limit-written r all beyond says cause =
      beyond-written (nat_le (length text) TEXT_LIMIT) refl says
    where
      beyond-written : (within : Bool) → nat_le (length text) TEXT_LIMIT ≡ within
          → Says status.OutputLimit output_limit_line r (change e e')
          → GivesPrinted (printed text) r out_seen err_seen
      beyond-written true is says = absurd (not-beyond text beyond is)
      beyond-written false is (inl h) = record {
        given = inl (record {
          status_is = rw is h.0;
          out_got = rw is all;
          err_got = rw is h.1;
        });
        printing = rw h.0 refl;
        cause = λ fault. inr (cause fault);
      }
      beyond-written false is (inr h) = record {
        given = inr (inl (record {
          status_is = h.0;
          has_bytes = inr (λ none. limit-has (rw is at none));
          out_got = rw is (whole-front w w' (take TEXT_LIMIT text) all);
          err_got = rw is h.1;
        }));
        printing = rw h.0 refl;
        cause = λ fault. inr (cause fault);
      }
