-- How questions follow one another.
use Rattle.std.proofs.Common.{◌∙◌, ◌↔◌, Bool, true, false, IsTrue, true≢false, List}
use Rattle.std.proofs.Common.{refl, sym}
use Rattle.attr_value.specs.Values.{Value}
use Rattle.dialect_defs.specs.Assignments.{Assignment}
use Rattle.op_verifier.specs.Asked.{Slots, Rest, Asks, Refuses, Decides}

module _ {values : List Value} where
  -- at first all is left
  pub rest-start : (s : Slots) (Q : Assignment → Type 0) → Rest values s s Q Q
  rest-start s Q = record {
    size = refl;
    down = λ a w q. (w, q);
    up = λ a w q. (w, q);
  }

  -- of what is left, a part is asked
  pub rest-step : {old now new : Slots} {Q R P S : Assignment → Type 0}
      → Rest values old now Q R → ((a : Assignment) → R a → P a × S a)
      → ((a : Assignment) → P a → S a → R a) → Asks values now new P → Rest values old new Q S
  rest-step r split join asks = record {
    size = asks.size ∙ r.size;
    down = λ a w q.
        let before = r.down a w q in
        let parts = split a before.1 in
        ((asks.down a before.0 parts.0).0, parts.1);
    up = λ a w s.
        let before = asks.up a w tt in
        r.up a before.0 (join a before.1 s);
  }

  -- a part of what is left is refused
  pub rest-refused : {old now : Slots} {Q R P : Assignment → Type 0} → Rest values old now Q R
      → ((a : Assignment) → R a → P a) → Refuses values now P → Refuses values old Q
  rest-refused r split refuses = record {
    none = λ a w q. let before = r.down a w q in refuses.none a before.0 (split a before.1);
  }

  -- nothing is left
  pub rest-end : {old now : Slots} {Q R : Assignment → Type 0} → Rest values old now Q R
      → ((a : Assignment) → R a) → Asks values old now Q
  rest-end r all = record {
    size = r.size;
    down = λ a w q. ((r.down a w q).0, tt);
    up = λ a w u. r.up a w (all a);
  }

  -- the same of the whole
  pub rest-of : {old now : Slots} {Q P R : Assignment → Type 0} → Rest values old now Q R
      → ((a : Assignment) → Q a → P a) → ((a : Assignment) → P a → Q a) → Rest values old now P R
  rest-of r to from = record {
    size = r.size;
    down = λ a w p. r.down a w (from a p);
    up = λ a w s. let before = r.up a w s in (before.0, to a before.1);
  }

  -- what was asked can be had
  pub Decides-true : {old new : Slots} {Q : Assignment → Type 0} → Asks values old new Q
      → Decides values old new true Q
  Decides-true asks = record { asks = λ yes. asks; refuses = λ no. absurd (true≢false no) }

  -- it can't
  pub Decides-false : {old new : Slots} {Q : Assignment → Type 0} → Refuses values old Q
      → Decides values old new false Q
  Decides-false refuses = record {
    asks = λ yes. absurd (true≢false (sym yes));
    refuses = λ no. refuses;
  }

  -- what was asked, said otherwise
  pub Decides-as : {old new : Slots} {taken : Bool} {Q P : Assignment → Type 0}
      → ((a : Assignment) → Q a → P a) → ((a : Assignment) → P a → Q a)
      → Decides values old new taken Q → Decides values old new taken P
  Decides-as to from asked = record {
    asks = λ yes. rest-of (asked.asks yes) to from;
    refuses = λ no. let refuses = asked.refuses no in
        record { none = λ a w p. refuses.none a w (from a p) };
  }

  -- a test of what doesn't speak of variables
  pub Decides-test : {s : Slots} {taken : Bool} {Q : Assignment → Type 0}
      → ((a : Assignment) → IsTrue taken ↔ Q a)
      → Decides values s s taken Q
  Decides-test {s = s} {Q = Q} says = record {
    asks = λ yes. rest-end (rest-start s Q) (λ a. (says a).0 yes);
    refuses = λ no. record { none = λ a w q. true≢false (sym ((says a).1 q) ∙ no) };
  }
