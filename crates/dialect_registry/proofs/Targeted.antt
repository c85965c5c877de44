-- What a table of names finds, with one definition or one dialect more.
use Rattle.std.proofs.Common.{◌≡◌, ℕ, ◌+◌, ◌<◌, Bool, true, false, List, [], ◌∷◌, ◌++◌, length, take, get_or, refl, sym, ◌∙◌, ap, cond, is_some, bytes_eq, if◌then◌else◌}
use Rattle.std.specs.Prelude.{find, option_map, option_and_then}
use Rattle.std.specs.Option.{option_or, option_flatten}
use Rattle.std.specs.declared.option.Option.{Option}
use Rattle.std.specs.declared.option.Option.TheVariants.{Some, None}
use Rattle.std.proofs.lemmas.List.{take_more}
use Rattle.ir_lexer.specs.Spelling.{Text}
use Rattle.irdl_ops.specs.declared.raw.RawDef.{RawDef}
use Rattle.irdl_ops.specs.declared.raw.RawDialect.{RawDialect}
use Rattle.dialect_registry.specs.declared.names.NameMap.{NameMap}
use Rattle.dialect_registry.specs.declared.targets.Target.{Target}
use Rattle.dialect_registry.specs.declared.targets.Targets.{Targets}
use Rattle.dialect_registry.specs.Scopes.{value_at, found_in, Finds}
use Rattle.dialect_registry.specs.Targets.{target_of, def_named, dialect_named, named_in}

find-more : {A : Type 0} (p : A → Bool) (xs : List A) (x : A)
    → find p (xs ++ x ∷ []) ≡ option_or (find p xs) (if p x then Some x else None)
find-more {A = A} p [] x = go (p x)
  where
    go : (b : Bool) → cond b (Some x) None ≡ (if b then Some x else None)
    go true = refl
    go false = refl
find-more {A = A} p (y ∷ xs) x = go (p y) (find-more p xs x)
  where
    go : (b : Bool)
        → find p (xs ++ x ∷ []) ≡ option_or (find p xs) (if p x then Some x else None)
        → cond b (Some y) (find p (xs ++ x ∷ []))
        ≡ option_or (cond b (Some y) (find p xs)) (if p x then Some x else None)
    go true e = refl
    go false e = e

-- the definitions of a table, with one more
pub defs-more : (defs : List RawDef) (i : ℕ) (x : RawDef) (name : Text) → i < length defs
    → x ≡ get_or defs i x
    → option_map target_of (def_named (take (i + 1) defs) name)
    ≡ option_or (option_map target_of (def_named (take i defs) name))
    (if bytes_eq x.name name then Some (target_of x) else None)
defs-more defs i x name less is =
    ap (λ l. option_map target_of (def_named l name))
    (take_more defs i x less ∙ ap (λ y. take i defs ++ y ∷ []) (sym is))
    ∙ ap (option_map target_of) (find-more (λ d. bytes_eq d.name name) (take i defs) x)
    ∙ both (def_named (take i defs) name) (bytes_eq x.name name)
  where
    both : (o : Option RawDef) (b : Bool)
        → option_map target_of (option_or o (if b then Some x else None))
        ≡ option_or (option_map target_of o) (if b then Some (target_of x) else None)
    both None true = refl
    both None false = refl
    both (Some y) b = refl

-- what a dialect's table finds is what the dialect has
pub found-named : (o : Option RawDef)
    → option_flatten (option_map target_of o) ≡ option_and_then target_of o
found-named None = refl
found-named (Some x) = go (target_of x)
  where
    go : (p : Option Target) → option_flatten (Some p) ≡ p
    go None = refl
    go (Some n) = refl

-- two look-ups that agree still do, each with one more at the end
there-more : {A B : Type 0} (a : Option A) (x : Option B) (b : Bool) (m : A) (y : B)
    → is_some a ≡ is_some x → is_some (option_or a (if b then Some m else None))
    ≡ is_some (option_or x (if b then Some y else None))
there-more None None true m y e = refl
there-more None None false m y e = refl
there-more (Some v) (Some w) b m y e = refl
there-more None (Some w) b m y e = absurd (cc)
there-more (Some v) None b m y e = absurd (cc)

each-more : {A B : Type 0} (f : A → Option Target) (g : B → Option Target) (a : Option A) (x : Option B)
    (b : Bool) (m : A) (y : B) → is_some a ≡ is_some x
    → option_and_then f a ≡ option_and_then g x → f m ≡ g y
    → option_and_then f (option_or a (if b then Some m else None))
    ≡ option_and_then g (option_or x (if b then Some y else None))
each-more f g None None true m y e h k = k
each-more f g None None false m y e h k = refl
each-more f g (Some v) (Some w) b m y e h k = h
each-more f g None (Some w) b m y e h k = absurd (cc)
each-more f g (Some v) None b m y e h k = absurd (cc)

-- a table that finds what references to some dialects name, with one dialect more
pub finds-more : (before : List RawDialect) (dialect : RawDialect) (old new : Targets)
    (m : NameMap (Option Target)) → Finds before old
    → ((n : Text) → found_in n m ≡ named_in n dialect)
    → ((other : Text) → value_at new.dialects other
    ≡ option_or (value_at old.dialects other)
    (if bytes_eq dialect.name other then Some m else None))
    → Finds (before ++ dialect ∷ []) new
finds-more before dialect old new m k own added = record {
  there = λ d.
      ap is_some (added d)
      ∙ there-more (value_at old.dialects d) (dialect_named before d) (bytes_eq dialect.name d) m
      dialect (k.there d)
      ∙ ap is_some (sym (find-more (λ x. bytes_eq x.name d) before dialect));
  each = λ d n.
      ap (option_and_then (found_in n)) (added d)
      ∙ each-more (found_in n) (named_in n) (value_at old.dialects d) (dialect_named before d)
      (bytes_eq dialect.name d) m dialect (k.there d) (k.each d n) (own n)
      ∙ ap (option_and_then (named_in n)) (sym (find-more (λ x. bytes_eq x.name d) before dialect));
}

-- a table with nothing in it finds nothing
pub finds-none : (t : Targets) → ((name : Text) → value_at t.dialects name ≡ None) → Finds [] t
finds-none t none = record {
  there = λ d. ap is_some (none d);
  each = λ d n. ap (option_and_then (found_in n)) (none d);
}
