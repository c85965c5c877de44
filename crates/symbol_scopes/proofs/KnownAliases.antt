-- The aliases that are known, after one mark more.
use Rattle.std.proofs.Common.{◌≡◌, ℕ, ◌<◌, Bool, true, false, ◌||◌, List, [], ◌∷◌, ◌++◌, length, get_or, set, map, refl, ap, sym, ◌∙◌, subst, bytes_eq, if◌then◌else◌}
use Rattle.std.proofs.lemmas.Option.{slice_get-get_or, get_or_from_slice_get}
use Rattle.symbol_scopes.specs.declared.aliases.AliasSet.{AliasSet}
use Rattle.symbol_scopes.specs.declared.call.Call.{Call}
use Rattle.symbol_scopes.specs.declared.call.Call.TheVariants as c
use Rattle.symbol_scopes.specs.declared.call.Said.{Said}
use Rattle.symbol_scopes.specs.declared.call.Said.TheVariants as s
use Rattle.symbol_scopes.specs.ScopeMarks.{Name, ScopeMark}
use Rattle.symbol_scopes.specs.Faults.{is_alias_known, defines_it}
use Rattle.symbol_scopes.specs.Aliases.{KnowsAliases}
use Rattle.symbol_scopes.specs.Slots.{AreDistinctNames}
use Rattle.symbol_scopes.specs.Calls.{mark_of, said_mark, numbered_name}
use Rattle.symbol_scopes.proofs.Lists.{any-push, set-map, map-same, get-map}

or-false : (b : Bool) → (b || false) ≡ b
or-false true = refl
or-false false = refl

same : (before : List ScopeMark) (m : ScopeMark) (t : Bool) (x : Name) → defines_it t x m ≡ false
    → is_alias_known before t x ≡ is_alias_known (before ++ m ∷ []) t x
same before m t x e =
    sym (any-push (defines_it t x) before m ∙ ap (λ b. is_alias_known before t x || b) e
    ∙ or-false (is_alias_known before t x))

module _ (ns : List Name) (before : List ScopeMark) where
  unchanged : (m : ScopeMark) (k : AliasSet) → ((t : Bool) (x : Name) → defines_it t x m ≡ false)
      → KnowsAliases ns before k → KnowsAliases ns (before ++ m ∷ []) k
  unchanged m k none h = record {
    types = h.types ∙ map-same (is_alias_known before true) (is_alias_known (before ++ m ∷ []) true) ns
        (λ x. same before m true x (none true x));
    attributes = h.attributes ∙ map-same (is_alias_known before false) (is_alias_known (before ++ m ∷ []) false) ns
        (λ x. same before m false x (none false x));
  }

  -- a call that says nothing of a name leaves the aliases that are known
  pub knows-plain : (k : AliasSet) (next : Call)
      → ((n : ℕ) (said : Said) → next ≡ c.Name n said → ⊥)
      → KnowsAliases ns before k → KnowsAliases ns (before ++ mark_of ns next ∷ []) k
  knows-plain k c.Enter unlike h = unchanged (mark_of ns c.Enter) k (λ t x. refl) h
  knows-plain k c.Leave unlike h = unchanged (mark_of ns c.Leave) k (λ t x. refl) h
  knows-plain k (c.BadPack p) unlike h = unchanged (mark_of ns (c.BadPack p)) k (λ t x. refl) h
  knows-plain k (c.Name n said) unlike h = absurd (unlike n said refl)

  -- and so does one that doesn't define an alias
  pub knows-other : (k : AliasSet) (next : Call) (n : ℕ) (said : Said) → next ≡ c.Name n said
      → ((t : Bool) (p : ℕ) → said ≡ s.DefineAlias t p → ⊥)
      → KnowsAliases ns before k → KnowsAliases ns (before ++ mark_of ns next ∷ []) k
  knows-other k next n said e unlike h =
      subst (λ x. KnowsAliases ns (before ++ mark_of ns x ∷ []) k) (sym e)
      (unchanged (mark_of ns (c.Name n said)) k (by said unlike) h)
    where
      by : (said : Said) → ((t : Bool) (p : ℕ) → said ≡ s.DefineAlias t p → ⊥)
          → (t : Bool) (x : Name) → defines_it t x (said_mark (numbered_name ns n) said) ≡ false
      by (s.Define p k) unlike t x = refl
      by (s.Use p k q) unlike t x = refl
      by (s.Label p b) unlike t x = refl
      by (s.LeadTo p) unlike t x = refl
      by (s.DefineAlias a p) unlike t x = absurd (unlike a p refl)
      by (s.MentionAlias a p) unlike t x = refl

  -- the other kind of alias is as it was
  across : (m : ScopeMark) (t : Bool) → ((x : Name) → defines_it t x m ≡ false)
      → map (is_alias_known before t) ns ≡ map (is_alias_known (before ++ m ∷ []) t) ns
  across m t none = map-same (is_alias_known before t) (is_alias_known (before ++ m ∷ []) t) ns
      (λ x. same before m t x (none x))

  -- one more name is known
  added : (m : ScopeMark) (t : Bool) (n : ℕ) (bits : List Bool) → AreDistinctNames ns → n < length ns
      → ((x : Name) → defines_it t x m ≡ bytes_eq (numbered_name ns n) x)
      → bits ≡ map (is_alias_known before t) ns
      → set bits n true ≡ map (is_alias_known (before ++ m ∷ []) t) ns
  added m t n bits distinct within is was =
      ap (λ l. set l n true) was
      ∙ set-map (is_alias_known before t) true ns n (numbered_name ns n) distinct (slice_get-get_or ns n [] within)
      ∙ map-same (λ x. if bytes_eq (numbered_name ns n) x then true else is_alias_known before t x)
      (is_alias_known (before ++ m ∷ []) t) ns
      (λ x. choice (bytes_eq (numbered_name ns n) x) (is_alias_known before t x)
      ∙ sym (any-push (defines_it t x) before m ∙ ap (λ b. is_alias_known before t x || b) (is x)))
    where
      choice : (a b : Bool) → (if a then true else b) ≡ (b || a)
      choice true true = refl
      choice true false = refl
      choice false true = refl
      choice false false = refl

  -- a call that defines an alias of types makes it known
  pub knows-type : (old new : AliasSet) (next : Call) (t : Bool) (n p : ℕ) → AreDistinctNames ns → n < length ns
      → next ≡ c.Name n (s.DefineAlias t p) → t ≡ true → KnowsAliases ns before old
      → new.types.items ≡ set old.types.items n true → new.attributes ≡ old.attributes
      → KnowsAliases ns (before ++ mark_of ns next ∷ []) new
  knows-type old new next t n p distinct within e is h types attributes =
      let now : next ≡ c.Name n (s.DefineAlias true p) = e ∙ ap (λ b. c.Name n (s.DefineAlias b p)) is in
      subst (λ x. KnowsAliases ns (before ++ mark_of ns x ∷ []) new) (sym now) (record {
        types = types ∙ added (mark_of ns (c.Name n (s.DefineAlias true p))) true n old.types.items distinct within (λ x. refl) h.types;
        attributes = ap (λ v. v.items) attributes ∙ h.attributes
            ∙ across (mark_of ns (c.Name n (s.DefineAlias true p))) false (λ x. refl);
      })

  -- a call that defines an alias of attributes makes it known
  pub knows-attribute : (old new : AliasSet) (next : Call) (t : Bool) (n p : ℕ) → AreDistinctNames ns → n < length ns
      → next ≡ c.Name n (s.DefineAlias t p) → t ≡ false → KnowsAliases ns before old
      → new.attributes.items ≡ set old.attributes.items n true → new.types ≡ old.types
      → KnowsAliases ns (before ++ mark_of ns next ∷ []) new
  knows-attribute old new next t n p distinct within e is h attributes types =
      let now : next ≡ c.Name n (s.DefineAlias false p) = e ∙ ap (λ b. c.Name n (s.DefineAlias b p)) is in
      subst (λ x. KnowsAliases ns (before ++ mark_of ns x ∷ []) new) (sym now) (record {
        attributes = attributes ∙ added (mark_of ns (c.Name n (s.DefineAlias false p))) false n old.attributes.items distinct within (λ x. refl) h.attributes;
        types = ap (λ v. v.items) types ∙ h.types
            ∙ across (mark_of ns (c.Name n (s.DefineAlias false p))) true (λ x. refl);
      })

-- what stands at the number of a name
pub bit-read : (f : Name → Bool) (ns : List Name) (bits : List Bool) (n : ℕ) (d : Bool)
    → bits ≡ map f ns → n < length ns → get_or bits n d ≡ f (numbered_name ns n)
bit-read f ns bits n d is within =
    ap (λ l. get_or l n d) is
    ∙ get_or_from_slice_get (map f ns) n (f (numbered_name ns n)) d
    (get-map f ns n (numbered_name ns n) (slice_get-get_or ns n [] within))
