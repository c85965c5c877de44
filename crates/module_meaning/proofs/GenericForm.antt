-- What the facts of the generic form say, said without facts.
--
-- The numbers of successors and regions are their places in the lists of the tree, so facts that
-- are below the counts, and tell of all below the counts, are as many as the counts.
use Rattle.std.proofs.Common.{◌≡◌, ℕ, ◌+◌, ◌<◌, true, List}
use Rattle.std.proofs.Common.{length, map, refl, sym, ◌∙◌, ap, subst, arith}
use Rattle.std.proofs.Common.{Some, inl, inr, slice_get, IsSomeAnd}
use Rattle.std.proofs.lemmas.List.{length-map}
use Rattle.std.specs.List.{AllByRecursion}
use Rattle.dialect_defs.specs.declared.definition.OpDef.{OpDef}
use Rattle.dialect_defs.specs.Operations.{Operation}
use Rattle.generic_syntax.specs.declared.cst.NameCst.{NameCst}
use Rattle.generic_syntax.specs.declared.module_cst.GenericCst.{GenericCst, out-GenericCst}
use Rattle.generic_syntax.specs.declared.module_cst.RegionCst.{RegionCst}
use Rattle.module_meaning.proofs.GenericFacts.{map-places, places-map, within, stands}
use Rattle.module_meaning.proofs.GenericFacts.{same-bounds, tells-left, tells-right, tells-either}
use Rattle.module_meaning.proofs.GenericFacts.{tells-successor, tells-region, successor-told}
use Rattle.module_meaning.proofs.GenericFacts.{region-told, successors-apart, regions-apart}
use Rattle.module_meaning.proofs.GenericFacts.{successors-each, each-successor, regions-each}
use Rattle.module_meaning.proofs.GenericFacts.{each-region, all-apart, none-hidden}
use Rattle.module_meaning.proofs.Places.{all-joined}
use Rattle.module_meaning.specs.Facts.{Fact, region_topic}
use Rattle.module_meaning.specs.Facts.{successor_topic, tells, generic_facts, nothing_hidden}
use Rattle.module_meaning.specs.Facts.{successor_facts, region_facts}
use Rattle.module_meaning.specs.Names.{Env, Names, used, target}
use Rattle.module_meaning.specs.Says.{Says, Shows, ShowsGeneric, argument_types}
use Rattle.value_meaning.specs.Meaning.{Aliases}

module _ (aliases : Aliases) (d : OpDef) (g : GenericCst) (o : Operation) (ins outs : List ℕ) where
  abbrev Said : Fact → Type 0
  Said fact = Says aliases ins outs o fact

  -- what the generic form shows, by facts
  pub shows-generic : ShowsGeneric aliases g o
      → Shows aliases d nothing_hidden (generic_facts g) o ins outs
  shows-generic h = record {
    said = (
      h.uses,
      (
        h.inputs,
        (
          h.outputs,
          (
            tt,
            all-joined Said _ _
                (successors-each Said 0 (out-GenericCst g).successors (λ i s is.
                (let below : i < length (out-GenericCst g).successors =
                within (out-GenericCst g).successors i (λ x. x ≡ s) (here _ i s is) in
                let count : length (out-GenericCst g).successors ≡ o.successors = h.successors in
                omega arith)))
                (regions-each Said 0 (out-GenericCst g).regions (λ i r is.
                (let zero_is : i ≡ 0 + i = omega arith in
                subst (λ (n : ℕ). IsSomeAnd (slice_get o.regions n)
                (λ blocks. argument_types aliases r ≡ map (map Some) blocks)) zero_is
                (map-places (argument_types aliases) (map (map Some)) (out-GenericCst g).regions
                o.regions h.regions i r is)))),
          ),
        ),
      ),
    );
    covers = record {
      dict = refl;
      regions = λ i l. region i l;
      successors = λ i l. successor i l;
      keys = λ key e. absurd (cc);
      uses = inl refl;
      operands = λ e. absurd (cc);
      results = λ e. absurd (cc);
    };
    others = λ key e. h.attrs key;
    distinct = h.distinct;
    free = none-hidden _;
    operand_sizes_are = tt;
    result_sizes_are = tt;
  }
    where
      here : {A : Type 0} (xs : List A) (i : ℕ) (x : A) → slice_get xs i ≡ Some x
          → IsSomeAnd (slice_get xs i) (λ y. y ≡ x)
      here xs i x is = subst (λ o. IsSomeAnd o (λ y. y ≡ x)) (sym is) refl

      region : (i : ℕ) → i < length o.regions → tells (generic_facts g) (region_topic i) ≡ true
      region i l =
          let count : length (out-GenericCst g).regions ≡ length o.regions =
          sym (length-map (out-GenericCst g).regions (argument_types aliases))
          ∙ (ap length h.regions ∙ length-map o.regions (map (map Some))) in
          let told : tells (region_facts 0 (out-GenericCst g).regions) (region_topic (0 + i))
          ≡ true =
          tells-region 0 i (out-GenericCst g).regions (omega arith) in
          let same : 0 + i ≡ i = omega arith in
          tells-right (successor_facts 0 (out-GenericCst g).successors)
          (region_facts 0 (out-GenericCst g).regions) (region_topic i)
          (subst (λ (n : ℕ). tells (region_facts 0 (out-GenericCst g).regions) (region_topic n)
          ≡ true) same told)

      successor : (i : ℕ) → i < o.successors
          → tells (generic_facts g) (successor_topic i) ≡ true
      successor i l =
          let count : length (out-GenericCst g).successors ≡ o.successors = h.successors in
          let told : tells (successor_facts 0 (out-GenericCst g).successors)
          (successor_topic (0 + i)) ≡ true =
          tells-successor 0 i (out-GenericCst g).successors (omega arith) in
          let same : 0 + i ≡ i = omega arith in
          tells-left (successor_facts 0 (out-GenericCst g).successors)
          (region_facts 0 (out-GenericCst g).regions) (successor_topic i)
          (subst (λ (n : ℕ). tells (successor_facts 0 (out-GenericCst g).successors)
          (successor_topic n) ≡ true) same told)

  -- the facts of the generic form say what it shows
  pub generic-shows : Shows aliases d nothing_hidden (generic_facts g) o ins outs
      → ShowsGeneric aliases g o
  generic-shows p = record {
    uses = p.said.0;
    inputs = p.said.1.0;
    outputs = p.said.1.1.0;
    attrs = λ key. p.others key refl;
    distinct = p.distinct;
    successors = same-bounds (length (out-GenericCst g).successors) o.successors below above;
    regions = places-map (argument_types aliases) (map (map Some)) (out-GenericCst g).regions
        o.regions (same-bounds (length (out-GenericCst g).regions) (length o.regions) in_region
        told_region) each;
  }
    where
      parts : AllByRecursion Said (successor_facts 0 (out-GenericCst g).successors)
          × AllByRecursion Said (region_facts 0 (out-GenericCst g).regions)
      parts = all-apart Said (successor_facts 0 (out-GenericCst g).successors)
          (region_facts 0 (out-GenericCst g).regions) p.said.1.1.1.1

      below : (i : ℕ) → i < length (out-GenericCst g).successors → i < o.successors
      below i l =
          let (s, is) = stands (out-GenericCst g).successors i l in
          let said : 0 + i < o.successors =
          each-successor Said 0 (out-GenericCst g).successors parts.0 i s is in
          omega arith

      above : (i : ℕ) → i < o.successors → i < length (out-GenericCst g).successors
      above i l = elim (tells-either (successor_facts 0 (out-GenericCst g).successors)
          (region_facts 0 (out-GenericCst g).regions)
          (successor_topic i) (p.covers.successors i l)) [
            | inl told ↦
                let bound : i < 0 + length (out-GenericCst g).successors =
                successor-told 0 i (out-GenericCst g).successors told in
                omega arith
            | inr told ↦ absurd (regions-apart 0 i (out-GenericCst g).regions told)
          ]

      each : (i : ℕ) (r : RegionCst) → slice_get (out-GenericCst g).regions i ≡ Some r
          → IsSomeAnd (slice_get o.regions i)
          (λ blocks. argument_types aliases r ≡ map (map Some) blocks)
      each i r is =
          let same : 0 + i ≡ i = omega arith in
          subst (λ (n : ℕ). IsSomeAnd (slice_get o.regions n)
          (λ blocks. argument_types aliases r ≡ map (map Some) blocks)) same
          (each-region Said 0 (out-GenericCst g).regions parts.1 i r is)

      in_region : (i : ℕ) → i < length (out-GenericCst g).regions → i < length o.regions
      in_region i l =
          let (r, is) = stands (out-GenericCst g).regions i l in
          within o.regions i _ (each i r is)

      told_region : (i : ℕ) → i < length o.regions → i < length (out-GenericCst g).regions
      told_region i l = elim (tells-either (successor_facts 0 (out-GenericCst g).successors)
          (region_facts 0 (out-GenericCst g).regions)
          (region_topic i) (p.covers.regions i l)) [
            | inl told ↦ absurd (successors-apart 0 i (out-GenericCst g).successors told)
            | inr told ↦
                let bound : i < 0 + length (out-GenericCst g).regions =
                region-told 0 i (out-GenericCst g).regions told in
                omega arith
          ]

-- What the names in the generic form say, without facts: uses mean the operands and labels the
-- successors, one by one, and each region is that of the tree at its place.
pub record NamesGeneric (env : Env) (g : GenericCst) (operands successors : List ℕ)
    (Region : ℕ → RegionCst → Type 0) : Type 0 where
  pub uses : map (used env) (out-GenericCst g).operands ≡ map Some operands
  pub labels : map (target env) (out-GenericCst g).successors ≡ map Some successors
  pub regions : (i : ℕ) (r : RegionCst) → slice_get (out-GenericCst g).regions i ≡ Some r
      → Region i r

module _ (env : Env) (g : GenericCst) (sizes xs ss : List ℕ) (Region : ℕ → RegionCst → Type 0)
  where
    abbrev Named : Fact → Type 0
    Named fact = Names env sizes xs ss Region fact

    -- what the names in the generic form say, by facts
    pub names-generic : NamesGeneric env g xs ss Region
        → AllByRecursion (Names env sizes xs ss Region) (generic_facts g)
    names-generic h = (
      h.uses,
      (
        tt,
        (
          tt,
          (
            tt,
            all-joined Named
                (successor_facts 0 (out-GenericCst g).successors)
                (region_facts 0 (out-GenericCst g).regions)
                (successors-each Named 0 (out-GenericCst g).successors (λ i s is.
                (let zero_is : i ≡ 0 + i = omega arith in
                subst (λ (n : ℕ). IsSomeAnd (slice_get ss n) (λ b. target env s ≡ Some b)) zero_is
                (map-places (target env) Some (out-GenericCst g).successors ss h.labels i s is))))
                (regions-each Named 0 (out-GenericCst g).regions (λ i r is.
                (let zero_is : i ≡ 0 + i = omega arith in
                subst (λ (n : ℕ). Region n r) zero_is (h.regions i r is)))),
          ),
        ),
      ),
    )

    -- the facts of the generic form say what its names do, where successors are as many
    pub generic-names : length (out-GenericCst g).successors ≡ length ss
        → AllByRecursion (Names env sizes xs ss Region) (generic_facts g)
        → NamesGeneric env g xs ss Region
    generic-names many p = record {
      uses = p.0;
      labels = places-map (target env) Some (out-GenericCst g).successors ss many each;
      regions = λ i r is. (let same : 0 + i ≡ i = omega arith in
          subst (λ (n : ℕ). Region n r) same
          (each-region Named 0 (out-GenericCst g).regions parts.1 i r is));
    }
      where
        parts : AllByRecursion Named (successor_facts 0 (out-GenericCst g).successors)
            × AllByRecursion Named (region_facts 0 (out-GenericCst g).regions)
        parts = all-apart Named (successor_facts 0 (out-GenericCst g).successors)
            (region_facts 0 (out-GenericCst g).regions) p.1.1.1.1

        each : (i : ℕ) (s : NameCst) → slice_get (out-GenericCst g).successors i ≡ Some s
            → IsSomeAnd (slice_get ss i) (λ b. target env s ≡ Some b)
        each i s is =
            let same : 0 + i ≡ i = omega arith in
            subst (λ (n : ℕ). IsSomeAnd (slice_get ss n) (λ b. target env s ≡ Some b)) same
            (each-successor Named 0 (out-GenericCst g).successors parts.0 i s is)
