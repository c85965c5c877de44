-- The types and attributes of files that break no rule on names, references and limits are sound
-- and have distinct names; and so are their shapes.
use Rattle.std.proofs.Common.{◌≡◌, ◌∙◌, ℕ, zero, suc, ◌<◌, ◌⊎◌, inl, inr, List, [], ◌∷◌, ◌++◌, length, map, refl, sym, ap, subst, arith, length-append}
use Rattle.std.specs.Prelude.{slice_get}
use Rattle.std.specs.List.{AllByRecursion}
use Rattle.std.specs.declared.option.Option.TheVariants.{Some}
use Rattle.std.proofs.lemmas.Bool.{cases_lt}
use Rattle.attr_value.specs.Values.{Value}
use Rattle.constraint_solver.specs.Definitions.{AreSoundDefs, IsSoundDef, IsUnconstrained}
use Rattle.dialect_defs.specs.declared.body.Constraint.{Constraint}
use Rattle.dialect_defs.specs.declared.body.Constraint.TheVariants.{Any}
use Rattle.dialect_defs.specs.declared.definition.TypeDef.{TypeDef}
use Rattle.dialect_defs.specs.declared.entry.Entry.{Entry}
use Rattle.dialect_defs.specs.Assignments.{Tests}
use Rattle.dialect_defs.specs.Bodies.{AreBelow}
use Rattle.dialect_defs.specs.Goodness.{vars_of}
use Rattle.first_fault.specs.declared.fault.Fault.{Fault}
use Rattle.ir_lexer.specs.Spelling.{Text}
use Rattle.irdl_ops.specs.declared.raw.RawDefs.{RawDefs}
use Rattle.value_meaning.specs.Distinct.{HaveDistinctNames}
use Rattle.dialect_registry.specs.ConstantFaults.{free_vars, own_params, own_param, shape_of, shapes_of}
use Rattle.dialect_registry.specs.DefFaults.{IsFault, dialects_of, world_of}
use Rattle.dialect_registry.specs.Resolved.{AreEach, IsType, Located, constraints_in, entry_of, full_name, is_type_kind, located_in, types_among}
use Rattle.dialect_registry.specs.Targets.{World, parameters_in, parameter_count}
use Rattle.dialect_registry.proofs.DistinctNames.{SameName, apart-at, full-name-same, no-dot-of, type-among, types-apart}
use Rattle.dialect_registry.proofs.Faultless.{IsFaultless, located-faultless}
use Rattle.dialect_registry.proofs.Each.{each-at, each-holds, each-length}
use Rattle.dialect_registry.proofs.Listed.{param-used}
use Rattle.dialect_registry.proofs.Members.{all-mapped}
use Rattle.dialect_registry.proofs.SoundBodies.{sound-body}
use Rattle.dialect_registry.proofs.UsedNames.{used-is}

-- entries whose variables are below a number
entries-below : (n : ℕ) (entries : List Entry) → AllByRecursion (λ e. e.var.0 < n) entries
    → AreBelow n (vars_of entries)
entries-below n [] below = tt
entries-below n (e ∷ entries) below = (below.0, entries-below n entries below.1)

-- ---- types

-- a type or an attribute is sound that was resolved where no rule is broken
pub sound-type : (w : World) (tests : Tests) (shapes : List TypeDef) (values : List Value)
    (count : ℕ) → length w.natives ≡ count → (d : Located) (t : TypeDef)
    → IsFaultless w d.dialect d.def → IsType w tests shapes values d t
    → IsSoundDef (length values) count t
sound-type w tests shapes values count given d t faultless is =
    let sts = d.def.statements in
    let many : length (constraints_in sts) ≡ length t.body.vars =
    each-length _ (constraints_in sts) t.body.vars is.body in
    record {
      either = inl (record {
        body = sound-body w tests shapes values count given d.dialect faultless.names
            faultless.few t.body is.body;
        params = entries-below (length t.body.vars) t.params
            (subst (AllByRecursion (λ e. e.var.0 < length t.body.vars)) (sym is.params)
            (all-mapped (λ e. e.var.0 < length t.body.vars) (entry_of (constraints_in sts))
            (parameters_in sts)
            (λ e has.
            let less = used-is faultless.names e.var.place e.var.name (param-used sts e has) in
            omega (arith, less, many))));
      });
    }

-- a definition has the kind and the full name of what is written
pub record IsNamedAs (d : Located) (t : TypeDef) : Type 0 where
  pub kind : t.is_type ≡ is_type_kind d.def.kind
  pub name : t.name ≡ full_name d.dialect d.def.name

module _ (files : List RawDefs) (natives : List Text)
    (none : (n : ℕ) (f : Fault) → IsFault files natives n f → ⊥) where
  -- all types and attributes of the files are sound
  pub sound-types : (tests : Tests) (shapes : List TypeDef) (values : List Value) (count : ℕ)
      → length natives ≡ count → (types : List TypeDef)
      → AreEach (IsType (world_of files natives) tests shapes values)
      (types_among (located_in (dialects_of files))) types
      → AreSoundDefs (length values) count types
  sound-types tests shapes values count given types each = record {
    each = each-holds (IsType (world_of files natives) tests shapes values)
        (IsSoundDef (length values) count) (types_among (located_in (dialects_of files))) types each
        (λ d t has is. sound-type (world_of files natives) tests shapes values count given d t
        (located-faultless files natives none d
        (type-among (located_in (dialects_of files)) d has)) is);
  }

  -- definitions that are named as those of the files have distinct names
  pub distinct-types : (types : List TypeDef)
      → AreEach IsNamedAs (types_among (located_in (dialects_of files))) types
      → HaveDistinctNames types
  distinct-types types each = record {
    same = λ i j t u at_i at_j kind name.
        elim (cases_lt i j) [
          | inl less ↦ absurd (apart i j t u less at_i at_j name)
          | inr most ↦ elim (cases_lt j i) [
            | inl less ↦ absurd (apart j i u t less at_j at_i (sym name))
            | inr least ↦ omega (arith, most, least)
          ]
        ];
  }
    where
      ds : List Located
      ds = located_in (dialects_of files)

      apart : (i j : ℕ) (t u : TypeDef) → i < j → slice_get types i ≡ Some t
          → slice_get types j ≡ Some u → t.name ≡ u.name → ⊥
      apart i j t u less at_i at_j name =
          let a = each-at IsNamedAs (types_among ds) types each i t at_i in
          let b = each-at IsNamedAs (types_among ds) types each j u at_j in
          apart-at SameName (types_among ds) (types-apart files natives none) i j a.0 b.0 less a.2
          b.2
          (full-name-same a.0.dialect b.0.dialect a.0.def.name b.0.def.name
          (no-dot-of files natives none a.0 (type-among ds a.0 a.1))
          (no-dot-of files natives none b.0 (type-among ds b.0 b.1))
          (sym a.3.name ∙ name ∙ b.3.name))

-- ---- shapes

free-length : (n : ℕ) → length (free_vars n) ≡ n
free-length zero = refl
free-length (suc n) =
    let rest = free-length n in
    let both = length-append (free_vars n) (Any ∷ []) in omega (arith, rest, both)

own-length : (n : ℕ) → length (own_params n) ≡ n
own-length zero = refl
own-length (suc n) =
    let rest = own-length n in
    let both = length-append (own_params n) (own_param n ∷ []) in omega (arith, rest, both)

-- an item of a list with one more at the end
last-or : {A : Type 0} (xs : List A) (x y : A) (i : ℕ) → slice_get (xs ++ x ∷ []) i ≡ Some y
    → (slice_get xs i ≡ Some y) ⊎ ((i ≡ length xs) × (x ≡ y))
last-or [] x y zero at = inr (refl, let same : x ≡ y = cc in same)
last-or [] x y (suc i) at = absurd (cc)
last-or (z ∷ xs) x y zero at = inl at
last-or (z ∷ xs) x y (suc i) at = elim (last-or xs x y i at) [
  | inl here ↦ inl here
  | inr last ↦ inr (ap suc last.0, last.1)
]

own-at : (n i : ℕ) (p : Entry) → slice_get (own_params n) i ≡ Some p → p.var.0 ≡ i
own-at zero i p at = absurd (cc)
own-at (suc n) i p at = elim (last-or (own_params n) (own_param n) p i at) [
  | inl here ↦ own-at n i p here
  | inr last ↦ ap (λ q. q.var.0) (sym last.1) ∙ sym (last.0 ∙ own-length n)
]

free-at : (n i : ℕ) (c : Constraint) → slice_get (free_vars n) i ≡ Some c → c ≡ Any
free-at zero i c at = absurd (cc)
free-at (suc n) i c at = elim (last-or (free_vars n) Any c i at) [
  | inl here ↦ free-at n i c here
  | inr last ↦ sym last.1
]

shape-open : (d : Located) → IsUnconstrained (shape_of d)
shape-open d =
    let n = parameter_count d.def.statements in
    record {
      many = free-length n ∙ sym (own-length n);
      own = λ i p at. own-at n i p at;
      free = λ v c at. free-at n v c at;
    }

-- the shapes of files are sound over any table
pub sound-shapes : (files : List RawDefs) (len count : ℕ) → AreSoundDefs len count (shapes_of files)
sound-shapes files len count = record {
  each = all-mapped (IsSoundDef len count) shape_of (types_among (located_in (dialects_of files)))
      (λ d has. record { either = inr (shape-open d) });
}

-- and named as what they are shapes of
pub named-shapes : (ds : List Located) → AreEach IsNamedAs ds (map shape_of ds)
named-shapes [] = tt
named-shapes (d ∷ ds) = (record { kind = refl; name = refl }, named-shapes ds)

-- so are the types that are resolved
pub named-types : (w : World) (tests : Tests) (shapes : List TypeDef) (values : List Value)
    (ds : List Located) (types : List TypeDef) → AreEach (IsType w tests shapes values) ds types
    → AreEach IsNamedAs ds types
named-types w tests shapes values [] [] each = tt
named-types w tests shapes values (d ∷ ds) (t ∷ types) each = (
  record { kind = each.0.kind; name = each.0.name },
  named-types w tests shapes values ds types each.1,
)
named-types w tests shapes values [] (t ∷ types) each = absurd each
named-types w tests shapes values (d ∷ ds) [] each = absurd each
