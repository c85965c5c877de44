-- Settling the variables of a body from the last to the first.
use Rattle.std.proofs.Common.{◌≡◌, ◌∙◌, ℕ, ◌+◌, ◌<◌, ◌≤◌, ◌⊎◌, inl, inr, List, [], ◌∷◌, length}
use Rattle.std.proofs.Common.{refl, sym, subst, arith, get_or}
use Rattle.std.proofs.lemmas.Bool.{cases_lt}
use Rattle.std.proofs.lemmas.Option.{slice_get-get_or, same_Some}
use Rattle.std.specs.List.{AllByRecursion}
use Rattle.std.specs.Prelude.{slice_get}
use Rattle.std.specs.declared.option.Option.TheVariants.{Some}
use Rattle.attr_value.specs.Values.{Value}
use Rattle.dialect_defs.specs.declared.body.Body.{Body}
use Rattle.dialect_defs.specs.declared.body.Constraint.{Constraint}
use Rattle.dialect_defs.specs.declared.body.Constraint.TheVariants.{Is, Any, Base, Parametric}
use Rattle.dialect_defs.specs.declared.body.Constraint.TheVariants.{AnyOf, AllOf, Native}
use Rattle.dialect_defs.specs.declared.body.VarId.{VarId}
use Rattle.dialect_defs.specs.Assignments.{Tests, Assignment, Has, HaveEach, Keeps, IsWithin}
use Rattle.constraint_solver.specs.Search.{SameFrom, Forced, Refuted, MeetsBelow, Solved}
use Rattle.constraint_solver.specs.Search.{IsDirect}
use Rattle.constraint_solver.proofs.Given.{has-one, has-same}
use Rattle.constraint_solver.proofs.Filled.{var_at}
use Rattle.constraint_solver.proofs.Tried.{MemberRefuted}

-- an item of a list doesn't depend on what stands for those that aren't there
pub same-default : {X : Type 0} (xs : List X) (k : ℕ) (d e : X) → k < length xs
    → get_or xs k d ≡ get_or xs k e
same-default xs k d e within = same_Some (get_or xs k d) (get_or xs k e)
    (sym (slice_get-get_or xs k d within) ∙ slice_get-get_or xs k e within)

-- a constraint that is kept stays kept as the assignment grows
pub each-grows : (a b : Assignment) (vs : List VarId) (xs : List Value) → IsWithin a b
    → HaveEach a vs xs → HaveEach b vs xs
each-grows a b [] [] grown have = tt
each-grows a b [] (x ∷ xs) grown have = have
each-grows a b (v ∷ vs) [] grown have = have
each-grows a b (v ∷ vs) (x ∷ xs) grown have =
    (grown v x have.0, each-grows a b vs xs grown have.1)

all-grows : (a b : Assignment) (vs : List VarId) (x : Value) → IsWithin a b
    → AllByRecursion (λ v. Has a v x) vs → AllByRecursion (λ v. Has b v x) vs
all-grows a b [] x grown have = tt
all-grows a b (v ∷ vs) x grown have = (grown v x have.0, all-grows a b vs x grown have.1)

-- a constraint that is kept stays kept as the assignment grows
pub keeps-grows : (values : List Value) (tests : Tests) (c : Constraint) (a b : Assignment)
    (x : Value) → IsWithin a b → Keeps values tests a c x → Keeps values tests b c x
keeps-grows values tests (Is id) a b x grown kept = kept
keeps-grows values tests Any a b x grown kept = kept
keeps-grows values tests (Base base) a b x grown kept = kept
keeps-grows values tests (Parametric is_type name parts) a b x grown kept =
    (kept.0, each-grows a b parts _ grown kept.1)
keeps-grows values tests (AnyOf members) a b x grown kept =
    (kept.0, kept.1, grown kept.0 x kept.2)
keeps-grows values tests (AllOf members) a b x grown kept = all-grows a b members x grown kept
keeps-grows values tests (Native i) a b x grown kept = kept

-- a constraint that is no `any_of` leaves no choice
pub direct : (c : Constraint) → ((ms : List VarId) → c ≡ AnyOf ms → ⊥) → IsDirect c
direct (Is id) other = tt
direct Any other = tt
direct (Base base) other = tt
direct (Parametric is_type name parts) other = tt
direct (AnyOf members) other = other members refl
direct (AllOf members) other = tt
direct (Native i) other = tt

-- the first v variables of a body, and then the variable v, the first n in all
module _ (values : List Value) (tests : Tests) (body : Body) (v n : ℕ) (next : v + 1 ≡ n) where
  abbrev here : VarId
  here = record { 0 = v }

  abbrev Below : Assignment → Type 0
  Below = MeetsBelow v values tests body

  abbrev Upto : Assignment → Type 0
  Upto = MeetsBelow n values tests body

  fewer : (a : Assignment) → Upto a → Below a
  fewer a met w c x below is has = met w c x (omega (arith, next, below)) is has

  -- a variable without a value asks nothing
  pub skip : (old new : Assignment) → ((x : Value) → Has old here x → ⊥)
      → Solved v values tests body old new → Solved n values tests body old new
  skip old new bare s = record {
    grown = s.grown;
    met = λ w c x upto is has. by w c x is has (cases_lt w.0 v) upto;
    above = λ w x from has. s.above w x (omega (arith, next, from)) has;
  }
    where
      by : (w : VarId) (c : Constraint) (x : Value) → slice_get body.vars w.0 ≡ Some c
          → Has new w x → (w.0 < v) ⊎ (v ≤ w.0) → w.0 < n → Keeps values tests new c x
      by w c x is has (inl below) upto = s.met w c x below is has
      by w c x is has (inr from) upto =
          absurd (bare x (has-same old w here x (omega (arith, next, from, upto))
          (s.above w x from has)))

  -- what no values below v can meet, none below n can
  pub skip-refuted : (old : Assignment) → Refuted old Below → Refuted old Upto
  skip-refuted old r a under met = r a under (fewer a met)

  module _ (c : Constraint) (x : Value) (is : slice_get body.vars v ≡ Some c) where
    abbrev Kept : Assignment → Type 0
    Kept a = Keeps values tests a c x

    -- what the constraint of a variable with a value asks
    asks : (old a : Assignment) → Has old here x → IsWithin old a → Upto a → Kept a
    asks old a has under met = met here c x (omega (arith, next)) is (under here x has)

    -- where the constraint can't be kept, the variables can't be settled
    pub kept-refuted : (old : Assignment) → Has old here x → Refuted old Kept
        → Refuted old Upto
    kept-refuted old has r a under met = r a under (asks old a has under met)

    -- nor where, once it is kept, those before can't be
    pub then-refuted : (old mid : Assignment) → Has old here x → Forced v old mid Kept
        → Refuted mid Below → Refuted old Upto
    then-refuted old mid has f r a under met =
        r a (f.least a under (asks old a has under met)) (fewer a met)

    -- where the variables before are settled, and the constraint is kept already
    pub then-solved : (old mid new : Assignment) → Has old here x → IsWithin old mid
        → SameFrom v old mid → Kept mid → Solved v values tests body mid new
        → Solved n values tests body old new
    then-solved old mid new has grown above kept s = record {
      grown = λ w y h. s.grown w y (grown w y h);
      met = λ w d y upto is_w h. by w d y is_w h (cases_lt w.0 v) upto;
      above = λ w y from h. above w y (omega (arith, next, from))
          (s.above w y (omega (arith, next, from)) h);
    }
      where
        by : (w : VarId) (d : Constraint) (y : Value) → slice_get body.vars w.0 ≡ Some d
            → Has new w y → (w.0 < v) ⊎ (v ≤ w.0) → w.0 < n → Keeps values tests new d y
        by w d y is_w h (inl below) upto = s.met w d y below is_w h
        by w d y is_w h (inr from) upto =
            let at_v : w.0 ≡ v = omega (arith, next, from, upto) in
            let is_v : slice_get body.vars v ≡ Some d =
            subst (λ k. slice_get body.vars k ≡ Some d) at_v is_w in
            let one : c ≡ d = same_Some c d (sym is ∙ is_v) in
            let had : Has old here y =
            has-same old w here y at_v (above w y from (s.above w y from h)) in
            let same : x ≡ y = has-one old here x y has had in
            subst (λ e. Keeps values tests new e y) one
            (subst (λ z. Keeps values tests new c z) same
            (keeps-grows values tests c mid new x s.grown kept))

  -- no member is the value
  pub members-refuted : (members : List VarId) (x : Value) (old : Assignment)
      → slice_get body.vars v ≡ Some (AnyOf members) → Has old here x
      → ((k : ℕ) → k < length members → MemberRefuted v values tests body old (var_at members k) x)
      → Refuted old Upto
  members-refuted members x old is has each a under met =
      let some = asks (AnyOf members) x is old a has under met in
      let k = some.1.0 in
      let within = some.1.1 in
      let same : some.0 ≡ var_at members k =
      sym some.1.2 ∙ same-default members k some.0 (record { 0 = 0 }) within in
      each k within a under (subst (λ w. Has a w x) same some.2, fewer a met)
