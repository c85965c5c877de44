-- Calls as steps, with one call more.
use Rattle.std.proofs.Common.{◌≡◌, ℕ, ◌≤◌, ◌⊎◌, inl, inr, Bool, ◌||◌, List, [], ◌∷◌, ◌++◌, length, refl, ap, sym, ◌∙◌, subst, arith, length-append}
use Rattle.std.proofs.Math.ListN.{get_or-append}
use Rattle.std.proofs.lemmas.List.{map-append}
use Rattle.std.specs.List.{list_any}
use Rattle.symbol_scopes.specs.declared.call.Call.{Call}
use Rattle.symbol_scopes.specs.declared.call.Call.TheVariants as c
use Rattle.symbol_scopes.specs.declared.calls.Step.{Step}
use Rattle.symbol_scopes.specs.declared.calls.Step.TheVariants as t
use Rattle.symbol_scopes.specs.Calls.{is_of_blocks}
use Rattle.symbol_scopes.specs.Steps.{call_of, calls_of, IsStep, AreSteps}
use Rattle.symbol_scopes.proofs.Lists.{all-push, all-weaker, any-push}

kept-call : (large more : List Call) (s : Step) → IsStep (length large) s
    → call_of (large ++ more) s ≡ call_of large s
kept-call large more t.Enter h = refl
kept-call large more t.Leave h = refl
kept-call large more (t.BadPack p) h = refl
kept-call large more (t.Define k n p) h = refl
kept-call large more (t.Use k a n p) h = refl
kept-call large more (t.Label b n p) h = refl
kept-call large more (t.LeadTo n p) h = refl
kept-call large more (t.DefineAlias a n p) h = refl
kept-call large more (t.MentionAlias a n p) h = refl
kept-call large more (t.Large at) h = get_or-append large more c.Enter at h

kept-step : (m n : ℕ) (s : Step) → m ≤ n → IsStep m s → IsStep n s
kept-step m n t.Enter le h = tt
kept-step m n t.Leave le h = tt
kept-step m n (t.BadPack p) le h = tt
kept-step m n (t.Define k a p) le h = tt
kept-step m n (t.Use k a b p) le h = h
kept-step m n (t.Label b a p) le h = tt
kept-step m n (t.LeadTo a p) le h = tt
kept-step m n (t.DefineAlias b a p) le h = tt
kept-step m n (t.MentionAlias b a p) le h = tt
kept-step m n (t.Large at) le h = omega arith

-- steps stand for the same calls where large ones are added
kept-calls : (large more : List Call) (steps : List Step) → AreSteps large steps
    → calls_of (large ++ more) steps ≡ calls_of large steps
kept-calls large more [] h = refl
kept-calls large more (s ∷ steps) h =
    let first = kept-call large more s h.0 in
    let rest = kept-calls large more steps h.1 in
    λ i. first i ∷ rest i

-- large calls that may have grown by one
grown-steps : (old new : List Call) (call : Call) (steps : List Step)
    → ((new ≡ old) ⊎ (new ≡ old ++ call ∷ [])) → AreSteps old steps
    → (calls_of new steps ≡ calls_of old steps) × AreSteps new steps
grown-steps old new call steps (inl e) h =
    (ap (λ l. calls_of l steps) e, subst (λ (l : List Call). AreSteps l steps) (sym e) h)
grown-steps old new call steps (inr e) h =
    let longer = length-append old (call ∷ []) in (
      ap (λ l. calls_of l steps) e ∙ kept-calls old (call ∷ []) steps h,
      subst (λ (l : List Call). AreSteps l steps) (sym e)
          (all-weaker (IsStep (length old)) (IsStep (length (old ++ call ∷ []))) steps
          (λ s. kept-step (length old) (length (old ++ call ∷ [])) s (omega arith)) h),
    )

-- what is kept of calls
abbrev pub KeptSteps : List Call → List Step → Bool → Type 0
KeptSteps large steps blocks =
    AreSteps large steps × (blocks ≡ list_any is_of_blocks (calls_of large steps))

module _ (old new : List Call) (call : Call) (steps : List Step) (blocks : Bool)
    (grown : (new ≡ old) ⊎ (new ≡ old ++ call ∷ [])) (h : KeptSteps old steps blocks)
    (after : List Step) where
  -- where no step was added the calls are the same
  pub same-calls : after ≡ steps → calls_of new after ≡ calls_of old steps
  same-calls e = ap (calls_of new) e ∙ (grown-steps old new call steps grown h.0).0

  -- and what is kept of them stays
  pub same-steps : after ≡ steps → KeptSteps new after blocks
  same-steps e = (
    subst (AreSteps new) (sym e) (grown-steps old new call steps grown h.0).1,
    h.1 ∙ ap (list_any is_of_blocks) (sym (same-calls e)),
  )

  module _ (s : Step) (e : after ≡ steps ++ s ∷ []) (is : call_of new s ≡ call) where
    -- one step more is one call more
    pub more-calls : calls_of new after ≡ calls_of old steps ++ call ∷ []
    more-calls =
        ap (calls_of new) e ∙ map-append (call_of new) steps (s ∷ [])
        ∙ ap (λ l. l ++ call_of new s ∷ []) (grown-steps old new call steps grown h.0).0
        ∙ ap (λ x. calls_of old steps ++ x ∷ []) is

    -- what is kept of them, with one more
    pub more-steps : (now : Bool) → IsStep (length new) s → now ≡ (blocks || is_of_blocks call)
        → KeptSteps new after now
    more-steps now fits told = (
      subst (AreSteps new) (sym e)
          (all-push (IsStep (length new)) steps s (grown-steps old new call steps grown h.0).1 fits),
      told ∙ ap (λ b. b || is_of_blocks call) h.1
          ∙ sym (any-push is_of_blocks (calls_of old steps) call)
          ∙ ap (list_any is_of_blocks) (sym more-calls),
    )
