-- Values without kids, and what is asked of kids: when they are good.
use Rattle.std.proofs.Common.{◌≡◌, ◌<◌, ℕ, Bool, true, false, List, [], ◌∷◌}
use Rattle.std.proofs.Common.{map, length, refl, sym, ◌∙◌, ap, subst, arith, cond, nat_lt, rules}
use Rattle.std.proofs.Common.{◌==◌}
use Rattle.std.proofs.lemmas.Bool.Decides.{nat_tests}
use Rattle.std.specs.List.{AllByRecursion}
use Rattle.std.specs.declared.option.Option.{Option}
use Rattle.std.specs.declared.option.Option.TheVariants.{Some, None}
use Rattle.attr_value.specs.declared.head.Head.{Head}
use Rattle.attr_value.specs.declared.head.Head.TheVariants as h
use Rattle.attr_value.specs.Heads.{HeadIsRight, IsType, MayHaveKids, OwnRule}
use Rattle.attr_value.specs.Ids.{kids_at}
use Rattle.attr_value.specs.Values.{Value, list_of}
use Rattle.dialect_defs.specs.Goodness.{IsDefined}
use Rattle.first_fault.specs.declared.fault.Fault.{Fault}
use Rattle.first_fault.specs.Firsts.{IsFirst}
use Rattle.grammar.specs.Looks.{is_integer_word}
use Rattle.ir_lexer.specs.Spelling.{Text}
use Rattle.value_meaning.specs.declared.code.TheConstants.{SYNTAX}
use Rattle.value_meaning.specs.declared.judged.Kids.{Kids}
use Rattle.value_meaning.specs.Faults.{IsFaultOf, HasGood}
use Rattle.value_meaning.specs.Judging.{Ground, IsGood, IsNoBadInteger, Judges, JudgesKids}
use Rattle.value_meaning.specs.Meaning.{Mark, claim_at, leaf, spells}
use Rattle.value_meaning.specs.Meaning as claim
use Rattle.value_meaning.specs.Spelled.{word_head, looked_up, words, int_kind_of, all_some}
use Rattle.value_meaning.proofs.Among.{first-nil, first-right, first-wrong}
use Rattle.value_meaning.proofs.Made.{good-leaf, all_some-some}
use Rattle.value_meaning.proofs.Nodes.{judged, judges-and, judges-wrong}
use Rattle.value_meaning.proofs.Right.{word-right, looked_up-right}
use Rattle.value_meaning.proofs.Mentions.{fault_at}

-- a head may stand alone, and its rule asks for no kid
pub own-leaf : (head : Head) → MayHaveKids head 0 → HeadIsRight head → OwnRule head []
own-leaf head count right = record { count = count; types = λ e. tt; right = right }

-- what is something, each of two lists, is the same
pub some-same : {A : Type 0} (xs ys : List A) → map Some xs ≡ map Some ys → xs ≡ ys
some-same xs ys e =
    let it : Some xs ≡ Some ys = sym (all_some-some xs) ∙ ap all_some e ∙ all_some-some ys in cc

-- a tuple may hold these, where they are types
pub own-tuple : (vs : List Value) → AllByRecursion IsType vs → OwnRule h.Tuple vs
own-tuple vs types = record { count = tt; types = λ e. types; right = tt }

-- a number that isn't 0 is greater
pub some-less : (n : ℕ) → (n == 0) ≡ false → 0 < n
some-less n e = grind (arith, nat_tests)

pub less-some : (n : ℕ) → 0 < n → nat_lt 0 n ≡ true
less-some n e = grind (arith, nat_tests)

module _ (g : Ground) where
  -- a symbol is no integer type
  pub symbol-other : (parts : List Text) → IsNoBadInteger g (Some (leaf (h.Symbol parts)))
  symbol-other parts v kind e int =
      let is : leaf (h.Symbol parts) ≡ v = cc in
      let never : h.Symbol parts ≡ h.Int kind = ap (λ x. x.head) is ∙ int in absurd (cc)

  -- a symbol of some parts is good
  pub symbol-good : (parts : List Text) → 0 < length parts → IsGood g (leaf (h.Symbol parts))
  symbol-good parts some = good-leaf g (h.Symbol parts) (own-leaf (h.Symbol parts) refl some) tt

  -- one of none isn't
  pub symbol-bad : (parts : List Text) → length parts ≡ 0
      → HasGood g.table g.tests g.types (Some (leaf (h.Symbol parts))) → ⊥
  symbol-bad parts none good =
      let is : leaf (h.Symbol parts) ≡ good.value = let e = good.is in cc in
      let right : 0 < length parts = (subst (IsGood g) (sym is) good.good).node.rule.right in
      omega (arith, right, none)

  -- heads of words are no dialect's
  word-defined : (w : Text) (head : Head) → word_head w ≡ Some head
      → IsDefined g.table g.tests g.types head []
  unfolding word_head
  word-defined w head e = go (is_integer_word w) e
    where
      go : (named : Bool)
          → cond named (Some (h.Int (int_kind_of w))) (looked_up words w) ≡ Some head
          → IsDefined g.table g.tests g.types head []
      go true e =
          let is : h.Int (int_kind_of w) ≡ head = cc in
          subst (λ head. IsDefined g.table g.tests g.types head []) is tt
      go false e = looked_up-right (λ head. IsDefined g.table g.tests g.types head []) words w head
          (search (rules)) e

  -- the value of a word is good
  pub word-good : (w : Text) (head : Head) → word_head w ≡ Some head → IsGood g (leaf head)
  word-good w head e =
      let right = word-right w head e in
      good-leaf g head (own-leaf head right.1 right.0) (word-defined w head e)

  -- ---- forms

  -- a form that texts have
  pub form-right : (n place : ℕ) (new : List Value) (b : Bool) (spelled : Option Value)
      (v : _) → b ≡ true
      → Judges g n spelled [] new v
      → Judges g n spelled (claim_at place (spells b) ∷ []) new v
  form-right n place new b spelled v e x =
      judges-and g n new spelled (claim_at place (spells b)) [] None v
      (first-right g.table g.tests g.types (claim_at place (spells b))
      (λ code breaks. let wrong = breaks.1 in absurd (cc))) x

  -- one that they don't have
  pub form-wrong : (n place : ℕ) (new : List Value) (b : Bool) (spelled : Option Value)
      → b ≡ false → (HasGood g.table g.tests g.types spelled → ⊥) → IsNoBadInteger g spelled
      → Judges g n spelled (claim_at place (spells b) ∷ []) new
      (judged None (Some (fault_at place SYNTAX)))
  form-wrong n place new b spelled e none integer =
      judges-wrong g n new spelled (claim_at place (spells b)) [] (fault_at place SYNTAX) None
      (first-wrong g.table g.tests g.types (claim_at place (spells b)) (fault_at place SYNTAX)
      (record { place = refl; breaks = (refl, e) }) (λ code breaks. sym breaks.0))
      (first-nil g.table g.tests g.types) none integer

  -- ---- types

  module _ (n place : ℕ) (spelled : List (Option Value)) (ms : List Mark) (now : List Value)
      (k : Kids) (x : JudgesKids g n spelled ms now k) where
    abbrev First : Option Fault → Type 0
    First = IsFirst (IsFaultOf g.table g.tests g.types (claim_at place (claim.types spelled)))

    -- where some kid isn't good, that they are types isn't asked
    pub types-unasked : k.all_good ≡ false → First None
    types-unasked bad = first-right g.table g.tests g.types (claim_at place (claim.types spelled))
        (λ code breaks. x.none bad breaks.1.kids_good)

    module _ (all : k.all_good ≡ true) where
      -- kids are the values that they spell
      kids-same : (vs : List Value) → spelled ≡ map Some vs
          → vs ≡ list_of (kids_at now k.ids.items)
      kids-same vs e =
          some-same vs (list_of (kids_at now k.ids.items)) (sym e ∙ (x.some all).spell)

      -- all of them are types
      pub types-right : AllByRecursion IsType (list_of (kids_at now k.ids.items)) → First None
      types-right types =
          first-right g.table g.tests g.types (claim_at place (claim.types spelled))
          (λ code breaks. breaks.1.wrong (subst (AllByRecursion IsType)
          (sym (kids-same breaks.1.kids_good.values_are breaks.1.kids_good.are)) types))

      -- one isn't
      pub types-wrong : (AllByRecursion IsType (list_of (kids_at now k.ids.items)) → ⊥)
          → First (Some (fault_at place SYNTAX))
      types-wrong wrong =
          first-wrong g.table g.tests g.types (claim_at place (claim.types spelled))
          (fault_at place SYNTAX)
          (record {
            place = refl;
            breaks = (
              refl,
              record {
                kids_good = record {
                  values_are = list_of (kids_at now k.ids.items);
                  are = (x.some all).spell;
                  good = (x.some all).good;
                };
                wrong = wrong;
              },
            );
          })
          (λ code breaks. sym breaks.0)
