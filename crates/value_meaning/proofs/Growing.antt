-- What a judgement shows stays so as the table of values grows.
use Rattle.std.proofs.Common.{ℕ, List, sym, ◌∙◌, ap, subst, arith, IfSome}
use Rattle.std.specs.declared.option.Option.{Option}
use Rattle.std.specs.declared.option.Option.TheVariants.{Some, None}
use Rattle.attr_value.specs.declared.head.ValueId.{ValueId}
use Rattle.attr_value.specs.Values.{Value}
use Rattle.constraint_solver.specs.Grown.{Extends}
use Rattle.constraint_solver.proofs.Grows.{at-grows, length-grows}
use Rattle.value_meaning.specs.declared.judged.Judged.{Judged}
use Rattle.value_meaning.specs.Judging.{Ground, IsGood, IsIdOf, IsJudged}
use Rattle.value_meaning.specs.Meaning.{Seen}

module _ (g : Ground) (old new : List Value) (grown : Extends old new) where
  -- the id of a good value stays its
  id-grows : (spelled : Option Value) (v : Option ValueId) → IfSome v (IsIdOf g spelled old)
      → IfSome v (IsIdOf g spelled new)
  id-grows spelled None x = tt
  id-grows spelled (Some id) x =
      let less = x.known in
      let longer = length-grows grown in
      let same = at-grows grown id.0 x.known in
      record {
        known = omega (arith, less, longer);
        spells = x.spells ∙ ap Some (sym same);
        good = subst (IsGood g) (sym same) x.good;
      }

  -- a tree that is judged stays judged so
  pub judged-grows : (n : ℕ) (s : Seen) (j : Judged) → IsJudged g n s old j → IsJudged g n s new j
  judged-grows n s j x = record {
    judges = record {
      some = id-grows s.value j.value x.judges.some;
      none = x.judges.none;
      first = x.judges.first;
      right = x.judges.right;
      integer = x.judges.integer;
    };
    right = x.right;
  }
