-- How what is known of some trees grows by one tree more.
--
--   IsAdded old j new     what is known of one more tree stands behind the others
--
-- Inside: no public clause rests on this.
use Rattle.std.specs.Prelude.{◌≡◌, ◌&&◌, List, [], ◌∷◌, ◌++◌, is_some}
use Rattle.std.specs.declared.option.Option.{Option}
use Rattle.std.specs.declared.option.Option.TheVariants.{Some, None}
use Rattle.attr_value.specs.declared.head.ValueId.{ValueId}
use Rattle.first_fault.specs.Firsts.{earlier_of}
use Rattle.value_meaning.specs.declared.judged.Judged.{Judged}
use Rattle.value_meaning.specs.declared.judged.Kids.{Kids}

-- an id that may be missing, as a list
abbrev pub listed : Option ValueId → List ValueId
listed None = []
listed (Some id) = id ∷ []

-- the id stands behind the others, where there is one
pub record IsAdded (old : Kids) (j : Judged) (new : Kids) : Type 0 where
  pub ids : new.ids.items ≡ old.ids.items ++ listed j.value
  pub all_good : new.all_good ≡ old.all_good && is_some j.value
  pub first : new.first ≡ earlier_of old.first j.first
