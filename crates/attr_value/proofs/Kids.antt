-- The values that a list of ids stands for.
use Rattle.std.proofs.Common.{◌≡◌, List, [], ◌∷◌, length, refl, ap, suc}
use Rattle.attr_value.specs.declared.head.ValueId.{ValueId}
use Rattle.attr_value.specs.Ids.{kids_at}
use Rattle.attr_value.specs.Values.{Value, list_of}

-- as many values as ids
pub length-kids-at : (values : List Value) (ids : List ValueId)
    → length (list_of (kids_at values ids)) ≡ length ids
length-kids-at values [] = refl
length-kids-at values (id ∷ ids) = ap suc (length-kids-at values ids)
