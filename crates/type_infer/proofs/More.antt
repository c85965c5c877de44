-- More is determined where more is shown.
use Rattle.std.proofs.Common.{◌≡◌, Some}
use Rattle.dialect_defs.specs.declared.body.VarId.{VarId}
use Rattle.dialect_defs.specs.declared.definition.OpDef.{OpDef}
use Rattle.dialect_defs.specs.declared.entry.Entry.{Entry}
use Rattle.type_infer.specs.declared.entries.EntryRef.{EntryRef}
use Rattle.type_infer.specs.Determined.{Determined, Infers, IsUntold, entry_at}
use Rattle.type_infer.specs.Determined.{by_entry, by_attr, by_whole, by_value, by_parts, by_member}
use Rattle.type_infer.specs.Rule.{IsFirstUntold}

-- what is shown of the entries that are there is shown too
abbrev pub ShowsMore : OpDef → (EntryRef → Type 0) → (EntryRef → Type 0) → Type 0
ShowsMore d shows tells =
    (i : EntryRef) (e : Entry) → entry_at d i ≡ Some e → shows i → tells i

module _ (d : OpDef) (shows tells : EntryRef → Type 0) (more : ShowsMore d shows tells) where
  pub determined-more : (v : VarId) → Determined d shows v → Determined d tells v
  determined-more _ (by_value v id is) = by_value v id is
  determined-more _ (by_entry i e is single shown) = by_entry i e is single (more i e is shown)
  determined-more _ (by_attr e among required) = by_attr e among required
  determined-more _ (by_parts v is_type name parts is told) =
      by_parts v is_type name parts is (λ part among. determined-more part (told part among))
  determined-more _ (by_member v member members is among told) =
      by_member v member members is among (determined-more member told)
  determined-more _ (by_whole v whole c must told is among) =
      by_whole v whole c must (determined-more whole told) is among

  -- a type that one operation hides is hidden by the format
  pub infers-more : Infers d shows → Infers d tells
  infers-more infers i e is hidden =
      determined-more e.var (infers i e is (λ shown. hidden (more i e is shown)))

-- an entry whose type can't be found, where the same is shown
pub untold-as : (d : OpDef) (shows tells : EntryRef → Type 0) → ShowsMore d shows tells
    → ShowsMore d tells shows → (i : EntryRef) → IsUntold d shows i → IsUntold d tells i
untold-as d shows tells more back i untold = record {
  entry = untold.entry;
  stands = untold.stands;
  hidden = λ told. untold.hidden (back i untold.entry untold.stands told);
  unknown = λ known. untold.unknown (determined-more d tells shows back untold.entry.var known);
}

-- and the first one
pub first-untold-as : (d : OpDef) (shows tells : EntryRef → Type 0) → ShowsMore d shows tells
    → ShowsMore d tells shows → (i : EntryRef) → IsFirstUntold d shows i → IsFirstUntold d tells i
first-untold-as d shows tells more back i first = record {
  untold = untold-as d shows tells more back i first.untold;
  first = λ j before untold. first.first j before (untold-as d tells shows back more j untold);
}
