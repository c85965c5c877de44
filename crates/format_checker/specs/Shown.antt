-- What a format shows of an operation, and what it has to show.
--
-- An element shows the operands, the attribute, the region or the successor that it names, the
-- types of the entries that it speaks of, or the attributes that have no element of their own. An
-- element of a group shows it too, in whatever branch it stands.
--
--   things op k               what an element shows
--   showings op es            what the elements of a format show, with their places, in order
--   is_shown op es thing      some element shows it
--   ShowsAll op es            all that has to be shown is: each operand, region and successor, a
--                             dictionary, and the types of each result that isn't single; and
--                             `results` stands where at most one result entry isn't single. Where
--                             it isn't so, code 11 is given at the format text's length.
--   first_repeated op es      code 12: the place of the first element that shows again what was
--                             shown before it
--   HasType op es entry       the types of the entry are shown
--   FirstUntyped op es entry  code 15: it is the first entry, operands before results, without one
use Rattle.std.specs.Prelude.{◌≡◌, ℕ, ◌==◌, ◌<◌, Bool, true, false, ◌||◌, List, [], ◌∷◌, ◌++◌, Option, Some, None, map, length, if◌then◌else◌}
use Rattle.std.specs.List.{list_any, flat_map, range_with_len}
use Rattle.dialect_defs.specs.declared.definition.OpDef.{OpDef}
use Rattle.dialect_defs.specs.declared.format.Element.{Element, out-Element}
use Rattle.dialect_defs.specs.declared.format.ElementKind.TheOpen.{ElementKind-F}
use Rattle.dialect_defs.specs.declared.format.TypeArg.{TypeArg}
use Rattle.dialect_defs.specs.declared.format.TypeArg.TheVariants as arg
use Rattle.dialect_defs.specs.Segments.{needs_sizes}
use Rattle.format_checker.specs.declared.shown.Thing.{Thing}
use Rattle.format_checker.specs.declared.shown.Thing.TheVariants as thing
use Rattle.format_checker.specs.declared.stop.EntryRef.{EntryRef}
use Rattle.format_checker.specs.declared.stop.EntryRef.TheVariants as entry
use Rattle.format_checker.specs.Columns.{Kind, kind_of, arity_at, is_single}

-- ---- what elements show

-- the first byte of an element in the format text
abbrev pub at_of : Element → ℕ
at_of e = (out-Element e).at

abbrev pub types_things : OpDef → TypeArg → List Thing
types_things op (arg.Operand i) = thing.OperandTypes i ∷ []
types_things op (arg.Result i) = thing.ResultTypes i ∷ []
types_things op arg.AllOperands =
    map (λ i. thing.OperandTypes i) (range_with_len 0 (length op.operands))
types_things op arg.AllResults =
    map (λ i. thing.ResultTypes i) (range_with_len 0 (length op.results))

-- of an element that is no group
abbrev pub things : OpDef → Kind → List Thing
things op (ElementKind-F.Operand i) = thing.Operand i ∷ []
things op (ElementKind-F.Attr i) = thing.Attr i ∷ []
things op (ElementKind-F.Region i) = thing.Region i ∷ []
things op (ElementKind-F.Successor i) = thing.Successor i ∷ []
things op (ElementKind-F.SymbolName i) = thing.Attr i ∷ []
things op (ElementKind-F.IntText i k) = thing.Attr i ∷ []
things op (ElementKind-F.Types a) = types_things op a
things op (ElementKind-F.Functional a b) = types_things op a ++ types_things op b
things op ElementKind-F.Dict = thing.Dict ∷ []
things op ElementKind-F.DictKeyword = thing.Dict ∷ []
things op _ = []

-- a thing with the place of the element that shows it
pub record Showing : Type 0 where
  pub at : ℕ
  pub thing : Thing

abbrev pub showing : ℕ → Thing → Showing
showing at t = record { at = at; thing = t }

abbrev pub item_showings : OpDef → Element → List Showing
item_showings op e = map (showing (at_of e)) (things op (kind_of e))

-- the elements of a group, or the one element
abbrev pub form_showings : OpDef → Element → Kind → List Showing
form_showings op e (ElementKind-F.Group first otherwise anchor) =
    flat_map (item_showings op) first ++ flat_map (item_showings op) otherwise
form_showings op e k = map (showing (at_of e)) (things op k)

abbrev pub element_showings : OpDef → Element → List Showing
element_showings op e = form_showings op e (kind_of e)

abbrev pub showings : OpDef → List Element → List Showing
showings op es = flat_map (element_showings op) es

-- ---- what is shown

abbrev pub same_thing : Thing → Thing → Bool
same_thing (thing.Operand i) (thing.Operand j) = i == j
same_thing (thing.Attr i) (thing.Attr j) = i == j
same_thing (thing.Region i) (thing.Region j) = i == j
same_thing (thing.Successor i) (thing.Successor j) = i == j
same_thing (thing.OperandTypes i) (thing.OperandTypes j) = i == j
same_thing (thing.ResultTypes i) (thing.ResultTypes j) = i == j
same_thing thing.Dict thing.Dict = true
same_thing _ _ = false

-- it is among what was shown
abbrev pub is_among : Thing → List Showing → Bool
is_among t shown = list_any (λ (s : Showing). same_thing t s.thing) shown

abbrev pub is_shown : OpDef → List Element → Thing → Bool
is_shown op es t = is_among t (showings op es)

-- ---- code 11

-- `type(results)`, or `functional-type` with `results`
abbrev pub is_all_results : TypeArg → Bool
is_all_results arg.AllResults = true
is_all_results _ = false

abbrev pub shows_all_results : Kind → Bool
shows_all_results (ElementKind-F.Types a) = is_all_results a
shows_all_results (ElementKind-F.Functional a b) = is_all_results a || is_all_results b
shows_all_results _ = false

-- some item does
abbrev pub items_show_results : List Element → Bool
items_show_results es = list_any (λ e. shows_all_results (kind_of e)) es

abbrev pub form_shows_results : Kind → Bool
form_shows_results (ElementKind-F.Group first otherwise anchor) =
    items_show_results first || items_show_results otherwise
form_shows_results k = shows_all_results k

-- some element does
abbrev pub results_are_shown : List Element → Bool
results_are_shown es = list_any (λ e. form_shows_results (kind_of e)) es

-- all things of some numbers are shown
abbrev pub AreShown : OpDef → List Element → (ℕ → Thing) → ℕ → Type 0
AreShown op es f count = (i : ℕ) → i < count → is_shown op es (f i) ≡ true

-- all that has to be shown is
pub record ShowsAll (op : OpDef) (es : List Element) : Type 0 where
  pub operands : AreShown op es (λ i. thing.Operand i) (length op.operands)
  pub regions : AreShown op es (λ i. thing.Region i) (length op.regions)
  pub successors : AreShown op es (λ i. thing.Successor i) (length op.successors)
  pub dict : is_shown op es thing.Dict ≡ true
  pub results : (i : ℕ) → i < length op.results → is_single (arity_at op.results i) ≡ false
      → is_shown op es (thing.ResultTypes i) ≡ true
  pub sizes : results_are_shown es ≡ true → needs_sizes op.results ≡ false

-- ---- code 12

-- the place of the first showing of what was shown before it
abbrev pub repeated_behind : List Showing → List Showing → Option ℕ
repeated_behind shown [] = None
repeated_behind shown (s ∷ more) =
    if is_among s.thing shown then Some s.at else repeated_behind (shown ++ s ∷ []) more

abbrev pub first_repeated : OpDef → List Element → Option ℕ
first_repeated op es = repeated_behind [] (showings op es)

-- ---- code 15

abbrev pub types_of : EntryRef → Thing
types_of (entry.Operand i) = thing.OperandTypes i
types_of (entry.Result i) = thing.ResultTypes i

-- the types of an entry can be found: they are shown
abbrev pub HasType : OpDef → List Element → EntryRef → Type 0
HasType op es e = is_shown op es (types_of e) ≡ true

-- those of some numbers can be
abbrev pub HaveTypes : OpDef → List Element → (ℕ → EntryRef) → ℕ → Type 0
HaveTypes op es f count = (i : ℕ) → i < count → HasType op es (f i)

abbrev pub AllTyped : OpDef → List Element → Type 0
AllTyped op es =
    HaveTypes op es (λ i. entry.Operand i) (length op.operands)
    × HaveTypes op es (λ i. entry.Result i) (length op.results)

-- the first entry of which they can't
abbrev pub FirstUntyped : OpDef → List Element → EntryRef → Type 0
FirstUntyped op es (entry.Operand i) =
    (i < length op.operands) × (HasType op es (entry.Operand i) → ⊥)
    × HaveTypes op es (λ j. entry.Operand j) i
FirstUntyped op es (entry.Result i) =
    (i < length op.results) × (HasType op es (entry.Result i) → ⊥)
    × HaveTypes op es (λ j. entry.Operand j) (length op.operands)
    × HaveTypes op es (λ j. entry.Result j) i
