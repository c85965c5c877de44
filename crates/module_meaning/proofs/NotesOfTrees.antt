-- Names that trees define, and names that stand before: what a step over a part of a tree asks.
use Rattle.std.proofs.Common.{◌≡◌, ℕ, suc, ◌+◌, Bool, true, false, List, [], ◌∷◌, ◌++◌}
use Rattle.std.proofs.Common.{map, refl, ◌∙◌, ap, subst, Option, Some, None}
use Rattle.std.proofs.Common.{inl, inr, ◌⊎◌, ◌||◌, bytes_eq, slice_get}
use Rattle.std.specs.List.{AllByRecursion}
use Rattle.generic_syntax.specs.declared.cst.NameCst.{NameCst}
use Rattle.generic_syntax.specs.declared.module_cst.ArgCst.{ArgCst}
use Rattle.generic_syntax.specs.declared.module_cst.BlockCst.{BlockCst, out-BlockCst}
use Rattle.generic_syntax.specs.declared.module_cst.GenericCst.{GenericCst, out-GenericCst}
use Rattle.generic_syntax.specs.declared.module_cst.RegionCst.{RegionCst}
use Rattle.ir_lexer.specs.Spelling.{Text}
use Rattle.grammar.specs.Looks.{is_among}
use Rattle.module_meaning.proofs.NotesJoined.{listed_in, listed, names_of}
use Rattle.module_meaning.proofs.NotesJoined.{listed-joined, listed-arguments}
use Rattle.module_meaning.proofs.NotesJoined.{listed-uses, listed-successors, listed-silent}
use Rattle.module_meaning.proofs.NotesJoined.{names-arguments, Within, among-left, among-right}
use Rattle.module_meaning.proofs.NotesJoined.{right-joined}
use Rattle.module_meaning.proofs.ValueNotes.{AreRight}
use Rattle.module_meaning.specs.Names.{Env}
use Rattle.module_meaning.specs.Names.{argument_names}
use Rattle.module_meaning.specs.Names.{op_names}
use Rattle.module_names.proofs.Opened.{generic-opened, form_mentions, form-silent}
use Rattle.module_names.proofs.Opening.{region-opens}
use Rattle.module_names.specs.ModuleNotes.{use_noted, successor_noted}
use Rattle.module_names.specs.ModuleNotes.{argument_noted, label_noted}
use Rattle.module_names.specs.ModuleNotes.{generic_notes, region_notes, block_notes}
use Rattle.module_names.specs.Said.{joined, noted}
use Rattle.symbol_scopes.specs.declared.call.NameKind.TheVariants.{Values}
use Rattle.symbol_scopes.specs.Regions.{Notes, RegionScope, own, count}

-- what a label defines among value names
pub listed-label : (k : ℕ) (l : Option NameCst) (more : Notes)
    → listed (joined (label_noted l k) more) ≡ listed more
listed-label k None more = refl
listed-label k (Some l) more = refl

pub right-label : (n k : ℕ) (ss : List RegionScope) (before : List Text) (l : Option NameCst)
    (more : Notes) → AreRight n ss before more
    → AreRight n ss before (joined (label_noted l k) more)
right-label n k ss before None more h = h
right-label n k ss before (Some l) more h = h

-- regions define nothing outside
pub listed-region : (r : RegionCst) (more : Notes)
    → listed (joined (region_notes r) more) ≡ listed more
listed-region r more = ap (λ (ns : Notes). listed (joined ns more)) (region-opens r)

pub listed-regions : (rs : List RegionCst) → listed (noted region_notes rs) ≡ []
listed-regions [] = refl
listed-regions (r ∷ rs) = listed-region r (noted region_notes rs) ∙ listed-regions rs

-- the names of the generic form are none of its operation's
pub listed-generic : (g : GenericCst) → listed (generic_notes g) ≡ []
listed-generic g =
    let rest = joined (form_mentions g) (noted region_notes (out-GenericCst g).regions) in
    ap listed (generic-opened g)
    ∙ (listed-joined (noted use_noted (out-GenericCst g).operands) _
    ∙ (ap (λ w. w ++ listed (joined (noted successor_noted (out-GenericCst g).successors) rest))
    (listed-uses (out-GenericCst g).operands)
    ∙ (listed-joined (noted successor_noted (out-GenericCst g).successors) rest
    ∙ (ap (λ w. w ++ listed rest) (listed-successors (out-GenericCst g).successors)
    ∙ (listed-silent (form_mentions g) (noted region_notes (out-GenericCst g).regions)
    (form-silent g)
    ∙ listed-regions (out-GenericCst g).regions)))))

-- two scopes together
pub listed_in-append : (s t : RegionScope) → listed_in (s ++ t) ≡ listed_in s ++ listed_in t
listed_in-append [] t = refl
listed_in-append (x ∷ s) t = ap (λ w. (x.name, x.number) ∷ w) (listed_in-append s t)

-- ---- names of before

-- names that are new among more are new among fewer
pub all-new : (all before : List Text) → Within before all → (names : List Text)
    → AllByRecursion (λ name. is_among all name ≡ false) names
    → AllByRecursion (λ name. is_among before name ≡ false) names
all-new all before in_it [] h = tt
all-new all before in_it (x ∷ names) (p, h) =
    (go (is_among before x) refl, all-new all before in_it names h)
  where
    go : (b : Bool) → is_among before x ≡ b → is_among before x ≡ false
    go true e = let there : is_among all x ≡ true = in_it x e in absurd (cc)
    go false e = e

-- a name of two lists together is one of either
pub among-either : (xs ys : List Text) (w : Text) → is_among (xs ++ ys) w ≡ true
    → (is_among xs w ≡ true) ⊎ (is_among ys w ≡ true)
among-either [] ys w e = inr e
among-either (x ∷ xs) ys w e = go (bytes_eq w x) e (among-either xs ys w)
  where
    go : (b : Bool) → (b || is_among (xs ++ ys) w) ≡ true
        → (is_among (xs ++ ys) w ≡ true → (is_among xs w ≡ true) ⊎ (is_among ys w ≡ true))
        → ((b || is_among xs w) ≡ true) ⊎ (is_among ys w ≡ true)
    go true e more = inl refl
    go false e more = more e

-- what defines nothing has no name
pub none-among : (ns : Notes) → listed ns ≡ [] → (w : Text) → is_among (names_of ns) w ≡ true → ⊥
none-among ns e w is =
    let none : is_among [] w ≡ true =
    subst (λ (l : List (Text × ℕ)). is_among (map (λ x. x.0) l) w ≡ true) e is in
    absurd (cc)

-- names of before, behind notes with these names
pub behind-names : (all before own names : List Text) → Within before all
    → ((w : Text) → is_among names w ≡ true
    → (is_among own w ≡ true) ⊎ (is_among before w ≡ true))
    → Within names (own ++ all)
behind-names all before own names in_it h w e = elim (h w e) [
  | inl l ↦ among-left own all w l
  | inr r ↦ among-right own all w (in_it w r)
]

pub behind-none : (all before : List Text) (ns : Notes) → listed ns ≡ [] → Within before all
    → (names : List Text)
    → ((w : Text) → is_among names w ≡ true
    → (is_among (names_of ns) w ≡ true) ⊎ (is_among before w ≡ true))
    → Within names all
behind-none all before ns none in_it names h w e = elim (h w e) [
  | inl l ↦ absurd (none-among ns none w l)
  | inr r ↦ in_it w r
]

pub behind-arguments : (env : Env) (xs : List ArgCst) (before : List Text)
    → Within before env.before
    → (names : List Text)
    → ((w : Text) → is_among names w ≡ true
    → (is_among (names_of (noted argument_noted xs)) w ≡ true) ⊎ (is_among before w ≡ true))
    → Within names (argument_names xs ++ env.before)
behind-arguments env xs before in_it names h =
    let own : names_of (noted argument_noted xs) ≡ argument_names xs =
    ap (λ (l : List (Text × ℕ)). map (λ x. x.0) l) (listed-arguments 0 xs)
    ∙ names-arguments 0 xs in
    behind-names env.before before (argument_names xs) names in_it
    (λ w e. subst (λ (l : List Text). (is_among l w ≡ true) ⊎ (is_among before w ≡ true)) own
    (h w e))

pub behind-block : (env : Env) (c : BlockCst) (k : ℕ)
    → names_of (block_notes c k)
    ≡ argument_names (out-BlockCst c).args ++ op_names (out-BlockCst c).ops
    → (before : List Text) → Within before env.before → (names : List Text)
    → ((w : Text) → is_among names w ≡ true
    → (is_among (names_of (block_notes c k)) w ≡ true) ⊎ (is_among before w ≡ true))
    → Within names (op_names (out-BlockCst c).ops
    ++ (argument_names (out-BlockCst c).args ++ env.before))
behind-block env c k own before in_it names h w e =
    let args = argument_names (out-BlockCst c).args in
    let ops = op_names (out-BlockCst c).ops in
    elim (h w e) [
      | inl l ↦ elim (among-either args ops w
          (subst (λ (x : List Text). is_among x w ≡ true) own l)) [
            | inl a ↦ among-right ops (args ++ env.before) w (among-left args env.before w a)
            | inr o ↦ among-left ops (args ++ env.before) w o
          ]
      | inr r ↦ among-right ops (args ++ env.before) w (among-right args env.before w (in_it w r))
    ]

-- regions of one operation, each of which is right
pub regions-right : (ss : List RegionScope) (all : List Text) (trees : List RegionCst)
    → ((i : ℕ) (r : RegionCst) → slice_get trees i ≡ Some r → (j : ℕ) (names : List Text)
    → Within names all → AreRight j ss names (region_notes r))
    → (j : ℕ) (names : List Text) → Within names all
    → AreRight j ss names (noted region_notes trees)
regions-right ss all [] each j names in_it = tt
regions-right ss all (r ∷ trees) each j names in_it =
    right-joined j (j + count Values (region_notes r)) ss names (region_notes r)
    (noted region_notes trees) (each 0 r refl j names in_it) refl
    (λ more h. regions-right ss all trees (λ i x is. each (suc i) x is) _ more
    (behind-none all names (region_notes r) (ap listed (region-opens r)) in_it more h))
