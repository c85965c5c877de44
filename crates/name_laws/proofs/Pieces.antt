-- What notes mean, and that nothing is wrong with them, cut where they are put together.
--
--   Piece .. ns xs ys    the uses of the notes mean the values xs, and their successors the blocks
--                        ys; nothing is wrong with them, and no name has another before it that
--                        stands behind
--   State .. env ..      names mean in these scopes what env says
use Rattle.std.proofs.Common.{◌≡◌, ℕ, ◌+◌, List, [], ◌∷◌, ◌++◌, length, map}
use Rattle.std.proofs.Common.{refl, sym, ◌∙◌, subst, Some, option_map}
use Rattle.std.proofs.lemmas.List.{map-append, append-nil, length-map}
use Rattle.std.specs.List.{AllByRecursion}
use Rattle.module_builder.specs.Built.{value_number}
use Rattle.module_meaning.proofs.GenericFacts.{all-apart}
use Rattle.module_meaning.proofs.NotesJoined.{listed_in}
use Rattle.module_meaning.specs.Names.{Env}
use Rattle.module_names.proofs.Cut.{same-parts, left-nothing, right-nothing, own-joined}
use Rattle.module_names.proofs.Cut.{told-joined}
use Rattle.module_names.proofs.Cut.{told-length, AllNotes, notes-left, notes-right, said}
use Rattle.module_names.specs.Said.{joined}
use Rattle.name_laws.proofs.Counted.{is_use, is_target}
use Rattle.name_laws.proofs.Early.{IsEarly, own-early, Knows}
use Rattle.name_laws.proofs.NewNames.{value_faults, block_faults}
use Rattle.name_laws.proofs.Scoped.{relabelled, HasSize, IsNoBadPack, numbered}
use Rattle.symbol_scopes.specs.declared.call.NameKind.TheVariants.{Values, Labels}
use Rattle.symbol_scopes.specs.Regions.{Note, Notes, no_notes, in_region, defines, uses}
use Rattle.symbol_scopes.specs.Regions.{labels, leads_to, bad_pack, defines_alias, mentions_alias}
use Rattle.symbol_scopes.specs.Regions.{RegionScope, own, count, told, block_meant, innermost}
use Rattle.symbol_scopes.specs.Regions.{value_meant}

pub record Piece (firsts : List ℕ) (ss ls : List RegionScope) (n l : ℕ) (ns : Notes)
    (operands successors : List ℕ) : Type 0 where
  pub values : told Values (numbered firsts) ss n ns ≡ map Some operands
  pub blocks : told Labels block_meant ls l ns ≡ map Some successors
  pub value_right : told Values value_faults ss n ns ≡ []
  pub block_right : told Labels block_faults ls l ns ≡ []
  pub free : AllNotes IsNoBadPack ns
  pub early : AllByRecursion (IsEarly ss) (own Values n ns)

pub record State (firsts : List ℕ) (env : Env) (ss ls : List RegionScope) (n : ℕ) : Type 0 where
  pub scopes : map (map (relabelled firsts)) ss ≡ env.scopes
  pub sizes : AllByRecursion (AllByRecursion HasSize) ss
  pub labels : listed_in (innermost ls) ≡ listed_in env.labels
  pub knows : Knows ss n env.before

-- ---- cut

pub meant-length : (ss : List RegionScope) (n : ℕ) (x : Note)
    → length (value_meant ss n x) ≡ is_use x
meant-length ss n (uses u) = refl
meant-length ss n (defines u) = refl
meant-length ss n (labels u) = refl
meant-length ss n (leads_to u) = refl
meant-length ss n (bad_pack u) = refl
meant-length ss n (defines_alias u) = refl
meant-length ss n (mentions_alias u) = refl

numbered-length : (firsts : List ℕ) (ss : List RegionScope) (n : ℕ) (x : Note)
    → length (numbered firsts ss n x) ≡ is_use x
numbered-length firsts ss n x =
    length-map (value_meant ss n x) (option_map (value_number firsts)) ∙ meant-length ss n x

pub blocks-length : (ss : List RegionScope) (n : ℕ) (x : Note)
    → length (block_meant ss n x) ≡ is_target x
blocks-length ss n (leads_to u) = refl
blocks-length ss n (uses u) = refl
blocks-length ss n (defines u) = refl
blocks-length ss n (labels u) = refl
blocks-length ss n (bad_pack u) = refl
blocks-length ss n (defines_alias u) = refl
blocks-length ss n (mentions_alias u) = refl

module _ (firsts : List ℕ) (ss ls : List RegionScope) (n m l i : ℕ) (a b : Notes)
    (xs ys us vs : List ℕ) (next : m ≡ n + count Values a) (label : i ≡ l + count Labels a)
    (many : said is_use a ≡ length xs) (targets : said is_target a ≡ length us)
    (p : Piece firsts ss ls n l (joined a b) (xs ++ ys) (us ++ vs)) where
  values-cut : (told Values (numbered firsts) ss n a ≡ map Some xs)
      × (told Values (numbered firsts) ss m b ≡ map Some ys)
  values-cut = same-parts (told Values (numbered firsts) ss n a)
      (told Values (numbered firsts) ss m b) (map Some xs) (map Some ys)
      (told-length Values (numbered firsts) is_use (numbered-length firsts) ss n a
      ∙ (many ∙ sym (length-map xs Some)))
      (sym (told-joined Values (numbered firsts) ss n m a b next)
      ∙ (p.values ∙ map-append Some xs ys))

  blocks-cut : (told Labels block_meant ls l a ≡ map Some us)
      × (told Labels block_meant ls i b ≡ map Some vs)
  blocks-cut = same-parts (told Labels block_meant ls l a) (told Labels block_meant ls i b)
      (map Some us) (map Some vs)
      (told-length Labels block_meant is_target blocks-length ls l a
      ∙ (targets ∙ sym (length-map us Some)))
      (sym (told-joined Labels block_meant ls l i a b label)
      ∙ (p.blocks ∙ map-append Some us vs))

  abbrev values_two : told Values value_faults ss n a ++ told Values value_faults ss m b ≡ []
  values_two = sym (told-joined Values value_faults ss n m a b next) ∙ p.value_right

  abbrev blocks_two : told Labels block_faults ls l a ++ told Labels block_faults ls i b ≡ []
  blocks_two = sym (told-joined Labels block_faults ls l i a b label) ∙ p.block_right

  abbrev early_two : AllByRecursion (IsEarly ss) (own Values n a ++ own Values m b)
  early_two = subst (AllByRecursion (IsEarly ss)) (own-joined Values n m a b next) p.early

  pub piece-left : Piece firsts ss ls n l a xs us
  piece-left = record {
    values = values-cut.0;
    blocks = blocks-cut.0;
    value_right = left-nothing _ _ values_two;
    block_right = left-nothing _ _ blocks_two;
    free = notes-left IsNoBadPack a b p.free;
    early = (all-apart (IsEarly ss) (own Values n a) (own Values m b) early_two).0;
  }

  pub piece-right : Piece firsts ss ls m i b ys vs
  piece-right = record {
    values = values-cut.1;
    blocks = blocks-cut.1;
    value_right = right-nothing _ _ values_two;
    block_right = right-nothing _ _ blocks_two;
    free = notes-right IsNoBadPack a b p.free;
    early = (all-apart (IsEarly ss) (own Values n a) (own Values m b) early_two).1;
  }

-- into a region
pub piece-inside : (firsts : List ℕ) (ss ls : List RegionScope) (n l : ℕ) (inner : Notes)
    (xs us : List ℕ) → Piece firsts ss ls n l (in_region inner no_notes) xs us
    → Piece firsts (own Values n inner ∷ ss) (own Labels l inner ∷ ls) n l inner xs us
piece-inside firsts ss ls n l inner xs us p = record {
  values = sym (append-nil (told Values (numbered firsts) (own Values n inner ∷ ss) n inner))
      ∙ p.values;
  blocks = sym (append-nil (told Labels block_meant (own Labels l inner ∷ ls) l inner))
      ∙ p.blocks;
  value_right = left-nothing _ _ p.value_right;
  block_right = left-nothing _ _ p.block_right;
  free = p.free.0;
  early = own-early Values n inner;
}
