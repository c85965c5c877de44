-- Notes that are put together, and what is said of them: it is cut where they are.
--
--   said f ns       the sum of what f counts of each note, regions included
--   AllNotes P ns   each note is so, in regions too
--   IsSilent ns     all notes are of aliases, and none stands in a region
use Rattle.std.proofs.Common.{◌≡◌, ℕ, ◌+◌, List, [], ◌∷◌, ◌++◌, length, map}
use Rattle.std.proofs.Common.{refl, sym, ◌∙◌, ap, arith, append_assoc}
use Rattle.std.proofs.lemmas.List.{length-append, map-append}
use Rattle.module_names.specs.Said.{joined}
use Rattle.symbol_scopes.specs.declared.call.NameKind.{NameKind}
use Rattle.symbol_scopes.specs.declared.call.NameKind.TheVariants.{Values, Labels}
use Rattle.symbol_scopes.specs.Regions.{Note, Notes, no_notes, note, in_region, defines, uses}
use Rattle.symbol_scopes.specs.Regions.{labels, leads_to, bad_pack, defines_alias, mentions_alias}
use Rattle.symbol_scopes.specs.Regions.{RegionScope, own, count, count_of, known_of, told}

-- ---- lists

-- two lists that are put together, cut at the same place
pub same-parts : {A : Type 0} (a b c d : List A) → length a ≡ length c → a ++ b ≡ c ++ d
    → (a ≡ c) × (b ≡ d)
same-parts [] b [] d long e = (refl, e)
same-parts [] b (x ∷ c) d long e = absurd (omega (arith, long))
same-parts (x ∷ a) b [] d long e = absurd (omega (arith, long))
same-parts (x ∷ a) b (y ∷ c) d long e =
    let first : x ≡ y = cc in
    let rest : a ++ b ≡ c ++ d = cc in
    let shorter : length a ≡ length c = omega (arith, long) in
    let both = same-parts a b c d shorter rest in
    (ap (λ z. z ∷ a) first ∙ ap (λ w. y ∷ w) both.0, both.1)

-- two lists that are nothing together
pub left-nothing : {A : Type 0} (a b : List A) → a ++ b ≡ [] → a ≡ []
left-nothing [] b e = refl
left-nothing (x ∷ a) b e = absurd (cc)

pub right-nothing : {A : Type 0} (a b : List A) → a ++ b ≡ [] → b ≡ []
right-nothing [] b e = e
right-nothing (x ∷ a) b e = absurd (cc)

-- ---- notes put together

pub joined-none : (a : Notes) → joined a no_notes ≡ a
joined-none no_notes = refl
joined-none (note x a) = ap (note x) (joined-none a)
joined-none (in_region inner a) = ap (in_region inner) (joined-none a)

pub joined-assoc : (a b c : Notes) → joined (joined a b) c ≡ joined a (joined b c)
joined-assoc no_notes b c = refl
joined-assoc (note x a) b c = ap (note x) (joined-assoc a b c)
joined-assoc (in_region inner a) b c = ap (in_region inner) (joined-assoc a b c)

pub count-joined : (k : NameKind) (a b : Notes) → count k (joined a b) ≡ count k a + count k b
count-joined k no_notes b = omega arith
count-joined k (note x a) b = let more = count-joined k a b in omega (arith, more)
count-joined k (in_region inner a) b = let more = count-joined k a b in omega (arith, more)

pub own-joined : (k : NameKind) (n m : ℕ) (a b : Notes) → m ≡ n + count k a
    → own k n (joined a b) ≡ own k n a ++ own k m b
own-joined k n m no_notes b e =
    let same : n ≡ m = omega arith in ap (λ i. own k i b) same
own-joined k n m (note x a) b e =
    ap (λ (w : RegionScope). known_of k n x ++ w)
    (own-joined k (n + count_of k x) m a b (omega (arith, e)))
    ∙ sym (append_assoc (known_of k n x) (own k (n + count_of k x) a) (own k m b))
own-joined k n m (in_region inner a) b e = own-joined k (n + count k inner) m a b (omega (arith, e))

pub told-joined : {A : Type 0} (k : NameKind) (g : List RegionScope → ℕ → Note → List A)
    (ss : List RegionScope) (n m : ℕ) (a b : Notes) → m ≡ n + count k a
    → told k g ss n (joined a b) ≡ told k g ss n a ++ told k g ss m b
told-joined k g ss n m no_notes b e =
    let same : n ≡ m = omega arith in ap (λ i. told k g ss i b) same
told-joined {A} k g ss n m (note x a) b e =
    ap (λ (w : List A). g ss n x ++ w)
    (told-joined k g ss (n + count_of k x) m a b (omega (arith, e)))
    ∙ sym (append_assoc (g ss n x) (told k g ss (n + count_of k x) a) (told k g ss m b))
told-joined {A} k g ss n m (in_region inner a) b e =
    ap (λ (w : List A). told k g (own k n inner ∷ ss) n inner ++ w)
    (told-joined k g ss (n + count k inner) m a b (omega (arith, e)))
    ∙ sym (append_assoc (told k g (own k n inner ∷ ss) n inner)
    (told k g ss (n + count k inner) a) (told k g ss m b))

-- what is made of each thing that is told
pub told-map : {A B : Type 0} (k : NameKind) (g : List RegionScope → ℕ → Note → List A) (f : A → B)
    (ss : List RegionScope) (n : ℕ) (ns : Notes)
    → told k (λ ts i x. map f (g ts i x)) ss n ns ≡ map f (told k g ss n ns)
told-map k g f ss n no_notes = refl
told-map {A} {B} k g f ss n (note x ns) =
    ap (λ (w : List B). map f (g ss n x) ++ w) (told-map k g f ss (n + count_of k x) ns)
    ∙ sym (map-append f (g ss n x) (told k g ss (n + count_of k x) ns))
told-map {A} {B} k g f ss n (in_region inner ns) =
    ap (λ (w : List B). w ++ told k (λ ts i x. map f (g ts i x)) ss (n + count k inner) ns)
    (told-map k g f (own k n inner ∷ ss) n inner)
    ∙ (ap (λ (w : List B). map f (told k g (own k n inner ∷ ss) n inner) ++ w)
    (told-map k g f ss (n + count k inner) ns)
    ∙ sym (map-append f (told k g (own k n inner ∷ ss) n inner)
    (told k g ss (n + count k inner) ns)))

-- ---- how much is said

abbrev pub said : (Note → ℕ) → Notes → ℕ
said f no_notes = 0
said f (note x ns) = f x + said f ns
said f (in_region inner ns) = said f inner + said f ns

pub said-joined : (f : Note → ℕ) (a b : Notes) → said f (joined a b) ≡ said f a + said f b
said-joined f no_notes b = omega arith
said-joined f (note x a) b = let more = said-joined f a b in omega (arith, more)
said-joined f (in_region inner a) b = let more = said-joined f a b in omega (arith, more)

pub told-length : {A : Type 0} (k : NameKind) (g : List RegionScope → ℕ → Note → List A)
    (f : Note → ℕ) → ((ss : List RegionScope) (n : ℕ) (x : Note) → length (g ss n x) ≡ f x)
    → (ss : List RegionScope) (n : ℕ) (ns : Notes) → length (told k g ss n ns) ≡ said f ns
told-length k g f each ss n no_notes = refl
told-length k g f each ss n (note x ns) =
    let here = each ss n x in
    let more = told-length k g f each ss (n + count_of k x) ns in
    length-append (g ss n x) (told k g ss (n + count_of k x) ns) ∙ omega (arith, here, more)
told-length k g f each ss n (in_region inner ns) =
    let here = told-length k g f each (own k n inner ∷ ss) n inner in
    let more = told-length k g f each ss (n + count k inner) ns in
    length-append (told k g (own k n inner ∷ ss) n inner) (told k g ss (n + count k inner) ns)
    ∙ omega (arith, here, more)

-- ---- each note

abbrev pub AllNotes : (Note → Type 0) → Notes → Type 0
AllNotes P no_notes = Unit {0}
AllNotes P (note x ns) = P x × AllNotes P ns
AllNotes P (in_region inner ns) = AllNotes P inner × AllNotes P ns

pub notes-left : (P : Note → Type 0) (a b : Notes) → AllNotes P (joined a b) → AllNotes P a
notes-left P no_notes b h = tt
notes-left P (note x a) b (p, h) = (p, notes-left P a b h)
notes-left P (in_region inner a) b (p, h) = (p, notes-left P a b h)

pub notes-right : (P : Note → Type 0) (a b : Notes) → AllNotes P (joined a b) → AllNotes P b
notes-right P no_notes b h = h
notes-right P (note x a) b (p, h) = notes-right P a b h
notes-right P (in_region inner a) b (p, h) = notes-right P a b h

pub notes-joined : (P : Note → Type 0) (a b : Notes) → AllNotes P a → AllNotes P b
    → AllNotes P (joined a b)
notes-joined P no_notes b h k = k
notes-joined P (note x a) b (p, h) k = (p, notes-joined P a b h k)
notes-joined P (in_region inner a) b (p, h) k = (p, notes-joined P a b h k)

-- ---- notes of aliases

abbrev pub IsSilent : Notes → Type 0
IsSilent no_notes = Unit {0}
IsSilent (note (defines_alias a) ns) = IsSilent ns
IsSilent (note (mentions_alias a) ns) = IsSilent ns
IsSilent (note _ ns) = ⊥
IsSilent (in_region inner ns) = ⊥

pub silent-joined : (a b : Notes) → IsSilent a → IsSilent b → IsSilent (joined a b)
silent-joined no_notes b h k = k
silent-joined (note (defines_alias x) a) b h k = silent-joined a b h k
silent-joined (note (mentions_alias x) a) b h k = silent-joined a b h k
silent-joined (note (defines d) a) b h k = absurd h
silent-joined (note (uses u) a) b h k = absurd h
silent-joined (note (labels l) a) b h k = absurd h
silent-joined (note (leads_to t) a) b h k = absurd h
silent-joined (note (bad_pack p) a) b h k = absurd h
silent-joined (in_region inner a) b h k = absurd h

-- what says nothing of aliases says nothing of such notes
module _ {A : Type 0} (k : NameKind) (g : List RegionScope → ℕ → Note → List A)
    (none : (ss : List RegionScope) (n : ℕ) (x : Note) → IsSilent (note x no_notes)
    → g ss n x ≡ []) where
  pub told-silent : (ss : List RegionScope) (n : ℕ) (ns : Notes) → IsSilent ns
      → told k g ss n ns ≡ []
  told-silent ss n no_notes h = refl
  told-silent ss n (note (defines_alias x) ns) h =
      ap (λ (w : List A). w ++ told k g ss (n + count_of k (defines_alias x)) ns)
      (none ss n (defines_alias x) tt)
      ∙ told-silent ss (n + count_of k (defines_alias x)) ns h
  told-silent ss n (note (mentions_alias x) ns) h =
      ap (λ (w : List A). w ++ told k g ss (n + count_of k (mentions_alias x)) ns)
      (none ss n (mentions_alias x) tt)
      ∙ told-silent ss (n + count_of k (mentions_alias x)) ns h
  told-silent ss n (note (defines d) ns) h = absurd h
  told-silent ss n (note (uses u) ns) h = absurd h
  told-silent ss n (note (labels l) ns) h = absurd h
  told-silent ss n (note (leads_to t) ns) h = absurd h
  told-silent ss n (note (bad_pack p) ns) h = absurd h
  told-silent ss n (in_region inner ns) h = absurd h

pub own-silent : (k : NameKind) (n : ℕ) (ns : Notes) → IsSilent ns → own k n ns ≡ []
own-silent k n no_notes h = refl
own-silent Values n (note (defines_alias x) ns) h = own-silent Values (n + 0) ns h
own-silent Labels n (note (defines_alias x) ns) h = own-silent Labels (n + 0) ns h
own-silent Values n (note (mentions_alias x) ns) h = own-silent Values (n + 0) ns h
own-silent Labels n (note (mentions_alias x) ns) h = own-silent Labels (n + 0) ns h
own-silent k n (note (defines d) ns) h = absurd h
own-silent k n (note (uses u) ns) h = absurd h
own-silent k n (note (labels l) ns) h = absurd h
own-silent k n (note (leads_to t) ns) h = absurd h
own-silent k n (note (bad_pack p) ns) h = absurd h
own-silent k n (in_region inner ns) h = absurd h

-- what counts no alias counts none of them
pub said-silent : (f : Note → ℕ) → ((x : Note) → IsSilent (note x no_notes) → f x ≡ 0)
    → (ns : Notes) → IsSilent ns → said f ns ≡ 0
said-silent f none no_notes h = refl
said-silent f none (note (defines_alias x) ns) h =
    let here = none (defines_alias x) tt in
    let more = said-silent f none ns h in omega (arith, here, more)
said-silent f none (note (mentions_alias x) ns) h =
    let here = none (mentions_alias x) tt in
    let more = said-silent f none ns h in omega (arith, here, more)
said-silent f none (note (defines d) ns) h = absurd h
said-silent f none (note (uses u) ns) h = absurd h
said-silent f none (note (labels l) ns) h = absurd h
said-silent f none (note (leads_to t) ns) h = absurd h
said-silent f none (note (bad_pack p) ns) h = absurd h
said-silent f none (in_region inner ns) h = absurd h

-- definitions are counted so
pub count-said : (k : NameKind) (ns : Notes) → count k ns ≡ said (count_of k) ns
count-said k no_notes = refl
count-said k (note x ns) = let more = count-said k ns in omega (arith, more)
count-said k (in_region inner ns) =
    let here = count-said k inner in
    let more = count-said k ns in omega (arith, here, more)

none-counted : (k : NameKind) (x : Note) → IsSilent (note x no_notes) → count_of k x ≡ 0
none-counted Values (defines_alias x) h = refl
none-counted Labels (defines_alias x) h = refl
none-counted Values (mentions_alias x) h = refl
none-counted Labels (mentions_alias x) h = refl
none-counted k (defines d) h = absurd h
none-counted k (uses u) h = absurd h
none-counted k (labels l) h = absurd h
none-counted k (leads_to t) h = absurd h
none-counted k (bad_pack p) h = absurd h

pub count-silent : (k : NameKind) (ns : Notes) → IsSilent ns → count k ns ≡ 0
count-silent k ns h = count-said k ns ∙ said-silent (count_of k) (none-counted k) ns h

-- behind such notes
pub own-behind : (k : NameKind) (n : ℕ) (a b : Notes) → IsSilent a
    → own k n (joined a b) ≡ own k n b
own-behind k n a b h =
    let none = count-silent k a h in
    own-joined k n n a b (omega (arith, none))
    ∙ ap (λ (w : RegionScope). w ++ own k n b) (own-silent k n a h)
