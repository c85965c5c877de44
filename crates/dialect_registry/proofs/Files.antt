-- The first fault of files, file by file.
use Rattle.std.proofs.Common.{refl, ◌≡◌, ℕ, ◌+◌, ◌<◌, ◌≤◌, ◌⊎◌, inl, inr, zero, suc, List, [], ◌∷◌, length, take, slice_get, sym, ◌∙◌, subst, arith}
use Rattle.std.proofs.lemmas.Bool.{cases_lt}
use Rattle.std.specs.Prelude.{option_map}
use Rattle.std.specs.declared.option.Option.{Option}
use Rattle.std.specs.declared.option.Option.TheVariants.{Some, None}
use Rattle.first_fault.specs.declared.fault.Fault.{Fault}
use Rattle.first_fault.specs.Firsts.{IsFirst}
use Rattle.first_fault.proofs.Firsts.{first-same}
use Rattle.irdl_ops.specs.declared.raw.RawDefs.{RawDefs}
use Rattle.ir_lexer.specs.Spelling.{Text}
use Rattle.dialect_registry.specs.declared.refusal.FileFault.{FileFault}
use Rattle.dialect_registry.specs.DefFaults.{fault_in, IsFirstIn, IsFault, IsFileFault, world_of, dialects_of}
use Rattle.dialect_registry.specs.Scopes.{or_in_file}

-- the faults of the first files
abbrev pub FaultBelow : (ℕ → Fault → Type 0) → ℕ → ℕ → Fault → Type 0
FaultBelow P count n f = (n < count) × P n f

-- the same faults of each file have the same first one
pub first-in-same : (P Q : ℕ → Fault → Type 0) (first : Option FileFault)
    → ((n : ℕ) (f : Fault) → P n f → Q n f) → ((n : ℕ) (f : Fault) → Q n f → P n f)
    → IsFirstIn P first → IsFirstIn Q first
first-in-same P Q None to back x = λ n f q. x n f (back n f q)
first-in-same P Q (Some r) to back x = (
  first-same (P r.file) (Q r.file) (Some (fault_in r))
      (to r.file) (back r.file) x.0,
  λ n below f q. x.1 n below f (back n f q),
)

module _ (P : ℕ → Fault → Type 0) (i : ℕ) where
  split : (n : ℕ) → n < i + 1 → (n < i) ⊎ (n ≡ i)
  split n below = elim (cases_lt n i) [ inl h ↦ inl h | inr le ↦ inr (omega arith) ]

  -- a fault that was found stays the first
  stays : (r : FileFault) → IsFirstIn (FaultBelow P i) (Some r)
      → IsFirstIn (FaultBelow P (i + 1)) (Some r)
  stays r found =
      let below : r.file < i = found.0.0.0 in (
        first-same (FaultBelow P i r.file) (FaultBelow P (i + 1) r.file)
            (Some (fault_in r))
            (λ f q. (omega arith, q.1)) (λ f q. (below, q.1)) found.0,
        λ n less f q. found.1 n less f (omega arith, q.1),
      )

  -- with one file more, the fault that was found stays, or that of the file comes
  pub files-more : (first : Option FileFault) (fault : Option Fault)
      → IsFirstIn (FaultBelow P i) first → IsFirst (P i) fault
      → IsFirstIn (FaultBelow P (i + 1)) (or_in_file first i fault)
  files-more None None none here = λ n f (below, p). elim (split n below) [
    | inl h ↦ none n f (h, p)
    | inr e ↦ here f (subst (λ m. P m f) e p)
  ]
  files-more None (Some x) none here = (
    first-same (P i) (FaultBelow P (i + 1) i) (Some x)
        (λ f p. (omega arith, p)) (λ f q. q.1) here,
    λ n below f q. none n f (below, q.1),
  )
  files-more (Some r) None found here = stays r found
  files-more (Some r) (Some x) found here = stays r found

-- of no files there is no fault
pub files-none : (P : ℕ → Fault → Type 0) → IsFirstIn (FaultBelow P 0) None
files-none P = λ n f (below, p). absurd (omega arith)

-- a fault of a file is one of the file with its number
pub file-first : (files : List RawDefs) (natives : List Text) (i : ℕ) (defs : RawDefs)
    (fault : Option Fault) → slice_get files i ≡ Some defs
    → IsFirst (IsFileFault (world_of files natives) (dialects_of (take i files)) defs) fault
    → IsFirst (IsFault files natives i) fault
file-first files natives i defs fault at first =
    first-same (IsFileFault (world_of files natives) (dialects_of (take i files)) defs)
    (IsFault files natives i) fault (λ f p. (defs, at, p)) back first
  where
    back : (f : Fault) → IsFault files natives i f
        → IsFileFault (world_of files natives) (dialects_of (take i files)) defs f
    back f (other, there, p) =
        let both : Some other ≡ Some defs = sym there ∙ at in
        let same : other ≡ defs = cc in
        subst (λ d. IsFileFault (world_of files natives) (dialects_of (take i files)) d f) same p

pub slice_get-below : {A : Type 0} (xs : List A) (n : ℕ) (x : A) → slice_get xs n ≡ Some x
    → n < length xs
slice_get-below [] n x e = absurd (cc)
slice_get-below (y ∷ xs) zero x e = omega arith
slice_get-below (y ∷ xs) (suc n) x e =
    let less : n < length xs = slice_get-below xs n x e in omega arith

-- all files have been judged
pub files-all : (files : List RawDefs) (natives : List Text) (i : ℕ) (first : Option FileFault)
    → length files ≤ i → IsFirstIn (FaultBelow (IsFault files natives) i) first
    → IsFirstIn (IsFault files natives) first
files-all files natives i first whole found =
    first-in-same (FaultBelow (IsFault files natives) i) (IsFault files natives) first
    (λ n f q. q.1)
    (λ n f p. let less : n < length files = slice_get-below files n p.0 p.1 in (omega arith, p))
    found

-- the first fault of one file alone is its own
pub one-file-first : (defs : RawDefs) (natives : List Text) (first : Option FileFault)
    → IsFirstIn (IsFault (defs ∷ []) natives) first
    → IsFirst (IsFault (defs ∷ []) natives 0) (option_map fault_in first)
one-file-first defs natives None found = found 0
one-file-first defs natives (Some r) found =
    let e : r.file ≡ 0 = only r.file found.0.0.0 found.0.0.1 in
    subst (λ n. IsFirst (IsFault (defs ∷ []) natives n) (Some (fault_in r))) e found.0
  where
    only : (n : ℕ) (other : RawDefs) → slice_get (defs ∷ []) n ≡ Some other → n ≡ 0
    only zero other at = refl
    only (suc n) other at = absurd (cc)
