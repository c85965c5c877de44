-- What was read of files, one after another.
use denote.Ref.{Bor}
use Rattle.std.proofs.Common.{◌≡◌, ◌<◌, ◌≤◌, ◌+◌, inl, inr, List, [], ◌∷◌, ◌++◌, ℕ, Bool, true, false, length, take, get_or, length-append, refl, sym, ◌∙◌, ap, subst, arith}
use Rattle.std.specs.Prelude.{IfSome, IsTrue, option_map}
use Rattle.std.specs.List.{slice_get, Contains}
use Rattle.std.specs.declared.alloc.Global.{Global}
use Rattle.std.specs.declared.option.Option.{Option}
use Rattle.std.specs.declared.option.Option.TheVariants.{Some, None}
use Rattle.std.specs.declared.result.Result.TheVariants.{Ok, Err}
use Rattle.std.specs.declared.vec.Vec.{Vec}
use Rattle.std.proofs.lemmas.Option.{slice_get-map, slice_get-get_or, slice_get_within, get_or_from_slice_get}
use Rattle.std.proofs.lemmas.List.{map-append, take_all, length-take-le}
use Rattle.irdl_bytes.specs.Outside.{FileMap, FaultsByItself, Rose}
use Rattle.irdl_bytes.specs.declared.whole.TheConstants.{FILE_LIMIT}
use Rattle.ir_lexer.specs.Spelling.{Text}
use Rattle.text_layout.proofs.Flows.{rose-later}
use Rattle.irdl_engine.specs.declared.stop.Stop.{Stop}
use Rattle.irdl_engine.specs.declared.stop.Stop.TheVariants.{Unreadable, TooLong, Refused, OutOfMemory}
use Rattle.irdl_engine.specs.Answer.{Answer, TellsUnread, read_fault, input_limit}
use Rattle.irdl_engine.specs.InOrder.{IsReached, text_at}
use Rattle.irdl_engine.specs.Obeyed.{FilesSeen}
use Rattle.irdl_engine.specs.Reading.{IsTextOf, AreTextsOf, IsRead}
use Rattle.irdl_engine.specs.Said.{bytes_of, said, AreWhole, ReadsText, MayStop, IsReadingStop, IsWithin, IsUnreadable}
use Rattle.irdl_engine.specs.Words as words
use Rattle.irdl_engine.proofs.Items.{none-there, push-there, reaches, zip-more}

-- ---- texts that were read

-- of no names there are no texts
pub whole-none : (told : Option FileMap) (texts : List (Vec ℕ Global)) → texts ≡ []
    → AreWhole told [] (bytes_of texts)
whole-none told texts none = subst (λ l. AreWhole told [] (bytes_of l)) (sym none) (record {
  count = refl;
  short = λ n text e. absurd (none-there n text e);
  right = all told;
})
  where
    all : (told : Option FileMap) → IfSome told (λ m. AreTextsOf m [] [])
    all None = tt
    all (Some m) = tt

-- with one file more, whose text was read, the texts are read of one name more
right-more : (told : Option FileMap) (names texts : List Text) (i : ℕ) (name text : Text)
    → slice_get names i ≡ Some name → length text ≤ FILE_LIMIT
    → IfSome told (λ m. AreTextsOf m (take i names) texts)
    → IfSome told (λ m. m name ≡ Some text)
    → IfSome told (λ m. AreTextsOf m (take (i + 1) names) (texts ++ text ∷ []))
right-more None names texts i name text at short h e = tt
right-more (Some m) names texts i name text at short h e =
    zip-more (IsTextOf m) names texts i name text at h (record { has = e; within = short })

-- the same of all that is known of such texts
pub whole-more : (told : Option FileMap) (names : List Text) (texts new : List (Vec ℕ Global))
    (i : ℕ) (name : Text) (text : Vec ℕ Global)
    → slice_get names i ≡ Some name → new ≡ texts ++ text ∷ []
    → length text.items ≤ FILE_LIMIT → IfSome told (λ m. m name ≡ Some text.items)
    → AreWhole told (take i names) (bytes_of texts)
    → AreWhole told (take (i + 1) names) (bytes_of new)
whole-more told names texts new i name text at more short e h =
    let less : i < length names = slice_get_within names i name at in
    let longer : bytes_of new ≡ bytes_of texts ++ text.items ∷ [] =
    ap bytes_of more ∙ map-append (λ (v : Vec ℕ Global). v.items) texts (text ∷ []) in
    subst (AreWhole told (take (i + 1) names)) (sym longer) (record {
      count = omega (
        arith,
        h.count,
        length-append (bytes_of texts) (text.items ∷ []),
        length-take-le i names (omega arith),
        length-take-le (i + 1) names (omega arith),
      );
      short = λ n t there. elim (push-there (bytes_of texts) text.items n t there) [
        | inl before ↦ h.short n t before
        | inr same ↦ subst (λ (x : Text). length x ≤ FILE_LIMIT) same short
      ];
      right = right-more told names (bytes_of texts) i name text.items at short h.right e;
    })

-- where all names were gone over, all files were read
pub whole-all : (told : Option FileMap) (names texts : List Text) (i : ℕ) → length names ≤ i
    → AreWhole told (take i names) texts → AreWhole told names texts
whole-all told names texts i least h =
    subst (λ l. AreWhole told l texts) (take_all i names least) h

-- ---- files that weren't read

-- the next name is reached where the files before it were read
read-before : (m : FileMap) (names texts : List Text) (file : ℕ) (name : Text)
    → AreTextsOf m (take file names) texts → slice_get names file ≡ Some name
    → IsReached (IsRead m) names file name
read-before m names texts file name h at =
    reaches (IsTextOf m) (IsRead m) (λ x y is. (y, is)) names texts file name h at

-- a named file
named-there : (names : List Text) (file : ℕ) (name : Text) → slice_get names file ≡ Some name
    → Contains names name
named-there names file name at =
    (file, slice_get_within names file name at, get_or_from_slice_get names file name name at)

module _ (m : FileMap) (failed : Type 0) (names texts : List Text) (file : ℕ) (name : Text)
    (before : AreTextsOf m (take file names) texts) (at : slice_get names file ≡ Some name) where
  -- the name of this number
  told-name : text_at names file ≡ name
  told-name = get_or_from_slice_get names file name [] at

  -- the first file that can't be read is told
  first-unread : (a : Answer) → TellsUnread name (m name) a → MayStop m failed names a
  first-unread a unread = inl (record {
    number = file;
    name = name;
    reached = read-before m names texts file name before at;
    unread = unread;
  })

  -- a read fault, where reading failed by itself
  fault-by-itself : failed → MayStop m failed names (read_fault name)
  fault-by-itself f =
      inr (f, record { name = name; named = named-there names file name at; is = refl })

-- a read fault is what a file gets that the map lacks, and what another may get where reading
-- failed by itself
unreadable : (m : FileMap) (steady : Bool) (before after : ℕ) (names texts : List Text) (file : ℕ)
    (name : Text) (found : Option Text) → m name ≡ found
    → AreTextsOf m (take file names) texts → slice_get names file ≡ Some name
    → Rose before after → (IsTrue steady → m name ≡ None)
    → MayStop m (FaultsByItself steady before after) names (read_fault name)
unreadable m steady before after names texts file name None e read at rose lacks =
    first-unread m _ names texts file name read at (read_fault name) (rw e refl)
unreadable m true before after names texts file name (Some text) e read at rose lacks =
    let none : m name ≡ None = lacks refl in absurd (cc)
unreadable m false before after names texts file name (Some text) e read at rose lacks =
    fault-by-itself m _ names texts file name read at (refl, rose)

-- a stop, where the files before were read
right-stop : (told : Option FileMap) (steady : Bool) (before after : ℕ) (names texts : List Text)
    (file : ℕ) (name : Text) (stop : Stop) → slice_get names file ≡ Some name
    → IfSome told (λ m. AreTextsOf m (take file names) texts)
    → ReadsText (record { told = told; steady = steady; before = before; after = after })
    name file (Err stop)
    → IfSome told (λ m. IfSome (said names stop)
    (MayStop m (FaultsByItself steady before after) names))
right-stop None steady before after names texts file name stop at read h = tt
right-stop (Some m) steady before after names texts file name (Unreadable n) at read h =
    let fault = unreadable m steady before after names texts file name (m name) refl read at h.1
    h.2 in
    let here : text_at names n ≡ name =
    ap (text_at names) h.0 ∙ told-name m (Unit {0}) names texts file name read at in
    subst (λ t. MayStop m (FaultsByItself steady before after) names (read_fault t)) (sym here)
    fault
right-stop (Some m) steady before after names texts file name (TooLong n) at read h =
    let here : text_at names n ≡ name =
    ap (text_at names) h.0 ∙ told-name m (Unit {0}) names texts file name read at in
    subst (λ t. MayStop m (FaultsByItself steady before after) names (input_limit t)) (sym here)
    (first-unread m _ names texts file name read at (input_limit name) h.1)
right-stop (Some m) steady before after names texts file name (Refused r) at read h = absurd h
right-stop (Some m) steady before after names texts file name OutOfMemory at read h = tt

-- a stop tells the file at which it came
stop-within : (files : FilesSeen) (names : List Text) (file : ℕ) (name : Text) (stop : Stop)
    → slice_get names file ≡ Some name → ReadsText files name file (Err stop)
    → IsWithin (length names) stop
stop-within files names file name (Unreadable n) at h =
    subst (λ k. k < length names) (sym h.0) (slice_get_within names file name at)
stop-within files names file name (TooLong n) at h =
    subst (λ k. k < length names) (sym h.0) (slice_get_within names file name at)
stop-within files names file name (Refused r) at h = absurd h
stop-within files names file name OutOfMemory at h = tt

-- a stop for a file that couldn't be read has its cause
stop-cause : (files : FilesSeen) (name : Text) (file : ℕ) (stop : Stop)
    → ReadsText files name file (Err stop) → IsUnreadable stop → Rose files.before files.after
stop-cause files name file (Unreadable n) h u = h.1
stop-cause files name file (TooLong n) h u = absurd u
stop-cause files name file (Refused r) h u = absurd u
stop-cause files name file OutOfMemory h u = absurd u

-- what stopped the reading of one file is what stopped the reading from its start
reads-from : (told : Option FileMap) (steady now_steady : Bool) (before now after : ℕ) (name : Text)
    (file : ℕ) (stop : Stop) → (IsTrue steady → IsTrue now_steady) → before ≤ now
    → ReadsText (record { told = told; steady = now_steady; before = now; after = after })
    name file (Err stop)
    → ReadsText (record { told = told; steady = steady; before = before; after = after })
    name file (Err stop)
reads-from told steady now_steady before now after name file (Unreadable n) stays later h =
    (h.0, rose-later before now after later h.1, λ s. h.2 (stays s))
reads-from told steady now_steady before now after name file (TooLong n) stays later h = h
reads-from told steady now_steady before now after name file (Refused r) stays later h = h
reads-from told steady now_steady before now after name file OutOfMemory stays later h = h

-- a stop while files are read
pub stops-reading : (told now_told : Option FileMap) (steady now_steady : Bool)
    (before now after : ℕ) (names : List Text) (texts : List (Vec ℕ Global)) (file : ℕ)
    (name : Text) (stop : Stop)
    → now_told ≡ told → (IsTrue steady → IsTrue now_steady) → before ≤ now
    → slice_get names file ≡ Some name → AreWhole told (take file names) (bytes_of texts)
    → ReadsText (record { told = now_told; steady = now_steady; before = now; after = after })
    name file (Err stop)
    → IsReadingStop (record { told = told; steady = steady; before = before; after = after })
    names stop
stops-reading told now_told steady now_steady before now after names texts file name stop same
    stays later at read h =
    let moved = subst (λ t. ReadsText
    (record { told = t; steady = now_steady; before = now; after = after }) name file (Err stop))
    same h in
    let from = reads-from told steady now_steady before now after name file stop stays later
    moved in
    record {
      within = stop-within _ names file name stop at from;
      right = right-stop told steady before after names (bytes_of texts) file name stop at
          read.right from;
      cause = stop-cause _ name file stop from;
    }

-- want of memory while files are read
pub memory-stops : (files : FilesSeen) (names : List Text) → IsReadingStop files names OutOfMemory
memory-stops files names = record {
  within = tt;
  right = nothing files.told;
  cause = λ u. absurd u;
}
  where
    nothing : (told : Option FileMap) → IfSome told (λ m. IfSome (said names OutOfMemory)
        (MayStop m (FaultsByItself files.steady files.before files.after) names))
    nothing None = tt
    nothing (Some m) = tt

-- ---- as the code goes over the names

-- the text of a word
words-there : (names : List (Bor Text)) (i : ℕ) (d : Bor Text) → i < length names
    → slice_get (words.texts names) i ≡ Some (get_or names i d).now
words-there names i d less =
    slice_get-map (λ (w : Bor Text). w.now) names i
    ∙ ap (option_map (λ (w : Bor Text). w.now)) (slice_get-get_or names i d less)

-- one file more was read
pub one-more : (told : Option FileMap) (names : List (Bor Text)) (texts new : List (Vec ℕ Global))
    (i : ℕ) (d : Bor Text) (text : Vec ℕ Global) (files : FilesSeen)
    → i < length names → files.told ≡ told → new ≡ texts ++ text ∷ []
    → ReadsText files (get_or names i d).now i (Ok text)
    → AreWhole told (take i (words.texts names)) (bytes_of texts)
    → AreWhole told (take (i + 1) (words.texts names)) (bytes_of new)
one-more told names texts new i d text files less same more h before =
    let name = (get_or names i d).now in
    whole-more told (words.texts names) texts new i name text (words-there names i d less) more h.0
    (subst (λ t. IfSome t (λ m. m name ≡ Some text.items)) same h.1) before

-- a file stopped the reading
pub one-stops : (told : Option FileMap) (steady : Bool) (before : ℕ) (names : List (Bor Text))
    (texts : List (Vec ℕ Global)) (i : ℕ) (d : Bor Text) (stop : Stop) (files : FilesSeen)
    → i < length names → files.told ≡ told → (IsTrue steady → IsTrue files.steady)
    → before ≤ files.before
    → AreWhole told (take i (words.texts names)) (bytes_of texts)
    → ReadsText files (get_or names i d).now i (Err stop)
    → IsReadingStop
    (record { told = told; steady = steady; before = before; after = files.after })
    (words.texts names) stop
one-stops told steady before names texts i d stop files less same stays later whole h =
    stops-reading told files.told steady files.steady before files.before files.after
    (words.texts names) texts i (get_or names i d).now stop same stays later
    (words-there names i d less) whole h
