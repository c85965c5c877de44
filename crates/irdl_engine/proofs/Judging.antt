-- What texts are judged to be.
use Rattle.std.proofs.Common.{◌≡◌, ◌<◌, inl, inr, List, [], ℕ, length, take, get_or, refl, sym, ◌∙◌, ap, subst}
use denote.Ref.{Bor}
use Rattle.std.specs.Prelude.{IfErr, IfSome, option_map}
use Rattle.std.specs.List.{slice_get}
use Rattle.std.specs.declared.alloc.Global.{Global}
use Rattle.std.specs.declared.option.Option.{Option}
use Rattle.std.specs.declared.option.Option.TheVariants.{Some, None}
use Rattle.std.specs.declared.result.Result.{Result}
use Rattle.std.specs.declared.result.Result.TheVariants.{Ok, Err}
use Rattle.std.specs.declared.vec.Vec.{Vec}
use Rattle.std.proofs.lemmas.Option.{slice_get-map, slice_get_within, get_or_from_slice_get}
use Rattle.std.proofs.lemmas.List.{length-map}
use Rattle.irdl_bytes.specs.Outside.{FileMap}
use Rattle.ir_lexer.specs.Spelling.{Text}
use Rattle.irdl_ops.specs.declared.raw.RawDefs.{RawDefs}
use Rattle.dialect_registry.specs.declared.refusal.DefRefusal.{DefRefusal}
use Rattle.dialect_registry.specs.Codes.{code_number}
use Rattle.dialect_registry.specs.Details.{detail}
use Rattle.dialect_registry.proofs.Walks.{slice_get-item}
use Rattle.irdl_engine.specs.declared.stop.Refusal.{Refusal}
use Rattle.irdl_engine.specs.declared.stop.Stop.{Stop}
use Rattle.irdl_engine.specs.declared.stop.Stop.TheVariants.{Unreadable, TooLong, Refused, OutOfMemory}
use Rattle.module_meaning.specs.WholeModules.{Loaded}
use Rattle.irdl_engine.specs.Answer.{Answer, IsLoadedOf, MayAnswer, TellsRefusal, done, refused}
use Rattle.irdl_engine.specs.Answer.{place_at}
use Rattle.irdl_engine.specs.Command.{Check}
use Rattle.irdl_engine.specs.InOrder.{IsReached, text_at}
use Rattle.irdl_engine.specs.Modules.{IsLoadedFrom}
use Rattle.irdl_engine.specs.Judged.{Predicates, AreDefinitions, SpellsFile, SpellFiles, IsOfForm, IsRefusedBy, IsSyntaxRefusal}
use Rattle.irdl_engine.specs.Reading.{AreTextsOf}
use Rattle.irdl_engine.specs.Said.{bytes_of, said, IsWithin, StandsAt, IsTreeOf, Shows, IsVerdict}
use Rattle.irdl_engine.specs.Said.{MayStop, MayStopLoading}
use Rattle.irdl_engine.specs.Words as words
use Rattle.irdl_engine.proofs.Items.{reaches, zip-length}
use Rattle.irdl_engine.proofs.Rules.{refused-within}

-- ---- texts as the code holds them

-- the bytes of the text at a place
pub bytes-there : (texts : List (Vec ℕ Global)) (i : ℕ) (text : Vec ℕ Global)
    → i < length texts → text ≡ get_or texts i text → slice_get (bytes_of texts) i ≡ Some text.items
bytes-there texts i text less is =
    slice_get-map (λ (v : Vec ℕ Global). v.items) texts i
    ∙ ap (option_map (λ (v : Vec ℕ Global). v.items)) (slice_get-item texts i text less is)

-- the text found at a place is the text with this number
pub text_at-there : (texts : List Text) (i : ℕ) (text : Text) → slice_get texts i ≡ Some text
    → text_at texts i ≡ text
text_at-there texts i text at = get_or_from_slice_get texts i text [] at

-- ---- trees

-- a text that spells no file is the first such text, where those before it spell files
pub stops-spelling : (natives : Predicates) (texts : List Text) (trees : List RawDefs) (file : ℕ)
    (text : Text) (stop : Stop)
    → SpellFiles (take file texts) trees → slice_get texts file ≡ Some text
    → IsTreeOf text file (Err stop) → IsVerdict natives texts (Err stop)
stops-spelling natives texts trees file text (Unreadable n) before at h = absurd h
stops-spelling natives texts trees file text (TooLong n) before at h = absurd h
stops-spelling natives texts trees file text OutOfMemory before at h = tt
stops-spelling natives texts trees file text (Refused r) before at h =
    let spells : (t : Text) (d : RawDefs) → SpellsFile t d → IsOfForm t = λ t d s. (d, s) in
    let reached = reaches SpellsFile IsOfForm spells texts trees file text before at in
    let syntax : IsSyntaxRefusal texts r.file h.at r.code = record {
      text = text;
      reached = subst (λ n. IsReached IsOfForm texts n text) (sym h.in_file) reached;
      refused = h.refused;
    } in
    let here : text_at texts r.file ≡ text =
    ap (text_at texts) h.in_file ∙ text_at-there texts file text at in
    record {
      at = h.at;
      refused = inl (syntax, h.nothing);
      stands = subst (λ t. StandsAt t r h.at) (sym here) h.stands;
    }

-- the refusal of trees is that of the texts that spell them
pub refuses : (natives : Predicates) (texts : List Text) (trees : List RawDefs) (found : DefRefusal)
    (r : Refusal)
    → SpellFiles texts trees → IsRefusedBy natives trees found
    → r.file ≡ found.file → code_number r.code ≡ found.code
    → r.told.items ≡ detail r.code found → StandsAt (text_at texts found.file) r found.place
    → Shows natives texts r
refuses natives texts trees found r spelled broken file rule told stands = record {
  at = found.place;
  refused = inr (record {
    defs = trees;
    spelled = spelled;
    refusal = found;
    refused = broken;
    is = record { in_file = sym file; at = refl; rule = sym rule; told_is = told };
  });
  stands = subst (λ n. StandsAt (text_at texts n) r found.place) (sym file) stands;
}

-- a refusal of trees is in one of the texts
pub refused-in-texts : (natives : Predicates) (texts : List (Vec ℕ Global)) (trees : List RawDefs)
    (found : DefRefusal) → SpellFiles (bytes_of texts) trees → IsRefusedBy natives trees found
    → found.file < length texts
refused-in-texts natives texts trees found spelled broken =
    subst (λ n. found.file < n)
    (sym (zip-length SpellsFile (bytes_of texts) trees spelled)
    ∙ length-map texts (λ (v : Vec ℕ Global). v.items))
    (refused-within natives trees found broken)

-- ---- verdicts

-- a stop of the judgement tells one of the texts
pub verdict-within : (natives : Predicates) (texts : List Text) (stop : Stop)
    → IsVerdict natives texts (Err stop) → IsWithin (length texts) stop
verdict-within natives texts (Unreadable n) h = absurd h
verdict-within natives texts (TooLong n) h = absurd h
verdict-within natives texts OutOfMemory h = tt
verdict-within natives texts (Refused r) h = elim h.refused [
  | inl x ↦ slice_get_within texts r.file x.0.text x.0.reached.there
  | inr x ↦
      subst (λ n. r.file < n) (sym (zip-length SpellsFile texts x.defs x.spelled))
      (subst (λ n. n < length x.defs) x.is.in_file
      (refused-within natives x.defs x.refusal x.refused))
]

-- a stop of the judgement tells one of the files, where there are as many texts as names
pub stop-within : (natives : Predicates) (names : List (Bor Text)) (texts : List Text)
    (stop : Stop) → length texts ≡ length (words.texts names)
    → IsVerdict natives texts (Err stop) → IsWithin (length names) stop
stop-within natives names texts stop count h =
    subst (λ n. IsWithin n stop) (count ∙ length-map names (λ (w : Bor Text). w.now))
    (verdict-within natives texts stop h)

module _ (natives : Predicates) (m : FileMap) (failed : Type 0) (names texts : List Text)
    (has : AreTextsOf m names texts) where
  -- what stops the judgement of texts that were read is what is to be answered
  verdict-stops : (stop : Stop) → IsVerdict natives texts (Err stop)
      → IfSome (said names stop) (MayStopLoading natives m failed names)
  verdict-stops (Unreadable n) h = absurd h
  verdict-stops (TooLong n) h = absurd h
  verdict-stops OutOfMemory h = tt
  verdict-stops (Refused r) h =
      let line = h.stands.line in
      let column = h.stands.column in
      let place : r.place ≡ place_at (text_at texts r.file) h.at =
      λ i. record { line = line i; column = column i } in
      let told : TellsRefusal natives names texts
      (refused (text_at names r.file) r.place r.code r.told.items) =
      record {
        file = r.file;
        place = h.at;
        code = r.code;
        told = r.told.items;
        refused = h.refused;
        is = ap (λ at. refused (text_at names r.file) at r.code r.told.items) place;
      } in
      inl (inr (texts, has, told))

-- the same, where the files may tell their bytes
pub judged-stops : (told : Option FileMap) (natives : Predicates) (failed : Type 0)
    (names texts : List Text) (stop : Stop)
    → IfSome told (λ m. AreTextsOf m names texts) → IsVerdict natives texts (Err stop)
    → IfSome told (λ m. IfSome (said names stop) (MayStopLoading natives m failed names))
judged-stops None natives failed names texts stop has h = tt
judged-stops (Some m) natives failed names texts stop has h =
    verdict-stops natives m failed names texts has stop h

-- the same of what the judgement gave
pub judged-results : {A : Type 0} (told : Option FileMap) (natives : Predicates) (failed : Type 0)
    (names texts : List Text) (r : Result A Stop)
    → IfSome told (λ m. AreTextsOf m names texts)
    → IfErr r (λ stop. IsVerdict natives texts (Err stop))
    → IfErr r (λ stop. IfSome told (λ m. IfSome (said names stop)
    (MayStopLoading natives m failed names)))
judged-results told natives failed names texts (Ok a) has h = tt
judged-results told natives failed names texts (Err stop) has h =
    judged-stops told natives failed names texts stop has h

pub results-within : {A : Type 0} (natives : Predicates) (names : List (Bor Text))
    (texts : List Text) (r : Result A Stop) → length texts ≡ length (words.texts names)
    → IfErr r (λ stop. IsVerdict natives texts (Err stop)) → IfErr r (IsWithin (length names))
results-within natives names texts (Ok a) count h = tt
results-within natives names texts (Err stop) count h =
    stop-within natives names texts stop count h

-- what texts that were read define, their files define
pub loaded-files : (told : Option FileMap) (natives : Predicates) (names texts : List Text)
    (loaded : Loaded) → IfSome told (λ m. AreTextsOf m names texts)
    → IsLoadedFrom natives texts loaded
    → IfSome told (λ m. IsLoadedOf natives m names loaded)
loaded-files None natives names texts loaded has l = tt
loaded-files (Some m) natives names texts loaded has l =
    record { texts = texts; has = has; loaded_from = l }

-- a file that can't be read stops the loading
pub unread-stops : (told : Option FileMap) (natives : Predicates) (failed : Type 0)
    (names : List Text) (stop : Stop)
    → IfSome told (λ m. IfSome (said names stop) (MayStop m failed names))
    → IfSome told (λ m. IfSome (said names stop) (MayStopLoading natives m failed names))
unread-stops None natives failed names stop h = tt
unread-stops (Some m) natives failed names stop h = each (said names stop) h
  where
    each : (a : Option Answer) → IfSome a (MayStop m failed names)
        → IfSome a (MayStopLoading natives m failed names)
    each None h = tt
    each (Some a) (inl x) = inl (inl x)
    each (Some a) (inr x) = inr x

-- ---- what is answered for definition files

-- texts that define something keep all rules
pub loaded-accepted : (natives : Predicates) (texts : List Text) (loaded : Loaded)
    → IsLoadedFrom natives texts loaded → AreDefinitions natives texts
loaded-accepted natives texts loaded l = record {
  defs = l.defs;
  spelled = l.spelled;
  accepted = record {
    values = loaded.values;
    types = loaded.types;
    ops = loaded.ops;
    loaded = l.are;
  };
}

-- files that define something are accepted
pub loaded-answers : (told : Option FileMap) (natives : Predicates) (failed : Type 0)
    (names : List Text) (loaded : Loaded)
    → IfSome told (λ m. IsLoadedOf natives m names loaded)
    → IfSome told (λ m. MayAnswer natives m failed (Some (Check names)) done)
loaded-answers None natives failed names loaded l = tt
loaded-answers (Some m) natives failed names loaded l =
    inl (inr (l.texts, l.has, inl (loaded-accepted natives l.texts loaded l.loaded_from, refl)))

-- what stops the loading is answered to `check`
check-stops : (natives : Predicates) (m : FileMap) (failed : Type 0) (names : List Text)
    (a : Option Answer) → IfSome a (MayStopLoading natives m failed names)
    → IfSome a (MayAnswer natives m failed (Some (Check names)))
check-stops natives m failed names None h = tt
check-stops natives m failed names (Some a) (inl (inl x)) = inl (inl x)
check-stops natives m failed names (Some a) (inl (inr x)) = inl (inr (x.0, x.1, inr x.2))
check-stops natives m failed names (Some a) (inr x) = inr x

pub check-answers : (told : Option FileMap) (natives : Predicates) (failed : Type 0)
    (names : List Text) (stop : Stop)
    → IfSome told (λ m. IfSome (said names stop) (MayStopLoading natives m failed names))
    → IfSome told (λ m. IfSome (said names stop) (MayAnswer natives m failed (Some (Check names))))
check-answers None natives failed names stop h = tt
check-answers (Some m) natives failed names stop h =
    check-stops natives m failed names (said names stop) h
