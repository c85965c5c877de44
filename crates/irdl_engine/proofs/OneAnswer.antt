-- The words, the predicates and the bytes told leave one answer.
--
-- The first file that can't be read is one, and where all can be read, each has one text. A text
-- has one list of tokens, which is that of one file or is refused at one place. What definition
-- files break first is one rule at one place, and a module's text denotes one module or has one
-- fault.
use Rattle.std.proofs.Common.{◌≡◌, ◌⊎◌, ◌≤◌, inl, inr, ℕ, List, length}
use Rattle.std.proofs.Common.{refl, sym, ◌∙◌, ap, subst, arith}
use Rattle.std.specs.Prelude.{IfSome}
use Rattle.std.specs.declared.option.Option.{Option}
use Rattle.std.specs.declared.option.Option.TheVariants.{Some, None}
use Rattle.std.proofs.lemmas.Option.{same_Some}
use Rattle.derived_printer.specs.declared.form.Form.{Form}
use Rattle.irdl_bytes.specs.Outside.{FileMap}
use Rattle.irdl_bytes.specs.declared.whole.TheConstants.{FILE_LIMIT}
use Rattle.ir_lexer.specs.Spelling.{Text}
use Rattle.irdl_ops.specs.declared.raw.RawDefs.{RawDefs}
use Rattle.dialect_registry.specs.declared.code.DefCode.{DefCode}
use Rattle.module_meaning.specs.WholeModules.{Loaded}
use Rattle.irdl_engine.specs.Answer.{Answer, TellsUnread}
use Rattle.irdl_engine.specs.Answer.{TellsFirstUnread, TellsRefusal, Judged, Checked, Stopped}
use Rattle.irdl_engine.specs.Answer.{IsLoadedOf, TellsModuleFault, TellsModule, ReadsModule}
use Rattle.irdl_engine.specs.Answer.{ModuleChecked, Obeys, answered}
use Rattle.irdl_engine.specs.Answer.{module_refused, place_at, refused_in}
use Rattle.irdl_engine.specs.Command.{Command, Check, Verify, Print}
use Rattle.irdl_engine.specs.Modules.{IsLoadedFrom}
use Rattle.irdl_engine.specs.Judged.{Predicates, AreDefinitions, AreRefusedAt, IsOfForm, SpellsFile}
use Rattle.irdl_engine.specs.Judged.{SpellFiles, IsSyntaxRefusal, IsTokenRefusal, IsRefusedBy}
use Rattle.irdl_engine.specs.Reading.{IsTextOf, AreTextsOf, IsRead}
use Rattle.irdl_engine.proofs.Denoted.{denoted-once, fault-once, fault-or-denoted, same-answer}
use Rattle.irdl_engine.proofs.Items.{reached-once, zip-there, zip-once}
use Rattle.irdl_engine.proofs.Judging.{loaded-accepted}
use Rattle.irdl_engine.proofs.Rules.{not-accepted-and-refused, one-refusal}
use Rattle.irdl_engine.proofs.Spelled.{spelled-or-refused, all-spelled-once, token-once}

-- ---- one answer of reading

-- a file of a name has one text
text-once : (m : FileMap) (name a b : Text) → IsTextOf m name a → IsTextOf m name b → a ≡ b
text-once m name a b x y = same_Some a b (sym x.has ∙ y.has)

-- a file that can't be read isn't read
unread-or-read : (m : FileMap) (name : Text) (found : Option Text) (a : Answer) → m name ≡ found
    → TellsUnread name found a → IsRead m name → ⊥
unread-or-read m name None a e unread (text, is) = let has = is.has in absurd (cc)
unread-or-read m name (Some long) a e unread (text, is) =
    let same : long ≡ text = same_Some long text (sym e ∙ is.has) in
    let within = subst (λ (t : Text). length t ≤ FILE_LIMIT) (sym same) is.within in
    let past = unread.0 in
    omega arith

-- a file that can't be read has one answer
unread-once : (name : Text) (found : Option Text) (a b : Answer)
    → TellsUnread name found a → TellsUnread name found b → a ≡ b
unread-once name None a b x y = x ∙ sym y
unread-once name (Some long) a b x y = x.1 ∙ sym y.1

-- the first file that can't be read has one answer
first-unread-once : (m : FileMap) (names : List Text) (a b : Answer)
    → TellsFirstUnread m names a → TellsFirstUnread m names b → a ≡ b
first-unread-once m names a b x y =
    let same = reached-once (IsRead m) names x.number y.number x.name y.name x.reached y.reached
    (unread-or-read m x.name (m x.name) a refl x.unread)
    (unread-or-read m y.name (m y.name) b refl y.unread) in
    unread-once y.name (m y.name) a b
    (subst (λ (n : Text). TellsUnread n (m n) a) same.1 x.unread) y.unread

-- where all files are read, none can't be
unread-or-all : (m : FileMap) (names texts : List Text) (a : Answer)
    → TellsFirstUnread m names a → AreTextsOf m names texts → ⊥
unread-or-all m names texts a x all =
    unread-or-read m x.name (m x.name) a refl x.unread
    (zip-there (IsTextOf m) names texts all x.number x.name x.reached.there)

-- ---- one answer of judging

-- texts that spell files aren't refused for a token
spelled-or-syntax : (texts : List Text) (defs : List RawDefs) (file place : ℕ) (code : DefCode)
    → SpellFiles texts defs → IsSyntaxRefusal texts file place code → ⊥
spelled-or-syntax texts defs file place code spelled x =
    spelled-or-refused x.text place code x.refused
    (zip-there SpellsFile texts defs spelled file x.text x.reached.there)

-- definition files aren't refused
accepted-or-refused : (natives : Predicates) (texts : List Text) (file place : ℕ) (code : DefCode)
    (told : Text) → AreDefinitions natives texts → AreRefusedAt natives texts file place code told
    → ⊥
accepted-or-refused natives texts file place code told d (inl x) =
    spelled-or-syntax texts d.defs file place code d.spelled x.0
accepted-or-refused natives texts file place code told d (inr x) =
    let same : x.defs ≡ d.defs = all-spelled-once texts x.defs d.defs x.spelled d.spelled in
    not-accepted-and-refused natives d.defs x.refusal d.accepted
    (subst (λ l. IsRefusedBy natives l x.refusal) same x.refused)

-- two refusals for tokens are in one file, at one place, by one rule
one-syntax : (texts : List Text) (m n p q : ℕ) (c e : DefCode)
    → IsSyntaxRefusal texts m p c → IsSyntaxRefusal texts n q e → (m ≡ n) × (p ≡ q) × (c ≡ e)
one-syntax texts m n p q c e x y =
    let same = reached-once IsOfForm texts m n x.text y.text x.reached y.reached
    (spelled-or-refused x.text p c x.refused) (spelled-or-refused y.text q e y.refused) in
    let one = token-once y.text p q c e
    (subst (λ (t : Text). IsTokenRefusal t p c) same.1 x.refused) y.refused in
    (same.0, one.0, one.1)

one-place : (natives : Predicates) (texts : List Text) (m n p q : ℕ) (c e : DefCode) (a b : Text)
    → AreRefusedAt natives texts m p c a → AreRefusedAt natives texts n q e b
    → (m ≡ n) × (p ≡ q) × (c ≡ e) × (a ≡ b)
one-place natives texts m n p q c e a b (inl x) (inl y) =
    let one = one-syntax texts m n p q c e x.0 y.0 in (one.0, one.1, one.2, x.1 ∙ sym y.1)
one-place natives texts m n p q c e a b (inl x) (inr y) =
    absurd (spelled-or-syntax texts y.defs m p c y.spelled x.0)
one-place natives texts m n p q c e a b (inr x) (inl y) =
    absurd (spelled-or-syntax texts x.defs n q e x.spelled y.0)
one-place natives texts m n p q c e a b (inr x) (inr y) =
    let same : x.defs ≡ y.defs = all-spelled-once texts x.defs y.defs x.spelled y.spelled in
    one-refusal natives y.defs x.refusal y.refusal m n p q c e a b
    (subst (λ l. IsRefusedBy natives l x.refusal) same x.refused) y.refused x.is y.is

-- the same file, place, rule and detail give the same answer
same-refused : (names texts : List Text) (m n p q : ℕ) (c e : DefCode) (a b : Text)
    → (m ≡ n) × (p ≡ q) × (c ≡ e) × (a ≡ b)
    → refused_in names texts m p c a ≡ refused_in names texts n q e b
same-refused names texts m n p q c e a b u =
    ap (λ x. refused_in names texts x p c a) u.0
    ∙ ap (λ x. refused_in names texts n x c a) u.1
    ∙ ap (λ x. refused_in names texts n q x a) u.2
    ∙ ap (λ x. refused_in names texts n q e x) u.3

judged-once : (natives : Predicates) (names texts : List Text) (a b : Answer)
    → Judged natives names texts a → Judged natives names texts b → a ≡ b
judged-once natives names texts a b (inl x) (inl y) = x.1 ∙ sym y.1
judged-once natives names texts a b (inl x) (inr y) =
    absurd (accepted-or-refused natives texts y.file y.place y.code y.told x.0 y.refused)
judged-once natives names texts a b (inr x) (inl y) =
    absurd (accepted-or-refused natives texts x.file x.place x.code x.told y.0 x.refused)
judged-once natives names texts a b (inr x) (inr y) =
    x.is
    ∙ same-refused names texts x.file y.file x.place y.place x.code y.code x.told y.told
    (one-place natives texts x.file y.file x.place y.place x.code y.code x.told y.told x.refused
    y.refused)
    ∙ sym y.is

-- ---- one answer

checked-once : (natives : Predicates) (m : FileMap) (names : List Text) (a b : Answer)
    → Checked natives m names a → Checked natives m names b → a ≡ b
checked-once natives m names a b (inl x) (inl y) = first-unread-once m names a b x y
checked-once natives m names a b (inl x) (inr y) = absurd (unread-or-all m names y.0 a x y.1)
checked-once natives m names a b (inr x) (inl y) = absurd (unread-or-all m names x.0 b y x.1)
checked-once natives m names a b (inr x) (inr y) =
    let same : x.0 ≡ y.0 = zip-once (IsTextOf m) (text-once m) names x.0 y.0 x.1 y.1 in
    judged-once natives names y.0 a b
    (subst (λ (l : List Text). Judged natives names l a) same x.2) y.2

-- ---- one answer for a module

-- definition files that can't be read or are refused have one answer
stopped-once : (natives : Predicates) (m : FileMap) (names : List Text) (a b : Answer)
    → Stopped natives m names a → Stopped natives m names b → a ≡ b
stopped-once natives m names a b (inl x) (inl y) = first-unread-once m names a b x y
stopped-once natives m names a b (inl x) (inr y) = absurd (unread-or-all m names y.0 a x y.1)
stopped-once natives m names a b (inr x) (inl y) = absurd (unread-or-all m names x.0 b y x.1)
stopped-once natives m names a b (inr x) (inr y) =
    checked-once natives m names a b (inr (x.0, x.1, inr x.2)) (inr (y.0, y.1, inr y.2))

-- files that define something aren't stopped at
stopped-or-loaded : (natives : Predicates) (m : FileMap) (names : List Text) (a : Answer)
    (loaded : Loaded) → Stopped natives m names a → IsLoadedOf natives m names loaded → ⊥
stopped-or-loaded natives m names a loaded (inl x) l = unread-or-all m names l.texts a x l.has
stopped-or-loaded natives m names a loaded (inr x) l =
    let same : x.0 ≡ l.texts = zip-once (IsTextOf m) (text-once m) names x.0 l.texts x.1 l.has in
    let told = subst (λ (t : List Text). TellsRefusal natives names t a) same x.2 in
    accepted-or-refused natives l.texts told.file told.place told.code told.told
    (loaded-accepted natives l.texts loaded l.loaded_from) told.refused

module _ (natives : Predicates) (m : FileMap) (names : List Text) (loaded other : Loaded)
    (l : IsLoadedOf natives m names loaded) (o : IsLoadedOf natives m names other) where
  -- two loadings are of the same texts
  same-texts : IsLoadedFrom natives l.texts other
  same-texts =
      let same : o.texts ≡ l.texts = zip-once (IsTextOf m) (text-once m) names o.texts l.texts o.has
      l.has in
      subst (λ t. IsLoadedFrom natives t other) same o.loaded_from

  -- a text has one answer
  text-told-once : (form : Option Form) (name text : Text) (a b : Answer)
      → TellsModuleFault loaded name text a ⊎ TellsModule loaded form text a
      → TellsModuleFault other name text b ⊎ TellsModule other form text b → a ≡ b
  text-told-once form name text a b (inl x) (inl y) =
      let same : x.fault ≡ y.fault = fault-once natives l.texts loaded other l.loaded_from
      same-texts text x.fault y.fault x.refused y.refused in
      x.is ∙ ap (λ f. module_refused name (place_at text f.place) f.code) same ∙ sym y.is
  text-told-once form name text a b (inl x) (inr y) =
      absurd (fault-or-denoted natives l.texts loaded other l.loaded_from same-texts text x.fault
      y.denoted x.refused y.denotes)
  text-told-once form name text a b (inr x) (inl y) =
      absurd (fault-or-denoted natives l.texts other loaded same-texts l.loaded_from text y.fault
      x.denoted y.refused x.denotes)
  text-told-once form name text a b (inr x) (inr y) =
      let same : x.denoted ≡ y.denoted = denoted-once natives l.texts loaded other l.loaded_from
      same-texts text x.denoted y.denoted x.denotes y.denotes in
      x.is ∙ ap (answered form loaded.ops) same
      ∙ same-answer form loaded.ops other.ops y.denoted ∙ sym y.is

  -- so has a module file
  module-read-once : (form : Option Form) (name : Text) (a b : Answer)
      → TellsUnread name (m name) a ⊎ ReadsModule loaded m name form a
      → TellsUnread name (m name) b ⊎ ReadsModule other m name form b → a ≡ b
  module-read-once form name a b (inl x) (inl y) = unread-once name (m name) a b x y
  module-read-once form name a b (inl x) (inr y) =
      absurd (unread-or-read m name (m name) a refl x (y.text, y.has))
  module-read-once form name a b (inr x) (inl y) =
      absurd (unread-or-read m name (m name) b refl y (x.text, x.has))
  module-read-once form name a b (inr x) (inr y) =
      let same : x.text ≡ y.text = text-once m name x.text y.text x.has y.has in
      text-told-once form name y.text a b
      (subst (λ (t : Text). TellsModuleFault loaded name t a ⊎ TellsModule loaded form t a) same
      x.told) y.told

module-checked-once : (natives : Predicates) (m : FileMap) (names : List Text) (name : Text)
    (form : Option Form) (a b : Answer) → ModuleChecked natives m names name form a
    → ModuleChecked natives m names name form b → a ≡ b
module-checked-once natives m names name form a b (inl x) (inl y) =
    stopped-once natives m names a b x y
module-checked-once natives m names name form a b (inl x) (inr y) =
    absurd (stopped-or-loaded natives m names a y.0 x y.1)
module-checked-once natives m names name form a b (inr x) (inl y) =
    absurd (stopped-or-loaded natives m names b x.0 y x.1)
module-checked-once natives m names name form a b (inr x) (inr y) =
    module-read-once natives m names x.0 y.0 x.1 y.1 form name a b x.2 y.2

-- ---- one answer

pub obeys-once : (natives : Predicates) (m : FileMap) (command : Option Command) (a b : Answer)
    → Obeys natives m command a → Obeys natives m command b → a ≡ b
obeys-once natives m None a b x y = x ∙ sym y
obeys-once natives m (Some (Check names)) a b x y = checked-once natives m names a b x y
obeys-once natives m (Some (Verify name names)) a b x y =
    module-checked-once natives m names name None a b x y
obeys-once natives m (Some (Print form name names)) a b x y =
    module-checked-once natives m names name (Some form) a b x y

-- the words, the predicates and the bytes told leave one answer
pub one-answer : (told : Option FileMap) (natives : Predicates) (command : Option Command)
    → IfSome told (λ m. (a b : Answer) → Obeys natives m command a → Obeys natives m command b
    → a ≡ b)
one-answer None natives command = tt
one-answer (Some m) natives command = λ a b x y. obeys-once natives m command a b x y
