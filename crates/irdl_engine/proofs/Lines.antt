-- Each line that is said has bytes.
use Rattle.std.proofs.Common.{◌≡◌, ℕ, [], ◌∷◌, List, ap, ◌∙◌}
use Rattle.std.specs.declared.option.Option.TheVariants.{Some}
use Rattle.std.proofs.lemmas.Option.{same_Some}
use Rattle.ir_lexer.specs.Spelling.{Text}
use Rattle.ir_lexer.specs.declared.place.LineCol.{LineCol}
use Rattle.dialect_registry.specs.declared.code.DefCode.{DefCode}
use Rattle.irdl_engine.specs.declared.stop.Stop.{Stop}
use Rattle.irdl_engine.specs.declared.stop.Stop.TheVariants.{Unreadable, TooLong, Refused, OutOfMemory}
use Rattle.irdl_engine.specs.declared.stop.ModuleStop.{ModuleStop}
use Rattle.irdl_engine.specs.declared.stop.ModuleStop.TheVariants.{Definitions, Module, Fault}
use Rattle.irdl_engine.specs.Answer.{Answer, usage, refused, module_refused, output_limit_line}
use Rattle.irdl_engine.specs.InOrder.{text_at}
use Rattle.irdl_engine.specs.Said.{said, said_of_module}

-- the line of a refusal has bytes
refused-line : (name : Text) (place : LineCol) (code : DefCode) (told : Text)
    → (refused name place code told).err ≡ [] → ⊥
refused-line [] place code told e = absurd (cc)
refused-line (b ∷ name) place code told e = absurd (cc)

-- the line of a stop has bytes
pub said-line : (names : List Text) (stop : Stop) (a : Answer) → said names stop ≡ Some a
    → a.err ≡ [] → ⊥
said-line names (Unreadable n) a s e = absurd (cc)
said-line names (TooLong n) a s e = absurd (cc)
said-line names (Refused r) a s e =
    let same = same_Some (refused (text_at names r.file) r.place r.code r.told.items) a s in
    refused-line (text_at names r.file) r.place r.code r.told.items (ap (λ x. x.err) same ∙ e)
said-line names OutOfMemory a s e = absurd (cc)

-- the line of a refused module has bytes
module-line : (name : Text) (place : LineCol) (code : ℕ)
    → (module_refused name place code).err ≡ [] → ⊥
module-line [] place code e = absurd (cc)
module-line (b ∷ name) place code e = absurd (cc)

-- the line of a stop over a module file and definition files has bytes
pub said-module-line : (name : Text) (names : List Text) (stop : ModuleStop) (a : Answer)
    → said_of_module name names stop ≡ Some a → a.err ≡ [] → ⊥
said-module-line name names (Definitions stop) a s e = said-line names stop a s e
said-module-line name names (Module stop) a s e = said-line (name ∷ []) stop a s e
said-module-line name names (Fault r) a s e =
    let same = same_Some (module_refused name r.place r.code) a s in
    module-line name r.place r.code (ap (λ x. x.err) same ∙ e)

-- the line for a text that is too long has bytes
pub limit-has : output_limit_line ≡ [] → ⊥
limit-has e = absurd (cc)

-- the usage line has bytes
pub usage-has : usage.err ≡ [] → ⊥
usage-has e = absurd (cc)
