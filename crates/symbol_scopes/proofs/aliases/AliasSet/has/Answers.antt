use Rattle.std.proofs.Common.{ap, sym, ◌∙◌, true, false}
use Rattle.symbol_scopes.specs.Faults.{is_alias_known}
use Rattle.symbol_scopes.specs.Calls.{numbered_name}
use Rattle.symbol_scopes.proofs.KnownAliases.{bit-read}
use Rattle.symbol_scopes.proofs.aliases.AliasSet.has.Goals as goal

pub returns-then-is_type : goal.returns-then-is_type
returns-then-is_type c = λ before h.
    let ns = c.args.names.now in
    c.index.ensures
    ∙ bit-read (is_alias_known before true) ns c.args.self.now.types.items c.args.name _ h.types
    c.requires.named
    ∙ ap (λ b. is_alias_known before b (numbered_name ns c.args.name)) (sym c.if-is_type.true)

pub returns-else-is_type : goal.returns-else-is_type
returns-else-is_type c = λ before h.
    let ns = c.args.names.now in
    c.index-else-is_type.ensures
    ∙ bit-read (is_alias_known before false) ns c.args.self.now.attributes.items c.args.name _ h.attributes
    c.requires.named
    ∙ ap (λ b. is_alias_known before b (numbered_name ns c.args.name)) (sym c.if-is_type.false)
