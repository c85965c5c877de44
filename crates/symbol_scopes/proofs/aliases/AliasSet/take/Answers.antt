use Rattle.std.proofs.Common.{length, refl, ap, ◌∙◌, subst}
use Rattle.symbol_scopes.specs.declared.call.Call.TheVariants.{Name}
use Rattle.symbol_scopes.specs.Calls.{IsNamed}
use Rattle.symbol_scopes.proofs.KnownAliases.{knows-plain, knows-other, knows-type, knows-attribute}
use Rattle.symbol_scopes.proofs.aliases.AliasSet.take.Goals as goal

pub returns-then-is_type : goal.returns-then-is_type
returns-then-is_type c = λ before h.
    let ns = c.args.names.now in
    let named = subst (IsNamed (length ns)) c.in-Name.is c.requires.named in
    knows-type ns before c.args.self.now _ c.args.next _ _ _ c.len.ensures.distinct named
    (c.in-Name.is ∙ ap (Name c.in-Name.name) c.in-DefineAlias.is) c.if-is_type.true h refl refl

pub returns-else-is_type : goal.returns-else-is_type
returns-else-is_type c = λ before h.
    let ns = c.args.names.now in
    let named = subst (IsNamed (length ns)) c.in-Name.is c.requires.named in
    knows-attribute ns before c.args.self.now _ c.args.next _ _ _ c.len.ensures.distinct named
    (c.in-Name.is ∙ ap (Name c.in-Name.name) c.in-DefineAlias.is) c.if-is_type.false h refl refl

pub returns-in_default : goal.returns-in_default
returns-in_default c = λ before h.
    knows-plain c.args.names.now before c.args.self.now c.args.next (λ n said e. c.in_default.not-Name n said e) h

pub returns-in_default-said : goal.returns-in_default-said
returns-in_default-said c = λ before h.
    knows-other c.args.names.now before c.args.self.now c.args.next c.in-Name.name c.in-Name.said
    c.in-Name.is (λ t p e. c.in_default-said.not-DefineAlias t p e) h
