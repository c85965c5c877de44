-- The notes of a module: its aliases say nothing of values and blocks.
use Rattle.std.proofs.Common.{◌≡◌, ℕ, List, [], ◌∷◌, ◌++◌, refl, ap, ◌∙◌, arith, option_to_list}
use Rattle.generic_syntax.specs.declared.module_cst.AliasCst.{AliasCst}
use Rattle.generic_syntax.specs.declared.module_cst.ModuleCst.{ModuleCst}
use Rattle.module_names.proofs.Cut.{IsSilent, silent-joined, told-silent, told-joined, count-silent}
use Rattle.module_names.proofs.Cut.{own-behind}
use Rattle.module_names.proofs.Silent.{value-silent}
use Rattle.module_names.specs.Mentions.{value_mentions}
use Rattle.module_names.specs.ModuleNotes.{alias_noted, module_notes, ops_notes}
use Rattle.module_names.specs.Said.{noted}
use Rattle.symbol_scopes.specs.declared.call.NameKind.{NameKind}
use Rattle.symbol_scopes.specs.Regions.{Note, no_notes, note, defines, uses, labels, leads_to}
use Rattle.symbol_scopes.specs.Regions.{bad_pack, defines_alias, mentions_alias, RegionScope, own}
use Rattle.symbol_scopes.specs.Regions.{told, told_in, value_meant, block_meant, value_wrong}
use Rattle.symbol_scopes.specs.Regions.{block_wrong}

pub aliases-silent : (xs : List AliasCst) → IsSilent (noted alias_noted xs)
aliases-silent [] = tt
aliases-silent (x ∷ xs) = silent-joined (alias_noted x) (noted alias_noted xs)
    (silent-joined (value_mentions x.value) _ (value-silent x.value) tt) (aliases-silent xs)

module _ {A : Type 0} (k : NameKind) (g : List RegionScope → ℕ → Note → List A)
    (none : (ss : List RegionScope) (n : ℕ) (x : Note) → IsSilent (note x no_notes)
    → g ss n x ≡ []) (tree : ModuleCst) where
  -- aliases say nothing of other names
  pub told-ops : told_in k g (module_notes tree) ≡ told_in k g (ops_notes tree.ops)
  told-ops =
      let aliases = noted alias_noted tree.aliases in
      let silent = aliases-silent tree.aliases in
      let few = count-silent k aliases silent in
      ap (λ (s : RegionScope). told k g (s ∷ []) 0 (module_notes tree))
      (own-behind k 0 aliases (ops_notes tree.ops) silent)
      ∙ (told-joined k g (own k 0 (ops_notes tree.ops) ∷ []) 0 0 aliases (ops_notes tree.ops)
      (omega (arith, few))
      ∙ ap (λ (w : List A). w ++ told_in k g (ops_notes tree.ops))
      (told-silent k g none (own k 0 (ops_notes tree.ops) ∷ []) 0 aliases silent))

pub no-value : (ss : List RegionScope) (n : ℕ) (x : Note) → IsSilent (note x no_notes)
    → value_meant ss n x ≡ []
no-value ss n (uses u) h = absurd h
no-value ss n (defines u) h = refl
no-value ss n (labels u) h = refl
no-value ss n (leads_to u) h = refl
no-value ss n (bad_pack u) h = refl
no-value ss n (defines_alias u) h = refl
no-value ss n (mentions_alias u) h = refl

pub no-block : (ss : List RegionScope) (n : ℕ) (x : Note) → IsSilent (note x no_notes)
    → block_meant ss n x ≡ []
no-block ss n (leads_to u) h = absurd h
no-block ss n (uses u) h = refl
no-block ss n (defines u) h = refl
no-block ss n (labels u) h = refl
no-block ss n (bad_pack u) h = refl
no-block ss n (defines_alias u) h = refl
no-block ss n (mentions_alias u) h = refl

pub no-value-fault : (ss : List RegionScope) (n : ℕ) (x : Note) → IsSilent (note x no_notes)
    → option_to_list (value_wrong ss n x) ≡ []
no-value-fault ss n (uses u) h = absurd h
no-value-fault ss n (defines u) h = absurd h
no-value-fault ss n (labels u) h = refl
no-value-fault ss n (leads_to u) h = refl
no-value-fault ss n (bad_pack u) h = refl
no-value-fault ss n (defines_alias u) h = refl
no-value-fault ss n (mentions_alias u) h = refl

pub no-block-fault : (ss : List RegionScope) (n : ℕ) (x : Note) → IsSilent (note x no_notes)
    → option_to_list (block_wrong ss n x) ≡ []
no-block-fault ss n (leads_to u) h = absurd h
no-block-fault ss n (uses u) h = refl
no-block-fault ss n (defines u) h = refl
no-block-fault ss n (labels u) h = absurd h
no-block-fault ss n (bad_pack u) h = refl
no-block-fault ss n (defines_alias u) h = refl
no-block-fault ss n (mentions_alias u) h = refl
