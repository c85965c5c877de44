-- What uses and successors mean, by the marks of notes and region by region.
use Rattle.std.proofs.Common.{◌≡◌, ℕ, List, [], ◌∷◌, refl, ap, ◌∙◌, option_map}
use Rattle.std.specs.declared.option.Option.{Option}
use Rattle.std.specs.declared.option.Option.TheVariants.{Some, None}
use Rattle.symbol_scopes.specs.declared.slots.FoundBinding.{FoundBinding}
use Rattle.symbol_scopes.specs.declared.call.NameKind.TheVariants.{Values, Labels}
use Rattle.symbol_scopes.specs.ScopeMarks.{Name, Binding, top, bindings}
use Rattle.symbol_scopes.specs.Meanings.{first_in, meant, or_else, use_of, block_of, value_meaning, block_meaning, value_meanings, block_meanings}
use Rattle.symbol_scopes.specs.Regions.{Note, Notes, no_notes, note, in_region, mark_of_note, marks, ScopeName, RegionScope, known_of, count_of, count, own, found, looked, innermost, told, told_in, value_meant, block_meant, is_earlier, is_repeated, use_wrong, value_wrong, target_wrong, block_wrong, IsWrong}
use Rattle.symbol_scopes.specs.Regions as say
use Rattle.symbol_scopes.proofs.NoteBindings.{seen}
use Rattle.symbol_scopes.proofs.NotesTold.{along-judged, Agree, whole}

pub meant-looked : (ds : List Binding) (round : List ℕ) (ss : List RegionScope) (x : Name) → Agree ds round ss
    → seen (meant ds round x) ≡ looked ss x
meant-looked ds [] [] x a = refl
meant-looked ds [] (s ∷ ss) x a = absurd a
meant-looked ds (r ∷ round) [] x a = absurd a
meant-looked ds (r ∷ round) (s ∷ ss) x a = by (first_in ds r x) (a.0 x) (meant-looked ds round ss x a.1)
  where
    by : (o : Option FoundBinding) → seen o ≡ found s x → seen (meant ds round x) ≡ looked ss x
        → seen (or_else o (meant ds round x)) ≡ or_else (found s x) (looked ss x)
    by None e rest = rest ∙ ap (λ o. or_else o (looked ss x)) e
    by (Some h) e rest = ap (λ o. or_else o (looked ss x)) e

-- uses mean the same by marks and by regions
pub values-by-regions : (ns : Notes) → value_meanings (marks ns) ≡ told_in Values value_meant ns
values-by-regions ns =
    along-judged Values (value_meaning (bindings Values (marks ns))) top 0 (marks ns)
    ∙ whole Values (λ round i m. value_meaning (bindings Values (marks ns)) round m) value_meant ns
    (λ round n. refl) (λ round n. refl) same
  where
    used : (n : ℕ) (o : Option FoundBinding) → use_of n o ≡ option_map (λ d. (d.0, n)) (seen o)
    used n None = refl
    used n (Some f) = refl

    same : (q : ℕ) (round : List ℕ) (s : RegionScope) (ss : List RegionScope) (n : ℕ) (x : Note)
        → Agree (bindings Values (marks ns)) (q ∷ round) (s ∷ ss)
        → value_meaning (bindings Values (marks ns)) (q ∷ round) (mark_of_note x) ≡ value_meant (s ∷ ss) n x
    same q round s ss n (say.uses u) a =
        ap (λ o. o ∷ []) (used u.number (meant (bindings Values (marks ns)) (q ∷ round) u.name)
        ∙ ap (option_map (λ d. (d.0, u.number))) (meant-looked (bindings Values (marks ns)) (q ∷ round) (s ∷ ss) u.name a))
    same q round s ss n (say.defines d) a = refl
    same q round s ss n (say.labels l) a = refl
    same q round s ss n (say.leads_to t) a = refl
    same q round s ss n (say.bad_pack p) a = refl
    same q round s ss n (say.defines_alias b) a = refl
    same q round s ss n (say.mentions_alias b) a = refl

-- successors mean the same by marks and by regions
pub blocks-by-regions : (ns : Notes) → block_meanings (marks ns) ≡ told_in Labels block_meant ns
blocks-by-regions ns =
    along-judged Labels (block_meaning (bindings Labels (marks ns))) top 0 (marks ns)
    ∙ whole Labels (λ round i m. block_meaning (bindings Labels (marks ns)) round m) block_meant ns
    (λ round n. refl) (λ round n. refl) same
  where
    led : (o : Option FoundBinding) → block_of o ≡ option_map (λ d. d.1) (seen o)
    led None = refl
    led (Some f) = refl

    same : (q : ℕ) (round : List ℕ) (s : RegionScope) (ss : List RegionScope) (n : ℕ) (x : Note)
        → Agree (bindings Labels (marks ns)) (q ∷ round) (s ∷ ss)
        → block_meaning (bindings Labels (marks ns)) (q ∷ round) (mark_of_note x) ≡ block_meant (s ∷ ss) n x
    same q round s ss n (say.leads_to t) a =
        ap (λ o. o ∷ []) (led (first_in (bindings Labels (marks ns)) q t.name)
        ∙ ap (option_map (λ d. d.1)) (a.0 t.name))
    same q round s ss n (say.defines d) a = refl
    same q round s ss n (say.labels l) a = refl
    same q round s ss n (say.uses u) a = refl
    same q round s ss n (say.bad_pack p) a = refl
    same q round s ss n (say.defines_alias b) a = refl
    same q round s ss n (say.mentions_alias b) a = refl
