-- The refusal of definition files.
--
--   fault_of r        its file, its place and its rule
--   IsPlain r         it tells no more than these
--   Refuses P stop    stop is a refusal for which P holds, or want of memory
use Rattle.std.specs.Prelude.{◌≡◌}
use Rattle.std.specs.declared.option.Option.TheVariants.{None}
use Rattle.dialect_registry.specs.declared.loading.DefStop.{DefStop}
use Rattle.dialect_registry.specs.declared.loading.DefStop.TheVariants.{Refused, OutOfMemory}
use Rattle.dialect_registry.specs.declared.refusal.DefRefusal.{DefRefusal}
use Rattle.dialect_registry.specs.declared.refusal.FileFault.{FileFault}

-- the file, the place and the rule of a refusal
abbrev pub fault_of : DefRefusal → FileFault
fault_of r = record { file = r.file; place = r.place; code = r.code }

-- a refusal that tells no more
pub record IsPlain (r : DefRefusal) : Type 0 where
  pub at : r.at ≡ 0
  pub look : r.look ≡ None
  pub entry : r.entry ≡ None

-- a refusal for which this holds, or want of memory
abbrev pub Refuses : (DefRefusal → Type 0) → DefStop → Type 0
Refuses P (Refused refusal) = P refusal
Refuses P OutOfMemory = Unit {0}
