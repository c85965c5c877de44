use Rattle.std.proofs.Common.{List, [], ◌∷◌, ◌∙◌, refl, sym, subst}
use Rattle.std.proofs.lemmas.List.{length-map}
use Rattle.std.specs.declared.option.Option.TheVariants.{Some, None}
use Rattle.constraint_solver.proofs.Grows.{extends-refl, extends-trans}
use Rattle.dialect_defs.specs.declared.definition.TypeDef.{TypeDef}
use Rattle.native_predicate.specs.Lists.{count, names, tests}
use Rattle.dialect_registry.specs.Codes.{IsRule}
use Rattle.dialect_registry.specs.ConstantFaults.{IsConstantFault, shapes_of}
use Rattle.dialect_registry.specs.DefFaults.{IsFirstIn, dialects_of, world_of}
use Rattle.dialect_registry.specs.FormatFaults.{HasFormat, IsFirstRefused, ops_in}
use Rattle.dialect_registry.specs.Formatting.{IsValueless, formatted_each}
use Rattle.dialect_registry.specs.Loaded.{HasNoFault, HaveTypes, IsNotGood, IsRefusedBy, in_values, in_goodness, in_formats}
use Rattle.dialect_registry.specs.Refusals.{fault_of}
use Rattle.dialect_registry.specs.Resolved.{IsOp}
use Rattle.dialect_registry.proofs.AddedFormats.{format-rule}
use Rattle.dialect_registry.proofs.Each.{each-length}
use Rattle.dialect_registry.proofs.Loads.{handed, have-formats, none-of, ops-formatted, ops-longer, passed-on, types-longer}
use Rattle.dialect_registry.proofs.LoadingFaults.{constant-rule, first-in-rule, good-longer}
use Rattle.dialect_registry.proofs.SoundOps.{sound-registry}
use Rattle.dialect_registry.proofs.loading.load_named.Goals as goal

pub returns-in_err-defined-clause-refused : goal.returns-in_err-defined-clause-refused
returns-in_err-defined-clause-refused g c =
    let natives = (names (λ p. (goal.NativePredicate-dyn g p).title p.1) c.args.natives.now) in
    let properties = (tests (λ p. (goal.NativePredicate-dyn g p).property p.1) c.args.natives.now) in
    passed-on c.from_residual.result c.in_err-defined.field-0.0
    (IsValueless c.args.raw.now properties) (IsRefusedBy c.args.raw.now natives properties)
    c.from_residual.ensures (λ r v. in_values c.requires.rules v.first v.plain)
    c.in_err-defined.ensures.refused

pub returns-in_err-defined-clause-rule : goal.returns-in_err-defined-clause-rule
returns-in_err-defined-clause-rule g c =
    let properties = (tests (λ p. (goal.NativePredicate-dyn g p).property p.1) c.args.natives.now) in
    passed-on c.from_residual.result c.in_err-defined.field-0.0
    (IsValueless c.args.raw.now properties) (λ r. IsRule r.code) c.from_residual.ensures
    (λ r v. first-in-rule (IsConstantFault [] properties (shapes_of c.args.raw.now))
    (constant-rule [] properties (shapes_of c.args.raw.now)) c.args.raw.now (fault_of r) v.first)
    c.in_err-defined.ensures.refused

pub judge_constants-requires : goal.judge_constants-requires
judge_constants-requires g c =
    let known = handed (count c.args.natives.now) (length-map _ _) refl
    c.in_ok-defined.ensures.types in
    record { types = known.sound }

pub returns-in-Some-clause-refused : goal.returns-in-Some-clause-refused
returns-in-Some-clause-refused g c =
    let properties = (tests (λ p. (goal.NativePredicate-dyn g p).property p.1) c.args.natives.now) in
    let types = c.in_ok-defined.defined.types in
    let known = handed (count c.args.natives.now) (length-map _ _) refl
    c.in_ok-defined.ensures.types in
    let first : IsFirstIn (IsNotGood c.args.raw.now properties c.define.new.u types)
    (Some c.in-Some.fault) =
    rw c.in-Some.is at
    (c.in_ok-fault.ensures.first c.define.new.u (extends-refl c.define.new.u) known.sound) in
    in_goodness c.define.new.u types known.have
    (subst (λ f. IsFirstIn (IsNotGood c.args.raw.now properties c.define.new.u types) (Some f))
    (sym c.plain.ensures.fault) first) c.plain.ensures.plain

pub returns-in-Some-clause-rule : goal.returns-in-Some-clause-rule
returns-in-Some-clause-rule g c =
    let properties = (tests (λ p. (goal.NativePredicate-dyn g p).property p.1) c.args.natives.now) in
    let types = c.in_ok-defined.defined.types in
    let known = handed (count c.args.natives.now) (length-map _ _) refl
    c.in_ok-defined.ensures.types in
    let first : IsFirstIn (IsNotGood c.args.raw.now properties c.define.new.u types)
    (Some c.in-Some.fault) =
    rw c.in-Some.is at
    (c.in_ok-fault.ensures.first c.define.new.u (extends-refl c.define.new.u) known.sound) in
    first-in-rule (IsConstantFault c.define.new.u properties types)
    (constant-rule c.define.new.u properties types) c.args.raw.now (fault_of c.plain.result)
    (subst (λ f. IsFirstIn (IsNotGood c.args.raw.now properties c.define.new.u types) (Some f))
    (sym c.plain.ensures.fault) first)

pub returns-in_err-formats-clause-refused : goal.returns-in_err-formats-clause-refused
returns-in_err-formats-clause-refused g c =
    let natives = (names (λ p. (goal.NativePredicate-dyn g p).title p.1) c.args.natives.now) in
    let properties = (tests (λ p. (goal.NativePredicate-dyn g p).property p.1) c.args.natives.now) in
    let types = c.in_ok-defined.defined.types in
    let known = handed (count c.args.natives.now) (length-map _ _) refl
    c.in_ok-defined.ensures.types in
    let none : IsFirstIn (IsNotGood c.args.raw.now properties c.define.new.u types) None =
    subst (IsFirstIn (IsNotGood c.args.raw.now properties c.define.new.u types))
    (none-of c.in_ok-fault.field-0 c.in_default.not-Some)
    (c.in_ok-fault.ensures.first c.define.new.u (extends-refl c.define.new.u) known.sound) in
    passed-on c.from_residual-in_err-formats.result c.in_err-formats.field-0.0 (IsFirstRefused c.args.raw.now)
    (IsRefusedBy c.args.raw.now natives properties) c.from_residual-in_err-formats.ensures
    (λ r x. in_formats c.define.new.u types known.have none x) c.in_err-formats.ensures.refused

pub returns-in_err-formats-clause-rule : goal.returns-in_err-formats-clause-rule
returns-in_err-formats-clause-rule g c =
    passed-on c.from_residual-in_err-formats.result c.in_err-formats.field-0.0 (IsFirstRefused c.args.raw.now)
    (λ r. IsRule r.code) c.from_residual-in_err-formats.ensures (format-rule c.args.raw.now)
    c.in_err-formats.ensures.refused

pub registry_of-requires : goal.registry_of-requires
registry_of-requires g c =
    let natives = (names (λ p. (goal.NativePredicate-dyn g p).title p.1) c.args.natives.now) in
    let properties = (tests (λ p. (goal.NativePredicate-dyn g p).property p.1) c.args.natives.now) in
    let ds = ops_in (dialects_of c.args.raw.now) in
    record {
      counts = sym (each-length (IsOp (world_of c.args.raw.now natives) properties
          (shapes_of c.args.raw.now) c.define.new.u) ds c.in_ok-defined.defined.ops.items
          c.in_ok-defined.ensures.ops)
          ∙ each-length HasFormat ds c.in_ok-formats.formats.items c.in_ok-formats.ensures.ok;
    }

pub returns-in_err-registry_of-clause-later : goal.returns-in_err-registry_of-clause-later
returns-in_err-registry_of-clause-later g c =
    extends-trans c.define.ensures.later c.judge_constants.ensures.later

pub returns-clause-loaded : goal.returns-clause-loaded
returns-clause-loaded g c =
    let natives = (names (λ p. (goal.NativePredicate-dyn g p).title p.1) c.args.natives.now) in
    let properties = (tests (λ p. (goal.NativePredicate-dyn g p).property p.1) c.args.natives.now) in
    let r = c.in_ok-registry_of.field-0 in
    let ds = ops_in (dialects_of c.args.raw.now) in
    let bare = c.in_ok-defined.defined.ops.items in
    let formats = c.in_ok-formats.formats.items in
    let grown = c.judge_constants.ensures.later in
    let given = c.in_ok-defined.defined.types in
    let known = handed (count c.args.natives.now) (length-map _ _) refl
    c.in_ok-defined.ensures.types in
    let none : IsFirstIn (IsNotGood c.args.raw.now properties c.define.new.u given) None =
    subst (IsFirstIn (IsNotGood c.args.raw.now properties c.define.new.u given))
    (none-of c.in_ok-fault.field-0 c.in_default.not-Some)
    (c.in_ok-fault.ensures.first c.define.new.u (extends-refl c.define.new.u) known.sound) in
    record {
      have = types-longer c.args.raw.now natives properties grown r.types
          (subst (HaveTypes c.args.raw.now natives properties c.define.new.u)
          (sym c.in_ok-registry_of.ensures.types) c.in_ok-defined.ensures.types);
      ops_are = record {
        own = formatted_each bare formats;
        first = c.in_ok-registry_of.ensures.ops;
        each = ops-formatted c.args.raw.now natives properties c.judge_constants.new.u bare formats
            (ops-longer c.args.raw.now natives properties grown bare c.in_ok-defined.ensures.ops)
            c.in_ok-formats.ensures.ok;
      };
      good = subst
          (λ (types : List TypeDef). HasNoFault (IsNotGood c.args.raw.now properties
          c.judge_constants.new.u types))
          (sym c.in_ok-registry_of.ensures.types)
          (good-longer c.args.raw.now properties given grown known.sound none);
      formats = have-formats _ ds bare formats c.in_ok-defined.ensures.ops
          c.in_ok-formats.ensures.ok;
    }

pub returns-clause-sound : goal.returns-clause-sound
returns-clause-sound g c =
    let natives = (names (λ p. (goal.NativePredicate-dyn g p).title p.1) c.args.natives.now) in
    let properties = (tests (λ p. (goal.NativePredicate-dyn g p).property p.1) c.args.natives.now) in
    let r = c.in_ok-registry_of.field-0 in
    let bare = c.in_ok-defined.defined.ops.items in
    let formats = c.in_ok-formats.formats.items in
    let grown = c.judge_constants.ensures.later in
    let types = types-longer c.args.raw.now natives properties grown r.types
    (subst (HaveTypes c.args.raw.now natives properties c.define.new.u)
    (sym c.in_ok-registry_of.ensures.types) c.in_ok-defined.ensures.types) in
    let each = ops-formatted c.args.raw.now natives properties c.judge_constants.new.u bare formats
    (ops-longer c.args.raw.now natives properties grown bare c.in_ok-defined.ensures.ops)
    c.in_ok-formats.ensures.ok in
    sound-registry c.args.raw.now natives c.requires.rules properties (shapes_of c.args.raw.now)
    c.judge_constants.new.u (count c.args.natives.now) (length-map _ _) r types.types_are
    (formatted_each bare formats) c.in_ok-registry_of.ensures.ops each
