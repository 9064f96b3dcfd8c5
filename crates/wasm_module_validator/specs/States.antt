-- How far a validator is behind a module that it judged.
use Rattle.std.specs.Prelude.{◌≡◌, ◌⊎◌, ℕ, List, Result, Ok, Err}
use Rattle.wasm_types.specs.decoding.Denials.{Denies}
use Rattle.wasm_types.specs.decoding.ErrorValue.{ErrorValue}
use Rattle.wasm_types.specs.decoding.declared.error.ErrorKind.{ErrorKind}
use Rattle.wasm_types.specs.decoding.declared.error.ErrorKind.TheVariants.{OutOfMemory}
use Rattle.wasm_types.specs.settings.Settings.{Settings}
use Rattle.wasm_types.specs.reader.Reading.{IsNotMemory}
use Rattle.wasm_module_validator_drivers.specs.declarations.Total.{IsPastTotal, TellsWithinTotal}
use Rattle.wasm_module_validator_drivers.specs.state.Items.{no_items}
use Rattle.wasm_module_validator_type_storage.specs.trees.Groups.{Group}
use Rattle.wasm_module_validator_rules.specs.Accepts.{AcceptsUnder, IsValidOutsideBodies}
use Rattle.wasm_module_validator_drivers.specs.state.invariant.Standing.{IsGrown}
use Rattle.wasm_module_validator_drivers.specs.payloads.Progress.{kept_groups}
use Rattle.wasm_module_validator_drivers.specs.reading.Reading.{HasGroupIn}
use Rattle.wasm_module_validator.specs.declared.validator.State.{State}
use Rattle.wasm_module_validator.specs.declared.validator.State.TheVariants.{Unparsed, Module, Ended, Failed}
use Rattle.wasm_module_validator.specs.declared.validator.Validator.{Validator}

-- where a body was refused by an error of this kind, it has ended, but where there was no memory
abbrev pub IsLeft : ErrorKind → State → Type 0
IsLeft k s = ((s ≡ Ended) × IsNotMemory k) ⊎ ((s ≡ Failed) × (k ≡ OutOfMemory))

-- It has ended if the module was accepted, and if it is valid outside its bodies and only a function is refused. It has failed if it is
-- not, or if a group of the module passed the total of types behind these groups, or if there was no memory.
abbrev pub Leaves : {X : Type 0} → List Group → Settings → List ℕ → Result X ErrorValue → State → Type 0
Leaves groups z bytes (Ok types) s = s ≡ Ended
Leaves groups z bytes (Err e) s = ((s ≡ Ended) × IsNotMemory e.kind × IsValidOutsideBodies z bytes × (AcceptsUnder z bytes → ⊥))
    ⊎ ((s ≡ Failed) × (IsPastTotal groups (no_items z) (HasGroupIn z bytes) e ⊎ Denies e.kind (IsValidOutsideBodies z bytes)))

-- the groups that the list of types has where a validator begins with a module
abbrev pub held_by : Validator → List Group
held_by v = kept_groups v.settings v.reached.progress.kept

-- Ok exactly where the bytes are accepted, unless memory ran out, or a group of the bytes passed the total of types behind those that the
-- list has.
abbrev pub TellsBehind : {X : Type 0} → Validator → Result X ErrorValue → List ℕ → Type 0
TellsBehind v result bytes = TellsWithinTotal (held_by v) (no_items v.settings) (HasGroupIn v.settings bytes) result
    (AcceptsUnder v.settings bytes)

-- Behind a module that was accepted, or of which a function alone was refused, the list of types has what it had, with further groups or
-- none; and the module was read by the validator's features and limits.
abbrev pub KeepsWhere : State → Validator → Validator → Type 0
KeepsWhere Ended v w = IsGrown (held_by v) w.reached.progress.kept.groups
    × (w.reached.progress.kept.items.spaces.settings ≡ v.settings)
KeepsWhere Failed v w = Unit {0}
KeepsWhere Unparsed v w = ⊥
KeepsWhere Module v w = ⊥

abbrev pub Keeps : Validator → Validator → Type 0
Keeps v w = KeepsWhere w.state v w
