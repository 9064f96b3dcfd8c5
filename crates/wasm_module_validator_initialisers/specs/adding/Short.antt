-- Globals that their bytes alone tell (WebAssembly 3.0, binary format, modules, global section).
use Rattle.std.specs.Prelude.{◌≡◌, ℕ, List, [], Bool, true, false, Some, slice_get}
use Rattle.wasm_types.specs.settings.Settings.{Settings}
use Rattle.wasm_types.specs.trees.Types.{number}
use Rattle.wasm_types.specs.externs.declared.global.GlobalType.{GlobalType}
use Rattle.wasm_operators_bodies.specs.declared.short.ShortConstant.{ShortConstant}
use Rattle.wasm_operators_bodies.specs.declared.short.ShortConstant.TheVariants as short
use Rattle.wasm_operators_encoding.specs.ConstantDecoder.{ConstantText}
use Rattle.wasm_operator_validator_rules.specs.Context.{Module, Global}
use Rattle.wasm_operator_validator_state.specs.resources.Meaning.{Meaning, global_in, type_in}
use Rattle.wasm_module_validator_checks.specs.rules.Spaces.{global_in as global_written}
use Rattle.wasm_module_validator_checks.specs.rules.Valid.{IsValidGlobalType}
-- the types of integers, as a number and as the code has it
pub use Rattle.wasm_module_validator_fast_constants.specs.Steps.{integer, integer_type}
use Rattle.wasm_module_validator_fast_constants.specs.Steps.{IsShortConstant}
use Rattle.wasm_sections_items.specs.segments.Spells.{GlobalTree, SpelledGlobalItem}
use Rattle.wasm_module_validator_type_storage.specs.trees.Groups.{Group}
use Rattle.wasm_module_validator_resources.specs.rules_in_order.Between.{IsBetween}
use Rattle.wasm_module_validator_resources.specs.rules_in_order.Sections as section
use Rattle.wasm_module_validator_state.specs.Items.{Items}
use Rattle.wasm_module_validator_state.specs.invariant.Standing.{IsAdded}

-- the byte of the type of integers, of 64 bits or of 32
abbrev pub integer_byte : Bool → ℕ
integer_byte true = 0x7e
integer_byte false = 0x7f

-- the type of a global of such integers
abbrev pub integer_global : Bool → Bool → GlobalType
integer_global wide mutable = record { content_type = integer_type wide; mutable = mutable; shared = false }

-- the global at an index is never written, and is such an integer
abbrev pub HoldsInteger : Module → Bool → ℕ → Type 0
HoldsInteger g wide x = (v : Global) × (slice_get g.globals x ≡ Some v) × (v.mutable ≡ false) × (v.content ≡ number (integer wide))

-- a constant of one operator is such an integer, with garbage collection allowed or not: it is written, or that of a global before
abbrev pub IsInteger : Bool → Module → Bool → ShortConstant → Type 0
IsInteger gc g wide short.I32 = wide ≡ false
IsInteger gc g wide short.I64 = wide ≡ true
IsInteger gc g wide (short.Global x) = (gc ≡ true) × HoldsInteger g wide x
IsInteger gc g wide c = ⊥

-- the bytes of a global, whatever the settings are
abbrev pub SpellsGlobal : GlobalTree (List ℕ) → List ℕ → Type 0
SpellsGlobal x front = (z : Settings) → SpelledGlobalItem (ConstantText z) x front

-- from one offset of a text to another stand the bytes of a global, which is added
pub record AddsGlobal (groups : List Group) (old new : Items) (text : List ℕ) (i j : ℕ) : Type 0 where
  pub item : GlobalTree (List ℕ)
  pub bytes : IsBetween (SpellsGlobal item) text i j
  pub added : IsAdded section.globals groups old item new

-- A global of a type that is valid, which is another type over ids, has a value of it, from one offset of a text to another; the value refers
-- to no function.
pub record IsTypedGlobal (z : Settings) (m : Meaning) (written named : GlobalType) (text : List ℕ) (i j : ℕ) : Type 0 where
  pub valid : IsValidGlobalType z m.«module» written
  pub same : global_in m named ≡ global_written m.«module».types written
  pub value : IsShortConstant z.features m.«module» (type_in m named.content_type) text i j []
