-- The bodies that came so far, where each is judged as soon as it is whole (WebAssembly 3.0, validation, modules, functions).
use Rattle.std.specs.Prelude.{◌≡◌, ◌≤◌, ℕ, List, length, take, Option, Some, None}
use Rattle.std.specs.List.{AllZip}
use Rattle.wasm_types.specs.settings.Settings.{Settings}
use Rattle.wasm_module_validator.specs.drivers.Sharing.{Reached, IsReached}
use Rattle.wasm_module_validator_section_order.specs.rules_in_order.Sections.{code_place}
use Rattle.wasm_module_validator_section_order.specs.rules_in_order.Steps.{SoFar}
use Rattle.wasm_module_validator_section_order.specs.rules.Binary.{SpelledFunction}
use Rattle.wasm_module_validator_section_order.specs.rules.Spaces.{module_of}
use Rattle.wasm_module_validator_section_order.specs.rules.Syntax.{Function, ModuleTree}
use Rattle.wasm_module_validator_section_order.specs.rules.Valid.{HasValidBody}

-- the bytes spell a function that is valid as one of the type at an index, in the module as far as it was read
abbrev pub IsBody : Settings → ModuleTree → ℕ → List ℕ → Type 0
IsBody z m x text = (f : Function) × SpelledFunction z f text × HasValidBody z (module_of m) x f

-- each of these is that of a valid function: the first of the functions that the module has itself
abbrev pub AreFirst : Settings → ModuleTree → List (List ℕ) → Type 0
AreFirst z m bodies = AllZip (IsBody z m) (take (length bodies) m.functions) bodies

-- whether the code has begun fits the place of the last section
abbrev pub FitsPlace : Option ℕ → ℕ → Type 0
FitsPlace None last = last ≡ code_place → ⊥
FitsPlace (Some bodies) last = code_place ≤ last

-- what is kept stands for what was judged, and so do the bodies
pub record IsJudgedSoFar (z : Settings) (r : Reached) (m : SoFar) : Type 0 where
  pub reached : IsReached z r m
  pub place : FitsPlace r.code m.last
  pub bodies : AreFirst z m.tree m.bodies
