-- The functions that code may refer to, as a module marks them while it is read (WebAssembly 3.0, validation, modules, where the
-- context has them as C.refs). A table, a global, an export and an element segment each mark the functions that they name.
use Rattle.std.specs.Prelude.{◌≡◌, ◌↔◌, ℕ, true, List, [], ◌∷◌, Some, slice_get}
use Rattle.wasm_operator_validator_rules.specs.Row.{IsOneOf}
use Rattle.wasm_module_validator_checks.specs.rules.Syntax.{ModuleTree}
use Rattle.wasm_module_validator_checks.specs.rules.Spaces.{referenced_in}
use Rattle.wasm_module_validator_resources.specs.index_spaces.declared.module.Function.{Function}
use Rattle.wasm_module_validator_resources.specs.index_spaces.Spaces.{Spaces, referring_to}

-- of the functions that there are exactly these are marked
abbrev pub AreMarked : List Function → List ℕ → Type 0
AreMarked fs xs = (x : ℕ) (f : Function) → slice_get fs x ≡ Some f → (f.is_referenced ≡ true) ↔ IsOneOf x xs

-- exactly those that the tree refers to
abbrev pub IsReferredAs : Spaces → ModuleTree → Type 0
IsReferredAs s m = AreMarked s.functions (referenced_in m)

-- each of these is marked, if there is one
abbrev pub referring_to_each : List ℕ → List Function → List Function
referring_to_each [] fs = fs
referring_to_each (x ∷ xs) fs = referring_to_each xs (referring_to x fs)
