-- Final types, as a compiler may rely on them (WebAssembly 3.0, validation, sub types): no type is declared below a final one, so a value of
-- a final type was made with that very type.
use Rattle.std.specs.Prelude.{◌≡◌, true, false}
use Rattle.wasm_types.specs.trees.Types.{ref, concrete}
use Rattle.wasm_types.specs.trees.Trees.{TypeTree, opened}
use Rattle.wasm_types.specs.trees.Below.{DeclaredBelow}
use Rattle.wasm_operator_validator_soundness.specs.runs.Values.{IsStandardType, Program, Value, ref_function, ref_object, Fits}

-- a function, a struct or an array that was made with this type
abbrev pub IsMadeWith : TypeTree → Value → Type 0
IsMadeWith t (ref_function i u) = u ≡ t
IsMadeWith t (ref_object k u) = u ≡ t
IsMadeWith t v = ⊥

pub record FinalTypesAreLast : Type 0 where
  pub last : (t u : TypeTree) → IsStandardType t → (opened u).is_final ≡ true → DeclaredBelow t u → t ≡ u
  pub cast : (p : Program) (v : Value) (u : TypeTree) → (opened u).is_final ≡ true → Fits p v (ref false (concrete u))
      → IsMadeWith u v
