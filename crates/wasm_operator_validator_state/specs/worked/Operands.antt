-- Which stacks operands stand for, and which not: whatever the module is.
use Rattle.std.specs.Prelude.{true, false, [], ◌∷◌, Some, None}
use Rattle.wasm_types.specs.trees.Types.{i32, i64, number, ref, abstract, any, struct, extern}
use Rattle.wasm_types.specs.values.declared.value.ValType.TheVariants.{I32}
use Rattle.wasm_types.specs.values.declared.heap.AbstractHeapType.TheVariants as heap
use Rattle.wasm_operator_validator_rules.specs.Operands.{Operand, bottom, some_reference, known}
use Rattle.wasm_operator_validator_resources.specs.Meaning.{Meaning}
use Rattle.wasm_operator_validator_state.specs.declared.operand.MaybeType.TheVariants as maybe
use Rattle.wasm_operator_validator_state.specs.State.{Stands, Covers}

abbrev pub i32_known : Operand
i32_known = known (number i32)

abbrev pub i64_known : Operand
i64_known = known (number i64)

abbrev pub struct_reference : Operand
struct_reference = known (ref false (abstract true struct))

abbrev pub any_reference : Operand
any_reference = known (ref true (abstract true any))

abbrev pub external_reference : Operand
external_reference = known (ref true (abstract true extern))

pub record OperandsWorked : Type 0 where
  pub known_itself : (m : Meaning) → Stands m (maybe.Known I32) i32_known
  pub known_other : (m : Meaning) → Stands m (maybe.Known I32) i64_known → ⊥
  pub known_bottom : (m : Meaning) → Stands m (maybe.Known I32) bottom → ⊥
  pub bottom_number : (m : Meaning) → Stands m maybe.Bottom i64_known
  pub bottom_reference : (m : Meaning) → Stands m maybe.Bottom any_reference
  pub reference_any : (m : Meaning) → Stands m (maybe.UnknownRef None) external_reference
  pub reference_itself : (m : Meaning) → Stands m (maybe.UnknownRef None) some_reference
  pub reference_number : (m : Meaning) → Stands m (maybe.UnknownRef None) i32_known → ⊥
  pub struct_itself : (m : Meaning) → Stands m (maybe.UnknownRef (Some heap.Struct)) struct_reference
  pub struct_above : (m : Meaning) → Stands m (maybe.UnknownRef (Some heap.Struct)) any_reference
  pub struct_other : (m : Meaning) → Stands m (maybe.UnknownRef (Some heap.Struct)) external_reference → ⊥
  pub reached : (m : Meaning) → Covers m false (maybe.Known I32 ∷ []) (i32_known ∷ [])
  pub nothing_below : (m : Meaning) → Covers m false (maybe.Known I32 ∷ []) (i32_known ∷ i64_known ∷ []) → ⊥
  pub missing : (m : Meaning) → Covers m false (maybe.Known I32 ∷ []) [] → ⊥
  pub unreached : (m : Meaning) → Covers m true (maybe.Known I32 ∷ []) (i32_known ∷ i64_known ∷ [])
  pub unreached_top : (m : Meaning) → Covers m true (maybe.Known I32 ∷ []) (i64_known ∷ []) → ⊥
