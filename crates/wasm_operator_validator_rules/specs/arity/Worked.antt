-- Worked rows of the table, of a module with a function type of one parameter and two results, a struct of two fields, an array
-- and a continuation, within a loop of the function type inside a block that gives one value.
use Rattle.std.specs.Prelude.{◌≡◌, true, false, [], ◌∷◌, Option, Some, None}
use Rattle.wasm_types.specs.trees.Types.{i32, i64, number, function, struct_of, array_of, continuation, value}
use Rattle.wasm_types.specs.trees.Trees.{TypeTree}
use Rattle.wasm_types.specs.trees.worked.Types.{alone, declared_entry}
use Rattle.wasm_types.specs.values.declared.value.ValType.TheVariants as value_type
use Rattle.wasm_operators_immediates.specs.declared.block.BlockType.TheVariants as block
use Rattle.wasm_operators_immediates.specs.declared.frames.FrameKind.TheVariants as frames
use Rattle.wasm_operators_enums.specs.declared.control.ControlOperator.TheVariants as control
use Rattle.wasm_operators_enums.specs.declared.memory.MemoryOperator.TheVariants as memory
use Rattle.wasm_operators_enums.specs.declared.numeric.NumericOperator.TheVariants as numeric
use Rattle.wasm_operators_enums.specs.declared.gc.GcOperator.TheVariants as gc
use Rattle.wasm_operators_enums.specs.Op as op
use Rattle.wasm_operators_enums.specs.Op.{Op}
use Rattle.wasm_operator_validator_rules.specs.Context.{Module}
use Rattle.wasm_operator_validator_rules.specs.worked.Contexts.{argument}
use Rattle.wasm_operator_validator_rules.specs.arity.Arity.{Known, Counts, counts_of}

abbrev pub splitting : TypeTree
splitting = alone (declared_entry None false (function (number i64 ∷ []) (number i32 ∷ number i32 ∷ [])))

abbrev pub pair : TypeTree
pair = alone (declared_entry None false (struct_of (record { storage = value (number i32); mutable = true } ∷ record { storage = value (number i64); mutable = true } ∷ [])))

abbrev pub sequence : TypeTree
sequence = alone (declared_entry None false (array_of (record { storage = value (number i32); mutable = true })))

abbrev pub small_module : Module
small_module = record {
  types = splitting ∷ pair ∷ sequence ∷ alone (declared_entry None false (continuation splitting)) ∷ [];
  functions = splitting ∷ [];
  tables = [];
  memories = [];
  globals = [];
  tags = splitting ∷ [];
  elements = [];
  data_count = None;
  referenced = [];
  exact_functions = [];
}

abbrev pub within : Known
within = record { «module» = small_module; frames = (block.FuncType 0, frames.Loop) ∷ (block.Val value_type.I32, frames.Block) ∷ [] }

-- what an operator takes and gives there
abbrev pub counted : Op → Option Counts
counted o = counts_of within o

pub record CountsWorked : Type 0 where
  pub nop : counted (op.Control control.Nop) ≡ Some (0, 0)
  pub call : counted (op.Control (control.Call 0)) ≡ Some (1, 2)
  pub call_unknown : counted (op.Control (control.Call 1)) ≡ None
  pub call_indirect : counted (op.Control (control.CallIndirect 0 0)) ≡ Some (2, 2)
  pub call_indirect_struct : counted (op.Control (control.CallIndirect 1 0)) ≡ None
  pub return_call : counted (op.Control (control.ReturnCall 0)) ≡ Some (1, 0)
  pub br_loop : counted (op.Control (control.Br 0)) ≡ Some (1, 0)
  pub br_block : counted (op.Control (control.Br 1)) ≡ Some (1, 0)
  pub br_unknown : counted (op.Control (control.Br 2)) ≡ None
  pub br_if : counted (op.Control (control.BrIf 1)) ≡ Some (2, 1)
  pub br_table : counted (op.Control (control.BrTable (record { targets = 1 ∷ 1 ∷ []; default = 0 }))) ≡ Some (2, 0)
  pub block_typed : counted (op.Control (control.Block (block.FuncType 0))) ≡ Some (1, 1)
  pub if_typed : counted (op.Control (control.If (block.FuncType 0))) ≡ Some (2, 1)
  pub end : counted (op.Control control.End) ≡ Some (2, 2)
  pub return : counted (op.Control control.Return) ≡ Some (1, 0)
  pub select : counted (op.Parametric op.Select) ≡ Some (3, 1)
  pub select_two : counted (op.Parametric (op.TypedSelectMulti (value_type.I32 ∷ value_type.I64 ∷ []))) ≡ Some (5, 2)
  pub throw : counted (op.Exception (op.Throw 0)) ≡ Some (1, 0)
  pub local_tee : counted (op.Memory (memory.LocalTee 7)) ≡ Some (1, 1)
  pub store : counted (op.Memory (memory.I32Store (argument 2 2 0 0))) ≡ Some (2, 0)
  pub add : counted (op.Numeric numeric.I32Add) ≡ Some (2, 1)
  pub wide_sum : counted (op.Numeric numeric.I64Add128) ≡ Some (4, 2)
  pub struct_new : counted (op.Gc (gc.StructNew 1)) ≡ Some (2, 1)
  pub struct_new_array : counted (op.Gc (gc.StructNew 2)) ≡ None
  pub array_new_fixed : counted (op.Gc (gc.ArrayNewFixed 2 9)) ≡ Some (9, 1)
  pub array_copy : counted (op.Gc (gc.ArrayCopy 2 2)) ≡ Some (5, 0)
  pub struct_set : counted (op.Gc (gc.StructSet 1 0)) ≡ Some (2, 0)
  pub cont_new : counted (op.Continuation (op.ContNew 3)) ≡ Some (1, 1)
  pub resume : counted (op.Continuation (op.Resume 3 [])) ≡ Some (2, 2)
  pub suspend : counted (op.Continuation (op.Suspend 0)) ≡ Some (1, 2)
