-- Operators whose opcode is one byte (WebAssembly 3.0, binary format, instructions).
use Rattle.std.specs.Prelude.{false, [], ◌∷◌, None, negsuc}
use Rattle.wasm_types.specs.settings.Features.{mask, MultiMemory, CallIndirectOverlong, TailCall}
use Rattle.wasm_types.specs.values.declared.heap.HeapType.TheVariants.{Abstract}
use Rattle.wasm_types.specs.values.declared.heap.AbstractHeapType.TheVariants.{Func}
use Rattle.wasm_types.specs.values.declared.value.ValType.TheVariants.{I32, I64}
use Rattle.wasm_operators_immediates.specs.declared.block.BlockType.TheVariants.{Empty}
use Rattle.wasm_operators_immediates.specs.declared.handlers.Catch.TheVariants.{All}
use Rattle.wasm_operators_immediates.specs.declared.handlers.Handle.TheVariants.{OnSwitch}
use Rattle.wasm_operators_immediates.specs.Handlers.{catch_table}
use Rattle.wasm_operators_encoding.specs.immediates.MemoryArguments.{argument}
use Rattle.wasm_operators_enums.specs.Op as op
use Rattle.wasm_operators_enums.specs.declared.control.ControlOperator.TheVariants as control
use Rattle.wasm_operators_enums.specs.declared.memory.MemoryOperator.TheVariants as memory
use Rattle.wasm_operators_enums.specs.declared.constant.ConstOperator.TheVariants as const
use Rattle.wasm_operators_enums.specs.declared.bulk.BulkOperator.TheVariants as bulk
use Rattle.wasm_operators_enums.specs.declared.numeric.NumericOperator.TheVariants as numeric
use Rattle.wasm_operators_enums.specs.declared.gc.GcOperator.TheVariants as gc
use Rattle.wasm_operators_tests.specs.worked.Worked.{none, spells, begins, is_none, breaks_off}

pub record PlainRows : Type 0 where
  pub nop : begins none (0x01 ∷ 0x00 ∷ []) (op.Control control.Nop) 1 (0x00 ∷ [])
  pub block : spells none (0x02 ∷ 0x40 ∷ []) (op.Control (control.Block Empty))
  pub branches : spells none (0x0e ∷ 0x01 ∷ 0x00 ∷ 0x02 ∷ []) (op.Control (control.BrTable (record { targets = 0 ∷ []; default = 2 })))
  pub branches_of_two : spells none (0x0e ∷ 0x02 ∷ 0x01 ∷ 0x02 ∷ 0x00 ∷ []) (op.Control (control.BrTable (record { targets = 1 ∷ 2 ∷ []; default = 0 })))
  pub call_indirect : spells none (0x11 ∷ 0x05 ∷ 0x00 ∷ []) (op.Control (control.CallIndirect 5 0))
  pub call_indirect_by_another_table : spells (mask CallIndirectOverlong) (0x11 ∷ 0x05 ∷ 0x03 ∷ []) (op.Control (control.CallIndirect 5 3))
  pub call_indirect_by_table_zero_alone : is_none none (0x11 ∷ 0x00 ∷ 0x01 ∷ []) 2
  pub return_call_indirect : spells (mask TailCall) (0x13 ∷ 0x00 ∷ 0x01 ∷ []) (op.Control (control.ReturnCallIndirect 0 1))
  pub return_call_indirect_by_a_longer_index : spells (mask TailCall) (0x13 ∷ 0x00 ∷ 0x81 ∷ 0x00 ∷ []) (op.Control (control.ReturnCallIndirect 0 1))
  pub drop : spells none (0x1a ∷ []) (op.Parametric op.Drop)
  pub select_of_one : spells none (0x1c ∷ 0x01 ∷ 0x7f ∷ []) (op.Parametric (op.TypedSelect I32))
  pub select_of_two : spells none (0x1c ∷ 0x02 ∷ 0x7f ∷ 0x7e ∷ []) (op.Parametric (op.TypedSelectMulti (I32 ∷ I64 ∷ [])))
  pub select_of_too_many : is_none none (0x1c ∷ 0x0b ∷ []) 1
  pub throw : spells none (0x08 ∷ 0x03 ∷ []) (op.Exception (op.Throw 3))
  pub try_table : spells none (0x1f ∷ 0x40 ∷ 0x01 ∷ 0x02 ∷ 0x00 ∷ []) (op.Exception (op.TryTable (catch_table Empty (All 0 ∷ []))))
  pub try_table_of_no_clause : is_none none (0x1f ∷ 0x40 ∷ 0x01 ∷ 0x04 ∷ 0x00 ∷ []) 3
  pub resume : spells none (0xe3 ∷ 0x05 ∷ 0x01 ∷ 0x01 ∷ 0x03 ∷ []) (op.Continuation (op.Resume 5 (OnSwitch 3 ∷ [])))
  pub resume_of_no_handler : is_none none (0xe3 ∷ 0x05 ∷ 0x01 ∷ 0x02 ∷ []) 3
  pub local_get : spells none (0x20 ∷ 0x05 ∷ []) (op.Memory (memory.LocalGet 5))
  pub load : spells none (0x28 ∷ 0x02 ∷ 0x04 ∷ []) (op.Memory (memory.I32Load (argument 2 2 0 None 4)))
  pub load_of_another_memory : spells (mask MultiMemory) (0x28 ∷ 0x42 ∷ 0x01 ∷ 0x00 ∷ []) (op.Memory (memory.I32Load (argument 2 2 1 None 0)))
  pub load_of_no_other_memory : is_none none (0x28 ∷ 0x42 ∷ 0x01 ∷ 0x00 ∷ []) 1
  pub load_of_memory_zero_by_name : spells (mask MultiMemory) (0x28 ∷ 0x42 ∷ 0x00 ∷ 0x00 ∷ []) (op.Memory (memory.I32Load (argument 2 2 0 None 0)))
  pub load_of_no_memory_by_name : is_none none (0x28 ∷ 0x42 ∷ 0x00 ∷ 0x00 ∷ []) 1
  pub size : spells none (0x3f ∷ 0x00 ∷ []) (op.Memory (memory.MemorySize 0))
  pub size_of_another : spells (mask MultiMemory) (0x3f ∷ 0x80 ∷ 0x01 ∷ []) (op.Memory (memory.MemorySize 128))
  pub size_of_no_other : is_none none (0x3f ∷ 0x01 ∷ []) 1
  pub constant : spells none (0x41 ∷ 0x7f ∷ []) (op.Const (const.I32Const (negsuc 0)))
  pub constant_too_large : is_none none (0x41 ∷ 0x80 ∷ 0x80 ∷ 0x80 ∷ 0x80 ∷ 0x08 ∷ []) 5
  pub add : spells none (0x6a ∷ []) (op.Numeric numeric.I32Add)
  pub last_number : spells none (0xc4 ∷ []) (op.Numeric numeric.I64Extend32S)
  pub table_get : spells none (0x25 ∷ 0x01 ∷ []) (op.Bulk (bulk.TableGet 1))
  pub null : spells none (0xd0 ∷ 0x70 ∷ []) (op.Bulk (bulk.RefNull (Abstract false Func)))
  pub null_of_no_type : is_none none (0xd0 ∷ 0x40 ∷ []) 1
  pub equal : spells none (0xd3 ∷ []) (op.Gc gc.RefEq)
  pub no_operator : is_none none (0xff ∷ []) 0
  pub in_a_gap : is_none none (0x16 ∷ []) 0
  pub behind_the_last_continuation : is_none none (0xe7 ∷ 0x00 ∷ []) 0
  pub nothing : breaks_off none [] 0 1
  pub no_label : breaks_off none (0x0c ∷ 0x80 ∷ []) 2 1
  pub no_offset : breaks_off none (0x28 ∷ 0x02 ∷ []) 2 1
