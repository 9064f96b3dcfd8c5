-- The kinds of immediates of each shape, by which readers of operators are put together: what the shape's name says, in the order
-- of the bytes (WebAssembly 3.0, binary format, instructions, and the proposals).
use Rattle.std.specs.Prelude.{◌≡◌, [], ◌∷◌, map}
use Rattle.wasm_operators_immediates.specs.Kinds as kind
use Rattle.wasm_operators_immediates.specs.Kinds.{Types, Functions, Tables, Memories, Globals, Locals, Tags, Elements, DataSegments, Fields}
use Rattle.wasm_operators_encoding.specs.declared.immediates.memory_argument.Access.TheVariants as access
use Rattle.wasm_operators_encoding.specs.immediates.Accesses.{access_of}
use Rattle.wasm_operators_decode_control.specs.declared.control.ControlShape.TheVariants as control
use Rattle.wasm_operators_decode_control.specs.declared.parametric.ParametricShape.TheVariants as parametric
use Rattle.wasm_operators_decode_control.specs.declared.exception.ExceptionShape.TheVariants as exception
use Rattle.wasm_operators_decode_control.specs.declared.continuation.ContinuationShape.TheVariants as continuation
use Rattle.wasm_operators_decode_control.specs.Control.{control_shape_kinds}
use Rattle.wasm_operators_decode_control.specs.Parametric.{parametric_shape_kinds}
use Rattle.wasm_operators_decode_control.specs.Exception.{exception_shape_kinds}
use Rattle.wasm_operators_decode_control.specs.Continuation.{continuation_shape_kinds}
use Rattle.wasm_operators_decode_control.specs.declared.gc.GcShape.TheVariants as gc
use Rattle.wasm_operators_decode_control.specs.declared.descriptor.DescriptorShape.TheVariants as descriptor
use Rattle.wasm_operators_decode_control.specs.Gc.{gc_shape_kinds}
use Rattle.wasm_operators_decode_control.specs.Descriptor.{descriptor_shape_kinds}
use Rattle.wasm_operators_decode_memory.specs.declared.memory.MemoryShape.TheVariants as memory
use Rattle.wasm_operators_decode_memory.specs.declared.constant.ConstShape.TheVariants as const
use Rattle.wasm_operators_decode_memory.specs.declared.bulk.BulkShape.TheVariants as bulk
use Rattle.wasm_operators_decode_memory.specs.declared.bulk_plain.BulkPlainShape.TheVariants as bulk_plain
use Rattle.wasm_operators_decode_memory.specs.Memory.{memory_shape_kinds}
use Rattle.wasm_operators_decode_memory.specs.Const.{const_shape_kinds}
use Rattle.wasm_operators_decode_memory.specs.Bulk.{bulk_shape_kinds}
use Rattle.wasm_operators_decode_memory.specs.BulkPlain.{bulk_plain_shape_kinds}
use Rattle.wasm_operators_decode.specs.declared.atomic.AtomicShape.TheVariants as atomic
use Rattle.wasm_operators_decode.specs.declared.shared.SharedShape.TheVariants as shared
use Rattle.wasm_operators_decode.specs.Atomic.{atomic_shape_kinds}
use Rattle.wasm_operators_decode.specs.Shared.{shared_shape_kinds}
use Rattle.wasm_operators_decode.specs.declared.simd.SimdShape.TheVariants as simd
use Rattle.wasm_operators_decode.specs.Simd.{simd_shape_kinds}

pub record ShapeRows : Type 0 where
  pub accesses : map access_of (access.Plain ∷ access.Atomic ∷ access.ReadModifyWrite ∷ []) ≡ kind.Plain ∷ kind.Atomic ∷ kind.ReadModifyWrite ∷ []
  pub of_control : map control_shape_kinds (control.Nothing ∷ control.Block ∷ control.Label ∷ control.Labels ∷ control.Function ∷ control.TypeTable ∷ control.TypeTableOrZero ∷ control.Type ∷ [])
      ≡ [] ∷ (kind.Block ∷ []) ∷ (kind.Label ∷ []) ∷ (kind.BranchTable ∷ []) ∷ (kind.Index Functions ∷ []) ∷ (kind.Index Types ∷ kind.Index Tables ∷ [])
      ∷ (kind.Index Types ∷ kind.IndexOrZero Tables ∷ []) ∷ (kind.Index Types ∷ []) ∷ []
  pub parametric : map parametric_shape_kinds (parametric.Nothing ∷ parametric.Types ∷ []) ≡ [] ∷ (kind.ValueTypes ∷ []) ∷ []
  pub of_exceptions : map exception_shape_kinds (exception.Block ∷ exception.Tag ∷ exception.Label ∷ exception.Nothing ∷ exception.Clauses ∷ [])
      ≡ (kind.Block ∷ []) ∷ (kind.Index Tags ∷ []) ∷ (kind.Label ∷ []) ∷ [] ∷ (kind.TryTable ∷ []) ∷ []
  pub of_continuations : map continuation_shape_kinds (continuation.Type ∷ continuation.TypeType ∷ continuation.Tag ∷ continuation.TypeHandlers ∷ continuation.TypeTagHandlers ∷ continuation.TypeTag ∷ [])
      ≡ (kind.Index Types ∷ []) ∷ (kind.Index Types ∷ kind.Index Types ∷ []) ∷ (kind.Index Tags ∷ []) ∷ (kind.Index Types ∷ kind.Handlers ∷ [])
      ∷ (kind.Index Types ∷ kind.Index Tags ∷ kind.Handlers ∷ []) ∷ (kind.Index Types ∷ kind.Index Tags ∷ []) ∷ []
  pub of_aggregates : map gc_shape_kinds (gc.Type ∷ gc.TypeField ∷ gc.TypeCount ∷ gc.TypeData ∷ gc.TypeElement ∷ gc.Nothing ∷ gc.TypeType ∷ gc.Heap ∷ gc.Cast ∷ [])
      ≡ (kind.Index Types ∷ []) ∷ (kind.Index Types ∷ kind.Index Fields ∷ []) ∷ (kind.Index Types ∷ kind.Count ∷ []) ∷ (kind.Index Types ∷ kind.Index DataSegments ∷ [])
      ∷ (kind.Index Types ∷ kind.Index Elements ∷ []) ∷ [] ∷ (kind.Index Types ∷ kind.Index Types ∷ []) ∷ (kind.Heap ∷ []) ∷ (kind.CastBranch ∷ []) ∷ []
  pub of_descriptors : map descriptor_shape_kinds (descriptor.Type ∷ descriptor.Heap ∷ descriptor.Cast ∷ []) ≡ (kind.Index Types ∷ []) ∷ (kind.Heap ∷ []) ∷ (kind.CastBranch ∷ []) ∷ []
  pub of_variables_and_memories : map memory_shape_kinds (memory.Local ∷ memory.Global ∷ memory.Access 3 ∷ memory.Memory ∷ [])
      ≡ (kind.Index Locals ∷ []) ∷ (kind.Index Globals ∷ []) ∷ (kind.MemoryArgument kind.Plain 3 ∷ []) ∷ (kind.IndexOrZero Memories ∷ []) ∷ []
  pub of_constants : map const_shape_kinds (const.I32 ∷ const.I64 ∷ const.F32 ∷ const.F64 ∷ []) ≡ (kind.I32Constant ∷ []) ∷ (kind.I64Constant ∷ []) ∷ (kind.F32Constant ∷ []) ∷ (kind.F64Constant ∷ []) ∷ []
  pub of_ranges : map bulk_shape_kinds (bulk.DataMemory ∷ bulk.Data ∷ bulk.MemoryMemory ∷ bulk.Memory ∷ bulk.ElementTable ∷ bulk.Element ∷ bulk.TableTable ∷ bulk.Table ∷ [])
      ≡ (kind.Index DataSegments ∷ kind.Index Memories ∷ []) ∷ (kind.Index DataSegments ∷ []) ∷ (kind.Index Memories ∷ kind.Index Memories ∷ []) ∷ (kind.Index Memories ∷ [])
      ∷ (kind.Index Elements ∷ kind.Index Tables ∷ []) ∷ (kind.Index Elements ∷ []) ∷ (kind.Index Tables ∷ kind.Index Tables ∷ []) ∷ (kind.Index Tables ∷ []) ∷ []
  pub of_tables_and_references : map bulk_plain_shape_kinds (bulk_plain.Table ∷ bulk_plain.Heap ∷ bulk_plain.Nothing ∷ bulk_plain.Function ∷ [])
      ≡ (kind.Index Tables ∷ []) ∷ (kind.Heap ∷ []) ∷ [] ∷ (kind.Index Functions ∷ []) ∷ []
  pub atomic : map atomic_shape_kinds (atomic.Access 2 ∷ atomic.Zero ∷ atomic.ReadModifyWrite 3 ∷ [])
      ≡ (kind.MemoryArgument kind.Atomic 2 ∷ []) ∷ (kind.ZeroByte ∷ []) ∷ (kind.MemoryArgument kind.ReadModifyWrite 3 ∷ []) ∷ []
  pub of_shared : map shared_shape_kinds (shared.OrderingGlobal ∷ shared.OrderingTable ∷ shared.OrderingTypeField ∷ shared.OrderingType ∷ shared.Nothing ∷ [])
      ≡ (kind.MemoryOrdering ∷ kind.Index Globals ∷ []) ∷ (kind.MemoryOrdering ∷ kind.Index Tables ∷ []) ∷ (kind.MemoryOrdering ∷ kind.Index Types ∷ kind.Index Fields ∷ [])
      ∷ (kind.MemoryOrdering ∷ kind.Index Types ∷ []) ∷ [] ∷ []
  pub of_vectors : map simd_shape_kinds (simd.Access 4 ∷ simd.Vector ∷ simd.Shuffle ∷ simd.Lane 8 ∷ simd.AccessLane 1 8 ∷ [])
      ≡ (kind.MemoryArgument kind.Plain 4 ∷ []) ∷ (kind.V128Constant ∷ []) ∷ (kind.Lanes ∷ []) ∷ (kind.Lane 8 ∷ []) ∷ (kind.MemoryArgument kind.Plain 1 ∷ kind.Lane 8 ∷ []) ∷ []
