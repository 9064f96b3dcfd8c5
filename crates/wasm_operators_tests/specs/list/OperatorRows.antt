-- Operators as trees, their roles, their canonical forms, and which of them keep a list, worked by hand (WebAssembly 3.0, structure,
-- instructions; the older exceptions and continuations by their proposals).
use Rattle.std.specs.Prelude.{◌≡◌, ℕ, List, [], ◌∷◌, codes, true, false, Some, None, Vec, map}
use Rattle.std.specs.declared.alloc.Global.{Global}
use Rattle.wasm_types.specs.decoding.Decoder.{State}
use Rattle.wasm_types.specs.settings.Settings.{no_features}
use Rattle.wasm_types.specs.values.declared.value.ValType.{ValType}
use Rattle.wasm_types.specs.values.declared.value.ValType.TheVariants.{I32, I64}
use Rattle.wasm_operators_immediates.specs.Info.{told}
use Rattle.wasm_operators_immediates.specs.declared.info.OperatorInfo.{OperatorInfo}
use Rattle.wasm_operators_immediates.specs.declared.proposal.Proposal.TheVariants.{Simd as OnVectors}
use Rattle.wasm_operators_immediates.specs.declared.block.BlockType.{BlockType}
use Rattle.wasm_operators_immediates.specs.declared.handlers.TryTable.{TryTable}
use Rattle.wasm_operators_immediates.specs.declared.handlers.ResumeTable.{ResumeTable}
use Rattle.wasm_operators_immediates.specs.declared.frames.FrameKind.TheVariants as frames
use Rattle.wasm_operators_immediates.specs.Kinds as kind
use Rattle.wasm_operators_immediates.specs.Tables.{CatchTable, catch_table_of}
use Rattle.wasm_operators_enums.specs.declared.control.ControlOperator.{ControlOperator}
use Rattle.wasm_operators_enums.specs.declared.control.ControlOperator.TheVariants as control
use Rattle.wasm_operators_enums.specs.declared.control.ParametricOperator.TheVariants as parametric
use Rattle.wasm_operators_enums.specs.declared.exceptions.ExceptionOperator.TheVariants as exception
use Rattle.wasm_operators_enums.specs.declared.continuation.ContinuationOperator.TheVariants as continuation
use Rattle.wasm_operators_enums.specs.declared.memory.MemoryOperator.{MemoryOperator}
use Rattle.wasm_operators_enums.specs.declared.constant.ConstOperator.{ConstOperator}
use Rattle.wasm_operators_enums.specs.declared.bulk.BulkOperator.{BulkOperator}
use Rattle.wasm_operators_enums.specs.declared.numeric.NumericOperator.{NumericOperator}
use Rattle.wasm_operators_enums.specs.declared.gc.GcOperator.{GcOperator}
use Rattle.wasm_operators_enums.specs.declared.gc.DescriptorOperator.{DescriptorOperator}
use Rattle.wasm_operators_enums.specs.declared.atomic.AtomicOperator.{AtomicOperator}
use Rattle.wasm_operators_enums.specs.declared.atomic.SharedOperator.{SharedOperator}
use Rattle.wasm_operators_enums.specs.declared.vector.SimdOperator.{SimdOperator}
use Rattle.wasm_operators_enums.specs.declared.vector_numeric.SimdNumericOperator.{SimdNumericOperator}
use Rattle.wasm_operators_enums.specs.declared.operator.Operator.TheVariants as operator
use Rattle.wasm_operators_enums.specs.declared.role.Role.TheVariants.{Plain, Opens, Else, Catch, CatchAll, Delegate, End}
use Rattle.wasm_operators_enums.specs.Op as op
use Rattle.wasm_operators_enums.specs.Op.{op_of}
use Rattle.wasm_operators_enums.specs.Immediates.{is_canonical}
use Rattle.wasm_operators_enums.specs.Roles.{role_of}
use Rattle.wasm_operators_encoding.specs.Opcodes.{plain, prefixed}
use Rattle.wasm_operators_decode.specs.Memory.{has_list, keeps_list as keeps_list_by_kinds, keeps_list_at}
use Rattle.wasm_operators_frequent.specs.visit.Memory.{keeps_list}
use Rattle.wasm_operators_encoding.specs.codes.OpcodeRoles.{role_at}

-- what is told of an operator, of a value of the code
abbrev pub ToldAsWorked : Type 0
ToldAsWorked = (i : OperatorInfo) → i.proposal ≡ OnVectors → i.name.now ≡ codes "v128.not" → i.prefix ≡ Some 0xfd → i.code ≡ 0x4d
    → told i ≡ record { proposal = OnVectors; name = codes "v128.not"; prefix = Some 0xfd; code = 0x4d }

-- each operator of the code as its tree
pub record TreeRows : Type 0 where
  pub control : (o : ControlOperator) → op_of (operator.Control o) ≡ op.Control o
  pub memory : (o : MemoryOperator) → op_of (operator.Memory o) ≡ op.Memory o
  pub constant : (o : ConstOperator) → op_of (operator.Const o) ≡ op.Const o
  pub numeric : (o : NumericOperator) → op_of (operator.Numeric o) ≡ op.Numeric o
  pub bulk : (o : BulkOperator) → op_of (operator.Bulk o) ≡ op.Bulk o
  pub gc : (o : GcOperator) → op_of (operator.Gc o) ≡ op.Gc o
  pub descriptor : (o : DescriptorOperator) → op_of (operator.Descriptor o) ≡ op.Descriptor o
  pub simd : (o : SimdOperator) → op_of (operator.Simd o) ≡ op.Simd o
  pub simd_numeric : (o : SimdNumericOperator) → op_of (operator.SimdNumeric o) ≡ op.SimdNumeric o
  pub atomic : (o : AtomicOperator) → op_of (operator.Atomic o) ≡ op.Atomic o
  pub shared : (o : SharedOperator) → op_of (operator.Shared o) ≡ op.Shared o
  pub drop : op_of (operator.Parametric parametric.Drop) ≡ op.Parametric op.Drop
  pub select : op_of (operator.Parametric parametric.Select) ≡ op.Parametric op.Select
  pub typed_select : op_of (operator.Parametric (parametric.TypedSelect I64)) ≡ op.Parametric (op.TypedSelect I64)
  pub select_of_two : (tys : Vec ValType Global) → tys.items ≡ I32 ∷ I64 ∷ [] → op_of (operator.Parametric (parametric.TypedSelectMulti tys)) ≡ op.Parametric (op.TypedSelectMulti (I32 ∷ I64 ∷ []))
  pub try : (ty : BlockType) → op_of (operator.Exception (exception.Try ty)) ≡ op.Exception (op.Try ty)
  pub catch : op_of (operator.Exception (exception.Catch 5)) ≡ op.Exception (op.Catch 5)
  pub throw : op_of (operator.Exception (exception.Throw 5)) ≡ op.Exception (op.Throw 5)
  pub rethrow : op_of (operator.Exception (exception.Rethrow 5)) ≡ op.Exception (op.Rethrow 5)
  pub throw_ref : op_of (operator.Exception exception.ThrowRef) ≡ op.Exception op.ThrowRef
  pub delegate : op_of (operator.Exception (exception.Delegate 5)) ≡ op.Exception (op.Delegate 5)
  pub catch_all : op_of (operator.Exception exception.CatchAll) ≡ op.Exception op.CatchAll
  pub try_table : (t : TryTable) → op_of (operator.Exception (exception.TryTable t)) ≡ op.Exception (op.TryTable (record { ty = t.ty; catches = t.catches.items }))
  pub clauses : (t : TryTable) → catch_table_of t ≡ record { ty = t.ty; catches = t.catches.items }
  pub cont_new : op_of (operator.Continuation (continuation.ContNew 5)) ≡ op.Continuation (op.ContNew 5)
  pub cont_bind : op_of (operator.Continuation (continuation.ContBind 5 6)) ≡ op.Continuation (op.ContBind 5 6)
  pub suspend : op_of (operator.Continuation (continuation.Suspend 5)) ≡ op.Continuation (op.Suspend 5)
  pub resume : (t : ResumeTable) → op_of (operator.Continuation (continuation.Resume 5 t)) ≡ op.Continuation (op.Resume 5 t.handlers.items)
  pub resume_throw : (t : ResumeTable) → op_of (operator.Continuation (continuation.ResumeThrow 5 6 t)) ≡ op.Continuation (op.ResumeThrow 5 6 t.handlers.items)
  pub resume_throw_ref : (t : ResumeTable) → op_of (operator.Continuation (continuation.ResumeThrowRef 5 t)) ≡ op.Continuation (op.ResumeThrowRef 5 t.handlers.items)
  pub switch : op_of (operator.Continuation (continuation.Switch 5 6)) ≡ op.Continuation (op.Switch 5 6)

-- what opens, turns and closes frames, and what does not; the same by opcodes
pub record RoleRows : Type 0 where
  pub block : (ty : BlockType) → role_of (op.Control (control.Block ty)) ≡ Opens frames.Block
  pub loop : (ty : BlockType) → role_of (op.Control (control.Loop ty)) ≡ Opens frames.Loop
  pub if : (ty : BlockType) → role_of (op.Control (control.If ty)) ≡ Opens frames.If
  pub else : role_of (op.Control control.Else) ≡ Else
  pub end : role_of (op.Control control.End) ≡ End
  pub branch : role_of (op.Control (control.Br 0)) ≡ Plain
  pub try : (ty : BlockType) → role_of (op.Exception (op.Try ty)) ≡ Opens frames.LegacyTry
  pub try_table : (t : CatchTable) → role_of (op.Exception (op.TryTable t)) ≡ Opens frames.TryTable
  pub catch : role_of (op.Exception (op.Catch 0)) ≡ Catch
  pub catch_all : role_of (op.Exception op.CatchAll) ≡ CatchAll
  pub delegate : role_of (op.Exception (op.Delegate 0)) ≡ Delegate
  pub throw : role_of (op.Exception (op.Throw 0)) ≡ Plain
  pub select : role_of (op.Parametric op.Select) ≡ Plain
  pub resume : role_of (op.Continuation (op.Resume 0 [])) ≡ Plain
  pub by_opcodes : map (λ code. role_at (plain code)) (0x01 ∷ 0x02 ∷ 0x03 ∷ 0x04 ∷ 0x05 ∷ 0x06 ∷ 0x07 ∷ 0x08 ∷ 0x0b ∷ 0x18 ∷ 0x19 ∷ 0x1f ∷ [])
      ≡ Plain ∷ Opens frames.Block ∷ Opens frames.Loop ∷ Opens frames.If ∷ Else ∷ Opens frames.LegacyTry ∷ Catch ∷ Plain ∷ End ∷ Delegate ∷ CatchAll ∷ Opens frames.TryTable ∷ []
  pub behind_a_prefix : role_at (prefixed 0xfb 0x02) ≡ Plain

-- `select` with one type has one form
pub record CanonicalRows : Type 0 where
  pub one_type : is_canonical (op.Parametric (op.TypedSelect I32)) ≡ true
  pub one_type_as_several : is_canonical (op.Parametric (op.TypedSelectMulti (I32 ∷ []))) ≡ false
  pub two_types : is_canonical (op.Parametric (op.TypedSelectMulti (I32 ∷ I32 ∷ []))) ≡ true
  pub no_type : is_canonical (op.Parametric (op.TypedSelectMulti [])) ≡ true
  pub another : is_canonical (op.Control control.Nop) ≡ true

-- a reader of these bytes
abbrev pub start : List ℕ → State
start text = record { rest = text; place = 0; settings = no_features; start = 0 }

-- which operators keep a list in memory: by their trees, by their kinds, and by their bytes
pub record KeptRows : Type 0 where
  pub types : keeps_list (op.Parametric (op.TypedSelectMulti [])) ≡ true
  pub one_type : keeps_list (op.Parametric (op.TypedSelect I32)) ≡ false
  pub clauses : (t : CatchTable) → keeps_list (op.Exception (op.TryTable t)) ≡ true
  pub throw : keeps_list (op.Exception (op.Throw 0)) ≡ false
  pub resume : keeps_list (op.Continuation (op.Resume 0 [])) ≡ true
  pub resume_throw : keeps_list (op.Continuation (op.ResumeThrow 0 0 [])) ≡ true
  pub resume_throw_ref : keeps_list (op.Continuation (op.ResumeThrowRef 0 [])) ≡ true
  pub switch : keeps_list (op.Continuation (op.Switch 0 0)) ≡ false
  pub labels : keeps_list (op.Control (control.BrTable (record { targets = 0 ∷ []; default = 0 }))) ≡ false
  pub by_types : has_list (kind.ValueTypes ∷ []) ≡ true
  pub by_clauses : has_list (kind.TryTable ∷ []) ≡ true
  pub by_handlers : has_list (kind.Index kind.Types ∷ kind.Handlers ∷ []) ≡ true
  pub by_labels : has_list (kind.BranchTable ∷ []) ≡ false
  pub by_lanes : has_list (kind.Lanes ∷ kind.Label ∷ []) ≡ false
  pub by_no_code : keeps_list_by_kinds None ≡ false
  pub by_kinds : keeps_list_by_kinds (Some (kind.ValueTypes ∷ [])) ≡ true
  pub select_at : keeps_list_at (start (0x1c ∷ [])) ≡ true
  pub try_table_at : keeps_list_at (start (0x1f ∷ [])) ≡ true
  pub resume_at : keeps_list_at (start (0xe3 ∷ [])) ≡ true
  pub br_table_at : keeps_list_at (start (0x0e ∷ [])) ≡ false
  pub behind_a_prefix_at : keeps_list_at (start (0xfb ∷ 0x1c ∷ [])) ≡ false
  pub nothing_at : keeps_list_at (start []) ≡ false
