-- How many operands the operators take and give for which no rule of typing is there yet, and for which the law that the table has the
-- lengths of the rules' rows (`counts_are_exact`) therefore says nothing: calls and branches by references and aggregates (WebAssembly
-- 3.0, validation, control, reference and aggregate instructions), exceptions, and the proposals on custom descriptors, shared everything
-- and stack switching. The module is that of `Worked`, with a tag of its function type of one parameter and two results.
use Rattle.std.specs.Prelude.{◌≡◌, ℕ, true, false, [], ◌∷◌, Option, Some, None}
use Rattle.wasm_types.specs.trees.Types.{i32, i64, f32, number, ref, concrete, function, continuation}
use Rattle.wasm_types.specs.trees.Trees.{TypeTree}
use Rattle.wasm_types.specs.trees.worked.Types.{alone, declared_entry}
use Rattle.wasm_types.specs.values.Reference.{Reference}
use Rattle.wasm_types.specs.values.declared.heap.HeapType.{HeapType}
use Rattle.wasm_operators_immediates.specs.declared.block.BlockType.TheVariants as block
use Rattle.wasm_operators_immediates.specs.declared.handlers.Handle.{Handle}
use Rattle.wasm_operators_immediates.specs.declared.memory.Ordering.{Ordering}
use Rattle.wasm_operators_enums.specs.declared.control.ControlOperator.TheVariants as control
use Rattle.wasm_operators_enums.specs.declared.gc.GcOperator.TheVariants as gc
use Rattle.wasm_operators_enums.specs.declared.gc.DescriptorOperator.TheVariants as descriptor
use Rattle.wasm_operators_enums.specs.declared.atomic.SharedOperator.TheVariants as shared
use Rattle.wasm_operators_enums.specs.Op as op
use Rattle.wasm_operators_enums.specs.Op.{Op}
use Rattle.wasm_operator_validator_rules.specs.arity.Arity.{Known, Counts, counts_of}
use Rattle.wasm_operator_validator_rules.specs.arity.Worked.{small_module, splitting, within, counted}

-- ---- by references, and aggregates

pub record ReferencesCounted : Type 0 where
  pub call_ref : counted (op.Control (control.CallRef 0)) ≡ Some (2, 2)
  pub call_ref_struct : counted (op.Control (control.CallRef 1)) ≡ None
  pub return_call_ref : counted (op.Control (control.ReturnCallRef 0)) ≡ Some (2, 0)
  pub as_non_null : counted (op.Control control.RefAsNonNull) ≡ Some (1, 1)
  pub on_null : counted (op.Control (control.BrOnNull 0)) ≡ Some (2, 2)
  pub on_non_null : counted (op.Control (control.BrOnNonNull 0)) ≡ Some (1, 0)
  pub on_null_unknown : counted (op.Control (control.BrOnNull 2)) ≡ None

pub record AggregatesCounted : Type 0 where
  pub eq : counted (op.Gc gc.RefEq) ≡ Some (2, 1)
  pub struct_new_default : (x : ℕ) → counted (op.Gc (gc.StructNewDefault x)) ≡ Some (0, 1)
  pub struct_get : (x i : ℕ) → counted (op.Gc (gc.StructGet x i)) ≡ Some (1, 1)
  pub struct_get_s : (x i : ℕ) → counted (op.Gc (gc.StructGetS x i)) ≡ Some (1, 1)
  pub struct_get_u : (x i : ℕ) → counted (op.Gc (gc.StructGetU x i)) ≡ Some (1, 1)
  pub struct_set : (x i : ℕ) → counted (op.Gc (gc.StructSet x i)) ≡ Some (2, 0)
  pub array_new : (x : ℕ) → counted (op.Gc (gc.ArrayNew x)) ≡ Some (2, 1)
  pub array_new_default : (x : ℕ) → counted (op.Gc (gc.ArrayNewDefault x)) ≡ Some (1, 1)
  pub array_new_data : (x d : ℕ) → counted (op.Gc (gc.ArrayNewData x d)) ≡ Some (2, 1)
  pub array_new_elem : (x e : ℕ) → counted (op.Gc (gc.ArrayNewElem x e)) ≡ Some (2, 1)
  pub array_get : (x : ℕ) → counted (op.Gc (gc.ArrayGet x)) ≡ Some (2, 1)
  pub array_get_s : (x : ℕ) → counted (op.Gc (gc.ArrayGetS x)) ≡ Some (2, 1)
  pub array_get_u : (x : ℕ) → counted (op.Gc (gc.ArrayGetU x)) ≡ Some (2, 1)
  pub array_set : (x : ℕ) → counted (op.Gc (gc.ArraySet x)) ≡ Some (3, 0)
  pub array_len : counted (op.Gc gc.ArrayLen) ≡ Some (1, 1)
  pub array_fill : (x : ℕ) → counted (op.Gc (gc.ArrayFill x)) ≡ Some (4, 0)
  pub array_init_data : (x d : ℕ) → counted (op.Gc (gc.ArrayInitData x d)) ≡ Some (4, 0)
  pub array_init_elem : (x e : ℕ) → counted (op.Gc (gc.ArrayInitElem x e)) ≡ Some (4, 0)
  pub test : (h : HeapType) → counted (op.Gc (gc.RefTestNonNull h)) ≡ Some (1, 1)
  pub test_null : (h : HeapType) → counted (op.Gc (gc.RefTestNullable h)) ≡ Some (1, 1)
  pub cast : (h : HeapType) → counted (op.Gc (gc.RefCastNonNull h)) ≡ Some (1, 1)
  pub cast_null : (h : HeapType) → counted (op.Gc (gc.RefCastNullable h)) ≡ Some (1, 1)
  pub on_cast : (r s : Reference) → counted (op.Gc (gc.BrOnCast 0 r s)) ≡ Some (1, 1)
  pub on_cast_unknown : (r s : Reference) → counted (op.Gc (gc.BrOnCast 2 r s)) ≡ None
  pub on_cast_fail : (r s : Reference) → counted (op.Gc (gc.BrOnCastFail 0 r s)) ≡ Some (1, 1)
  pub any_convert_extern : counted (op.Gc gc.AnyConvertExtern) ≡ Some (1, 1)
  pub extern_convert_any : counted (op.Gc gc.ExternConvertAny) ≡ Some (1, 1)
  pub i31 : counted (op.Gc gc.RefI31) ≡ Some (1, 1)
  pub i31_get_s : counted (op.Gc gc.I31GetS) ≡ Some (1, 1)
  pub i31_get_u : counted (op.Gc gc.I31GetU) ≡ Some (1, 1)

pub record DescriptorsCounted : Type 0 where
  pub struct_new : counted (op.Descriptor (descriptor.StructNewDesc 1)) ≡ Some (3, 1)
  pub struct_new_array : counted (op.Descriptor (descriptor.StructNewDesc 2)) ≡ None
  pub struct_new_default : (x : ℕ) → counted (op.Descriptor (descriptor.StructNewDefaultDesc x)) ≡ Some (1, 1)
  pub get : (x : ℕ) → counted (op.Descriptor (descriptor.RefGetDesc x)) ≡ Some (1, 1)
  pub cast : (h : HeapType) → counted (op.Descriptor (descriptor.RefCastDescEqNonNull h)) ≡ Some (2, 1)
  pub cast_null : (h : HeapType) → counted (op.Descriptor (descriptor.RefCastDescEqNullable h)) ≡ Some (2, 1)
  pub on_cast : (r s : Reference) → counted (op.Descriptor (descriptor.BrOnCastDescEq 0 r s)) ≡ Some (2, 1)
  pub on_cast_fail : (r s : Reference) → counted (op.Descriptor (descriptor.BrOnCastDescEqFail 0 r s)) ≡ Some (2, 1)

-- ---- exceptions, within a loop of one parameter and two results

pub record ExceptionsCounted : Type 0 where
  pub try_typed : counted (op.Exception (op.Try (block.FuncType 0))) ≡ Some (1, 1)
  pub catch : counted (op.Exception (op.Catch 0)) ≡ Some (2, 1)
  pub catch_unknown : counted (op.Exception (op.Catch 1)) ≡ None
  pub throw_unknown : counted (op.Exception (op.Throw 1)) ≡ None
  pub rethrow : (l : ℕ) → counted (op.Exception (op.Rethrow l)) ≡ Some (0, 0)
  pub throw_ref : counted (op.Exception op.ThrowRef) ≡ Some (1, 0)
  pub delegate : (l : ℕ) → counted (op.Exception (op.Delegate l)) ≡ Some (2, 2)
  pub catch_all : counted (op.Exception op.CatchAll) ≡ Some (2, 0)
  pub try_table : counted (op.Exception (op.TryTable (record { ty = block.FuncType 0; catches = [] }))) ≡ Some (1, 1)

-- ---- atomic accesses to what is shared

pub record SharedCounted (a : Ordering) (x i : ℕ) : Type 0 where
  pub global_get : counted (op.Shared (shared.GlobalAtomicGet a x)) ≡ Some (0, 1)
  pub global_set : counted (op.Shared (shared.GlobalAtomicSet a x)) ≡ Some (1, 0)
  pub global_add : counted (op.Shared (shared.GlobalAtomicRmwAdd a x)) ≡ Some (1, 1)
  pub global_sub : counted (op.Shared (shared.GlobalAtomicRmwSub a x)) ≡ Some (1, 1)
  pub global_and : counted (op.Shared (shared.GlobalAtomicRmwAnd a x)) ≡ Some (1, 1)
  pub global_or : counted (op.Shared (shared.GlobalAtomicRmwOr a x)) ≡ Some (1, 1)
  pub global_xor : counted (op.Shared (shared.GlobalAtomicRmwXor a x)) ≡ Some (1, 1)
  pub global_xchg : counted (op.Shared (shared.GlobalAtomicRmwXchg a x)) ≡ Some (1, 1)
  pub global_cmpxchg : counted (op.Shared (shared.GlobalAtomicRmwCmpxchg a x)) ≡ Some (2, 1)
  pub table_get : counted (op.Shared (shared.TableAtomicGet a x)) ≡ Some (1, 1)
  pub table_set : counted (op.Shared (shared.TableAtomicSet a x)) ≡ Some (2, 0)
  pub table_xchg : counted (op.Shared (shared.TableAtomicRmwXchg a x)) ≡ Some (2, 1)
  pub table_cmpxchg : counted (op.Shared (shared.TableAtomicRmwCmpxchg a x)) ≡ Some (3, 1)
  pub struct_get : counted (op.Shared (shared.StructAtomicGet a x i)) ≡ Some (1, 1)
  pub struct_get_s : counted (op.Shared (shared.StructAtomicGetS a x i)) ≡ Some (1, 1)
  pub struct_get_u : counted (op.Shared (shared.StructAtomicGetU a x i)) ≡ Some (1, 1)
  pub struct_set : counted (op.Shared (shared.StructAtomicSet a x i)) ≡ Some (2, 0)
  pub struct_add : counted (op.Shared (shared.StructAtomicRmwAdd a x i)) ≡ Some (2, 1)
  pub struct_sub : counted (op.Shared (shared.StructAtomicRmwSub a x i)) ≡ Some (2, 1)
  pub struct_and : counted (op.Shared (shared.StructAtomicRmwAnd a x i)) ≡ Some (2, 1)
  pub struct_or : counted (op.Shared (shared.StructAtomicRmwOr a x i)) ≡ Some (2, 1)
  pub struct_xor : counted (op.Shared (shared.StructAtomicRmwXor a x i)) ≡ Some (2, 1)
  pub struct_xchg : counted (op.Shared (shared.StructAtomicRmwXchg a x i)) ≡ Some (2, 1)
  pub struct_cmpxchg : counted (op.Shared (shared.StructAtomicRmwCmpxchg a x i)) ≡ Some (3, 1)
  pub array_get : counted (op.Shared (shared.ArrayAtomicGet a x)) ≡ Some (2, 1)
  pub array_get_s : counted (op.Shared (shared.ArrayAtomicGetS a x)) ≡ Some (2, 1)
  pub array_get_u : counted (op.Shared (shared.ArrayAtomicGetU a x)) ≡ Some (2, 1)
  pub array_set : counted (op.Shared (shared.ArrayAtomicSet a x)) ≡ Some (3, 0)
  pub array_add : counted (op.Shared (shared.ArrayAtomicRmwAdd a x)) ≡ Some (3, 1)
  pub array_sub : counted (op.Shared (shared.ArrayAtomicRmwSub a x)) ≡ Some (3, 1)
  pub array_and : counted (op.Shared (shared.ArrayAtomicRmwAnd a x)) ≡ Some (3, 1)
  pub array_or : counted (op.Shared (shared.ArrayAtomicRmwOr a x)) ≡ Some (3, 1)
  pub array_xor : counted (op.Shared (shared.ArrayAtomicRmwXor a x)) ≡ Some (3, 1)
  pub array_xchg : counted (op.Shared (shared.ArrayAtomicRmwXchg a x)) ≡ Some (3, 1)
  pub array_cmpxchg : counted (op.Shared (shared.ArrayAtomicRmwCmpxchg a x)) ≡ Some (4, 1)
  pub i31 : counted (op.Shared shared.RefI31Shared) ≡ Some (1, 1)

-- ---- continuations

-- a continuation of a function type
abbrev pub continued : TypeTree → TypeTree
continued t = alone (declared_entry None false (continuation t))

-- three parameters and one result; and two parameters, of which the last is a continuation that takes one
abbrev pub gathering : TypeTree
gathering = alone (declared_entry None false (function (number i32 ∷ number i64 ∷ number i64 ∷ []) (number f32 ∷ [])))

abbrev pub switching : TypeTree
switching = alone (declared_entry None false (function (number i32 ∷ ref true (concrete (continued splitting)) ∷ []) []))

-- continuations of one parameter and two results, of three and one, and of the last
abbrev pub continuing : Known
continuing = record within { «module» = record small_module { types = continued splitting ∷ continued gathering ∷ continued switching ∷ splitting ∷ [] } }

abbrev pub counted_there : Op → Option Counts
counted_there o = counts_of continuing o

pub record ContinuationsCounted (hs : Handle) : Type 0 where
  pub new : (x : ℕ) → counted_there (op.Continuation (op.ContNew x)) ≡ Some (1, 1)
  pub bind : counted_there (op.Continuation (op.ContBind 1 0)) ≡ Some (3, 1)
  pub bind_function : counted_there (op.Continuation (op.ContBind 3 0)) ≡ None
  pub bind_to_function : counted_there (op.Continuation (op.ContBind 1 3)) ≡ None
  pub suspend_unknown : counted_there (op.Continuation (op.Suspend 1)) ≡ None
  pub resume : counted_there (op.Continuation (op.Resume 1 (hs ∷ []))) ≡ Some (4, 1)
  pub resume_function : counted_there (op.Continuation (op.Resume 3 [])) ≡ None
  pub throw : counted_there (op.Continuation (op.ResumeThrow 1 0 (hs ∷ []))) ≡ Some (2, 1)
  pub throw_unknown : counted_there (op.Continuation (op.ResumeThrow 1 1 [])) ≡ None
  pub throw_ref : counted_there (op.Continuation (op.ResumeThrowRef 1 (hs ∷ []))) ≡ Some (2, 1)
  pub switch : counted_there (op.Continuation (op.Switch 2 0)) ≡ Some (2, 1)
  pub switch_without : counted_there (op.Continuation (op.Switch 1 0)) ≡ None
