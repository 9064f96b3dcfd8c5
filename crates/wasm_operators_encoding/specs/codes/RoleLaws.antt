-- An opcode has the role of its operators.
use Rattle.std.proofs.Common.{◌≡◌, Bool, true, false, refl}
use Rattle.wasm_operators_immediates.specs.Info.{Info}
use Rattle.wasm_operators_enums.specs.control.Table.{parametric_info, continuation_info}
use Rattle.wasm_operators_enums.specs.memory.Table.{memory_info, const_info, bulk_info}
use Rattle.wasm_operators_enums.specs.numbers.Table.{numeric_info}
use Rattle.wasm_operators_enums.specs.gc.Table.{gc_info, descriptor_info}
use Rattle.wasm_operators_enums.specs.threads.Table.{atomic_info, shared_info}
use Rattle.wasm_operators_enums.specs.VectorsTable.{simd_info, simd_numeric_info}
use Rattle.wasm_operators_enums.proofs.ControlCodes.{parametric_list, parametric_told, continuation_list, continuation_told}
use Rattle.wasm_operators_enums.proofs.MemoryCodes.{memory_list, memory_told, const_list, const_told, bulk_list, bulk_told}
use Rattle.wasm_operators_enums.proofs.NumbersCodes.{numeric_list, numeric_told}
use Rattle.wasm_operators_enums.proofs.GcCodes.{gc_list, gc_told, descriptor_list, descriptor_told}
use Rattle.wasm_operators_enums.proofs.ThreadsCodes.{atomic_list, atomic_told, shared_list, shared_told}
use Rattle.wasm_operators_enums.proofs.VectorsCodes.{simd_list, simd_told, simd_numeric_list, simd_numeric_told}
use Rattle.wasm_operators_enums.specs.declared.control.ControlOperator.{ControlOperator}
use Rattle.wasm_operators_enums.specs.declared.control.ControlOperator.TheVariants as control
use Rattle.wasm_operators_enums.specs.control.Trees.{ExceptionTree}
use Rattle.wasm_operators_enums.specs.control.Trees as tree
use Rattle.wasm_operators_enums.specs.Op as op
use Rattle.wasm_operators_enums.specs.Op.{Op}
use Rattle.wasm_operators_enums.specs.Roles.{control_role, exception_role, role_of}
use Rattle.wasm_operators_enums.specs.declared.role.Role.{Role}
use Rattle.wasm_operators_enums.specs.declared.role.Role.TheVariants.{Plain, Opens, Else, Catch, CatchAll, Delegate, End}
use Rattle.wasm_operators_encoding.specs.RowLaws.{row_has}
use Rattle.wasm_operators_encoding.specs.Operators.{opcode_of}
use Rattle.wasm_operators_encoding.specs.codes.OpcodeRoles.{role_behind, role_at}

-- ---- the operators of the table that are plain

abbrev plain : Role → Bool
plain Plain = true
plain r = false

is_plain : (r : Role) → plain r ≡ true → r ≡ Plain
is_plain Plain h = refl
is_plain (Opens k) h = absurd cc
is_plain Else h = absurd cc
is_plain Catch h = absurd cc
is_plain CatchAll h = absurd cc
is_plain Delegate h = absurd cc
is_plain End h = absurd cc

abbrev row_plain : Info → Bool
row_plain i = plain (role_behind i.prefix i.code)

-- ---- those that are not

control_roles : (o : ControlOperator) → role_at (opcode_of (op.Control o)) ≡ control_role o
control_roles control.Unreachable = refl
control_roles control.Nop = refl
control_roles (control.Block blockty) = refl
control_roles (control.Loop blockty) = refl
control_roles (control.If blockty) = refl
control_roles control.Else = refl
control_roles control.End = refl
control_roles (control.Br relative_depth) = refl
control_roles (control.BrIf relative_depth) = refl
control_roles (control.BrTable targets) = refl
control_roles control.Return = refl
control_roles (control.Call function_index) = refl
control_roles (control.CallIndirect type_index table_index) = refl
control_roles (control.ReturnCall function_index) = refl
control_roles (control.ReturnCallIndirect type_index table_index) = refl
control_roles (control.CallRef type_index) = refl
control_roles (control.ReturnCallRef type_index) = refl
control_roles control.RefAsNonNull = refl
control_roles (control.BrOnNull relative_depth) = refl
control_roles (control.BrOnNonNull relative_depth) = refl

exception_roles : (o : ExceptionTree) → role_at (opcode_of (op.Exception o)) ≡ exception_role o
exception_roles (tree.Try blockty) = refl
exception_roles (tree.Catch tag_index) = refl
exception_roles (tree.Throw tag_index) = refl
exception_roles (tree.Rethrow relative_depth) = refl
exception_roles tree.ThrowRef = refl
exception_roles (tree.Delegate relative_depth) = refl
exception_roles tree.CatchAll = refl
exception_roles (tree.TryTable try_table) = refl

-- ---- all of them

pub role_of_opcode : (o : Op) → role_at (opcode_of o) ≡ role_of o
role_of_opcode (op.Control o) = control_roles o
role_of_opcode (op.Parametric o) = is_plain _ (row_has parametric_info row_plain (parametric_info o) parametric_list refl (parametric_told o).0)
role_of_opcode (op.Exception o) = exception_roles o
role_of_opcode (op.Memory o) = is_plain _ (row_has memory_info row_plain (memory_info o) memory_list refl (memory_told o).0)
role_of_opcode (op.Const o) = is_plain _ (row_has const_info row_plain (const_info o) const_list refl (const_told o).0)
role_of_opcode (op.Numeric o) = is_plain _ (row_has numeric_info row_plain (numeric_info o) numeric_list refl (numeric_told o).0)
role_of_opcode (op.Bulk o) = is_plain _ (row_has bulk_info row_plain (bulk_info o) bulk_list refl (bulk_told o).0)
role_of_opcode (op.Gc o) = is_plain _ (row_has gc_info row_plain (gc_info o) gc_list refl (gc_told o).0)
role_of_opcode (op.Descriptor o) = is_plain _ (row_has descriptor_info row_plain (descriptor_info o) descriptor_list refl (descriptor_told o).0)
role_of_opcode (op.Simd o) = is_plain _ (row_has simd_info row_plain (simd_info o) simd_list refl (simd_told o).0)
role_of_opcode (op.SimdNumeric o) = is_plain _ (row_has simd_numeric_info row_plain (simd_numeric_info o) simd_numeric_list refl (simd_numeric_told o).0)
role_of_opcode (op.Atomic o) = is_plain _ (row_has atomic_info row_plain (atomic_info o) atomic_list refl (atomic_told o).0)
role_of_opcode (op.Shared o) = is_plain _ (row_has shared_info row_plain (shared_info o) shared_list refl (shared_told o).0)
role_of_opcode (op.Continuation o) = is_plain _ (row_has continuation_info row_plain (continuation_info o) continuation_list refl (continuation_told o).0)
