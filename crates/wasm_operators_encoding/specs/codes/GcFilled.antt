-- Operators of aggregates, casts and descriptors: each variant takes any immediates of its kinds.
use Rattle.std.proofs.Common.{true, map, refl}
use Rattle.wasm_operators_immediates.specs.Immediates.{kind_of}
use Rattle.wasm_operators_enums.specs.gc.Table.{gc_info, descriptor_info}
use Rattle.wasm_operators_enums.specs.gc.Immediates.{gc_immediates, descriptor_immediates}
use Rattle.wasm_operators_enums.specs.declared.gc.GcOperator.{GcOperator}
use Rattle.wasm_operators_enums.specs.declared.gc.GcOperator.TheVariants as gc
use Rattle.wasm_operators_enums.specs.declared.gc.DescriptorOperator.{DescriptorOperator}
use Rattle.wasm_operators_enums.specs.declared.gc.DescriptorOperator.TheVariants as descriptor
use Rattle.wasm_operators_encoding.specs.codes.Carried.{Carriers}
use Rattle.wasm_operators_encoding.specs.codes.Filled.{IsMaker, Fills, fills}

-- ---- gc

gc_by : (o : GcOperator) (f : Carriers (map kind_of (gc_immediates o)) → GcOperator)
    → IsMaker gc_info gc_immediates (λ o. true) o f → Fills gc_info gc_immediates (λ o. true) o
gc_by o f m = fills gc_info gc_immediates (λ o. true) o f m

pub gc_fills : (o : GcOperator) → Fills gc_info gc_immediates (λ o. true) o
gc_fills gc.RefEq = gc_by gc.RefEq (λ c. gc.RefEq) (λ c. (refl, refl, refl, refl))
gc_fills (gc.StructNew struct_type_index) = gc_by (gc.StructNew struct_type_index) (λ c. gc.StructNew c.0) (λ c. (refl, refl, refl, refl))
gc_fills (gc.StructNewDefault struct_type_index) = gc_by (gc.StructNewDefault struct_type_index) (λ c. gc.StructNewDefault c.0) (λ c. (refl, refl, refl, refl))
gc_fills (gc.StructGet struct_type_index field_index) = gc_by (gc.StructGet struct_type_index field_index) (λ c. gc.StructGet c.0 c.1.0) (λ c. (refl, refl, refl, refl))
gc_fills (gc.StructGetS struct_type_index field_index) = gc_by (gc.StructGetS struct_type_index field_index) (λ c. gc.StructGetS c.0 c.1.0) (λ c. (refl, refl, refl, refl))
gc_fills (gc.StructGetU struct_type_index field_index) = gc_by (gc.StructGetU struct_type_index field_index) (λ c. gc.StructGetU c.0 c.1.0) (λ c. (refl, refl, refl, refl))
gc_fills (gc.StructSet struct_type_index field_index) = gc_by (gc.StructSet struct_type_index field_index) (λ c. gc.StructSet c.0 c.1.0) (λ c. (refl, refl, refl, refl))
gc_fills (gc.ArrayNew array_type_index) = gc_by (gc.ArrayNew array_type_index) (λ c. gc.ArrayNew c.0) (λ c. (refl, refl, refl, refl))
gc_fills (gc.ArrayNewDefault array_type_index) = gc_by (gc.ArrayNewDefault array_type_index) (λ c. gc.ArrayNewDefault c.0) (λ c. (refl, refl, refl, refl))
gc_fills (gc.ArrayNewFixed array_type_index array_size) = gc_by (gc.ArrayNewFixed array_type_index array_size) (λ c. gc.ArrayNewFixed c.0 c.1.0) (λ c. (refl, refl, refl, refl))
gc_fills (gc.ArrayNewData array_type_index array_data_index) = gc_by (gc.ArrayNewData array_type_index array_data_index) (λ c. gc.ArrayNewData c.0 c.1.0) (λ c. (refl, refl, refl, refl))
gc_fills (gc.ArrayNewElem array_type_index array_elem_index) = gc_by (gc.ArrayNewElem array_type_index array_elem_index) (λ c. gc.ArrayNewElem c.0 c.1.0) (λ c. (refl, refl, refl, refl))
gc_fills (gc.ArrayGet array_type_index) = gc_by (gc.ArrayGet array_type_index) (λ c. gc.ArrayGet c.0) (λ c. (refl, refl, refl, refl))
gc_fills (gc.ArrayGetS array_type_index) = gc_by (gc.ArrayGetS array_type_index) (λ c. gc.ArrayGetS c.0) (λ c. (refl, refl, refl, refl))
gc_fills (gc.ArrayGetU array_type_index) = gc_by (gc.ArrayGetU array_type_index) (λ c. gc.ArrayGetU c.0) (λ c. (refl, refl, refl, refl))
gc_fills (gc.ArraySet array_type_index) = gc_by (gc.ArraySet array_type_index) (λ c. gc.ArraySet c.0) (λ c. (refl, refl, refl, refl))
gc_fills gc.ArrayLen = gc_by gc.ArrayLen (λ c. gc.ArrayLen) (λ c. (refl, refl, refl, refl))
gc_fills (gc.ArrayFill array_type_index) = gc_by (gc.ArrayFill array_type_index) (λ c. gc.ArrayFill c.0) (λ c. (refl, refl, refl, refl))
gc_fills (gc.ArrayCopy array_type_index_dst array_type_index_src) = gc_by (gc.ArrayCopy array_type_index_dst array_type_index_src) (λ c. gc.ArrayCopy c.0 c.1.0) (λ c. (refl, refl, refl, refl))
gc_fills (gc.ArrayInitData array_type_index array_data_index) = gc_by (gc.ArrayInitData array_type_index array_data_index) (λ c. gc.ArrayInitData c.0 c.1.0) (λ c. (refl, refl, refl, refl))
gc_fills (gc.ArrayInitElem array_type_index array_elem_index) = gc_by (gc.ArrayInitElem array_type_index array_elem_index) (λ c. gc.ArrayInitElem c.0 c.1.0) (λ c. (refl, refl, refl, refl))
gc_fills (gc.RefTestNonNull hty) = gc_by (gc.RefTestNonNull hty) (λ c. gc.RefTestNonNull c.0) (λ c. (refl, refl, refl, refl))
gc_fills (gc.RefTestNullable hty) = gc_by (gc.RefTestNullable hty) (λ c. gc.RefTestNullable c.0) (λ c. (refl, refl, refl, refl))
gc_fills (gc.RefCastNonNull hty) = gc_by (gc.RefCastNonNull hty) (λ c. gc.RefCastNonNull c.0) (λ c. (refl, refl, refl, refl))
gc_fills (gc.RefCastNullable hty) = gc_by (gc.RefCastNullable hty) (λ c. gc.RefCastNullable c.0) (λ c. (refl, refl, refl, refl))
gc_fills (gc.BrOnCast relative_depth from_ref_type to_ref_type) = gc_by (gc.BrOnCast relative_depth from_ref_type to_ref_type) (λ c. gc.BrOnCast c.0.0 c.0.1 c.0.2) (λ c. (refl, refl, refl, refl))
gc_fills (gc.BrOnCastFail a b c) = gc_by (gc.BrOnCastFail a b c) (λ x. gc.BrOnCastFail x.0.0 x.0.1 x.0.2) (λ x. (refl, refl, refl, refl))
gc_fills gc.AnyConvertExtern = gc_by gc.AnyConvertExtern (λ c. gc.AnyConvertExtern) (λ c. (refl, refl, refl, refl))
gc_fills gc.ExternConvertAny = gc_by gc.ExternConvertAny (λ c. gc.ExternConvertAny) (λ c. (refl, refl, refl, refl))
gc_fills gc.RefI31 = gc_by gc.RefI31 (λ c. gc.RefI31) (λ c. (refl, refl, refl, refl))
gc_fills gc.I31GetS = gc_by gc.I31GetS (λ c. gc.I31GetS) (λ c. (refl, refl, refl, refl))
gc_fills gc.I31GetU = gc_by gc.I31GetU (λ c. gc.I31GetU) (λ c. (refl, refl, refl, refl))

-- ---- descriptor

descriptor_by : (o : DescriptorOperator) (f : Carriers (map kind_of (descriptor_immediates o)) → DescriptorOperator)
    → IsMaker descriptor_info descriptor_immediates (λ o. true) o f → Fills descriptor_info descriptor_immediates (λ o. true) o
descriptor_by o f m = fills descriptor_info descriptor_immediates (λ o. true) o f m

pub descriptor_fills : (o : DescriptorOperator) → Fills descriptor_info descriptor_immediates (λ o. true) o
descriptor_fills (descriptor.StructNewDesc struct_type_index) = descriptor_by (descriptor.StructNewDesc struct_type_index) (λ c. descriptor.StructNewDesc c.0) (λ c. (refl, refl, refl, refl))
descriptor_fills (descriptor.StructNewDefaultDesc a) = descriptor_by (descriptor.StructNewDefaultDesc a) (λ c. descriptor.StructNewDefaultDesc c.0) (λ c. (refl, refl, refl, refl))
descriptor_fills (descriptor.RefGetDesc type_index) = descriptor_by (descriptor.RefGetDesc type_index) (λ c. descriptor.RefGetDesc c.0) (λ c. (refl, refl, refl, refl))
descriptor_fills (descriptor.RefCastDescEqNonNull hty) = descriptor_by (descriptor.RefCastDescEqNonNull hty) (λ c. descriptor.RefCastDescEqNonNull c.0) (λ c. (refl, refl, refl, refl))
descriptor_fills (descriptor.RefCastDescEqNullable hty) = descriptor_by (descriptor.RefCastDescEqNullable hty) (λ c. descriptor.RefCastDescEqNullable c.0) (λ c. (refl, refl, refl, refl))
descriptor_fills (descriptor.BrOnCastDescEq a b c) = descriptor_by (descriptor.BrOnCastDescEq a b c) (λ x. descriptor.BrOnCastDescEq x.0.0 x.0.1 x.0.2) (λ x. (refl, refl, refl, refl))
descriptor_fills (descriptor.BrOnCastDescEqFail a b c) = descriptor_by (descriptor.BrOnCastDescEqFail a b c) (λ x. descriptor.BrOnCastDescEqFail x.0.0 x.0.1 x.0.2) (λ x. (refl, refl, refl, refl))
