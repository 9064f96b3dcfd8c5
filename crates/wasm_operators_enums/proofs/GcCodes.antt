-- Operators of aggregates, casts and descriptors are found by prefix and code, and made of their immediates.
use Rattle.std.proofs.Common.{List, [], ◌∷◌, map, refl}
use Rattle.wasm_operators_immediates.proofs.Codes.{Told, Made}
use Rattle.wasm_operators_immediates.specs.Immediates.{kind_of}
use Rattle.wasm_operators_immediates.proofs.Makers.{Maker, bare, cast, heap, number, one, some_heap, some_reference, two}
use Rattle.wasm_operators_enums.specs.gc.Table.{gc_info, descriptor_info}
use Rattle.wasm_operators_enums.specs.gc.Immediates.{gc_immediates, descriptor_immediates}
use Rattle.wasm_operators_enums.specs.declared.gc.GcOperator.{GcOperator}
use Rattle.wasm_operators_enums.specs.declared.gc.GcOperator.TheVariants as gc
use Rattle.wasm_operators_enums.specs.declared.gc.DescriptorOperator.{DescriptorOperator}
use Rattle.wasm_operators_enums.specs.declared.gc.DescriptorOperator.TheVariants as descriptor

-- ---- gc

abbrev pub gc_list : List (GcOperator × Maker GcOperator)
gc_list =
    (gc.RefEq, bare gc.RefEq) ∷
    (gc.StructNew 0, one number gc.StructNew) ∷
    (gc.StructNewDefault 0, one number gc.StructNewDefault) ∷
    (gc.StructGet 0 0, two number number gc.StructGet) ∷
    (gc.StructGetS 0 0, two number number gc.StructGetS) ∷
    (gc.StructGetU 0 0, two number number gc.StructGetU) ∷
    (gc.StructSet 0 0, two number number gc.StructSet) ∷
    (gc.ArrayNew 0, one number gc.ArrayNew) ∷
    (gc.ArrayNewDefault 0, one number gc.ArrayNewDefault) ∷
    (gc.ArrayNewFixed 0 0, two number number gc.ArrayNewFixed) ∷
    (gc.ArrayNewData 0 0, two number number gc.ArrayNewData) ∷
    (gc.ArrayNewElem 0 0, two number number gc.ArrayNewElem) ∷
    (gc.ArrayGet 0, one number gc.ArrayGet) ∷
    (gc.ArrayGetS 0, one number gc.ArrayGetS) ∷
    (gc.ArrayGetU 0, one number gc.ArrayGetU) ∷
    (gc.ArraySet 0, one number gc.ArraySet) ∷
    (gc.ArrayLen, bare gc.ArrayLen) ∷
    (gc.ArrayFill 0, one number gc.ArrayFill) ∷
    (gc.ArrayCopy 0 0, two number number gc.ArrayCopy) ∷
    (gc.ArrayInitData 0 0, two number number gc.ArrayInitData) ∷
    (gc.ArrayInitElem 0 0, two number number gc.ArrayInitElem) ∷
    (gc.RefTestNonNull some_heap, one heap gc.RefTestNonNull) ∷
    (gc.RefTestNullable some_heap, one heap gc.RefTestNullable) ∷
    (gc.RefCastNonNull some_heap, one heap gc.RefCastNonNull) ∷
    (gc.RefCastNullable some_heap, one heap gc.RefCastNullable) ∷
    (gc.BrOnCast 0 some_reference some_reference, cast gc.BrOnCast) ∷
    (gc.BrOnCastFail 0 some_reference some_reference, cast gc.BrOnCastFail) ∷
    (gc.AnyConvertExtern, bare gc.AnyConvertExtern) ∷
    (gc.ExternConvertAny, bare gc.ExternConvertAny) ∷
    (gc.RefI31, bare gc.RefI31) ∷
    (gc.I31GetS, bare gc.I31GetS) ∷
    (gc.I31GetU, bare gc.I31GetU) ∷ []

pub gc_told : (o : GcOperator) → Told gc_info gc_immediates (map kind_of) gc_list o
gc_told gc.RefEq = (refl, refl)
gc_told (gc.StructNew struct_type_index) = (refl, refl)
gc_told (gc.StructNewDefault struct_type_index) = (refl, refl)
gc_told (gc.StructGet struct_type_index field_index) = (refl, refl)
gc_told (gc.StructGetS struct_type_index field_index) = (refl, refl)
gc_told (gc.StructGetU struct_type_index field_index) = (refl, refl)
gc_told (gc.StructSet struct_type_index field_index) = (refl, refl)
gc_told (gc.ArrayNew array_type_index) = (refl, refl)
gc_told (gc.ArrayNewDefault array_type_index) = (refl, refl)
gc_told (gc.ArrayNewFixed array_type_index array_size) = (refl, refl)
gc_told (gc.ArrayNewData array_type_index array_data_index) = (refl, refl)
gc_told (gc.ArrayNewElem array_type_index array_elem_index) = (refl, refl)
gc_told (gc.ArrayGet array_type_index) = (refl, refl)
gc_told (gc.ArrayGetS array_type_index) = (refl, refl)
gc_told (gc.ArrayGetU array_type_index) = (refl, refl)
gc_told (gc.ArraySet array_type_index) = (refl, refl)
gc_told gc.ArrayLen = (refl, refl)
gc_told (gc.ArrayFill array_type_index) = (refl, refl)
gc_told (gc.ArrayCopy array_type_index_dst array_type_index_src) = (refl, refl)
gc_told (gc.ArrayInitData array_type_index array_data_index) = (refl, refl)
gc_told (gc.ArrayInitElem array_type_index array_elem_index) = (refl, refl)
gc_told (gc.RefTestNonNull hty) = (refl, refl)
gc_told (gc.RefTestNullable hty) = (refl, refl)
gc_told (gc.RefCastNonNull hty) = (refl, refl)
gc_told (gc.RefCastNullable hty) = (refl, refl)
gc_told (gc.BrOnCast relative_depth from_ref_type to_ref_type) = (refl, refl)
gc_told (gc.BrOnCastFail relative_depth from_ref_type to_ref_type) = (refl, refl)
gc_told gc.AnyConvertExtern = (refl, refl)
gc_told gc.ExternConvertAny = (refl, refl)
gc_told gc.RefI31 = (refl, refl)
gc_told gc.I31GetS = (refl, refl)
gc_told gc.I31GetU = (refl, refl)

pub gc_made : (o : GcOperator) → Made gc_info gc_immediates (map kind_of) gc_list o
gc_made gc.RefEq = refl
gc_made (gc.StructNew struct_type_index) = refl
gc_made (gc.StructNewDefault struct_type_index) = refl
gc_made (gc.StructGet struct_type_index field_index) = refl
gc_made (gc.StructGetS struct_type_index field_index) = refl
gc_made (gc.StructGetU struct_type_index field_index) = refl
gc_made (gc.StructSet struct_type_index field_index) = refl
gc_made (gc.ArrayNew array_type_index) = refl
gc_made (gc.ArrayNewDefault array_type_index) = refl
gc_made (gc.ArrayNewFixed array_type_index array_size) = refl
gc_made (gc.ArrayNewData array_type_index array_data_index) = refl
gc_made (gc.ArrayNewElem array_type_index array_elem_index) = refl
gc_made (gc.ArrayGet array_type_index) = refl
gc_made (gc.ArrayGetS array_type_index) = refl
gc_made (gc.ArrayGetU array_type_index) = refl
gc_made (gc.ArraySet array_type_index) = refl
gc_made gc.ArrayLen = refl
gc_made (gc.ArrayFill array_type_index) = refl
gc_made (gc.ArrayCopy array_type_index_dst array_type_index_src) = refl
gc_made (gc.ArrayInitData array_type_index array_data_index) = refl
gc_made (gc.ArrayInitElem array_type_index array_elem_index) = refl
gc_made (gc.RefTestNonNull hty) = refl
gc_made (gc.RefTestNullable hty) = refl
gc_made (gc.RefCastNonNull hty) = refl
gc_made (gc.RefCastNullable hty) = refl
gc_made (gc.BrOnCast relative_depth from_ref_type to_ref_type) = refl
gc_made (gc.BrOnCastFail relative_depth from_ref_type to_ref_type) = refl
gc_made gc.AnyConvertExtern = refl
gc_made gc.ExternConvertAny = refl
gc_made gc.RefI31 = refl
gc_made gc.I31GetS = refl
gc_made gc.I31GetU = refl

-- ---- descriptor

abbrev pub descriptor_list : List (DescriptorOperator × Maker DescriptorOperator)
descriptor_list =
    (descriptor.StructNewDesc 0, one number descriptor.StructNewDesc) ∷
    (descriptor.StructNewDefaultDesc 0, one number descriptor.StructNewDefaultDesc) ∷
    (descriptor.RefGetDesc 0, one number descriptor.RefGetDesc) ∷
    (descriptor.RefCastDescEqNonNull some_heap, one heap descriptor.RefCastDescEqNonNull) ∷
    (descriptor.RefCastDescEqNullable some_heap, one heap descriptor.RefCastDescEqNullable) ∷
    (descriptor.BrOnCastDescEq 0 some_reference some_reference, cast descriptor.BrOnCastDescEq) ∷
    (descriptor.BrOnCastDescEqFail 0 some_reference some_reference, cast descriptor.BrOnCastDescEqFail) ∷ []

pub descriptor_told : (o : DescriptorOperator) → Told descriptor_info descriptor_immediates (map kind_of) descriptor_list o
descriptor_told (descriptor.StructNewDesc struct_type_index) = (refl, refl)
descriptor_told (descriptor.StructNewDefaultDesc struct_type_index) = (refl, refl)
descriptor_told (descriptor.RefGetDesc type_index) = (refl, refl)
descriptor_told (descriptor.RefCastDescEqNonNull hty) = (refl, refl)
descriptor_told (descriptor.RefCastDescEqNullable hty) = (refl, refl)
descriptor_told (descriptor.BrOnCastDescEq relative_depth from_ref_type to_ref_type) = (refl, refl)
descriptor_told (descriptor.BrOnCastDescEqFail relative_depth from_ref_type to_ref_type) = (refl, refl)

pub descriptor_made : (o : DescriptorOperator) → Made descriptor_info descriptor_immediates (map kind_of) descriptor_list o
descriptor_made (descriptor.StructNewDesc struct_type_index) = refl
descriptor_made (descriptor.StructNewDefaultDesc struct_type_index) = refl
descriptor_made (descriptor.RefGetDesc type_index) = refl
descriptor_made (descriptor.RefCastDescEqNonNull hty) = refl
descriptor_made (descriptor.RefCastDescEqNullable hty) = refl
descriptor_made (descriptor.BrOnCastDescEq relative_depth from_ref_type to_ref_type) = refl
descriptor_made (descriptor.BrOnCastDescEqFail relative_depth from_ref_type to_ref_type) = refl
