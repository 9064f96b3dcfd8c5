-- Operators of aggregates, casts and descriptors: what each carries behind its opcode,
-- in the order of the bytes (WebAssembly 3.0, binary format, instructions, and the proposals).
use Rattle.std.specs.Prelude.{List, [], ◌∷◌}
use Rattle.wasm_operators_immediates.specs.Kinds.{DataSegments, Elements, Fields, Types}
use Rattle.wasm_operators_immediates.specs.Immediates.{Immediate, CastBranch, Count, Heap, Index}
use Rattle.wasm_operators_enums.specs.declared.gc.GcOperator.{GcOperator}
use Rattle.wasm_operators_enums.specs.declared.gc.GcOperator.TheVariants as gc
use Rattle.wasm_operators_enums.specs.declared.gc.DescriptorOperator.{DescriptorOperator}
use Rattle.wasm_operators_enums.specs.declared.gc.DescriptorOperator.TheVariants as descriptor

-- standard: binary-instr-aggr: what follows each opcode
-- standard: binary-instr-ref: what follows each opcode
-- of aggregates, casts and `i31`
abbrev pub gc_immediates : GcOperator → List Immediate
gc_immediates gc.RefEq = []
gc_immediates (gc.StructNew struct_type_index) = Index Types struct_type_index ∷ []
gc_immediates (gc.StructNewDefault struct_type_index) = Index Types struct_type_index ∷ []
gc_immediates (gc.StructGet struct_type_index field_index) = Index Types struct_type_index ∷ Index Fields field_index ∷ []
gc_immediates (gc.StructGetS struct_type_index field_index) = Index Types struct_type_index ∷ Index Fields field_index ∷ []
gc_immediates (gc.StructGetU struct_type_index field_index) = Index Types struct_type_index ∷ Index Fields field_index ∷ []
gc_immediates (gc.StructSet struct_type_index field_index) = Index Types struct_type_index ∷ Index Fields field_index ∷ []
gc_immediates (gc.ArrayNew array_type_index) = Index Types array_type_index ∷ []
gc_immediates (gc.ArrayNewDefault array_type_index) = Index Types array_type_index ∷ []
gc_immediates (gc.ArrayNewFixed array_type_index array_size) = Index Types array_type_index ∷ Count array_size ∷ []
gc_immediates (gc.ArrayNewData array_type_index array_data_index) = Index Types array_type_index ∷ Index DataSegments array_data_index ∷ []
gc_immediates (gc.ArrayNewElem array_type_index array_elem_index) = Index Types array_type_index ∷ Index Elements array_elem_index ∷ []
gc_immediates (gc.ArrayGet array_type_index) = Index Types array_type_index ∷ []
gc_immediates (gc.ArrayGetS array_type_index) = Index Types array_type_index ∷ []
gc_immediates (gc.ArrayGetU array_type_index) = Index Types array_type_index ∷ []
gc_immediates (gc.ArraySet array_type_index) = Index Types array_type_index ∷ []
gc_immediates gc.ArrayLen = []
gc_immediates (gc.ArrayFill array_type_index) = Index Types array_type_index ∷ []
gc_immediates (gc.ArrayCopy array_type_index_dst array_type_index_src) = Index Types array_type_index_dst ∷ Index Types array_type_index_src ∷ []
gc_immediates (gc.ArrayInitData array_type_index array_data_index) = Index Types array_type_index ∷ Index DataSegments array_data_index ∷ []
gc_immediates (gc.ArrayInitElem array_type_index array_elem_index) = Index Types array_type_index ∷ Index Elements array_elem_index ∷ []
gc_immediates (gc.RefTestNonNull hty) = Heap hty ∷ []
gc_immediates (gc.RefTestNullable hty) = Heap hty ∷ []
gc_immediates (gc.RefCastNonNull hty) = Heap hty ∷ []
gc_immediates (gc.RefCastNullable hty) = Heap hty ∷ []
gc_immediates (gc.BrOnCast relative_depth from_ref_type to_ref_type) = CastBranch relative_depth from_ref_type to_ref_type ∷ []
gc_immediates (gc.BrOnCastFail relative_depth from_ref_type to_ref_type) = CastBranch relative_depth from_ref_type to_ref_type ∷ []
gc_immediates gc.AnyConvertExtern = []
gc_immediates gc.ExternConvertAny = []
gc_immediates gc.RefI31 = []
gc_immediates gc.I31GetS = []
gc_immediates gc.I31GetU = []

-- standard: proposal-custom-descriptors: what follows each opcode
-- of descriptors (the proposal on custom descriptors)
abbrev pub descriptor_immediates : DescriptorOperator → List Immediate
descriptor_immediates (descriptor.StructNewDesc struct_type_index) = Index Types struct_type_index ∷ []
descriptor_immediates (descriptor.StructNewDefaultDesc struct_type_index) = Index Types struct_type_index ∷ []
descriptor_immediates (descriptor.RefGetDesc type_index) = Index Types type_index ∷ []
descriptor_immediates (descriptor.RefCastDescEqNonNull hty) = Heap hty ∷ []
descriptor_immediates (descriptor.RefCastDescEqNullable hty) = Heap hty ∷ []
descriptor_immediates (descriptor.BrOnCastDescEq relative_depth from_ref_type to_ref_type) = CastBranch relative_depth from_ref_type to_ref_type ∷ []
descriptor_immediates (descriptor.BrOnCastDescEqFail relative_depth from_ref_type to_ref_type) = CastBranch relative_depth from_ref_type to_ref_type ∷ []
