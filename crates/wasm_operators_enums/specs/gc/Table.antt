-- Operators of aggregates, casts and descriptors: their rows of the table of opcodes
-- (WebAssembly 3.0, binary format, instructions, and appendix, index of instructions, and the proposals).
use Rattle.std.specs.Prelude.{Some, None, codes}
use Rattle.wasm_operators_immediates.specs.Info.{Info, row}
use Rattle.wasm_operators_immediates.specs.declared.proposal.Proposal.TheVariants.{CustomDescriptors, Gc}
use Rattle.wasm_operators_enums.specs.declared.gc.GcOperator.{GcOperator}
use Rattle.wasm_operators_enums.specs.declared.gc.GcOperator.TheVariants as gc
use Rattle.wasm_operators_enums.specs.declared.gc.DescriptorOperator.{DescriptorOperator}
use Rattle.wasm_operators_enums.specs.declared.gc.DescriptorOperator.TheVariants as descriptor

-- standard: binary-instr-aggr: opcodes
-- standard: binary-instr-ref: opcodes of ref.eq, ref.test, ref.cast and branches on casts
-- of aggregates, casts and `i31`
abbrev pub gc_info : GcOperator → Info
gc_info gc.RefEq = row Gc (codes "ref.eq") None 0xd3
gc_info (gc.StructNew struct_type_index) = row Gc (codes "struct.new") (Some 0xfb) 0x00
gc_info (gc.StructNewDefault struct_type_index) = row Gc (codes "struct.new_default") (Some 0xfb) 0x01
gc_info (gc.StructGet struct_type_index field_index) = row Gc (codes "struct.get") (Some 0xfb) 0x02
gc_info (gc.StructGetS struct_type_index field_index) = row Gc (codes "struct.get_s") (Some 0xfb) 0x03
gc_info (gc.StructGetU struct_type_index field_index) = row Gc (codes "struct.get_u") (Some 0xfb) 0x04
gc_info (gc.StructSet struct_type_index field_index) = row Gc (codes "struct.set") (Some 0xfb) 0x05
gc_info (gc.ArrayNew array_type_index) = row Gc (codes "array.new") (Some 0xfb) 0x06
gc_info (gc.ArrayNewDefault array_type_index) = row Gc (codes "array.new_default") (Some 0xfb) 0x07
gc_info (gc.ArrayNewFixed array_type_index array_size) = row Gc (codes "array.new_fixed") (Some 0xfb) 0x08
gc_info (gc.ArrayNewData array_type_index array_data_index) = row Gc (codes "array.new_data") (Some 0xfb) 0x09
gc_info (gc.ArrayNewElem array_type_index array_elem_index) = row Gc (codes "array.new_elem") (Some 0xfb) 0x0a
gc_info (gc.ArrayGet array_type_index) = row Gc (codes "array.get") (Some 0xfb) 0x0b
gc_info (gc.ArrayGetS array_type_index) = row Gc (codes "array.get_s") (Some 0xfb) 0x0c
gc_info (gc.ArrayGetU array_type_index) = row Gc (codes "array.get_u") (Some 0xfb) 0x0d
gc_info (gc.ArraySet array_type_index) = row Gc (codes "array.set") (Some 0xfb) 0x0e
gc_info gc.ArrayLen = row Gc (codes "array.len") (Some 0xfb) 0x0f
gc_info (gc.ArrayFill array_type_index) = row Gc (codes "array.fill") (Some 0xfb) 0x10
gc_info (gc.ArrayCopy array_type_index_dst array_type_index_src) = row Gc (codes "array.copy") (Some 0xfb) 0x11
gc_info (gc.ArrayInitData array_type_index array_data_index) = row Gc (codes "array.init_data") (Some 0xfb) 0x12
gc_info (gc.ArrayInitElem array_type_index array_elem_index) = row Gc (codes "array.init_elem") (Some 0xfb) 0x13
gc_info (gc.RefTestNonNull hty) = row Gc (codes "ref.test") (Some 0xfb) 0x14
gc_info (gc.RefTestNullable hty) = row Gc (codes "ref.test") (Some 0xfb) 0x15
gc_info (gc.RefCastNonNull hty) = row Gc (codes "ref.cast") (Some 0xfb) 0x16
gc_info (gc.RefCastNullable hty) = row Gc (codes "ref.cast") (Some 0xfb) 0x17
gc_info (gc.BrOnCast relative_depth from_ref_type to_ref_type) = row Gc (codes "br_on_cast") (Some 0xfb) 0x18
gc_info (gc.BrOnCastFail relative_depth from_ref_type to_ref_type) = row Gc (codes "br_on_cast_fail") (Some 0xfb) 0x19
gc_info gc.AnyConvertExtern = row Gc (codes "any.convert_extern") (Some 0xfb) 0x1a
gc_info gc.ExternConvertAny = row Gc (codes "extern.convert_any") (Some 0xfb) 0x1b
gc_info gc.RefI31 = row Gc (codes "ref.i31") (Some 0xfb) 0x1c
gc_info gc.I31GetS = row Gc (codes "i31.get_s") (Some 0xfb) 0x1d
gc_info gc.I31GetU = row Gc (codes "i31.get_u") (Some 0xfb) 0x1e

-- standard: proposal-custom-descriptors: opcodes
-- of descriptors (the proposal on custom descriptors)
abbrev pub descriptor_info : DescriptorOperator → Info
descriptor_info (descriptor.StructNewDesc struct_type_index) = row CustomDescriptors (codes "struct.new_desc") (Some 0xfb) 0x20
descriptor_info (descriptor.StructNewDefaultDesc struct_type_index) = row CustomDescriptors (codes "struct.new_default_desc")
    (Some 0xfb) 0x21
descriptor_info (descriptor.RefGetDesc type_index) = row CustomDescriptors (codes "ref.get_desc") (Some 0xfb) 0x22
descriptor_info (descriptor.RefCastDescEqNonNull hty) = row CustomDescriptors (codes "ref.cast_desc_eq") (Some 0xfb) 0x23
descriptor_info (descriptor.RefCastDescEqNullable hty) = row CustomDescriptors (codes "ref.cast_desc_eq") (Some 0xfb) 0x24
descriptor_info (descriptor.BrOnCastDescEq relative_depth from_ref_type to_ref_type) = row CustomDescriptors (codes "br_on_cast_desc_eq")
    (Some 0xfb) 0x25
descriptor_info (descriptor.BrOnCastDescEqFail relative_depth from_ref_type to_ref_type) = row CustomDescriptors
    (codes "br_on_cast_desc_eq_fail") (Some 0xfb) 0x26
