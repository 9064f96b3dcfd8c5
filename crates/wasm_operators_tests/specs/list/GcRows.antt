-- Operators of aggregates, casts and descriptors, as the list has them (written by docs/operators/make_list_rows.py).
use Rattle.std.specs.Prelude.{List, [], ◌∷◌, codes, Some, None}
use Rattle.wasm_operators_immediates.specs.declared.proposal.Proposal.TheVariants as proposal
use Rattle.wasm_operators_immediates.specs.Kinds.{Index, Heap, CastBranch, Count, Types, Elements, DataSegments, Fields}
use Rattle.wasm_operators_enums.specs.declared.gc.GcOperator.TheVariants as gc
use Rattle.wasm_operators_enums.specs.declared.gc.DescriptorOperator.TheVariants as descriptor
use Rattle.wasm_operators_enums.specs.Op as op
use Rattle.wasm_operators_tests.specs.list.Listed.{Carried, Listed, listed}

abbrev pub gc_rows : Carried → List Listed
gc_rows c =
    listed (op.Gc gc.RefEq) proposal.Gc (codes "ref.eq") None 0xd3 [] ∷
    listed (op.Gc (gc.StructNew c.number)) proposal.Gc (codes "struct.new") (Some 0xfb) 0x00 (Index Types ∷ []) ∷
    listed (op.Gc (gc.StructNewDefault c.number)) proposal.Gc (codes "struct.new_default") (Some 0xfb) 0x01 (Index Types ∷ []) ∷
    listed (op.Gc (gc.StructGet c.number c.number)) proposal.Gc (codes "struct.get") (Some 0xfb) 0x02 (Index Types ∷ Index Fields ∷ []) ∷
    listed (op.Gc (gc.StructGetS c.number c.number)) proposal.Gc (codes "struct.get_s") (Some 0xfb) 0x03 (Index Types ∷ Index Fields ∷ []) ∷
    listed (op.Gc (gc.StructGetU c.number c.number)) proposal.Gc (codes "struct.get_u") (Some 0xfb) 0x04 (Index Types ∷ Index Fields ∷ []) ∷
    listed (op.Gc (gc.StructSet c.number c.number)) proposal.Gc (codes "struct.set") (Some 0xfb) 0x05 (Index Types ∷ Index Fields ∷ []) ∷
    listed (op.Gc (gc.ArrayNew c.number)) proposal.Gc (codes "array.new") (Some 0xfb) 0x06 (Index Types ∷ []) ∷
    listed (op.Gc (gc.ArrayNewDefault c.number)) proposal.Gc (codes "array.new_default") (Some 0xfb) 0x07 (Index Types ∷ []) ∷
    listed (op.Gc (gc.ArrayNewFixed c.number c.number)) proposal.Gc (codes "array.new_fixed") (Some 0xfb) 0x08 (Index Types ∷ Count ∷ []) ∷
    listed (op.Gc (gc.ArrayNewData c.number c.number)) proposal.Gc (codes "array.new_data") (Some 0xfb) 0x09 (Index Types ∷ Index DataSegments ∷ []) ∷
    listed (op.Gc (gc.ArrayNewElem c.number c.number)) proposal.Gc (codes "array.new_elem") (Some 0xfb) 0x0a (Index Types ∷ Index Elements ∷ []) ∷
    listed (op.Gc (gc.ArrayGet c.number)) proposal.Gc (codes "array.get") (Some 0xfb) 0x0b (Index Types ∷ []) ∷
    listed (op.Gc (gc.ArrayGetS c.number)) proposal.Gc (codes "array.get_s") (Some 0xfb) 0x0c (Index Types ∷ []) ∷
    listed (op.Gc (gc.ArrayGetU c.number)) proposal.Gc (codes "array.get_u") (Some 0xfb) 0x0d (Index Types ∷ []) ∷
    listed (op.Gc (gc.ArraySet c.number)) proposal.Gc (codes "array.set") (Some 0xfb) 0x0e (Index Types ∷ []) ∷
    listed (op.Gc gc.ArrayLen) proposal.Gc (codes "array.len") (Some 0xfb) 0x0f [] ∷
    listed (op.Gc (gc.ArrayFill c.number)) proposal.Gc (codes "array.fill") (Some 0xfb) 0x10 (Index Types ∷ []) ∷
    listed (op.Gc (gc.ArrayCopy c.number c.number)) proposal.Gc (codes "array.copy") (Some 0xfb) 0x11 (Index Types ∷ Index Types ∷ []) ∷
    listed (op.Gc (gc.ArrayInitData c.number c.number)) proposal.Gc (codes "array.init_data") (Some 0xfb) 0x12 (Index Types ∷ Index DataSegments ∷ []) ∷
    listed (op.Gc (gc.ArrayInitElem c.number c.number)) proposal.Gc (codes "array.init_elem") (Some 0xfb) 0x13 (Index Types ∷ Index Elements ∷ []) ∷
    listed (op.Gc (gc.RefTestNonNull c.heap)) proposal.Gc (codes "ref.test") (Some 0xfb) 0x14 (Heap ∷ []) ∷
    listed (op.Gc (gc.RefTestNullable c.heap)) proposal.Gc (codes "ref.test") (Some 0xfb) 0x15 (Heap ∷ []) ∷
    listed (op.Gc (gc.RefCastNonNull c.heap)) proposal.Gc (codes "ref.cast") (Some 0xfb) 0x16 (Heap ∷ []) ∷
    listed (op.Gc (gc.RefCastNullable c.heap)) proposal.Gc (codes "ref.cast") (Some 0xfb) 0x17 (Heap ∷ []) ∷
    listed (op.Gc (gc.BrOnCast c.number c.reference c.reference)) proposal.Gc (codes "br_on_cast") (Some 0xfb) 0x18 (CastBranch ∷ []) ∷
    listed (op.Gc (gc.BrOnCastFail c.number c.reference c.reference)) proposal.Gc (codes "br_on_cast_fail") (Some 0xfb) 0x19 (CastBranch ∷ []) ∷
    listed (op.Gc gc.AnyConvertExtern) proposal.Gc (codes "any.convert_extern") (Some 0xfb) 0x1a [] ∷
    listed (op.Gc gc.ExternConvertAny) proposal.Gc (codes "extern.convert_any") (Some 0xfb) 0x1b [] ∷
    listed (op.Gc gc.RefI31) proposal.Gc (codes "ref.i31") (Some 0xfb) 0x1c [] ∷
    listed (op.Gc gc.I31GetS) proposal.Gc (codes "i31.get_s") (Some 0xfb) 0x1d [] ∷
    listed (op.Gc gc.I31GetU) proposal.Gc (codes "i31.get_u") (Some 0xfb) 0x1e [] ∷ []

abbrev pub descriptor_rows : Carried → List Listed
descriptor_rows c =
    listed (op.Descriptor (descriptor.StructNewDesc c.number)) proposal.CustomDescriptors (codes "struct.new_desc") (Some 0xfb) 0x20 (Index Types ∷ []) ∷
    listed (op.Descriptor (descriptor.StructNewDefaultDesc c.number)) proposal.CustomDescriptors (codes "struct.new_default_desc") (Some 0xfb) 0x21 (Index Types ∷ []) ∷
    listed (op.Descriptor (descriptor.RefGetDesc c.number)) proposal.CustomDescriptors (codes "ref.get_desc") (Some 0xfb) 0x22 (Index Types ∷ []) ∷
    listed (op.Descriptor (descriptor.RefCastDescEqNonNull c.heap)) proposal.CustomDescriptors (codes "ref.cast_desc_eq") (Some 0xfb) 0x23 (Heap ∷ []) ∷
    listed (op.Descriptor (descriptor.RefCastDescEqNullable c.heap)) proposal.CustomDescriptors (codes "ref.cast_desc_eq") (Some 0xfb) 0x24 (Heap ∷ []) ∷
    listed (op.Descriptor (descriptor.BrOnCastDescEq c.number c.reference c.reference)) proposal.CustomDescriptors (codes "br_on_cast_desc_eq") (Some 0xfb) 0x25 (CastBranch ∷ []) ∷
    listed (op.Descriptor (descriptor.BrOnCastDescEqFail c.number c.reference c.reference)) proposal.CustomDescriptors (codes "br_on_cast_desc_eq_fail") (Some 0xfb) 0x26 (CastBranch ∷ []) ∷ []
