-- Operators of atomic accesses, as the list has them (written by docs/operators/make_list_rows.py).
use Rattle.std.specs.Prelude.{List, [], ◌∷◌, codes, Some}
use Rattle.wasm_operators_immediates.specs.declared.proposal.Proposal.TheVariants as proposal
use Rattle.wasm_operators_immediates.specs.Kinds.{Index, MemoryArgument, MemoryOrdering, ZeroByte, Types, Tables, Globals, Fields, Atomic, ReadModifyWrite}
use Rattle.wasm_operators_enums.specs.declared.atomic.AtomicOperator.TheVariants as atomic
use Rattle.wasm_operators_enums.specs.declared.atomic.SharedOperator.TheVariants as shared
use Rattle.wasm_operators_enums.specs.Op as op
use Rattle.wasm_operators_tests.specs.list.Listed.{Carried, Listed, listed}

abbrev pub atomic_rows : Carried → List Listed
atomic_rows c =
    listed (op.Atomic (atomic.MemoryAtomicNotify c.memarg)) proposal.Threads (codes "memory.atomic.notify") (Some 0xfe) 0x00 (MemoryArgument Atomic 2 ∷ []) ∷
    listed (op.Atomic (atomic.MemoryAtomicWait32 c.memarg)) proposal.Threads (codes "memory.atomic.wait32") (Some 0xfe) 0x01 (MemoryArgument Atomic 2 ∷ []) ∷
    listed (op.Atomic (atomic.MemoryAtomicWait64 c.memarg)) proposal.Threads (codes "memory.atomic.wait64") (Some 0xfe) 0x02 (MemoryArgument Atomic 3 ∷ []) ∷
    listed (op.Atomic atomic.AtomicFence) proposal.Threads (codes "atomic.fence") (Some 0xfe) 0x03 (ZeroByte ∷ []) ∷
    listed (op.Atomic (atomic.I32AtomicLoad c.memarg)) proposal.Threads (codes "i32.atomic.load") (Some 0xfe) 0x10 (MemoryArgument Atomic 2 ∷ []) ∷
    listed (op.Atomic (atomic.I64AtomicLoad c.memarg)) proposal.Threads (codes "i64.atomic.load") (Some 0xfe) 0x11 (MemoryArgument Atomic 3 ∷ []) ∷
    listed (op.Atomic (atomic.I32AtomicLoad8U c.memarg)) proposal.Threads (codes "i32.atomic.load8_u") (Some 0xfe) 0x12 (MemoryArgument Atomic 0 ∷ []) ∷
    listed (op.Atomic (atomic.I32AtomicLoad16U c.memarg)) proposal.Threads (codes "i32.atomic.load16_u") (Some 0xfe) 0x13 (MemoryArgument Atomic 1 ∷ []) ∷
    listed (op.Atomic (atomic.I64AtomicLoad8U c.memarg)) proposal.Threads (codes "i64.atomic.load8_u") (Some 0xfe) 0x14 (MemoryArgument Atomic 0 ∷ []) ∷
    listed (op.Atomic (atomic.I64AtomicLoad16U c.memarg)) proposal.Threads (codes "i64.atomic.load16_u") (Some 0xfe) 0x15 (MemoryArgument Atomic 1 ∷ []) ∷
    listed (op.Atomic (atomic.I64AtomicLoad32U c.memarg)) proposal.Threads (codes "i64.atomic.load32_u") (Some 0xfe) 0x16 (MemoryArgument Atomic 2 ∷ []) ∷
    listed (op.Atomic (atomic.I32AtomicStore c.memarg)) proposal.Threads (codes "i32.atomic.store") (Some 0xfe) 0x17 (MemoryArgument Atomic 2 ∷ []) ∷
    listed (op.Atomic (atomic.I64AtomicStore c.memarg)) proposal.Threads (codes "i64.atomic.store") (Some 0xfe) 0x18 (MemoryArgument Atomic 3 ∷ []) ∷
    listed (op.Atomic (atomic.I32AtomicStore8 c.memarg)) proposal.Threads (codes "i32.atomic.store8") (Some 0xfe) 0x19 (MemoryArgument Atomic 0 ∷ []) ∷
    listed (op.Atomic (atomic.I32AtomicStore16 c.memarg)) proposal.Threads (codes "i32.atomic.store16") (Some 0xfe) 0x1a (MemoryArgument Atomic 1 ∷ []) ∷
    listed (op.Atomic (atomic.I64AtomicStore8 c.memarg)) proposal.Threads (codes "i64.atomic.store8") (Some 0xfe) 0x1b (MemoryArgument Atomic 0 ∷ []) ∷
    listed (op.Atomic (atomic.I64AtomicStore16 c.memarg)) proposal.Threads (codes "i64.atomic.store16") (Some 0xfe) 0x1c (MemoryArgument Atomic 1 ∷ []) ∷
    listed (op.Atomic (atomic.I64AtomicStore32 c.memarg)) proposal.Threads (codes "i64.atomic.store32") (Some 0xfe) 0x1d (MemoryArgument Atomic 2 ∷ []) ∷
    listed (op.Atomic (atomic.I32AtomicRmwAdd c.memarg)) proposal.Threads (codes "i32.atomic.rmw.add") (Some 0xfe) 0x1e (MemoryArgument ReadModifyWrite 2 ∷ []) ∷
    listed (op.Atomic (atomic.I64AtomicRmwAdd c.memarg)) proposal.Threads (codes "i64.atomic.rmw.add") (Some 0xfe) 0x1f (MemoryArgument ReadModifyWrite 3 ∷ []) ∷
    listed (op.Atomic (atomic.I32AtomicRmw8AddU c.memarg)) proposal.Threads (codes "i32.atomic.rmw8.add_u") (Some 0xfe) 0x20 (MemoryArgument ReadModifyWrite 0 ∷ []) ∷
    listed (op.Atomic (atomic.I32AtomicRmw16AddU c.memarg)) proposal.Threads (codes "i32.atomic.rmw16.add_u") (Some 0xfe) 0x21 (MemoryArgument ReadModifyWrite 1 ∷ []) ∷
    listed (op.Atomic (atomic.I64AtomicRmw8AddU c.memarg)) proposal.Threads (codes "i64.atomic.rmw8.add_u") (Some 0xfe) 0x22 (MemoryArgument ReadModifyWrite 0 ∷ []) ∷
    listed (op.Atomic (atomic.I64AtomicRmw16AddU c.memarg)) proposal.Threads (codes "i64.atomic.rmw16.add_u") (Some 0xfe) 0x23 (MemoryArgument ReadModifyWrite 1 ∷ []) ∷
    listed (op.Atomic (atomic.I64AtomicRmw32AddU c.memarg)) proposal.Threads (codes "i64.atomic.rmw32.add_u") (Some 0xfe) 0x24 (MemoryArgument ReadModifyWrite 2 ∷ []) ∷
    listed (op.Atomic (atomic.I32AtomicRmwSub c.memarg)) proposal.Threads (codes "i32.atomic.rmw.sub") (Some 0xfe) 0x25 (MemoryArgument ReadModifyWrite 2 ∷ []) ∷
    listed (op.Atomic (atomic.I64AtomicRmwSub c.memarg)) proposal.Threads (codes "i64.atomic.rmw.sub") (Some 0xfe) 0x26 (MemoryArgument ReadModifyWrite 3 ∷ []) ∷
    listed (op.Atomic (atomic.I32AtomicRmw8SubU c.memarg)) proposal.Threads (codes "i32.atomic.rmw8.sub_u") (Some 0xfe) 0x27 (MemoryArgument ReadModifyWrite 0 ∷ []) ∷
    listed (op.Atomic (atomic.I32AtomicRmw16SubU c.memarg)) proposal.Threads (codes "i32.atomic.rmw16.sub_u") (Some 0xfe) 0x28 (MemoryArgument ReadModifyWrite 1 ∷ []) ∷
    listed (op.Atomic (atomic.I64AtomicRmw8SubU c.memarg)) proposal.Threads (codes "i64.atomic.rmw8.sub_u") (Some 0xfe) 0x29 (MemoryArgument ReadModifyWrite 0 ∷ []) ∷
    listed (op.Atomic (atomic.I64AtomicRmw16SubU c.memarg)) proposal.Threads (codes "i64.atomic.rmw16.sub_u") (Some 0xfe) 0x2a (MemoryArgument ReadModifyWrite 1 ∷ []) ∷
    listed (op.Atomic (atomic.I64AtomicRmw32SubU c.memarg)) proposal.Threads (codes "i64.atomic.rmw32.sub_u") (Some 0xfe) 0x2b (MemoryArgument ReadModifyWrite 2 ∷ []) ∷
    listed (op.Atomic (atomic.I32AtomicRmwAnd c.memarg)) proposal.Threads (codes "i32.atomic.rmw.and") (Some 0xfe) 0x2c (MemoryArgument ReadModifyWrite 2 ∷ []) ∷
    listed (op.Atomic (atomic.I64AtomicRmwAnd c.memarg)) proposal.Threads (codes "i64.atomic.rmw.and") (Some 0xfe) 0x2d (MemoryArgument ReadModifyWrite 3 ∷ []) ∷
    listed (op.Atomic (atomic.I32AtomicRmw8AndU c.memarg)) proposal.Threads (codes "i32.atomic.rmw8.and_u") (Some 0xfe) 0x2e (MemoryArgument ReadModifyWrite 0 ∷ []) ∷
    listed (op.Atomic (atomic.I32AtomicRmw16AndU c.memarg)) proposal.Threads (codes "i32.atomic.rmw16.and_u") (Some 0xfe) 0x2f (MemoryArgument ReadModifyWrite 1 ∷ []) ∷
    listed (op.Atomic (atomic.I64AtomicRmw8AndU c.memarg)) proposal.Threads (codes "i64.atomic.rmw8.and_u") (Some 0xfe) 0x30 (MemoryArgument ReadModifyWrite 0 ∷ []) ∷
    listed (op.Atomic (atomic.I64AtomicRmw16AndU c.memarg)) proposal.Threads (codes "i64.atomic.rmw16.and_u") (Some 0xfe) 0x31 (MemoryArgument ReadModifyWrite 1 ∷ []) ∷
    listed (op.Atomic (atomic.I64AtomicRmw32AndU c.memarg)) proposal.Threads (codes "i64.atomic.rmw32.and_u") (Some 0xfe) 0x32 (MemoryArgument ReadModifyWrite 2 ∷ []) ∷
    listed (op.Atomic (atomic.I32AtomicRmwOr c.memarg)) proposal.Threads (codes "i32.atomic.rmw.or") (Some 0xfe) 0x33 (MemoryArgument ReadModifyWrite 2 ∷ []) ∷
    listed (op.Atomic (atomic.I64AtomicRmwOr c.memarg)) proposal.Threads (codes "i64.atomic.rmw.or") (Some 0xfe) 0x34 (MemoryArgument ReadModifyWrite 3 ∷ []) ∷
    listed (op.Atomic (atomic.I32AtomicRmw8OrU c.memarg)) proposal.Threads (codes "i32.atomic.rmw8.or_u") (Some 0xfe) 0x35 (MemoryArgument ReadModifyWrite 0 ∷ []) ∷
    listed (op.Atomic (atomic.I32AtomicRmw16OrU c.memarg)) proposal.Threads (codes "i32.atomic.rmw16.or_u") (Some 0xfe) 0x36 (MemoryArgument ReadModifyWrite 1 ∷ []) ∷
    listed (op.Atomic (atomic.I64AtomicRmw8OrU c.memarg)) proposal.Threads (codes "i64.atomic.rmw8.or_u") (Some 0xfe) 0x37 (MemoryArgument ReadModifyWrite 0 ∷ []) ∷
    listed (op.Atomic (atomic.I64AtomicRmw16OrU c.memarg)) proposal.Threads (codes "i64.atomic.rmw16.or_u") (Some 0xfe) 0x38 (MemoryArgument ReadModifyWrite 1 ∷ []) ∷
    listed (op.Atomic (atomic.I64AtomicRmw32OrU c.memarg)) proposal.Threads (codes "i64.atomic.rmw32.or_u") (Some 0xfe) 0x39 (MemoryArgument ReadModifyWrite 2 ∷ []) ∷
    listed (op.Atomic (atomic.I32AtomicRmwXor c.memarg)) proposal.Threads (codes "i32.atomic.rmw.xor") (Some 0xfe) 0x3a (MemoryArgument ReadModifyWrite 2 ∷ []) ∷
    listed (op.Atomic (atomic.I64AtomicRmwXor c.memarg)) proposal.Threads (codes "i64.atomic.rmw.xor") (Some 0xfe) 0x3b (MemoryArgument ReadModifyWrite 3 ∷ []) ∷
    listed (op.Atomic (atomic.I32AtomicRmw8XorU c.memarg)) proposal.Threads (codes "i32.atomic.rmw8.xor_u") (Some 0xfe) 0x3c (MemoryArgument ReadModifyWrite 0 ∷ []) ∷
    listed (op.Atomic (atomic.I32AtomicRmw16XorU c.memarg)) proposal.Threads (codes "i32.atomic.rmw16.xor_u") (Some 0xfe) 0x3d (MemoryArgument ReadModifyWrite 1 ∷ []) ∷
    listed (op.Atomic (atomic.I64AtomicRmw8XorU c.memarg)) proposal.Threads (codes "i64.atomic.rmw8.xor_u") (Some 0xfe) 0x3e (MemoryArgument ReadModifyWrite 0 ∷ []) ∷
    listed (op.Atomic (atomic.I64AtomicRmw16XorU c.memarg)) proposal.Threads (codes "i64.atomic.rmw16.xor_u") (Some 0xfe) 0x3f (MemoryArgument ReadModifyWrite 1 ∷ []) ∷
    listed (op.Atomic (atomic.I64AtomicRmw32XorU c.memarg)) proposal.Threads (codes "i64.atomic.rmw32.xor_u") (Some 0xfe) 0x40 (MemoryArgument ReadModifyWrite 2 ∷ []) ∷
    listed (op.Atomic (atomic.I32AtomicRmwXchg c.memarg)) proposal.Threads (codes "i32.atomic.rmw.xchg") (Some 0xfe) 0x41 (MemoryArgument ReadModifyWrite 2 ∷ []) ∷
    listed (op.Atomic (atomic.I64AtomicRmwXchg c.memarg)) proposal.Threads (codes "i64.atomic.rmw.xchg") (Some 0xfe) 0x42 (MemoryArgument ReadModifyWrite 3 ∷ []) ∷
    listed (op.Atomic (atomic.I32AtomicRmw8XchgU c.memarg)) proposal.Threads (codes "i32.atomic.rmw8.xchg_u") (Some 0xfe) 0x43 (MemoryArgument ReadModifyWrite 0 ∷ []) ∷
    listed (op.Atomic (atomic.I32AtomicRmw16XchgU c.memarg)) proposal.Threads (codes "i32.atomic.rmw16.xchg_u") (Some 0xfe) 0x44 (MemoryArgument ReadModifyWrite 1 ∷ []) ∷
    listed (op.Atomic (atomic.I64AtomicRmw8XchgU c.memarg)) proposal.Threads (codes "i64.atomic.rmw8.xchg_u") (Some 0xfe) 0x45 (MemoryArgument ReadModifyWrite 0 ∷ []) ∷
    listed (op.Atomic (atomic.I64AtomicRmw16XchgU c.memarg)) proposal.Threads (codes "i64.atomic.rmw16.xchg_u") (Some 0xfe) 0x46 (MemoryArgument ReadModifyWrite 1 ∷ []) ∷
    listed (op.Atomic (atomic.I64AtomicRmw32XchgU c.memarg)) proposal.Threads (codes "i64.atomic.rmw32.xchg_u") (Some 0xfe) 0x47 (MemoryArgument ReadModifyWrite 2 ∷ []) ∷
    listed (op.Atomic (atomic.I32AtomicRmwCmpxchg c.memarg)) proposal.Threads (codes "i32.atomic.rmw.cmpxchg") (Some 0xfe) 0x48 (MemoryArgument ReadModifyWrite 2 ∷ []) ∷
    listed (op.Atomic (atomic.I64AtomicRmwCmpxchg c.memarg)) proposal.Threads (codes "i64.atomic.rmw.cmpxchg") (Some 0xfe) 0x49 (MemoryArgument ReadModifyWrite 3 ∷ []) ∷
    listed (op.Atomic (atomic.I32AtomicRmw8CmpxchgU c.memarg)) proposal.Threads (codes "i32.atomic.rmw8.cmpxchg_u") (Some 0xfe) 0x4a (MemoryArgument ReadModifyWrite 0 ∷ []) ∷
    listed (op.Atomic (atomic.I32AtomicRmw16CmpxchgU c.memarg)) proposal.Threads (codes "i32.atomic.rmw16.cmpxchg_u") (Some 0xfe) 0x4b (MemoryArgument ReadModifyWrite 1 ∷ []) ∷
    listed (op.Atomic (atomic.I64AtomicRmw8CmpxchgU c.memarg)) proposal.Threads (codes "i64.atomic.rmw8.cmpxchg_u") (Some 0xfe) 0x4c (MemoryArgument ReadModifyWrite 0 ∷ []) ∷
    listed (op.Atomic (atomic.I64AtomicRmw16CmpxchgU c.memarg)) proposal.Threads (codes "i64.atomic.rmw16.cmpxchg_u") (Some 0xfe) 0x4d (MemoryArgument ReadModifyWrite 1 ∷ []) ∷
    listed (op.Atomic (atomic.I64AtomicRmw32CmpxchgU c.memarg)) proposal.Threads (codes "i64.atomic.rmw32.cmpxchg_u") (Some 0xfe) 0x4e (MemoryArgument ReadModifyWrite 2 ∷ []) ∷ []

abbrev pub shared_rows : Carried → List Listed
shared_rows c =
    listed (op.Shared (shared.GlobalAtomicGet c.ordering c.number)) proposal.SharedEverythingThreads (codes "global.atomic.get") (Some 0xfe) 0x4f (MemoryOrdering ∷ Index Globals ∷ []) ∷
    listed (op.Shared (shared.GlobalAtomicSet c.ordering c.number)) proposal.SharedEverythingThreads (codes "global.atomic.set") (Some 0xfe) 0x50 (MemoryOrdering ∷ Index Globals ∷ []) ∷
    listed (op.Shared (shared.GlobalAtomicRmwAdd c.ordering c.number)) proposal.SharedEverythingThreads (codes "global.atomic.rmw.add") (Some 0xfe) 0x51 (MemoryOrdering ∷ Index Globals ∷ []) ∷
    listed (op.Shared (shared.GlobalAtomicRmwSub c.ordering c.number)) proposal.SharedEverythingThreads (codes "global.atomic.rmw.sub") (Some 0xfe) 0x52 (MemoryOrdering ∷ Index Globals ∷ []) ∷
    listed (op.Shared (shared.GlobalAtomicRmwAnd c.ordering c.number)) proposal.SharedEverythingThreads (codes "global.atomic.rmw.and") (Some 0xfe) 0x53 (MemoryOrdering ∷ Index Globals ∷ []) ∷
    listed (op.Shared (shared.GlobalAtomicRmwOr c.ordering c.number)) proposal.SharedEverythingThreads (codes "global.atomic.rmw.or") (Some 0xfe) 0x54 (MemoryOrdering ∷ Index Globals ∷ []) ∷
    listed (op.Shared (shared.GlobalAtomicRmwXor c.ordering c.number)) proposal.SharedEverythingThreads (codes "global.atomic.rmw.xor") (Some 0xfe) 0x55 (MemoryOrdering ∷ Index Globals ∷ []) ∷
    listed (op.Shared (shared.GlobalAtomicRmwXchg c.ordering c.number)) proposal.SharedEverythingThreads (codes "global.atomic.rmw.xchg") (Some 0xfe) 0x56 (MemoryOrdering ∷ Index Globals ∷ []) ∷
    listed (op.Shared (shared.GlobalAtomicRmwCmpxchg c.ordering c.number)) proposal.SharedEverythingThreads (codes "global.atomic.rmw.cmpxchg") (Some 0xfe) 0x57 (MemoryOrdering ∷ Index Globals ∷ []) ∷
    listed (op.Shared (shared.TableAtomicGet c.ordering c.number)) proposal.SharedEverythingThreads (codes "table.atomic.get") (Some 0xfe) 0x58 (MemoryOrdering ∷ Index Tables ∷ []) ∷
    listed (op.Shared (shared.TableAtomicSet c.ordering c.number)) proposal.SharedEverythingThreads (codes "table.atomic.set") (Some 0xfe) 0x59 (MemoryOrdering ∷ Index Tables ∷ []) ∷
    listed (op.Shared (shared.TableAtomicRmwXchg c.ordering c.number)) proposal.SharedEverythingThreads (codes "table.atomic.rmw.xchg") (Some 0xfe) 0x5a (MemoryOrdering ∷ Index Tables ∷ []) ∷
    listed (op.Shared (shared.TableAtomicRmwCmpxchg c.ordering c.number)) proposal.SharedEverythingThreads (codes "table.atomic.rmw.cmpxchg") (Some 0xfe) 0x5b (MemoryOrdering ∷ Index Tables ∷ []) ∷
    listed (op.Shared (shared.StructAtomicGet c.ordering c.number c.number)) proposal.SharedEverythingThreads (codes "struct.atomic.get") (Some 0xfe) 0x5c (MemoryOrdering ∷ Index Types ∷ Index Fields ∷ []) ∷
    listed (op.Shared (shared.StructAtomicGetS c.ordering c.number c.number)) proposal.SharedEverythingThreads (codes "struct.atomic.get_s") (Some 0xfe) 0x5d (MemoryOrdering ∷ Index Types ∷ Index Fields ∷ []) ∷
    listed (op.Shared (shared.StructAtomicGetU c.ordering c.number c.number)) proposal.SharedEverythingThreads (codes "struct.atomic.get_u") (Some 0xfe) 0x5e (MemoryOrdering ∷ Index Types ∷ Index Fields ∷ []) ∷
    listed (op.Shared (shared.StructAtomicSet c.ordering c.number c.number)) proposal.SharedEverythingThreads (codes "struct.atomic.set") (Some 0xfe) 0x5f (MemoryOrdering ∷ Index Types ∷ Index Fields ∷ []) ∷
    listed (op.Shared (shared.StructAtomicRmwAdd c.ordering c.number c.number)) proposal.SharedEverythingThreads (codes "struct.atomic.rmw.add") (Some 0xfe) 0x60 (MemoryOrdering ∷ Index Types ∷ Index Fields ∷ []) ∷
    listed (op.Shared (shared.StructAtomicRmwSub c.ordering c.number c.number)) proposal.SharedEverythingThreads (codes "struct.atomic.rmw.sub") (Some 0xfe) 0x61 (MemoryOrdering ∷ Index Types ∷ Index Fields ∷ []) ∷
    listed (op.Shared (shared.StructAtomicRmwAnd c.ordering c.number c.number)) proposal.SharedEverythingThreads (codes "struct.atomic.rmw.and") (Some 0xfe) 0x62 (MemoryOrdering ∷ Index Types ∷ Index Fields ∷ []) ∷
    listed (op.Shared (shared.StructAtomicRmwOr c.ordering c.number c.number)) proposal.SharedEverythingThreads (codes "struct.atomic.rmw.or") (Some 0xfe) 0x63 (MemoryOrdering ∷ Index Types ∷ Index Fields ∷ []) ∷
    listed (op.Shared (shared.StructAtomicRmwXor c.ordering c.number c.number)) proposal.SharedEverythingThreads (codes "struct.atomic.rmw.xor") (Some 0xfe) 0x64 (MemoryOrdering ∷ Index Types ∷ Index Fields ∷ []) ∷
    listed (op.Shared (shared.StructAtomicRmwXchg c.ordering c.number c.number)) proposal.SharedEverythingThreads (codes "struct.atomic.rmw.xchg") (Some 0xfe) 0x65 (MemoryOrdering ∷ Index Types ∷ Index Fields ∷ []) ∷
    listed (op.Shared (shared.StructAtomicRmwCmpxchg c.ordering c.number c.number)) proposal.SharedEverythingThreads (codes "struct.atomic.rmw.cmpxchg") (Some 0xfe) 0x66 (MemoryOrdering ∷ Index Types ∷ Index Fields ∷ []) ∷
    listed (op.Shared (shared.ArrayAtomicGet c.ordering c.number)) proposal.SharedEverythingThreads (codes "array.atomic.get") (Some 0xfe) 0x67 (MemoryOrdering ∷ Index Types ∷ []) ∷
    listed (op.Shared (shared.ArrayAtomicGetS c.ordering c.number)) proposal.SharedEverythingThreads (codes "array.atomic.get_s") (Some 0xfe) 0x68 (MemoryOrdering ∷ Index Types ∷ []) ∷
    listed (op.Shared (shared.ArrayAtomicGetU c.ordering c.number)) proposal.SharedEverythingThreads (codes "array.atomic.get_u") (Some 0xfe) 0x69 (MemoryOrdering ∷ Index Types ∷ []) ∷
    listed (op.Shared (shared.ArrayAtomicSet c.ordering c.number)) proposal.SharedEverythingThreads (codes "array.atomic.set") (Some 0xfe) 0x6a (MemoryOrdering ∷ Index Types ∷ []) ∷
    listed (op.Shared (shared.ArrayAtomicRmwAdd c.ordering c.number)) proposal.SharedEverythingThreads (codes "array.atomic.rmw.add") (Some 0xfe) 0x6b (MemoryOrdering ∷ Index Types ∷ []) ∷
    listed (op.Shared (shared.ArrayAtomicRmwSub c.ordering c.number)) proposal.SharedEverythingThreads (codes "array.atomic.rmw.sub") (Some 0xfe) 0x6c (MemoryOrdering ∷ Index Types ∷ []) ∷
    listed (op.Shared (shared.ArrayAtomicRmwAnd c.ordering c.number)) proposal.SharedEverythingThreads (codes "array.atomic.rmw.and") (Some 0xfe) 0x6d (MemoryOrdering ∷ Index Types ∷ []) ∷
    listed (op.Shared (shared.ArrayAtomicRmwOr c.ordering c.number)) proposal.SharedEverythingThreads (codes "array.atomic.rmw.or") (Some 0xfe) 0x6e (MemoryOrdering ∷ Index Types ∷ []) ∷
    listed (op.Shared (shared.ArrayAtomicRmwXor c.ordering c.number)) proposal.SharedEverythingThreads (codes "array.atomic.rmw.xor") (Some 0xfe) 0x6f (MemoryOrdering ∷ Index Types ∷ []) ∷
    listed (op.Shared (shared.ArrayAtomicRmwXchg c.ordering c.number)) proposal.SharedEverythingThreads (codes "array.atomic.rmw.xchg") (Some 0xfe) 0x70 (MemoryOrdering ∷ Index Types ∷ []) ∷
    listed (op.Shared (shared.ArrayAtomicRmwCmpxchg c.ordering c.number)) proposal.SharedEverythingThreads (codes "array.atomic.rmw.cmpxchg") (Some 0xfe) 0x71 (MemoryOrdering ∷ Index Types ∷ []) ∷
    listed (op.Shared shared.RefI31Shared) proposal.SharedEverythingThreads (codes "ref.i31_shared") (Some 0xfe) 0x72 [] ∷ []
