-- Atomic accesses: their rows of the table of opcodes
-- (WebAssembly 3.0, binary format, instructions, and appendix, index of instructions, and the proposals).
use Rattle.std.specs.Prelude.{Some, codes}
use Rattle.wasm_operators_immediates.specs.Info.{Info, row}
use Rattle.wasm_operators_immediates.specs.declared.proposal.Proposal.TheVariants.{SharedEverythingThreads, Threads}
use Rattle.wasm_operators_enums.specs.declared.atomic.AtomicOperator.{AtomicOperator}
use Rattle.wasm_operators_enums.specs.declared.atomic.AtomicOperator.TheVariants as atomic
use Rattle.wasm_operators_enums.specs.declared.atomic.SharedOperator.{SharedOperator}
use Rattle.wasm_operators_enums.specs.declared.atomic.SharedOperator.TheVariants as shared

-- standard: proposal-threads: opcodes
-- of accesses to memories (the proposal on threads)
abbrev pub atomic_info : AtomicOperator → Info
atomic_info (atomic.MemoryAtomicNotify memarg) = row Threads (codes "memory.atomic.notify") (Some 0xfe) 0x00
atomic_info (atomic.MemoryAtomicWait32 memarg) = row Threads (codes "memory.atomic.wait32") (Some 0xfe) 0x01
atomic_info (atomic.MemoryAtomicWait64 memarg) = row Threads (codes "memory.atomic.wait64") (Some 0xfe) 0x02
atomic_info atomic.AtomicFence = row Threads (codes "atomic.fence") (Some 0xfe) 0x03
atomic_info (atomic.I32AtomicLoad memarg) = row Threads (codes "i32.atomic.load") (Some 0xfe) 0x10
atomic_info (atomic.I64AtomicLoad memarg) = row Threads (codes "i64.atomic.load") (Some 0xfe) 0x11
atomic_info (atomic.I32AtomicLoad8U memarg) = row Threads (codes "i32.atomic.load8_u") (Some 0xfe) 0x12
atomic_info (atomic.I32AtomicLoad16U memarg) = row Threads (codes "i32.atomic.load16_u") (Some 0xfe) 0x13
atomic_info (atomic.I64AtomicLoad8U memarg) = row Threads (codes "i64.atomic.load8_u") (Some 0xfe) 0x14
atomic_info (atomic.I64AtomicLoad16U memarg) = row Threads (codes "i64.atomic.load16_u") (Some 0xfe) 0x15
atomic_info (atomic.I64AtomicLoad32U memarg) = row Threads (codes "i64.atomic.load32_u") (Some 0xfe) 0x16
atomic_info (atomic.I32AtomicStore memarg) = row Threads (codes "i32.atomic.store") (Some 0xfe) 0x17
atomic_info (atomic.I64AtomicStore memarg) = row Threads (codes "i64.atomic.store") (Some 0xfe) 0x18
atomic_info (atomic.I32AtomicStore8 memarg) = row Threads (codes "i32.atomic.store8") (Some 0xfe) 0x19
atomic_info (atomic.I32AtomicStore16 memarg) = row Threads (codes "i32.atomic.store16") (Some 0xfe) 0x1a
atomic_info (atomic.I64AtomicStore8 memarg) = row Threads (codes "i64.atomic.store8") (Some 0xfe) 0x1b
atomic_info (atomic.I64AtomicStore16 memarg) = row Threads (codes "i64.atomic.store16") (Some 0xfe) 0x1c
atomic_info (atomic.I64AtomicStore32 memarg) = row Threads (codes "i64.atomic.store32") (Some 0xfe) 0x1d
atomic_info (atomic.I32AtomicRmwAdd memarg) = row Threads (codes "i32.atomic.rmw.add") (Some 0xfe) 0x1e
atomic_info (atomic.I64AtomicRmwAdd memarg) = row Threads (codes "i64.atomic.rmw.add") (Some 0xfe) 0x1f
atomic_info (atomic.I32AtomicRmw8AddU memarg) = row Threads (codes "i32.atomic.rmw8.add_u") (Some 0xfe) 0x20
atomic_info (atomic.I32AtomicRmw16AddU memarg) = row Threads (codes "i32.atomic.rmw16.add_u") (Some 0xfe) 0x21
atomic_info (atomic.I64AtomicRmw8AddU memarg) = row Threads (codes "i64.atomic.rmw8.add_u") (Some 0xfe) 0x22
atomic_info (atomic.I64AtomicRmw16AddU memarg) = row Threads (codes "i64.atomic.rmw16.add_u") (Some 0xfe) 0x23
atomic_info (atomic.I64AtomicRmw32AddU memarg) = row Threads (codes "i64.atomic.rmw32.add_u") (Some 0xfe) 0x24
atomic_info (atomic.I32AtomicRmwSub memarg) = row Threads (codes "i32.atomic.rmw.sub") (Some 0xfe) 0x25
atomic_info (atomic.I64AtomicRmwSub memarg) = row Threads (codes "i64.atomic.rmw.sub") (Some 0xfe) 0x26
atomic_info (atomic.I32AtomicRmw8SubU memarg) = row Threads (codes "i32.atomic.rmw8.sub_u") (Some 0xfe) 0x27
atomic_info (atomic.I32AtomicRmw16SubU memarg) = row Threads (codes "i32.atomic.rmw16.sub_u") (Some 0xfe) 0x28
atomic_info (atomic.I64AtomicRmw8SubU memarg) = row Threads (codes "i64.atomic.rmw8.sub_u") (Some 0xfe) 0x29
atomic_info (atomic.I64AtomicRmw16SubU memarg) = row Threads (codes "i64.atomic.rmw16.sub_u") (Some 0xfe) 0x2a
atomic_info (atomic.I64AtomicRmw32SubU memarg) = row Threads (codes "i64.atomic.rmw32.sub_u") (Some 0xfe) 0x2b
atomic_info (atomic.I32AtomicRmwAnd memarg) = row Threads (codes "i32.atomic.rmw.and") (Some 0xfe) 0x2c
atomic_info (atomic.I64AtomicRmwAnd memarg) = row Threads (codes "i64.atomic.rmw.and") (Some 0xfe) 0x2d
atomic_info (atomic.I32AtomicRmw8AndU memarg) = row Threads (codes "i32.atomic.rmw8.and_u") (Some 0xfe) 0x2e
atomic_info (atomic.I32AtomicRmw16AndU memarg) = row Threads (codes "i32.atomic.rmw16.and_u") (Some 0xfe) 0x2f
atomic_info (atomic.I64AtomicRmw8AndU memarg) = row Threads (codes "i64.atomic.rmw8.and_u") (Some 0xfe) 0x30
atomic_info (atomic.I64AtomicRmw16AndU memarg) = row Threads (codes "i64.atomic.rmw16.and_u") (Some 0xfe) 0x31
atomic_info (atomic.I64AtomicRmw32AndU memarg) = row Threads (codes "i64.atomic.rmw32.and_u") (Some 0xfe) 0x32
atomic_info (atomic.I32AtomicRmwOr memarg) = row Threads (codes "i32.atomic.rmw.or") (Some 0xfe) 0x33
atomic_info (atomic.I64AtomicRmwOr memarg) = row Threads (codes "i64.atomic.rmw.or") (Some 0xfe) 0x34
atomic_info (atomic.I32AtomicRmw8OrU memarg) = row Threads (codes "i32.atomic.rmw8.or_u") (Some 0xfe) 0x35
atomic_info (atomic.I32AtomicRmw16OrU memarg) = row Threads (codes "i32.atomic.rmw16.or_u") (Some 0xfe) 0x36
atomic_info (atomic.I64AtomicRmw8OrU memarg) = row Threads (codes "i64.atomic.rmw8.or_u") (Some 0xfe) 0x37
atomic_info (atomic.I64AtomicRmw16OrU memarg) = row Threads (codes "i64.atomic.rmw16.or_u") (Some 0xfe) 0x38
atomic_info (atomic.I64AtomicRmw32OrU memarg) = row Threads (codes "i64.atomic.rmw32.or_u") (Some 0xfe) 0x39
atomic_info (atomic.I32AtomicRmwXor memarg) = row Threads (codes "i32.atomic.rmw.xor") (Some 0xfe) 0x3a
atomic_info (atomic.I64AtomicRmwXor memarg) = row Threads (codes "i64.atomic.rmw.xor") (Some 0xfe) 0x3b
atomic_info (atomic.I32AtomicRmw8XorU memarg) = row Threads (codes "i32.atomic.rmw8.xor_u") (Some 0xfe) 0x3c
atomic_info (atomic.I32AtomicRmw16XorU memarg) = row Threads (codes "i32.atomic.rmw16.xor_u") (Some 0xfe) 0x3d
atomic_info (atomic.I64AtomicRmw8XorU memarg) = row Threads (codes "i64.atomic.rmw8.xor_u") (Some 0xfe) 0x3e
atomic_info (atomic.I64AtomicRmw16XorU memarg) = row Threads (codes "i64.atomic.rmw16.xor_u") (Some 0xfe) 0x3f
atomic_info (atomic.I64AtomicRmw32XorU memarg) = row Threads (codes "i64.atomic.rmw32.xor_u") (Some 0xfe) 0x40
atomic_info (atomic.I32AtomicRmwXchg memarg) = row Threads (codes "i32.atomic.rmw.xchg") (Some 0xfe) 0x41
atomic_info (atomic.I64AtomicRmwXchg memarg) = row Threads (codes "i64.atomic.rmw.xchg") (Some 0xfe) 0x42
atomic_info (atomic.I32AtomicRmw8XchgU memarg) = row Threads (codes "i32.atomic.rmw8.xchg_u") (Some 0xfe) 0x43
atomic_info (atomic.I32AtomicRmw16XchgU memarg) = row Threads (codes "i32.atomic.rmw16.xchg_u") (Some 0xfe) 0x44
atomic_info (atomic.I64AtomicRmw8XchgU memarg) = row Threads (codes "i64.atomic.rmw8.xchg_u") (Some 0xfe) 0x45
atomic_info (atomic.I64AtomicRmw16XchgU memarg) = row Threads (codes "i64.atomic.rmw16.xchg_u") (Some 0xfe) 0x46
atomic_info (atomic.I64AtomicRmw32XchgU memarg) = row Threads (codes "i64.atomic.rmw32.xchg_u") (Some 0xfe) 0x47
atomic_info (atomic.I32AtomicRmwCmpxchg memarg) = row Threads (codes "i32.atomic.rmw.cmpxchg") (Some 0xfe) 0x48
atomic_info (atomic.I64AtomicRmwCmpxchg memarg) = row Threads (codes "i64.atomic.rmw.cmpxchg") (Some 0xfe) 0x49
atomic_info (atomic.I32AtomicRmw8CmpxchgU memarg) = row Threads (codes "i32.atomic.rmw8.cmpxchg_u") (Some 0xfe) 0x4a
atomic_info (atomic.I32AtomicRmw16CmpxchgU memarg) = row Threads (codes "i32.atomic.rmw16.cmpxchg_u") (Some 0xfe) 0x4b
atomic_info (atomic.I64AtomicRmw8CmpxchgU memarg) = row Threads (codes "i64.atomic.rmw8.cmpxchg_u") (Some 0xfe) 0x4c
atomic_info (atomic.I64AtomicRmw16CmpxchgU memarg) = row Threads (codes "i64.atomic.rmw16.cmpxchg_u") (Some 0xfe) 0x4d
atomic_info (atomic.I64AtomicRmw32CmpxchgU memarg) = row Threads (codes "i64.atomic.rmw32.cmpxchg_u") (Some 0xfe) 0x4e

-- standard: proposal-shared-everything-threads: opcodes
-- of accesses to what is shared besides: globals, tables, structs and arrays (the proposal on shared everything)
abbrev pub shared_info : SharedOperator → Info
shared_info (shared.GlobalAtomicGet ordering global_index) = row SharedEverythingThreads (codes "global.atomic.get") (Some 0xfe) 0x4f
shared_info (shared.GlobalAtomicSet ordering global_index) = row SharedEverythingThreads (codes "global.atomic.set") (Some 0xfe) 0x50
shared_info (shared.GlobalAtomicRmwAdd ordering global_index) = row SharedEverythingThreads (codes "global.atomic.rmw.add") (Some 0xfe) 0x51
shared_info (shared.GlobalAtomicRmwSub ordering global_index) = row SharedEverythingThreads (codes "global.atomic.rmw.sub") (Some 0xfe) 0x52
shared_info (shared.GlobalAtomicRmwAnd ordering global_index) = row SharedEverythingThreads (codes "global.atomic.rmw.and") (Some 0xfe) 0x53
shared_info (shared.GlobalAtomicRmwOr ordering global_index) = row SharedEverythingThreads (codes "global.atomic.rmw.or") (Some 0xfe) 0x54
shared_info (shared.GlobalAtomicRmwXor ordering global_index) = row SharedEverythingThreads (codes "global.atomic.rmw.xor") (Some 0xfe) 0x55
shared_info (shared.GlobalAtomicRmwXchg ordering global_index) = row SharedEverythingThreads (codes "global.atomic.rmw.xchg")
    (Some 0xfe) 0x56
shared_info (shared.GlobalAtomicRmwCmpxchg ordering global_index) = row SharedEverythingThreads (codes "global.atomic.rmw.cmpxchg")
    (Some 0xfe) 0x57
shared_info (shared.TableAtomicGet ordering table_index) = row SharedEverythingThreads (codes "table.atomic.get") (Some 0xfe) 0x58
shared_info (shared.TableAtomicSet ordering table_index) = row SharedEverythingThreads (codes "table.atomic.set") (Some 0xfe) 0x59
shared_info (shared.TableAtomicRmwXchg ordering table_index) = row SharedEverythingThreads (codes "table.atomic.rmw.xchg") (Some 0xfe) 0x5a
shared_info (shared.TableAtomicRmwCmpxchg ordering table_index) = row SharedEverythingThreads (codes "table.atomic.rmw.cmpxchg")
    (Some 0xfe) 0x5b
shared_info (shared.StructAtomicGet ordering struct_type_index field_index) = row SharedEverythingThreads (codes "struct.atomic.get")
    (Some 0xfe) 0x5c
shared_info (shared.StructAtomicGetS ordering struct_type_index field_index) = row SharedEverythingThreads (codes "struct.atomic.get_s")
    (Some 0xfe) 0x5d
shared_info (shared.StructAtomicGetU ordering struct_type_index field_index) = row SharedEverythingThreads (codes "struct.atomic.get_u")
    (Some 0xfe) 0x5e
shared_info (shared.StructAtomicSet ordering struct_type_index field_index) = row SharedEverythingThreads (codes "struct.atomic.set")
    (Some 0xfe) 0x5f
shared_info (shared.StructAtomicRmwAdd ordering struct_type_index field_index) = row SharedEverythingThreads (codes "struct.atomic.rmw.add")
    (Some 0xfe) 0x60
shared_info (shared.StructAtomicRmwSub ordering struct_type_index field_index) = row SharedEverythingThreads (codes "struct.atomic.rmw.sub")
    (Some 0xfe) 0x61
shared_info (shared.StructAtomicRmwAnd ordering struct_type_index field_index) = row SharedEverythingThreads (codes "struct.atomic.rmw.and")
    (Some 0xfe) 0x62
shared_info (shared.StructAtomicRmwOr ordering struct_type_index field_index) = row SharedEverythingThreads (codes "struct.atomic.rmw.or")
    (Some 0xfe) 0x63
shared_info (shared.StructAtomicRmwXor ordering struct_type_index field_index) = row SharedEverythingThreads (codes "struct.atomic.rmw.xor")
    (Some 0xfe) 0x64
shared_info (shared.StructAtomicRmwXchg ordering struct_type_index field_index) = row SharedEverythingThreads
    (codes "struct.atomic.rmw.xchg") (Some 0xfe) 0x65
shared_info (shared.StructAtomicRmwCmpxchg ordering struct_type_index field_index) = row SharedEverythingThreads
    (codes "struct.atomic.rmw.cmpxchg") (Some 0xfe) 0x66
shared_info (shared.ArrayAtomicGet ordering array_type_index) = row SharedEverythingThreads (codes "array.atomic.get") (Some 0xfe) 0x67
shared_info (shared.ArrayAtomicGetS ordering array_type_index) = row SharedEverythingThreads (codes "array.atomic.get_s") (Some 0xfe) 0x68
shared_info (shared.ArrayAtomicGetU ordering array_type_index) = row SharedEverythingThreads (codes "array.atomic.get_u") (Some 0xfe) 0x69
shared_info (shared.ArrayAtomicSet ordering array_type_index) = row SharedEverythingThreads (codes "array.atomic.set") (Some 0xfe) 0x6a
shared_info (shared.ArrayAtomicRmwAdd ordering array_type_index) = row SharedEverythingThreads (codes "array.atomic.rmw.add")
    (Some 0xfe) 0x6b
shared_info (shared.ArrayAtomicRmwSub ordering array_type_index) = row SharedEverythingThreads (codes "array.atomic.rmw.sub")
    (Some 0xfe) 0x6c
shared_info (shared.ArrayAtomicRmwAnd ordering array_type_index) = row SharedEverythingThreads (codes "array.atomic.rmw.and")
    (Some 0xfe) 0x6d
shared_info (shared.ArrayAtomicRmwOr ordering array_type_index) = row SharedEverythingThreads (codes "array.atomic.rmw.or") (Some 0xfe) 0x6e
shared_info (shared.ArrayAtomicRmwXor ordering array_type_index) = row SharedEverythingThreads (codes "array.atomic.rmw.xor")
    (Some 0xfe) 0x6f
shared_info (shared.ArrayAtomicRmwXchg ordering array_type_index) = row SharedEverythingThreads (codes "array.atomic.rmw.xchg")
    (Some 0xfe) 0x70
shared_info (shared.ArrayAtomicRmwCmpxchg ordering array_type_index) = row SharedEverythingThreads (codes "array.atomic.rmw.cmpxchg")
    (Some 0xfe) 0x71
shared_info shared.RefI31Shared = row SharedEverythingThreads (codes "ref.i31_shared") (Some 0xfe) 0x72
