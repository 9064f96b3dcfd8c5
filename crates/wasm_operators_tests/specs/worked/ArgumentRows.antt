-- Memory arguments: flags, the index of a memory, an ordering and an offset (WebAssembly 3.0, binary format, memory instructions;
-- orderings by the proposal on shared everything).
use Rattle.std.specs.Prelude.{[], ◌∷◌, Some, None, ◌+◌}
use Rattle.wasm_types.specs.settings.Features.{mask, MultiMemory, Memory64, SharedEverythingThreads}
use Rattle.wasm_operators_immediates.specs.declared.memory.Ordering.TheVariants.{AcqRel, SeqCst}
use Rattle.wasm_operators_immediates.specs.declared.memory.MemArgOrdering.TheVariants.{Op, Rmw}
use Rattle.wasm_operators_immediates.specs.Kinds.{Plain, Atomic, ReadModifyWrite}
use Rattle.wasm_operators_encoding.specs.immediates.MemoryArguments.{argument}
use Rattle.wasm_operators_immediates.specs.Kinds as kind
use Rattle.wasm_operators_immediates.specs.Immediates as value
use Rattle.wasm_operators_tests.specs.worked.Worked.{none, reads, refuses, ends}

pub record ArgumentRows : Type 0 where
  pub plain : reads none (kind.MemoryArgument Plain 2) (0x02 ∷ 0x04 ∷ []) (value.MemoryArgument Plain 2 (argument 2 2 0 None 4))
  pub memory_named : reads (mask MultiMemory) (kind.MemoryArgument Plain 2) (0x42 ∷ 0x00 ∷ 0x00 ∷ []) (value.MemoryArgument Plain 2 (argument 2 2 0 None 0))
  pub large_memory : reads (mask MultiMemory) (kind.MemoryArgument Plain 2) (0x40 ∷ 0x80 ∷ 0x01 ∷ 0x05 ∷ []) (value.MemoryArgument Plain 2 (argument 0 2 128 None 5))
  pub wide_offset : reads (mask Memory64) (kind.MemoryArgument Plain 2) (0x0f ∷ 0x80 ∷ 0x80 ∷ 0x80 ∷ 0x80 ∷ 0x10 ∷ [])
      (value.MemoryArgument Plain 2 (argument 15 2 0 None 0x1_0000_0000))
  pub no_wide_offset : refuses none (kind.MemoryArgument Plain 2) (0x0f ∷ 0x80 ∷ 0x80 ∷ 0x80 ∷ 0x80 ∷ 0x10 ∷ []) 5
  pub ordered : reads (mask SharedEverythingThreads) (kind.MemoryArgument Atomic 2) (0x22 ∷ 0x01 ∷ 0x08 ∷ []) (value.MemoryArgument Atomic 2 (argument 2 2 0 (Some (Op AcqRel)) 8))
  pub ordered_as_ever : reads (mask SharedEverythingThreads) (kind.MemoryArgument Atomic 2) (0x22 ∷ 0x00 ∷ 0x08 ∷ [])
      (value.MemoryArgument Atomic 2 (argument 2 2 0 (Some (Op SeqCst)) 8))
  pub ordered_twice : reads (mask SharedEverythingThreads + mask MultiMemory) (kind.MemoryArgument ReadModifyWrite 2) (0x62 ∷ 0x05 ∷ 0x11 ∷ 0x07 ∷ [])
      (value.MemoryArgument ReadModifyWrite 2 (argument 2 2 5 (Some (Rmw AcqRel)) 7))
  pub no_memory_named : refuses none (kind.MemoryArgument Plain 2) (0x42 ∷ 0x00 ∷ 0x00 ∷ []) 0
  pub no_memory_named_by_others : refuses (mask Memory64 + mask SharedEverythingThreads) (kind.MemoryArgument Plain 2) (0x42 ∷ 0x00 ∷ 0x00 ∷ []) 0
  pub alignment_too_large : refuses (mask MultiMemory + mask Memory64) (kind.MemoryArgument Plain 2) (0x10 ∷ 0x00 ∷ []) 0
  pub flags_too_large : refuses (mask MultiMemory) (kind.MemoryArgument Plain 2) (0x80 ∷ 0x01 ∷ 0x00 ∷ []) 0
  pub plain_takes_no_ordering : refuses (mask SharedEverythingThreads) (kind.MemoryArgument Plain 2) (0x22 ∷ 0x00 ∷ 0x00 ∷ []) 0
  pub no_ordering : refuses none (kind.MemoryArgument Atomic 2) (0x22 ∷ 0x00 ∷ 0x00 ∷ []) 0
  pub no_ordering_by_others : refuses (mask MultiMemory + mask Memory64) (kind.MemoryArgument ReadModifyWrite 2) (0x22 ∷ 0x00 ∷ 0x00 ∷ []) 0
  pub alignment_beside_a_memory : refuses (mask MultiMemory) (kind.MemoryArgument Plain 2) (0x50 ∷ 0x00 ∷ 0x00 ∷ []) 0
  pub ordering_of_both_halves : refuses (mask SharedEverythingThreads) (kind.MemoryArgument Atomic 2) (0x22 ∷ 0x11 ∷ 0x00 ∷ []) 1
  pub ordering_of_one_half : refuses (mask SharedEverythingThreads) (kind.MemoryArgument ReadModifyWrite 2) (0x22 ∷ 0x01 ∷ 0x00 ∷ []) 1
  pub no_flags : ends none (kind.MemoryArgument Plain 2) [] 0 1
  pub no_memory : ends (mask MultiMemory) (kind.MemoryArgument Plain 2) (0x42 ∷ []) 1 1
  pub half_a_memory : ends (mask MultiMemory) (kind.MemoryArgument Plain 2) (0x42 ∷ 0x80 ∷ []) 2 1
  pub no_ordering_left : ends (mask SharedEverythingThreads) (kind.MemoryArgument Atomic 2) (0x22 ∷ []) 1 1
  pub no_offset : ends none (kind.MemoryArgument Plain 2) (0x02 ∷ []) 1 1
