-- What is a byte or a few: indices where a byte was reserved, orderings, lanes and vectors (WebAssembly 3.0, binary format,
-- instructions; orderings by the proposal on shared everything).
use Rattle.std.specs.Prelude.{[], ◌∷◌}
use Rattle.wasm_types.specs.settings.Features.{mask, MultiMemory, CallIndirectOverlong}
use Rattle.wasm_operators_immediates.specs.declared.memory.Ordering.TheVariants.{AcqRel, SeqCst}
use Rattle.wasm_operators_immediates.specs.Kinds.{Tables, Memories}
use Rattle.wasm_operators_immediates.specs.Kinds as kind
use Rattle.wasm_operators_immediates.specs.Immediates as value
use Rattle.wasm_operators_tests.specs.worked.Worked.{none, reads, refuses, ends}

pub record ByteRows : Type 0 where
  pub memory : reads (mask MultiMemory) (kind.IndexOrZero Memories) (0x80 ∷ 0x01 ∷ []) (value.IndexOrZero Memories 128)
  pub memory_zero : reads none (kind.IndexOrZero Memories) (0x00 ∷ []) (value.IndexOrZero Memories 0)
  pub memory_by_the_feature_of_tables : refuses (mask CallIndirectOverlong) (kind.IndexOrZero Memories) (0x80 ∷ 0x00 ∷ []) 0
  pub no_memory : refuses none (kind.IndexOrZero Memories) (0x01 ∷ []) 0
  pub table : reads (mask CallIndirectOverlong) (kind.IndexOrZero Tables) (0x80 ∷ 0x00 ∷ []) (value.IndexOrZero Tables 0)
  pub table_zero : reads none (kind.IndexOrZero Tables) (0x00 ∷ []) (value.IndexOrZero Tables 0)
  pub table_by_the_feature_of_memories : refuses (mask MultiMemory) (kind.IndexOrZero Tables) (0x01 ∷ []) 0
  pub no_table : refuses none (kind.IndexOrZero Tables) (0x80 ∷ 0x00 ∷ []) 0
  pub nothing : ends none (kind.IndexOrZero Tables) [] 0 1
  pub zero : reads none kind.ZeroByte (0x00 ∷ []) value.ZeroByte
  pub not_zero : refuses none kind.ZeroByte (0x01 ∷ []) 0
  pub no_zero : ends none kind.ZeroByte [] 0 1
  pub consistent : reads none kind.MemoryOrdering (0x00 ∷ []) (value.MemoryOrdering SeqCst)
  pub released : reads none kind.MemoryOrdering (0x01 ∷ []) (value.MemoryOrdering AcqRel)
  pub no_ordering : refuses none kind.MemoryOrdering (0x11 ∷ []) 0
  pub lane : reads none (kind.Lane 8) (0x07 ∷ []) (value.Lane 8 7)
  pub no_lane : refuses none (kind.Lane 8) (0x08 ∷ []) 0
  pub shuffle : reads none kind.Lanes (0x00 ∷ 0x01 ∷ 0x02 ∷ 0x03 ∷ 0x04 ∷ 0x05 ∷ 0x06 ∷ 0x07 ∷ 0x08 ∷ 0x1f ∷ 0x1e ∷ 0x1d ∷ 0x1c ∷ 0x1b ∷ 0x1a ∷ 0x19
      ∷ []) (value.Lanes (0 ∷ 1 ∷ 2 ∷ 3 ∷ 4 ∷ 5 ∷ 6 ∷ 7 ∷ 8 ∷ 31 ∷ 30 ∷ 29 ∷ 28 ∷ 27 ∷ 26 ∷ 25 ∷ []))
  pub no_shuffle : refuses none kind.Lanes (0x1f ∷ 0x20 ∷ 0x00 ∷ []) 1
  pub short_shuffle : ends none kind.Lanes (0x00 ∷ 0x01 ∷ 0x02 ∷ 0x03 ∷ 0x04 ∷ 0x05 ∷ 0x06 ∷ 0x07 ∷ 0x08 ∷ 0x1f ∷ 0x1e ∷ 0x1d ∷ 0x1c ∷ 0x1b ∷ 0x1a ∷ []) 15 1
  pub vector : reads none kind.V128Constant (0x00 ∷ 0x01 ∷ 0x02 ∷ 0x03 ∷ 0x04 ∷ 0x05 ∷ 0x06 ∷ 0x07 ∷ 0x08 ∷ 0x1f ∷ 0x1e ∷ 0x1d ∷ 0x1c ∷ 0x1b ∷ 0x1a
      ∷ 0x19 ∷ []) (value.V128Constant (record { 0 = (0 ∷ 1 ∷ 2 ∷ 3 ∷ 4 ∷ 5 ∷ 6 ∷ 7 ∷ 8 ∷ 31 ∷ 30 ∷ 29 ∷ 28 ∷ 27 ∷ 26 ∷ 25 ∷ []) }))
  pub short_vector : ends none kind.V128Constant (0x00 ∷ 0x01 ∷ 0x02 ∷ []) 0 13
