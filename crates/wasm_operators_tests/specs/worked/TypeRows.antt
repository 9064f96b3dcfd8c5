-- Types: of blocks, of heaps, of a select, of a branch on a cast (WebAssembly 3.0, binary format, types and instructions).
use Rattle.std.specs.Prelude.{true, false, [], ◌∷◌}
use Rattle.wasm_types.specs.values.declared.heap.HeapType.TheVariants.{Abstract, Concrete}
use Rattle.wasm_types.specs.values.declared.heap.AbstractHeapType.TheVariants.{Func, Any}
use Rattle.wasm_types.specs.values.declared.value.ValType.TheVariants.{I32, V128, Ref}
use Rattle.wasm_types.specs.trees.declared.index.UnpackedIndex.TheVariants.{Module}
use Rattle.wasm_types.specs.values.Decode.{reference}
use Rattle.wasm_operators_immediates.specs.declared.block.BlockType.TheVariants.{Empty, Val, FuncType}
use Rattle.wasm_operators_immediates.specs.Kinds as kind
use Rattle.wasm_operators_immediates.specs.Immediates as value
use Rattle.wasm_operators_tests.specs.worked.Worked.{none, reads, refuses, ends}

pub record TypeRows : Type 0 where
  pub no_type : reads none kind.Block (0x40 ∷ []) (value.Block Empty)
  pub vector : reads none kind.Block (0x7b ∷ []) (value.Block (Val V128))
  pub function_reference : reads none kind.Block (0x70 ∷ []) (value.Block (Val (Ref (reference true (Abstract false Func)))))
  pub longer_reference : reads none kind.Block (0x63 ∷ 0x70 ∷ []) (value.Block (Val (Ref (reference true (Abstract false Func)))))
  pub byte : reads none kind.Block (0x3f ∷ []) (value.Block (FuncType 63))
  pub two_bytes : reads none kind.Block (0xc0 ∷ 0x00 ∷ []) (value.Block (FuncType 64))
  pub largest : reads none kind.Block (0xff ∷ 0xff ∷ 0xff ∷ 0xff ∷ 0x0f ∷ []) (value.Block (FuncType 0xffff_ffff))
  pub negative : refuses none kind.Block (0x41 ∷ []) 0
  pub no_value_type : refuses none kind.Block (0x66 ∷ []) 0
  pub negative_of_two_bytes : refuses none kind.Block (0xff ∷ 0x7f ∷ []) 2
  pub no_heap_type : refuses none kind.Block (0x63 ∷ 0x40 ∷ []) 1
  pub nothing : ends none kind.Block [] 0 1
  pub half : ends none kind.Block (0x80 ∷ []) 1 1
  pub heap : reads none kind.Heap (0x6e ∷ []) (value.Heap (Abstract false Any))
  pub shared_heap : reads none kind.Heap (0x65 ∷ 0x70 ∷ []) (value.Heap (Abstract true Func))
  pub defined_heap : reads none kind.Heap (0x05 ∷ []) (value.Heap (Concrete (Module 5)))
  pub heap_of_no_type : refuses none kind.Heap (0x40 ∷ []) 0
  pub heap_too_large : refuses none kind.Heap (0x80 ∷ 0x80 ∷ 0xc0 ∷ 0x00 ∷ []) 4
  pub short_heap : ends none kind.Heap (0x65 ∷ []) 1 1
  pub select : reads none kind.ValueTypes (0x02 ∷ 0x7f ∷ 0x70 ∷ []) (value.ValueTypes (I32 ∷ Ref (reference true (Abstract false Func)) ∷ []))
  pub select_of_none : reads none kind.ValueTypes (0x00 ∷ []) (value.ValueTypes [])
  pub select_of_too_many : refuses none kind.ValueTypes (0x0b ∷ []) 0
  pub select_of_no_type : refuses none kind.ValueTypes (0x01 ∷ 0x40 ∷ []) 1
  pub select_of_most : ends none kind.ValueTypes (0x0a ∷ []) 1 1
  pub short_select : ends none kind.ValueTypes (0x01 ∷ []) 1 1
  pub cast : reads none kind.CastBranch (0x02 ∷ 0x05 ∷ 0x6e ∷ 0x70 ∷ []) (value.CastBranch 5 (reference false (Abstract false Any)) (reference true (Abstract false Func)))
  pub cast_flags : refuses none kind.CastBranch (0x04 ∷ 0x00 ∷ 0x6e ∷ 0x6d ∷ []) 0
  pub cast_from_too_large : refuses none kind.CastBranch (0x00 ∷ 0x00 ∷ 0x80 ∷ 0x80 ∷ 0xc0 ∷ 0x00 ∷ 0x6e ∷ []) 6
  pub short_cast : ends none kind.CastBranch (0x03 ∷ 0x00 ∷ 0x6e ∷ []) 3 1
