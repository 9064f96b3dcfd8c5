-- A reference type as what it means, whatever its bits are.
use Rattle.std.specs.Prelude.{Bool}
use Rattle.wasm_types_values.specs.declared.heap.HeapType.{HeapType}

-- whether it may be null, and what it refers to
pub record Reference : Type 0 where
  pub nullable : Bool
  pub heap : HeapType
