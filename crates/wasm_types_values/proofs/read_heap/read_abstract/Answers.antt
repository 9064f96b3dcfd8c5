use Rattle.std.proofs.Common.{arith}
use Rattle.wasm_types_values.proofs.Places.{beyond_0}
use Rattle.wasm_types_values.proofs.read_heap.read_abstract.Goals as goal

pub overflow_sub-original_position : goal.overflow_sub-original_position
overflow_sub-original_position c = omega (arith, beyond_0 _ _ _ c.in_ok-byte.ensures.answer, c.original_position.ensures)
