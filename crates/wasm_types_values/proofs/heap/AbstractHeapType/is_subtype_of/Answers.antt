-- The table is the order.
use Rattle.wasm_types_values.proofs.Order.{table_sound, table_complete}
use Rattle.wasm_types_values.proofs.heap.AbstractHeapType.is_subtype_of.Goals as goal

pub returns : goal.returns
returns c = rw c.is_in_table.ensures (λ h. table_sound _ _ h, λ h. table_complete _ _ h)
