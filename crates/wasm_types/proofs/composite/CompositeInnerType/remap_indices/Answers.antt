use Rattle.std.proofs.Common.{rules}
-- Arrays and continuations.
use Rattle.wasm_types.proofs.composite.CompositeInnerType.remap_indices.Goals as goal

pub returns-in-Array : goal.returns-in-Array
returns-in-Array g c = record { remapped = rw c.in-Array.is c.remap_indices-in-Array.ensures.remapped }

pub returns-in-Cont : goal.returns-in-Cont
returns-in-Cont g c = record { remapped = rw c.in-Cont.is c.remap_indices-in-Cont.ensures.remapped }

pub returns-in-Struct : goal.returns-in-Struct
returns-in-Struct c = search rules
