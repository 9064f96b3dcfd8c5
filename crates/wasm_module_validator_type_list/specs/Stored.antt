-- Types as a list stores them: each place of the own group as an id.
use Rattle.std.specs.Prelude.{ℕ, ◌+◌, nat_lt, if◌then◌else◌}
use Rattle.wasm_types.specs.trees.declared.index.UnpackedIndex.{UnpackedIndex}
use Rattle.wasm_types.specs.trees.declared.index.UnpackedIndex.TheVariants.{Module, RecGroup, Id}

-- an index as the id that it means in a group whose first type has the id `start`; a place whose id needs more than 20 bits
-- stays, and no list has one
abbrev pub packed_by_id : ℕ → UnpackedIndex → UnpackedIndex
packed_by_id start (Module n) = Module n
packed_by_id start (RecGroup p) = if nat_lt (start + p) 0x10_0000 then Id (record { 0 = start + p }) else RecGroup p
packed_by_id start (Id i) = Id i
