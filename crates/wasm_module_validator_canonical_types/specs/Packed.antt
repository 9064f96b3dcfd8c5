-- Canonical forms as indices are stored: an index whose id needs more than 20 bits stays as it is, and no list has such an id.
use Rattle.std.specs.Prelude.{◌-◌, nat_lt, if◌then◌else◌, List, length, get_or}
use Rattle.wasm_types.specs.trees.declared.index.CoreTypeId.{CoreTypeId}
use Rattle.wasm_types.specs.trees.declared.index.UnpackedIndex.{UnpackedIndex}
use Rattle.wasm_types.specs.trees.declared.index.UnpackedIndex.TheVariants.{Module, RecGroup, Id}

-- an id, where it fits
abbrev pub packed_id : UnpackedIndex → CoreTypeId → UnpackedIndex
packed_id index id = if nat_lt id.0 0x10_0000 then Id id else index

abbrev pub packed_canonical : List CoreTypeId → UnpackedIndex → UnpackedIndex
packed_canonical ids (Module n) = if nat_lt n (length ids) then packed_id (Module n) (get_or ids n (record { 0 = 0 })) else RecGroup
    (n - length ids)
packed_canonical ids (RecGroup p) = RecGroup p
packed_canonical ids (Id i) = Id i
