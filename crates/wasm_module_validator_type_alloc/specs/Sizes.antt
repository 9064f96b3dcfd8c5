-- The sizes of types: how much there is to visit in one.
use Rattle.std.specs.Prelude.{ℕ, ◌+◌, ◌*◌, ◌-◌, min, length}
use Rattle.wasm_types.specs.trees.Types.{InnerOf, function, array_of, struct_of, continuation}

-- no size needs more than 24 bits
abbrev pub capped : ℕ → ℕ
capped n = min n 0xff_ffff

-- the size of a composite type
abbrev pub size_of : {R : Type 0} → InnerOf R → ℕ
size_of (function params results) = capped (2 + length params + length results)
size_of (array_of field) = 3
size_of (struct_of fields) = capped (2 + 2 * length fields)
size_of (continuation r) = 2

-- the size of the ids of a group, by the first and that behind the last
abbrev pub size_between : ℕ → ℕ → ℕ
size_between first end = capped (end - first)
