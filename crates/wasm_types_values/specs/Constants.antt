-- The references to abstract types that are not shared, in one order.
use Rattle.std.specs.Prelude.{Bool, false, List, [], ◌∷◌}
use Rattle.wasm_types_values.specs.declared.heap.AbstractHeapType.{AbstractHeapType}
use Rattle.wasm_types_values.specs.declared.heap.AbstractHeapType.TheVariants as heap
use Rattle.wasm_types_values.specs.declared.heap.HeapType.TheVariants.{Abstract}
use Rattle.wasm_types_values.specs.Reference.{Reference}

-- a reference to an abstract type that is not shared
abbrev pub reference_to : Bool → AbstractHeapType → Reference
reference_to nullable ty = record { nullable = nullable; heap = Abstract false ty }

-- one to each of them, nullable (true) or not
abbrev pub references : Bool → List Reference
references b = reference_to b heap.Func ∷ reference_to b heap.Extern ∷ reference_to b heap.Any ∷ reference_to b heap.Eq ∷ reference_to b heap.Struct
    ∷ reference_to b heap.Array ∷ reference_to b heap.I31 ∷ reference_to b heap.Exn ∷ reference_to b heap.Cont ∷ reference_to b heap.None ∷ reference_to
    b heap.NoFunc ∷ reference_to b heap.NoExtern ∷ reference_to b heap.NoExn ∷ reference_to b heap.NoCont ∷ []
