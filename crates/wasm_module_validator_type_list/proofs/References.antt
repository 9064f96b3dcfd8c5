-- A value type that is a reference type, over ids.
use Rattle.std.proofs.Common.{◌≡◌, ◌↔◌, List, Bool, ap, subst, Some, IsTrue}
use Rattle.wasm_types.specs.trees.Types.{ref}
use Rattle.wasm_types.specs.values.declared.value.ValType.{ValType}
use Rattle.wasm_types.specs.values.declared.value.ValType.TheVariants.{I32, I64, F32, F64, V128, Ref}
use Rattle.wasm_types.specs.values.Reference.{Reference}
use Rattle.wasm_types.specs.values.Trees.{heap_of}
use Rattle.wasm_types.specs.values.ValueKinds.{reference_in}
use Rattle.wasm_types.specs.values.Values.{value_of}
use Rattle.wasm_module_validator_type_storage.specs.trees.Groups.{Group}
use Rattle.wasm_module_validator_type_storage.specs.trees.BelowIds.{ValueBelowById}

is_reference : (v : ValType) (r : Reference) → Some r ≡ reference_in v → ref r.nullable (heap_of r.heap) ≡ value_of v
is_reference I32 r e = absurd cc
is_reference I64 r e = absurd cc
is_reference F32 r e = absurd cc
is_reference F64 r e = absurd cc
is_reference V128 r e = absurd cc
is_reference (Ref q) r e = let f : r ≡ q = cc in ap (λ (x : Reference). ref x.nullable (heap_of x.heap)) f

-- value types that are these reference types are below each other just where these are
pub reference_below : (groups : List Group) (a b : ValType) (p q : Reference) (answer : Bool) → Some p ≡ reference_in a → Some q ≡ reference_in b
    → IsTrue answer ↔ ValueBelowById groups (ref p.nullable (heap_of p.heap)) (ref q.nullable (heap_of q.heap))
    → IsTrue answer ↔ ValueBelowById groups (value_of a) (value_of b)
reference_below groups a b p q answer e f w =
    subst (λ v. IsTrue answer ↔ ValueBelowById groups v (value_of b)) (is_reference a p e)
    (subst (λ v. IsTrue answer ↔ ValueBelowById groups (ref p.nullable (heap_of p.heap)) v) (is_reference b q f) w)
