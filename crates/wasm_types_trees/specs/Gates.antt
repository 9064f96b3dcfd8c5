-- Which features a value type needs, whatever its references lead to (WebAssembly 3.0, appendix, history: each version of
-- the standard, and the proposals behind it).
use Rattle.std.specs.Prelude.{ℕ, Bool, true, false, IsTrue, ◌⊎◌}
use Rattle.wasm_types_settings.specs.Features.{Feature, ReferenceTypes, Simd, SharedEverythingThreads, Floats, Exceptions, FunctionReferences, Gc}
use Rattle.wasm_types_settings.specs.Features.{GcTypes, StackSwitching, CustomDescriptors, has}
use Rattle.wasm_types_trees.specs.Types.{Number, i32, i64, f32, f64, v128, Abstract, func, extern, exn, noexn, cont, nocont, HeapOf, abstract}
use Rattle.wasm_types_trees.specs.Types.{concrete, exact, ValueOf, number, ref}

-- standard: changes: a feature is allowed
-- these bits have the feature
abbrev pub Has : ℕ → Feature → Type 0
Has bits f = IsTrue (has f bits)

-- standard: valid-numtype: numtype (differs: floats are a feature)
-- standard: valid-vectype: vectype (differs: vectors are a feature)
-- what a number type or the vector type needs; floats and vectors are features of their own
abbrev pub NumberIsAllowed : ℕ → Number → Type 0
NumberIsAllowed bits i32 = Unit {0}
NumberIsAllowed bits i64 = Unit {0}
NumberIsAllowed bits f32 = Has bits Floats
NumberIsAllowed bits f64 = Has bits Floats
NumberIsAllowed bits v128 = Has bits Simd

-- standard: part of HeapIsAllowed
-- a reference that a collector need not trace needs no more
abbrev pub CollectorIsAllowed : ℕ → Abstract → Type 0
CollectorIsAllowed bits func = Unit {0}
CollectorIsAllowed bits exn = Unit {0}
CollectorIsAllowed bits _ = Has bits GcTypes

-- standard: valid-heaptype: abstract (differs: by the features of releases; cont and nocont too)
-- what an abstract type needs as the target of a nullable (true) or non-null reference
abbrev pub AbstractIsAllowed : ℕ → Bool → Abstract → Type 0
AbstractIsAllowed bits true func = Unit {0}
AbstractIsAllowed bits false func = Has bits FunctionReferences
AbstractIsAllowed bits true extern = Unit {0}
AbstractIsAllowed bits false extern = Has bits FunctionReferences
AbstractIsAllowed bits n exn = Has bits Exceptions
AbstractIsAllowed bits n noexn = Has bits Exceptions
AbstractIsAllowed bits n cont = Has bits StackSwitching
AbstractIsAllowed bits n nocont = Has bits StackSwitching
AbstractIsAllowed bits n _ = Has bits Gc

-- standard: valid-heaptype: abstract, typeuse (differs: by the features of releases; shared and exact types too)
-- what a heap type needs; a defined type needs function references or garbage collection
abbrev pub HeapIsAllowed : {R : Type 0} → ℕ → Bool → HeapOf R → Type 0
HeapIsAllowed bits n (abstract s a) =
    (IsTrue s → Has bits SharedEverythingThreads) × CollectorIsAllowed bits a × AbstractIsAllowed bits n a
HeapIsAllowed bits n (concrete r) = Has bits FunctionReferences ⊎ Has bits Gc
HeapIsAllowed bits n (exact r) = Has bits CustomDescriptors

-- standard: valid-valtype: num, vec, ref (differs: by the features of releases)
-- standard: valid-reftype: reftype (differs: by the features of releases)
-- what a value type needs
abbrev pub ValueIsAllowed : {R : Type 0} → ℕ → ValueOf R → Type 0
ValueIsAllowed bits (number n) = NumberIsAllowed bits n
ValueIsAllowed bits (ref n h) = Has bits ReferenceTypes × HeapIsAllowed bits n h
