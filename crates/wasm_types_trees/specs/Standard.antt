-- Subtyping by the rules of the standard as they are written (WebAssembly 3.0, validation, matching). No other rule cites it;
-- a law promises that it is `Below` on valid types. The parameter V is which types are valid.
use Rattle.std.specs.Prelude.{◌≡◌, Bool, Some}
use Rattle.wasm_types_trees.specs.Types.{func, extern, any, none, noextern, nofunc, eq, struct, array, i31, exn, noexn, cont, nocont, HeapOf}
use Rattle.wasm_types_trees.specs.Types.{abstract, concrete, exact, ValueOf, number, ref}
use Rattle.wasm_types_trees.specs.Each.{EachHeap}
use Rattle.wasm_types_trees.specs.Trees.{TypeTree}
use Rattle.wasm_types_trees.specs.Below.{expanded, is_shared, supertype, abstract_above, NullBelow}

-- Heap types: each rule of the standard, in its order. The abstract types of one rule are all shared or all not, by the
-- proposal on shared everything; `nocont` is added by the proposal on stack switching, `exact` by that on custom descriptors.
pub data HeapMatches (V : TypeTree → Type 0) : HeapOf TypeTree → HeapOf TypeTree → Type 0 where
  reflexive : {h : HeapOf TypeTree} → HeapMatches V h h
  transitive : {h k l : HeapOf TypeTree} → EachHeap V k → HeapMatches V h k → HeapMatches V k l → HeapMatches V h l
  eq_any : {s : Bool} → HeapMatches V (abstract s eq) (abstract s any)
  i31_eq : {s : Bool} → HeapMatches V (abstract s i31) (abstract s eq)
  struct_eq : {s : Bool} → HeapMatches V (abstract s struct) (abstract s eq)
  array_eq : {s : Bool} → HeapMatches V (abstract s array) (abstract s eq)
  -- a defined type below the abstract type of its constructor: struct, array, func, cont
  expansion : {t : TypeTree} → HeapMatches V (concrete t) (abstract (is_shared t) (abstract_above (expanded t)))
  -- a defined type below the supertype that it declares
  declaration : {t u : TypeTree} → supertype t ≡ Some u → HeapMatches V (concrete t) (concrete u)
  none_below : {s : Bool} {h : HeapOf TypeTree} → HeapMatches V h (abstract s any) → HeapMatches V (abstract s none) h
  nofunc_below : {s : Bool} {h : HeapOf TypeTree} → HeapMatches V h (abstract s func) → HeapMatches V (abstract s nofunc) h
  noexn_below : {s : Bool} {h : HeapOf TypeTree} → HeapMatches V h (abstract s exn) → HeapMatches V (abstract s noexn) h
  noextern_below : {s : Bool} {h : HeapOf TypeTree} → HeapMatches V h (abstract s extern) → HeapMatches V (abstract s noextern) h
  nocont_below : {s : Bool} {h : HeapOf TypeTree} → HeapMatches V h (abstract s cont) → HeapMatches V (abstract s nocont) h
  -- an exact type below the same type
  exactly : {t : TypeTree} → HeapMatches V (exact t) (concrete t)

-- value types: a number or vector matches itself alone, a reference type by nullability and heap type
abbrev pub ValueMatches : (TypeTree → Type 0) → ValueOf TypeTree → ValueOf TypeTree → Type 0
ValueMatches V (number n) (number m) = n ≡ m
ValueMatches V (number n) (ref m k) = ⊥
ValueMatches V (ref n h) (number m) = ⊥
ValueMatches V (ref n h) (ref m k) = NullBelow n m × HeapMatches V h k
