-- Types that are below one another and types that are not.
use Rattle.std.specs.Prelude.{true, false, List, [], ◌∷◌}
use Rattle.wasm_types_trees.specs.Types.{i32, i64, f32, f64, v128, Abstract, func, extern, any, none, noextern, nofunc, eq, struct, array, i31, exn}
use Rattle.wasm_types_trees.specs.Types.{noexn, cont, nocont, HeapOf, abstract, concrete, exact, ValueOf, number, ref}
use Rattle.wasm_types_trees.specs.Trees.{TypeTree}
use Rattle.wasm_types_trees.specs.Below.{Below}
use Rattle.wasm_types_trees.specs.worked.Types.{base, derived, leaf, unrelated, shared_struct, routine, numbers, suspended, broken}

-- below each of these value types, and below none of these
abbrev pub IsBelowEach : ValueOf TypeTree → List (ValueOf TypeTree) → Type 0
IsBelowEach v [] = Unit {0}
IsBelowEach v (w ∷ ws) = Below v w × IsBelowEach v ws

abbrev pub IsBelowNone : ValueOf TypeTree → List (ValueOf TypeTree) → Type 0
IsBelowNone v [] = Unit {0}
IsBelowNone v (w ∷ ws) = (Below v w → ⊥) × IsBelowNone v ws

-- the same of heap types, by non-null references
abbrev pub HeapIsBelowEach : HeapOf TypeTree → List (HeapOf TypeTree) → Type 0
HeapIsBelowEach h [] = Unit {0}
HeapIsBelowEach h (k ∷ ks) = Below (ref false h) (ref false k) × HeapIsBelowEach h ks

abbrev pub HeapIsBelowNone : HeapOf TypeTree → List (HeapOf TypeTree) → Type 0
HeapIsBelowNone h [] = Unit {0}
HeapIsBelowNone h (k ∷ ks) = (Below (ref false h) (ref false k) → ⊥) × HeapIsBelowNone h ks

-- an abstract type that is not shared
abbrev pub plain : {R : Type 0} → Abstract → HeapOf R
plain a = abstract false a

pub record SubtypesWorked : Type 0 where
  pub same_numbers : IsBelowEach (number i32) (number i32 ∷ [])
  pub other_numbers : IsBelowNone (number i32) (number i64 ∷ number f32 ∷ number f64 ∷ number v128 ∷ ref true (plain any) ∷ [])
  pub number_above : IsBelowNone (ref true (plain none)) (number i32 ∷ [])
  pub non_null : IsBelowEach (ref false (concrete base)) (ref false (concrete base) ∷ ref true (concrete base) ∷ [])
  pub null : IsBelowEach (ref true (concrete base)) (ref true (concrete base) ∷ [])
  pub null_for_non_null : IsBelowNone (ref true (concrete base)) (ref false (concrete base) ∷ [])
  -- abstract types
  pub eq_types : HeapIsBelowEach (plain eq) (plain eq ∷ plain any ∷ [])
  pub eq_types_not : HeapIsBelowNone (plain eq) (plain struct ∷ plain i31 ∷ plain none ∷ abstract true any ∷ plain extern ∷ [])
  pub any_types_not : HeapIsBelowNone (plain any) (plain eq ∷ plain i31 ∷ plain none ∷ concrete base ∷ exact base ∷ [])
  pub i31_types : HeapIsBelowEach (plain i31) (plain i31 ∷ plain eq ∷ plain any ∷ [])
  pub i31_types_not : HeapIsBelowNone (plain i31) (plain struct ∷ plain array ∷ plain none ∷ concrete base ∷ [])
  pub bottoms : HeapIsBelowEach (plain none) (plain i31 ∷ plain array ∷ plain eq ∷ plain any ∷ concrete base ∷ concrete leaf ∷ exact leaf ∷ concrete numbers ∷ [])
  pub bottoms_not : HeapIsBelowNone (plain none) (plain func ∷ plain extern ∷ plain exn ∷ concrete routine ∷ concrete shared_struct ∷ exact routine ∷ [])
  pub function_bottoms : HeapIsBelowEach (plain nofunc) (plain func ∷ concrete routine ∷ exact routine ∷ [])
  pub function_bottoms_not : HeapIsBelowNone (plain nofunc) (plain any ∷ plain none ∷ concrete base ∷ concrete suspended ∷ [])
  pub continuation_bottoms : HeapIsBelowEach (plain nocont) (plain cont ∷ concrete suspended ∷ [])
  pub other_bottoms : HeapIsBelowEach (plain noextern) (plain extern ∷ []) × HeapIsBelowEach (plain noexn) (plain exn ∷ [])
  pub other_bottoms_not : HeapIsBelowNone (plain noextern) (plain any ∷ plain exn ∷ concrete base ∷ []) × HeapIsBelowNone (plain noexn)
      (plain any ∷ plain extern ∷ concrete base ∷ [])
  -- types by declaration, and their abstract types
  pub structs : HeapIsBelowEach (concrete leaf) (concrete leaf ∷ concrete derived ∷ concrete base ∷ plain struct ∷ plain eq ∷ plain any ∷ [])
  pub structs_not : HeapIsBelowNone (concrete derived) (concrete leaf ∷ concrete unrelated ∷ exact derived ∷ exact base ∷ plain array ∷ plain func
      ∷ plain none ∷ abstract true struct ∷ [])
  pub undeclared : HeapIsBelowNone (concrete unrelated) (concrete base ∷ concrete derived ∷ [])
  pub shared_structs : HeapIsBelowEach (concrete shared_struct) (abstract true struct ∷ abstract true any ∷ [])
  pub shared_structs_not : HeapIsBelowNone (concrete shared_struct) (plain struct ∷ plain any ∷ concrete base ∷ [])
  pub arrays : HeapIsBelowEach (concrete numbers) (plain array ∷ plain eq ∷ plain any ∷ [])
  pub arrays_not : HeapIsBelowNone (concrete numbers) (plain struct ∷ plain func ∷ concrete base ∷ [])
  pub functions : HeapIsBelowEach (concrete routine) (plain func ∷ [])
  pub functions_not : HeapIsBelowNone (concrete routine) (plain any ∷ plain cont ∷ plain nofunc ∷ [])
  pub continuations : HeapIsBelowEach (concrete suspended) (plain cont ∷ [])
  pub continuations_not : HeapIsBelowNone (concrete suspended) (plain func ∷ plain any ∷ concrete routine ∷ [])
  -- exactly one type
  pub exact_types : HeapIsBelowEach (exact derived) (exact derived ∷ concrete derived ∷ concrete base ∷ plain struct ∷ plain any ∷ [])
  pub exact_types_not : HeapIsBelowNone (exact derived) (exact base ∷ exact leaf ∷ concrete leaf ∷ plain array ∷ plain none ∷ [])
  -- a function type that declares a struct carries no null of functions to a null of structs, nor the other way round
  pub no_null_carried : IsBelowNone (ref true (plain nofunc)) (ref true (concrete broken) ∷ ref true (concrete base) ∷ ref true (plain struct) ∷ ref true (plain none) ∷ [])
  pub broken_chain : HeapIsBelowEach (concrete broken) (concrete base ∷ plain func ∷ plain struct ∷ [])
  pub no_way_in : HeapIsBelowNone (plain nofunc) (concrete broken ∷ exact broken ∷ [])
  pub no_way_in_either : HeapIsBelowNone (plain none) (concrete broken ∷ exact broken ∷ [])
