-- Types as codes of 32 bits: 0 to 3 for numbers, 4 for vectors; from 8 on two for each heap type, the first of references that may be null. Abstract heap
-- types come first, and from 40 on those behind the ids of the validator (WebAssembly 3.0, structure, value types).
use Rattle.std.specs.Prelude.{◌≡◌, ◌-◌, ◌/◌, ◌%◌, ◌==◌, ℕ, Bool, true, false, List, map, nat_lt, slice_get, Some, if◌then◌else◌}
use Rattle.wasm_types.specs.trees.Types.{Number, i32, i64, f32, f64, v128, Abstract, func, extern, any, none, noextern, nofunc, eq, struct, array, i31, exn, noexn}
use Rattle.wasm_types.specs.trees.Types.{HeapOf, abstract, concrete, number, ref}
use Rattle.wasm_types.specs.trees.Trees.{TypeTree}
use Rattle.wasm_types.specs.trees.Below.{HeapBelow}
use Rattle.wasm_types.specs.trees.ValidGroup.{type_at}
use Rattle.wasm_operator_validator_rules.specs.Operands.{ValueType, Operand, known, AllBelow}
use Rattle.wasm_operator_validator_fast_tables.specs.declared.order.Step.{Step}
use Rattle.wasm_operator_validator_fast_tables.specs.Stacks.{Values}

-- ---- what a code stands for, by the types behind the ids

abbrev pub number_of : ℕ → Number
number_of n = if n == 0 then i32 else if n == 1 then i64 else if n == 2 then f32 else if n == 3 then f64 else v128

abbrev pub abstract_of : ℕ → Abstract
abstract_of n =
    if n == 0 then func else if n == 1 then extern else if n == 2 then any else if n == 3 then none else if n == 4 then noextern else if n == 5 then nofunc
    else if n == 6 then eq else if n == 7 then struct else if n == 8 then array else if n == 9 then i31 else if n == 10 then exn else noexn

-- heap types by their numbers: 16 abstract ones, of which twelve are there, and then the ids
abbrev pub heap_of : List TypeTree → ℕ → HeapOf TypeTree
heap_of ids n = if nat_lt n 16 then abstract false (abstract_of n) else concrete (type_at ids (n - 16))

abbrev pub type_of : List TypeTree → ℕ → ValueType
type_of ids n = if nat_lt n 8 then number (number_of n) else ref (n % 2 == 0) (heap_of ids ((n - 8) / 2))

-- the code of the addresses of a memory, and of the indices of a table, of 64 bits or of 32
abbrev pub address_of : Bool → ℕ
address_of true = 1
address_of false = 0

abbrev pub types : List TypeTree → List ℕ → List ValueType
types ids ns = map (type_of ids) ns

abbrev pub operands : List TypeTree → List ℕ → List Operand
operands ids ns = map known (types ids ns)

-- ---- what is below what

-- A step up from a heap type, as its number: to the supertype that a type declares, or to the abstract type above it; the number of the
-- bottom type below it; and a type further up, so that few steps lead far. So a walk up a table tells what is below what, and asks no module.
pub record IsStep (ids : List TypeTree) (n : ℕ) (s : Step) : Type 0 where
  pub up : HeapBelow (heap_of ids n) (heap_of ids s.above)
  pub far : HeapBelow (heap_of ids n) (heap_of ids s.far)
  pub down : HeapBelow (heap_of ids s.bottom) (heap_of ids n)

abbrev pub AreSteps : List TypeTree → List Step → Type 0
AreSteps ids steps = (n : ℕ) (s : Step) → slice_get steps n ≡ Some s → IsStep ids n s

-- operands of the first codes may be taken for those of the second, if the steps are right (validation, matching, result types)
abbrev pub AreBelow : List Step → List ℕ → List ℕ → Type 0
AreBelow steps ns ms = (ids : List TypeTree) → AreSteps ids steps → AllBelow (operands ids ns) (operands ids ms)

-- the operands of the innermost frame may be taken for others; those under it stay
abbrev pub IsLowered : List Step → Values → Values → Type 0
IsLowered steps v m = (v.1 ≡ m.1) × AreBelow steps v.0 m.0
