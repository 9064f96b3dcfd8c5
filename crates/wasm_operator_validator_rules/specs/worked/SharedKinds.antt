-- What tells the kinds of atomic accesses apart, for each operator that modifies or exchanges, and for others of which no row says so.
--
-- An operator that modifies has the same row at a place of a number as one that exchanges. So each has a row there, and none at a place
-- of a reference, at which the others have one.
use Rattle.std.specs.Prelude.{List, [], ◌∷◌, ◌++◌}
use Rattle.wasm_operators_immediates.specs.declared.memory.Ordering.TheVariants as ordering
use Rattle.wasm_operators_enums.specs.declared.atomic.SharedOperator.{SharedOperator}
use Rattle.wasm_operators_enums.specs.declared.atomic.SharedOperator.TheVariants as shared
use Rattle.wasm_operator_validator_rules.specs.Operands.{Operand, known}
use Rattle.wasm_operator_validator_rules.specs.SharedAccesses.{SharedRow}
use Rattle.wasm_operator_validator_rules.specs.worked.Operators.{i32_known, i64_known}
use Rattle.wasm_operator_validator_rules.specs.worked.References.{null_to, to, cell, HasNo}
use Rattle.wasm_operator_validator_rules.specs.worked.Objects.{node, numbers, bytes, cells}
use Rattle.wasm_operator_validator_rules.specs.worked.SharedAccesses.{there, to_any}

-- the operands by which a field of `node` is reached, and an element of an array of numbers and of one of references
abbrev pub in_node : List Operand
in_node = known (null_to node) ∷ []

abbrev pub in_numbers : List Operand
in_numbers = known (null_to numbers) ∷ i32_known ∷ []

abbrev pub in_cells : List Operand
in_cells = known (null_to cells) ∷ i32_known ∷ []

-- a number of a place is replaced, and given as it was; at a place of a reference there is no row
abbrev pub Modifies : List Operand → Operand → SharedOperator → SharedOperator → Type 0
Modifies reached number at_number at_reference = SharedRow there at_number (reached ++ number ∷ []) (number ∷ []) × HasNo (SharedRow there at_reference)

-- a reference of a place is replaced, and given as it was; at a place that is not mutable, or is packed, there is no row
abbrev pub Exchanges : List Operand → Operand → SharedOperator → SharedOperator → Type 0
Exchanges reached reference at_reference elsewhere =
    SharedRow there at_reference (reached ++ reference ∷ []) (reference ∷ []) × HasNo (SharedRow there elsewhere)

-- ---- 0 is a global of a number, and 1 of a reference

pub record SharedGlobalsWorked : Type 0 where
  pub add : Modifies [] i32_known (shared.GlobalAtomicRmwAdd ordering.SeqCst 0) (shared.GlobalAtomicRmwAdd ordering.SeqCst 1)
  pub sub : Modifies [] i32_known (shared.GlobalAtomicRmwSub ordering.SeqCst 0) (shared.GlobalAtomicRmwSub ordering.SeqCst 1)
  pub conjunction : Modifies [] i32_known (shared.GlobalAtomicRmwAnd ordering.SeqCst 0) (shared.GlobalAtomicRmwAnd ordering.SeqCst 1)
  pub disjunction : Modifies [] i32_known (shared.GlobalAtomicRmwOr ordering.SeqCst 0) (shared.GlobalAtomicRmwOr ordering.SeqCst 1)
  pub difference : Modifies [] i32_known (shared.GlobalAtomicRmwXor ordering.SeqCst 0) (shared.GlobalAtomicRmwXor ordering.SeqCst 1)
  pub exchange : Exchanges [] (known to_any) (shared.GlobalAtomicRmwXchg ordering.SeqCst 1) (shared.GlobalAtomicRmwXchg ordering.SeqCst 4)
  pub table_exchange_extern : HasNo (SharedRow there (shared.TableAtomicRmwXchg ordering.SeqCst 1))

-- ---- `node` is 1: its field 0 is a number, 1 is packed, and 2 is a reference

pub record SharedFieldsWorked : Type 0 where
  pub add : Modifies in_node i32_known (shared.StructAtomicRmwAdd ordering.SeqCst 1 0) (shared.StructAtomicRmwAdd ordering.SeqCst 1 2)
  pub sub : Modifies in_node i32_known (shared.StructAtomicRmwSub ordering.SeqCst 1 0) (shared.StructAtomicRmwSub ordering.SeqCst 1 2)
  pub conjunction : Modifies in_node i32_known (shared.StructAtomicRmwAnd ordering.SeqCst 1 0) (shared.StructAtomicRmwAnd ordering.SeqCst 1 2)
  pub disjunction : Modifies in_node i32_known (shared.StructAtomicRmwOr ordering.SeqCst 1 0) (shared.StructAtomicRmwOr ordering.SeqCst 1 2)
  pub difference : Modifies in_node i32_known (shared.StructAtomicRmwXor ordering.SeqCst 1 0) (shared.StructAtomicRmwXor ordering.SeqCst 1 2)
  pub exchange : Exchanges in_node (known (to cell)) (shared.StructAtomicRmwXchg ordering.SeqCst 1 2) (shared.StructAtomicRmwXchg ordering.SeqCst 1 1)
  pub compare : SharedRow there (shared.StructAtomicRmwCmpxchg ordering.SeqCst 1 2) (in_node ++ known (to cell) ∷ known (to cell) ∷ [])
      (known (to cell) ∷ [])
  pub compare_packed : HasNo (SharedRow there (shared.StructAtomicRmwCmpxchg ordering.SeqCst 1 1))
  pub unsigned_unpacked : HasNo (SharedRow there (shared.StructAtomicGetU ordering.SeqCst 1 0))

-- ---- 2 is an array of numbers, 3 of bytes, 4 of references, 6 of floats

pub record SharedElementsWorked : Type 0 where
  pub add : Modifies in_numbers i64_known (shared.ArrayAtomicRmwAdd ordering.SeqCst 2) (shared.ArrayAtomicRmwAdd ordering.SeqCst 4)
  pub sub : Modifies in_numbers i64_known (shared.ArrayAtomicRmwSub ordering.SeqCst 2) (shared.ArrayAtomicRmwSub ordering.SeqCst 4)
  pub conjunction : Modifies in_numbers i64_known (shared.ArrayAtomicRmwAnd ordering.SeqCst 2) (shared.ArrayAtomicRmwAnd ordering.SeqCst 4)
  pub disjunction : Modifies in_numbers i64_known (shared.ArrayAtomicRmwOr ordering.SeqCst 2) (shared.ArrayAtomicRmwOr ordering.SeqCst 4)
  pub difference : Modifies in_numbers i64_known (shared.ArrayAtomicRmwXor ordering.SeqCst 2) (shared.ArrayAtomicRmwXor ordering.SeqCst 4)
  pub exchange : Exchanges in_cells (known (null_to cell)) (shared.ArrayAtomicRmwXchg ordering.SeqCst 4) (shared.ArrayAtomicRmwXchg ordering.SeqCst 3)
  pub compare_float : HasNo (SharedRow there (shared.ArrayAtomicRmwCmpxchg ordering.SeqCst 6))
  pub signed_unpacked : HasNo (SharedRow there (shared.ArrayAtomicGetS ordering.SeqCst 2))
  pub unsigned : SharedRow there (shared.ArrayAtomicGetU ordering.SeqCst 3) (known (null_to bytes) ∷ i32_known ∷ []) (i32_known ∷ [])
