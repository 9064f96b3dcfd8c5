-- Tables among the rows.
use Rattle.std.proofs.Common.{◌≡◌, ◌↔◌, ℕ, List, [], ◌∷◌, false, Option, Some, None, refl, slice_get}
use Rattle.wasm_types.specs.externs.Addresses as addresses
use Rattle.wasm_types.specs.externs.declared.table.TableType.{TableType}
use Rattle.wasm_types.specs.values.declared.value.ValType.{ValType}
use Rattle.wasm_types.specs.values.declared.value.ValType.TheVariants as vals
use Rattle.wasm_operators_enums.specs.declared.bulk.BulkOperator.{BulkOperator}
use Rattle.wasm_operators_enums.specs.declared.bulk.BulkOperator.TheVariants as bulk
use Rattle.wasm_operators_enums.specs.memory.Table.{bulk_info}
use Rattle.wasm_operators_enums.specs.Op as op
use Rattle.wasm_operator_validator_rules.specs.Operands.{Operand}
use Rattle.wasm_operator_validator_rules.specs.Context.{Context, Table, address_type}
use Rattle.wasm_operator_validator_rules.specs.InstructionTypes.{InstructionType, ◌⟶◌, instruction_type}
use Rattle.wasm_operator_validator_rules.specs.Row.{BulkRow, TableRow}
use Rattle.wasm_operator_validator_state.specs.resources.Meaning.{Meaning, table_in}
use Rattle.wasm_operator_validator_state.specs.State.{State, context, types_in}
use Rattle.wasm_operator_validator_stacks.specs.determined.Operators.{IsPlain, IsInTable, IsUsable}
use Rattle.wasm_operator_validator_stacks.specs.determined.laws.Types.{address_is, reference_is}
use Rattle.wasm_operator_validator_stacks.specs.determined.laws.Usable.{named_usable, named_unusable}
use Rattle.wasm_operator_validator_memory.specs.Tables.{table_is_shared}

-- ---- which are in the table

pub is_bulk : (o : BulkOperator) → IsPlain (op.Bulk o) (bulk_info o).proposal false
is_bulk o = record { of = refl; named = refl; plain = refl }

tabled : (o : BulkOperator) → ((g : Context) (popped pushed : List Operand) → BulkRow g o popped pushed ↔ TableRow g (op.Bulk o) popped pushed)
    → IsInTable (op.Bulk o) (bulk_info o).proposal false
tabled o r = record { is = is_bulk o; row = λ g set popped pushed. r g popped pushed; keeps = λ set. refl }

pub get_in_table : (x : ℕ) → IsInTable (op.Bulk (bulk.TableGet x)) (bulk_info (bulk.TableGet x)).proposal false
get_in_table x = tabled (bulk.TableGet x) (λ g popped pushed. (λ r. r, λ r. r))

pub set_in_table : (x : ℕ) → IsInTable (op.Bulk (bulk.TableSet x)) (bulk_info (bulk.TableSet x)).proposal false
set_in_table x = tabled (bulk.TableSet x) (λ g popped pushed. (λ r. r, λ r. r))

pub grow_in_table : (x : ℕ) → IsInTable (op.Bulk (bulk.TableGrow x)) (bulk_info (bulk.TableGrow x)).proposal false
grow_in_table x = tabled (bulk.TableGrow x) (λ g popped pushed. (λ r. r, λ r. r))

pub size_in_table : (x : ℕ) → IsInTable (op.Bulk (bulk.TableSize x)) (bulk_info (bulk.TableSize x)).proposal false
size_in_table x = tabled (bulk.TableSize x) (λ g popped pushed. (λ r. r, λ r. r))

pub fill_in_table : (x : ℕ) → IsInTable (op.Bulk (bulk.TableFill x)) (bulk_info (bulk.TableFill x)).proposal false
fill_in_table x = tabled (bulk.TableFill x) (λ g popped pushed. (λ r. r, λ r. r))

pub drop_in_table : (x : ℕ) → IsInTable (op.Bulk (bulk.ElemDrop x)) (bulk_info (bulk.ElemDrop x)).proposal false
drop_in_table x = tabled (bulk.ElemDrop x) (λ g popped pushed. (λ r. r, λ r. r))

-- ---- a table by its index

abbrev pub UsableTable : Meaning → State → ℕ → Table → Type 0
UsableTable m σ x t = IsUsable σ table_is_shared (slice_get m.«module».tables x) t

abbrev pub NoTable : Meaning → State → ℕ → Type 0
NoTable m σ x = (t : Table) → UsableTable m σ x t → ⊥

-- a type of indices
abbrev pub IsIndex : TableType → ValType → Type 0
IsIndex t a = a ≡ addresses.address_type t.table64

abbrev pub HasType : Meaning → State → op.Op → List ValType → List ValType → Type 0
HasType m σ o ts us = instruction_type (context m σ.given σ.opens) o ≡ Some (types_in m ts ⟶ types_in m us)

abbrev pub HasNone : Meaning → State → op.Op → Type 0
HasNone m σ o = instruction_type (context m σ.given σ.opens) o ≡ None

abbrev get_of : Table → Option InstructionType
get_of t = Some (address_type t.table64 ∷ [] ⟶ t.element ∷ [])

abbrev set_of : Table → Option InstructionType
set_of t = Some (address_type t.table64 ∷ t.element ∷ [] ⟶ [])

abbrev grow_of : Table → Option InstructionType
grow_of t = Some (t.element ∷ address_type t.table64 ∷ [] ⟶ address_type t.table64 ∷ [])

abbrev size_of : Table → Option InstructionType
size_of t = Some ([] ⟶ address_type t.table64 ∷ [])

abbrev fill_of : Table → Option InstructionType
fill_of t = Some (address_type t.table64 ∷ t.element ∷ address_type t.table64 ∷ [] ⟶ [])

module _ (m : Meaning) (σ : State) (x : ℕ) (t : TableType) (u : UsableTable m σ x (table_in m t)) where
  pub get_type : (a : ValType) → IsIndex t a → HasType m σ (op.Bulk (bulk.TableGet x)) (a ∷ []) (vals.Ref t.element_type ∷ [])
  get_type a p =
      rw (address_is m t.table64 a p, reference_is m t.element_type) (named_usable (context m σ.given σ.opens) table_is_shared get_of (slice_get m.«module».tables x) (table_in m t) u.0 u.1)

  pub set_type : (a : ValType) → IsIndex t a → HasType m σ (op.Bulk (bulk.TableSet x)) (a ∷ vals.Ref t.element_type ∷ []) []
  set_type a p =
      rw (address_is m t.table64 a p, reference_is m t.element_type) (named_usable (context m σ.given σ.opens) table_is_shared set_of (slice_get m.«module».tables x) (table_in m t) u.0 u.1)

  pub grow_type : (a b : ValType) → IsIndex t a → IsIndex t b → HasType m σ (op.Bulk (bulk.TableGrow x)) (vals.Ref t.element_type ∷ a ∷ []) (b ∷ [])
  grow_type a b p q =
      rw (address_is m t.table64 a p, address_is m t.table64 b q, reference_is m t.element_type)
      (named_usable (context m σ.given σ.opens) table_is_shared grow_of (slice_get m.«module».tables x) (table_in m t) u.0 u.1)

  pub size_type : (a : ValType) → IsIndex t a → HasType m σ (op.Bulk (bulk.TableSize x)) [] (a ∷ [])
  size_type a p = rw (address_is m t.table64 a p) (named_usable (context m σ.given σ.opens) table_is_shared size_of (slice_get m.«module».tables x) (table_in m t) u.0 u.1)

  pub fill_type : (a b : ValType) → IsIndex t a → IsIndex t b → HasType m σ (op.Bulk (bulk.TableFill x)) (a ∷ vals.Ref t.element_type ∷ b ∷ []) []
  fill_type a b p q =
      rw (address_is m t.table64 a p, address_is m t.table64 b q, reference_is m t.element_type)
      (named_usable (context m σ.given σ.opens) table_is_shared fill_of (slice_get m.«module».tables x) (table_in m t) u.0 u.1)

pub get_none : (m : Meaning) (σ : State) (x : ℕ) → NoTable m σ x → HasNone m σ (op.Bulk (bulk.TableGet x))
get_none m σ x n = named_unusable (context m σ.given σ.opens) table_is_shared get_of (slice_get m.«module».tables x) n

pub set_none : (m : Meaning) (σ : State) (x : ℕ) → NoTable m σ x → HasNone m σ (op.Bulk (bulk.TableSet x))
set_none m σ x n = named_unusable (context m σ.given σ.opens) table_is_shared set_of (slice_get m.«module».tables x) n

pub grow_none : (m : Meaning) (σ : State) (x : ℕ) → NoTable m σ x → HasNone m σ (op.Bulk (bulk.TableGrow x))
grow_none m σ x n = named_unusable (context m σ.given σ.opens) table_is_shared grow_of (slice_get m.«module».tables x) n

pub size_none : (m : Meaning) (σ : State) (x : ℕ) → NoTable m σ x → HasNone m σ (op.Bulk (bulk.TableSize x))
size_none m σ x n = named_unusable (context m σ.given σ.opens) table_is_shared size_of (slice_get m.«module».tables x) n

pub fill_none : (m : Meaning) (σ : State) (x : ℕ) → NoTable m σ x → HasNone m σ (op.Bulk (bulk.TableFill x))
fill_none m σ x n = named_unusable (context m σ.given σ.opens) table_is_shared fill_of (slice_get m.«module».tables x) n
