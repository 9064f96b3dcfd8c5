-- Memories and data segments among the rows.
use Rattle.std.proofs.Common.{◌≡◌, ◌↔◌, ◌∙◌, ◌&&◌, ℕ, List, [], ◌∷◌, Bool, true, false, Option, Some, None, Result, Ok, Err, MatchResult, refl, ap, slice_get}
use Rattle.wasm_types.specs.externs.Addresses as addresses
use Rattle.wasm_types.specs.externs.declared.memory.MemoryType.{MemoryType}
use Rattle.wasm_types.specs.values.declared.value.ValType.{ValType}
use Rattle.wasm_types.specs.values.declared.value.ValType.TheVariants as vals
use Rattle.wasm_operators_immediates.specs.declared.proposal.Proposal.TheVariants.{Mvp, BulkMemory}
use Rattle.wasm_operators_enums.specs.declared.memory.MemoryOperator.TheVariants as memory
use Rattle.wasm_operators_enums.specs.declared.bulk.BulkOperator.{BulkOperator}
use Rattle.wasm_operators_enums.specs.declared.bulk.BulkOperator.TheVariants as bulk
use Rattle.wasm_operators_enums.specs.memory.Table.{bulk_info}
use Rattle.wasm_operators_enums.specs.Op as op
use Rattle.wasm_operator_validator_rules.specs.Operands.{Operand}
use Rattle.wasm_operator_validator_rules.specs.Context.{Context, address_type}
use Rattle.wasm_operator_validator_rules.specs.InstructionTypes.{InstructionType, ◌⟶◌, provided, named, i32_type, names_data, shorter, instruction_type}
use Rattle.wasm_operator_validator_rules.specs.Row.{BulkRow, TableRow}
use Rattle.wasm_operator_validator_state.specs.resources.Meaning.{Meaning}
use Rattle.wasm_operator_validator_state.specs.Refusals.{kind_of, refused}
use Rattle.wasm_operator_validator_state.specs.State.{State, context, types_in, Checks}
use Rattle.wasm_operator_validator_state.specs.declared.refusal.Refusal.{Refusal}
use Rattle.wasm_operator_validator_state.specs.Entering.{MayBegin}
use Rattle.wasm_operator_validator_stacks.specs.determined.Operators.{IsInTable}
use Rattle.wasm_operator_validator_stacks.specs.determined.laws.Types.{i32_in, address_is}
use Rattle.wasm_operator_validator_stacks.specs.determined.laws.Same.{stays_refl}
use Rattle.wasm_operator_validator_stacks.specs.determined.laws.Determined.{refused_here, undetermined, unchanged, determined}

-- ---- which are in the table

tabled : (o : BulkOperator) → ((g : Context) (popped pushed : List Operand) → BulkRow g o popped pushed ↔ TableRow g (op.Bulk o) popped pushed)
    → IsInTable (op.Bulk o) (bulk_info o).proposal false
tabled o r = record { is = record { of = refl; named = refl; plain = refl }; row = λ g set popped pushed. r g popped pushed; keeps = λ set. refl }

pub size_in_table : (x : ℕ) → IsInTable (op.Memory (memory.MemorySize x)) Mvp false
size_in_table x = record { is = record { of = refl; named = refl; plain = refl }; row = λ g set popped pushed. (λ r. r, λ r. r); keeps = λ set. refl }

pub grow_in_table : (x : ℕ) → IsInTable (op.Memory (memory.MemoryGrow x)) Mvp false
grow_in_table x = record { is = record { of = refl; named = refl; plain = refl }; row = λ g set popped pushed. (λ r. r, λ r. r); keeps = λ set. refl }

pub fill_in_table : (x : ℕ) → IsInTable (op.Bulk (bulk.MemoryFill x)) (bulk_info (bulk.MemoryFill x)).proposal false
fill_in_table x = tabled (bulk.MemoryFill x) (λ g popped pushed. (λ r. r, λ r. r))

pub copy_in_table : (x y : ℕ) → IsInTable (op.Bulk (bulk.MemoryCopy x y)) (bulk_info (bulk.MemoryCopy x y)).proposal false
copy_in_table x y = tabled (bulk.MemoryCopy x y) (λ g popped pushed. (λ r. r, λ r. r))

pub init_in_table : (d x : ℕ) → IsInTable (op.Bulk (bulk.MemoryInit d x)) (bulk_info (bulk.MemoryInit d x)).proposal false
init_in_table d x = tabled (bulk.MemoryInit d x) (λ g popped pushed. (λ r. r, λ r. r))

pub drop_in_table : (d : ℕ) → IsInTable (op.Bulk (bulk.DataDrop d)) (bulk_info (bulk.DataDrop d)).proposal false
drop_in_table d = tabled (bulk.DataDrop d) (λ g popped pushed. (λ r. r, λ r. r))

pub discard_in_table : (x : ℕ) → IsInTable (op.Bulk (bulk.MemoryDiscard x)) (bulk_info (bulk.MemoryDiscard x)).proposal false
discard_in_table x = tabled (bulk.MemoryDiscard x) (λ g popped pushed. (λ r. r, λ r. r))

-- ---- a memory by its index

abbrev pub memory_of : Meaning → ℕ → Option MemoryType
memory_of m x = slice_get m.«module».memories x

at : (o : Option MemoryType) (t : MemoryType) (f : MemoryType → Option InstructionType) → o ≡ Some t → named o f ≡ f t
at o t f e = ap (λ (x : Option MemoryType). named x f) e

nowhere : (o : Option MemoryType) (f : MemoryType → Option InstructionType) → o ≡ None → named o f ≡ None
nowhere o f e = ap (λ (x : Option MemoryType). named x f) e

-- a type of addresses
abbrev pub IsAddress : MemoryType → ValType → Type 0
IsAddress t a = a ≡ addresses.address_type t.memory64

abbrev pub HasType : Meaning → State → op.Op → List ValType → List ValType → Type 0
HasType m σ o ts us = instruction_type (context m σ.given σ.opens) o ≡ Some (types_in m ts ⟶ types_in m us)

abbrev pub HasNone : Meaning → State → op.Op → Type 0
HasNone m σ o = instruction_type (context m σ.given σ.opens) o ≡ None

pub size_type : (m : Meaning) (σ : State) (x : ℕ) (t : MemoryType) (a : ValType) → memory_of m x ≡ Some t → IsAddress t a → HasType m σ (op.Memory (memory.MemorySize x)) [] (a ∷ [])
size_type m σ x t a e p = rw (address_is m t.memory64 a p) (at (memory_of m x) t (λ n. Some ([] ⟶ address_type n.memory64 ∷ [])) e)

pub size_none : (m : Meaning) (σ : State) (x : ℕ) → memory_of m x ≡ None → HasNone m σ (op.Memory (memory.MemorySize x))
size_none m σ x e = nowhere (memory_of m x) (λ n. Some ([] ⟶ address_type n.memory64 ∷ [])) e

pub grow_type : (m : Meaning) (σ : State) (x : ℕ) (t : MemoryType) (a b : ValType) → memory_of m x ≡ Some t → IsAddress t a → IsAddress t b
    → HasType m σ (op.Memory (memory.MemoryGrow x)) (a ∷ []) (b ∷ [])
grow_type m σ x t a b e p q =
    rw (address_is m t.memory64 a p, address_is m t.memory64 b q) (at (memory_of m x) t (λ n. Some (address_type n.memory64 ∷ [] ⟶ address_type n.memory64 ∷ [])) e)

pub grow_none : (m : Meaning) (σ : State) (x : ℕ) → memory_of m x ≡ None → HasNone m σ (op.Memory (memory.MemoryGrow x))
grow_none m σ x e = nowhere (memory_of m x) (λ n. Some (address_type n.memory64 ∷ [] ⟶ address_type n.memory64 ∷ [])) e

pub fill_type : (m : Meaning) (σ : State) (x : ℕ) (t : MemoryType) (a b : ValType) → memory_of m x ≡ Some t → IsAddress t a → IsAddress t b
    → HasType m σ (op.Bulk (bulk.MemoryFill x)) (a ∷ vals.I32 ∷ b ∷ []) []
fill_type m σ x t a b e p q =
    rw (address_is m t.memory64 a p, address_is m t.memory64 b q, i32_in m)
    (at (memory_of m x) t (λ n. Some (address_type n.memory64 ∷ i32_type ∷ address_type n.memory64 ∷ [] ⟶ [])) e)

pub fill_none : (m : Meaning) (σ : State) (x : ℕ) → memory_of m x ≡ None → HasNone m σ (op.Bulk (bulk.MemoryFill x))
fill_none m σ x e = nowhere (memory_of m x) (λ n. Some (address_type n.memory64 ∷ i32_type ∷ address_type n.memory64 ∷ [] ⟶ [])) e

pub discard_type : (m : Meaning) (σ : State) (x : ℕ) (t : MemoryType) (a b : ValType) → memory_of m x ≡ Some t → IsAddress t a → IsAddress t b
    → HasType m σ (op.Bulk (bulk.MemoryDiscard x)) (a ∷ b ∷ []) []
discard_type m σ x t a b e p q =
    rw (address_is m t.memory64 a p, address_is m t.memory64 b q) (at (memory_of m x) t (λ n. Some (address_type n.memory64 ∷ address_type n.memory64 ∷ [] ⟶ [])) e)

pub discard_none : (m : Meaning) (σ : State) (x : ℕ) → memory_of m x ≡ None → HasNone m σ (op.Bulk (bulk.MemoryDiscard x))
discard_none m σ x e = nowhere (memory_of m x) (λ n. Some (address_type n.memory64 ∷ address_type n.memory64 ∷ [] ⟶ [])) e

abbrev copied : MemoryType → MemoryType → Option InstructionType
copied n k = Some (address_type n.memory64 ∷ address_type k.memory64 ∷ shorter n.memory64 k.memory64 ∷ [] ⟶ [])

pub copy_type : (m : Meaning) (σ : State) (x y : ℕ) (t s : MemoryType) (a b l : ValType) → memory_of m x ≡ Some t → memory_of m y ≡ Some s → IsAddress t a → IsAddress s b
    → l ≡ addresses.address_type (t.memory64 && s.memory64) → HasType m σ (op.Bulk (bulk.MemoryCopy x y)) (a ∷ b ∷ l ∷ []) []
copy_type m σ x y t s a b l e f p q r =
    rw (address_is m t.memory64 a p, address_is m s.memory64 b q, address_is m (t.memory64 && s.memory64) l r)
    (at (memory_of m x) t (λ n. named (memory_of m y) (copied n)) e ∙ at (memory_of m y) s (copied t) f)

pub copy_none_to : (m : Meaning) (σ : State) (x y : ℕ) → memory_of m x ≡ None → HasNone m σ (op.Bulk (bulk.MemoryCopy x y))
copy_none_to m σ x y e = nowhere (memory_of m x) (λ n. named (memory_of m y) (copied n)) e

pub copy_none_from : (m : Meaning) (σ : State) (x y : ℕ) (t : MemoryType) → memory_of m x ≡ Some t → memory_of m y ≡ None → HasNone m σ (op.Bulk (bulk.MemoryCopy x y))
copy_none_from m σ x y t e f = at (memory_of m x) t (λ n. named (memory_of m y) (copied n)) e ∙ nowhere (memory_of m y) (copied t) f

-- ---- data segments

abbrev initialised_by : Meaning → ℕ → MemoryType → Option InstructionType
initialised_by m d n = provided (names_data m.«module».data_count d) (address_type n.memory64 ∷ i32_type ∷ i32_type ∷ [] ⟶ [])

pub init_type : (m : Meaning) (σ : State) (d x : ℕ) (t : MemoryType) (a : ValType) → memory_of m x ≡ Some t → names_data m.«module».data_count d ≡ true → IsAddress t a
    → HasType m σ (op.Bulk (bulk.MemoryInit d x)) (a ∷ vals.I32 ∷ vals.I32 ∷ []) []
init_type m σ d x t a e f p =
    rw (address_is m t.memory64 a p, i32_in m)
    (at (memory_of m x) t (initialised_by m d) e ∙ ap (λ (b : Bool). provided b (address_type t.memory64 ∷ i32_type ∷ i32_type ∷ [] ⟶ [])) f)

pub init_none : (m : Meaning) (σ : State) (d x : ℕ) → memory_of m x ≡ None → HasNone m σ (op.Bulk (bulk.MemoryInit d x))
init_none m σ d x e = nowhere (memory_of m x) (initialised_by m d) e

pub init_no_data : (m : Meaning) (σ : State) (d x : ℕ) (t : MemoryType) → memory_of m x ≡ Some t → names_data m.«module».data_count d ≡ false
    → HasNone m σ (op.Bulk (bulk.MemoryInit d x))
init_no_data m σ d x t e f =
    at (memory_of m x) t (initialised_by m d) e ∙ ap (λ (b : Bool). provided b (address_type t.memory64 ∷ i32_type ∷ i32_type ∷ [] ⟶ [])) f

-- `data.drop` changes nothing
pub data_dropped : {X : Type 0} (r : Result X Refusal) (m : Meaning) (σ : State) (d : ℕ) → MayBegin σ BulkMemory false
    → MatchResult r (λ x. names_data m.«module».data_count d ≡ true) (λ x. names_data m.«module».data_count d ≡ false)
    → Checks m σ (op.Bulk (bulk.DataDrop d)) (refused r) σ
data_dropped (Ok x) m σ d b e =
    determined None m σ σ (op.Bulk (bulk.DataDrop d)) BulkMemory false [] [] (drop_in_table d) b (ap (λ (v : Bool). provided v ([] ⟶ [])) e) (unchanged m σ b.framed) (stays_refl σ)
data_dropped (Err x) m σ d b e =
    refused_here (kind_of x) m σ (op.Bulk (bulk.DataDrop d)) BulkMemory false b
    (undetermined m σ (op.Bulk (bulk.DataDrop d)) BulkMemory false (drop_in_table d) b (ap (λ (v : Bool). provided v ([] ⟶ [])) e))
