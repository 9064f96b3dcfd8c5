-- What atomic accesses take and give, by their codes behind the prefix `fe` (the proposal on threads).
use Rattle.std.specs.Prelude.{◌≡◌, ℕ, List, [], ◌∷◌, ◌++◌, Some, true, reverse}
use Rattle.wasm_types.specs.trees.Types.{Number}
use Rattle.wasm_types.specs.trees.Trees.{TypeTree}
use Rattle.wasm_operators_immediates.specs.declared.memory.MemArg.{MemArg}
use Rattle.wasm_operators_immediates.specs.declared.proposal.Proposal.TheVariants.{Threads}
use Rattle.wasm_operators_immediates.specs.Kinds.{AccessOrdering}
use Rattle.wasm_operators_immediates.specs.Immediates.{MemoryArgument}
use Rattle.wasm_operators_enums.specs.declared.atomic.AtomicOperator.{AtomicOperator}
use Rattle.wasm_operators_enums.specs.Op as op
use Rattle.wasm_operators_enums.specs.Table.{info_of}
use Rattle.wasm_operators_enums.specs.Immediates.{immediates_of}
use Rattle.wasm_operator_validator_rules.specs.Accesses.{Access, load, store, modify, compare_exchange, notify, wait, operands_of, results_of}
use Rattle.wasm_operator_validator_rules.specs.Context.{Context}
use Rattle.wasm_operator_validator_rules.specs.InstructionTypes.{instruction_type, accesses}
use Rattle.wasm_operator_validator_rules.specs.Numbers.{numbers}
use Rattle.wasm_operator_validator_fast_tables.specs.Stacks.{Values}
use Rattle.wasm_operator_validator_fast_tables.specs.Values.{number_of, types}
use Rattle.wasm_operator_validator_fast_objects.specs.declared.atomics.AccessClass.{AccessClass}
use Rattle.wasm_operator_validator_fast_objects.specs.declared.atomics.AccessClass.TheVariants as class

-- an access of a class, of a number
abbrev pub access_of : AccessClass → Number → Access
access_of class.Load n = load n
access_of class.Store n = store n
access_of class.Modify n = modify n
access_of class.CompareExchange n = compare_exchange n
access_of class.Notify n = notify
access_of class.Wait n = wait n

-- the codes of what it takes above the address
abbrev pub taken_by : AccessClass → ℕ → List ℕ
taken_by class.Load ty = []
taken_by class.Store ty = ty ∷ []
taken_by class.Modify ty = ty ∷ []
taken_by class.CompareExchange ty = ty ∷ ty ∷ []
taken_by class.Notify ty = 0 ∷ []
taken_by class.Wait ty = ty ∷ 1 ∷ []

-- those of what it gives
abbrev pub given_by : AccessClass → ℕ → List ℕ
given_by class.Load ty = ty ∷ []
given_by class.Store ty = []
given_by class.Modify ty = ty ∷ []
given_by class.CompareExchange ty = ty ∷ []
given_by class.Notify ty = 0 ∷ []
given_by class.Wait ty = 0 ∷ []

-- with any argument of this natural alignment the operator with this code is an atomic access of this class and type
pub record IsAtomicAt (code natural : ℕ) (k : AccessClass) (ty : ℕ) : Type 0 where
  pub ordering : AccessOrdering
  pub operator : MemArg → AtomicOperator
  pub code_is : (a : MemArg) → (info_of (op.Atomic (operator a))).code ≡ code
  pub prefix_is : (a : MemArg) → (info_of (op.Atomic (operator a))).prefix ≡ Some 0xfe
  pub of : (a : MemArg) → (info_of (op.Atomic (operator a))).proposal ≡ Threads
  pub carries : (a : MemArg) → immediates_of (op.Atomic (operator a)) ≡ MemoryArgument ordering natural a ∷ []
  pub table : (a : MemArg) (g : Context)
      → instruction_type g (op.Atomic (operator a)) ≡ accesses g true (Some (record { access = access_of k (number_of ty); argument = a }))
  pub taken : (ids : List TypeTree) → types ids (taken_by k ty) ≡ numbers (operands_of (access_of k (number_of ty)))
  pub given : (ids : List TypeTree) → types ids (given_by k ty) ≡ numbers (results_of (access_of k (number_of ty)))

-- an access of this class and type, to an address of this code, makes these operands of those
abbrev pub Exchanges : AccessClass → ℕ → ℕ → Values → Values → Type 0
Exchanges k ty address v w = (r u : List ℕ) × (v ≡ (reverse (address ∷ taken_by k ty) ++ r, u)) × (w ≡ (reverse (given_by k ty) ++ r, u))
