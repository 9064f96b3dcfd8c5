-- Atomic accesses among the rows.
use Rattle.std.proofs.Common.{◌≡◌, ◌∙◌, ◌&&◌, List, [], ◌∷◌, Bool, true, false, Option, Some, None, Result, Ok, Err, IfErr, refl, sym, ap, slice_get, if◌then◌else◌}
use Rattle.wasm_types.specs.trees.Types.{Number, i32, i64}
use Rattle.wasm_types.specs.externs.declared.memory.MemoryType.{MemoryType}
use Rattle.wasm_types.specs.values.declared.value.ValType.{ValType}
use Rattle.wasm_types.specs.values.declared.value.ValType.TheVariants as vals
use Rattle.wasm_operators_immediates.specs.declared.memory.MemArg.{MemArg}
use Rattle.wasm_operators_immediates.specs.declared.proposal.Proposal.TheVariants.{Threads}
use Rattle.wasm_operators_enums.specs.declared.atomic.AtomicOperator.{AtomicOperator}
use Rattle.wasm_operators_enums.specs.declared.atomic.AtomicOperator.TheVariants as atomic
use Rattle.wasm_operators_enums.specs.threads.Table.{atomic_info}
use Rattle.wasm_operators_enums.specs.Op as op
use Rattle.wasm_operator_validator_rules.specs.Operands.{ValueType}
use Rattle.wasm_operator_validator_rules.specs.Context.{Context, address_type}
use Rattle.wasm_operator_validator_rules.specs.Accesses.{Access, AccessOf, atomic_access_of, load, store, modify, compare_exchange, notify, wait, is_aligned, is_within, is_in_memory}
use Rattle.wasm_operator_validator_rules.specs.InstructionTypes.{◌⟶◌, accesses, atomic_type_of, instruction_type}
use Rattle.wasm_operator_validator_state.specs.resources.Meaning.{Meaning, type_in}
use Rattle.wasm_operator_validator_state.specs.Refusals.{Does, refused}
use Rattle.wasm_operator_validator_state.specs.declared.refusal.Refusal.{Refusal}
use Rattle.wasm_operator_validator_state.specs.Entering.{MayBegin, StopsWith}
use Rattle.wasm_operator_validator_state.specs.State.{State, context, types_in, Checks}
use Rattle.wasm_operator_validator_stacks.specs.determined.Operators.{IsInTable, IsOfContent}
use Rattle.wasm_operator_validator_stacks.specs.determined.laws.Types.{number_in}
use Rattle.wasm_operator_validator_stacks.specs.determined.laws.Same.{stays_refl}
use Rattle.wasm_operator_validator_stacks.specs.determined.laws.Determined.{not_begun, stopped_by_content, unchanged, determined}
use Rattle.wasm_operator_validator_memory.specs.Reaching.{reached, number_of}
use Rattle.wasm_operator_validator_memory.specs.laws.Reaching.{accesses_at, accesses_nowhere}
use Rattle.wasm_operator_validator_memory.specs.atomics.Atomics.{IsAtomic}

-- another alignment than the natural one
pub misaligned : (a : MemArg) (o : Option MemoryType) (x : Bool) → x ≡ is_aligned true a → x ≡ false → reached true a o ≡ None
misaligned a None x e f = refl
misaligned a (Some m) x e f =
    ap (λ (b : Bool). if b && is_within m a && is_in_memory a.target then Some (address_type m.memory64) else None) (sym e ∙ f)

-- ---- which are in the table

is_threads : (o : AtomicOperator) → (atomic_info o).proposal ≡ Threads
is_threads atomic.AtomicFence = refl
is_threads o = refl

pub in_table : (o : AtomicOperator) → IsInTable (op.Atomic o) Threads false
in_table o = record {
  is = record { of = is_threads o; named = refl; plain = refl };
  row = λ g set popped pushed. (λ r. r, λ r. r);
  keeps = λ set. refl;
}

atomic_accesses : (g : Context) (o : AtomicOperator) (a : AccessOf) → atomic_access_of o ≡ Some a → atomic_type_of g o ≡ accesses g true (Some a)
atomic_accesses g atomic.AtomicFence a e = cc
atomic_accesses g o a e = ap (accesses g true) e

-- an access of a kind that names its number
abbrev accessed : (Number → Access) → ValType → MemArg → AccessOf
accessed k t a = record { access = k (number_of t); argument = a }

abbrev pub Reaches : Meaning → MemArg → Option ValueType → Type 0
Reaches m a u = reached true a (slice_get m.«module».memories a.memory) ≡ u

abbrev pub HasType : Meaning → State → AtomicOperator → List ValType → List ValType → Type 0
HasType m σ o ts us = instruction_type (context m σ.given σ.opens) (op.Atomic o) ≡ Some (types_in m ts ⟶ types_in m us)

pub no_access : (m : Meaning) (σ : State) (k : Number → Access) (o : AtomicOperator) (a : MemArg) (t : ValType) → IsAtomic k o a t → Reaches m a None
    → instruction_type (context m σ.given σ.opens) (op.Atomic o) ≡ None
no_access m σ k o a t i e = atomic_accesses (context m σ.given σ.opens) o (accessed k t a) i.of ∙ accesses_nowhere m σ true (accessed k t a) e

module _ (m : Meaning) (σ : State) (o : AtomicOperator) (a : MemArg) (t u : ValType) (e : Reaches m a (Some (type_in m u))) where
  pub load_type : IsAtomic load o a t → HasType m σ o (u ∷ []) (t ∷ [])
  load_type i =
      rw (number_in m t (number_of t) i.typed)
      (atomic_accesses (context m σ.given σ.opens) o (accessed load t a) i.of ∙ accesses_at m σ true (accessed load t a) (type_in m u) e)

  pub store_type : IsAtomic store o a t → HasType m σ o (u ∷ t ∷ []) []
  store_type i =
      rw (number_in m t (number_of t) i.typed)
      (atomic_accesses (context m σ.given σ.opens) o (accessed store t a) i.of ∙ accesses_at m σ true (accessed store t a) (type_in m u) e)

  pub modify_type : IsAtomic modify o a t → HasType m σ o (u ∷ t ∷ []) (t ∷ [])
  modify_type i =
      rw (number_in m t (number_of t) i.typed)
      (atomic_accesses (context m σ.given σ.opens) o (accessed modify t a) i.of ∙ accesses_at m σ true (accessed modify t a) (type_in m u) e)

  pub compare_exchange_type : IsAtomic compare_exchange o a t → HasType m σ o (u ∷ t ∷ t ∷ []) (t ∷ [])
  compare_exchange_type i =
      rw (number_in m t (number_of t) i.typed)
      (atomic_accesses (context m σ.given σ.opens) o (accessed compare_exchange t a) i.of ∙ accesses_at m σ true (accessed compare_exchange t a) (type_in m u) e)

  pub wait_type : IsAtomic wait o a t → HasType m σ o (u ∷ t ∷ vals.I64 ∷ []) (vals.I32 ∷ [])
  wait_type i =
      rw (number_in m t (number_of t) i.typed, number_in m vals.I64 i64 refl, number_in m vals.I32 i32 refl)
      (atomic_accesses (context m σ.given σ.opens) o (accessed wait t a) i.of ∙ accesses_at m σ true (accessed wait t a) (type_in m u) e)

abbrev notified : MemArg → AccessOf
notified a = record { access = notify; argument = a }

pub notify_type : (m : Meaning) (σ : State) (a : MemArg) (u : ValType) → Reaches m a (Some (type_in m u))
    → HasType m σ (atomic.MemoryAtomicNotify a) (u ∷ vals.I32 ∷ []) (vals.I32 ∷ [])
notify_type m σ a u e = rw (number_in m vals.I32 i32 refl) (accesses_at m σ true (notified a) (type_in m u) e)

pub no_notify : (m : Meaning) (σ : State) (a : MemArg) → Reaches m a None → instruction_type (context m σ.given σ.opens) (op.Atomic (atomic.MemoryAtomicNotify a)) ≡ None
no_notify m σ a e = accesses_nowhere m σ true (notified a) e

-- a fence changes nothing
pub fenced : {X : Type 0} (r : Result X Refusal) (m : Meaning) (σ : State) → Does (refused r) (MayBegin σ Threads false) (MayBegin σ Threads false)
    → IfErr r (λ e. StopsWith σ Threads false e) → Checks m σ (op.Atomic atomic.AtomicFence) (refused r) σ
fenced (Ok x) m σ b s =
    determined None m σ σ (op.Atomic atomic.AtomicFence) Threads false [] [] (in_table atomic.AtomicFence) b refl (unchanged m σ b.framed) (stays_refl σ)
fenced (Err x) m σ b s = not_begun x m σ (op.Atomic atomic.AtomicFence) Threads false (in_table atomic.AtomicFence).is b s

pub unfenced : {X : Type 0} (r : Result X Refusal) (σ : State) → IfErr r (λ e. StopsWith σ Threads false e) → IfErr r IsOfContent
unfenced (Ok x) σ s = tt
unfenced (Err x) σ s = stopped_by_content σ Threads false x s
