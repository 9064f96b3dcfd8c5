-- What an access takes and gives, by the type of addresses of the memory that it reaches into.
use Rattle.std.proofs.Common.{◌≡◌, ◌∷◌, Bool, true, false, Option, Some, None, refl, ap, slice_get, if◌then◌else◌}
use Rattle.wasm_types.specs.externs.declared.memory.MemoryType.{MemoryType}
use Rattle.wasm_operator_validator_rules.specs.Operands.{ValueType}
use Rattle.wasm_operator_validator_rules.specs.Numbers.{numbers}
use Rattle.wasm_operator_validator_rules.specs.Context.{address_type}
use Rattle.wasm_operator_validator_rules.specs.Accesses.{AccessOf, operands_of, results_of, may_access}
use Rattle.wasm_operator_validator_rules.specs.InstructionTypes.{InstructionType, ◌⟶◌, provided, named, accesses}
use Rattle.wasm_operator_validator_state.specs.resources.Meaning.{Meaning}
use Rattle.wasm_operator_validator_state.specs.State.{State, context}
use Rattle.wasm_operator_validator_memory.specs.Reaching.{reached}

by_test : (b : Bool) (t u : ValueType) (f : ValueType → InstructionType) → ◌≡◌ {A = Option ValueType} (if b then Some t else None) (Some u) → provided b (f t) ≡ Some (f u)
by_test true t u f e = let g : t ≡ u = cc in ap (λ (x : ValueType). Some (f x)) g
by_test false t u f e = cc

by_no_test : (b : Bool) (t : ValueType) (f : ValueType → InstructionType) → ◌≡◌ {A = Option ValueType} (if b then Some t else None) None → provided b (f t) ≡ None
by_no_test true t f e = cc
by_no_test false t f e = refl

-- what an access takes and gives at an address of this type
abbrev pub access_type : AccessOf → ValueType → InstructionType
access_type a t = (t ∷ numbers (operands_of a.access)) ⟶ numbers (results_of a.access)

access_at : (k : Bool) (a : AccessOf) (o : Option MemoryType) (u : ValueType) → reached k a.argument o ≡ Some u
    → named o (λ m. provided (may_access k m a.argument) (access_type a (address_type m.memory64))) ≡ Some (access_type a u)
access_at k a None u e = cc
access_at k a (Some m) u e = by_test (may_access k m a.argument) (address_type m.memory64) u (access_type a) e

no_access_at : (k : Bool) (a : AccessOf) (o : Option MemoryType) → reached k a.argument o ≡ None
    → named o (λ m. provided (may_access k m a.argument) (access_type a (address_type m.memory64))) ≡ None
no_access_at k a None e = refl
no_access_at k a (Some m) e = by_no_test (may_access k m a.argument) (address_type m.memory64) (access_type a) e

pub accesses_at : (m : Meaning) (σ : State) (k : Bool) (a : AccessOf) (u : ValueType) → reached k a.argument (slice_get m.«module».memories a.argument.memory) ≡ Some u
    → accesses (context m σ.given σ.opens) k (Some a) ≡ Some (access_type a u)
accesses_at m σ k a u e = access_at k a (slice_get m.«module».memories a.argument.memory) u e

pub accesses_nowhere : (m : Meaning) (σ : State) (k : Bool) (a : AccessOf) → reached k a.argument (slice_get m.«module».memories a.argument.memory) ≡ None
    → accesses (context m σ.given σ.opens) k (Some a) ≡ None
accesses_nowhere m σ k a e = no_access_at k a (slice_get m.«module».memories a.argument.memory) e
