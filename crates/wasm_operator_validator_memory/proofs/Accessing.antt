-- Loads and stores among the rows.
use Rattle.std.proofs.Common.{◌≡◌, ◌∙◌, ◌&&◌, [], ◌∷◌, Bool, true, false, Option, Some, None, refl, sym, ap, slice_get, if◌then◌else◌}
use Rattle.wasm_types.specs.trees.Types.{Number}
use Rattle.wasm_types.specs.externs.Addresses as addresses
use Rattle.wasm_types.specs.externs.declared.memory.MemoryType.{MemoryType}
use Rattle.wasm_types.specs.values.declared.value.ValType.{ValType}
use Rattle.wasm_operators_immediates.specs.declared.memory.MemArg.{MemArg}
use Rattle.wasm_operators_immediates.specs.declared.proposal.Proposal.TheVariants.{Mvp}
use Rattle.wasm_operators_enums.specs.declared.memory.MemoryOperator.{MemoryOperator}
use Rattle.wasm_operators_enums.specs.declared.memory.MemoryOperator.TheVariants as memory
use Rattle.wasm_operators_enums.specs.Op as op
use Rattle.wasm_operator_validator_rules.specs.Operands.{ValueType}
use Rattle.wasm_operator_validator_rules.specs.Context.{Context, address_type}
use Rattle.wasm_operator_validator_rules.specs.Accesses.{Access, AccessOf, access_of, load, store, moves_float, may_access, is_aligned, is_within, is_in_memory}
use Rattle.wasm_operator_validator_rules.specs.InstructionTypes.{◌⟶◌, accesses, memory_type_of, instruction_type}
use Rattle.wasm_operator_validator_rules.specs.Row.{float_access}
use Rattle.wasm_operator_validator_state.specs.resources.Meaning.{Meaning, type_in}
use Rattle.wasm_operator_validator_state.specs.State.{State, context, types_in}
use Rattle.wasm_operator_validator_stacks.specs.determined.Operators.{IsInTable}
use Rattle.wasm_operator_validator_stacks.specs.determined.laws.Types.{number_in, address_is}
use Rattle.wasm_operator_validator_memory.specs.Reaching.{reached, number_of, IsAccess}
use Rattle.wasm_operator_validator_memory.specs.laws.Reaching.{accesses_at, accesses_nowhere}

-- ---- which accesses a memory allows

first_false : (x y z : Bool) → x ≡ false → (x && y && z) ≡ false
first_false x y z e = ap (λ (b : Bool). b && y && z) e

second_false : (x y z : Bool) → y ≡ false → (x && y && z) ≡ false
second_false true y z e = ap (λ (b : Bool). b && z) e
second_false false y z e = refl

third_false : (x y z : Bool) → z ≡ false → (x && y && z) ≡ false
third_false true true z e = e
third_false true false z e = refl
third_false false y z e = refl

all_true : (x y z : Bool) → x ≡ true → y ≡ true → z ≡ true → (x && y && z) ≡ true
all_true x y z e f g = rw (e, f, g) refl

pub not_found : (k : Bool) (a : MemArg) (o : Option MemoryType) → None ≡ o → reached k a o ≡ None
not_found k a o e = ap (reached k a) (sym e)

reached_at : (k : Bool) (a : MemArg) (o : Option MemoryType) (m : MemoryType) (b : Bool) → Some m ≡ o → may_access k m a ≡ b
    → reached k a o ≡ (if b then Some (address_type m.memory64) else None)
reached_at k a o m b e f = ap (reached k a) (sym e) ∙ ap (λ (x : Bool). if x then Some (address_type m.memory64) else None) f

pub not_aligned : (k : Bool) (a : MemArg) (o : Option MemoryType) (m : MemoryType) (x : Bool) → Some m ≡ o → x ≡ is_aligned k a → x ≡ false → reached k a o ≡ None
not_aligned k a o m x e f g = reached_at k a o m false e (first_false (is_aligned k a) (is_within m a) (is_in_memory a.target) (sym f ∙ g))

pub not_within : (k : Bool) (a : MemArg) (o : Option MemoryType) (m : MemoryType) (x : Bool) → Some m ≡ o → x ≡ is_within m a → x ≡ false → reached k a o ≡ None
not_within k a o m x e f g = reached_at k a o m false e (second_false (is_aligned k a) (is_within m a) (is_in_memory a.target) (sym f ∙ g))

pub not_in_memory : (k : Bool) (a : MemArg) (o : Option MemoryType) (m : MemoryType) (x : Bool) → Some m ≡ o → x ≡ is_in_memory a.target → x ≡ false → reached k a o ≡ None
not_in_memory k a o m x e f g = reached_at k a o m false e (third_false (is_aligned k a) (is_within m a) (is_in_memory a.target) (sym f ∙ g))

pub found : (n : Meaning) (k : Bool) (a : MemArg) (o : Option MemoryType) (m : MemoryType) (x y z : Bool) (t : ValType) → Some m ≡ o → x ≡ is_aligned k a → x ≡ true
    → y ≡ is_within m a → y ≡ true
    → z ≡ is_in_memory a.target → z ≡ true → t ≡ addresses.address_type m.memory64 → reached k a o ≡ Some (type_in n t)
found n k a o m x y z t e f g h i j l p =
    reached_at k a o m true e (all_true (is_aligned k a) (is_within m a) (is_in_memory a.target) (sym f ∙ g) (sym h ∙ i) (sym j ∙ l))
    ∙ ap Some (sym (address_is n m.memory64 t p))

-- ---- the table of instruction types

memory_accesses : (g : Context) (o : MemoryOperator) (a : AccessOf) → access_of o ≡ Some a → memory_type_of g o ≡ accesses g false (Some a)
memory_accesses g (memory.GlobalGet x) a e = cc
memory_accesses g (memory.GlobalSet x) a e = cc
memory_accesses g (memory.MemorySize x) a e = cc
memory_accesses g (memory.MemoryGrow x) a e = cc
memory_accesses g o a e = ap (accesses g false) e

-- a load or a store is in the table
in_table : (o : MemoryOperator) (a : AccessOf) (f : Bool) → access_of o ≡ Some a → moves_float a.access ≡ f → IsInTable (op.Memory o) Mvp f
in_table (memory.LocalGet x) a f e h = cc
in_table (memory.LocalSet x) a f e h = cc
in_table (memory.LocalTee x) a f e h = cc
in_table (memory.GlobalGet x) a f e h = cc
in_table (memory.GlobalSet x) a f e h = cc
in_table (memory.MemorySize x) a f e h = cc
in_table (memory.MemoryGrow x) a f e h = cc
in_table o a f e h = record {
  is = record { of = refl; named = ap float_access e ∙ h; plain = refl };
  row = λ g set popped pushed. (λ r. r, λ r. r);
  keeps = λ set. refl;
}

abbrev pub accessed : (Number → Access) → ValType → MemArg → AccessOf
accessed k t a = record { access = k (number_of t); argument = a }

pub load_in_table : (o : MemoryOperator) (a : MemArg) (f : Bool) (t : ValType) → IsAccess load o a f t → IsInTable (op.Memory o) Mvp f
load_in_table o a f t i = in_table o (accessed load t a) f i.of i.named

pub store_in_table : (o : MemoryOperator) (a : MemArg) (f : Bool) (t : ValType) → IsAccess store o a f t → IsInTable (op.Memory o) Mvp f
store_in_table o a f t i = in_table o (accessed store t a) f i.of i.named

pub load_type : (m : Meaning) (σ : State) (o : MemoryOperator) (a : MemArg) (f : Bool) (t u : ValType) → IsAccess load o a f t
    → reached false a (slice_get m.«module».memories a.memory) ≡ Some (type_in m u)
    → instruction_type (context m σ.given σ.opens) (op.Memory o) ≡ Some (types_in m (u ∷ []) ⟶ types_in m (t ∷ []))
load_type m σ o a f t u i e =
    memory_accesses (context m σ.given σ.opens) o (accessed load t a) i.of ∙ accesses_at m σ false (accessed load t a) (type_in m u) e
    ∙ ap (λ (x : ValueType). Some (type_in m u ∷ [] ⟶ x ∷ [])) (sym (number_in m t (number_of t) i.typed))

pub store_type : (m : Meaning) (σ : State) (o : MemoryOperator) (a : MemArg) (f : Bool) (t u : ValType) → IsAccess store o a f t
    → reached false a (slice_get m.«module».memories a.memory) ≡ Some (type_in m u)
    → instruction_type (context m σ.given σ.opens) (op.Memory o) ≡ Some (types_in m (u ∷ t ∷ []) ⟶ types_in m [])
store_type m σ o a f t u i e =
    memory_accesses (context m σ.given σ.opens) o (accessed store t a) i.of ∙ accesses_at m σ false (accessed store t a) (type_in m u) e
    ∙ ap (λ (x : ValueType). Some (type_in m u ∷ x ∷ [] ⟶ [])) (sym (number_in m t (number_of t) i.typed))

pub no_access : (m : Meaning) (σ : State) (k : Number → Access) (o : MemoryOperator) (a : MemArg) (f : Bool) (t : ValType) → IsAccess k o a f t
    → reached false a (slice_get m.«module».memories a.memory) ≡ None → instruction_type (context m σ.given σ.opens) (op.Memory o) ≡ None
no_access m σ k o a f t i e =
    memory_accesses (context m σ.given σ.opens) o (accessed k t a) i.of ∙ accesses_nowhere m σ false (accessed k t a) e
