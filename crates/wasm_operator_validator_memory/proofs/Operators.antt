-- Globals and locals among the rows.
use Rattle.std.proofs.Common.{◌≡◌, ◌↔◌, ◌∙◌, ℕ, List, [], ◌∷◌, Bool, true, false, not, Some, None, refl, sym, ap, subst, slice_get, option_map}
use Rattle.std.proofs.lemmas.Option.{slice_get-map}
use Rattle.wasm_types.specs.externs.declared.global.GlobalType.{GlobalType}
use Rattle.wasm_types.specs.trees.Below.{value_is_shared}
use Rattle.wasm_types.specs.values.declared.value.ValType.{ValType}
use Rattle.wasm_operators_immediates.specs.declared.proposal.Proposal.TheVariants.{Mvp}
use Rattle.wasm_operators_enums.specs.declared.memory.MemoryOperator.TheVariants as memory
use Rattle.wasm_operators_enums.specs.Op as op
use Rattle.wasm_operator_validator_rules.specs.Operands.{ValueType, Operand}
use Rattle.wasm_operator_validator_rules.specs.Context.{Global}
use Rattle.wasm_operator_validator_rules.specs.InstructionTypes.{◌⟶◌, provided, instruction_type}
use Rattle.wasm_operator_validator_rules.specs.Row.{Takes, IsLocal, GroupRow}
use Rattle.wasm_operator_validator_state.specs.resources.Meaning.{Meaning, type_in, global_in}
use Rattle.wasm_operator_validator_state.specs.State.{State, initialised, context, types_in}
use Rattle.wasm_operator_validator_stacks.specs.determined.Operators.{IsPlain, IsInTable, IsUsable}
use Rattle.wasm_operator_validator_stacks.specs.determined.laws.Usable.{same_usable, named_usable, named_unusable}
use Rattle.wasm_operator_validator_memory.specs.Variables.{global_is_shared}

-- ---- globals

pub get_in_table : (x : ℕ) → IsInTable (op.Memory (memory.GlobalGet x)) Mvp false
get_in_table x = record { is = record { of = refl; named = refl; plain = refl }; row = λ g set popped pushed. (λ r. r, λ r. r); keeps = λ set. refl }

pub set_in_table : (x : ℕ) → IsInTable (op.Memory (memory.GlobalSet x)) Mvp false
set_in_table x = record { is = record { of = refl; named = refl; plain = refl }; row = λ g set popped pushed. (λ r. r, λ r. r); keeps = λ set. refl }

abbrev pub UsableGlobal : Meaning → State → ℕ → Global → Type 0
UsableGlobal m σ x v = IsUsable σ global_is_shared (slice_get m.«module».globals x) v

pub get_type : (m : Meaning) (σ : State) (x : ℕ) (v : GlobalType) → UsableGlobal m σ x (global_in m v)
    → instruction_type (context m σ.given σ.opens) (op.Memory (memory.GlobalGet x)) ≡ Some (types_in m [] ⟶ types_in m (v.content_type ∷ []))
get_type m σ x v (e, u) =
    named_usable (context m σ.given σ.opens) global_is_shared (λ w. Some ([] ⟶ w.content ∷ [])) (slice_get m.«module».globals x) (global_in m v) e u

pub get_none : (m : Meaning) (σ : State) (x : ℕ) → ((v : Global) → UsableGlobal m σ x v → ⊥)
    → instruction_type (context m σ.given σ.opens) (op.Memory (memory.GlobalGet x)) ≡ None
get_none m σ x n =
    named_unusable (context m σ.given σ.opens) global_is_shared (λ w. Some ([] ⟶ w.content ∷ [])) (slice_get m.«module».globals x) n

pub set_type : (m : Meaning) (σ : State) (x : ℕ) (v : GlobalType) → UsableGlobal m σ x (global_in m v) → v.mutable ≡ true
    → instruction_type (context m σ.given σ.opens) (op.Memory (memory.GlobalSet x)) ≡ Some (types_in m (v.content_type ∷ []) ⟶ types_in m [])
set_type m σ x v (e, u) h =
    named_usable (context m σ.given σ.opens) global_is_shared (λ w. provided w.mutable (w.content ∷ [] ⟶ [])) (slice_get m.«module».globals x) (global_in m v) e u
    ∙ ap (λ (b : Bool). provided b (type_in m v.content_type ∷ [] ⟶ [])) h

pub set_none : (m : Meaning) (σ : State) (x : ℕ) → ((v : Global) → UsableGlobal m σ x v → ⊥)
    → instruction_type (context m σ.given σ.opens) (op.Memory (memory.GlobalSet x)) ≡ None
set_none m σ x n =
    named_unusable (context m σ.given σ.opens) global_is_shared (λ w. provided w.mutable (w.content ∷ [] ⟶ [])) (slice_get m.«module».globals x) n

pub set_constant : (m : Meaning) (σ : State) (x : ℕ) (v : GlobalType) → UsableGlobal m σ x (global_in m v) → v.mutable ≡ false
    → instruction_type (context m σ.given σ.opens) (op.Memory (memory.GlobalSet x)) ≡ None
set_constant m σ x v (e, u) h =
    named_usable (context m σ.given σ.opens) global_is_shared (λ w. provided w.mutable (w.content ∷ [] ⟶ [])) (slice_get m.«module».globals x) (global_in m v) e u
    ∙ ap (λ (b : Bool). provided b (type_in m v.content_type ∷ [] ⟶ [])) h

-- ---- locals

pub local_get_is : (x : ℕ) → IsPlain (op.Memory (memory.LocalGet x)) Mvp false
local_get_is x = record { of = refl; named = refl; plain = refl }

pub local_set_is : (x : ℕ) → IsPlain (op.Memory (memory.LocalSet x)) Mvp false
local_set_is x = record { of = refl; named = refl; plain = refl }

pub local_tee_is : (x : ℕ) → IsPlain (op.Memory (memory.LocalTee x)) Mvp false
local_tee_is x = record { of = refl; named = refl; plain = refl }

abbrev pub UsableLocal : Meaning → State → ℕ → ValueType → Type 0
UsableLocal m σ x t = IsUsable σ value_is_shared (slice_get (types_in m σ.given.locals) x) t

-- a local's type, as the rules see it
pub local_known : (m : Meaning) (ts : List ValType) (x : ℕ) (t : ValType) → Some t ≡ slice_get ts x → Some (type_in m t) ≡ slice_get (types_in m ts) x
local_known m ts x t e = ap (option_map (type_in m)) e ∙ sym (slice_get-map (type_in m) ts x)

pub local_unknown : (m : Meaning) (ts : List ValType) (x : ℕ) → None ≡ slice_get ts x → None ≡ slice_get (types_in m ts) x
local_unknown m ts x e = ap (option_map (type_in m)) e ∙ sym (slice_get-map (type_in m) ts x)

abbrev AtLocal : Meaning → State → ℕ → (ValueType → List Operand → List Operand → Type 0) → List Operand → List Operand → Type 0
AtLocal m σ x P popped pushed = (t : ValueType) × IsLocal (context m σ.given σ.opens) x t × P t popped pushed

at_local : (m : Meaning) (σ : State) (x : ℕ) (t : ValueType) (P : ValueType → List Operand → List Operand → Type 0) → UsableLocal m σ x t
    → (popped pushed : List Operand) → AtLocal m σ x P popped pushed ↔ P t popped pushed
at_local m σ x t P u popped pushed = (
  λ (v, l, k). let y = same_usable σ value_is_shared (slice_get (types_in m σ.given.locals) x) t v u l.local in subst (λ (w : ValueType). P w popped pushed) y k,
  λ k. (t, record { local = u.0; used = u.1 }, k),
)

-- a local that has a value
pub is_set : (b set : Bool) → b ≡ not set → b ≡ false → set ≡ true
is_set b true e f = refl
is_set b false e f = let x : true ≡ false = sym e ∙ f in cc

pub is_unset : (b set : Bool) → b ≡ not set → b ≡ true → set ≡ false
is_unset b true e f = let x : false ≡ true = sym e ∙ f in cc
is_unset b false e f = refl

pub local_get_row : (m : Meaning) (σ : State) (x : ℕ) (t : ValueType) → UsableLocal m σ x t → initialised m σ.given σ.inits x ≡ true → (popped pushed : List Operand)
    → GroupRow (context m σ.given σ.opens) (initialised m σ.given σ.inits) (op.Memory (memory.LocalGet x)) popped pushed ↔ Takes [] (t ∷ []) popped pushed
local_get_row m σ x t u i popped pushed =
    let k = at_local m σ x t (λ v. Takes [] (v ∷ [])) u popped pushed in
    (λ (v, l, j, h). k.0 (v, l, h), λ h. let (v, l, y) = k.1 h in (v, l, i, y))

pub local_set_row : (m : Meaning) (σ : State) (x : ℕ) (t : ValueType) → UsableLocal m σ x t → (popped pushed : List Operand)
    → GroupRow (context m σ.given σ.opens) (initialised m σ.given σ.inits) (op.Memory (memory.LocalSet x)) popped pushed ↔ Takes (t ∷ []) [] popped pushed
local_set_row m σ x t u = at_local m σ x t (λ v. Takes (v ∷ []) []) u

pub local_tee_row : (m : Meaning) (σ : State) (x : ℕ) (t : ValueType) → UsableLocal m σ x t → (popped pushed : List Operand)
    → GroupRow (context m σ.given σ.opens) (initialised m σ.given σ.inits) (op.Memory (memory.LocalTee x)) popped pushed ↔ Takes (t ∷ []) (t ∷ []) popped pushed
local_tee_row m σ x t u = at_local m σ x t (λ v. Takes (v ∷ []) (v ∷ [])) u

-- a local that may not be used has no row
pub local_get_none : (m : Meaning) (σ : State) (x : ℕ) → ((t : ValueType) → UsableLocal m σ x t → ⊥) → (popped pushed : List Operand)
    → GroupRow (context m σ.given σ.opens) (initialised m σ.given σ.inits) (op.Memory (memory.LocalGet x)) popped pushed → ⊥
local_get_none m σ x n popped pushed (t, l, i, k) = n t (l.local, l.used)

-- nor has one to read that has no value
pub local_get_unset : (m : Meaning) (σ : State) (x : ℕ) → initialised m σ.given σ.inits x ≡ false → (popped pushed : List Operand)
    → GroupRow (context m σ.given σ.opens) (initialised m σ.given σ.inits) (op.Memory (memory.LocalGet x)) popped pushed → ⊥
local_get_unset m σ x e popped pushed (t, l, i, k) = let h : false ≡ true = sym e ∙ i in cc

pub local_set_none : (m : Meaning) (σ : State) (x : ℕ) → ((t : ValueType) → UsableLocal m σ x t → ⊥) → (popped pushed : List Operand)
    → GroupRow (context m σ.given σ.opens) (initialised m σ.given σ.inits) (op.Memory (memory.LocalSet x)) popped pushed → ⊥
local_set_none m σ x n popped pushed (t, l, k) = n t (l.local, l.used)

pub local_tee_none : (m : Meaning) (σ : State) (x : ℕ) → ((t : ValueType) → UsableLocal m σ x t → ⊥) → (popped pushed : List Operand)
    → GroupRow (context m σ.given σ.opens) (initialised m σ.given σ.inits) (op.Memory (memory.LocalTee x)) popped pushed → ⊥
local_tee_none m σ x n popped pushed (t, l, k) = n t (l.local, l.used)
