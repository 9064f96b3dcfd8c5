-- The rows of calls.
use Rattle.std.proofs.Common.{◌≡◌, ◌↔◌, ℕ, false, List, [], ◌∷◌, ◌++◌, refl, sym, ap, subst, reverse, append_assoc}
use Rattle.std.proofs.lemmas.List.{reverse-append}
use Rattle.wasm_types.specs.decoding.declared.error.ErrorKind.{ErrorKind}
use Rattle.wasm_types.specs.decoding.Denials.{Denies}
use Rattle.wasm_types.specs.decoding.DenialLaws.{denies_from}
use Rattle.wasm_operators_immediates.specs.declared.proposal.Proposal.TheVariants.{Mvp, TailCall}
use Rattle.wasm_operators_enums.specs.declared.control.ControlOperator.TheVariants as control
use Rattle.wasm_operators_enums.specs.Op as op
use Rattle.wasm_operators_enums.specs.Op.{Op}
use Rattle.wasm_operator_validator_rules.specs.Operands.{ValueType, Operand, AllBelow, known, all_known, stack}
use Rattle.wasm_operator_validator_rules.specs.Context.{Table, Signature, address_type}
use Rattle.wasm_operator_validator_rules.specs.Row.{Takes, GroupRow, IsIndirect}
use Rattle.wasm_operator_validator_state.specs.resources.Meaning.{Meaning}
use Rattle.wasm_operator_validator_state.specs.State.{State, initialised, context, outermost_results, Accepts}
use Rattle.wasm_operator_validator_state.specs.Steps.{Stacks, MayPop}
use Rattle.wasm_operator_validator_state.specs.Entering.{MayBegin}
use Rattle.wasm_operator_validator_state.specs.laws.Rows.{some_row}
use Rattle.wasm_operator_validator_stacks.specs.determined.Operators.{IsPlain}
use Rattle.wasm_operator_validator_stacks.specs.determined.laws.Determined.{no_row}
use Rattle.wasm_operator_validator_control.specs.laws.Jumping.{IsLast, pops_last}
use Rattle.wasm_operator_validator_control.specs.Callees.{IsFunctionIn, IsFunctionTable}
use Rattle.wasm_operator_validator_control.proofs.Naming.{one_function, one_table}

abbrev pub call : ℕ → Op
call x = op.Control (control.Call x)

abbrev pub call_indirect : ℕ → ℕ → Op
call_indirect y x = op.Control (control.CallIndirect y x)

abbrev pub return_call : ℕ → Op
return_call x = op.Control (control.ReturnCall x)

abbrev pub return_call_indirect : ℕ → ℕ → Op
return_call_indirect y x = op.Control (control.ReturnCallIndirect y x)

pub call_is : (x : ℕ) → IsPlain (call x) Mvp false
call_is x = record { of = refl; named = refl; plain = refl }

pub call_indirect_is : (y x : ℕ) → IsPlain (call_indirect y x) Mvp false
call_indirect_is y x = record { of = refl; named = refl; plain = refl }

pub return_call_is : (x : ℕ) → IsPlain (return_call x) TailCall false
return_call_is x = record { of = refl; named = refl; plain = refl }

pub return_call_indirect_is : (y x : ℕ) → IsPlain (return_call_indirect y x) TailCall false
return_call_indirect_is y x = record { of = refl; named = refl; plain = refl }

abbrev pub RowOf : Meaning → State → Op → List Operand → List Operand → Type 0
RowOf m σ o popped pushed = GroupRow (context m σ.given σ.opens) (initialised m σ.given σ.inits) o popped pushed

abbrev pub Never : Meaning → State → Op → Type 0
Never m σ o = (os : List Op) × Accepts m σ (o ∷ os) → ⊥

abbrev pub Named : Meaning → State → ℕ → Signature → Type 0
Named m σ x b = IsFunctionIn σ m.«module».functions x b

abbrev pub NamedType : Meaning → State → ℕ → Signature → Type 0
NamedType m σ y b = IsFunctionIn σ m.«module».types y b

-- what a call through a table names, by its parts
indirect_type : (m : Meaning) (σ : State) (y x : ℕ) (t : Table) (b : Signature) → IsIndirect (context m σ.given σ.opens) y x t b → NamedType m σ y b
indirect_type m σ y x t b i = (i.callee, i.type, i.type_used, i.function)

indirect_table : (m : Meaning) (σ : State) (y x : ℕ) (t : Table) (b : Signature) → IsIndirect (context m σ.given σ.opens) y x t b → IsFunctionTable m σ x t
indirect_table m σ y x t b i = ((i.table, i.table_used), i.functions.0, i.functions.1)

indirect : (m : Meaning) (σ : State) (y x : ℕ) (t : Table) (b : Signature) → IsFunctionTable m σ x t → NamedType m σ y b → IsIndirect (context m σ.given σ.opens) y x t b
indirect m σ y x t b ((e, u), s, f) (c, h, v, p) = record { table = e; table_used = u; functions = (s, f); callee = c; type = h; type_used = v; function = p }

-- the signature and the table are those
by_parts : (P : Table → Signature → Type 0) (t u : Table) (b c : Signature) → u ≡ t → c ≡ b → P u c → P t b
by_parts P t u b c e f x = subst (λ (v : Signature). P t v) f (subst (λ (w : Table). P w c) e x)

-- ---- call

pub call_row : (m : Meaning) (σ : State) (x : ℕ) (b : Signature) → Named m σ x b → (popped pushed : List Operand) → RowOf m σ (call x) popped pushed ↔ Takes b.params b.results popped pushed
call_row m σ x b n popped pushed = (
  λ (c, i, t). subst (λ (v : Signature). Takes v.params v.results popped pushed) (one_function σ m.«module».functions x b c n i) t,
  λ t. (b, n, t),
)

pub no_call : (m : Meaning) (σ : State) (x : ℕ) → MayBegin σ Mvp false → ((b : Signature) → Named m σ x b → ⊥) → Never m σ (call x)
no_call m σ x e n = no_row m σ (call x) Mvp false (call_is x) e (λ popped pushed (c, i, t). n c i)

-- ---- call_indirect

abbrev pub takes_index : Table → Signature → List ValueType
takes_index t b = b.params ++ address_type t.table64 ∷ []

pub call_indirect_row : (m : Meaning) (σ : State) (y x : ℕ) (t : Table) (b : Signature) → IsFunctionTable m σ x t → NamedType m σ y b → (popped pushed : List Operand)
    → RowOf m σ (call_indirect y x) popped pushed ↔ Takes (takes_index t b) b.results popped pushed
call_indirect_row m σ y x t b f n popped pushed = (
  λ (u, c, i, k). by_parts (λ (w : Table) (v : Signature). Takes (takes_index w v) v.results popped pushed) t u b c
      (one_table m σ x t u f (indirect_table m σ y x u c i)) (one_function σ m.«module».types y b c n (indirect_type m σ y x u c i)) k,
  λ k. (t, b, indirect m σ y x t b f n, k),
)

pub no_call_indirect : (m : Meaning) (σ : State) (y x : ℕ) → MayBegin σ Mvp false → ((t : Table) → IsFunctionTable m σ x t → ⊥) → Never m σ (call_indirect y x)
no_call_indirect m σ y x e n =
    no_row m σ (call_indirect y x) Mvp false (call_indirect_is y x) e (λ popped pushed (u, c, i, k). n u (indirect_table m σ y x u c i))

pub no_indirect_type : (m : Meaning) (σ : State) (y x : ℕ) → MayBegin σ Mvp false → ((b : Signature) → NamedType m σ y b → ⊥) → Never m σ (call_indirect y x)
no_indirect_type m σ y x e n =
    no_row m σ (call_indirect y x) Mvp false (call_indirect_is y x) e (λ popped pushed (u, c, i, k). n c (indirect_type m σ y x u c i))

-- ---- calls that take the place of their caller

abbrev pub Returns : Signature → List ValueType → Type 0
Returns b rs = AllBelow (all_known b.results) (all_known rs)

pub return_call_last : (m : Meaning) (σ : State) (x : ℕ) (b : Signature) (rs : List ValueType) → Named m σ x b → outermost_results m σ.opens ≡ rs → Returns b rs
    → IsLast m σ (return_call x) b.params
return_call_last m σ x b rs n e r popped pushed = (
  λ (c, any, i, k, f). (any, subst (λ (v : Signature). popped ≡ any ++ all_known v.params) (one_function σ m.«module».functions x b c n i) f),
  λ (any, f). (b, any, n, subst (λ (v : List ValueType). Returns b v) (sym e) r, f),
)

pub no_return_call : (m : Meaning) (σ : State) (x : ℕ) → MayBegin σ TailCall false → ((b : Signature) → Named m σ x b → ⊥) → Never m σ (return_call x)
no_return_call m σ x e n = no_row m σ (return_call x) TailCall false (return_call_is x) e (λ popped pushed (c, any, i, k, f). n c i)

pub returns_others : (m : Meaning) (σ : State) (x : ℕ) (b : Signature) (rs : List ValueType) → MayBegin σ TailCall false → Named m σ x b → outermost_results m σ.opens ≡ rs → (Returns b rs → ⊥)
    → Never m σ (return_call x)
returns_others m σ x b rs e n o r =
    no_row m σ (return_call x) TailCall false (return_call_is x) e
    (λ popped pushed (c, any, i, k, f).
    r (subst (λ (v : List ValueType). Returns b v) o (subst (λ (v : Signature). Returns v (outermost_results m σ.opens)) (one_function σ m.«module».functions x b c n i) k)))

pub return_call_indirect_last : (m : Meaning) (σ : State) (y x : ℕ) (t : Table) (b : Signature) (rs : List ValueType) → IsFunctionTable m σ x t → NamedType m σ y b
    → outermost_results m σ.opens ≡ rs → Returns b rs → IsLast m σ (return_call_indirect y x) (takes_index t b)
return_call_indirect_last m σ y x t b rs f n e r popped pushed = (
  λ (u, c, any, i, k, h). (
    any,
    by_parts (λ (w : Table) (v : Signature). popped ≡ any ++ all_known (takes_index w v)) t u b c
        (one_table m σ x t u f (indirect_table m σ y x u c i)) (one_function σ m.«module».types y b c n (indirect_type m σ y x u c i)) h,
  ),
  λ (any, h). (t, b, any, indirect m σ y x t b f n, subst (λ (v : List ValueType). Returns b v) (sym e) r, h),
)

pub no_return_call_indirect : (m : Meaning) (σ : State) (y x : ℕ) → MayBegin σ TailCall false → ((t : Table) → IsFunctionTable m σ x t → ⊥) → Never m σ (return_call_indirect y x)
no_return_call_indirect m σ y x e n =
    no_row m σ (return_call_indirect y x) TailCall false (return_call_indirect_is y x) e (λ popped pushed (u, c, any, i, k, h). n u (indirect_table m σ y x u c i))

pub no_return_type : (m : Meaning) (σ : State) (y x : ℕ) → MayBegin σ TailCall false → ((b : Signature) → NamedType m σ y b → ⊥) → Never m σ (return_call_indirect y x)
no_return_type m σ y x e n =
    no_row m σ (return_call_indirect y x) TailCall false (return_call_indirect_is y x) e (λ popped pushed (u, c, any, i, k, h). n c (indirect_type m σ y x u c i))

pub returns_others_through : (m : Meaning) (σ : State) (y x : ℕ) (b : Signature) (rs : List ValueType) → MayBegin σ TailCall false → NamedType m σ y b → outermost_results m σ.opens ≡ rs
    → (Returns b rs → ⊥) → Never m σ (return_call_indirect y x)
returns_others_through m σ y x b rs e n o r =
    no_row m σ (return_call_indirect y x) TailCall false (return_call_indirect_is y x) e
    (λ popped pushed (u, c, any, i, k, h).
    r (subst (λ (v : List ValueType). Returns b v) o (subst (λ (v : Signature). Returns v (outermost_results m σ.opens)) (one_function σ m.«module».types y b c n (indirect_type m σ y x u c i)) k)))

-- ---- the index, which is taken first

-- what is left is free
over_any : (popped any rest : List Operand) (ts : List ValueType) → popped ≡ any ++ all_known ts → reverse popped ++ rest ≡ stack ts ++ (reverse any ++ rest)
over_any popped any rest ts f = rw (f, reverse-append, append_assoc) refl

index_taken : (m : Meaning) (σ : State) (t u : Table) (ts : List ValueType) (s rest : List Operand) → u ≡ t → s ≡ stack (ts ++ address_type u.table64 ∷ []) ++ rest → Stacks m σ s
    → MayPop m σ (known (address_type t.table64) ∷ [])
index_taken m σ t u ts s rest e f d =
    subst (λ (w : Table). MayPop m σ (known (address_type w.table64) ∷ [])) e
    (pops_last m σ (address_type u.table64) ts (rest, subst (λ (v : List Operand). Stacks m σ v) f d))

pub no_index : (k : ErrorKind) (m : Meaning) (σ : State) (y x : ℕ) (t : Table) → MayBegin σ Mvp false → IsFunctionTable m σ x t → Denies k (MayPop m σ (known (address_type t.table64) ∷ []))
    → Denies k ((os : List Op) × Accepts m σ (call_indirect y x ∷ os))
no_index k m σ y x t e f =
    denies_from k _ _ (λ (os, a). (let (popped, pushed, rest, r, d) = some_row m σ (call_indirect y x) os refl e.framed a in
    let (u, c, i, q) = r.1 in
    index_taken m σ t u c.params (reverse popped ++ rest) rest (one_table m σ x t u f (indirect_table m σ y x u c i)) (ap (λ (v : List Operand). reverse v ++ rest) q.0) d))

pub no_last_index : (k : ErrorKind) (m : Meaning) (σ : State) (y x : ℕ) (t : Table) → MayBegin σ TailCall false → IsFunctionTable m σ x t → Denies k (MayPop m σ (known (address_type t.table64) ∷ []))
    → Denies k ((os : List Op) × Accepts m σ (return_call_indirect y x ∷ os))
no_last_index k m σ y x t e f =
    denies_from k _ _ (λ (os, a). (let (popped, pushed, rest, r, d) = some_row m σ (return_call_indirect y x) os refl e.framed a in
    let (u, c, any, i, n, q) = r.1 in
    index_taken m σ t u c.params (reverse popped ++ rest) (reverse any ++ rest) (one_table m σ x t u f (indirect_table m σ y x u c i)) (over_any popped any rest (takes_index u c) q) d))
