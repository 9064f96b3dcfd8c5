-- Copies into tables, and element segments.
use Rattle.std.proofs.Common.{◌≡◌, ◌↔◌, ◌∙◌, ◌&&◌, ℕ, List, [], ◌∷◌, Bool, false, IsTrue, Option, Some, None, sym, ap, subst, slice_get}
use Rattle.wasm_types.specs.externs.Addresses as addresses
use Rattle.wasm_types.specs.externs.declared.table.TableType.{TableType}
use Rattle.wasm_types.specs.trees.Below.{Below}
use Rattle.wasm_types.specs.values.Reference.{Reference}
use Rattle.wasm_types.specs.values.declared.value.ValType.{ValType}
use Rattle.wasm_types.specs.values.declared.value.ValType.TheVariants as vals
use Rattle.wasm_operators_enums.specs.declared.bulk.BulkOperator.TheVariants as bulk
use Rattle.wasm_operators_enums.specs.Op as op
use Rattle.wasm_operator_validator_rules.specs.Operands.{ValueType, Operand}
use Rattle.wasm_operator_validator_rules.specs.Context.{Table, address_type}
use Rattle.wasm_operator_validator_rules.specs.InstructionTypes.{◌⟶◌, named, i32_type, shorter}
use Rattle.wasm_operator_validator_rules.specs.Row.{Takes, BulkRow}
use Rattle.wasm_operator_validator_state.specs.resources.Meaning.{Meaning, type_in, table_in, reference_in}
use Rattle.wasm_operator_validator_state.specs.State.{State, context, types_in}
use Rattle.wasm_operator_validator_stacks.specs.determined.laws.Types.{i32_in, address_is, reference_is}
use Rattle.wasm_operator_validator_stacks.specs.determined.laws.Usable.{same_usable, fails}
use Rattle.wasm_operator_validator_memory.specs.Tables.{table_is_shared}
use Rattle.wasm_operator_validator_memory.proofs.Indexing.{UsableTable, NoTable, IsIndex, HasType, HasNone}

-- elements of the first type fit the second
abbrev pub Fit : Meaning → Reference → Reference → Type 0
Fit m r s = Below (type_in m (vals.Ref r)) (type_in m (vals.Ref s))

fit_is : (m : Meaning) (r s : Reference) → Fit m r s ↔ Below (reference_in m r) (reference_in m s)
fit_is m r s = rw (reference_is m r, reference_is m s) (λ b. b, λ b. b)

one_table : (m : Meaning) (σ : State) (x : ℕ) (t : TableType) → UsableTable m σ x (table_in m t) → (v : Table) → slice_get m.«module».tables x ≡ Some v → v ≡ table_in m t
one_table m σ x t u v e = same_usable σ table_is_shared (slice_get m.«module».tables x) (table_in m t) v u e

-- ---- table.copy

abbrev pub CopyRow : Meaning → State → ℕ → ℕ → List Operand → List Operand → Type 0
CopyRow m σ x y popped pushed = BulkRow (context m σ.given σ.opens) (bulk.TableCopy x y) popped pushed

abbrev Copies : Table → Table → List Operand → List Operand → Type 0
Copies t s popped pushed = Takes (address_type t.table64 ∷ address_type s.table64 ∷ shorter t.table64 s.table64 ∷ []) [] popped pushed

pub copy_row : (m : Meaning) (σ : State) (x y : ℕ) (t s : TableType) (a b l : ValType) → UsableTable m σ x (table_in m t) → UsableTable m σ y (table_in m s)
    → Fit m s.element_type t.element_type
    → IsIndex t a → IsIndex s b → l ≡ addresses.address_type (t.table64 && s.table64) → (popped pushed : List Operand)
    → CopyRow m σ x y popped pushed ↔ Takes (types_in m (a ∷ b ∷ l ∷ [])) (types_in m []) popped pushed
copy_row m σ x y t s a b l u v f p q r popped pushed =
    rw (address_is m t.table64 a p, address_is m s.table64 b q, address_is m (t.table64 && s.table64) l r) (
      λ (k, n, e, h, i, j, z, c).
          let d : Copies (table_in m t) n popped pushed = subst (λ (w : Table). Copies w n popped pushed) (one_table m σ x t u k e) c in
          subst (λ (w : Table). Copies (table_in m t) w popped pushed) (one_table m σ y s v n h) d,
      λ c. (table_in m t, table_in m s, u.0, v.0, u.1, v.1, (fit_is m s.element_type t.element_type).0 f, c),
    )

pub copy_from_nowhere : (m : Meaning) (σ : State) (x y : ℕ) → NoTable m σ y → (popped pushed : List Operand) → CopyRow m σ x y popped pushed → ⊥
copy_from_nowhere m σ x y never popped pushed (k, n, e, h, i, j, z, c) = never n (h, j)

pub copy_to_nowhere : (m : Meaning) (σ : State) (x y : ℕ) → NoTable m σ x → (popped pushed : List Operand) → CopyRow m σ x y popped pushed → ⊥
copy_to_nowhere m σ x y never popped pushed (k, n, e, h, i, j, z, c) = never k (e, i)

pub copy_unfit : (m : Meaning) (σ : State) (x y : ℕ) (t s : TableType) (w : Bool) → UsableTable m σ x (table_in m t) → UsableTable m σ y (table_in m s)
    → IsTrue w ↔ Fit m s.element_type t.element_type → w ≡ false → (popped pushed : List Operand) → CopyRow m σ x y popped pushed → ⊥
copy_unfit m σ x y t s w u v f g popped pushed (k, n, e, h, i, j, z, c) =
    let d : Below n.element (table_in m t).element = subst (λ (q : Table). Below n.element q.element) (one_table m σ x t u k e) z in
    let d' : Below (table_in m s).element (table_in m t).element = subst (λ (q : Table). Below q.element (table_in m t).element) (one_table m σ y s v n h) d in
    fails w f g ((fit_is m s.element_type t.element_type).1 d')

-- ---- table.init

abbrev pub InitRow : Meaning → State → ℕ → ℕ → List Operand → List Operand → Type 0
InitRow m σ e x popped pushed = BulkRow (context m σ.given σ.opens) (bulk.TableInit e x) popped pushed

abbrev Inits : Table → List Operand → List Operand → Type 0
Inits t popped pushed = Takes (address_type t.table64 ∷ i32_type ∷ i32_type ∷ []) [] popped pushed

abbrev pub Segment : Meaning → ℕ → Option ValueType
Segment m e = slice_get m.«module».elements e

pub init_row : (m : Meaning) (σ : State) (e x : ℕ) (t : TableType) (r : Reference) (a : ValType) → UsableTable m σ x (table_in m t) → Segment m e ≡ Some (reference_in m r)
    → Fit m r t.element_type → IsIndex t a → (popped pushed : List Operand)
    → InitRow m σ e x popped pushed ↔ Takes (types_in m (a ∷ vals.I32 ∷ vals.I32 ∷ [])) (types_in m []) popped pushed
init_row m σ e x t r a u h f p popped pushed =
    rw (address_is m t.table64 a p, i32_in m) (
      λ (k, n, d, i, g, z, c). subst (λ (w : Table). Inits w popped pushed) (one_table m σ x t u k d) c,
      λ c. (table_in m t, reference_in m r, u.0, u.1, h, (fit_is m r t.element_type).0 f, c),
    )

pub init_nowhere : (m : Meaning) (σ : State) (e x : ℕ) → NoTable m σ x → (popped pushed : List Operand) → InitRow m σ e x popped pushed → ⊥
init_nowhere m σ e x never popped pushed (k, n, d, i, g, z, c) = never k (d, i)

pub init_from_nothing : (m : Meaning) (σ : State) (e x : ℕ) → Segment m e ≡ None → (popped pushed : List Operand) → InitRow m σ e x popped pushed → ⊥
init_from_nothing m σ e x h popped pushed (k, n, d, i, g, z, c) = let y : ◌≡◌ {A = Option ValueType} None (Some n) = sym h ∙ g in cc

pub init_unfit : (m : Meaning) (σ : State) (e x : ℕ) (t : TableType) (r : Reference) (w : Bool) → UsableTable m σ x (table_in m t) → Segment m e ≡ Some (reference_in m r)
    → IsTrue w ↔ Fit m r t.element_type → w ≡ false → (popped pushed : List Operand) → InitRow m σ e x popped pushed → ⊥
init_unfit m σ e x t r w u h f j popped pushed (k, n, d, i, g, z, c) =
    let y : ◌≡◌ {A = Option ValueType} (Some n) (Some (reference_in m r)) = sym g ∙ h in
    let q : n ≡ reference_in m r = cc in
    let b : Below n (table_in m t).element = subst (λ (v : Table). Below n v.element) (one_table m σ x t u k d) z in
    let b' : Below (reference_in m r) (table_in m t).element = subst (λ (v : ValueType). Below v (table_in m t).element) q b in
    fails w f j ((fit_is m r t.element_type).1 b')

-- ---- elem.drop

pub drop_type : (m : Meaning) (σ : State) (e : ℕ) (t : ValueType) → Segment m e ≡ Some t → HasType m σ (op.Bulk (bulk.ElemDrop e)) [] []
drop_type m σ e t h = ap (λ (s : Option ValueType). named s (λ v. Some ([] ⟶ []))) h

pub drop_none : (m : Meaning) (σ : State) (e : ℕ) → Segment m e ≡ None → HasNone m σ (op.Bulk (bulk.ElemDrop e))
drop_none m σ e h = ap (λ (s : Option ValueType). named s (λ v. Some ([] ⟶ []))) h
