-- Places of atomic accesses, and what is stored there.
use Rattle.std.proofs.Common.{◌≡◌, ◌↔◌, ◌∙◌, ℕ, Bool, true, false, IsTrue, List, [], ◌∷◌, ◌++◌, Option, Some, None, option_map, option_and_then, slice_get, if◌then◌else◌, refl, sym, ap, subst}
use Rattle.wasm_types.specs.decoding.declared.error.ErrorKind.{ErrorKind}
use Rattle.wasm_types.specs.trees.Types.{Abstract, i31, ref, abstract, value}
use Rattle.wasm_types.specs.trees.Below.{Below}
use Rattle.wasm_types.specs.externs.Addresses as addresses
use Rattle.wasm_types.specs.externs.declared.global.GlobalType.{GlobalType}
use Rattle.wasm_types.specs.externs.declared.table.TableType.{TableType}
use Rattle.wasm_types.specs.fields.declared.field.FieldType.{FieldType}
use Rattle.wasm_types.specs.values.declared.heap.AbstractHeapType.{AbstractHeapType}
use Rattle.wasm_types.specs.values.declared.heap.AbstractHeapType.TheVariants as kinds
use Rattle.wasm_types.specs.values.declared.heap.HeapType.TheVariants as heap
use Rattle.wasm_types.specs.values.declared.value.StorageType.{StorageType}
use Rattle.wasm_types.specs.values.declared.value.StorageType.TheVariants as storage
use Rattle.wasm_types.specs.values.declared.value.ValType.{ValType}
use Rattle.wasm_types.specs.values.declared.value.ValType.TheVariants as vals
use Rattle.wasm_types.specs.values.Reference.{Reference}
use Rattle.wasm_types.specs.values.Trees.{abstract_of}
use Rattle.wasm_types.specs.values.ValueKinds.{is_reference, is_packed_type, unpacked_type}
use Rattle.wasm_operators_enums.specs.declared.atomic.SharedOperator.{SharedOperator}
use Rattle.wasm_operators_enums.specs.declared.atomic.SharedOperator.TheVariants as shared
use Rattle.wasm_operators_enums.specs.Op as op
use Rattle.wasm_operator_validator_rules.specs.Operands.{ValueType, Operand}
use Rattle.wasm_operator_validator_rules.specs.Context.{Context, Table, Global, may_use, address_type}
use Rattle.wasm_operator_validator_rules.specs.Places.{Place, unpacked, is_packed, global_place, table_place}
use Rattle.wasm_operator_validator_rules.specs.InstructionTypes.{i32_type}
use Rattle.wasm_operator_validator_rules.specs.Taken.{Takes}
use Rattle.wasm_operator_validator_rules.specs.SharedAccesses.{IsAtomic, IsInteger, Stores, StoresAtomic, StoresWritten, StoresInteger, MayChange, taken_above, given_by_access, AccessRow, At, SharedRow}
use Rattle.wasm_operator_validator_resources.specs.Meaning.{Meaning, type_in, reference_in, global_in, table_in}
use Rattle.wasm_operator_validator_state.specs.State.{State, types_in}
use Rattle.wasm_operator_validator_stacks.specs.determined.Operators.{MayUseIn}
use Rattle.wasm_operator_validator_stacks.specs.determined.laws.Types.{i32_in, reference_is, address_is}
use Rattle.wasm_operator_validator_stacks.specs.determined.laws.Usable.{may, may_not, fails}
use Rattle.wasm_operator_validator_objects.specs.Rows.{here}
use Rattle.wasm_operator_validator_objects.specs.Found.{storage_in, place_in}
use Rattle.wasm_operator_validator_objects.proofs.Storing.{unpacked_in}
use Rattle.wasm_operator_validator_proposals.specs.Rows.{IsRow, HasNoRow}
use Rattle.wasm_operator_validator_proposals.specs.Accesses.{access_of, Accesses, AccessesAt, is_integer}
use Rattle.wasm_operator_validator_proposals.specs.declared.places.AtomicAccess.{AtomicAccess}

-- ---- globals and tables as places

abbrev GlobalAt : Meaning → ℕ → Option Global
GlobalAt m x = slice_get m.«module».globals x

abbrev TableAt : Meaning → ℕ → Option Table
TableAt m x = slice_get m.«module».tables x

pub no_global : (m : Meaning) (σ : State) (x : ℕ) → ◌≡◌ {A = Option Global} None (GlobalAt m x) → global_place (here m σ) x ≡ None
no_global m σ x e = sym (ap (λ (o : Option Global). option_and_then (λ v. if may_use (here m σ) v.shared then Some (record { reached_by = []; storage = value v.content; mutable = v.mutable }) else None) o) e)

global_if : (m : Meaning) (σ : State) (x : ℕ) (v : GlobalType) (b : Bool) → Some (global_in m v) ≡ GlobalAt m x → may_use (here m σ) v.shared ≡ b
    → global_place (here m σ) x ≡ (if b then Some (record { reached_by = []; storage = value (type_in m v.content_type); mutable = v.mutable }) else None)
global_if m σ x v b e f =
    sym (ap (λ (o : Option Global). option_and_then (λ w. if may_use (here m σ) w.shared then Some (record { reached_by = []; storage = value w.content; mutable = w.mutable }) else None) o) e)
    ∙ ap (λ (c : Bool). if c then Some (record { reached_by = []; storage = value (type_in m v.content_type); mutable = v.mutable }) else None) f

pub unshared_global : (m : Meaning) (σ : State) (x : ℕ) (v : GlobalType) (b : Bool) → Some (global_in m v) ≡ GlobalAt m x → IsTrue b ↔ MayUseIn σ v.shared → b ≡ false
    → global_place (here m σ) x ≡ None
unshared_global m σ x v b e i n = global_if m σ x v false e (may_not (here m σ) v.shared (fails b i n))

pub found_global : (m : Meaning) (σ : State) (x : ℕ) (v : GlobalType) (b : Bool) → Some (global_in m v) ≡ GlobalAt m x → IsTrue b ↔ MayUseIn σ v.shared → b ≡ true
    → global_place (here m σ) x ≡ Some (place_in m [] (record { element_type = storage.Val v.content_type; mutable = v.mutable }))
unfolding type_in
found_global m σ x v b e i n = global_if m σ x v true e (may (here m σ) v.shared (i.0 n))

pub no_table : (m : Meaning) (σ : State) (x : ℕ) → ◌≡◌ {A = Option Table} None (TableAt m x) → table_place (here m σ) x ≡ None
no_table m σ x e = sym (ap (λ (o : Option Table). option_and_then (λ v. if may_use (here m σ) v.shared then Some (record { reached_by = address_type v.table64 ∷ []; storage = value v.element; mutable = true }) else None) o) e)

table_if : (m : Meaning) (σ : State) (x : ℕ) (v : TableType) (b : Bool) → Some (table_in m v) ≡ TableAt m x → may_use (here m σ) v.shared ≡ b
    → table_place (here m σ) x ≡ (if b then Some (record { reached_by = address_type v.table64 ∷ []; storage = value (reference_in m v.element_type); mutable = true }) else None)
table_if m σ x v b e f =
    sym (ap (λ (o : Option Table). option_and_then (λ w. if may_use (here m σ) w.shared then Some (record { reached_by = address_type w.table64 ∷ []; storage = value w.element; mutable = true }) else None) o) e)
    ∙ ap (λ (c : Bool). if c then Some (record { reached_by = address_type v.table64 ∷ []; storage = value (reference_in m v.element_type); mutable = true }) else None) f

pub unshared_table : (m : Meaning) (σ : State) (x : ℕ) (v : TableType) (b : Bool) → Some (table_in m v) ≡ TableAt m x → IsTrue b ↔ MayUseIn σ v.shared → b ≡ false
    → table_place (here m σ) x ≡ None
unshared_table m σ x v b e i n = table_if m σ x v false e (may_not (here m σ) v.shared (fails b i n))

pub found_table : (m : Meaning) (σ : State) (x : ℕ) (v : TableType) (b : Bool) (a : ValType) → Some (table_in m v) ≡ TableAt m x → IsTrue b ↔ MayUseIn σ v.shared → b ≡ true
    → a ≡ addresses.address_type v.table64 → table_place (here m σ) x ≡ Some (place_in m (a ∷ []) (record { element_type = storage.Val (vals.Ref v.element_type); mutable = true }))
found_table m σ x v b a e i n h =
    table_if m σ x v true e (may (here m σ) v.shared (i.0 n))
    ∙ ap (λ (t : ValueType). Some (record { reached_by = t ∷ []; storage = value (reference_in m v.element_type); mutable = true })) (sym (address_is m v.table64 a h))

-- ---- what is stored

pub integer_in : (m : Meaning) (t : ValType) → IsTrue (is_integer t) ↔ IsInteger (type_in m t)
unfolding type_in
integer_in m vals.I32 = (λ e. tt, λ e. refl)
integer_in m vals.I64 = (λ e. tt, λ e. refl)
integer_in m vals.F32 = (λ e. cc, λ e. absurd e)
integer_in m vals.F64 = (λ e. cc, λ e. absurd e)
integer_in m vals.V128 = (λ e. cc, λ e. absurd e)
integer_in m (vals.Ref r) = (λ e. cc, λ e. absurd e)

-- of a number: as of an integer
pub number_is_atomic : (m : Meaning) (a : Abstract) (t : ValType) (b : Bool) → is_reference t ≡ false → b ≡ is_integer t → IsTrue b ↔ IsAtomic a (type_in m t)
unfolding type_in
number_is_atomic m a vals.I32 b e f = (λ h. tt, λ h. f)
number_is_atomic m a vals.I64 b e f = (λ h. tt, λ h. f)
number_is_atomic m a vals.F32 b e f = (λ h. (let x : true ≡ false = sym h ∙ f in cc), λ h. absurd h)
number_is_atomic m a vals.F64 b e f = (λ h. (let x : true ≡ false = sym h ∙ f in cc), λ h. absurd h)
number_is_atomic m a vals.V128 b e f = (λ h. (let x : true ≡ false = sym h ∙ f in cc), λ h. absurd h)
number_is_atomic m a (vals.Ref r) b e f = cc

abbrev to_kind : Meaning → AbstractHeapType → Bool → ValType → Type 0
to_kind m kind s v = v ≡ vals.Ref (record { nullable = true; heap = heap.Abstract s kind })

kind_is : (m : Meaning) (kind : AbstractHeapType) (s : Bool) (v : ValType) → to_kind m kind s v → type_in m v ≡ ref true (abstract s (abstract_of kind))
kind_is m kind s v e = ap (type_in m) e ∙ reference_is m (record { nullable = true; heap = heap.Abstract s kind })

-- of a reference: as it is below one of the two
pub atomic_so : (m : Meaning) (t v : ValType) (kind : AbstractHeapType) (s b : Bool) → is_reference t ≡ true → to_kind m kind s v → IsTrue b ↔ Below (type_in m t) (type_in m v) → b ≡ true
    → IsAtomic (abstract_of kind) (type_in m t)
atomic_so m vals.I32 v kind s b r e i h = cc
atomic_so m vals.I64 v kind s b r e i h = cc
atomic_so m vals.F32 v kind s b r e i h = cc
atomic_so m vals.F64 v kind s b r e i h = cc
atomic_so m vals.V128 v kind s b r e i h = cc
atomic_so m (vals.Ref q) v kind s b r e i h =
    let x : Below (reference_in m q) (ref true (abstract s (abstract_of kind))) = subst (λ (u : ValueType). Below u (ref true (abstract s (abstract_of kind)))) (reference_is m q) (subst (λ (u : ValueType). Below (type_in m (vals.Ref q)) u) (kind_is m kind s v e) (i.0 h)) in
    subst (IsAtomic (abstract_of kind)) (sym (reference_is m q)) (s, x)

pub atomic_either : (m : Meaning) (t v w : ValType) (kind : AbstractHeapType) (b c : Bool) → is_reference t ≡ true → to_kind m kind false v → to_kind m kind true w
    → IsTrue b ↔ Below (type_in m t) (type_in m v) → b ≡ false → IsTrue c ↔ Below (type_in m t) (type_in m w) → IsTrue c ↔ IsAtomic (abstract_of kind) (type_in m t)
atomic_either m vals.I32 v w kind b c r e f i h j = cc
atomic_either m vals.I64 v w kind b c r e f i h j = cc
atomic_either m vals.F32 v w kind b c r e f i h j = cc
atomic_either m vals.F64 v w kind b c r e f i h j = cc
atomic_either m vals.V128 v w kind b c r e f i h j = cc
atomic_either m (vals.Ref q) v w kind b c r e f i h j = (λ x. atomic_so m (vals.Ref q) w kind true c r f j x, λ x. by_case (subst (IsAtomic (abstract_of kind)) (reference_is m q) x))
  where
    by_case : IsAtomic (abstract_of kind) (reference_in m q) → IsTrue c
    by_case (true, y) =
        j.1 (subst (λ (u : ValueType). Below (type_in m (vals.Ref q)) u) (sym (kind_is m kind true w f)) (subst (λ (u : ValueType). Below u (ref true (abstract true (abstract_of kind)))) (sym (reference_is m q)) y))
    by_case (false, y) =
        absurd (fails b i h (subst (λ (u : ValueType). Below (type_in m (vals.Ref q)) u) (sym (kind_is m kind false v e)) (subst (λ (u : ValueType). Below u (ref true (abstract false (abstract_of kind)))) (sym (reference_is m q)) y)))

pub packed_in : (m : Meaning) (s : StorageType) → is_packed (storage_in m s) ≡ is_packed_type s
packed_in m storage.I8 = refl
packed_in m storage.I16 = refl
packed_in m (storage.Val t) = refl

-- ---- rows

pub unchangeable : (m : Meaning) (σ : State) (o : SharedOperator) (a : AtomicAccess) (ts : List ValType) (f : FieldType) (b : Bool) → AccessesAt m σ o a ts f
    → IsTrue b ↔ MayChange (access_of a) f.mutable → b ≡ false → HasNoRow m σ (op.Shared o)
unchangeable m σ o a ts f b i j n popped pushed r =
    let (p, e, (c, s, t)) = (i popped pushed).0 r in
    let x : place_in m ts f ≡ p = cc in
    fails b j n (subst (λ (q : Place). MayChange (access_of a) q.mutable) (sym x) c)

pub unstored : (m : Meaning) (σ : State) (o : SharedOperator) (a : AtomicAccess) (ts : List ValType) (f : FieldType) (b : Bool) → AccessesAt m σ o a ts f
    → IsTrue b ↔ Stores (access_of a) (storage_in m f.element_type) → b ≡ false → HasNoRow m σ (op.Shared o)
unstored m σ o a ts f b i j n popped pushed r =
    let (p, e, (c, s, t)) = (i popped pushed).0 r in
    let x : place_in m ts f ≡ p = cc in
    fails b j n (subst (λ (q : Place). Stores (access_of a) q.storage) (sym x) s)

abbrev AccessTakes : AtomicAccess → Place → List Operand → List Operand → Type 0
AccessTakes a p popped pushed = Takes (p.reached_by ++ taken_above (access_of a) (unpacked p.storage)) (given_by_access (access_of a) (unpacked p.storage)) popped pushed

pub access_row : (m : Meaning) (σ : State) (o : SharedOperator) (a : AtomicAccess) (ts : List ValType) (f : FieldType) (t : ValType) (b c : Bool) → AccessesAt m σ o a ts f
    → IsTrue b ↔ MayChange (access_of a) f.mutable → b ≡ true → IsTrue c ↔ Stores (access_of a) (storage_in m f.element_type) → c ≡ true → t ≡ unpacked_type f.element_type
    → IsRow m σ (op.Shared o) (types_in m ts ++ taken_above (access_of a) (type_in m t)) (given_by_access (access_of a) (type_in m t))
access_row m σ o a ts f t b c i j g k h e popped pushed =
    let u : type_in m t ≡ unpacked (storage_in m f.element_type) = ap (type_in m) e ∙ unpacked_in m f.element_type in
    rw u (
      λ r. (
          let (p, y, (v, s, w)) = (i popped pushed).0 r in
          let x : place_in m ts f ≡ p = cc in
          subst (λ (q : Place). AccessTakes a q popped pushed) (sym x) w
          ),
      λ w. (i popped pushed).1 (place_in m ts f, refl, (j.0 g, k.0 h, w)),
    )

-- a place that was found, or that is not there
abbrev PlaceOf : Type 0
PlaceOf = Context → Option Place

pub accessed_at : (m : Meaning) (σ : State) (o : SharedOperator) (a : AtomicAccess) (place : PlaceOf) (ts : List ValType) (f : FieldType) → Accesses o a place
    → place (here m σ) ≡ Some (place_in m ts f) → AccessesAt m σ o a ts f
accessed_at m σ o a place ts f i e popped pushed = (
  λ r. (let (p, y, z) = (i (here m σ) popped pushed).0 r in (p, sym e ∙ y, z)),
  λ (p, y, z). (i (here m σ) popped pushed).1 (p, e ∙ y, z),
)

pub accessed_nowhere : (m : Meaning) (σ : State) (o : SharedOperator) (a : AtomicAccess) (place : PlaceOf) → Accesses o a place → place (here m σ) ≡ None → HasNoRow m σ (op.Shared o)
accessed_nowhere m σ o a place i e popped pushed r =
    let (p, y, z) = (i (here m σ) popped pushed).0 r in
    let x : ◌≡◌ {A = Option Place} None (Some p) = sym e ∙ y in cc

pub small_row : (m : Meaning) (σ : State) (v : ValType) → v ≡ vals.Ref (record { nullable = false; heap = heap.Abstract true kinds.I31 })
    → IsRow m σ (op.Shared shared.RefI31Shared) (types_in m (vals.I32 ∷ [])) (types_in m (v ∷ []))
small_row m σ v e popped pushed =
    let x : type_in m v ≡ ref false (abstract true i31) = ap (type_in m) e ∙ reference_is m (record { nullable = false; heap = heap.Abstract true kinds.I31 }) in
    rw (i32_in m, x) (λ r. r, λ r. r)
