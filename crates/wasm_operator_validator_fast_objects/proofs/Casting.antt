-- What tests and casts of references take and give.
use Rattle.std.specs.Prelude.{if◌then◌else◌, option_and_then, option_map}
use Rattle.std.proofs.Common.{◌≡◌, ◌∙◌, ◌+◌, ℕ, Bool, true, false, List, [], ◌∷◌, Option, Some, None, refl, ap, slice_get}
use Rattle.wasm_types.specs.settings.Features as feature
use Rattle.wasm_types.specs.trees.declared.index.UnpackedIndex.{UnpackedIndex}
use Rattle.wasm_types.specs.trees.declared.index.UnpackedIndex.TheVariants as index
use Rattle.wasm_types.specs.trees.Types.{HeapOf, abstract, concrete, exact, ref}
use Rattle.wasm_types.specs.trees.Trees.{TypeTree}
use Rattle.wasm_types.specs.trees.Below.{is_shared}
use Rattle.wasm_types.specs.values.declared.heap.HeapType.{HeapType}
use Rattle.wasm_types.specs.values.Trees.{heap_of as tree_of}
use Rattle.wasm_operators_immediates.specs.Immediates.{Heap}
use Rattle.wasm_operators_immediates.specs.declared.proposal.Proposal.TheVariants as proposals
use Rattle.wasm_operators_enums.specs.declared.gc.GcOperator.{GcOperator}
use Rattle.wasm_operators_enums.specs.declared.gc.GcOperator.TheVariants as gc
use Rattle.wasm_operators_enums.specs.Op as op
use Rattle.wasm_operators_enums.specs.Op.{Op}
use Rattle.wasm_operators_enums.specs.Table.{info_of}
use Rattle.wasm_operators_enums.specs.Immediates.{immediates_of}
use Rattle.wasm_operators_encoding.specs.Opcodes.{prefixed}
use Rattle.wasm_operators_encoding.specs.Operators.{opcode_of}
use Rattle.wasm_operators_frequent.specs.Short.{BeginsPrefixed}
use Rattle.wasm_operators_frequent.proofs.ShortReading.{is_told, is_told_with, prefixed_of}
use Rattle.wasm_operator_validator_rules.specs.Operands.{ValueType, Operand, all_known}
use Rattle.wasm_operator_validator_rules.specs.Context.{Context, may_use}
use Rattle.wasm_operator_validator_rules.specs.Named.{used_type}
use Rattle.wasm_operator_validator_rules.specs.Aggregates.{index_named, heap_meant, heap_named, is_castable, top_heap}
use Rattle.wasm_operator_validator_rules.specs.InstructionTypes.{◌⟶◌, i32_type, cast_at, instruction_type}
use Rattle.wasm_operator_validator_rules.specs.Objects.{GcRow}
use Rattle.wasm_operator_validator_rules.specs.Taken.{TableRow}
use Rattle.wasm_operator_validator_fast_tables.specs.declared.tables.Open.{Open}
use Rattle.wasm_operator_validator_fast_tables.specs.declared.tables.Tables.{Tables}
use Rattle.wasm_operator_validator_fast_tables.specs.Stacks.{Values}
use Rattle.wasm_operator_validator_fast_tables.specs.Values.{type_of}
use Rattle.wasm_operator_validator_fast_tables.specs.Written.{IsHeap, IsHeapAt}
use Rattle.wasm_operator_validator_fast_tables.specs.Loop.{inside_all, Leads}
use Rattle.wasm_operator_validator_fast_steps.proofs.Coded.{of_feature}
use Rattle.wasm_operator_validator_fast_steps.proofs.Rows.{took, stands, Here}
use Rattle.wasm_operator_validator_fast_objects.proofs.Referring.{heap_carried}

-- ---- what is named means the same within frames

module _ (ids : List TypeTree) (c : Context) (flat : List ℕ) (opens : List Open) where
  pub may_use_within : (b : Bool) → may_use (inside_all ids c flat opens) b ≡ may_use c b
  may_use_within true = refl
  may_use_within false = refl

  used_within : (x : ℕ) → used_type (inside_all ids c flat opens) x ≡ used_type c x
  used_within x = go (slice_get c.«module».types x)
    where
      go : (t : Option TypeTree) → option_and_then (λ t. if may_use (inside_all ids c flat opens) (is_shared t) then Some t else None) t ≡ option_and_then (λ t. if may_use c (is_shared t) then Some t else None) t
      go None = refl
      go (Some t) = ap (λ (b : Bool). if b then Some t else None) (may_use_within (is_shared t))

  index_within : (i : UnpackedIndex) → index_named (inside_all ids c flat opens) i ≡ index_named c i
  index_within (index.Module n) = used_within n
  index_within (index.RecGroup n) = refl
  index_within (index.Id i) = refl

  meant_within : (h : HeapOf UnpackedIndex) → heap_meant (inside_all ids c flat opens) h ≡ heap_meant c h
  meant_within (abstract s a) = ap (λ (b : Bool). if b then Some (abstract s a) else None) (may_use_within s)
  meant_within (concrete i) = ap (option_map (λ t. concrete t)) (index_within i)
  meant_within (exact i) = ap (option_map (λ t. exact t)) (index_within i)

  pub heap_within : (h : HeapType) → heap_named (inside_all ids c flat opens) h ≡ heap_named c h
  heap_within h = meant_within (tree_of h)

-- ---- tests and casts to a heap type

-- an operator of a heap type behind this code, which gives such a type
pub record IsCastTo (code : ℕ) (p : HeapType → GcOperator) (f : HeapOf TypeTree → ValueType) : Type 0 where
  pub opcode : (h : HeapType) → opcode_of (op.Gc (p h)) ≡ prefixed 0xfb code
  pub of : (h : HeapType) → (info_of (op.Gc (p h))).proposal ≡ proposals.Gc
  pub carries : (h : HeapType) → immediates_of (op.Gc (p h)) ≡ Heap h ∷ []
  pub table : (c : Context) (h : HeapType) → instruction_type c (op.Gc (p h)) ≡ cast_at c h f
  pub row : (c : Context) (h : HeapType) (popped pushed : List Operand) → TableRow c (op.Gc (p h)) popped pushed → GcRow c (p h) popped pushed

abbrev pub tests : Bool → HeapType → GcOperator
tests true h = gc.RefTestNullable h
tests false h = gc.RefTestNonNull h

abbrev pub casts : Bool → HeapType → GcOperator
casts true h = gc.RefCastNullable h
casts false h = gc.RefCastNonNull h

pub is_test : (null : Bool) → IsCastTo (if null then 0x15 else 0x14) (tests null) (λ h. i32_type)
is_test true = record { opcode = λ h. refl; of = λ h. refl; carries = λ h. refl; table = λ c h. refl; row = λ c h popped pushed x. x }
is_test false = record { opcode = λ h. refl; of = λ h. refl; carries = λ h. refl; table = λ c h. refl; row = λ c h popped pushed x. x }

pub is_cast : (null : Bool) → IsCastTo (if null then 0x17 else 0x16) (casts null) (λ h. ref null h)
is_cast true = record { opcode = λ h. refl; of = λ h. refl; carries = λ h. refl; table = λ c h. refl; row = λ c h popped pushed x. x }
is_cast false = record { opcode = λ h. refl; of = λ h. refl; carries = λ h. refl; table = λ c h. refl; row = λ c h popped pushed x. x }

-- what such an operator takes and gives
cast_typed : (c : Context) (h : HeapType) (k : HeapOf TypeTree) (f : HeapOf TypeTree → ValueType) → heap_named c h ≡ Some k → is_castable k ≡ true
    → cast_at c h f ≡ Some (ref true (top_heap k) ∷ [] ⟶ f k ∷ [])
cast_typed c h k f named may = rw (named, may) refl

-- the code of what a cast gives
pub cast_gives : (ids : List TypeTree) (c : Context) (h : HeapType) (code top given : ℕ) (null : Bool) (k : IsHeap ids c h code top) → given ≡ (if null then code else code + 1)
    → type_of ids given ≡ ref null k.heap
cast_gives ids c h code top given true k is = rw is k.nullable
cast_gives ids c h code top given false k is = rw is k.never_null

module _ (t : Tables) (text : List ℕ) (i e : ℕ) (o : Open) (outer : List Open) (v w : Values) (on : t.references ≡ true) where
  pub took_cast : (code : ℕ) (p : HeapType → GcOperator) (f : HeapOf TypeTree → ValueType) → IsCastTo code p f → (n : ℕ) → BeginsPrefixed text i 0xfb code n
      → (held top given : ℕ) (h : IsHeapAt text t n held top e)
      → ((ids : List TypeTree) (c : Context) (k : IsHeap ids c h.written held top) → type_of ids given ≡ f k.heap)
      → (m : Values) → v ≡ (top ∷ m.0, m.1) → w ≡ (given ∷ m.0, m.1) → Leads text t i (o ∷ outer) v e (o ∷ outer) w
  took_cast code p f is n begins held top given h gives m taken put =
      let q = op.Gc (p h.written) in
      let at = prefixed_of text i 0xfb code code n begins refl refl q (is.opcode h.written) in
      took t text i e o outer v w q (top ∷ []) (given ∷ []) m.0 m.1
      (stands t text i e o outer v w q (is_told_with t.features.0 text i n q at _ refl refl refl (Heap h.written) e (is.carries h.written) (λ limits. heap_carried _ text n e h.written h.read)))
      refl (λ set full. full) taken put
      (λ ids z c fits set full.
      let k = h.means ids z c fits in
      let g = Here t text i e o outer v w ids c in (
        of_feature c.bits q proposals.Gc feature.Gc fits.allows (is.of h.written) (fits.references on).gc refl,
        is.row g h.written _ _ (
          _,
          is.table g h.written ∙ cast_typed g h.written k.heap f (heap_within ids c t.known.flat.items (o ∷ outer) h.written ∙ k.named) k.castable,
          (ap (λ (x : ValueType). all_known (x ∷ [])) k.above, ap (λ (x : ValueType). all_known (x ∷ [])) (gives ids c k)),
        ),
      ))

  -- ---- small numbers as references

  pub took_ref_i31 : BeginsPrefixed text i 0xfb 0x1c e → (r : List ℕ) → v ≡ (0 ∷ r, v.1) → w ≡ (27 ∷ r, v.1) → Leads text t i (o ∷ outer) v e (o ∷ outer) w
  took_ref_i31 begins r taken put =
      let p = op.Gc gc.RefI31 in
      took t text i e o outer v w p (0 ∷ []) (27 ∷ []) r v.1
      (stands t text i e o outer v w p (is_told t.features.0 text i e p (prefixed_of text i 0xfb 0x1c 0x1c e begins refl refl p refl) _ refl refl refl refl))
      refl (λ set full. full) taken put
      (λ ids z c fits set full. (of_feature c.bits p proposals.Gc feature.Gc fits.allows refl (fits.references on).gc refl, (_, refl, (refl, refl))))

  pub took_i31_get : (signed : Bool) → BeginsPrefixed text i 0xfb (if signed then 0x1d else 0x1e) e → (m : Values) → v ≡ (26 ∷ m.0, m.1) → w ≡ (0 ∷ m.0, m.1)
      → Leads text t i (o ∷ outer) v e (o ∷ outer) w
  took_i31_get true begins m taken put =
      let p = op.Gc gc.I31GetS in
      took t text i e o outer v w p (26 ∷ []) (0 ∷ []) m.0 m.1
      (stands t text i e o outer v w p (is_told t.features.0 text i e p (prefixed_of text i 0xfb 0x1d 0x1d e begins refl refl p refl) _ refl refl refl refl))
      refl (λ set full. full) taken put
      (λ ids z c fits set full. (of_feature c.bits p proposals.Gc feature.Gc fits.allows refl (fits.references on).gc refl, (false, (refl, refl))))
  took_i31_get false begins m taken put =
      let p = op.Gc gc.I31GetU in
      took t text i e o outer v w p (26 ∷ []) (0 ∷ []) m.0 m.1
      (stands t text i e o outer v w p (is_told t.features.0 text i e p (prefixed_of text i 0xfb 0x1e 0x1e e begins refl refl p refl) _ refl refl refl refl))
      refl (λ set full. full) taken put
      (λ ids z c fits set full. (of_feature c.bits p proposals.Gc feature.Gc fits.allows refl (fits.references on).gc refl, (false, (refl, refl))))
