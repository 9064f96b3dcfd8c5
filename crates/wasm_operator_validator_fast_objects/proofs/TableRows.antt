-- What operators on tables and element segments take and give.
use Rattle.std.specs.Prelude.{◌&&◌}
use Rattle.std.proofs.Common.{◌≡◌, ◌∙◌, ◌+◌, ℕ, Bool, true, List, [], ◌∷◌, ◌++◌, Some, refl, sym, ap, subst, reverse, slice_get}
use Rattle.wasm_types.specs.settings.Features as feature
use Rattle.wasm_types.specs.settings.Settings.{Settings}
use Rattle.wasm_types.specs.trees.Trees.{TypeTree}
use Rattle.wasm_types.specs.trees.Below.{Below}
use Rattle.wasm_types.specs.trees.Gates.{Has}
use Rattle.wasm_operators_immediates.specs.Kinds as kind
use Rattle.wasm_operators_immediates.specs.Immediates.{Index}
use Rattle.wasm_operators_immediates.specs.declared.proposal.Proposal.TheVariants as proposals
use Rattle.wasm_operators_enums.specs.declared.bulk.BulkOperator.{BulkOperator}
use Rattle.wasm_operators_enums.specs.declared.bulk.BulkOperator.TheVariants as bulk
use Rattle.wasm_operators_enums.specs.Op as op
use Rattle.wasm_operators_enums.specs.Op.{Op}
use Rattle.wasm_operators_enums.specs.Table.{info_of}
use Rattle.wasm_operators_enums.specs.Immediates.{immediates_of}
use Rattle.wasm_operators_encoding.specs.Opcodes.{prefixed}
use Rattle.wasm_operators_encoding.specs.Operators.{opcode_of}
use Rattle.wasm_operators_frequent.specs.Short.{Begins, BeginsPrefixed}
use Rattle.wasm_operators_frequent.proofs.ShortReading.{told_with, is_told_with, is_told_with_two, prefixed_of}
use Rattle.wasm_operators_frequent.proofs.Carried.{index_of}
use Rattle.wasm_operator_validator_rules.specs.Operands.{ValueType, all_known}
use Rattle.wasm_operator_validator_rules.specs.Context.{Context, Table, may_use, address_type}
use Rattle.wasm_operator_validator_rules.specs.InstructionTypes.{◌⟶◌, i32_type, table_at, shorter, named}
use Rattle.wasm_operator_validator_rules.specs.Row.{BulkRow}
use Rattle.wasm_operator_validator_fast_tables.specs.declared.order.Step.{Step}
use Rattle.wasm_operator_validator_fast_tables.specs.declared.tables.Indexed.{Indexed}
use Rattle.wasm_operator_validator_fast_tables.specs.declared.tables.Open.{Open}
use Rattle.wasm_operator_validator_fast_tables.specs.declared.tables.Tables.{Tables}
use Rattle.wasm_operator_validator_fast_tables.specs.Stacks.{Values}
use Rattle.wasm_operator_validator_fast_tables.specs.Values.{type_of, types, address_of, AreBelow, AreSteps, IsLowered}
use Rattle.wasm_operator_validator_fast_tables.specs.Tables.{Fits}
use Rattle.wasm_operator_validator_fast_tables.specs.Loop.{inside_all, Leads}
use Rattle.wasm_operator_validator_fast_tables.proofs.Lowering.{lowered, lower_same}
use Rattle.wasm_operator_validator_fast_steps.proofs.Coded.{of_feature}
use Rattle.wasm_operator_validator_fast_steps.proofs.Rows.{addressed, may_all, uses, took}
use Rattle.wasm_operator_validator_fast_steps.proofs.Stepping.{Stands, stood}
use Rattle.wasm_operator_validator_fast_objects.specs.Tables.{NamesTable, NamesElement}

-- ---- instruction types of a table

module _ (c : Context) (x : ℕ) (tab : Table) (k a : ValueType) (there : slice_get c.«module».tables x ≡ Some tab) (may : may_use c tab.shared ≡ true)
    (index : a ≡ address_type tab.table64) (is : tab.element ≡ k) where
  table_read : table_at c x (λ t. Some (address_type t.table64 ∷ [] ⟶ t.element ∷ [])) ≡ Some (a ∷ [] ⟶ k ∷ [])
  table_read = rw (there, may, index, is) refl

  table_written : table_at c x (λ t. Some (address_type t.table64 ∷ t.element ∷ [] ⟶ [])) ≡ Some (a ∷ k ∷ [] ⟶ [])
  table_written = rw (there, may, index, is) refl

  table_grown : table_at c x (λ t. Some (t.element ∷ address_type t.table64 ∷ [] ⟶ address_type t.table64 ∷ [])) ≡ Some (k ∷ a ∷ [] ⟶ a ∷ [])
  table_grown = rw (there, may, index, is) refl

  table_sized : table_at c x (λ t. Some ([] ⟶ address_type t.table64 ∷ [])) ≡ Some ([] ⟶ a ∷ [])
  table_sized = rw (there, may, index) refl

  table_filled : table_at c x (λ t. Some (address_type t.table64 ∷ t.element ∷ address_type t.table64 ∷ [] ⟶ [])) ≡ Some (a ∷ k ∷ a ∷ [] ⟶ [])
  table_filled = rw (there, may, index, is) refl

element_dropped : (c : Context) (x : ℕ) (k : ValueType) → slice_get c.«module».elements x ≡ Some k
    → named (slice_get c.«module».elements x) (λ t. Some ([] ⟶ [])) ≡ Some ([] ⟶ [])
element_dropped c x k there = rw there refl

-- ---- the operators

-- references of one code may be taken for those of another, in the rules too
is_below : (steps : List Step) (n k : ℕ) → AreBelow steps (n ∷ []) (k ∷ []) → (ids : List TypeTree) → AreSteps ids steps → (u : ValueType)
    → u ≡ type_of ids k → Below (type_of ids n) u
is_below steps n k below ids are u is = subst (λ (y : ValueType). Below (type_of ids n) y) (sym is) (below ids are).0

module _ (t : Tables) (text : List ℕ) (i e : ℕ) (o : Open) (outer : List Open) (v w : Values) where
  abbrev Here : List TypeTree → Context → Context
  Here ids c = inside_all ids c t.known.flat.items (o ∷ outer)

  -- one whose operands may be taken for others
  module _ (p : BulkOperator) (stands : Stands t.features.0 text i e (op.Bulk p)) (ts us r u : List ℕ) (low : IsLowered t.known.order v (reverse ts ++ r, u))
      (put : w ≡ (reverse us ++ r, u)) where
    took_referring : (info_of (op.Bulk p)).proposal ≡ proposals.ReferenceTypes → t.references ≡ true
        → ((ids : List TypeTree) (z : Settings) (c : Context) → Fits ids z text t c
        → BulkRow (Here ids c) p (all_known (types ids ts)) (all_known (types ids us)))
        → Leads text t i (o ∷ outer) v e (o ∷ outer) w
    took_referring asks on row =
        lowered t text i e o outer (o ∷ outer) v (reverse ts ++ r, u) w low
        (took t text i e o outer (reverse ts ++ r, u) w (op.Bulk p) ts us r u stands refl (λ set full. full) refl put
        (λ ids z c fits set full. (
          of_feature c.bits (op.Bulk p) proposals.ReferenceTypes feature.ReferenceTypes fits.allows asks (fits.references on).reference_types refl,
          row ids z c fits,
        )))

    took_bulk : (info_of (op.Bulk p)).proposal ≡ proposals.BulkMemory → Has t.features.0 feature.BulkMemory
        → ((ids : List TypeTree) (z : Settings) (c : Context) → Fits ids z text t c
        → BulkRow (Here ids c) p (all_known (types ids ts)) (all_known (types ids us)))
        → Leads text t i (o ∷ outer) v e (o ∷ outer) w
    took_bulk asks has row =
        lowered t text i e o outer (o ∷ outer) v (reverse ts ++ r, u) w low
        (took t text i e o outer (reverse ts ++ r, u) w (op.Bulk p) ts us r u stands refl (λ set full. full) refl put
        (λ ids z c fits set full. (
          of_feature c.bits (op.Bulk p) proposals.BulkMemory feature.BulkMemory fits.allows asks (rw fits.bits has) refl,
          row ids z c fits,
        )))

  -- ---- one table

  module _ (j : ℕ) (s : Indexed) (h : NamesTable text t j s e) where
    -- it is there, and not one that only shared functions may use
    found : (ids : List TypeTree) (z : Settings) (c : Context) → Fits ids z text t c
        → (tab : Table) × (slice_get c.«module».tables h.index ≡ Some tab) × (type_of ids s.index ≡ address_type tab.table64) × (tab.element ≡ type_of ids s.ty)
    found ids z c fits =
        let (tab, there, wide, is) = fits.knows.tables h.index s h.is.at h.is.coded in
        (tab, there, addressed ids s.index tab.table64 wide, is)

    -- the bytes of an operator that has no other immediate
    stands_prefixed : (n : ℕ) (p : BulkOperator) → BeginsPrefixed text i 0xfc n j → opcode_of (op.Bulk p) ≡ prefixed 0xfc n
        → immediates_of (op.Bulk p) ≡ Index kind.Tables h.index ∷ [] → Stands t.features.0 text i e (op.Bulk p)
    stands_prefixed n p begins is one =
        stood t.features.0 text i e (op.Bulk p)
        (is_told_with t.features.0 text i j (op.Bulk p) (prefixed_of text i 0xfc n n j begins refl refl (op.Bulk p) is)
        (λ (q : Op). q ≡ op.Bulk p) refl refl refl (Index kind.Tables h.index) e one (λ limits. index_of _ _ _ _ kind.Tables h.index h.read))

    pub took_table_grow : BeginsPrefixed text i 0xfc 0x0f j → (m : Values) → IsLowered t.known.order v (s.index ∷ s.ty ∷ m.0, m.1) → w ≡ (s.index ∷ m.0, m.1)
        → Leads text t i (o ∷ outer) v e (o ∷ outer) w
    took_table_grow begins m low put =
        let p = bulk.TableGrow h.index in
        took_referring p (stands_prefixed 15 p begins refl refl) (s.ty ∷ s.index ∷ []) (s.index ∷ []) m.0 m.1 low put refl h.is.references
        (λ ids z c fits.
        let (tab, there, index, is) = found ids z c fits in
        (_, table_grown (Here ids c) h.index tab (type_of ids s.ty) (type_of ids s.index) there (may_all (Here ids c) tab.shared fits.unshared) index is, (refl, refl)))

    pub took_table_size : BeginsPrefixed text i 0xfc 0x10 j → w ≡ (s.index ∷ v.0, v.1) → Leads text t i (o ∷ outer) v e (o ∷ outer) w
    took_table_size begins put =
        let p = bulk.TableSize h.index in
        took_referring p (stands_prefixed 16 p begins refl refl) [] (s.index ∷ []) v.0 v.1 (lower_same t.known.order v v refl) put refl h.is.references
        (λ ids z c fits.
        let (tab, there, index, is) = found ids z c fits in
        (_, table_sized (Here ids c) h.index tab (type_of ids s.ty) (type_of ids s.index) there (may_all (Here ids c) tab.shared fits.unshared) index is, (refl, refl)))

    pub took_table_fill : BeginsPrefixed text i 0xfc 0x11 j → IsLowered t.known.order v (s.index ∷ s.ty ∷ s.index ∷ w.0, w.1)
        → Leads text t i (o ∷ outer) v e (o ∷ outer) w
    took_table_fill begins low =
        let p = bulk.TableFill h.index in
        took_referring p (stands_prefixed 17 p begins refl refl) (s.index ∷ s.ty ∷ s.index ∷ []) [] w.0 w.1 low refl refl h.is.references
        (λ ids z c fits.
        let (tab, there, index, is) = found ids z c fits in
        (_, table_filled (Here ids c) h.index tab (type_of ids s.ty) (type_of ids s.index) there (may_all (Here ids c) tab.shared fits.unshared) index is, (refl, refl)))

  pub took_table_get : (s : Indexed) → NamesTable text t (i + 1) s e → Begins text i 0x25 → (r : List ℕ) → v ≡ (s.index ∷ r, v.1) → w ≡ (s.ty ∷ r, v.1)
      → Leads text t i (o ∷ outer) v e (o ∷ outer) w
  took_table_get s h begins r taken put =
      let p = bulk.TableGet h.index in
      took_referring p
      (stood t.features.0 text i e (op.Bulk p)
      (told_with t.features.0 text i 37 37 begins refl (op.Bulk p) refl refl (λ (q : Op). q ≡ op.Bulk p) refl refl refl (Index kind.Tables h.index) e refl
      (λ limits. index_of _ _ _ _ kind.Tables h.index h.read)))
      (s.index ∷ []) (s.ty ∷ []) r v.1 (lower_same t.known.order v (s.index ∷ r, v.1) taken) put refl h.is.references
      (λ ids z c fits.
      let (tab, there, index, is) = found (i + 1) s h ids z c fits in
      (_, table_read (Here ids c) h.index tab (type_of ids s.ty) (type_of ids s.index) there (may_all (Here ids c) tab.shared fits.unshared) index is, (refl, refl)))

  pub took_table_set : (s : Indexed) → NamesTable text t (i + 1) s e → Begins text i 0x26 → IsLowered t.known.order v (s.ty ∷ s.index ∷ w.0, w.1)
      → Leads text t i (o ∷ outer) v e (o ∷ outer) w
  took_table_set s h begins low =
      let p = bulk.TableSet h.index in
      took_referring p
      (stood t.features.0 text i e (op.Bulk p)
      (told_with t.features.0 text i 38 38 begins refl (op.Bulk p) refl refl (λ (q : Op). q ≡ op.Bulk p) refl refl refl (Index kind.Tables h.index) e refl
      (λ limits. index_of _ _ _ _ kind.Tables h.index h.read)))
      (s.index ∷ s.ty ∷ []) [] w.0 w.1 low refl refl h.is.references
      (λ ids z c fits.
      let (tab, there, index, is) = found (i + 1) s h ids z c fits in
      (_, table_written (Here ids c) h.index tab (type_of ids s.ty) (type_of ids s.index) there (may_all (Here ids c) tab.shared fits.unshared) index is, (refl, refl)))

  -- ---- element segments, and two tables

  pub took_elem_drop : (n code : ℕ) → BeginsPrefixed text i 0xfc 0x0d n → Has t.features.0 feature.BulkMemory → NamesElement text t n code e → w ≡ v
      → Leads text t i (o ∷ outer) v e (o ∷ outer) w
  took_elem_drop n code begins has h stays =
      let p = bulk.ElemDrop h.index in
      took_bulk p
      (stood t.features.0 text i e (op.Bulk p)
      (is_told_with t.features.0 text i n (op.Bulk p) (prefixed_of text i 0xfc 13 13 n begins refl refl (op.Bulk p) refl)
      (λ (q : Op). q ≡ op.Bulk p) refl refl refl (Index kind.Elements h.index) e refl (λ limits. index_of _ _ _ _ kind.Elements h.index h.read)))
      [] [] v.0 v.1 (lower_same t.known.order v v refl) stays refl has
      (λ ids z c fits. (_, element_dropped (Here ids c) h.index (type_of ids code) (fits.knows.elements h.index code h.is.at h.is.coded), (refl, refl)))

  pub took_table_init : (n k from : ℕ) (to : Indexed) → BeginsPrefixed text i 0xfc 0x0c n → Has t.features.0 feature.BulkMemory → NamesElement text t n from k
      → NamesTable text t k to e → AreBelow t.known.order (from ∷ []) (to.ty ∷ []) → v ≡ (0 ∷ 0 ∷ to.index ∷ w.0, w.1) → Leads text t i (o ∷ outer) v e (o ∷ outer) w
  took_table_init n k from to begins has h g below taken =
      let p = bulk.TableInit h.index g.index in
      took_bulk p
      (stood t.features.0 text i e (op.Bulk p)
      (is_told_with_two t.features.0 text i n (op.Bulk p) (prefixed_of text i 0xfc 12 12 n begins refl refl (op.Bulk p) refl)
      (λ (q : Op). q ≡ op.Bulk p) refl refl refl (Index kind.Elements h.index) (Index kind.Tables g.index) k e refl
      (λ limits. index_of _ _ _ _ kind.Elements h.index h.read) (λ limits. index_of _ _ _ _ kind.Tables g.index g.read)))
      (to.index ∷ 0 ∷ 0 ∷ []) [] w.0 w.1 (lower_same t.known.order v (0 ∷ 0 ∷ to.index ∷ w.0, w.1) taken) refl refl has
      (λ ids z c fits.
      let (tab, there, index, is) = found k to g ids z c fits in (
        tab,
        type_of ids from,
        there,
        uses (Here ids c) tab.shared fits.unshared,
        fits.knows.elements h.index from h.is.at h.is.coded,
        is_below t.known.order from to.ty below ids fits.knows.steps tab.element is,
        (ap (λ (x : ValueType). all_known (x ∷ i32_type ∷ i32_type ∷ [])) index, refl),
      ))

  pub took_table_copy : (n k : ℕ) (from to : Indexed) (least : ℕ) → BeginsPrefixed text i 0xfc 0x0e n → Has t.features.0 feature.BulkMemory → NamesTable text t n to k
      → NamesTable text t k from e → AreBelow t.known.order (from.ty ∷ []) (to.ty ∷ [])
      → ((a b : Bool) → to.index ≡ address_of a → from.index ≡ address_of b → least ≡ address_of (a && b))
      → v ≡ (least ∷ from.index ∷ to.index ∷ w.0, w.1) → Leads text t i (o ∷ outer) v e (o ∷ outer) w
  took_table_copy n k from to least begins has h g below lengths taken =
      let p = bulk.TableCopy h.index g.index in
      took_bulk p
      (stood t.features.0 text i e (op.Bulk p)
      (is_told_with_two t.features.0 text i n (op.Bulk p) (prefixed_of text i 0xfc 14 14 n begins refl refl (op.Bulk p) refl)
      (λ (q : Op). q ≡ op.Bulk p) refl refl refl (Index kind.Tables h.index) (Index kind.Tables g.index) k e refl
      (λ limits. index_of _ _ _ _ kind.Tables h.index h.read) (λ limits. index_of _ _ _ _ kind.Tables g.index g.read)))
      (to.index ∷ from.index ∷ least ∷ []) [] w.0 w.1 (lower_same t.known.order v (least ∷ from.index ∷ to.index ∷ w.0, w.1) taken) refl refl has
      (λ ids z c fits.
      let (a, there, wide, is) = fits.knows.tables h.index to h.is.at h.is.coded in
      let (b, also, broad, of) = fits.knows.tables g.index from g.is.at g.is.coded in
      let one = addressed ids to.index a.table64 wide in
      let two = addressed ids from.index b.table64 broad in
      let long = addressed ids least (a.table64 && b.table64) (lengths a.table64 b.table64 wide broad) in
      let all : all_known (type_of ids to.index ∷ type_of ids from.index ∷ type_of ids least ∷ [])
      ≡ all_known (address_type a.table64 ∷ address_type b.table64 ∷ shorter a.table64 b.table64 ∷ []) =
      ap (λ (x : ValueType). all_known (x ∷ type_of ids from.index ∷ type_of ids least ∷ [])) one
      ∙ ap (λ (x : ValueType). all_known (address_type a.table64 ∷ x ∷ type_of ids least ∷ [])) two
      ∙ ap (λ (x : ValueType). all_known (address_type a.table64 ∷ address_type b.table64 ∷ x ∷ [])) long in
      let fits_in = subst (λ (x : ValueType). Below x a.element) (sym of) (is_below t.known.order from.ty to.ty below ids fits.knows.steps a.element is) in
      (a, b, there, also, uses (Here ids c) a.shared fits.unshared, uses (Here ids c) b.shared fits.unshared, fits_in, (all, refl)))
