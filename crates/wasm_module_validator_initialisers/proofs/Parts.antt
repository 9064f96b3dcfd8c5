-- What the checks of its parts tell of an item.
use Rattle.std.proofs.Common.{◌≡◌, ℕ, ◌≤◌, List, length, refl, sym, ap, ◌∙◌, subst, arith, false, Bool, Option, Some, None, Result, Ok, Err, inr}
use Rattle.std.specs.Prelude.{IfErr, slice_get}
use Rattle.std.proofs.lemmas.List.{take_all}
use Rattle.wasm_types.specs.settings.Settings.{Settings}
use Rattle.wasm_types.specs.settings.declared.Limits.{Limits}
use Rattle.wasm_types.specs.settings.Features.{BulkMemory, FunctionReferences}
use Rattle.wasm_types.specs.decoding.Decoder.{State}
use Rattle.wasm_types.specs.decoding.Denials.{Denies, Tells, UnlessMemory}
use Rattle.wasm_types.specs.decoding.DenialLaws.{denies_from}
use Rattle.wasm_types.specs.decoding.ErrorValue.{ErrorValue}
use Rattle.wasm_types.specs.decoding.declared.error.ErrorKind.{ErrorKind}
use Rattle.wasm_types.specs.trees.Gates.{Has}
use Rattle.wasm_types.specs.trees.Types.{ref}
use Rattle.wasm_types.specs.values.Reference.{Reference}
use Rattle.wasm_types.specs.values.declared.value.ValType.{ValType}
use Rattle.wasm_types.specs.values.declared.value.ValType.TheVariants as value
use Rattle.wasm_types.specs.externs.Addresses.{address_type as address_written}
use Rattle.wasm_types.specs.externs.declared.global.GlobalType.{GlobalType}
use Rattle.wasm_types.specs.externs.declared.memory.MemoryType.{MemoryType}
use Rattle.wasm_types.specs.externs.declared.table.TableType.{TableType}
use Rattle.wasm_operators_encoding.specs.expressions.Code.{Code}
use Rattle.wasm_sections_items.specs.segments.Spells.{GlobalTree, DataMode}
use Rattle.wasm_sections_items.specs.segments.Spells as data_mode
use Rattle.wasm_sections_items.specs.segments.Tables.{TableTree, init_of}
use Rattle.wasm_sections_items.specs.declared.segments.global.GlobalOf.{GlobalOf}
use Rattle.wasm_sections_items.specs.declared.segments.table.TableInitOf.{TableInitOf}
use Rattle.wasm_sections_items.specs.declared.segments.table.TableInitOf.TheVariants as init
use Rattle.wasm_sections_items.specs.declared.segments.segment.DataKindOf.{DataKindOf}
use Rattle.wasm_sections_items.specs.declared.segments.segment.DataKindOf.TheVariants as data_kind
use Rattle.wasm_sections_items.specs.segments.Segments.{mode_of as data_mode_of}
use Rattle.wasm_operator_validator_constants.specs.Checked.{ChecksConstant, StopsConstant}
use Rattle.wasm_operator_validator_rules.specs.constants.Constants.{IsConstant, seeing}
use Rattle.wasm_operator_validator_state.specs.resources.Meaning.{Meaning, type_in, reference_in, global_in, table_in}
use Rattle.wasm_operator_validator_rules.specs.Operands.{ValueType}
use Rattle.wasm_operator_validator_rules.specs.Context.{Module, Global, Table, address_type}
use Rattle.wasm_module_validator_checks.specs.rules.Spaces.{value_in, global_in as global_written, table_in as table_written}
use Rattle.wasm_module_validator_checks.specs.rules.Valid.{IsValidGlobalType, IsValidTableType, IsInitialised}
use Rattle.wasm_module_validator_initialisers.specs.segments.Laws.{unless_from, tells_from, refused_from, address_in}
use Rattle.wasm_module_validator_initialisers.specs.segments.Trees.{bytes_of}
use Rattle.wasm_module_validator_resources.specs.rules_in_order.Texts.{SpelledInit}
use Rattle.wasm_module_validator_initialisers.specs.segments.Judged.{IsConstantText, IsGlobal, IsInitText, IsTableHere, IsTable, IsData}
use Rattle.wasm_module_validator_initialisers.specs.segments.Refusals.{around, read_by, StopsText, RefusesGlobal, RefusesInit, RefusesData}

-- ---- what there is to see

-- a context that has no more globals than this sees them all
pub sees_all : (n : ℕ) (g : Module) → length g.globals ≤ n → seeing n g ≡ g
sees_all n g few = ap (λ (vs : List Global). record g { globals = vs }) (take_all n g.globals few)

-- ---- constants

-- a reader that is told the settings
pub settled : (z : Settings) (x r s t : State) (f : ℕ) (l : Limits) → r ≡ x → f ≡ z.features
    → s ≡ record { rest = r.rest; place = r.place; settings = record { features = f; limits = r.settings.limits }; start = r.start } → l ≡ z.limits
    → t ≡ record { rest = s.rest; place = s.place; settings = record { features = s.settings.features; limits = l }; start = s.start } → t ≡ read_by z x
settled z x r s t f l a b c d e = e ∙ ap (λ (u : State). record { rest = u.rest; place = u.place; settings = record { features = u.settings.features; limits = l }; start = u.start }) c
    ∙ (λ i. record { rest = (a i).rest; place = (a i).place; settings = record { features = b i; limits = d i }; start = (a i).start })

module _ (z : Settings) (m : Meaning) (count : ℕ) where
  -- the check of a constant, by these settings
  pub constant_answer : (bits : ℕ) (t : ValType) (x s : State) (r : Result (Unit {0}) ErrorValue) → bits ≡ z.features → s ≡ read_by z x
      → ChecksConstant (record { bits = bits; meaning = m; imported = count }) t s r → Tells r (IsConstantText z m.«module» count (type_in m t) x.rest)
  constant_answer bits t x s r b e h =
      (subst (λ (u : State). ChecksConstant (around z m count) t u r) e (subst (λ (n : ℕ). ChecksConstant (record { bits = n; meaning = m; imported = count }) t s r) b h)).exact

  pub constant_refused : (bits : ℕ) (t : ValType) (x s : State) (r : Result (Unit {0}) ErrorValue) → bits ≡ z.features → s ≡ read_by z x
      → ChecksConstant (record { bits = bits; meaning = m; imported = count }) t s r → IfErr r (λ e. UnlessMemory e.kind (StopsText z m count (type_in m t) x e))
  constant_refused bits t x s (Ok u) b e h = tt
  constant_refused bits t x s (Err f) b e h =
      let there = (subst (λ (u : State). ChecksConstant (around z m count) t u (Err f)) e
      (subst (λ (n : ℕ). ChecksConstant (record { bits = n; meaning = m; imported = count }) t s (Err f)) b h)).stops in
      unless_from f.kind (StopsConstant (around z m count) t (read_by z x) f) (StopsText z m count (type_in m t) x f) (λ k. (t, refl, k)) there

  -- ---- globals

  -- the type that the code names as its value
  pub content_is : (t : GlobalType) (x : GlobalType) → global_in m t ≡ global_written m.«module».types x → type_in m t.content_type ≡ value_in m.«module».types x.content_type
  content_is t x e = ap (λ (v : Global). v.content) e

  sees_globals : seeing (length m.«module».globals) m.«module» ≡ m.«module»
  sees_globals = sees_all (length m.«module».globals) m.«module» (omega arith)

  pub global_is : (x : GlobalTree (List ℕ)) → IsValidGlobalType z m.«module» x.ty → IsConstantText z m.«module» count (value_in m.«module».types x.ty.content_type) x.init
      → IsGlobal z m.«module» count x
  global_is x valid (c, spelled, typed) = (
    c,
    spelled,
    (valid, subst (λ (g : Module). IsConstant z.features g count (value_in m.«module».types x.ty.content_type) c) (sym sees_globals) typed),
  )

  pub is_global_type : (x : GlobalTree (List ℕ)) → IsGlobal z m.«module» count x → IsValidGlobalType z m.«module» x.ty
  is_global_type x h = h.2.0

  pub is_global_value : (x : GlobalTree (List ℕ)) → IsGlobal z m.«module» count x → IsConstantText z m.«module» count (value_in m.«module».types x.ty.content_type) x.init
  is_global_value x (c, spelled, (valid, typed)) = (c, spelled, subst (λ (g : Module). IsConstant z.features g count (value_in m.«module».types x.ty.content_type) c) sees_globals typed)

  -- a global whose value is refused
  pub global_denied : (k : ErrorKind) (t : GlobalType) (x : GlobalTree (List ℕ)) → global_in m t ≡ global_written m.«module».types x.ty
      → Denies k (IsConstantText z m.«module» count (type_in m t.content_type) x.init) → Denies k (IsGlobal z m.«module» count x)
  global_denied k t x e d =
      let P : ValueType → Type 0 = λ v. IsConstantText z m.«module» count v x.init in
      denies_from k (P (type_in m t.content_type)) (IsGlobal z m.«module» count x) (λ h. subst P (sym (content_is t x.ty e)) (is_global_value x h)) d

  pub global_refused : (offset : ℕ) (t : GlobalType) (x : GlobalOf State) (e : ErrorValue) → global_in m t ≡ global_written m.«module».types x.ty → IsValidGlobalType z m.«module» x.ty
      → UnlessMemory e.kind (StopsText z m count (type_in m t.content_type) x.init_expr e) → UnlessMemory e.kind (RefusesGlobal z m count offset x e)
  global_refused offset t x e named valid h =
      let P : ValueType → Type 0 = λ v. StopsText z m count v x.init_expr e in
      unless_from e.kind (P (type_in m t.content_type)) (RefusesGlobal z m count offset x e) (λ s. inr (valid, subst P (content_is t x.ty named) s)) h

  -- ---- what elements are at first

  pub init_answer : {X : Type 0} (r : Result X ErrorValue) (q : Reference) (k : TableInitOf State) (s : State) → k ≡ init.Expr s → Has z.features FunctionReferences
      → Tells r (IsConstantText z m.«module» count (type_in m (value.Ref q)) s.rest) → Tells r (IsInitText z m.«module» count q.nullable (reference_in m q) (init_of bytes_of k))
  unfolding type_in
  init_answer r q k s e allowed h =
      let Q : TableInitOf State → Type 0 = λ i. IsInitText z m.«module» count q.nullable (reference_in m q) (init_of bytes_of i) in
      tells_from r (IsConstantText z m.«module» count (reference_in m q) s.rest) (Q k) (λ p. subst Q (sym e) (allowed, p)) (λ p. (init_text (subst Q e p))) h
    where
      init_text : Has z.features FunctionReferences × IsConstantText z m.«module» count (reference_in m q) s.rest → IsConstantText z m.«module» count (reference_in m q) s.rest
      init_text p = p.1

  pub init_refused : {X : Type 0} (r : Result X ErrorValue) (q : Reference) (k : TableInitOf State) (s : State) (offset : ℕ) → k ≡ init.Expr s → Has z.features FunctionReferences
      → IfErr r (λ e. UnlessMemory e.kind (StopsText z m count (type_in m (value.Ref q)) s e))
      → IfErr r (λ e. UnlessMemory e.kind (RefusesInit z m count offset q.nullable (reference_in m q) k e))
  unfolding type_in
  init_refused r q k s offset named allowed h =
      let Q : TableInitOf State → ErrorValue → Type 0 = λ i e. RefusesInit z m count offset q.nullable (reference_in m q) i e in
      refused_from r (StopsText z m count (reference_in m q) s) (Q k) (λ e p. subst (λ (i : TableInitOf State). Q i e) (sym named) (inr (allowed, p))) h

  -- ---- tables

  pub element_is : (t : TableType) (x : TableType) → table_in m t ≡ table_written m.«module».types x → reference_in m t.element_type ≡ value_in m.«module».types (value.Ref x.element_type)
  element_is t x e = ap (λ (v : Table). v.element) e

  abbrev nullable_of : ValueType → Bool
  nullable_of (ref n h) = n
  nullable_of t = false

  pub nullable_is : (r q : Reference) → reference_in m r ≡ value_in m.«module».types (value.Ref q) → r.nullable ≡ q.nullable
  nullable_is r q e = ap nullable_of e

  -- a table in its turn
  pub table_is : (x : TableTree (List ℕ)) → length m.«module».globals ≤ count → IsTableHere z m.«module» count x → IsTable z m.«module» count x
  table_is x few (valid, init) = go x.init init
    where
      go : (o : Option (List ℕ)) → IsInitText z m.«module» count x.ty.element_type.nullable (value_in m.«module».types (value.Ref x.ty.element_type)) o
          → IsTable z m.«module» count (record { ty = x.ty; init = o })
      go None null = (None, tt, (valid, null))
      go (Some text) (allowed, (c, spelled, typed)) = (
        Some c,
        spelled,
        (valid, (allowed, subst (λ (g : Module). IsConstant z.features g count (value_in m.«module».types (value.Ref x.ty.element_type)) c) (sym (sees_all count m.«module» few)) typed)),
      )

  pub is_table : (x : TableTree (List ℕ)) → length m.«module».globals ≤ count → IsTable z m.«module» count x → IsTableHere z m.«module» count x
  is_table x few (o, spelled, (valid, init)) = (valid, go x.init o spelled init)
    where
      go : (p : Option (List ℕ)) (q : Option Code) → SpelledInit z p q
          → IsInitialised z m.«module» count x.ty q
          → IsInitText z m.«module» count x.ty.element_type.nullable (value_in m.«module».types (value.Ref x.ty.element_type)) p
      go None None s h = h
      go None (Some c) s h = absurd s
      go (Some text) None s h = absurd s
      go (Some text) (Some c) s h =
          (h.0, (c, s, subst (λ (g : Module). IsConstant z.features g count (value_in m.«module».types (value.Ref x.ty.element_type)) c) (sees_all count m.«module» few) h.1))

  pub table_tells : (r : Result TableType ErrorValue) (x : TableTree (List ℕ)) → Tells r (IsTableHere z m.«module» count x) → length m.«module».globals ≤ count
      → Tells r (IsTable z m.«module» count x)
  table_tells (Ok t) x h few = table_is x few h
  table_tells (Err e) x h few = denies_from e.kind (IsTableHere z m.«module» count x) (IsTable z m.«module» count x) (is_table x few) h

  module _ (t : TableType) (x : TableTree (List ℕ)) (named : table_in m t ≡ table_written m.«module».types x.ty) where
    abbrev nullable : t.element_type.nullable ≡ x.ty.element_type.nullable
    nullable = nullable_is t.element_type x.ty.element_type (element_is t x.ty named)

    -- what the elements are at first, by the type that the code names and by that of the module
    init_written : IsInitText z m.«module» count t.element_type.nullable (reference_in m t.element_type) x.init
        → IsInitText z m.«module» count x.ty.element_type.nullable (value_in m.«module».types (value.Ref x.ty.element_type)) x.init
    init_written h =
        subst (λ (v : ValueType). IsInitText z m.«module» count x.ty.element_type.nullable v x.init) (element_is t x.ty named)
        (subst (λ (b : Bool). IsInitText z m.«module» count b (reference_in m t.element_type) x.init) nullable h)

    init_named : IsInitText z m.«module» count x.ty.element_type.nullable (value_in m.«module».types (value.Ref x.ty.element_type)) x.init
        → IsInitText z m.«module» count t.element_type.nullable (reference_in m t.element_type) x.init
    init_named h =
        subst (λ (b : Bool). IsInitText z m.«module» count b (reference_in m t.element_type) x.init) (sym nullable)
        (subst (λ (v : ValueType). IsInitText z m.«module» count x.ty.element_type.nullable v x.init) (sym (element_is t x.ty named)) h)

    pub turn_is : IsValidTableType z m.«module» x.ty → IsInitText z m.«module» count t.element_type.nullable (reference_in m t.element_type) x.init
        → length m.«module».globals ≤ count → IsTable z m.«module» count x
    turn_is valid h few = table_is x few (valid, init_written h)

    pub turn_denied : (k : ErrorKind) → Denies k (IsInitText z m.«module» count t.element_type.nullable (reference_in m t.element_type) x.init)
        → length m.«module».globals ≤ count → Denies k (IsTable z m.«module» count x)
    turn_denied k d few =
        denies_from k (IsInitText z m.«module» count t.element_type.nullable (reference_in m t.element_type) x.init) (IsTable z m.«module» count x)
        (λ h. init_named (is_table x few h).1) d

  -- ---- data segments

  -- an active segment, in a memory that there is
  pub data_is : (x : ℕ) (text : List ℕ) (v : MemoryType) → slice_get m.«module».memories x ≡ Some v → IsConstantText z m.«module» count (address_type v.memory64) text
      → IsData z m.«module» count (data_mode.active x text)
  data_is x text v found (c, spelled, typed) = (data_mode.active x c, (refl, spelled), (v, found, typed))

  pub is_data : (x : ℕ) (text : List ℕ) → IsData z m.«module» count (data_mode.active x text)
      → (v : MemoryType) × (slice_get m.«module».memories x ≡ Some v) × IsConstantText z m.«module» count (address_type v.memory64) text
  is_data x text (data_mode.passive, s, h) = absurd s
  is_data x text (data_mode.active y c, s, (v, found, typed)) =
      (v, ap (λ (i : ℕ). slice_get m.«module».memories i) s.0 ∙ found, (c, s.1, typed))

  pub passive_is : Has z.features BulkMemory → IsData z m.«module» count data_mode.passive
  passive_is h = (data_mode.passive, tt, h)

  pub is_passive : IsData z m.«module» count data_mode.passive → Has z.features BulkMemory
  is_passive (data_mode.passive, s, h) = h
  is_passive (data_mode.active y c, s, h) = absurd s

  -- the answer of an active one's offset
  module _ {X : Type 0} (r : Result X ErrorValue) (k : DataKindOf State) (x : ℕ) (s : State) (v : MemoryType) (t : ValType)
      (used : k ≡ data_kind.Active x s) (found : slice_get m.«module».memories x ≡ Some v) (named : t ≡ address_written v.memory64) where
    addresses : type_in m t ≡ address_type v.memory64
    addresses = ap (type_in m) named ∙ address_in m v.memory64

    pub active_answer : Tells r (IsConstantText z m.«module» count (type_in m t) s.rest) → Tells r (IsData z m.«module» count (data_mode_of bytes_of k))
    active_answer h =
        let P : ValueType → Type 0 = λ w. IsConstantText z m.«module» count w s.rest in
        let Q : DataKindOf State → Type 0 = λ i. IsData z m.«module» count (data_mode_of bytes_of i) in
        tells_from r (P (type_in m t)) (Q k) (λ p. subst Q (sym used) (data_is x s.rest v found (subst P addresses p)))
        (λ p. subst P (sym addresses) (of_this (is_data x s.rest (subst Q used p)))) h
      where
        of_this : (w : MemoryType) × (slice_get m.«module».memories x ≡ Some w) × IsConstantText z m.«module» count (address_type w.memory64) s.rest
            → IsConstantText z m.«module» count (address_type v.memory64) s.rest
        of_this (w, there, typed) =
            let both : Some w ≡ Some v = sym there ∙ found in
            let same : w ≡ v = cc in
            subst (λ (y : MemoryType). IsConstantText z m.«module» count (address_type y.memory64) s.rest) same typed

    pub active_refused : (offset : ℕ) → IfErr r (λ e. UnlessMemory e.kind (StopsText z m count (type_in m t) s e))
        → IfErr r (λ e. UnlessMemory e.kind (RefusesData z m count offset k e))
    active_refused offset h =
        refused_from r (StopsText z m count (type_in m t) s) (RefusesData z m count offset k)
        (λ e p. subst (λ (i : DataKindOf State). RefusesData z m count offset i e) (sym used)
        (inr (v, found, subst (λ (w : ValueType). StopsText z m count w s e) addresses p))) h
