-- What fits in a store (WebAssembly 3.0, appendix, soundness, store validity), and what becomes of a store (store extension).
use Rattle.std.specs.Prelude.{◌≡◌, ◌⊎◌, ◌≤◌, ◌*◌, ◌^◌, nat_lt, ℕ, false, IsTrue, List, [], ◌∷◌, length, Option, Some, None, slice_get}
use Rattle.wasm_types.specs.trees.Types.{any, abstract, ref, FieldOf, InnerOf, array_of, struct_of}
use Rattle.wasm_types.specs.trees.Trees.{TypeTree}
use Rattle.wasm_types.specs.externs.declared.memory.MemoryType.{MemoryType}
use Rattle.wasm_types.specs.trees.Below.{Below, expanded}
use Rattle.wasm_operator_validator_rules.specs.Operands.{ValueType, stack}
use Rattle.wasm_operator_validator_rules.specs.Context.{Table, Global, Signature, IsFunctionType}
use Rattle.wasm_operator_validator_soundness.specs.runs.Values.{Program, Value, number_value, ref_i31, ref_object, ref_exn, ref_extern, Fits, AllFit}
use Rattle.wasm_operator_validator_soundness.specs.runs.States.{Exception, Label, Activation, State, Outcome, next, returned, trapped, thrown, stuck}
use Rattle.wasm_operator_validator_soundness.specs.runs.ValidStates.{IsTagType}
use Rattle.wasm_operator_validator_soundness.specs.runs.Machine.{operand_of}
use Rattle.wasm_operator_validator_store.specs.Stores.{GlobalInstance, TableInstance, MemoryInstance, ObjectInstance, ExceptionInstance, Store, IsWithin, field_at, page_of, most_pages}

-- each of a list, and each with what stands in the same place of another list
abbrev pub Each : {A : Type 0} → (A → Type 0) → List A → Type 0
Each P [] = Unit {0}
Each P (x ∷ xs) = P x × Each P xs

abbrev pub Pairs : {A B : Type 0} → (A → B → Type 0) → List A → List B → Type 0
Pairs P [] [] = Unit {0}
Pairs P [] (y ∷ ys) = ⊥
Pairs P (x ∷ xs) [] = ⊥
Pairs P (x ∷ xs) (y ∷ ys) = P x y × Pairs P xs ys

-- ---- what is there

-- what a reference names is in the store, and of the type that it was made with
abbrev pub Knows : Store → Value → Type 0
Knows s (ref_object k t) = (o : ObjectInstance) × (slice_get s.objects k ≡ Some o) × (o.type ≡ t)
Knows s (ref_exn k t) = (x : ExceptionInstance) × (slice_get s.exceptions k ≡ Some x)
    × (slice_get s.tags x.tag ≡ Some t)
Knows s (ref_extern k) = (v : Value) × (slice_get s.externs k ≡ Some v)
Knows s v = Unit {0}

module _ (K : Value → Type 0) where
  abbrev pub HasLocal : Option Value → Type 0
  HasLocal None = Unit {0}
  HasLocal (Some v) = K v

  abbrev pub HasCaught : Option Exception → Type 0
  HasCaught None = Unit {0}
  HasCaught (Some e) = K (ref_exn e.address e.type)

  pub record HasLabel (l : Label) : Type 0 where
    pub values : Each K l.values
    pub caught : HasCaught l.caught

  pub record HasActivation (act : Activation) : Type 0 where
    pub locals : Each HasLocal act.locals
    pub innermost : HasLabel act.innermost
    pub around : Each HasLabel act.around

  -- each value of a state, and of what a step comes to
  abbrev pub HasState : State → Type 0
  HasState s = Each HasActivation s

  abbrev pub HasOutcome : Outcome → Type 0
  HasOutcome (next s) = HasState s
  HasOutcome (returned vs) = Each K vs
  HasOutcome (thrown t vs) = Each K vs
  HasOutcome trapped = Unit {0}
  HasOutcome stuck = Unit {0}

-- ---- what lies at the module's addresses (validation, matching, external types)

-- A global is of the type by which the module knows it, and if it is immutable its own type may be below that. A table is of that type.
abbrev pub GlobalMatches : Global → Global → Type 0
GlobalMatches own g = (own.mutable ≡ g.mutable) × (own.shared ≡ g.shared) × Below own.content g.content
    × (IsTrue g.mutable → Below g.content own.content)

abbrev pub TableMatches : Table → Table → Type 0
TableMatches own t = (own.table64 ≡ t.table64) × (own.shared ≡ t.shared) × Below own.element t.element
    × Below t.element own.element

-- the maximum of a memory is no more than the module says
abbrev pub IsBelowMaximum : Option ℕ → Option ℕ → Type 0
IsBelowMaximum own None = Unit {0}
IsBelowMaximum None (Some n) = ⊥
IsBelowMaximum (Some m) (Some n) = m ≤ n

abbrev pub MemoryMatches : MemoryType → MemoryType → Type 0
MemoryMatches own t = (own.memory64 ≡ t.memory64) × (own.shared ≡ t.shared) × (page_of own ≡ page_of t)
    × IsBelowMaximum own.maximum t.maximum

module _ (s : Store) where
  abbrev pub IsGlobalAt : Global → ℕ → Type 0
  IsGlobalAt g k = (i : GlobalInstance) × (slice_get s.globals k ≡ Some i) × GlobalMatches i.type g

  abbrev pub IsTableAt : Table → ℕ → Type 0
  IsTableAt t k = (i : TableInstance) × (slice_get s.tables k ≡ Some i) × TableMatches i.type t

  -- a memory has at least as many pages as its type says at first
  abbrev pub IsMemoryAt : MemoryType → ℕ → Type 0
  IsMemoryAt t k = (i : MemoryInstance) × (slice_get s.memories k ≡ Some i) × MemoryMatches i.type t
      × (t.initial * page_of t ≤ length i.bytes)

  abbrev pub IsTagAt : TypeTree → ℕ → Type 0
  IsTagAt t k = slice_get s.tags k ≡ Some t

-- ---- what fits

-- so many whole pages, and no more than there may be
abbrev pub MemoryFits : MemoryInstance → Type 0
MemoryFits m = (n : ℕ) × (length m.bytes ≡ n * page_of m.type) × (n ≤ most_pages m.type)

module _ (p : Program) (s : Store) where
  -- a value of a type, which is in the store
  abbrev pub Has : ValueType → Value → Type 0
  Has t v = Fits p v t × Knows s v

  abbrev pub HasField : FieldOf TypeTree → Value → Type 0
  HasField f v = Has (operand_of f.storage) v

  -- a value for each field of a struct; any number of elements of an array
  abbrev pub FieldsFit : InnerOf TypeTree → List Value → Type 0
  FieldsFit (struct_of fs) vs = Pairs HasField fs vs
  FieldsFit (array_of f) vs = Each (HasField f) vs
  FieldsFit _ vs = ⊥

  abbrev pub ObjectFits : ObjectInstance → Type 0
  ObjectFits o = FieldsFit (expanded o.type) o.fields

  abbrev pub ThrownFits : ExceptionInstance → Type 0
  ThrownFits x = (t : TypeTree) × (slice_get s.tags x.tag ≡ Some t)
      × ((b : Signature) → IsFunctionType t b → AllFit p x.values (stack b.params)) × Each (Knows s) x.values

  abbrev pub GlobalFits : GlobalInstance → Type 0
  GlobalFits g = Has g.type.content g.value

  abbrev pub TableFits : TableInstance → Type 0
  TableFits t = Each (Has t.type.element) t.elements

  pub record StoreFits : Type 0 where
    pub globals : Each GlobalFits s.globals
    pub tables : Each TableFits s.tables
    pub memories : Each MemoryFits s.memories
    pub segments : Pairs (λ t vs. Each (Has t) vs) p.«module».elements s.segments
    pub objects : Each ObjectFits s.objects
    pub exceptions : Each ThrownFits s.exceptions
    pub tags : Each IsTagType s.tags
    pub externs : Each (Has (ref false (abstract false any))) s.externs
    pub global_addresses : Pairs (IsGlobalAt s) p.«module».globals s.addresses.globals
    pub table_addresses : Pairs (IsTableAt s) p.«module».tables s.addresses.tables
    pub memory_addresses : Pairs (IsMemoryAt s) p.«module».memories s.addresses.memories
    pub tag_addresses : Pairs (IsTagAt s) p.«module».tags s.addresses.tags

-- ---- numbers within their widths

-- as many bits as the type of a number has, and 31 of an unboxed scalar
abbrev pub InWidth : Value → Type 0
InWidth (number_value n b) = IsWithin (number_value n b)
InWidth (ref_i31 b) = IsTrue (nat_lt b (2 ^ 31))
InWidth v = Unit {0}

abbrev pub IsByte : ℕ → Type 0
IsByte b = IsTrue (nat_lt b 256)

-- each number in a store, and each byte
pub record StoreInWidth (s : Store) : Type 0 where
  pub globals : Each (λ (g : GlobalInstance). InWidth g.value) s.globals
  pub tables : Each (λ (t : TableInstance). Each InWidth t.elements) s.tables
  pub memories : Each (λ (m : MemoryInstance). Each IsByte m.bytes) s.memories
  pub segments : Each (λ (vs : List Value). Each InWidth vs) s.segments
  pub data_segments : Each (λ (bs : List ℕ). Each IsByte bs) s.data_segments
  pub objects : Each (λ (o : ObjectInstance). Each InWidth o.fields) s.objects
  pub exceptions : Each (λ (x : ExceptionInstance). Each InWidth x.values) s.exceptions
  pub externs : Each InWidth s.externs

-- ---- what becomes of a store

-- an object keeps its type, its size and what is immutable in it
pub record IsLater (o q : ObjectInstance) : Type 0 where
  pub type : q.type ≡ o.type
  pub size : length q.fields ≡ length o.fields
  pub kept : (i : ℕ) (f : FieldOf TypeTree) → field_at (expanded o.type) i ≡ Some f → f.mutable ≡ false
      → slice_get q.fields i ≡ slice_get o.fields i

-- a global keeps its type, and its value if it is immutable; a table and a memory keep their type, and do not shrink
pub record GlobalIsLater (g k : GlobalInstance) : Type 0 where
  pub type : k.type ≡ g.type
  pub kept : g.type.mutable ≡ false → k.value ≡ g.value

pub record TableIsLater (t u : TableInstance) : Type 0 where
  pub type : u.type ≡ t.type
  pub size : length t.elements ≤ length u.elements

pub record MemoryIsLater (m n : MemoryInstance) : Type 0 where
  pub type : n.type ≡ m.type
  pub size : length m.bytes ≤ length n.bytes

-- a segment is as it was, or is dropped
abbrev pub SegmentIsLater : List Value → List Value → Type 0
SegmentIsLater vs us = (us ≡ vs) ⊎ (us ≡ [])

abbrev pub DataIsLater : List ℕ → List ℕ → Type 0
DataIsLater bs cs = (cs ≡ bs) ⊎ (cs ≡ [])

-- Whatever is in a store stays in it. Globals, tables, memories, segments and objects are later ones; exceptions and the like do not change, nor
-- do the module's addresses.
pub record Evolves (s u : Store) : Type 0 where
  pub globals : (k : ℕ) (g : GlobalInstance) → slice_get s.globals k ≡ Some g → (i : GlobalInstance)
      × (slice_get u.globals k ≡ Some i) × GlobalIsLater g i
  pub tables : (k : ℕ) (t : TableInstance) → slice_get s.tables k ≡ Some t → (i : TableInstance)
      × (slice_get u.tables k ≡ Some i) × TableIsLater t i
  pub memories : (k : ℕ) (m : MemoryInstance) → slice_get s.memories k ≡ Some m → (i : MemoryInstance)
      × (slice_get u.memories k ≡ Some i) × MemoryIsLater m i
  pub segments : (e : ℕ) (vs : List Value) → slice_get s.segments e ≡ Some vs → (us : List Value)
      × (slice_get u.segments e ≡ Some us) × SegmentIsLater vs us
  pub data_segments : (d : ℕ) (bs : List ℕ) → slice_get s.data_segments d ≡ Some bs → (cs : List ℕ)
      × (slice_get u.data_segments d ≡ Some cs) × DataIsLater bs cs
  pub objects : (k : ℕ) (o : ObjectInstance) → slice_get s.objects k ≡ Some o → (q : ObjectInstance)
      × (slice_get u.objects k ≡ Some q) × IsLater o q
  pub exceptions : (k : ℕ) (x : ExceptionInstance) → slice_get s.exceptions k ≡ Some x
      → slice_get u.exceptions k ≡ Some x
  pub tags : (k : ℕ) (t : TypeTree) → slice_get s.tags k ≡ Some t → slice_get u.tags k ≡ Some t
  pub externs : (k : ℕ) (v : Value) → slice_get s.externs k ≡ Some v → slice_get u.externs k ≡ Some v
  pub addresses : u.addresses ≡ s.addresses
