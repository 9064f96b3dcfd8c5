-- What packed tables say of a module and of a body (WebAssembly 3.0, validation, conventions, contexts).
use Rattle.std.specs.Prelude.{◌≡◌, ◌≤◌, ◌<◌, ◌+◌, ◌*◌, ◌⊎◌, ℕ, Bool, true, false, List, [], ◌∷◌, length, take, drop, get_or, slice_get, Some, None}
use Rattle.wasm_types.specs.settings.declared.Limits.{Limits}
use Rattle.wasm_types.specs.settings.Settings.{Settings}
use Rattle.wasm_types.specs.externs.declared.memory.MemoryType.{MemoryType}
use Rattle.wasm_types.specs.settings.Features.{Floats, MultiValue, SignExtension, SaturatingFloatToInt, BulkMemoryOpt, Simd, judges_vectors}
use Rattle.wasm_types.specs.settings.Features.{ReferenceTypes, FunctionReferences, Gc, GcTypes, Exceptions, CustomDescriptors, has}
use Rattle.wasm_types.specs.trees.Types.{ref, abstract, concrete, func, FieldOf, InnerOf, function, struct_of, array_of}
use Rattle.wasm_types.specs.trees.Trees.{TypeTree, opened}
use Rattle.wasm_types.specs.trees.Below.{Below, expanded, is_shared}
use Rattle.wasm_types.specs.trees.Gates.{Has}
use Rattle.wasm_operators_immediates.specs.declared.frames.FrameKind.{FrameKind}
use Rattle.wasm_operators_immediates.specs.declared.frames.FrameKind.TheVariants as frames
use Rattle.wasm_operator_validator_rules.specs.Context.{Module, Context, Table, Global, Signature, IsFunctionType, defaultable}
use Rattle.wasm_operator_validator_rules.specs.InstructionTypes.{names_data}
use Rattle.wasm_operator_validator_rules.specs.Row.{IsOneOf}
use Rattle.wasm_operator_validator_rules.specs.Places.{unpacked, is_packed}
use Rattle.wasm_operator_validator_fast_tables.specs.declared.tables.Sig.{Sig}
use Rattle.wasm_operator_validator_fast_tables.specs.declared.tables.Field.{Field}
use Rattle.wasm_operator_validator_fast_tables.specs.declared.tables.Defined.{Defined}
use Rattle.wasm_operator_validator_fast_tables.specs.declared.tables.Defined.TheVariants as defined
use Rattle.wasm_operator_validator_fast_tables.specs.declared.tables.Named.{Named}
use Rattle.wasm_operator_validator_fast_tables.specs.declared.tables.Held.{Held}
use Rattle.wasm_operator_validator_fast_tables.specs.declared.tables.Indexed.{Indexed}
use Rattle.wasm_operator_validator_fast_tables.specs.declared.tables.Known.{Known}
use Rattle.wasm_operator_validator_fast_tables.specs.declared.tables.Tables.{Tables}
use Rattle.wasm_operator_validator_fast_tables.specs.Stacks.{part}
use Rattle.wasm_operator_validator_fast_tables.specs.Values.{type_of, types, address_of, AreSteps}

-- ---- signatures

abbrev pub params_in : List ℕ → Sig → List ℕ
params_in flat s = part s.params s.param_count flat

abbrev pub results_in : List ℕ → Sig → List ℕ
results_in flat s = part s.results s.result_count flat

abbrev pub signature_in : List TypeTree → List ℕ → Sig → Signature
signature_in ids flat s = record { params = types ids (params_in flat s); results = types ids (results_in flat s) }

-- what a branch to a frame takes
abbrev pub label_in : List ℕ → FrameKind → Sig → List ℕ
label_in flat frames.Loop s = params_in flat s
label_in flat _ s = results_in flat s

-- ---- modules

-- the type at an index is this function type, as far as the signature is for use
abbrev pub IsTypeIn : List TypeTree → Module → List ℕ → ℕ → Sig → Type 0
IsTypeIn ids m flat y s = s.param_count ≤ length flat → (t : TypeTree) × (slice_get m.types y ≡ Some t) × IsFunctionType t (signature_in ids flat s)

-- the function at an index has the type at another
abbrev pub HasTypeIn : Module → ℕ → ℕ → Type 0
HasTypeIn m x y = (t : TypeTree) × (slice_get m.functions x ≡ Some t) × (slice_get m.types y ≡ Some t)

-- the function at an index is of this function type, as far as the signature is for use
abbrev pub IsCalleeIn : List TypeTree → Module → List ℕ → ℕ → Sig → Type 0
IsCalleeIn ids m flat x s = s.param_count ≤ length flat → (t : TypeTree) × (slice_get m.functions x ≡ Some t) × IsFunctionType t (signature_in ids flat s)

-- no code stands for the type
abbrev pub no_code : ℕ
no_code = 0xffffffff

-- the global at an index is this one, as far as a code stands for its type
abbrev pub IsGlobalIn : List TypeTree → Module → ℕ → Held → Type 0
IsGlobalIn ids m x h = h.ty < no_code → (v : Global) × (slice_get m.globals x ≡ Some v) × (v.content ≡ type_of ids h.ty) × (v.mutable ≡ h.mutable)

-- the memory at an index has addresses of this code
abbrev pub HasMemoryAt : Module → ℕ → ℕ → Type 0
HasMemoryAt m x code = (t : MemoryType) × (slice_get m.memories x ≡ Some t) × (code ≡ address_of t.memory64)

-- the table at an index is one of functions, and has indices of this code
abbrev pub HasTableAt : Module → ℕ → ℕ → Type 0
HasTableAt m x code = (t : Table) × (slice_get m.tables x ≡ Some t) × (code ≡ address_of t.table64)
    × ((s : Bool) × Below t.element (ref true (abstract s func)))

-- the table at an index has references and indices of these codes, as far as the first is one
abbrev pub IsTableIn : List TypeTree → Module → ℕ → Indexed → Type 0
IsTableIn ids m x s = s.ty < no_code → (t : Table) × (slice_get m.tables x ≡ Some t) × (s.index ≡ address_of t.table64) × (t.element ≡ type_of ids s.ty)

-- so are the references of the element segment at an index
abbrev pub IsElementIn : List TypeTree → Module → ℕ → ℕ → Type 0
IsElementIn ids m x code = code < no_code → slice_get m.elements x ≡ Some (type_of ids code)

-- ---- types that a module defines

-- a field or an element as the loop has it: what is read, whether it is packed, and whether it may be written
pub record IsField (ids : List TypeTree) (x : FieldOf TypeTree) (f : Field) : Type 0 where
  pub read : unpacked x.storage ≡ type_of ids f.code
  pub packed : is_packed x.storage ≡ f.packed
  pub mutable : x.mutable ≡ f.mutable

-- the fields of a structure, in order
abbrev pub AreFields : List TypeTree → List (FieldOf TypeTree) → List Field → Type 0
AreFields ids [] [] = Unit {0}
AreFields ids [] (f ∷ fs) = ⊥
AreFields ids (x ∷ xs) [] = ⊥
AreFields ids (x ∷ xs) (f ∷ fs) = IsField ids x f × AreFields ids xs fs

-- what a defined type is, as far as the loop knows
abbrev pub IsDefined : List TypeTree → List Field → InnerOf TypeTree → Defined → Type 0
IsDefined ids fields inner defined.Other = Unit {0}
IsDefined ids fields inner defined.Function = (b : Signature) × (inner ≡ function b.params b.results)
IsDefined ids fields inner (defined.Struct from count) = (xs : List (FieldOf TypeTree)) × (inner ≡ struct_of xs)
    × (from + count ≤ length fields) × AreFields ids xs (take count (drop from fields))
IsDefined ids fields inner (defined.Array f) = (x : FieldOf TypeTree) × (inner ≡ array_of x) × IsField ids x f

-- The type at an index of the module is not shared, has no descriptor, is defined so, and these codes stand for references to it, of which the
-- first may be null.
pub record IsNamedIn (ids : List TypeTree) (m : Module) (fields : List Field) (y : ℕ) (n : Named) : Type 0 where
  pub type : TypeTree
  pub at : slice_get m.types y ≡ Some type
  pub high : 40 ≤ n.code
  pub nullable : type_of ids n.code ≡ ref true (concrete type)
  pub never_null : type_of ids (n.code + 1) ≡ ref false (concrete type)
  pub unshared : is_shared type ≡ false
  pub undescribed : (opened type).descriptor ≡ None
  pub is : IsDefined ids fields (expanded type) n.defined

-- both codes stand among the others, at a place by the index
abbrev pub ArePlaced : List ℕ → ℕ → Named → Type 0
ArePlaced flat y n = part (40 + 2 * y) 2 flat ≡ n.code ∷ (n.code + 1) ∷ []

-- ---- exceptions and segments

-- the tag at an index is of exceptions that carry these values, as far as the signature is for use
abbrev pub IsTagIn : List TypeTree → Module → List ℕ → ℕ → Sig → Type 0
IsTagIn ids m flat x s = s.param_count ≤ length flat
    → (t : TypeTree) × (slice_get m.tags x ≡ Some t) × IsFunctionType t (record { params = types ids (params_in flat s); results = [] })

-- tables stand for what they name of a module, by the types behind its ids
pub record Knows (ids : List TypeTree) (m : Module) (k : Known) : Type 0 where
  pub alone : (n : ℕ) → n < 40 → part n 1 k.flat.items ≡ n ∷ []
  pub types : (y : ℕ) (s : Sig) → slice_get k.types.items y ≡ Some s → IsTypeIn ids m k.flat.items y s
  pub functions : (x y : ℕ) → slice_get k.functions.items x ≡ Some y → HasTypeIn m x y
  pub callees : (x : ℕ) (s : Sig) → slice_get k.callees.items x ≡ Some s → IsCalleeIn ids m k.flat.items x s
  pub referenced : (x : ℕ) → slice_get k.referenced.items x ≡ Some true → IsOneOf x m.referenced
  pub globals : (x : ℕ) (h : Held) → slice_get k.globals.items x ≡ Some h → IsGlobalIn ids m x h
  pub named : (y : ℕ) (n : Named) → slice_get k.named.items y ≡ Some n → n.code < no_code → IsNamedIn ids m k.fields.items y n
  pub places : (y : ℕ) (n : Named) → slice_get k.named.items y ≡ Some n → n.code < no_code → ArePlaced k.flat.items y n
  pub steps : AreSteps ids k.order
  pub tags : (x : ℕ) (s : Sig) → slice_get k.tags.items x ≡ Some s → IsTagIn ids m k.flat.items x s
  pub tables : (x : ℕ) (s : Indexed) → slice_get k.tables.items x ≡ Some s → IsTableIn ids m x s
  pub elements : (x code : ℕ) → slice_get k.elements.items x ≡ Some code → IsElementIn ids m x code
  pub «data» : (d : ℕ) → d < k.«data» → names_data m.data_count d ≡ true
  pub memories : (x code : ℕ) → slice_get k.memories.items x ≡ Some code → HasMemoryAt m x code
  pub memory : k.memory < no_code → HasMemoryAt m 0 k.memory
  pub table : k.table < no_code → HasTableAt m 0 k.table

-- ---- bodies

-- the features that the operators of the loop ask
pub record Allows (bits : ℕ) : Type 0 where
  pub floats : Has bits Floats
  pub values : Has bits MultiValue
  pub sign : Has bits SignExtension
  pub saturating : Has bits SaturatingFloatToInt
  pub bulk : Has bits BulkMemoryOpt

-- the features that references ask besides
pub record AllowsReferences (bits : ℕ) : Type 0 where
  pub reference_types : Has bits ReferenceTypes
  pub function_references : Has bits FunctionReferences
  pub gc : Has bits Gc
  pub gc_types : Has bits GcTypes
  pub exceptions : Has bits Exceptions
  pub no_descriptors : has CustomDescriptors bits ≡ false

-- the feature that vectors ask besides, and the switch of operators on them
pub record AllowsVectors (bits : ℕ) : Type 0 where
  pub simd : Has bits Simd
  pub judged : judges_vectors bits ≡ true

-- limits within which operators may carry lists: the clauses of a `try_table` and the type of a `select`
pub record AllowsLists (limits : Limits) : Type 0 where
  pub catches : 100 ≤ limits.catches
  pub select_types : 1 ≤ limits.select_types

-- tables stand for what they name of the context of a body with these bytes, by the types behind the ids
pub record Fits (ids : List TypeTree) (z : Settings) (text : List ℕ) (t : Tables) (g : Context) : Type 0 where
  pub features : z.features ≡ t.features.0
  pub bits : g.bits ≡ t.features.0
  pub within : length text ≤ z.limits.body_bytes
  pub allows : Allows g.bits
  pub references : t.references ≡ true → AllowsReferences g.bits
  pub limits : t.references ≡ true → AllowsLists z.limits
  pub vectors : t.vectors ≡ true → AllowsVectors g.bits
  pub knows : Knows ids g.«module» t.known
  pub locals : (x : ℕ) → x < length t.locals.items → slice_get g.locals x ≡ Some (type_of ids (get_or t.locals.items x 0))
  pub results : g.results ≡ types ids (results_in t.known.flat.items t.results)
  pub unshared : g.shared ≡ false

-- whatever types are behind the ids, values of this code have a default
abbrev pub HasDefault : ℕ → Type 0
HasDefault code = (ids : List TypeTree) → defaultable (type_of ids code) ≡ true

-- so do the first locals, except so many, which the caller gives
abbrev pub BeginSet : Tables → ℕ → Type 0
BeginSet t params = (x : ℕ) → x < length t.locals.items → x < t.certain → (x < params) ⊎ HasDefault (get_or t.locals.items x 0)

-- ---- calls through tables

-- functions may be called through the table at an index by indices of this code, in any module that the tables stand for
abbrev pub CallsThrough : Tables → ℕ → ℕ → Type 0
CallsThrough t x code = (ids : List TypeTree) (m : Module) → Knows ids m t.known → HasTableAt m x code

-- ---- memories

-- the memory at an index has addresses of this code, in any module that the tables stand for
abbrev pub Reaches : Tables → ℕ → ℕ → Type 0
Reaches t x code = (ids : List TypeTree) (m : Module) → Knows ids m t.known → HasMemoryAt m x code

-- ---- calls in the place of a return

-- the type at an index takes these types, and gives what the function that is judged gives
pub record ReturnsBy (t : Tables) (y : ℕ) (params : List ℕ) : Type 0 where
  pub sig : Sig
  pub at : slice_get t.known.types.items y ≡ Some sig
  pub usable : sig.param_count ≤ length t.known.flat.items
  pub takes : params ≡ params_in t.known.flat.items sig
  pub gives : results_in t.known.flat.items sig ≡ results_in t.known.flat.items t.results
