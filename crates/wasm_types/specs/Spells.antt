-- Rules: which bytes spell a type, as the plain trees that subtyping and valid groups speak of (WebAssembly 3.0, binary format,
-- types; what stands before a composite type, and continuations, by their proposals). An index is one of the module.
use Rattle.std.specs.Prelude.{◌≡◌, ◌⊎◌, ℕ, List, [], ◌∷◌, ◌++◌, Bool, true, false, Option, Some, None}
use Rattle.wasm_types_decoding.specs.Lists.{IsListedWithin}
use Rattle.wasm_types_settings.specs.Settings.{Settings}
use Rattle.wasm_types_trees.specs.declared.index.UnpackedIndex.{UnpackedIndex}
use Rattle.wasm_types_trees.specs.Types as tree
use Rattle.wasm_types_trees.specs.Types.{ValueOf, FieldOf, InnerOf, EntryOf}
use Rattle.wasm_types_values.specs.Spells.{SpellsValue, SpellsStorage, SpellsExactIndex}
use Rattle.wasm_types_fields.specs.Spells.{IsMutability}
use Rattle.wasm_types.specs.Entries.{first_of, Declared}

-- ---- composite types

-- standard: binary-fieldtype: fieldtype
-- fieldtype: the storage type, and then the mutability
pub record SpellsField (x : FieldOf UnpackedIndex) (text : List ℕ) : Type 0 where
  pub storage : List ℕ
  pub mutability : List ℕ
  pub stored : SpellsStorage x.storage storage
  pub writable : IsMutability x.mutable mutability
  pub whole : text ≡ storage ++ mutability

-- standard: binary-resulttype: resulttype, of parameters and of results (differs: at most as many as the limits)
-- parameters and results, each within their limit
pub record SpellsSignature (z : Settings) (ps rs : List (ValueOf UnpackedIndex)) (text : List ℕ) : Type 0 where
  pub params : List ℕ
  pub results : List ℕ
  pub taken : IsListedWithin z.limits.params SpellsValue ps params
  pub given : IsListedWithin z.limits.results SpellsValue rs results
  pub whole : text ≡ params ++ results

-- standard: part of SpellsInner
-- a byte, and what follows it
abbrev pub Follows : ℕ → (List ℕ → Type 0) → List ℕ → Type 0
Follows tag P text = (rest : List ℕ) × (text ≡ tag ∷ rest) × P rest

-- standard: binary-comptype: func, array, struct (differs: at most as many fields as the limit; continuations too)
-- a function, an array, a struct of fields within their limit, a continuation
abbrev pub SpellsInner : Settings → InnerOf UnpackedIndex → List ℕ → Type 0
SpellsInner z (tree.function ps rs) text = Follows 0x60 (SpellsSignature z ps rs) text
SpellsInner z (tree.array_of x) text = Follows 0x5e (SpellsField x) text
SpellsInner z (tree.struct_of xs) text = Follows 0x5f (IsListedWithin z.limits.fields SpellsField xs) text
SpellsInner z (tree.continuation i) text = Follows 0x5d (SpellsExactIndex i) text

-- standard: proposal-shared-everything-threads: the mark of a shared type
-- the mark of a shared type, or nothing (the proposal on shared everything)
abbrev pub SpellsShared : Bool → List ℕ → Type 0
SpellsShared true text = text ≡ 0x65 ∷ []
SpellsShared false text = text ≡ []

-- standard: proposal-custom-descriptors: the clauses describes and descriptor
-- a byte and an index, or nothing
abbrev pub SpellsOption : ℕ → Option UnpackedIndex → List ℕ → Type 0
SpellsOption tag (Some i) text = Follows tag (SpellsExactIndex i) text
SpellsOption tag None text = text ≡ []

-- standard: part of SpellsComposite
-- whether it is shared (s), the type that it describes (e), its descriptor (d), and the type itself
pub record SpellsParts (z : Settings) (s : Bool) (e d : Option UnpackedIndex) (x : InnerOf UnpackedIndex) (text : List ℕ) : Type 0 where
  pub shared : List ℕ
  pub describes : List ℕ
  pub descriptor : List ℕ
  pub inner : List ℕ
  pub marked : SpellsShared s shared
  pub describing : SpellsOption 0x4c e describes
  pub described : SpellsOption 0x4d d descriptor
  pub itself : SpellsInner z x inner
  pub whole : text ≡ shared ++ (describes ++ (descriptor ++ inner))

-- standard: binary-comptype: comptype (differs: a mark and clauses of proposals may come first)
-- comptype with what may stand before it (binary format, types, composite types)
abbrev pub SpellsComposite : Settings → EntryOf UnpackedIndex → List ℕ → Type 0
SpellsComposite z x text = SpellsParts z x.shared x.describes x.descriptor x.inner text

-- ---- subtypes and groups

-- standard: binary-subtype: sub, sub final: the first byte
-- the byte of a subtype that is written in full, final (true) or open
abbrev pub final_byte : Bool → ℕ
final_byte true = 0x4f
final_byte false = 0x50

-- standard: binary-subtype: sub, sub final (differs: one supertype at most, else malformed instead of invalid)
-- finality, at most one supertype, and the composite type
pub record SpellsLong (z : Settings) (x : Declared) (text : List ℕ) : Type 0 where
  pub supertypes : List ℕ
  pub composite : List ℕ
  pub first : x.entry.supertype ≡ first_of x.supertypes
  pub above : IsListedWithin 1 SpellsExactIndex x.supertypes supertypes
  pub itself : SpellsComposite z x.entry composite
  pub whole : text ≡ final_byte x.entry.is_final ∷ (supertypes ++ composite)

-- standard: binary-subtype: comptype alone, final and without a supertype
-- a composite type alone: final, and without a supertype
pub record SpellsShort (z : Settings) (x : Declared) (text : List ℕ) : Type 0 where
  pub is_final : x.entry.is_final ≡ true
  pub alone : x.supertypes ≡ []
  pub none : x.entry.supertype ≡ None
  pub itself : SpellsComposite z x.entry text

-- standard: binary-subtype: subtype
-- subtype: the short form or the full one (binary format, types, recursive types)
abbrev pub SpellsSub : Settings → Declared → List ℕ → Type 0
SpellsSub z x text = SpellsShort z x text ⊎ SpellsLong z x text

-- standard: binary-rectype: rec, or a subtype alone (differs: at most as many types as the limit)
-- one subtype alone, or a list within the limit of types
abbrev pub SpellsGroup : Settings → Bool → List Declared → List ℕ → Type 0
SpellsGroup z false xs text = (x : Declared) × (xs ≡ x ∷ []) × SpellsSub z x text
SpellsGroup z true xs text = Follows 0x4e (IsListedWithin z.limits.types (SpellsSub z) xs) text
