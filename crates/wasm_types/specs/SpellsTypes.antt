-- The bytes of composite types, subtypes and groups (WebAssembly 3.0, binary format, types; the prefixes of a composite type
-- and its continuations by their proposals), as grammars over values that do not show where a type lies in memory.
use Rattle.std.specs.Prelude.{◌≡◌, ◌⊎◌, ℕ, List, [], ◌∷◌, ◌++◌, Bool, true, false, Option, Some, None, map}
use Rattle.std.specs.Option.{is_some}
use Rattle.wasm_types_decoding.specs.Decoder.{Grammar}
use Rattle.wasm_types_decoding.specs.ExactLaws.{Mapped}
use Rattle.wasm_types_decoding.specs.Lists.{IsListedWithin}
use Rattle.wasm_types_settings.specs.Settings.{Settings}
use Rattle.wasm_types_trees.specs.declared.index.UnpackedIndex.{UnpackedIndex}
use Rattle.wasm_types_trees.specs.Types as tree
use Rattle.wasm_types_trees.specs.Types.{InnerOf}
use Rattle.wasm_types_values.specs.Values.{value_of}
use Rattle.wasm_types_fields.specs.Fields.{field_of}
use Rattle.wasm_types.specs.Entries.{first_of, Declared}
use Rattle.wasm_types.specs.Spells.{final_byte}
use Rattle.wasm_types_fields.specs.declared.field.FieldType.{FieldType}
use Rattle.wasm_types.specs.declared.composite.CompositeInnerType.{CompositeInnerType}
use Rattle.wasm_types.specs.declared.composite.CompositeInnerType.TheVariants.{Func, Array, Struct, Cont}
use Rattle.wasm_types.specs.declared.composite.CompositeType.{CompositeType}
use Rattle.wasm_types.specs.declared.sub_type.SubType.{SubType}
use Rattle.wasm_types.specs.declared.rec_group.RecGroup.{RecGroup}
use Rattle.wasm_types_fields.specs.Signatures.{Signature}
use Rattle.wasm_types_fields.specs.Spells.{SpelledField, SpelledFields, SpelledSignature, SpelledIndex}

-- ---- the values

-- a composite type by its constructor, with lists for what lies in memory
pub data InnerValue : Type 0 where
  function : Signature → InnerValue
  array_of : FieldType → InnerValue
  struct_of : List FieldType → InnerValue
  continuation : UnpackedIndex → InnerValue

-- a composite type with what may stand before it
pub record CompositeValue : Type 0 where
  pub inner : InnerValue
  pub shared : Bool
  pub descriptor : Option UnpackedIndex
  pub describes : Option UnpackedIndex

-- a subtype
pub record SubValue : Type 0 where
  pub is_final : Bool
  pub supertypes : List UnpackedIndex
  pub composite : CompositeValue

-- the values of what the code holds
abbrev pub inner_value : CompositeInnerType → InnerValue
inner_value (Func f) = function f
inner_value (Array a) = array_of a.0
inner_value (Struct s) = struct_of s.fields.items
inner_value (Cont c) = continuation c.0

-- the same of a composite type
abbrev pub composite_value : CompositeType → CompositeValue
composite_value t = record { inner = inner_value t.inner; shared = t.shared; descriptor = t.descriptor_idx; describes = t.describes_idx }

-- the same of a subtype
abbrev pub sub_value : SubType → SubValue
sub_value t = record { is_final = t.is_final; supertypes = t.supertype_idxs.items; composite = composite_value t.composite_type }

-- what these values declare, as plain trees
abbrev pub inner_tree : InnerValue → InnerOf UnpackedIndex
inner_tree (function f) = tree.function (map value_of f.params) (map value_of f.results)
inner_tree (array_of x) = tree.array_of (field_of x)
inner_tree (struct_of xs) = tree.struct_of (map field_of xs)
inner_tree (continuation i) = tree.continuation i

-- the same of a subtype, with all the supertypes that it names
abbrev pub declared_by : SubValue → Declared
declared_by x = record {
  supertypes = x.supertypes;
  entry = record {
    is_final = x.is_final;
    supertype = first_of x.supertypes;
    shared = x.composite.shared;
    descriptor = x.composite.descriptor;
    describes = x.composite.describes;
    inner = inner_tree x.composite.inner;
  };
}

-- ---- composite types

-- a composite type by its first byte (binary format, types, composite types)
abbrev pub SpelledInner : Settings → Grammar InnerValue
SpelledInner z (function f) text = (rest : List ℕ) × (text ≡ 0x60 ∷ rest) × SpelledSignature z f rest
SpelledInner z (array_of x) text = (rest : List ℕ) × (text ≡ 0x5e ∷ rest) × SpelledField x rest
SpelledInner z (struct_of xs) text = (rest : List ℕ) × (text ≡ 0x5f ∷ rest) × SpelledFields z xs rest
SpelledInner z (continuation i) text = (rest : List ℕ) × (text ≡ 0x5d ∷ rest) × SpelledIndex i rest

-- this byte, x by g, and then what x asks for
pub record Prefixed {A B : Type 0} (tag : ℕ) (g : Grammar A) (h : Option A → Grammar B) (y : B) (text : List ℕ) : Type 0 where
  pub value : A
  pub front : List ℕ
  pub back : List ℕ
  pub first : g value front
  pub second : h (Some value) y back
  pub whole : text ≡ tag ∷ (front ++ back)

-- the same, or without it
abbrev pub Optionally : {A B : Type 0} → ℕ → Grammar A → (Option A → Grammar B) → Grammar B
Optionally tag g h y text = h None y text ⊎ Prefixed tag g h y text

-- no bytes
abbrev pub Nothing : Grammar (Unit {0})
Nothing u text = text ≡ []

-- whether the byte of a shared type stood there
abbrev pub marked : Bool → Option (Unit {0})
marked true = Some tt
marked false = None

-- a composite type of its parts
abbrev pub composite_with : Option (Unit {0}) → Option UnpackedIndex → Option UnpackedIndex → InnerValue → CompositeValue
composite_with s e d x = record { inner = x; shared = is_some s; descriptor = d; describes = e }

-- its descriptor, if it has one, and the type itself
abbrev pub SpelledDescriptor : Settings → Option (Unit {0}) → Option UnpackedIndex → Grammar CompositeValue
SpelledDescriptor z s e = Optionally 0x4d SpelledIndex (λ d. Mapped (composite_with s e d) (SpelledInner z))

-- the type that it describes, if it describes one, and what follows
abbrev pub SpelledDescribes : Settings → Option (Unit {0}) → Grammar CompositeValue
SpelledDescribes z s = Optionally 0x4c SpelledIndex (SpelledDescriptor z s)

-- shared or not; the type that it describes; its descriptor; and the type itself
abbrev pub SpelledComposite : Settings → Grammar CompositeValue
SpelledComposite z = Optionally 0x65 Nothing (SpelledDescribes z)

-- ---- subtypes

-- a subtype of its parts
abbrev pub sub_with : Bool → List UnpackedIndex → CompositeValue → SubValue
sub_with f sups c = record { is_final = f; supertypes = sups; composite = c }

-- a composite type with its finality and at most one supertype
pub record SpelledDeclared (z : Settings) (x : SubValue) (text : List ℕ) : Type 0 where
  pub supertypes : List ℕ
  pub composite : List ℕ
  pub above : IsListedWithin 1 SpelledIndex x.supertypes supertypes
  pub itself : SpelledComposite z x.composite composite
  pub whole : text ≡ final_byte x.is_final ∷ (supertypes ++ composite)

-- the same, or a composite type alone, which is final and has no supertype
abbrev pub SpelledSub : Settings → Grammar SubValue
SpelledSub z x text = Mapped (sub_with true []) (SpelledComposite z) x text ⊎ SpelledDeclared z x text

-- ---- groups

-- whether a group is written as one, and its subtypes
pub record GroupValue : Type 0 where
  pub is_explicit : Bool
  pub types : List SubValue

-- the value of a group that the code holds
abbrev pub group_value : RecGroup → GroupValue
group_value g = record { is_explicit = g.is_explicit; types = map sub_value g.types.items }

-- a group of its parts
abbrev pub group_with : Bool → List SubValue → GroupValue
group_with e xs = record { is_explicit = e; types = xs }

-- types within their limit
abbrev pub SpelledTypes : Settings → Grammar (List SubValue)
SpelledTypes z = IsListedWithin z.limits.types (SpelledSub z)

-- a subtype alone, or a list of subtypes
abbrev pub SpelledGroup : Settings → Grammar GroupValue
SpelledGroup z g text = Mapped (λ x. group_with false (x ∷ [])) (SpelledSub z) g text ⊎ ((rest : List ℕ) × (text ≡ 0x4e ∷ rest) × Mapped (group_with true) (SpelledTypes z) g rest)
