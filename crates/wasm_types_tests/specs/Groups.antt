-- Composite types, subtypes and groups, worked by hand: what they declare, the values that are read of them, how they are
-- written, and what a copy keeps (WebAssembly 3.0, structure, recursive types, and text format, types).
use Rattle.std.specs.Prelude.{◌≡◌, ◌++◌, codes, Bool, true, false, List, [], ◌∷◌, Some, None}
use Rattle.std.specs.Fmt.{decimal}
use Rattle.wasm_types.specs.trees.declared.index.UnpackedIndex.{UnpackedIndex}
use Rattle.wasm_types.specs.trees.declared.index.UnpackedIndex.TheVariants.{Module}
use Rattle.wasm_types.specs.trees.Types as tree
use Rattle.wasm_types.specs.values.declared.value.ValType.TheVariants.{I32, I64}
use Rattle.wasm_types.specs.values.declared.value.StorageType.TheVariants.{I8}
use Rattle.wasm_types.specs.fields.declared.field.FieldType.{FieldType}
use Rattle.wasm_types.specs.fields.declared.field.StructType.{StructType}
use Rattle.wasm_types.specs.declared.composite.CompositeInnerType.TheVariants.{Func, Array, Struct, Cont}
use Rattle.wasm_types.specs.declared.composite.CompositeType.{CompositeType}
use Rattle.wasm_types.specs.declared.sub_type.SubType.{SubType}
use Rattle.wasm_types.specs.declared.rec_group.RecGroup.{RecGroup}
use Rattle.wasm_types.specs.Entries.{inner_of, composite_of, declared_of, declared_types, subtypes}
use Rattle.wasm_types.specs.SpellsTypes.{function, array_of, struct_of, continuation, composite_value, sub_value, group_value}
use Rattle.wasm_types.specs.Copies.{IsCopy}
use Rattle.wasm_types.specs.Text.{composite_text, sub_text}

-- a continuation, shared, described by type 1, and describing type 2
abbrev pub routine : CompositeType
routine = record { inner = Cont (record { 0 = Module 5 }); shared = true; descriptor_idx = Some (Module 1); describes_idx = Some (Module 2) }

-- the same without what may stand before it
abbrev pub plain : CompositeType
plain = record { inner = Cont (record { 0 = Module 5 }); shared = false; descriptor_idx = None; describes_idx = None }

-- a field of bytes that may be written
abbrev pub octet : FieldType
octet = record { element_type = I8; mutable = true }

-- an array of such bytes, with what may stand before it
abbrev pub bytes : CompositeType
bytes = record { inner = Array (record { 0 = octet }); shared = false; descriptor_idx = None; describes_idx = None }

abbrev pub shared_bytes : CompositeType
shared_bytes = record bytes { shared = true }

abbrev pub described_bytes : CompositeType
described_bytes = record bytes { descriptor_idx = Some (Module 1); describes_idx = Some (Module 2) }

-- a subtype of these parts
pub record IsOf (t : SubType) (final : Bool) (supertypes : List UnpackedIndex) (composite : CompositeType) : Type 0 where
  pub final_is : t.is_final ≡ final
  pub supertypes_are : t.supertype_idxs.items ≡ supertypes
  pub composite_is : t.composite_type ≡ composite

-- what a type declares, as a plain tree
pub record DeclaredRows : Type 0 where
  pub function : inner_of (Func (record { params = I32 ∷ []; results = I64 ∷ [] })) ≡ tree.function (tree.number tree.i32 ∷ []) (tree.number tree.i64 ∷ [])
  pub array : inner_of (Array (record { 0 = octet })) ≡ tree.array_of (record { storage = tree.i8; mutable = true })
  pub struct : (s : StructType) → s.fields.items ≡ octet ∷ [] → inner_of (Struct s) ≡ tree.struct_of (record { storage = tree.i8; mutable = true } ∷ [])
  pub continuation : inner_of (Cont (record { 0 = Module 5 })) ≡ tree.continuation (Module 5)
  pub alone : composite_of routine ≡ record {
    is_final = true;
    supertype = None;
    shared = true;
    descriptor = Some (Module 1);
    describes = Some (Module 2);
    inner = tree.continuation (Module 5);
  }
  pub below_another : (t : SubType) → IsOf t false (Module 4 ∷ Module 6 ∷ []) routine → declared_of t ≡ record {
    supertypes = Module 4 ∷ Module 6 ∷ [];
    entry = record {
      is_final = false;
      supertype = Some (Module 4);
      shared = true;
      descriptor = Some (Module 1);
      describes = Some (Module 2);
      inner = tree.continuation (Module 5);
    };
  }
  pub below_none : (t : SubType) → IsOf t true [] plain → declared_of t ≡ record {
    supertypes = [];
    entry = record { is_final = true; supertype = None; shared = false; descriptor = None; describes = None; inner = tree.continuation (Module 5) };
  }
  pub in_order : (g : RecGroup) (t u : SubType) → g.types.items ≡ t ∷ u ∷ [] → (subtypes g ≡ t ∷ u ∷ []) × (declared_types g ≡ declared_of t ∷ declared_of u ∷ [])

-- the values of which contracts of readers speak
pub record ValueRows : Type 0 where
  pub function : composite_value (record { inner = Func (record { params = I32 ∷ []; results = I64 ∷ [] }); shared = false; descriptor_idx = None; describes_idx = None })
      ≡ record { inner = function (record { params = I32 ∷ []; results = I64 ∷ [] }); shared = false; descriptor = None; describes = None }
  pub array : composite_value shared_bytes ≡ record { inner = array_of octet; shared = true; descriptor = None; describes = None }
  pub struct : (s : StructType) → s.fields.items ≡ octet ∷ [] → composite_value (record { inner = Struct s; shared = false; descriptor_idx = None; describes_idx = None })
      ≡ record { inner = struct_of (octet ∷ []); shared = false; descriptor = None; describes = None }
  pub continuation : composite_value routine ≡ record { inner = continuation (Module 5); shared = true; descriptor = Some (Module 1); describes = Some (Module 2) }
  pub subtype : (t : SubType) → IsOf t false (Module 4 ∷ []) shared_bytes → sub_value t ≡ record {
    is_final = false;
    supertypes = Module 4 ∷ [];
    composite = record { inner = array_of octet; shared = true; descriptor = None; describes = None };
  }
  pub group : (g : RecGroup) (t u : SubType) → g.types.items ≡ t ∷ u ∷ [] → g.is_explicit ≡ true → group_value g ≡ record {
    types = sub_value t ∷ sub_value u ∷ [];
    is_explicit = true;
  }

-- what a copy keeps: as many types, offsets, and the form
pub record CopyRows : Type 0 where
  pub of_none : (g h : RecGroup) → g.types.items ≡ [] → h.types.items ≡ [] → h.offsets.items ≡ g.offsets.items → h.is_explicit ≡ g.is_explicit → IsCopy g h
  pub of_fewer : (g h : RecGroup) (t : SubType) → g.types.items ≡ t ∷ [] → h.types.items ≡ [] → IsCopy g h → ⊥
  pub of_other_offsets : (g h : RecGroup) → g.offsets.items ≡ 2 ∷ [] → h.offsets.items ≡ 3 ∷ [] → IsCopy g h → ⊥
  pub of_another_form : (g h : RecGroup) → g.is_explicit ≡ true → h.is_explicit ≡ false → IsCopy g h → ⊥

-- how they are written
pub record TextRows : Type 0 where
  pub alone : composite_text bytes ≡ codes "(array (mut i8))"
  pub shared : composite_text shared_bytes ≡ codes "(shared (array (mut i8)))"
  pub described : composite_text described_bytes ≡ (codes "(describes (module " ++ decimal 2 ++ codes ")" ++ codes ") ")
      ++ (codes "(descriptor (module " ++ decimal 1 ++ codes ")" ++ codes ") ") ++ codes "(array (mut i8))"
  pub final : (t : SubType) → IsOf t true [] shared_bytes → sub_text t ≡ codes "(shared (array (mut i8)))"
  pub not_final : (t : SubType) → IsOf t false [] shared_bytes → sub_text t ≡ codes "(sub (shared (array (mut i8))))"
  pub final_below_another : (t : SubType) → IsOf t true (Module 4 ∷ []) bytes → sub_text t ≡ codes "(sub final "
      ++ (codes "(module " ++ decimal 4 ++ codes ")" ++ codes " " ++ []) ++ codes "(array (mut i8))" ++ codes ")"
  pub below_another : (t : SubType) → IsOf t false (Module 4 ∷ []) bytes → sub_text t ≡ codes "(sub "
      ++ (codes "(module " ++ decimal 4 ++ codes ")" ++ codes " " ++ []) ++ codes "(array (mut i8))" ++ codes ")"
