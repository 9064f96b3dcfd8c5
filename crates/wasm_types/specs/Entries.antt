-- Types as plain trees over the indices that they hold, without where they lie in memory.
use Rattle.std.specs.Prelude.{List, [], ◌∷◌, map, Option, Some, None, Bool, true}
use Rattle.wasm_types_trees.specs.declared.index.UnpackedIndex.{UnpackedIndex}
use Rattle.wasm_types_trees.specs.Types.{InnerOf, EntryOf}
use Rattle.wasm_types_fields.specs.Fields.{function_tree, array_tree, struct_tree, continuation_tree}
use Rattle.wasm_types.specs.declared.composite.CompositeInnerType.{CompositeInnerType}
use Rattle.wasm_types.specs.declared.composite.CompositeInnerType.TheVariants.{Func, Array, Struct, Cont}
use Rattle.wasm_types.specs.declared.composite.CompositeType.{CompositeType}
use Rattle.wasm_types.specs.declared.sub_type.SubType.{SubType}
use Rattle.wasm_types.specs.declared.rec_group.RecGroup.{RecGroup}

abbrev pub inner_of : CompositeInnerType → InnerOf UnpackedIndex
inner_of (Func f) = function_tree f
inner_of (Array a) = array_tree a
inner_of (Struct s) = struct_tree s
inner_of (Cont c) = continuation_tree c

-- a composite type alone: final, and without a supertype
abbrev pub composite_of : CompositeType → EntryOf UnpackedIndex
composite_of t = record {
  is_final = true;
  supertype = None;
  shared = t.shared;
  descriptor = t.descriptor_idx;
  describes = t.describes_idx;
  inner = inner_of t.inner;
}

-- the first of the declared supertypes, of which a valid type has at most one
abbrev pub first_of : {A : Type 0} → List A → Option A
first_of [] = None
first_of (x ∷ xs) = Some x

abbrev pub entry_of : SubType → EntryOf UnpackedIndex
entry_of t = record {
  is_final = t.is_final;
  supertype = first_of t.supertype_idxs.items;
  shared = t.composite_type.shared;
  descriptor = t.composite_type.descriptor_idx;
  describes = t.composite_type.describes_idx;
  inner = inner_of t.composite_type.inner;
}

-- all that a type declares: its entry, and every supertype
pub record DeclaredOf (R : Type 0) : Type 0 where
  pub supertypes : List R
  pub entry : EntryOf R

abbrev pub Declared : Type 0
Declared = DeclaredOf UnpackedIndex

-- what a composite type declares with these supertypes, final or not
abbrev pub declared_with : {R : Type 0} → Bool → List R → EntryOf R → DeclaredOf R
declared_with f is c = record {
  supertypes = is;
  entry = record { is_final = f; supertype = first_of is; shared = c.shared; descriptor = c.descriptor; describes = c.describes; inner = c.inner };
}

abbrev pub declared_of : SubType → Declared
declared_of t = record { supertypes = t.supertype_idxs.items; entry = entry_of t }

-- the types of a group, in order
abbrev pub subtypes : RecGroup → List SubType
subtypes g = g.types.items

abbrev pub entries_of : RecGroup → List (EntryOf UnpackedIndex)
entries_of g = map entry_of (subtypes g)

abbrev pub declared_types : RecGroup → List Declared
declared_types g = map declared_of (subtypes g)
