-- What a clone keeps.
use Rattle.std.proofs.Common.{◌≡◌, List, [], ◌∷◌, refl, ap, map, Option, Some, None}
use Rattle.std.specs.List.{AllZip, each_same}
use Rattle.wasm_types_trees.specs.declared.index.UnpackedIndex.{UnpackedIndex}
use Rattle.wasm_types_trees.specs.Types as tree
use Rattle.wasm_types_fields.specs.declared.field.FieldType.{FieldType}
use Rattle.wasm_types_fields.specs.declared.field.ArrayType.{ArrayType}
use Rattle.wasm_types_fields.specs.declared.cont.ContType.{ContType}
use Rattle.wasm_types.specs.declared.composite.CompositeInnerType.{CompositeInnerType}
use Rattle.wasm_types.specs.declared.composite.CompositeInnerType.TheVariants.{Func, Array, Struct, Cont}
use Rattle.wasm_types.specs.declared.composite.CompositeType.{CompositeType}
use Rattle.wasm_types.specs.declared.sub_type.SubType.{SubType}
use Rattle.wasm_types.specs.declared.rec_group.RecGroup.{RecGroup}
use Rattle.wasm_types.specs.contracts.composite.CompositeInnerTypeClone.TheImpl as inner
use Rattle.wasm_types.specs.contracts.composite.CompositeTypeClone.TheImpl as composite
use Rattle.wasm_types.specs.contracts.sub_type.SubTypeClone.TheImpl as subtype
use Rattle.wasm_types.specs.contracts.rec_group.RecGroupClone.TheImpl as group
use Rattle.wasm_types_fields.specs.Fields.{field_of, function_tree}
use Rattle.wasm_types.specs.Entries.{inner_of, first_of, declared_of, declared_types}

inner_copied : (x y : CompositeInnerType) → inner.ghosts.is_clone x y → inner_of y ≡ inner_of x
inner_copied (Func f) (Func g) h = let e : g ≡ f = h in ap function_tree e
inner_copied (Func f) (Array y) h = absurd h
inner_copied (Func f) (Struct y) h = absurd h
inner_copied (Func f) (Cont y) h = absurd h
inner_copied (Array x) (Func g) h = absurd h
inner_copied (Array x) (Array y) h = let e : y ≡ x = h in ap (λ (a : ArrayType). tree.array_of (field_of a.0)) e
inner_copied (Array x) (Struct y) h = absurd h
inner_copied (Array x) (Cont y) h = absurd h
inner_copied (Struct x) (Func g) h = absurd h
inner_copied (Struct x) (Array y) h = absurd h
inner_copied (Struct x) (Struct y) h =
    let a : y.fields.items ≡ x.fields.items = each_same x.fields.items y.fields.items h.0 in
    ap (λ (xs : List FieldType). tree.struct_of (map field_of xs)) a
inner_copied (Struct x) (Cont y) h = absurd h
inner_copied (Cont x) (Func g) h = absurd h
inner_copied (Cont x) (Array y) h = absurd h
inner_copied (Cont x) (Struct y) h = absurd h
inner_copied (Cont x) (Cont y) h = let e : y ≡ x = h in ap (λ (c : ContType). tree.continuation c.0) e

descriptor_copied : (x y : CompositeType) (s t : Option UnpackedIndex) → composite.ghosts.is_clone (record x { descriptor_idx = s }) (record y { descriptor_idx = t }) → t ≡ s
descriptor_copied x y None None h = refl
descriptor_copied x y None (Some b) h = absurd h.1.1.0
descriptor_copied x y (Some a) None h = absurd h.1.1.0
descriptor_copied x y (Some a) (Some b) h = let e : b ≡ a = h.1.1.0 in ap Some e

describes_copied : (x y : CompositeType) (s t : Option UnpackedIndex) → composite.ghosts.is_clone (record x { describes_idx = s }) (record y { describes_idx = t }) → t ≡ s
describes_copied x y None None h = refl
describes_copied x y None (Some b) h = absurd h.1.1.1
describes_copied x y (Some a) None h = absurd h.1.1.1
describes_copied x y (Some a) (Some b) h = let e : b ≡ a = h.1.1.1 in ap Some e

pub subtype_copied : (x y : SubType) → subtype.ghosts.is_clone x y → declared_of y ≡ declared_of x
subtype_copied x y h =
    let a = x.composite_type in
    let b = y.composite_type in
    let c : composite.ghosts.is_clone a b = h.1.1 in
    let e1 : y.is_final ≡ x.is_final = h.0 in
    let e2 : y.supertype_idxs.items ≡ x.supertype_idxs.items = each_same x.supertype_idxs.items y.supertype_idxs.items h.1.0.0 in
    let e3 = inner_copied a.inner b.inner c.0 in
    let e4 : b.shared ≡ a.shared = c.1.0 in
    let e5 = descriptor_copied a b a.descriptor_idx b.descriptor_idx c in
    let e6 = describes_copied a b a.describes_idx b.describes_idx c in
    λ i. record {
      supertypes = e2 i;
      entry = record { is_final = e1 i; supertype = first_of (e2 i); shared = e4 i; descriptor = e5 i; describes = e6 i; inner = e3 i };
    }

subtypes_copied : (xs ys : List SubType) → AllZip subtype.ghosts.is_clone xs ys → map declared_of ys ≡ map declared_of xs
subtypes_copied [] [] h = refl
subtypes_copied [] (y ∷ ys) h = absurd h
subtypes_copied (x ∷ xs) [] h = absurd h
subtypes_copied (x ∷ xs) (y ∷ ys) h = let a = subtype_copied x y h.0 in let b = subtypes_copied xs ys h.1 in cc

pub group_copied : (g h : RecGroup) → group.ghosts.is_clone g h → (declared_types h ≡ declared_types g) × (h.offsets.items ≡ g.offsets.items) × (h.is_explicit ≡ g.is_explicit)
group_copied g h c = (subtypes_copied g.types.items h.types.items c.types, c.offsets, c.explicit)
