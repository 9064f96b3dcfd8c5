-- `==` of groups, from that of values upwards.
use Rattle.std.proofs.Common.{◌≡◌, ◌↔◌, IsTrue, true, ◌&&◌, ap, map}
use mathlib.Core.Bool.{beq}
use lib.Pointwise.{pointwise}
use Rattle.std.specs.Option.{option_eq, option_map}
use Rattle.wasm_types_trees.specs.declared.index.UnpackedIndex.{UnpackedIndex}
use Rattle.wasm_types_trees.specs.contracts.packed.PackedIndexPartialEq.TheImpl as index
use Rattle.wasm_types_values.specs.contracts.value.ValTypePartialEq.TheImpl as value_type
use Rattle.wasm_types_values.specs.contracts.value.StorageTypePartialEq.TheImpl as storage_type
use Rattle.wasm_types_values.specs.Laws.{ValueEqualityIsIdentity, StorageEqualityIsIdentity}
use Rattle.wasm_types_trees.specs.Types as tree
use Rattle.wasm_types_trees.specs.Types.{ValueOf, FieldOf, InnerOf, EntryOf}
use Rattle.wasm_types_fields.specs.declared.field.FieldType.{FieldType}
use Rattle.wasm_types.specs.declared.composite.CompositeInnerType.{CompositeInnerType}
use Rattle.wasm_types.specs.declared.composite.CompositeInnerType.TheVariants.{Func, Array, Struct, Cont}
use Rattle.wasm_types.specs.declared.sub_type.SubType.{SubType}
use Rattle.wasm_types.specs.declared.rec_group.RecGroup.{RecGroup}
use Rattle.wasm_types_fields.specs.contracts.field.FieldTypePartialEq.TheImpl as field
use Rattle.wasm_types.specs.contracts.composite.CompositeInnerTypePartialEq.TheImpl as inner
use Rattle.wasm_types.specs.contracts.sub_type.SubTypePartialEq.TheImpl as subtype
use Rattle.wasm_types.specs.contracts.rec_group.RecGroupPartialEq.TheImpl as group
use Rattle.wasm_types_fields.specs.Fields.{field_of}
use Rattle.wasm_types.specs.Entries.{inner_of, entry_of, first_of, Declared, declared_of, declared_types}
use Rattle.wasm_types_fields.proofs.Telling.{Tells, first, second, both, lists, options, map_id, option_id, flags, indices, values, storages}

module _ (same_value : ValueEqualityIsIdentity) (same_storage : StorageEqualityIsIdentity) where
  field_sound : (x y : FieldType) → field.ghosts.eq x y ≡ true → field_of x ≡ field_of y
  field_sound x y h =
      let a = (storages same_storage).sound x.element_type y.element_type (first (storage_type.ghosts.eq x.element_type y.element_type) (beq x.mutable y.mutable) h) in
      let b = flags.sound x.mutable y.mutable (second (storage_type.ghosts.eq x.element_type y.element_type) (beq x.mutable y.mutable) h) in
      λ i. record { storage = a i; mutable = b i }

  field_complete : (x y : FieldType) → field_of x ≡ field_of y → field.ghosts.eq x y ≡ true
  field_complete x y e =
      both _ _ ((storages same_storage).complete x.element_type y.element_type (ap (λ (z : FieldOf UnpackedIndex). z.storage) e))
      (flags.complete x.mutable y.mutable (ap (λ (z : FieldOf UnpackedIndex). z.mutable) e))

  fields : Tells field.ghosts.eq field_of
  fields = record { sound = field_sound; complete = field_complete }

  inner_sound : (x y : CompositeInnerType) → inner.ghosts.eq x y ≡ true → inner_of x ≡ inner_of y
  inner_sound (Func f) (Func g) h =
      let p = pointwise value_type.ghosts.eq f.params g.params in
      let r = pointwise value_type.ghosts.eq f.results g.results in
      let a = (lists (values same_value)).sound f.params g.params (first p r h) in
      let b = (lists (values same_value)).sound f.results g.results (second p r h) in
      cc
  inner_sound (Func f) (Array y) h = cc
  inner_sound (Func f) (Struct y) h = cc
  inner_sound (Func f) (Cont y) h = cc
  inner_sound (Array x) (Func g) h = cc
  inner_sound (Array x) (Array y) h = ap tree.array_of (field_sound x.0 y.0 h)
  inner_sound (Array x) (Struct y) h = cc
  inner_sound (Array x) (Cont y) h = cc
  inner_sound (Struct x) (Func g) h = cc
  inner_sound (Struct x) (Array y) h = cc
  inner_sound (Struct x) (Struct y) h = ap tree.struct_of ((lists fields).sound x.fields.items y.fields.items h)
  inner_sound (Struct x) (Cont y) h = cc
  inner_sound (Cont x) (Func g) h = cc
  inner_sound (Cont x) (Array y) h = cc
  inner_sound (Cont x) (Struct y) h = cc
  inner_sound (Cont x) (Cont y) h = ap tree.continuation (indices.sound x.0 y.0 h)

  inner_complete : (x y : CompositeInnerType) → inner_of x ≡ inner_of y → inner.ghosts.eq x y ≡ true
  inner_complete (Func f) (Func g) e =
      both _ _ ((lists (values same_value)).complete f.params g.params cc) ((lists (values same_value)).complete f.results g.results cc)
  inner_complete (Func f) (Array y) e = cc
  inner_complete (Func f) (Struct y) e = cc
  inner_complete (Func f) (Cont y) e = cc
  inner_complete (Array x) (Func g) e = cc
  inner_complete (Array x) (Array y) e = field_complete x.0 y.0 cc
  inner_complete (Array x) (Struct y) e = cc
  inner_complete (Array x) (Cont y) e = cc
  inner_complete (Struct x) (Func g) e = cc
  inner_complete (Struct x) (Array y) e = cc
  inner_complete (Struct x) (Struct y) e = (lists fields).complete x.fields.items y.fields.items cc
  inner_complete (Struct x) (Cont y) e = cc
  inner_complete (Cont x) (Func g) e = cc
  inner_complete (Cont x) (Array y) e = cc
  inner_complete (Cont x) (Struct y) e = cc
  inner_complete (Cont x) (Cont y) e = indices.complete x.0 y.0 cc

  subtype_sound : (x y : SubType) → subtype.ghosts.eq x y ≡ true → declared_of x ≡ declared_of y
  subtype_sound x y h =
      let a = x.composite_type in
      let b = y.composite_type in
      let t1 = beq x.is_final y.is_final in
      let t2 = pointwise index.ghosts.eq x.supertype_idxs.items y.supertype_idxs.items in
      let t3 = inner.ghosts.eq a.inner b.inner in
      let t4 = beq a.shared b.shared in
      let t5 = option_eq index.ghosts.eq a.descriptor_idx b.descriptor_idx in
      let t6 = option_eq index.ghosts.eq a.describes_idx b.describes_idx in
      let r1 = second t1 (t2 && (t3 && (t4 && (t5 && t6)))) h in
      let r2 = second t2 (t3 && (t4 && (t5 && t6))) r1 in
      let r3 = second t3 (t4 && (t5 && t6)) r2 in
      let r4 = second t4 (t5 && t6) r3 in
      let e1 = flags.sound x.is_final y.is_final (first t1 (t2 && (t3 && (t4 && (t5 && t6)))) h) in
      let e2 = simp map_id at ((lists indices).sound x.supertype_idxs.items y.supertype_idxs.items (first t2 (t3 && (t4 && (t5 && t6))) r1)) in
      let e3 = inner_sound a.inner b.inner (first t3 (t4 && (t5 && t6)) r2) in
      let e4 = flags.sound a.shared b.shared (first t4 (t5 && t6) r3) in
      let e5 = simp option_id at ((options indices).sound a.descriptor_idx b.descriptor_idx (first t5 t6 r4)) in
      let e6 = simp option_id at ((options indices).sound a.describes_idx b.describes_idx (second t5 t6 r4)) in
      λ i. record {
        supertypes = e2 i;
        entry = record { is_final = e1 i; supertype = first_of (e2 i); shared = e4 i; descriptor = e5 i; describes = e6 i; inner = e3 i };
      }

  subtype_complete : (x y : SubType) → declared_of x ≡ declared_of y → subtype.ghosts.eq x y ≡ true
  subtype_complete x y e =
      let a = x.composite_type in
      let b = y.composite_type in
      let r : entry_of x ≡ entry_of y = ap (λ (d : Declared). d.entry) e in
      let e2 = (lists indices).complete x.supertype_idxs.items y.supertype_idxs.items (ap (λ (d : Declared). map (λ i. i) d.supertypes) e) in
      both _ _ (flags.complete x.is_final y.is_final (ap (λ (z : EntryOf UnpackedIndex). z.is_final) r))
      (both _ _ e2
      (both _ _ (inner_complete a.inner b.inner (ap (λ (z : EntryOf UnpackedIndex). z.inner) r))
      (both _ _ (flags.complete a.shared b.shared (ap (λ (z : EntryOf UnpackedIndex). z.shared) r))
      (both _ _ ((options indices).complete a.descriptor_idx b.descriptor_idx (ap (λ (z : EntryOf UnpackedIndex). option_map (λ i. i) z.descriptor) r))
      ((options indices).complete a.describes_idx b.describes_idx (ap (λ (z : EntryOf UnpackedIndex). option_map (λ i. i) z.describes) r))))))

  subtypes_tell : Tells subtype.ghosts.eq declared_of
  subtypes_tell = record { sound = subtype_sound; complete = subtype_complete }

  pub same_subtypes : (x y : SubType) → IsTrue (subtype.ghosts.eq x y) ↔ (declared_of x ≡ declared_of y)
  same_subtypes x y = (λ h. subtype_sound x y h, λ e. subtype_complete x y e)

  pub same_groups : (g h : RecGroup) → IsTrue (group.ghosts.eq g h) ↔ (declared_types g ≡ declared_types h)
  same_groups g h = (λ t. (lists subtypes_tell).sound g.types.items h.types.items t, λ e. (lists subtypes_tell).complete g.types.items h.types.items e)
