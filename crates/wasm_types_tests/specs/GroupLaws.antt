-- Composite types, subtypes and groups, each row by computing it from the parts of its type.
use Rattle.std.proofs.Common.{List, refl, ap, map}
use Rattle.wasm_types.specs.trees.Types as tree
use Rattle.wasm_types.specs.fields.declared.field.FieldType.{FieldType}
use Rattle.wasm_types.specs.fields.Fields.{field_of}
use Rattle.wasm_types.specs.declared.sub_type.SubType.{SubType}
use Rattle.wasm_types.specs.Entries.{declared_of}
use Rattle.wasm_types_tests.specs.Groups.{DeclaredRows, ValueRows, CopyRows, TextRows}

pub declared_rows : DeclaredRows
declared_rows = record {
  function = refl;
  array = refl;
  struct = λ s e. ap (λ (xs : List FieldType). tree.struct_of (map field_of xs)) e;
  continuation = refl;
  alone = refl;
  below_another = λ t h. rw (h.final_is, h.supertypes_are, h.composite_is) refl;
  below_none = λ t h. rw (h.final_is, h.supertypes_are, h.composite_is) refl;
  in_order = λ g t u e. (e, ap (λ (ts : List SubType). map declared_of ts) e);
}

pub value_rows : ValueRows
value_rows = record {
  function = refl;
  array = refl;
  struct = λ s e. rw e refl;
  continuation = refl;
  subtype = λ t h. rw (h.final_is, h.supertypes_are, h.composite_is) refl;
  group = λ g t u e f. rw (e, f) refl;
}

pub copy_rows : CopyRows
copy_rows = record {
  of_none = λ g h e f o x. record { types = rw (e, f) tt; offsets = o; explicit = x };
  of_fewer = λ g h t e f c. let z = c.types in let z' = rw (e, f) at z in z';
  of_other_offsets = λ g h e f c. let z = c.offsets in cc;
  of_another_form = λ g h e f c. let z = c.explicit in cc;
}

pub text_rows : TextRows
text_rows = record {
  alone = refl;
  shared = refl;
  described = refl;
  final = λ t h. rw (h.final_is, h.supertypes_are, h.composite_is) refl;
  not_final = λ t h. rw (h.final_is, h.supertypes_are, h.composite_is) refl;
  final_below_another = λ t h. rw (h.final_is, h.supertypes_are, h.composite_is) refl;
  below_another = λ t h. rw (h.final_is, h.supertypes_are, h.composite_is) refl;
}
