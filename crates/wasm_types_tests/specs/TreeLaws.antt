-- Types as trees and as bits, each row by computing it.
use Rattle.std.proofs.Common.{◌≡◌, ℕ, List, refl, ap, arith, map}
use Rattle.wasm_types.specs.trees.Types as tree
use Rattle.wasm_types.specs.fields.declared.field.FieldType.{FieldType}
use Rattle.wasm_types.specs.fields.Fields.{field_of}
use Rattle.wasm_types_tests.specs.Trees.{TreeRows, BitRows}

pub tree_rows : TreeRows
tree_rows = record {
  abstracts = refl;
  shared = refl;
  not_shared = refl;
  by_index = refl;
  exactly = refl;
  numbers = refl;
  nullable = refl;
  not_nullable = refl;
  stored = refl;
  written = refl;
  not_written = refl;
  array = refl;
  struct = λ s e. ap (λ (xs : List FieldType). tree.struct_of (map field_of xs)) e;
  function = refl;
  continuation = refl;
}

pub bit_rows : BitRows
bit_rows = record {
  codes = refl;
  null = refl;
  shared = refl;
  by_index = refl;
  of_group = refl;
  exactly = refl;
  codes_again = refl;
  null_again = refl;
  shared_again = refl;
  by_index_again = refl;
  exactly_again = refl;
  are_bits = record { fits = tt; same = refl };
  no_type = λ h. let e : ◌≡◌ {A = ℕ} 0 6 = h.same in cc;
  no_index = λ h. let e = h.fits in omega (arith, e);
  equal = refl;
  other_null = refl;
  other_type = refl;
  other_sharing = refl;
  other_index = refl;
  other_kind = refl;
  other_class = refl;
  constants = refl;
  constants_without_null = refl;
}
