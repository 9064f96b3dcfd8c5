-- What types are and how they are written, each row by computing it.
use Rattle.std.proofs.Common.{refl}
use Rattle.wasm_types_tests.specs.Kinds.{KindRows, OrderRows, WordRows}

pub kind_rows : KindRows
kind_rows = record {
  references = refl;
  referred = refl;
  with_default = refl;
  null_by_default = refl;
  packed = refl;
  unpacked = refl;
  by_an_index = refl;
  exactly = refl;
  the_index = refl;
  shared = refl;
  not_shared = refl;
  of_a_function = λ f. (refl, refl, refl, refl);
  of_an_array = λ a. (refl, refl, refl, refl);
  of_a_struct = λ s. (refl, refl, refl, refl);
  of_a_continuation = λ c. (refl, refl, refl, refl);
}

pub order_rows : OrderRows
order_rows = record { same = refl; by_class = refl; by_null = refl; by_sharing = refl; by_type = refl; by_kind = refl; by_index = refl }

pub word_rows : WordRows
word_rows = record { names = refl; short_names = refl; shared = refl; any_index = refl; any_null_index = refl; values = refl; stored = refl }
