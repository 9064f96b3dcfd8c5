-- The rows of `Rows`, each by computing it.
use Rattle.std.proofs.Common.{refl}
use Rattle.std.specs.Fmt.{digits}
use Rattle.std.specs.Fmt.Cut.{floor_char_boundary}
use Rattle.wasm_types_decoding.specs.ErrorText.{cut_to}
use Rattle.wasm_types_decoding.specs.ErrorRows.{KindRows, TextRows}

pub kind_rows : KindRows
kind_rows = record {
  end_of_data = refl;
  missing_feature = λ f. refl;
  out_of_memory = refl;
  failed = refl;
  other = refl;
  hint = refl;
  no_hint = refl;
  feature = λ f. refl;
  no_feature = refl;
}

pub text_rows : TextRows
unfolding cut_to floor_char_boundary digits
text_rows = record { has_room = refl; has_none = refl; within_a_character = refl; behind_a_character = refl; text = refl; text_at_0 = refl }
