-- The worked bytes, each by computing it.
use Rattle.std.proofs.Common.{refl}
use Rattle.wasm_types_decoding.specs.Decoder.{repeated, within}
use Rattle.wasm_types_decoding.specs.Leb.{unsigned, signed, last_bits, listed}
use Rattle.wasm_types_decoding.specs.Lists.{size_within, listed_within}
use Rattle.wasm_types_decoding.specs.Text.{word, text_of, skipped, counted_within, any_name, sized}
use Rattle.wasm_types_decoding.specs.Rows.{UnsignedRows, SignedRows, ByteRows, WordRows, ListRows, NameRows, PartRows}

pub unsigned_rows : UnsignedRows
unfolding unsigned
unsigned_rows = record {
  one_byte = refl;
  padded = refl;
  padded_to_the_end = refl;
  largest = refl;
  too_large = refl;
  too_long = refl;
  cut_short =
      refl;
  none = refl;
  middle_64 = refl;
  largest_64 = refl;
  too_large_64 = refl;
  cut_short_64 = refl;
}

pub signed_rows : SignedRows
unfolding signed last_bits
signed_rows = record {
  one_byte = refl;
  one_byte_negative = refl;
  two_bytes_negative = refl;
  padded = refl;
  least = refl;
  largest = refl;
  too_small =
      refl;
  too_large = refl;
  too_long = refl;
  cut_short = refl;
  largest_33 = refl;
  least_33 = refl;
  too_large_33 = refl;
  least_64 = refl;
  largest_64 =
      refl;
  too_large_64 = refl;
}

pub byte_rows : ByteRows
byte_rows = record {
  first = refl;
  none = refl;
  some = refl;
  too_few = refl;
  looked_at = refl;
  nothing_to_look_at = refl;
  chosen = refl;
  not_chosen =
      refl;
  chosen_first = refl;
  chosen_else = refl;
}

pub word_rows : WordRows
unfolding word
word_rows = record { four = refl; too_few = refl; eight = refl; one_too_few = refl }

pub list_rows : ListRows
unfolding repeated unsigned listed size_within listed_within
list_rows = record { two = refl; one_of_two = refl; counted = refl; counted_too_few = refl; at_the_limit = refl; over_the_limit = refl; within_the_limit = refl; too_many = refl }

pub name_rows : NameRows
unfolding unsigned counted_within text_of skipped any_name
name_rows = record {
  euro = λ e. rw e refl;
  overlong = λ e. rw e refl;
  too_few = refl;
  longest = refl;
  too_long = refl;
  any = λ e. rw e refl;
  any_malformed = λ e. rw e refl;
  any_length = refl;
  limited = λ e. rw e refl;
  limited_too_long = refl;
  skipped = refl;
  skipped_too_long = refl;
}

pub part_rows : PartRows
unfolding unsigned within sized
part_rows = record { whole = refl; early = refl; late = refl; cut_short = refl; sized_whole = refl; sized_late = refl; sized_early = refl }
