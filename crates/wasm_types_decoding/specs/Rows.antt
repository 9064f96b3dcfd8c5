-- Worked bytes: what each decoder answers, by hand. A changed decoder breaks a row.
use Rattle.std.specs.Prelude.{◌≡◌, ℕ, ◌+◌, pos, negsuc, List, [], ◌∷◌, true, false}
use Rattle.std.specs.Str.{is_utf8}
use Rattle.wasm_types_settings.specs.Limits.{default_limits}
use Rattle.wasm_types_settings.specs.Settings.{Settings}
use Rattle.wasm_types_decoding.specs.declared.Refusal.TheVariants.{MissingFeature, Other}
use Rattle.wasm_types_decoding.specs.Decoder.{State, Done, Short, Fault, pure, refuse, byte, bytes, repeated, choice, choice_or, within, look}
use Rattle.wasm_types_decoding.specs.Leb.{u32, u64, s32, s33, s64, listed}
use Rattle.wasm_types_decoding.specs.Lists.{size_within, listed_within}
use Rattle.wasm_types_decoding.specs.Text.{word, any_name, name, skipped_name, sized}

-- two features, and names of one byte
abbrev pub worked : Settings
worked = record { features = 3; limits = record default_limits { string_bytes = 1 } }

-- a reader that stands at offset 7 of its input, before these bytes
abbrev pub start_of : List ℕ → State
start_of text = record { rest = text; place = 7; settings = worked; start = 5 }

-- the same reader behind so many bytes, before those that are left
abbrev pub behind : ℕ → List ℕ → State
behind n text = record { rest = text; place = 7 + n; settings = worked; start = 5 }

-- numbers without a sign: one byte, the largest, padded to all bytes, one too large, too long, cut short
pub record UnsignedRows : Type 0 where
  pub one_byte : u32 (start_of (0x7f ∷ 0x01 ∷ [])) ≡ Done 127 (behind 1 (0x01 ∷ []))
  pub padded : u32 (start_of (0x80 ∷ 0x00 ∷ [])) ≡ Done 0 (behind 2 [])
  pub padded_to_the_end : u32 (start_of (0x81 ∷ 0x80 ∷ 0x80 ∷ 0x80 ∷ 0x00 ∷ 0x2a ∷ [])) ≡ Done 1 (behind 5 (0x2a ∷ []))
  pub largest : u32 (start_of (0xff ∷ 0xff ∷ 0xff ∷ 0xff ∷ 0x0f ∷ [])) ≡ Done 4294967295 (behind 5 [])
  pub too_large : u32 (start_of (0xff ∷ 0xff ∷ 0xff ∷ 0xff ∷ 0x10 ∷ [])) ≡ Fault Other 11
  pub too_long : u32 (start_of (0x80 ∷ 0x80 ∷ 0x80 ∷ 0x80 ∷ 0x80 ∷ 0x00 ∷ [])) ≡ Fault Other 11
  pub cut_short : u32 (start_of (0x80 ∷ [])) ≡ Short 8 1
  pub none : u32 (start_of []) ≡ Short 7 1
  pub middle_64 : u64 (start_of (0xe5 ∷ 0x8e ∷ 0x26 ∷ [])) ≡ Done 624485 (behind 3 [])
  pub largest_64 : u64 (start_of (0xff ∷ 0xff ∷ 0xff ∷ 0xff ∷ 0xff ∷ 0xff ∷ 0xff ∷ 0xff ∷ 0xff ∷ 0x01 ∷ [])) ≡ Done 18446744073709551615 (behind 10 [])
  pub too_large_64 : u64 (start_of (0xff ∷ 0xff ∷ 0xff ∷ 0xff ∷ 0xff ∷ 0xff ∷ 0xff ∷ 0xff ∷ 0xff ∷ 0x02 ∷ [])) ≡ Fault Other 16
  pub cut_short_64 : u64 (start_of (0x80 ∷ 0x80 ∷ 0x80 ∷ 0x80 ∷ 0x80 ∷ 0x80 ∷ 0x80 ∷ 0x80 ∷ 0x80 ∷ [])) ≡ Short 16 1

-- numbers with a sign: both signs in one byte, the least and the largest, padded, one beyond each, too long, cut short
pub record SignedRows : Type 0 where
  pub one_byte : s32 (start_of (0x3f ∷ [])) ≡ Done (pos 63) (behind 1 [])
  pub one_byte_negative : s32 (start_of (0x40 ∷ 0x05 ∷ [])) ≡ Done (negsuc 63) (behind 1 (0x05 ∷ []))
  pub two_bytes_negative : s32 (start_of (0xc0 ∷ 0xbb ∷ 0x78 ∷ [])) ≡ Done (negsuc 123455) (behind 3 [])
  pub padded : s32 (start_of (0xff ∷ 0xff ∷ 0xff ∷ 0xff ∷ 0x7f ∷ [])) ≡ Done (negsuc 0) (behind 5 [])
  pub least : s32 (start_of (0x80 ∷ 0x80 ∷ 0x80 ∷ 0x80 ∷ 0x78 ∷ [])) ≡ Done (negsuc 2147483647) (behind 5 [])
  pub largest : s32 (start_of (0xff ∷ 0xff ∷ 0xff ∷ 0xff ∷ 0x07 ∷ [])) ≡ Done (pos 2147483647) (behind 5 [])
  pub too_small : s32 (start_of (0xff ∷ 0xff ∷ 0xff ∷ 0xff ∷ 0x77 ∷ [])) ≡ Fault Other 11
  pub too_large : s32 (start_of (0x80 ∷ 0x80 ∷ 0x80 ∷ 0x80 ∷ 0x08 ∷ [])) ≡ Fault Other 11
  pub too_long : s32 (start_of (0x80 ∷ 0x80 ∷ 0x80 ∷ 0x80 ∷ 0x80 ∷ 0x00 ∷ [])) ≡ Fault Other 11
  pub cut_short : s32 (start_of (0x80 ∷ 0x80 ∷ [])) ≡ Short 9 1
  pub largest_33 : s33 (start_of (0xff ∷ 0xff ∷ 0xff ∷ 0xff ∷ 0x0f ∷ [])) ≡ Done (pos 4294967295) (behind 5 [])
  pub least_33 : s33 (start_of (0x80 ∷ 0x80 ∷ 0x80 ∷ 0x80 ∷ 0x70 ∷ [])) ≡ Done (negsuc 4294967295) (behind 5 [])
  pub too_large_33 : s33 (start_of (0x80 ∷ 0x80 ∷ 0x80 ∷ 0x80 ∷ 0x10 ∷ [])) ≡ Fault Other 11
  pub least_64 : s64 (start_of (0x80 ∷ 0x80 ∷ 0x80 ∷ 0x80 ∷ 0x80 ∷ 0x80 ∷ 0x80 ∷ 0x80 ∷ 0x80 ∷ 0x7f ∷ [])) ≡ Done (negsuc 9223372036854775807) (behind 10 [])
  pub largest_64 : s64 (start_of (0xff ∷ 0xff ∷ 0xff ∷ 0xff ∷ 0xff ∷ 0xff ∷ 0xff ∷ 0xff ∷ 0xff ∷ 0x00 ∷ [])) ≡ Done (pos 9223372036854775807) (behind 10 [])
  pub too_large_64 : s64 (start_of (0x80 ∷ 0x80 ∷ 0x80 ∷ 0x80 ∷ 0x80 ∷ 0x80 ∷ 0x80 ∷ 0x80 ∷ 0x80 ∷ 0x01 ∷ [])) ≡ Fault Other 16

-- bytes as they stand, looked at and chosen by
pub record ByteRows : Type 0 where
  pub first : byte (start_of (0x05 ∷ 0x06 ∷ [])) ≡ Done 5 (behind 1 (0x06 ∷ []))
  pub none : byte (start_of []) ≡ Short 7 1
  pub some : bytes 2 (start_of (0x05 ∷ 0x06 ∷ 0x07 ∷ [])) ≡ Done (0x05 ∷ 0x06 ∷ []) (behind 2 (0x07 ∷ []))
  pub too_few : bytes 5 (start_of (0x05 ∷ 0x06 ∷ [])) ≡ Short 7 3
  pub looked_at : look pure (start_of (0x05 ∷ [])) ≡ Done 5 (behind 0 (0x05 ∷ []))
  pub nothing_to_look_at : look {A = ℕ} pure (start_of []) ≡ Short 7 1
  pub chosen : choice {A = ℕ} ((1, pure 10) ∷ (2, pure 20) ∷ []) (refuse Other 1) 2 (behind 1 []) ≡ Done 20 (behind 1 [])
  pub not_chosen : choice {A = ℕ} ((1, pure 10) ∷ (2, pure 20) ∷ []) (refuse Other 1) 3 (behind 1 []) ≡ Fault Other 7
  pub chosen_first : choice_or {A = ℕ} ((1, pure 10) ∷ []) pure 1 (behind 1 []) ≡ Done 10 (behind 1 [])
  pub chosen_else : choice_or {A = ℕ} ((1, pure 10) ∷ []) pure 2 (behind 1 []) ≡ Done 2 (behind 1 [])

-- words, the lowest byte first
pub record WordRows : Type 0 where
  pub four : word 4 (start_of (0x78 ∷ 0x56 ∷ 0x34 ∷ 0x12 ∷ 0x09 ∷ [])) ≡ Done 0x12345678 (behind 4 (0x09 ∷ []))
  pub too_few : word 4 (start_of (0x78 ∷ 0x56 ∷ [])) ≡ Short 7 2
  pub eight : word 8 (start_of (0xef ∷ 0xcd ∷ 0xab ∷ 0x89 ∷ 0x67 ∷ 0x45 ∷ 0x23 ∷ 0x01 ∷ [])) ≡ Done 0x0123456789abcdef (behind 8 [])
  pub one_too_few : word 8 (start_of (0x01 ∷ 0x02 ∷ 0x03 ∷ 0x04 ∷ 0x05 ∷ 0x06 ∷ 0x07 ∷ [])) ≡ Short 7 1

-- sizes with a limit, and lists of bytes
pub record ListRows : Type 0 where
  pub two : repeated 2 byte (start_of (0x05 ∷ 0x06 ∷ 0x07 ∷ [])) ≡ Done (0x05 ∷ 0x06 ∷ []) (behind 2 (0x07 ∷ []))
  pub one_of_two : repeated 2 byte (start_of (0x05 ∷ [])) ≡ Short 8 1
  pub counted : listed byte (start_of (0x02 ∷ 0x05 ∷ 0x06 ∷ 0x07 ∷ [])) ≡ Done (0x05 ∷ 0x06 ∷ []) (behind 3 (0x07 ∷ []))
  pub counted_too_few : listed byte (start_of (0x02 ∷ 0x05 ∷ [])) ≡ Short 9 1
  pub at_the_limit : size_within 10 (start_of (0x0a ∷ [])) ≡ Done 10 (behind 1 [])
  pub over_the_limit : size_within 10 (start_of (0x8b ∷ 0x00 ∷ [])) ≡ Fault Other 7
  pub within_the_limit : listed_within 2 byte (start_of (0x02 ∷ 0x05 ∷ 0x06 ∷ [])) ≡ Done (0x05 ∷ 0x06 ∷ []) (behind 3 [])
  pub too_many : listed_within 1 byte (start_of (0x02 ∷ 0x05 ∷ 0x06 ∷ [])) ≡ Fault Other 7

-- names: a count of bytes and the bytes, where those are UTF-8
pub record NameRows : Type 0 where
  pub euro : is_utf8 (0xe2 ∷ 0x82 ∷ 0xac ∷ []) ≡ true → name 100000 (start_of (0x03 ∷ 0xe2 ∷ 0x82 ∷ 0xac ∷ 0x0b ∷ [])) ≡ Done (0xe2 ∷ 0x82 ∷ 0xac ∷ []) (behind 4 (0x0b ∷ []))
  pub overlong : is_utf8 (0xc0 ∷ 0x80 ∷ []) ≡ false → name 100000 (start_of (0x02 ∷ 0xc0 ∷ 0x80 ∷ [])) ≡ Fault Other 9
  pub too_few : name 100000 (start_of (0x03 ∷ 0x61 ∷ [])) ≡ Short 8 2
  pub longest : name 100000 (start_of (0xa0 ∷ 0x8d ∷ 0x06 ∷ [])) ≡ Short 10 100000
  pub too_long : name 100000 (start_of (0xa1 ∷ 0x8d ∷ 0x06 ∷ [])) ≡ Fault Other 9
  pub any : is_utf8 (0x61 ∷ []) ≡ true → any_name (start_of (0x01 ∷ 0x61 ∷ [])) ≡ Done (0x61 ∷ []) (behind 2 [])
  pub any_malformed : is_utf8 (0x80 ∷ []) ≡ false → any_name (start_of (0x01 ∷ 0x80 ∷ [])) ≡ Fault Other 8
  pub any_length : any_name (start_of (0xa1 ∷ 0x8d ∷ 0x06 ∷ [])) ≡ Short 10 100001
  pub limited : is_utf8 (0x61 ∷ []) ≡ true → name worked.limits.string_bytes (start_of (0x01 ∷ 0x61 ∷ [])) ≡ Done (0x61 ∷ []) (behind 2 [])
  pub limited_too_long : name worked.limits.string_bytes (start_of (0x02 ∷ 0x61 ∷ 0x61 ∷ [])) ≡ Fault Other 7
  pub skipped : skipped_name 100000 (start_of (0x02 ∷ 0xc0 ∷ 0x80 ∷ 0x0b ∷ [])) ≡ Done tt (behind 3 (0x0b ∷ []))
  pub skipped_too_long : skipped_name 100000 (start_of (0xa1 ∷ 0x8d ∷ 0x06 ∷ [])) ≡ Fault Other 9

-- parts of so many bytes: read to their end, ended too early, with bytes left, cut short
pub record PartRows : Type 0 where
  pub whole : within (MissingFeature 1) Other 1 byte (start_of (0x05 ∷ 0x06 ∷ [])) ≡ Done 5 (behind 1 (0x06 ∷ []))
  pub early : within (MissingFeature 1) Other 0 byte (start_of (0x05 ∷ [])) ≡ Fault (MissingFeature 1) 7
  pub late : within (MissingFeature 1) Other 2 byte (start_of (0x05 ∷ 0x06 ∷ [])) ≡ Fault Other 8
  pub cut_short : within (MissingFeature 1) Other 2 byte (start_of (0x05 ∷ [])) ≡ Short 7 1
  pub sized_whole : sized (MissingFeature 1) Other byte (start_of (0x01 ∷ 0x05 ∷ [])) ≡ Done 5 (behind 2 [])
  pub sized_late : sized (MissingFeature 1) Other byte (start_of (0x02 ∷ 0x05 ∷ 0x06 ∷ [])) ≡ Fault Other 9
  pub sized_early : sized (MissingFeature 1) Other byte (start_of (0x00 ∷ 0x05 ∷ [])) ≡ Fault (MissingFeature 1) 8
