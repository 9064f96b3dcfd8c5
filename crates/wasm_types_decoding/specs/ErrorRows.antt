-- Errors worked by hand: kinds by their numbers, what only some kinds have, messages cut to their room, and the text.
use Rattle.std.specs.Prelude.{◌≡◌, [], ◌∷◌, codes, Some, None}
use Rattle.wasm_types_settings.specs.declared.WasmFeatures.{WasmFeatures}
use Rattle.wasm_types_decoding.specs.declared.error.ErrorKind.TheVariants.{EndOfData, MissingFeature, OutOfMemory, Failed, Other}
use Rattle.wasm_types_decoding.specs.ErrorText.{cut_to, kind_number, hint_of, feature_of, shown}

pub record KindRows : Type 0 where
  pub end_of_data : kind_number (EndOfData 7) ≡ 1
  pub missing_feature : (f : WasmFeatures) → kind_number (MissingFeature f) ≡ 2
  pub out_of_memory : kind_number OutOfMemory ≡ 3
  pub failed : kind_number Failed ≡ 4
  pub other : kind_number Other ≡ 5
  pub hint : hint_of (EndOfData 7) ≡ Some 7
  pub no_hint : hint_of Other ≡ None
  pub feature : (f : WasmFeatures) → feature_of (MissingFeature f) ≡ Some f
  pub no_feature : feature_of (EndOfData 7) ≡ None

-- a text that has room, one that has not, and one whose cut would be within its last character
pub record TextRows : Type 0 where
  pub has_room : cut_to 4 (codes "abcd") ≡ codes "abcd"
  pub has_none : cut_to 3 (codes "abcd") ≡ codes "abc"
  pub within_a_character : cut_to 2 (0x61 ∷ 0xc3 ∷ 0xa9 ∷ []) ≡ 0x61 ∷ []
  pub behind_a_character : cut_to 3 (0x61 ∷ 0xc3 ∷ 0xa9 ∷ 0x62 ∷ []) ≡ 0x61 ∷ 0xc3 ∷ 0xa9 ∷ []
  pub text : shown (codes "unknown section") 0x2af ≡ codes "unknown section (at offset 0x2af)"
  pub text_at_0 : shown [] 0 ≡ codes " (at offset 0x0)"
