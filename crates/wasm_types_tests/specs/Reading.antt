-- What contracts of readers promise, worked by hand: which errors tell of which outcomes, where a reader stands then, numbers at
-- an offset, messages, and values that follow one another.
use Rattle.std.specs.Prelude.{◌≡◌, ℕ, [], ◌∷◌, codes, true, false, Ok, Err, Some, None}
use Rattle.wasm_types.specs.decoding.declared.Refusal.TheVariants as refusals
use Rattle.wasm_types.specs.decoding.Decoder.{Done, Short, Fault, byte, Reaches, IsBeyond}
use Rattle.wasm_types.specs.decoding.Leb.{u32}
use Rattle.wasm_types.specs.decoding.Rows.{start_of, behind}
use Rattle.wasm_types.specs.settings.Settings.{no_features}
use Rattle.wasm_types.specs.decoding.declared.error.ErrorKind.TheVariants.{EndOfData, MissingFeature, OutOfMemory}
use Rattle.wasm_types.specs.decoding.ErrorValue.{ErrorValue}
use Rattle.wasm_types.specs.decoding.ErrorText.{IsWrittenMessage}
use Rattle.wasm_types.specs.decoding.Numbers.{IsRefused, GivesAt}
use Rattle.wasm_types.specs.reader.Reading.{Gives, Answers, Collects, NextItem, NeedsNoMemory}
use Rattle.wasm_types.specs.reader.Draining.{Drains}
use Rattle.wasm_types.specs.reader.Messages.{is_whole, is_whole_within, SaysIf}

-- the end of the data at offset 7, where a byte more is needed; the lack of vectors, 0x40, there; out of memory
abbrev pub ended : ErrorValue
ended = record { kind = EndOfData 1; offset = 7; message = codes "unexpected end-of-file" }

abbrev pub without_vectors : ErrorValue
without_vectors = record { kind = MissingFeature (record { 0 = 0x40 }); offset = 7; message = codes "vectors" }

abbrev pub no_memory : ErrorValue
no_memory = record { kind = OutOfMemory; offset = 0; message = codes "out of memory" }

-- where a reader may stand later: here, or further on in the same bytes, under the same settings
pub record ReachedRows : Type 0 where
  pub here : Reaches (start_of (0x61 ∷ [])) (start_of (0x61 ∷ []))
  pub further : Reaches (start_of (0x61 ∷ 0x62 ∷ [])) (behind 1 (0x62 ∷ []))
  pub back : Reaches (behind 1 (0x62 ∷ [])) (start_of (0x61 ∷ 0x62 ∷ [])) → ⊥
  pub at_another_offset : Reaches (start_of (0x61 ∷ 0x62 ∷ [])) (behind 2 (0x62 ∷ [])) → ⊥
  pub in_other_bytes : Reaches (start_of (0x61 ∷ 0x62 ∷ [])) (behind 1 (0x63 ∷ [])) → ⊥
  pub under_other_settings : Reaches (start_of (0x61 ∷ [])) (record { rest = 0x61 ∷ []; place = 7; settings = no_features; start = 5 }) → ⊥
  pub from_another_start : Reaches (start_of (0x61 ∷ [])) (record { rest = 0x61 ∷ []; place = 7; settings = (start_of []).settings; start = 6 }) → ⊥
  pub beyond : IsBeyond {A = ℕ} 7 (Done 5 (behind 1 []))
  pub not_beyond : IsBeyond {A = ℕ} 7 (Done 5 (start_of [])) → ⊥
  pub still_short : IsBeyond {A = ℕ} 7 (Short 7 1) → ⊥
  pub short_further_on : IsBeyond {A = ℕ} 7 (Short 8 1)

-- what a call returned is the outcome: a value with where the reader stands, or why there is none
pub record GivenRows : Type 0 where
  pub value : Gives (λ n. n) (Ok 5) (behind 1 []) (byte (start_of (0x05 ∷ [])))
  pub another_value : Gives (λ n. n) (Ok 6) (behind 1 []) (byte (start_of (0x05 ∷ []))) → ⊥
  pub elsewhere : Gives (λ n. n) (Ok 5) (start_of (0x05 ∷ [])) (byte (start_of (0x05 ∷ []))) → ⊥
  pub value_for_none : Gives (λ n. n) (Ok 5) (start_of []) (byte (start_of [])) → ⊥
  pub refused : Gives {X = ℕ} (λ n. n) (Err ended) (behind 1 []) (byte (start_of []))
  pub refused_for_nothing : Gives {X = ℕ} (λ n. n) (Err ended) (start_of []) (byte (start_of (0x05 ∷ []))) → ⊥
  pub out_of_memory : Gives {X = ℕ} (λ n. n) (Err no_memory) (start_of []) (byte (start_of (0x05 ∷ [])))
  pub feature : Gives {X = ℕ} {Y = ℕ} (λ n. n) (Err without_vectors) (start_of []) (Fault (refusals.MissingFeature 0x40) 7)
  pub another_feature : Gives {X = ℕ} {Y = ℕ} (λ n. n) (Err without_vectors) (start_of []) (Fault (refusals.MissingFeature 0x80) 7) → ⊥
  pub fault_for_a_feature : Gives {X = ℕ} {Y = ℕ} (λ n. n) (Err without_vectors) (start_of []) (Fault refusals.Other 7) → ⊥
  pub refused_and_stayed : Answers {X = ℕ} (λ n. n) (Err ended) (start_of []) (start_of []) (byte (start_of []))
  pub refused_and_gone_on : Answers {X = ℕ} (λ n. n) (Err ended) (start_of []) (behind 1 []) (byte (start_of [])) → ⊥
  pub collected : Collects (λ n. n) (Ok 5) (byte (start_of (0x05 ∷ [])))
  pub collected_another : Collects (λ n. n) (Ok 6) (byte (start_of (0x05 ∷ []))) → ⊥
  pub not_collected : Collects {X = ℕ} (λ n. n) (Err ended) (byte (start_of []))
  pub not_collected_for_nothing : Collects {X = ℕ} (λ n. n) (Err ended) (byte (start_of (0x05 ∷ []))) → ⊥
  pub needs_none : NeedsNoMemory {X = ℕ} (Err ended)
  pub needs_some : NeedsNoMemory {X = ℕ} (Err no_memory) → ⊥

-- what is read at an offset of a slice, wherever that stands, and what is not read
pub record OffsetRows : Type 0 where
  pub second_byte : GivesAt byte (0x61 ∷ 0x62 ∷ 0x63 ∷ []) 1 0x62 2
  pub another_byte : GivesAt byte (0x61 ∷ 0x62 ∷ 0x63 ∷ []) 1 0x61 2 → ⊥
  pub ends_too_late : GivesAt byte (0x61 ∷ 0x62 ∷ 0x63 ∷ []) 1 0x62 3 → ⊥
  pub none_is_left : (b : ℕ) → GivesAt byte (0x61 ∷ []) 1 b 2 → ⊥
  pub not_refused : IsRefused (byte (start_of (0x05 ∷ []))) → ⊥
  pub at_the_end : IsRefused (byte (start_of []))
  pub faulty : IsRefused (u32 (start_of (0xff ∷ 0xff ∷ 0xff ∷ 0xff ∷ 0x10 ∷ [])))

-- which messages are promised, and where
pub record SaidRows : Type 0 where
  pub written : IsWrittenMessage (codes "size is out of bounds") (codes "size is out of bounds")
  pub given_up : IsWrittenMessage (codes "size is out of bounds") []
  pub another : IsWrittenMessage (codes "size is out of bounds") (codes "size") → ⊥
  pub nothing_of_a_value : SaysIf {X = ℕ} true (λ m. ⊥) (Ok 5)
  pub nothing_elsewhere : SaysIf {X = ℕ} false (λ m. ⊥) (Err ended)
  pub whole_within : is_whole_within 1 (u32 (start_of (0x01 ∷ 0xff ∷ []))) ≡ true
  pub cut_short_within : is_whole_within 2 (u32 (start_of (0x02 ∷ 0xff ∷ []))) ≡ false
  pub no_count : is_whole (u32 (start_of [])) ≡ false

-- the next of some values: each counts, an error is the last, and leaves the reader
pub record NextRows : Type 0 where
  pub last : NextItem (λ n. n) byte 1 (start_of (0x05 ∷ [])) (Some (Ok 5)) 0 (behind 1 [])
  pub not_counted : NextItem (λ n. n) byte 2 (start_of (0x05 ∷ 0x06 ∷ [])) (Some (Ok 5)) 2 (behind 1 (0x06 ∷ [])) → ⊥
  pub one_too_many : NextItem (λ n. n) byte 0 (start_of (0x05 ∷ [])) (Some (Ok 5)) 0 (behind 1 []) → ⊥
  pub another_value : NextItem (λ n. n) byte 1 (start_of (0x05 ∷ [])) (Some (Ok 6)) 0 (behind 1 []) → ⊥
  pub refused : NextItem {X = ℕ} (λ n. n) byte 2 (start_of []) (Some (Err ended)) 0 (start_of [])
  pub goes_on_behind_an_error : NextItem {X = ℕ} (λ n. n) byte 2 (start_of []) (Some (Err ended)) 1 (start_of []) → ⊥
  pub refused_and_gone_on : NextItem {X = ℕ} (λ n. n) byte 2 (start_of []) (Some (Err ended)) 0 (behind 1 []) → ⊥
  pub error_behind_the_last : NextItem {X = ℕ} (λ n. n) byte 0 (start_of []) (Some (Err ended)) 0 (start_of []) → ⊥
  pub none_and_gone_on : NextItem {X = ℕ} (λ n. n) byte 0 (start_of (0x05 ∷ [])) None 0 (behind 1 []) → ⊥
  pub drained_none : Drains byte false 0 (start_of (0x05 ∷ [])) (start_of (0x05 ∷ []))
  pub drained_of_none : Drains byte false 0 (start_of (0x05 ∷ [])) (behind 1 []) → ⊥
  pub out_of_memory : Drains byte true 1 (start_of (0x05 ∷ [])) (start_of (0x05 ∷ []))
