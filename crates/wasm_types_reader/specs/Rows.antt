-- Readings worked by hand: bytes below 128, parts, what an answer tells of an outcome, values one by one, values that
-- nobody wants, and which lists take memory and which message a refusal has.
use Rattle.std.specs.Prelude.{◌≡◌, ℕ, [], ◌∷◌, codes, true, false, Ok, Err, Some, None}
use Rattle.wasm_types_decoding.specs.declared.Refusal.TheVariants as refusals
use Rattle.wasm_types_decoding.specs.Decoder.{Done, Short, Fault, byte}
use Rattle.wasm_types_decoding.specs.Rows.{start_of, behind, worked}
use Rattle.wasm_types_decoding.specs.declared.error.ErrorKind.TheVariants.{EndOfData, OutOfMemory, Failed, Other}
use Rattle.wasm_types_decoding.specs.ErrorValue.{ErrorValue}
use Rattle.wasm_types_reader.specs.Reading.{Answers, NextItem, MemoryOnlyIf, takes_room, counted_room}
use Rattle.wasm_types_reader.specs.Messages.{is_above, is_whole, is_whole_within, SaysIf}
use Rattle.wasm_types_decoding.specs.Leb.{u32}
use Rattle.wasm_types_decoding.specs.Lists.{size_within}
use Rattle.wasm_types_reader.specs.Draining.{Drains}
use Rattle.wasm_types_reader.specs.Parts.{counted_part, IsPassed}
use Rattle.wasm_types_reader.specs.Words.{u7}

-- the end of the data at offset 7 where 3 bytes more are needed, a fault there, and out of memory
abbrev pub ended : ErrorValue
ended = record { kind = EndOfData 3; offset = 7; message = codes "unexpected end-of-file" }

abbrev pub faulty : ErrorValue
faulty = record { kind = Other; offset = 7; message = codes "invalid" }

abbrev pub no_memory : ErrorValue
no_memory = record { kind = OutOfMemory; offset = 0; message = codes "out of memory" }

abbrev pub failed : ErrorValue
failed = record { kind = Failed; offset = 7; message = codes "failed" }

-- a byte below 128, one that is not, and none; a part, one that is cut short, and none counted
pub record PartRows : Type 0 where
  pub small : u7 (start_of (0x7f ∷ 0x01 ∷ [])) ≡ Done 127 (behind 1 (0x01 ∷ []))
  pub large : u7 (start_of (0x80 ∷ [])) ≡ Fault refusals.Other 7
  pub none : u7 (start_of []) ≡ Short 7 1
  pub part : counted_part (start_of (0x02 ∷ 0x61 ∷ 0x62 ∷ 0x01 ∷ [])) ≡ Done (record { rest = 0x61 ∷ 0x62 ∷ []; place = 8; settings = worked; start = 8 }) (behind 3 (0x01 ∷ []))
  pub cut_short : counted_part (start_of (0x03 ∷ 0x61 ∷ [])) ≡ Short 8 2
  pub no_count : counted_part (start_of (0x80 ∷ [])) ≡ Short 8 1
  pub passed : IsPassed (start_of (0x61 ∷ 0x62 ∷ [])) (behind 1 (0x62 ∷ [])) (record { rest = 0x61 ∷ []; place = 7; settings = worked; start = 7 })
  pub passed_too_much : IsPassed (start_of (0x61 ∷ 0x62 ∷ [])) (behind 1 (0x62 ∷ [])) (record { rest = 0x61 ∷ 0x62 ∷ []; place = 7; settings = worked; start = 7 }) → ⊥

-- what an answer tells: the value and where the reader stands, or why it is refused, and then the reader stays
pub record AnswerRows : Type 0 where
  pub value : Answers (λ n. n) (Ok 5) (start_of (0x05 ∷ [])) (behind 1 []) (byte (start_of (0x05 ∷ [])))
  pub another_value : Answers (λ n. n) (Ok 6) (start_of (0x05 ∷ [])) (behind 1 []) (byte (start_of (0x05 ∷ []))) → ⊥
  pub end_of_data : Answers {X = ℕ} (λ n. n) (Err ended) (start_of []) (start_of []) (Short 7 3)
  pub end_with_another_hint : Answers {X = ℕ} (λ n. n) (Err ended) (start_of []) (start_of []) (Short 7 4) → ⊥
  pub fault : Answers {X = ℕ} (λ n. n) (Err faulty) (start_of []) (start_of []) (Fault refusals.Other 7)
  pub fault_elsewhere : Answers {X = ℕ} (λ n. n) (Err faulty) (start_of []) (start_of []) (Fault refusals.Other 6) → ⊥
  pub fault_for_a_value : Answers {X = ℕ} (λ n. n) (Err faulty) (start_of []) (start_of []) (Done 5 (start_of [])) → ⊥
  pub never_failed : Answers {X = ℕ} (λ n. n) (Err failed) (start_of []) (start_of []) (Fault refusals.Other 7) → ⊥
  pub memory_where_taken : MemoryOnlyIf {X = ℕ} true (Err no_memory)
  pub memory_where_none_is : MemoryOnlyIf {X = ℕ} false (Err no_memory) → ⊥
  pub refused_where_none_is : MemoryOnlyIf {X = ℕ} false (Err ended)

-- values one by one, and values that nobody wants: bytes, which take no memory
pub record ItemRows : Type 0 where
  pub next : NextItem (λ n. n) byte 2 (start_of (0x05 ∷ 0x06 ∷ [])) (Some (Ok 5)) 1 (behind 1 (0x06 ∷ []))
  pub none_is_left : NextItem {X = ℕ} (λ n. n) byte 0 (start_of (0x05 ∷ [])) None 0 (start_of (0x05 ∷ []))
  pub one_is_left : NextItem {X = ℕ} (λ n. n) byte 1 (start_of (0x05 ∷ [])) None 0 (start_of (0x05 ∷ [])) → ⊥
  pub drained : Drains byte false 2 (start_of (0x05 ∷ 0x06 ∷ 0x07 ∷ [])) (behind 2 (0x07 ∷ []))
  pub not_drained : Drains byte false 2 (start_of (0x05 ∷ 0x06 ∷ 0x07 ∷ [])) (start_of (0x05 ∷ 0x06 ∷ 0x07 ∷ [])) → ⊥
  pub drained_too_far : Drains byte false 1 (start_of (0x05 ∷ 0x06 ∷ [])) (behind 2 []) → ⊥
  pub drained_to_the_end : Drains byte false 2 (start_of (0x05 ∷ [])) (behind 1 [])

-- which lists of bytes may take memory: those with a first byte, where reading a byte takes none, and where it did all that
-- count some
pub record RoomRows : Type 0 where
  pub none : takes_room true byte 0 (start_of (0x05 ∷ [])) ≡ false
  pub first : takes_room false byte 2 (start_of (0x05 ∷ [])) ≡ true
  pub no_first : takes_room false byte 2 (start_of []) ≡ false
  pub taken : takes_room true byte 2 (start_of []) ≡ true
  pub counted : counted_room false byte (size_within 3 (start_of (0x03 ∷ 0x05 ∷ []))) ≡ true
  pub counted_none : counted_room true byte (size_within 3 (start_of (0x00 ∷ 0x05 ∷ []))) ≡ false
  pub above_limit : counted_room true byte (size_within 3 (start_of (0x04 ∷ 0x05 ∷ []))) ≡ false
  pub no_count : counted_room true byte (size_within 3 (start_of [])) ≡ false

-- which fault a message names: a count above the limit, or bytes that are all there
pub record MessageRows : Type 0 where
  pub above : is_above 3 (u32 (start_of (0x04 ∷ []))) ≡ true
  pub at_the_limit : is_above 3 (u32 (start_of (0x03 ∷ []))) ≡ false
  pub no_count : is_above 3 (u32 (start_of [])) ≡ false
  pub whole : is_whole (u32 (start_of (0x01 ∷ 0xff ∷ []))) ≡ true
  pub cut_short : is_whole (u32 (start_of (0x02 ∷ 0xff ∷ []))) ≡ false
  pub whole_above : is_whole_within 0 (u32 (start_of (0x01 ∷ 0xff ∷ []))) ≡ false
  pub said : SaysIf {X = ℕ} true (λ m. m ≡ codes "invalid") (Err faulty)
  pub another : SaysIf {X = ℕ} true (λ m. m ≡ codes "unexpected end-of-file") (Err faulty) → ⊥
