-- What a visitor is told of operators that are read, one or several, and why it is told no more, worked by hand with a visitor that
-- counts, and answers the code of what it is told.
use Rattle.std.specs.Prelude.{◌≡◌, ℕ, ◌+◌, [], ◌∷◌, Some, None}
use Rattle.wasm_types.specs.decoding.Decoder.{State}
use Rattle.wasm_types.specs.decoding.declared.error.ErrorKind.TheVariants.{EndOfData, MissingFeature, OutOfMemory, Other}
use Rattle.wasm_types.specs.decoding.ErrorValue.{ErrorValue}
use Rattle.wasm_operators_immediates.specs.declared.frames.FrameKind.TheVariants.{Block, If}
use Rattle.wasm_operators_enums.specs.declared.control.ControlOperator.TheVariants as control
use Rattle.wasm_operators_enums.specs.Op as op
use Rattle.wasm_operators_enums.specs.Table.{info_of}
use Rattle.wasm_operators_reader.specs.Standing.{Standing}
use Rattle.wasm_operators_reader.specs.FirstByte.{ToldFirst, refused_by_byte, refused_in}
use Rattle.wasm_operators_reader.specs.Visiting.{Visits, VisitsPlain, RefusesPlain, Tells}
use Rattle.wasm_operators_reader.specs.Walking.{HasNoVectors, VisitsAll, WalksTo, WalksUntil, WalksUntilAt, WalksUntilTo, StopsPlain}
use Rattle.wasm_operators_enums.specs.declared.role.Role.TheVariants.{Plain, End}
use Rattle.wasm_operators_reader.specs.walks.InFrame.{ReadsIn, RefusesIn, RefusesPlainIn}
use Rattle.wasm_operators_tests.specs.reader.Rows.{constant, before_constant, behind, choice}
use Rattle.wasm_operators_tests.specs.reader.StandingRows.{at, before_nop, before_end, behind_end, nop, end, error}

-- how many it was told of, the operator, its code, and one more
abbrev pub counts : ℕ → op.Op → ℕ → ℕ → Type 0
counts before o answer after = (answer ≡ (info_of o).code) × (after ≡ before + 1)

-- one operator that is read and told
pub record VisitRows : Type 0 where
  pub visited : Visits counts before_nop 4 0x01 before_end 5
  pub not_told : Visits counts before_nop 4 0x01 before_end 4 → ⊥
  pub another_told : Visits counts before_nop 4 0x00 before_end 5 → ⊥
  pub not_read : Visits counts before_nop 4 0x01 before_nop 5 → ⊥
  pub visited_plain : VisitsPlain counts before_nop 4 0x01 before_end 5
  pub not_told_plain : VisitsPlain counts before_nop 4 0x01 before_end 4 → ⊥
  pub vector : Visits counts before_constant 4 0x0c (behind 18 (0x1a ∷ 0x0b ∷ [])) 5
  pub no_vector : (v answer w : ℕ) (t : Standing) → VisitsPlain counts before_constant v answer t w → ⊥
  pub refused : RefusesPlain (at 0 (0x16 ∷ []) (Block ∷ [])) (error Other 0)
  pub refused_vector : RefusesPlain before_constant (error Other 0)
  pub not_refused : RefusesPlain before_nop (error Other 0) → ⊥
  pub refused_unread : RefusesPlain (at 0 (0xfd ∷ []) (Block ∷ [])) (error Other 0)
  pub not_refused_behind : RefusesPlain (at 0 (0xfd ∷ []) (Block ∷ [])) (error (EndOfData 1) 1) → ⊥
  pub told : Tells counts Plain before_nop.bytes 4 0x01 before_end.bytes 5
  pub told_as_another : Tells counts End before_nop.bytes 4 0x01 before_end.bytes 5 → ⊥
  pub told_closing : Tells counts End before_end.bytes 4 0x0b behind_end.bytes 5

-- several, one after the other: each but the last of one answer
pub record WalkRows : Type 0 where
  pub none_on_vectors : HasNoVectors (nop ∷ end ∷ [])
  pub one_on_vectors : HasNoVectors (nop ∷ constant ∷ []) → ⊥
  pub all_told : VisitsAll counts 0x01 4 (nop ∷ nop ∷ []) 6
  pub one_not_told : VisitsAll counts 0x01 4 (nop ∷ nop ∷ []) 5 → ⊥
  pub one_answers_otherwise : VisitsAll counts 0x01 4 (nop ∷ end ∷ []) 6 → ⊥
  pub walked : WalksTo counts 0x01 before_nop 4 before_end 5
  pub not_walked : WalksTo counts 0x01 before_nop 4 before_nop 4
  pub walked_beyond_the_end : (t : Standing) → WalksTo counts 0x01 behind_end 4 t 5 → ⊥
  pub walked_over_a_vector : WalksTo counts 0x0c before_constant 4 (behind 18 (0x1a ∷ 0x0b ∷ [])) 5 → ⊥
  pub until_the_end : WalksUntil counts 0x01 before_nop 4 0x0b 6
  pub until_nothing : (last w : ℕ) → WalksUntil counts 0x01 behind_end 4 last w → ⊥
  pub until_it_is_told : WalksUntil counts 0x01 before_end 4 0x0b 4 → ⊥
  pub until_there : WalksUntilAt counts 0x01 before_nop 4 0x0b 6 1
  pub until_elsewhere : WalksUntilAt counts 0x01 before_end 4 0x0b 5 2 → ⊥
  pub until_behind : WalksUntilTo counts 0x01 before_nop 4 0x0b behind_end 6 1
  pub until_behind_elsewhere : (t : Standing) → WalksUntilTo counts 0x01 before_end 4 0x0b t 5 2 → ⊥
  pub stopped : StopsPlain (at 0 (0x16 ∷ []) (Block ∷ [])) (error Other 0)
  pub stopped_at_a_vector : StopsPlain before_constant (error Other 0)
  pub stopped_in_a_frame : StopsPlain (at 1 [] (Block ∷ [])) (error Other 1)
  pub stopped_in_a_frame_elsewhere : StopsPlain (at 1 [] (Block ∷ [])) (error Other 0) → ⊥
  pub not_stopped_behind_all : (e : ErrorValue) → StopsPlain behind_end e → ⊥
  pub not_stopped_for_memory : StopsPlain before_nop (error OutOfMemory 0) → ⊥

-- an operator whose first byte is reason enough to refuse it
pub record FirstByteRows : Type 0 where
  pub vector : refused_by_byte 0 0xfd ≡ Some Other
  pub judged_vector : refused_by_byte 0x10000000 0xfd ≡ None
  pub legacy_try : refused_by_byte 0 0x06 ≡ Some (MissingFeature (record { 0 = 0x200000 }))
  pub legacy_catch : refused_by_byte 0 0x07 ≡ Some (MissingFeature (record { 0 = 0x200000 }))
  pub legacy_catch_all : refused_by_byte 0 0x19 ≡ Some (MissingFeature (record { 0 = 0x200000 }))
  pub allowed_try : refused_by_byte 0x200000 0x06 ≡ None
  pub another : refused_by_byte 0 0x01 ≡ None
  pub rethrow : refused_by_byte 0 0x09 ≡ None
  pub delegate : refused_by_byte 0 0x18 ≡ None
  pub in_no_frame : refused_in None (at 0 (0xfd ∷ []) []).bytes ≡ None
  pub in_a_frame : refused_in (Some Block) (at 0 (0xfd ∷ []) []).bytes ≡ Some Other
  pub first : ToldFirst (Some Other) 0 (error (EndOfData 1) 1) (error Other 0)
  pub not_second : ToldFirst (Some Other) 0 (error (EndOfData 1) 1) (error (EndOfData 1) 1) → ⊥
  pub memory : ToldFirst (Some Other) 0 (error OutOfMemory 0) (error OutOfMemory 0)
  pub not_for_memory : ToldFirst (Some Other) 0 (error OutOfMemory 0) (error Other 0) → ⊥
  pub by_no_byte : ToldFirst None 0 (error (EndOfData 1) 1) (error (EndOfData 1) 1)
  pub not_by_a_byte : ToldFirst None 0 (error (EndOfData 1) 1) (error Other 0) → ⊥

-- where only the innermost open frame is known
pub record FrameRows : Type 0 where
  pub fit : ReadsIn (Some Block) before_nop.bytes nop before_end.bytes
  pub turning : ReadsIn (Some If) (at 0 (0x05 ∷ []) []).bytes (op.Control control.Else) (at 1 [] []).bytes
  pub not_turning : (t : State) → ReadsIn (Some Block) (at 0 (0x05 ∷ []) []).bytes (op.Control control.Else) t → ⊥
  pub in_no_frame : (t : State) → ReadsIn None before_nop.bytes nop t → ⊥
  pub another : ReadsIn (Some Block) before_nop.bytes (op.Control control.Unreachable) before_end.bytes → ⊥
  pub no_frame : RefusesIn None before_nop.bytes (error Other 0)
  pub no_frame_elsewhere : RefusesIn None before_nop.bytes (error Other 1) → ⊥
  pub no_operator : RefusesIn (Some Block) (at 0 (0x16 ∷ []) []).bytes (error Other 0)
  pub unfit : RefusesIn (Some Block) (at 0 (0x05 ∷ []) []).bytes (error Other 1)
  pub unfit_elsewhere : RefusesIn (Some Block) (at 0 (0x05 ∷ []) []).bytes (error Other 0) → ⊥
  pub not_refused : RefusesIn (Some Block) before_nop.bytes (error Other 1) → ⊥
  pub vector : RefusesPlainIn (Some Block) before_constant.bytes (error Other 0)
  pub vector_elsewhere : RefusesPlainIn (Some Block) before_constant.bytes (error Other 1) → ⊥
