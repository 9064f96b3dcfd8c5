-- Where a reader of operators stands, what it reads there, why it refuses, and what takes memory, worked by hand (WebAssembly 3.0,
-- binary format, instructions and expressions).
use Rattle.std.specs.Prelude.{◌≡◌, ℕ, List, [], ◌∷◌, codes, true, false, Some, None}
use Rattle.wasm_types.specs.decoding.declared.error.ErrorKind.{ErrorKind}
use Rattle.wasm_types.specs.decoding.declared.error.ErrorKind.TheVariants.{EndOfData, Other}
use Rattle.wasm_types.specs.decoding.ErrorValue.{ErrorValue}
use Rattle.wasm_types.specs.settings.Settings.{no_features}
use Rattle.wasm_operators_immediates.specs.declared.frames.FrameKind.{FrameKind}
use Rattle.wasm_operators_immediates.specs.declared.frames.FrameKind.TheVariants.{Block, If, Else}
use Rattle.wasm_operators_enums.specs.declared.control.ControlOperator.TheVariants as control
use Rattle.wasm_operators_enums.specs.Op as op
use Rattle.wasm_operators_encoding.specs.expressions.Stack.{innermost}
use Rattle.wasm_operators_reader.specs.Standing.{Standing, at_start, IsFinished, Reads, Refuses, WantsMemory, TakesMemory, Runs, Stops, StopsAfter}
use Rattle.wasm_operators_reader.specs.Iterating.{items_left}

-- behind n bytes, before these, with these frames open
abbrev pub at : ℕ → List ℕ → List FrameKind → Standing
at n rest frames = record { bytes = record { rest = rest; place = n; settings = no_features; start = 0 }; frames = frames }

-- before `nop` and `end` of an expression, between them, and behind both
abbrev pub before_nop : Standing
before_nop = at 0 (0x01 ∷ 0x0b ∷ []) (Block ∷ [])

abbrev pub before_end : Standing
before_end = at 1 (0x0b ∷ []) (Block ∷ [])

abbrev pub behind_end : Standing
behind_end = at 2 [] []

abbrev pub nop : op.Op
nop = op.Control control.Nop

abbrev pub end : op.Op
end = op.Control control.End

-- an error of this kind at this offset
abbrev pub error : ErrorKind → ℕ → ErrorValue
error kind n = record { kind = kind; offset = n; message = codes "refused" }

-- what is read: the operator that begins there, if it may come next
pub record ReadRows : Type 0 where
  pub start : at_start before_nop.bytes ≡ before_nop
  pub plain : Reads before_nop nop before_end
  pub closing : Reads before_end end behind_end
  pub another : Reads before_nop (op.Control control.Unreachable) before_end → ⊥
  pub elsewhere : Reads before_nop nop (at 0 (0x0b ∷ []) (Block ∷ [])) → ⊥
  pub in_another_frame : Reads before_nop nop (at 1 (0x0b ∷ []) (If ∷ [])) → ⊥
  pub in_no_frame : Reads (at 0 (0x01 ∷ 0x0b ∷ []) []) nop (at 1 (0x0b ∷ []) []) → ⊥
  pub turning : Reads (at 0 (0x05 ∷ []) (If ∷ Block ∷ [])) (op.Control control.Else) (at 1 [] (Else ∷ Block ∷ []))
  pub not_turning : (t : Standing) → Reads (at 0 (0x05 ∷ []) (Block ∷ [])) (op.Control control.Else) t → ⊥
  pub some_frame : innermost (If ∷ Block ∷ []) ≡ Some If
  pub no_frame : innermost [] ≡ None
  pub finished : IsFinished behind_end
  pub still_open : IsFinished (at 2 [] (Block ∷ [])) → ⊥
  pub bytes_left : IsFinished (at 2 (0x0b ∷ []) []) → ⊥
  pub items : items_left false before_nop ≡ 2
  pub no_items : items_left true before_nop ≡ 0

-- why nothing is read: no frame is open; no operator begins there; or one that may not come next, refused behind its first byte
pub record RefusedRows : Type 0 where
  pub no_frame : Refuses (at 2 (0x01 ∷ []) []) (error Other 2)
  pub no_frame_elsewhere : Refuses (at 2 (0x01 ∷ []) []) (error Other 3) → ⊥
  pub no_frame_at_the_end : Refuses behind_end (error (EndOfData 1) 2) → ⊥
  pub no_operator : Refuses (at 0 (0x16 ∷ []) (Block ∷ [])) (error Other 0)
  pub no_byte : Refuses (at 1 [] (Block ∷ [])) (error (EndOfData 1) 1)
  pub unfit : Refuses (at 0 (0x05 ∷ []) (Block ∷ [])) (error Other 1)
  pub unfit_elsewhere : Refuses (at 0 (0x05 ∷ []) (Block ∷ [])) (error Other 0) → ⊥
  pub fit : Refuses before_nop (error Other 1) → ⊥

-- what takes memory: a list that an operator keeps, a frame that it opens; and from here on whatever is read
pub record MemoryRows : Type 0 where
  pub types : WantsMemory (at 0 (0x1c ∷ 0x00 ∷ []) (Block ∷ []))
  pub frame : WantsMemory (at 0 (0x02 ∷ 0x40 ∷ []) (Block ∷ []))
  pub none : WantsMemory before_nop → ⊥
  pub closed : WantsMemory before_end → ⊥
  pub kept : TakesMemory before_nop
  pub nothing_kept : TakesMemory behind_end → ⊥

-- operators one after the other, and why there are no more
pub record RunRows : Type 0 where
  pub both : Runs before_nop (nop ∷ end ∷ []) behind_end
  pub none : Runs before_nop [] before_nop
  pub none_to_the_end : Runs before_nop [] behind_end → ⊥
  pub the_second_alone : Runs before_nop (end ∷ []) behind_end → ⊥
  pub beyond_the_end : (o : op.Op) (t : Standing) → Runs behind_end (o ∷ []) t → ⊥
  pub stopped_at_bytes : Stops (at 0 (0x16 ∷ []) (Block ∷ [])) (error Other 0)
  pub stopped_in_a_frame : Stops (at 1 [] (Block ∷ [])) (error Other 1)
  pub stopped_elsewhere : Stops (at 1 [] (Block ∷ [])) (error Other 0) → ⊥
  pub stopped_as_at_bytes : Stops (at 1 [] (Block ∷ [])) (error (EndOfData 1) 1) → ⊥
  pub not_stopped : Stops before_nop (error Other 1) → ⊥
  pub whole : (e : ErrorValue) → Stops behind_end e → ⊥
  pub stopped_behind_one : StopsAfter (at 0 (0x01 ∷ []) (Block ∷ [])) (error Other 1)
  pub not_stopped_behind_all : (e : ErrorValue) → StopsAfter behind_end e → ⊥
