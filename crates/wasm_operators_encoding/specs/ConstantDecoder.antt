-- How constant expressions are read (WebAssembly 3.0, binary format, expressions): operators in their frames, up to the first `end`.
use Rattle.std.specs.Prelude.{◌≡◌, ◌+◌, ℕ, Bool, true, false, List, [], ◌∷◌, Option, Some, None}
use Rattle.wasm_types.specs.settings.Settings.{Settings}
use Rattle.wasm_types.specs.decoding.declared.Refusal.TheVariants.{Other}
use Rattle.wasm_types.specs.decoding.Decoder.{Decoder, Grammar, ◌>>=◌, pure, refuse}
use Rattle.wasm_types.specs.decoding.Lists.{refuse_at}
use Rattle.wasm_operators_immediates.specs.declared.frames.FrameKind.{FrameKind}
use Rattle.wasm_operators_immediates.specs.declared.frames.FrameKind.TheVariants.{Block}
use Rattle.wasm_operators_encoding.specs.Coded.{operator}
use Rattle.wasm_operators_enums.specs.declared.role.Role.{Role}
use Rattle.wasm_operators_encoding.specs.expressions.Frames.{behind}
use Rattle.wasm_operators_encoding.specs.codes.OpcodeRoles.{role_at}
use Rattle.wasm_operators_encoding.specs.Until.{Next, Again, Last, until, taken_by}
use Rattle.wasm_operators_encoding.specs.Ends.{ends, IsConstantText}

-- what follows an operator: more operators in these frames, or nothing
abbrev pub NextFrames : Type 0
NextFrames = Next (List FrameKind) (Unit {0})

-- behind `end` no frame may be open
abbrev pub behind_end : List FrameKind → Decoder NextFrames
behind_end [] = pure (Last tt)
behind_end (k ∷ ks) = refuse Other 0

-- Behind an operator that is `end` or another, by the frames that are open then. One that may not come next is refused at this offset.
abbrev pub by_frames : ℕ → Bool → Option (List FrameKind) → Decoder NextFrames
by_frames place last None = refuse_at Other place
by_frames place true (Some ks) = behind_end ks
by_frames place false (Some ks) = pure (Again ks)

-- the same by the operator's role
abbrev pub by_role : ℕ → List FrameKind → Role → Decoder NextFrames
by_role place ks r = by_frames place (ends r) (behind r ks)

-- an operator where these frames are open, which is refused behind its first byte if it may not come next
abbrev pub in_frames : Settings → ℕ → List FrameKind → Decoder NextFrames
in_frames settings place ks = operator settings >>= λ c. by_role (place + 1) ks (role_at c.opcode)

-- the same; where none is open nothing may follow
unfoldable pub step : Settings → List FrameKind → Decoder NextFrames
step settings [] s = refuse Other 0 s
step settings (k ∷ ks) s = in_frames settings s.place (k ∷ ks) s

-- the bytes of a constant expression
unfoldable pub constant : Settings → Decoder (List ℕ)
constant settings = taken_by (until (step settings) (Block ∷ []))

-- the bytes of an expression whose only `end` is its last operator
abbrev pub ConstantText : Settings → Grammar (List ℕ)
ConstantText settings x text = (text ≡ x) × IsConstantText settings text
