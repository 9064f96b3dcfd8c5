-- What is left to read where frames are open.
use Rattle.std.specs.Prelude.{◌≡◌, ℕ, List, [], ◌∷◌, ◌++◌, Option, Some, None}
use Rattle.wasm_types.specs.settings.Settings.{Settings}
use Rattle.wasm_operators_immediates.specs.declared.frames.FrameKind.{FrameKind}
use Rattle.wasm_operators_enums.specs.Op.{Op}
use Rattle.wasm_operators_enums.specs.declared.role.Role.{Role}
use Rattle.wasm_operators_enums.specs.declared.role.Effect.{Effect}
use Rattle.wasm_operators_enums.specs.declared.role.Effect.TheVariants as effects
use Rattle.wasm_operators_enums.specs.Roles.{role_of, effect}
use Rattle.wasm_operators_encoding.specs.expressions.Code.{Code, walk, IsIn}
use Rattle.wasm_operators_encoding.specs.expressions.Spelling.{SpelledOperators}

-- these operators close these frames, the innermost first, and are no more than that
abbrev pub Closes : List FrameKind → List Op → Type 0
Closes [] os = os ≡ []
Closes (k ∷ ks) os = (c : Code) × (rest : List Op) × IsIn k c × (os ≡ walk c ++ rest) × Closes ks rest

-- the frames behind an operator of this effect on the innermost, which is k; ks are around it
abbrev pub frames_behind : Option Effect → FrameKind → List FrameKind → Option (List FrameKind)
frames_behind None k ks = None
frames_behind (Some effects.Stays) k ks = Some (k ∷ ks)
frames_behind (Some (effects.Nests j)) k ks = Some (j ∷ k ∷ ks)
frames_behind (Some effects.Closes) k ks = Some ks
frames_behind (Some (effects.Turns j)) k ks = Some (j ∷ ks)

-- those behind an operator of this role; with no frame open nothing may follow
abbrev pub behind : Role → List FrameKind → Option (List FrameKind)
behind r [] = None
behind r (k ∷ ks) = frames_behind (effect r k) k ks

-- what an operator makes of the frames
abbrev pub after : Op → List FrameKind → Option (List FrameKind)
after o ks = behind (role_of o) ks

-- these bytes are operators that close these frames
abbrev pub BytesClose : Settings → List FrameKind → List ℕ → Type 0
BytesClose settings ks text = (os : List Op) × Closes ks os × SpelledOperators settings os text
