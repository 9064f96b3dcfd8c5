-- Instructions as a tree (WebAssembly 3.0, structure, instructions and expressions).
use Rattle.std.specs.Prelude.{◌≡◌, List, [], ◌∷◌, ◌++◌, Some}
use Rattle.wasm_operators_immediates.specs.declared.frames.FrameKind.{FrameKind}
use Rattle.wasm_operators_immediates.specs.declared.frames.FrameKind.TheVariants.{Block}
use Rattle.wasm_operators_enums.specs.Op.{Op}
use Rattle.wasm_operators_enums.specs.declared.role.Effect.TheVariants as effects
use Rattle.wasm_operators_enums.specs.Roles.{role_of, effect}

-- The instructions of a frame up to its end: what ends it; a plain operator and more; a block, that is its opener and the
-- instructions within, and more; or what turns the frame, as `else` does, and more.
pub data Code : Type 0 where
  close : Op → Code
  plain : Op → Code → Code
  nested : Op → Code → Code → Code
  turn : Op → Code → Code

-- the operators of a tree in the order of its walk
abbrev pub walk : Code → List Op
walk (close o) = o ∷ []
walk (plain o more) = o ∷ walk more
walk (nested o body more) = o ∷ (walk body ++ walk more)
walk (turn o more) = o ∷ walk more

-- standard: binary-instr-control: blocks: each instruction is in a block in which it may be
-- the instructions of a frame of this kind: each operator stands where it may, and has its effect on the frame
abbrev pub IsIn : FrameKind → Code → Type 0
IsIn k (close o) = effect (role_of o) k ≡ Some effects.Closes
IsIn k (plain o more) = (effect (role_of o) k ≡ Some effects.Stays) × IsIn k more
IsIn k (nested o body more) = (j : FrameKind) × (effect (role_of o) k ≡ Some (effects.Nests j)) × IsIn j body × IsIn k more
IsIn k (turn o more) = (j : FrameKind) × (effect (role_of o) k ≡ Some (effects.Turns j)) × IsIn j more

-- standard: binary-expr: instructions, and one end of all of them
-- an expression: instructions, and the `end` of all of them
abbrev pub IsExpression : Code → Type 0
IsExpression c = IsIn Block c
