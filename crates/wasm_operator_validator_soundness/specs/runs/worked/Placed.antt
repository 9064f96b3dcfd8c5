-- Worked places of derivations, whichever these are: what is at a place, and that nothing is at another.
use Rattle.std.specs.Prelude.{◌≡◌, List, [], ◌++◌, None}
use Rattle.wasm_operators_immediates.specs.declared.frames.FrameKind.TheVariants as frames
use Rattle.wasm_operators_enums.specs.Op.{Op}
use Rattle.wasm_operators_encoding.specs.expressions.Code.{Code, close, plain, nested, turn}
use Rattle.wasm_operator_validator_rules.specs.Operands.{Operand, stack}
use Rattle.wasm_operator_validator_rules.specs.Context.{Context, Initialised, Signature, Frame, label_of, inside}
use Rattle.wasm_operator_validator_rules.specs.Row.{after}
use Rattle.wasm_operator_validator_rules.specs.Typed.{other_part, in_part, Typed}
use Rattle.wasm_operator_validator_soundness.specs.runs.Places.{start, next, within, past, turned, missing, place, place_at}

module _ (g : Context) (f : Frame) (set : Initialised) (o : Op) (body more : Code) (s : List Operand) where
  -- after an operator, with its own operands, and in no block
  pub record OperatorWorked (t : Typed g f set (plain o more) s) : Type 0 where
    pub after_it : place_at (place g f set (plain o more) s t) (next start) ≡ place g f (after o set) more t.0 t.2
    pub no_block : place_at (place g f set (plain o more) s t) (within start) ≡ None
    pub further : place_at (place g f set (plain o more) s t) (within (past start)) ≡ None

  -- in a block, with its parameters, and after it, with its results
  pub record BlockWorked (t : Typed g f set (nested o body more) s) : Type 0 where
    pub in_it : place_at (place g f set (nested o body more) s t) (within start) ≡
        place (inside t.0 (label_of t.0 t.1) g) (record { kind = t.0; block = t.1; before = set }) set body
        (stack (t.1).params) t.5
    pub after_it : place_at (place g f set (nested o body more) s t) (past start) ≡
        place g f set more (stack (t.1).results ++ t.2) t.6
    pub no_operator : place_at (place g f set (nested o body more) s t) (next start) ≡ None

  -- in the next part of a frame
  pub record PartWorked (t : Typed g f set (turn o more) s) : Type 0 where
    pub in_it : place_at (place g f set (turn o more) s t) (turned start) ≡
        place (in_part o g) (other_part o f) f.before more (stack t.0) t.3

module _ (g : Context) (b : Signature) (before set : Initialised) (o : Op) (s : List Operand) where
  abbrev pub of_if : Frame
  of_if = record { kind = frames.If; block = b; before = before }

  abbrev pub of_block : Frame
  of_block = record { kind = frames.Block; block = b; before = before }

  -- an `if` without `else` has a second part, which begins with the parameters; a block has none
  pub record EndWorked (t : Typed g of_if set (close o) s) (u : Typed g of_block set (close o) s) : Type 0 where
    pub without_else : place_at (place g of_if set (close o) s t) (missing start) ≡
        place g of_if before (close o) (stack b.params) (t.1, t.1, t.2)
    pub no_part : place_at (place g of_block set (close o) s u) (missing start) ≡ None

-- each of these
pub record PlacedWorked : Type 0 where
  pub operators : (g : Context) (f : Frame) (set : Initialised) (o : Op) (more : Code) (s : List Operand)
      (t : Typed g f set (plain o more) s) → OperatorWorked g f set o more more s t
  pub blocks : (g : Context) (f : Frame) (set : Initialised) (o : Op) (body more : Code) (s : List Operand)
      (t : Typed g f set (nested o body more) s) → BlockWorked g f set o body more s t
  pub parts : (g : Context) (f : Frame) (set : Initialised) (o : Op) (more : Code) (s : List Operand)
      (t : Typed g f set (turn o more) s) → PartWorked g f set o more more s t
  pub ends : (g : Context) (b : Signature) (before set : Initialised) (o : Op) (s : List Operand)
      (t : Typed g (of_if g b before set o s) set (close o) s)
      (u : Typed g (of_block g b before set o s) set (close o) s)
      → EndWorked g b before set o s t u
