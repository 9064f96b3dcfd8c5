-- A body that is typed, whose run is worked, and a body that is not.
use Rattle.std.specs.Prelude.{ℤ}
use Rattle.std.proofs.Common.{List, [], ◌∷◌, refl, rules}
use Rattle.wasm_types.specs.settings.Features.{has}
use Rattle.wasm_types.specs.trees.Types.{i32, number}
use Rattle.wasm_operators_immediates.specs.declared.frames.FrameKind.TheVariants as frames
use Rattle.wasm_operators_encoding.specs.expressions.Code.{plain}
use Rattle.wasm_operator_validator_rules.specs.Operands.{Operand, known, AllBelow}
use Rattle.wasm_operator_validator_rules.specs.Context.{Context, Frame, Initialised, inside, initialised_at_first}
use Rattle.wasm_operator_validator_rules.specs.InstructionTypes.{◌⟶◌}
use Rattle.wasm_operator_validator_rules.specs.Typed.{Steps, Typed, IsBody}
use Rattle.wasm_operator_validator_rules.specs.worked.Codes.{constant, sum, end}
use Rattle.wasm_operator_validator_soundness.specs.worked.Runs.{outside, two_summed}

abbrev within : Context
within = inside frames.Block outside.results outside

abbrev first : Initialised
first = initialised_at_first 0 outside.locals

abbrev body : Frame
body = record { kind = frames.Block; block = record { params = []; results = outside.results }; before = first }

constant_steps : (x : ℤ) (s : List Operand) → AllBelow s s → Steps within first (constant x) s (known (number i32) ∷ s)
unfolding has
constant_steps x s b = ([], known (number i32) ∷ [], s, (search rules, (([] ⟶ number i32 ∷ []), refl, (refl, refl))), b, refl)

sum_steps : Steps within first sum (known (number i32) ∷ known (number i32) ∷ []) (known (number i32) ∷ [])
unfolding has
sum_steps = (known (number i32) ∷ known (number i32) ∷ [], known (number i32) ∷ [], [], (search rules, (_, refl, (refl, refl))), (refl, (refl, tt)), refl)

pub sum_typed : (x : ℤ) → IsBody outside 0 (two_summed x)
sum_typed x = record {
  expression = (refl, (refl, (refl, refl)));
  typed = (
    known (number i32) ∷ [],
    constant_steps x [] tt,
    (
      known (number i32) ∷ known (number i32) ∷ [],
      constant_steps x (known (number i32) ∷ []) (refl, tt),
      (known (number i32) ∷ [], sum_steps, ((refl, tt), tt, tt)),
    ),
  );
}

pub half_untyped : (x : ℤ) → Typed within body first (plain (constant x) (plain sum end)) [] → ⊥
unfolding has
half_untyped x = search rules
