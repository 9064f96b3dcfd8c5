-- The worked rows of code.
use Rattle.std.specs.Prelude.{ℤ}
use Rattle.std.proofs.Common.{Bool, List, [], ◌∷◌, false, refl, rules}
use Rattle.wasm_types.specs.settings.Features.{has}
use Rattle.wasm_types.specs.trees.Types.{i32, i64, number, ref, abstract, func}
use Rattle.wasm_types.specs.trees.Trees.{opened}
use Rattle.wasm_types.specs.trees.AbstractOrder.{same}
use Rattle.wasm_operators_immediates.specs.declared.frames.FrameKind.TheVariants as frames
use Rattle.wasm_operators_encoding.specs.expressions.Code.{plain}
use Rattle.wasm_operator_validator_rules.specs.Operands.{ValueType, Operand, known, AllBelow}
use Rattle.wasm_operator_validator_rules.specs.Context.{Initialised}
use Rattle.wasm_operator_validator_rules.specs.InstructionTypes.{◌⟶◌}
use Rattle.wasm_operator_validator_rules.specs.Row.{Row}
use Rattle.wasm_operator_validator_rules.specs.Typed.{Typed, Steps}
use Rattle.wasm_operator_validator_rules.specs.worked.Contexts.{somewhere, somewhere_in}
use Rattle.wasm_operator_validator_rules.specs.worked.Codes.{CodesWorked, PartsWorked, constant, sum, end, one, at_first}

-- a constant is put on operands that are below themselves
constant_row : (labels : List (List ValueType)) (cs : List Bool) (x : ℤ) (set : Initialised) → Row (somewhere_in labels cs) set (constant x) [] (known (number i32) ∷ [])
unfolding has
constant_row labels cs x set = (search rules, (([] ⟶ number i32 ∷ []), refl, (refl, refl)))

constant_steps : (labels : List (List ValueType)) (cs : List Bool) (x : ℤ) (set : Initialised) (s : List Operand) → AllBelow s s
    → Steps (somewhere_in labels cs) set (constant x) s (known (number i32) ∷ s)
constant_steps labels cs x set s b = ([], known (number i32) ∷ [], s, constant_row labels cs x set, b, refl)

-- two numbers give one
sum_steps : (set : Initialised) → Steps somewhere set sum (known (number i32) ∷ known (number i32) ∷ []) (known (number i32) ∷ [])
unfolding has
sum_steps set = (known (number i32) ∷ known (number i32) ∷ [], known (number i32) ∷ [], [], (search rules, (_, refl, (refl, refl))), (refl, (refl, tt)), refl)

one_number : (x : ℤ) → Typed somewhere one at_first (plain (constant x) end) []
one_number x = (known (number i32) ∷ [], constant_steps somewhere.labels somewhere.catches x at_first [] tt, ((refl, tt), tt, tt))

pub codes_worked : (x : ℤ) → CodesWorked x
unfolding has opened
codes_worked x = record {
  empty_code = search rules;
  result_missing = search rules;
  one_constant = one_number x;
  left_over = search rules;
  two_summed = (
    known (number i32) ∷ [],
    constant_steps somewhere.labels somewhere.catches x at_first [] tt,
    (
      known (number i32) ∷ known (number i32) ∷ [],
      constant_steps somewhere.labels somewhere.catches x at_first (known (number i32) ∷ []) (refl, tt),
      (known (number i32) ∷ [], sum_steps at_first, ((refl, tt), tt, tt)),
    ),
  );
  operand_missing = search rules;
  behind_unreachable = (
    known (number i32) ∷ known (number i32) ∷ [],
    ([], known (number i32) ∷ known (number i32) ∷ [], [], search rules, tt, refl),
    (known (number i32) ∷ [], sum_steps at_first, ((refl, tt), tt, tt)),
  );
  reference_unset = search rules;
  number_set = (
    known (number i64) ∷ [],
    ([], known (number i64) ∷ [], [], search rules, tt, refl),
    ([], (known (number i64) ∷ [], [], [], search rules, (refl, tt), refl), (tt, tt, tt)),
  );
  parameter_set = (
    known (ref false (abstract false func)) ∷ [],
    ([], known (ref false (abstract false func)) ∷ [], [], search rules, tt, refl),
    ([], (known (ref false (abstract false func)) ∷ [], [], [], search rules, ((tt, (refl, same)), tt), refl), (tt, tt, tt)),
  );
  empty_block = (frames.Block, record { params = []; results = [] }, [], (refl, refl, tt), tt, (tt, tt, tt), one_number x);
  block_left_over = search rules;
  if_alone = (
    known (number i32) ∷ [],
    constant_steps somewhere.labels somewhere.catches x at_first [] tt,
    (frames.If, record { params = []; results = [] }, [], (refl, refl, tt), (refl, tt), (tt, tt, tt), (tt, tt, tt)),
  );
  if_gives = search rules;
  if_else = (
    known (number i32) ∷ [],
    constant_steps somewhere.labels somewhere.catches x at_first [] tt,
    (
      frames.If,
      record { params = []; results = number i32 ∷ [] },
      [],
      (refl, search rules, tt),
      (refl, tt),
      (
        known (number i32) ∷ [],
        constant_steps ((number i32 ∷ []) ∷ somewhere.labels) (false ∷ somewhere.catches) x at_first [] tt,
        ([], refl, (refl, tt), (known (number i32) ∷ [], constant_steps ((number i32 ∷ []) ∷ somewhere.labels) (false ∷ somewhere.catches) x at_first [] tt, ((refl, tt), tt, tt))),
      ),
      ((refl, tt), tt, tt),
    ),
  );
  else_missing = search rules;
  closed_by_nop = search rules;
  turned_by_nop = search rules;
  catch_unknown = search rules;
}

pub parts_worked : PartsWorked
parts_worked = record {
  in_block = refl;
  in_catch = refl;
  label = refl;
  from_catch = refl;
  from_else = refl;
  else_part = refl;
  catch_part = refl;
  catch_all_part = refl;
}
