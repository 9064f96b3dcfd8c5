-- The worked rows of code with clauses.
use Rattle.std.specs.Prelude.{ℤ}
use Rattle.std.proofs.Common.{◌≡◌, ◌∙◌, Bool, List, [], ◌∷◌, true, false, refl, sym, ap, subst, rules}
use Rattle.wasm_types.specs.settings.Features.{has}
use Rattle.wasm_types.specs.trees.Types.{i32, func, number, ref, abstract, InnerOf, function}
use Rattle.wasm_types.specs.trees.Trees.{TypeTree, opened}
use Rattle.wasm_types.specs.trees.Below.{expanded}
use Rattle.wasm_types.specs.trees.AbstractOrder.{same}
use Rattle.wasm_operators_immediates.specs.declared.frames.FrameKind.TheVariants as frames
use Rattle.wasm_operator_validator_rules.specs.Operands.{ValueType, Operand, AllBelow, known, stack}
use Rattle.wasm_operator_validator_rules.specs.Context.{Context, Initialised, Signature}
use Rattle.wasm_operator_validator_rules.specs.Exceptions.{IsExceptionTag, exception}
use Rattle.wasm_operator_validator_rules.specs.Row.{Row}
use Rattle.wasm_operator_validator_rules.specs.Typed.{Steps}
use Rattle.wasm_operator_validator_rules.specs.InstructionTypes.{◌⟶◌}
use Rattle.wasm_operator_validator_rules.specs.worked.Codes.{constant, at_first}
use Rattle.wasm_operator_validator_rules.specs.worked.Exceptions.{here, from_to}
use Rattle.wasm_operator_validator_rules.specs.worked.Clauses.{ClausesWorked}

abbrev at : List (List ValueType) → List Bool → Context
at labels catches = record here { labels = labels; catches = catches }

constant_row : (labels : List (List ValueType)) (cs : List Bool) (x : ℤ) (set : Initialised) → Row (at labels cs) set (constant x) [] (known (number i32) ∷ [])
unfolding has
constant_row labels cs x set = (search rules, (([] ⟶ number i32 ∷ []), refl, (refl, refl)))

constant_steps : (labels : List (List ValueType)) (cs : List Bool) (x : ℤ) (set : Initialised) → Steps (at labels cs) set (constant x) [] (known (number i32) ∷ [])
constant_steps labels cs x set = ([], known (number i32) ∷ [], [], constant_row labels cs x set, tt, refl)

-- within a block that gives an i32
inner_steps : (x : ℤ) (set : Initialised) → Steps (at ((number i32 ∷ []) ∷ here.labels) (false ∷ here.catches)) set (constant x) [] (known (number i32) ∷ [])
inner_steps x set = constant_steps ((number i32 ∷ []) ∷ here.labels) (false ∷ here.catches) x set

abbrev gives_one : Signature
gives_one = record { params = []; results = number i32 ∷ [] }

abbrev gives_none : Signature
gives_none = record { params = []; results = [] }

abbrev keeps_one : Signature
keeps_one = record { params = number i32 ∷ []; results = number i32 ∷ [] }

-- a tag that gives something back is none of exceptions
gives_back : (ts : List ValueType) → IsExceptionTag here 1 ts → ⊥
unfolding opened
gives_back = search rules

-- one that carries a reference carries no number
no_number : (ts : List ValueType) → IsExceptionTag here 3 ts → AllBelow (stack ts) (known (number i32) ∷ []) → ⊥
unfolding opened
no_number ts (t, e, p) b =
    let h : from_to (exception true ∷ []) [] ≡ t = cc in
    let q : ◌≡◌ {A = InnerOf TypeTree} (function (exception true ∷ []) []) (function ts []) = ap expanded h ∙ p in
    let r : exception true ∷ [] ≡ ts = cc in
    let c = subst (λ (v : List ValueType). AllBelow (stack v) (known (number i32) ∷ [])) (sym r) b in c.0

abbrev one_left : List Operand
one_left = known (number i32) ∷ []

pub clauses_worked : (x : ℤ) → ClausesWorked x
unfolding has opened
clauses_worked x = record {
  thrown = (
    one_left,
    constant_steps here.labels here.catches x at_first,
    (one_left, (one_left, one_left, [], (search rules, (number i32 ∷ [], [], (from_to (number i32 ∷ []) [], refl, refl), refl)), (refl, tt), refl), ((refl, tt), tt, tt)),
  );
  thrown_unreached = (
    one_left,
    ([], one_left, [], search rules, tt, refl),
    (one_left, (one_left, one_left, [], (search rules, (number i32 ∷ [], [], (from_to (number i32 ∷ []) [], refl, refl), refl)), (refl, tt), refl), ((refl, tt), tt, tt)),
  );
  caught = (
    frames.LegacyTry,
    gives_one,
    [],
    (refl, search rules, search rules),
    tt,
    (one_left, inner_steps x at_first, (number i32 ∷ [], (search rules, (from_to (number i32 ∷ []) [], refl, refl)), (refl, tt), ((refl, tt), tt, tt))),
    ((refl, tt), tt, tt),
  );
  caught_other = λ (k, b, rest, (r, (u, i, e), n), below, (m, st, (ts, (en, t), c, y)), z).
      (let f : b.results ≡ number i32 ∷ [] = ap (λ (v : Signature). v.results) e ∙ ap (λ (v : ValueType). v ∷ []) i.is in
      no_number ts t (subst (λ (v : List ValueType). AllBelow (stack ts) (stack v)) f y.0));
  caught_gives = λ (k, b, rest, op, below, (m, st, (ts, (en, t), c, y)), z). gives_back ts t;
  try_without = search rules;
  caught_without = search rules;
  all_caught_without = search rules;
  body_missing = search rules;
  all_caught = (frames.LegacyTry, gives_none, [], (refl, refl, search rules), tt, ([], (search rules, refl), tt, (tt, tt, tt)), (tt, tt, tt));
  all_caught_nothing = search rules;
  with_params = (
    one_left,
    constant_steps here.labels here.catches x at_first,
    (
      frames.LegacyTry,
      keeps_one,
      [],
      (refl, (search rules, from_to (number i32 ∷ []) (number i32 ∷ []), refl, refl), search rules),
      (refl, tt),
      (number i32 ∷ [], (search rules, (from_to (number i32 ∷ []) [], refl, refl)), (refl, tt), ((refl, tt), tt, tt)),
      ((refl, tt), tt, tt),
    ),
  );
  params_not_caught = search rules;
  set_and_read = (
    frames.LegacyTry,
    gives_none,
    [],
    (refl, refl, search rules),
    tt,
    (
      known (ref false (abstract false func)) ∷ [],
      ([], known (ref false (abstract false func)) ∷ [], [], search rules, tt, refl),
      (
        [],
        (known (ref false (abstract false func)) ∷ [], [], [], search rules, ((tt, (refl, same)), tt), refl),
        (
          known (ref false (abstract false func)) ∷ [],
          ([], known (ref false (abstract false func)) ∷ [], [], search rules, tt, refl),
          ([], (known (ref false (abstract false func)) ∷ [], [], [], search rules, ((tt, (refl, same)), tt), refl), (tt, tt, tt)),
        ),
      ),
    ),
    (tt, tt, tt),
  );
  set_and_caught = search rules;
  thrown_again = (
    frames.LegacyTry,
    gives_one,
    [],
    (refl, search rules, search rules),
    tt,
    (one_left, inner_steps x at_first, ([], (search rules, refl), (refl, tt), (one_left, ([], one_left, [], (search rules, refl), tt, refl), ((refl, tt), tt, tt)))),
    ((refl, tt), tt, tt),
  );
  thrown_in_try = search rules;
  delegated = (frames.LegacyTry, gives_none, [], (refl, refl, search rules), tt, (tt, tt, (search rules, number i32 ∷ [], refl)), (tt, tt, tt));
  delegated_outside = search rules;
  delegated_without = search rules;
  delegated_missing = search rules;
  table = (
    frames.TryTable,
    gives_none,
    [],
    (refl, refl, (search rules, ((number i32 ∷ [], (from_to (number i32 ∷ []) [], refl, refl), (number i32 ∷ [], refl, (refl, tt))), tt))),
    tt,
    (tt, tt, tt),
    (tt, tt, tt),
  );
  table_ref_other = search rules;
  table_other = search rules;
  table_outside = search rules;
  table_without = search rules;
}
