-- Code in functions of a module.
use Rattle.std.specs.Prelude.{ℤ}
use Rattle.std.proofs.Common.{false, List, [], ◌∷◌, length, refl, rules}
use Rattle.wasm_types.specs.settings.Features.{has}
use Rattle.wasm_types.specs.trees.Trees.{opened}
use Rattle.wasm_types.specs.trees.AbstractOrder.{same}
use Rattle.wasm_types.specs.trees.ValidGroup.{types_from, done, next}
use Rattle.wasm_types.specs.settings.Limits.{default_limits}
use Rattle.wasm_types.specs.trees.Types.{i32, i64, number, ref, abstract, func}
use Rattle.wasm_types.specs.trees.ValidGroup.{type_at}
use Rattle.wasm_types.specs.values.declared.value.ValType.TheVariants as value
use Rattle.wasm_operators_immediates.specs.declared.frames.FrameKind.TheVariants as frames
use Rattle.wasm_operators_encoding.specs.expressions.Code.{Code}
use Rattle.wasm_operators_encoding.specs.Locals.{LocalGroup}
use Rattle.wasm_operator_validator_rules.specs.Operands.{ValueType, Operand, known}
use Rattle.wasm_operator_validator_rules.specs.Typed.{IsBody}
use Rattle.wasm_module_validator_rules.specs.Syntax.{ModuleTree}
use Rattle.wasm_module_validator_rules.specs.Spaces.{module_of}
use Rattle.wasm_module_validator_rules.specs.Valid.{body_context}
use Rattle.wasm_module_validator_rules.specs.worked.Trees.{Yes, everything, one_function, procedure, takes_i32, gives_i32, some_function, locals_of}
use Rattle.wasm_module_validator_rules.specs.worked.Functions.{BlocksWorked, LocalsWorked, ElseWorked, i32_to_i32, with_local}
use Rattle.wasm_module_validator_rules.proofs.WorkedParts.{tree_holds, function_is}

-- ---- functions by their types

-- the body of the function of type 0, with these parameters, results and locals
abbrev IsBodyIn : ModuleTree → List ValueType → List ValueType → List LocalGroup → Code → Type 0
IsBodyIn m ps rs gs c = IsBody (body_context everything (module_of m) (type_at (module_of m).types 0) (record { params = ps; results = rs }) gs) (length ps) c

procedure_holds : {c : Code} → IsBodyIn (one_function procedure c) [] [] [] c → Yes (one_function procedure c)
unfolding has opened types_from default_limits
procedure_holds body = tree_holds (next (search rules) done) (_, _, refl, refl) tt tt tt (_, refl, function_is refl tt (search rules) body) (search rules)

gives_holds : {c : Code} → IsBodyIn (one_function gives_i32 c) [] (number i32 ∷ []) [] c → Yes (one_function gives_i32 c)
unfolding has opened types_from default_limits
gives_holds body = tree_holds (next (search rules) done) (_, _, refl, refl) tt tt tt (_, refl, function_is refl tt (search rules) body) (search rules)

takes_holds : {c : Code} → IsBodyIn (one_function takes_i32 c) (number i32 ∷ []) [] [] c → Yes (one_function takes_i32 c)
unfolding has opened types_from default_limits
takes_holds body = tree_holds (next (search rules) done) (_, _, refl, refl) tt tt tt (_, refl, function_is refl tt (search rules) body) (search rules)

passes_holds : {c : Code} → IsBodyIn (one_function i32_to_i32 c) (number i32 ∷ []) (number i32 ∷ []) [] c → Yes (one_function i32_to_i32 c)
unfolding has opened types_from default_limits
passes_holds body = tree_holds (next (search rules) done) (_, _, refl, refl) tt tt tt (_, refl, function_is refl tt (search rules) body) (search rules)

local_holds : {c : Code} → IsBodyIn (with_local c) (ref false (abstract false func) ∷ []) [] (locals_of 1 (value.Ref some_function)) c → Yes (with_local c)
unfolding has opened types_from default_limits
local_holds body = tree_holds (next (search rules) done) (_, _, refl, refl) tt tt tt (_, refl, function_is refl ((_, record { allowed = search rules; known = tt; is = refl }), tt) (search rules) body) (search rules)

-- operands
abbrev an_i32 : Operand
an_i32 = known (number i32)

abbrev an_i64 : Operand
an_i64 = known (number i64)

abbrev a_function : Operand
a_function = known (ref false (abstract false func))

pub blocks_worked : (x : ℤ) → BlocksWorked x
unfolding has opened types_from default_limits
blocks_worked x = record {
  br_to_block = procedure_holds (record {
    expression = (frames.Block, refl, (refl, refl), refl);
    typed = (
      frames.Block,
      record { params = []; results = [] },
      [],
      (refl, refl, tt),
      tt,
      ([], ([], [], [], (search rules, ([], [], refl, refl)), tt, refl), (tt, tt, tt)),
      (tt, tt, tt),
    );
  });
  br_to_function = procedure_holds (record {
    expression = (frames.Block, refl, (refl, refl), refl);
    typed = (
      frames.Block,
      record { params = []; results = [] },
      [],
      (refl, refl, tt),
      tt,
      ([], ([], [], [], (search rules, ([], [], refl, refl)), tt, refl), (tt, tt, tt)),
      (tt, tt, tt),
    );
  });
  br_too_far = search rules;
  br_with_value = gives_holds (record {
    expression = (frames.Block, refl, (refl, (refl, refl)), refl);
    typed = (
      frames.Block,
      record { params = []; results = number i32 ∷ [] },
      [],
      (refl, search rules, tt),
      tt,
      (
        an_i32 ∷ [],
        ([], an_i32 ∷ [], [], (search rules, (_, refl, (refl, refl))), tt, refl),
        (an_i32 ∷ [], (an_i32 ∷ [], an_i32 ∷ [], [], (search rules, (number i32 ∷ [], [], refl, refl)), (refl, tt), refl), ((refl, tt), tt, tt)),
      ),
      ((refl, tt), tt, tt),
    );
  });
  br_if_in_block = procedure_holds (record {
    expression = (frames.Block, refl, (refl, (refl, refl)), refl);
    typed = (
      frames.Block,
      record { params = []; results = [] },
      [],
      (refl, refl, tt),
      tt,
      (
        an_i32 ∷ [],
        ([], an_i32 ∷ [], [], (search rules, (_, refl, (refl, refl))), tt, refl),
        ([], (an_i32 ∷ [], [], [], (search rules, ([], refl, (refl, refl))), (refl, tt), refl), (tt, tt, tt)),
      ),
      (tt, tt, tt),
    );
  });
  br_if_by_long = search rules;
  br_if_with_value = gives_holds (record {
    expression = (frames.Block, refl, (refl, (refl, (refl, refl))), refl);
    typed = (
      frames.Block,
      record { params = []; results = number i32 ∷ [] },
      [],
      (refl, search rules, tt),
      tt,
      (
        an_i32 ∷ [],
        ([], an_i32 ∷ [], [], (search rules, (_, refl, (refl, refl))), tt, refl),
        (
          an_i32 ∷ an_i32 ∷ [],
          ([], an_i32 ∷ [], an_i32 ∷ [], (search rules, (_, refl, (refl, refl))), (refl, tt), refl),
          (
            an_i32 ∷ [],
            (an_i32 ∷ an_i32 ∷ [], an_i32 ∷ [], [], (search rules, (number i32 ∷ [], refl, (refl, refl))), (refl, (refl, tt)), refl),
            ((refl, tt), tt, tt),
          ),
        ),
      ),
      ((refl, tt), tt, tt),
    );
  });
  br_if_without_value = search rules;
  br_if_with_another_type = search rules;
  br_if_to_function = gives_holds (record {
    expression = (frames.Block, refl, (refl, (refl, (refl, (refl, refl)))), (refl, refl));
    typed = (
      frames.Block,
      record { params = []; results = [] },
      [],
      (refl, refl, tt),
      tt,
      (
        an_i32 ∷ [],
        ([], an_i32 ∷ [], [], (search rules, (_, refl, (refl, refl))), tt, refl),
        (
          an_i32 ∷ an_i32 ∷ [],
          ([], an_i32 ∷ [], an_i32 ∷ [], (search rules, (_, refl, (refl, refl))), (refl, tt), refl),
          (
            an_i32 ∷ [],
            (an_i32 ∷ an_i32 ∷ [], an_i32 ∷ [], [], (search rules, (number i32 ∷ [], refl, (refl, refl))), (refl, (refl, tt)), refl),
            ([], (an_i32 ∷ [], [], [], (search rules, (an_i32, refl, refl)), (refl, tt), refl), (tt, tt, tt)),
          ),
        ),
      ),
      (an_i32 ∷ [], ([], an_i32 ∷ [], [], (search rules, (_, refl, (refl, refl))), tt, refl), ((refl, tt), tt, tt)),
    );
  });
  br_if_to_function_without_value = search rules;
  br_to_loop = gives_holds (record {
    expression = (frames.Loop, refl, (refl, refl), refl);
    typed = (
      frames.Loop,
      record { params = []; results = number i32 ∷ [] },
      [],
      (refl, search rules, tt),
      tt,
      (an_i32 ∷ [], ([], an_i32 ∷ [], [], (search rules, ([], [], refl, refl)), tt, refl), ((refl, tt), tt, tt)),
      ((refl, tt), tt, tt),
    );
  });
  br_to_loop_with_parameter = takes_holds (record {
    expression = (refl, (frames.Loop, refl, (refl, refl), refl));
    typed = (
      an_i32 ∷ [],
      ([], an_i32 ∷ [], [], (search rules, (_, record { local = refl; used = search rules }, refl, (refl, refl))), tt, refl),
      (
        frames.Loop,
        record { params = number i32 ∷ []; results = [] },
        [],
        (refl, (search rules, _, refl, refl), tt),
        (refl, tt),
        ([], (an_i32 ∷ [], [], [], (search rules, (number i32 ∷ [], [], refl, refl)), (refl, tt), refl), (tt, tt, tt)),
        (tt, tt, tt),
      ),
    );
  });
  br_if_to_loop = takes_holds (record {
    expression = (refl, (frames.Loop, refl, (refl, (refl, (refl, refl))), refl));
    typed = (
      an_i32 ∷ [],
      ([], an_i32 ∷ [], [], (search rules, (_, record { local = refl; used = search rules }, refl, (refl, refl))), tt, refl),
      (
        frames.Loop,
        record { params = number i32 ∷ []; results = [] },
        [],
        (refl, (search rules, _, refl, refl), tt),
        (refl, tt),
        (
          an_i32 ∷ an_i32 ∷ [],
          ([], an_i32 ∷ [], an_i32 ∷ [], (search rules, (_, refl, (refl, refl))), (refl, tt), refl),
          (
            an_i32 ∷ [],
            (an_i32 ∷ an_i32 ∷ [], an_i32 ∷ [], [], (search rules, (number i32 ∷ [], refl, (refl, refl))), (refl, (refl, tt)), refl),
            ([], (an_i32 ∷ [], [], [], (search rules, (an_i32, refl, refl)), (refl, tt), refl), (tt, tt, tt)),
          ),
        ),
        (tt, tt, tt),
      ),
    );
  });
  br_if_to_loop_without_parameter = search rules;
  br_if_to_block_without_parameter = takes_holds (record {
    expression = (refl, (frames.Block, refl, (refl, (refl, (refl, refl))), refl));
    typed = (
      an_i32 ∷ [],
      ([], an_i32 ∷ [], [], (search rules, (_, record { local = refl; used = search rules }, refl, (refl, refl))), tt, refl),
      (
        frames.Block,
        record { params = number i32 ∷ []; results = [] },
        [],
        (refl, (search rules, _, refl, refl), tt),
        (refl, tt),
        (
          [],
          (an_i32 ∷ [], [], [], (search rules, (an_i32, refl, refl)), (refl, tt), refl),
          (
            an_i32 ∷ [],
            ([], an_i32 ∷ [], [], (search rules, (_, refl, (refl, refl))), tt, refl),
            ([], (an_i32 ∷ [], [], [], (search rules, ([], refl, (refl, refl))), (refl, tt), refl), (tt, tt, tt)),
          ),
        ),
        (tt, tt, tt),
      ),
    );
  });
  block_of_type_needs = (
    procedure_holds (record {
      expression = (frames.Block, refl, refl, refl);
      typed = (frames.Block, record { params = []; results = [] }, [], (refl, (search rules, _, refl, refl), tt), tt, (tt, tt, tt), (tt, tt, tt));
    }),
    search rules,
  );
  block_of_unknown_type = search rules;
  block_of_other_type = tree_holds (next (search rules) (next (search rules) done)) (_, _, refl, refl) tt tt tt (_, refl, function_is refl tt (search rules) (record { expression = (frames.Block, refl, refl, refl); typed = (frames.Block, record { params = []; results = [] }, [], (refl, (search rules, _, refl, refl), tt), tt, (tt, tt, tt), (tt, tt, tt)) })) (search rules);
  block_of_struct = search rules;
  block_with_parameter = passes_holds (record {
    expression = (refl, (frames.Block, refl, refl, refl));
    typed = (
      an_i32 ∷ [],
      ([], an_i32 ∷ [], [], (search rules, (_, record { local = refl; used = search rules }, refl, (refl, refl))), tt, refl),
      (
        frames.Block,
        record { params = number i32 ∷ []; results = number i32 ∷ [] },
        [],
        (refl, (search rules, _, refl, refl), tt),
        (refl, tt),
        ((refl, tt), tt, tt),
        ((refl, tt), tt, tt),
      ),
    );
  });
  block_without_parameter = search rules;
  block_with_another_parameter = search rules;
  block_dropping_parameter = search rules;
  block_replacing_parameter = passes_holds (record {
    expression = (refl, (frames.Block, refl, (refl, (refl, refl)), refl));
    typed = (
      an_i32 ∷ [],
      ([], an_i32 ∷ [], [], (search rules, (_, record { local = refl; used = search rules }, refl, (refl, refl))), tt, refl),
      (
        frames.Block,
        record { params = number i32 ∷ []; results = number i32 ∷ [] },
        [],
        (refl, (search rules, _, refl, refl), tt),
        (refl, tt),
        (
          [],
          (an_i32 ∷ [], [], [], (search rules, (an_i32, refl, refl)), (refl, tt), refl),
          (an_i32 ∷ [], ([], an_i32 ∷ [], [], (search rules, (_, refl, (refl, refl))), tt, refl), ((refl, tt), tt, tt)),
        ),
        ((refl, tt), tt, tt),
      ),
    );
  });
  block_reaching_out = search rules;
  block_leaving_one = search rules;
  block_result_dropped = procedure_holds (record {
    expression = (frames.Block, refl, (refl, refl), (refl, refl));
    typed = (
      frames.Block,
      record { params = []; results = number i32 ∷ [] },
      [],
      (refl, search rules, tt),
      tt,
      (an_i32 ∷ [], ([], an_i32 ∷ [], [], (search rules, (_, refl, (refl, refl))), tt, refl), ((refl, tt), tt, tt)),
      ([], (an_i32 ∷ [], [], [], (search rules, (an_i32, refl, refl)), (refl, tt), refl), (tt, tt, tt)),
    );
  });
}

pub locals_worked : (x : ℤ) → LocalsWorked x
unfolding has opened types_from default_limits
locals_worked x = record {
  parameter = local_holds (record {
    expression = (refl, (refl, refl));
    typed = (
      a_function ∷ [],
      ([], a_function ∷ [], [], (search rules, (_, record { local = refl; used = search rules }, refl, (refl, refl))), tt, refl),
      ([], (a_function ∷ [], [], [], (search rules, (a_function, refl, refl)), ((tt, (refl, same)), tt), refl), (tt, tt, tt)),
    );
  });
  unset = search rules;
  set = local_holds (record {
    expression = (refl, (refl, (refl, (refl, refl))));
    typed = (
      a_function ∷ [],
      ([], a_function ∷ [], [], (search rules, (_, record { local = refl; used = search rules }, refl, (refl, refl))), tt, refl),
      (
        [],
        (a_function ∷ [], [], [], (search rules, (_, record { local = refl; used = search rules }, (refl, refl))), ((tt, (refl, same)), tt), refl),
        (
          a_function ∷ [],
          ([], a_function ∷ [], [], (search rules, (_, record { local = refl; used = search rules }, refl, (refl, refl))), tt, refl),
          ([], (a_function ∷ [], [], [], (search rules, (a_function, refl, refl)), ((tt, (refl, same)), tt), refl), (tt, tt, tt)),
        ),
      ),
    );
  });
  set_before_block = local_holds (record {
    expression = (refl, (refl, (frames.Block, refl, (refl, (refl, refl)), refl)));
    typed = (
      a_function ∷ [],
      ([], a_function ∷ [], [], (search rules, (_, record { local = refl; used = search rules }, refl, (refl, refl))), tt, refl),
      (
        [],
        (a_function ∷ [], [], [], (search rules, (_, record { local = refl; used = search rules }, (refl, refl))), ((tt, (refl, same)), tt), refl),
        (
          frames.Block,
          record { params = []; results = [] },
          [],
          (refl, refl, tt),
          tt,
          (
            a_function ∷ [],
            ([], a_function ∷ [], [], (search rules, (_, record { local = refl; used = search rules }, refl, (refl, refl))), tt, refl),
            ([], (a_function ∷ [], [], [], (search rules, (a_function, refl, refl)), ((tt, (refl, same)), tt), refl), (tt, tt, tt)),
          ),
          (tt, tt, tt),
        ),
      ),
    );
  });
  set_in_block = local_holds (record {
    expression = (frames.Block, refl, (refl, (refl, (refl, (refl, refl)))), refl);
    typed = (
      frames.Block,
      record { params = []; results = [] },
      [],
      (refl, refl, tt),
      tt,
      (
        a_function ∷ [],
        ([], a_function ∷ [], [], (search rules, (_, record { local = refl; used = search rules }, refl, (refl, refl))), tt, refl),
        (
          [],
          (a_function ∷ [], [], [], (search rules, (_, record { local = refl; used = search rules }, (refl, refl))), ((tt, (refl, same)), tt), refl),
          (
            a_function ∷ [],
            ([], a_function ∷ [], [], (search rules, (_, record { local = refl; used = search rules }, refl, (refl, refl))), tt, refl),
            ([], (a_function ∷ [], [], [], (search rules, (a_function, refl, refl)), ((tt, (refl, same)), tt), refl), (tt, tt, tt)),
          ),
        ),
      ),
      (tt, tt, tt),
    );
  });
  set_in_block_before = search rules;
  set_in_loop_before = search rules;
  set_before_else = local_holds (record {
    expression = (refl, (refl, (refl, (frames.If, refl, (refl, (refl, (frames.Else, refl, (refl, (refl, refl))))), refl))));
    typed = (
      a_function ∷ [],
      ([], a_function ∷ [], [], (search rules, (_, record { local = refl; used = search rules }, refl, (refl, refl))), tt, refl),
      (
        [],
        (a_function ∷ [], [], [], (search rules, (_, record { local = refl; used = search rules }, (refl, refl))), ((tt, (refl, same)), tt), refl),
        (
          an_i32 ∷ [],
          ([], an_i32 ∷ [], [], (search rules, (_, refl, (refl, refl))), tt, refl),
          (
            frames.If,
            record { params = []; results = [] },
            [],
            (refl, refl, tt),
            (refl, tt),
            (
              a_function ∷ [],
              ([], a_function ∷ [], [], (search rules, (_, record { local = refl; used = search rules }, refl, (refl, refl))), tt, refl),
              (
                [],
                (a_function ∷ [], [], [], (search rules, (a_function, refl, refl)), ((tt, (refl, same)), tt), refl),
                (
                  _,
                  refl,
                  tt,
                  (
                    a_function ∷ [],
                    ([], a_function ∷ [], [], (search rules, (_, record { local = refl; used = search rules }, refl, (refl, refl))), tt, refl),
                    ([], (a_function ∷ [], [], [], (search rules, (a_function, refl, refl)), ((tt, (refl, same)), tt), refl), (tt, tt, tt)),
                  ),
                ),
              ),
            ),
            (tt, tt, tt),
          ),
        ),
      ),
    );
  });
  set_in_each_part = local_holds (record {
    expression = (refl, (frames.If, refl, (refl, (refl, (refl, (refl, (frames.Else, refl, (refl, (refl, (refl, (refl, refl))))))))), refl));
    typed = (
      an_i32 ∷ [],
      ([], an_i32 ∷ [], [], (search rules, (_, refl, (refl, refl))), tt, refl),
      (
        frames.If,
        record { params = []; results = [] },
        [],
        (refl, refl, tt),
        (refl, tt),
        (
          a_function ∷ [],
          ([], a_function ∷ [], [], (search rules, (_, record { local = refl; used = search rules }, refl, (refl, refl))), tt, refl),
          (
            [],
            (a_function ∷ [], [], [], (search rules, (_, record { local = refl; used = search rules }, (refl, refl))), ((tt, (refl, same)), tt), refl),
            (
              a_function ∷ [],
              ([], a_function ∷ [], [], (search rules, (_, record { local = refl; used = search rules }, refl, (refl, refl))), tt, refl),
              (
                [],
                (a_function ∷ [], [], [], (search rules, (a_function, refl, refl)), ((tt, (refl, same)), tt), refl),
                (
                  _,
                  refl,
                  tt,
                  (
                    a_function ∷ [],
                    ([], a_function ∷ [], [], (search rules, (_, record { local = refl; used = search rules }, refl, (refl, refl))), tt, refl),
                    (
                      [],
                      (
                        a_function ∷ [],
                        [],
                        [],
                        (search rules, (_, record { local = refl; used = search rules }, (refl, refl))),
                        ((tt, (refl, same)), tt),
                        refl,
                      ),
                      (
                        a_function ∷ [],
                        ([], a_function ∷ [], [], (search rules, (_, record { local = refl; used = search rules }, refl, (refl, refl))), tt, refl),
                        ([], (a_function ∷ [], [], [], (search rules, (a_function, refl, refl)), ((tt, (refl, same)), tt), refl), (tt, tt, tt)),
                      ),
                    ),
                  ),
                ),
              ),
            ),
          ),
        ),
        (tt, tt, tt),
      ),
    );
  });
  set_in_first_part = search rules;
  set_in_both_parts_before = search rules;
  of_number = tree_holds (next (search rules) done) (_, _, refl, refl) tt tt tt (_, refl, function_is refl ((_, record { allowed = search rules; known = tt; is = refl }), tt) (search rules) (record { expression = (refl, (refl, refl)); typed = (an_i64 ∷ [], ([], an_i64 ∷ [], [], (search rules, (_, record { local = refl; used = search rules }, refl, (refl, refl))), tt, refl), ([], (an_i64 ∷ [], [], [], (search rules, (an_i64, refl, refl)), (refl, tt), refl), (tt, tt, tt))) })) (search rules);
  of_number_unknown = search rules;
}

pub else_worked : (x : ℤ) → ElseWorked x
unfolding has opened types_from default_limits
else_worked x = record {
  both_give = gives_holds (record {
    expression = (refl, (frames.If, refl, (refl, (frames.Else, refl, (refl, refl))), refl));
    typed = (
      an_i32 ∷ [],
      ([], an_i32 ∷ [], [], (search rules, (_, refl, (refl, refl))), tt, refl),
      (
        frames.If,
        record { params = []; results = number i32 ∷ [] },
        [],
        (refl, search rules, tt),
        (refl, tt),
        (
          an_i32 ∷ [],
          ([], an_i32 ∷ [], [], (search rules, (_, refl, (refl, refl))), tt, refl),
          (_, refl, (refl, tt), (an_i32 ∷ [], ([], an_i32 ∷ [], [], (search rules, (_, refl, (refl, refl))), tt, refl), ((refl, tt), tt, tt))),
        ),
        ((refl, tt), tt, tt),
      ),
    );
  });
  first_gives_nothing = search rules;
  second_gives_nothing = search rules;
  second_gives_another_type = search rules;
  second_missing = search rules;
  second_takes_parameter = takes_holds (record {
    expression = (refl, (refl, (frames.If, refl, (refl, (frames.Else, refl, (refl, refl))), refl)));
    typed = (
      an_i32 ∷ [],
      ([], an_i32 ∷ [], [], (search rules, (_, record { local = refl; used = search rules }, refl, (refl, refl))), tt, refl),
      (
        an_i32 ∷ an_i32 ∷ [],
        ([], an_i32 ∷ [], an_i32 ∷ [], (search rules, (_, refl, (refl, refl))), (refl, tt), refl),
        (
          frames.If,
          record { params = number i32 ∷ []; results = [] },
          [],
          (refl, (search rules, _, refl, refl), tt),
          (refl, (refl, tt)),
          (
            [],
            (an_i32 ∷ [], [], [], (search rules, (an_i32, refl, refl)), (refl, tt), refl),
            (_, refl, tt, ([], (an_i32 ∷ [], [], [], (search rules, (an_i32, refl, refl)), (refl, tt), refl), (tt, tt, tt))),
          ),
          (tt, tt, tt),
        ),
      ),
    );
  });
  second_leaves_parameter = search rules;
  passes_parameter = passes_holds (record {
    expression = (refl, (refl, (frames.If, refl, refl, refl)));
    typed = (
      an_i32 ∷ [],
      ([], an_i32 ∷ [], [], (search rules, (_, record { local = refl; used = search rules }, refl, (refl, refl))), tt, refl),
      (
        an_i32 ∷ an_i32 ∷ [],
        ([], an_i32 ∷ [], an_i32 ∷ [], (search rules, (_, refl, (refl, refl))), (refl, tt), refl),
        (
          frames.If,
          record { params = number i32 ∷ []; results = number i32 ∷ [] },
          [],
          (refl, (search rules, _, refl, refl), tt),
          (refl, (refl, tt)),
          ((refl, tt), (refl, tt), tt),
          ((refl, tt), tt, tt),
        ),
      ),
    );
  });
}
