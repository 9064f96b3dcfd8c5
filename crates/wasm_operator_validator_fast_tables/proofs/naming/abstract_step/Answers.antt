use Rattle.std.proofs.Common.{refl}
use Rattle.wasm_types.specs.trees.AbstractOrder.{same, struct_eq, array_eq, i31_eq, none_any, none_eq, none_struct, none_array, none_i31, nofunc_func, noextern_extern, noexn_exn, eq_any}
use Rattle.wasm_operator_validator_fast_tables.proofs.Climbing.{stays, step_at}
use Rattle.wasm_operator_validator_fast_tables.proofs.naming.abstract_step.Goals as goal

pub returns-in-0 : goal.returns-in-0
returns-in-0 c = λ ids. step_at ids c.args.number 0 (record { above = 0; bottom = 5; far = 0; depth = 0 }) c.in-0.is (record { up = (refl, same); far = (refl, same); down = (refl, nofunc_func) })

pub returns-in-1 : goal.returns-in-1
returns-in-1 c = λ ids. step_at ids c.args.number 1 (record { above = 1; bottom = 4; far = 1; depth = 0 }) c.in-1.is (record { up = (refl, same); far = (refl, same); down = (refl, noextern_extern) })

pub returns-in-2 : goal.returns-in-2
returns-in-2 c = λ ids. step_at ids c.args.number 2 (record { above = 2; bottom = 3; far = 2; depth = 0 }) c.in-2.is (record { up = (refl, same); far = (refl, same); down = (refl, none_any) })

pub returns-in-6 : goal.returns-in-6
returns-in-6 c = λ ids. step_at ids c.args.number 6 (record { above = 2; bottom = 3; far = 2; depth = 1 }) c.in-6.is (record { up = (refl, eq_any); far = (refl, eq_any); down = (refl, none_eq) })

pub returns-in-7 : goal.returns-in-7
returns-in-7 c = λ ids. step_at ids c.args.number 7 (record { above = 6; bottom = 3; far = 6; depth = 2 }) c.in-7.is (record { up = (refl, struct_eq); far = (refl, struct_eq); down = (refl, none_struct) })

pub returns-in-8 : goal.returns-in-8
returns-in-8 c = λ ids. step_at ids c.args.number 8 (record { above = 6; bottom = 3; far = 6; depth = 2 }) c.in-8.is (record { up = (refl, array_eq); far = (refl, array_eq); down = (refl, none_array) })

pub returns-in-9 : goal.returns-in-9
returns-in-9 c = λ ids. step_at ids c.args.number 9 (record { above = 6; bottom = 3; far = 6; depth = 2 }) c.in-9.is (record { up = (refl, i31_eq); far = (refl, i31_eq); down = (refl, none_i31) })

pub returns-in-10 : goal.returns-in-10
returns-in-10 c = λ ids. step_at ids c.args.number 10 (record { above = 10; bottom = 11; far = 10; depth = 0 }) c.in-10.is (record { up = (refl, same); far = (refl, same); down = (refl, noexn_exn) })

pub returns-in_default : goal.returns-in_default
returns-in_default c = λ ids. stays ids c.args.number
