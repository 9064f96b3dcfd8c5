-- Rows of operators on continuations that hold, and rows that do not.
use Rattle.std.specs.Prelude.{true, false, List, [], ◌∷◌, None}
use Rattle.wasm_types.specs.trees.Types.{i32, i64, f64, cont, number, ref, abstract, exact, function, continuation}
use Rattle.wasm_types.specs.trees.Trees.{TypeTree}
use Rattle.wasm_types.specs.trees.worked.Types.{alone, declared_entry}
use Rattle.wasm_operators_immediates.specs.declared.handlers.Handle.{Handle}
use Rattle.wasm_operators_immediates.specs.declared.handlers.Handle.TheVariants as handler
use Rattle.wasm_operators_enums.specs.Op as op
use Rattle.wasm_operator_validator_rules.specs.Operands.{ValueType, Operand, known}
use Rattle.wasm_operator_validator_rules.specs.Context.{Module, Context}
use Rattle.wasm_operator_validator_rules.specs.Exceptions.{exception}
use Rattle.wasm_operator_validator_rules.specs.Continuations.{ContinuationRow}
use Rattle.wasm_operator_validator_rules.specs.worked.Contexts.{somewhere, some_module}
use Rattle.wasm_operator_validator_rules.specs.worked.Operators.{i32_known, i64_known}
use Rattle.wasm_operator_validator_rules.specs.worked.References.{null_to, to, cell, HasNo}

-- ---- types: function types and continuations of them

abbrev pub from_to : List ValueType → List ValueType → TypeTree
from_to ps rs = alone (declared_entry None false (function ps rs))

abbrev pub of_function : TypeTree → TypeTree
of_function f = alone (declared_entry None false (continuation f))

abbrev pub continues : List ValueType → List ValueType → TypeTree
continues ps rs = of_function (from_to ps rs)

-- from nothing to an i32; from a float to an i32, and to an i64
abbrev pub started : TypeTree
started = continues [] (number i32 ∷ [])

abbrev pub resumed : TypeTree
resumed = continues (number f64 ∷ []) (number i32 ∷ [])

abbrev pub resumed_otherwise : TypeTree
resumed_otherwise = continues (number f64 ∷ []) (number i64 ∷ [])

-- from two numbers to an i32; from a number and a continuation, and two that are like it, except for what the other or this one gives,
-- or that it is exact
abbrev pub of_two : TypeTree
of_two = continues (number i64 ∷ number f64 ∷ []) (number i32 ∷ [])

abbrev pub passed : TypeTree
passed = continues (number i64 ∷ null_to resumed ∷ []) (number i32 ∷ [])

abbrev pub passed_otherwise : TypeTree
passed_otherwise = continues (number i64 ∷ null_to resumed_otherwise ∷ []) (number i32 ∷ [])

abbrev pub passed_on : TypeTree
passed_on = continues (number i64 ∷ null_to resumed ∷ []) (number i64 ∷ [])

abbrev pub passed_exactly : TypeTree
passed_exactly = continues (number i64 ∷ ref true (exact resumed) ∷ []) (number i32 ∷ [])

-- cells, which may be null or may not: the second kind is a proper subtype of the first
abbrev pub null_cell : ValueType
null_cell = null_to cell

abbrev pub full_cell : ValueType
full_cell = to cell

abbrev pub full_to_null : TypeTree
full_to_null = continues (full_cell ∷ []) (null_cell ∷ [])

abbrev pub full_to_full : TypeTree
full_to_full = continues (full_cell ∷ []) (full_cell ∷ [])

abbrev pub null_to_null : TypeTree
null_to_null = continues (null_cell ∷ []) (null_cell ∷ [])

-- the same with a number before them
abbrev pub more_null_to_full : TypeTree
more_null_to_full = continues (number i64 ∷ null_cell ∷ []) (full_cell ∷ [])

abbrev pub more_full_to_null : TypeTree
more_full_to_null = continues (number i64 ∷ full_cell ∷ []) (null_cell ∷ [])

-- from nothing to a cell
abbrev pub giving_null : TypeTree
giving_null = continues [] (null_cell ∷ [])

abbrev pub giving_full : TypeTree
giving_full = continues [] (full_cell ∷ [])

-- switched to with one of the continuations above
abbrev pub switching : TypeTree → ValueType → TypeTree
switching d r = continues (number i64 ∷ null_to d ∷ []) (r ∷ [])

-- a shared one, and one that is of no function, as no valid group has it
abbrev pub shared_function : TypeTree
shared_function = alone (declared_entry None true (function [] (number i32 ∷ [])))

abbrev pub shared_started : TypeTree
shared_started = alone (declared_entry None true (continuation shared_function))

abbrev pub of_a_cell : TypeTree
of_a_cell = of_function cell

-- ---- contexts

abbrev pub with_continuations : Module
with_continuations = record some_module {
  types =
      started ∷ resumed ∷ resumed_otherwise ∷ of_two ∷ passed ∷ passed_otherwise ∷ passed_on ∷ passed_exactly ∷ full_to_null ∷ full_to_full ∷ null_to_null
      ∷ more_null_to_full ∷ more_full_to_null ∷ giving_null ∷ giving_full ∷ switching full_to_null full_cell ∷ switching full_to_null null_cell
      ∷ switching full_to_full full_cell ∷ shared_started ∷ of_a_cell ∷ cell ∷ from_to [] [] ∷ [];
  tags =
      from_to (number i32 ∷ []) [] ∷ from_to (number i64 ∷ []) (number f64 ∷ []) ∷ from_to [] (number i32 ∷ []) ∷ from_to (number i64 ∷ []) (number i32 ∷ [])
      ∷ from_to [] (full_cell ∷ []) ∷ from_to [] (null_cell ∷ []) ∷ from_to (full_cell ∷ []) (null_cell ∷ []) ∷ from_to (full_cell ∷ []) (full_cell ∷ [])
      ∷ from_to (null_cell ∷ []) (null_cell ∷ []) ∷ [];
}

abbrev pub there : Context
there = record somewhere { «module» = with_continuations }

abbrev pub there_shared : Context
there_shared = record there { shared = true }

-- within a frame to which a branch takes these
abbrev pub below : List ValueType → Context
below ts = record there { labels = ts ∷ [] }

abbrev pub f64_known : Operand
f64_known = known (number f64)

-- ---- rows

pub record ContinuationsWorked : Type 0 where
  pub new : ContinuationRow there (op.ContNew 0) (known (null_to (from_to [] (number i32 ∷ []))) ∷ []) (known (to started) ∷ [])
  pub new_function : HasNo (ContinuationRow there (op.ContNew 21))
  pub new_of_no_function : HasNo (ContinuationRow there (op.ContNew 19))
  pub new_shared : ContinuationRow there_shared (op.ContNew 18) (known (null_to shared_function) ∷ []) (known (to shared_started) ∷ [])
  pub new_not_shared : HasNo (ContinuationRow there_shared (op.ContNew 0))
  pub suspend : ContinuationRow there (op.Suspend 1) (i64_known ∷ []) (f64_known ∷ [])
  pub suspend_other : ContinuationRow there (op.Suspend 1) (i32_known ∷ []) (f64_known ∷ []) → ⊥
  pub suspend_unknown : HasNo (ContinuationRow there (op.Suspend 9))
  pub bind : ContinuationRow there (op.ContBind 3 1) (i64_known ∷ known (null_to of_two) ∷ []) (known (to resumed) ∷ [])
  pub bind_other : HasNo (ContinuationRow there (op.ContBind 3 2))
  pub bind_below : ContinuationRow there (op.ContBind 11 8) (i64_known ∷ known (null_to more_null_to_full) ∷ []) (known (to full_to_null) ∷ [])
  pub bind_above : HasNo (ContinuationRow there (op.ContBind 12 10))
  pub bind_gives_above : HasNo (ContinuationRow there (op.ContBind 12 9))
  pub bind_more : HasNo (ContinuationRow there (op.ContBind 1 3))
  pub bind_not_shared : HasNo (ContinuationRow there_shared (op.ContBind 3 1))
  pub resume_alone : ContinuationRow there (op.Resume 1 []) (f64_known ∷ known (null_to resumed) ∷ []) (i32_known ∷ [])
  pub resume_struct : HasNo (ContinuationRow there (op.Resume 20 []))
  pub resume_shared : ContinuationRow there_shared (op.Resume 18 []) (known (null_to shared_started) ∷ []) (i32_known ∷ [])
  pub resume_not_shared : HasNo (ContinuationRow there_shared (op.Resume 1 []))
  pub resume_throw : ContinuationRow there (op.ResumeThrow 1 0 []) (i32_known ∷ known (null_to resumed) ∷ []) (i32_known ∷ [])
  pub resume_throw_gives : HasNo (ContinuationRow there (op.ResumeThrow 1 1 []))
  pub resume_throw_ref : ContinuationRow there (op.ResumeThrowRef 1 []) (known (exception true) ∷ known (null_to resumed) ∷ []) (i32_known ∷ [])
  pub resume_throw_ref_not_shared : HasNo (ContinuationRow there_shared (op.ResumeThrowRef 1 []))

abbrev pub on_label : List Handle
on_label = handler.OnLabel 1 0 ∷ []

pub record HandlersWorked : Type 0 where
  pub handled : ContinuationRow (below (number i64 ∷ to resumed ∷ [])) (op.Resume 0 on_label) (known (null_to started) ∷ []) (i32_known ∷ [])
  pub left_otherwise : HasNo (ContinuationRow (below (number i64 ∷ to resumed_otherwise ∷ [])) (op.Resume 0 on_label))
  pub left_started : HasNo (ContinuationRow (below (number i64 ∷ to started ∷ [])) (op.Resume 0 on_label))
  pub left_any : HasNo (ContinuationRow (below (number i64 ∷ ref true (abstract false cont) ∷ [])) (op.Resume 0 on_label))
  pub left_exactly : HasNo (ContinuationRow (below (number i64 ∷ ref false (exact resumed) ∷ [])) (op.Resume 0 on_label))
  pub carries_other : HasNo (ContinuationRow (below (number i32 ∷ to resumed ∷ [])) (op.Resume 0 on_label))
  pub unknown_label : HasNo (ContinuationRow (below (number i64 ∷ to resumed ∷ [])) (op.Resume 0 (handler.OnLabel 1 1 ∷ [])))
  pub unknown_tag : HasNo (ContinuationRow (below (number i64 ∷ to resumed ∷ [])) (op.Resume 0 (handler.OnLabel 9 0 ∷ [])))
  pub throws : ContinuationRow (below (number i64 ∷ to resumed ∷ [])) (op.ResumeThrow 0 0 on_label) (i32_known ∷ known (null_to started) ∷ []) (i32_known ∷ [])
  pub throws_left_otherwise : HasNo (ContinuationRow (below (number i64 ∷ to resumed_otherwise ∷ [])) (op.ResumeThrowRef 0 on_label))
  pub fits_below : ContinuationRow (below (null_cell ∷ to full_to_null ∷ [])) (op.Resume 14 (handler.OnLabel 6 0 ∷ [])) (known (null_to giving_full) ∷ []) (known full_cell ∷ [])
  pub left_takes_above : HasNo (ContinuationRow (below (null_cell ∷ to null_to_null ∷ [])) (op.Resume 14 (handler.OnLabel 7 0 ∷ [])))
  pub left_gives_below : HasNo (ContinuationRow (below (null_cell ∷ to full_to_full ∷ [])) (op.Resume 13 (handler.OnLabel 6 0 ∷ [])))
  pub carries_above : HasNo (ContinuationRow (below (full_cell ∷ to null_to_null ∷ [])) (op.Resume 14 (handler.OnLabel 8 0 ∷ [])))
  pub switched : ContinuationRow there (op.Resume 0 (handler.OnSwitch 2 ∷ [])) (known (null_to started) ∷ []) (i32_known ∷ [])
  pub switched_gives_other : HasNo (ContinuationRow there (op.Resume 2 (handler.OnSwitch 2 ∷ [])))
  pub switched_above : HasNo (ContinuationRow there (op.Resume 13 (handler.OnSwitch 4 ∷ [])))
  pub switched_below : HasNo (ContinuationRow there (op.Resume 14 (handler.OnSwitch 5 ∷ [])))
  pub switched_carries : HasNo (ContinuationRow there (op.Resume 0 (handler.OnSwitch 3 ∷ [])))

pub record SwitchesWorked : Type 0 where
  pub switch : ContinuationRow there (op.Switch 4 2) (i64_known ∷ known (null_to passed) ∷ []) (f64_known ∷ [])
  pub gives_other : HasNo (ContinuationRow there (op.Switch 6 2))
  pub left_gives_other : HasNo (ContinuationRow there (op.Switch 5 2))
  pub tag_carries : HasNo (ContinuationRow there (op.Switch 4 3))
  pub without : HasNo (ContinuationRow there (op.Switch 0 2))
  pub exactly : HasNo (ContinuationRow there (op.Switch 7 2))
  pub not_shared : HasNo (ContinuationRow there_shared (op.Switch 4 2))
  pub fits_below : ContinuationRow there (op.Switch 15 5) (i64_known ∷ known (null_to (switching full_to_null full_cell)) ∷ []) (known full_cell ∷ [])
  pub gives_above : HasNo (ContinuationRow there (op.Switch 16 4))
  pub left_gives_below : HasNo (ContinuationRow there (op.Switch 17 5))
