-- Code with clauses that catch exceptions: some that is typed and some that is not.
use Rattle.std.specs.Prelude.{ℕ, ℤ, ◌-◌, List, [], ◌∷◌}
use Rattle.wasm_types.specs.settings.Features.{mask, Exceptions, LegacyExceptions}
use Rattle.wasm_types.specs.values.declared.value.ValType.TheVariants as value
use Rattle.wasm_operators_immediates.specs.declared.block.BlockType.{BlockType}
use Rattle.wasm_operators_immediates.specs.declared.block.BlockType.TheVariants as block
use Rattle.wasm_operators_immediates.specs.declared.handlers.Catch.{Catch}
use Rattle.wasm_operators_immediates.specs.declared.handlers.Catch.TheVariants as clause
use Rattle.wasm_operators_enums.specs.Op as op
use Rattle.wasm_operators_enums.specs.Op.{Op}
use Rattle.wasm_operators_encoding.specs.expressions.Code.{Code, close, plain, nested, turn}
use Rattle.wasm_operator_validator_rules.specs.Context.{Context, Frame}
use Rattle.wasm_operator_validator_rules.specs.Typed.{Typed}
use Rattle.wasm_operator_validator_rules.specs.worked.Contexts.{all_bits}
use Rattle.wasm_operator_validator_rules.specs.worked.Codes.{end, constant, unreachable, drop, get, set, at_first, one, nothing}
use Rattle.wasm_operator_validator_rules.specs.worked.Exceptions.{here}

abbrev pub try_of : BlockType → Op
try_of b = op.Exception (op.Try b)

abbrev pub try_empty : Op
try_empty = try_of block.Empty

abbrev pub try_i32 : Op
try_i32 = try_of (block.Val value.I32)

-- from an i32 to an i32
abbrev pub try_keeping : Op
try_keeping = try_of (block.FuncType 1)

abbrev pub catch : ℕ → Op
catch x = op.Exception (op.Catch x)

abbrev pub catch_all : Op
catch_all = op.Exception op.CatchAll

abbrev pub throw : ℕ → Op
throw x = op.Exception (op.Throw x)

abbrev pub rethrow : ℕ → Op
rethrow l = op.Exception (op.Rethrow l)

abbrev pub delegate : ℕ → Code
delegate l = close (op.Exception (op.Delegate l))

abbrev pub try_table : List Catch → Op
try_table cs = op.Exception (op.TryTable (record { ty = block.Empty; catches = cs }))

abbrev pub without_older : Context
without_older = record here { bits = all_bits - mask LegacyExceptions }

abbrev pub without_newer : Context
without_newer = record here { bits = all_bits - mask Exceptions }

abbrev pub Goes : Frame → Code → Type 0
Goes f c = Typed here f at_first c []

abbrev pub GoesNot : Frame → Code → Type 0
GoesNot f c = Typed here f at_first c [] → ⊥

pub record ClausesWorked (x : ℤ) : Type 0 where
  pub thrown : Goes one (plain (constant x) (plain (throw 0) end))
  pub thrown_unreached : Goes one (plain unreachable (plain (throw 0) end))
  pub caught : Goes one (nested try_i32 (plain (constant x) (turn (catch 0) end)) end)
  pub caught_other : GoesNot one (nested try_i32 (plain (constant x) (turn (catch 3) end)) end)
  pub caught_gives : GoesNot one (nested try_i32 (plain (constant x) (turn (catch 1) (plain unreachable end))) end)
  pub try_without : Typed without_older nothing at_first (nested try_empty end end) [] → ⊥
  pub caught_without : Typed without_older one at_first (plain (constant x) (turn (catch 0) end)) [] → ⊥
  pub all_caught_without : Typed without_older nothing at_first (turn catch_all end) [] → ⊥
  pub body_missing : GoesNot one (nested try_i32 (turn (catch 0) end) end)
  pub all_caught : Goes nothing (nested try_empty (turn catch_all end) end)
  pub all_caught_nothing : GoesNot one (nested try_i32 (plain (constant x) (turn catch_all end)) end)
  pub with_params : Goes one (plain (constant x) (nested try_keeping (turn (catch 0) end) end))
  pub params_not_caught : GoesNot one (plain (constant x) (nested try_keeping (turn catch_all end) end))
  pub set_and_read : Goes nothing (nested try_empty (plain unreachable (plain (set 2) (plain (get 2) (plain drop end)))) end)
  pub set_and_caught : GoesNot nothing (nested try_empty (plain unreachable (plain (set 2) (turn catch_all (plain (get 2) (plain drop end))))) end)
  pub thrown_again : Goes one (nested try_i32 (plain (constant x) (turn catch_all (plain (rethrow 0) end))) end)
  pub thrown_in_try : GoesNot nothing (nested try_empty (plain (rethrow 0) end) end)
  pub delegated : Goes nothing (nested try_empty (delegate 1) end)
  pub delegated_outside : GoesNot nothing (nested try_empty (delegate 2) end)
  pub delegated_without : Typed without_older nothing at_first (delegate 0) [] → ⊥
  pub delegated_missing : GoesNot nothing (nested try_i32 (delegate 1) (plain drop end))
  pub table : Goes nothing (nested (try_table (clause.One 0 1 ∷ [])) end end)
  pub table_ref_other : GoesNot nothing (nested (try_table (clause.One 0 1 ∷ clause.AllRef 1 ∷ [])) end end)
  pub table_other : GoesNot nothing (nested (try_table (clause.One 0 0 ∷ [])) end end)
  pub table_outside : GoesNot nothing (nested (try_table (clause.One 0 2 ∷ [])) end end)
  pub table_without : Typed without_newer nothing at_first (nested (try_table []) end end) [] → ⊥
