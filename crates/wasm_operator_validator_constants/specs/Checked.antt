-- Constant expressions as bytes (WebAssembly 3.0, validation, constant expressions).
use Rattle.std.specs.Prelude.{◌≡◌, ℕ, Option, Result, IfErr}
use Rattle.wasm_types.specs.decoding.Decoder.{State as Bytes}
use Rattle.wasm_types.specs.decoding.Denials.{Tells, UnlessMemory}
use Rattle.wasm_types.specs.decoding.ErrorValue.{ErrorValue}
use Rattle.wasm_types.specs.decoding.declared.error.ErrorKind.{ErrorKind}
use Rattle.wasm_types.specs.values.declared.value.ValType.{ValType}
use Rattle.wasm_operators_enums.specs.Op.{Op}
use Rattle.wasm_operators_encoding.specs.expressions.Code.{Code}
use Rattle.wasm_operators_encoding.specs.expressions.Spelling.{SpelledExpression}
use Rattle.wasm_operator_validator_rules.specs.constants.Constants.{IsConstantOperator, IsConstant}
use Rattle.wasm_operator_validator_state.specs.resources.Meaning.{Meaning, type_in}
use Rattle.wasm_operator_validator_state.specs.State.{State}
use Rattle.wasm_operator_validator_constants.specs.declared.refusal.ConstantRefusal.{ConstantRefusal}
use Rattle.wasm_operator_validator_constants.specs.Refusals.{kind_of_constant}
use Rattle.wasm_operator_validator_constants.specs.Operators.{RefusesOperator}
use Rattle.wasm_operator_validator_constants.specs.Beginning.{constant_begins}
use Rattle.wasm_operator_validator_constants.specs.Tested.{VisitsTested, StopsTested, ValidatesTested}

-- ---- what a constant is judged by

-- the features, the module, and how many of its globals are imported
pub record Surroundings : Type 0 where
  pub bits : ℕ
  pub meaning : Meaning
  pub imported : ℕ

-- an operator that is not constant is refused with this kind
abbrev pub RefusedWith : Surroundings → Op → ErrorKind → Type 0
RefusedWith w o k = (r : ConstantRefusal) × RefusesOperator w.bits w.meaning.«module» w.imported o r × (k ≡ kind_of_constant r)

-- an operator of a constant is visited
abbrev pub VisitsConstant : Surroundings → State → Op → Option ErrorKind → State → Type 0
VisitsConstant w σ o answer τ = VisitsTested (IsConstantOperator w.bits w.meaning.«module» w.imported)
    (RefusedWith w) w.meaning σ o answer τ

-- the operators of a constant are validated
abbrev pub ValidatesConstant : Surroundings → State → Bytes → Result (Unit {0}) ErrorValue → Type 0
ValidatesConstant w σ s answer = ValidatesTested (IsConstantOperator w.bits w.meaning.«module» w.imported)
    (RefusedWith w) w.meaning σ s answer

-- ---- whole constants

-- the bytes spell a constant expression of this type
abbrev pub SpellsConstant : Surroundings → ValType → Bytes → Type 0
SpellsConstant w t s = (c : Code) × SpelledExpression s.settings c s.rest
    × IsConstant w.bits w.meaning.«module» w.imported (type_in w.meaning t) c

-- why bytes are refused as one, and where
abbrev pub StopsConstant : Surroundings → ValType → Bytes → ErrorValue → Type 0
StopsConstant w t s e = StopsTested (IsConstantOperator w.bits w.meaning.«module» w.imported) (RefusedWith w) w.meaning
    (constant_begins w.bits t) s e

-- It is not refused exactly where the bytes spell a constant of this type, out of memory aside; a refusal comes where this says.
pub record ChecksConstant (w : Surroundings) (t : ValType) (s : Bytes) (answer : Result (Unit {0}) ErrorValue) : Type 0 where
  pub exact : Tells answer (SpellsConstant w t s)
  pub stops : IfErr answer (λ e. UnlessMemory e.kind (StopsConstant w t s e))
