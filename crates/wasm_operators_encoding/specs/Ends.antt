-- Constant expressions, as they stand among other bytes (WebAssembly 3.0, binary format, expressions): an expression whose only
-- `end` is its last operator. Which operators are constant is a rule of validation.
use Rattle.std.specs.Prelude.{◌≡◌, ℕ, Bool, true, false, List, [], ◌∷◌, ◌++◌}
use Rattle.wasm_types.specs.settings.Settings.{Settings}
use Rattle.wasm_operators_enums.specs.Op.{Op}
use Rattle.wasm_operators_enums.specs.declared.role.Role.{Role}
use Rattle.wasm_operators_enums.specs.declared.role.Role.TheVariants.{End}
use Rattle.wasm_operators_enums.specs.Roles.{role_of}
use Rattle.wasm_operators_encoding.specs.expressions.Code.{Code, walk}
use Rattle.wasm_operators_encoding.specs.expressions.Spelling.{SpelledExpression}

-- of all roles that of `end`
abbrev pub ends : Role → Bool
ends End = true
ends r = false

-- the operator is `end`
abbrev pub is_end : Op → Bool
is_end o = ends (role_of o)

-- standard: part of EndsOnce
-- none of them is
abbrev pub HasNoEnd : List Op → Type 0
HasNoEnd [] = Unit {0}
HasNoEnd (o ∷ os) = (is_end o ≡ false) × HasNoEnd os

-- standard: valid-constant: no block, so that the only end is the last instruction (differs: as a rule of bytes, not of validation)
-- the last of them is `end`, and no other
pub record EndsOnce (os : List Op) : Type 0 where
  pub front : List Op
  pub last : Op
  pub whole : os ≡ front ++ last ∷ []
  pub none : HasNoEnd front
  pub ended : is_end last ≡ true

-- an expression whose only `end` is its last operator
pub record IsConstantText (settings : Settings) (text : List ℕ) : Type 0 where
  pub code : Code
  pub spelled : SpelledExpression settings code text
  pub once : EndsOnce (walk code)
