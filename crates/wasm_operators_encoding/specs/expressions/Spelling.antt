-- Expressions and the bytes that spell them (WebAssembly 3.0, binary format, expressions).
use Rattle.std.specs.Prelude.{◌≡◌, ℕ, List, [], ◌∷◌, ◌++◌}
use Rattle.wasm_types.specs.settings.Settings.{Settings}
use Rattle.wasm_operators_enums.specs.Op.{Op}
use Rattle.wasm_operators_encoding.specs.Operators.{SpelledOperator}
use Rattle.wasm_operators_encoding.specs.expressions.Code.{Code, walk, IsExpression}

-- standard: binary-expr: instr*
-- these operators, one after the other
abbrev pub SpelledOperators : Settings → List Op → List ℕ → Type 0
SpelledOperators settings [] text = text ≡ []
SpelledOperators settings (o ∷ os) text = (front : List ℕ) × (back : List ℕ) × SpelledOperator settings o front
    × SpelledOperators settings os back × (text ≡ front ++ back)

-- standard: binary-expr: expr
-- an expression's tree, and the bytes of its walk
pub record SpelledExpression (settings : Settings) (c : Code) (text : List ℕ) : Type 0 where
  pub expression : IsExpression c
  pub spelled : SpelledOperators settings (walk c) text
