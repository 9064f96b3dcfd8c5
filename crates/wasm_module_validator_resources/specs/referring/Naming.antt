-- The functions that an expression makes references to (WebAssembly 3.0, validation, modules, where the context has them as C.refs).
use Rattle.std.specs.Prelude.{◌≡◌, ℕ, List, [], ◌∷◌, ◌++◌, Option, Some, None}
use Rattle.wasm_types.specs.settings.Settings.{Settings}
use Rattle.wasm_operators_encoding.specs.expressions.Code.{Code}
use Rattle.wasm_operators_encoding.specs.expressions.Spelling.{SpelledExpression}
use Rattle.wasm_module_validator_rules_in_order.specs.rules.Spaces.{referred_in}

-- one at most
abbrev pub listed : Option ℕ → List ℕ
listed None = []
listed (Some x) = x ∷ []

-- the functions that the code of these bytes refers to stand behind the others, in their order
abbrev pub NamesMore : Settings → List ℕ → List ℕ → List ℕ → Type 0
NamesMore z text before after = (c : Code) → SpelledExpression z c text → after ≡ before ++ referred_in c
