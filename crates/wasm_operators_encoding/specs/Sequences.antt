-- All that an operator carries behind its opcode: immediates one after the other (WebAssembly 3.0, binary format, instructions).
use Rattle.std.specs.Prelude.{◌≡◌, ℕ, List, [], ◌∷◌, ◌++◌, map}
use Rattle.wasm_types.specs.decoding.Decoder.{Decoder, Grammar, ◌>>=◌, pure}
use Rattle.wasm_types.specs.settings.Settings.{Settings}
use Rattle.wasm_operators_immediates.specs.Kinds.{Kind}
use Rattle.wasm_operators_immediates.specs.Immediates.{Immediate, kind_of}
use Rattle.wasm_operators_encoding.specs.immediates.Immediates.{immediate, SpelledImmediate}

-- an immediate of each of these kinds
abbrev pub immediates : Settings → List Kind → Decoder (List Immediate)
immediates settings [] = pure []
immediates settings (k ∷ ks) = immediate settings k >>= λ i. (immediates settings ks >>= λ is. pure (i ∷ is))

-- standard: part of SpelledOperator
-- these immediates, one after the other
abbrev pub SpelledImmediates : Settings → Grammar (List Immediate)
SpelledImmediates settings [] text = text ≡ []
SpelledImmediates settings (i ∷ is) text = (front : List ℕ) × (back : List ℕ) × SpelledImmediate settings i front
    × SpelledImmediates settings is back × (text ≡ front ++ back)

-- immediates of these kinds, and their bytes
pub record OfKinds (settings : Settings) (ks : List Kind) (is : List Immediate) (text : List ℕ) : Type 0 where
  pub kinds : map kind_of is ≡ ks
  pub spelled : SpelledImmediates settings is text
