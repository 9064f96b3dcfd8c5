-- That a body which a validator accepts is never stuck (WebAssembly 3.0, appendix, soundness), for one activation: the bytes spell
-- code, and wherever that comes to from fitting locals by fitting answers, its next reduction is not stuck and ends well.
use Rattle.std.specs.Prelude.{ℕ, List, Option}
use Rattle.wasm_types.specs.decoding.Decoder.{State as Bytes}
use Rattle.wasm_operators_encoding.specs.expressions.Code.{Code}
use Rattle.wasm_operators_encoding.specs.expressions.Spelling.{SpelledExpression}
use Rattle.wasm_operators_immediates.specs.declared.block.BlockType.{BlockType}
use Rattle.wasm_operator_validator_rules.specs.Context.{Context}
use Rattle.wasm_operator_validator_state.specs.resources.Meaning.{Meaning}
use Rattle.wasm_operator_validator_state.specs.State.{Given, Saved}
use Rattle.wasm_operator_validator_state.specs.Bodies.{fresh, body_context}
use Rattle.wasm_operator_validator_expression.specs.Validating.{AcceptsExpression}
use Rattle.wasm_operator_validator_soundness.specs.Values.{Value}
use Rattle.wasm_operator_validator_soundness.specs.States.{Configuration, Answer}
use Rattle.wasm_operator_validator_soundness.specs.Machine.{reduce, Runs}
use Rattle.wasm_operator_validator_soundness.specs.Soundness.{AreLocals, begun, IsStuck, EndsWell}

-- code, as the body of a function with so many parameters, is never stuck
abbrev pub IsNeverStuck : Context → ℕ → Code → Type 0
IsNeverStuck g params c = (locals : List (Option Value)) (answers : List Answer) (k : Configuration) (a : Answer)
    → AreLocals g params locals → Runs g (begun g c locals) answers k → (reduce g k a).answered
    → (IsStuck (reduce g k a) → ⊥) × EndsWell g (reduce g k a).outcome

abbrev pub AcceptedBodiesAreSound : Type 0
AcceptedBodiesAreSound = (m : Meaning) (w : Given) (b : BlockType) (saved : Saved) (s : Bytes) → AcceptsExpression m (fresh w b saved) s
    → (c : Code) × SpelledExpression s.settings c s.rest × IsNeverStuck (body_context m w b) w.params c
