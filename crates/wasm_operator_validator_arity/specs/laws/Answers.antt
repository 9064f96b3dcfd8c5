-- The answers beside the rules.
use Rattle.std.proofs.Common.{◌≡◌, ℕ, List, Some, ap}
use Rattle.wasm_operators_immediates.specs.declared.block.BlockType.{BlockType}
use Rattle.wasm_operators_immediates.specs.declared.frames.FrameKind.{FrameKind}
use Rattle.wasm_operators_enums.specs.Op.{Op}
use Rattle.wasm_operator_validator_resources.specs.Meaning.{Meaning}
use Rattle.wasm_operator_validator_rules.specs.Context.{Context, Initialised}
use Rattle.wasm_operator_validator_rules.specs.arity.Arity.{in_u32}
use Rattle.wasm_operator_validator_rules.specs.arity.Exchanges.{Standing, IsCounted, IsAround, Exchanges}
use Rattle.wasm_operator_validator_rules.specs.arity.laws.Groups.{counts_are_exact}
use Rattle.wasm_operator_validator_arity.specs.Knowing.{ended, known_by, answer_for}

-- if the rules let an operator take and give so many, the answer for it is these numbers
abbrev pub AnswersAreExact : Type 0
AnswersAreExact = (m : Meaning) (opens : List (BlockType × FrameKind)) (g : Context) (fs : List Standing) (set : Initialised) (o : Op) (n c : ℕ)
    → IsCounted o → IsAround (known_by m opens) g fs → Exchanges g set fs o n c → answer_for m opens o ≡ Some (in_u32 n, in_u32 c)

pub answers_are_exact : AnswersAreExact
answers_are_exact m opens g fs set o n c i a x = ap ended (counts_are_exact (known_by m opens) g fs set o n c i a x)
