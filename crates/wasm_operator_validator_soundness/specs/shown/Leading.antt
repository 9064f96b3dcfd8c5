-- What an operator makes of what a validator knows: exactly what the rules give (WebAssembly 3.0, validation, instructions).
use Rattle.std.specs.Prelude.{◌≡◌, ◌↔◌, List, [], ◌∷◌, ◌++◌, Option, Some, None}
use Rattle.wasm_operators_immediates.specs.declared.block.BlockType.{BlockType}
use Rattle.wasm_operators_immediates.specs.declared.frames.FrameKind.{FrameKind}
use Rattle.wasm_operators_enums.specs.Op.{Op}
use Rattle.wasm_operators_enums.specs.declared.role.Effect.{Effect}
use Rattle.wasm_operators_enums.specs.declared.role.Effect.TheVariants as effects
use Rattle.wasm_operators_enums.specs.Roles.{role_of, effect}
use Rattle.wasm_operators_encoding.specs.expressions.Code.{Code, close, plain, nested, turn}
use Rattle.wasm_operator_validator_rules.specs.Operands.{ValueType, Operand, AllBelow, stack}
use Rattle.wasm_operator_validator_rules.specs.Typed.{OpensFrame, entry_of, MayClose, EndsAt, Turns}
use Rattle.wasm_operator_validator_state.specs.resources.Meaning.{Meaning}
use Rattle.wasm_operator_validator_state.specs.State.{Open, State, Covers, signature_of, results, context}
use Rattle.wasm_operator_validator_state.specs.Steps.{StacksOf, Stacks, SameFrames, begun}
use Rattle.wasm_operator_validator_state.specs.laws.Accepting.{Advanced}

-- these operands were put on those of the innermost of some frames, if there is one
abbrev pub PutOn : Meaning → List Operand → List Open → List Open → Type 0
PutOn m xs [] os = os ≡ []
PutOn m xs (p ∷ outer) os = SameFrames (p ∷ outer) os
    × ((n : List Operand) → StacksOf m os n ↔ (rest : List Operand) × StacksOf m (p ∷ outer) rest × AllBelow (xs ++ rest) n)

-- A frame was opened: its type is one that the operator carries, what it takes was taken off the frames around, and its parameters
-- are on it.
pub record Nested (m : Meaning) (σ : State) (o : Op) (k : FrameKind) (τ : State) : Type 0 where
  pub block : BlockType
  pub left : List Open
  pub opens : OpensFrame (context m σ.given σ.opens) o k (signature_of m block)
  pub around : SameFrames σ.opens left
  pub taken : (s : List Operand) → Stacks m σ (stack (entry_of k (signature_of m block)) ++ s) ↔ StacksOf m left s
  pub given : τ.given ≡ σ.given
  pub inits : τ.inits ≡ σ.inits
  pub frames : SameFrames (begun k block σ.inits ∷ left) τ.opens
  pub stacks : (n : List Operand) → Stacks m τ n ↔ AllBelow (stack (signature_of m block).params) n

-- the next part of the innermost frame was begun: the results were there, and what the part begins with is on it
pub record Turned (m : Meaning) (σ : State) (o : Op) (k : FrameKind) (p : Open) (outer : List Open) (τ : State) : Type 0 where
  pub types : List ValueType
  pub turns : Turns (context m σ.given σ.opens) (signature_of m p.block) o types
  pub ends : Covers m p.unreachable p.operands (stack (results m p))
  pub given : τ.given ≡ σ.given
  pub inits : τ.inits ≡ p.before
  pub frames : SameFrames (begun k p.block p.before ∷ outer) τ.opens
  pub stacks : (n : List Operand) → Stacks m τ n ↔ AllBelow (stack types) n

-- the innermost frame was closed: the results were there, and are on the frame around it
pub record Closed (m : Meaning) (σ : State) (o : Op) (p : Open) (outer : List Open) (τ : State) : Type 0 where
  pub may : MayClose p.kind (signature_of m p.block)
  pub at : EndsAt (context m σ.given σ.opens) o
  pub ends : Covers m p.unreachable p.operands (stack (results m p))
  pub given : τ.given ≡ σ.given
  pub inits : τ.inits ≡ p.before
  pub left : PutOn m (stack (results m p)) outer τ.opens

-- by what the operator does to the innermost frame
abbrev pub LeadsBy : Meaning → State → Op → State → Open → List Open → Option Effect → Type 0
LeadsBy m σ o τ p outer None = ⊥
LeadsBy m σ o τ p outer (Some effects.Stays) = Advanced m σ o τ
LeadsBy m σ o τ p outer (Some (effects.Nests k)) = Nested m σ o k τ
LeadsBy m σ o τ p outer (Some (effects.Turns k)) = Turned m σ o k p outer τ
LeadsBy m σ o τ p outer (Some effects.Closes) = Closed m σ o p outer τ

abbrev pub LeadsFrom : Meaning → State → Op → State → List Open → Type 0
LeadsFrom m σ o τ [] = ⊥
LeadsFrom m σ o τ (p ∷ outer) = LeadsBy m σ o τ p outer (effect (role_of o) p.kind)

-- the operator leads from what was known to what is known after it
abbrev pub Leads : Meaning → State → Op → State → Type 0
Leads m σ o τ = LeadsFrom m σ o τ σ.opens

-- the operators of code, one after the other
abbrev pub Walks : Meaning → Code → State → State → Type 0
Walks m (close o) σ τ = Leads m σ o τ
Walks m (plain o more) σ τ = (ρ : State) × Leads m σ o ρ × Walks m more ρ τ
Walks m (nested o body more) σ τ = (ρ κ : State) × Leads m σ o ρ × Walks m body ρ κ × Walks m more κ τ
Walks m (turn o more) σ τ = (ρ : State) × Leads m σ o ρ × Walks m more ρ τ
