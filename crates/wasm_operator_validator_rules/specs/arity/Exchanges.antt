-- How many operands an operator takes and gives by the rules: by its row, or by the frame that it opens, turns or closes
-- (WebAssembly 3.0, validation, instructions).
use Rattle.std.specs.Prelude.{◌≡◌, ◌≤◌, ◌<◌, ◌^◌, ℕ, List, [], ◌∷◌, length, map, Some, slice_get}
use Rattle.wasm_types.specs.trees.Trees.{TypeTree}
use Rattle.wasm_operators_immediates.specs.declared.block.BlockType.{BlockType}
use Rattle.wasm_operators_immediates.specs.declared.block.BlockType.TheVariants as block
use Rattle.wasm_operators_immediates.specs.declared.frames.FrameKind.{FrameKind}
use Rattle.wasm_operators_enums.specs.Op as op
use Rattle.wasm_operators_enums.specs.Op.{Op}
use Rattle.wasm_operator_validator_rules.specs.Operands.{ValueType, Operand}
use Rattle.wasm_operator_validator_rules.specs.Context.{Module, Context, Initialised, Signature, IsFunctionType, label_of}
use Rattle.wasm_operator_validator_rules.specs.Row.{Row}
use Rattle.wasm_operator_validator_rules.specs.Typed.{OpensFrame, Turns, EndsAt, entry_of}
use Rattle.wasm_operator_validator_rules.specs.arity.Arity.{Known, counts_of}

-- ---- the open frames

-- an open frame: its type as it is held, its kind, and its signature
pub record Standing : Type 0 where
  pub held : BlockType
  pub kind : FrameKind
  pub block : Signature

-- the signature is that of the type; the type of a result is not looked into
abbrev pub HasSignature : Module → BlockType → Signature → Type 0
HasSignature m block.Empty b = b ≡ record { params = []; results = [] }
HasSignature m (block.Val t) b = (u : ValueType) × (b ≡ record { params = []; results = u ∷ [] })
HasSignature m (block.FuncType x) b = (t : TypeTree) × (slice_get m.types x ≡ Some t) × IsFunctionType t b

abbrev pub AreTyped : Module → List Standing → Type 0
AreTyped m [] = Unit {0}
AreTyped m (f ∷ outer) = HasSignature m f.held f.block × AreTyped m outer

abbrev pub outermost_results : List Standing → List ValueType
outermost_results [] = []
outermost_results (f ∷ []) = f.block.results
outermost_results (f ∷ g ∷ outer) = outermost_results (g ∷ outer)

-- what is known is of the module and the frames of this place
pub record IsAround (k : Known) (g : Context) (fs : List Standing) : Type 0 where
  pub «module» : k.«module» ≡ g.«module»
  pub frames : k.frames ≡ map (λ f. (f.held, f.kind)) fs
  pub typed : AreTyped g.«module» fs
  pub labels : g.labels ≡ map (λ f. label_of f.kind f.block) fs
  pub results : g.results ≡ outermost_results fs
  pub standing : 0 < length fs
  pub few : length fs < 2 ^ 32

-- ---- operators

-- so many operands are taken and given by the shortest of an operator's rows
pub record IsShortest (g : Context) (set : Initialised) (o : Op) (n c : ℕ) : Type 0 where
  pub popped : List Operand
  pub pushed : List Operand
  pub row : Row g set o popped pushed
  pub takes : length popped ≡ n
  pub gives : length pushed ≡ c
  pub least : (p q : List Operand) → Row g set o p q → (n ≤ length p) × (c ≤ length q)

-- So many are taken and given by the rules: by a row; where a frame is opened, with its parameters; where the innermost frame is
-- turned, with its results and with what its next part begins with; where it is closed, with its results.
pub data Exchanges (g : Context) (set : Initialised) : List Standing → Op → ℕ → ℕ → Type 0 where
  by_row : {fs : List Standing} {o : Op} {n c : ℕ} → IsShortest g set o n c → Exchanges g set fs o n c
  opened : {fs : List Standing} {o : Op} (k : FrameKind) (b : Signature) → OpensFrame g o k b
      → Exchanges g set fs o (length (entry_of k b)) (length b.params)
  turned : {fs : List Standing} {o : Op} (f : Standing) (ts : List ValueType) → Turns g f.block o ts
      → Exchanges g set (f ∷ fs) o (length f.block.results) (length ts)
  closed : {fs : List Standing} {o : Op} (f : Standing) → EndsAt g o
      → Exchanges g set (f ∷ fs) o (length f.block.results) (length f.block.results)

-- operators on vectors are not counted, whether they are judged or not
abbrev pub IsCounted : Op → Type 0
IsCounted (op.Simd o) = ⊥
IsCounted (op.SimdNumeric o) = ⊥
IsCounted o = Unit {0}

-- where the rules let an operator take and give so many, the table has these numbers
abbrev pub CountsAreExact : Type 0
CountsAreExact = (k : Known) (g : Context) (fs : List Standing) (set : Initialised) (o : Op) (n c : ℕ) → IsCounted o → IsAround k g fs
    → Exchanges g set fs o n c → counts_of k o ≡ Some (n, c)
