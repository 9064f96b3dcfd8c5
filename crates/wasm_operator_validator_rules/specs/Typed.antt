-- Typing of instructions (WebAssembly 3.0, validation, instructions): one operator, and code.
use Rattle.std.specs.Prelude.{◌≡◌, ℕ, suc, List, [], ◌∷◌, ◌++◌, Option, Some, None, reverse}
use Rattle.wasm_operators_immediates.specs.declared.frames.FrameKind.{FrameKind}
use Rattle.wasm_operators_immediates.specs.declared.frames.FrameKind.TheVariants as frames
use Rattle.wasm_operators_immediates.specs.declared.block.BlockType.{BlockType}
use Rattle.wasm_operators_enums.specs.declared.control.ControlOperator.TheVariants as control
use Rattle.wasm_operators_enums.specs.Op as op
use Rattle.wasm_operators_enums.specs.Op.{Op}
use Rattle.wasm_operators_enums.specs.declared.role.Role.TheVariants.{Opens}
use Rattle.wasm_operators_enums.specs.Roles.{role_of}
use Rattle.wasm_operators_encoding.specs.expressions.Code.{Code, close, plain, nested, turn, IsExpression}
use Rattle.wasm_operator_validator_rules.specs.Operands.{ValueType, Operand, AllBelow, stack}
use Rattle.wasm_operator_validator_rules.specs.Context.{Context, Initialised, Signature, Frame, IsBlockType, label_of, inside, in_clause, initialised_at_first}
use Rattle.wasm_operator_validator_rules.specs.InstructionTypes.{i32_type}
use Rattle.wasm_operator_validator_rules.specs.Taken.{IsLabel}
use Rattle.wasm_operator_validator_rules.specs.Exceptions.{IsExceptionTag, EachCatches}
use Rattle.wasm_operator_validator_rules.specs.Row.{Row, IsEnabled, after}

-- standard: valid-instr-seq: sub, frame: an instruction and subsumption
-- standard: match-instrtype: instrtype
-- The operands before and after an operator, the top first: it takes what it pops off some rest, each operand for one above
-- it, and puts what it pushes on that rest. All subsumption stands here and at the end of a frame.
abbrev pub Steps : Context → Initialised → Op → List Operand → List Operand → Type 0
Steps g set o s m = (popped pushed rest : List Operand) × Row g set o popped pushed × AllBelow s (reverse popped ++ rest)
    × (m ≡ reverse pushed ++ rest)

-- standard: part of OpensFrame
-- the block type that an operator carries
abbrev pub block_type_of : Op → Option BlockType
block_type_of (op.Control (control.Block bt)) = Some bt
block_type_of (op.Control (control.Loop bt)) = Some bt
block_type_of (op.Control (control.If bt)) = Some bt
block_type_of (op.Exception (op.Try bt)) = Some bt
block_type_of (op.Exception (op.TryTable t)) = Some t.ty
block_type_of o = None

-- standard: part of OpensFrame
abbrev pub HasType : Context → Option BlockType → Signature → Type 0
HasType g None b = ⊥
HasType g (Some bt) b = IsBlockType g bt b

-- standard: part of OpensFrame
-- what an opener asks besides: the features of exceptions, and that what is caught fits its label around the frame
abbrev pub MayNest : Context → Op → Type 0
MayNest g (op.Exception (op.TryTable t)) = IsEnabled g.bits (op.Exception (op.TryTable t)) × EachCatches g t.catches
MayNest g (op.Exception o) = IsEnabled g.bits (op.Exception o)
MayNest g o = Unit {0}

-- standard: valid-instr-control: block, loop, if, try_table (differs: the older try too)
-- standard: proposal-exceptions-older: try
-- an operator opens a frame of this kind and this type
abbrev pub OpensFrame : Context → Op → FrameKind → Signature → Type 0
OpensFrame g o k b = (role_of o ≡ Opens k) × HasType g (block_type_of o) b × MayNest g o

-- standard: valid-instr-control: block, loop, if, try_table: what it takes
-- what an opener takes: the parameters, and above them what an `if` decides by
abbrev pub entry_of : FrameKind → Signature → List ValueType
entry_of frames.If b = b.params ++ i32_type ∷ []
entry_of k b = b.params

-- standard: valid-instr-control: if: without else its type gives what it takes
-- an `if` without `else` gives what it takes
abbrev pub MayClose : FrameKind → Signature → Type 0
MayClose frames.If b = AllBelow (stack b.params) (stack b.results)
MayClose k b = Unit {0}

-- standard: valid-instr-seq: end
-- standard: proposal-exceptions-older: delegate
-- what ends a frame is an `end`, or a `delegate`, which names a frame around the one that it ends
abbrev pub EndsAt : Context → Op → Type 0
EndsAt g (op.Control control.End) = Unit {0}
EndsAt g (op.Exception (op.Delegate l)) = IsEnabled g.bits (op.Exception (op.Delegate l)) × (ts : List ValueType) × IsLabel g (suc l) ts
EndsAt g o = ⊥

-- standard: valid-instr-control: else
-- standard: proposal-exceptions-older: catch, catch_all
-- the operands with which the next part of a frame begins: the second of an `if`, or a clause of an older `try`
abbrev pub Turns : Context → Signature → Op → List ValueType → Type 0
Turns g b (op.Control control.Else) ts = ts ≡ b.params
Turns g b (op.Exception (op.Catch x)) ts = IsEnabled g.bits (op.Exception (op.Catch x)) × IsExceptionTag g x ts
Turns g b (op.Exception op.CatchAll) ts = IsEnabled g.bits (op.Exception op.CatchAll) × (ts ≡ [])
Turns g b o ts = ⊥

-- standard: part of Typed
-- the kind of this part, and the context in it
abbrev pub part_kind : Op → FrameKind
part_kind (op.Exception (op.Catch x)) = frames.LegacyCatch
part_kind (op.Exception op.CatchAll) = frames.LegacyCatchAll
part_kind o = frames.Else

abbrev pub other_part : Op → Frame → Frame
other_part o f = record f { kind = part_kind o }

abbrev pub in_part : Op → Context → Context
in_part (op.Exception o) g = in_clause g
in_part o g = g

-- standard: valid-instr-seq: empty, seq, sub, frame
-- Code in a frame takes these operands, the top first, to the frame's results. A block leaves the initialised locals as they
-- were, since what it sets is set on one way alone; its other parts begin with those of the first.
abbrev pub Typed : Context → Frame → Initialised → Code → List Operand → Type 0
Typed g f set (close o) s = AllBelow s (stack f.block.results) × MayClose f.kind f.block × EndsAt g o
Typed g f set (plain o more) s = (m : List Operand) × Steps g set o s m × Typed g f (after o set) more m
Typed g f set (nested o body more) s =
    (k : FrameKind) × (b : Signature) × (rest : List Operand) × OpensFrame g o k b × AllBelow s (stack (entry_of k b) ++ rest)
    × Typed (inside k (label_of k b) g) (record { kind = k; block = b; before = set }) set body (stack b.params)
    × Typed g f set more (stack b.results ++ rest)
Typed g f set (turn o more) s = (ts : List ValueType) × Turns g f.block o ts × AllBelow s (stack f.block.results)
    × Typed (in_part o g) (other_part o f) f.before more (stack ts)

-- standard: valid-expr: expr
-- the body of a function: its locals, of which the first so many are parameters, and its results are the context's
pub record IsBody (g : Context) (params : ℕ) (c : Code) : Type 0 where
  pub expression : IsExpression c
  pub typed : Typed (inside frames.Block g.results g) (record {
    kind = frames.Block;
    block = record { params = []; results = g.results };
    before =
        initialised_at_first params g.locals;
  }) (initialised_at_first params g.locals) c []
