-- Constants judged in one pass over their bytes: operators one after the other, and the types of their operands (WebAssembly 3.0,
-- validation, instructions, constant expressions).
use Rattle.std.specs.Prelude.{◌≡◌, ◌≤◌, ◌<◌, ◌-◌, ℕ, zero, suc, Bool, true, false, List, [], ◌∷◌, ◌++◌, None, map, reverse, length, take, drop}
use Rattle.wasm_types.specs.settings.Settings.{Settings}
use Rattle.wasm_types.specs.trees.Types.{Number, i32, i64, number, ref, abstract, concrete}
use Rattle.wasm_types.specs.trees.ValidGroup.{type_at}
use Rattle.wasm_types.specs.trees.declared.index.UnpackedIndex.{UnpackedIndex}
use Rattle.wasm_types.specs.values.Reference.{Reference}
use Rattle.wasm_types.specs.values.Spells.{abstract_byte}
use Rattle.wasm_types.specs.values.Trees.{abstract_of}
use Rattle.wasm_types.specs.values.declared.heap.AbstractHeapType.{AbstractHeapType}
use Rattle.wasm_types.specs.values.declared.value.ValType.{ValType}
use Rattle.wasm_types.specs.values.declared.value.ValType.TheVariants as value
use Rattle.wasm_operators_immediates.specs.declared.frames.FrameKind.TheVariants.{Block}
use Rattle.wasm_operators_immediates.specs.declared.proposal.Proposal.TheVariants.{Mvp}
use Rattle.wasm_operators_enums.specs.declared.numeric.NumericOperator.{NumericOperator}
use Rattle.wasm_operators_enums.specs.numbers.Table.{numeric_info}
use Rattle.wasm_operators_enums.specs.Op.{Op}
use Rattle.wasm_operators_enums.specs.Roles.{role_of}
use Rattle.wasm_operators_enums.specs.declared.role.Role.TheVariants.{Plain}
use Rattle.wasm_operators_encoding.specs.Ends.{EndsOnce}
use Rattle.wasm_operators_encoding.specs.Operators.{SpelledOperator}
use Rattle.wasm_operators_encoding.specs.expressions.Code.{Code, walk}
use Rattle.wasm_operators_encoding.specs.expressions.Spelling.{SpelledExpression}
use Rattle.wasm_types.specs.settings.Features.{ExtendedConst}
use Rattle.wasm_types.specs.trees.Gates.{Has, HeapIsAllowed}
use Rattle.wasm_operator_validator_state.specs.resources.Meaning.{Meaning, type_in}
use Rattle.wasm_operator_validator_rules.specs.Operands.{ValueType, AllBelow, all_known}
use Rattle.wasm_operator_validator_rules.specs.Context.{Context, Module, Initialised, inside}
use Rattle.wasm_operator_validator_rules.specs.Numbers.{class_of, taken_by, given_by, numbers}
use Rattle.wasm_operator_validator_rules.specs.Row.{names_float}
use Rattle.wasm_operators_enums.specs.Op as op
use Rattle.wasm_operator_validator_rules.specs.Typed.{Steps}
use Rattle.wasm_operator_validator_rules.specs.constants.Constants.{IsConstant, IsConstantNumber, IsConstantOperator, constant_context}
use Rattle.wasm_module_validator_resources.specs.rules_in_order.Between.{IsBetween}
use Rattle.wasm_module_validator_checks.specs.rules.Spaces.{referred_by, referred_in}

-- integers of 64 bits, or of 32
abbrev pub integer : Bool → Number
integer true = i64
integer false = i32

abbrev pub integer_type : Bool → ValType
integer_type true = value.I64
integer_type false = value.I32

-- the code of a sum, a difference or a product of integers
pub record IsSum (code : ℕ) (wide : Bool) : Type 0 where
  pub operator : NumericOperator
  pub low : code < 0xfb
  pub code_is : (numeric_info operator).code ≡ code
  pub prefix_is : (numeric_info operator).prefix ≡ None
  pub proposal_is : (numeric_info operator).proposal ≡ Mvp
  pub no_float : names_float (op.Numeric operator) ≡ false
  pub constant : (bits : ℕ) → Has bits ExtendedConst → IsConstantNumber bits operator
  pub taken : numbers (taken_by (class_of operator)) ≡ number (integer wide) ∷ number (integer wide) ∷ []
  pub given : numbers (given_by (class_of operator)) ≡ number (integer wide) ∷ []

-- an abstract heap type by its byte, of which a null may be written under these features
abbrev pub IsNullByte : ℕ → ℕ → AbstractHeapType → Type 0
IsNullByte bits b t = (b ≡ abstract_byte (abstract_of t)) × HeapIsAllowed {R = UnpackedIndex} bits true (abstract false (abstract_of t))

-- a reference to the type at an index, as the code has it
abbrev pub RefersTo : Meaning → ℕ → Bool → Reference → Type 0
RefersTo m n nullable r = (n < length m.«module».types) × (type_in m (value.Ref r) ≡ ref nullable (concrete (type_at m.«module».types n)))

-- the types of operands, the top first
abbrev pub tops : Meaning → List ValType → List ValueType
tops m ts = reverse (map (type_in m) ts)

-- operands of the first types may be taken for these on top of those of the last
abbrev pub MayTake : List ValueType → List ValueType → List ValueType → Type 0
MayTake before taken left = AllBelow (all_known before) (reverse (all_known taken) ++ all_known left)

-- in a constant of this type
abbrev pub within_constant : ℕ → Module → ValueType → Context
within_constant bits g t = inside Block (t ∷ []) (constant_context bits g t)

-- From one offset of a text to another stands an operator, whatever the settings of its reader are. However many globals are imported
-- it is constant. It refers to no function, and takes operands of the first types, the top first, to those of the others.
pub record IsNext (bits : ℕ) (g : Module) (text : List ℕ) (i : ℕ) (before : List ValueType) (j : ℕ) (behind : List ValueType) : Type 0 where
  pub op : Op
  pub plain : role_of op ≡ Plain
  pub forward : i < j
  pub spelled : (z : Settings) → IsBetween (SpelledOperator z op) text i j
  pub constant : (count : ℕ) → IsConstantOperator bits g count op
  pub typed : (t : ValueType) (set : Initialised) → Steps (within_constant bits g t) set op (all_known before) (all_known behind)
  pub quiet : referred_by op ≡ []

-- the same of types as the code has them
abbrev pub Nexts : ℕ → Meaning → List ℕ → ℕ → List ValType → ℕ → List ValType → Type 0
Nexts bits m text i before j behind = IsNext bits m.«module» text i (tops m before) j (tops m behind)

-- so many operators stand from one offset to another, and leave operands of these types
abbrev pub Goes : ℕ → Module → List ℕ → ℕ → ℕ → ℕ → List ValueType → Type 0
Goes bits g text zero i j behind = (j ≡ i) × (behind ≡ [])
Goes bits g text (suc n) i j behind = (k : ℕ) × (s : List ValueType) × Goes bits g text n i k s × IsNext bits g text k s j behind

-- From one offset of a text to another stands a constant expression, whatever the settings of its reader are. It is of this type however
-- many globals are imported, and refers to these functions.
pub record IsShortConstant (bits : ℕ) (g : Module) (t : ValueType) (text : List ℕ) (i j : ℕ) (names : List ℕ) : Type 0 where
  pub code : Code
  pub forward : i ≤ j
  pub inside : j ≤ length text
  pub spelled : (z : Settings) → SpelledExpression z code (take (j - i) (drop i text))
  pub once : EndsOnce (walk code)
  pub constant : (count : ℕ) → IsConstant bits g count t code
  pub named : referred_in code ≡ names
