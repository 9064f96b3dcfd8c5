-- What a call begins with (WebAssembly 3.0, execution, function calls, and runtime structure, default values): its arguments
-- are its first locals, and each other local has the default value of its type, if that has one. So the law on activations
-- speaks of every call by fitting arguments, and `ref.null` has one answer, where types are of valid groups. There each
-- type is sound: of one constructor and one sharedness with all types above it by declaration.
use Rattle.std.specs.Prelude.{◌≡◌, ◌↔◌, ℕ, true, false, List, [], ◌∷◌, ◌++◌, length, map, All, Option, Some, None}
use Rattle.wasm_types.specs.trees.Types.{HeapOf, abstract, concrete, exact, number, ref}
use Rattle.wasm_types.specs.trees.Trees.{TypeTree}
use Rattle.wasm_types.specs.trees.Each.{EachHeap, EachValue}
use Rattle.wasm_types.specs.trees.Below.{expanded, is_shared, bottom_of}
use Rattle.wasm_types.specs.trees.Chains.{IsSound}
use Rattle.wasm_operators_encoding.specs.expressions.Code.{Code}
use Rattle.wasm_operators_enums.specs.Op.{Op}
use Rattle.wasm_operator_validator_rules.specs.Operands.{ValueType, Operand, all_known, stack}
use Rattle.wasm_operator_validator_rules.specs.Context.{Context}
use Rattle.wasm_operator_validator_rules.specs.InstructionTypes.{InstructionType, instruction_type}
use Rattle.wasm_operator_validator_rules.specs.Row.{IsEnabled, TableRow, GroupRow}
use Rattle.wasm_operator_validator_rules.specs.Typed.{IsBody}
use Rattle.wasm_operator_validator_soundness.specs.Values.{Value, number_value, ref_null, least_type, AllFit}
use Rattle.wasm_operator_validator_soundness.specs.States.{Configuration, Answer, AreOnTop}
use Rattle.wasm_operator_validator_soundness.specs.Machine.{IsNullOf, context_at, set_in, FitsEachRow, reduce, Runs}
use Rattle.wasm_operator_validator_soundness.specs.Soundness.{AreLocals, begun}

-- the null of a heap type
abbrev pub null_value : HeapOf TypeTree → Value
null_value (abstract s a) = ref_null s a
null_value (concrete t) = ref_null (is_shared t) (bottom_of (expanded t))
null_value (exact t) = ref_null (is_shared t) (bottom_of (expanded t))

-- the default value of a type
abbrev pub default_value : ValueType → Option Value
default_value (number n) = Some (number_value n)
default_value (ref true h) = Some (null_value h)
default_value (ref false h) = None

-- the locals of a function with these arguments, and with other locals of these types
abbrev pub called_with : List Value → List ValueType → List (Option Value)
called_with arguments types = map Some arguments ++ map default_value types

-- Arguments that fit the parameters, which are the first locals, are what an activation may begin with.
abbrev pub CallsMayBegin : Type 0
CallsMayBegin =
    (g : Context) (params types : List ValueType) (arguments : List Value)
    → g.locals ≡ params ++ types → AllFit arguments (all_known params) → All (EachValue IsSound) types
    → AreLocals g (length params) (called_with arguments types)

-- The null of a heap type is of its type, and any null that is has the same least type.
abbrev pub NullsAreGiven : Type 0
NullsAreGiven = (h : HeapOf TypeTree) → EachHeap IsSound h → IsNullOf (ref true h) (null_value h ∷ [])

abbrev pub NullsAreOne : Type 0
NullsAreOne = (h : HeapOf TypeTree) (v : Value) → IsNullOf (ref true h) (v ∷ []) → least_type v ≡ least_type (null_value h)

-- Where the types of the module are sound, a body that such locals begin can go on: some answer fits wherever it comes to.
abbrev pub AnswersExist : Type 0
AnswersExist =
    (g : Context) (params : ℕ) (c : Code) (locals : List (Option Value)) (answers : List Answer) (k : Configuration)
    → g.labels ≡ [] → g.catches ≡ [] → IsBody g params c → AreLocals g params locals → Runs g (begun g c locals) answers k
    → All IsSound g.«module».types
    → (a : Answer) × (reduce g k a).answered

-- An operator whose rows are those of the table of instruction types, which has a type for it: on values of the types that it
-- takes, an answer by which it goes on fits exactly if its values are of the types that it gives, for as many as it takes.
abbrev pub TableAnswered : Type 0
TableAnswered =
    (g : Context) (k : Configuration) (a : Answer) (o : Op) (t : InstructionType)
    → IsEnabled g.bits o → instruction_type (context_at g k) o ≡ Some t
    → ((popped pushed : List Operand) → GroupRow (context_at g k) (set_in k) o popped pushed ↔ TableRow (context_at g k) o popped pushed)
    → AreOnTop t.takes k.innermost.values
    → FitsEachRow g a k o ↔ ((length t.takes ≡ a.taken) × AllFit a.values (stack t.gives))
