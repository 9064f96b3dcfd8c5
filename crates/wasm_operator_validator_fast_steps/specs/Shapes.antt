-- What operators on numbers take and give, by their codes (WebAssembly 3.0, binary format, instructions).
use Rattle.std.specs.Prelude.{◌≡◌, ◌<◌, ◌≤◌, ◌%◌, ℕ, get_or, List, [], ◌∷◌, Option, None, Some, IsTrue, false}
use Rattle.wasm_operators_enums.specs.declared.numeric.NumericOperator.{NumericOperator}
use Rattle.wasm_operators_enums.specs.numbers.Table.{numeric_info}
use Rattle.wasm_operator_validator_rules.specs.Numbers.{class_of, taken_by, given_by, numbers}
use Rattle.wasm_types.specs.trees.Types.{Number, number}
use Rattle.wasm_types.specs.trees.Trees.{TypeTree}
use Rattle.wasm_operators_immediates.specs.declared.memory.MemArg.{MemArg}
use Rattle.wasm_operators_immediates.specs.declared.proposal.Proposal.TheVariants.{Mvp}
use Rattle.wasm_operators_enums.specs.declared.memory.MemoryOperator.{MemoryOperator}
use Rattle.wasm_operators_enums.specs.Op as op
use Rattle.wasm_operators_enums.specs.Table.{info_of}
use Rattle.wasm_operators_enums.specs.Immediates.{immediates_of, is_canonical}
use Rattle.wasm_operators_immediates.specs.Kinds.{AccessOrdering, Plain}
use Rattle.wasm_operators_immediates.specs.Immediates.{MemoryArgument}
use Rattle.wasm_operator_validator_rules.specs.Accesses.{Access}
use Rattle.wasm_operator_validator_rules.specs.Operands.{Operand}
use Rattle.wasm_operator_validator_rules.specs.Context.{Context, Initialised}
use Rattle.wasm_operator_validator_rules.specs.InstructionTypes.{instruction_type, accesses}
use Rattle.wasm_operator_validator_rules.specs.Row.{TableRow, GroupRow, IsEnabled, after}
use Rattle.wasm_operator_validator_fast_tables.specs.declared.tables.Tables.{Tables}
use Rattle.wasm_operator_validator_fast_tables.specs.Tables.{Allows, Reaches}
use Rattle.wasm_operator_validator_fast_tables.specs.Values.{number_of, type_of, types}
use Rattle.wasm_types.specs.decoding.Numbers.{GivesAt}
use Rattle.wasm_types.specs.settings.Features.{Memory64, has}
use Rattle.wasm_operators_encoding.specs.immediates.MemoryArguments.{argument, memory_argument, offset}
use Rattle.wasm_operator_validator_fast_steps.specs.declared.shape.Class.{Class}
use Rattle.wasm_operator_validator_fast_steps.specs.declared.shape.Class.TheVariants as class

-- the operator on numbers with this prefix, if it has one, and this code takes and gives these types
pub record IsNumberAt (prefix : Option ℕ) (code : ℕ) (takes gives : List ℕ) : Type 0 where
  pub operator : NumericOperator
  pub code_is : (numeric_info operator).code ≡ code
  pub prefix_is : (numeric_info operator).prefix ≡ prefix
  pub low : code < 0xfb
  pub enabled : (bits : ℕ) → Allows bits → IsEnabled bits (op.Numeric operator)
  pub taken : (ids : List TypeTree) → types ids takes ≡ numbers (taken_by (class_of operator))
  pub given : (ids : List TypeTree) → types ids gives ≡ numbers (given_by (class_of operator))

-- with any argument of this natural alignment the operator with this code is an access of this kind and type
pub record IsAccessAt (kind : Number → Access) (code natural ty : ℕ) : Type 0 where
  pub of_number : (ids : List TypeTree) → type_of ids ty ≡ number (number_of ty)
  pub operator : MemArg → MemoryOperator
  pub low : code < 0xfb
  pub code_is : (a : MemArg) → (info_of (op.Memory (operator a))).code ≡ code
  pub no_prefix : (a : MemArg) → (info_of (op.Memory (operator a))).prefix ≡ None
  pub of : (a : MemArg) → (info_of (op.Memory (operator a))).proposal ≡ Mvp
  pub carries : (a : MemArg) → immediates_of (op.Memory (operator a)) ≡ MemoryArgument Plain natural a ∷ []
  pub canonical : (a : MemArg) → IsTrue (is_canonical (op.Memory (operator a)))
  pub keeps : (a : MemArg) (set : Initialised) → after (op.Memory (operator a)) set ≡ set
  pub table : (a : MemArg) (g : Context)
      → instruction_type g (op.Memory (operator a)) ≡ accesses g false (Some (record { access = kind (number_of ty); argument = a }))
  pub row : (a : MemArg) (g : Context) (set : Initialised) (popped pushed : List Operand)
      → TableRow g (op.Memory (operator a)) popped pushed
      → GroupRow g set (op.Memory (operator a)) popped pushed

-- a code of one byte has this class: it is that of one operator, or what it takes and gives is known
abbrev pub IsClass : Class → ℕ → Type 0
IsClass class.Unreachable code = code ≡ 0x00
IsClass class.Nop code = code ≡ 0x01
IsClass class.Block code = code ≡ 0x02
IsClass class.Loop code = code ≡ 0x03
IsClass class.If code = code ≡ 0x04
IsClass class.Else code = code ≡ 0x05
IsClass class.End code = code ≡ 0x0b
IsClass class.Br code = code ≡ 0x0c
IsClass class.BrIf code = code ≡ 0x0d
IsClass class.BrTable code = code ≡ 0x0e
IsClass class.Return code = code ≡ 0x0f
IsClass class.Call code = code ≡ 0x10
IsClass class.CallIndirect code = code ≡ 0x11
IsClass class.ReturnCall code = code ≡ 0x12
IsClass class.ReturnCallIndirect code = code ≡ 0x13
IsClass class.Drop code = code ≡ 0x1a
IsClass class.Select code = code ≡ 0x1b
IsClass class.LocalGet code = code ≡ 0x20
IsClass class.LocalSet code = code ≡ 0x21
IsClass class.LocalTee code = code ≡ 0x22
IsClass class.GlobalGet code = code ≡ 0x23
IsClass class.GlobalSet code = code ≡ 0x24
IsClass class.MemorySize code = code ≡ 0x3f
IsClass class.MemoryGrow code = code ≡ 0x40
IsClass class.I32Const code = code ≡ 0x41
IsClass class.I64Const code = code ≡ 0x42
IsClass class.F32Const code = code ≡ 0x43
IsClass class.F64Const code = code ≡ 0x44
IsClass class.Prefixed code = code ≡ 0xfc
IsClass class.Object code = code ≡ 0xfb
IsClass class.LoadI32 code = code ≡ 0x28
IsClass class.LoadI64 code = code ≡ 0x29
IsClass class.LoadByte code = code ≡ 0x2d
IsClass class.StoreI32 code = code ≡ 0x36
IsClass class.StoreI64 code = code ≡ 0x37
IsClass class.ChangeI32 code = IsNumberAt None code (0 ∷ []) (0 ∷ [])
IsClass class.Shorten code = IsNumberAt None code (1 ∷ []) (0 ∷ [])
IsClass class.Lengthen code = IsNumberAt None code (0 ∷ []) (1 ∷ [])
IsClass class.CombineI32 code = IsNumberAt None code (0 ∷ 0 ∷ []) (0 ∷ [])
IsClass class.CombineI64 code = IsNumberAt None code (1 ∷ 1 ∷ []) (1 ∷ [])
IsClass class.CombineF32 code = IsNumberAt None code (2 ∷ 2 ∷ []) (2 ∷ [])
IsClass class.CombineF64 code = IsNumberAt None code (3 ∷ 3 ∷ []) (3 ∷ [])
IsClass class.CompareI64 code = IsNumberAt None code (1 ∷ 1 ∷ []) (0 ∷ [])
IsClass class.CompareF32 code = IsNumberAt None code (2 ∷ 2 ∷ []) (0 ∷ [])
IsClass class.CompareF64 code = IsNumberAt None code (3 ∷ 3 ∷ []) (0 ∷ [])
IsClass _ code = Unit {0}

-- what an argument begins with stands from one offset to another: its flags, and the index of a memory if they name one; an offset is to follow
abbrev pub NamesMemory : ℕ → List ℕ → ℕ → ℕ → ℕ → Type 0
NamesMemory features text i memory j = (access : AccessOrdering) (natural x e : ℕ) → GivesAt (offset (has Memory64 features)) text j x e
    → GivesAt (memory_argument features access natural) text i (argument (get_or text i 0 % 16) natural memory None x) e

-- The argument of an access of this natural alignment to a memory whose addresses are of this code stands from one offset to another. Its first
-- byte says how it is aligned.
pub record IsArgumentAt (t : Tables) (text : List ℕ) (i natural address j : ℕ) : Type 0 where
  pub memory : ℕ
  pub offset : ℕ
  pub read : (access : AccessOrdering) → GivesAt (memory_argument t.features.0 access natural) text i
      (argument (get_or text i 0 % 16) natural memory None offset) j
  pub aligned : get_or text i 0 % 16 ≤ natural
  pub reached : offset < 0x1_0000_0000
  pub there : Reaches t memory address

-- behind the prefix `fc` this code is that of a conversion between these types
abbrev pub IsSaturating : Option (ℕ × ℕ) → ℕ → Type 0
IsSaturating None code = Unit {0}
IsSaturating (Some t) code = IsNumberAt (Some 0xfc) code (t.0 ∷ []) (t.1 ∷ [])
