-- Worked runs: what some code comes to, so that the laws are not about nothing.
use Rattle.std.specs.Prelude.{◌≡◌, ℕ, ℤ, true, false, List, [], ◌∷◌, Option, Some, None}
use Rattle.wasm_types.specs.trees.Types.{any, abstract, i32, i64, number, i8, i16, value, array_of, FieldOf, InnerOf, function, struct_of, entry_map, ref}
use Rattle.wasm_types.specs.trees.Trees.{TypeTree, type_of, group_tree}
use Rattle.wasm_types.specs.values.declared.heap.AbstractHeapType.TheVariants as heap
use Rattle.wasm_types.specs.values.declared.heap.HeapType.{HeapType}
use Rattle.wasm_types.specs.values.declared.heap.HeapType.TheVariants as written_heap
use Rattle.wasm_types.specs.values.declared.value.ValType.TheVariants as written
use Rattle.wasm_operators_immediates.specs.declared.block.BlockType.TheVariants as block
use Rattle.wasm_operators_immediates.specs.declared.handlers.Catch.TheVariants as catch
use Rattle.wasm_operators_enums.specs.declared.control.ControlOperator.TheVariants as control
use Rattle.wasm_operators_enums.specs.declared.constant.ConstOperator.TheVariants as const
use Rattle.wasm_operators_enums.specs.Op as op
use Rattle.wasm_operators_enums.specs.Op.{Op}
use Rattle.wasm_operators_encoding.specs.expressions.Code.{Code, close, plain, nested, turn}
use Rattle.wasm_operator_validator_rules.specs.Operands.{ValueType}
use Rattle.wasm_operator_validator_soundness.specs.runs.Values.{Function, Program, Value, number_value, ref_null}
use Rattle.wasm_operator_validator_soundness.specs.runs.States.{Activation, State, Answer, Outcome, next, returned, thrown, trapped}
use Rattle.wasm_operator_validator_soundness.specs.runs.Machine.{begun_with}
use Rattle.wasm_operator_validator_soundness.specs.runs.Soundness.{step}

-- ---- types

abbrev pub alone : Option TypeTree → InnerOf TypeTree → TypeTree
alone above inner = record {
  group = group_tree (entry_map (λ (t : TypeTree). type_of t.group t.place)
      (record {
        is_final = false;
        supertype = above;
        shared = false;
        descriptor = None;
        describes = None;
        inner = inner;
      }) ∷ []);
  place = 0;
}

abbrev pub variable : ValueType → FieldOf TypeTree
variable v = record { storage = value v; mutable = true }

abbrev pub gives_i32 : TypeTree
gives_i32 = alone None (function [] (number i32 ∷ []))

abbrev pub takes_i32 : TypeTree
takes_i32 = alone None (function (number i32 ∷ []) [])

abbrev pub gives_i64 : TypeTree
gives_i64 = alone None (function [] (number i64 ∷ []))

abbrev pub takes_i64 : TypeTree
takes_i64 = alone None (function (number i64 ∷ []) [])

-- a struct, one below it with one field more, and one that is not
abbrev pub pair : TypeTree
pair = alone None (struct_of (variable (number i32) ∷ []))

abbrev pub triple : TypeTree
triple = alone (Some pair) (struct_of (variable (number i32) ∷ variable (number i64) ∷ []))

abbrev pub wide : TypeTree
wide = alone None (struct_of (variable (number i64) ∷ []))

-- an array of references, one of bytes, and a struct whose field has no default
abbrev pub cells : TypeTree
cells = alone None (array_of (variable (ref true (abstract false any))))

abbrev pub octets : TypeTree
octets = alone None (array_of (record { storage = i8; mutable = true }))

-- one of 16 bits, and one of bytes that is never written
abbrev pub halves : TypeTree
halves = alone None (array_of (record { storage = i16; mutable = true }))

abbrev pub fixed : TypeTree
fixed = alone None (array_of (record { storage = i8; mutable = false }))

abbrev pub whole : TypeTree
whole = alone None (struct_of (variable (ref false (abstract false any)) ∷ []))

-- ---- code

abbrev pub end : Code
end = close (op.Control control.End)

abbrev pub call : ℕ → Op
call x = op.Control (control.Call x)

abbrev pub throw : Op
throw = op.Exception (op.Throw 0)

abbrev pub i32_block : Op
i32_block = op.Control (control.Block (block.Val written.I32))

abbrev pub guarded : Op
guarded = op.Exception (op.TryTable (record { ty = block.Empty; catches = catch.One 0 0 ∷ [] }))

abbrev pub tried : Op
tried = op.Exception (op.Try (block.Val written.I32))

abbrev pub a_struct : HeapType
a_struct = written_heap.Abstract false heap.Struct

abbrev pub made : Code → Function
made c = record { type = gives_i32; body = Some (record { locals = []; code = c }) }

abbrev pub one : Value
one = number_value i32 0

-- ---- answers

abbrev pub silent : Answer
silent = record {
  values = [];
  held = ref_null false any;
  condition = false;
  index = 0;
  traps = false;
  throws = None;
  leaves = 0;
  made = 0;
}

abbrev pub giving : Value → Answer
giving v = record silent { values = v ∷ [] }

abbrev pub deciding : Answer
deciding = record silent { condition = true }

abbrev pub leaving : ℕ → Answer
leaving n = record silent { leaves = n }

-- ---- states

-- one activation that gives an i32 and owes what is said, over these values; its whole code, which no step reads, is left out
abbrev pub standing : List ValueType → List Value → Code → State
standing owed vs c =
    let act : Activation = begun_with [] (number i32 ∷ []) false [] owed c in record act
    { whole = end; innermost = record act.innermost { values = vs } } ∷ []

-- with a constant of this number
module _ (x : ℤ) where
  abbrev pub five : Op
  five = op.Const (const.I32Const x)

  -- a program: a constant, a call of it, a tail call of it, a throw, and two callers that catch what is thrown

  abbrev pub functions : List Function
  functions =
      made (plain five end)
      ∷ made (plain (call 0) end)
      ∷ made (plain (op.Control (control.ReturnCall 0)) end)
      ∷ made (plain five (plain throw end))
      ∷ made (nested i32_block (nested guarded (plain (call 3) (plain (op.Parametric op.Drop) end))
      (plain (op.Control control.Unreachable) end)) end)
      ∷ made (nested tried (plain (call 3) (turn (op.Exception (op.Catch 0)) end)) end)
      ∷ []

  abbrev pub small : Program
  small = record {
    bits = 0;
    «module» = record {
      types = gives_i32 ∷ takes_i32 ∷ pair ∷ triple ∷ cells ∷ whole ∷ octets ∷ halves ∷ fixed ∷ [];
      functions = gives_i32 ∷ gives_i32 ∷ gives_i32 ∷ gives_i32 ∷ gives_i32 ∷ gives_i32 ∷ [];
      tables = record { element = ref true (abstract false any); table64 = false; shared = false } ∷ [];
      memories = [];
      globals = record { content = number i32; mutable = false; shared = false } ∷ [];
      tags = takes_i32 ∷ [];
      elements = [];
      data_count = Some 1;
      referenced = [];
      exact_functions = [];
    };
    functions = functions;
  }

  -- what these answers lead to
  abbrev pub onward : Outcome → List Answer → Outcome
  onward o [] = o
  onward (next s) (a ∷ answers) = onward (step small s a).outcome answers
  onward o (a ∷ answers) = o

  abbrev pub run : Code → List Answer → Outcome
  run c answers = onward (next (standing (number i32 ∷ []) [] c)) answers

  -- ---- the rows

  pub record RunsWorked : Type 0 where
    pub called : run (plain (call 0) end) (silent ∷ giving one ∷ silent ∷ silent ∷ []) ≡ returned (one ∷ [])
    pub called_twice : run (plain (call 1) end) (silent ∷ silent ∷ giving one ∷ silent ∷ silent ∷ silent ∷ []) ≡
        returned (one ∷ [])
    pub replaced : run (plain (op.Control (control.ReturnCall 0)) end) (silent ∷ giving one ∷ silent ∷ []) ≡ returned
        (one ∷ [])
    pub thrown_out : run (plain (call 3) end) (silent ∷ giving one ∷ leaving 2 ∷ []) ≡ thrown takes_i32 (one ∷ [])
    -- the function that throws has one label, and the caller's innermost is the `try_table`
    pub caught : run (plain (call 4) end) (silent ∷ silent ∷ silent ∷ silent ∷ giving one ∷ leaving 1 ∷ silent ∷ silent
        ∷ []) ≡ returned (one ∷ [])
    pub clause : run (plain (call 5) end) (silent ∷ silent ∷ silent ∷ giving one ∷ leaving 1 ∷ silent ∷ silent ∷ silent
        ∷ []) ≡ returned (one ∷ [])
    pub trapped_at_once : run (plain (op.Control control.Unreachable) end) (silent ∷ []) ≡ trapped
