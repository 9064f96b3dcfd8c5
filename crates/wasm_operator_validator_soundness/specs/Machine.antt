-- How instructions run within one activation (WebAssembly 3.0, execution, instructions). The idea: values carry their types
-- and nothing else, so whatever the standard computes from bits, memories, tables, globals, objects or other functions is an
-- answer that comes from outside, and has to fit the type that it is said to have. A reduction then says what it asks of the
-- values that are there, what it asks of the answer, and what comes of it.
--
-- Each plain operator asks that some row of the typing rules, in the context in which it runs, takes the values on top. What the
-- values and locals of the activation themselves determine has a rule of its own: branches, calls, `select`, locals, nulls, and
-- copies into tables. All other operators have one rule, by their rows: an answer fits what each row gives that takes the values
-- on top, or what a label takes that the operator names. If no rule applies, the outcome is that the configuration is stuck.
use Rattle.std.specs.Prelude.{◌≡◌, ℕ, zero, suc, Bool, true, false, List, [], ◌∷◌, ◌++◌, map, get_or, Option, Some, None, slice_get, slice_set, reverse, length, drop}
use Rattle.wasm_types.specs.trees.Types.{Number, i32, InnerOf, function, number, value_map}
use Rattle.wasm_types.specs.trees.Trees.{TypeTree}
use Rattle.wasm_types.specs.trees.Below.{expanded}
use Rattle.wasm_types.specs.values.declared.value.ValType.{ValType}
use Rattle.wasm_types.specs.values.declared.value.ValType.TheVariants as value
use Rattle.wasm_types.specs.values.Values.{value_of}
use Rattle.wasm_operators_immediates.specs.declared.block.BlockType.{BlockType}
use Rattle.wasm_operators_immediates.specs.declared.block.BlockType.TheVariants as block
use Rattle.wasm_operators_immediates.specs.declared.frames.FrameKind.{FrameKind}
use Rattle.wasm_operators_immediates.specs.declared.frames.FrameKind.TheVariants as frames
use Rattle.wasm_operators_enums.specs.declared.control.ControlOperator.{ControlOperator}
use Rattle.wasm_operators_enums.specs.declared.control.ControlOperator.TheVariants as control
use Rattle.wasm_operators_enums.specs.declared.memory.MemoryOperator.{MemoryOperator}
use Rattle.wasm_operators_enums.specs.declared.memory.MemoryOperator.TheVariants as memory
use Rattle.wasm_operators_enums.specs.declared.bulk.BulkOperator.{BulkOperator}
use Rattle.wasm_operators_enums.specs.declared.bulk.BulkOperator.TheVariants as bulk
use Rattle.wasm_operators_enums.specs.declared.role.Role.{Role}
use Rattle.wasm_operators_enums.specs.declared.role.Role.TheVariants.{Opens}
use Rattle.wasm_operators_enums.specs.Roles.{role_of}
use Rattle.wasm_operators_enums.specs.Op as op
use Rattle.wasm_operators_enums.specs.Op.{Op, ParametricTree}
use Rattle.wasm_operators_encoding.specs.expressions.Code.{Code, close, plain, nested, turn}
use Rattle.wasm_operator_validator_rules.specs.Operands.{ValueType, Operand, known, IsReference, stack}
use Rattle.wasm_operator_validator_rules.specs.Context.{Context, Table, Initialised, Signature, is_catch, inside, written_type, address_type}
use Rattle.wasm_operator_validator_rules.specs.InstructionTypes.{i32_type, shorter}
use Rattle.wasm_operator_validator_rules.specs.Row.{Row}
use Rattle.wasm_operator_validator_rules.specs.Typed.{block_type_of, Turns, in_part}
use Rattle.wasm_operator_validator_soundness.specs.Values.{Value, number_value, ref_null, ref_defined, least_type, Fits, EachFits, AllFit}
use Rattle.wasm_operator_validator_soundness.specs.States.{Continuation, behind, again, Handlers, no_handlers, exits, clauses, Label, Configuration, all_labels, branch_type, context_in}
use Rattle.wasm_operator_validator_soundness.specs.States.{Way, branches, traps, throws, Answer, Outcome, next, returned, replaced, trapped, stuck}
use Rattle.wasm_operator_validator_soundness.specs.States.{Reduction, by_itself, no_rule, refused, asks, front, back, AreOnTop}
use Rattle.wasm_operator_validator_soundness.specs.Labels.{labels_named}

-- ---- what the code means in a module

-- the type that code writes, and the type of a function and of a block, if it is one
abbrev pub meant_type : Context → ValType → ValueType
meant_type g written = value_map (written_type g.«module») (value_of written)

abbrev pub signature_in : InnerOf TypeTree → Option Signature
signature_in (function ps rs) = Some (record { params = ps; results = rs })
signature_in _ = None

abbrev pub function_type : Option TypeTree → Option Signature
function_type None = None
function_type (Some t) = signature_in (expanded t)

abbrev pub block_signature : Context → BlockType → Option Signature
block_signature g block.Empty = Some (record { params = []; results = [] })
block_signature g (block.Val written) = Some (record { params = []; results = meant_type g written ∷ [] })
block_signature g (block.FuncType x) = function_type (slice_get g.«module».types x)

-- that of the block that an operator opens, if it opens one
abbrev pub signature_for : Context → Option BlockType → Option Signature
signature_for g None = None
signature_for g (Some bt) = block_signature g bt

-- the second part of an `if`, which is empty where there is no `else`
abbrev pub second_part : Code → Code
second_part (close o) = close o
second_part (plain o more) = second_part more
second_part (nested o body more) = second_part more
second_part (turn o more) = more

-- a clause of an older `try`: its operator, the context in which that stands, and its instructions; by its number
pub record Clause : Type 0 where
  pub operator : Op
  pub context : Context
  pub code : Code

abbrev pub clause_at : Context → Code → ℕ → Option Clause
clause_at g (close o) n = None
clause_at g (plain o more) n = clause_at g more n
clause_at g (nested o body more) n = clause_at g more n
clause_at g (turn o more) zero = Some (record { operator = o; context = g; code = more })
clause_at g (turn o more) (suc n) = clause_at (in_part o g) more n

-- how a branch to a block goes on, and what catches exceptions in it, by its kind
abbrev pub continuation_of : FrameKind → Code → Continuation
continuation_of frames.Loop body = again body
continuation_of j body = behind

abbrev pub handlers_of : FrameKind → Op → Code → Handlers
handlers_of frames.TryTable o body = exits (labels_named 0 o)
handlers_of frames.LegacyTry o body = clauses body
handlers_of j o body = no_handlers

-- ---- leaving labels (execution, control instructions)

-- values come out of a label, with these around it
abbrev pub come_out : Configuration → List Label → List Value → Outcome
come_out k [] vs = returned vs
come_out k (l ∷ ls) vs = next (record k { innermost = record l { values = vs ++ l.values }; around = ls })

abbrev pub land : Configuration → Continuation → Label → List Label → List Value → Outcome
land k behind l ls vs = come_out k ls vs
land k (again body) l ls vs = next (record k { innermost = record l { code = body; values = vs }; around = ls })

-- a branch to a label by its number from the innermost, with these values
abbrev pub jump : Configuration → ℕ → List Label → List Value → Outcome
jump k n [] vs = stuck
jump k zero (l ∷ ls) vs = land k l.continuation l ls vs
jump k (suc n) (l ∷ ls) vs = jump k n ls vs

-- ---- reductions

-- the same configuration with other values above its innermost label, and other instructions
abbrev pub going : Configuration → List Value → Code → Configuration
going k vs code = record k { innermost = record k.innermost { values = vs; code = code } }

-- the context in which its innermost instructions stand, and the locals that have a value
abbrev pub context_at : Context → Configuration → Context
context_at g k = context_in g (all_labels k)

abbrev pub has_value : Option (Option Value) → Bool
has_value (Some (Some v)) = true
has_value _ = false

abbrev pub set_in : Configuration → Initialised
set_in k = λ x. has_value (slice_get k.locals x)

-- a row of an operator takes the values on top
abbrev pub TakesValues : Context → Configuration → Op → List Operand → List Operand → Type 0
TakesValues g k o popped pushed =
    Row (context_at g k) (set_in k) o popped pushed × AllFit (front (reverse popped) k.innermost.values) (reverse popped)

-- the part of an `if` that a condition chooses, and the first or the second of two values
abbrev pub either_part : Bool → Code → Code
either_part true body = body
either_part false body = second_part body

abbrev pub chosen : Bool → Value → Value → Value
chosen true v w = v
chosen false v w = w

-- one value alone, a null of that type
abbrev pub IsNull : Value → Type 0
IsNull (ref_null s h) = Unit {0}
IsNull v = ⊥

abbrev pub IsNullOf : ValueType → List Value → Type 0
IsNullOf t [] = ⊥
IsNullOf t (v ∷ []) = IsNull v × Fits v t
IsNullOf t (v ∷ w ∷ vs) = ⊥

module _ (g : Context) (a : Answer) (k : Configuration) where
  abbrev pub vs : List Value
  vs = k.innermost.values

  -- a reduction that leaves these values
  abbrev pub leaves : Type 0 → List Value → Code → Reduction
  leaves P ws more = by_itself P (next (going k ws more))

  -- ---- labels that the answer goes to, with its values

  -- one of these labels, if it is there: with values of the types that it takes
  abbrev pub goes_to : ℕ → List Label → Option (List ValueType) → Reduction
  goes_to n ls None = refused
  goes_to n ls (Some ts) = record { asked = Unit {0}; answered = AllFit a.values (stack ts); outcome = jump k n ls a.values }

  abbrev pub goes_by : Option ℕ → List Label → Reduction
  goes_by None ls = refused
  goes_by (Some n) ls = goes_to n ls (slice_get (map branch_type ls) n)

  -- a clause of an older `try` with this label: with values of the types with which each typing of the clause begins
  abbrev pub turns_to : Option Clause → Label → List Label → Reduction
  turns_to None l ls = refused
  turns_to (Some c) l ls = record {
    asked = (ts : List ValueType) × Turns c.context l.block c.operator ts;
    answered = (ts : List ValueType) → Turns c.context l.block c.operator ts → AllFit a.values (stack ts);
    outcome =
        next (record k { innermost = record l { code = c.code; values = a.values; continuation = behind; handlers = no_handlers; clause = true }; around = ls });
  }

  abbrev pub caught_by : Handlers → Label → List Label → Reduction
  caught_by no_handlers l ls = refused
  caught_by (exits ns) l ls = goes_by (slice_get ns a.index) ls
  caught_by (clauses c) l ls = turns_to (clause_at (inside frames.LegacyTry l.block.results (context_in g ls)) c a.index) l ls

  -- an exception that leaves so many of these labels, and that a clause of the next one catches
  abbrev pub caught_after : ℕ → List Label → Reduction
  caught_after n [] = refused
  caught_after zero (l ∷ ls) = caught_by l.handlers l ls
  caught_after (suc n) (l ∷ ls) = caught_after n ls

  -- what may fail: a trap, or an exception, which leaves the activation or is caught within it
  abbrev pub unless_fails : Way → Reduction → Reduction
  unless_fails traps r = by_itself (Unit {0}) trapped
  unless_fails (throws n) r = caught_after n (all_labels k)
  unless_fails w r = r

  abbrev pub unless_traps : Way → Reduction → Reduction
  unless_traps traps r = by_itself (Unit {0}) trapped
  unless_traps w r = r

  -- ---- operators by their rows

  -- Each row that takes the values on top takes so many, and gives what the answer's values fit.
  abbrev pub FitsEachRow : Op → Type 0
  FitsEachRow o = (popped pushed : List Operand) → TakesValues g k o popped pushed → (length popped ≡ a.taken)
      × AllFit a.values (reverse pushed)

  -- If what comes next is not reached, a row may give anything, and no values fit that.
  abbrev pub runs_by_rows : Way → Op → Code → Reduction
  runs_by_rows branches o more = goes_by (slice_get (labels_named (length k.around) o) a.index) (all_labels k)
  runs_by_rows w o more =
      record { asked = Unit {0}; answered = FitsEachRow o; outcome = next (going k (a.values ++ drop a.taken vs) more) }

  abbrev pub by_rows : Op → Code → Reduction
  by_rows o more = unless_fails a.way (runs_by_rows a.way o more)

  -- ---- blocks (execution, control instructions, blocks)

  -- a part of a block's instructions begins above a new label, with its parameters
  abbrev pub within : FrameKind → Op → Signature → Code → Code → List Value → Code → Outcome
  within j o b body part ws more = next (record k {
    innermost = record {
      code = part;
      values = front (stack b.params) ws;
      block = b;
      continuation = continuation_of j body;
      handlers = handlers_of j o body;
      clause = is_catch j;
    };
    around = record k.innermost { values = back (stack b.params) ws; code = more } ∷ k.around;
  })

  abbrev pub open_if : Op → Signature → Code → List Value → Code → Reduction
  open_if o b body [] more = no_rule
  open_if o b body (c ∷ ws) more = by_itself (Fits c i32_type × AreOnTop b.params ws)
      (within frames.If o b body (either_part a.condition body) ws more)

  abbrev pub opens : FrameKind → Option Signature → Op → Code → Code → Reduction
  opens j None o body more = no_rule
  opens frames.If (Some b) o body more = open_if o b body vs more
  opens j (Some b) o body more = by_itself (AreOnTop b.params vs) (within j o b body body vs more)

  abbrev pub enter : Role → Op → Code → Code → Reduction
  enter (Opens j) o body more = opens j (signature_for g (block_type_of o)) o body more
  enter r o body more = no_rule

  -- ---- branches, returns and calls (execution, control instructions)

  abbrev pub label_at : ℕ → Option (List ValueType)
  label_at n = slice_get (map branch_type (all_labels k)) n

  abbrev pub branch : ℕ → Option (List ValueType) → Reduction
  branch n None = no_rule
  branch n (Some ts) = by_itself (AreOnTop ts vs) (jump k n (all_labels k) (front (stack ts) vs))

  abbrev pub branch_or : Bool → ℕ → List ValueType → List Value → Code → Outcome
  branch_or true n ts ws more = jump k n (all_labels k) (front (stack ts) ws)
  branch_or false n ts ws more = next (going k ws more)

  abbrev pub branch_if : ℕ → Option (List ValueType) → List Value → Code → Reduction
  branch_if n (Some ts) (c ∷ ws) more = by_itself (Fits c i32_type × AreOnTop ts ws) (branch_or a.condition n ts ws more)
  branch_if n _ ws more = no_rule

  -- to the label that the answer means, by its number
  abbrev pub branch_by : ℕ → Option (List ValueType) → List Value → Reduction
  branch_by n (Some ts) (c ∷ ws) = by_itself (Fits c i32_type × AreOnTop ts ws) (jump k n (all_labels k) (front (stack ts) ws))
  branch_by n _ ws = no_rule

  -- values of these types go, and the answer's come, of those types; or the function called traps or throws
  abbrev pub exchange : List ValueType → List ValueType → Code → Reduction
  exchange ts us more = asks (AreOnTop ts vs) (unless_fails a.way (record {
    asked = Unit {0};
    answered = AllFit a.values (stack us);
    outcome = next (going k (a.values ++ back (stack ts) vs) more);
  }))

  -- the function takes its arguments and gives its results
  abbrev pub call : Option Signature → Code → Reduction
  call None more = no_rule
  call (Some b) more = exchange b.params b.results more

  abbrev pub return_call : Option Signature → Reduction
  return_call None = no_rule
  return_call (Some b) = by_itself (AreOnTop b.params vs) (replaced b (front (stack b.params) vs))

  -- through a table, whose index comes last
  abbrev pub call_indirect : Option Table → Option Signature → Code → Reduction
  call_indirect (Some t) (Some b) more = exchange (b.params ++ address_type t.table64 ∷ []) b.results more
  call_indirect _ _ more = no_rule

  abbrev pub return_call_indirect : Option Table → Option Signature → List Value → Reduction
  return_call_indirect (Some t) (Some b) (c ∷ ws) =
      asks (Fits c (address_type t.table64) × AreOnTop b.params ws) (unless_traps a.way (by_itself (Unit {0}) (replaced b (front (stack b.params) ws))))
  return_call_indirect _ _ ws = no_rule

  abbrev pub operate_control : ControlOperator → Code → Reduction
  operate_control control.Unreachable more = by_itself (Unit {0}) trapped
  operate_control control.Nop more = leaves (Unit {0}) vs more
  operate_control (control.Br n) more = branch n (label_at n)
  operate_control (control.BrIf n) more = branch_if n (label_at n) vs more
  operate_control (control.BrTable t) more = let n = get_or t.targets a.index t.default in branch_by n (label_at n) vs
  operate_control control.Return more = by_itself (AreOnTop g.results vs) (returned (front (stack g.results) vs))
  operate_control (control.Call x) more = call (function_type (slice_get g.«module».functions x)) more
  operate_control (control.CallIndirect y x) more = call_indirect (slice_get g.«module».tables x)
      (function_type (slice_get g.«module».types y)) more
  operate_control (control.ReturnCall x) more = return_call (function_type (slice_get g.«module».functions x))
  operate_control (control.ReturnCallIndirect y x) more = return_call_indirect (slice_get g.«module».tables x)
      (function_type (slice_get g.«module».types y)) vs
  operate_control o more = by_rows (op.Control o) more

  -- ---- parametric instructions (execution, parametric instructions)

  abbrev pub drop_from : List Value → Code → Reduction
  drop_from [] more = no_rule
  drop_from (v ∷ ws) more = leaves (Unit {0}) ws more

  -- of two values of one kind
  abbrev pub select_from : (Value → Value → Type 0) → List Value → Code → Reduction
  select_from OfOneKind (c ∷ w ∷ v ∷ ws) more = leaves (Fits c i32_type × OfOneKind v w) (chosen a.condition v w ∷ ws) more
  select_from OfOneKind _ more = no_rule

  abbrev pub operate_parametric : ParametricTree → Code → Reduction
  operate_parametric op.Drop more = drop_from vs more
  operate_parametric op.Select more = select_from (λ v w. (n : Number) × Fits v (number n) × Fits w (number n)) vs more
  operate_parametric (op.TypedSelect written) more = let t = meant_type g written in select_from (λ v w. Fits v t × Fits w t) vs more
  operate_parametric o more = by_rows (op.Parametric o) more

  -- ---- locals (execution, variable instructions)

  abbrev pub get_local : Option (Option Value) → Code → Reduction
  get_local (Some (Some v)) more = leaves (Unit {0}) (v ∷ vs) more
  get_local _ more = no_rule

  -- what is written, of the local's type, and what then stands
  abbrev pub set_local : ℕ → Option ValueType → Value → List Value → Code → Reduction
  set_local x None v ws more = no_rule
  set_local x (Some t) v ws more = by_itself (Fits v t) (next (record (going k ws more) { locals = slice_set k.locals x (Some v) }))

  abbrev pub set_from : ℕ → List Value → Code → Reduction
  set_from x [] more = no_rule
  set_from x (v ∷ ws) more = set_local x (slice_get g.locals x) v ws more

  abbrev pub tee_from : ℕ → List Value → Code → Reduction
  tee_from x [] more = no_rule
  tee_from x (v ∷ ws) more = set_local x (slice_get g.locals x) v (v ∷ ws) more

  abbrev pub operate_memory : MemoryOperator → Code → Reduction
  operate_memory (memory.LocalGet x) more = get_local (slice_get k.locals x) more
  operate_memory (memory.LocalSet x) more = set_from x vs more
  operate_memory (memory.LocalTee x) more = tee_from x vs more
  operate_memory o more = by_rows (op.Memory o) more

  -- ---- references, and copies into tables (execution, reference instructions, table instructions)

  abbrev pub null_of : ValueType → Code → Reduction
  null_of t more = record { asked = Unit {0}; answered = IsNullOf t a.values; outcome = next (going k (a.values ++ vs) more) }

  abbrev pub is_null : List Value → Code → Reduction
  is_null [] more = no_rule
  is_null (v ∷ ws) more = leaves (IsReference (known (least_type v))) (number_value i32 ∷ ws) more

  abbrev pub function_at : Option TypeTree → Code → Reduction
  function_at None more = no_rule
  function_at (Some t) more = leaves (Unit {0}) (ref_defined t ∷ vs) more

  -- operands of these types go, and values of one type, which the answer names, are written where another type is declared
  abbrev pub copies : List ValueType → ValueType → ValueType → Code → Reduction
  copies ts s t more = asks (AreOnTop ts vs) (unless_traps a.way (record {
    asked = EachFits a.values t;
    answered = EachFits a.values s;
    outcome = next (going k (back (stack ts) vs) more);
  }))

  abbrev pub init_table : Option ValueType → Option Table → Code → Reduction
  init_table (Some s) (Some t) more = copies (address_type t.table64 ∷ i32_type ∷ i32_type ∷ []) s t.element more
  init_table _ _ more = no_rule

  abbrev pub copy_table : Option Table → Option Table → Code → Reduction
  copy_table (Some t) (Some s) more = copies (address_type t.table64 ∷ address_type s.table64 ∷ shorter t.table64 s.table64 ∷ []) s.element t.element more
  copy_table _ _ more = no_rule

  abbrev pub operate_bulk : BulkOperator → Code → Reduction
  operate_bulk (bulk.RefNull h) more = null_of (meant_type g (value.Ref (record { nullable = true; heap = h }))) more
  operate_bulk bulk.RefIsNull more = is_null vs more
  operate_bulk (bulk.RefFunc x) more = function_at (slice_get g.«module».functions x) more
  operate_bulk (bulk.TableInit e x) more = init_table (slice_get g.«module».elements e) (slice_get g.«module».tables x) more
  operate_bulk (bulk.TableCopy x y) more = copy_table (slice_get g.«module».tables x) (slice_get g.«module».tables y) more
  operate_bulk o more = by_rows (op.Bulk o) more

  -- ---- all of them

  abbrev pub rule : Op → Code → Reduction
  rule (op.Control o) more = operate_control o more
  rule (op.Parametric o) more = operate_parametric o more
  rule (op.Memory o) more = operate_memory o more
  rule (op.Bulk o) more = operate_bulk o more
  rule o more = by_rows o more

  abbrev pub operate : Op → Code → Reduction
  operate o more = asks ((popped pushed : List Operand) × TakesValues g k o popped pushed) (rule o more)

  -- the end of a block's instructions, or of a part of them
  abbrev pub end_of_block : Reduction
  end_of_block = by_itself (AllFit vs (stack k.innermost.block.results)) (come_out k k.around vs)

  abbrev pub execute : Code → Reduction
  execute (close o) = end_of_block
  execute (plain o more) = operate o more
  execute (nested o body more) = enter (role_of o) o body more
  execute (turn o more) = end_of_block

-- the reduction of a configuration under an answer
abbrev pub reduce : Context → Configuration → Answer → Reduction
reduce g k a = execute g a k k.innermost.code

-- these answers, each of which fits, lead from one configuration to another
abbrev pub Runs : Context → Configuration → List Answer → Configuration → Type 0
Runs g k [] l = k ≡ l
Runs g k (a ∷ answers) l = (m : Configuration) × (reduce g k a).answered × ((reduce g k a).outcome ≡ next m) × Runs g m answers l
