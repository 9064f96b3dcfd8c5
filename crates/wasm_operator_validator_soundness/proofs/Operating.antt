-- Parametric instructions, locals, references and tables.
use Rattle.std.proofs.Common.{◌≡◌, ℕ, List, [], ◌∷◌, ◌++◌, reverse, Some, Bool, true, false, IsTrue, refl, sym, subst, ◌∙◌}
use Rattle.std.proofs.Common.{slice_get, slice_set, Option, None, ap, if◌then◌else◌, ◌==◌, ◌&&◌, eqb-true, ◌<◌, length, true≢false}
use Rattle.std.proofs.lemmas.Option.{slice_get-get_or}
use Rattle.wasm_types.specs.settings.Features.{judges_vectors}
use Rattle.wasm_types.specs.trees.Types.{heap_map, i32, HeapOf, abstract, concrete, exact, ref}
use Rattle.wasm_types.specs.trees.Trees.{TypeTree}
use Rattle.wasm_types.specs.trees.Below.{Below}
use Rattle.wasm_types.specs.trees.ValidGroup.{type_at}
use Rattle.wasm_operators_immediates.specs.declared.frames.FrameKind.{FrameKind}
use Rattle.wasm_operators_immediates.specs.declared.memory.MemArg.{MemArg}
use Rattle.wasm_operators_enums.specs.declared.memory.MemoryOperator.{MemoryOperator}
use Rattle.wasm_operators_enums.specs.declared.memory.MemoryOperator.TheVariants as memory
use Rattle.wasm_operators_enums.specs.declared.bulk.BulkOperator.{BulkOperator}
use Rattle.wasm_operators_enums.specs.declared.bulk.BulkOperator.TheVariants as bulk
use Rattle.wasm_types.specs.trees.declared.index.UnpackedIndex.{UnpackedIndex}
use Rattle.wasm_types.specs.trees.declared.index.UnpackedIndex.TheVariants as index
use Rattle.wasm_types.specs.values.declared.heap.HeapType.{HeapType}
use Rattle.wasm_types.specs.values.declared.value.ValType.TheVariants as value
use Rattle.wasm_types.specs.values.Trees.{heap_of}
use Rattle.wasm_types.specs.values.Values.{value_of}
use Rattle.wasm_types.specs.trees.Each.{EachHeap}
use Rattle.wasm_operators_enums.specs.declared.atomic.AtomicOperator.{AtomicOperator}
use Rattle.wasm_operators_enums.specs.declared.atomic.AtomicOperator.TheVariants as atomic
use Rattle.wasm_types.specs.externs.declared.memory.MemoryType.{MemoryType}
use Rattle.wasm_operators_enums.specs.Table.{info_of}
use Rattle.wasm_operators_enums.specs.Immediates.{immediates_of}
use Rattle.wasm_operators_enums.specs.declared.vector_numeric.SimdNumericOperator.{SimdNumericOperator}
use Rattle.wasm_operators_enums.specs.Op as op
use Rattle.wasm_operators_enums.specs.Op.{Op, ParametricTree, ExceptionTree, ContinuationTree}
use Rattle.wasm_operators_encoding.specs.expressions.Code.{Code, IsIn}
use Rattle.wasm_operator_validator_rules.specs.Operands.{ValueType, Operand, known, AllBelow, all_known, stack}
use Rattle.wasm_operator_validator_rules.specs.Context.{IsTypeIndex, written_type, Context, Table, Global, Initialised, Frame, IsType, address_type}
use Rattle.wasm_operator_validator_rules.specs.Numbers.{numbers}
use Rattle.wasm_operator_validator_rules.specs.Accesses.{AccessOf, access_of, atomic_access_of, operands_of, results_of, may_access}
use Rattle.wasm_operator_validator_rules.specs.Vectors.{VectorWork, on_lanes, reaches, vectors_taken, vectors_given, vector_class}
use Rattle.wasm_operator_validator_rules.specs.InstructionTypes.{InstructionType, ◌⟶◌, accesses, memory_at, global_at, table_at, names_data, i32_type, shorter, where_vectors, lanes_type, work_type}
use Rattle.wasm_operator_validator_rules.specs.Taken.{Takes, TableRow}
use Rattle.wasm_operator_validator_rules.specs.Row.{IsNumber, ParametricRow, MemoryRow, IsReferenceTo, of_type, of_exactly, BulkRow, sets}
use Rattle.wasm_operator_validator_soundness.specs.runs.Notes.{Notes, IsAlong}
use Rattle.wasm_operator_validator_soundness.specs.runs.Places.{IsValidFunctionBy, IsValidBy}
use Rattle.wasm_operator_validator_soundness.specs.runs.Values.{IsAReference, IsStandardType, Function, Program, Value, number_value, ref_function, least_type, IsNumberValue, Fits, FitsOperand, AllFit, null_of}
use Rattle.wasm_operator_validator_soundness.specs.runs.States.{Activation, Answer}
use Rattle.wasm_operator_validator_soundness.specs.runs.States.{next, Move, asks, found}
use Rattle.wasm_operator_validator_soundness.specs.runs.Machine.{address, meant, meant_heap, takes, copies, may_trap}
use Rattle.wasm_operator_validator_soundness.specs.runs.Names.{accessed, argument_of}
use Rattle.wasm_operator_validator_soundness.specs.runs.Machine.{going, goes, exchange, compute, access, operate_vector}
use Rattle.wasm_operator_validator_soundness.specs.runs.Machine.{select, operate_parametric, set_local, operate_memory, operate_bulk, operate_atomic, IsData}
use Rattle.wasm_operator_validator_soundness.proofs.RunsFitting.{each_below}
use Rattle.wasm_operator_validator_soundness.specs.runs.ValidStates.{AreSet, Around, around_of}
use Rattle.wasm_operator_validator_soundness.proofs.RunsInvariant.{none_is_some, some_same, local_fits, local_written, are_still_set, now_set}
use Rattle.wasm_operator_validator_soundness.proofs.RunsInvariant.{here, IsOkay, loops_still, handlers_still, still_await}
use Rattle.wasm_operator_validator_soundness.proofs.Combining.{done_okay, asks_okay, found_okay, pops_okay, takes_okay, copies_okay, may_trap_okay}
use Rattle.wasm_operator_validator_soundness.proofs.RunsLeaving.{null_fits}
use Rattle.wasm_operator_validator_soundness.proofs.Options.{address_is, named_some, if_there}
use Rattle.wasm_operator_validator_soundness.proofs.Objects.{provided_is, data_named}
use Rattle.wasm_operator_validator_soundness.proofs.Names.{AccessSays, access_says, atomic_says, lanes_say, WorkSays}
use Rattle.wasm_operator_validator_soundness.proofs.Values.{heap_there, value_there, as_other, either, is_a_number, is_reference}
use Rattle.wasm_operator_validator_soundness.proofs.Standing.{code_at, compute_okay, exchange_okay, goes_okay, table_of, values_at, Here}

-- what a copy takes, from one of these to the other
abbrev for_copy : Bool → Bool → List ValueType
for_copy m n = address m ∷ address n ∷ address (m && n) ∷ []

copy_is : (m n : Bool) → for_copy m n ≡ address_type m ∷ address_type n ∷ shorter m n ∷ []
copy_is true true = refl
copy_is true false = refl
copy_is false true = refl
copy_is false false = refl

module _ (N : Notes) (p : Program) (valid : IsValidBy N p) (final : List ValueType) (a : Answer) (act : Activation) (acts : List Activation) (h : Here N p final act acts) where
  abbrev w : Around
  w = around_of act

  abbrev g : Context
  g = here p a act acts

  abbrev f : Frame
  f = record { kind = h.kind; block = act.innermost.block; before = h.before }

  abbrev vs : List Value
  vs = act.innermost.values

  abbrev kind : FrameKind
  kind = h.kind

  abbrev before : Initialised
  before = h.before

  abbrev set : Initialised
  set = h.set

  abbrev are_set : AreSet h.set act.locals
  are_set = h.are_set

  abbrev s : List Operand
  s = h.operands

  abbrev fit : AllFit p act.innermost.values h.operands
  fit = h.fit

  abbrev Okay : Move → Type 0
  Okay m = IsOkay N p final m

  -- the instructions to come are typed, and stand where they may
  abbrev Goes : Initialised → Code → List Operand → Type 0
  Goes init more m = IsIn h.kind more × (n : N.Note) × IsAlong N h.root n × N.Holds n g f init more m

  -- ---- parametric instructions

  pub chosen_fits : (b : Bool) (v x : Value) (u : Operand) → FitsOperand p v u → FitsOperand p x u → FitsOperand p (if b then v else x) u
  chosen_fits true v x u y z = y
  chosen_fits false v x u y z = z

  -- one of two values of a type, where the rules have an operand of which both are
  pub selected_okay : (t : ValueType) (u : Operand) (more : Code) (rest : List Operand) → AllFit p vs (known i32_type ∷ u ∷ u ∷ rest)
      → ((v x : Value) → FitsOperand p v u → FitsOperand p x u → Fits p v t × Fits p x t) → Goes set more (u ∷ rest) → Okay (select p a act acts t more)
  selected_okay t u more rest y k z = pops_okay N p final vs (known i32_type) (u ∷ u ∷ rest) _ y (λ c ws i j.
      asks_okay N p final (Fits p c i32_type) _ i
      (pops_okay N p final ws u (u ∷ rest) _ j (λ x us d l.
      pops_okay N p final us u rest _ l (λ v vs' q r.
      asks_okay N p final (Fits p v t × Fits p x t) _ (k v x q d)
      (goes_okay N p valid final a act acts h ((if a.condition then v else x) ∷ vs') more (u ∷ rest) (chosen_fits a.condition v x u q d, r) z)))))

  pub select_number_okay : (u : Operand) (more : Code) (rest : List Operand) → IsNumber u → AllFit p vs (known i32_type ∷ u ∷ u ∷ rest) → Goes set more (u ∷ rest)
      → Okay (operate_parametric p a act acts op.Select more)
  select_number_okay u more rest n y z = pops_okay N p final vs (known i32_type) (u ∷ u ∷ rest) _ y (λ c ws i j.
      pops_okay N p final ws u (u ∷ rest) _ j (λ x us d l.
      asks_okay N p final (IsNumberValue x) _ (is_a_number p x u d n)
      (selected_okay (least_type x) u more rest y (λ v k q r. (as_other p v x u q d n, as_other p k x u r d n)) z)))

  pub parametric_okay : (o : ParametricTree) (more : Code) (popped pushed rest m : List Operand) → ParametricRow g o popped pushed
      → AllBelow s (reverse popped ++ rest) → m ≡ reverse pushed ++ rest → Goes set more m → Okay (operate_parametric p a act acts o more)
  parametric_okay op.Drop more popped pushed rest m r b e t =
      pops_okay N p final vs r.0 rest _ (values_at N p valid final a act acts h (r.0 ∷ []) popped rest b r.1) (λ v ws i x. goes_okay N p valid final a act acts h ws more rest x (code_at N p valid final a act acts h [] pushed rest m set more e r.2 t))
  parametric_okay op.Select more popped pushed rest m r b e t =
      select_number_okay r.0 more rest r.1 (values_at N p valid final a act acts h (r.0 ∷ r.0 ∷ known i32_type ∷ []) popped rest b r.2) (code_at N p valid final a act acts h (r.0 ∷ []) pushed rest m set more e r.3 t)
  parametric_okay (op.TypedSelect written) more popped pushed rest m r b e t =
      found_okay N p final (meant p.«module» written) r.0 _ (value_there p.«module» (value_of written) (r.1).known ∙ ap Some (sym (r.1).is))
      (selected_okay r.0 (known r.0) more rest (values_at N p valid final a act acts h (all_known (r.0 ∷ r.0 ∷ i32_type ∷ [])) popped rest b r.3.0) (λ v x q r. (q, r)) (code_at N p valid final a act acts h (all_known (r.0 ∷ [])) pushed rest m set more e r.3.1 t))
  parametric_okay (op.TypedSelectMulti written) more popped pushed rest m r b e t = absurd r

  -- ---- locals

  pub get_okay : (x : ℕ) (u : ValueType) (more : Code) (rest : List Operand) → slice_get act.types x ≡ Some u → IsTrue (set x) → AllFit p vs rest
      → Goes set more (known u ∷ rest) → Okay (operate_memory p a act acts (memory.LocalGet x) more)
  get_okay x u more rest e i y t =
      let r = are_set x i in
      found_okay N p final (slice_get act.locals x) (Some r.0) _ r.1
      (goes_okay N p valid final a act acts h (r.0 ∷ vs) more (known u ∷ rest) (local_fits p act.locals act.types x r.0 u h.locals r.1 e, y) t)

  abbrev pub written : ℕ → Initialised
  written x = λ y. if x == y then true else set y

  pub set_now : (x : ℕ) (u : ValueType) (v : Value) → slice_get act.types x ≡ Some u → AreSet (written x) (slice_set act.locals x (Some v))
  set_now x u v e y i =
      either (x == y) (λ b. subst (λ (n : ℕ). (r : Value) × (slice_get (slice_set act.locals x (Some v)) n ≡ Some (Some r))) (eqb-true x y b) (v, now_set p act.locals act.types x v u h.locals e))
      (λ j. are_still_set act.locals x v set are_set y j) i

  pub set_okay : (x : ℕ) (u : ValueType) (v : Value) (ws : List Value) (more : Code) (m : List Operand) → slice_get act.types x ≡ Some u → Fits p v u → AllFit p ws m
      → Goes (written x) more m → Okay (set_local p a act acts x v ws more)
  set_okay x u v ws more m e i y t = found_okay N p final (slice_get act.types x) u _ e
      (asks_okay N p final (Fits p v u) _ i
      (done_okay N p final (next (record (going p a act acts ws more) { locals = slice_set act.locals x (Some v) } ∷ acts)) (
        record {
          locals = local_written p act.locals act.types x v u h.locals e i;
          results = h.results;
          labels = (
            record {
              root = h.root;
              place = t.1;
              along = t.2;
              around = tt;
              kind = kind;
              inside = t.0;
              before = before;
              set = written x;
              are_set = set_now x u v e;
              operands = m;
              fit = y;
              typed = t.3;
              loops = loops_still N p w act.locals x v h.root act.innermost.continuation act.innermost.block act.around h.loops;
              handlers = handlers_still N p w act.locals x v h.root act.innermost.handlers act.innermost.block act.around h.handlers;
              caught = h.caught;
            },
            still_await N p w act.locals x v act.owed act.around (stack act.innermost.block.results) (Some h.root) h.around,
          );
        },
        h.below,
      )))

  abbrev pub as_type : (c u : InstructionType) (popped pushed : List Operand) → c ≡ u → Takes u.takes u.gives popped pushed → Takes c.takes c.gives popped pushed
  as_type c u popped pushed i r = (r.0 ∙ ap (λ (y : InstructionType). all_known y.takes) (sym i), r.1 ∙ ap (λ (y : InstructionType). all_known y.gives) (sym i))

  -- an operator of which the table of instruction types says no other than the machine
  pub exchanged_okay : (c u : InstructionType) (more : Code) (popped pushed rest m : List Operand) → c ≡ u → Takes u.takes u.gives popped pushed
      → AllBelow s (reverse popped ++ rest) → m ≡ reverse pushed ++ rest → Goes set more m → Okay (exchange p a act acts c.takes c.gives more)
  exchanged_okay c u more popped pushed rest m i r b e t =
      exchange_okay N p valid final a act acts h c.takes c.gives more rest (values_at N p valid final a act acts h (all_known c.takes) popped rest b (r.0 ∙ ap (λ (y : InstructionType). all_known y.takes) (sym i)))
      (code_at N p valid final a act acts h (all_known c.gives) pushed rest m set more e (r.1 ∙ ap (λ (y : InstructionType). all_known y.gives) (sym i)) t)

  pub global_okay : (x : ℕ) (k : Global → Option InstructionType) (c : Global → InstructionType) (own : Code → Global → Move) (more : Code) (popped pushed rest m : List Operand)
      → ((v : Global) (u : InstructionType) → k v ≡ Some u → (c v ≡ u) × (Okay (exchange p a act acts (c v).takes (c v).gives more) → Okay (own more v)))
      → (u : InstructionType) → global_at g x k ≡ Some u → Takes u.takes u.gives popped pushed
      → AllBelow s (reverse popped ++ rest) → m ≡ reverse pushed ++ rest → Goes set more m → Okay (found (slice_get p.«module».globals x) (own more))
  global_okay x k c own more popped pushed rest m says u i r b e t =
      let n = named_some (slice_get p.«module».globals x) _ u i in
      let d = says n.0 u (if_there _ (k n.0) u n.2) in
      found_okay N p final (slice_get p.«module».globals x) n.0 _ n.1 (d.1 (exchanged_okay (c n.0) u more popped pushed rest m d.0 r b e t))

  pub table_entry_okay : (x : ℕ) (c d : Table → InstructionType) → ((t : Table) → c t ≡ d t) → (more : Code) (popped pushed rest m : List Operand)
      → (u : InstructionType) → table_at g x (λ t. Some (d t)) ≡ Some u → Takes u.takes u.gives popped pushed
      → AllBelow s (reverse popped ++ rest) → m ≡ reverse pushed ++ rest → Goes set more m → Okay (found (slice_get p.«module».tables x) (λ t. exchange p a act acts (c t).takes (c t).gives more))
  table_entry_okay x c d alike more popped pushed rest m u i r b e t =
      let n = named_some (slice_get p.«module».tables x) _ u i in
      found_okay N p final (slice_get p.«module».tables x) n.0 _ n.1 (exchanged_okay (c n.0) u more popped pushed rest m (alike n.0 ∙ some_same (d n.0) u (if_there _ (Some (d n.0)) u n.2)) r b e t)

  pub memory_entry_okay : (x : ℕ) (c d : MemoryType → InstructionType) → ((t : MemoryType) → c t ≡ d t) → (more : Code) (popped pushed rest m : List Operand)
      → (u : InstructionType) → memory_at g x (λ t. Some (d t)) ≡ Some u → Takes u.takes u.gives popped pushed
      → AllBelow s (reverse popped ++ rest) → m ≡ reverse pushed ++ rest → Goes set more m → Okay (found (slice_get p.«module».memories x) (λ t. exchange p a act acts (c t).takes (c t).gives more))
  memory_entry_okay x c d alike more popped pushed rest m u i r b e t =
      let n = named_some (slice_get p.«module».memories x) _ u i in
      found_okay N p final (slice_get p.«module».memories x) n.0 _ n.1 (exchanged_okay (c n.0) u more popped pushed rest m (alike n.0 ∙ some_same (d n.0) u n.2) r b e t)

  -- an access by the table, whose name says the same
  pub access_okay : (o : Op) (is_atomic : Bool) (d : Option AccessOf) → ((y : AccessOf) → d ≡ Some y → AccessSays o y) → (u : InstructionType) (more : Code) (popped pushed rest m : List Operand)
      → accesses g is_atomic d ≡ Some u → Takes u.takes u.gives popped pushed
      → AllBelow s (reverse popped ++ rest) → m ≡ reverse pushed ++ rest → Goes set more m → Okay (access p a act acts o more)
  access_okay o is_atomic None says u more popped pushed rest m i r b e t = absurd (none_is_some u i)
  access_okay o is_atomic (Some y) says u more popped pushed rest m i r b e t =
      let k = says y refl in
      let n = named_some (slice_get p.«module».memories y.argument.memory) _ u i in
      let takes_gives : MemoryType → InstructionType = λ t. (address_type t.memory64 ∷ numbers (operands_of y.access)) ⟶ numbers (results_of y.access) in
      let c = provided_is (may_access is_atomic n.0 y.argument) (takes_gives n.0) u n.2 in
      found_okay N p final (argument_of (immediates_of o)) y.argument _ k.0
      (found_okay N p final (slice_get p.«module».memories y.argument.memory) n.0 _ n.1
      (found_okay N p final (accessed (info_of o).name) (record { takes = operands_of y.access; gives = results_of y.access }) _ k.1
      (exchanged_okay ((address (n.0).memory64 ∷ numbers (operands_of y.access)) ⟶ numbers (results_of y.access)) u more popped pushed rest m
      (ap (λ (v : ValueType). (v ∷ numbers (operands_of y.access)) ⟶ numbers (results_of y.access)) (address_is (n.0).memory64) ∙ c.1) r b e t)))

  -- an operator on vectors, if vectors are judged
  pub vector_okay : (o : Op) (k : VectorWork) → WorkSays o k → (more : Code) (popped pushed rest m : List Operand)
      → (u : InstructionType) → where_vectors g (work_type g k) ≡ Some u → Takes u.takes u.gives popped pushed
      → AllBelow s (reverse popped ++ rest) → m ≡ reverse pushed ++ rest → Goes set more m
      → Okay (operate_vector p a act acts (argument_of (immediates_of o)) o more)
  vector_okay o (on_lanes c) says more popped pushed rest m u i r b e t =
      let d = some_same (lanes_type c) u (if_there (judges_vectors g.bits) (Some (lanes_type c)) u i) in
      subst (λ (q : Option MemArg). Okay (operate_vector p a act acts q o more)) (sym says.0)
      (compute_okay N p valid final a act acts h o (vectors_taken c) (vectors_given c) more popped pushed rest m says.1 (as_type (lanes_type c) u popped pushed d r) b e t)
  vector_okay o (reaches y) says more popped pushed rest m u i r b e t =
      subst (λ (q : Option MemArg). Okay (operate_vector p a act acts q o more)) (sym says.0)
      (access_okay o false (Some y) (λ x q. subst (λ (z : AccessOf). AccessSays o z) (some_same y x q) says) u more popped pushed rest m
      (if_there (judges_vectors g.bits) (accesses g false (Some y)) u i) r b e t)

  pub lanes_okay : (o : SimdNumericOperator) (more : Code) (popped pushed rest m : List Operand) → TableRow g (op.SimdNumeric o) popped pushed
      → AllBelow s (reverse popped ++ rest) → m ≡ reverse pushed ++ rest → Goes set more m → Okay (compute p a act acts (op.SimdNumeric o) more)
  lanes_okay o more popped pushed rest m r b e t =
      let c = lanes_type (vector_class o) in
      let d = some_same c r.0 (if_there (judges_vectors g.bits) (Some c) r.0 r.1) in
      compute_okay N p valid final a act acts h (op.SimdNumeric o) (vectors_taken (vector_class o)) (vectors_given (vector_class o)) more popped pushed rest m (lanes_say o) (as_type c r.0 popped pushed d r.2) b e t

  -- nothing is taken or given
  pub nothing_okay : (more : Code) (popped pushed rest m : List Operand) → Takes [] [] popped pushed
      → AllBelow s (reverse popped ++ rest) → m ≡ reverse pushed ++ rest → Goes set more m → Okay (goes p a act acts vs more)
  nothing_okay more popped pushed rest m r b e t = goes_okay N p valid final a act acts h vs more rest (values_at N p valid final a act acts h [] popped rest b r.0) (code_at N p valid final a act acts h [] pushed rest m set more e r.1 t)

  pub memory_okay : (o : MemoryOperator) (more : Code) (popped pushed rest m : List Operand) → MemoryRow g set o popped pushed
      → AllBelow s (reverse popped ++ rest) → m ≡ reverse pushed ++ rest → Goes (sets o set) more m → Okay (operate_memory p a act acts o more)
  memory_okay (memory.LocalGet x) more popped pushed rest m r b e t =
      get_okay x r.0 more rest (r.1).local r.2 (values_at N p valid final a act acts h [] popped rest b r.3.0) (code_at N p valid final a act acts h (known r.0 ∷ []) pushed rest m set more e r.3.1 t)
  memory_okay (memory.LocalSet x) more popped pushed rest m r b e t =
      pops_okay N p final vs (known r.0) rest _ (values_at N p valid final a act acts h (known r.0 ∷ []) popped rest b r.2.0) (λ v ws i y.
      set_okay x r.0 v ws more rest (r.1).local i y (code_at N p valid final a act acts h [] pushed rest m (written x) more e r.2.1 t))
  memory_okay (memory.LocalTee x) more popped pushed rest m r b e t =
      pops_okay N p final vs (known r.0) rest _ (values_at N p valid final a act acts h (known r.0 ∷ []) popped rest b r.2.0) (λ v ws i y.
      set_okay x r.0 v (v ∷ ws) more (known r.0 ∷ rest) (r.1).local i (i, y) (code_at N p valid final a act acts h (known r.0 ∷ []) pushed rest m (written x) more e r.2.1 t))
  memory_okay (memory.GlobalGet x) more popped pushed rest m r b e t =
      global_okay x _ (λ v. [] ⟶ v.content ∷ []) (λ n v. exchange p a act acts [] (v.content ∷ []) n) more popped pushed rest m (λ v u i. (some_same _ u i, λ o. o)) r.0 r.1 r.2 b e t
  memory_okay (memory.GlobalSet x) more popped pushed rest m r b e t =
      global_okay x _ (λ v. v.content ∷ [] ⟶ []) (λ n v. asks (IsTrue v.mutable) (exchange p a act acts (v.content ∷ []) [] n)) more popped pushed rest m
      (λ v u i. let d = provided_is v.mutable (v.content ∷ [] ⟶ []) u i in (d.1, λ o. asks_okay N p final (IsTrue v.mutable) _ d.0 o)) r.0 r.1 r.2 b e t
  memory_okay (memory.MemorySize x) more popped pushed rest m r b e t = memory_entry_okay x (λ u. [] ⟶ address u.memory64 ∷ []) (λ u. [] ⟶ address_type u.memory64 ∷ []) (λ u. ap (λ (y : ValueType). [] ⟶ y ∷ []) (address_is u.memory64)) more popped pushed rest m r.0 r.1 r.2 b e t
  memory_okay (memory.MemoryGrow x) more popped pushed rest m r b e t =
      memory_entry_okay x (λ u. address u.memory64 ∷ [] ⟶ address u.memory64 ∷ []) (λ u. address_type u.memory64 ∷ [] ⟶ address_type u.memory64 ∷ []) (λ u. ap (λ (y : ValueType). y ∷ [] ⟶ y ∷ []) (address_is u.memory64)) more popped pushed rest m r.0 r.1 r.2 b e t
  memory_okay o more popped pushed rest m r b e t = access_okay (op.Memory o) false (access_of o) (λ x q. access_says o x q) r.0 more popped pushed rest m r.1 r.2 b e t

  pub atomic_okay : (o : AtomicOperator) (more : Code) (popped pushed rest m : List Operand) → TableRow g (op.Atomic o) popped pushed
      → AllBelow s (reverse popped ++ rest) → m ≡ reverse pushed ++ rest → Goes set more m → Okay (operate_atomic p a act acts o more)
  atomic_okay atomic.AtomicFence more popped pushed rest m r b e t = nothing_okay more popped pushed rest m (table_of N p valid final a act acts h (op.Atomic atomic.AtomicFence) ([] ⟶ []) popped pushed refl r) b e t
  atomic_okay o more popped pushed rest m r b e t = access_okay (op.Atomic o) true (atomic_access_of o) (λ x q. atomic_says o x q) r.0 more popped pushed rest m r.1 r.2 b e t

  -- ---- references, and copies into tables

  abbrev pub known_index : (x : ℕ) → x < length p.«module».types → IsStandardType (type_at p.«module».types x)
  known_index x l = valid.types x (type_at p.«module».types x) (slice_get-get_or p.«module».types x _ l)

  pub standard_heap : (q : HeapOf UnpackedIndex) → EachHeap (IsTypeIndex p.«module») q → EachHeap IsStandardType (heap_map (written_type p.«module») q)
  standard_heap (abstract c k) i = tt
  standard_heap (concrete (index.Module n)) i = known_index n i
  standard_heap (concrete (index.RecGroup n)) i = absurd i
  standard_heap (concrete (index.Id n)) i = absurd i
  standard_heap (exact (index.Module n)) i = known_index n i
  standard_heap (exact (index.RecGroup n)) i = absurd i
  standard_heap (exact (index.Id n)) i = absurd i

  pub null_okay : (q : HeapType) (u : ValueType) (more : Code) (rest : List Operand) → IsType p.bits p.«module» (value.Ref (record { nullable = true; heap = q })) u → AllFit p vs rest
      → Goes set more (known u ∷ rest) → Okay (operate_bulk p a act acts (bulk.RefNull q) more)
  null_okay q u more rest i y t =
      let k = heap_map (written_type p.«module») (heap_of q) in
      found_okay N p final (meant_heap p.«module» q) k _ (heap_there p.«module» (heap_of q) i.known)
      (goes_okay N p valid final a act acts h (null_of k ∷ vs) more (known u ∷ rest)
      (subst (λ (x : ValueType). Fits p (null_of k) x) (sym i.is) (null_fits p k (standard_heap (heap_of q) i.known)), y) t)

  -- a reference to a function of the module; to one exactly of its type by a proposal that is not standard
  pub function_fits : (x : ℕ) (t : TypeTree) (q : HeapOf TypeTree) (fn : Function) → slice_get p.functions x ≡ Some fn → IsValidFunctionBy N p t fn → IsReferenceTo g x t q
      → Fits p (ref_function (Some x) fn.type) (ref false q)
  function_fits x t q fn e v of_type = ((v.standard, v.function, (fn, e, refl)), (tt, v.below))
  function_fits x t q fn e v (of_exactly c d) = absurd (true≢false (sym c ∙ (valid.standard).descriptors))

  pub copied_okay : (ts : List ValueType) (u v : ValueType) (more : Code) (rest : List Operand) → AllFit p vs (stack ts ++ rest) → Below u v → Goes set more rest
      → Okay (takes p a ts vs (λ us ws. may_trap p a (copies p a u v (goes p a act acts ws more))))
  copied_okay ts u v more rest y b t = takes_okay N p final a ts vs rest _ y (λ us ws i j.
      may_trap_okay N p final a _ (copies_okay N p final a u v _ (λ k. each_below p a.values u v k b) (goes_okay N p valid final a act acts h ws more rest j t)))

  pub bulk_okay : (o : BulkOperator) (more : Code) (popped pushed rest m : List Operand) → BulkRow g o popped pushed
      → AllBelow s (reverse popped ++ rest) → m ≡ reverse pushed ++ rest → Goes set more m → Okay (operate_bulk p a act acts o more)
  bulk_okay (bulk.RefNull q) more popped pushed rest m r b e t =
      null_okay q r.0 more rest r.1 (values_at N p valid final a act acts h [] popped rest b r.3.0) (code_at N p valid final a act acts h (known r.0 ∷ []) pushed rest m set more e r.3.1 t)
  bulk_okay bulk.RefIsNull more popped pushed rest m r b e t =
      pops_okay N p final vs r.0 rest _ (values_at N p valid final a act acts h (r.0 ∷ []) popped rest b r.2) (λ v ws i y.
      asks_okay N p final (IsAReference v) _ (is_reference p v r.0 i r.1)
      (goes_okay N p valid final a act acts h (number_value i32 a.made ∷ ws) more (known i32_type ∷ rest) ((tt, refl), y) (code_at N p valid final a act acts h (all_known (i32_type ∷ [])) pushed rest m set more e r.3 t)))
  bulk_okay (bulk.RefFunc x) more popped pushed rest m r b e t =
      let n = valid.functions x r.0 r.2 in
      found_okay N p final (slice_get p.functions x) n.0 _ n.1
      (goes_okay N p valid final a act acts h (ref_function (Some x) (n.0).type ∷ vs) more (known (ref false r.1) ∷ rest) (function_fits x r.0 r.1 n.0 n.1 n.2 r.5, values_at N p valid final a act acts h [] popped rest b r.6.0)
      (code_at N p valid final a act acts h (known (ref false r.1) ∷ []) pushed rest m set more e r.6.1 t))
  bulk_okay (bulk.TableInit i x) more popped pushed rest m r b e t =
      found_okay N p final (slice_get p.«module».elements i) r.1 _ r.4
      (found_okay N p final (slice_get p.«module».tables x) r.0 _ r.2
      (copied_okay (address (r.0).table64 ∷ i32_type ∷ i32_type ∷ []) r.1 (r.0).element more rest
      (subst (λ (y : ValueType). AllFit p vs (stack (y ∷ i32_type ∷ i32_type ∷ []) ++ rest)) (sym (address_is (r.0).table64)) (values_at N p valid final a act acts h _ popped rest b r.6.0)) r.5 (code_at N p valid final a act acts h [] pushed rest m set more e r.6.1 t)))
  bulk_okay (bulk.TableCopy x y) more popped pushed rest m r b e t =
      found_okay N p final (slice_get p.«module».tables x) r.0 _ r.2
      (found_okay N p final (slice_get p.«module».tables y) r.1 _ r.3
      (copied_okay (for_copy (r.0).table64 (r.1).table64) (r.1).element (r.0).element more rest
      (subst (λ (l : List ValueType). AllFit p vs (stack l ++ rest)) (sym (copy_is (r.0).table64 (r.1).table64)) (values_at N p valid final a act acts h _ popped rest b r.7.0)) r.6 (code_at N p valid final a act acts h [] pushed rest m set more e r.7.1 t)))
  bulk_okay (bulk.TableGet x) more popped pushed rest m r b e t = table_entry_okay x (λ u. address u.table64 ∷ [] ⟶ u.element ∷ []) (λ u. address_type u.table64 ∷ [] ⟶ u.element ∷ []) (λ u. ap (λ (y : ValueType). y ∷ [] ⟶ u.element ∷ []) (address_is u.table64)) more popped pushed rest m r.0 r.1 r.2 b e t
  bulk_okay (bulk.TableSet x) more popped pushed rest m r b e t = table_entry_okay x (λ u. address u.table64 ∷ u.element ∷ [] ⟶ []) (λ u. address_type u.table64 ∷ u.element ∷ [] ⟶ []) (λ u. ap (λ (y : ValueType). y ∷ u.element ∷ [] ⟶ []) (address_is u.table64)) more popped pushed rest m r.0 r.1 r.2 b e t
  bulk_okay (bulk.TableGrow x) more popped pushed rest m r b e t =
      table_entry_okay x (λ u. u.element ∷ address u.table64 ∷ [] ⟶ address u.table64 ∷ []) (λ u. u.element ∷ address_type u.table64 ∷ [] ⟶ address_type u.table64 ∷ []) (λ u. ap (λ (y : ValueType). u.element ∷ y ∷ [] ⟶ y ∷ []) (address_is u.table64)) more popped pushed rest m r.0 r.1 r.2 b e t
  bulk_okay (bulk.TableSize x) more popped pushed rest m r b e t = table_entry_okay x (λ u. [] ⟶ address u.table64 ∷ []) (λ u. [] ⟶ address_type u.table64 ∷ []) (λ u. ap (λ (y : ValueType). [] ⟶ y ∷ []) (address_is u.table64)) more popped pushed rest m r.0 r.1 r.2 b e t
  bulk_okay (bulk.TableFill x) more popped pushed rest m r b e t =
      table_entry_okay x (λ u. address u.table64 ∷ u.element ∷ address u.table64 ∷ [] ⟶ []) (λ u. address_type u.table64 ∷ u.element ∷ address_type u.table64 ∷ [] ⟶ []) (λ u. ap (λ (y : ValueType). y ∷ u.element ∷ y ∷ [] ⟶ []) (address_is u.table64)) more popped pushed rest m r.0 r.1 r.2 b e t
  bulk_okay (bulk.ElemDrop x) more popped pushed rest m r b e t =
      let n = named_some (slice_get p.«module».elements x) _ r.0 r.1 in
      found_okay N p final (slice_get p.«module».elements x) n.0 _ n.1 (nothing_okay more popped pushed rest m (as_type ([] ⟶ []) r.0 popped pushed (some_same ([] ⟶ []) r.0 n.2) r.2) b e t)
  bulk_okay (bulk.DataDrop x) more popped pushed rest m r b e t =
      let c = provided_is _ ([] ⟶ []) r.0 r.1 in
      asks_okay N p final (IsData p.«module».data_count x) _ (data_named p.«module».data_count x c.0) (nothing_okay more popped pushed rest m (as_type ([] ⟶ []) r.0 popped pushed c.1 r.2) b e t)
  bulk_okay (bulk.MemoryInit d x) more popped pushed rest m r b e t =
      let n = named_some (slice_get p.«module».memories x) _ r.0 r.1 in
      let c = provided_is (names_data p.«module».data_count d) (address_type (n.0).memory64 ∷ i32_type ∷ i32_type ∷ [] ⟶ []) r.0 n.2 in
      found_okay N p final (slice_get p.«module».memories x) n.0 _ n.1
      (asks_okay N p final (IsData p.«module».data_count d) _ (data_named p.«module».data_count d c.0)
      (exchanged_okay (address (n.0).memory64 ∷ i32_type ∷ i32_type ∷ [] ⟶ []) r.0 more popped pushed rest m (ap (λ (y : ValueType). y ∷ i32_type ∷ i32_type ∷ [] ⟶ []) (address_is (n.0).memory64) ∙ c.1) r.2 b e t))
  bulk_okay (bulk.MemoryCopy x y) more popped pushed rest m r b e t =
      let n = named_some (slice_get p.«module».memories x) _ r.0 r.1 in
      let k = named_some (slice_get p.«module».memories y) _ r.0 n.2 in
      let c : InstructionType = address_type (n.0).memory64 ∷ address_type (k.0).memory64 ∷ shorter (n.0).memory64 (k.0).memory64 ∷ [] ⟶ [] in
      found_okay N p final (slice_get p.«module».memories x) n.0 _ n.1
      (found_okay N p final (slice_get p.«module».memories y) k.0 _ k.1 (exchanged_okay (for_copy (n.0).memory64 (k.0).memory64 ⟶ []) r.0 more popped pushed rest m
      (ap (λ (l : List ValueType). l ⟶ []) (copy_is (n.0).memory64 (k.0).memory64) ∙ some_same c r.0 k.2) r.2 b e t))
  bulk_okay (bulk.MemoryFill x) more popped pushed rest m r b e t =
      memory_entry_okay x (λ u. address u.memory64 ∷ i32_type ∷ address u.memory64 ∷ [] ⟶ []) (λ u. address_type u.memory64 ∷ i32_type ∷ address_type u.memory64 ∷ [] ⟶ []) (λ u. ap (λ (y : ValueType). y ∷ i32_type ∷ y ∷ [] ⟶ []) (address_is u.memory64)) more popped pushed rest m r.0 r.1 r.2 b e t
  bulk_okay (bulk.MemoryDiscard x) more popped pushed rest m r b e t =
      memory_entry_okay x (λ u. address u.memory64 ∷ address u.memory64 ∷ [] ⟶ []) (λ u. address_type u.memory64 ∷ address_type u.memory64 ∷ [] ⟶ []) (λ u. ap (λ (y : ValueType). y ∷ y ∷ [] ⟶ []) (address_is u.memory64)) more popped pushed rest m r.0 r.1 r.2 b e t
