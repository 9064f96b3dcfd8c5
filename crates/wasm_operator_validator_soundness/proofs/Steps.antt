-- Each reduction of a configuration that typed code reaches has what it asks for, and leads to such a configuration.
use Rattle.std.proofs.Common.{◌≡◌, ℕ, zero, suc, List, [], ◌∷◌, ◌++◌, reverse, drop, Option, Some, None, Bool, true, false, IsTrue, refl, sym, ap, subst, ◌∙◌}
use Rattle.std.proofs.Common.{slice_get, slice_set, get_or, if◌then◌else◌, ◌==◌, eqb-true, ⊎_elim, length}
use Rattle.wasm_types.specs.trees.Types.{Number, HeapOf, ref, number}
use Rattle.wasm_types.specs.trees.Trees.{TypeTree}
use Rattle.wasm_types.specs.trees.Below.{Below, itself}
use Rattle.wasm_operators_immediates.specs.declared.block.BlockType.{BlockType}
use Rattle.wasm_operators_immediates.specs.declared.block.BlockType.TheVariants as block
use Rattle.wasm_operators_immediates.specs.declared.frames.FrameKind.{FrameKind}
use Rattle.wasm_operators_immediates.specs.declared.frames.FrameKind.TheVariants as frames
use Rattle.wasm_operators_enums.specs.declared.control.ControlOperator.{ControlOperator}
use Rattle.wasm_operators_enums.specs.declared.control.ControlOperator.TheVariants as control
use Rattle.wasm_operators_enums.specs.declared.memory.MemoryOperator.{MemoryOperator}
use Rattle.wasm_operators_enums.specs.declared.memory.MemoryOperator.TheVariants as memory
use Rattle.wasm_operators_enums.specs.declared.bulk.BulkOperator.{BulkOperator}
use Rattle.wasm_operators_enums.specs.declared.bulk.BulkOperator.TheVariants as bulk
use Rattle.wasm_operators_enums.specs.Op as op
use Rattle.wasm_operators_enums.specs.Op.{Op, ParametricTree}
use Rattle.wasm_operators_enums.specs.declared.role.Role.{Role}
use Rattle.wasm_operators_enums.specs.declared.role.Effect.TheVariants as effects
use Rattle.wasm_operators_enums.specs.Roles.{role_of, effect}
use Rattle.wasm_operators_encoding.specs.expressions.Code.{Code, close, plain, nested, turn, IsIn}
use Rattle.wasm_operator_validator_rules.specs.Operands.{ValueType, Operand, bottom, some_reference, known, IsReference, AllBelow, all_known, stack}
use Rattle.wasm_operator_validator_rules.specs.Context.{Context, Table, Initialised, Signature, Frame, IsFunctionType, IsBlockType, label_of, inside, is_catch, initialised_at_first, address_type}
use Rattle.wasm_operator_validator_rules.specs.InstructionTypes.{i32_type, shorter}
use Rattle.wasm_operator_validator_rules.specs.Row.{IsEnabled, FitEach, IsLabel, ControlRow, IsNumber, ParametricRow, MemoryRow, IsReferenceTo, of_type, of_exactly, BulkRow, GroupRow, Row, sets, after}
use Rattle.wasm_operator_validator_rules.specs.Typed.{block_type_of, HasType, entry_of, Typed, IsBody}
use Rattle.wasm_operator_validator_soundness.specs.Values.{Value, number_value, ref_null, ref_defined, ref_i31, ref_host, ref_extern, ref_exn, least_type, Fits, FitsOperand, AllFit, EachFits}
use Rattle.wasm_operator_validator_soundness.specs.States.{Configuration, all_labels, taken_by, Way, branches, Answer}
use Rattle.wasm_operator_validator_soundness.specs.States.{Outcome, next, replaced, Reduction, by_itself, front, back}
use Rattle.wasm_operator_validator_soundness.specs.Labels.{labels_named}
use Rattle.wasm_operator_validator_soundness.specs.Machine.{signature_in, function_type, block_signature, signature_for, second_part, continuation_of, handlers_of, jump}
use Rattle.wasm_operator_validator_soundness.specs.Machine.{going, context_at, has_value, set_in, TakesValues, IsNullOf, either_part, chosen}
use Rattle.wasm_operator_validator_soundness.specs.Machine.{runs_by_rows, by_rows, within, open_if, opens, enter, label_at, branch}
use Rattle.wasm_operator_validator_soundness.specs.Machine.{branch_or, branch_if, branch_by, exchange, call, return_call, call_indirect, return_call_indirect, operate_control}
use Rattle.wasm_operator_validator_soundness.specs.Machine.{drop_from, select_from, operate_parametric, get_local, set_local, set_from, tee_from, operate_memory, null_of}
use Rattle.wasm_operator_validator_soundness.specs.Machine.{is_null, function_at, copies, init_table, copy_table, operate_bulk, rule, operate, end_of_block, execute, reduce, Runs}
use Rattle.wasm_operator_validator_soundness.specs.Soundness.{LocalsFit, AreLocals, begun, ActivationsAreSound}
use Rattle.wasm_operator_validator_soundness.proofs.Fitting.{all_below, below_on_top, each_below, fits_front, fits_back, fits_dropped, fits_joined, stack_more, reversed_under, reversed_more, both_reversed}
use Rattle.wasm_operator_validator_soundness.proofs.Invariant.{AreSet, local_fits, local_written, are_still_set, now_set, frame_of}
use Rattle.wasm_operator_validator_soundness.proofs.Invariant.{LoopsBack, HandlersFit, Awaits, LabelsAwait, IsFine, IsGood, IsOkay, good_ends_well, loops_still, handlers_still, still_await}
use Rattle.wasm_operator_validator_soundness.proofs.Leaving.{come_out_good, jump_good, goes_by_okay, unless_fails_okay, unless_traps_okay}
use Rattle.wasm_operator_validator_soundness.proofs.Parts.{second_typed}

either : {P : Type 0} {c : Bool} (b : Bool) → (b ≡ true → P) → (IsTrue c → P) → IsTrue (if b then true else c) → P
either true f h i = f refl
either false f h i = h i

nests_same : (j k : FrameKind) → Some (effects.Nests j) ≡ Some (effects.Nests k) → j ≡ k
nests_same j k e = cc

-- ---- what the rules say a type is, computed

pub signature_is : (o : Option TypeTree) (t : TypeTree) (b : Signature) → o ≡ Some t → IsFunctionType t b → function_type o ≡ Some b
signature_is o t b e f = ap function_type e ∙ ap signature_in f

pub block_type_is : (g : Context) (bt : BlockType) (b : Signature) → IsBlockType g bt b → block_signature g bt ≡ Some b
block_type_is g block.Empty b e = ap Some (sym e)
block_type_is g (block.Val written) b e =
    ap (λ (t : ValueType). Some (record { params = []; results = t ∷ [] })) (sym (e.1).is) ∙ ap Some (sym e.2)
block_type_is g (block.FuncType x) b e = signature_is _ e.1 b e.2 e.3

has_type_is : (g : Context) (o : Option BlockType) (b : Signature) → HasType g o b → signature_for g o ≡ Some b
has_type_is g None b e = absurd e
has_type_is g (Some bt) b e = block_type_is g bt b e

-- ---- values of references

-- what is of a reference type is a reference
is_reference : (v : Value) (t : Operand) → FitsOperand v t → IsReference t → IsReference (known (least_type v))
is_reference v bottom f i = absurd f
is_reference v some_reference f i = absurd f
is_reference v (known (number n)) f i = absurd i
is_reference (number_value m) (known (ref n h)) f i = absurd f
is_reference (ref_null s a) (known (ref n h)) f i = tt
is_reference (ref_defined t) (known (ref n h)) f i = tt
is_reference (ref_i31 s) (known (ref n h)) f i = tt
is_reference (ref_host s) (known (ref n h)) f i = tt
is_reference (ref_extern s) (known (ref n h)) f i = tt
is_reference (ref_exn s t) (known (ref n h)) f i = tt

-- what is of a type that `select` may take is a number
are_numbers : (v w : Value) (t : Operand) → FitsOperand v t → FitsOperand w t → IsNumber t → (n : Number) × Fits v (number n) × Fits w (number n)
are_numbers v w bottom f h i = absurd f
are_numbers v w some_reference f h i = absurd f
are_numbers v w (known (number n)) f h i = (n, f, h)
are_numbers v w (known (ref n h)) f k i = absurd i

null_fits : (vs : List Value) (t : ValueType) → IsNullOf t vs → AllFit vs (known t ∷ [])
null_fits [] t i = absurd i
null_fits (v ∷ []) t i = (i.1, tt)
null_fits (v ∷ w ∷ vs) t i = absurd i

-- the least type of a function's reference is below what the rules say of it
function_fits : (g : Context) (x : ℕ) (t : TypeTree) (h : HeapOf TypeTree) → IsReferenceTo g x t h → Fits (ref_defined t) (ref false h)
function_fits g x t h of_type = (tt, itself)
function_fits g x t h (of_exactly a b) = (tt, refl)

-- ---- rows in the running context

-- the locals that the rules know to be initialised are among those that have a value
memory_now : (g : Context) (set init : Initialised) → ((x : ℕ) → IsTrue (set x) → IsTrue (init x)) → (o : MemoryOperator) (popped pushed : List Operand)
    → MemoryRow g set o popped pushed → MemoryRow g init o popped pushed
memory_now g set init i (memory.LocalGet x) popped pushed r = (r.0, r.1, i x r.2, r.3)
memory_now g set init i o popped pushed r = r

group_now : (g : Context) (set init : Initialised) → ((x : ℕ) → IsTrue (set x) → IsTrue (init x)) → (o : Op) (popped pushed : List Operand)
    → GroupRow g set o popped pushed → GroupRow g init o popped pushed
group_now g set init i (op.Memory o) popped pushed r = memory_now g set init i o popped pushed r
group_now g set init i o popped pushed r = r

-- ---- one label of a table of labels

under_index : (ts us rest : List Operand) (t : Operand) (vs : List Value) → AllFit vs (t ∷ (ts ++ rest)) → AllBelow ts us → AllFit vs (t ∷ (us ++ rest))
under_index ts us rest t [] w b = absurd w
under_index ts us rest t (v ∷ vs) w b = (w.0, below_on_top vs ts us rest w.1 b)

label_chosen : (g : Context) (s : List Operand) (ls : List ℕ) (n i : ℕ) → FitEach g s (n ∷ ls)
    → (ts : List ValueType) × IsLabel g (get_or ls i n) ts × AllBelow s (all_known ts)
label_chosen g s [] n i f = f.0
label_chosen g s (l ∷ ls) n zero f = f.1.0
label_chosen g s (l ∷ ls) n (suc i) f = label_chosen g s ls n i (f.0, f.1.1)

-- ---- one reduction

module _ (g : Context) (k : Configuration) (locals : LocalsFit k.locals g.locals) (a : Answer) (top : Awaits g k.locals k.innermost k.around [])
    (around : LabelsAwait g k.locals k.around (stack k.innermost.block.results)) where
  abbrev here : Context
  here = context_at g k

  abbrev f : Frame
  f = frame_of top.kind k.innermost.block top.before

  abbrev vs : List Value
  vs = k.innermost.values

  abbrev set : Initialised
  set = top.set

  abbrev s : List Operand
  s = top.operands

  abbrev fit : AllFit k.innermost.values top.operands
  fit = top.fit

  abbrev Okay : Reduction → Type 0
  Okay r = IsOkay g r

  -- the instructions to come are typed, and stand where they may
  abbrev Goes : Initialised → Code → List Operand → Type 0
  Goes init more m = IsIn top.kind more × Typed here f init more m

  goes_on : (ws : List Value) (more : Code) (m : List Operand) → AllFit ws m → Goes set more m → IsGood g (next (going k ws more))
  goes_on ws more m i t = record {
    locals = locals;
    labels = (
      record {
        kind = top.kind;
        before = top.before;
        set = set;
        are_set = top.are_set;
        operands = m;
        fit = i;
        inside = t.0;
        typed = t.1;
        loops = top.loops;
        handlers = top.handlers;
      },
      around,
    );
  }

  -- ---- operators by their rows

  takes_values : (o : Op) (popped pushed rest : List Operand) → Row here set o popped pushed → AllBelow s (reverse popped ++ rest) → TakesValues g k o popped pushed
  takes_values o popped pushed rest r b = (
    (r.0, group_now here set (set_in k) (λ x i. ap has_value (top.are_set x i).1) o popped pushed r.1),
    fits_front (reverse popped) rest vs (all_below vs s _ fit b),
  )

  runs_okay : (y : Way) (o : Op) (more : Code) (popped pushed rest m : List Operand) → Row here set o popped pushed
      → AllBelow s (reverse popped ++ rest) → m ≡ reverse pushed ++ rest → Goes set more m → Okay (runs_by_rows g a k y o more)
  runs_okay branches o more popped pushed rest m r b e t given =
      goes_by_okay g k locals a (slice_get (labels_named (length k.around) o) a.index) (all_labels k) [] (top, around) given
  runs_okay y o more popped pushed rest m r b e t given =
      let i = given popped pushed (takes_values o popped pushed rest r b) in
      let j = fits_joined a.values _ (reverse pushed) rest i.1 (fits_dropped popped rest a.taken vs i.0 (all_below vs s _ fit b)) in
      (tt, goes_on _ more m (subst (λ (l : List Operand). AllFit (a.values ++ drop a.taken vs) l) (sym e) j) t)

  by_rows_okay : (o : Op) (more : Code) (popped pushed rest m : List Operand) → Row here set o popped pushed
      → AllBelow s (reverse popped ++ rest) → m ≡ reverse pushed ++ rest → Goes set more m → Okay (by_rows g a k o more)
  by_rows_okay o more popped pushed rest m r b e t =
      unless_fails_okay g k locals a a.way (runs_by_rows g a k a.way o more) (top, around) (runs_okay a.way o more popped pushed rest m r b e t)

  exchange_okay : (ts us : List ValueType) (more : Code) (rest : List Operand) → AllFit vs (stack ts ++ rest) → Goes set more (stack us ++ rest)
      → Okay (exchange g a k ts us more)
  exchange_okay ts us more rest i t given =
      let r = unless_fails_okay g k locals a a.way (record {
        asked = Unit {0};
        answered = AllFit a.values (stack us);
        outcome = next (going k (a.values ++ back (stack ts) vs) more);
      }) (top, around) (λ j. (tt, goes_on _ more (stack us ++ rest) (fits_joined a.values _ (stack us) rest j (fits_back (stack ts) rest vs i)) t)) given in
      ((fits_front (stack ts) rest vs i, r.0), r.1)

  -- what stands on top where an operator takes these operands
  values_at : (ts popped rest : List Operand) → AllBelow s (reverse popped ++ rest) → popped ≡ ts → AllFit vs (reverse ts ++ rest)
  values_at ts popped rest b e = all_below vs s (reverse ts ++ rest) fit (subst (λ (l : List Operand). AllBelow s (reverse l ++ rest)) e b)

  code_at : (us pushed rest m : List Operand) (init : Initialised) (more : Code) → m ≡ reverse pushed ++ rest → pushed ≡ us → Goes init more m
      → Goes init more (reverse us ++ rest)
  code_at us pushed rest m init more e i t = subst (λ (l : List Operand). Goes init more l) (e ∙ ap (λ (l : List Operand). reverse l ++ rest) i) t

  values_under : (any : List Operand) (ts : List ValueType) (popped rest : List Operand) → AllBelow s (reverse popped ++ rest) → popped ≡ any ++ all_known ts
      → AllFit vs (stack ts ++ (reverse any ++ rest))
  values_under any ts popped rest b e = subst (λ (l : List Operand). AllFit vs l) (reversed_under any (all_known ts) rest) (values_at (any ++ all_known ts) popped rest b e)

  values_over : (ts : List ValueType) (t : ValueType) (rest : List Operand) → AllFit vs (stack (ts ++ t ∷ []) ++ rest) → AllFit vs (known t ∷ (stack ts ++ rest))
  values_over ts t rest w = subst (λ (l : List Operand). AllFit vs (l ++ rest)) (stack_more ts t) w

  -- ---- branches, returns and calls

  jumps : (n : ℕ) (ts : List ValueType) (ws : List Value) → IsLabel here n ts → AllFit ws (stack ts) → IsGood g (jump k n (all_labels k) ws)
  jumps n ts ws e i = jump_good g k locals n (all_labels k) ts ws [] e i (top, around)

  branch_okay : (n : ℕ) (ts : List ValueType) (rest : List Operand) → IsLabel here n ts → AllFit vs (stack ts ++ rest) → Okay (branch g a k n (Some ts))
  branch_okay n ts rest e w given = let i = fits_front (stack ts) rest vs w in (i, jumps n ts _ e i)

  branch_or_good : (b : Bool) (n : ℕ) (ts : List ValueType) (ws : List Value) (more : Code) (rest : List Operand) → IsLabel here n ts → AllFit ws (stack ts ++ rest)
      → Goes set more (stack ts ++ rest) → IsGood g (branch_or g a k b n ts ws more)
  branch_or_good true n ts ws more rest e w t = jumps n ts _ e (fits_front (stack ts) rest ws w)
  branch_or_good false n ts ws more rest e w t = goes_on ws more (stack ts ++ rest) w t

  branch_if_okay : (n : ℕ) (ts : List ValueType) (ws : List Value) (more : Code) (rest : List Operand) → IsLabel here n ts → AllFit ws (known i32_type ∷ (stack ts ++ rest))
      → Goes set more (stack ts ++ rest) → Okay (branch_if g a k n (Some ts) ws more)
  branch_if_okay n ts [] more rest e w t given = absurd w
  branch_if_okay n ts (c ∷ ws) more rest e w t given = ((w.0, fits_front (stack ts) rest ws w.1), branch_or_good a.condition n ts ws more rest e w.1 t)

  branch_by_okay : (n : ℕ) (ts : List ValueType) (ws : List Value) (rest : List Operand) → IsLabel here n ts → AllFit ws (known i32_type ∷ (stack ts ++ rest))
      → Okay (branch_by g a k n (Some ts) ws)
  branch_by_okay n ts [] rest e w given = absurd w
  branch_by_okay n ts (c ∷ ws) rest e w given = let i = fits_front (stack ts) rest ws w.1 in ((w.0, i), jumps n ts _ e i)

  table_of_labels_okay : (ls : List ℕ) (default : ℕ) (any us popped rest : List Operand) → FitEach here us (default ∷ ls) → popped ≡ any ++ (us ++ known i32_type ∷ [])
      → AllBelow s (reverse popped ++ rest) → Okay (branch_by g a k (get_or ls a.index default) (label_at g a k (get_or ls a.index default)) vs)
  table_of_labels_okay ls default any us popped rest each e b =
      let l = label_chosen here us ls default a.index each in
      let w = subst (λ (x : List Operand). AllFit vs x) (reversed_more any us rest (known i32_type)) (values_at _ popped rest b e) in
      subst (λ (x : Option (List ValueType)). Okay (branch_by g a k (get_or ls a.index default) x vs)) (sym l.1)
      (branch_by_okay (get_or ls a.index default) l.0 vs (reverse any ++ rest) l.1
      (under_index (reverse us) (stack l.0) (reverse any ++ rest) (known i32_type) vs w (both_reversed us (all_known l.0) l.2)))

  return_call_indirect_okay : (t : Table) (b : Signature) (ws : List Value) (rest : List Operand) → AllBelow (all_known b.results) (all_known g.results)
      → AllFit ws (known (address_type t.table64) ∷ (stack b.params ++ rest)) → Okay (return_call_indirect g a k (Some t) (Some b) ws)
  return_call_indirect_okay t b [] rest r w given = absurd w
  return_call_indirect_okay t b (c ∷ ws) rest r w given =
      let i = fits_front (stack b.params) rest ws w.1 in
      let z = unless_traps_okay g k locals a a.way (by_itself (Unit {0}) (replaced b (front (stack b.params) ws))) (λ u. (tt, (i, r))) given in (((w.0, i), z.0), z.1)

  control_okay : (o : ControlOperator) (more : Code) (popped pushed rest m : List Operand) → IsEnabled g.bits (op.Control o) → ControlRow here o popped pushed
      → AllBelow s (reverse popped ++ rest) → m ≡ reverse pushed ++ rest → Goes set more m → Okay (operate_control g a k o more)
  control_okay control.Unreachable more popped pushed rest m enabled r b e t = λ given. (tt, tt)
  control_okay control.Nop more popped pushed rest m enabled r b e t = λ given. (tt, goes_on vs more rest (values_at [] popped rest b r.0) (code_at [] pushed rest m set more e r.1 t))
  control_okay (control.Br n) more popped pushed rest m enabled r b e t =
      subst (λ (x : Option (List ValueType)). Okay (branch g a k n x)) (sym r.2) (branch_okay n r.0 (reverse r.1 ++ rest) r.2 (values_under r.1 r.0 popped rest b r.3))
  control_okay (control.BrIf n) more popped pushed rest m enabled r b e t =
      subst (λ (x : Option (List ValueType)). Okay (branch_if g a k n x vs more)) (sym r.1)
      (branch_if_okay n r.0 vs more rest r.1 (values_over r.0 i32_type rest (values_at _ popped rest b r.2.0)) (code_at (all_known r.0) pushed rest m set more e r.2.1 t))
  control_okay (control.BrTable l) more popped pushed rest m enabled r b e t = table_of_labels_okay l.targets l.default r.1 r.0 popped rest r.2 r.3 b
  control_okay control.Return more popped pushed rest m enabled r b e t =
      λ given. let i = fits_front (stack g.results) (reverse r.0 ++ rest) vs (values_under r.0 g.results popped rest b r.1) in (i, i)
  control_okay (control.Call x) more popped pushed rest m enabled r b e t =
      subst (λ (o : Option Signature). Okay (call g a k o more)) (sym (signature_is _ r.1.0 r.0 r.1.1 r.1.3))
      (exchange_okay (r.0).params (r.0).results more rest (values_at _ popped rest b r.2.0) (code_at _ pushed rest m set more e r.2.1 t))
  control_okay (control.CallIndirect y x) more popped pushed rest m enabled r b e t =
      subst (λ (o : Option Signature). Okay (call_indirect g a k (slice_get g.«module».tables x) o more)) (sym (signature_is _ (r.2).callee r.1 (r.2).type (r.2).function))
      (subst (λ (o : Option Table). Okay (call_indirect g a k o (Some r.1) more)) (sym (r.2).table)
      (exchange_okay ((r.1).params ++ address_type (r.0).table64 ∷ []) (r.1).results more rest (values_at _ popped rest b r.3.0) (code_at _ pushed rest m set more e r.3.1 t)))
  control_okay (control.ReturnCall x) more popped pushed rest m enabled r b e t =
      subst (λ (o : Option Signature). Okay (return_call g a k o)) (sym (signature_is _ r.2.0 r.0 r.2.1 r.2.3))
      (λ given. let i = fits_front (stack (r.0).params) (reverse r.1 ++ rest) vs (values_under r.1 (r.0).params popped rest b r.4) in (i, (i, r.3)))
  control_okay (control.ReturnCallIndirect y x) more popped pushed rest m enabled r b e t =
      subst (λ (o : Option Signature). Okay (return_call_indirect g a k (slice_get g.«module».tables x) o vs)) (sym (signature_is _ (r.3).callee r.1 (r.3).type (r.3).function))
      (subst (λ (o : Option Table). Okay (return_call_indirect g a k o (Some r.1) vs)) (sym (r.3).table)
      (return_call_indirect_okay r.0 r.1 vs (reverse r.2 ++ rest) r.4
      (values_over (r.1).params (address_type (r.0).table64) (reverse r.2 ++ rest) (values_under r.2 ((r.1).params ++ address_type (r.0).table64 ∷ []) popped rest b r.5))))
  control_okay o more popped pushed rest m enabled r b e t = by_rows_okay (op.Control o) more popped pushed rest m (enabled, r) b e t

  -- ---- parametric instructions

  drop_okay : (ws : List Value) (u : Operand) (more : Code) (rest : List Operand) → AllFit ws (u ∷ rest) → Goes set more rest → Okay (drop_from g a k ws more)
  drop_okay [] u more rest w t given = absurd w
  drop_okay (v ∷ ws) u more rest w t given = (tt, goes_on ws more rest w.1 t)

  chosen_fits : (b : Bool) (v w : Value) (u : Operand) → FitsOperand v u → FitsOperand w u → FitsOperand (chosen b v w) u
  chosen_fits true v w u p q = p
  chosen_fits false v w u p q = q

  select_okay : (OfOneKind : Value → Value → Type 0) (ws : List Value) (u : Operand) (more : Code) (rest : List Operand)
      → ((v w : Value) → FitsOperand v u → FitsOperand w u → OfOneKind v w)
      → AllFit ws (known i32_type ∷ u ∷ u ∷ rest) → Goes set more (u ∷ rest) → Okay (select_from g a k OfOneKind ws more)
  select_okay K [] u more rest of w t given = absurd w
  select_okay K (c ∷ []) u more rest of w t given = absurd w.1
  select_okay K (c ∷ x ∷ []) u more rest of w t given = absurd w.1.1
  select_okay K (c ∷ x ∷ y ∷ ws) u more rest of w t given =
      ((w.0, of y x w.1.1.0 w.1.0), goes_on _ more (u ∷ rest) (chosen_fits a.condition y x u w.1.1.0 w.1.0, w.1.1.1) t)

  parametric_okay : (o : ParametricTree) (more : Code) (popped pushed rest m : List Operand) → IsEnabled g.bits (op.Parametric o) → ParametricRow here o popped pushed
      → AllBelow s (reverse popped ++ rest) → m ≡ reverse pushed ++ rest → Goes set more m → Okay (operate_parametric g a k o more)
  parametric_okay op.Drop more popped pushed rest m enabled r b e t =
      drop_okay vs r.0 more rest (values_at (r.0 ∷ []) popped rest b r.1) (code_at [] pushed rest m set more e r.2 t)
  parametric_okay op.Select more popped pushed rest m enabled r b e t =
      select_okay _ vs r.0 more rest (λ v w p q. are_numbers v w r.0 p q r.1) (values_at (r.0 ∷ r.0 ∷ known i32_type ∷ []) popped rest b r.2) (code_at (r.0 ∷ []) pushed rest m set more e r.3 t)
  parametric_okay (op.TypedSelect written) more popped pushed rest m enabled r b e t =
      subst (λ (u : ValueType). Okay (select_from g a k (λ v w. Fits v u × Fits w u) vs more)) (r.1).is
      (select_okay (λ v w. Fits v r.0 × Fits w r.0) vs (known r.0) more rest (λ v w p q. (p, q)) (values_at (all_known (r.0 ∷ r.0 ∷ i32_type ∷ [])) popped rest b r.3.0)
      (code_at (all_known (r.0 ∷ [])) pushed rest m set more e r.3.1 t))
  parametric_okay o more popped pushed rest m enabled r b e t = by_rows_okay (op.Parametric o) more popped pushed rest m (enabled, r) b e t

  -- ---- locals

  get_okay : (x : ℕ) (u : ValueType) (more : Code) (rest : List Operand) → slice_get g.locals x ≡ Some u → IsTrue (set x) → AllFit vs rest
      → Goes set more (known u ∷ rest) → Okay (get_local g a k (slice_get k.locals x) more)
  get_okay x u more rest e i w t =
      let r = top.are_set x i in
      subst (λ (o : Option (Option Value)). Okay (get_local g a k o more)) (sym r.1)
      (λ given. (tt, goes_on _ more (known u ∷ rest) (local_fits k.locals g.locals x r.0 u locals r.1 e, w) t))

  abbrev written : ℕ → Initialised
  written x = λ y. if x == y then true else set y

  set_now : (x : ℕ) (u : ValueType) (v : Value) → slice_get g.locals x ≡ Some u → AreSet (written x) (slice_set k.locals x (Some v))
  set_now x u v e y i =
      either (x == y) (λ b. subst (λ (n : ℕ). (w : Value) × (slice_get (slice_set k.locals x (Some v)) n ≡ Some (Some w))) (eqb-true x y b) (v, now_set k.locals g.locals x v u locals e))
      (λ j. are_still_set k.locals x v set top.are_set y j) i

  set_okay : (x : ℕ) (u : ValueType) (v : Value) (ws : List Value) (more : Code) (m : List Operand) → slice_get g.locals x ≡ Some u → Fits v u → AllFit ws m
      → Goes (written x) more m → Okay (set_local g a k x (Some u) v ws more)
  set_okay x u v ws more m e i w t given = (
    i,
    record {
      locals = local_written k.locals g.locals x v u locals e i;
      labels = (
        record {
          kind = top.kind;
          before = top.before;
          set = written x;
          are_set = set_now x u v e;
          operands = m;
          fit = w;
          inside = t.0;
          typed = t.1;
          loops = loops_still g k.locals x v k.innermost.continuation k.innermost.block k.innermost.clause k.around top.loops;
          handlers = handlers_still g k.locals x v k.innermost.handlers k.innermost.block k.around top.handlers;
        },
        still_await g k.locals x v k.around (stack k.innermost.block.results) around,
      );
    },
  )

  set_from_okay : (x : ℕ) (u : ValueType) (ws : List Value) (more : Code) (rest : List Operand) → slice_get g.locals x ≡ Some u → AllFit ws (known u ∷ rest)
      → Goes (written x) more rest → Okay (set_from g a k x ws more)
  set_from_okay x u [] more rest e w t = absurd w
  set_from_okay x u (v ∷ ws) more rest e w t = subst (λ (o : Option ValueType). Okay (set_local g a k x o v ws more)) (sym e) (set_okay x u v ws more rest e w.0 w.1 t)

  tee_from_okay : (x : ℕ) (u : ValueType) (ws : List Value) (more : Code) (rest : List Operand) → slice_get g.locals x ≡ Some u → AllFit ws (known u ∷ rest)
      → Goes (written x) more (known u ∷ rest) → Okay (tee_from g a k x ws more)
  tee_from_okay x u [] more rest e w t = absurd w
  tee_from_okay x u (v ∷ ws) more rest e w t =
      subst (λ (o : Option ValueType). Okay (set_local g a k x o v (v ∷ ws) more)) (sym e) (set_okay x u v (v ∷ ws) more (known u ∷ rest) e w.0 w t)

  memory_okay : (o : MemoryOperator) (more : Code) (popped pushed rest m : List Operand) → IsEnabled g.bits (op.Memory o) → MemoryRow here set o popped pushed
      → AllBelow s (reverse popped ++ rest) → m ≡ reverse pushed ++ rest → Goes (sets o set) more m → Okay (operate_memory g a k o more)
  memory_okay (memory.LocalGet x) more popped pushed rest m enabled r b e t =
      get_okay x r.0 more rest (r.1).local r.2 (values_at [] popped rest b r.3.0) (code_at (known r.0 ∷ []) pushed rest m set more e r.3.1 t)
  memory_okay (memory.LocalSet x) more popped pushed rest m enabled r b e t =
      set_from_okay x r.0 vs more rest (r.1).local (values_at (known r.0 ∷ []) popped rest b r.2.0) (code_at [] pushed rest m (written x) more e r.2.1 t)
  memory_okay (memory.LocalTee x) more popped pushed rest m enabled r b e t =
      tee_from_okay x r.0 vs more rest (r.1).local (values_at (known r.0 ∷ []) popped rest b r.2.0) (code_at (known r.0 ∷ []) pushed rest m (written x) more e r.2.1 t)
  memory_okay o more popped pushed rest m enabled r b e t = by_rows_okay (op.Memory o) more popped pushed rest m (enabled, r) b e t

  -- ---- references, and copies into tables

  null_okay : (u : ValueType) (more : Code) (rest : List Operand) → AllFit vs rest → Goes set more (known u ∷ rest) → Okay (null_of g a k u more)
  null_okay u more rest w t given = (tt, goes_on _ more (known u ∷ rest) (fits_joined a.values vs (known u ∷ []) rest (null_fits a.values u given) w) t)

  is_null_okay : (ws : List Value) (u : Operand) (more : Code) (rest : List Operand) → IsReference u → AllFit ws (u ∷ rest)
      → Goes set more (known i32_type ∷ rest) → Okay (is_null g a k ws more)
  is_null_okay [] u more rest i w t given = absurd w
  is_null_okay (v ∷ ws) u more rest i w t given = (is_reference v u w.0 i, goes_on _ more (known i32_type ∷ rest) (refl, w.1) t)

  copies_okay : (ts : List ValueType) (u v : ValueType) (more : Code) (rest : List Operand) → AllFit vs (stack ts ++ rest) → Goes set more rest → Below u v
      → Okay (copies g a k ts u v more)
  copies_okay ts u v more rest w t b given =
      let z = unless_traps_okay g k locals a a.way (record {
        asked = EachFits a.values v;
        answered = EachFits a.values u;
        outcome = next (going k (back (stack ts) vs) more);
      }) (λ i. (each_below a.values u v i b, goes_on _ more rest (fits_back (stack ts) rest vs w) t)) given in
      ((fits_front (stack ts) rest vs w, z.0), z.1)

  bulk_okay : (o : BulkOperator) (more : Code) (popped pushed rest m : List Operand) → IsEnabled g.bits (op.Bulk o) → BulkRow here o popped pushed
      → AllBelow s (reverse popped ++ rest) → m ≡ reverse pushed ++ rest → Goes set more m → Okay (operate_bulk g a k o more)
  bulk_okay (bulk.RefNull h) more popped pushed rest m enabled r b e t =
      subst (λ (u : ValueType). Okay (null_of g a k u more)) (r.1).is
      (null_okay r.0 more rest (values_at [] popped rest b r.3.0) (code_at (known r.0 ∷ []) pushed rest m set more e r.3.1 t))
  bulk_okay bulk.RefIsNull more popped pushed rest m enabled r b e t =
      is_null_okay vs r.0 more rest r.1 (values_at (r.0 ∷ []) popped rest b r.2) (code_at (all_known (i32_type ∷ [])) pushed rest m set more e r.3 t)
  bulk_okay (bulk.RefFunc x) more popped pushed rest m enabled r b e t =
      subst (λ (o : Option TypeTree). Okay (function_at g a k o more)) (sym r.2)
      (λ given. (
        tt,
        goes_on _ more (known (ref false r.1) ∷ rest) (function_fits here x r.0 r.1 r.5, values_at [] popped rest b r.6.0)
            (code_at (known (ref false r.1) ∷ []) pushed rest m set more e r.6.1 t),
      ))
  bulk_okay (bulk.TableInit i x) more popped pushed rest m enabled r b e t =
      subst (λ (o : Option ValueType). Okay (init_table g a k o (slice_get g.«module».tables x) more)) (sym r.4)
      (subst (λ (o : Option Table). Okay (init_table g a k (Some r.1) o more)) (sym r.2)
      (copies_okay (address_type (r.0).table64 ∷ i32_type ∷ i32_type ∷ []) r.1 (r.0).element more rest (values_at _ popped rest b r.6.0) (code_at [] pushed rest m set more e r.6.1 t) r.5))
  bulk_okay (bulk.TableCopy x y) more popped pushed rest m enabled r b e t =
      subst (λ (o : Option Table). Okay (copy_table g a k o (slice_get g.«module».tables y) more)) (sym r.2)
      (subst (λ (o : Option Table). Okay (copy_table g a k (Some r.0) o more)) (sym r.3)
      (copies_okay (address_type (r.0).table64 ∷ address_type (r.1).table64 ∷ shorter (r.0).table64 (r.1).table64 ∷ []) (r.1).element (r.0).element more rest
      (values_at _ popped rest b r.7.0) (code_at [] pushed rest m set more e r.7.1 t) r.6))
  bulk_okay o more popped pushed rest m enabled r b e t = by_rows_okay (op.Bulk o) more popped pushed rest m (enabled, r) b e t

  -- ---- all operators

  rule_okay : (o : Op) (more : Code) (popped pushed rest m : List Operand) → Row here set o popped pushed → AllBelow s (reverse popped ++ rest)
      → m ≡ reverse pushed ++ rest → Goes (after o set) more m → Okay (rule g a k o more)
  rule_okay (op.Control o) more popped pushed rest m r b e t = control_okay o more popped pushed rest m r.0 r.1 b e t
  rule_okay (op.Parametric o) more popped pushed rest m r b e t = parametric_okay o more popped pushed rest m r.0 r.1 b e t
  rule_okay (op.Memory o) more popped pushed rest m r b e t = memory_okay o more popped pushed rest m r.0 r.1 b e t
  rule_okay (op.Bulk o) more popped pushed rest m r b e t = bulk_okay o more popped pushed rest m r.0 r.1 b e t
  rule_okay o more popped pushed rest m r b e t = by_rows_okay o more popped pushed rest m r b e t

  operate_okay : (o : Op) (more : Code) → IsIn top.kind (plain o more) → Typed here f set (plain o more) s → Okay (operate g a k o more)
  operate_okay o more i t given =
      let r = rule_okay o more t.1.0 t.1.1 t.1.2 t.0 t.1.3 t.1.4 t.1.5 (i.1, t.2) given in
      (((t.1.0, t.1.1, takes_values o t.1.0 t.1.1 t.1.2 t.1.3 t.1.4), r.0), r.1)

  -- ---- blocks

  within_good : (j : FrameKind) (o : Op) (b : Signature) (body part : Code) (ws : List Value) (more : Code) (rest : List Operand) (i : FrameKind)
      → AllFit ws (stack b.params ++ rest) → IsIn i part
      → Typed (inside j (taken_by (continuation_of j body) b) here) (frame_of i b set) set part (stack b.params)
      → LoopsBack g k.locals (continuation_of j body) b (is_catch j) (all_labels (going k (back (stack b.params) ws) more))
      → HandlersFit g k.locals (handlers_of j o body) b (all_labels (going k (back (stack b.params) ws) more))
      → Goes set more (stack b.results ++ rest) → IsGood g (within g a k j o b body part ws more)
  within_good j o b body part ws more rest i w p tb l h t = record {
    locals = locals;
    labels = (
      record {
        kind = i;
        before = set;
        set = set;
        are_set = top.are_set;
        operands = stack b.params;
        fit = fits_front (stack b.params) rest ws w;
        inside = p;
        typed = tb;
        loops = l;
        handlers = h;
      },
      (
        record {
          kind = top.kind;
          before = top.before;
          set = set;
          are_set = top.are_set;
          operands = rest;
          fit = fits_back (stack b.params) rest ws w;
          inside = t.0;
          typed = t.1;
          loops = top.loops;
          handlers = top.handlers;
        },
        around,
      ),
    );
  }

  part_good : (c : Bool) (o : Op) (b : Signature) (body more : Code) (ws : List Value) (rest : List Operand) → AllFit ws (stack b.params ++ rest)
      → IsIn frames.If body → Typed (inside frames.If b.results here) (frame_of frames.If b set) set body (stack b.params)
      → Goes set more (stack b.results ++ rest) → IsGood g (within g a k frames.If o b body (either_part c body) ws more)
  part_good true o b body more ws rest w p tb t = within_good frames.If o b body body ws more rest frames.If w p tb tt tt t
  part_good false o b body more ws rest w p tb t =
      let r = second_typed (inside frames.If b.results here) b set set body (stack b.params) p tb in
      within_good frames.If o b body (second_part body) ws more rest r.0 w r.1 r.2 tt tt t

  if_okay : (o : Op) (b : Signature) (body more : Code) (ws : List Value) (rest : List Operand) → AllFit ws (known i32_type ∷ (stack b.params ++ rest))
      → IsIn frames.If body → Typed (inside frames.If b.results here) (frame_of frames.If b set) set body (stack b.params)
      → Goes set more (stack b.results ++ rest) → Okay (open_if g a k o b body ws more)
  if_okay o b body more [] rest w p tb t given = absurd w
  if_okay o b body more (c ∷ ws) rest w p tb t given = ((w.0, fits_front (stack b.params) rest ws w.1), part_good a.condition o b body more ws rest w.1 p tb t)

  -- the instructions of a frame of this kind, and those after it
  abbrev Nests : FrameKind → Signature → Code → Code → List Operand → Type 0
  Nests j b body more rest = IsIn j body × Typed (inside j (label_of j b) here) (frame_of j b set) set body (stack b.params) × Goes set more (stack b.results ++ rest)

  opens_okay : (j : FrameKind) (b : Signature) (o : Op) (body more : Code) (rest : List Operand) → AllBelow s (stack (entry_of j b) ++ rest) → Nests j b body more rest
      → Okay (opens g a k j (Some b) o body more)
  opens_okay frames.If b o body more rest e n given =
      if_okay o b body more vs rest (values_over b.params i32_type rest (all_below vs s _ fit e)) n.0 n.1 n.2 given
  opens_okay frames.Loop b o body more rest e n given =
      let w = all_below vs s _ fit e in
      (fits_front (stack b.params) rest vs w, within_good frames.Loop o b body body vs more rest frames.Loop w n.0 n.1 (frames.Loop, set, set, top.are_set, n.0, n.1) tt n.2)
  opens_okay frames.LegacyTry b o body more rest e n given =
      let w = all_below vs s _ fit e in
      (fits_front (stack b.params) rest vs w, within_good frames.LegacyTry o b body body vs more rest frames.LegacyTry w n.0 n.1 tt (set, set, stack b.params, top.are_set, n.0, n.1) n.2)
  opens_okay j b o body more rest e n given =
      let w = all_below vs s _ fit e in (fits_front (stack b.params) rest vs w, within_good j o b body body vs more rest j w n.0 n.1 tt tt n.2)

  enter_okay : (o : Op) (body more : Code) → IsIn top.kind (nested o body more) → Typed here f set (nested o body more) s → Okay (enter g a k (role_of o) o body more)
  enter_okay o body more i t =
      let same = nests_same t.0 i.0 (sym (ap (λ (r : Role). effect r top.kind) t.3.0) ∙ i.1) in
      let p = subst (λ (j : FrameKind). IsIn j body) (sym same) i.2 in
      subst (λ (r : Role). Okay (enter g a k r o body more)) (sym t.3.0)
      (subst (λ (x : Option Signature). Okay (opens g a k t.0 x o body more)) (sym (has_type_is here (block_type_of o) t.1 t.3.1))
      (opens_okay t.0 t.1 o body more t.2 t.4 (p, t.5, (i.3, t.6))))

  -- ---- all instructions

  end_okay : AllBelow s (stack k.innermost.block.results) → Okay (end_of_block g a k)
  end_okay b given = let w = all_below vs s _ fit b in (w, come_out_good g k locals k.around vs (stack k.innermost.block.results) w around)

  execute_okay : (c : Code) → IsIn top.kind c → Typed here f set c s → Okay (execute g a k c)
  execute_okay (close o) i t = end_okay t.0
  execute_okay (plain o more) i t = operate_okay o more i t
  execute_okay (nested o body more) i t = enter_okay o body more i t
  execute_okay (turn o more) i t = end_okay t.2

-- ---- a reduction, and a run

pub reduces : (g : Context) (k : Configuration) (a : Answer) → IsFine g k → IsOkay g (reduce g k a)
reduces g k a i = let l = i.labels.0 in execute_okay g k i.locals a l i.labels.1 k.innermost.code l.inside l.typed

pub runs_fine : (g : Context) (k : Configuration) (answers : List Answer) (l : Configuration) → IsFine g k → Runs g k answers l → IsFine g l
runs_fine g k [] l i r = subst (λ (m : Configuration). IsFine g m) r i
runs_fine g k (a ∷ answers) l i r = runs_fine g r.0 answers l (subst (λ (o : Outcome). IsGood g o) r.2 (reduces g k a i r.1).1) r.3

pub begins_fine : (g : Context) (params : ℕ) (c : Code) (locals : List (Option Value)) → g.labels ≡ [] → g.catches ≡ [] → IsBody g params c → AreLocals g params locals
    → IsFine g (begun g c locals)
begins_fine g params c locals e h b l =
    let first : Frame = frame_of frames.Block (record { params = []; results = g.results }) (initialised_at_first params g.locals) in
    let TypedIn : List (List ValueType) → List Bool → Type 0 =
    λ ls cs. Typed (record g { labels = g.results ∷ ls; catches = false ∷ cs }) first (initialised_at_first params g.locals) c [] in
    record {
      locals = l.fit;
      labels = (
        record {
          kind = frames.Block;
          before = initialised_at_first params g.locals;
          set = initialised_at_first params g.locals;
          are_set = l.have_values;
          operands = [];
          fit = tt;
          inside = b.expression;
          typed = subst (λ (cs : List Bool). TypedIn [] cs) h (subst (λ (ls : List (List ValueType)). TypedIn ls g.catches) e b.typed);
          loops = tt;
          handlers = tt;
        },
        λ vs w. w,
      );
    }

pub activation_sound : ActivationsAreSound
activation_sound g params c locals answers k a e h b l r given =
    let okay = reduces g k a (runs_fine g _ answers k (begins_fine g params c locals e h b l) r) given in
    (⊎_elim (λ n. n okay.0) (λ i. subst (λ (o : Outcome). IsGood g o) i okay.1), good_ends_well g (reduce g k a).outcome okay.1)
