-- Control: branches and calls.
use Rattle.std.proofs.Common.{◌≡◌, ℕ, List, [], ◌∷◌, ◌++◌, reverse, Option, Some, None, Bool, true, false, refl, sym, ap, subst, ◌∙◌}
use Rattle.std.proofs.Common.{slice_get, get_or, if◌then◌else◌}
use Rattle.wasm_types.specs.trees.Types.{Abstract, func, nofunc, extern, any, i31, exn, HeapOf, abstract, concrete, ref, InnerOf, function, array_of, struct_of, continuation}
use Rattle.wasm_types.specs.trees.Trees.{TypeTree}
use Rattle.wasm_types.specs.trees.Below.{DeclaredBelow, itself, expanded, abstract_above, IsBelowAbstract}
use Rattle.wasm_types.specs.trees.AbstractOrder.{AbstractBelow, same, nofunc_func}
use Rattle.wasm_operators_immediates.specs.declared.frames.FrameKind.{FrameKind}
use Rattle.wasm_operators_enums.specs.declared.control.ControlOperator.{ControlOperator}
use Rattle.wasm_operators_enums.specs.declared.control.ControlOperator.TheVariants as control
use Rattle.wasm_operators_encoding.specs.expressions.Code.{Code, IsIn}
use Rattle.wasm_operator_validator_rules.specs.Operands.{ValueType, Operand, known, IsReference, AllBelow, all_known, stack}
use Rattle.wasm_operator_validator_rules.specs.Context.{Context, Table, Initialised, Signature, Frame, IsFunctionType, address_type}
use Rattle.wasm_operator_validator_rules.specs.InstructionTypes.{InstructionType, ◌⟶◌, reference_to, i32_type}
use Rattle.wasm_operator_validator_rules.specs.Row.{IsIndirect, not_null, ControlRow}
use Rattle.wasm_operator_validator_rules.specs.Named.{as_function, used_type}
use Rattle.wasm_operator_validator_rules.specs.Taken.{IsLabel}
use Rattle.wasm_operator_validator_soundness.specs.runs.Notes.{Notes, IsAlong}
use Rattle.wasm_operator_validator_soundness.specs.runs.Places.{HasBodyBy, IsValidBy}
use Rattle.wasm_operator_validator_soundness.specs.runs.Values.{IsAReference, IsObject, IsStandardType, Function, Program, Value, number_value, ref_null, ref_function, ref_object, ref_i31, ref_host, ref_extern, ref_exn, is_null, IsNamed, IsMade, Fits, AllFit}
use Rattle.wasm_operator_validator_soundness.specs.runs.States.{Activation, Answer}
use Rattle.wasm_operator_validator_soundness.specs.runs.States.{trapped, Move}
use Rattle.wasm_operator_validator_soundness.specs.runs.Machine.{address, function_type, body_of, IsCallable}
use Rattle.wasm_operator_validator_soundness.specs.runs.Machine.{going, branch, named, invoke, call, call_reference, call_indirect, operate_control}
use Rattle.wasm_operator_validator_soundness.proofs.RunsFitting.{fits_below, all_below, below_on_top, stack_more, reversed_more, both_reversed}
use Rattle.wasm_operator_validator_soundness.specs.runs.ValidStates.{AreSet, Around, around_of}
use Rattle.wasm_operator_validator_soundness.proofs.RunsInvariant.{none_is_some, some_same}
use Rattle.wasm_operator_validator_soundness.specs.runs.ValidStates.{AllAwait}
use Rattle.wasm_operator_validator_soundness.proofs.RunsInvariant.{here, IsOkay}
use Rattle.wasm_operator_validator_soundness.proofs.Options.{address_is, used_is, as_function_is, named_some}
use Rattle.wasm_operator_validator_soundness.proofs.Combining.{done_okay, asks_okay, allows_okay, choose_okay, found_okay, pops_okay, takes_okay, may_trap_okay}
use Rattle.wasm_operator_validator_soundness.proofs.RunsLeaving.{hand_back_okay, signature_is, begin_okay, standard_is_sound, standard_links}
use Rattle.wasm_operator_validator_soundness.proofs.Values.{calls_through, is_reference, label_chosen, never_null, no_bottom, no_object, non_null_fits, nullable_too, results_below, under_index}
use Rattle.wasm_operator_validator_soundness.proofs.Standing.{branch_if_okay, branch_okay, code_at, goes_okay, here_awaits, values_at, values_over, values_under, Here}

-- what functions are below
abbrev IsFunctionAbstract : Abstract → Type 0
IsFunctionAbstract func = Unit {0}
IsFunctionAbstract nofunc = Unit {0}
IsFunctionAbstract h = ⊥

no_function_abstract : (x : InnerOf TypeTree) → IsObject x → IsFunctionAbstract (abstract_above x) → ⊥
no_function_abstract (function ps rs) o i = absurd o
no_function_abstract (array_of f) o i = i
no_function_abstract (struct_of fs) o i = i
no_function_abstract (continuation t) o i = absurd o

module _ (N : Notes) (p : Program) (valid : IsValidBy N p) (final : List ValueType) (a : Answer) (act : Activation) (acts : List Activation) (h : Here N p final act acts) where
  abbrev w : Around
  w = around_of act

  abbrev g : Context
  g = here p a act acts

  abbrev f : Frame
  f = record { kind = h.kind; block = act.innermost.block; before = h.before }

  abbrev vs : List Value
  vs = act.innermost.values

  abbrev kind : FrameKind
  kind = h.kind

  abbrev before : Initialised
  before = h.before

  abbrev set : Initialised
  set = h.set

  abbrev are_set : AreSet h.set act.locals
  are_set = h.are_set

  abbrev s : List Operand
  s = h.operands

  abbrev fit : AllFit p act.innermost.values h.operands
  fit = h.fit

  abbrev Okay : Move → Type 0
  Okay m = IsOkay N p final m

  -- the instructions to come are typed, and stand where they may
  abbrev Goes : Initialised → Code → List Operand → Type 0
  Goes init more m = IsIn h.kind more × (n : N.Note) × IsAlong N h.root n × N.Holds n g f init more m

  -- ---- calls

  -- how a call goes on
  abbrev pub owed_by : Bool → Signature → List ValueType
  owed_by tail b = if tail then act.owed else b.results

  abbrev pub behind_call : Bool → List Value → Code → List Activation
  behind_call tail ws more = if tail then acts else going p a act acts ws more ∷ acts

  -- what is needs where the call is expected to have this type
  abbrev pub CallGoesOn : Bool → Signature → Code → List Operand → Type 0
  CallGoesOn true b more rest = AllBelow (all_known b.results) (all_known act.results)
  CallGoesOn false b more rest = Goes set more (stack b.results ++ rest)

  pub owed_fits : (tail : Bool) (b c : Signature) (more : Code) (rest : List Operand) → AllBelow (all_known c.results) (all_known b.results) → CallGoesOn tail b more rest
      → (us : List Value) → AllFit p us (stack c.results) → AllFit p us (stack (owed_by tail c))
  owed_fits true b c more rest r k us x =
      h.results us (all_below p us (stack b.results) (stack act.results) (all_below p us (stack c.results) (stack b.results) x (both_reversed (all_known c.results) (all_known b.results) r)) (both_reversed (all_known b.results) (all_known act.results) k))
  owed_fits false b c more rest r k us x = x

  pub callers_await : (tail : Bool) (b c : Signature) (ws : List Value) (more : Code) (rest : List Operand) → AllBelow (all_known c.results) (all_known b.results) → CallGoesOn tail b more rest
      → AllFit p ws rest → AllAwait N p final (behind_call tail ws more) (stack (owed_by tail c))
  callers_await true b c ws more rest r k x = h.below
  callers_await false b c ws more rest r k x =
      (stack b.results, (λ us y. all_below p us (stack c.results) (stack b.results) y (both_reversed (all_known c.results) (all_known b.results) r)), here_awaits N p valid final a act acts h ws more rest (stack b.results) x k, h.below)

  pub body_valid : (i : Option ℕ) (t : TypeTree) → IsNamed p i t → HasBodyBy N p t (body_of (named p a i))
  body_valid None t n = tt
  body_valid (Some x) t n =
      let o = valid.own x n.0 n.1 in
      let r = valid.functions x o.0 o.1 in
      let e : r.0 ≡ n.0 = some_same r.0 n.0 (sym r.1 ∙ n.1) in
      subst (λ (q : Option Function). HasBodyBy N p t (body_of q)) (sym r.1)
      (subst (λ (u : TypeTree). HasBodyBy N p u (r.0).body) (ap (λ (q : Function). q.type) e ∙ n.2) (r.2).body)

  -- a function that was made with a type below the one that is expected
  pub function_okay : (tail : Bool) (i : Option ℕ) (u t : TypeTree) (b : Signature) (ws : List Value) (more : Code) (rest : List Operand) → IsMade p (ref_function i u)
      → DeclaredBelow u t → IsFunctionType t b → CallGoesOn tail b more rest → AllFit p ws (stack b.params ++ rest) → Okay (invoke p a act acts tail (ref_function i u) ws more)
  function_okay tail i u t b ws more rest made d e k x =
      let through = calls_through u t b (standard_links u made.0) d e in
      let c : Signature = through.own in
      let r = results_below c.results b.results through.results in
      found_okay N p final (function_type u) c _ (signature_is u c through.is)
      (takes_okay N p final a c.params ws rest _ (below_on_top p ws (stack b.params) (stack c.params) rest x (both_reversed (all_known b.params) (all_known c.params) (results_below b.params c.params through.params)))
      (λ args us y z.
      begin_okay N p final a (body_of (named p a i)) u c args (owed_by tail c) (behind_call tail us more) (body_valid i u made.2) through.is y (owed_fits tail b c more rest r k)
      (callers_await tail b c us more rest r k z)))

  -- a reference to a function
  pub invoke_okay : (tail : Bool) (v : Value) (t : TypeTree) (b : Signature) (ws : List Value) (more : Code) (rest : List Operand) → Fits p v (ref true (concrete t))
      → IsFunctionType t b → CallGoesOn tail b more rest → AllFit p ws (stack b.params ++ rest) → Okay (invoke p a act acts tail v ws more)
  invoke_okay tail (ref_function i u) t b ws more rest m e k x = function_okay tail i u t b ws more rest m.0 m.1.1 e k x
  invoke_okay tail (ref_null n q) t b ws more rest m e k x = done_okay N p final trapped tt
  invoke_okay tail (number_value n id) t b ws more rest m e k x = absurd m.1
  invoke_okay tail (ref_object id u) t b ws more rest m e k x = absurd (no_object p id u t b m.0 m.1.1 e)
  invoke_okay tail (ref_i31 id) t b ws more rest m e k x = absurd (no_bottom i31 (expanded t) (m.1.1 t itself).1)
  invoke_okay tail (ref_host id) t b ws more rest m e k x = absurd (no_bottom any (expanded t) (m.1.1 t itself).1)
  invoke_okay tail (ref_extern id) t b ws more rest m e k x = absurd (no_bottom extern (expanded t) (m.1.1 t itself).1)
  invoke_okay tail (ref_exn id u) t b ws more rest m e k x = absurd (no_bottom exn (expanded t) (m.1.1 t itself).1)

  pub call_okay : (tail : Bool) (x : ℕ) (t : TypeTree) (b : Signature) (more : Code) (rest : List Operand) → slice_get p.«module».functions x ≡ Some t → IsFunctionType t b
      → CallGoesOn tail b more rest → AllFit p vs (stack b.params ++ rest) → Okay (call p a act acts tail x more)
  call_okay tail x t b more rest e i k v =
      let r = valid.functions x t e in
      found_okay N p final (slice_get p.functions x) r.0 _ r.1
      (function_okay tail (Some x) (r.0).type t b vs more rest ((r.2).standard, (r.2).function, (r.0, r.1, refl)) (r.2).below i k v)

  pub call_reference_okay : (tail : Bool) (x : ℕ) (t : TypeTree) (b : Signature) (more : Code) (rest : List Operand) → slice_get p.«module».types x ≡ Some t → IsFunctionType t b
      → CallGoesOn tail b more rest → AllFit p vs (known (ref true (concrete t)) ∷ (stack b.params ++ rest)) → Okay (call_reference p a act acts tail x more)
  call_reference_okay tail x t b more rest e i k v = found_okay N p final (slice_get p.«module».types x) t _ e
      (pops_okay N p final vs (known (ref true (concrete t))) (stack b.params ++ rest) _ v (λ r ws m y.
      asks_okay N p final (Fits p r (ref true (concrete t))) _ m (invoke_okay tail r t b ws more rest m i k y)))

  -- nothing but nulls and functions is below `func`
  only_functions : (h : Abstract) → AbstractBelow h func → IsFunctionAbstract h
  only_functions h same = tt
  only_functions h nofunc_func = tt

  made_callable : (t : TypeTree) (s : Bool) → IsStandardType t → IsObject (expanded t) → IsBelowAbstract t s func → ⊥
  made_callable t s i o b =
      no_function_abstract (expanded t) o
      (subst IsFunctionAbstract (sym ((standard_is_sound t i b.0 b.1).constructor)) (only_functions (abstract_above (expanded b.0)) b.3))

  callable : (v : Value) (s : Bool) → Fits p v (ref true (abstract s func)) → IsCallable v
  callable (ref_null c k) s f = tt
  callable (ref_function j t) s f = tt
  callable (number_value n id) s f = absurd f.1
  callable (ref_object id t) s f = absurd (made_callable t s f.0.0 f.0.1 f.1.1)
  callable (ref_i31 id) s f = absurd (only_functions i31 f.1.1.1)
  callable (ref_host id) s f = absurd (only_functions any f.1.1.1)
  callable (ref_extern id) s f = absurd (only_functions extern f.1.1.1)
  callable (ref_exn id t) s f = absurd (only_functions exn f.1.1.1)

  pub call_indirect_okay : (tail : Bool) (y x : ℕ) (t : Table) (b : Signature) (more : Code) (rest : List Operand) → IsIndirect g y x t b
      → CallGoesOn tail b more rest → AllFit p vs (known (address_type t.table64) ∷ (stack b.params ++ rest)) → Okay (call_indirect p a act acts tail y x more)
  call_indirect_okay tail y x t b more rest i k v =
      found_okay N p final (slice_get p.«module».tables x) t _ i.table
      (found_okay N p final (slice_get p.«module».types y) i.callee _ i.type
      (takes_okay N p final a (address t.table64 ∷ []) vs (stack b.params ++ rest) _ (subst (λ (u : ValueType). AllFit p vs (known u ∷ (stack b.params ++ rest))) (sym (address_is t.table64)) v) (λ c ws j z.
      may_trap_okay N p final a _
      (allows_okay N p final (Fits p a.held t.element) _ (λ held.
      asks_okay N p final (IsCallable a.held) _ (callable a.held (i.functions).0 (fits_below p a.held (known t.element) (known (ref true (abstract (i.functions).0 func))) held (i.functions).1))
      (choose_okay N p final a.condition _ _
      (λ e. allows_okay N p final (Fits p a.held (ref false (concrete i.callee))) _ (λ fits.
      invoke_okay tail a.held i.callee b ws more rest (nullable_too p a.held true (concrete i.callee) fits) i.function k z))
      (λ e. done_okay N p final trapped tt)))))))

  pub references_over : (ts : List ValueType) (t : Operand) (popped rest : List Operand) → AllBelow s (reverse popped ++ rest) → popped ≡ all_known ts ++ t ∷ [] → AllFit p vs (t ∷ (stack ts ++ rest))
  references_over ts t popped rest b e =
      subst (λ (l : List Operand). AllFit p vs l) (reversed_more [] (all_known ts) rest t) (values_at N p valid final a act acts h (all_known ts ++ t ∷ []) popped rest b e)

  -- a branch that a reference decides
  pub on_null_okay : (n : ℕ) (ts : List ValueType) (t : Operand) (more : Code) (rest : List Operand) → IsLabel g n ts → IsReference t → AllFit p vs (t ∷ (stack ts ++ rest))
      → Goes set more (not_null t ∷ (stack ts ++ rest)) → Okay (operate_control p a act acts (control.BrOnNull n) more)
  on_null_okay n ts t more rest e i x ty = pops_okay N p final vs t (stack ts ++ rest) _ x (λ v ws m y.
      asks_okay N p final (IsAReference v) _ (is_reference p v t m i)
      (branch_if_okay N p valid final a act acts h (is_null v) n ts ws (v ∷ ws) more rest (not_null t ∷ (stack ts ++ rest)) e y (λ c. (non_null_fits p v t i c m, y)) ty))

  pub non_null_branch_okay : (v : Value) (ws : List Value) (n : ℕ) (ts : List ValueType) (c : Bool) (q : HeapOf TypeTree) (rest : List Operand) → IsLabel g n (ts ++ ref c q ∷ [])
      → is_null v ≡ false → Fits p v (ref true q) → AllFit p ws (stack ts ++ rest) → Okay (branch p a act acts n (v ∷ ws))
  non_null_branch_okay v ws n ts c q rest e i m y =
      branch_okay N p valid final a act acts h n (ts ++ ref c q ∷ []) (v ∷ ws) rest e
      (subst (λ (l : List Operand). AllFit p (v ∷ ws) (l ++ rest)) (sym (stack_more ts (ref c q))) (nullable_too p v c q (never_null p v true q i m), y))

  pub on_non_null_okay : (n : ℕ) (ts : List ValueType) (c : Bool) (q : HeapOf TypeTree) (more : Code) (rest : List Operand) → IsLabel g n (ts ++ ref c q ∷ [])
      → AllFit p vs (known (ref true q) ∷ (stack ts ++ rest)) → Goes set more (stack ts ++ rest) → Okay (operate_control p a act acts (control.BrOnNonNull n) more)
  on_non_null_okay n ts c q more rest e x ty = pops_okay N p final vs (known (ref true q)) (stack ts ++ rest) _ x (λ v ws m y.
      asks_okay N p final (IsAReference v) _ (is_reference p v (known (ref true q)) m tt)
      (choose_okay N p final (is_null v) _ _ (λ i. goes_okay N p valid final a act acts h ws more (stack ts ++ rest) y ty) (λ i. non_null_branch_okay v ws n ts c q rest e i m y)))

  pub as_non_null_okay : (t : Operand) (more : Code) (rest : List Operand) → IsReference t → AllFit p vs (t ∷ rest)
      → Goes set more (not_null t ∷ rest) → Okay (operate_control p a act acts control.RefAsNonNull more)
  as_non_null_okay t more rest i x ty = pops_okay N p final vs t rest _ x (λ v ws m y.
      asks_okay N p final (IsAReference v) _ (is_reference p v t m i)
      (choose_okay N p final (is_null v) _ _ (λ c. done_okay N p final trapped tt) (λ c. goes_okay N p valid final a act acts h (v ∷ ws) more (not_null t ∷ rest) (non_null_fits p v t i c m, y) ty)))

  pub control_okay : (o : ControlOperator) (more : Code) (popped pushed rest m : List Operand) → ControlRow g o popped pushed
      → AllBelow s (reverse popped ++ rest) → m ≡ reverse pushed ++ rest → Goes set more m → Okay (operate_control p a act acts o more)
  control_okay control.Unreachable more popped pushed rest m r b e t = done_okay N p final trapped tt
  control_okay control.Nop more popped pushed rest m r b e t = goes_okay N p valid final a act acts h vs more rest (values_at N p valid final a act acts h [] popped rest b r.0) (code_at N p valid final a act acts h [] pushed rest m set more e r.1 t)
  control_okay (control.Br n) more popped pushed rest m r b e t = branch_okay N p valid final a act acts h n r.0 vs (reverse r.1 ++ rest) r.2 (values_under N p valid final a act acts h r.1 r.0 popped rest b r.3)
  control_okay (control.BrIf n) more popped pushed rest m r b e t =
      pops_okay N p final vs (known i32_type) (stack r.0 ++ rest) _ (values_over N p valid final a act acts h r.0 i32_type rest (values_at N p valid final a act acts h _ popped rest b r.2.0)) (λ c ws i x.
      asks_okay N p final (Fits p c i32_type) _ i
      (branch_if_okay N p valid final a act acts h a.condition n r.0 ws ws more rest (stack r.0 ++ rest) r.1 x (λ j. x) (code_at N p valid final a act acts h (all_known r.0) pushed rest m set more e r.2.1 t)))
  control_okay (control.BrTable l) more popped pushed rest m r b e t =
      let c = label_chosen g r.0 l.targets l.default a.index r.2 in
      let x = subst (λ (q : List Operand). AllFit p vs q) (reversed_more r.1 r.0 rest (known i32_type)) (values_at N p valid final a act acts h _ popped rest b r.3) in
      pops_okay N p final vs (known i32_type) (stack c.0 ++ (reverse r.1 ++ rest)) _
      (under_index p (reverse r.0) (stack c.0) (reverse r.1 ++ rest) (known i32_type) vs x (both_reversed r.0 (all_known c.0) c.2)) (λ v ws i y.
      asks_okay N p final (Fits p v i32_type) _ i (branch_okay N p valid final a act acts h (get_or l.targets a.index l.default) c.0 ws (reverse r.1 ++ rest) c.1 y))
  control_okay control.Return more popped pushed rest m r b e t =
      takes_okay N p final a act.results vs (reverse r.0 ++ rest) _ (values_under N p valid final a act acts h r.0 act.results popped rest b r.1) (λ us ws x y.
      hand_back_okay N p final a act.owed us acts (h.results us x) h.below)
  control_okay (control.Call x) more popped pushed rest m r b e t =
      call_okay false x r.1.0 r.0 more rest r.1.1 r.1.3 (code_at N p valid final a act acts h _ pushed rest m set more e r.2.1 t) (values_at N p valid final a act acts h _ popped rest b r.2.0)
  control_okay (control.CallIndirect y x) more popped pushed rest m r b e t =
      call_indirect_okay false y x r.0 r.1 more rest r.2 (code_at N p valid final a act acts h _ pushed rest m set more e r.3.1 t)
      (values_over N p valid final a act acts h (r.1).params (address_type (r.0).table64) rest (values_at N p valid final a act acts h _ popped rest b r.3.0))
  control_okay (control.ReturnCall x) more popped pushed rest m r b e t =
      call_okay true x r.2.0 r.0 more (reverse r.1 ++ rest) r.2.1 r.2.3 r.3 (values_under N p valid final a act acts h r.1 (r.0).params popped rest b r.4)
  control_okay (control.ReturnCallIndirect y x) more popped pushed rest m r b e t =
      call_indirect_okay true y x r.0 r.1 more (reverse r.2 ++ rest) r.3 r.4
      (values_over N p valid final a act acts h (r.1).params (address_type (r.0).table64) (reverse r.2 ++ rest) (values_under N p valid final a act acts h r.2 ((r.1).params ++ address_type (r.0).table64 ∷ []) popped rest b r.5))
  control_okay (control.CallRef x) more popped pushed rest m r b e t =
      let u = named_some (used_type g x) _ r.0 r.1 in
      let c = named_some (as_function (expanded u.0)) _ r.0 u.2 in
      let i : (((c.0).params ++ reference_to u.0 ∷ []) ⟶ (c.0).results) ≡ r.0 = some_same _ r.0 c.2 in
      call_reference_okay false x u.0 c.0 more rest (used_is g x u.0 u.1) (as_function_is (expanded u.0) c.0 c.1)
      (code_at N p valid final a act acts h _ pushed rest m set more e (r.2.1 ∙ ap (λ (y : InstructionType). all_known y.gives) (sym i)) t)
      (values_over N p valid final a act acts h (c.0).params (ref true (concrete u.0)) rest (values_at N p valid final a act acts h _ popped rest b (r.2.0 ∙ ap (λ (y : InstructionType). all_known y.takes) (sym i))))
  control_okay (control.ReturnCallRef x) more popped pushed rest m r b e t =
      call_reference_okay true x r.0 r.1 more (reverse r.2 ++ rest) (used_is g x r.0 r.3) r.4 r.5
      (values_over N p valid final a act acts h (r.1).params (ref true (concrete r.0)) (reverse r.2 ++ rest) (values_under N p valid final a act acts h r.2 ((r.1).params ++ ref true (concrete r.0) ∷ []) popped rest b r.6))
  control_okay control.RefAsNonNull more popped pushed rest m r b e t =
      as_non_null_okay r.0 more rest r.1 (values_at N p valid final a act acts h (r.0 ∷ []) popped rest b r.2) (code_at N p valid final a act acts h (not_null r.0 ∷ []) pushed rest m set more e r.3 t)
  control_okay (control.BrOnNull n) more popped pushed rest m r b e t =
      on_null_okay n r.0 r.1 more rest r.2 r.3 (references_over r.0 r.1 popped rest b r.4)
      (subst (λ (l : List Operand). Goes set more l) (reversed_more [] (all_known r.0) rest (not_null r.1)) (code_at N p valid final a act acts h (all_known r.0 ++ not_null r.1 ∷ []) pushed rest m set more e r.5 t))
  control_okay (control.BrOnNonNull n) more popped pushed rest m r b e t =
      on_non_null_okay n r.0 r.1 r.2 more rest r.3 (values_over N p valid final a act acts h r.0 (ref true r.2) rest (values_at N p valid final a act acts h _ popped rest b r.4.0)) (code_at N p valid final a act acts h _ pushed rest m set more e r.4.1 t)
  control_okay o more popped pushed rest m r b e t = absurd (none_is_some r.0 r.1)
