-- What the rules say of values and of types that are named; features that are not standard.
use Rattle.std.proofs.Common.{◌≡◌, ℕ, zero, suc, List, [], ◌∷◌, ◌++◌, Option, Some, None, Bool, true, false, IsTrue, refl, sym, ap, subst, ◌∙◌}
use Rattle.std.proofs.lemmas.Option.{slice_get-get_or}
use Rattle.std.proofs.Common.{option_map, get_or, if◌then◌else◌, ◌==◌, is_some, true≢false}
use Rattle.std.proofs.lemmas.Bool.{eq-eqb}
use Rattle.wasm_types.specs.trees.Types.{Number, Abstract, none, nofunc, exn, noexn, nocont, HeapOf, abstract, concrete, exact, heap_map, ValueOf, value_map, ref, number, InnerOf, function, array_of, struct_of, continuation}
use Rattle.wasm_types.specs.trees.Trees.{TypeTree}
use Rattle.wasm_types.specs.trees.Below.{DeclaredBelow, expanded, bottom_of, abstract_above}
use Rattle.wasm_types.specs.trees.Each.{EachHeap, EachValue}
use Rattle.wasm_types.specs.trees.declared.index.UnpackedIndex.{UnpackedIndex}
use Rattle.wasm_types.specs.trees.declared.index.UnpackedIndex.TheVariants as index
use Rattle.wasm_types.specs.values.Values.{value_of}
use Rattle.wasm_operator_validator_rules.specs.Aggregates.{index_named, heap_meant as named_heap}
use Rattle.wasm_types.specs.trees.Matches.{InnerMatches, ResultsMatch}
use Rattle.wasm_types.specs.trees.Chains.{LinksMatch}
use Rattle.wasm_operators_immediates.specs.declared.block.BlockType.{BlockType}
use Rattle.wasm_operators_immediates.specs.declared.block.BlockType.TheVariants as block
use Rattle.wasm_operators_immediates.specs.declared.frames.FrameKind.{FrameKind}
use Rattle.wasm_operators_immediates.specs.declared.frames.FrameKind.TheVariants as frames
use Rattle.wasm_operators_enums.specs.declared.control.ControlOperator.TheVariants as control
use Rattle.wasm_operators_enums.specs.declared.gc.DescriptorOperator.{DescriptorOperator}
use Rattle.wasm_operators_enums.specs.declared.gc.DescriptorOperator.TheVariants as descriptor
use Rattle.wasm_operators_enums.specs.declared.atomic.SharedOperator.{SharedOperator}
use Rattle.wasm_operators_enums.specs.declared.atomic.SharedOperator.TheVariants as shared
use Rattle.wasm_types.specs.settings.Features.{Feature, SharedEverythingThreads, StackSwitching, CustomDescriptors, mask, has}
use Rattle.wasm_operators_immediates.specs.Info.{features_of}
use Rattle.wasm_operators_immediates.specs.declared.proposal.Proposal.TheVariants as proposal
use Rattle.wasm_operators_enums.specs.Table.{info_of}
use Rattle.wasm_operators_enums.specs.declared.role.Effect.TheVariants as effects
use Rattle.wasm_operators_enums.specs.Roles.{role_of, effect}
use Rattle.std.specs.Int.RustNames.{bit_and}
use Rattle.wasm_types.specs.trees.AbstractOrder.{AbstractBelow, same, noexn_exn}
use Rattle.wasm_operators_enums.specs.Op as op
use Rattle.wasm_operators_enums.specs.Op.{Op, ParametricTree, ExceptionTree, ContinuationTree}
use Rattle.wasm_operators_enums.specs.declared.role.Role.TheVariants.{Opens}
use Rattle.wasm_operators_encoding.specs.expressions.Code.{Code, close, plain, nested, turn, IsIn}
use Rattle.wasm_operator_validator_rules.specs.Operands.{ValueType, Operand, bottom, some_reference, known, IsReference, AllBelow, all_known, stack}
use Rattle.wasm_operator_validator_rules.specs.Context.{Context, Module, Initialised, Signature, Frame, IsTypeIndex, written_type, may_use, IsFunctionType, IsBlockType}
use Rattle.wasm_operator_validator_rules.specs.Row.{after, FitEach, not_null, IsNumber, IsEnabled}
use Rattle.wasm_operator_validator_rules.specs.Taken.{IsLabel}
use Rattle.wasm_operator_validator_soundness.specs.runs.Notes.{Notes, over_operator, over_block, into_part, into_nothing, IsAlong}
use Rattle.wasm_operator_validator_soundness.specs.runs.Values.{IsAReference, IsObject, IsStandard, Program, Value, number_value, ref_null, ref_function, ref_object, ref_i31, ref_host, ref_extern, ref_exn, least_type, is_null, IsNumberValue, IsMade, Fits, FitsOperand, AllFit}
use Rattle.wasm_operator_validator_soundness.specs.runs.Machine.{type_meant, heap_meant, value_meant, gives_one, function_type_in, block_signature, second_part}
use Rattle.wasm_operator_validator_soundness.proofs.RunsFitting.{below_on_top}
use Rattle.wasm_operator_validator_soundness.specs.runs.States.{Exception}
use Rattle.wasm_operator_validator_soundness.specs.runs.ValidStates.{IsCaught, IsThrown}
use Rattle.wasm_operator_validator_soundness.proofs.RunsInvariant.{none_is_some, further}
use Rattle.wasm_operator_validator_soundness.proofs.Objects.{matches_along}
use Rattle.wasm_operator_validator_soundness.proofs.Options.{if_some, map_some, used_is}
use Rattle.wasm_operator_validator_soundness.proofs.RunsLeaving.{signature_is, standard_links}

pub either : {P : Type 0} {c : Bool} (b : Bool) → (b ≡ true → P) → (IsTrue c → P) → IsTrue (if b then true else c) → P
either true f h i = f refl
either false f h i = h i

pub opened_same : (j k : FrameKind) → Opens j ≡ Opens k → j ≡ k
opened_same j k e = cc

-- ---- what the rules say a type is, computed

pub type_in_is : (o : Option TypeTree) (t : TypeTree) (b : Signature) → o ≡ Some t → IsFunctionType t b → function_type_in o ≡ Some b
type_in_is o t b e f = ap function_type_in e ∙ signature_is t b f

pub heap_there : (m : Module) (q : HeapOf UnpackedIndex) → EachHeap (IsTypeIndex m) q → heap_meant m q ≡ Some (heap_map (written_type m) q)
heap_there m (abstract c k) i = refl
heap_there m (concrete (index.Module n)) i = ap (λ (o : Option TypeTree). option_map (λ t. concrete t) o) (slice_get-get_or m.types n _ i)
heap_there m (concrete (index.RecGroup n)) i = absurd i
heap_there m (concrete (index.Id n)) i = absurd i
heap_there m (exact (index.Module n)) i = ap (λ (o : Option TypeTree). option_map (λ t. exact t) o) (slice_get-get_or m.types n _ i)
heap_there m (exact (index.RecGroup n)) i = absurd i
heap_there m (exact (index.Id n)) i = absurd i

pub value_there : (m : Module) (v : ValueOf UnpackedIndex) → EachValue (IsTypeIndex m) v → value_meant m v ≡ Some (value_map (written_type m) v)
value_there m (number n) i = refl
value_there m (ref n q) i = ap (λ (o : Option (HeapOf TypeTree)). option_map (λ k. ref n k) o) (heap_there m q i)

-- what the rules find by a name is what the machine finds
pub type_named_is : (g : Context) (i : UnpackedIndex) (t : TypeTree) → index_named g i ≡ Some t → type_meant g.«module» i ≡ Some t
type_named_is g (index.Module n) t e = used_is g n t e
type_named_is g (index.RecGroup n) t e = absurd (none_is_some t e)
type_named_is g (index.Id n) t e = absurd (none_is_some t e)

pub heap_named_is : (g : Context) (q : HeapOf UnpackedIndex) (k : HeapOf TypeTree) → named_heap g q ≡ Some k → heap_meant g.«module» q ≡ Some k
heap_named_is g (abstract s h) k e = ap Some (if_some (may_use g s) (abstract s h) k e)
heap_named_is g (concrete i) k e = let r = map_some (λ t. concrete t) (index_named g i) k e in ap (λ (o : Option TypeTree). option_map (λ t. concrete t) o) (type_named_is g i r.0 r.1) ∙ ap Some r.2
heap_named_is g (exact i) k e = let r = map_some (λ t. exact t) (index_named g i) k e in ap (λ (o : Option TypeTree). option_map (λ t. exact t) o) (type_named_is g i r.0 r.1) ∙ ap Some r.2

pub block_type_is : (g : Context) (bt : BlockType) (b : Signature) → IsBlockType g bt b → block_signature g.«module» bt ≡ Some b
block_type_is g block.Empty b e = ap Some (sym e)
block_type_is g (block.Val written) b e =
    ap (λ (o : Option ValueType). option_map gives_one o) (value_there g.«module» (value_of written) (e.1).known) ∙ ap (λ (t : ValueType). Some (gives_one t)) (sym (e.1).is) ∙ ap Some (sym e.2)
block_type_is g (block.FuncType x) b e = type_in_is _ e.1 b e.2 e.3

-- ---- values of references

module _ (p : Program) where
  -- what is of a reference type is a reference
  pub is_reference : (v : Value) (t : Operand) → FitsOperand p v t → IsReference t → IsAReference v
  is_reference v bottom f i = absurd f
  is_reference v some_reference f i = absurd f
  is_reference v (known (number n)) f i = absurd i
  is_reference (number_value m id) (known (ref n h)) f i = absurd f.1
  is_reference (ref_null s a) (known (ref n h)) f i = tt
  is_reference (ref_function j t) (known (ref n h)) f i = tt
  is_reference (ref_object id t) (known (ref n h)) f i = tt
  is_reference (ref_i31 id) (known (ref n h)) f i = tt
  is_reference (ref_host id) (known (ref n h)) f i = tt
  is_reference (ref_extern id) (known (ref n h)) f i = tt
  is_reference (ref_exn id t) (known (ref n h)) f i = tt

  pub never_null : (v : Value) (n : Bool) (h : HeapOf TypeTree) → is_null v ≡ false → Fits p v (ref n h) → Fits p v (ref false h)
  never_null (number_value m id) n h e f = absurd f.1
  never_null (ref_null s a) n h e f = absurd (true≢false e)
  never_null (ref_function j t) n h e f = (f.0, (tt, f.1.1))
  never_null (ref_object id t) n h e f = (f.0, (tt, f.1.1))
  never_null (ref_i31 id) n h e f = (f.0, (tt, f.1.1))
  never_null (ref_host id) n h e f = (f.0, (tt, f.1.1))
  never_null (ref_extern id) n h e f = (f.0, (tt, f.1.1))
  never_null (ref_exn id t) n h e f = (f.0, (tt, f.1.1))

  pub nullable_too : (v : Value) (n : Bool) (h : HeapOf TypeTree) → Fits p v (ref false h) → Fits p v (ref n h)
  nullable_too (number_value m id) n h f = absurd f.1
  nullable_too (ref_null s a) n h f = absurd f.1.0
  nullable_too (ref_function j t) n h f = (f.0, (tt, f.1.1))
  nullable_too (ref_object id t) n h f = (f.0, (tt, f.1.1))
  nullable_too (ref_i31 id) n h f = (f.0, (tt, f.1.1))
  nullable_too (ref_host id) n h f = (f.0, (tt, f.1.1))
  nullable_too (ref_extern id) n h f = (f.0, (tt, f.1.1))
  nullable_too (ref_exn id t) n h f = (f.0, (tt, f.1.1))

  pub as_nullable : (v : Value) (n : Bool) (h : HeapOf TypeTree) → Fits p v (ref n h) → Fits p v (ref true h)
  as_nullable (number_value m id) n h f = absurd f.1
  as_nullable (ref_null s a) n h f = (f.0, (tt, f.1.1))
  as_nullable (ref_function j t) n h f = (f.0, (tt, f.1.1))
  as_nullable (ref_object id t) n h f = (f.0, (tt, f.1.1))
  as_nullable (ref_i31 id) n h f = (f.0, (tt, f.1.1))
  as_nullable (ref_host id) n h f = (f.0, (tt, f.1.1))
  as_nullable (ref_extern id) n h f = (f.0, (tt, f.1.1))
  as_nullable (ref_exn id t) n h f = (f.0, (tt, f.1.1))

  pub non_null_fits : (v : Value) (t : Operand) → IsReference t → is_null v ≡ false → FitsOperand p v t → FitsOperand p v (not_null t)
  non_null_fits v bottom i e f = absurd f
  non_null_fits v some_reference i e f = absurd f
  non_null_fits v (known (number n)) i e f = absurd i
  non_null_fits v (known (ref n h)) i e f = never_null v n h e f

  -- what is of a type that `select` may take is a number, and of one type with what else is
  pub is_a_number : (v : Value) (t : Operand) → FitsOperand p v t → IsNumber t → IsNumberValue v
  is_a_number v bottom f i = absurd f
  is_a_number v some_reference f i = absurd f
  is_a_number (number_value m id) (known (number n)) f i = tt
  is_a_number (ref_null s a) (known (number n)) f i = absurd f.1
  is_a_number (ref_function j t) (known (number n)) f i = absurd f.1
  is_a_number (ref_object id t) (known (number n)) f i = absurd f.1
  is_a_number (ref_i31 id) (known (number n)) f i = absurd f.1
  is_a_number (ref_host id) (known (number n)) f i = absurd f.1
  is_a_number (ref_extern id) (known (number n)) f i = absurd f.1
  is_a_number (ref_exn id t) (known (number n)) f i = absurd f.1
  is_a_number v (known (ref n h)) f i = absurd i

  pub as_other : (v x : Value) (t : Operand) → FitsOperand p v t → FitsOperand p x t → IsNumber t → Fits p v (least_type x)
  as_other v x bottom f k i = absurd f
  as_other v x some_reference f k i = absurd f
  as_other v (number_value m id) (known (number n)) f k i = subst (λ (q : Number). Fits p v (number q)) (sym k.1) f
  as_other v (ref_null s a) (known (number n)) f k i = absurd k.1
  as_other v (ref_function j t) (known (number n)) f k i = absurd k.1
  as_other v (ref_object id t) (known (number n)) f k i = absurd k.1
  as_other v (ref_i31 id) (known (number n)) f k i = absurd k.1
  as_other v (ref_host id) (known (number n)) f k i = absurd k.1
  as_other v (ref_extern id) (known (number n)) f k i = absurd k.1
  as_other v (ref_exn id t) (known (number n)) f k i = absurd k.1
  as_other v x (known (ref n h)) f k i = absurd i

-- ---- one label of a table of labels

pub under_index : (p : Program) (ts us rest : List Operand) (t : Operand) (vs : List Value) → AllFit p vs (t ∷ (ts ++ rest)) → AllBelow ts us → AllFit p vs (t ∷ (us ++ rest))
under_index p ts us rest t [] w b = absurd w
under_index p ts us rest t (v ∷ vs) w b = (w.0, below_on_top p vs ts us rest w.1 b)

pub label_chosen : (g : Context) (s : List Operand) (ls : List ℕ) (n i : ℕ) → FitEach g s (n ∷ ls)
    → (ts : List ValueType) × IsLabel g (get_or ls i n) ts × AllBelow s (all_known ts)
label_chosen g s [] n i f = f.0
label_chosen g s (l ∷ ls) n zero f = f.1.0
label_chosen g s (l ∷ ls) n (suc i) f = label_chosen g s ls n i (f.0, f.1.1)

-- ---- a function through a type declared above its own takes what that takes, and gives what that gives

pub passes_by : (x : InnerOf TypeTree) (b : Signature) → InnerMatches x (function b.params b.results)
    → (c : Signature) × (x ≡ function c.params c.results) × ResultsMatch b.params c.params × ResultsMatch c.results b.results
passes_by (function ps rs) b m = (record { params = ps; results = rs }, refl, m.0, m.1)
passes_by (array_of f) b m = absurd m
passes_by (struct_of fs) b m = absurd m
passes_by (continuation f) b m = absurd m

pub results_below : (ts us : List ValueType) → ResultsMatch ts us → AllBelow (all_known ts) (all_known us)
results_below [] [] m = tt
results_below [] (u ∷ us) m = absurd m
results_below (t ∷ ts) [] m = absurd m
results_below (t ∷ ts) (u ∷ us) m = (m.0, results_below ts us m.1)

pub record CallsThrough (u : TypeTree) (b : Signature) : Type 0 where
  pub own : Signature
  pub is : IsFunctionType u own
  pub params : ResultsMatch b.params own.params
  pub results : ResultsMatch own.results b.results

pub calls_through : (u t : TypeTree) (b : Signature) → LinksMatch u → DeclaredBelow u t → IsFunctionType t b → CallsThrough u b
calls_through u t b links d e =
    let r = passes_by (expanded u) b (subst (λ (i : InnerOf TypeTree). InnerMatches (expanded u) i) e (matches_along u t links d).1) in
    record { own = r.0; is = r.1; params = r.2; results = r.3 }

-- no object is of a function's type, and no abstract type but its bottom is below a type
pub not_object : (x : InnerOf TypeTree) (b : Signature) → IsObject x → x ≡ function b.params b.results → ⊥
not_object x b i e = subst IsObject e i

pub no_object : (p : Program) (k : ℕ) (u t : TypeTree) (b : Signature) → IsMade p (ref_object k u) → DeclaredBelow u t → IsFunctionType t b → ⊥
no_object p k u t b made d e =
    let through = calls_through u t b (standard_links u made.0) d e in not_object (expanded u) through.own made.1 through.is

abbrev pub IsBottom : Abstract → Type 0
IsBottom nofunc = Unit {0}
IsBottom none = Unit {0}
IsBottom nocont = Unit {0}
IsBottom h = ⊥

pub is_bottom : (x : InnerOf TypeTree) → IsBottom (bottom_of x)
is_bottom (function ps rs) = tt
is_bottom (array_of f) = tt
is_bottom (struct_of fs) = tt
is_bottom (continuation f) = tt

pub no_bottom : (h : Abstract) (x : InnerOf TypeTree) → h ≡ bottom_of x → IsBottom h
no_bottom h x e = subst IsBottom (sym e) (is_bottom x)

-- nothing but exceptions is below `exn`
abbrev pub IsApart : Abstract → Type 0
IsApart exn = ⊥
IsApart noexn = ⊥
IsApart h = Unit {0}

pub under_exn : (h : Abstract) → AbstractBelow h exn → IsApart h → ⊥
under_exn h same i = i
under_exn h noexn_exn i = i

pub constructor_apart : (x : InnerOf TypeTree) → IsApart (abstract_above x)
constructor_apart (function ps rs) = tt
constructor_apart (array_of f) = tt
constructor_apart (struct_of fs) = tt
constructor_apart (continuation f) = tt

-- what a marked label caught
pub is_caught : (o : Option Exception) → is_some o ≡ true → IsCaught o → (e : Exception) × (o ≡ Some e) × IsThrown e.type
is_caught None e c = absurd (true≢false (sym e))
is_caught (Some t) e c = (t, refl, c)

-- the second part of an `if` is typed where the whole is
pub turns_to_else : (j : FrameKind) → effect (role_of (op.Control control.Else)) frames.If ≡ Some (effects.Turns j) → frames.Else ≡ j
turns_to_else j e = cc

module _ (g : Context) (b : Signature) (before : Initialised) where
  abbrev pub part : FrameKind → Frame
  part k = record { kind = k; block = b; before = before }

  -- the second part of code that is typed at a place
  module _ (N : Notes) (root : N.Note) where
    abbrev pub Second : Code → Type 0
    Second c = (j : FrameKind) × IsIn j (second_part c) × (n : N.Note) × IsAlong N root n × N.Holds n g (part j) before (second_part c) (stack b.params)

    pub second_typed : (set : Initialised) (c : Code) (s : List Operand) (here : N.Note) → IsAlong N root here → IsIn frames.If c → N.Holds here g (part frames.If) set c s → Second c
    second_typed set (close o) s here l i t =
        let y = N.opened here g (part frames.If) set (close o) s t in (frames.If, i, N.missing here, further N root here into_nothing l, y.3)
    second_typed set (plain o more) s here l i t =
        let y = N.opened here g (part frames.If) set (plain o more) s t in
        second_typed (after o set) more y.0 (N.next here) (further N root here over_operator l) i.1 y.2
    second_typed set (nested o body more) s here l i t =
        let y = N.opened here g (part frames.If) set (nested o body more) s t in
        second_typed set more (stack (y.1).results ++ y.2) (N.past here) (further N root here over_block l) i.3 y.6
    second_typed set (turn (op.Control control.Else) more) s here l i t =
        let y = N.opened here g (part frames.If) set (turn (op.Control control.Else) more) s t in (
          frames.Else,
          subst (λ (j : FrameKind). IsIn j more) (sym (turns_to_else i.0 i.1)) i.2,
          N.turned here,
          further N root here into_part l,
          subst (λ (ts : List ValueType). N.Holds (N.turned here) g (part frames.Else) before more (stack ts)) y.1 y.3,
        )
    second_typed set (turn (op.Exception (op.Catch x)) more) s here l i t = absurd (none_is_some (effects.Turns i.0) i.1)
    second_typed set (turn (op.Exception op.CatchAll) more) s here l i t = absurd (none_is_some (effects.Turns i.0) i.1)
    second_typed set (turn o more) s here l i t = let y = N.opened here g (part frames.If) set (turn o more) s t in absurd y.1

-- ---- operators of proposals that are not standard are not enabled

pub enabled_has : (bits : ℕ) (q : Feature) → bit_and bits (mask q) ≡ mask q → has q bits ≡ true
unfolding has
enabled_has bits q e = ap (λ n. n == mask q) e ∙ eq-eqb (mask q) (mask q) refl

pub descriptors_needed : (o : DescriptorOperator) → (info_of (op.Descriptor o)).proposal ≡ proposal.CustomDescriptors
descriptors_needed (descriptor.StructNewDesc x) = refl
descriptors_needed (descriptor.StructNewDefaultDesc x) = refl
descriptors_needed (descriptor.RefGetDesc x) = refl
descriptors_needed (descriptor.RefCastDescEqNonNull q) = refl
descriptors_needed (descriptor.RefCastDescEqNullable q) = refl
descriptors_needed (descriptor.BrOnCastDescEq n x y) = refl
descriptors_needed (descriptor.BrOnCastDescEqFail n x y) = refl

pub switching_needed : (o : ContinuationTree) → (info_of (op.Continuation o)).proposal ≡ proposal.StackSwitching
switching_needed (op.ContNew x) = refl
switching_needed (op.ContBind x y) = refl
switching_needed (op.Suspend x) = refl
switching_needed (op.Resume x q) = refl
switching_needed (op.ResumeThrow x y q) = refl
switching_needed (op.ResumeThrowRef x q) = refl
switching_needed (op.Switch x y) = refl

pub sharing_needed : (o : SharedOperator) → (info_of (op.Shared o)).proposal ≡ proposal.SharedEverythingThreads
sharing_needed (shared.GlobalAtomicGet ordering global_index) = refl
sharing_needed (shared.GlobalAtomicSet ordering global_index) = refl
sharing_needed (shared.GlobalAtomicRmwAdd ordering global_index) = refl
sharing_needed (shared.GlobalAtomicRmwSub ordering global_index) = refl
sharing_needed (shared.GlobalAtomicRmwAnd ordering global_index) = refl
sharing_needed (shared.GlobalAtomicRmwOr ordering global_index) = refl
sharing_needed (shared.GlobalAtomicRmwXor ordering global_index) = refl
sharing_needed (shared.GlobalAtomicRmwXchg ordering global_index) = refl
sharing_needed (shared.GlobalAtomicRmwCmpxchg ordering global_index) = refl
sharing_needed (shared.TableAtomicGet ordering table_index) = refl
sharing_needed (shared.TableAtomicSet ordering table_index) = refl
sharing_needed (shared.TableAtomicRmwXchg ordering table_index) = refl
sharing_needed (shared.TableAtomicRmwCmpxchg ordering table_index) = refl
sharing_needed (shared.StructAtomicGet ordering struct_type_index field_index) = refl
sharing_needed (shared.StructAtomicGetS ordering struct_type_index field_index) = refl
sharing_needed (shared.StructAtomicGetU ordering struct_type_index field_index) = refl
sharing_needed (shared.StructAtomicSet ordering struct_type_index field_index) = refl
sharing_needed (shared.StructAtomicRmwAdd ordering struct_type_index field_index) = refl
sharing_needed (shared.StructAtomicRmwSub ordering struct_type_index field_index) = refl
sharing_needed (shared.StructAtomicRmwAnd ordering struct_type_index field_index) = refl
sharing_needed (shared.StructAtomicRmwOr ordering struct_type_index field_index) = refl
sharing_needed (shared.StructAtomicRmwXor ordering struct_type_index field_index) = refl
sharing_needed (shared.StructAtomicRmwXchg ordering struct_type_index field_index) = refl
sharing_needed (shared.StructAtomicRmwCmpxchg ordering struct_type_index field_index) = refl
sharing_needed (shared.ArrayAtomicGet ordering array_type_index) = refl
sharing_needed (shared.ArrayAtomicGetS ordering array_type_index) = refl
sharing_needed (shared.ArrayAtomicGetU ordering array_type_index) = refl
sharing_needed (shared.ArrayAtomicSet ordering array_type_index) = refl
sharing_needed (shared.ArrayAtomicRmwAdd ordering array_type_index) = refl
sharing_needed (shared.ArrayAtomicRmwSub ordering array_type_index) = refl
sharing_needed (shared.ArrayAtomicRmwAnd ordering array_type_index) = refl
sharing_needed (shared.ArrayAtomicRmwOr ordering array_type_index) = refl
sharing_needed (shared.ArrayAtomicRmwXor ordering array_type_index) = refl
sharing_needed (shared.ArrayAtomicRmwXchg ordering array_type_index) = refl
sharing_needed (shared.ArrayAtomicRmwCmpxchg ordering array_type_index) = refl
sharing_needed shared.RefI31Shared = refl

pub not_enabled : (bits : ℕ) (q : Feature) (o : Op) → features_of (info_of o).proposal ≡ mask q → has q bits ≡ false → IsEnabled bits o → ⊥
not_enabled bits q o e n i =
    true≢false (sym (enabled_has bits q (subst (λ (k : ℕ). bit_and bits k ≡ k) e i.proposal)) ∙ n)

no_descriptors : (bits : ℕ) → IsStandard bits → (o : DescriptorOperator) → IsEnabled bits (op.Descriptor o) → ⊥
no_descriptors bits s o i = not_enabled bits CustomDescriptors (op.Descriptor o) (ap features_of (descriptors_needed o)) s.descriptors i

no_switching : (bits : ℕ) → IsStandard bits → (o : ContinuationTree) → IsEnabled bits (op.Continuation o) → ⊥
no_switching bits s o i = not_enabled bits StackSwitching (op.Continuation o) (ap features_of (switching_needed o)) s.switching i

no_sharing : (bits : ℕ) → IsStandard bits → (o : SharedOperator) → IsEnabled bits (op.Shared o) → ⊥
no_sharing bits s o i = not_enabled bits SharedEverythingThreads (op.Shared o) (ap features_of (sharing_needed o)) s.sharing i

-- ---- operators of the three proposals

-- it is of one of the proposals that are not standard
abbrev pub IsProposed : Op → Type 0
IsProposed (op.Descriptor o) = Unit {0}
IsProposed (op.Shared o) = Unit {0}
IsProposed (op.Continuation o) = Unit {0}
IsProposed o = ⊥

-- Each asks for the feature of its proposal, whatever its row is.
pub never_enabled : (bits : ℕ) → IsStandard bits → (o : Op) → IsProposed o → IsEnabled bits o → ⊥
never_enabled bits s (op.Descriptor o) i n = no_descriptors bits s o n
never_enabled bits s (op.Shared o) i n = no_sharing bits s o n
never_enabled bits s (op.Continuation o) i n = no_switching bits s o n
never_enabled bits s (op.Control o) i n = i
never_enabled bits s (op.Parametric o) i n = i
never_enabled bits s (op.Exception o) i n = i
never_enabled bits s (op.Memory o) i n = i
never_enabled bits s (op.Bulk o) i n = i
never_enabled bits s (op.Gc o) i n = i
never_enabled bits s (op.Const o) i n = i
never_enabled bits s (op.Numeric o) i n = i
never_enabled bits s (op.Simd o) i n = i
never_enabled bits s (op.SimdNumeric o) i n = i
never_enabled bits s (op.Atomic o) i n = i
