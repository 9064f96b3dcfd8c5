-- A constant that gives a number names no function: a reference that it made would stay on the stack, or another one that takes it.
use Rattle.std.proofs.Common.{◌≡◌, ℕ, Bool, true, false, not, ◌&&◌, List, [], ◌∷◌, ◌++◌, reverse, Option, Some, None, slice_get, ◌⊎◌, inl, inr, refl, sym, ap, ◌∙◌, subst, if◌then◌else◌}
use Rattle.wasm_types.specs.settings.Features.{judges_vectors}
use Rattle.wasm_types.specs.trees.Types.{Number, i32, i64, v128, i31, number, ref, abstract}
use Rattle.wasm_operators_immediates.specs.declared.frames.FrameKind.{FrameKind}
use Rattle.wasm_operators_immediates.specs.declared.frames.FrameKind.TheVariants.{Block}
use Rattle.wasm_operators_enums.specs.declared.control.ControlOperator.TheVariants as control
use Rattle.wasm_operators_enums.specs.declared.memory.MemoryOperator.{MemoryOperator}
use Rattle.wasm_operators_enums.specs.declared.memory.MemoryOperator.TheVariants as memory
use Rattle.wasm_operators_enums.specs.declared.bulk.BulkOperator.{BulkOperator}
use Rattle.wasm_operators_enums.specs.declared.bulk.BulkOperator.TheVariants as bulk
use Rattle.wasm_operators_enums.specs.declared.numeric.NumericOperator.{NumericOperator}
use Rattle.wasm_operators_enums.specs.declared.numeric.NumericOperator.TheVariants as numeric
use Rattle.wasm_operators_enums.specs.declared.gc.GcOperator.{GcOperator}
use Rattle.wasm_operators_enums.specs.declared.gc.GcOperator.TheVariants as gc
use Rattle.wasm_operators_enums.specs.declared.gc.DescriptorOperator.{DescriptorOperator}
use Rattle.wasm_operators_enums.specs.declared.gc.DescriptorOperator.TheVariants as descriptor
use Rattle.wasm_operators_enums.specs.declared.atomic.SharedOperator.{SharedOperator}
use Rattle.wasm_operators_enums.specs.declared.atomic.SharedOperator.TheVariants as shared
use Rattle.wasm_operators_enums.specs.declared.vector.SimdOperator.{SimdOperator}
use Rattle.wasm_operators_enums.specs.declared.vector.SimdOperator.TheVariants as simd
use Rattle.wasm_operators_enums.specs.Op as op
use Rattle.wasm_operators_enums.specs.Op.{Op}
use Rattle.wasm_operators_enums.specs.Roles.{role_of, effect}
use Rattle.wasm_operators_enums.specs.declared.role.Effect.{Effect}
use Rattle.wasm_operators_enums.specs.declared.role.Effect.TheVariants as effects
use Rattle.wasm_operators_encoding.specs.expressions.Code.{Code, close, plain, nested, turn, walk, IsIn}
use Rattle.wasm_operator_validator_rules.specs.Operands.{ValueType, Operand, bottom, some_reference, known, IsReference, OperandBelow, AllBelow, all_known, stack}
use Rattle.wasm_operator_validator_rules.specs.Context.{Module, Global, Context, Initialised, Frame, may_use}
use Rattle.wasm_operator_validator_rules.specs.Numbers.{numbers, class_of, taken_by}
use Rattle.wasm_operator_validator_rules.specs.Aggregates.{struct_named, array_named}
use Rattle.wasm_operator_validator_rules.specs.Places.{has_default, have_defaults}
use Rattle.wasm_operator_validator_rules.specs.InstructionTypes.{InstructionType, ◌⟶◌, named, provided, is_described, allocated}
use Rattle.wasm_operator_validator_rules.specs.Descriptors.{DescriptorRow}
use Rattle.wasm_operator_validator_rules.specs.Objects.{GcRow}
use Rattle.wasm_operator_validator_rules.specs.SharedAccesses.{SharedRow}
use Rattle.wasm_operator_validator_rules.specs.Taken.{TableRow}
use Rattle.wasm_operator_validator_rules.specs.Row.{GroupRow, MemoryRow, BulkRow, after}
use Rattle.wasm_operator_validator_rules.specs.Typed.{Typed}
use Rattle.wasm_operator_validator_rules.specs.constants.Constants.{IsConstantOperator, IsConstantNumber, IsConstantObject, IsConstantMemory, IsConstantReference, IsConstantDescribed, IsConstantShared, IsConstantVector, AreConstantOperators, IsConstant}
use Rattle.wasm_module_validator_rules.specs.Spaces.{referred_by, referred_in}
use Rattle.wasm_module_validator_rules_in_order.specs.contexts.laws.Constants.{opens_none}

-- ---- references on a stack

abbrev HasReference : List Operand → Type 0
HasReference [] = ⊥
HasReference (s ∷ ss) = IsReference s ⊎ HasReference ss

reference_above : (s u : Operand) → IsReference s → OperandBelow s u → IsReference u
reference_above bottom u h k = absurd h
reference_above some_reference u h k = k
reference_above (known (number n)) u h k = absurd h
reference_above (known (ref n p)) bottom h k = absurd k
reference_above (known (ref n p)) some_reference h k = tt
reference_above (known (ref n p)) (known (number m)) h k = absurd k
reference_above (known (ref n p)) (known (ref m q)) h k = tt

reference_stays : (ss us : List Operand) → AllBelow ss us → HasReference ss → HasReference us
reference_stays [] us k h = absurd h
reference_stays (s ∷ ss) [] k h = absurd k
reference_stays (s ∷ ss) (u ∷ us) k (inl h) = inl (reference_above s u h k.0)
reference_stays (s ∷ ss) (u ∷ us) k (inr h) = inr (reference_stays ss us k.1 h)

reference_on : (ss us : List Operand) → HasReference ss → HasReference (ss ++ us)
reference_on [] us h = absurd h
reference_on (s ∷ ss) us (inl h) = inl h
reference_on (s ∷ ss) us (inr h) = inr (reference_on ss us h)

reference_under : (ss us : List Operand) → HasReference us → HasReference (ss ++ us)
reference_under [] us h = h
reference_under (s ∷ ss) us h = inr (reference_under ss us h)

-- a reference among what is taken is one among what is given, so one stays
reference_moves : (ss us rest : List Operand) → (HasReference ss → HasReference us) → HasReference (ss ++ rest) → HasReference (us ++ rest)
reference_moves [] us rest n h = reference_under us rest h
reference_moves (s ∷ ss) us rest n (inl h) = reference_on us rest (n (inl h))
reference_moves (s ∷ ss) us rest n (inr h) = reference_moves ss us rest (λ k. n (inr k)) h

-- ---- what a constant operator takes: numbers alone, unless it gives a reference

-- these are no references
abbrev AreNumbers : List Operand → Type 0
AreNumbers s = HasReference (reverse s) → ⊥

same_some : {A : Type 0} (x y : A) → Some x ≡ Some y → x ≡ y
same_some x y e = cc

none_some : {A : Type 0} (x : A) → None ≡ Some x → ⊥
none_some x e = cc

no_operands : (popped : List Operand) → popped ≡ [] → AreNumbers popped
no_operands popped e = subst AreNumbers (sym e) (λ h. h)

takes_none : (t : InstructionType) (popped : List Operand) → t.takes ≡ [] → popped ≡ all_known t.takes → AreNumbers popped
takes_none t popped e k = no_operands popped (k ∙ ap all_known e)

two_numbers : (n : Number) → AreNumbers (known (number n) ∷ known (number n) ∷ [])
two_numbers n (inl h) = h
two_numbers n (inr (inl h)) = h
two_numbers n (inr (inr h)) = h

sum_takes : (bits : ℕ) (o : NumericOperator) → IsConstantNumber bits o → AreNumbers (all_known (numbers (taken_by (class_of o))))
sum_takes bits numeric.I32Add k = two_numbers i32
sum_takes bits numeric.I32Sub k = two_numbers i32
sum_takes bits numeric.I32Mul k = two_numbers i32
sum_takes bits numeric.I64Add k = two_numbers i64
sum_takes bits numeric.I64Sub k = two_numbers i64
sum_takes bits numeric.I64Mul k = two_numbers i64
sum_takes bits o k = absurd k

chosen_takes : (b : Bool) (us : List ValueType) (t : InstructionType) → (if b then Some ([] ⟶ us) else None) ≡ Some t → t.takes ≡ []
chosen_takes true us t e = sym (ap (λ (x : InstructionType). x.takes) (same_some _ t e))
chosen_takes false us t e = absurd (none_some t e)

global_takes : (c : Context) (v : Option Global) (t : InstructionType) → named v (λ v. if may_use c v.shared then Some ([] ⟶ v.content ∷ []) else None) ≡ Some t → t.takes ≡ []
global_takes c None t e = absurd (none_some t e)
global_takes c (Some v) t e = chosen_takes (may_use c v.shared) (v.content ∷ []) t e

abbrev GivesReference : List Operand → Type 0
GivesReference pushed = HasReference (reverse pushed)

abbrev TypeGivesReference : InstructionType → Type 0
TypeGivesReference t = GivesReference (all_known t.gives)

provided_gives : (b : Bool) (u t : InstructionType) → TypeGivesReference u → provided b u ≡ Some t → TypeGivesReference t
provided_gives true u t h e = subst TypeGivesReference (same_some u t e) h
provided_gives false u t h e = absurd (none_some t e)

named_gives : {A : Type 0} (v : Option A) (f : A → Option InstructionType) (t : InstructionType) → ((x : A) → f x ≡ Some t → TypeGivesReference t) → named v f ≡ Some t
    → TypeGivesReference t
named_gives None f t h e = absurd (none_some t e)
named_gives (Some x) f t h e = h x e

gives : (us : List ValueType) (pushed : List Operand) → GivesReference (all_known us) → pushed ≡ all_known us → GivesReference pushed
gives us pushed h e = subst GivesReference (sym e) h

module _ (bits : ℕ) (g : Module) (count : ℕ) (c : Context) where
  object_gives : (o : GcOperator) (popped pushed : List Operand) → IsConstantObject bits o → GcRow c o popped pushed → GivesReference pushed
  object_gives (gc.StructNew x) popped pushed k r =
      gives r.0.gives pushed (named_gives (struct_named c x) _ r.0 (λ s e. provided_gives (not (is_described s)) _ r.0 (inl tt) e) r.1) r.2.1
  object_gives (gc.StructNewDefault x) popped pushed k r =
      gives r.0.gives pushed (named_gives (struct_named c x) _ r.0 (λ s e. provided_gives (not (is_described s) && have_defaults s.fields) _ r.0 (inl tt) e) r.1) r.2.1
  object_gives (gc.ArrayNew x) popped pushed k r =
      gives r.0.gives pushed (named_gives (array_named c x) _ r.0 (λ a e. subst TypeGivesReference (same_some _ r.0 e) (inl tt)) r.1) r.2.1
  object_gives (gc.ArrayNewDefault x) popped pushed k r =
      gives r.0.gives pushed (named_gives (array_named c x) _ r.0 (λ a e. provided_gives (has_default a.element) _ r.0 (inl tt) e) r.1) r.2.1
  object_gives (gc.ArrayNewFixed x n) popped pushed k r =
      gives r.0.gives pushed (named_gives (array_named c x) _ r.0 (λ a e. subst TypeGivesReference (same_some _ r.0 e) (inl tt)) r.1) r.2.1
  object_gives gc.RefI31 popped pushed k r = gives r.0.gives pushed (subst TypeGivesReference (same_some _ r.0 r.1) (inl tt)) r.2.1
  object_gives gc.AnyConvertExtern popped pushed k r = subst GivesReference (sym r.2.1) (inl tt)
  object_gives gc.ExternConvertAny popped pushed k r = subst GivesReference (sym r.2.1) (inl tt)
  object_gives o popped pushed k r = absurd k

  memory_takes : (set : Initialised) (o : MemoryOperator) (popped pushed : List Operand) → IsConstantMemory bits g count o → MemoryRow c set o popped pushed → AreNumbers popped
  memory_takes set (memory.GlobalGet x) popped pushed k r = takes_none r.0 popped (global_takes c (slice_get c.«module».globals x) r.0 r.1) r.2.0
  memory_takes set o popped pushed k r = absurd k

  bulk_takes : (o : BulkOperator) (popped pushed : List Operand) → IsConstantReference o → BulkRow c o popped pushed → AreNumbers popped
  bulk_takes (bulk.RefNull p) popped pushed k r = no_operands popped r.3.0
  bulk_takes (bulk.RefFunc x) popped pushed k r = no_operands popped r.6.0
  bulk_takes o popped pushed k r = absurd k

  descriptor_gives : (o : DescriptorOperator) (popped pushed : List Operand) → IsConstantDescribed bits o → DescriptorRow c o popped pushed → GivesReference pushed
  descriptor_gives (descriptor.StructNewDesc x) popped pushed k r = gives (allocated c r.0.type ∷ []) pushed (inl tt) r.3.1
  descriptor_gives (descriptor.StructNewDefaultDesc x) popped pushed k r = gives (allocated c r.0.type ∷ []) pushed (inl tt) r.4.1
  descriptor_gives o popped pushed k r = absurd k

  shared_gives : (o : SharedOperator) (popped pushed : List Operand) → IsConstantShared bits o → SharedRow c o popped pushed → GivesReference pushed
  shared_gives shared.RefI31Shared popped pushed k r = gives (ref false (abstract true i31) ∷ []) pushed (inl tt) r.1
  shared_gives o popped pushed k r = absurd k

  vector_takes : (o : SimdOperator) (popped pushed : List Operand) → IsConstantVector o → TableRow c (op.Simd o) popped pushed → AreNumbers popped
  vector_takes (simd.V128Const v) popped pushed k r = takes_none r.0 popped (chosen_takes (judges_vectors c.bits) (number v128 ∷ []) r.0 r.1) r.2.0
  vector_takes o popped pushed k r = absurd k

  operator_keeps : (set : Initialised) (o : Op) (popped pushed : List Operand) → IsConstantOperator bits g count o → GroupRow c set o popped pushed
      → HasReference (reverse popped) → GivesReference pushed
  operator_keeps set (op.Const o) popped pushed k r h =
      absurd (takes_none r.0 popped (sym (ap (λ (x : InstructionType). x.takes) (same_some _ r.0 r.1))) r.2.0 h)
  operator_keeps set (op.Numeric o) popped pushed k r h =
      let e = ap (λ (x : InstructionType). all_known x.takes) (same_some _ r.0 r.1) in
      absurd (subst AreNumbers (e ∙ sym r.2.0) (sum_takes bits o k) h)
  operator_keeps set (op.Memory o) popped pushed k r h = absurd (memory_takes set o popped pushed k r h)
  operator_keeps set (op.Bulk o) popped pushed k r h = absurd (bulk_takes o popped pushed k r h)
  operator_keeps set (op.Gc o) popped pushed k r h = object_gives o popped pushed k r
  operator_keeps set (op.Descriptor o) popped pushed k r h = descriptor_gives o popped pushed k r
  operator_keeps set (op.Shared o) popped pushed k r h = shared_gives o popped pushed k r
  operator_keeps set (op.Simd o) popped pushed k r h = absurd (vector_takes o popped pushed k r h)
  operator_keeps set (op.Control control.End) popped pushed k r h = absurd (none_some r.0 r.1)
  operator_keeps set o popped pushed k r h = absurd k

  -- so a reference stays to the end
  reference_kept : (f : Frame) (set : Initialised) (x : Code) (s : List Operand) → AreConstantOperators bits g count (walk x) → (HasReference (stack f.block.results) → ⊥) → Typed c f set x s
      → HasReference s → ⊥
  reference_kept f set (close o) s k n y h = n (reference_stays s _ y.0 h)
  reference_kept f set (plain o more) s k n y h =
      let popped = y.1.0 in let pushed = y.1.1 in let rest = y.1.2 in
      let kept = reference_moves (reverse popped) (reverse pushed) rest (operator_keeps set o popped pushed k.0 y.1.3.1) (reference_stays s _ y.1.4 h) in
      reference_kept f (after o set) more y.0 k.1 n y.2 (subst HasReference (sym y.1.5) kept)
  reference_kept f set (nested o body more) s k n y h = opens_none bits g count c o y.1 k.0 y.3.1
  reference_kept f set (turn o more) s k n y h = n (reference_stays s _ y.2 h)

  -- ---- which functions are named

  -- what closes a frame names none
  unless_stays : (k : FrameKind) (o : Op) (e : Effect) → effect (role_of o) k ≡ Some e → (effects.Stays ≡ e → ⊥) → referred_by o ≡ []
  unless_stays k (op.Bulk o) e h n = absurd (n (same_some _ e h))
  unless_stays k o e h n = refl

  closes_stays : effects.Stays ≡ effects.Closes → ⊥
  closes_stays e = cc

  plain_names : (set : Initialised) (o : Op) (popped pushed rest : List Operand) → IsConstantOperator bits g count o → GroupRow c set o popped pushed
      → (HasReference (reverse pushed ++ rest) → ⊥) → referred_by o ≡ []
  plain_names set (op.Bulk (bulk.RefFunc x)) popped pushed rest k r n =
      absurd (n (subst (λ (us : List Operand). HasReference (reverse us ++ rest)) (sym r.6.1) (inl tt)))
  plain_names set o popped pushed rest k r n = refl

  names_none : (k : FrameKind) (f : Frame) (set : Initialised) (x : Code) (s : List Operand) → IsIn k x → AreConstantOperators bits g count (walk x)
      → (HasReference (stack f.block.results) → ⊥) → Typed c f set x s → referred_in x ≡ []
  names_none j f set (close o) s i k n y = ap (λ (xs : List ℕ). xs ++ []) (unless_stays j o effects.Closes i closes_stays)
  names_none j f set (plain o more) s i k n y =
      let here = plain_names set o y.1.0 y.1.1 y.1.2 k.0 y.1.3.1 (λ h. reference_kept f (after o set) more y.0 k.1 n y.2 (subst HasReference (sym y.1.5) h)) in
      ap (λ (xs : List ℕ). xs ++ referred_in more) here ∙ names_none j f (after o set) more y.0 i.1 k.1 n y.2
  names_none j f set (nested o body more) s i k n y = absurd (opens_none bits g count c o y.1 k.0 y.3.1)
  names_none j f set (turn (op.Control control.Else) more) s i k n y = absurd k.0
  names_none j f set (turn (op.Exception o) more) s i k n y = absurd k.0
  names_none j f set (turn o more) s i k n y = absurd y.1

one_number : (n : Number) → HasReference (stack (number n ∷ [])) → ⊥
one_number n (inl h) = h
one_number n (inr h) = h

pub number_names_none : (bits : ℕ) (g : Module) (count : ℕ) (n : Number) (c : Code) → IsConstant bits g count (number n) c → referred_in c ≡ []
number_names_none bits g count n c k = names_none bits g count _ Block _ _ c [] k.typed.expression k.operators (one_number n) k.typed.typed
