-- Which operators are constant, by the parts that the code asks for.
use Rattle.std.proofs.Common.{◌≡◌, ◌↔◌, ◌≤◌, ℕ, Bool, true, false, Option, Some, None, slice_get, refl, sym, ◌∙◌, subst}
use Rattle.std.specs.Prelude.{IsTrue}
use Rattle.wasm_types.specs.decoding.declared.error.ErrorKind.{ErrorKind}
use Rattle.wasm_types.specs.decoding.declared.error.ErrorKind.TheVariants as kinds
use Rattle.wasm_types.specs.settings.Features.{ExtendedConst, Gc, SharedEverythingThreads, has}
use Rattle.wasm_types.specs.reader.Reading.{IsNotMemory}
use Rattle.wasm_operators_enums.specs.declared.control.ControlOperator.{ControlOperator}
use Rattle.wasm_operators_enums.specs.declared.control.ControlOperator.TheVariants as control
use Rattle.wasm_operators_enums.specs.declared.memory.MemoryOperator.{MemoryOperator}
use Rattle.wasm_operators_enums.specs.declared.memory.MemoryOperator.TheVariants as memory
use Rattle.wasm_operators_enums.specs.declared.bulk.BulkOperator.{BulkOperator}
use Rattle.wasm_operators_enums.specs.declared.bulk.BulkOperator.TheVariants as bulk
use Rattle.wasm_operators_enums.specs.declared.numeric.NumericOperator.{NumericOperator}
use Rattle.wasm_operators_enums.specs.declared.numeric.NumericOperator.TheVariants as numeric
use Rattle.wasm_operators_enums.specs.declared.atomic.SharedOperator.{SharedOperator}
use Rattle.wasm_operators_enums.specs.declared.atomic.SharedOperator.TheVariants as shared
use Rattle.wasm_operators_enums.specs.declared.gc.GcOperator.{GcOperator}
use Rattle.wasm_operators_enums.specs.declared.gc.GcOperator.TheVariants as gc
use Rattle.wasm_operators_enums.specs.declared.gc.DescriptorOperator.{DescriptorOperator}
use Rattle.wasm_operators_enums.specs.declared.gc.DescriptorOperator.TheVariants as descriptor
use Rattle.wasm_operators_enums.specs.declared.vector.SimdOperator.{SimdOperator}
use Rattle.wasm_operators_enums.specs.declared.vector.SimdOperator.TheVariants as simd
use Rattle.wasm_operators_enums.specs.Op as op
use Rattle.wasm_operators_enums.specs.Op.{Op}
use Rattle.wasm_operator_validator_rules.specs.Context.{Module, Global}
use Rattle.wasm_operator_validator_rules.specs.constants.Constants.{IsConstantOperator, IsConstantNumber, IsConstantObject, IsConstantDescribed, IsConstantReference}
use Rattle.wasm_operator_validator_rules.specs.constants.Constants.{IsConstantShared, IsConstantMemory, IsConstantGlobal, IsConstantVector, IsEnd}
use Rattle.wasm_operator_validator_constants.specs.declared.refusal.ConstantRefusal.{ConstantRefusal}
use Rattle.wasm_operator_validator_constants.specs.declared.refusal.ConstantRefusal.TheVariants as refusals
use Rattle.wasm_operator_validator_constants.specs.Refusals.{kind_of_constant}
use Rattle.wasm_operator_validator_constants.specs.Operators.{global_read, is_sum, is_object, is_described, is_reference, is_shared_number, is_vector, ends_frame, is_listed, is_allowed}
use Rattle.wasm_operator_validator_constants.specs.Operators.{RefusesGlobal, RefusesListed, RefusesBy, RefusesOperator}

-- listed by this test, and allowed by that
abbrev Both : Bool → Bool → Type 0
Both a b = IsTrue a × IsTrue b

numbers : (bits : ℕ) (o : NumericOperator) → IsConstantNumber bits o ↔ Both (is_sum o) (has ExtendedConst bits)
numbers bits numeric.I32Add = (λ h. (refl, h), λ h. h.1)
numbers bits numeric.I32Sub = (λ h. (refl, h), λ h. h.1)
numbers bits numeric.I32Mul = (λ h. (refl, h), λ h. h.1)
numbers bits numeric.I64Add = (λ h. (refl, h), λ h. h.1)
numbers bits numeric.I64Sub = (λ h. (refl, h), λ h. h.1)
numbers bits numeric.I64Mul = (λ h. (refl, h), λ h. h.1)
numbers bits o = (λ h. absurd h, λ (h : Both false (has ExtendedConst bits)). let e : false ≡ true = h.0 in cc)

objects : (bits : ℕ) (o : GcOperator) → IsConstantObject bits o ↔ Both (is_object o) (has Gc bits)
objects bits (gc.StructNew x) = (λ h. (refl, h), λ h. h.1)
objects bits (gc.StructNewDefault x) = (λ h. (refl, h), λ h. h.1)
objects bits (gc.ArrayNew x) = (λ h. (refl, h), λ h. h.1)
objects bits (gc.ArrayNewDefault x) = (λ h. (refl, h), λ h. h.1)
objects bits (gc.ArrayNewFixed x n) = (λ h. (refl, h), λ h. h.1)
objects bits gc.RefI31 = (λ h. (refl, h), λ h. h.1)
objects bits gc.AnyConvertExtern = (λ h. (refl, h), λ h. h.1)
objects bits gc.ExternConvertAny = (λ h. (refl, h), λ h. h.1)
objects bits o = (λ h. absurd h, λ (h : Both false (has Gc bits)). let e : false ≡ true = h.0 in cc)

described : (bits : ℕ) (o : DescriptorOperator) → IsConstantDescribed bits o ↔ Both (is_described o) (has Gc bits)
described bits (descriptor.StructNewDesc x) = (λ h. (refl, h), λ h. h.1)
described bits (descriptor.StructNewDefaultDesc x) = (λ h. (refl, h), λ h. h.1)
described bits o = (λ h. absurd h, λ (h : Both false (has Gc bits)). let e : false ≡ true = h.0 in cc)

shared_numbers : (bits : ℕ) (o : SharedOperator) → IsConstantShared bits o ↔ Both (is_shared_number o) (has SharedEverythingThreads bits)
shared_numbers bits shared.RefI31Shared = (λ h. (refl, h), λ h. h.1)
shared_numbers bits o = (λ h. absurd h, λ (h : Both false (has SharedEverythingThreads bits)). let e : false ≡ true = h.0 in cc)

references : (o : BulkOperator) → IsConstantReference o ↔ Both (is_reference o) true
references (bulk.RefNull h) = (λ u. (refl, refl), λ u. tt)
references (bulk.RefFunc x) = (λ u. (refl, refl), λ u. tt)
references o = (λ h. absurd h, λ (h : Both false true). let e : false ≡ true = h.0 in cc)

ends : (o : ControlOperator) → IsEnd o ↔ Both (ends_frame o) true
ends control.End = (λ u. (refl, refl), λ u. tt)
ends o = (λ h. absurd h, λ (h : Both false true). let e : false ≡ true = h.0 in cc)

vectors : (o : SimdOperator) → IsConstantVector o ↔ Both (is_vector o) true
vectors (simd.V128Const v) = (λ u. (refl, refl), λ u. tt)
vectors o = (λ h. absurd h, λ (h : Both false true). let e : false ≡ true = h.0 in cc)

-- no variable but a global is read, and no memory
no_variable : (bits : ℕ) (g : Module) (count : ℕ) (o : MemoryOperator) → global_read (op.Memory o) ≡ None → IsConstantMemory bits g count o → ⊥
no_variable bits g count (memory.GlobalGet x) e h = let f : Some x ≡ None = e in cc
no_variable bits g count o e h = h

-- no operator of the other groups is constant
never : (a b : Bool) → a ≡ false → Both a b → ⊥
never a b e h = let f : a ≡ true = h.0 in let x : false ≡ true = sym e ∙ f in cc

-- an operator that reads no global is constant exactly where it is listed, and allowed
pub constant_listed : (bits : ℕ) (g : Module) (count : ℕ) (o : Op) → global_read o ≡ None → IsConstantOperator bits g count o ↔ Both (is_listed o) (is_allowed bits o)
constant_listed bits g count (op.Const o) e = (λ u. (refl, refl), λ u. tt)
constant_listed bits g count (op.Numeric o) e = numbers bits o
constant_listed bits g count (op.Memory o) e = (λ h. absurd (no_variable bits g count o e h), λ h. absurd (never false true refl h))
constant_listed bits g count (op.Bulk o) e = references o
constant_listed bits g count (op.Gc o) e = objects bits o
constant_listed bits g count (op.Descriptor o) e = described bits o
constant_listed bits g count (op.Shared o) e = shared_numbers bits o
constant_listed bits g count (op.Control o) e = ends o
constant_listed bits g count (op.Simd o) e = vectors o
constant_listed bits g count o e = (λ h. absurd h, λ h. absurd (never false true refl h))

-- an operator that reads a global is constant exactly where the global may be read
read_of : (o : MemoryOperator) (x : ℕ) → global_read (op.Memory o) ≡ Some x → o ≡ memory.GlobalGet x
read_of (memory.GlobalGet y) x e = let f : ◌≡◌ {A = Option ℕ} (Some y) (Some x) = e in cc
read_of o x e = let f : ◌≡◌ {A = Option ℕ} None (Some x) = e in absurd cc

pub constant_global : (bits : ℕ) (g : Module) (count : ℕ) (o : Op) (x : ℕ) → global_read o ≡ Some x → IsConstantOperator bits g count o ↔ IsConstantGlobal bits g count x
constant_global bits g count (op.Memory o) x e =
    subst (λ (p : MemoryOperator). IsConstantMemory bits g count p ↔ IsConstantGlobal bits g count x) (sym (read_of o x e)) (λ h. h, λ h. h)
constant_global bits g count o x e = let f : ◌≡◌ {A = Option ℕ} None (Some x) = e in absurd cc

-- ---- refusals

-- why a global may not be read denies that it may
pub global_denied : (bits : ℕ) (g : Module) (count x : ℕ) (r : ConstantRefusal) → RefusesGlobal bits g count x r → IsConstantGlobal bits g count x → ⊥
global_denied bits g count x (refusals.Invalid r) (k, none) (v, some, fixed, needs) = let e : ◌≡◌ {A = Option Global} None (Some v) = sym none ∙ some in cc
global_denied bits g count x (refusals.LocalGlobal f) (u, found, own, off, missing) (v, some, fixed, needs) = let e : has Gc bits ≡ true = needs own in let z : false ≡ true = sym off ∙ e in cc
global_denied bits g count x refusals.MutableGlobal (u, found, mutable, own) (v, some, fixed, needs) =
    let e : ◌≡◌ {A = Option Global} (Some u) (Some v) = sym found ∙ some in
    let f : u ≡ v = cc in
    let z : true ≡ false = sym (subst (λ (w : Global). w.mutable ≡ true) f mutable) ∙ fixed in
    cc
global_denied bits g count x r h c = absurd h

-- what is not listed is constant by no features
pub not_listed : (o : Op) → global_read o ≡ None → is_listed o ≡ false → (b : ℕ) (g : Module) (count : ℕ) → IsConstantOperator b g count o → ⊥
not_listed o e f b g count h = never (is_listed o) (is_allowed b o) f ((constant_listed b g count o e).0 h)

pub listed_denied : (bits : ℕ) (g : Module) (count : ℕ) (o : Op) → global_read o ≡ None → (r : ConstantRefusal) → RefusesListed bits o r → IsConstantOperator bits g count o → ⊥
listed_denied bits g count o e (refusals.NonConstant name) h c = h bits g count c
listed_denied bits g count o e (refusals.NotEnabled f name) (listed, off, missing) c =
    let on : is_allowed bits o ≡ true = ((constant_listed bits g count o e).0 c).1 in
    let z : false ≡ true = sym off ∙ on in
    cc
listed_denied bits g count o e r h c = absurd h

refused_by : (bits : ℕ) (g : Module) (count : ℕ) (o : Op) (at : Option ℕ) → global_read o ≡ at → (r : ConstantRefusal) → RefusesBy bits g count o at r → IsConstantOperator bits g count o → ⊥
refused_by bits g count o (Some x) e r h c = global_denied bits g count x r h ((constant_global bits g count o x e).0 c)
refused_by bits g count o None e r h c = listed_denied bits g count o e r h c

-- why an operator is refused denies that it is constant
pub refusal_denies : (bits : ℕ) (g : Module) (count : ℕ) (o : Op) (r : ConstantRefusal) → RefusesOperator bits g count o r → IsConstantOperator bits g count o → ⊥
refusal_denies bits g count o r h = refused_by bits g count o (global_read o) refl r h

-- and it is not for memory
of_content : (k : ErrorKind) → k ≡ kinds.Other → IsNotMemory k
of_content k e = subst IsNotMemory (sym e) tt

not_memory_by : (bits : ℕ) (g : Module) (count : ℕ) (o : Op) (at : Option ℕ) (r : ConstantRefusal) → RefusesBy bits g count o at r → IsNotMemory (kind_of_constant r)
not_memory_by bits g count o (Some x) (refusals.Invalid r) h = of_content (kind_of_constant (refusals.Invalid r)) h.0
not_memory_by bits g count o (Some x) (refusals.LocalGlobal f) h = tt
not_memory_by bits g count o (Some x) refusals.MutableGlobal h = tt
not_memory_by bits g count o None (refusals.NonConstant name) h = tt
not_memory_by bits g count o None (refusals.NotEnabled f name) h = tt
not_memory_by bits g count o at r h = absurd h

pub refusal_not_memory : (bits : ℕ) (g : Module) (count : ℕ) (o : Op) (r : ConstantRefusal) → RefusesOperator bits g count o r → IsNotMemory (kind_of_constant r)
refusal_not_memory bits g count o r h = not_memory_by bits g count o (global_read o) r h
