-- Setting the bits of one feature after another.
use Rattle.std.proofs.Common.{◌≡◌, ℕ, ◌-◌, ◌^◌, ◌<◌, Bool, true, false, cond, ◌&&◌, nat_lt, List, [], ◌∷◌, refl, sym, subst, ◌∙◌, ap, arith, nat_eq}
use Rattle.std.proofs.lemmas.Nat.Bits.{bit_at-zero}
use Rattle.std.proofs.lemmas.Bool.{and_parts, ltb-true}
use Rattle.std.proofs.lemmas.Nat.{or_lt, and_le_l}
use Rattle.wasm_types_settings.specs.declared.inflated.WasmFeaturesInflated.{WasmFeaturesInflated}
use Rattle.wasm_types_settings.specs.Features.{Feature, mask, place, has_bit, has_own, MutableGlobal, SaturatingFloatToInt, SignExtension}
use Rattle.wasm_types_settings.specs.Features.{ReferenceTypes, MultiValue, BulkMemory, Simd, RelaxedSimd, Threads, SharedEverythingThreads, TailCall}
use Rattle.wasm_types_settings.specs.Features.{Floats, MultiMemory, Exceptions, Memory64, ExtendedConst, ComponentModel, FunctionReferences}
use Rattle.wasm_types_settings.specs.Features.{MemoryControl, Gc, CustomPageSizes, LegacyExceptions, GcTypes, StackSwitching, WideArithmetic}
use Rattle.wasm_types_settings.specs.Features.{CallIndirectOverlong, BulkMemoryOpt, CustomDescriptors}
use Rattle.wasm_types_settings.specs.Inflated.{field, setting, Packs}
use Rattle.wasm_types_settings.proofs.Bits.{setting_bit}

-- each feature's bits and its field, in order
abbrev pub entries : WasmFeaturesInflated → List (ℕ × Bool)
entries i =
    (mask MutableGlobal, i.mutable_global)
    ∷ (mask SaturatingFloatToInt, i.saturating_float_to_int)
    ∷ (mask SignExtension, i.sign_extension)
    ∷ (mask ReferenceTypes, i.reference_types)
    ∷ (mask MultiValue, i.multi_value)
    ∷ (mask BulkMemory, i.bulk_memory)
    ∷ (mask Simd, i.simd)
    ∷ (mask RelaxedSimd, i.relaxed_simd)
    ∷ (mask Threads, i.threads)
    ∷ (mask SharedEverythingThreads, i.shared_everything_threads)
    ∷ (mask TailCall, i.tail_call)
    ∷ (mask Floats, i.floats)
    ∷ (mask MultiMemory, i.multi_memory)
    ∷ (mask Exceptions, i.exceptions)
    ∷ (mask Memory64, i.memory64)
    ∷ (mask ExtendedConst, i.extended_const)
    ∷ (mask ComponentModel, i.component_model)
    ∷ (mask FunctionReferences, i.function_references)
    ∷ (mask MemoryControl, i.memory_control)
    ∷ (mask Gc, i.gc)
    ∷ (mask CustomPageSizes, i.custom_page_sizes)
    ∷ (mask LegacyExceptions, i.legacy_exceptions)
    ∷ (mask GcTypes, i.gc_types)
    ∷ (mask StackSwitching, i.stack_switching)
    ∷ (mask WideArithmetic, i.wide_arithmetic)
    ∷ (mask CallIndirectOverlong, i.call_indirect_overlong)
    ∷ (mask BulkMemoryOpt, i.bulk_memory_opt)
    ∷ (mask CustomDescriptors, i.custom_descriptors)
    ∷ []

-- the bits after each of these was set or cleared
abbrev pub applied : List (ℕ × Bool) → ℕ → ℕ
applied [] bits = bits
applied (e ∷ rest) bits = applied rest (setting e.1 e.0 bits)

-- what decides the bit at k: the last of these that has it
abbrev pub decided : ℕ → List (ℕ × Bool) → Bool → Bool
decided k [] v = v
decided k (e ∷ rest) v = decided k rest (cond (has_bit k e.0) e.1 v)

abbrev pub fits : List (ℕ × Bool) → Bool
fits [] = true
fits (e ∷ rest) = nat_lt e.0 (2 ^ 28) && fits rest

applied_bit : (k : ℕ) (es : List (ℕ × Bool)) (bits : ℕ) → k < 32 → fits es ≡ true → has_bit k (applied es bits) ≡ decided k es (has_bit k bits)
applied_bit k [] bits inside small = refl
applied_bit k (e ∷ rest) bits inside small =
    let parts = and_parts (nat_lt e.0 (2 ^ 28)) (fits rest) small in
    let below : e.0 < 2 ^ 28 = ltb-true _ _ parts.0 in
    applied_bit k rest (setting e.1 e.0 bits) inside parts.1
    ∙ ap (decided k rest) (setting_bit e.1 e.0 k bits (omega arith) inside)

setting_fits : (v : Bool) (m bits : ℕ) → m < 2 ^ 28 → bits < 2 ^ 28 → setting v m bits < 2 ^ 28
unfolding setting
setting_fits true m bits p q = or_lt 28 bits m q p
setting_fits false m bits p q = omega (arith, and_le_l bits (2 ^ 32 - 1 - m))

applied_fits : (es : List (ℕ × Bool)) (bits : ℕ) → bits < 2 ^ 28 → fits es ≡ true → applied es bits < 2 ^ 28
applied_fits [] bits below small = below
applied_fits (e ∷ rest) bits below small =
    let parts = and_parts (nat_lt e.0 (2 ^ 28)) (fits rest) small in
    applied_fits rest (setting e.1 e.0 bits) (setting_fits e.1 e.0 bits (ltb-true _ _ parts.0) below) parts.1

-- each feature's own bit is decided by its own field
decided_own : (f : Feature) (i : WasmFeaturesInflated) → decided (place f) (entries i) false ≡ field f i
decided_own MutableGlobal i = refl
decided_own SaturatingFloatToInt i = refl
decided_own SignExtension i = refl
decided_own ReferenceTypes i = refl
decided_own MultiValue i = refl
decided_own BulkMemory i = refl
decided_own Simd i = refl
decided_own RelaxedSimd i = refl
decided_own Threads i = refl
decided_own SharedEverythingThreads i = refl
decided_own TailCall i = refl
decided_own Floats i = refl
decided_own MultiMemory i = refl
decided_own Exceptions i = refl
decided_own Memory64 i = refl
decided_own ExtendedConst i = refl
decided_own ComponentModel i = refl
decided_own FunctionReferences i = refl
decided_own MemoryControl i = refl
decided_own Gc i = refl
decided_own CustomPageSizes i = refl
decided_own LegacyExceptions i = refl
decided_own GcTypes i = refl
decided_own StackSwitching i = refl
decided_own WideArithmetic i = refl
decided_own CallIndirectOverlong i = refl
decided_own BulkMemoryOpt i = refl
decided_own CustomDescriptors i = refl

no_bit : (k : ℕ) → has_bit k 0 ≡ false
no_bit k = ap (λ x. nat_eq x 1) (bit_at-zero k)

pub place_inside : (f : Feature) → place f < 32
place_inside MutableGlobal = omega arith
place_inside SaturatingFloatToInt = omega arith
place_inside SignExtension = omega arith
place_inside ReferenceTypes = omega arith
place_inside MultiValue = omega arith
place_inside BulkMemory = omega arith
place_inside Simd = omega arith
place_inside RelaxedSimd = omega arith
place_inside Threads = omega arith
place_inside SharedEverythingThreads = omega arith
place_inside TailCall = omega arith
place_inside Floats = omega arith
place_inside MultiMemory = omega arith
place_inside Exceptions = omega arith
place_inside Memory64 = omega arith
place_inside ExtendedConst = omega arith
place_inside ComponentModel = omega arith
place_inside FunctionReferences = omega arith
place_inside MemoryControl = omega arith
place_inside Gc = omega arith
place_inside CustomPageSizes = omega arith
place_inside LegacyExceptions = omega arith
place_inside GcTypes = omega arith
place_inside StackSwitching = omega arith
place_inside WideArithmetic = omega arith
place_inside CallIndirectOverlong = omega arith
place_inside BulkMemoryOpt = omega arith
place_inside CustomDescriptors = omega arith

-- what the features' fields leave, set one after another from no bit
pub packs_applied : (i : WasmFeaturesInflated) (bits : ℕ) → bits ≡ applied (entries i) 0 → Packs i bits
packs_applied i bits e =
    let own : (f : Feature) → has_own f bits ≡ field f i = λ f.
    ap (has_own f) e ∙ applied_bit (place f) (entries i) 0 (place_inside f) refl ∙ ap (decided (place f) (entries i)) (no_bit (place f)) ∙ decided_own f i in
    (own, subst (λ (n : ℕ). n < 2 ^ 28) (sym e) (applied_fits (entries i) 0 (omega arith) refl))
