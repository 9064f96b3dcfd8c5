-- The laws of the features, as `specs/Laws.antt` states them.
use Rattle.std.proofs.Common.{◌≡◌, ℕ, ◌<◌, true, false, ◌&&◌, nat_eq, List, [], ◌∷◌, get_or, refl, sym, subst, ◌∙◌, ap, arith}
use Rattle.std.specs.Int.{bit_at}
use Rattle.std.specs.Int.RustNames.{bit_and}
use Rattle.std.proofs.lemmas.Bool.{agree_below_at, eq-eqb, eqb-true, ne_eqb}
use Rattle.std.proofs.lemmas.Nat.{and_assoc, and_le_l, and_le_r}
use Rattle.std.proofs.lemmas.Nat.Bits.{bit_at-lt, same_from_bits_below}
use Rattle.wasm_types_settings.specs.declared.inflated.WasmFeaturesInflated.{WasmFeaturesInflated}
use Rattle.wasm_types_settings.specs.Features.{Feature, mask, place, has, has_bit, has_each, MutableGlobal, SaturatingFloatToInt, SignExtension}
use Rattle.wasm_types_settings.specs.Features.{ReferenceTypes, MultiValue, BulkMemory, Simd, RelaxedSimd, Threads, SharedEverythingThreads, TailCall}
use Rattle.wasm_types_settings.specs.Features.{Floats, MultiMemory, Exceptions, Memory64, ExtendedConst, ComponentModel, FunctionReferences}
use Rattle.wasm_types_settings.specs.Features.{MemoryControl, Gc, CustomPageSizes, LegacyExceptions, GcTypes, StackSwitching, WideArithmetic}
use Rattle.wasm_types_settings.specs.Features.{CallIndirectOverlong, BulkMemoryOpt, CustomDescriptors, judges_vectors, vectors_bit}
use Rattle.wasm_types_settings.specs.Inflated.{field, Packs, settled}
use Rattle.wasm_types_settings.specs.Laws.{AllowedByBits, LargerAllowsMore, OwnInUnion, OwnInIntersection, OwnInDifference, AskedApart, PackedOnce, InflatedAgain}
use Rattle.wasm_types_settings.proofs.Bits.{or_bit, and_bit, without_bit, one_bit, two_bits}
use Rattle.wasm_types_settings.proofs.Packing.{place_inside}

pub allowed_by_bits : AllowedByBits
unfolding has
allowed_by_bits ReferenceTypes bits = two_bits 3 25 bits refl
allowed_by_bits BulkMemory bits = two_bits 5 26 bits refl
allowed_by_bits f bits = one_bit (place f) bits

pub own_in_union : OwnInUnion
own_in_union f a b = or_bit (place f) a b

pub own_in_intersection : OwnInIntersection
own_in_intersection f a b = and_bit (place f) a b

pub own_in_difference : OwnInDifference
own_in_difference f a b fits = without_bit (place f) a b (place_inside f) fits

pub larger_allows_more : LargerAllowsMore
unfolding has
larger_allows_more f a b within allowed =
    let m : ℕ = mask f in
    let whole : bit_and a m ≡ m = eqb-true _ _ allowed in
    let moved : bit_and a (bit_and b m) ≡ m = sym (and_assoc m a b) ∙ ap (λ x. bit_and x m) within ∙ whole in
    eq-eqb _ _ (omega (arith, moved, and_le_r a (bit_and b m), and_le_r b m))

pub asked_apart : AskedApart
unfolding judges_vectors
asked_apart bits below = ne_eqb _ _ (λ e. absurd (omega (arith, e, below, and_le_l bits vectors_bit)))

-- ---- the inflated form

same_digit : (x y : ℕ) → x < 2 → y < 2 → nat_eq x 1 ≡ nat_eq y 1 → x ≡ y
same_digit x y p q e = grind arith

-- every feature, in the order of their places
every : List Feature
every = MutableGlobal ∷ SaturatingFloatToInt ∷ SignExtension ∷ ReferenceTypes ∷ MultiValue ∷ BulkMemory ∷ Simd ∷ RelaxedSimd ∷ Threads
    ∷ SharedEverythingThreads ∷ TailCall ∷ Floats ∷ MultiMemory ∷ Exceptions ∷ Memory64 ∷ ExtendedConst ∷ ComponentModel ∷ FunctionReferences
    ∷ MemoryControl ∷ Gc ∷ CustomPageSizes ∷ LegacyExceptions ∷ GcTypes ∷ StackSwitching ∷ WideArithmetic ∷ CallIndirectOverlong ∷ BulkMemoryOpt ∷ CustomDescriptors ∷ []

at_place : ℕ → Feature
at_place k = get_or every k MutableGlobal

at_place-place : (k : ℕ) → k < 28 → place (at_place k) ≡ k
unfolding every at_place
at_place-place k below = eqb-true _ _ (agree_below_at (λ x. nat_eq (place (at_place x)) x) (λ _. true) 28 k refl below)

pub packed_once : PackedOnce
packed_once i a b p q = same_from_bits_below 28 a b p.1 q.1 (λ k below.
    let f : Feature = at_place k in
    let P : ℕ → Type 0 = λ n. has_bit n a ≡ has_bit n b in
    same_digit (bit_at a k) (bit_at b k) (bit_at-lt a k) (bit_at-lt b k)
    (subst P (at_place-place k below) (p.0 f ∙ sym (q.0 f))))

same_fields : (i j : WasmFeaturesInflated) → ((f : Feature) → field f i ≡ field f j) → i ≡ j
same_fields i j e = λ x. record {
  mutable_global = e MutableGlobal x;
  saturating_float_to_int = e SaturatingFloatToInt x;
  sign_extension = e SignExtension x;
  reference_types = e ReferenceTypes x;
  multi_value = e MultiValue x;
  bulk_memory = e BulkMemory x;
  simd = e Simd x;
  relaxed_simd = e RelaxedSimd x;
  threads = e Threads x;
  shared_everything_threads = e SharedEverythingThreads x;
  tail_call = e TailCall x;
  floats = e Floats x;
  multi_memory = e MultiMemory x;
  exceptions = e Exceptions x;
  memory64 = e Memory64 x;
  extended_const = e ExtendedConst x;
  component_model = e ComponentModel x;
  function_references = e FunctionReferences x;
  memory_control = e MemoryControl x;
  gc = e Gc x;
  custom_page_sizes = e CustomPageSizes x;
  legacy_exceptions = e LegacyExceptions x;
  gc_types = e GcTypes x;
  stack_switching = e StackSwitching x;
  wide_arithmetic = e WideArithmetic x;
  call_indirect_overlong = e CallIndirectOverlong x;
  bulk_memory_opt = e BulkMemoryOpt x;
  custom_descriptors = e CustomDescriptors x;
}

settled_field : (i : WasmFeaturesInflated) (bits : ℕ) → Packs i bits → (f : Feature) → has_each f bits ≡ field f (settled i)
settled_field i bits p ReferenceTypes = (λ x. p.0 ReferenceTypes x && p.0 CallIndirectOverlong x)
settled_field i bits p BulkMemory = (λ x. p.0 BulkMemory x && p.0 BulkMemoryOpt x)
settled_field i bits p f = p.0 f

pub inflated_again : InflatedAgain
inflated_again i j bits p e = same_fields j (settled i) (λ f. e f ∙ allowed_by_bits f bits ∙ settled_field i bits p f)
