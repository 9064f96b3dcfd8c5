-- Value types that are allowed by the features that they need alone, and refused without one of them: for each clause of the
-- gates.
use Rattle.std.specs.Prelude.{ℕ, ◌-◌, true, false, List, [], ◌∷◌}
use Rattle.wasm_types_settings.specs.Features.{Feature, ReferenceTypes, Simd, SharedEverythingThreads, Floats, Exceptions, FunctionReferences, Gc}
use Rattle.wasm_types_settings.specs.Features.{GcTypes, StackSwitching, CustomDescriptors, mask}
use Rattle.wasm_types_settings.specs.Sets.{bits_of}
use Rattle.wasm_types_trees.specs.Types.{i32, i64, f32, f64, v128, Abstract, func, extern, any, none, noextern, nofunc, eq, struct, array, i31, exn}
use Rattle.wasm_types_trees.specs.Types.{noexn, cont, nocont, abstract, concrete, exact, ValueOf, number, ref}
use Rattle.wasm_types_trees.specs.Gates.{ValueIsAllowed}

-- every feature but one
abbrev pub all_but : Feature → ℕ
all_but f = 0xfff_ffff - mask f

-- with these features alone each of the value types is allowed
abbrev pub AreAllowed : List Feature → List (ValueOf ℕ) → Type 0
AreAllowed fs [] = Unit {0}
AreAllowed fs (v ∷ vs) = ValueIsAllowed (bits_of fs) v × AreAllowed fs vs

-- with every feature but this one none of the value types is allowed
abbrev pub AllNeed : Feature → List (ValueOf ℕ) → Type 0
AllNeed f [] = Unit {0}
AllNeed f (v ∷ vs) = (ValueIsAllowed (all_but f) v → ⊥) × AllNeed f vs

-- a nullable reference, a non-null one, and the two to an abstract type that is not shared
abbrev pub nullable : Abstract → ValueOf ℕ
nullable a = ref true (abstract false a)

abbrev pub non_null : Abstract → ValueOf ℕ
non_null a = ref false (abstract false a)

abbrev pub both : Abstract → List (ValueOf ℕ) → List (ValueOf ℕ)
both a vs = nullable a ∷ non_null a ∷ vs

-- the abstract types of garbage collection
abbrev pub collected : List (ValueOf ℕ)
collected = both any (both none (both noextern (both nofunc (both eq (both struct (both array (both i31 [])))))))

abbrev pub continuations : List (ValueOf ℕ)
continuations = both cont (both nocont [])

pub record Gated : Type 0 where
  pub integers : AreAllowed [] (number i32 ∷ number i64 ∷ [])
  pub floats : AreAllowed (Floats ∷ []) (number f32 ∷ number f64 ∷ [])
  pub floats_need : AllNeed Floats (number f32 ∷ number f64 ∷ [])
  pub vectors : AreAllowed (Simd ∷ []) (number v128 ∷ [])
  pub vectors_need : AllNeed Simd (number v128 ∷ [])
  pub functions : AreAllowed (ReferenceTypes ∷ []) (nullable func ∷ [])
  pub references_need : AllNeed ReferenceTypes (nullable func ∷ non_null func ∷ nullable exn ∷ ref true (concrete 0) ∷ ref true (exact 0) ∷ [])
  pub non_null_functions : AreAllowed (ReferenceTypes ∷ FunctionReferences ∷ []) (non_null func ∷ [])
  pub externs : AreAllowed (ReferenceTypes ∷ GcTypes ∷ []) (nullable extern ∷ [])
  pub non_null_externs : AreAllowed (ReferenceTypes ∷ GcTypes ∷ FunctionReferences ∷ []) (non_null extern ∷ [])
  pub non_null_need : AllNeed FunctionReferences (non_null func ∷ non_null extern ∷ [])
  pub collected_types : AreAllowed (ReferenceTypes ∷ GcTypes ∷ Gc ∷ []) collected
  pub collected_need : AllNeed Gc collected
  pub exceptions : AreAllowed (ReferenceTypes ∷ Exceptions ∷ []) (both exn [])
  pub no_exceptions : AreAllowed (ReferenceTypes ∷ Exceptions ∷ GcTypes ∷ []) (both noexn [])
  pub exceptions_need : AllNeed Exceptions (both exn (both noexn []))
  pub continuation_types : AreAllowed (ReferenceTypes ∷ StackSwitching ∷ GcTypes ∷ []) continuations
  pub continuations_need : AllNeed StackSwitching continuations
  -- all but func and exn need a collector
  pub collector_needed : AllNeed GcTypes collected
  pub collector_needed_too : AllNeed GcTypes (both extern (both noexn continuations))
  -- a type by its index goes with either feature
  pub indices : AreAllowed (ReferenceTypes ∷ FunctionReferences ∷ []) (ref true (concrete 0) ∷ ref false (concrete 0) ∷ [])
  pub indices_too : AreAllowed (ReferenceTypes ∷ Gc ∷ []) (ref true (concrete 0) ∷ ref false (concrete 0) ∷ [])
  pub indices_need : ValueIsAllowed {R = ℕ} (all_but Gc - mask FunctionReferences) (ref true (concrete 0)) → ⊥
  pub exact_types : AreAllowed (ReferenceTypes ∷ CustomDescriptors ∷ []) (ref true (exact 0) ∷ ref false (exact 0) ∷ [])
  pub exact_need : AllNeed CustomDescriptors (ref true (exact 0) ∷ ref false (exact 0) ∷ [])
  pub shared_types : AreAllowed (ReferenceTypes ∷ SharedEverythingThreads ∷ []) (ref true (abstract true func) ∷ [])
  pub shared_need : AllNeed SharedEverythingThreads (ref true (abstract true func) ∷ ref true (abstract true any) ∷ [])
