-- Operators on vectors among the rows.
use Rattle.std.proofs.Common.{◌≡◌, ◌∙◌, List, [], ◌∷◌, Bool, true, false, Option, Some, None, refl, sym, ap, slice_get, if◌then◌else◌}
use Rattle.wasm_types.specs.trees.Types.{v128}
use Rattle.wasm_types.specs.decoding.declared.error.ErrorKind.TheVariants as kinds
use Rattle.wasm_types.specs.decoding.DenialLaws.{denies}
use Rattle.wasm_types.specs.values.declared.value.ValType.{ValType}
use Rattle.wasm_types.specs.values.declared.value.ValType.TheVariants as vals
use Rattle.wasm_operators_immediates.specs.declared.memory.MemArg.{MemArg}
use Rattle.wasm_operators_immediates.specs.declared.proposal.Proposal.{Proposal}
use Rattle.wasm_operators_immediates.specs.declared.proposal.Proposal.TheVariants.{Simd}
use Rattle.wasm_operators_enums.specs.declared.vector.SimdOperator.{SimdOperator}
use Rattle.wasm_operators_enums.specs.declared.vector.SimdOperator.TheVariants as simd
use Rattle.wasm_operators_enums.specs.declared.vector_numeric.SimdNumericOperator.{SimdNumericOperator}
use Rattle.wasm_operators_enums.specs.VectorsTable.{simd_info}
use Rattle.wasm_operators_enums.specs.Op as op
use Rattle.wasm_operators_enums.specs.Op.{Op}
use Rattle.wasm_operator_validator_rules.specs.Operands.{Operand}
use Rattle.wasm_operator_validator_rules.specs.Context.{Context}
use Rattle.wasm_operator_validator_rules.specs.Accesses.{Access, AccessOf, load, store, load_lane}
use Rattle.wasm_types.specs.settings.Features.{judges_vectors}
use Rattle.wasm_operator_validator_rules.specs.Vectors.{VectorWork, on_lanes, reaches, work_of, vector_class, vectors_taken, vectors_given, has_float_work}
use Rattle.wasm_operator_validator_rules.specs.InstructionTypes.{InstructionType, ◌⟶◌, instruction_type, where_vectors, work_type, lanes_type}
use Rattle.wasm_operator_validator_rules.specs.Row.{TableRow}
use Rattle.wasm_operator_validator_state.specs.resources.Meaning.{Meaning, type_in}
use Rattle.wasm_operator_validator_state.specs.State.{Open, State, initialised, context, types_in, Accepts, Checks}
use Rattle.wasm_operator_validator_state.specs.Steps.{IsOpen}
use Rattle.wasm_operator_validator_state.specs.laws.Accepting.{accepts_no_more, accepts_not_failed}
use Rattle.wasm_operator_validator_state.specs.laws.Rows.{by_no_row}
use Rattle.wasm_operator_validator_stacks.specs.determined.laws.Types.{number_in, numbers_in}
use Rattle.wasm_operator_validator_memory.specs.Reaching.{reached}
use Rattle.wasm_operator_validator_memory.specs.laws.Reaching.{accesses_at, accesses_nowhere}
use Rattle.wasm_operator_validator_vectors.specs.Vectors.{IsOnVectors, AreOf, IsNumeric, WorksOn, IsOnLanes, Reaches}

-- ---- the switch

unswitched : (g : Context) (t : Option InstructionType) → judges_vectors g.bits ≡ false → where_vectors g t ≡ None
unswitched g t e = ap (λ (b : Bool). if b then t else None) e

switched : (g : Context) (t : Option InstructionType) → judges_vectors g.bits ≡ true → where_vectors g t ≡ t
switched g t e = ap (λ (b : Bool). if b then t else None) e

no_type : (g : Context) (o : Op) (popped pushed : List Operand) → instruction_type g o ≡ None → TableRow g o popped pushed → ⊥
no_type g o popped pushed n (t, e, k) = let x : ◌≡◌ {A = Option InstructionType} None (Some t) = sym n ∙ e in cc

never : (m : Meaning) (σ : State) (o : Op) (p : Proposal) (f : Bool) → IsOnVectors o p f → judges_vectors σ.given.bits ≡ false → (os : List Op) → Accepts m σ (o ∷ os) → ⊥
never m σ o p f i n os x = by_cases σ.opens refl
  where
    by_cases : (opens : List Open) → σ.opens ≡ opens → ⊥
    by_cases [] e = accepts_no_more m σ o os e x
    by_cases (f ∷ outer) e =
        let framed : IsOpen σ.opens = rw e tt in
        by_no_row m σ o i.table.is.plain framed
        (λ popped pushed rest row d.
        no_type (context m σ.given σ.opens) o popped pushed (i.unswitched (context m σ.given σ.opens) n)
        ((i.table.row (context m σ.given σ.opens) (initialised m σ.given σ.inits) popped pushed).0 row.1)) (os, x)

not_both : (b : Bool) → b ≡ false → b ≡ true → ⊥
not_both b e f = let x : false ≡ true = sym e ∙ f in cc

-- while the switch is off no operator on vectors may come
pub checks_unswitched : (m : Meaning) (σ : State) (o : Op) (p : Proposal) (f : Bool) → IsOnVectors o p f → σ.failed ≡ false → judges_vectors σ.given.bits ≡ false
    → Checks m σ o (Some kinds.Other) σ
checks_unswitched m σ o p f i going n = record {
  decides = denies kinds.Other _ (λ (os, x). never m σ o p f i n os x);
  stopped = λ e. absurd (not_both σ.failed going e);
  given = refl;
  failed = refl;
  saved = refl;
}

-- behind a refusal
pub checks_failed : (m : Meaning) (σ : State) (o : Op) → σ.failed ≡ true → Checks m σ o (Some kinds.Failed) σ
checks_failed m σ o f = record {
  decides = λ (os, a). accepts_not_failed m σ (o ∷ os) f a;
  stopped = λ g. refl;
  given = refl;
  failed = refl;
  saved = refl;
}

-- ---- those that carry nothing

pub numeric_on : (o : SimdNumericOperator) (p : Proposal) (f : Bool) (ts us : List ValType) → IsNumeric o p f ts us → IsOnVectors (op.SimdNumeric o) p f
numeric_on o p f ts us i = record {
  table = record { is = record { of = i.of; named = i.named; plain = refl }; row = λ g set popped pushed. (λ r. r, λ r. r); keeps = λ set. refl };
  unswitched = λ g n. unswitched g _ n;
}

pub numeric_type : (m : Meaning) (σ : State) (o : SimdNumericOperator) (p : Proposal) (f : Bool) (ts us : List ValType) → IsNumeric o p f ts us → judges_vectors σ.given.bits ≡ true
    → instruction_type (context m σ.given σ.opens) (op.SimdNumeric o) ≡ Some (types_in m ts ⟶ types_in m us)
numeric_type m σ o p f ts us i on =
    rw (numbers_in m ts (vectors_taken (vector_class o)) i.types.taken, numbers_in m us (vectors_given (vector_class o)) i.types.given)
    (switched (context m σ.given σ.opens) (Some (lanes_type (vector_class o))) on)

-- ---- those that carry something

is_simd : (o : SimdOperator) → (simd_info o).proposal ≡ Simd
is_simd (simd.V128Load memarg) = refl
is_simd (simd.V128Load8x8S memarg) = refl
is_simd (simd.V128Load8x8U memarg) = refl
is_simd (simd.V128Load16x4S memarg) = refl
is_simd (simd.V128Load16x4U memarg) = refl
is_simd (simd.V128Load32x2S memarg) = refl
is_simd (simd.V128Load32x2U memarg) = refl
is_simd (simd.V128Load8Splat memarg) = refl
is_simd (simd.V128Load16Splat memarg) = refl
is_simd (simd.V128Load32Splat memarg) = refl
is_simd (simd.V128Load64Splat memarg) = refl
is_simd (simd.V128Store memarg) = refl
is_simd (simd.V128Const value) = refl
is_simd (simd.I8x16Shuffle lanes) = refl
is_simd (simd.I8x16ExtractLaneS lane) = refl
is_simd (simd.I8x16ExtractLaneU lane) = refl
is_simd (simd.I8x16ReplaceLane lane) = refl
is_simd (simd.I16x8ExtractLaneS lane) = refl
is_simd (simd.I16x8ExtractLaneU lane) = refl
is_simd (simd.I16x8ReplaceLane lane) = refl
is_simd (simd.I32x4ExtractLane lane) = refl
is_simd (simd.I32x4ReplaceLane lane) = refl
is_simd (simd.I64x2ExtractLane lane) = refl
is_simd (simd.I64x2ReplaceLane lane) = refl
is_simd (simd.F32x4ExtractLane lane) = refl
is_simd (simd.F32x4ReplaceLane lane) = refl
is_simd (simd.F64x2ExtractLane lane) = refl
is_simd (simd.F64x2ReplaceLane lane) = refl
is_simd (simd.V128Load8Lane memarg lane) = refl
is_simd (simd.V128Load16Lane memarg lane) = refl
is_simd (simd.V128Load32Lane memarg lane) = refl
is_simd (simd.V128Load64Lane memarg lane) = refl
is_simd (simd.V128Store8Lane memarg lane) = refl
is_simd (simd.V128Store16Lane memarg lane) = refl
is_simd (simd.V128Store32Lane memarg lane) = refl
is_simd (simd.V128Store64Lane memarg lane) = refl
is_simd (simd.V128Load32Zero memarg) = refl
is_simd (simd.V128Load64Zero memarg) = refl

module _ (o : SimdOperator) (f : Bool) (named : has_float_work (work_of o) ≡ f) where
  on_vectors : IsOnVectors (op.Simd o) Simd f
  on_vectors = record {
    table = record { is = record { of = is_simd o; named = named; plain = refl }; row = λ g set popped pushed. (λ r. r, λ r. r); keeps = λ set. refl };
    unswitched = λ g n. unswitched g _ n;
  }

float_of : (w : VectorWork) (f : Bool) (ts us : List ValType) → WorksOn w f ts us → has_float_work w ≡ f
float_of (on_lanes c) f ts us i = i.0
float_of (reaches a) f ts us i = absurd i

pub lanes_on : (o : SimdOperator) (f : Bool) (ts us : List ValType) → IsOnLanes o f ts us → IsOnVectors (op.Simd o) Simd f
lanes_on o f ts us i = on_vectors o f (float_of (work_of o) f ts us i)

work_is : (m : Meaning) (g : Context) (w : VectorWork) (f : Bool) (ts us : List ValType) → WorksOn w f ts us → work_type g w ≡ Some (types_in m ts ⟶ types_in m us)
work_is m g (on_lanes c) f ts us i = rw (numbers_in m ts (vectors_taken c) i.1.taken, numbers_in m us (vectors_given c) i.1.given) refl
work_is m g (reaches a) f ts us i = absurd i

pub lanes_are : (m : Meaning) (σ : State) (o : SimdOperator) (f : Bool) (ts us : List ValType) → IsOnLanes o f ts us → judges_vectors σ.given.bits ≡ true
    → instruction_type (context m σ.given σ.opens) (op.Simd o) ≡ Some (types_in m ts ⟶ types_in m us)
lanes_are m σ o f ts us i on =
    switched (context m σ.given σ.opens) (work_type (context m σ.given σ.opens) (work_of o)) on ∙ work_is m (context m σ.given σ.opens) (work_of o) f ts us i

-- ---- accesses

abbrev pub accessed : Access → MemArg → AccessOf
accessed k a = record { access = k; argument = a }

pub access_on : (o : SimdOperator) (k : Access) (a : MemArg) → Reaches o k a → IsOnVectors (op.Simd o) Simd false
access_on o k a e = on_vectors o false (ap has_float_work e)

abbrev pub HasType : Meaning → State → SimdOperator → List ValType → List ValType → Type 0
HasType m σ o ts us = instruction_type (context m σ.given σ.opens) (op.Simd o) ≡ Some (types_in m ts ⟶ types_in m us)

module _ (m : Meaning) (σ : State) (o : SimdOperator) (a : MemArg) (on : judges_vectors σ.given.bits ≡ true) where
  work_there : (k : Access) → Reaches o k a → instruction_type (context m σ.given σ.opens) (op.Simd o) ≡ work_type (context m σ.given σ.opens) (reaches (accessed k a))
  work_there k e = switched (context m σ.given σ.opens) (work_type (context m σ.given σ.opens) (work_of o)) on ∙ ap (work_type (context m σ.given σ.opens)) e

  pub no_access : (k : Access) → Reaches o k a → reached false a (slice_get m.«module».memories a.memory) ≡ None
      → instruction_type (context m σ.given σ.opens) (op.Simd o) ≡ None
  no_access k e n = work_there k e ∙ accesses_nowhere m σ false (accessed k a) n

  module _ (u : ValType) (r : reached false a (slice_get m.«module».memories a.memory) ≡ Some (type_in m u)) where
    pub load_type : Reaches o (load v128) a → HasType m σ o (u ∷ []) (vals.V128 ∷ [])
    load_type e = rw (number_in m vals.V128 v128 refl) (work_there (load v128) e ∙ accesses_at m σ false (accessed (load v128) a) (type_in m u) r)

    pub store_type : Reaches o (store v128) a → HasType m σ o (u ∷ vals.V128 ∷ []) []
    store_type e = rw (number_in m vals.V128 v128 refl) (work_there (store v128) e ∙ accesses_at m σ false (accessed (store v128) a) (type_in m u) r)

    pub load_lane_type : Reaches o load_lane a → HasType m σ o (u ∷ vals.V128 ∷ []) (vals.V128 ∷ [])
    load_lane_type e = rw (number_in m vals.V128 v128 refl) (work_there load_lane e ∙ accesses_at m σ false (accessed load_lane a) (type_in m u) r)
