-- What atomic accesses and the fence take and give.
use Rattle.std.proofs.Common.{◌≡◌, ◌∙◌, ℕ, List, [], ◌∷◌, ◌++◌, Some, None, true, false, refl, sym, ap, subst, get_or, reverse}
use Rattle.std.specs.Prelude.{◌%◌}
use Rattle.std.proofs.lemmas.Bool.{eq-eqb}
use Rattle.wasm_types.specs.decoding.Numbers.{GivesAt}
use Rattle.wasm_types.specs.settings.Features as feature
use Rattle.wasm_types.specs.settings.Settings.{Settings}
use Rattle.wasm_types.specs.trees.Gates.{Has}
use Rattle.wasm_types.specs.trees.Trees.{TypeTree}
use Rattle.wasm_operators_immediates.specs.declared.memory.MemArg.{MemArg}
use Rattle.wasm_operators_immediates.specs.declared.proposal.Proposal.TheVariants as proposals
use Rattle.wasm_operators_immediates.specs.Kinds as kind
use Rattle.wasm_operators_immediates.specs.Kinds.{AccessOrdering}
use Rattle.wasm_operators_immediates.specs.Immediates.{MemoryArgument, ZeroByte}
use Rattle.wasm_operators_enums.specs.declared.atomic.AtomicOperator.{AtomicOperator}
use Rattle.wasm_operators_enums.specs.declared.atomic.AtomicOperator.TheVariants as atomic
use Rattle.wasm_operators_enums.specs.Op as op
use Rattle.wasm_operators_enums.specs.Op.{Op}
use Rattle.wasm_operators_enums.specs.Table.{info_of}
use Rattle.wasm_operators_enums.specs.Immediates.{immediates_of}
use Rattle.wasm_operators_encoding.specs.immediates.Bytes.{index_or_zero, zero_byte}
use Rattle.wasm_operators_encoding.specs.immediates.Immediates.{immediate, of_zero}
use Rattle.wasm_operators_encoding.specs.immediates.MemoryArguments.{argument, memory_argument}
use Rattle.wasm_operators_frequent.specs.Short.{BeginsPrefixed}
use Rattle.wasm_operators_frequent.proofs.ShortReading.{gives_as, is_told_with, prefixed_of, prefixed_is}
use Rattle.wasm_operator_validator_rules.specs.Accesses.{operands_of, results_of}
use Rattle.wasm_operator_validator_rules.specs.Context.{Context, address_type}
use Rattle.wasm_operator_validator_rules.specs.InstructionTypes.{instruction_type, accesses}
use Rattle.wasm_operator_validator_rules.specs.Numbers.{numbers}
use Rattle.wasm_operator_validator_rules.specs.Operands.{ValueType, all_known}
use Rattle.wasm_operator_validator_fast_tables.specs.declared.tables.Open.{Open}
use Rattle.wasm_operator_validator_fast_tables.specs.declared.tables.Tables.{Tables}
use Rattle.wasm_operator_validator_fast_tables.specs.Stacks.{Values}
use Rattle.wasm_operator_validator_fast_tables.specs.Values.{number_of, types}
use Rattle.wasm_operator_validator_fast_tables.specs.Loop.{inside_all, Leads}
use Rattle.wasm_operator_validator_fast_steps.specs.Shapes.{IsArgumentAt}
use Rattle.wasm_operator_validator_fast_steps.proofs.Coded.{of_feature}
use Rattle.wasm_operator_validator_fast_steps.proofs.Rows.{addressed, accessed, may_reach, took}
use Rattle.wasm_operator_validator_fast_steps.proofs.Stepping.{stood}
use Rattle.wasm_operator_validator_fast_objects.specs.declared.atomics.AccessClass.{AccessClass}
use Rattle.wasm_operator_validator_fast_objects.specs.Atomics.{IsAtomicAt, Exchanges, access_of, taken_by, given_by}

-- ---- codes

pub coded_atomic : {natural : ℕ} {k : AccessClass} {ty code n : ℕ} (ordering : AccessOrdering) (o : MemArg → AtomicOperator) → code ≡ n
    → ((a : MemArg) → (info_of (op.Atomic (o a))).code ≡ n) → ((a : MemArg) → (info_of (op.Atomic (o a))).prefix ≡ Some 0xfe)
    → ((a : MemArg) → (info_of (op.Atomic (o a))).proposal ≡ proposals.Threads)
    → ((a : MemArg) → immediates_of (op.Atomic (o a)) ≡ MemoryArgument ordering natural a ∷ [])
    → ((a : MemArg) (g : Context) → instruction_type g (op.Atomic (o a)) ≡ accesses g true (Some (record { access = access_of k (number_of ty); argument = a })))
    → ((ids : List TypeTree) → types ids (taken_by k ty) ≡ numbers (operands_of (access_of k (number_of ty))))
    → ((ids : List TypeTree) → types ids (given_by k ty) ≡ numbers (results_of (access_of k (number_of ty)))) → IsAtomicAt code natural k ty
coded_atomic ordering o is there prefixed of carries table taken given = record {
  ordering = ordering;
  operator = o;
  code_is = λ a. there a ∙ sym is;
  prefix_is = prefixed;
  of = of;
  carries = carries;
  table = table;
  taken = taken;
  given = given;
}

-- ---- operands

-- what an access of a known class makes
pub exchanged : (k l : AccessClass) (ty address : ℕ) (v w : Values) (r u : List ℕ) → k ≡ l → v ≡ (reverse (address ∷ taken_by l ty) ++ r, u)
    → w ≡ (reverse (given_by l ty) ++ r, u) → Exchanges k ty address v w
exchanged k l ty address v w r u is taken put = subst (λ (x : AccessClass). Exchanges x ty address v w) (sym is) (r, u, taken, put)

-- ---- what is carried

argument_of : (settings : Settings) (text : List ℕ) (i e : ℕ) (ordering : AccessOrdering) (natural : ℕ) (m : MemArg)
    → GivesAt (memory_argument settings.features ordering natural) text i m e
    → GivesAt (immediate settings (kind.MemoryArgument ordering natural)) text i (MemoryArgument ordering natural m) e
unfolding immediate
argument_of settings text i e ordering natural m g = gives_as (memory_argument settings.features ordering natural) text i m (MemoryArgument ordering natural) e g

zero_of : (settings : Settings) (text : List ℕ) (i n e : ℕ) → GivesAt (index_or_zero false) text i n e → GivesAt (immediate settings kind.ZeroByte) text i ZeroByte e
unfolding immediate index_or_zero
zero_of settings text i n e g = gives_as zero_byte text i n of_zero e g

-- ---- the operators

module _ (t : Tables) (text : List ℕ) (i e : ℕ) (o : Open) (outer : List Open) (v w : Values) where
  abbrev Here : List TypeTree → Context → Context
  Here ids c = inside_all ids c t.known.flat.items (o ∷ outer)

  pub took_atomic : (code n natural address ty : ℕ) (k : AccessClass) → BeginsPrefixed text i 0xfe code n → Has t.features.0 feature.Threads → IsAtomicAt code natural k ty
      → get_or text n 0 % 16 ≡ natural → IsArgumentAt t text n natural address e → Exchanges k ty address v w → Leads text t i (o ∷ outer) v e (o ∷ outer) w
  took_atomic code n natural address ty k begins has is exact h (r, u, taken, put) =
      let x = argument (get_or text n 0 % 16) natural h.memory None h.offset in
      let p = op.Atomic (is.operator x) in
      let at = prefixed_of text i 0xfe code code n begins refl refl p (prefixed_is p 0xfe code (is.prefix_is x) (is.code_is x)) in
      took t text i e o outer v w p (address ∷ taken_by k ty) (given_by k ty) r u
      (stood t.features.0 text i e p
      (is_told_with t.features.0 text i n p at (λ (q : Op). q ≡ p) refl refl refl (MemoryArgument is.ordering natural x) e (is.carries x)
      (λ limits. argument_of _ text n e is.ordering natural x (h.read is.ordering))))
      refl (λ set full. full) taken put
      (λ ids z c fits set full.
      let (m, there, wide) = h.there ids c.«module» fits.knows in
      let may = may_reach true m x (eq-eqb (get_or text n 0 % 16) natural exact) h.reached refl in (
        of_feature c.bits p proposals.Threads feature.Threads fits.allows (is.of x) (rw fits.bits has) refl,
        (
          _,
          is.table x (Here ids c) ∙ accessed (Here ids c) true x m (access_of k (number_of ty)) there may,
          (
            ap (λ (y : ValueType). all_known (y ∷ types ids (taken_by k ty))) (addressed ids address m.memory64 wide)
                ∙ ap (λ (ys : List ValueType). all_known (address_type m.memory64 ∷ ys)) (is.taken ids),
            ap all_known (is.given ids),
          ),
        ),
      ))

  pub took_fence : (n x : ℕ) → BeginsPrefixed text i 0xfe 0x03 n → Has t.features.0 feature.Threads → GivesAt (index_or_zero false) text n x e → w ≡ v
      → Leads text t i (o ∷ outer) v e (o ∷ outer) w
  took_fence n x begins has g stays =
      let p = op.Atomic atomic.AtomicFence in
      let at = prefixed_of text i 0xfe 3 3 n begins refl refl p refl in
      took t text i e o outer v w p [] [] v.0 v.1
      (stood t.features.0 text i e p
      (is_told_with t.features.0 text i n p at (λ (q : Op). q ≡ p) refl refl refl ZeroByte e refl (λ limits. zero_of _ text n x e g)))
      refl (λ set full. full) refl stays
      (λ ids z c fits set full. (
        of_feature c.bits p proposals.Threads feature.Threads fits.allows refl (rw fits.bits has) refl,
        (_, refl, (refl, refl)),
      ))
