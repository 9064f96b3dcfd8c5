-- What operators on vectors take and give, by the rules, and what follows for the loop.
use Rattle.std.proofs.Common.{◌≡◌, ◌≤◌, ◌<◌, ◌∙◌, ◌+◌, ◌%◌, ◌⊎◌, inl, inr, ℕ, Bool, true, false, None, Option, Some, List, [], ◌∷◌, ◌++◌, refl, sym, ap, subst, arith, lt-ltb, le-ltb, length, take, drop, get_or, reverse, slice_get}
use Rattle.std.proofs.lemmas.Bool.{cases_lt}
use Rattle.wasm_types.specs.settings.Features as feature
use Rattle.wasm_types.specs.settings.Features.{judges_vectors}
use Rattle.wasm_types.specs.settings.Settings.{Settings}
use Rattle.wasm_types.specs.trees.Gates.{Has}
use Rattle.wasm_types.specs.trees.Trees.{TypeTree}
use Rattle.wasm_operators_immediates.specs.Immediates.{Lane, Lanes, MemoryArgument, V128Constant}
use Rattle.wasm_operators_immediates.specs.Kinds.{Plain}
use Rattle.wasm_operators_immediates.specs.declared.memory.MemArg.{MemArg}
use Rattle.wasm_operators_immediates.specs.declared.proposal.Proposal.TheVariants as proposals
use Rattle.wasm_operators_enums.specs.declared.vector.SimdOperator.{SimdOperator}
use Rattle.wasm_operators_enums.specs.declared.vector.SimdOperator.TheVariants as simd
use Rattle.wasm_operators_enums.specs.Op as op
use Rattle.wasm_operators_enums.specs.Op.{Op}
use Rattle.wasm_operators_enums.specs.Table.{info_of}
use Rattle.wasm_operators_enums.specs.VectorsTable.{simd_info}
use Rattle.wasm_operators_encoding.specs.Opcodes.{prefixed}
use Rattle.wasm_operators_encoding.specs.immediates.MemoryArguments.{argument, SpelledMemArg}
use Rattle.wasm_operators_frequent.specs.Short.{BeginsPrefixed}
use Rattle.wasm_operator_validator_rules.specs.Accesses.{Access, operands_of, results_of}
use Rattle.wasm_operator_validator_rules.specs.Context.{Context}
use Rattle.wasm_operator_validator_rules.specs.InstructionTypes.{InstructionType, ◌⟶◌, accesses, lanes_type, where_vectors, work_type}
use Rattle.wasm_operator_validator_rules.specs.Numbers.{numbers}
use Rattle.wasm_operator_validator_rules.specs.Operands.{ValueType, all_known}
use Rattle.wasm_operator_validator_rules.specs.Row.{IsEnabled}
use Rattle.wasm_operator_validator_rules.specs.Vectors.{VectorWork, on_lanes, reaches, vectors_taken, vectors_given, vector_class, work_of}
use Rattle.wasm_operator_validator_fast_tables.specs.declared.tables.Open.{Open}
use Rattle.wasm_operator_validator_fast_tables.specs.declared.tables.Tables.{Tables}
use Rattle.wasm_operator_validator_fast_tables.specs.Stacks.{Values}
use Rattle.wasm_operator_validator_fast_tables.specs.Values.{type_of, types}
use Rattle.wasm_operator_validator_fast_tables.specs.Tables.{Allows, AllowsVectors, Fits}
use Rattle.wasm_operator_validator_fast_tables.specs.Loop.{inside_all, Leads}
use Rattle.wasm_operator_validator_fast_steps.specs.Shapes.{IsArgumentAt}
use Rattle.wasm_operator_validator_fast_steps.proofs.Coded.{of_feature}
use Rattle.wasm_operator_validator_fast_steps.proofs.Rows.{accessed, addressed, may_reach, took}
use Rattle.wasm_operator_validator_fast_steps.proofs.Stepping.{Stands}
use Rattle.wasm_operator_validator_fast_objects.specs.Vectors.{proposal_of, MayRelax, IsLanesAt, IsLaneAt, IsReachAt, IsLaneReachAt, IsVectorAt, IsLaneThere, AreLanesThere}
use Rattle.wasm_operator_validator_fast_objects.proofs.VectorSpelling.{stands_bare, stands_with, stands_with_two, argument_spelled, lane_spelled, lane_behind, lanes_spelled, vector_spelled, parted}

-- ---- features

enabled : (bits code : ℕ) (p : Op) → Allows bits → AllowsVectors bits → MayRelax bits code → (info_of p).proposal ≡ proposal_of code → IsEnabled bits p
enabled bits code p a v relaxed is = either (cases_lt code 0x100)
  where
    either : (code < 0x100) ⊎ (0x100 ≤ code) → IsEnabled bits p
    either (inl lt) = let of : (info_of p).proposal ≡ proposals.Simd = is ∙ rw (lt-ltb code 0x100 lt) refl in of_feature bits p proposals.Simd feature.Simd a of v.simd refl
    either (inr le) =
        let of : (info_of p).proposal ≡ proposals.RelaxedSimd = is ∙ rw (le-ltb code 0x100 le) refl in
        of_feature bits p proposals.RelaxedSimd feature.RelaxedSimd a of (relaxed le) refl

-- ---- what the module determines

-- operators on vectors are judged
switched : (g : Context) (t : Option InstructionType) → judges_vectors g.bits ≡ true → where_vectors g t ≡ t
switched g t on = rw on refl

-- ---- the operators

module _ (t : Tables) (text : List ℕ) (i e : ℕ) (o : Open) (outer : List Open) (v w : Values) where
  abbrev Here : List TypeTree → Context → Context
  Here ids c = inside_all ids c t.known.flat.items (o ∷ outer)

  -- one that carries nothing
  pub took_lanes : (code : ℕ) → IsVectorAt text t i code e → (ts us : List ℕ) → IsLanesAt code ts us → (r u : List ℕ) → v ≡ (reverse ts ++ r, u) → w ≡ (reverse us ++ r, u)
      → Leads text t i (o ∷ outer) v e (o ∷ outer) w
  took_lanes code at ts us k r u taken put =
      let p = op.SimdNumeric k.operator in
      took t text i e o outer v w p ts us r u (stands_bare t.features.0 text i e code p at.begins k.opcode refl refl) refl (λ set full. full) taken put
      (λ ids z c fits set full. (
        enabled c.bits code p fits.allows (fits.vectors at.on) (λ le. rw fits.bits (at.relaxed le)) k.asks,
        (
          lanes_type (vector_class k.operator),
          switched (Here ids c) (Some (lanes_type (vector_class k.operator))) (fits.vectors at.on).judged,
          (ap all_known (k.taken ids), ap all_known (k.given ids)),
        ),
      ))

  -- one that carries something, by what it does
  module _ (code n : ℕ) (at : IsVectorAt text t i code n) (x : SimdOperator) (asks : (simd_info x).proposal ≡ proposals.Simd) (stands : Stands t.features.0 text i e (op.Simd x)) where
    took_work : (ts us r u : List ℕ) → v ≡ (reverse ts ++ r, u) → w ≡ (reverse us ++ r, u)
        → ((ids : List TypeTree) (z : Settings) (c : Context) → Fits ids z text t c → work_type (Here ids c) (work_of x) ≡ Some (types ids ts ⟶ types ids us))
        → Leads text t i (o ∷ outer) v e (o ∷ outer) w
    took_work ts us r u taken put does =
        took t text i e o outer v w (op.Simd x) ts us r u stands refl (λ set full. full) taken put
        (λ ids z c fits set full. (
          of_feature c.bits (op.Simd x) proposals.Simd feature.Simd fits.allows asks (fits.vectors at.on).simd refl,
          (types ids ts ⟶ types ids us, switched (Here ids c) (work_type (Here ids c) (work_of x)) (fits.vectors at.on).judged ∙ does ids z c fits, (refl, refl)),
        ))

  -- one that carries the index of a lane
  pub took_lane : (code n lanes : ℕ) → IsVectorAt text t i code n → (ts us : List ℕ) → IsLaneAt code lanes ts us → IsLaneThere text n lanes e
      → (r u : List ℕ) → v ≡ (reverse ts ++ r, u) → w ≡ (reverse us ++ r, u) → Leads text t i (o ∷ outer) v e (o ∷ outer) w
  took_lane code n lanes at ts us k h r u taken put =
      let l = get_or text n 0 in
      let x = k.operator l in
      let stands = stands_with t.features.0 text i n code (op.Simd x) at.begins (k.opcode l) refl (Lane lanes l) e (l ∷ []) (k.carries l)
      (λ z same. lane_spelled text n lanes e h) (lane_behind text n lanes e h) in
      took_work code n at x (k.asks l) stands ts us r u taken put
      (λ ids z c fits.
      ap (λ (y : VectorWork). work_type (Here ids c) y) (k.works l) ∙ ap (λ (y : List ValueType). Some (y ⟶ numbers (vectors_given k.work))) (sym (k.taken ids))
      ∙ ap (λ (y : List ValueType). Some (types ids ts ⟶ y)) (sym (k.given ids)))

  pub took_const : (code n : ℕ) → IsVectorAt text t i code n → code ≡ 0x0c → n + 16 ≤ length text → e ≡ n + 16 → w ≡ (4 ∷ v.0, v.1)
      → Leads text t i (o ∷ outer) v e (o ∷ outer) w
  took_const code n at is room behind put =
      let bytes = take 16 (drop n text) in
      let x = simd.V128Const (record { 0 = bytes }) in
      let stands = stands_with t.features.0 text i n code (op.Simd x) at.begins (ap (λ (k : ℕ). prefixed 0xfd k) (sym is)) refl (V128Constant (record { 0 = bytes })) e bytes refl
      (λ z same. vector_spelled text n room) (parted text n 16 e behind) in
      took_work code n at x refl stands [] (4 ∷ []) v.0 v.1 refl put (λ ids z c fits. refl)

  pub took_shuffle : (code n : ℕ) → IsVectorAt text t i code n → code ≡ 0x0d → AreLanesThere text n e → (r u : List ℕ) → v ≡ (4 ∷ 4 ∷ r, u) → w ≡ (4 ∷ r, u)
      → Leads text t i (o ∷ outer) v e (o ∷ outer) w
  took_shuffle code n at is h r u taken put =
      let ls = take 16 (drop n text) in
      let x = simd.I8x16Shuffle ls in
      let stands = stands_with t.features.0 text i n code (op.Simd x) at.begins (ap (λ (k : ℕ). prefixed 0xfd k) (sym is)) refl (Lanes ls) e ls refl
      (λ z same. lanes_spelled text n e h) (parted text n 16 e h.behind) in
      took_work code n at x refl stands (4 ∷ 4 ∷ []) (4 ∷ []) r u taken put (λ ids z c fits. refl)

  -- ---- accesses

  -- what an access takes, above the address, and gives
  reached : (k : Access) (n natural address m : ℕ) (a : IsArgumentAt t text n natural address m) (above us : List ℕ)
      → ((ids : List TypeTree) → types ids above ≡ numbers (operands_of k)) → ((ids : List TypeTree) → types ids us ≡ numbers (results_of k))
      → (ids : List TypeTree) (z : Settings) (c : Context) → Fits ids z text t c
      → accesses (Here ids c) false (Some (record { access = k; argument = argument (get_or text n 0 % 16) natural a.memory None a.offset }))
      ≡ Some (types ids (address ∷ above) ⟶ types ids us)
  reached k n natural address m a above us takes gives ids z c fits =
      let x = argument (get_or text n 0 % 16) natural a.memory None a.offset in
      let (memory, there, wide) = a.there ids c.«module» fits.knows in
      let may = may_reach false memory x (lt-ltb (get_or text n 0 % 16) (natural + 1) (omega (arith, a.aligned))) a.reached refl in
      accessed (Here ids c) false x memory k there may
      ∙ ap (λ (y : ValueType). Some ((y ∷ numbers (operands_of k)) ⟶ numbers (results_of k))) (sym (addressed ids address memory.memory64 wide))
      ∙ ap (λ (y : List ValueType). Some ((type_of ids address ∷ y) ⟶ numbers (results_of k))) (sym (takes ids))
      ∙ ap (λ (y : List ValueType). Some (types ids (address ∷ above) ⟶ y)) (sym (gives ids))

  pub took_reach : (k : Access) (code n natural address : ℕ) → IsVectorAt text t i code n → IsReachAt k code natural → IsArgumentAt t text n natural address e
      → (above us r u : List ℕ) → ((ids : List TypeTree) → types ids above ≡ numbers (operands_of k)) → ((ids : List TypeTree) → types ids us ≡ numbers (results_of k))
      → v ≡ (reverse (address ∷ above) ++ r, u) → w ≡ (reverse us ++ r, u) → Leads text t i (o ∷ outer) v e (o ∷ outer) w
  took_reach k code n natural address at q a above us r u takes gives taken put =
      let y = argument (get_or text n 0 % 16) natural a.memory None a.offset in
      let x = q.operator y in
      let (front, spelled, behind) = argument_spelled t text n natural address e a in
      let stands = stands_with t.features.0 text i n code (op.Simd x) at.begins (q.opcode y) refl (MemoryArgument Plain natural y) e front (q.carries y)
      (λ z same. subst (λ (f : ℕ). SpelledMemArg f Plain natural y front) (sym same) spelled) behind in
      took_work code n at x (q.asks y) stands (address ∷ above) us r u taken put
      (λ ids z c fits. ap (λ (d : VectorWork). work_type (Here ids c) d) (q.works y) ∙ reached k n natural address e a above us takes gives ids z c fits)

  pub took_lane_reach : (k : Access) (code n m natural lanes address : ℕ) → IsVectorAt text t i code n → IsLaneReachAt k code natural lanes
      → IsArgumentAt t text n natural address m → IsLaneThere text m lanes e → (above us r u : List ℕ)
      → ((ids : List TypeTree) → types ids above ≡ numbers (operands_of k)) → ((ids : List TypeTree) → types ids us ≡ numbers (results_of k))
      → v ≡ (reverse (address ∷ above) ++ r, u) → w ≡ (reverse us ++ r, u) → Leads text t i (o ∷ outer) v e (o ∷ outer) w
  took_lane_reach k code n m natural lanes address at q a h above us r u takes gives taken put =
      let y = argument (get_or text n 0 % 16) natural a.memory None a.offset in
      let l = get_or text m 0 in
      let x = q.operator y l in
      let (front, spelled, behind) = argument_spelled t text n natural address m a in
      let stands = stands_with_two t.features.0 text i n code (op.Simd x) at.begins (q.opcode y l) refl (MemoryArgument Plain natural y) (Lane lanes l) m e front (l ∷ [])
      (q.carries y l) (λ z same. subst (λ (f : ℕ). SpelledMemArg f Plain natural y front) (sym same) spelled) (λ z. lane_spelled text m lanes e h) behind
      (lane_behind text m lanes e h) in
      took_work code n at x (q.asks y l) stands (address ∷ above) us r u taken put
      (λ ids z c fits. ap (λ (d : VectorWork). work_type (Here ids c) d) (q.works y l) ∙ reached k n natural address m a above us takes gives ids z c fits)
