-- What operators on references of any kind take and give.
use Rattle.std.specs.Prelude.{◌==◌}
use Rattle.std.proofs.Common.{◌≡◌, ◌∙◌, ◌≤◌, ◌<◌, ◌+◌, ◌-◌, ◌/◌, ◌%◌, ℕ, Bool, true, false, List, [], ◌∷◌, ◌++◌, Some, refl, sym, ap, arith, le-ltb, length, reverse, take, get_or, suc, zero, slice_get}
use Rattle.std.proofs.lemmas.List.{map-append}
use Rattle.std.proofs.lemmas.Grind.{common_steps}
use Rattle.wasm_types.specs.decoding.Leb.{u32}
use Rattle.wasm_types.specs.decoding.Numbers.{GivesAt}
use Rattle.wasm_types.specs.settings.Features as feature
use Rattle.wasm_types.specs.settings.Settings.{Settings}
use Rattle.wasm_types.specs.trees.Types.{ref, concrete}
use Rattle.wasm_types.specs.trees.Trees.{TypeTree}
use Rattle.wasm_types.specs.values.Decode.{heap_type}
use Rattle.wasm_types.specs.values.declared.heap.HeapType.{HeapType}
use Rattle.wasm_operators_immediates.specs.Kinds as kind
use Rattle.wasm_operators_immediates.specs.Immediates.{Heap, Index, Label}
use Rattle.wasm_operators_immediates.specs.declared.proposal.Proposal.TheVariants as proposals
use Rattle.wasm_operators_encoding.specs.immediates.Immediates.{immediate}
use Rattle.wasm_operators_frequent.specs.Short.{Begins}
use Rattle.wasm_operators_frequent.proofs.ShortReading.{gives_as, told_with, told_alone}
use Rattle.wasm_operators_frequent.proofs.Carried.{index_of, label_of}
use Rattle.wasm_operators_enums.specs.declared.control.ControlOperator.TheVariants as control
use Rattle.wasm_operators_enums.specs.declared.bulk.BulkOperator.TheVariants as bulk
use Rattle.wasm_operators_enums.specs.declared.gc.GcOperator.TheVariants as gc
use Rattle.wasm_operators_enums.specs.Op as op
use Rattle.wasm_operator_validator_rules.specs.Operands.{ValueType, Operand, known, all_known, IsReference}
use Rattle.wasm_operator_validator_rules.specs.Row.{not_null, of_type}
use Rattle.wasm_operator_validator_fast_tables.specs.declared.tables.Open.{Open}
use Rattle.wasm_operator_validator_fast_tables.specs.declared.tables.Named.{Named}
use Rattle.wasm_operator_validator_fast_tables.specs.declared.tables.Tables.{Tables}
use Rattle.wasm_operator_validator_fast_tables.specs.Stacks.{Values, with_all}
use Rattle.wasm_operator_validator_fast_tables.specs.Values.{heap_of, type_of, types}
use Rattle.wasm_operator_validator_fast_tables.specs.Tables.{no_code}
use Rattle.wasm_operator_validator_fast_steps.specs.Labels.{Takes}
use Rattle.wasm_operator_validator_fast_tables.specs.Written.{IsHeapAt}
use Rattle.wasm_operator_validator_fast_tables.specs.Loop.{Leads}
use Rattle.wasm_operator_validator_fast_steps.proofs.Coded.{of_feature}
use Rattle.wasm_operator_validator_fast_steps.proofs.Rows.{last_on, took, alone, stands, uses, some_is, Here, label_there}

-- ---- codes of references

pub is_ref : (ids : List TypeTree) (n : ℕ) → 8 ≤ n → type_of ids n ≡ ref (n % 2 == 0) (heap_of ids ((n - 8) / 2))
is_ref ids n h = rw (le-ltb n 8 h) refl

pub is_reference : (ids : List TypeTree) (n : ℕ) → 8 ≤ n → IsReference (known (type_of ids n))
is_reference ids n h = rw (le-ltb n 8 h) tt

-- the same but for null
pub is_never_null : (ids : List TypeTree) (n k : ℕ) → 8 ≤ n → type_of ids k ≡ ref false (heap_of ids ((n - 8) / 2)) → known (type_of ids k) ≡ not_null (known (type_of ids n))
is_never_null ids n k h is =
    let same : not_null (known (type_of ids n)) ≡ known (ref false (heap_of ids ((n - 8) / 2))) = rw (le-ltb n 8 h) refl in
    ap known is ∙ sym same

-- by its parts
ref_by : (ids : List TypeTree) (n k : ℕ) (null : Bool) → 8 ≤ n → (n % 2 == 0) ≡ null → (n - 8) / 2 ≡ k → type_of ids n ≡ ref null (heap_of ids k)
ref_by ids n k null h parity same = is_ref ids n h ∙ ap (λ (b : Bool). ref b (heap_of ids ((n - 8) / 2))) parity ∙ ap (λ (m : ℕ). ref null (heap_of ids m)) same

is_even : (n : ℕ) → n % 2 ≡ 0 → (n % 2 == 0) ≡ true
is_even n e = ap (λ (m : ℕ). m == 0) e

is_odd : (n : ℕ) → n % 2 ≡ 1 → (n % 2 == 0) ≡ false
is_odd n e = ap (λ (m : ℕ). m == 0) e

module _ (ids : List TypeTree) (n : ℕ) (h : 8 ≤ n) where
  pub odd_above : n % 2 ≡ 0 → type_of ids (n + 1) ≡ ref false (heap_of ids ((n - 8) / 2))
  odd_above even = ref_by ids (n + 1) ((n - 8) / 2) false (omega (arith, h)) (is_odd (n + 1) (omega (arith, even))) (omega (arith, even, h))

  pub odd_itself : n % 2 ≡ 1 → type_of ids n ≡ ref false (heap_of ids ((n - 8) / 2))
  odd_itself odd = ref_by ids n ((n - 8) / 2) false h (is_odd n odd) refl

  pub even_itself : n % 2 ≡ 0 → type_of ids n ≡ ref true (heap_of ids ((n - 8) / 2))
  even_itself even = ref_by ids n ((n - 8) / 2) true h (is_even n even) refl

  pub even_under : n % 2 ≡ 1 → type_of ids (n - 1) ≡ ref true (heap_of ids ((n - 8) / 2))
  even_under odd = ref_by ids (n - 1) ((n - 8) / 2) true (omega (arith, odd, h)) (is_even (n - 1) (omega (arith, odd, h))) (omega (arith, odd, h))

-- ---- operands

-- types and another on top of them
pub types_on : (ids : List TypeTree) (ts : List ℕ) (k : ℕ) → all_known (types ids (ts ++ k ∷ [])) ≡ all_known (types ids ts) ++ known (type_of ids k) ∷ []
types_on ids ts k = ap all_known (map-append (type_of ids) ts (k ∷ [])) ∙ map-append known (types ids ts) (type_of ids k ∷ [])

-- all but the last, and the last
pub parted : (ts : List ℕ) (n : ℕ) → n + 1 ≡ length ts → ts ≡ take n ts ++ get_or ts n 0 ∷ []
parted [] n many = absurd (omega (arith, many))
parted (x ∷ []) zero many = refl
parted (x ∷ y ∷ ts) zero many = absurd (omega (arith, many))
parted (x ∷ ts) (suc n) many = ap (λ (xs : List ℕ). x ∷ xs) (parted ts n (omega (arith, many)))

-- ---- immediates

pub heap_carried : (settings : Settings) (text : List ℕ) (i e : ℕ) (h : HeapType) → GivesAt heap_type text i h e → GivesAt (immediate settings kind.Heap) text i (Heap h) e
unfolding immediate
heap_carried settings text i e h g = gives_as heap_type text i h Heap e g

-- ---- the operators

module _ (t : Tables) (text : List ℕ) (i e : ℕ) (o : Open) (outer : List Open) (v w : Values) (on : t.references ≡ true) where
  pub took_ref_null : Begins text i 0xd0 → (code top : ℕ) → IsHeapAt text t (i + 1) code top e → w ≡ (code ∷ v.0, v.1) → Leads text t i (o ∷ outer) v e (o ∷ outer) w
  took_ref_null begins code top h put =
      let p = op.Bulk (bulk.RefNull h.written) in
      took t text i e o outer v w p [] (code ∷ []) v.0 v.1
      (stands t text i e o outer v w p (told_with t.features.0 text i 208 208 begins refl p refl refl _ refl refl refl (Heap h.written) e refl (λ limits. heap_carried _ text (i + 1) e h.written h.read)))
      refl (λ set full. full) refl put
      (λ ids z c fits set full.
      let k = h.means ids z c fits in (
        of_feature c.bits p proposals.ReferenceTypes feature.ReferenceTypes fits.allows refl (fits.references on).reference_types refl,
        (ref true k.heap, k.type true, uses (Here t text i e o outer v w ids c) _ fits.unshared, (refl, ap (λ (x : ValueType). all_known (x ∷ [])) k.nullable)),
      ))

  pub took_is_null : Begins text i 0xd1 → i + 1 ≡ e → (n : ℕ) (r : List ℕ) → 8 ≤ n → v ≡ (n ∷ r, v.1) → w ≡ (0 ∷ r, v.1) → Leads text t i (o ∷ outer) v e (o ∷ outer) w
  took_is_null begins behind n r high taken put =
      let p = op.Bulk bulk.RefIsNull in
      took t text i e o outer v w p (n ∷ []) (0 ∷ []) r v.1
      (alone t text i e o outer v w p (told_alone t.features.0 text i 209 209 begins refl p refl refl _ refl refl refl refl) behind)
      refl (λ set full. full) taken put
      (λ ids z c fits set full. (
        of_feature c.bits p proposals.ReferenceTypes feature.ReferenceTypes fits.allows refl (fits.references on).reference_types refl,
        (known (type_of ids n), is_reference ids n high, refl, refl),
      ))

  pub took_as_non_null : Begins text i 0xd4 → i + 1 ≡ e → (n k : ℕ) (r : List ℕ) → 8 ≤ n → ((ids : List TypeTree) → type_of ids k ≡ ref false (heap_of ids ((n - 8) / 2)))
      → v ≡ (n ∷ r, v.1) → w ≡ (k ∷ r, v.1) → Leads text t i (o ∷ outer) v e (o ∷ outer) w
  took_as_non_null begins behind n k r high never taken put =
      let p = op.Control control.RefAsNonNull in
      took t text i e o outer v w p (n ∷ []) (k ∷ []) r v.1
      (alone t text i e o outer v w p (told_alone t.features.0 text i 212 212 begins refl p refl refl _ refl refl refl refl) behind)
      refl (λ set full. full) taken put
      (λ ids z c fits set full. (
        of_feature c.bits p proposals.FunctionReferences feature.FunctionReferences fits.allows refl (fits.references on).function_references refl,
        (known (type_of ids n), is_reference ids n high, refl, ap (λ (x : Operand). x ∷ []) (is_never_null ids n k high (never ids))),
      ))

  pub took_ref_func : Begins text i 0xd2 → (x : ℕ) → GivesAt u32 text (i + 1) x e → (y : ℕ) → slice_get t.known.functions.items x ≡ Some y
      → slice_get t.known.referenced.items x ≡ Some true → (n : Named) → slice_get t.known.named.items y ≡ Some n → n.code < no_code
      → w ≡ ((n.code + 1) ∷ v.0, v.1) → Leads text t i (o ∷ outer) v e (o ∷ outer) w
  took_ref_func begins x g y function referenced n named coded put =
      let p = op.Bulk (bulk.RefFunc x) in
      took t text i e o outer v w p [] ((n.code + 1) ∷ []) v.0 v.1
      (stands t text i e o outer v w p (told_with t.features.0 text i 210 210 begins refl p refl refl _ refl refl refl (Index kind.Functions x) e refl (λ limits. index_of _ _ _ _ kind.Functions x g)))
      refl (λ set full. full) refl put
      (λ ids z c fits set full.
      let k = fits.knows.named y n named coded in
      let (f, there, at) = fits.knows.functions x y function in
      let same : k.type ≡ f = some_is k.type f (sym k.at ∙ at) in (
        of_feature c.bits p proposals.ReferenceTypes feature.ReferenceTypes fits.allows refl (fits.references on).reference_types refl,
        (
          k.type,
          concrete k.type,
          there ∙ ap Some (sym same),
          fits.knows.referenced x referenced,
          uses (Here t text i e o outer v w ids c) _ fits.unshared,
          of_type,
          (refl, ap (λ (u : ValueType). all_known (u ∷ [])) k.never_null),
        ),
      ))

  pub took_ref_eq : Begins text i 0xd3 → i + 1 ≡ e → (m : Values) → v ≡ (20 ∷ 20 ∷ m.0, m.1) → w ≡ (0 ∷ m.0, m.1) → Leads text t i (o ∷ outer) v e (o ∷ outer) w
  took_ref_eq begins behind m taken put =
      let p = op.Gc gc.RefEq in
      took t text i e o outer v w p (20 ∷ 20 ∷ []) (0 ∷ []) m.0 m.1
      (alone t text i e o outer v w p (told_alone t.features.0 text i 211 211 begins refl p refl refl _ refl refl refl refl) behind)
      refl (λ set full. full) taken put
      (λ ids z c fits set full. (of_feature c.bits p proposals.Gc feature.Gc fits.allows refl (fits.references on).gc refl, (false, (refl, refl))))

  pub took_br_on_null : Begins text i 0xd5 → (d : ℕ) → GivesAt u32 text (i + 1) d e → (ls : List ℕ) → Takes t.known.flat.items (o ∷ outer) ls d
      → (n k : ℕ) → 8 ≤ n → ((ids : List TypeTree) → type_of ids k ≡ ref false (heap_of ids ((n - 8) / 2)))
      → (m : Values) → v ≡ (n ∷ (with_all ls m).0, m.1) → w ≡ (k ∷ (with_all ls m).0, m.1) → Leads text t i (o ∷ outer) v e (o ∷ outer) w
  took_br_on_null begins d g ls (f, there, same) n k high never m taken put =
      let p = op.Control (control.BrOnNull d) in
      took t text i e o outer v w p (ls ++ n ∷ []) (ls ++ k ∷ []) m.0 m.1
      (stands t text i e o outer v w p (told_with t.features.0 text i 213 213 begins refl p refl refl _ refl refl refl (Label d) e refl (λ limits. label_of _ _ _ _ d g)))
      refl (λ set full. full) (taken ∙ last_on ls n m) (put ∙ last_on ls k m)
      (λ ids z c fits set full. (
        of_feature c.bits p proposals.FunctionReferences feature.FunctionReferences fits.allows refl (fits.references on).function_references refl,
        (
          types ids ls,
          known (type_of ids n),
          label_there t text i e o outer v w ids c d f there ls same,
          is_reference ids n high,
          types_on ids ls n,
          types_on ids ls k ∙ ap (λ (x : Operand). all_known (types ids ls) ++ x ∷ []) (is_never_null ids n k high (never ids)),
        ),
      ))

  pub took_br_on_non_null : Begins text i 0xd6 → (d : ℕ) → GivesAt u32 text (i + 1) d e → (ls : List ℕ) → Takes t.known.flat.items (o ∷ outer) ls d
      → (us : List ℕ) (n k : ℕ) → ls ≡ us ++ n ∷ [] → 8 ≤ n
      → ((ids : List TypeTree) → type_of ids k ≡ ref true (heap_of ids ((n - 8) / 2)))
      → (m : Values) → v ≡ (k ∷ (with_all us m).0, m.1) → w ≡ with_all us m → Leads text t i (o ∷ outer) v e (o ∷ outer) w
  took_br_on_non_null begins d g ls (f, there, same) us n k parts high perhaps m taken put =
      let p = op.Control (control.BrOnNonNull d) in
      took t text i e o outer v w p (us ++ k ∷ []) us m.0 m.1
      (stands t text i e o outer v w p (told_with t.features.0 text i 214 214 begins refl p refl refl _ refl refl refl (Label d) e refl (λ limits. label_of _ _ _ _ d g)))
      refl (λ set full. full) (taken ∙ last_on us k m) put
      (λ ids z c fits set full.
      let last : types ids ls ≡ types ids us ++ ref (n % 2 == 0) (heap_of ids ((n - 8) / 2)) ∷ []
      = ap (types ids) parts ∙ map-append (type_of ids) us (n ∷ []) ∙ ap (λ (x : ValueType). types ids us ++ x ∷ []) (is_ref ids n high) in (
        of_feature c.bits p proposals.FunctionReferences feature.FunctionReferences fits.allows refl (fits.references on).function_references refl,
        (
          types ids us,
          n % 2 == 0,
          heap_of ids ((n - 8) / 2),
          label_there t text i e o outer v w ids c d f there ls same ∙ ap Some last,
          (ap all_known (map-append (type_of ids) us (k ∷ []) ∙ ap (λ (x : ValueType). types ids us ++ x ∷ []) (perhaps ids)), refl),
        ),
      ))
