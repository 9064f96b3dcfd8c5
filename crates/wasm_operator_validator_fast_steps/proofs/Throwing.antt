-- What operators on exceptions take and give.
use Rattle.std.proofs.Common.{◌≡◌, ◌≤◌, ◌+◌, ℕ, true, List, [], ◌∷◌, ◌++◌, Some, refl, ap, length, reverse, slice_get}
use Rattle.wasm_types.specs.decoding.Leb.{u32}
use Rattle.wasm_types.specs.decoding.Numbers.{GivesAt}
use Rattle.wasm_types.specs.settings.Features as feature
use Rattle.wasm_operators_immediates.specs.Kinds as kind
use Rattle.wasm_operators_immediates.specs.Immediates.{Index}
use Rattle.wasm_operators_immediates.specs.declared.proposal.Proposal.TheVariants as proposals
use Rattle.wasm_operators_enums.specs.Op as op
use Rattle.wasm_operators_frequent.specs.Short.{Begins}
use Rattle.wasm_operators_frequent.proofs.ShortReading.{told_with, told_alone}
use Rattle.wasm_operators_frequent.proofs.Carried.{index_of}
use Rattle.wasm_operator_validator_rules.specs.Operands.{all_known}
use Rattle.wasm_operator_validator_fast_tables.specs.declared.tables.Open.{Open}
use Rattle.wasm_operator_validator_fast_tables.specs.declared.tables.Sig.{Sig}
use Rattle.wasm_operator_validator_fast_tables.specs.declared.tables.Tables.{Tables}
use Rattle.wasm_operator_validator_fast_tables.specs.Stacks.{Values, with_all}
use Rattle.wasm_operator_validator_fast_tables.specs.Values.{types, operands}
use Rattle.wasm_operator_validator_fast_tables.specs.Tables.{params_in}
use Rattle.wasm_operator_validator_fast_tables.specs.Loop.{Leads}
use Rattle.wasm_operator_validator_fast_steps.proofs.Coded.{of_feature}
use Rattle.wasm_operator_validator_fast_steps.proofs.Rows.{took_away, stands, alone, popped_all}

module _ (t : Tables) (text : List ℕ) (i e : ℕ) (o : Open) (outer : List Open) (v w : Values) (on : t.references ≡ true) where
  pub took_throw : Begins text i 0x08 → (x : ℕ) → GivesAt u32 text (i + 1) x e → (s : Sig) → slice_get t.known.tags.items x ≡ Some s → s.param_count ≤ length t.known.flat.items
      → (ps : List ℕ) → ps ≡ params_in t.known.flat.items s → (m : Values) (rs : List ℕ) → v ≡ with_all ps m → w ≡ with_all rs ([], m.1) → Leads text t i (o ∷ outer) v e (o ∷ outer) w
  took_throw begins x g s tag usable ps same m rs taken put =
      let p = op.Exception (op.Throw x) in
      took_away t text i e o outer v w p (reverse ps ++ m.0) rs m.1
      (stands t text i e o outer v w p (told_with t.features.0 text i 8 8 begins refl p refl refl _ refl refl refl (Index kind.Tags x) e refl (λ limits. index_of _ _ _ _ kind.Tags x g)))
      refl (λ set full. full) taken put
      (λ ids. reverse (operands ids m.0) ++ all_known (types ids ps)) (popped_all t text i e o outer v w ps m.0)
      (λ ids z c fits set full. (
        of_feature c.bits p proposals.Exceptions feature.Exceptions fits.allows refl (fits.references on).exceptions refl,
        (
          types ids (params_in t.known.flat.items s),
          reverse (operands ids m.0),
          fits.knows.tags x s tag usable,
          ap (λ xs. reverse (operands ids m.0) ++ all_known (types ids xs)) same,
        ),
      ))

  pub took_throw_ref : Begins text i 0x0a → i + 1 ≡ e → (m : Values) (rs : List ℕ) → v ≡ (28 ∷ m.0, m.1) → w ≡ with_all rs ([], m.1) → Leads text t i (o ∷ outer) v e (o ∷ outer) w
  took_throw_ref begins behind m rs taken put =
      let p = op.Exception op.ThrowRef in
      took_away t text i e o outer v w p (28 ∷ m.0) rs m.1
      (alone t text i e o outer v w p (told_alone t.features.0 text i 10 10 begins refl p refl refl _ refl refl refl refl) behind)
      refl (λ set full. full) taken put
      (λ ids. reverse (operands ids m.0) ++ all_known (types ids (28 ∷ []))) (popped_all t text i e o outer v w (28 ∷ []) m.0)
      (λ ids z c fits set full. (
        of_feature c.bits p proposals.Exceptions feature.Exceptions fits.allows refl (fits.references on).exceptions refl,
        (reverse (operands ids m.0), refl),
      ))
