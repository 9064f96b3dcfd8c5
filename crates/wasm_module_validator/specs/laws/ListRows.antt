-- Lists of verdicts: worked rows.
use Rattle.std.specs.Prelude.{◌≡◌, ◌⊎◌, ℕ, List, [], ◌∷◌, true, false}
use Rattle.std.proofs.Common.{refl, inl, inr}
use Rattle.wasm_types.specs.decoding.ErrorValue.{ErrorValue}
use Rattle.wasm_types.specs.settings.Limits.{IsWithinCeilings}
use Rattle.wasm_types.specs.settings.Settings.{Settings}
use Rattle.wasm_types.specs.trees.Trees.{TypeTree}
use Rattle.wasm_module_validator_index_spaces.specs.declared.view.validator_id.ValidatorId.{ValidatorId}
use Rattle.wasm_module_validator_drivers.specs.declarations.Total.{IsPastTotal}
use Rattle.wasm_module_validator_drivers.specs.declarations.TotalLaws.{none_past}
use Rattle.wasm_module_validator_drivers.specs.state.Items.{no_items}
use Rattle.wasm_module_validator_type_storage.specs.trees.Groups.{Group}
use Rattle.wasm_module_validator.specs.declared.lists.Verdict.{Verdict}
use Rattle.wasm_module_validator.specs.declared.lists.Verdict.TheVariants.{Accepted, Refused}
use Rattle.wasm_module_validator.specs.declared.validator.State.TheVariants.{Unparsed, Ended, Failed}
use Rattle.wasm_module_validator_rules.specs.Accepts.{IsValidOutsideBodies}
use Rattle.wasm_module_validator.specs.Lists.{IsVerdict, AreVerdicts, state_after}
use Rattle.wasm_module_validator.specs.Shown.{Learned}

-- No input has a verdict that is not there, and each that comes has one: also behind a body that was refused, and not behind a section that was.
pub record ListRows (z : Settings) (id : ValidatorId) (held : List Group) (x y : List ℕ) (t : Learned) (e : ErrorValue) : Type 0 where
  pub none : AreVerdicts z id held [] []
  pub no_more : AreVerdicts z id held [] (Accepted t ∷ []) → ⊥
  pub no_fewer : AreVerdicts z id held (x ∷ []) [] → ⊥
  pub goes_on_behind_body : AreVerdicts z id held (x ∷ y ∷ []) (Refused e true ∷ []) → ⊥
  pub ends_behind_section : AreVerdicts z id held (x ∷ y ∷ []) (Refused e false ∷ Accepted t ∷ []) → ⊥
  pub ended_is_no_total : IsVerdict z id held x (Refused e true) → IsValidOutsideBodies z x
  pub not_behind_total : IsVerdict z id [] x (Refused e false) → IsWithinCeilings z.limits → IsValidOutsideBodies z x → ⊥
  pub fresh : state_after [] ≡ Unparsed
  pub ended : state_after (Accepted t ∷ Refused e true ∷ []) ≡ Ended
  pub failed : state_after (Accepted t ∷ Refused e false ∷ []) ≡ Failed

not_empty : (v : Verdict) → (v ∷ []) ≡ [] → ⊥
not_empty v e = cc

-- over a list with no types the total is not passed
not_past : {z : Settings} {Has : List TypeTree → ℕ → Type 0} {e : ErrorValue} {P : Type 0} → IsPastTotal [] (no_items z) Has e ⊎ (P → ⊥) → IsWithinCeilings z.limits → P → ⊥
not_past {z} {Has} {e} (inl past) within p = none_past z within Has e past
not_past (inr none) within p = none p

pub list_rows : (z : Settings) (id : ValidatorId) (held : List Group) (x y : List ℕ) (t : Learned) (e : ErrorValue) → ListRows z id held x y t e
list_rows z id held x y t e = record {
  none = tt;
  no_more = λ h. h;
  no_fewer = λ h. h;
  goes_on_behind_body = λ h. h.1.2;
  ends_behind_section = λ h. not_empty (Accepted t) h.1;
  ended_is_no_total = λ h. h.2;
  not_behind_total = λ h within valid. not_past h.1 within valid;
  fresh = refl;
  ended = refl;
  failed = refl;
}
