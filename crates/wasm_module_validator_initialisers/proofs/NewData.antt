-- Data segments that are checked.
use Rattle.std.proofs.Common.{◌≡◌, ℕ, List, refl, sym, subst, Result, Ok, Err}
use Rattle.wasm_types.specs.settings.Settings.{Settings}
use Rattle.wasm_types.specs.decoding.Denials.{Tells}
use Rattle.wasm_types.specs.decoding.DenialLaws.{denies_from}
use Rattle.wasm_types.specs.decoding.ErrorValue.{ErrorValue}
use Rattle.wasm_operators_encoding.specs.expressions.Code.{Code}
use Rattle.wasm_module_validator_initialisers.specs.segments.Judged.{IsData}
use Rattle.wasm_module_validator_type_storage.specs.trees.Groups.{Group}
use Rattle.wasm_module_validator_state.specs.Items.{Items}
use Rattle.wasm_sections_items.specs.segments.Spells.{DataTree}
use Rattle.wasm_module_validator_checks.specs.rules.Syntax.{ModuleTree}
use Rattle.wasm_module_validator_resources.specs.rules_in_order.Sections as section
use Rattle.wasm_module_validator_resources.specs.rules_in_order.Sections.{up_to}
use Rattle.wasm_module_validator_resources.specs.rules_in_order.Texts.{SpelledDataMode, AddsRead}
use Rattle.wasm_module_validator_state.specs.invariant.Standing.{constants_of, Stands, TellsItem, AddsItem}
use Rattle.wasm_module_validator_state.specs.invariant.laws.Deciding.{data_decided}
use Rattle.wasm_module_validator_state.specs.invariant.laws.Behind.{still_last, data_stand}

module _ (groups : List Group) (s : Items) (t : DataTree (List ℕ)) where
  -- what the check asks for
  abbrev Checks : Type 0
  Checks = IsData s.spaces.settings (constants_of groups s.spaces).«module» s.spaces.imported_globals t.mode

  abbrev Adds : Settings → ModuleTree → Type 0
  Adds z m = (n : ModuleTree) × AddsRead z section.data_segments m t n

  module _ (z : Settings) (m : ModuleTree) (r : Stands groups s z m) where
    check_adds : Checks → Adds z m
    check_adds (y, spelled, valid) =
        let x : DataTree Code = record { mode = y; content = t.content } in
        let a = (data_decided groups s z m r x).0 valid in
        (a.0, (x, (subst (λ (w : Settings). SpelledDataMode w t.mode y) r.settings spelled, refl), a.1))

    adds_check : Adds z m → Checks
    adds_check (n, (x, (spelled, e), adds)) =
        (x.mode, subst (λ (w : Settings). SpelledDataMode w t.mode x.mode) (sym r.settings) spelled, (data_decided groups s z m r x).1 (n, adds))

  -- the answer of the call
  pub data_told : (r : Result (Unit {0}) ErrorValue) → Tells r Checks → TellsItem section.data_segments groups s t r
  data_told (Ok v) h z m r = check_adds z m r.stands h
  data_told (Err e) h z m r = denies_from e.kind Checks (Adds z m) (adds_check z m r.stands) h

  -- and what it leaves
  pub data_added : (j : Items) → j ≡ s → AddsItem section.data_segments groups s t groups j
  data_added j e z m n r (x, spelled, adds) = record {
    stands = subst (λ (i : Items). Stands groups i z n) (sym e) (data_stand groups s z m r.stands x n adds);
    last = subst (λ (u : ModuleTree). u ≡ up_to section.data_segments u) (sym adds.added) (still_last section.data_segments m x r.last);
  }
