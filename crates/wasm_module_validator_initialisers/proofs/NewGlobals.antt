-- Globals that are checked, and added.
use Rattle.std.proofs.Common.{◌≡◌, ◌∙◌, ◌<◌, ℕ, List, [], length, refl, sym, ap, subst, Ok, Err}
use Rattle.wasm_types.specs.settings.Settings.{Settings}
use Rattle.wasm_types.specs.decoding.Denials.{Denies}
use Rattle.wasm_types.specs.decoding.DenialLaws.{denies_from}
use Rattle.wasm_types.specs.decoding.ErrorValue.{ErrorValue}
use Rattle.wasm_types.specs.externs.declared.global.GlobalType.{GlobalType}
use Rattle.wasm_module_validator_resources.specs.referring.Naming.{NamesMore}
use Rattle.wasm_operators_encoding.specs.expressions.Code.{Code}
use Rattle.wasm_operators_encoding.specs.expressions.Spelling.{SpelledExpression}
use Rattle.wasm_operator_validator_state.specs.resources.Meaning.{global_in}
use Rattle.wasm_module_validator_checks.specs.rules.Spaces.{referred_in, global_in as global_written}
use Rattle.wasm_module_validator_checks.specs.rules.Valid.{IsValidGlobal}
use Rattle.wasm_module_validator_initialisers.specs.segments.Judged.{IsGlobal}
use Rattle.wasm_module_validator_type_storage.specs.trees.Groups.{Group}
use Rattle.wasm_module_validator_state.specs.Adding.{adding_global}
use Rattle.wasm_module_validator_state.specs.Items.{Items}
use Rattle.wasm_sections_items.specs.segments.Spells.{GlobalTree}
use Rattle.wasm_module_validator_checks.specs.rules.Syntax.{ModuleTree}
use Rattle.wasm_module_validator_resources.specs.rules_in_order.Sections as section
use Rattle.wasm_module_validator_resources.specs.rules_in_order.Sections.{up_to}
use Rattle.wasm_module_validator_resources.specs.rules_in_order.Texts.{AddsRead}
use Rattle.wasm_module_validator_state.specs.invariant.Standing.{constants_of, Stands, TellsItem, AddsItem, marking}
use Rattle.wasm_module_validator_state.specs.invariant.laws.Deciding.{globals_decided}
use Rattle.wasm_module_validator_state.specs.invariant.laws.Behind.{still_last, globals_stand}

module _ (groups : List Group) (s : Items) (t : GlobalTree (List ℕ)) where
  -- what the check and the state ask for
  abbrev Checks : Type 0
  Checks = IsGlobal s.spaces.settings (constants_of groups s.spaces).«module» s.spaces.imported_globals t

  abbrev Fits : Type 0
  Fits = length s.spaces.globals < s.spaces.settings.limits.globals

  abbrev Adds : Settings → ModuleTree → Type 0
  Adds z m = (n : ModuleTree) × AddsRead z section.globals m t n

  module _ (z : Settings) (m : ModuleTree) (r : Stands groups s z m) where
    both_add : Checks → Fits → Adds z m
    both_add (c, spelled, valid) room =
        let x : GlobalTree Code = record { ty = t.ty; init = c } in
        let a = (globals_decided groups s z m r x).0 (valid, room) in
        (a.0, (x, (refl, subst (λ (y : Settings). SpelledExpression y c t.init) r.settings spelled), a.1))

    adds_both : Adds z m → Checks × Fits
    adds_both (n, (x, (e, spelled), adds)) =
        let h = (globals_decided groups s z m r x).1 (n, adds) in
        let P : GlobalType → Type 0
        = λ ty. IsValidGlobal s.spaces.settings (constants_of groups s.spaces).«module» s.spaces.imported_globals (length (constants_of groups s.spaces).«module».globals) (record { ty = ty; init = x.init }) in
        ((x.init, subst (λ (y : Settings). SpelledExpression y x.init t.init) (sym r.settings) spelled, subst P e h.0), h.1)

  -- the answers of the call
  pub global_told : (v : Unit {0}) → Checks → Fits → TellsItem {X = Unit {0}} section.globals groups s t (Ok v)
  global_told v p q z m r = both_add z m r.stands p q

  pub global_denied : (e : ErrorValue) → Denies e.kind Checks → TellsItem {X = Unit {0}} section.globals groups s t (Err e)
  global_denied e d z m r = denies_from e.kind Checks (Adds z m) (λ a. (adds_both z m r.stands a).0) d

  pub global_full : (e : ErrorValue) → Denies e.kind Fits → TellsItem {X = Unit {0}} section.globals groups s t (Err e)
  global_full e d z m r = denies_from e.kind Fits (Adds z m) (λ a. (adds_both z m r.stands a).1) d

  -- and what it leaves
  pub global_added : (kept : GlobalType) (names : List ℕ) (j : Items)
      → global_in (constants_of groups s.spaces) kept ≡ global_written (constants_of groups s.spaces).«module».types t.ty → NamesMore s.spaces.settings t.init [] names
      → j ≡ record s { spaces = marking names (adding_global kept s.spaces) } → AddsItem section.globals groups s t groups j
  global_added kept names j named more e z m n r (x, (ty, spelled), adds) =
      let all : names ≡ referred_in x.init = more x.init (subst (λ (y : Settings). SpelledExpression y x.init t.init) (sym r.stands.settings) spelled) in
      let means = named ∙ ap (global_written (constants_of groups s.spaces).«module».types) (sym ty) in
      let stands = globals_stand groups s z m r.stands r.last x kept means n adds in
      let k : j ≡ record s { spaces = marking (referred_in x.init) (adding_global kept s.spaces) }
      = e ∙ ap (λ (xs : List ℕ). record s { spaces = marking xs (adding_global kept s.spaces) }) all in
      record {
        stands = subst (λ (i : Items). Stands groups i z n) (sym k) stands;
        last = subst (λ (u : ModuleTree). u ≡ up_to section.globals u) (sym adds.added) (still_last section.globals m x r.last);
      }
