-- Tables that are checked, and added.
use Rattle.std.proofs.Common.{◌≡◌, ◌∙◌, ◌<◌, ◌≤◌, ℕ, List, [], ◌++◌, length, map, refl, sym, ap, subst, arith, Bool, Option, Some, None, Ok, Err}
use Rattle.std.proofs.lemmas.List.{length-map, append-nil}
use Rattle.wasm_types.specs.settings.Settings.{Settings}
use Rattle.wasm_types.specs.decoding.Denials.{Denies}
use Rattle.wasm_types.specs.decoding.DenialLaws.{denies_from}
use Rattle.wasm_types.specs.decoding.ErrorValue.{ErrorValue}
use Rattle.wasm_types.specs.externs.declared.table.TableType.{TableType}
use Rattle.wasm_operators_encoding.specs.expressions.Code.{Code}
use Rattle.wasm_operator_validator_state.specs.resources.Meaning.{table_in}
use Rattle.wasm_operator_validator_rules.specs.Operands.{ValueType}
use Rattle.wasm_operator_validator_rules.specs.Context.{Module}
use Rattle.wasm_module_validator_checks.specs.rules.Spaces.{referred_in_option, table_in as table_written, imported, global_of, global_space}
use Rattle.wasm_module_validator_checks.specs.rules.Valid.{IsValidTable, most_tables}
use Rattle.wasm_module_validator_initialisers.specs.segments.Judged.{IsTable, IsInitText}
use Rattle.wasm_module_validator_type_storage.specs.trees.Groups.{Group}
use Rattle.wasm_module_validator_state.specs.Adding.{adding_table}
use Rattle.wasm_module_validator_state.specs.Items.{Items}
use Rattle.wasm_sections_items.specs.segments.Spells.{GlobalTree}
use Rattle.wasm_sections_items.specs.segments.Tables.{TableTree}
use Rattle.wasm_module_validator_checks.specs.rules.Syntax.{ModuleTree}
use Rattle.wasm_module_validator_resources.specs.rules_in_order.Sections as section
use Rattle.wasm_module_validator_resources.specs.rules_in_order.Sections.{up_to}
use Rattle.wasm_module_validator_resources.specs.rules_in_order.Texts.{SpelledInit, AddsRead}
use Rattle.wasm_module_validator_state.specs.invariant.so_far.SoFar.{sizes_of}
use Rattle.wasm_module_validator_state.specs.invariant.Standing.{constants_of, Stands, IsReading, TellsItem, AddsItem, marking}
use Rattle.wasm_module_validator_state.specs.invariant.laws.Deciding.{tables_decided}
use Rattle.wasm_module_validator_state.specs.invariant.laws.Behind.{still_last, tables_stand}
use Rattle.wasm_module_validator_initialisers.specs.adding.Read.{NamesInit}

-- while tables are read there are no globals but those that are imported
few_globals : (groups : List Group) (s : Items) (z : Settings) (m : ModuleTree) → IsReading section.tables groups s z m
    → length (constants_of groups s.spaces).«module».globals ≤ s.spaces.imported_globals
few_globals groups s z m r =
    let none : m.globals ≡ [] = ap (λ (t : ModuleTree). t.globals) r.last in
    let all : length (constants_of groups s.spaces).«module».globals ≡ length (global_space m) = ap length r.stands.read.globals ∙ length-map (global_space m) _ in
    let own : length (global_space m) ≡ length (imported global_of m)
    = ap (λ (xs : List (GlobalTree Code)). length (imported global_of m ++ map (λ (x : GlobalTree Code). x.ty) xs)) none ∙ ap length (append-nil (imported global_of m)) in
    let same : length (constants_of groups s.spaces).«module».globals ≡ s.spaces.imported_globals = all ∙ own ∙ sym r.stands.read.imported_globals in
    omega (arith, same)

-- what is named is what the expression refers to, if there is one
init_named : (z : Settings) (p : Option (List ℕ)) (o : Option Code) (names : List ℕ) → NamesInit z p [] names → SpelledInit z p o → names ≡ referred_in_option o
init_named z None None names h s = h
init_named z None (Some c) names h s = absurd s
init_named z (Some text) None names h s = absurd s
init_named z (Some text) (Some c) names h s = h c s

-- what the elements are at first is spelled
pub init_spelled : (z : Settings) (g : Module) (count : ℕ) (nullable : Bool) (t : ValueType) (p : Option (List ℕ)) → IsInitText z g count nullable t p
    → (o : Option Code) × SpelledInit z p o
init_spelled z g count nullable t None h = (None, tt)
init_spelled z g count nullable t (Some text) (allowed, (c, spelled, typed)) = (Some c, spelled)

module _ (groups : List Group) (s : Items) (t : TableTree (List ℕ)) where
  -- what the check and the state ask for; the check answers where tables come in turn
  abbrev Checks : Type 0
  Checks = IsTable s.spaces.settings (constants_of groups s.spaces).«module» s.spaces.imported_globals t

  abbrev InTurn : Type 0
  InTurn = length (constants_of groups s.spaces).«module».globals ≤ s.spaces.imported_globals

  abbrev Fits : Type 0
  Fits = length s.spaces.tables < most_tables s.spaces.settings

  abbrev Adds : Settings → ModuleTree → Type 0
  Adds z m = (n : ModuleTree) × AddsRead z section.tables m t n

  module _ (z : Settings) (m : ModuleTree) (r : Stands groups s z m) where
    both_add : Checks → Fits → Adds z m
    both_add (o, spelled, valid) room =
        let x : TableTree Code = record { ty = t.ty; init = o } in
        let a = (tables_decided groups s z m r x).0 (valid, room) in
        (a.0, (x, (refl, subst (λ (y : Settings). SpelledInit y t.init o) r.settings spelled), a.1))

    adds_both : Adds z m → Checks × Fits
    adds_both (n, (x, (e, spelled), adds)) =
        let h = (tables_decided groups s z m r x).1 (n, adds) in
        let P : TableType → Type 0 = λ ty. IsValidTable s.spaces.settings (constants_of groups s.spaces).«module» s.spaces.imported_globals (record { ty = ty; init = x.init }) in
        ((x.init, subst (λ (y : Settings). SpelledInit y t.init x.init) (sym r.settings) spelled, subst P e h.0), h.1)

  -- the answers of the call
  pub table_told : (v : Unit {0}) → (InTurn → Checks) → Fits → TellsItem {X = Unit {0}} section.tables groups s t (Ok v)
  table_told v p q z m r = both_add z m r.stands (p (few_globals groups s z m r)) q

  pub table_denied : (e : ErrorValue) → (InTurn → Denies e.kind Checks) → TellsItem {X = Unit {0}} section.tables groups s t (Err e)
  table_denied e d z m r = denies_from e.kind Checks (Adds z m) (λ a. (adds_both z m r.stands a).0) (d (few_globals groups s z m r))

  pub table_full : (e : ErrorValue) → Denies e.kind Fits → TellsItem {X = Unit {0}} section.tables groups s t (Err e)
  table_full e d z m r = denies_from e.kind Fits (Adds z m) (λ a. (adds_both z m r.stands a).1) d

  -- and what it leaves
  pub table_added : (kept : TableType) (names : List ℕ) (j : Items)
      → table_in (constants_of groups s.spaces) kept ≡ table_written (constants_of groups s.spaces).«module».types t.ty → sizes_of kept ≡ sizes_of t.ty
      → NamesInit s.spaces.settings t.init [] names
      → j ≡ record s { spaces = marking names (adding_table kept s.spaces) } → AddsItem section.tables groups s t groups j
  table_added kept names j named sizes more e z m n r (x, (ty, spelled), adds) =
      let all : names ≡ referred_in_option x.init
      = init_named s.spaces.settings t.init x.init names more (subst (λ (y : Settings). SpelledInit y t.init x.init) (sym r.stands.settings) spelled) in
      let means = named ∙ ap (table_written (constants_of groups s.spaces).«module».types) (sym ty) in
      let stands = tables_stand groups s z m r.stands r.last x kept means (sizes ∙ ap sizes_of (sym ty)) n adds in
      let k : j ≡ record s { spaces = marking (referred_in_option x.init) (adding_table kept s.spaces) }
      = e ∙ ap (λ (xs : List ℕ). record s { spaces = marking xs (adding_table kept s.spaces) }) all in
      record {
        stands = subst (λ (i : Items). Stands groups i z n) (sym k) stands;
        last = subst (λ (u : ModuleTree). u ≡ up_to section.tables u) (sym adds.added) (still_last section.tables m x r.last);
      }
