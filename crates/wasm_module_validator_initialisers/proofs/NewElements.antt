-- Element segments that are checked, and added.
use Rattle.std.proofs.Common.{◌≡◌, ◌∙◌, ◌<◌, ℕ, List, [], ◌++◌, length, refl, sym, ap, subst, Bool, true, false, Option, Some, None, Ok, Err}
use Rattle.std.specs.Prelude.{if◌then◌else◌}
use Rattle.wasm_types.specs.settings.Settings.{Settings}
use Rattle.wasm_operators_encoding.specs.ConstantDecoder.{constant}
use Rattle.wasm_types.specs.decoding.Decoder.{State}
use Rattle.wasm_types.specs.decoding.Denials.{Denies}
use Rattle.wasm_types.specs.decoding.DenialLaws.{denies_from}
use Rattle.wasm_types.specs.decoding.ErrorValue.{ErrorValue}
use Rattle.wasm_types.specs.trees.Trees.{TypeTree}
use Rattle.wasm_types.specs.values.Reference.{Reference}
use Rattle.wasm_operators_encoding.specs.expressions.Code.{Code}
use Rattle.wasm_operator_validator_state.specs.resources.Meaning.{reference_in}
use Rattle.wasm_module_validator_checks.specs.rules.Spaces.{element_type, referred_in_mode, referred_in_items}
use Rattle.wasm_module_validator_initialisers.specs.segments.Trees.{bytes_of}
use Rattle.wasm_module_validator_initialisers.specs.elements.Trees.{element_read}
use Rattle.wasm_module_validator_initialisers.specs.elements.Items.{item_type}
use Rattle.wasm_module_validator_initialisers.specs.elements.Judged.{IsElementThere}
use Rattle.wasm_module_validator_initialisers.specs.elements.Naming.{NamesElement}
use Rattle.wasm_module_validator_type_storage.specs.trees.Groups.{Group}
use Rattle.wasm_module_validator_state.specs.Adding.{adding_element}
use Rattle.wasm_module_validator_state.specs.Items.{Items}
use Rattle.wasm_sections_items.specs.declared.elements.element.ElementOf.{ElementOf}
use Rattle.wasm_sections_items.specs.declared.elements.element.ElementItemsOf.{ElementItemsOf}
use Rattle.wasm_sections_items.specs.declared.elements.element.ElementItemsOf.TheVariants as items
use Rattle.wasm_sections_items.specs.elements.Spells.{ElementTree, ElementItems, functions, expressions}
use Rattle.wasm_sections_items.specs.elements.Elements.{mode_of, items_of, has_whole}
use Rattle.wasm_module_validator_checks.specs.rules.Syntax.{ModuleTree}
use Rattle.wasm_module_validator_resources.specs.rules_in_order.Sections as section
use Rattle.wasm_module_validator_resources.specs.rules_in_order.Sections.{up_to}
use Rattle.wasm_module_validator_resources.specs.rules_in_order.Texts.{SpelledElements, SpelledElementRead, AddsRead}
use Rattle.wasm_module_validator_state.specs.invariant.Standing.{constants_of, Stands, TellsItem, AddsItem, marking}
use Rattle.wasm_module_validator_state.specs.invariant.laws.Deciding.{elements_decided}
use Rattle.wasm_module_validator_state.specs.invariant.laws.Behind.{still_last, elements_stand}

-- ---- the type of the elements

-- it is that of the elements that their bytes spell
module _ (z : Settings) (ts : List TypeTree) where
  items_alike : (i : ElementItemsOf State) (j : ElementItems Code) → SpelledElements z (items_of constant i) j → item_type ts i ≡ element_type ts j
  items_alike (items.Functions s) (functions ys) e = refl
  items_alike (items.Functions s) (expressions r cs) e = absurd e
  items_alike (items.Expressions q s) (functions ys) e = absurd e
  items_alike (items.Expressions q s) (expressions r cs) e = ap (λ (p : Reference). element_type ts (expressions p cs)) e.0

  type_alike : (x : ElementOf State) (y : ElementTree Code) → SpelledElementRead z (element_read x) y → item_type ts x.items ≡ element_type ts y.items
  type_alike x y h = go (has_whole constant x.items) h
    where
      go : (b : Bool) → SpelledElementRead z (if b then Some (record { mode = mode_of bytes_of x.kind; items = items_of constant x.items }) else None) y
          → item_type ts x.items ≡ element_type ts y.items
      go false k = absurd k
      go true k = items_alike x.items y.items k.1

-- ---- segments

-- what is named is what the segment refers to
element_named : (z : Settings) (o : Option (ElementTree (List ℕ))) (y : ElementTree Code) (names : List ℕ) → NamesElement z o [] names → SpelledElementRead z o y
    → names ≡ referred_in_mode y.mode ++ referred_in_items y.items
element_named z None y names h s = absurd s
element_named z (Some t) y names h s = h y s.0 s.1

module _ (groups : List Group) (s : Items) (o : Option (ElementTree (List ℕ))) where
  -- what the check and the state ask for
  abbrev Checks : Type 0
  Checks = IsElementThere s.spaces.settings (constants_of groups s.spaces).«module» s.spaces.imported_globals o

  abbrev Fits : Type 0
  Fits = length s.spaces.elements < s.spaces.settings.limits.element_segments

  abbrev Adds : Settings → ModuleTree → Type 0
  Adds z m = (n : ModuleTree) × AddsRead z section.element_segments m o n

module _ (groups : List Group) (s : Items) (z : Settings) (m : ModuleTree) (r : Stands groups s z m) where
  both_add : (o : Option (ElementTree (List ℕ))) → Checks groups s o → Fits groups s o → Adds groups s o z m
  both_add None h room = absurd h
  both_add (Some t) (y, mode, items, valid) room =
      let a = (elements_decided groups s z m r y).0 (valid, room) in
      let spelled : SpelledElementRead s.spaces.settings (Some t) y = (mode, items) in
      (a.0, (y, subst (λ (w : Settings). SpelledElementRead w (Some t) y) r.settings spelled, a.1))

  adds_both : (o : Option (ElementTree (List ℕ))) → Adds groups s o z m → Checks groups s o × Fits groups s o
  adds_both None (n, (y, spelled, adds)) = absurd spelled
  adds_both (Some t) (n, (y, spelled, adds)) =
      let h = (elements_decided groups s z m r y).1 (n, adds) in
      let here_spelled = subst (λ (w : Settings). SpelledElementRead w (Some t) y) (sym r.settings) spelled in
      ((y, here_spelled.0, here_spelled.1, h.0), h.1)

module _ (groups : List Group) (s : Items) (x : ElementOf State) where
  -- the answers of the call
  pub element_told : (v : Unit {0}) → Checks groups s (element_read x) → Fits groups s (element_read x)
      → TellsItem {X = Unit {0}} section.element_segments groups s (element_read x) (Ok v)
  element_told v p q z m r = both_add groups s z m r.stands (element_read x) p q

  pub element_denied : (e : ErrorValue) → Denies e.kind (Checks groups s (element_read x))
      → TellsItem {X = Unit {0}} section.element_segments groups s (element_read x) (Err e)
  element_denied e d z m r =
      denies_from e.kind (Checks groups s (element_read x)) (Adds groups s (element_read x) z m) (λ a. (adds_both groups s z m r.stands (element_read x) a).0) d

  pub element_full : (e : ErrorValue) → Denies e.kind (Fits groups s (element_read x))
      → TellsItem {X = Unit {0}} section.element_segments groups s (element_read x) (Err e)
  element_full e d z m r =
      denies_from e.kind (Fits groups s (element_read x)) (Adds groups s (element_read x) z m) (λ a. (adds_both groups s z m r.stands (element_read x) a).1) d

  -- and what it leaves
  pub element_added : (kept : Reference) (names : List ℕ) (j : Items)
      → reference_in (constants_of groups s.spaces) kept ≡ item_type (constants_of groups s.spaces).«module».types x.items → NamesElement s.spaces.settings (element_read x) [] names
      → j ≡ record s { spaces = marking names (adding_element kept s.spaces) } → AddsItem section.element_segments groups s (element_read x) groups j
  element_added kept names j named more e z m n r (y, spelled, adds) =
      let here_spelled = subst (λ (w : Settings). SpelledElementRead w (element_read x) y) (sym r.stands.settings) spelled in
      let all = element_named s.spaces.settings (element_read x) y names more here_spelled in
      let means = named ∙ type_alike s.spaces.settings (constants_of groups s.spaces).«module».types x y here_spelled in
      let stands = elements_stand groups s z m r.stands y kept means n adds in
      let k : j ≡ record s { spaces = marking (referred_in_mode y.mode ++ referred_in_items y.items) (adding_element kept s.spaces) }
      = e ∙ ap (λ (xs : List ℕ). record s { spaces = marking xs (adding_element kept s.spaces) }) all in
      record {
        stands = subst (λ (i : Items). Stands groups i z n) (sym k) stands;
        last = subst (λ (u : ModuleTree). u ≡ up_to section.element_segments u) (sym adds.added) (still_last section.element_segments m y r.last);
      }
