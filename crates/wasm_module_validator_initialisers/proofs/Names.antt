-- What a segment names, by its parts.
use Rattle.std.proofs.Common.{◌≡◌, ◌∙◌, ℕ, List, [], ◌∷◌, ◌++◌, flat_map, refl, sym, ap, Bool, true, false, Some, None}
use Rattle.std.specs.Prelude.{if◌then◌else◌}
use Rattle.std.specs.List.{AllZip}
use Rattle.std.proofs.lemmas.List.{append_assoc, append-nil}
use Rattle.wasm_types.specs.settings.Settings.{Settings}
use Rattle.wasm_types.specs.decoding.Decoder.{State, Outcome, Done, Short, Fault, Decoder, repeated}
use Rattle.wasm_operators_encoding.specs.ConstantDecoder.{constant}
use Rattle.wasm_sections_items.specs.limited.Walking.{fresh}
use Rattle.wasm_sections_items.specs.declared.elements.element.ElementOf.{ElementOf}
use Rattle.wasm_sections_items.specs.declared.elements.element.ElementKindOf.{ElementKindOf}
use Rattle.wasm_sections_items.specs.declared.elements.element.ElementKindOf.TheVariants as kinds
use Rattle.wasm_sections_items.specs.declared.elements.element.ElementItemsOf.{ElementItemsOf}
use Rattle.wasm_sections_items.specs.declared.elements.element.ElementItemsOf.TheVariants as items
use Rattle.wasm_sections_items.specs.elements.Spells.{ElementTree, ElementMode, ElementItems, passive, active, declared, functions, expressions}
use Rattle.wasm_sections_items.specs.elements.Passing.{values_of, items_at}
use Rattle.wasm_sections_items.specs.elements.Elements.{mode_of, items_of, is_whole, has_whole}
use Rattle.wasm_module_validator_initialisers.specs.segments.Trees.{bytes_of}
use Rattle.wasm_operators_encoding.specs.expressions.Code.{Code}
use Rattle.wasm_operators_encoding.specs.expressions.Spelling.{SpelledExpression}
use Rattle.wasm_module_validator_checks.specs.rules.Spaces.{referred_in, referred_in_mode, referred_in_items}
use Rattle.wasm_module_validator_resources.specs.referring.Naming.{NamesMore}
use Rattle.wasm_module_validator_resources.specs.rules_in_order.Texts.{SpelledMode, SpelledElements}
use Rattle.wasm_module_validator_initialisers.specs.elements.Trees.{element_read}
use Rattle.wasm_module_validator_initialisers.specs.elements.Items.{function_index}
use Rattle.wasm_module_validator_initialisers.specs.elements.Naming.{NamesElement, NamesFunction, NamesEach, NamesLeft, NamesItems, NamesMode}

each_function : (xs before after : List ℕ) → NamesEach NamesFunction xs before after → after ≡ before ++ xs
each_function [] before after h = h ∙ sym (append-nil before)
each_function (x ∷ xs) before after (now, n, h) = each_function xs now after h ∙ ap (λ (ys : List ℕ). ys ++ xs) n ∙ append_assoc before (x ∷ []) xs

module _ (z : Settings) where
  each_constant : (texts : List (List ℕ)) (cs : List Code) (before after : List ℕ) → AllZip (λ text c. SpelledExpression z c text) texts cs → NamesEach (NamesMore z) texts before after
      → after ≡ before ++ flat_map referred_in cs
  each_constant [] [] before after s h = h ∙ sym (append-nil before)
  each_constant [] (c ∷ cs) before after s h = absurd s
  each_constant (text ∷ texts) [] before after s h = absurd s
  each_constant (text ∷ texts) (c ∷ cs) before after s (now, n, h) =
      each_constant texts cs now after s.1 h ∙ ap (λ (ys : List ℕ). ys ++ flat_map referred_in cs) (n c s.0) ∙ append_assoc before (referred_in c) (flat_map referred_in cs)

  module _ {A : Type 0} (N : A → List ℕ → List ℕ → Type 0) (d : Settings → Decoder A) (n : ℕ) (s : State) (before after : List ℕ) (h : NamesLeft N d (fresh n s) before after) where
    names_at : (o : Outcome (List A)) → repeated n (d s.settings) s ≡ o → is_whole o ≡ true → NamesEach N (values_of o) before after
    names_at (Done xs t) e w = h xs t e
    names_at (Short p k) e w = absurd cc
    names_at (Fault k p) e w = absurd cc

    names_whole : is_whole (repeated n (d s.settings) s) ≡ true → NamesEach N (items_at (d s.settings) n s) before after
    names_whole w = names_at (repeated n (d s.settings) s) refl w

  items_named : (i : ElementItemsOf State) (y : ElementItems Code) (before after : List ℕ) → has_whole constant i ≡ true → SpelledElements z (items_of constant i) y
      → NamesItems z i before after → after ≡ before ++ referred_in_items y
  items_named (items.Functions s) (functions ys) before after w e h =
      each_function _ before after (names_whole NamesFunction function_index s.count s.reader before after h w) ∙ ap (λ (xs : List ℕ). before ++ xs) e
  items_named (items.Functions s) (expressions r cs) before after w e h = absurd e
  items_named (items.Expressions q s) (functions ys) before after w e h = absurd e
  items_named (items.Expressions q s) (expressions r cs) before after w e h =
      each_constant _ cs before after e.1 (names_whole (NamesMore z) constant s.count s.reader before after h w)

  mode_named : (k : ElementKindOf State) (y : ElementMode Code) (before after : List ℕ) → SpelledMode z (mode_of bytes_of k) y → NamesMode z k before after
      → after ≡ before ++ referred_in_mode y
  mode_named kinds.Passive passive before after s h = h ∙ sym (append-nil before)
  mode_named kinds.Passive (active x c) before after s h = absurd s
  mode_named kinds.Passive declared before after s h = absurd s
  mode_named kinds.Declared passive before after s h = absurd s
  mode_named kinds.Declared (active x c) before after s h = absurd s
  mode_named kinds.Declared declared before after s h = h ∙ sym (append-nil before)
  mode_named (kinds.Active x e) passive before after s h = absurd s
  mode_named (kinds.Active x e) (active y c) before after s h = h c s.1
  mode_named (kinds.Active x e) declared before after s h = absurd s

  abbrev tree : ElementOf State → ElementTree (List ℕ)
  tree x = record { mode = mode_of bytes_of x.kind; items = items_of constant x.items }

  pub element_named : (x : ElementOf State) (before now after : List ℕ) → NamesMode z x.kind before now → NamesItems z x.items now after → NamesElement z (element_read x) before after
  element_named x before now after m i = go (has_whole constant x.items) refl
    where
      go : (b : Bool) → has_whole constant x.items ≡ b → NamesElement z (if b then Some (tree x) else None) before after
      go false w = tt
      go true w = λ y mode items.
          items_named x.items y.items now after w items i ∙ ap (λ (xs : List ℕ). xs ++ referred_in_items y.items) (mode_named x.kind y.mode before now mode m)
          ∙ append_assoc before (referred_in_mode y.mode) (referred_in_items y.items)
