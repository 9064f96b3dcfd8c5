-- The functions that an element segment refers to: those of its offset, and then those of its elements (WebAssembly 3.0, validation,
-- modules, where the context has them as C.refs).
use Rattle.std.specs.Prelude.{◌≡◌, ℕ, List, [], ◌∷◌, ◌++◌, Option, Some, None}
use Rattle.wasm_types.specs.settings.Settings.{Settings}
use Rattle.wasm_types.specs.decoding.Decoder.{State, Decoder, Done, repeated}
use Rattle.wasm_operators_encoding.specs.ConstantDecoder.{constant}
use Rattle.wasm_sections_items.specs.limited.Walking.{Walk, fresh}
use Rattle.wasm_sections_items.specs.declared.elements.element.ElementKindOf.{ElementKindOf}
use Rattle.wasm_sections_items.specs.declared.elements.element.ElementKindOf.TheVariants as kinds
use Rattle.wasm_sections_items.specs.declared.elements.element.ElementItemsOf.{ElementItemsOf}
use Rattle.wasm_sections_items.specs.declared.elements.element.ElementItemsOf.TheVariants as items
use Rattle.wasm_sections_items.specs.elements.Spells.{ElementTree}
use Rattle.wasm_operators_encoding.specs.expressions.Code.{Code}
use Rattle.wasm_module_validator_checks.specs.rules.Spaces.{referred_in_mode, referred_in_items}
use Rattle.wasm_module_validator_resources.specs.referring.Naming.{NamesMore}
use Rattle.wasm_module_validator_resources.specs.rules_in_order.Texts.{SpelledMode, SpelledElements}
use Rattle.wasm_module_validator_initialisers.specs.elements.Items.{function_index}

-- the functions that the segment refers to stand behind the others, in their order
abbrev pub NamesElement : Settings → Option (ElementTree (List ℕ)) → List ℕ → List ℕ → Type 0
NamesElement z None before after = Unit {0}
NamesElement z (Some t) before after = (x : ElementTree Code) → SpelledMode z t.mode x.mode → SpelledElements z t.items x.items
    → after ≡ before ++ (referred_in_mode x.mode ++ referred_in_items x.items)

-- ---- its parts, as they are read

-- an element that is a function names it
abbrev pub NamesFunction : ℕ → List ℕ → List ℕ → Type 0
NamesFunction x before after = after ≡ before ++ x ∷ []

-- what each of these names stands behind the others, where N says what one names
abbrev pub NamesEach : {A : Type 0} → (A → List ℕ → List ℕ → Type 0) → List A → List ℕ → List ℕ → Type 0
NamesEach N [] before after = after ≡ before
NamesEach N (x ∷ xs) before after = (now : List ℕ) × N x before now × NamesEach N xs now after

-- the same of the values that are left
abbrev pub NamesLeft : {A : Type 0} → (A → List ℕ → List ℕ → Type 0) → (Settings → Decoder A) → Walk → List ℕ → List ℕ → Type 0
NamesLeft {A} N d w before after = (xs : List A) (t : State) → repeated w.left (d w.reader.settings) w.reader ≡ Done xs t
    → NamesEach N xs before after

abbrev pub NamesItems : Settings → ElementItemsOf State → List ℕ → List ℕ → Type 0
NamesItems z (items.Functions s) before after = NamesLeft NamesFunction function_index (fresh s.count s.reader) before after
NamesItems z (items.Expressions r s) before after = NamesLeft (NamesMore z) constant (fresh s.count s.reader) before after

abbrev pub NamesMode : Settings → ElementKindOf State → List ℕ → List ℕ → Type 0
NamesMode z kinds.Passive before after = after ≡ before
NamesMode z kinds.Declared before after = after ≡ before
NamesMode z (kinds.Active x e) before after = NamesMore z e.rest before after
