-- Element segments of the code as trees.
use Rattle.std.specs.Prelude.{◌≡◌, ℕ, ◌==◌, List, map, length, Bool, true, false, Option, Some, None, Result, if◌then◌else◌}
use Rattle.std.specs.Iterator.{Drains}
use Rattle.wasm_types.specs.settings.Settings.{Settings}
use Rattle.wasm_types.specs.decoding.Decoder.{State, Outcome, Done, Short, Fault, Decoder, repeated}
use Rattle.wasm_types.specs.decoding.ErrorValue.{ErrorValue}
use Rattle.wasm_sections_items.specs.limited.Walking.{fresh, plainly, ok, NeverLacksMemory}
use Rattle.wasm_sections_items.specs.declared.elements.element.ElementOf.{ElementOf}
use Rattle.wasm_types.specs.decoding.Leb.{u32}
use Rattle.wasm_sections_items.specs.declared.elements.element.ElementKindOf.{ElementKindOf}
use Rattle.wasm_sections_items.specs.declared.elements.element.ElementKindOf.TheVariants.{Passive, Active, Declared}
use Rattle.wasm_sections_items.specs.declared.elements.element.ElementItemsOf.{ElementItemsOf}
use Rattle.wasm_sections_items.specs.declared.elements.element.ElementItemsOf.TheVariants.{Functions, Expressions}
use Rattle.wasm_sections_items.specs.elements.Spells.{ElementMode, passive, active, declared, ElementItems, functions, expressions, ElementTree}
use Rattle.wasm_sections_items.specs.elements.Passing.{items_at, Holds}

-- how a segment is used, where v is the tree of an expression
abbrev pub mode_of : {E C : Type 0} → (E → C) → ElementKindOf E → ElementMode C
mode_of v Passive = passive
mode_of v (Active t x) = active t (v x)
mode_of v Declared = declared

-- the elements that the readers of a segment hold, where d reads an expression
abbrev pub items_of : {E C : Type 0} → (Settings → Decoder C) → ElementItemsOf E → ElementItems C
items_of d (Functions s) = functions (items_at u32 s.count s.reader)
items_of d (Expressions r s) = expressions r (items_at (d s.reader.settings) s.count s.reader)

-- the readers of a segment that ends at t hold all bytes of its list of elements, and no others
abbrev pub HoldsItems : {E C : Type 0} → (Settings → Decoder C) → State → ElementItemsOf E → Type 0
HoldsItems d t (Functions s) = (v : State) × Holds u32 v t s.count s.reader
HoldsItems d t (Expressions r s) = (v : State) × Holds (d v.settings) v t s.count s.reader

-- whether all was read, and no byte is left behind it
abbrev pub is_whole : {A : Type 0} → Outcome A → Bool
is_whole (Done x t) = length t.rest == 0
is_whole (Short p h) = false
is_whole (Fault k p) = false

-- whether the readers of a segment have as many elements as they count, and no byte behind them
abbrev pub has_whole : {E C : Type 0} → (Settings → Decoder C) → ElementItemsOf E → Bool
has_whole d (Functions s) = is_whole (repeated s.count u32 s.reader)
has_whole d (Expressions r s) = is_whole (repeated s.count (d s.reader.settings) s.reader)

-- A segment as its tree. It has none where its readers have other elements than they count.
abbrev pub tree_of : {E C : Type 0} → (E → C) → (Settings → Decoder C) → ElementOf E → Option (ElementTree C)
tree_of v d x = if has_whole d x.items then Some (record { mode = mode_of v x.kind; items = items_of d x.items }) else None

-- whatever a walk over n items from here gives until it ends, it is these and no error, out of memory aside
abbrev pub GivesAll : {A : Type 0} → Decoder A → ℕ → State → List A → Type 0
GivesAll {A} d n s xs = (items : List (Result A ErrorValue)) → Drains (plainly d) (fresh n s) items → NeverLacksMemory items
    → items ≡ map ok xs

-- walks over the readers of a segment give its elements
abbrev pub GivesItems : {E C : Type 0} → (Settings → Decoder C) → ElementItemsOf E → ElementItems C → Type 0
GivesItems d (Functions s) (functions ys) = GivesAll u32 s.count s.reader ys
GivesItems d (Functions s) (expressions r xs) = ⊥
GivesItems d (Expressions r s) (functions ys) = ⊥
GivesItems d (Expressions r s) (expressions q xs) = (r ≡ q) × GivesAll (d s.reader.settings) s.count s.reader xs
