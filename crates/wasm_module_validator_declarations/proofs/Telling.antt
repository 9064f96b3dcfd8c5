-- What a call of the state tells is what is told of the tree.
use Rattle.std.proofs.Common.{◌≡◌, ◌↔◌, ◌<◌, ◌≤◌, ◌+◌, ℕ, false, true, IsTrue, List, length, Result, Ok, Err, refl, ap, subst}
use Rattle.wasm_types.specs.decoding.ErrorValue.{ErrorValue}
use Rattle.wasm_types.specs.decoding.Denials.{Denies, Tells}
use Rattle.wasm_types.specs.decoding.DenialLaws.{denies_from}
use Rattle.wasm_types.specs.externs.declared.memory.MemoryType.{MemoryType}
use Rattle.wasm_types.specs.externs.declared.tag.TagType.{TagType}
use Rattle.wasm_types.specs.settings.Features.{BulkMemory}
use Rattle.wasm_types.specs.settings.Settings.{Settings}
use Rattle.wasm_types.specs.trees.Gates.{Has}
use Rattle.wasm_types.specs.trees.ValidGroup.{Written, IsValidGroup}
use Rattle.wasm_module_validator_type_list.specs.List.{HasRoom}
use Rattle.wasm_module_validator_type_storage.specs.trees.Groups.{Group}
use Rattle.wasm_module_validator_type_groups.specs.adding.Interned.{space_of}
use Rattle.wasm_module_validator_state.specs.resources.Reading.{context_of}
use Rattle.wasm_module_validator_state.specs.Items.{Items, IsImportable, IsExportable}
use Rattle.wasm_sections_items.specs.imports.Spells.{ImportTree, ExportTree}
use Rattle.wasm_module_validator_section_order.specs.rules.Syntax.{ModuleTree}
use Rattle.wasm_module_validator_section_order.specs.rules.Valid.{IsFunctionIndex, IsValidMemoryType, IsValidTagType, IsValidStart, most_memories}
use Rattle.wasm_module_validator_section_order.specs.rules_in_order.Sections as section
use Rattle.wasm_module_validator_section_order.specs.rules_in_order.Adding.{Adds}
use Rattle.wasm_module_validator_section_order.specs.rules_in_order.Texts.{AddsRead}
use Rattle.wasm_module_validator_state.specs.invariant.Standing.{MayGrow, IsReading, IsBefore, TellsItem}
use Rattle.wasm_module_validator_state.specs.invariant.laws.Deciding.{functions_decided, memories_decided, tags_decided, exports_decided, imports_decided, start_decided, data_count_decided}
use Rattle.wasm_module_validator_state.specs.invariant.laws.Growing.{group_decided}

pub tells_from : {X : Type 0} (r : Result X ErrorValue) (P Q : Type 0) → P ↔ Q → Tells r P → Tells r Q
tells_from (Ok x) P Q e t = e.0 t
tells_from (Err x) P Q e t = denies_from x.kind P Q e.1 t

-- what is read of an item without constants is the item
abbrev Itself : {A B : Type 0} → (A → B → Type 0) → A → B → Type 0
Itself Q x n = (y : _) × (y ≡ x) × Q y n

itself : {A B : Type 0} (P : Type 0) (Q : A → B → Type 0) (x : A) → P ↔ ((n : B) × Q x n) → P ↔ ((n : B) × Itself Q x n)
itself P Q x e = (λ p. let a = e.0 p in (a.0, (x, refl, a.1)), λ a. e.1 (a.0, subst (λ z. Q z a.0) a.1.1 a.1.2))

module _ {X : Type 0} (groups : List Group) (s : Items) (r : Result X ErrorValue) where
  pub import_told : (i : ImportTree) → Tells r (IsImportable groups s i.ty) → TellsItem section.imports groups s i r
  import_told i t z m h = tells_from r _ _ (itself _ (Adds z section.imports m) i (imports_decided groups s z m h.stands i)) t

  pub function_told : (x : ℕ) → Tells r (IsFunctionIndex (context_of groups s.spaces) x × (length s.spaces.functions < s.spaces.settings.limits.functions))
      → TellsItem section.functions groups s x r
  function_told x t z m h = tells_from r _ _ (itself _ (Adds z section.functions m) x (functions_decided groups s z m h.stands x)) t

  pub memory_told : (y : MemoryType) → Tells r (IsValidMemoryType s.spaces.settings y × (length s.spaces.memories < most_memories s.spaces.settings)) → TellsItem section.memories groups s y r
  memory_told y t z m h = tells_from r _ _ (itself _ (Adds z section.memories m) y (memories_decided groups s z m h.stands y)) t

  pub tag_told : (y : TagType) → Tells r (IsValidTagType s.spaces.settings (context_of groups s.spaces) y × (length s.spaces.tags < s.spaces.settings.limits.tags))
      → TellsItem section.tags groups s y r
  tag_told y t z m h = tells_from r _ _ (itself _ (Adds z section.tags m) y (tags_decided groups s z m h.stands y)) t

  pub export_told : (e : ExportTree) → Tells r (IsExportable groups s e.name e.kind e.index false) → TellsItem section.exports groups s e r
  export_told e t z m h = tells_from r _ _ (itself _ (Adds z section.exports m) e (exports_decided groups s z m h.stands e)) t

  pub start_told : (x : ℕ) → Tells r (IsValidStart (context_of groups s.spaces) x) → (z : Settings) (m : ModuleTree) → IsBefore section.start groups s z m
      → Tells r ((n : ModuleTree) × Adds z section.start m x n)
  start_told x t z m h = tells_from r _ _ (start_decided groups s z m h.stands x (ap (λ (k : ModuleTree). k.start) h.unread)) t

  pub count_told : (x : ℕ) → Tells r (Has s.spaces.settings.features BulkMemory × (x ≤ s.spaces.settings.limits.data_segments)) → (z : Settings) (m : ModuleTree)
      → IsBefore section.data_count groups s z m → Tells r ((n : ModuleTree) × Adds z section.data_count m x n)
  count_told x t z m h = tells_from r _ _ (data_count_decided groups s z m h.stands x (ap (λ (k : ModuleTree). k.data_count) h.unread)) t

-- ---- groups

module _ (groups : List Group) (s : Items) (many : ℕ) (g : Written) (n : ℕ) (same : n ≡ length g.types) where
  -- the group is told of each tree that has so many groups
  abbrev Told : {X : Type 0} → Result X ErrorValue → Type 0
  Told r = (z : Settings) (m : ModuleTree) → IsReading section.types groups s z m → many ≡ length m.types → Tells r ((k : ModuleTree) × AddsRead z section.types m g k)

  decided : (z : Settings) (m : ModuleTree) → IsReading section.types groups s z m → many ≡ length m.types → MayGrow groups s many n g ↔ ((k : ModuleTree) × AddsRead z section.types m g k)
  decided z m h e = itself (MayGrow groups s many n g) (Adds z section.types m) g (group_decided groups s z m h.stands many e g n same)

  -- there are fewer than the limit, and at most as many types with it
  abbrev Fits : Type 0
  Fits = (many < s.spaces.settings.limits.types) × (length s.spaces.types + n ≤ s.spaces.settings.limits.types)

  -- where it does not fit
  pub group_refused : (X : Type 0) (e : ErrorValue) → Denies e.kind Fits → Told {X = X} (Err e)
  group_refused X e d z m h k = denies_from e.kind _ _ (λ a. let b = (decided z m h k).1 a in (b.0, b.1.0 refl)) d

  -- and where it does, and the list has room for it
  pub group_told : {X : Type 0} (r : Result X ErrorValue) → Fits → HasRoom groups n
      → Tells r ((IsTrue true → length s.spaces.types + n ≤ s.spaces.settings.limits.types) × IsValidGroup s.spaces.settings (space_of groups s.spaces.types) g × HasRoom groups n) → Told r
  group_told r f room t z m h k =
      let d = decided z m h k in
      tells_from r _ _ (λ a. d.0 (f.0, (a.0, a.1)), λ b. let a = (d.1 b).1 in (a.0, a.1, room)) t
