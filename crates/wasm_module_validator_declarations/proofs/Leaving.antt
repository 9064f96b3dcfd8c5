-- What a call of the state leaves stands for each tree that has the item more.
use Rattle.std.proofs.Common.{◌≡◌, ◌∙◌, ℕ, List, ◌++◌, Result, Ok, Err, OnOk, OnErr, ap, sym, subst}
use Rattle.wasm_types.specs.decoding.ErrorValue.{ErrorValue}
use Rattle.wasm_types.specs.externs.declared.memory.MemoryType.{MemoryType}
use Rattle.wasm_types.specs.externs.declared.tag.TagType.{TagType}
use Rattle.wasm_types.specs.settings.Settings.{Settings}
use Rattle.wasm_types.specs.trees.ValidGroup.{Written, types_of}
use Rattle.wasm_module_validator_type_storage.specs.trees.Groups.{Group}
use Rattle.wasm_module_validator_type_groups.specs.adding.Interned.{space_of, AddsGroup}
use Rattle.wasm_module_validator_state.specs.Adding.{adding_function, adding_memory, adding_tag, counting_data}
use Rattle.wasm_module_validator_state.specs.Items.{Items, IsImported, IsExported}
use Rattle.wasm_sections_items.specs.imports.Spells.{ImportTree, ExportTree}
use Rattle.wasm_module_validator_section_order.specs.rules.Syntax.{ModuleTree}
use Rattle.wasm_module_validator_section_order.specs.rules_in_order.Sections as section
use Rattle.wasm_module_validator_section_order.specs.rules_in_order.Sections.{Section, Item, up_to}
use Rattle.wasm_module_validator_section_order.specs.rules_in_order.Adding.{Adds}
use Rattle.wasm_module_validator_state.specs.invariant.Standing.{Stands, IsReading, IsBefore, AddsItem}
use Rattle.wasm_module_validator_state.specs.invariant.laws.Beginning.{unread_is_last}
use Rattle.wasm_module_validator_state.specs.invariant.laws.Behind.{still_last, functions_stand, memories_stand, tags_stand, exports_stand, starts_stand, data_counts_stand, kept_settings, kept_types}
use Rattle.wasm_module_validator_state.specs.invariant.laws.Growing.{groups_stand}
use Rattle.wasm_module_validator_state.specs.invariant.laws.Importing.{imports_stand, settings_stay, types_stay}

-- ---- answers

pub on_ok : {X : Type 0} (r : Result X ErrorValue) (P Q : Type 0) → (P → Q) → OnOk r P → OnOk r Q
on_ok (Ok x) P Q f h = f h
on_ok (Err e) P Q f h = tt

pub on_ok_both : {X : Type 0} (r : Result X ErrorValue) (P Q R : Type 0) → (P → Q → R) → OnOk r P → OnOk r Q → OnOk r R
on_ok_both (Ok x) P Q R f p q = f p q
on_ok_both (Err e) P Q R f p q = tt

pub always : {X : Type 0} (r : Result X ErrorValue) (P : Type 0) → P → OnOk r P
always (Ok x) P h = h
always (Err e) P h = tt

-- what is so in both cases
pub in_both : {X : Type 0} (r : Result X ErrorValue) (P Q R : Type 0) → (P → R) → (Q → R) → OnOk r P → OnErr r Q → R
in_both (Ok x) P Q R f g p q = f p
in_both (Err e) P Q R f g p q = g q

-- ---- an item more

-- the state stands for the tree with the item, and nothing was read behind its section
behind : (s : Section) (groups more : List Group) (i j : Items) (z : Settings) (m n : ModuleTree) (x : Item s) → m ≡ up_to s m → Adds z s m x n → Stands more j z n → IsReading s more j z n
behind s groups more i j z m n x u a r = record { stands = r; last = subst (λ t. t ≡ up_to s t) (sym a.added) (still_last s m x u) }

-- the same of what was read of the item
read_behind : (s : Section) (groups more : List Group) (i j : Items) (x : Item s)
    → ((z : Settings) (m n : ModuleTree) → Stands groups i z m → m ≡ up_to s m → Adds z s m x n → Stands more j z n)
    → (z : Settings) (m n : ModuleTree) → IsReading s groups i z m → (y : Item s) × (y ≡ x) × Adds z s m y n → IsReading s more j z n
read_behind s groups more i j x f z m n h a =
    let b = subst (λ (y : Item s). Adds z s m y n) a.1 a.2 in
    behind s groups more i j z m n x h.last b (f z m n h.stands h.last b)

module _ (groups : List Group) (i : Items) where
  pub import_left : (x : ImportTree) (j : Items) → IsImported groups x i j → AddsItem section.imports groups i x groups j
  import_left x j k = read_behind section.imports groups groups i j x (λ z m n r u a. imports_stand groups i z m r u x n a j k)

  pub function_left : (x : ℕ) (j : Items) → j ≡ record i { spaces = adding_function x i.spaces } → AddsItem section.functions groups i x groups j
  function_left x j e = subst (AddsItem section.functions groups i x groups) (sym e)
      (read_behind section.functions groups groups i (record i { spaces = adding_function x i.spaces }) x (λ z m n r u a. functions_stand groups i z m r u x n a))

  pub memory_left : (x : MemoryType) (j : Items) → j ≡ record i { spaces = adding_memory x i.spaces } → AddsItem section.memories groups i x groups j
  memory_left x j e = subst (AddsItem section.memories groups i x groups) (sym e)
      (read_behind section.memories groups groups i (record i { spaces = adding_memory x i.spaces }) x (λ z m n r u a. memories_stand groups i z m r u x n a))

  pub tag_left : (x : TagType) (j : Items) → j ≡ record i { spaces = adding_tag x.func_type_idx i.spaces } → AddsItem section.tags groups i x groups j
  tag_left x j e = subst (AddsItem section.tags groups i x groups) (sym e)
      (read_behind section.tags groups groups i (record i { spaces = adding_tag x.func_type_idx i.spaces }) x (λ z m n r u a. tags_stand groups i z m r u x n a))

  pub export_left : (x : ExportTree) (j : Items) → IsExported groups x.name x.kind x.index i j → AddsItem section.exports groups i x groups j
  export_left x j k = subst (AddsItem section.exports groups i x groups) (sym k.added) (read_behind section.exports groups groups i _ x (λ z m n r u a. exports_stand groups i z m r x n a))

  pub start_left : (x : ℕ) (z : Settings) (m n : ModuleTree) → IsBefore section.start groups i z m → Adds z section.start m x n → IsReading section.start groups i z n
  start_left x z m n h a = behind section.start groups groups i i z m n x (unread_is_last section.start m h.unread) a (starts_stand groups i z m h.stands x n a)

  pub count_left : (x : ℕ) (j : Items) → j ≡ record i { spaces = counting_data x i.spaces } → (z : Settings) (m n : ModuleTree) → IsBefore section.data_count groups i z m
      → Adds z section.data_count m x n → IsReading section.data_count groups j z n
  count_left x j e z m n h a = subst (λ k. IsReading section.data_count groups k z n) (sym e)
      (behind section.data_count groups groups i (record i { spaces = counting_data x i.spaces }) z m n x (unread_is_last section.data_count m h.unread) a
      (data_counts_stand groups i z m h.stands x n a))

  -- the list of types may have grown
  pub group_left : (g : Written) (more : List Group) (j : Items) (k : Group) → j ≡ record i { spaces = record i.spaces { types = j.spaces.types } }
      → AddsGroup groups more i.spaces.types j.spaces.types k → space_of more j.spaces.types ≡ space_of groups i.spaces.types ++ types_of (space_of groups i.spaces.types) g
      → AddsItem section.types groups i g more j
  group_left g more j k e added space = subst (AddsItem section.types groups i g more) (sym e)
      (read_behind section.types groups more i (record i { spaces = record i.spaces { types = j.spaces.types } }) g
      (λ z m n r u a. groups_stand groups i z m r u g n a more j.spaces.types k added space))

  -- ---- settings

  pub import_settings : (x : ImportTree) (j : Items) → IsImported groups x i j → j.spaces.settings ≡ i.spaces.settings
  import_settings x j k = ap (λ (l : Items). l.spaces.settings) k.added ∙ settings_stay k.type i.spaces

  pub export_settings : (x : ExportTree) (j : Items) → IsExported groups x.name x.kind x.index i j → j.spaces.settings ≡ i.spaces.settings
  export_settings x j k = ap (λ (l : Items). l.spaces.settings) k.added ∙ kept_settings x.kind x.index i.spaces

  -- ---- types

  pub import_types : (x : ImportTree) (j : Items) → IsImported groups x i j → j.spaces.types ≡ i.spaces.types
  import_types x j k = ap (λ (l : Items). l.spaces.types) k.added ∙ types_stay k.type i.spaces

  pub export_types : (x : ExportTree) (j : Items) → IsExported groups x.name x.kind x.index i j → j.spaces.types ≡ i.spaces.types
  export_types x j k = ap (λ (l : Items). l.spaces.types) k.added ∙ kept_types x.kind x.index i.spaces
