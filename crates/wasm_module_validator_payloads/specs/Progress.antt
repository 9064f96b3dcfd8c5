-- A module that is being read, as contracts see it, and when it stands for what was judged (WebAssembly 3.0, validation, modules).
use Rattle.std.specs.Prelude.{◌≡◌, ◌==◌, ◌+◌, ◌≤◌, ◌&&◌, if◌then◌else◌, Bool, ℕ, List, [], length, map, take, Result}
use Rattle.wasm_types.specs.decoding.Denials.{Tells}
use Rattle.wasm_types.specs.decoding.ErrorValue.{ErrorValue}
use Rattle.wasm_types.specs.decoding.Decoder.{Grammar}
use Rattle.wasm_types.specs.DecodeTypes.{rec_group}
use Rattle.wasm_types.specs.SpellsTypes.{group_value}
use Rattle.wasm_types.specs.trees.Trees.{TypeTree}
use Rattle.wasm_types.specs.trees.ValidGroup.{Written}
use Rattle.wasm_types.specs.settings.declared.Limits.{Limits}
use Rattle.wasm_types.specs.settings.contracts.LimitsPartialEq.TheImpl as limits
use Rattle.wasm_types.specs.settings.Limits.{IsWithinCeilings}
use Rattle.wasm_types.specs.settings.Settings.{Settings}
use Rattle.wasm_sections.specs.declared.payload.Payload.{Payload}
use Rattle.wasm_sections.specs.declared.payload.Payload.TheVariants as payloads
use Rattle.wasm_module_validator_type_storage.specs.trees.Groups.{Group, count}
use Rattle.wasm_module_validator_type_list.specs.List.{Types}
use Rattle.wasm_module_validator_resources.specs.index_spaces.Spaces.{Spaces}
use Rattle.wasm_module_validator_resources.specs.Named.{IsReadOver}
use Rattle.wasm_module_validator_state.specs.Items.{Items, no_items}
use Rattle.wasm_module_validator_section_order.specs.rules.Spaces.{types_behind}
use Rattle.wasm_module_validator_section_order.specs.rules.Syntax.{ModuleTree}
use Rattle.wasm_module_validator_section_order.specs.rules.Valid.{Each}
use Rattle.wasm_module_validator_section_order.specs.rules_in_order.Sections.{Section}
use Rattle.wasm_module_validator_section_order.specs.rules_in_order.Sections as section
use Rattle.wasm_module_validator_section_order.specs.rules_in_order.Steps.{SoFar, IsJudged}
use Rattle.wasm_module_validator_section_order.specs.rules_in_order.Texts.{ItemRead, AddsRead}
use Rattle.wasm_module_validator_state.specs.invariant.Standing.{IsGrown, TakesOwn, Stands, IsReading}
use Rattle.wasm_module_validator_declarations.specs.Total.{HasGroupNext, IsPastTotal, IsSizeOf}
use Rattle.wasm_module_validator_section_order.specs.sections.Kinds.{group_read}
use Rattle.wasm_module_validator_section_order.specs.sections.Sections.{Reading, AddsIn}
use Rattle.wasm_module_validator_section_order.specs.items.Adding.{AddsShort, IsItemOf, UnlessFull}
use Rattle.wasm_module_validator_section_order.specs.items.Bodies.{IsReadBy}
use Rattle.wasm_module_validator_section_order.specs.declared.items.bodies.Body.{Body}

-- ---- what is kept

-- the groups of the list of types, the items, and how many groups the module has written
pub record Kept : Type 0 where
  pub groups : List Group
  pub items : Items
  pub count : ℕ

abbrev pub kept : List Group → Items → ℕ → Kept
kept groups items count = record { groups = groups; items = items; count = count }

-- the same, and the place of the last section
pub record Progress : Type 0 where
  pub kept : Kept
  pub last : ℕ

-- nothing was read, over a list of types that has these groups
abbrev pub nothing_over : List Group → Settings → Progress
nothing_over groups z = record { kept = record { groups = groups; items = no_items z; count = 0 }; last = 0 }

-- nothing was read, over a list with no types
abbrev pub nothing_kept : Settings → Progress
nothing_kept z = nothing_over [] z

-- ---- the list of types

-- Each type of the list is valid by the settings of a module, those that the module names are in it, the list has the limits of the module,
-- and none of these is above its ceiling.
abbrev pub IsOver : Types → Spaces → Type 0
IsOver types spaces = IsReadOver types.groups spaces × (types.limits ≡ spaces.settings.limits) × IsWithinCeilings spaces.settings.limits

-- ---- one module after another

-- the features are the same, and each of the limits
abbrev pub are_same : Settings → Settings → Bool
are_same y z = (y.features == z.features) && limits.ghosts.eq y.limits z.limits

-- the groups of the list that a module by these settings begins with after another: those that there are, if that was read by the same
abbrev pub kept_groups : Settings → Kept → List Group
kept_groups z k = if are_same k.items.spaces.settings z then k.groups else []

-- nothing was read of a module by these settings, after another
abbrev pub renewed : Settings → Kept → Progress
renewed z k = nothing_over (kept_groups z k) z

-- nothing was read of a module by the same settings, behind another
abbrev pub next_over : Kept → Progress
next_over k = nothing_over k.groups k.items.spaces.settings

-- further groups may stand in the list, of no more types than the module has besides, and of no others, and the settings are the same
pub record Grows (k l : Kept) : Type 0 where
  pub groups : IsGrown k.groups l.groups
  pub types : count l.groups + length k.items.spaces.types ≤ count k.groups + length l.items.spaces.types
  pub own : TakesOwn k.groups k.items.spaces.types l.groups l.items.spaces.types
  pub settings : l.items.spaces.settings ≡ k.items.spaces.settings

-- ---- while the items of a section are added

-- the state stands for a tree, in which nothing was read behind this section; and the groups of the tree are counted
pub record Reads (s : Section) (groups : List Group) (items : Items) (count : ℕ) (z : Settings) (m : ModuleTree) : Type 0 where
  pub reading : IsReading s groups items z m
  pub counted : count ≡ length m.types

abbrev pub IsRead : Section → Kept → Reading → Type 0
IsRead s k u = Reads s k.groups k.items k.count u.settings u.tree

-- From one offset of a text to another stand the bytes of an item, by any settings with these limits; it is added to what was read, and the
-- list of types stays.
abbrev pub AddsShortIn : {T V : Type 0} (s : Section) → (T → V) → (T → ItemRead s) → (Settings → Grammar V) → List Group → Items → Items
    → Limits → List ℕ → ℕ → ℕ
    → Type 0
AddsShortIn s view of g groups i j l text from to =
    (count : ℕ) → AddsShort view of g (AddsIn s) (IsRead s) (kept groups i count) (kept groups j count) l text from to

-- after these types, over the list of types, an item that was read is next a group of so many
abbrev pub HasNext : (s : Section) → List Group → Items → ItemRead s → List TypeTree → ℕ → Type 0
HasNext section.types groups items x before own = HasGroupNext groups items x before own
HasNext section.imports groups items x before own = ⊥
HasNext section.functions groups items x before own = ⊥
HasNext section.tables groups items x before own = ⊥
HasNext section.memories groups items x before own = ⊥
HasNext section.tags groups items x before own = ⊥
HasNext section.globals groups items x before own = ⊥
HasNext section.exports groups items x before own = ⊥
HasNext section.start groups items x before own = ⊥
HasNext section.element_segments groups items x before own = ⊥
HasNext section.data_count groups items x before own = ⊥
HasNext section.data_segments groups items x before own = ⊥

-- only a group of types is refused because the list is full
abbrev pub FullIn : (s : Section) → List Group → Items → ItemRead s → ErrorValue → Type 0
FullIn s groups items x e = (s ≡ section.types) × IsPastTotal groups items (HasNext s groups items x) e

-- after groups of these types one of these items is a group of so many
abbrev pub HasItem : (s : Section) → (List (ItemRead s) → ItemRead s → Type 0) → List TypeTree → ℕ → Type 0
HasItem section.types Is before own = (front : List Written) × (x : Written) × Is front x × (before ≡ types_behind [] front) × IsSizeOf x own
HasItem section.imports Is before own = ⊥
HasItem section.functions Is before own = ⊥
HasItem section.tables Is before own = ⊥
HasItem section.memories Is before own = ⊥
HasItem section.tags Is before own = ⊥
HasItem section.globals Is before own = ⊥
HasItem section.exports Is before own = ⊥
HasItem section.start Is before own = ⊥
HasItem section.element_segments Is before own = ⊥
HasItem section.data_count Is before own = ⊥
HasItem section.data_segments Is before own = ⊥

-- What is told of an item that was read: whether the tree may have it, unless the list of types is full.
abbrev pub TellsRead : {X : Type 0} (s : Section) → List Group → Items → ℕ → ItemRead s → Result X ErrorValue → Type 0
TellsRead s groups items count x result = UnlessFull (FullIn s groups items x) result
    ((z : Settings) (m : ModuleTree) → Reads s groups items count z m → Tells result ((n : ModuleTree) × AddsRead z s m x n))

-- ---- frames

-- the bytes of a body, and the index of its type
abbrev pub text_of : Body → List ℕ
text_of b = b.body.rest

abbrev pub type_of : Body → ℕ
type_of b = b.type_index

-- What is kept stands for what was judged: the state for the tree, the bodies for the bytes of bodies, each read by these settings and
-- with the type of its function.
pub record IsAt (z : Settings) (r : Progress) (bs : List Body) (p : SoFar) : Type 0 where
  pub stands : Stands r.kept.groups r.kept.items z p.tree
  pub judged : IsJudged z p
  pub counted : r.kept.count ≡ length p.tree.types
  pub placed : r.last ≡ p.last
  pub bodies : map text_of bs ≡ p.bodies
  pub types : map type_of bs ≡ take (length bs) p.tree.functions
  pub read : Each (λ (b : Body). IsReadBy z z.features b.body) bs

-- a section of types has a group of so many types, after groups that have these
abbrev pub HasGroup : Payload → List TypeTree → ℕ → Type 0
HasGroup (payloads.TypeSection s) before own = HasItem section.types (IsItemOf group_value group_read rec_group s.count s.reader) before own
HasGroup x before own = ⊥

-- The list has no room for a group that is one of these: of types that the section has, over whatever was judged before.
abbrev pub FullWhere : Progress → Section → (List TypeTree → ℕ → Type 0) → ErrorValue → Type 0
FullWhere r s Has e = (s ≡ section.types)
    × ((z : Settings) (p : SoFar) (bodies : List Body) → IsAt z r bodies p → IsPastTotal r.kept.groups r.kept.items Has e)

-- it has none for one of this payload
abbrev pub FullBy : Payload → Progress → List Body → ErrorValue → Type 0
FullBy x r bodies e = (z : Settings) (p : SoFar) → IsAt z r bodies p → IsPastTotal r.kept.groups r.kept.items (HasGroup x) e
