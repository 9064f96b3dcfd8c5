-- The rows of `Standing`.
use Rattle.std.proofs.Common.{◌≡◌, ◌∙◌, ◌+◌, ◌++◌, ℕ, List, [], ◌∷◌, Option, Some, None, length, refl, sym, ap, subst, arith, rules}
use Rattle.wasm_types.specs.settings.Features.{has}
use Rattle.wasm_types.specs.settings.Limits.{default_limits}
use Rattle.wasm_types.specs.settings.Settings.{Settings}
use Rattle.wasm_types.specs.externs.declared.memory.MemoryType.{MemoryType}
use Rattle.wasm_sections_items.specs.imports.Spells.{ImportTree}
use Rattle.wasm_module_validator_initialisers.specs.index_spaces.Spaces.{nothing_read}
use Rattle.wasm_module_validator_type_storage.specs.trees.Groups.{Group}
use Rattle.wasm_module_validator_section_order.specs.rules.Syntax.{ModuleTree}
use Rattle.wasm_module_validator_section_order.specs.rules.Spaces.{memory_space}
use Rattle.wasm_module_validator_section_order.specs.rules.Valid.{IsValidMemoryType, most_memories}
use Rattle.wasm_module_validator_section_order.specs.rules.worked.Trees.{everything}
use Rattle.wasm_module_validator_section_order.specs.rules_in_order.contexts.InOrder as tree
use Rattle.wasm_module_validator_section_order.specs.rules_in_order.Sections as section
use Rattle.wasm_module_validator_section_order.specs.rules_in_order.Adding.{Adds}
use Rattle.wasm_module_validator_section_order.specs.rules_in_order.Texts.{AddsRead}
use Rattle.wasm_module_validator_initialisers.specs.state.Items.{no_items}
use Rattle.wasm_module_validator_initialisers.specs.state.invariant.Standing.{Stands, IsReading, IsBefore, AddsItem, IsGrown}
use Rattle.wasm_module_validator_initialisers.specs.state.invariant.laws.Behind.{still_last, memories_stand}
use Rattle.wasm_module_validator_initialisers.specs.state.invariant.laws.Worked.{worked_nothing}
use Rattle.wasm_module_validator_initialisers.specs.state.invariant.so_far.laws.Adding.{nothing_is, memory_is_added}
use Rattle.wasm_module_validator_tests.specs.Standing.{Grown, one_page, backwards, with_memory, memory_read, StandsRows, ItemsTold, two_exports, FitsTold}

-- ---- lists

no_list : {A : Type 0} (xs : List A) (x : A) → [] ≡ xs ++ x ∷ [] → ⊥
no_list [] x e = absurd cc
no_list (y ∷ xs) x e = absurd cc

one_list : {A : Type 0} (xs : List A) (x y : A) → y ∷ [] ≡ xs ++ x ∷ [] → x ≡ y
one_list [] x y e = cc
one_list (z ∷ xs) x y e = let f : [] ≡ xs ++ x ∷ [] = cc in absurd (no_list xs x f)

pub grown : (g h : Group) → Grown g h
grown g h = record {
  same = ([], refl);
  more = (h ∷ [], refl);
  lost = λ (more, e). no_list more g e;
  another = λ n (more, e). n (one_list more g h e);
}

-- ---- states

memory_stands : (groups : List Group) (z : Settings) → Stands groups (with_memory z) z memory_read
memory_stands groups z = record {
  settings = refl;
  read = memory_is_added groups (nothing_read z) tree.no_items (nothing_is groups z) one_page;
  referred = λ x f e. absurd cc;
  imports = refl;
  exports = refl;
  size = refl;
}

pub stands_rows : (groups : List Group) (z : Settings) → StandsRows groups z
stands_rows groups z = record {
  memory = memory_stands groups z;
  memory_missing = λ r. let e = r.read.memories in absurd cc;
  memory_unread = λ r. let e = r.read.memories in absurd cc;
  other_features = λ r. let e = ap (λ (y : Settings). y.features) r.settings in omega (arith, e);
  import_missing = λ i r. let e = r.imports in absurd cc;
  another_size = λ r. let e = r.size in omega (arith, e);
  data_uncounted = λ r. let e = r.read.data_count in absurd cc;
  function_missing = λ r. let e = r.read.functions in absurd cc;
  export_missing = λ r. let e = r.exports in absurd cc;
}

-- ---- items

allowed : IsValidMemoryType everything one_page
unfolding has
allowed = search rules

not_allowed : (z : Settings) → IsValidMemoryType z backwards → ⊥
not_allowed z v = let o = v.limits.ordered in omega (arith, o)

begun : (s : section.Section) (groups : List Group) (z : Settings) → tree.no_items ≡ section.up_to s tree.no_items → IsReading s groups (no_items z) z tree.no_items
begun s groups z e = record { stands = worked_nothing groups z; last = e }

added : (m : ModuleTree) → [] ≡ memory_space m → (n : ModuleTree) × AddsRead everything section.memories m one_page n
unfolding has default_limits
added m e =
    let c : 0 ≡ length (memory_space m) = ap (λ (xs : List MemoryType). length xs) e in
    (section.adding section.memories m one_page, (one_page, refl, record { valid = allowed; within = omega (arith, c); added = refl }))

added_under : (z : Settings) (m : ModuleTree) → everything ≡ z → [] ≡ memory_space m → (n : ModuleTree) × AddsRead z section.memories m one_page n
added_under z m e f = subst (λ (y : Settings). (n : ModuleTree) × AddsRead y section.memories m one_page n) e (added m f)

left : (groups : List Group) → AddsItem section.memories groups (no_items everything) one_page groups (with_memory everything)
left groups z m n r (x, e, a) =
    let b : Adds z section.memories m one_page n = subst (λ (y : MemoryType). Adds z section.memories m y n) e a in
    record {
      stands = memories_stand groups (no_items everything) z m r.stands r.last one_page n b;
      last = subst (λ (k : ModuleTree). k ≡ section.up_to section.memories k) (sym b.added) (still_last section.memories m one_page r.last);
    }

not_same : (x : MemoryType) (n : ModuleTree) → n ≡ section.adding section.memories tree.no_items x → n ≡ tree.no_items → ⊥
not_same x n e f = let g = ap (λ (k : ModuleTree). k.memories) (sym f ∙ e) in absurd cc

pub items_told : (groups : List Group) → ItemsTold groups
items_told groups = record {
  added = (one_page, refl, record { valid = allowed; within = (added tree.no_items refl).1.2.within; added = refl });
  added_elsewhere = λ (x, e, a). not_same x _ a.added refl;
  added_backwards = λ n (x, e, a). not_allowed everything (subst (IsValidMemoryType everything) e a.valid);
  told = λ z m r. added_under z m r.stands.settings r.stands.read.memories;
  told_backwards = λ t. let (n, (x, e, a)) = t everything tree.no_items (begun section.memories groups everything refl) in
      not_allowed everything (subst (IsValidMemoryType everything) e a.valid);
  refused = λ z m r (n, (x, e, a)). not_allowed z (subst (IsValidMemoryType z) e a.valid);
  refused_wrongly = λ t. t everything tree.no_items (begun section.memories groups everything refl) (added tree.no_items refl);
  left = left groups;
  left_without = λ h.
      let (n, a) = added tree.no_items refl in
      let r = h everything tree.no_items n (begun section.memories groups everything refl) a in
      let e : n ≡ section.adding section.memories tree.no_items a.0 = a.2.added in
      let f : [] ≡ memory_space n = r.stands.read.memories in
      let g = f ∙ ap memory_space e in
      absurd cc;
}

-- ---- sections

no_section : (groups : List Group) (z : Settings) → IsBefore section.exports groups (no_items z) z tree.no_items
no_section groups z = record { stands = worked_nothing groups z; unread = refl }

pub fits_told : (groups : List Group) → FitsTold groups
unfolding default_limits
fits_told groups = record {
  fit = λ z m b. let e = ap (λ (y : Settings). y.limits.exports) b.stands.settings in omega (arith, e);
  fit_not = λ t. let h = t two_exports.spaces.settings tree.no_items (no_section groups two_exports.spaces.settings) in omega (arith, h);
  refused = λ z m b h. let e = ap (λ (y : Settings). y.limits.exports) b.stands.settings in omega (arith, e, h);
  refused_wrongly = λ t. t two_exports.spaces.settings tree.no_items (no_section groups two_exports.spaces.settings) (omega arith);
  begun = no_section groups;
  begun_before = λ z x b. let e = ap (λ (m : ModuleTree). m.start) b.unread in absurd cc;
  reading = λ z. record { stands = memory_stands groups z; last = refl };
  reading_before = λ z r. let e = ap (λ (m : ModuleTree). m.memories) r.last in absurd cc;
}
