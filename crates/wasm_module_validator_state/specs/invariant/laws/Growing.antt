-- Groups of types: what is decided of them, and what is left.
use Rattle.std.proofs.Common.{◌≡◌, ◌∙◌, ◌↔◌, ◌+◌, ◌<◌, ◌≤◌, ℕ, zero, suc, Bool, true, false, IsTrue, if◌then◌else◌, List, [], ◌∷◌, ◌++◌, length, Some, slice_get, refl, sym, ap, subst, arith, ⊎_elim}
use Rattle.std.specs.Prelude.{Contains}
use Rattle.std.proofs.lemmas.Bool.{cases_lt}
use Rattle.std.proofs.lemmas.List.{append-nil, append_assoc, length-append}
use Rattle.std.proofs.lemmas.List.Elements.{Contains-append_left, Contains-append_right}
use Rattle.wasm_types.specs.trees.declared.index.CoreTypeId.{CoreTypeId}
use Rattle.wasm_types.specs.settings.Limits.{ceilings, IsWithinCeilings}
use Rattle.wasm_types.specs.settings.Settings.{Settings}
use Rattle.wasm_types.specs.trees.ValidGroup.{Written, IsValidGroup, types_of}
use Rattle.wasm_module_validator_type_storage.specs.trees.Groups.{Group, count, group_ranges}
use Rattle.wasm_module_validator_type_storage.specs.trees.laws.Unrolled.{count_push}
use Rattle.wasm_module_validator_type_groups.specs.adding.Interned.{space_of, ids_from, AddsGroup}
use Rattle.wasm_module_validator_type_groups.proofs.Stands.{range_new, same_range}
use Rattle.wasm_module_validator_state.specs.invariant.so_far.laws.Adding.{types_alone, group_is_added}
use Rattle.wasm_module_validator_resources.specs.index_spaces.Spaces.{Spaces}
use Rattle.wasm_module_validator_state.specs.Items.{Items}
use Rattle.wasm_module_validator_checks.specs.rules.Syntax.{ModuleTree}
use Rattle.wasm_module_validator_checks.specs.rules.Spaces.{types_behind}
use Rattle.wasm_module_validator_resources.specs.rules_in_order.Sections as section
use Rattle.wasm_module_validator_resources.specs.rules_in_order.Sections.{adding, up_to}
use Rattle.wasm_module_validator_resources.specs.rules_in_order.Adding.{Adds}
use Rattle.wasm_module_validator_state.specs.invariant.Standing.{Stands, IsGrown, GrowsWith, MayGrow, TakesOwn}
use Rattle.wasm_module_validator_state.specs.invariant.laws.Deciding.{may_be_added, counts, below, above}

-- ---- the list of types

pub most_types : (z : Settings) → IsWithinCeilings z.limits → z.limits.types ≤ 0x10_0000
unfolding ceilings
most_types z w = w.types

-- what is added comes first
pub list_grown : (old new : List Group) (before after : List CoreTypeId) (g : Group) → AddsGroup old new before after g → IsGrown old new
list_grown old new before after g a = go a.is_new a.interned.groups
  where
    go : (b : Bool) → new ≡ (if b then g ∷ old else old) → IsGrown old new
    go true e = (g ∷ [], e)
    go false e = ([], e)

-- no more types than the module has with it
pub ids_counted : (first n : ℕ) → length (ids_from first n) ≡ n
ids_counted first zero = refl
ids_counted first (suc n) = ap suc (ids_counted (suc first) n)

pub types_grown : (old new : List Group) (before after : List CoreTypeId) (g : Group) → AddsGroup old new before after g → count new + length before ≤ count old + length after
types_grown old new before after g a =
    let n : ℕ = length g.types in
    let all : length after ≡ length before + n = ap length a.added ∙ (length-append before (ids_from a.first n) ∙ ap (λ k. length before + k) (ids_counted a.first n)) in
    go a.is_new (a.interned.groups) all
  where
    go : (b : Bool) → new ≡ (if b then g ∷ old else old) → length after ≡ length before + length g.types → count new + length before ≤ count old + length after
    go true e all = let more : count new ≡ count old + length g.types = ap count e ∙ count_push g old in omega (arith, more, all)
    go false e all = let same : count new ≡ count old = ap count e in omega (arith, same, all)

-- and no others
pub ids_contain : (first n : ℕ) (id : CoreTypeId) → first ≤ id.0 → id.0 < first + n → Contains (ids_from first n) id
ids_contain first zero id low high = absurd (omega (arith, low, high))
ids_contain first (suc n) id low high =
    ⊎_elim (λ further. let c = ids_contain (suc first) n id further (omega (arith, high)) in (suc c.0, omega (arith, c.1), c.2))
    (λ here. let same : first ≡ id.0 = omega (arith, low, here) in (zero, omega arith, ap (λ (k : ℕ). record { 0 = k }) same))
    (cases_lt first id.0)

pub types_own : (old new : List Group) (before after : List CoreTypeId) (g : Group) → AddsGroup old new before after g → TakesOwn old before new after
types_own old new before after g a = record {
  ids = ids_from a.first (length g.types);
  behind = a.added;
  own = go a.is_new a.interned.groups a.interned.next;
}
  where
    go : (b : Bool) → new ≡ (if b then g ∷ old else old) → (IsTrue b → a.number ≡ length old)
        → (id : CoreTypeId) → count old ≤ id.0 → id.0 < count new → Contains (ids_from a.first (length g.types)) id
    go true e next id low high =
        let there : slice_get (group_ranges (g ∷ old)) (length old) ≡ Some (a.first, a.first + length g.types) =
        ap (λ gs. slice_get (group_ranges gs) (length old)) (sym e) ∙ (ap (slice_get (group_ranges new)) (sym (next refl)) ∙ a.ids) in
        let range = same_range (slice_get (group_ranges (g ∷ old)) (length old)) (count old) (count old + length g.types) a.first (a.first + length g.types) (range_new g old) there in
        let same : count old ≡ a.first = range.0 in
        let more : count new ≡ count old + length g.types = ap count e ∙ count_push g old in
        ids_contain a.first (length g.types) id (omega (arith, low, same)) (omega (arith, high, more, same))
    go false e next id low high = let same : count new ≡ count old = ap count e in absurd (omega (arith, low, high, same))

-- a list that grows twice
pub grown_further : (a b c : List Group) → IsGrown a b → IsGrown b c → IsGrown a c
grown_further a b c (m, e) (n, f) = (n ++ m, f ∙ (ap (λ gs. n ++ gs) e ∙ sym (append_assoc n m a)))

pub own_further : (a b c : List Group) (is js ks : List CoreTypeId) → TakesOwn a is b js → TakesOwn b js c ks → TakesOwn a is c ks
own_further a b c is js ks t u = record {
  ids = t.ids ++ u.ids;
  behind = u.behind ∙ (ap (λ ls. ls ++ u.ids) t.behind ∙ append_assoc is t.ids u.ids);
  own = λ id low high. ⊎_elim
      (λ first. Contains-append_left t.ids u.ids id (t.own id low first)) (λ later. Contains-append_right t.ids u.ids id (u.own id later high)) (cases_lt id.0 (count b));
}

-- a list that stays beside a module whose types stay
pub grows_by_none : (groups : List Group) (s t : Spaces) → t.types ≡ s.types → GrowsWith groups s groups t
grows_by_none groups s t e =
    let same : length t.types ≡ length s.types = ap length e in
    (([], refl), omega (arith, same), record { ids = []; behind = e ∙ sym (append-nil s.types); own = λ id low high. absurd (omega (arith, low, high)) })

module _ (groups : List Group) (s : Items) (z : Settings) where
  -- ---- what is decided

  module _ (m : ModuleTree) (r : Stands groups s z m) (many : ℕ) (e : many ≡ length m.types) (g : Written) (n : ℕ) (same : n ≡ length g.types) where
    types_counted : length s.spaces.types ≡ length (types_behind [] m.types)
    types_counted = sym (counts groups s z m r).types

    valid_to : IsValidGroup s.spaces.settings (space_of groups s.spaces.types) g ≡ IsValidGroup z (types_behind [] m.types) g
    valid_to = λ i. IsValidGroup (r.settings i) (r.read.types i) g

    pub group_decided : MayGrow groups s many n g ↔ ((k : ModuleTree) × Adds z section.types m g k)
    group_decided =
        let all : length s.spaces.types + n ≡ length (types_behind [] m.types) + length g.types = (λ i. types_counted i + same i) in
        may_be_added z section.types m g (MayGrow groups s many n g)
        (λ h. (
          subst (λ (T : Type 0). T) valid_to h.1.1,
          (below groups s z m r (λ k (y : Settings). k < y.limits.types) _ _ e h.0, below groups s z m r (λ k (y : Settings). k ≤ y.limits.types) _ _ all (h.1.0 refl)),
        ))
        (λ h.
        let f = above groups s z m r (λ k (y : Settings). k < y.limits.types) _ _ e h.1.0 in
        let l = above groups s z m r (λ k (y : Settings). k ≤ y.limits.types) _ _ all h.1.1 in
        (f, (λ t. l, subst (λ (T : Type 0). T) (sym valid_to) h.0)))

  -- ---- what is left

  module _ (gs : List Written) (r : Stands groups s z (types_alone gs)) (g : Written) (more : List Group) (ids : List CoreTypeId) (k : Group)
      (a : AddsGroup groups more s.spaces.types ids k) (space : space_of more ids ≡ space_of groups s.spaces.types ++ types_of (space_of groups s.spaces.types) g) where
    stands_behind : Stands more (record s { spaces = record s.spaces { types = ids } }) z (types_alone (gs ++ g ∷ []))
    stands_behind =
        record {
          settings = r.settings;
          read = group_is_added groups more s.spaces ids gs g r.read space;
          referred = r.referred;
          imports = r.imports;
          exports = r.exports;
          size = r.size;
        }

  pub groups_stand : (m : ModuleTree) → Stands groups s z m → m ≡ up_to section.types m → (g : Written) (n : ModuleTree) → Adds z section.types m g n
      → (more : List Group) (ids : List CoreTypeId) (k : Group) → AddsGroup groups more s.spaces.types ids k
      → space_of more ids ≡ space_of groups s.spaces.types ++ types_of (space_of groups s.spaces.types) g
      → Stands more (record s { spaces = record s.spaces { types = ids } }) z n
  groups_stand m r u g n a more ids k added space =
      let still : adding section.types m g ≡ adding section.types (up_to section.types m) g = ap (λ t. adding section.types t g) u in
      subst (λ t. Stands more (record s { spaces = record s.spaces { types = ids } }) z t) (sym (a.added ∙ still))
      (stands_behind m.types (subst (λ t. Stands groups s z t) u r) g more ids k added space)
