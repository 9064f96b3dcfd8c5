-- When the total is passed, by what was read before.
use Rattle.std.proofs.Common.{◌≡◌, ◌+◌, ◌≤◌, ◌++◌, ℕ, zero, suc, List, [], ◌∷◌, length, Result, arith, refl, sym, ap, subst, ◌∙◌, ⊎_elim}
use Rattle.std.specs.Prelude.{codes, Contains}
use Rattle.std.proofs.lemmas.Bool.{cases_lt}
use Rattle.std.proofs.lemmas.List.Elements.{Contains-append_left, Contains-append_right}
use Rattle.wasm_types.specs.decoding.Denials.{Tells}
use Rattle.wasm_types.specs.decoding.ErrorValue.{ErrorValue}
use Rattle.wasm_types.specs.decoding.declared.error.ErrorKind.TheVariants.{Failed, Other}
use Rattle.wasm_types.specs.settings.Limits.{IsWithinCeilings}
use Rattle.wasm_types.specs.settings.Settings.{Settings}
use Rattle.wasm_types.specs.trees.declared.index.CoreTypeId.{CoreTypeId}
use Rattle.wasm_types.specs.trees.Trees.{TypeTree}
use Rattle.wasm_types.specs.trees.Unfold.{type_count}
use Rattle.wasm_module_validator_type_list.specs.List.{max_types}
use Rattle.wasm_module_validator_section_order.specs.items.FullLaws.{never_full}
use Rattle.wasm_module_validator_type_storage.specs.trees.Groups.{Group, count, tree_of}
use Rattle.wasm_module_validator_type_groups.specs.adding.Interned.{space_of}
use Rattle.wasm_module_validator_type_groups.specs.composites.Composites.{WhereCanonical}
use Rattle.wasm_module_validator_state.specs.Items.{Items, no_items}
use Rattle.wasm_module_validator_state.specs.invariant.Standing.{GrowsWith}
use Rattle.wasm_module_validator_state.specs.invariant.laws.Growing.{most_types, grown_further}
use Rattle.wasm_module_validator_declarations.specs.Total.{HasEachOnce, IsPastTotal, OneGroup, TellsWithinTotal}

-- the type of an id of a module is one of the module's
pub type_there : (groups : List Group) (ids : List CoreTypeId) (id : CoreTypeId) → Contains ids id → Contains (space_of groups ids) (tree_of groups id.0)
type_there groups [] id (k, l, at) = absurd (omega (arith, l))
type_there groups (i ∷ ids) id (zero, l, at) = (zero, omega arith, ap (λ (j : CoreTypeId). tree_of groups j.0) at)
type_there groups (i ∷ ids) id (suc k, l, at) = let c = type_there groups ids id (k, omega (arith, l), at) in (suc c.0, omega (arith, c.1), c.2)

-- what was read since counts
pub past_before : (old new : List Group) (s t : Items) (Has : List TypeTree → ℕ → Type 0) (e : ErrorValue) → GrowsWith old s.spaces new t.spaces
    → t.spaces.settings ≡ s.spaces.settings → IsPastTotal new t Has e → IsPastTotal old s Has e
past_before old new s t Has e grown same p =
    let few = p.few in
    let within = p.within in
    let limit : t.spaces.settings.limits.types ≡ s.spaces.settings.limits.types = ap (λ (z : Settings). z.limits.types) same in
    let more = grown.1 in
    let ids = grown.2 in
    let had : (id : CoreTypeId) → Contains (s.spaces.types ++ ids.ids) id → Contains p.before (tree_of p.held id.0) =
    subst (λ (is : List CoreTypeId). (id : CoreTypeId) → Contains is id → Contains p.before (tree_of p.held id.0)) ids.behind p.had in
    record {
      kind = p.kind;
      text = p.text;
      held = p.held;
      before = p.before;
      own = p.own;
      has = p.has;
      past = p.past;
      few = omega (arith, few, more);
      within = omega (arith, within, limit);
      grown = grown_further old new p.held grown.0 p.grown;
      had = λ id c. had id (Contains-append_left s.spaces.types ids.ids id c);
      taken = λ id low high. ⊎_elim
          (λ first. had (record { 0 = id }) (Contains-append_right s.spaces.types ids.ids (record { 0 = id }) (ids.own (record { 0 = id }) low first)))
          (λ later. p.taken id later high) (cases_lt id (count new));
      once = subst (λ (z : Settings). WhereCanonical z.features (HasEachOnce p.held)) same p.once;
    }

-- so it is of a group that is told of in other words
pub past_by : (groups : List Group) (s : Items) (Has As : List TypeTree → ℕ → Type 0) (e : ErrorValue) → ((b : List TypeTree) (n : ℕ) → Has b n → As b n)
    → IsPastTotal groups s Has e → IsPastTotal groups s As e
past_by groups s Has As e to p = record {
  kind = p.kind;
  text = p.text;
  held = p.held;
  before = p.before;
  own = p.own;
  has = to p.before p.own p.has;
  past = p.past;
  few = p.few;
  within = p.within;
  grown = p.grown;
  had = p.had;
  taken = p.taken;
  once = p.once;
}

-- over a list with no types it is not passed
pub none_past : (z : Settings) → IsWithinCeilings z.limits → (Has : List TypeTree → ℕ → Type 0) (e : ErrorValue) → IsPastTotal [] (no_items z) Has e → ⊥
unfolding type_count
none_past z w Has e p =
    let most = most_types z w in
    let past = p.past in
    let few = p.few in
    let within = p.within in
    omega (arith, most, past, few, within)

pub within_total : {X : Type 0} (z : Settings) → IsWithinCeilings z.limits → (Has : List TypeTree → ℕ → Type 0) (r : Result X ErrorValue) (P : Type 0)
    → TellsWithinTotal [] (no_items z) Has r P → Tells r P
within_total z w Has r P h = never_full (IsPastTotal [] (no_items z) Has) (none_past z w Has) r (Tells r P) h

-- ---- worked rows

-- a list that is full, and that has no type twice, has no room for one more
pub full_is_past : (groups : List Group) (z : Settings) → count groups ≡ max_types → 1 ≤ z.limits.types → WhereCanonical z.features (HasEachOnce groups)
    → IsPastTotal groups (no_items z) (OneGroup [] 1) (record { kind = Other; offset = 7; message = codes "implementation limit: too many core types" })
full_is_past groups z full some once = record {
  kind = refl;
  text = refl;
  held = groups;
  before = [];
  own = 1;
  has = (refl, refl);
  past = omega (arith, full);
  few = omega arith;
  within = omega (arith, some);
  grown = ([], refl);
  had = λ id (k, l, at). absurd (omega (arith, l));
  taken = λ id low high. absurd (omega (arith, low, high));
  once = once;
}

pub not_with_room : (groups : List Group) (z : Settings) (b : List TypeTree) (n : ℕ) (e : ErrorValue) → count groups + length b + n ≤ max_types
    → IsPastTotal groups (no_items z) (OneGroup b n) e → ⊥
not_with_room groups z b n e room p =
    let past = p.past in
    let few = p.few in
    let first : length p.before ≡ length b = ap length p.has.0 in
    let second = p.has.1 in
    omega (arith, past, few, room, first, second)

pub none_of_one : (z : Settings) → IsWithinCeilings z.limits → (b : List TypeTree) (n : ℕ) (e : ErrorValue) → IsPastTotal [] (no_items z) (OneGroup b n) e → ⊥
none_of_one z w b n = none_past z w (OneGroup b n)

pub not_otherwise : (groups : List Group) (s : Items) (b : List TypeTree) (n : ℕ) (e : ErrorValue) → e.kind ≡ Failed → IsPastTotal groups s (OneGroup b n) e → ⊥
not_otherwise groups s b n e k p = let both : Failed ≡ Other = sym k ∙ p.kind in absurd cc

pub not_unsaid : (groups : List Group) (s : Items) (b : List TypeTree) (n : ℕ) (e : ErrorValue) → e.message ≡ [] → IsPastTotal groups s (OneGroup b n) e → ⊥
not_unsaid groups s b n e m p = let none : 41 ≡ 0 = ap length (sym p.text ∙ m) in omega (arith, none)
