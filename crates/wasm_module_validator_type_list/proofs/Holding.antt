-- Lists that hold no groups, the same groups, and one more.
use Rattle.std.proofs.Common.{◌≡◌, ◌∙◌, ℕ, Bool, List, [], ◌++◌, map, reverse, replicate, set, ap, sym, subst, Option, Some, None, is_some, Result, Ok, Err, OnErr, arith}
use Rattle.wasm_types.specs.settings.declared.Limits.{Limits}
use Rattle.wasm_types.specs.trees.Unfold.{type_count}
use Rattle.wasm_types.specs.declared.sub_type.SubType.{SubType}
use Rattle.wasm_types.specs.Entries.{declared_of}
use Rattle.wasm_module_validator_type_storage.specs.trees.Groups.{Group, count, group_numbers, group_ranges, declared_by_id}
use Rattle.wasm_module_validator_type_list.specs.declared.known.Known.{Known}
use Rattle.wasm_module_validator_type_list.specs.declared.lists.Lists.{Lists}
use Rattle.wasm_module_validator_type_list.specs.Lists.{SameItems}
use Rattle.wasm_module_validator_type_list.specs.Rolled.{rolled_groups, forms}
use Rattle.wasm_module_validator_type_list.specs.Known.{Knows, StaysKnown}
use Rattle.wasm_module_validator_type_list.specs.Depths.{KeepsDepths, HasPlaces}
use Rattle.wasm_module_validator_type_list.specs.List.{Types, groups_in, IsTypeList}
use Rattle.wasm_module_validator_type_list.proofs.Knowing.{knows_same, stays_some}
use Rattle.wasm_module_validator_type_list.proofs.Depths.{places_same, places_set, more_places_keep}
use Rattle.wasm_module_validator_type_list.proofs.Rolling.{lists_give}
use Rattle.wasm_module_validator_type_list.proofs.Likeness.{none_uniform, uniform_same}

-- lists that store these groups are a list of types
pub holds : (gs : List Group) (lists : Lists) (known : Option Known) → IsTypeList gs lists known → IsTypeList (groups_in lists) lists known
holds gs lists known is = subst (λ (l : List Group). IsTypeList l lists known) (sym (lists_give gs lists known is)) is

stores_nothing : (lists : Lists) (known : Option Known) → lists.forms.items ≡ [] → lists.types.items ≡ [] → lists.homes.items ≡ [] → lists.supertypes.items ≡ [] → lists.elements.items ≡ []
    → Knows [] lists.types.items known → HasPlaces 0 known lists.depths.items → lists.uniform.items ≡ [] → IsTypeList [] lists known
unfolding type_count group_numbers group_ranges declared_by_id forms
stores_nothing lists known a b c d e k has f = record {
  formed = tt;
  small = omega arith;
  few = omega arith;
  forms = a;
  types = ap (map declared_of) b;
  homes = ap (map (λ n. n.0)) c;
  supertypes = d;
  elements = ap (map (λ r. (r.start.0, r.end.0))) e;
  knows = k;
  depths = has;
  uniform = none_uniform lists.types.items lists.supertypes.items lists.uniform.items f;
}

pub no_types : (lists : Lists) (known : Option Known) → lists.forms.items ≡ [] → lists.types.items ≡ [] → lists.homes.items ≡ [] → lists.supertypes.items ≡ [] → lists.elements.items ≡ []
    → Knows [] lists.types.items known → HasPlaces 0 known lists.depths.items → lists.uniform.items ≡ [] → IsTypeList (groups_in lists) lists known
no_types lists known a b c d e k has f = holds [] lists known (stores_nothing lists known a b c d e k has f)

pub no_groups : (lists : Lists) → lists.forms.items ≡ [] → groups_in lists ≡ []
unfolding groups_in
no_groups lists e = ap (λ (l : List Bool). reverse (rolled_groups (map declared_of lists.types.items) l (map (λ r. (r.start.0, r.end.0)) lists.elements.items))) e

-- the same lists under other names
pub groups_same : (old new : Lists) → SameItems old new → groups_in new ≡ groups_in old
unfolding groups_in
groups_same old new same =
    let a = same.forms in
    let b = same.types in
    let c = same.elements in
    cc

pub lists_same : (known more : Option Known) (old new : Lists) → SameItems old new → IsTypeList (groups_in old) old known
    → Knows (groups_in old) old.types.items more → HasPlaces (count (groups_in old)) more new.depths.items → IsTypeList (groups_in new) new more
lists_same known more old new same is knows has =
    holds (groups_in old) new more
    (record {
      formed = is.formed;
      small = is.small;
      few = is.few;
      forms = same.forms ∙ is.forms;
      types = ap (map declared_of) same.types ∙ is.types;
      homes = ap (map (λ n. n.0)) same.homes ∙ is.homes;
      supertypes = same.supertypes ∙ is.supertypes;
      elements = ap (map (λ r. (r.start.0, r.end.0))) same.elements ∙ is.elements;
      knows = subst (λ (l : List SubType). Knows (groups_in old) l more) (sym same.types) knows;
      depths = has;
      uniform = uniform_same old.types.items new.types.items old.supertypes.items new.supertypes.items old.uniform.items new.uniform.items same.types same.supertypes same.uniform is.uniform;
    })

-- what was added to lists that do not store a further group yet
pub lists_stay : (known : Option Known) (old new : Lists) → SameItems old new → new.depths.items ≡ old.depths.items → IsTypeList (groups_in old) old known → IsTypeList (groups_in new) new known
lists_stay known old new same e is = lists_same known known old new same is is.knows (subst (HasPlaces (count (groups_in old)) known) (sym e) is.depths)

pub lists_unlearned : (known more : Option Known) (old new : Lists) → SameItems old new → new.depths.items ≡ old.depths.items → IsTypeList (groups_in old) old known
    → StaysKnown known more → IsTypeList (groups_in new) new more
lists_unlearned known more old new same e is w =
    lists_same known more old new same is (knows_same (groups_in old) old.types.items known more is.knows w)
    (places_same known more (count (groups_in old)) old.depths.items new.depths.items (stays_some known more w) is.depths e)

-- a list that takes no more
pub lists_closed : (known : Option Known) (old new : Lists) → SameItems old new → new.depths.items ≡ [] → IsTypeList (groups_in old) old known → IsTypeList (groups_in new) new None
lists_closed known old new same e is = lists_same known None old new same is tt e

-- a depth was set
pub lists_set : (known : Option Known) (old new : Lists) (id depth : ℕ) → SameItems old new → new.depths.items ≡ set old.depths.items id (Some depth) → IsTypeList (groups_in old) old known
    → IsTypeList (groups_in new) new known
lists_set known old new id depth same e is =
    lists_same known known old new same is is.knows (places_set (count (groups_in old)) known old.depths.items new.depths.items id depth is.depths e)

-- further places came behind those that there were
pub depths_kept : (known : Option Known) (limits : Limits) (before mid after : Lists) (now : Types) (n : ℕ)
    → record { groups = groups_in before; can_intern = is_some known; depths = before.depths.items; limits = limits } ≡ now
    → IsTypeList (groups_in before) before known → mid.depths.items ≡ before.depths.items → after.depths.items ≡ mid.depths.items ++ replicate n None
    → KeepsDepths now.groups now.depths after.depths.items
depths_kept known limits before mid after now n view is a b =
    subst (λ (t : Types). KeepsDepths t.groups t.depths after.depths.items) view
    (more_places_keep (groups_in before) known before.depths.items after.depths.items n is.depths (b ∙ ap (λ l. l ++ replicate n None) a))

pub on_err : {A E : Type 0} {P : Type 0} (r : Result A E) → P → OnErr r P
on_err (Ok x) p = tt
on_err (Err e) p = p
