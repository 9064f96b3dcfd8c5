-- What one more group adds to each part of a list.
use Rattle.std.proofs.Common.{◌≡◌, ◌∙◌, ℕ, ◌+◌, true, List, [], ◌∷◌, ◌++◌, length, map, replicate, refl, ap, sym, subst, Option, Some, arith}
use Rattle.std.proofs.lemmas.List.{map-append, length-map, length-append, length-replicate}
use Rattle.std.specs.Prelude.{MatchOption, All, AllPairs}
use Rattle.std.specs.Map.{lookup}
use Rattle.std.specs.BTreeMap.{is_at}
use Rattle.wasm_types.specs.contracts.rec_group.RecGroupOrd.TheImpl as order
use Rattle.wasm_module_validator_type_list.specs.declared.ids.RecGroupId.{RecGroupId}
use Rattle.wasm_types.specs.trees.Unfold.{type_count}
use Rattle.wasm_types.specs.declared.sub_type.SubType.{SubType}
use Rattle.wasm_types.specs.Entries.{declared_of, declared_types}
use Rattle.wasm_types.specs.Remap.{declared_map}
use Rattle.wasm_module_validator_type_storage.specs.trees.Groups.{Group, count, group_at, group_numbers, group_ranges, by_id, declared_by_id, supertype_id, supertype_ids}
use Rattle.wasm_module_validator_type_storage.specs.trees.Formed.{IsMissing}
use Rattle.wasm_module_validator_type_storage.specs.trees.laws.Unrolled.{count_push}
use Rattle.wasm_module_validator_type_storage.specs.trees.laws.Ids.{stored_push, length_stored}
use Rattle.wasm_module_validator_type_list.specs.declared.lists.Lists.{Lists}
use Rattle.wasm_module_validator_type_list.specs.declared.known.Known.{Known}
use Rattle.wasm_module_validator_type_list.specs.Beside.{Precedes}
use Rattle.wasm_module_validator_type_list.specs.Known.{group_in, IsAlone, NoneDeclares, Knows}
use Rattle.wasm_module_validator_type_list.specs.Rolled.{forms}
use Rattle.wasm_module_validator_type_list.specs.List.{IsTypeList}

pub homes_push : (g : Group) (earlier : List Group) → group_numbers (g ∷ earlier) ≡ group_numbers earlier ++ replicate (length g.types) (length earlier)
unfolding group_numbers
homes_push g earlier = refl

pub ranges_push : (g : Group) (earlier : List Group) → group_ranges (g ∷ earlier) ≡ group_ranges earlier ++ (count earlier, count earlier + length g.types) ∷ []
unfolding group_ranges
ranges_push g earlier = refl

pub forms_push : (g : Group) (earlier : List Group) → forms (g ∷ earlier) ≡ forms earlier ++ g.is_canonical ∷ []
unfolding forms
forms_push g earlier = refl

pub supers_push : (g : Group) (earlier : List Group)
    → supertype_ids (g ∷ earlier) ≡ supertype_ids earlier ++ map supertype_id (map (declared_map (by_id (count earlier))) g.types)
supers_push g earlier = ap (map supertype_id) (stored_push g earlier) ∙ map-append supertype_id (declared_by_id earlier) (map (declared_map (by_id (count earlier))) g.types)

pub length_forms : (groups : List Group) → length (forms groups) ≡ length groups
unfolding forms
length_forms [] = refl
length_forms (g ∷ earlier) = ap length (forms_push g earlier) ∙ length-append (forms earlier) (g.is_canonical ∷ []) ∙ omega (arith, length_forms earlier)

pub length_homes : (groups : List Group) → length (group_numbers groups) ≡ count groups
unfolding group_numbers type_count
length_homes [] = refl
length_homes (g ∷ earlier) =
    ap length (homes_push g earlier) ∙ length-append (group_numbers earlier) (replicate (length g.types) (length earlier))
    ∙ omega (arith, length_homes earlier, length-replicate (length g.types) (length earlier), count_push g earlier)

pub length_ranges : (groups : List Group) → length (group_ranges groups) ≡ length groups
unfolding group_ranges
length_ranges [] = refl
length_ranges (g ∷ earlier) =
    ap length (ranges_push g earlier) ∙ length-append (group_ranges earlier) ((count earlier, count earlier + length g.types) ∷ []) ∙ omega (arith, length_ranges earlier)

pub length_supers : (groups : List Group) → length (supertype_ids groups) ≡ count groups
length_supers groups = length-map (declared_by_id groups) supertype_id ∙ length_stored groups

-- ---- no groups

nothing_missing : (k : ℕ) (g : Group) → group_at [] k ≡ Some g → ⊥
nothing_missing k g e = cc

pub nothing_known : (types : List SubType) (m : Known) → m.alone ≡ [] → m.numbers.entries ≡ [] → Knows [] types (Some m)
nothing_known types m a e = record {
  ordered = subst (AllPairs (Precedes types)) (sym a) (λ i j d lt within. absurd (omega (arith, within)));
  alone = subst (All (IsAlone [] types)) (sym a) (λ k d within. absurd (omega (arith, within)));
  found = λ g.
      subst (λ (o : Option RecGroupId). MatchOption o (NoneDeclares types m.alone (declared_types g) → IsMissing [] (group_in true g)) (λ k. group_at [] k.0 ≡ Some (group_in true g)))
      (sym (ap (lookup (is_at (order.ghosts.cmp g))) e)) (λ none k f. nothing_missing k (group_in true g) f);
}

-- ---- lengths

module _ (gs : List Group) (lists : Lists) (known : Option Known) (is : IsTypeList gs lists known) where
  pub type_total : length lists.types.items ≡ count gs
  type_total = sym (length-map lists.types.items declared_of) ∙ ap length is.types ∙ length_stored gs

  pub home_total : length lists.homes.items ≡ count gs
  home_total = sym (length-map lists.homes.items (λ n. n.0)) ∙ ap length is.homes ∙ length_homes gs

  pub super_total : length lists.supertypes.items ≡ count gs
  super_total = ap length is.supertypes ∙ length_supers gs

  pub form_total : length lists.forms.items ≡ length gs
  form_total = ap length is.forms ∙ length_forms gs

  pub element_total : length lists.elements.items ≡ length gs
  element_total = sym (length-map lists.elements.items (λ r. (r.start.0, r.end.0))) ∙ ap length is.elements ∙ length_ranges gs
