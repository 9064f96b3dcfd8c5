-- A list of types with one more group.
use Rattle.std.proofs.Common.{◌≡◌, ◌∙◌, ℕ, zero, suc, ◌+◌, Bool, List, [], ◌∷◌, ◌++◌, length, map, replicate, refl, ap, sym, subst, Option, None, true, is_some, arith}
use Rattle.std.proofs.lemmas.List.{map-append, length-map}
use Rattle.wasm_types.specs.trees.declared.index.CoreTypeId.{CoreTypeId}
use Rattle.wasm_types.specs.declared.rec_group.RecGroup.{RecGroup}
use Rattle.wasm_types.specs.declared.sub_type.SubType.{SubType}
use Rattle.wasm_types.specs.Entries.{Declared, declared_of, declared_types}
use Rattle.wasm_types.specs.Remap.{declared_map}
use Rattle.wasm_types.specs.GroupsLaws.{TiesDeclareTheSame}
use Rattle.wasm_module_validator_type_storage.specs.trees.Groups.{Group, count, group_numbers, group_ranges, by_id, declared_by_id, supertype_id, supertype_ids}
use Rattle.wasm_module_validator_type_storage.specs.trees.Formed.{IsGroupFormed}
use Rattle.wasm_module_validator_type_storage.specs.trees.laws.Unrolled.{count_push}
use Rattle.wasm_module_validator_type_storage.specs.trees.laws.Ids.{stored_push}
use Rattle.wasm_module_validator_type_list.specs.declared.ids.RecGroupId.{RecGroupId}
use Rattle.wasm_module_validator_type_list.specs.declared.lists.Lists.{Lists}
use Rattle.wasm_module_validator_type_list.specs.Stored.{packed_by_id}
use Rattle.wasm_module_validator_type_list.specs.declared.known.Known.{Known}
use Rattle.wasm_module_validator_type_list.specs.Known.{group_in, Knows, KnowsMore}
use Rattle.wasm_module_validator_type_list.specs.List.{groups_in, IsTypeList, HasRoom, IsAdded}
use Rattle.wasm_module_validator_type_list.proofs.OverIds.{types_fit}
use Rattle.wasm_module_validator_type_list.proofs.Knowing.{knows_push, more_some}
use Rattle.wasm_module_validator_type_list.proofs.Depths.{places_push}
use Rattle.wasm_module_validator_type_list.specs.Lists.{SameItems, AreShort}
use Rattle.wasm_module_validator_type_list.specs.Uniform.{AreUniform}
use Rattle.wasm_module_validator_type_list.proofs.Parts.{homes_push, ranges_push, supers_push, forms_push, length_homes, type_total, home_total, super_total, element_total, form_total}

map_replicate : {A B : Type 0} (f : A → B) (n : ℕ) (a : A) → map f (replicate n a) ≡ replicate n (f a)
map_replicate f zero a = refl
map_replicate f (suc n) a = ap (λ l. f a ∷ l) (map_replicate f n a)

-- a further part, as its view is seen
viewed_push : {A B : Type 0} (f : A → B) (old now more : List A) (news ends : List B) → now ≡ old ++ more → map f old ≡ news → map f more ≡ ends → map f now ≡ news ++ ends
viewed_push f old now more news ends e a b = ap (map f) e ∙ map-append f old more ∙ ap (λ l. l ++ map f more) a ∙ ap (λ l. news ++ l) b

-- what each list of a list of types gains by a group
pub record Gains (old new : Lists) (canonical : Bool) (types : List SubType) (homes : List RecGroupId) (supertypes : List (Option CoreTypeId)) (first end : CoreTypeId) : Type 0 where
  pub forms_now : new.forms.items ≡ old.forms.items ++ canonical ∷ []
  pub types_now : new.types.items ≡ old.types.items ++ types
  pub homes_now : new.homes.items ≡ old.homes.items ++ homes
  pub supertypes_now : new.supertypes.items ≡ old.supertypes.items ++ supertypes
  pub elements_now : new.elements.items ≡ old.elements.items ++ record { start = first; end = end } ∷ []

module _ (gs : List Group) (old new : Lists) (known more : Option Known) (is : IsTypeList gs old known) (canonical : Bool) (group : RecGroup) (id : RecGroupId)
    (formed : IsGroupFormed (count gs) (group_in canonical group)) (added : IsAdded gs (group_in canonical group)) (room : HasRoom gs (length (declared_types group))) (at : id.0 ≡ length gs)
    (types : List SubType) (homes : List RecGroupId) (supertypes : List (Option CoreTypeId)) (first end : CoreTypeId) (gains : Gains old new canonical types homes supertypes first end)
    (begins : first.0 ≡ count gs) (ends : end.0 ≡ count gs + length (declared_types group)) where
  -- the types over ids
  by_ids : map declared_of types ≡ map (declared_map (packed_by_id first.0)) (declared_types group) → map declared_of types ≡ map (declared_map (by_id (count gs))) (declared_types group)
  by_ids stored =
      stored ∙ ap (λ (n : ℕ). map (declared_map (packed_by_id n)) (declared_types group)) begins
      ∙ types_fit canonical (count gs) (length (declared_types group)) room.types 0 (declared_types group) formed

  pub list_push : TiesDeclareTheSame → map declared_of types ≡ map (declared_map (packed_by_id first.0)) (declared_types group)
      → homes ≡ replicate (length (declared_types group)) id → supertypes ≡ map supertype_id (map declared_of types) → KnowsMore canonical old.types.items types first.0 group id known more
      → is_some known ≡ true → (n : ℕ) → n ≡ length (declared_types group) → new.depths.items ≡ old.depths.items ++ replicate n None
      → AreUniform new.types.items new.supertypes.items new.uniform.items → IsTypeList (group_in canonical group ∷ gs) new more
  list_push ties stored copied supers learned still n counted places uniform = record {
    formed = (formed, added, is.formed);
    small = let l = room.types in omega (arith, count_push (group_in canonical group) gs);
    few = let l = room.numbers in omega arith;
    forms = gains.forms_now ∙ ap (λ l. l ++ canonical ∷ []) is.forms ∙ sym (forms_push (group_in canonical group) gs);
    types = viewed_push declared_of old.types.items new.types.items types (declared_by_id gs) (map (declared_map (by_id (count gs))) (declared_types group)) gains.types_now is.types (by_ids stored)
        ∙ sym (stored_push (group_in canonical group) gs);
    homes = viewed_push (λ n. n.0) old.homes.items new.homes.items homes (group_numbers gs) (replicate (length (declared_types group)) (length gs)) gains.homes_now is.homes
        (ap (map (λ n. n.0)) copied ∙ map_replicate (λ n. n.0) (length (declared_types group)) id ∙ ap (replicate (length (declared_types group))) at)
        ∙ sym (homes_push (group_in canonical group) gs);
    supertypes = gains.supertypes_now ∙ ap (λ l. l ++ supertypes) is.supertypes
        ∙ ap (λ l. supertype_ids gs ++ l) (supers ∙ ap (map supertype_id) (by_ids stored)) ∙ sym (supers_push (group_in canonical group) gs);
    elements = viewed_push (λ r. (r.start.0, r.end.0)) old.elements.items new.elements.items (record { start = first; end = end } ∷ []) (group_ranges gs)
        ((count gs, count gs + length (declared_types group)) ∷ []) gains.elements_now is.elements (let a = begins in let b = ends in cc)
        ∙ sym (ranges_push (group_in canonical group) gs);
    knows = subst (λ (l : List SubType). Knows (group_in canonical group ∷ gs) l more) (sym gains.types_now)
        (knows_push ties gs old.types.items types canonical first.0 group id known more (begins ∙ sym (type_total gs old known is)) (begins ∙ sym (length_homes gs)) at is.knows learned);
    depths = places_push known more (group_in canonical group) gs old.depths.items new.depths.items n
        (more_some canonical old.types.items types first.0 group id known more learned) still is.depths counted places;
    uniform = uniform;
  }

-- as many types are stored as there are
pub stored_length : (types source : List SubType) (ds : List Declared) (start : ℕ) → map declared_of types ≡ map (declared_map (packed_by_id start)) (map declared_of source)
    → map declared_of source ≡ ds
    → length types ≡ length ds
stored_length types source ds start e f =
    sym (length-map types declared_of) ∙ ap length (e ∙ ap (map (declared_map (packed_by_id start))) f) ∙ length-map ds (declared_map (packed_by_id start))

-- the code's own names for it: the lists before, with room, and after
module _ (before mid after : Lists) (known more : Option Known) (gs : List Group) (view : groups_in before ≡ gs) (is : IsTypeList (groups_in before) before known)
    (same : SameItems before mid) (group : RecGroup) (room : HasRoom gs (length (declared_types group))) where
  pub short_lists : (n : ℕ) → n ≡ length (declared_types group) → AreShort mid n
  short_lists n e =
      let g = ap length view in
      let c = ap count view in
      let small = room.types in
      let few = room.numbers in
      record {
        forms = omega (arith, ap length same.forms, form_total (groups_in before) before known is);
        types = omega (arith, ap length same.types, type_total (groups_in before) before known is);
        homes = omega (arith, ap length same.homes, home_total (groups_in before) before known is);
        supertypes = omega (arith, ap length same.supertypes, super_total (groups_in before) before known is);
        elements = omega (arith, ap length same.elements, element_total (groups_in before) before known is);
      }

  pub added_list : TiesDeclareTheSame → (canonical : Bool) (id : RecGroupId) → IsGroupFormed (count gs) (group_in canonical group) → IsAdded gs (group_in canonical group) → id.0 ≡ length gs
      → (types source : List SubType) (homes : List RecGroupId) (supertypes : List (Option CoreTypeId)) (first end : CoreTypeId) (start further : ℕ)
      → start ≡ count gs → further ≡ length (declared_types group) → first.0 ≡ start → end.0 ≡ start + further
      → map declared_of source ≡ declared_types group
      → map declared_of types ≡ map (declared_map (packed_by_id start)) (map declared_of source)
      → homes ≡ replicate further id → supertypes ≡ map supertype_id (map declared_of types) → KnowsMore canonical mid.types.items types start group id known more
      → after.forms.items ≡ mid.forms.items ++ canonical ∷ []
      → after.types.items ≡ mid.types.items ++ types → after.homes.items ≡ mid.homes.items ++ homes → after.supertypes.items ≡ mid.supertypes.items ++ supertypes
      → after.elements.items ≡ mid.elements.items ++ record { start = first; end = end } ∷ []
      → is_some known ≡ true → mid.depths.items ≡ before.depths.items → after.depths.items ≡ mid.depths.items ++ replicate (length types) None
      → AreUniform after.types.items after.supertypes.items after.uniform.items
      → IsTypeList (group_in canonical group ∷ gs) after more
  added_list ties canonical id formed added at types source homes supertypes first end start further s f b e from stored copied supers learned a1 a2 a3 a4 a5 still d1 d2 uniform =
      let old : IsTypeList gs before known = subst (λ (l : List Group). IsTypeList l before known) view is in
      let gains : Gains before after canonical types homes supertypes first end = record {
        forms_now = a1 ∙ ap (λ l. l ++ canonical ∷ []) same.forms;
        types_now = a2 ∙ ap (λ l. l ++ types) same.types;
        homes_now = a3 ∙ ap (λ l. l ++ homes) same.homes;
        supertypes_now = a4 ∙ ap (λ l. l ++ supertypes) same.supertypes;
        elements_now = a5 ∙ ap (λ l. l ++ record { start = first; end = end } ∷ []) same.elements;
      } in
      list_push gs before after known more old canonical group id formed added room at types homes supertypes first end gains (b ∙ s) (e ∙ (let x = s in let y = f in cc)) ties
      (stored ∙ ap (map (declared_map (packed_by_id start))) from ∙ ap (λ (n : ℕ). map (declared_map (packed_by_id n)) (declared_types group)) (sym b))
      (copied ∙ ap (λ (n : ℕ). replicate n id) f) supers
      (subst (λ (k : ℕ). KnowsMore canonical before.types.items types k group id known more) (sym b)
      (subst (λ (l : List SubType). KnowsMore canonical l types start group id known more) same.types learned)) still
      (length types) (stored_length types source (declared_types group) start stored from)
      (d2 ∙ ap (λ l. l ++ replicate (length types) None) d1) uniform
