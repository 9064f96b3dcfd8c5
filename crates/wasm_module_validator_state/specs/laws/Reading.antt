-- What a module that is being read means with an item more: its context grows by the item, and by nothing else.
use Rattle.std.proofs.Common.{◌≡◌, ◌∙◌, ⊎_elim, inl, inr, ℕ, ◌+◌, ◌<◌, Bool, true, false, List, [], ◌∷◌, ◌++◌, length, map, refl, ap, sym, subst, arith}
use Rattle.std.specs.Prelude.{All, if◌then◌else◌}
use Rattle.std.proofs.lemmas.List.{map-append, length-map, get_or-map}
use Rattle.std.proofs.lemmas.List.Elements.{All-weaker}
use Rattle.wasm_types.specs.trees.declared.index.CoreTypeId.{CoreTypeId}
use Rattle.wasm_types.specs.trees.declared.index.UnpackedIndex.{UnpackedIndex}
use Rattle.wasm_types.specs.trees.declared.index.UnpackedIndex.TheVariants.{Module, RecGroup, Id}
use Rattle.wasm_types.specs.trees.Types.{ValueOf, number, ref, abstract, concrete, exact, value_map}
use Rattle.wasm_types.specs.trees.Each.{EachValue}
use Rattle.wasm_types.specs.trees.Trees.{TypeTree, group_tree}
use Rattle.wasm_types.specs.trees.Below.{expanded}
use Rattle.wasm_types.specs.trees.ValidGroup.{type_at, IsFunction}
use Rattle.wasm_types.specs.trees.laws.Types.{value_agrees}
use Rattle.wasm_types.specs.values.Reference.{Reference}
use Rattle.wasm_types.specs.values.declared.value.ValType.TheVariants.{Ref}
use Rattle.wasm_types.specs.values.Values.{value_of}
use Rattle.wasm_types.specs.externs.declared.table.TableType.{TableType}
use Rattle.wasm_types.specs.externs.declared.global.GlobalType.{GlobalType}
use Rattle.wasm_operator_validator_rules.specs.Context.{Table, Global}
use Rattle.wasm_operator_validator_rules.specs.Operands.{ValueType}
use Rattle.wasm_operator_validator_stacks.specs.resources.Meaning.{named_type, type_in, table_in, global_in, reference_in}
use Rattle.wasm_module_validator_type_storage.specs.trees.Groups.{Group, count, tree_of}
use Rattle.wasm_module_validator_type_storage.specs.trees.BelowIds.{IsIdBelow}
use Rattle.wasm_module_validator_type_storage.specs.trees.laws.Unrolled.{tree_old, count_push}
use Rattle.wasm_module_validator_type_groups.specs.adding.Interned.{space_of, AddsGroup}
use Rattle.wasm_module_validator_resources.specs.index_spaces.declared.module.Function.{Function}
use Rattle.wasm_module_validator_resources.specs.index_spaces.Spaces.{Spaces, id_at}
use Rattle.wasm_module_validator_resources.specs.Reading.{places, names_in, context_of, meaning_of}
use Rattle.wasm_module_validator_resources.specs.Named.{IsFunctionId}
use Rattle.wasm_module_validator_resources.specs.laws.Trees.{type_by_id}
use Rattle.wasm_module_validator_state.specs.Adding.{adding_table, adding_global, adding_tag, adding_element, referring}
use Rattle.wasm_module_validator_state.specs.Contexts.{with_types, with_function, with_tag, with_element, AlsoRefers, AreNamesKnown, IsKnownValue}
use Rattle.wasm_module_validator_state.specs.laws.Growing.{places_more, places_same, referring_map, referring_places, referring_more, type_kept, map_same}

module _ (groups : List Group) (s : Spaces) where
  -- the type of a function
  type_of : Function → TypeTree
  type_of f = type_at (space_of groups s.types) f.type_index

  pub function_more : (f : Function) → f.is_referenced ≡ false
      → context_of groups (record s { functions = s.functions ++ f ∷ [] }) ≡ with_function f.is_exact f.type_index (context_of groups s)
  unfolding type_of
  function_more f e =
      let one = map-append type_of s.functions (f ∷ []) in
      let long : 0 + length s.functions ≡ length (map type_of s.functions) = omega (arith, length-map s.functions type_of) in
      let referred = places_same (λ (g : Function). g.is_referenced) 0 s.functions f e in
      let exactly = places_more (λ (g : Function). g.is_exact) f.is_exact 0 s.functions f refl
      ∙ ap (λ (n : ℕ). places (λ (g : Function). g.is_exact) 0 s.functions ++ (if f.is_exact then n ∷ [] else [])) long in
      λ i. record (context_of groups s) { functions = one i; referenced = referred i; exact_functions = exactly i }

  pub table_more : (t : TableType) (x : Table) → table_in (meaning_of groups s) t ≡ x
      → context_of groups (adding_table t s) ≡ record (context_of groups s) { tables = (context_of groups s).tables ++ x ∷ [] }
  table_more t x e =
      let one = map-append (table_in (names_in groups s.types)) s.tables (t ∷ []) ∙ ap (λ (y : Table). map (table_in (names_in groups s.types)) s.tables ++ y ∷ []) e in
      λ i. record (context_of groups s) { tables = one i }

  pub global_more : (t : GlobalType) (x : Global) → global_in (meaning_of groups s) t ≡ x
      → context_of groups (adding_global t s) ≡ record (context_of groups s) { globals = (context_of groups s).globals ++ x ∷ [] }
  unfolding type_in
  global_more t x e =
      let one = map-append (global_in (names_in groups s.types)) s.globals (t ∷ []) ∙ ap (λ (y : Global). map (global_in (names_in groups s.types)) s.globals ++ y ∷ []) e in
      λ i. record (context_of groups s) { globals = one i }

  pub tag_more : (x : ℕ) → x < length s.types → context_of groups (adding_tag x s) ≡ with_tag x (context_of groups s)
  tag_more x lt =
      let tree : CoreTypeId → TypeTree = λ (j : CoreTypeId). tree_of groups j.0 in
      let at = get_or-map tree s.types x (record { 0 = 0 }) (record { group = group_tree []; place = x }) lt in
      let one = map-append tree s.tags (id_at s.types x ∷ []) ∙ ap (λ (y : TypeTree). map tree s.tags ++ y ∷ []) (sym at) in
      λ i. record (context_of groups s) { tags = one i }

  pub element_more : (r : Reference) (x : ValueType) → reference_in (meaning_of groups s) r ≡ x
      → context_of groups (adding_element r s) ≡ with_element x (context_of groups s)
  element_more r x e =
      let one = map-append (reference_in (names_in groups s.types)) s.elements (r ∷ [])
      ∙ ap (λ (y : ValueType). map (reference_in (names_in groups s.types)) s.elements ++ y ∷ []) e in
      λ i. record (context_of groups s) { elements = one i }

  pub reference_more : (x : ℕ) → AlsoRefers x (context_of groups s) (context_of groups (referring x s))
  unfolding type_of
  reference_more x =
      let one = referring_map type_of (λ f. refl) x s.functions in
      let exactly = referring_places (λ (g : Function). g.is_exact) (λ f. refl) x 0 s.functions in
      let at : 0 + x ≡ x = omega arith in
      let long = length-map s.functions type_of in
      record {
        same = λ i. record (context_of groups (referring x s)) { functions = one i; exact_functions = exactly i };
        referenced = λ y.
            let w = referring_more x 0 s.functions y in (
              λ h. ⊎_elim (λ r. inl r) (λ e. let l = e.1 in inr (e.0 ∙ at, omega arith)) (w.0 h),
              λ h. w.1 (⊎_elim (λ r. inl r) (λ e. let l = e.1 in inr (e.0 ∙ sym at, omega arith)) h),
            );
      }

-- ---- types

-- a list with a group more, or the same list
pub data Extends : List Group → List Group → Type 0 where
  same : {groups : List Group} → Extends groups groups
  more : {groups : List Group} {g : Group} → Extends groups (g ∷ groups)

tree_stays : {old new : List Group} → Extends old new → (id : ℕ) → id < count old → (tree_of new id ≡ tree_of old id) × (id < count new)
tree_stays same id lt = (refl, lt)
tree_stays (more {groups = groups} {g = g}) id lt = let pushed = count_push g groups in (tree_old g groups id lt, omega arith)

extends : (old new : List Group) (g : Group) (is_new : Bool) → new ≡ (if is_new then g ∷ old else old) → Extends old new
extends old new g true e = subst (Extends old) (sym e) more
extends old new g false e = subst (Extends old) (sym e) same

module _ (old new : List Group) (e : Extends old new) (ids after : List CoreTypeId) where
  index_stays : (i : UnpackedIndex) → IsIdBelow (count old) i → named_type (names_in new after) i ≡ named_type (names_in old ids) i
  index_stays (Module n) w = absurd w
  index_stays (RecGroup p) w = absurd w
  index_stays (Id i) w =
      let past : TypeTree = record { group = group_tree []; place = i.0 } in
      let kept = tree_stays e i.0 w in
      type_by_id new i.0 past kept.1 ∙ kept.0 ∙ sym (type_by_id old i.0 past w)

  value_stays : (v : ValueOf UnpackedIndex) → IsKnownValue old v → EachValue (λ (i : UnpackedIndex). named_type (names_in new after) i ≡ named_type (names_in old ids) i) v
  value_stays (number n) w = tt
  value_stays (ref n (abstract s a)) w = tt
  value_stays (ref n (concrete i)) w = index_stays i w
  value_stays (ref n (exact i)) w = index_stays i w

  value_same : (v : ValueOf UnpackedIndex) → IsKnownValue old v → value_map (named_type (names_in new after)) v ≡ value_map (named_type (names_in old ids)) v
  value_same v known = value_agrees (named_type (names_in new after)) (named_type (names_in old ids)) v (value_stays v known)

  table_same : (t : TableType) → IsKnownValue old (value_of (Ref t.element_type)) → table_in (names_in new after) t ≡ table_in (names_in old ids) t
  table_same t known =
      let one = value_same (value_of (Ref t.element_type)) known in
      λ i. record { element = one i; table64 = t.table64; shared = t.shared }

  global_same : (t : GlobalType) → IsKnownValue old (value_of t.content_type) → global_in (names_in new after) t ≡ global_in (names_in old ids) t
  unfolding type_in
  global_same t known =
      let one = value_same (value_of t.content_type) known in
      λ i. record { content = one i; mutable = t.mutable; shared = t.shared }

  reference_same : (r : Reference) → IsKnownValue old (value_of (Ref r)) → reference_in (names_in new after) r ≡ reference_in (names_in old ids) r
  reference_same r known = value_same (value_of (Ref r)) known

-- types more, where all names are of types of the list
pub types_more : (old new : List Group) → Extends old new → (s : Spaces) (after : List CoreTypeId) (trees : List TypeTree) → space_of new after ≡ space_of old s.types ++ trees
    → All (λ (i : CoreTypeId). i.0 < count old) s.tags → AreNamesKnown old s
    → context_of new (record s { types = after }) ≡ with_types trees (context_of old s)
types_more old new e s after trees grown tags known =
    let long = length-map s.types (λ (i : CoreTypeId). tree_of old i.0) in
    let functions = map_same (λ (f : Function). f.type_index < length s.types) (λ (f : Function). type_at (space_of new after) f.type_index)
    (λ (f : Function). type_at (space_of old s.types) f.type_index)
    (λ f lt. ap (λ (l : List TypeTree). type_at l f.type_index) grown ∙ type_kept (space_of old s.types) trees f.type_index (omega arith)) s.functions known.functions in
    let tables = map_same (λ (t : TableType). IsKnownValue old (value_of (Ref t.element_type))) (table_in (names_in new after)) (table_in (names_in old s.types))
    (table_same old new e s.types after) s.tables known.tables in
    let globals = map_same (λ (t : GlobalType). IsKnownValue old (value_of t.content_type)) (global_in (names_in new after)) (global_in (names_in old s.types))
    (global_same old new e s.types after) s.globals known.globals in
    let elements = map_same (λ (r : Reference). IsKnownValue old (value_of (Ref r))) (reference_in (names_in new after)) (reference_in (names_in old s.types))
    (reference_same old new e s.types after) s.elements known.elements in
    let called = map_same (λ (i : CoreTypeId). i.0 < count old) (λ (i : CoreTypeId). tree_of new i.0) (λ (i : CoreTypeId). tree_of old i.0)
    (λ i lt. (tree_stays e i.0 lt).0) s.tags tags in
    λ i. record (context_of old s) { types = grown i; functions = functions i; tables = tables i; globals = globals i; tags = called i; elements = elements i }

pub types_added : (old new : List Group) (s : Spaces) (after : List CoreTypeId) (g : Group) (trees : List TypeTree) → AddsGroup old new s.types after g
    → space_of new after ≡ space_of old s.types ++ trees → All (λ (i : CoreTypeId). i.0 < count old) s.tags → AreNamesKnown old s
    → context_of new (record s { types = after }) ≡ with_types trees (context_of old s)
types_added old new s after g trees a grown tags known = types_more old new (extends old new g a.is_new a.interned.groups) s after trees grown tags known

-- functions of the list stay functions of the list
pub functions_stay : (old new : List Group) (before after : List CoreTypeId) (g : Group) (tags : List CoreTypeId) → AddsGroup old new before after g → All (IsFunctionId old) tags
    → All (IsFunctionId new) tags
functions_stay old new before after g tags a all =
    All-weaker (IsFunctionId old) (IsFunctionId new)
    (λ i f. let kept = tree_stays (extends old new g a.is_new a.interned.groups) i.0 f.0 in
    (kept.1, subst (λ (t : TypeTree). IsFunction (expanded t)) (sym kept.0) f.1)) tags all
