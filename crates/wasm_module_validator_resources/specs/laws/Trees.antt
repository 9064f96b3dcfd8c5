-- The types of a list by their ids, and what names of types mean.
use Rattle.std.proofs.Common.{◌≡◌, ◌∙◌, ℕ, ◌+◌, ◌-◌, ◌<◌, ◌≤◌, List, [], ◌∷◌, ◌++◌, length, map, get_or, refl, ap, sym, subst, Some, ⊎_elim, arith}
use Rattle.std.specs.Prelude.{slice_get}
use Rattle.std.proofs.lemmas.Bool.{cases_lt}
use Rattle.std.proofs.lemmas.Option.{get_or_from_slice_get, slice_get_within}
use Rattle.std.proofs.lemmas.List.{length-map, length-append, get_or-map, get_or_append_left, get_or-append_right, get_or_past}
use Rattle.wasm_types.specs.trees.declared.index.CoreTypeId.{CoreTypeId}
use Rattle.wasm_types.specs.trees.declared.index.UnpackedIndex.TheVariants.{Id}
use Rattle.wasm_types.specs.trees.Types.{entry_map}
use Rattle.wasm_types.specs.trees.Trees.{TypeTree, entries_of}
use Rattle.wasm_types.specs.trees.Unfold.{Entry, reference_tree, type_count}
use Rattle.wasm_types.specs.trees.ValidGroup.{type_at, types_from}
use Rattle.wasm_types.specs.trees.laws.Trees.{entries_back}
use Rattle.wasm_types.specs.trees.laws.Valid.{length_types, get_types}
use Rattle.wasm_operator_validator_resources.specs.Meaning.{named_type}
use Rattle.wasm_module_validator_type_storage.specs.trees.Groups.{Group, count, tree_of, tree_behind}
use Rattle.wasm_module_validator_type_storage.specs.trees.Groups as groups_of
use Rattle.wasm_module_validator_type_storage.specs.trees.laws.Unrolled.{length_entries, count_push, tree_old, tree_new}
use Rattle.wasm_module_validator_type_groups.specs.adding.Interned.{space_of}
use Rattle.wasm_module_validator_resources.specs.Reading.{types_by_id, names_in}
use Rattle.wasm_module_validator_resources.specs.Named.{nowhere}

pub none_counted : (id : ℕ) → id < count [] → ⊥
unfolding type_count
none_counted id lt = absurd (omega arith)

-- ---- all types, by their ids

types_push : (g : Group) (earlier : List Group) → types_by_id (g ∷ earlier) ≡ types_by_id earlier ++ types_from (tree_behind earlier g) 0 (length g.types)
unfolding types_by_id
types_push g earlier = refl

pub types_counted : (groups : List Group) → length (types_by_id groups) ≡ count groups
unfolding types_by_id type_count
types_counted [] = refl
types_counted (g ∷ earlier) =
    ap length (types_push g earlier) ∙ length-append (types_by_id earlier) (types_from (tree_behind earlier g) 0 (length g.types))
    ∙ omega (arith, types_counted earlier, length_types (tree_behind earlier g) 0 (length g.types), count_push g earlier)

pub type_by_id : (groups : List Group) (id : ℕ) (d : TypeTree) → id < count groups → get_or (types_by_id groups) id d ≡ tree_of groups id
type_by_id [] id d lt = absurd (none_counted id lt)
type_by_id (g ∷ earlier) id d lt =
    let long = types_counted earlier in
    let pushed = count_push g earlier in
    let news : List TypeTree = types_from (tree_behind earlier g) 0 (length g.types) in
    ap (λ (l : List TypeTree). get_or l id d) (types_push g earlier)
    ∙ ⊎_elim
    (λ old. get_or_append_left (types_by_id earlier) news d id (omega arith) ∙ type_by_id earlier id d old ∙ sym (tree_old g earlier id old))
    (λ new.
    let place : 0 + (id - count earlier) ≡ id - count earlier = omega arith in
    get_or-append_right (types_by_id earlier) news (count earlier) id d long new
    ∙ get_types (tree_behind earlier g) 0 (length g.types) (id - count earlier) d (omega arith)
    ∙ ap (λ (n : ℕ). record { group = tree_behind earlier g; place = n }) place
    ∙ sym (tree_new g earlier id new))
    (cases_lt id (count earlier))

-- ---- what a name means

module _ (groups : List Group) (ids : List CoreTypeId) where
  pub id_known : (i : CoreTypeId) → i.0 < count groups → named_type (names_in groups ids) (Id i) ≡ tree_of groups i.0
  id_known i lt = type_by_id groups i.0 (nowhere i.0) lt

  pub id_unknown : (i : CoreTypeId) → count groups ≤ i.0 → named_type (names_in groups ids) (Id i) ≡ nowhere i.0
  id_unknown i le = get_or_past (types_by_id groups) i.0 (nowhere i.0) (omega (arith, types_counted groups))

  pub index_known : (n : ℕ) (i : CoreTypeId) → slice_get ids n ≡ Some i → type_at (space_of groups ids) n ≡ tree_of groups i.0
  index_known n i e =
      let lt = slice_get_within ids n i e in
      get_or-map (λ (x : CoreTypeId). tree_of groups x.0) ids n i (nowhere n) lt
      ∙ ap (λ (x : CoreTypeId). tree_of groups x.0) (get_or_from_slice_get ids n i i e)

  pub index_unknown : (n : ℕ) → length ids ≤ n → type_at (space_of groups ids) n ≡ nowhere n
  index_unknown n le = get_or_past (space_of groups ids) n (nowhere n) (omega (arith, length-map ids (λ (x : CoreTypeId). tree_of groups x.0)))

-- ---- a type of the list is none that stands past its end

abbrev pub IsInside : TypeTree → Type 0
IsInside t = t.place < length (entries_of t.group)

inside : (groups : List Group) (id : ℕ) → id < count groups → IsInside (tree_of groups id)
inside [] id lt = absurd (none_counted id lt)
inside (g ∷ earlier) id lt =
    let pushed = count_push g earlier in
    let xs : List Entry = groups_of.entries_of g in
    let back : length (entries_of (tree_behind earlier g)) ≡ length g.types =
    ap length (entries_back (map (entry_map (reference_tree (tree_of earlier))) xs)) ∙ length-map xs (entry_map (reference_tree (tree_of earlier))) ∙ length_entries g in
    ⊎_elim
    (λ old. subst IsInside (sym (tree_old g earlier id old)) (inside earlier id old))
    (λ new. subst IsInside (sym (tree_new g earlier id new)) (omega arith))
    (cases_lt id (count earlier))

outside : (n : ℕ) → IsInside (nowhere n) → ⊥
outside n lt = absurd (omega arith)

pub not_nowhere : (groups : List Group) (id n : ℕ) → id < count groups → tree_of groups id ≡ nowhere n → ⊥
not_nowhere groups id n lt e = outside n (subst IsInside e (inside groups id lt))
