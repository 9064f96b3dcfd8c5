-- What groups in canonical form unroll to: ids keep their types, and each group leads to types of the list.
use Rattle.std.proofs.Common.{◌≡◌, ◌∙◌, ℕ, suc, ◌+◌, ◌-◌, ◌<◌, ◌≤◌, Bool, true, IsTrue, List, [], ◌∷◌, length, map, refl, ap, sym, subst, arith}
use Rattle.std.proofs.lemmas.List.{length-map}
use Rattle.wasm_types.specs.trees.declared.index.UnpackedIndex.{UnpackedIndex}
use Rattle.wasm_types.specs.trees.declared.index.UnpackedIndex.TheVariants.{Module, RecGroup, Id}
use Rattle.wasm_types.specs.trees.Types.{EntryOf, entry_map}
use Rattle.wasm_types.specs.trees.Each.{EachEntry, EachEntries}
use Rattle.wasm_types.specs.trees.Trees.{TypeTree, group_tree}
use Rattle.wasm_types.specs.trees.Unfold.{GroupReference, Local, Earlier, Entry, reference_tree, unfolded, IsKnown, IsWithin, IsGroupWithin, AreWithin}
use Rattle.wasm_types.specs.trees.laws.Types.{each_entry, entry_of_each, entry_agrees}
use Rattle.wasm_types.specs.trees.laws.Unfold as laws
use Rattle.wasm_types.specs.Entries.{Declared}
use Rattle.wasm_module_validator_type_storage.specs.trees.Groups.{Group, reference_of, entries_of, entries, count, tree_of, tree_behind}
use Rattle.wasm_module_validator_type_storage.specs.trees.Formed.{IsIndexWithin, AreTypesFormed, IsGroupFormed, IsFormed, AreCanonical}

-- ---- counts

pub length_entries : (g : Group) → length (entries_of g) ≡ length g.types
length_entries g = length-map (map (λ (d : Declared). d.entry) g.types) (entry_map reference_of) ∙ length-map g.types (λ (d : Declared). d.entry)

pub count_push : (g : Group) (earlier : List Group) → count (g ∷ earlier) ≡ count earlier + length g.types
count_push g earlier = laws.count_push (entries_of g) (entries earlier) ∙ ap (λ (n : ℕ). count earlier + n) (length_entries g)

-- ---- stability

pub tree_old : (g : Group) (earlier : List Group) (id : ℕ) → id < count earlier → tree_of (g ∷ earlier) id ≡ tree_of earlier id
tree_old g earlier id lt = laws.tree_old (entries_of g) (entries earlier) id lt

pub tree_new : (g : Group) (earlier : List Group) (id : ℕ) → count earlier ≤ id → tree_of (g ∷ earlier) id ≡ record { group = tree_behind earlier g; place = id - count earlier }
tree_new g earlier id le = laws.tree_new (entries_of g) (entries earlier) id le

-- ---- what holds of each reference of a list of entries

pub each_entries : {R : Type 0} (P Q : R → Type 0) → ((r : R) → P r → Q r) → (xs : List (EntryOf R)) → EachEntries P xs → EachEntries Q xs
each_entries P Q then [] w = tt
each_entries P Q then (x ∷ xs) w = (each_entry P Q then x w.0, each_entries P Q then xs w.1)

-- ---- groups in canonical form lead to what stands

index_within : (known places : ℕ) (i : UnpackedIndex) → IsIndexWithin true known places i → IsWithin known places (reference_of i)
index_within known places (Module n) w = absurd cc
index_within known places (RecGroup p) w = w
index_within known places (Id i) w = w

entry_within : (known places : ℕ) (x : EntryOf UnpackedIndex) → EachEntry (IsIndexWithin true known places) x → EachEntry (IsWithin known places) (entry_map reference_of x)
entry_within known places x w =
    entry_of_each reference_of (IsWithin known places) x
    (each_entry (IsIndexWithin true known places) (λ i. IsWithin known places (reference_of i)) (index_within known places) x w)

types_within : (known places own : ℕ) (ds : List Declared) → AreTypesFormed true known places own ds
    → EachEntries (IsWithin known places) (map (entry_map reference_of) (map (λ d. d.entry) ds))
types_within known places own [] w = tt
types_within known places own (d ∷ ds) w = (entry_within known places d.entry w.0.within, types_within known places (suc own) ds w.1)

pub group_within : (known : ℕ) (g : Group) → IsTrue g.is_canonical → IsGroupFormed known g → IsGroupWithin known (entries_of g)
group_within known g c w =
    let v : AreTypesFormed true known (length g.types) 0 g.types = subst (λ (b : Bool). AreTypesFormed b known (length g.types) 0 g.types) c w in
    subst (λ (n : ℕ). EachEntries (IsWithin known n) (entries_of g)) (sym (length_entries g)) (types_within known (length g.types) 0 g.types v)

pub formed_within : (groups : List Group) → IsFormed groups → AreCanonical groups → AreWithin (entries groups)
formed_within [] w c = tt
formed_within (g ∷ earlier) w c = (group_within (count earlier) g c.0 w.0, formed_within earlier w.2 c.1)

within_known : (known places : ℕ) (r : GroupReference) → IsWithin known places r → IsKnown known r
within_known known places (Local p) w = tt
within_known known places (Earlier i) w = w

pub group_known : (known : ℕ) (g : Group) → IsTrue g.is_canonical → IsGroupFormed known g → EachEntries (IsKnown known) (entries_of g)
group_known known g c w =
    each_entries (IsWithin known (length (entries_of g))) (IsKnown known) (within_known known (length (entries_of g))) (entries_of g) (group_within known g c w)

known_widens : (few many : ℕ) → few ≤ many → (r : GroupReference) → IsKnown few r → IsKnown many r
known_widens few many le (Local p) w = tt
known_widens few many le (Earlier i) w = omega arith

pub entries_widen : (few many : ℕ) → few ≤ many → (xs : List Entry) → EachEntries (IsKnown few) xs → EachEntries (IsKnown many) xs
entries_widen few many le xs w = each_entries (IsKnown few) (IsKnown many) (known_widens few many le) xs w

-- ---- a group unrolls alike where the ids that it names do

module _ (f h : ℕ → TypeTree) (known : ℕ) (agree : (i : ℕ) → i < known → f i ≡ h i) where
  reference_agrees : (r : GroupReference) → IsKnown known r → reference_tree f r ≡ reference_tree h r
  reference_agrees (Local p) w = refl
  reference_agrees (Earlier i) w = ap (λ (t : TypeTree). reference_tree (λ n. t) (Earlier i)) (agree i w)

  entries_agree : (xs : List Entry) → EachEntries (IsKnown known) xs → map (entry_map (reference_tree f)) xs ≡ map (entry_map (reference_tree h)) xs
  entries_agree [] w = refl
  entries_agree (x ∷ xs) w =
      let a : entry_map (reference_tree f) x ≡ entry_map (reference_tree h) x =
      entry_agrees (reference_tree f) (reference_tree h) x (each_entry (IsKnown known) (λ r. reference_tree f r ≡ reference_tree h r) reference_agrees x w.0) in
      let b = entries_agree xs w.1 in
      cc

  pub unfolds_alike : (xs : List Entry) → EachEntries (IsKnown known) xs → unfolded f xs ≡ unfolded h xs
  unfolds_alike xs w = ap group_tree (entries_agree xs w)
