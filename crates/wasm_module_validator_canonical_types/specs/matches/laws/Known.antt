-- Each type of a list of groups in canonical form refers to ids of the list alone.
use Rattle.std.proofs.Common.{◌≡◌, ℕ, zero, suc, ◌+◌, ◌<◌, ◌≤◌, Bool, true, List, [], ◌∷◌, ◌++◌, length, map, get_or, sym, subst, arith}
use Rattle.wasm_types.specs.trees.declared.index.CoreTypeId.{CoreTypeId}
use Rattle.wasm_types.specs.trees.declared.index.UnpackedIndex.{UnpackedIndex}
use Rattle.wasm_types.specs.trees.declared.index.UnpackedIndex.TheVariants.{Module, RecGroup, Id}
use Rattle.wasm_types.specs.trees.Each.{EachEntry}
use Rattle.wasm_types.specs.trees.laws.Types.{each_entry, entry_of_each}
use Rattle.wasm_types.specs.Entries.{Declared}
use Rattle.wasm_types.specs.Remap.{declared_map}
use Rattle.wasm_module_validator_type_storage.specs.trees.Groups.{Group, count, by_id, declared_by_id}
use Rattle.wasm_module_validator_type_storage.specs.trees.Formed.{IsIndexWithin, AreTypesFormed, IsFormed, AreCanonical}
use Rattle.wasm_module_validator_type_storage.specs.trees.BelowIds.{IsIdBelow, undeclared, entry_by_id}
use Rattle.wasm_module_validator_type_storage.specs.trees.laws.Unrolled.{count_push}
use Rattle.wasm_module_validator_type_storage.specs.trees.laws.Ids.{stored_push, length_stored}

-- each index of these types is an id below n
abbrev EachIdBelow : ℕ → List Declared → Type 0
EachIdBelow n [] = Unit {0}
EachIdBelow n (d ∷ ds) = EachEntry (IsIdBelow n) d.entry × EachIdBelow n ds

id_widens : (few many : ℕ) → few ≤ many → (i : UnpackedIndex) → IsIdBelow few i → IsIdBelow many i
id_widens few many le (Module m) w = absurd w
id_widens few many le (RecGroup p) w = absurd w
id_widens few many le (Id i) w = omega arith

ids_widen : (few many : ℕ) → few ≤ many → (ds : List Declared) → EachIdBelow few ds → EachIdBelow many ds
ids_widen few many le [] w = tt
ids_widen few many le (d ∷ ds) w = (each_entry (IsIdBelow few) (IsIdBelow many) (id_widens few many le) d.entry w.0, ids_widen few many le ds w.1)

ids_append : (n : ℕ) (xs ys : List Declared) → EachIdBelow n xs → EachIdBelow n ys → EachIdBelow n (xs ++ ys)
ids_append n [] ys v w = w
ids_append n (x ∷ xs) ys v w = (v.0, ids_append n xs ys v.1 w)

ids_at : (n : ℕ) (ds : List Declared) (i : ℕ) (d : Declared) → EachIdBelow n ds → i < length ds → EachEntry (IsIdBelow n) (get_or ds i d).entry
ids_at n [] i d w lt = absurd (omega arith)
ids_at n (x ∷ xs) zero d w lt = w.0
ids_at n (x ∷ xs) (suc i) d w lt = ids_at n xs i d w.1 (omega arith)

index_known : (start places : ℕ) (i : UnpackedIndex) → IsIndexWithin true start places i → IsIdBelow (start + places) (by_id start i)
index_known start places (Module m) w = absurd cc
index_known start places (RecGroup p) w = omega arith
index_known start places (Id i) w = omega arith

types_known : (start places own : ℕ) (ds : List Declared) → AreTypesFormed true start places own ds → EachIdBelow (start + places) (map (declared_map (by_id start)) ds)
types_known start places own [] w = tt
types_known start places own (d ∷ ds) w = (
  entry_of_each (by_id start) (IsIdBelow (start + places)) d.entry
      (each_entry (IsIndexWithin true start places) (λ i. IsIdBelow (start + places) (by_id start i)) (index_known start places) d.entry w.0.within),
  types_known start places (suc own) ds w.1,
)

stored_known : (groups : List Group) → IsFormed groups → AreCanonical groups → EachIdBelow (count groups) (declared_by_id groups)
unfolding declared_by_id
stored_known [] formed c = tt
stored_known (g ∷ earlier) formed c =
    let n : ℕ = count earlier in
    let v : AreTypesFormed true n (length g.types) 0 g.types = subst (λ (b : Bool). AreTypesFormed b n (length g.types) 0 g.types) c.0 formed.0 in
    let older = ids_widen n (count (g ∷ earlier)) (omega (arith, count_push g earlier)) (declared_by_id earlier) (stored_known earlier formed.2 c.1) in
    let newer = subst (λ (m : ℕ). EachIdBelow m (map (declared_map (by_id n)) g.types)) (sym (count_push g earlier)) (types_known n (length g.types) 0 g.types v) in
    ids_append (count (g ∷ earlier)) (declared_by_id earlier) (map (declared_map (by_id n)) g.types) older newer

pub entry_known : (groups : List Group) → IsFormed groups → AreCanonical groups → (a : CoreTypeId) → a.0 < count groups → EachEntry (IsIdBelow (count groups)) (entry_by_id groups a)
entry_known groups formed c a lt = ids_at (count groups) (declared_by_id groups) a.0 undeclared (stored_known groups formed c) (omega (arith, length_stored groups))
