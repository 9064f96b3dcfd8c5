-- What is said of ids is what is said of the trees that they stand for, where all groups are in canonical form.
use Rattle.std.proofs.Common.{◌≡◌, ◌∙◌, ◌↔◌, ℕ, zero, suc, ◌+◌, ◌<◌, Bool, true, false, List, [], ◌∷◌, ◌++◌, length, map, get_or, refl, ap, sym, subst, Option, Some, None, arith}
use Rattle.std.specs.Option.{option_map}
use Rattle.std.proofs.lemmas.List.{length-map, length-append, map-append, get_or-map}
use Rattle.wasm_types.specs.trees.declared.index.CoreTypeId.{CoreTypeId}
use Rattle.wasm_types.specs.trees.declared.index.UnpackedIndex.{UnpackedIndex}
use Rattle.wasm_types.specs.trees.declared.index.UnpackedIndex.TheVariants.{Module, RecGroup, Id}
use Rattle.wasm_types.specs.trees.Indices.{number_of}
use Rattle.wasm_types.specs.trees.Types.{EntryOf, entry_map, function}
use Rattle.wasm_types.specs.trees.Each.{EachOption}
use Rattle.wasm_types.specs.trees.Trees.{TypeTree, opened}
use Rattle.wasm_types.specs.trees.Unfold.{reference_id, numbered_entries, type_count}
use Rattle.wasm_types.specs.trees.Below.{supertype, DeclaredBelow, itself, declared}
use Rattle.wasm_types.specs.trees.laws.Types.{each_entry, entry_agrees, entry_twice}
use Rattle.wasm_types.specs.trees.laws.Unfold.{type_opens}
use Rattle.wasm_types.specs.Entries.{Declared}
use Rattle.wasm_types.specs.Remap.{declared_map}
use Rattle.wasm_module_validator_type_storage.specs.trees.Groups.{Group, reference_of, entries_of, entries, count, tree_of, by_id, declared_by_id, id_in, supertype_id}
use Rattle.wasm_module_validator_type_storage.specs.trees.Formed.{IsIndexWithin, AreTypesFormed, IsFormed, AreCanonical}
use Rattle.wasm_module_validator_type_storage.specs.trees.ByIds as ids
use Rattle.wasm_module_validator_type_storage.specs.trees.ByIds.{supertype_of, IdBelow, tree_named}
use Rattle.wasm_module_validator_type_storage.specs.trees.laws.Unrolled.{count_push, formed_within}
use Rattle.wasm_module_validator_type_storage.specs.trees.laws.Apart.{apart}

-- ---- what is stored

pub stored_push : (g : Group) (earlier : List Group) → declared_by_id (g ∷ earlier) ≡ declared_by_id earlier ++ map (declared_map (by_id (count earlier))) g.types
unfolding declared_by_id
stored_push g earlier = refl

pub length_stored : (groups : List Group) → length (declared_by_id groups) ≡ count groups
unfolding declared_by_id type_count
length_stored [] = refl
length_stored (g ∷ earlier) =
    ap length (stored_push g earlier) ∙ length-append (declared_by_id earlier) (map (declared_map (by_id (count earlier))) g.types)
    ∙ omega (arith, length_stored earlier, length-map g.types (declared_map (by_id (count earlier))), count_push g earlier)

-- ---- the subtypes over numbers

abbrev numbered : Declared → EntryOf ℕ
numbered d = entry_map number_of d.entry

index_numbered : (start places : ℕ) (i : UnpackedIndex) → IsIndexWithin true start places i → reference_id start (reference_of i) ≡ number_of (by_id start i)
index_numbered start places (Module n) w = absurd cc
index_numbered start places (RecGroup p) w = refl
index_numbered start places (Id i) w = refl

types_numbered : (start places own : ℕ) (ds : List Declared) → AreTypesFormed true start places own ds
    → map (entry_map (reference_id start)) (map (entry_map reference_of) (map (λ d. d.entry) ds)) ≡ map numbered (map (declared_map (by_id start)) ds)
types_numbered start places own [] w = refl
types_numbered start places own (d ∷ ds) w =
    let a : entry_map (reference_id start) (entry_map reference_of d.entry) ≡ entry_map number_of (entry_map (by_id start) d.entry) =
    entry_twice (reference_id start) reference_of d.entry
    ∙ entry_agrees (λ i. reference_id start (reference_of i)) (λ i. number_of (by_id start i)) d.entry
    (each_entry (IsIndexWithin true start places) (λ i. reference_id start (reference_of i) ≡ number_of (by_id start i)) (index_numbered start places) d.entry w.0.within)
    ∙ sym (entry_twice number_of (by_id start) d.entry) in
    let b = types_numbered start places (suc own) ds w.1 in
    cc

numbered_push : (g : Group) (earlier : List Group)
    → numbered_entries (entries (g ∷ earlier)) ≡ numbered_entries (entries earlier) ++ map (entry_map (reference_id (count earlier))) (entries_of g)
unfolding numbered_entries
numbered_push g earlier = refl

numbered_stored : (groups : List Group) → IsFormed groups → AreCanonical groups → numbered_entries (entries groups) ≡ map numbered (declared_by_id groups)
unfolding numbered_entries declared_by_id
numbered_stored [] formed c = refl
numbered_stored (g ∷ earlier) formed c =
    let n : ℕ = count earlier in
    let v : AreTypesFormed true n (length g.types) 0 g.types = subst (λ (b : Bool). AreTypesFormed b n (length g.types) 0 g.types) c.0 formed.0 in
    let a = types_numbered n (length g.types) 0 g.types v in
    let b = numbered_stored earlier formed.2 c.1 in
    let m = map-append numbered (declared_by_id earlier) (map (declared_map (by_id n)) g.types) in
    cc

-- a type, opened, is what it declares over ids, each replaced by its type
pub opens : (groups : List Group) → IsFormed groups → AreCanonical groups → (id : ℕ) (d : Declared) → id < count groups
    → opened (tree_of groups id) ≡ entry_map (tree_named groups) (get_or (declared_by_id groups) id d).entry
opens groups formed c id d lt =
    let o = type_opens (entries groups) id (numbered d) (formed_within groups formed c) lt in
    let x : Declared = get_or (declared_by_id groups) id d in
    let e : get_or (numbered_entries (entries groups)) id (numbered d) ≡ numbered x =
    ap (λ (l : List (EntryOf ℕ)). get_or l id (numbered d)) (numbered_stored groups formed c)
    ∙ get_or-map numbered (declared_by_id groups) id d (numbered d) (omega (arith, length_stored groups)) in
    o.is ∙ ap (entry_map (tree_of groups)) e ∙ entry_twice (tree_of groups) number_of x.entry

-- ---- supertypes come before

-- an index over ids, below `own`; `B` where it is a module's
module _ (B : Type 0) where
  abbrev pub IsEarlier : ℕ → UnpackedIndex → Type 0
  IsEarlier own (Module n) = B
  IsEarlier own (RecGroup p) = ⊥
  IsEarlier own (Id i) = i.0 < own

  abbrev pub AreEarlier : ℕ → List Declared → Type 0
  AreEarlier own [] = Unit {0}
  AreEarlier own (d ∷ ds) = EachOption (IsEarlier own) d.entry.supertype × AreEarlier (suc own) ds

  abbrev pub AreFree : List Group → Type 0
  AreFree [] = Unit {0}
  AreFree (g ∷ earlier) = (g.is_canonical ≡ false → B) × AreFree earlier

  earlier_append : (own : ℕ) (xs ys : List Declared) → AreEarlier own xs → AreEarlier (own + length xs) ys → AreEarlier own (xs ++ ys)
  earlier_append own [] ys v w = subst (λ (n : ℕ). AreEarlier n ys) (omega arith) w
  earlier_append own (x ∷ xs) ys v w = (v.0, earlier_append (suc own) xs ys v.1 (subst (λ (n : ℕ). AreEarlier n ys) (omega arith) w))

  earlier_at : (own : ℕ) (xs : List Declared) (i : ℕ) (d : Declared) → AreEarlier own xs → i < length xs → EachOption (IsEarlier (own + i)) (get_or xs i d).entry.supertype
  earlier_at own [] i d v lt = absurd (omega arith)
  earlier_at own (x ∷ xs) zero d v lt = subst (λ (n : ℕ). EachOption (IsEarlier n) x.entry.supertype) (omega arith) v.0
  earlier_at own (x ∷ xs) (suc i) d v lt =
      subst (λ (n : ℕ). EachOption (IsEarlier n) (get_or xs i d).entry.supertype) (omega arith) (earlier_at (suc own) xs i d v.1 (omega arith))

  option_earlier : (canonical : Bool) (start own : ℕ) → (canonical ≡ false → B) → (o : Option UnpackedIndex) → EachOption (IsIndexWithin canonical start own) o
      → EachOption (IsEarlier (start + own)) (option_map (by_id start) o)
  option_earlier canonical start own free None w = tt
  option_earlier canonical start own free (Some (Module n)) w = free w
  option_earlier canonical start own free (Some (RecGroup p)) w = omega arith
  option_earlier canonical start own free (Some (Id i)) w = omega arith

  types_earlier : (canonical : Bool) (start places own : ℕ) → (canonical ≡ false → B) → (ds : List Declared) → AreTypesFormed canonical start places own ds
      → AreEarlier (start + own) (map (declared_map (by_id start)) ds)
  types_earlier canonical start places own free [] w = tt
  types_earlier canonical start places own free (d ∷ ds) w = (
    option_earlier canonical start own free d.entry.supertype w.0.above,
    subst (λ (n : ℕ). AreEarlier n (map (declared_map (by_id start)) ds)) (omega arith) (types_earlier canonical start places (suc own) free ds w.1),
  )

  stored_earlier : (groups : List Group) → IsFormed groups → AreFree groups → AreEarlier 0 (declared_by_id groups)
  unfolding declared_by_id
  stored_earlier [] formed free = tt
  stored_earlier (g ∷ earlier) formed free =
      let n : ℕ = count earlier in
      let new : AreEarlier (n + 0) (map (declared_map (by_id n)) g.types) = types_earlier g.is_canonical n (length g.types) 0 free.0 g.types formed.0 in
      earlier_append 0 (declared_by_id earlier) (map (declared_map (by_id n)) g.types) (stored_earlier earlier formed.2 free.1)
      (subst (λ (k : ℕ). AreEarlier k (map (declared_map (by_id n)) g.types)) (omega (arith, length_stored earlier)) new)

  supertype_earlier : (groups : List Group) → IsFormed groups → AreFree groups → (id : ℕ) (d : Declared) → id < count groups
      → EachOption (IsEarlier id) (get_or (declared_by_id groups) id d).entry.supertype
  supertype_earlier groups formed free id d lt =
      subst (λ (n : ℕ). EachOption (IsEarlier n) (get_or (declared_by_id groups) id d).entry.supertype) (omega arith)
      (earlier_at 0 (declared_by_id groups) id d (stored_earlier groups formed free) (omega (arith, length_stored groups)))

-- the supertype of an id, by what is stored
pub supertype_stored : (groups : List Group) (a : CoreTypeId) (d : Declared) → a.0 < count groups → supertype_of groups a ≡ supertype_id (get_or (declared_by_id groups) a.0 d)
supertype_stored groups a d lt = get_or-map supertype_id (declared_by_id groups) a.0 d None (omega (arith, length_stored groups))

any_free : (groups : List Group) → AreFree (Unit {0}) groups
any_free [] = tt
any_free (g ∷ earlier) = (λ e. tt, any_free earlier)

canonical_free : (groups : List Group) → AreCanonical groups → AreFree ⊥ groups
canonical_free [] c = tt
canonical_free (g ∷ earlier) c = (λ e. let z : true ≡ false = sym c.0 ∙ e in cc, canonical_free earlier c.1)

-- any declaration at all, for the default of a look-up
nothing_declared : Declared
nothing_declared = record {
  supertypes = [];
  entry = record { is_final = true; supertype = None; shared = false; descriptor = None; describes = None; inner = function [] [] };
}

option_below : (own : ℕ) (o : Option UnpackedIndex) → EachOption (IsEarlier (Unit {0}) own) o → (b : CoreTypeId) → id_in o ≡ Some b → b.0 < own
option_below own None w b e = absurd cc
option_below own (Some (Module n)) w b e = absurd cc
option_below own (Some (RecGroup p)) w b e = absurd w
option_below own (Some (Id i)) w b e = let f : i ≡ b = cc in subst (λ (x : CoreTypeId). x.0 < own) f w

-- a supertype has a lower id, whatever form the groups have
pub supertype_below : (groups : List Group) → IsFormed groups → (a b : CoreTypeId) → a.0 < count groups → supertype_of groups a ≡ Some b → b.0 < a.0
supertype_below groups formed a b lt e =
    option_below a.0 _ (supertype_earlier (Unit {0}) groups formed (any_free groups) a.0 nothing_declared lt) b
    (sym (supertype_stored groups a nothing_declared lt) ∙ e)

option_named : (groups : List Group) (own : ℕ) (o : Option UnpackedIndex) → EachOption (IsEarlier ⊥ own) o
    → option_map (tree_named groups) o ≡ option_map (λ (b : CoreTypeId). tree_of groups b.0) (id_in o)
option_named groups own None w = refl
option_named groups own (Some (Module n)) w = absurd w
option_named groups own (Some (RecGroup p)) w = absurd w
option_named groups own (Some (Id i)) w = refl

-- the supertype of a tree is the tree of the supertype
pub supertype_tree : (groups : List Group) → IsFormed groups → AreCanonical groups → (a : CoreTypeId) → a.0 < count groups
    → supertype (tree_of groups a.0) ≡ option_map (λ (b : CoreTypeId). tree_of groups b.0) (supertype_of groups a)
supertype_tree groups formed c a lt =
    ap (λ (x : EntryOf TypeTree). x.supertype) (opens groups formed c a.0 nothing_declared lt)
    ∙ option_named groups a.0 _ (supertype_earlier ⊥ groups formed (canonical_free groups c) a.0 nothing_declared lt)
    ∙ ap (option_map (λ (b : CoreTypeId). tree_of groups b.0)) (sym (supertype_stored groups a nothing_declared lt))

-- ---- below

module _ (groups : List Group) (formed : IsFormed groups) (c : AreCanonical groups) where
  pub trees_below : {a b : CoreTypeId} → IdBelow groups a b → a.0 < count groups → DeclaredBelow (tree_of groups a.0) (tree_of groups b.0)
  trees_below ids.itself lt = itself
  trees_below (ids.declared {a = a} {b = b} e r) lt =
      let below = supertype_below groups formed a b lt e in
      declared (supertype_tree groups formed c a lt ∙ ap (option_map (λ (x : CoreTypeId). tree_of groups x.0)) e) (trees_below r (omega arith))

  same_id : (a b : CoreTypeId) → a.0 < count groups → b.0 < count groups → tree_of groups a.0 ≡ tree_of groups b.0 → a ≡ b
  same_id a b la lb e = ap (λ (n : ℕ). record { 0 = n }) (apart groups formed c a.0 b.0 la lb e)

  found_below : (o : Option CoreTypeId) (u : TypeTree) → option_map (λ (x : CoreTypeId). tree_of groups x.0) o ≡ Some u → (b : CoreTypeId) × (o ≡ Some b) × (tree_of groups b.0 ≡ u)
  found_below None u e = absurd cc
  found_below (Some b) u e = (b, refl, cc)

  pub ids_below : {t u : TypeTree} → DeclaredBelow t u → (a b : CoreTypeId) → a.0 < count groups → b.0 < count groups → t ≡ tree_of groups a.0 → u ≡ tree_of groups b.0 → IdBelow groups a b
  ids_below itself a b la lb p q =
      subst (λ (x : CoreTypeId). IdBelow groups a x) (same_id a b la lb (sym p ∙ q)) ids.itself
  ids_below (declared {t = t} {u = v} e r) a b la lb p q =
      let above : option_map (λ (x : CoreTypeId). tree_of groups x.0) (supertype_of groups a) ≡ Some v =
      sym (supertype_tree groups formed c a la) ∙ ap supertype (sym p) ∙ e in
      let found = found_below (supertype_of groups a) v above in
      let below = supertype_below groups formed a found.0 la found.1 in
      ids.declared found.1 (ids_below r found.0 b (omega arith) lb (sym found.2) q)

  pub below_by_ids : (a b : CoreTypeId) → a.0 < count groups → b.0 < count groups → IdBelow groups a b ↔ DeclaredBelow (tree_of groups a.0) (tree_of groups b.0)
  below_by_ids a b la lb = (λ h. trees_below h la, λ h. ids_below h a b la lb refl refl)
