-- What holds of the types of valid groups: they refer to one another alone, and their declared links match and end.
use Rattle.std.proofs.Common.{◌≡◌, ◌↔◌, ◌∙◌, ℕ, zero, suc, ◌+◌, ◌-◌, ◌<◌, ◌≤◌, List, [], ◌∷◌, ◌++◌, length, map, get_or, refl, ap, sym, subst, Some, ⊎_elim, arith}
use Rattle.std.specs.Prelude.{All, Contains}
use Rattle.std.proofs.lemmas.Bool.{lt-ltb, le-ltb, cases_lt}
use Rattle.std.proofs.lemmas.List.{length-map, get_or-map}
use Rattle.std.proofs.lemmas.List.Elements.{All-nil, All-cons, All-from_get_or, All-append, All-weaker, All-contains, All-contains_itself}
use Rattle.std.proofs.lemmas.List.Elements.{Contains-get_or, Contains-append_left, Contains-append_right}
use Rattle.wasm_types_settings.specs.Settings.{Settings}
use Rattle.wasm_types_trees.specs.Types.{ValueOf, EntryOf, entry_of_subtype, entry_map}
use Rattle.wasm_types_trees.specs.Each.{EachOption, EachValue, EachEntry}
use Rattle.wasm_types_trees.specs.Trees.{GroupTree, local, type_of, group_tree, TypeTree, type_meant, past_the_end, opened}
use Rattle.wasm_types_trees.specs.Unfold.{GroupReference, Local, Earlier, Entry, reference_tree, unfolded}
use Rattle.wasm_types_trees.specs.Below.{supertype, DeclaredBelow, itself, declared, Below}
use Rattle.wasm_types_trees.specs.Matches.{Matches}
use Rattle.wasm_types_trees.specs.ValidGroup.{Written, written_entries, canonical_at, reference_at, type_at, written_tree, types_from, types_of}
use Rattle.wasm_types_trees.specs.ValidGroup.{AreWellReferenced, IsWithinDepth, IsValidSupertype, IsValidType, AreValidTypes, IsValidGroup}
use Rattle.wasm_types_trees.specs.ValidGroup.{AreValidGroups, done, next}
use Rattle.wasm_types_trees.specs.Chains.{IsSound, LinksMatch, HasNoCycle, AreClosed, AreSound}
use Rattle.wasm_types_trees.specs.laws.Types.{entry_twice, entries_twice, each_entry, entry_of_each}
use Rattle.wasm_types_trees.specs.laws.Unfold.{open_place}
use Rattle.wasm_types_trees.specs.Standard.{ValueMatches}
use Rattle.wasm_types_trees.specs.laws.Matches.{links_are_sound}
use Rattle.wasm_types_trees.specs.laws.Standard.{below_is}

-- ---- canonical forms

module _ (tree : ℕ → TypeTree) (ids : List ℕ) where
  abbrev space_of : List TypeTree
  space_of = map tree ids

  same_reference : (i : ℕ) → reference_tree tree (canonical_at ids i) ≡ reference_tree (type_at space_of) (reference_at (length space_of) i)
  same_reference i = ⊎_elim
      (λ old.
      let a : canonical_at ids i ≡ Earlier (get_or ids i 0) = rw (lt-ltb i (length ids) old) refl in
      let b : reference_at (length space_of) i ≡ Earlier i = rw (lt-ltb i (length space_of) (omega (arith, length-map ids tree))) refl in
      let t : type_at space_of i ≡ tree (get_or ids i 0) = get_or-map tree ids i 0 _ old in
      ap (reference_tree tree) a ∙ ap (λ (x : TypeTree). type_of x.group x.place) (sym t) ∙ ap (reference_tree (type_at space_of)) (sym b))
      (λ new.
      let a : canonical_at ids i ≡ Local (i - length ids) = rw (le-ltb i (length ids) new) refl in
      let b : reference_at (length space_of) i ≡ Local (i - length space_of) = rw (le-ltb i (length space_of) (omega (arith, length-map ids tree))) refl in
      ap (reference_tree tree) a ∙ ap (λ (n : ℕ). local (i - n)) (sym (length-map ids tree)) ∙ ap (reference_tree (type_at space_of)) (sym b))
      (cases_lt i (length ids))

  pub canonical_unfolds : (g : Written) → unfolded tree (map (entry_map (canonical_at ids)) (written_entries g)) ≡ written_tree space_of g
  canonical_unfolds g =
      ap group_tree
      (entries_twice (reference_tree tree) (canonical_at ids) (written_entries g)
      ∙ (λ k. map (entry_map (λ i. same_reference i k)) (written_entries g))
      ∙ sym (entries_twice (reference_tree (type_at space_of)) (reference_at (length space_of)) (written_entries g)))

-- ---- a chain of at most n types has no cycle

lasts : (n : ℕ) (t u : TypeTree) → IsWithinDepth n (Some u) → DeclaredBelow u t → (m : ℕ) × (m < n) × IsWithinDepth m (supertype t)
lasts zero t u w p = absurd w
lasts (suc n) t u w itself = (n, omega arith, w)
lasts (suc n) t u w (declared e p) =
    let r = lasts n t _ (subst (IsWithinDepth n) e w) p in
    (r.0, (let lt = r.1 in omega arith), r.2)

no_loop : (k n : ℕ) → n < k → (t u : TypeTree) → supertype t ≡ Some u → DeclaredBelow u t → IsWithinDepth n (supertype t) → ⊥
no_loop zero n lt t u e p w = absurd (omega arith)
no_loop (suc k) n lt t u e p w =
    let r = lasts n t u (subst (IsWithinDepth n) e w) p in
    let less = r.1 in
    no_loop k r.0 (omega arith) t u e p r.2

pub depth_ends : (n : ℕ) (t : TypeTree) → IsWithinDepth n (supertype t) → HasNoCycle t
depth_ends n t w u e p = no_loop (suc n) n (omega arith) t u e p w

-- ---- the types of a group

pub length_types : (g : GroupTree) (place n : ℕ) → length (types_from g place n) ≡ n
unfolding types_from
length_types g place zero = refl
length_types g place (suc n) = ap suc (length_types g (suc place) n)

pub get_types : (g : GroupTree) (place n k : ℕ) (d : TypeTree) → k < n → get_or (types_from g place n) k d ≡ record { group = g; place = place + k }
unfolding types_from
get_types g place zero k d lt = absurd (omega arith)
get_types g place (suc n) zero d lt = ap (λ (p : ℕ). record { group = g; place = p }) (omega arith)
get_types g place (suc n) (suc k) d lt =
    get_types g (suc place) n k d (omega arith) ∙ ap (λ (p : ℕ). record { group = g; place = p }) (omega arith)

length_entries : (g : Written) → length (written_entries g) ≡ length g.types
length_entries g = length-map g.types entry_of_subtype

module _ (space : List TypeTree) (g : Written) where
  -- the type that an index means in the group
  abbrev meant : ℕ → TypeTree
  meant i = type_meant (written_tree space g) (reference_tree (type_at space) (reference_at (length space) i))

  abbrev all_types : List TypeTree
  all_types = space ++ types_of space g

  meant_old : (i : ℕ) → i < length space → Contains all_types (meant i)
  meant_old i lt =
      let e : reference_at (length space) i ≡ Earlier i = rw (lt-ltb i (length space) lt) refl in
      subst (λ (r : GroupReference). Contains all_types (type_meant (written_tree space g) (reference_tree (type_at space) r))) (sym e)
      (Contains-append_left space (types_of space g) _ (Contains-get_or space i _ lt))

  meant_new : (i : ℕ) → length space ≤ i → i < length space + length g.types → Contains all_types (meant i)
  meant_new i le lt =
      let e : reference_at (length space) i ≡ Local (i - length space) = rw (le-ltb i (length space) le) refl in
      let k : ℕ = i - length space in
      let t : TypeTree = record { group = written_tree space g; place = k } in
      let at : get_or (types_of space g) k t ≡ t = get_types (written_tree space g) 0 (length g.types) k t (omega arith) ∙ ap
      (λ (p : ℕ). record { group = written_tree space g; place = p }) (omega arith) in
      subst (λ (r : GroupReference). Contains all_types (type_meant (written_tree space g) (reference_tree (type_at space) r))) (sym e)
      (Contains-append_right space (types_of space g) t
      (subst (Contains (types_of space g)) at (Contains-get_or (types_of space g) k t (omega (arith, length_types (written_tree space g) 0 (length g.types))))))

  meant_known : (i : ℕ) → i < length space + length g.types → Contains all_types (meant i)
  meant_known i lt = ⊎_elim (λ old. meant_old i old) (λ new. meant_new i new lt) (cases_lt i (length space))

  -- a type of the group, opened
  opens_written : (p : ℕ) → p < length g.types → opened (record { group = written_tree space g; place = p }) ≡ entry_map meant (get_or (written_entries g) p past_the_end)
  opens_written p lt =
      let x : EntryOf ℕ = get_or (written_entries g) p past_the_end in
      let entries = length_entries g in
      let f : EntryOf ℕ → Entry = entry_map (reference_at (length space)) in
      open_place (type_at space) (map f (written_entries g)) p (omega (arith, length-map (written_entries g) f))
      ∙ ap (λ (r : Entry). entry_map (type_meant (written_tree space g)) (entry_map (reference_tree (type_at space)) r))
      (get_or-map f (written_entries g) p past_the_end past_the_end (omega arith))
      ∙ ap (entry_map (type_meant (written_tree space g))) (entry_twice (reference_tree (type_at space)) (reference_at (length space)) x)
      ∙ entry_twice (type_meant (written_tree space g)) (λ i. reference_tree (type_at space) (reference_at (length space) i)) x

known_at : (bits start end own : ℕ) (xs : List (EntryOf ℕ)) (p : ℕ) (d : EntryOf ℕ) → AreWellReferenced bits start end own xs → p < length xs →
    EachEntry (λ i. i < end) (get_or xs p d)
known_at bits start end own [] p d w lt = absurd (omega arith)
known_at bits start end own (x ∷ xs) zero d w lt = w.0.known
known_at bits start end own (x ∷ xs) (suc p) d w lt = known_at bits start end (suc own) xs p d w.1 (omega arith)

nowhere : GroupTree → TypeTree
nowhere g = record { group = g; place = 0 }

-- a new type refers to the types that are there behind the group
closed_new : (settings : Settings) (space : List TypeTree) (g : Written) → IsValidGroup settings space g → (p : ℕ) → p < length g.types
    → EachEntry (Contains (space ++ types_of space g)) (opened (record { group = written_tree space g; place = p }))
closed_new settings space g v p lt =
    let x : EntryOf ℕ = get_or (written_entries g) p past_the_end in
    let entries = length_entries g in
    subst (EachEntry (Contains (space ++ types_of space g))) (sym (opens_written space g p lt))
    (entry_of_each (meant space g) (Contains (space ++ types_of space g)) x
    (each_entry (λ i. i < length space + length g.types) (λ i. Contains (space ++ types_of space g) (meant space g i)) (meant_known space g) x
    (known_at settings.features (length space) (length space + length g.types) (length space) (written_entries g) p past_the_end v.references (omega arith))))

closed_group : (settings : Settings) (space : List TypeTree) (g : Written) → IsValidGroup settings space g → All
    (λ t. EachEntry (Contains (space ++ types_of space g)) (opened t)) (types_of space g)
closed_group settings space g v =
    let whole : GroupTree = written_tree space g in
    let n : ℕ = length g.types in
    All-from_get_or (λ t. EachEntry (Contains (space ++ types_of space g)) (opened t)) (types_of space g) (nowhere whole) (λ i lt.
    let lt' : i < n = omega (arith, length_types whole 0 n) in
    let e : get_or (types_of space g) i (nowhere whole) ≡ record { group = whole; place = i } = get_types whole 0 n i (nowhere whole) lt' ∙ ap
    (λ (p : ℕ). record { group = whole; place = p }) (omega arith) in
    subst (λ (t : TypeTree). EachEntry (Contains (space ++ types_of space g)) (opened t)) (sym e) (closed_new settings space g v i lt'))

pub closed_push : (settings : Settings) (space : List TypeTree) (g : Written) → IsValidGroup settings space g → AreClosed space → AreClosed (space ++ types_of space g)
closed_push settings space g v c =
    All-append (λ t. EachEntry (Contains (space ++ types_of space g)) (opened t)) space (types_of space g)
    (All-weaker (λ t. EachEntry (Contains space) (opened t)) (λ t. EachEntry (Contains (space ++ types_of space g)) (opened t))
    (λ t w. each_entry (Contains space) (Contains (space ++ types_of space g)) (λ r. Contains-append_left space (types_of space g) r) (opened t) w) space c)
    (closed_group settings space g v)

valid_types : (settings : Settings) (ts : List TypeTree) → AreValidTypes settings ts → All (IsValidType settings) ts
valid_types settings [] w = All-nil (IsValidType settings)
valid_types settings (t ∷ ts) w = All-cons (IsValidType settings) t ts w.0 (valid_types settings ts w.1)

-- ---- groups one after the other

record AreValid (settings : Settings) (space : List TypeTree) : Type 0 where
  closed : AreClosed space
  valid : All (IsValidType settings) space

valid_push : (settings : Settings) (space : List TypeTree) (g : Written) → AreValid settings space → IsValidGroup settings space g → AreValid settings (space ++ types_of space g)
valid_push settings space g a v = record {
  closed = closed_push settings space g v a.closed;
  valid = All-append (IsValidType settings) space (types_of space g) a.valid (valid_types settings (types_of space g) v.types);
}

valid_after : (settings : Settings) (space after : List TypeTree) (gs : List Written) → AreValid settings space → AreValidGroups settings space gs after → AreValid settings after
valid_after settings space after gs a done = a
valid_after settings space after gs a (next v vs) = valid_after settings _ after _ (valid_push settings space _ a v) vs

-- ---- soundness

module _ (settings : Settings) (space : List TypeTree) (a : AreValid settings space) where
  stays_inside : (t u : TypeTree) → Contains space t → DeclaredBelow t u → Contains space u
  stays_inside t u c itself = c
  stays_inside t u c (declared e p) =
      stays_inside _ u (subst (EachOption (Contains space)) e (All-contains (λ x. EachEntry (Contains space) (opened x)) space t a.closed c).supertype) p

  link : (u v : TypeTree) → Contains space u → supertype u ≡ Some v → Matches (opened u) (opened v)
  link u v c e = (subst (IsValidSupertype (opened u)) e (All-contains (IsValidType settings) space u a.valid c).above).1

  links_match : (t : TypeTree) → Contains space t → LinksMatch t
  links_match t c u v d e = link u v (stays_inside t u c d) e

  sound_space : AreSound space
  sound_space = record {
    links = All-weaker (Contains space) LinksMatch links_match space (All-contains_itself space);
    sound = All-weaker (Contains space) IsSound (λ t c. links_are_sound t (links_match t c)) space (All-contains_itself space);
    acyclic = All-weaker (IsValidType settings) HasNoCycle (λ t v. depth_ends settings.limits.subtyping_depth t v.depth) space a.valid;
    closed = a.closed;
  }

pub valid_groups_are_sound : (settings : Settings) (gs : List Written) (space : List TypeTree) → AreValidGroups settings [] gs space → AreSound space
valid_groups_are_sound settings gs space v =
    sound_space settings space (valid_after settings [] space gs (record { closed = All-nil (λ t. EachEntry (Contains []) (opened t)); valid = All-nil (IsValidType settings) }) v)

-- ---- subtyping on the types of valid groups

pub below_is_in_groups : (settings : Settings) (gs : List Written) (space : List TypeTree) (v w : ValueOf TypeTree) → AreValidGroups settings [] gs space
    → EachValue (Contains space) v → EachValue (Contains space) w → Below v w ↔ ValueMatches (Contains space) v w
below_is_in_groups settings gs space v w valid =
    let sound = valid_groups_are_sound settings gs space valid in
    below_is (Contains space) (λ t c. All-contains IsSound space t sound.sound c)
    (λ t u c e. subst (EachOption (Contains space)) e (All-contains (λ x. EachEntry (Contains space) (opened x)) space t sound.closed c).supertype) v w
