-- Laws of the rules: what the functions of src/laws.rt promise.
use Rattle.std.specs.Prelude.{◌≡◌, ◌↔◌, ◌⊎◌, ℕ, ◌<◌, Bool, false, List, [], ◌∷◌, map, Contains, get_or}
use Rattle.wasm_types_settings.specs.Settings.{Settings}
use Rattle.wasm_types_trees.specs.Types.{Abstract, HeapOf, exact, abstract, ValueOf, ref, EntryOf, entry_map}
use Rattle.wasm_types_trees.specs.Each.{EachHeap, EachValue, EachEntries}
use Rattle.wasm_types_trees.specs.Trees.{GroupTree, RefTree, TypeTree, group_tree, entries_of, opened}
use Rattle.wasm_types_trees.specs.Unfold.{Entry, unfolded, type_count, type_tree, numbered_entries, IsKnown, AreWithin}
use Rattle.wasm_types_trees.specs.AbstractOrder.{AbstractBelow, top_of}
use Rattle.wasm_types_trees.specs.Below.{expanded, is_shared, bottom_of, heap_is_shared, HeapBelow, Below}
use Rattle.wasm_types_trees.specs.Matches.{Matches}
use Rattle.wasm_types_trees.specs.Chains.{IsSound, LinksMatch, HasNoCycle, AreSound}
use Rattle.wasm_types_trees.specs.Standard.{ValueMatches}
use Rattle.wasm_types_trees.specs.ValidGroup.{Written, written_entries, canonical_at, written_tree, AreValidGroups}

-- ---- trees

-- entries and trees are two forms of one thing
abbrev pub TreesGiveEntriesBack : Type 0
TreesGiveEntriesBack = (xs : List (EntryOf RefTree)) → entries_of (group_tree xs) ≡ xs

abbrev pub EntriesGiveTreesBack : Type 0
EntriesGiveTreesBack = (g : GroupTree) → group_tree (entries_of g) ≡ g

-- ---- unfolding

-- no two of the numbers below `known` have one type
abbrev pub AreApart : (ℕ → TypeTree) → ℕ → Type 0
AreApart tree known = (i j : ℕ) → i < known → j < known → tree i ≡ tree j → i ≡ j

-- groups are told apart by their trees, where the numbers that they name are
abbrev pub GroupsAreApart : Type 0
GroupsAreApart = (tree : ℕ → TypeTree) (known : ℕ) (g h : List Entry) → AreApart tree known
    → EachEntries (IsKnown known) g → EachEntries (IsKnown known) h → unfolded tree g ≡ unfolded tree h → g ≡ h

-- a type stays what it is as further groups come
abbrev pub TypesStay : Type 0
TypesStay = (g : List Entry) (earlier : List (List Entry)) (id : ℕ) → id < type_count earlier → type_tree (g ∷ earlier) id ≡ type_tree earlier id

-- a type, opened, is its subtype with each number replaced by its type
abbrev pub TypesOpen : Type 0
TypesOpen = (groups : List (List Entry)) (id : ℕ) (d : EntryOf ℕ) → AreWithin groups → id < type_count groups
    → opened (type_tree groups id) ≡ entry_map (type_tree groups) (get_or (numbered_entries groups) id d)

-- ---- the order of abstract heap types

abbrev pub AbstractIsReflexive : Type 0
AbstractIsReflexive = (a : Abstract) → AbstractBelow a a

abbrev pub AbstractIsTransitive : Type 0
AbstractIsTransitive = (a b c : Abstract) → AbstractBelow a b → AbstractBelow b c → AbstractBelow a c

abbrev pub AbstractIsAntisymmetric : Type 0
AbstractIsAntisymmetric = (a b : Abstract) → AbstractBelow a b → AbstractBelow b a → a ≡ b

-- each is below the top of its hierarchy
abbrev pub TopIsAbove : Type 0
TopIsAbove = (a : Abstract) → AbstractBelow a (top_of a)

-- and every type below another is below the same top
abbrev pub TopsAgree : Type 0
TopsAgree = (a b : Abstract) → AbstractBelow a b → top_of a ≡ top_of b

-- ---- chains of declared supertypes

-- where each declared link matches, sharedness and constructor stay along the chain
abbrev pub LinksAreSound : Type 0
LinksAreSound = (t : TypeTree) → LinksMatch t → IsSound t

-- ---- subtyping

abbrev pub BelowIsReflexive : Type 0
BelowIsReflexive = (v : ValueOf TypeTree) → Below v v

abbrev pub BelowIsTransitive : Type 0
BelowIsTransitive = (v w x : ValueOf TypeTree) → Below v w → Below w x → Below v x

abbrev pub BelowIsAntisymmetric : Type 0
BelowIsAntisymmetric = (v w : ValueOf TypeTree) → EachValue HasNoCycle v → Below v w → Below w v → v ≡ w

-- below a reference stand references of the same sharedness
abbrev pub BelowKeepsSharedness : Type 0
BelowKeepsSharedness = (n m : Bool) (h k : HeapOf TypeTree) → EachHeap IsSound h → Below (ref n h) (ref m k) → heap_is_shared h ≡ heap_is_shared k

-- below a non-null reference stand non-null ones
abbrev pub BelowKeepsNonNull : Type 0
BelowKeepsNonNull = (n : Bool) (h k : HeapOf TypeTree) → Below (ref n h) (ref false k) → n ≡ false

-- below an exact type stand itself and the bottom type of its constructor
abbrev pub BelowExact : Type 0
BelowExact = (h : HeapOf TypeTree) (t : TypeTree) → HeapBelow h (exact t) → (h ≡ exact t) ⊎ (h ≡ abstract (is_shared t) (bottom_of (expanded t)))

-- on types whose chains are sound it is what the standard's rules give, where the type in the middle is sound too
abbrev pub BelowIsTheStandards : Type 0
BelowIsTheStandards = (v w : ValueOf TypeTree) → EachValue IsSound v → EachValue IsSound w → Below v w ↔ ValueMatches IsSound v w

-- so it is on the types of valid groups, where each type in the middle is one of them
abbrev pub BelowIsTheStandardsInGroups : Type 0
BelowIsTheStandardsInGroups = (settings : Settings) (gs : List Written) (space : List TypeTree) (v w : ValueOf TypeTree) → AreValidGroups settings [] gs space
    → EachValue (Contains space) v → EachValue (Contains space) w → Below v w ↔ ValueMatches (Contains space) v w

-- ---- matching

abbrev pub MatchesIsReflexive : Type 0
MatchesIsReflexive = (x : EntryOf TypeTree) → Matches x x

abbrev pub MatchesIsTransitive : Type 0
MatchesIsTransitive = (x y z : EntryOf TypeTree) → Matches x y → Matches y z → Matches x z

-- ---- canonical forms

-- the canonical form of a written group unfolds to what the group does
abbrev pub CanonicalFormsUnfold : Type 0
CanonicalFormsUnfold = (tree : ℕ → TypeTree) (ids : List ℕ) (g : Written)
    → unfolded tree (map (entry_map (canonical_at ids)) (written_entries g)) ≡ written_tree (map tree ids) g

-- ---- valid groups

-- the types of groups that are valid one after the other are sound, refer to one another alone, and each declared link matches
abbrev pub ValidGroupsAreSound : Type 0
ValidGroupsAreSound = (settings : Settings) (gs : List Written) (space : List TypeTree) → AreValidGroups settings [] gs space → AreSound space
