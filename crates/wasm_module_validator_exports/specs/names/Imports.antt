-- What is kept of a module's imports, by their names (WebAssembly 3.0, structure, modules, imports). Each pair of names stands once, where
-- it came first; what is imported by it stands there in the order of the imports.
use Rattle.std.specs.Prelude.{◌≡◌, ◌<◌, ◌⊎◌, ℕ, suc, Bool, true, false, cond, ◌&&◌, List, [], ◌∷◌, ◌++◌, map, length, set, slice_get, Option, Some, None, option_map, String, string_bytes, if◌then◌else◌}
use Rattle.std.specs.Str.{bytes_eq}
use Rattle.std.specs.BTreeMap.{BTreeMap, get_by}
use Rattle.std.specs.Ordering.{ordering_then, nat_cmp}
use Rattle.std.specs.Cmp.Lexicographic.{slice_cmp}
use Rattle.std.specs.Hash.FoldHasher.{initial, write}
use Rattle.std.specs.declared.alloc.Global.{Global}
use Rattle.std.specs.declared.cmp.Ordering.{Ordering}
use Rattle.wasm_module_validator_exports.specs.declared.names.imports.Place.{Place}
use Rattle.wasm_module_validator_exports.specs.declared.names.imports.KeptNames.{KeptNames}
use Rattle.wasm_module_validator_exports.specs.declared.names.imports.NamedImports.{NamedImports}
use Rattle.wasm_module_validator_exports.specs.declared.names.pairs.Met.{Met}
use Rattle.wasm_module_validator_exports.specs.declared.names.pairs.Met.TheVariants as met
use Rattle.wasm_module_validator_exports.specs.declared.names.pairs.Sought.{Sought}
use Rattle.wasm_module_validator_exports.specs.declared.names.pairs.Sought.TheVariants as sought
use Rattle.wasm_module_validator_exports.specs.names.Exports.{beside, slot_of}
use Rattle.wasm_module_validator_exports.specs.names.Kept.{IsNamed, name_at}

-- the bytes of the name of a module and of the name of what is imported from it, and what is imported by these names
pub record ImportedName : Type 0 where
  pub module_name : List ℕ
  pub field_name : List ℕ
  pub places : List Place

-- whether these are its names
abbrev pub has_names : List ℕ → List ℕ → ImportedName → Bool
has_names m f n = bytes_eq m n.module_name && bytes_eq f n.field_name

-- an import more: behind those of its names, or with names of its own behind all
abbrev pub with_import : List ℕ → List ℕ → Place → List ImportedName → List ImportedName
with_import m f p [] = record { module_name = m; field_name = f; places = p ∷ [] } ∷ []
with_import m f p (n ∷ ns) = if has_names m f n then record n { places = n.places ++ p ∷ [] } ∷ ns else n ∷ with_import m f p ns

-- ---- names that are kept

-- the bytes of a name, where there is one
abbrev pub module_name_of : Option (String Global) → List ℕ
module_name_of None = []
module_name_of (Some t) = string_bytes t

-- the name of a module that is kept
abbrev pub module_at : List (String Global) → ℕ → List ℕ
module_at ms x = module_name_of (slice_get ms x)

-- what is kept of a pair of names, and of all
abbrev pub named_at : List (String Global) → List ℕ → KeptNames → ImportedName
named_at ms names k = record { module_name = module_at ms k.«module»; field_name = name_at names k.name; places = k.first ∷ k.others.items }

abbrev pub all_named : List (String Global) → List ℕ → List KeptNames → List ImportedName
all_named ms names ks = map (named_at ms names) ks

-- the name of each import is kept, and that of its module
abbrev pub AreKept : List (String Global) → List ℕ → List KeptNames → Type 0
AreKept ms names [] = Unit {0}
AreKept ms names (k ∷ ks) = (k.«module» < length ms) × IsNamed names k.name × AreKept ms names ks

-- the name of a module stands at the index that is told, and behind those before it where it is kept anew
abbrev pub HasKept : List ℕ → List (String Global) → List (String Global) → Option ℕ → Type 0
HasKept m old new None = new ≡ old
HasKept m old new (Some x) = (x < length new) × (module_at new x ≡ m) × ((new ≡ old) ⊎ ((t : String Global) × (new ≡ old ++ t ∷ [])))

-- the pairs that were kept are as they were
abbrev pub StaysKept : List (String Global) → List (String Global) → List ℕ → List ℕ → Type 0
StaysKept old new t u = (ks : List KeptNames) → AreKept old t ks → (all_named new u ks ≡ all_named old t ks) × AreKept new u ks

-- the names of a pair of one import are kept behind those before, where there was memory
abbrev pub HasKeptNames : List ℕ → List ℕ → Place → List (String Global) → List (String Global) → List ℕ → List ℕ → Option KeptNames → Type 0
HasKeptNames m f p old new t u None = StaysKept old new t u
HasKeptNames m f p old new t u (Some k) = StaysKept old new t u × (k.«module» < length new) × IsNamed u k.name
    × (named_at new u k ≡ record { module_name = m; field_name = f; places = p ∷ [] })

-- one more is imported by the pair at an index, where there was memory; else it is as it was
abbrev pub HasPushed : ℕ → Place → List KeptNames → List KeptNames → Bool → Type 0
HasPushed at p old new b = (x : KeptNames) × (y : KeptNames) × (slice_get old at ≡ Some x) × (new ≡ set old at y) × (y.«module» ≡ x.«module»)
    × (y.name ≡ x.name) × (y.first ≡ x.first) × (y.others.items ≡ (if b then x.others.items ++ p ∷ [] else x.others.items))

-- an import more where there was memory
abbrev pub HasAdded : List ℕ → List ℕ → Place → List ImportedName → List ImportedName → Bool → Type 0
HasAdded m f p old new true = new ≡ with_import m f p old
HasAdded m f p old new false = new ≡ old

-- a pair of names as it is told, and what is imported by it
abbrev pub named_of : NamedImports → ImportedName
named_of n = record { module_name = n.«module».now; field_name = n.name.now; places = n.first ∷ n.others.now }

-- ---- how pairs of names are found

-- the name of a module, and that of what is imported from it
abbrev pub Pair : Type 0
Pair = List ℕ × List ℕ

abbrev pub pairs_of : List ImportedName → List Pair
pairs_of ns = map (λ (n : ImportedName). (n.module_name, n.field_name)) ns

-- whether these names are this pair
abbrev pub is_pair : List ℕ → List ℕ → Pair → Bool
is_pair m f p = bytes_eq m p.0 && bytes_eq f p.1

-- how far on they stand
abbrev pub index_of : List ℕ → List ℕ → List Pair → Option ℕ
index_of m f [] = None
index_of m f (p ∷ ps) = if is_pair m f p then Some 0 else option_map suc (index_of m f ps)

-- the number of a pair of names
abbrev pub number_of : List ℕ → List ℕ → ℕ
number_of m f = (write (write initial m) f).state

-- the first of a pair's two slots, among so many; the other is beside it
abbrev pub slot_for : List ℕ → List ℕ → ℕ → ℕ
slot_for m f slots = slot_of (number_of m f) slots

-- a slot is one of a pair's
abbrev pub IsSlotOf : List ℕ → List ℕ → List ℕ → ℕ → Type 0
IsSlotOf slots m f q = (q ≡ slot_for m f (length slots)) ⊎ (q ≡ beside (slot_for m f (length slots)))

-- what is in both: an index, where there are slots
abbrev pub in_first : List ℕ → List ℕ → List ℕ → Option ℕ
in_first slots m f = slice_get slots (slot_for m f (length slots))

abbrev pub in_other : List ℕ → List ℕ → List ℕ → Option ℕ
in_other slots m f = slice_get slots (beside (slot_for m f (length slots)))

-- whether what stands at an index is this pair
abbrev pub is_there : List ℕ → List ℕ → Option Pair → Bool
is_there m f None = false
is_there m f (Some p) = is_pair m f p

-- whether it stands at the index that is in a slot
abbrev pub stands_at : List ℕ → List ℕ → List Pair → Option ℕ → Bool
stands_at m f ps None = false
stands_at m f ps (Some i) = is_there m f (slice_get ps i)

-- no pair stands at the index in a slot
abbrev pub IsFree : List ℕ → List Pair → ℕ → Type 0
IsFree slots ps q = (x : ℕ) × (slice_get slots q ≡ Some x) × (slice_get ps x ≡ None)

-- one of a pair's slots is free
abbrev pub HasFree : List ℕ → List Pair → List ℕ → List ℕ → Type 0
HasFree slots ps m f = IsFree slots ps (slot_for m f (length slots)) ⊎ IsFree slots ps (beside (slot_for m f (length slots)))

-- it stands at the index of neither
abbrev pub StandsNowhere : List ℕ → List Pair → List ℕ → List ℕ → Type 0
StandsNowhere slots ps m f = (stands_at m f ps (in_first slots m f) ≡ false) × (stands_at m f ps (in_other slots m f) ≡ false)

-- what was found in a slot: nothing, so the index after all pairs may go there; the pair itself, which stands at this index; or not the pair,
-- and the slot is not free
abbrev pub HasMetAt : List ℕ → List Pair → List ℕ → List ℕ → ℕ → Met → Type 0
HasMetAt slots ps m f q (met.Free p i) = (p ≡ q) × (i ≡ length ps) × IsFree slots ps q
HasMetAt slots ps m f q (met.Same i) = (slice_get slots q ≡ Some i) × (stands_at m f ps (slice_get slots q) ≡ true)
HasMetAt slots ps m f q met.Other = (stands_at m f ps (slice_get slots q) ≡ false) × (IsFree slots ps q → ⊥)

-- what was found in the slots of a pair: not the pair, and nothing in one of them; the pair itself in the first of them that has it; or not
-- the pair, and none is free
abbrev pub HasMet : List ℕ → List Pair → List ℕ → List ℕ → Met → Type 0
HasMet slots ps m f (met.Free q i) = IsSlotOf slots m f q × (i ≡ length ps) × IsFree slots ps q × StandsNowhere slots ps m f
HasMet slots ps m f (met.Same i) = ((stands_at m f ps (in_first slots m f) ≡ true) × (in_first slots m f ≡ Some i))
    ⊎ ((stands_at m f ps (in_first slots m f) ≡ false) × (stands_at m f ps (in_other slots m f) ≡ true) × (in_other slots m f ≡ Some i))
HasMet slots ps m f met.Other = StandsNowhere slots ps m f × (HasFree slots ps m f → ⊥)

-- the order of pairs of names
abbrev pub compare_names : List ℕ → List ℕ → String Global × String Global → Ordering
compare_names m f k = ordering_then (slice_cmp nat_cmp m (string_bytes k.0)) (slice_cmp nat_cmp f (string_bytes k.1))

abbrev pub find_names : BTreeMap (String Global × String Global) ℕ → List ℕ → List ℕ → Option ℕ
find_names others m f = get_by (compare_names m f) others

-- a pair that was sought in the map: it came with this index, where it was new; it has this one; or there was no memory
abbrev pub HasSought : List ℕ → List ℕ → ℕ → BTreeMap (String Global × String Global) ℕ → BTreeMap (String Global × String Global) ℕ → Sought → Type 0
HasSought m f n old new sought.New = (find_names old m f ≡ None)
    × ((a b : List ℕ) → find_names new a b ≡ cond (is_pair a b (m, f)) (Some n) (find_names old a b))
HasSought m f n old new (sought.At i) = (find_names old m f ≡ Some i) × (new ≡ old)
HasSought m f n old new sought.NoMemory = (a b : List ℕ) → find_names new a b ≡ find_names old a b

-- where a pair is found: at the index in one of its slots, if it stands there; else where the map has it
abbrev pub found : List ℕ → BTreeMap (String Global × String Global) ℕ → List Pair → List ℕ → List ℕ → Option ℕ
found slots others ps m f =
    if stands_at m f ps (in_first slots m f) then in_first slots m f
    else (if stands_at m f ps (in_other slots m f) then in_other slots m f else find_names others m f)

-- exactly these pairs are found, where they stand
abbrev pub Finds : List ℕ → BTreeMap (String Global × String Global) ℕ → List Pair → Type 0
Finds slots others ps = (m f : List ℕ) → found slots others ps m f ≡ index_of m f ps

-- the map has no pair that has a free slot
abbrev pub IsBehind : List ℕ → BTreeMap (String Global × String Global) ℕ → List Pair → Type 0
IsBehind slots others ps = (m f : List ℕ) → HasFree slots ps m f → find_names others m f ≡ None

abbrev pub Holds : List ℕ → BTreeMap (String Global × String Global) ℕ → List Pair → Type 0
Holds slots others ps = Finds slots others ps × IsBehind slots others ps

-- a pair was added where it was new; it stands at an index; or there was no memory, and the pairs are found as before
abbrev pub HasSettled : List ℕ → List ℕ → List Pair → List ℕ → BTreeMap (String Global × String Global) ℕ → Sought → Type 0
HasSettled m f ps slots others sought.New = (index_of m f ps ≡ None) × Holds slots others (ps ++ (m, f) ∷ [])
HasSettled m f ps slots others (sought.At i) = (index_of m f ps ≡ Some i) × Holds slots others ps
HasSettled m f ps slots others sought.NoMemory = Holds slots others ps
