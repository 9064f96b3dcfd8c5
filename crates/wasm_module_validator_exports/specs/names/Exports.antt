-- What is kept of a module's exports (WebAssembly 3.0, structure, modules, exports), and which names are taken (validation, modules: no
-- two exports have one name).
use Rattle.std.specs.Prelude.{◌≡◌, ◌-◌, ◌||◌, ◌==◌, ℕ, Bool, true, false, cond, List, [], ◌∷◌, ◌++◌, map, length, slice_get, bit_and, bit_xor, ◌⊎◌, Option, Some, None, String}
use Rattle.std.specs.List.{list_any}
use Rattle.std.specs.Str.{bytes_eq}
use Rattle.std.specs.Hash.FoldHasher.{initial, write}
use Rattle.std.specs.BTreeSet.{BTreeSet, contains_text}
use Rattle.wasm_sections_items.specs.imports.Spells.{ExportTree}
use Rattle.wasm_module_validator_exports.specs.declared.names.exports.KeptExport.{KeptExport}
use Rattle.wasm_module_validator_exports.specs.declared.names.exports.NamedExport.{NamedExport}
use Rattle.wasm_module_validator_exports.specs.declared.names.slots.Met.{Met}
use Rattle.wasm_module_validator_exports.specs.declared.names.slots.Met.TheVariants as met
use Rattle.wasm_module_validator_exports.specs.declared.names.slots.Tried.{Tried}
use Rattle.wasm_module_validator_exports.specs.declared.names.slots.Tried.TheVariants as tried
use Rattle.wasm_module_validator_exports.specs.names.Kept.{IsNamed, name_at}

-- an export as the module writes it
abbrev pub export_of : NamedExport → ExportTree
export_of e = record { name = e.name.now; kind = e.kind; index = e.index }

-- the same of one that is kept, by the bytes of all names
abbrev pub kept_of : List ℕ → KeptExport → ExportTree
kept_of t e = record { name = name_at t e.name; kind = e.kind; index = e.index }

abbrev pub exports_of : List ℕ → List KeptExport → List ExportTree
exports_of t es = map (kept_of t) es

-- the name of each is kept
abbrev pub AreNamed : List ℕ → List KeptExport → Type 0
AreNamed t [] = Unit {0}
AreNamed t (e ∷ es) = IsNamed t e.name × AreNamed t es

-- the names, in the order of the exports
abbrev pub names_of : List ExportTree → List (List ℕ)
names_of es = map (λ (e : ExportTree). e.name) es

-- none of these names is this one
abbrev pub IsNew : List ℕ → List (List ℕ) → Type 0
IsNew n [] = Unit {0}
IsNew n (x ∷ xs) = (n ≡ x → ⊥) × IsNew n xs

-- ---- how names are found

-- the number of a name
abbrev pub number_of : List ℕ → ℕ
number_of n = (write initial n).state

-- the slot of a number, among so many
abbrev pub slot_of : ℕ → ℕ → ℕ
slot_of v slots = bit_and v (slots - 1)

-- the other slot of a pair
abbrev pub beside : ℕ → ℕ
beside p = bit_xor p 1

-- the first of a name's two slots; the other is beside it
abbrev pub first_slot : List ℕ → List ℕ → ℕ
first_slot slots n = slot_of (number_of n) (length slots)

-- a slot is one of a name's
abbrev pub IsSlotOf : List ℕ → List ℕ → ℕ → Type 0
IsSlotOf slots n p = (p ≡ first_slot slots n) ⊎ (p ≡ beside (first_slot slots n))

-- whether what stands at an index is this name
abbrev pub is_name : List ℕ → Option (List ℕ) → Bool
is_name n None = false
is_name n (Some x) = bytes_eq n x

-- whether this name stands at the index that is in a slot
abbrev pub stands_at : List ℕ → List (List ℕ) → Option ℕ → Bool
stands_at n names None = false
stands_at n names (Some i) = is_name n (slice_get names i)

-- whether this name stands at the index in a slot, and in one of its own
abbrev pub stands_in : List ℕ → List ℕ → List (List ℕ) → ℕ → Bool
stands_in n slots names p = stands_at n names (slice_get slots p)

abbrev pub stands : List ℕ → List ℕ → List (List ℕ) → Bool
stands n slots names = stands_in n slots names (first_slot slots n) || stands_in n slots names (beside (first_slot slots n))

-- no name stands at the index in a slot
abbrev pub IsFree : List ℕ → List (List ℕ) → ℕ → Type 0
IsFree slots names p = (x : ℕ) × (slice_get slots p ≡ Some x) × (slice_get names x ≡ None)

-- one of a name's slots is free
abbrev pub HasFree : List ℕ → List (List ℕ) → List ℕ → Type 0
HasFree slots names n = IsFree slots names (first_slot slots n) ⊎ IsFree slots names (beside (first_slot slots n))

-- what was found in a slot: nothing, so the index after all names may go there; the name itself; or not the name, and the slot is not free
abbrev pub HasMetAt : List ℕ → List (List ℕ) → List ℕ → ℕ → Met → Type 0
HasMetAt slots names n p (met.Free q i) = (q ≡ p) × (i ≡ length names) × IsFree slots names q
HasMetAt slots names n p met.Same = stands_in n slots names p ≡ true
HasMetAt slots names n p met.Other = (stands_in n slots names p ≡ false) × (IsFree slots names p → ⊥)

-- what was found in the slots of a name: not the name, and nothing in one of them; the name itself; or not the name, and none is free
abbrev pub HasMet : List ℕ → List (List ℕ) → List ℕ → Met → Type 0
HasMet slots names n (met.Free p i) = IsSlotOf slots n p × (i ≡ length names) × IsFree slots names p × (stands n slots names ≡ false)
HasMet slots names n met.Same = stands n slots names ≡ true
HasMet slots names n met.Other = (stands n slots names ≡ false) × (HasFree slots names n → ⊥)

-- an index in a slot, and in all others what was there
abbrev pub IsPut : ℕ → ℕ → List ℕ → List ℕ → Type 0
IsPut p x old new = (length new ≡ length old) × ((q : ℕ) → slice_get new q ≡ cond (p == q) (Some x) (slice_get old q))

module _ {Y : Type 0} where
  -- a name more in the set, where it was new
  abbrev pub HasNoted : List ℕ → BTreeSet (String Y) → BTreeSet (String Y) → Tried → Type 0
  HasNoted n old new tried.Added = (contains_text old n ≡ false)
      × ((q : List ℕ) → contains_text new q ≡ cond (bytes_eq n q) true (contains_text old q))
  HasNoted n old new tried.Taken = (contains_text old n ≡ true) × (new.keys ≡ old.keys)
  HasNoted n old new tried.NoMemory = new.keys ≡ old.keys

  -- the set has no name that has a free slot
  abbrev pub IsBehind : List ℕ → BTreeSet (String Y) → List (List ℕ) → Type 0
  IsBehind slots others names = (n : List ℕ) → HasFree slots names n → contains_text others n ≡ false

  -- exactly these names are found, by their slots or in the set
  abbrev pub Finds : List ℕ → BTreeSet (String Y) → List (List ℕ) → Type 0
  Finds slots others names = (n : List ℕ) → (stands n slots names || contains_text others n) ≡ list_any (bytes_eq n) names

  abbrev pub Holds : List ℕ → BTreeSet (String Y) → List (List ℕ) → Type 0
  Holds slots others names = Finds slots others names × IsBehind slots others names

  -- a name was added where it was new, and else these are found as before
  abbrev pub HasSettled : List ℕ → List (List ℕ) → List ℕ → BTreeSet (String Y) → Tried → Type 0
  HasSettled n names slots others tried.Added = IsNew n names × Holds slots others (names ++ n ∷ [])
  HasSettled n names slots others tried.Taken = (IsNew n names → ⊥) × Holds slots others names
  HasSettled n names slots others tried.NoMemory = Holds slots others names

-- an export more where its name is new, else the same
abbrev pub HasTried : ExportTree → List ExportTree → List ExportTree → Tried → Type 0
HasTried e old new tried.Added = IsNew e.name (names_of old) × (new ≡ old ++ e ∷ [])
HasTried e old new tried.Taken = (IsNew e.name (names_of old) → ⊥) × (new ≡ old)
HasTried e old new tried.NoMemory = new ≡ old
