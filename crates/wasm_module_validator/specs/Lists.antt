-- What a validator answers to modules that are validated one after the other (WebAssembly 3.0, binary format and validation, modules).
use Rattle.std.specs.Prelude.{◌≡◌, ◌↔◌, ◌⊎◌, ◌<◌, ◌≤◌, ◌+◌, ℕ, length, Bool, true, false, IsTrue, List, [], ◌∷◌, map, Contains}
use Rattle.std.specs.Borrow.{Bor}
use Rattle.wasm_types.specs.settings.Settings.{Settings}
use Rattle.wasm_types.specs.settings.Features.{needs_canonical_types}
use Rattle.wasm_types.specs.reader.Reading.{IsNotMemory}
use Rattle.wasm_sections_parser.specs.Parsing.{one_of}
use Rattle.wasm_module_validator_index_spaces.specs.declared.view.validator_id.ValidatorId.{ValidatorId}
use Rattle.wasm_module_validator_drivers.specs.reading.Reading.{HasGroupIn, IsReadAs}
use Rattle.wasm_module_validator_drivers.specs.declarations.Total.{IsPastTotal, TakesOf}
use Rattle.wasm_module_validator_drivers.specs.state.invariant.Standing.{IsGrown}
use Rattle.wasm_module_validator_drivers.specs.state.Items.{no_items}
use Rattle.wasm_module_validator_section_order.specs.rules_in_order.Steps.{SoFar}
use Rattle.wasm_module_validator_rules.specs.Accepts.{AcceptsUnder, IsValidOutsideBodies}
use Rattle.wasm_module_validator_rules.specs.Spaces.{types_behind}
use Rattle.wasm_module_validator_type_storage.specs.trees.Groups.{Group, count, tree_of}
use Rattle.wasm_module_validator.specs.declared.lists.Verdict.{Verdict}
use Rattle.wasm_module_validator.specs.declared.lists.Verdict.TheVariants.{Accepted, Refused}
use Rattle.wasm_module_validator.specs.declared.validator.State.{State}
use Rattle.wasm_module_validator.specs.declared.validator.State.TheVariants.{Unparsed, Ended, Failed}
use Rattle.wasm_module_validator.specs.declared.validator.Validator.{Validator}
use Rattle.wasm_module_validator.specs.soundness.Soundness.{RunsSoundly}
use Rattle.wasm_module_validator.specs.Accepts.{IsShown}
use Rattle.wasm_module_validator.specs.Methods.{can_reset}
use Rattle.wasm_module_validator.specs.Shown.{Learned}
use Rattle.wasm_module_validator.specs.States.{held_by}

-- the bytes of some inputs
abbrev pub texts : List (Bor (List ℕ)) → List (List ℕ)
texts inputs = map (λ x. x.now) inputs

-- ---- one module

-- The verdict on these bytes, of the validator with this id, whose list of types has these groups: they are accepted, and what is known of
-- the module is shown, and it runs soundly; or a function alone is refused; or the module is not valid outside its bodies either, or one of its groups would
-- have passed the total of types behind these groups.
abbrev pub IsVerdict : Settings → ValidatorId → List Group → List ℕ → Verdict → Type 0
IsVerdict z id held bytes (Accepted types) = AcceptsUnder z bytes × IsShown z bytes types × (types.id ≡ id) × RunsSoundly z bytes
IsVerdict z id held bytes (Refused error true) = (AcceptsUnder z bytes → ⊥) × IsNotMemory error.kind × IsValidOutsideBodies z bytes
IsVerdict z id held bytes (Refused error false) = IsNotMemory error.kind
    × (IsPastTotal held (no_items z) (HasGroupIn z bytes) error ⊎ (IsValidOutsideBodies z bytes → ⊥))

-- ---- one module after the other

-- whether another module may come behind a verdict: not behind one that was refused before its end
abbrev pub goes_on : Verdict → Bool
goes_on (Accepted types) = true
goes_on (Refused error ended) = ended

-- the list has taken no more types than these bytes have, and no others
abbrev pub TakesNoMore : Settings → List Group → List ℕ → List Group → Type 0
TakesNoMore z held bytes next = (q : SoFar) → IsReadAs z bytes q
    → (count next ≤ count held + length (types_behind [] q.tree.types)) × TakesOf (types_behind [] q.tree.types) held next

-- What a verdict on these bytes makes of the list of types: it has taken further groups, of no more types than the bytes have and of no others,
-- and it is that of the module which was accepted.
abbrev pub IsHeldBehind : Settings → List Group → List ℕ → Verdict → List Group → Type 0
IsHeldBehind z held bytes (Accepted types) next = IsGrown held next × (types.kept.groups ≡ next) × TakesNoMore z held bytes next
IsHeldBehind z held bytes (Refused error ended) next = IsGrown held next × TakesNoMore z held bytes next

-- One verdict for each input, through the first that is refused before its end, of a validator whose list of types begins with these groups.
abbrev pub AreVerdicts : Settings → ValidatorId → List Group → List (List ℕ) → List Verdict → Type 0
AreVerdicts z id held [] [] = Unit {0}
AreVerdicts z id held [] (v ∷ vs) = ⊥
AreVerdicts z id held (x ∷ xs) [] = ⊥
AreVerdicts z id held (x ∷ xs) (v ∷ vs) =
    IsVerdict z id held x v × one_of (goes_on v) ((next : List Group) × IsHeldBehind z held x v next × AreVerdicts z id next xs vs) (vs ≡ [])

-- how far a validator is behind a verdict, and behind some
abbrev pub state_behind : Verdict → State
state_behind (Accepted types) = Ended
state_behind (Refused error true) = Ended
state_behind (Refused error false) = Failed

abbrev pub state_after : List Verdict → State
state_after [] = Unparsed
state_after (v ∷ []) = state_behind v
state_after (v ∷ (w ∷ vs)) = state_after (w ∷ vs)

-- Where another module may come after these verdicts, the list has the groups that it had, and those of each module that was accepted, so
-- that their ids still name the same types.
abbrev pub KeepsAll : Validator → List Verdict → Validator → Type 0
KeepsAll v vs w = can_reset w.state ≡ true
    → IsGrown (held_by v) (held_by w) × ((t : Learned) → Contains vs (Accepted t) → IsGrown t.kept.groups (held_by w))

-- ---- ids

-- an id of the one list of types and an id of the other are the same exactly where their types are
abbrev pub AreTold : List Group → List Group → Type 0
AreTold gs hs = (i j : ℕ) → i < count gs → j < count hs → (i ≡ j) ↔ (tree_of gs i ≡ tree_of hs j)

-- where types are kept in canonical form
abbrev pub AreToldUnder : Settings → List Group → List Group → Type 0
AreToldUnder z gs hs = IsTrue (needs_canonical_types z.features) → AreTold gs hs

-- so are the types of all modules that were accepted
abbrev pub ShareIds : Settings → List Verdict → Type 0
ShareIds z vs = (t u : Learned) → Contains vs (Accepted t) → Contains vs (Accepted u) → AreToldUnder z t.kept.groups u.kept.groups

-- what a verdict leaves of the list of types, which tells apart what it holds where types are kept in canonical form
abbrev pub LeavesGroups : Validator → List ℕ → Verdict → Validator → Type 0
LeavesGroups v bytes (Accepted t) w = IsHeldBehind v.settings (held_by v) bytes (Accepted t) (held_by w)
    × AreToldUnder v.settings t.kept.groups t.kept.groups
LeavesGroups v bytes (Refused error true) w = IsHeldBehind v.settings (held_by v) bytes (Refused error true) (held_by w)
LeavesGroups v bytes (Refused error false) w = Unit {0}
