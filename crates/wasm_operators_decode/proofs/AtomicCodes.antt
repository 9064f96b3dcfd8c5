-- Where the codes of atomic accesses are, by runs and by what stands behind them.
use Rattle.std.proofs.Common.{◌≡◌, ◌≤◌, ◌<◌, ◌∙◌, ℕ, Bool, true, false, ◌||◌, leb, eqb, List, [], ◌∷◌, Some, None, refl, sym, ap}
use Rattle.std.proofs.lemmas.Bool.{le-leb, lt-leb, leb-true, eqb-true}
use Rattle.wasm_operators_immediates.specs.Kinds as kind
use Rattle.wasm_operators_immediates.specs.Kinds.{Kind, Atomic, ReadModifyWrite}
use Rattle.wasm_operators_enums.specs.threads.Table.{atomic_info}
use Rattle.wasm_operators_enums.specs.threads.Immediates.{atomic_immediates}
use Rattle.wasm_operators_enums.proofs.ThreadsCodes.{atomic_list}
use Rattle.wasm_operators_encoding.specs.Rows.{Row, rows}
use Rattle.wasm_operators_encoding.specs.Groups.{atomic_kinds}
use Rattle.wasm_operators_encoding.specs.KeptRows.{between, kinds_kept, is_between, code_within}
use Rattle.wasm_operators_decode.specs.Atomic.{atomic_run}

abbrev all_rows : List Row
all_rows = rows atomic_info atomic_immediates (Some 0xfe) atomic_list

-- ---- runs

pub in_run : (from to code : ℕ) → from ≤ code → code ≤ to → atomic_run from to code ≡ atomic_kinds code
in_run from to code low high = unfold atomic_run in sym (kinds_kept (between from to) code (is_between from to code low high) all_rows)

pub none_above : (code : ℕ) → 0x4e < code → atomic_kinds code ≡ None
none_above code h = kinds_kept (leb 0x4f) code (le-leb 0x4f code h) all_rows

-- ---- what stands behind a code

abbrev is_access : List Kind → Bool
is_access (kind.MemoryArgument Atomic natural ∷ []) = true
is_access ks = false

abbrev is_update : List Kind → Bool
is_update (kind.MemoryArgument ReadModifyWrite natural ∷ []) = true
is_update ks = false

abbrev is_zero : List Kind → Bool
is_zero (kind.ZeroByte ∷ []) = true
is_zero ks = false

-- accesses have codes up to 0x02, and from 0x10 to 0x1d
pub access_to : (code natural : ℕ) → atomic_kinds code ≡ Some (kind.MemoryArgument Atomic natural ∷ []) → code ≤ 0x1d
access_to code natural e =
    leb-true code 0x1d (code_within is_access (λ n. leb n 0x1d) code (kind.MemoryArgument Atomic natural ∷ []) refl all_rows refl e)

pub access_from : (code natural : ℕ) → atomic_kinds code ≡ Some (kind.MemoryArgument Atomic natural ∷ []) → 0x02 < code → 0x10 ≤ code
access_from code natural e h =
    let either = code_within is_access (λ n. leb n 0x02 || leb 0x10 n) code (kind.MemoryArgument Atomic natural ∷ []) refl all_rows refl e in
    leb-true 0x10 code (ap (λ (b : Bool). b || leb 0x10 code) (sym (lt-leb code 0x02 h)) ∙ either)

-- read-modify-writes from 0x1e to 0x4e
pub update_from : (code natural : ℕ) → atomic_kinds code ≡ Some (kind.MemoryArgument ReadModifyWrite natural ∷ []) → 0x1e ≤ code
update_from code natural e =
    leb-true 0x1e code (code_within is_update (leb 0x1e) code (kind.MemoryArgument ReadModifyWrite natural ∷ []) refl all_rows refl e)

pub update_to : (code natural : ℕ) → atomic_kinds code ≡ Some (kind.MemoryArgument ReadModifyWrite natural ∷ []) → code ≤ 0x4e
update_to code natural e =
    leb-true code 0x4e (code_within is_update (λ n. leb n 0x4e) code (kind.MemoryArgument ReadModifyWrite natural ∷ []) refl all_rows refl e)

-- the fence 0x03
pub fence_code : (code : ℕ) → atomic_kinds code ≡ Some (kind.ZeroByte ∷ []) → code ≡ 0x03
fence_code code e = eqb-true code 0x03 (code_within is_zero (λ n. eqb n 0x03) code (kind.ZeroByte ∷ []) refl all_rows refl e)
