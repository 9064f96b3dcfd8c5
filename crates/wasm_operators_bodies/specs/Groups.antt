-- Where a reader of groups of locals stands, what it reads there, and why it refuses.
use Rattle.std.specs.Prelude.{◌≡◌, ◌⊎◌, ℕ, zero, suc, ◌+◌, ◌<◌, Bool, true, false, List, [], ◌∷◌, Result, Ok, Err, Option, Some, None}
use Rattle.wasm_types.specs.decoding.Decoder.{State, Decoder, Done, ◌>>=◌}
use Rattle.wasm_types.specs.decoding.Leb.{u32}
use Rattle.wasm_types.specs.settings.Settings.{Settings}
use Rattle.wasm_types.specs.decoding.declared.error.ErrorKind.TheVariants.{Other}
use Rattle.wasm_types.specs.decoding.ErrorValue.{ErrorValue}
use Rattle.wasm_types.specs.reader.Reading.{Fails, IsNotMemory}
use Rattle.wasm_operators_encoding.specs.Locals.{LocalGroup, most_locals, group_within}

-- its bytes, how many groups were counted, how many of them are left, and how many locals these may have together
pub record LocalsLeft : Type 0 where
  pub bytes : State
  pub count : ℕ
  pub groups : ℕ
  pub room : ℕ

-- behind a count
abbrev pub behind_count : Settings → ℕ → State → LocalsLeft
behind_count settings n s = record { bytes = s; count = n; groups = n; room = most_locals settings }

-- a count, and where the reader of as many groups stands behind it
unfoldable pub counted_groups : Settings → Decoder LocalsLeft
counted_groups settings = u32 >>= λ n s. Done (behind_count settings n s) s

-- it reads this group, and stands there behind it
pub record ReadsGroup (s : LocalsLeft) (g : LocalGroup) (t : LocalsLeft) : Type 0 where
  pub read : group_within s.room s.bytes ≡ Done g t.bytes
  pub groups : s.groups ≡ t.groups + 1
  pub room : s.room ≡ t.room + g.count
  pub count : t.count ≡ s.count

-- why it reads none: no group is left, which is refused where it stands; or the bytes spell none, or one with too many locals
abbrev pub RefusesGroupOf : ℕ → LocalsLeft → ErrorValue → Type 0
RefusesGroupOf zero s e = (e.kind ≡ Other) × (e.offset ≡ s.bytes.place)
RefusesGroupOf (suc n) s e = Fails e (group_within s.room s.bytes)

-- the same, by the groups that are left
abbrev pub RefusesGroup : LocalsLeft → ErrorValue → Type 0
RefusesGroup s e = RefusesGroupOf s.groups s e

-- it reads these groups, one after the other
abbrev pub ReadsGroups : LocalsLeft → List LocalGroup → LocalsLeft → Type 0
ReadsGroups s [] t = t ≡ s
ReadsGroups s (g ∷ gs) t = (m : LocalsLeft) × ReadsGroup s g m × ReadsGroups m gs t

-- The next item of an iterator: one group after the other as many as were counted, and last an error, if one is refused.
-- Nothing comes behind an error.
abbrev pub NextGroup : {X : Type 0} → (X → LocalGroup) → LocalsLeft → Bool → Option (Result X ErrorValue) → LocalsLeft → Bool → Type 0
NextGroup view s failed None t after = ((failed ≡ true) ⊎ (s.groups ≡ 0)) × (t ≡ s) × (after ≡ failed)
NextGroup view s failed (Some (Ok x)) t after = (failed ≡ false) × (after ≡ false) × ReadsGroup s (view x) t
NextGroup view s failed (Some (Err e)) t after = (failed ≡ false) × (after ≡ true) × (0 < s.groups) × Fails e (group_within s.room s.bytes)
    × (t ≡ s) × IsNotMemory e.kind

-- no more items come than this
abbrev pub groups_left : Bool → LocalsLeft → ℕ
groups_left true s = 0
groups_left false s = s.groups
