-- Where a frame stands in the input (WebAssembly 3.0, binary format, modules).
use Rattle.std.specs.Prelude.{◌≡◌, ℕ, ◌+◌, List, ◌∷◌, ◌++◌, length}
use Rattle.wasm_types.specs.settings.Settings.{Settings}
use Rattle.wasm_types.specs.decoding.Decoder.{State}
use Rattle.wasm_types.specs.decoding.Leb.{IsUnsigned}
use Rattle.wasm_sections_parser.specs.declared.frame.Frame.{Frame}
use Rattle.wasm_sections_parser.specs.declared.frame.Frame.TheVariants as frames
use Rattle.wasm_sections_parser.specs.declared.progress.Stage.TheVariants as stages
use Rattle.wasm_sections_parser.specs.declared.progress.Progress.{Progress}

-- A section begins at s, and its contents at this offset: behind its id and the number that is its size.
pub record HasContentsAt (s : State) (place : ℕ) : Type 0 where
  pub id : ℕ
  pub size : ℕ
  pub number : List ℕ
  pub rest : List ℕ
  pub sized : IsUnsigned 32 size number
  pub parts : s.rest ≡ id ∷ (number ++ rest)
  pub behind : place ≡ s.place + 1 + length number

-- A frame that was read up to this offset, with the progress behind it, where contents begin as that says. What reads a section or a
-- body has these settings. The contents of the code section end where the progress says, which may be behind all that there is.
abbrev pub IsPlacedBy : (ℕ → Type 0) → Settings → Frame → Progress → ℕ → Type 0
IsPlacedBy begins z (frames.Version n e r) q to = (r.start + 8 ≡ to) × (r.end ≡ to)
IsPlacedBy begins z (frames.Custom c) q to = (c.range.end ≡ to) × (c.data_offset + length c.«data».now ≡ to) × begins c.range.start
IsPlacedBy begins z (frames.Section id r) q to = (r.start ≡ r.place) × (r.place + length r.rest ≡ to) × (r.settings ≡ z)
IsPlacedBy begins z (frames.CodeStart n r size) q to = (r.start + size ≡ r.end) × (q.stage ≡ stages.Code n r.end)
IsPlacedBy begins z (frames.CodeEntry r) q to = (r.start ≡ r.place) × (r.place + length r.rest ≡ to) × (r.settings ≡ z)
IsPlacedBy begins z (frames.End place) q to = place ≡ to

-- a frame that was read from s up to this offset
abbrev pub IsPlaced : Frame → Progress → State → ℕ → Type 0
IsPlaced f q s to = IsPlacedBy (HasContentsAt s) s.settings f q to
