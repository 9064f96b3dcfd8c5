-- Where the types of a group begin.
use Rattle.std.specs.Prelude.{ℕ, ◌==◌, List, [], ◌∷◌, if◌then◌else◌}
use Rattle.wasm_types_decoding.specs.Decoder.{Decoder, ◌>>=◌, pure, byte}
use Rattle.wasm_types_decoding.specs.Lists.{listed_within}
use Rattle.wasm_types_settings.specs.Settings.{Settings}
use Rattle.wasm_types.specs.DecodeTypes.{sub_after, sub_type}

-- the offset at which d begins to read
abbrev pub place_of : {A : Type 0} → Decoder A → Decoder ℕ
place_of d s = (d >>= λ x. pure s.place) s

-- of each type of a list
unfoldable pub places : Settings → Decoder (List ℕ)
places z = listed_within z.limits.types (place_of (sub_type z))

-- by the byte that stands at this offset: a list of types, or one type, which begins with the byte
abbrev pub places_after : Settings → ℕ → ℕ → Decoder (List ℕ)
places_after z place b = if b == 0x4e then places z else (sub_after z b >>= λ x. pure (place ∷ []))

-- of each type of a group, from the group's first byte on
unfoldable pub group_places : Settings → Decoder (List ℕ)
group_places z s = (byte >>= places_after z s.place) s
