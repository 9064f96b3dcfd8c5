-- How headers and sections are read.
use Rattle.std.specs.Prelude.{ℕ, ◌+◌, ◌==◌, List, [], ◌∷◌, length, take, drop, Bool, false, nat_lt, if◌then◌else◌}
use Rattle.wasm_types.specs.settings.Settings.{Settings}
use Rattle.wasm_types.specs.decoding.declared.Refusal.TheVariants.{Other}
use Rattle.wasm_types.specs.decoding.Decoder.{Decoder, Done, ◌>>=◌, pure, refuse, byte, bytes}
use Rattle.wasm_types.specs.decoding.Leb.{u32, listed}
use Rattle.wasm_types.specs.decoding.Text.{little_endian, name, sized}
use Rattle.wasm_sections_items.specs.frames.Outer.{Header, Part, custom, code, section}

-- ---- headers

-- whether four bytes are the magic number
abbrev pub is_magic : List ℕ → Bool
is_magic (a ∷ b ∷ c ∷ d ∷ []) = if a == 0x00 then (if b == 0x61 then (if c == 0x73 then d == 0x6d else false) else false) else false
is_magic text = false

-- the version and the layer that four bytes are
abbrev pub header_of : List ℕ → Header
header_of text = record { version = little_endian (take 2 text); layer = little_endian (drop 2 text) }

-- a layer above 1 is refused where the version begins
abbrev pub header_after : List ℕ → Decoder Header
header_after text = if nat_lt 1 (little_endian (drop 2 text)) then refuse Other 4 else pure (header_of text)

-- other bytes than the magic number are refused where they begin
abbrev pub magic_after : List ℕ → Decoder Header
magic_after text = if is_magic text then (bytes 4 >>= header_after) else refuse Other 4

-- four bytes of the magic number, and four of the version and the layer
unfoldable pub header : Decoder Header
header = bytes 4 >>= magic_after

-- ---- sections

-- a count, and as many bytes
unfoldable pub counted_bytes : Decoder (List ℕ)
counted_bytes = u32 >>= bytes

-- all that is left, behind a name
abbrev pub rest_after : List ℕ → Decoder (List ℕ × List ℕ)
rest_after n s = Done (n, s.rest) (record { rest = []; place = s.place + length s.rest; settings = s.settings; start = s.start })

-- the contents of a custom section
unfoldable pub named_rest : Settings → Decoder (List ℕ × List ℕ)
named_rest z = name z.limits.string_bytes >>= rest_after

-- what follows an id
abbrev pub part_after : Settings → ℕ → Decoder Part
part_after z id = if id == 0 then (sized Other Other (named_rest z) >>= λ c. pure (custom c.0 c.1)) else
    (if id == 10 then (sized Other Other (listed counted_bytes) >>= λ es. pure (code es)) else (counted_bytes >>= λ c. pure (section id c)))

-- a section
unfoldable pub part : Settings → Decoder Part
part z = byte >>= part_after z
