-- Worked texts, as they are shown.
use Rattle.std.specs.Prelude.{◌≡◌, [], ◌∷◌, ◌++◌, codes}
use Rattle.wasm_check_lines.specs.Shown.{shown}

-- the texts, each with what is written for it
pub record ShownRows : Type 0 where
  pub plain : shown (codes "a b.wasm") ≡ codes "a b.wasm"
  pub feed : shown (codes "a\nv: valid") ≡ codes "a\\u{a}v: valid"
  pub first_and_last : shown (0 ∷ 31 ∷ 32 ∷ 126 ∷ 127 ∷ []) ≡ codes "\\u{0}\\u{1f} ~\\u{7f}"
  pub escape : shown (27 ∷ codes "[2J") ≡ codes "\\u{1b}[2J"
  -- U+0080, U+009F and U+00A0 in UTF-8
  pub past_ascii : shown (0xC2 ∷ 0x80 ∷ 0xC2 ∷ 0x9F ∷ 0xC2 ∷ 0xA0 ∷ []) ≡ codes "\\u{80}\\u{9f}" ++ 0xC2 ∷ 0xA0 ∷ []
  -- U+2027 to U+2029
  pub separators : shown (0xE2 ∷ 0x80 ∷ 0xA7 ∷ 0xE2 ∷ 0x80 ∷ 0xA8 ∷ 0xE2 ∷ 0x80 ∷ 0xA9 ∷ []) ≡ 0xE2 ∷ 0x80 ∷ 0xA7 ∷ codes "\\u{2028}\\u{2029}"
  -- U+202A, U+202E and U+202F
  pub order : shown (0xE2 ∷ 0x80 ∷ 0xAA ∷ 0xE2 ∷ 0x80 ∷ 0xAE ∷ 0xE2 ∷ 0x80 ∷ 0xAF ∷ []) ≡ codes "\\u{202a}\\u{202e}" ++ 0xE2 ∷ 0x80 ∷ 0xAF ∷ []
  -- U+061B and U+061C, U+200D to U+2010
  pub marks : shown (0xD8 ∷ 0x9B ∷ 0xD8 ∷ 0x9C ∷ 0xE2 ∷ 0x80 ∷ 0x8D ∷ 0xE2 ∷ 0x80 ∷ 0x8E ∷ 0xE2 ∷ 0x80 ∷ 0x8F ∷ 0xE2 ∷ 0x80 ∷ 0x90 ∷ [])
      ≡ 0xD8 ∷ 0x9B ∷ codes "\\u{61c}" ++ 0xE2 ∷ 0x80 ∷ 0x8D ∷ codes "\\u{200e}\\u{200f}" ++ 0xE2 ∷ 0x80 ∷ 0x90 ∷ []
  -- U+2065, U+2066, U+2069 and U+206A
  pub isolates : shown (0xE2 ∷ 0x81 ∷ 0xA5 ∷ 0xE2 ∷ 0x81 ∷ 0xA6 ∷ 0xE2 ∷ 0x81 ∷ 0xA9 ∷ 0xE2 ∷ 0x81 ∷ 0xAA ∷ [])
      ≡ 0xE2 ∷ 0x81 ∷ 0xA5 ∷ codes "\\u{2066}\\u{2069}" ++ 0xE2 ∷ 0x81 ∷ 0xAA ∷ []
  pub letters : shown (0xC3 ∷ 0xA9 ∷ 0xE2 ∷ 0x82 ∷ 0xAC ∷ []) ≡ 0xC3 ∷ 0xA9 ∷ 0xE2 ∷ 0x82 ∷ 0xAC ∷ []
  pub backslash : shown (codes "a\\u{a}") ≡ codes "a\\\\u{a}"
