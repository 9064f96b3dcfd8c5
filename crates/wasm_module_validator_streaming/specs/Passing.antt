-- Contents of a custom section that go by (WebAssembly 3.0, binary format, custom section): whatever they are, they decide nothing. So once the
-- section's id, its size and its name came, it is known what the section leads to.
use Rattle.std.specs.Prelude.{◌≡◌, ℕ, ◌+◌, ◌<◌, ◌≤◌, ◌^◌, List, ◌++◌, length, true}
use Rattle.wasm_types.specs.decoding.Decoder.{State, Done, Short, byte, extended}
use Rattle.wasm_types.specs.decoding.Leb.{u32}
use Rattle.wasm_types.specs.decoding.Text.{name}
use Rattle.wasm_sections_parser.specs.declared.frame.CustomSectionReader.{CustomSectionReader}
use Rattle.wasm_sections_parser.specs.declared.frame.Frame.TheVariants.{Custom}
use Rattle.wasm_sections_parser.specs.Parsers.{Parser}
use Rattle.wasm_sections_parser.specs.Parsing.{IsNext, between, comes, reads}
use Rattle.wasm_sections_parser.specs.Steps.{counted}
use Rattle.wasm_module_validator_streaming.specs.declared.customs.Front.{Front}
use Rattle.wasm_module_validator_streaming.specs.declared.customs.Front.TheVariants as fronts

-- what reads the contents of a section, where they begin at t, by the settings of s
abbrev pub contents_at : State → State → State
contents_at s t = record { rest = t.rest; place = t.place; settings = s.settings; start = t.place }

-- A custom section begins at s with its id, its size and its name. Its contents begin at this offset, and so many of their bytes are missing.
pub record IsHead (s : State) (missing place : ℕ) : Type 0 where
  pub size : ℕ
  pub text : List ℕ
  pub tagged : State
  pub sized : State
  pub named : State
  pub tag : byte s ≡ Done 0 tagged
  pub count : u32 tagged ≡ Done size sized
  pub begins : name s.settings.limits.string_bytes (contents_at s sized) ≡ Done text named
  pub some : 0 < missing
  pub cut : size ≡ length sized.rest + missing
  pub there : place ≡ sized.place

-- What is told of the front of bytes: a custom section with its name; that fewer bytes more bring none; or that none comes there, whatever follows.
abbrev pub IsFront : State → Front → Type 0
IsFront s (fronts.Head missing place) = IsHead s missing place
IsFront s (fronts.Cut more) = (0 < more) × ((later : List ℕ) (missing place : ℕ) → length later < more → IsHead (extended s later) missing place → ⊥)
IsFront s fronts.Other = (later : List ℕ) (missing place : ℕ) → IsHead (extended s later) missing place → ⊥

-- A custom section comes next for a parser, and its id, its size and its name are among these bytes; and offsets have 64 bits.
pub record HasHead (p : Parser) (text : List ℕ) : Type 0 where
  pub missing : ℕ
  pub place : ℕ
  pub between : between p.progress.stage p.offset ≡ true
  pub head : IsHead (reads p text) missing place
  pub room : p.offset + (length text + missing) < 2 ^ 64

-- where a parser stands behind a custom section of n bytes
abbrev pub behind : Parser → ℕ → Parser
behind p n = record { offset = p.offset + n; settings = p.settings; progress = counted p.progress 0 0 }

-- A custom section comes next for p. These bytes of it came, the contents begin at this offset, and so many of their bytes are missing: whatever
-- those are, the section leads to q.
pub record Passes (p : Parser) (gone : List ℕ) (missing place : ℕ) (q : Parser) : Type 0 where
  pub front : 0 < length gone
  pub some : 0 < missing
  pub between : between p.progress.stage p.offset ≡ true
  pub cut : comes p gone ≡ Short place missing
  pub whole : (later : List ℕ) → missing ≤ length later
      → (c : CustomSectionReader) × IsNext p (gone ++ later) (length gone + missing) (Custom c) q
