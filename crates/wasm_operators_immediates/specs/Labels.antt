-- The labels of br_table as bytes (WebAssembly 3.0, binary format, control instructions), and how they are read.
use Rattle.std.specs.Prelude.{◌≡◌, ℕ, List, ◌++◌}
use Rattle.wasm_types.specs.decoding.Decoder.{Decoder, ◌>>=◌, pure}
use Rattle.wasm_types.specs.decoding.Leb.{u32, IsUnsigned}
use Rattle.wasm_types.specs.decoding.Lists.{listed_within, IsListedWithin}
use Rattle.wasm_types.specs.settings.Settings.{Settings}
use Rattle.wasm_operators_immediates.specs.Tables.{Labels}

-- targets, and a default behind them
abbrev pub with_default : List ℕ → ℕ → Labels
with_default targets default = record { targets = targets; default = default }

-- a list of targets, and the default
unfoldable pub labels : Settings → Decoder Labels
labels z = listed_within z.limits.body_bytes u32 >>= λ targets. u32 >>= λ default. pure (with_default targets default)

-- standard: binary-instr-control: br_table: its labels (differs: at most as many labels as a body may have bytes)
-- a counted list of labels, and a label
pub record SpelledLabels (z : Settings) (l : Labels) (text : List ℕ) : Type 0 where
  pub front : List ℕ
  pub back : List ℕ
  pub targets : IsListedWithin z.limits.body_bytes (IsUnsigned 32) l.targets front
  pub default : IsUnsigned 32 l.default back
  pub whole : text ≡ front ++ back
