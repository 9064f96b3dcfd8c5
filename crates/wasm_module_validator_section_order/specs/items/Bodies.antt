-- The bytes of a function's body, as they were kept (WebAssembly 3.0, binary format, modules, code section).
use Rattle.std.specs.Prelude.{◌≡◌, ◌≤◌, ℕ, length}
use Rattle.wasm_types.specs.decoding.Decoder.{State}
use Rattle.wasm_types.specs.settings.Settings.{Settings}

-- Bytes that are read by these settings may be a body: the features are those by which it is judged, and there are no more bytes than a
-- body may have.
pub record IsReadBy (z : Settings) (bits : ℕ) (s : State) : Type 0 where
  pub settings : s.settings ≡ z
  pub features : z.features ≡ bits
  pub within : length s.rest ≤ z.limits.body_bytes
