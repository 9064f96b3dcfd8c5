-- What a module is judged by, apart from its bytes.
use Rattle.std.specs.Prelude.{ℕ}
use Rattle.wasm_types_settings.specs.declared.Limits.{Limits}
use Rattle.wasm_types_settings.specs.Limits.{default_limits}

-- the features that are allowed, as the number of their bits, and the limits that hold
pub record Settings : Type 0 where
  pub features : ℕ
  pub limits : Limits

-- no features, and the limits by default
abbrev pub no_features : Settings
no_features = record { features = 0; limits = default_limits }
