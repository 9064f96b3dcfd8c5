-- What a validator of modules accepts: bytes that spell a valid module, all of them (WebAssembly 3.0, binary format and validation).
-- Bytes are a list of numbers below 256: a slice has no others.
use Rattle.std.specs.Prelude.{◌≡◌, ◌≤◌, ℕ, List, [], length}
use Rattle.wasm_types.specs.settings.Settings.{Settings}
use Rattle.wasm_module_validator_rules.specs.Syntax.{ModuleTree}
use Rattle.wasm_module_validator_rules.specs.Binary.{SpelledModule, SpelledModuleWith}
use Rattle.wasm_module_validator_rules.specs.Spaces.{module_of, imported_globals}
use Rattle.wasm_module_validator_rules.specs.Valid.{Each, IsValid, IsValidWith}

-- standard: embed-module-validate: the bytes decode to the module, which is valid
-- the bytes spell this module, which is valid
pub record Judges (z : Settings) (bytes : List ℕ) (m : ModuleTree) : Type 0 where
  pub spelled : SpelledModule z m bytes
  pub valid : IsValid z m

-- standard: embed-module-validate: the bytes of a valid module
-- all of the bytes spell some valid module, where these features are allowed and these limits hold
abbrev pub AcceptsUnder : Settings → List ℕ → Type 0
AcceptsUnder z bytes = (m : ModuleTree) × Judges z bytes m

-- ---- modules but for their bodies

-- one entry for each function, of no more bytes than the limit, whatever the bytes are
abbrev pub AreEntries : Settings → ModuleTree → List (List ℕ) → Type 0
AreEntries z m entries = (length entries ≡ length m.functions) × Each (λ (text : List ℕ). length text ≤ z.limits.body_bytes) entries

-- the bytes spell this module, and it is valid, except that its bodies are entries of whatever bytes: its tree has no code
pub record JudgesOutsideBodies (z : Settings) (bytes : List ℕ) (m : ModuleTree) : Type 0 where
  pub spelled : SpelledModuleWith (AreEntries z m) z m bytes
  pub valid : IsValidWith (Unit {0}) z (module_of m) (imported_globals m) m
  pub code : m.code ≡ []

-- all of the bytes spell some module that is valid but for its bodies
abbrev pub IsValidOutsideBodies : Settings → List ℕ → Type 0
IsValidOutsideBodies z bytes = (m : ModuleTree) × JudgesOutsideBodies z bytes m
