-- What is found in some bytes by what they spell.
use Rattle.std.specs.Prelude.{◌≡◌, ℕ, List, ◌++◌, drop, Option, IsSomeAnd}
use Rattle.wasm_types.specs.decoding.Leb.{IsUnsigned}
use Rattle.wasm_types.specs.decoding.Text.{IsName}
use Rattle.wasm_types.specs.settings.Settings.{Settings}
use Rattle.wasm_module_validator_import_export_places.specs.declared.names.Name.{Name}
use Rattle.wasm_module_validator_import_export_places.specs.Entries.{IsNameAt}

-- Where bytes at an offset spell something by whatever settings, it is found, as `sees` says, with the offset behind it.
abbrev pub Finds : {X A : Type 0} → (Settings → A → List ℕ → Type 0) → (X → A → Type 0) → List ℕ → ℕ → Option (X × ℕ) → Type 0
Finds {X} {A} spelled sees text at_offset r =
    (z : Settings) (a : A) (front rest : List ℕ) → spelled z a front → drop at_offset text ≡ front ++ rest → IsSomeAnd r (λ s. sees s.0 a × (drop s.1 text ≡ rest))

abbrev pub IsNumber : Settings → ℕ → List ℕ → Type 0
IsNumber z n text = IsUnsigned 32 n text

abbrev pub Same : ℕ → ℕ → Type 0
Same x y = x ≡ y

abbrev pub IsNameBy : Settings → List ℕ → List ℕ → Type 0
IsNameBy z name text = IsName z.limits.string_bytes name text

abbrev pub IsAt : List ℕ → Name → List ℕ → Type 0
IsAt text n name = IsNameAt text n.offset n.length name
