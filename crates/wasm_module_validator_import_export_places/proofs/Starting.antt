-- The start function, from where its section was found.
use Rattle.std.proofs.Common.{◌≡◌, ℕ, List, Option, Some, None, refl}
use Rattle.wasm_types.specs.settings.Settings.{Settings}
use Rattle.wasm_module_validator_rules.specs.Binary.{SpelledNumber}
use Rattle.wasm_module_validator_import_export_places.specs.Listing.{NumberAt}
use Rattle.wasm_module_validator_import_export_places.specs.Sections.{Found}
use Rattle.wasm_module_validator_import_export_places.specs.declared.sections.Section.TheVariants.{Absent, At}

-- where the section is absent there is none
pub no_start : (text : List ℕ) (n : Option ℕ) (c : Option (List ℕ)) → Found text c Absent → SpelledNumber n c → None ≡ n
no_start text None None f s = refl
no_start text (Some k) None f s = absurd s
no_start text n (Some content) f s = absurd f

-- where it begins, its number is the start function
pub start_at : (z : Settings) (text : List ℕ) (start : ℕ) (n : Option ℕ) (c : Option (List ℕ)) (r : Option ℕ) → Found text c (At start) → SpelledNumber n c
    → NumberAt text start r → r ≡ n
start_at z text start (Some k) (Some content) r f s told = told z k content f.0 s f.1
start_at z text start None (Some content) r f s told = absurd s
start_at z text start n None r f s told = absurd f
