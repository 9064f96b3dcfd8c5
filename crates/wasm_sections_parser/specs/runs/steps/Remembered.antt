-- What a parser remembers of the sections before (WebAssembly 3.0, binary format, modules).
use Rattle.std.specs.Prelude.{◌≡◌, ◌⊎◌, ℕ, List, [], ◌∷◌, length, true, None}
use Rattle.wasm_sections_items.specs.frames.Outer.{Part, custom, section, code, Counts, Declares, DeclaresOrAbsent}
use Rattle.wasm_sections_parser.specs.declared.progress.Stage.TheVariants as stages
use Rattle.wasm_sections_parser.specs.declared.progress.Progress.{Progress}
use Rattle.wasm_sections_parser.specs.Steps.{counted, in_code, begun, has_count, is_announced}

-- before the first frame
abbrev pub fresh : Progress
fresh = record { stage = stages.Header; last = 0; functions = 0; bodies = 0; data_count = None; segments = 0 }

-- behind a section; the stage is left open
abbrev pub Noted : Progress → Part → Progress → Type 0
Noted p (custom n c) q = begun q ≡ counted p 0 0
Noted p (section id c) q = (k : ℕ) × (has_count id ≡ true → Counts k c) × (begun q ≡ counted p id k)
Noted p (code es) q = (end : ℕ) × (begun q ≡ begun (in_code p (length es) end))

-- behind sections
abbrev pub AreNoted : Progress → List Part → Progress → Type 0
AreNoted p [] q = begun p ≡ begun q
AreNoted p (x ∷ ps) q = (r : Progress) × Noted p x r × AreNoted r ps q

-- what is compared as a section is read: as many bodies as functions, and as many data segments as were announced
abbrev pub Compared : Part → Progress → Type 0
Compared (custom n c) q = Unit {0}
Compared (section id c) q = is_announced id q ≡ true
Compared (code es) q = q.functions ≡ q.bodies

-- after sections that are noted, and of which what is compared agrees
abbrev pub AreRead : Progress → List Part → Progress → Type 0
AreRead p [] q = begun p ≡ begun q
AreRead p (x ∷ ps) q = (r : Progress) × Noted p x r × Compared x r × AreRead r ps q

-- ---- the same, as the counts of sections

-- so many bodies are in a code section among these
abbrev pub HasBodies : ℕ → List Part → Type 0
HasBodies n [] = ⊥
HasBodies n (code es ∷ ps) = (n ≡ length es) ⊎ HasBodies n ps
HasBodies n (custom m c ∷ ps) = HasBodies n ps
HasBodies n (section id c ∷ ps) = HasBodies n ps

-- The counts of the sections that are there agree: as many bodies as functions if there is a code section, and as many data segments as
-- announced if there is a data section.
pub record CountsFit (ps : List Part) : Type 0 where
  pub bodies : (n : ℕ) → HasBodies n ps → DeclaresOrAbsent 3 n ps
  pub segments : (n m : ℕ) → Declares 12 n ps → Declares 11 m ps → n ≡ m
