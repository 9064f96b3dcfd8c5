-- What each frame of a module does to what was read before it (WebAssembly 3.0, binary format, modules; validation, modules). A module is
-- judged frame by frame: its header, whole sections in order, the start of the code section and body by body, the end. Bodies are kept as
-- bytes, and judged when all is read.
use Rattle.std.specs.Prelude.{◌≡◌, ◌<◌, ◌≤◌, ℕ, List, [], ◌∷◌, ◌++◌, length, Some, slice_get}
use Rattle.wasm_types.specs.settings.Settings.{Settings}
use Rattle.wasm_sections_parser.specs.Steps.{Shape, version, custom, code, entry, the_end}
use Rattle.wasm_sections_parser.specs.Steps as frame
use Rattle.wasm_module_validator_rules.specs.Syntax.{ModuleTree}
use Rattle.wasm_module_validator_rules.specs.Spaces.{module_of}
use Rattle.wasm_module_validator_rules.specs.Valid.{Each, IsWithinLimits}
use Rattle.wasm_module_validator_rules_in_order.specs.contexts.InOrder.{no_items}
use Rattle.wasm_module_validator_rules_in_order.specs.Sections.{Section, number, place, code_place, IsUnread, IsWithSection}
use Rattle.wasm_module_validator_rules_in_order.specs.Adding.{IsValidSection}
use Rattle.wasm_module_validator_rules_in_order.specs.Texts.{SpelledSection}

-- a module as far as its frames were judged: the place of the last section, what was read but for code, and the bytes of the bodies
pub record SoFar : Type 0 where
  pub last : ℕ
  pub tree : ModuleTree
  pub bodies : List (List ℕ)

-- no frame was judged
abbrev pub nothing : SoFar
nothing = record { last = 0; tree = no_items; bodies = [] }

-- A section with these contents comes behind p: none of its place or a later one was read; q has what its contents spell, and that is
-- valid and within the limits.
pub record JudgesSection (z : Settings) (p : SoFar) (s : Section) (contents : List ℕ) (q : SoFar) : Type 0 where
  pub ordered : p.last < place s
  pub added : IsWithSection s p.tree q.tree
  pub spelled : SpelledSection z s q.tree (Some contents)
  pub valid : IsValidSection z s q.tree
  pub within : IsWithinLimits z (module_of q.tree) q.tree
  pub last : q.last ≡ place s
  pub bodies : q.bodies ≡ p.bodies

-- The bytes of a body come behind p: the code section has begun, they are no more than the limit, and there is a function that they are the
-- body of.
pub record JudgesBody (z : Settings) (p : SoFar) (text : List ℕ) (q : SoFar) : Type 0 where
  pub begun : p.last ≡ code_place
  pub within : length text ≤ z.limits.body_bytes
  pub type : ℕ
  pub function : slice_get p.tree.functions (length p.bodies) ≡ Some type
  pub added : q ≡ record p { bodies = p.bodies ++ text ∷ [] }

-- A frame comes behind p, and q is what was read then. The header is of version 1 and of no other layer; a custom section and the end
-- change nothing; a section is one of those that there are; the code section comes in its place.
abbrev pub JudgesShape : Settings → SoFar → Shape → SoFar → Type 0
JudgesShape z p (version h) q = (h.version ≡ 1) × (h.layer ≡ 0) × (q ≡ p)
JudgesShape z p (custom name content) q = q ≡ p
JudgesShape z p (frame.section id contents) q = (s : Section) × (id ≡ number s) × JudgesSection z p s contents q
JudgesShape z p (code count size) q = (p.last < code_place) × (q ≡ record p { last = code_place })
JudgesShape z p (entry text) q = JudgesBody z p text q
JudgesShape z p the_end q = q ≡ p

-- the same of frames, one after the other
abbrev pub JudgesShapes : Settings → SoFar → List Shape → SoFar → Type 0
JudgesShapes z p [] q = p ≡ q
JudgesShapes z p (x ∷ xs) q = (r : SoFar) × JudgesShape z p x r × JudgesShapes z r xs q

-- What is known of frames that were judged: each section is valid, and the limits hold; nothing stands behind the last section; there are
-- no more bodies than functions, each within its limit, and none before the code section.
pub record IsJudged (z : Settings) (q : SoFar) : Type 0 where
  pub valid : (s : Section) → IsValidSection z s q.tree
  pub within : IsWithinLimits z (module_of q.tree) q.tree
  pub unread : (s : Section) → q.last < place s → IsUnread s q.tree
  pub no_code : q.tree.code ≡ []
  pub no_more : length q.bodies ≤ length q.tree.functions
  pub bodies : Each (λ (text : List ℕ). length text ≤ z.limits.body_bytes) q.bodies
  pub none : q.last < code_place → q.bodies ≡ []
