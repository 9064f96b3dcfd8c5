-- Sections as they are read item by item (WebAssembly 3.0, binary format and validation, modules).
use Rattle.std.specs.Prelude.{◌≡◌, ◌<◌, ℕ, List}
use Rattle.wasm_types.specs.decoding.Denials.{Denies}
use Rattle.wasm_types.specs.decoding.ErrorValue.{ErrorValue}
use Rattle.wasm_types.specs.settings.Features.{Exceptions}
use Rattle.wasm_types.specs.settings.Settings.{Settings}
use Rattle.wasm_types.specs.trees.Gates.{Has}
use Rattle.wasm_module_validator_section_order.specs.items.Adding.{AreAdded}
use Rattle.wasm_module_validator_rules_in_order.specs.rules.Syntax.{ModuleTree}
use Rattle.wasm_module_validator_rules_in_order.specs.Sections.{Section, Item, place}
use Rattle.wasm_module_validator_rules_in_order.specs.Sections as section
use Rattle.wasm_module_validator_rules_in_order.specs.Adding.{Fits, Adds}
use Rattle.wasm_module_validator_rules_in_order.specs.Texts.{ItemRead, AddsRead}
use Rattle.wasm_module_validator_rules_in_order.specs.Steps.{SoFar}
use Rattle.wasm_module_validator_section_order.specs.sections.Grammars.{SpelledRead}

-- what was read of a module, and the settings that it is judged by
pub record Reading : Type 0 where
  pub settings : Settings
  pub tree : ModuleTree

abbrev pub reading : Settings → ModuleTree → Reading
reading z m = record { settings = z; tree = m }

-- v is u with an item more that stands for what was read, under the same settings
abbrev pub AddsIn : (s : Section) → Reading → ItemRead s → Reading → Type 0
AddsIn s u t v = AddsRead u.settings s u.tree t v.tree × (v.settings ≡ u.settings)

-- an error denies that what was read may be added
abbrev pub RefusesIn : (s : Section) → Reading → ItemRead s → ℕ → ErrorValue → Type 0
RefusesIn s u t place e = Denies e.kind ((v : Reading) × AddsIn s u t v)

-- a section that is a list of items, and no number
abbrev pub IsOfItems : Section → Type 0
IsOfItems section.start = ⊥
IsOfItems section.data_count = ⊥
IsOfItems section.types = Unit {0}
IsOfItems section.imports = Unit {0}
IsOfItems section.functions = Unit {0}
IsOfItems section.tables = Unit {0}
IsOfItems section.memories = Unit {0}
IsOfItems section.tags = Unit {0}
IsOfItems section.globals = Unit {0}
IsOfItems section.exports = Unit {0}
IsOfItems section.element_segments = Unit {0}
IsOfItems section.data_segments = Unit {0}

-- the features that a section needs by itself: a tag section, even one without tags, that of exceptions
abbrev pub MayBegin : Settings → Section → Type 0
MayBegin z section.tags = Has z.features Exceptions
MayBegin z section.types = Unit {0}
MayBegin z section.imports = Unit {0}
MayBegin z section.functions = Unit {0}
MayBegin z section.tables = Unit {0}
MayBegin z section.memories = Unit {0}
MayBegin z section.globals = Unit {0}
MayBegin z section.exports = Unit {0}
MayBegin z section.start = Unit {0}
MayBegin z section.element_segments = Unit {0}
MayBegin z section.data_count = Unit {0}
MayBegin z section.data_segments = Unit {0}

-- what was judged with a section more, of which the module is this tree
abbrev pub behind : Section → SoFar → ModuleTree → SoFar
behind s p m = record { last = place s; tree = m; bodies = p.bodies }

-- A section of n items, behind the count of which these bytes stand, comes behind p: in its place, where it may begin and has no more
-- items than fit; and the bytes give items that lead from what p has to what q has, one after the other, to the last byte.
pub record AddsSection (z : Settings) (s : Section) (p : SoFar) (n : ℕ) (text : List ℕ) (q : SoFar) : Type 0 where
  pub ordered : p.last < place s
  pub allowed : MayBegin z s
  pub fits : Fits z s p.tree n
  pub items : AreAdded (SpelledRead z s) (AddsIn s) n text (reading z p.tree) (reading z q.tree)
  pub last : q.last ≡ place s
  pub bodies : q.bodies ≡ p.bodies

-- the same of a section that is one number: the index of the start function, or how many data segments there are to be
pub record AddsNumber (z : Settings) (s : Section) (p : SoFar) (n : Item s) (q : SoFar) : Type 0 where
  pub ordered : p.last < place s
  pub added : Adds z s p.tree n q.tree
  pub last : q.last ≡ place s
  pub bodies : q.bodies ≡ p.bodies
