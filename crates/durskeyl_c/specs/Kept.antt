-- What C is told of the types of a module that was accepted.
use Rattle.std.specs.Prelude.{◌≡◌, ℕ, List, length, drop, Option, Some, None, option_map}
use Rattle.wasm_module_validator.specs.Accepts.{IsShown}
use Rattle.wasm_module_validator.specs.Lists.{AreToldUnder}
use Rattle.wasm_module_validator.specs.Shown.{Learned}
use Rattle.wasm_module_validator_rows.specs.declared.entities.EntityRow.{EntityRow}
use Rattle.wasm_module_validator_rows.specs.declared.types.TypeRow.{TypeRow}
use Rattle.wasm_module_validator_rows.specs.declared.values.ValueRow.{ValueRow}
use Rattle.wasm_module_validator_rows.specs.Entities.{entity_rows, id_rows, kind_numbered}
use Rattle.wasm_module_validator_rows.specs.Types.{type_rows, value_rows}
use Rattle.wasm_module_validator_rows.specs.Written.{written}
use Rattle.durskeyl_c.specs.declared.settings.DurskeylSettings.{DurskeylSettings}
use Rattle.durskeyl_c.specs.Settings.{settings_in, AreSettings}
use Rattle.durskeyl_c.specs.Listed.{no_module}

-- The bytes were accepted by these settings, and this stands for the module that they spell, for all of it but its code; two ids are the same
-- exactly where their types are, if types are kept in canonical form.
pub record HasTypes (s : DurskeylSettings) (bytes : List ℕ) (l : Learned) : Type 0 where
  pub settings : AreSettings s
  pub shown : IsShown (settings_in s) bytes l
  pub told : AreToldUnder (settings_in s) l.kept.groups l.kept.groups

-- the handle has the types of these bytes, which were accepted by these settings
abbrev pub Keeps : Option Learned → DurskeylSettings → List ℕ → Type 0
Keeps None s bytes = ⊥
Keeps (Some l) s bytes = HasTypes s bytes l

-- ---- the rows that there are

-- of all functions, tables, memories, globals or tags; none where the handle has no types, or there is no such kind
abbrev pub entities_in : Option Learned → ℕ → Option (List EntityRow)
entities_in None kind = None
entities_in (Some l) kind = option_map (entity_rows l.kept.items.spaces) (kind_numbered kind)

-- of the module's types, by their indices
abbrev pub ids_in : Option Learned → Option (List ℕ)
ids_in None = None
ids_in (Some l) = Some (id_rows l.kept.items.spaces)

-- of the types that differ, by their ids
abbrev pub types_in : Option Learned → Option (List TypeRow)
types_in None = None
types_in (Some l) = Some (type_rows l.kept.groups)

-- of what the type of an id is made of; none where there is no such type either
abbrev pub values_in : Option Learned → ℕ → Option (List ValueRow)
values_in None id = None
values_in (Some l) id = value_rows l.kept.groups id

-- ---- what a call tells

-- Where there are rows, how many there are in all, and those from `first` on were written, as many as there is room for. Where there are none
-- the answer is that of no module, and nothing was written.
abbrev pub TellsRows : {A : Type 0} → ℕ → ℕ → Option (List A) → List A → List A → Type 0
TellsRows answer first None old new = (answer ≡ no_module) × (new ≡ old)
TellsRows answer first (Some xs) old new = (answer ≡ length xs) × (new ≡ written (drop first xs) old)
