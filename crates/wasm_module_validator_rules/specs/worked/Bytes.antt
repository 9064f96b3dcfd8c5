-- Bytes that are accepted and bytes that are not, by their sections.
use Rattle.std.specs.Prelude.{ℕ, List, [], ◌∷◌, ◌++◌}
use Rattle.wasm_types.specs.settings.Features.{Exceptions}
use Rattle.wasm_module_validator_rules.specs.Accepts.{AcceptsUnder, IsValidOutsideBodies}
use Rattle.wasm_module_validator_rules.specs.worked.Trees.{everything, without}

-- the magic number, and version 1
abbrev pub header : List ℕ
header = 0x00 ∷ 0x61 ∷ 0x73 ∷ 0x6d ∷ 0x01 ∷ 0x00 ∷ 0x00 ∷ 0x00 ∷ []

-- types: [] -> [] and [i32] -> []; a function of type 0; its body, which does nothing; that it is the start function
abbrev pub procedure_section : List ℕ
procedure_section = 0x01 ∷ 0x04 ∷ 0x01 ∷ 0x60 ∷ 0x00 ∷ 0x00 ∷ []

abbrev pub takes_i32_section : List ℕ
takes_i32_section = 0x01 ∷ 0x05 ∷ 0x01 ∷ 0x60 ∷ 0x01 ∷ 0x7f ∷ 0x00 ∷ []

abbrev pub function_section : List ℕ
function_section = 0x03 ∷ 0x02 ∷ 0x01 ∷ 0x00 ∷ []

abbrev pub start_section : List ℕ
start_section = 0x08 ∷ 0x01 ∷ 0x00 ∷ []

abbrev pub code_section : List ℕ
code_section = 0x0a ∷ 0x04 ∷ 0x01 ∷ 0x02 ∷ 0x00 ∷ 0x0b ∷ []

-- two such bodies
abbrev pub two_bodies_section : List ℕ
two_bodies_section = 0x0a ∷ 0x07 ∷ 0x02 ∷ 0x02 ∷ 0x00 ∷ 0x0b ∷ 0x02 ∷ 0x00 ∷ 0x0b ∷ []

-- one body of no bytes, which is none
abbrev pub empty_body_section : List ℕ
empty_body_section = 0x0a ∷ 0x02 ∷ 0x01 ∷ 0x00 ∷ []

-- one data segment is counted, or two are; there is one, which is passive and without bytes
abbrev pub count_section : List ℕ
count_section = 0x0c ∷ 0x01 ∷ 0x01 ∷ []

abbrev pub count_two_section : List ℕ
count_two_section = 0x0c ∷ 0x01 ∷ 0x02 ∷ []

abbrev pub data_section : List ℕ
data_section = 0x0b ∷ 0x03 ∷ 0x01 ∷ 0x01 ∷ 0x00 ∷ []

-- no tag
abbrev pub tag_section : List ℕ
tag_section = 0x0d ∷ 0x01 ∷ 0x00 ∷ []

abbrev pub Accepted : List ℕ → Type 0
Accepted bytes = AcceptsUnder everything bytes

abbrev pub Refused : List ℕ → Type 0
Refused bytes = AcceptsUnder everything bytes → ⊥

pub record BytesWorked : Type 0 where
  pub header_alone : Accepted header
  pub start : Accepted (header ++ procedure_section ++ function_section ++ start_section ++ code_section)
  pub start_takes : Refused (header ++ takes_i32_section ++ function_section ++ start_section ++ code_section)
  pub function : Accepted (header ++ procedure_section ++ function_section ++ code_section)
  pub code_missing : Refused (header ++ procedure_section ++ function_section)
  pub body_too_many : Refused (header ++ procedure_section ++ function_section ++ two_bodies_section)
  pub body_empty : Refused (header ++ procedure_section ++ function_section ++ empty_body_section)
  pub body_aside : IsValidOutsideBodies everything (header ++ procedure_section ++ function_section ++ empty_body_section)
  pub no_body_aside : IsValidOutsideBodies everything (header ++ procedure_section ++ function_section) → ⊥
  pub uncounted : Accepted (header ++ data_section)
  pub counted : Accepted (header ++ count_section ++ data_section)
  pub segments_missing : Refused (header ++ count_section)
  pub count_too_large : Refused (header ++ count_two_section ++ data_section)
  pub tags : Accepted (header ++ tag_section)
  pub tags_need : AcceptsUnder (without Exceptions) (header ++ tag_section) → ⊥
