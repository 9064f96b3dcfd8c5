-- Groups of types as they are read: alike where their values are, and over indices of their module alone.
use Rattle.std.proofs.Common.{◌≡◌, ◌∙◌, map, sym, ap}
use Rattle.wasm_types.specs.decoding.Decoder.{State, Done}
use Rattle.wasm_types.specs.settings.Settings.{Settings}
use Rattle.wasm_types.specs.trees.ValidGroup.{Written}
use Rattle.wasm_types.specs.declared.rec_group.RecGroup.{RecGroup}
use Rattle.wasm_types.specs.Entries.{declared_types}
use Rattle.wasm_types.specs.SpellsTypes.{GroupValue, declared_by, group_value}
use Rattle.wasm_types.specs.DecodeTypes.{rec_group}
use Rattle.wasm_types.proofs.Values.{group_declared}
use Rattle.wasm_module_validator_canonical_types.specs.Written.{AreModuleIndices}
use Rattle.wasm_module_validator_canonical_types.specs.laws.Statements.{written}
use Rattle.wasm_module_validator_canonical_types.specs.laws.Spelled.{read_group}
use Rattle.wasm_module_validator_type_groups.specs.adding.Interned.{written_group}

-- the group that is written by what was read
abbrev written_by : GroupValue → Written
written_by v = written v.is_explicit (map declared_by v.types)

is_written_by : (g : RecGroup) → written_group g ≡ written_by (group_value g)
is_written_by g = ap (written g.is_explicit) (sym (group_declared g))

pub groups_alike : (x y : RecGroup) → group_value x ≡ group_value y → written_group x ≡ written_group y
groups_alike x y e = is_written_by x ∙ (ap written_by e ∙ sym (is_written_by y))

pub groups_over_the_module : (z : Settings) (s t : State) (g : RecGroup) → rec_group z s ≡ Done (group_value g) t → AreModuleIndices (declared_types g)
groups_over_the_module z s t g e = read_group z s t g e
