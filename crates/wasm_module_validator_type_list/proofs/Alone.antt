-- A type as a group of its own.
use Rattle.std.proofs.Common.{◌≡◌, true, List, [], ◌∷◌, map, ap, sym}
use Rattle.wasm_types.specs.declared.rec_group.RecGroup.{RecGroup}
use Rattle.wasm_types.specs.declared.sub_type.SubType.{SubType}
use Rattle.wasm_types.specs.Entries.{declared_of, subtypes}
use Rattle.wasm_module_validator_type_list.specs.Known.{group_in}
use Rattle.wasm_module_validator_type_list.specs.List.{alone}

pub group_alone : (g : RecGroup) (t : SubType) → subtypes g ≡ t ∷ [] → alone (declared_of t) ≡ group_in true g
group_alone g t e = ap (λ (l : List SubType). record { is_canonical = true; types = map declared_of l }) (sym e)
