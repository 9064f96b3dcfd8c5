-- What a clone of a group keeps.
use Rattle.std.specs.Prelude.{◌≡◌}
use Rattle.std.specs.List.{AllZip}
use Rattle.wasm_types.specs.declared.rec_group.RecGroup.{RecGroup}
use Rattle.wasm_types.specs.contracts.sub_type.SubTypeClone.TheImpl as subtype

-- clones of its types, in order, their offsets, and its form
pub record IsCopy (g h : RecGroup) : Type 0 where
  pub types : AllZip subtype.ghosts.is_clone g.types.items h.types.items
  pub offsets : h.offsets.items ≡ g.offsets.items
  pub explicit : h.is_explicit ≡ g.is_explicit
