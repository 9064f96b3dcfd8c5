-- Laws of groups: what the functions of src/laws.rt promise.
use Rattle.std.specs.Prelude.{◌≡◌, ◌↔◌, IsTrue, Bool, ℕ, List, map}
use Rattle.std.specs.Cmp.Lexicographic.{slice_cmp}
use Rattle.std.specs.Hash.{slice}
use Rattle.std.specs.declared.cmp.Ordering.TheVariants.{Equal}
use Rattle.wasm_types_settings.specs.Settings.{Settings}
use Rattle.wasm_types.specs.declared.sub_type.SubType.{SubType}
use Rattle.wasm_types.specs.declared.rec_group.RecGroup.{RecGroup}
use Rattle.wasm_types.specs.contracts.sub_type.SubTypePartialEq.TheImpl as subtype
use Rattle.wasm_types.specs.contracts.rec_group.RecGroupPartialEq.TheImpl as group
use Rattle.wasm_types.specs.contracts.sub_type.SubTypeClone.TheImpl as subtype_clone
use Rattle.wasm_types.specs.contracts.rec_group.RecGroupClone.TheImpl as group_clone
use Rattle.wasm_types.specs.contracts.sub_type.SubTypeOrd.TheImpl as subtype_order
use Rattle.wasm_types.specs.contracts.rec_group.RecGroupOrd.TheImpl as group_order
use Rattle.wasm_types.specs.contracts.sub_type.SubTypeHash.TheImpl as subtype_hash
use Rattle.wasm_types.specs.contracts.rec_group.RecGroupHash.TheImpl as group_hash
use Rattle.wasm_types.specs.SpellsTypes.{CompositeValue, SubValue, GroupValue, SpelledComposite, SpelledSub, SpelledGroup, inner_tree, declared_by, sub_value, group_value}
use Rattle.wasm_types.specs.Spells.{SpellsParts, SpellsSub, SpellsGroup}
use Rattle.wasm_types_trees.specs.declared.index.UnpackedIndex.{UnpackedIndex}
use Rattle.wasm_types.specs.Remap.{declared_shape, declared_indices, declared_map}
use Rattle.wasm_types.specs.Entries.{Declared, subtypes, declared_of, declared_types}

-- `==` holds of subtypes that declare the same
abbrev pub SubTypesAreToldApart : Type 0
SubTypesAreToldApart = (x y : SubType) → IsTrue (subtype.ghosts.eq x y) ↔ (declared_of x ≡ declared_of y)

-- and of groups whose types do, in order: neither offsets nor the form of writing count
abbrev pub GroupsAreToldApart : Type 0
GroupsAreToldApart = (g h : RecGroup) → IsTrue (group.ghosts.eq g h) ↔ (declared_types g ≡ declared_types h)

-- groups are ordered as the lists of their types: by the first place where these differ, and a front before the whole
abbrev pub GroupsAreOrderedByTypes : Type 0
GroupsAreOrderedByTypes = (g h : RecGroup) → group_order.ghosts.cmp g h ≡ slice_cmp subtype_order.ghosts.cmp (subtypes g) (subtypes h)

-- neither comes first where they declare the same, and only there
abbrev pub TiesDeclareTheSame : Type 0
TiesDeclareTheSame = (g h : RecGroup) → (group_order.ghosts.cmp g h ≡ Equal) ↔ (declared_types g ≡ declared_types h)

-- and they are hashed as these lists
abbrev pub GroupsAreHashedByTypes : Type 0
GroupsAreHashedByTypes = (g : RecGroup) → group_hash.ghosts.hash_input g ≡ slice subtype_hash.ghosts.hash_input (subtypes g)

-- a clone declares what its source does
abbrev pub SubTypesAreCloned : Type 0
SubTypesAreCloned = (x y : SubType) → subtype_clone.ghosts.is_clone x y → declared_of y ≡ declared_of x

abbrev pub GroupsAreCloned : Type 0
GroupsAreCloned = (g h : RecGroup) → group_clone.ghosts.is_clone g h → (declared_types h ≡ declared_types g) × (h.offsets.items ≡ g.offsets.items) × (h.is_explicit ≡ g.is_explicit)

-- the values that are read declare what the types do
abbrev pub ValuesDeclareTheSame : Type 0
ValuesDeclareTheSame = (x : SubType) → declared_by (sub_value x) ≡ declared_of x

abbrev pub GroupValuesDeclareTheSame : Type 0
GroupValuesDeclareTheSame = (g : RecGroup) → map declared_by (group_value g).types ≡ declared_types g

-- the values that bytes are read as are spelled as the trees that they declare
abbrev pub CompositeTypesAreSpelledAsTrees : Type 0
CompositeTypesAreSpelledAsTrees = (z : Settings) (c : CompositeValue) (text : List ℕ) → SpelledComposite z c text ↔ SpellsParts z c.shared c.describes
    c.descriptor (inner_tree c.inner) text

abbrev pub SubTypesAreSpelledAsTrees : Type 0
SubTypesAreSpelledAsTrees = (z : Settings) (x : SubValue) (text : List ℕ) → SpelledSub z x text ↔ SpellsSub z (declared_by x) text

abbrev pub GroupsAreSpelledAsTrees : Type 0
GroupsAreSpelledAsTrees = (z : Settings) (g : GroupValue) (text : List ℕ) → SpelledGroup z g text ↔ SpellsGroup z g.is_explicit (map declared_by g.types) text

-- and each tree that bytes spell is declared by a value
abbrev pub GroupTreesAreRead : Type 0
GroupTreesAreRead = (z : Settings) (b : Bool) (ds : List Declared) (text : List ℕ) → SpellsGroup z b ds text → (g : GroupValue) × (g.is_explicit ≡ b)
    × (map declared_by g.types ≡ ds)

-- a subtype is its shape and its indices: where those are another's, mapped by m, it declares what the other does, mapped
abbrev pub ShapesAndIndicesAreAll : Type 0
ShapesAndIndicesAreAll = (m : UnpackedIndex → UnpackedIndex) (x y : SubType) → declared_shape (declared_of y) ≡ declared_shape (declared_of x)
    → declared_indices (declared_of y) ≡ map m (declared_indices (declared_of x)) → declared_of y ≡ declared_map m (declared_of x)
