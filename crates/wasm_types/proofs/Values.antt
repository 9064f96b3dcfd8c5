-- What the values that are read declare.
use Rattle.std.proofs.Common.{◌≡◌, List, [], ◌∷◌, refl, map}
use Rattle.wasm_types.specs.declared.composite.CompositeInnerType.{CompositeInnerType}
use Rattle.wasm_types.specs.declared.composite.CompositeInnerType.TheVariants.{Func, Array, Struct, Cont}
use Rattle.wasm_types.specs.declared.sub_type.SubType.{SubType}
use Rattle.wasm_types.specs.declared.rec_group.RecGroup.{RecGroup}
use Rattle.wasm_types.specs.Entries.{inner_of, first_of, declared_of, declared_types}
use Rattle.wasm_types.specs.SpellsTypes.{inner_value, inner_tree, sub_value, declared_by, group_value}

same_inner : (x : CompositeInnerType) → inner_tree (inner_value x) ≡ inner_of x
same_inner (Func f) = refl
same_inner (Array a) = refl
same_inner (Struct s) = refl
same_inner (Cont c) = refl

pub same_declared : (x : SubType) → declared_by (sub_value x) ≡ declared_of x
same_declared x = λ i. record {
  supertypes = x.supertype_idxs.items;
  entry = record {
    is_final = x.is_final;
    supertype = first_of x.supertype_idxs.items;
    shared = x.composite_type.shared;
    descriptor = x.composite_type.descriptor_idx;
    describes = x.composite_type.describes_idx;
    inner = same_inner x.composite_type.inner i;
  };
}

all_declared : (xs : List SubType) → map declared_by (map sub_value xs) ≡ map declared_of xs
all_declared [] = refl
all_declared (x ∷ xs) = let a = same_declared x in let b = all_declared xs in cc

pub group_declared : (g : RecGroup) → map declared_by (group_value g).types ≡ declared_types g
group_declared g = all_declared g.types.items
