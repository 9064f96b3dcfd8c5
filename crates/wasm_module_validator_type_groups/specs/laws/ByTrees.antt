-- The type of an id is valid where the type that the id stands for is, and only there.
use Rattle.std.proofs.Common.{◌≡◌, ◌∙◌, ◌↔◌, ◌⊎◌, ℕ, zero, suc, ◌<◌, List, refl, ap, sym, subst, inl, inr, ⊎_elim, Option, Some, None, arith}
use Rattle.std.specs.Option.{option_map}
use Rattle.wasm_types.specs.settings.Settings.{Settings}
use Rattle.wasm_types.specs.settings.Features.{Gc, CustomDescriptors}
use Rattle.wasm_types.specs.trees.declared.index.CoreTypeId.{CoreTypeId}
use Rattle.wasm_types.specs.trees.declared.index.UnpackedIndex.{UnpackedIndex}
use Rattle.wasm_types.specs.trees.declared.index.UnpackedIndex.TheVariants.{Module, RecGroup, Id}
use Rattle.wasm_types.specs.trees.Types.{InnerOf, function, array_of, struct_of, continuation, EntryOf, inner_map, entry_map}
use Rattle.wasm_types.specs.trees.Each.{EachOption}
use Rattle.wasm_types.specs.trees.Trees.{TypeTree, opened}
use Rattle.wasm_types.specs.trees.Below.{supertype}
use Rattle.wasm_types.specs.trees.Gates.{Has}
use Rattle.wasm_types.specs.trees.ValidGroup as trees
use Rattle.wasm_types.specs.trees.ValidGroup.{IsValidType}
use Rattle.wasm_module_validator_type_storage.specs.trees.Groups.{Group, count, tree_of}
use Rattle.wasm_module_validator_type_storage.specs.trees.Formed.{IsFormed, AreCanonical}
use Rattle.wasm_module_validator_type_storage.specs.trees.ByIds.{supertype_of, tree_named}
use Rattle.wasm_module_validator_type_storage.specs.trees.BelowIds.{IsIdBelow, undeclared, entry_by_id}
use Rattle.wasm_module_validator_type_storage.specs.trees.laws.Apart.{apart}
use Rattle.wasm_module_validator_type_storage.specs.trees.laws.Ids.{opens, supertype_tree, supertype_below}
use Rattle.wasm_module_validator_canonical_types.specs.matches.laws.Known.{entry_known}
use Rattle.wasm_module_validator_canonical_types.specs.matches.laws.Matching.{ids_match}
use Rattle.wasm_module_validator_type_groups.specs.composites.Composites.{IsCompositeValid}
use Rattle.wasm_module_validator_type_groups.specs.composites.laws.Validity.{composite_valid}
use Rattle.wasm_module_validator_type_groups.specs.ValidTypes.{IsSubtypingAllowed, IsPresent, IsStruct, AreDescriptorsAllowed, IsAboveValid, IsDepthWithin, IsTypeValid}
use Rattle.wasm_module_validator_type_groups.specs.ValidTypes.{GoAlong, DescriptorsGoAlong, IsDescribedBy, Describes}

same : {A : Type 0} → A ↔ A
same = (λ a. a, λ a. a)

present_mapped : {R : Type 0} (f : R → TypeTree) (o : Option R) → IsPresent o ↔ trees.IsSome (option_map f o)
present_mapped f None = same
present_mapped f (Some r) = same

struct_mapped : {R : Type 0} (f : R → TypeTree) (x : InnerOf R) → IsStruct x ↔ trees.IsStruct (inner_map f x)
struct_mapped f (function ps rs) = same
struct_mapped f (array_of x) = same
struct_mapped f (struct_of xs) = same
struct_mapped f (continuation r) = same

absent_mapped : {R S : Type 0} (f : R → S) (o : Option R) → (o ≡ None) ↔ (option_map f o ≡ None)
absent_mapped f None = (λ e. refl, λ e. refl)
absent_mapped f (Some r) = (λ e. absurd cc, λ e. absurd cc)

-- an id of a list, if there is one
abbrev pub IsKnownOption : ℕ → Option CoreTypeId → Type 0
IsKnownOption n None = Unit {0}
IsKnownOption n (Some u) = u.0 < n

module _ (groups : List Group) (formed : IsFormed groups) (c : AreCanonical groups) where
  abbrev tree : CoreTypeId → TypeTree
  tree i = tree_of groups i.0

  same_id : (a b : CoreTypeId) → a.0 < count groups → b.0 < count groups → tree a ≡ tree b → a ≡ b
  same_id a b la lb e = ap (λ (n : ℕ). record { 0 = n }) (apart groups formed c a.0 b.0 la lb e)

  -- an id that is named by its type
  id_same : (o : Option CoreTypeId) (b : CoreTypeId) → IsKnownOption (count groups) o → b.0 < count groups → (o ≡ Some b) ↔ (option_map tree o ≡ Some (tree b))
  id_same None b w lb = (λ e. absurd cc, λ e. absurd cc)
  id_same (Some a) b w lb = (λ e. let f : a ≡ b = cc in ap (λ x. Some (tree x)) f, λ e. let f : tree a ≡ tree b = cc in ap Some (same_id a b w lb f))

  index_same : (o : Option UnpackedIndex) (b : CoreTypeId) → EachOption (IsIdBelow (count groups)) o → b.0 < count groups
      → (o ≡ Some (Id b)) ↔ (option_map (tree_named groups) o ≡ Some (tree b))
  index_same None b w lb = (λ e. absurd cc, λ e. absurd cc)
  index_same (Some (Module n)) b w lb = absurd w
  index_same (Some (RecGroup p)) b w lb = absurd w
  index_same (Some (Id a)) b w lb =
      (λ e. let f : a ≡ b = cc in ap (λ x. Some (tree x)) f, λ e. let f : tree a ≡ tree b = cc in ap (λ x. Some (Id x)) (same_id a b w lb f))

  known_by : (a : CoreTypeId) → a.0 < count groups → (o : Option CoreTypeId) → supertype_of groups a ≡ o → IsKnownOption (count groups) o
  known_by a la None e = tt
  known_by a la (Some u) e = let lower = supertype_below groups formed a u la e in omega arith

  above_known : (a : CoreTypeId) → a.0 < count groups → IsKnownOption (count groups) (supertype_of groups a)
  above_known a la = known_by a la (supertype_of groups a) refl

  depth_within : (n : ℕ) (o : Option CoreTypeId) → IsKnownOption (count groups) o → IsDepthWithin groups n o ↔ trees.IsWithinDepth n (option_map tree o)
  depth_within zero None w = same
  depth_within (suc n) None w = same
  depth_within zero (Some u) w = same
  depth_within (suc n) (Some u) w =
      subst (λ (o : Option TypeTree). IsDepthWithin groups n (supertype_of groups u) ↔ trees.IsWithinDepth n o) (sym (supertype_tree groups formed c u w))
      (depth_within n (supertype_of groups u) (above_known u w))

  along : (d e : Option UnpackedIndex) → EachOption (IsIdBelow (count groups)) d → EachOption (IsIdBelow (count groups)) e
      → GoAlong groups d e ↔ trees.GoAlong (option_map (tree_named groups) d) (option_map (tree_named groups) e)
  along None None v w = same
  along None (Some e) v w = same
  along (Some d) None v w = same
  along (Some (Module n)) (Some e) v w = absurd v
  along (Some (RecGroup p)) (Some e) v w = absurd v
  along (Some (Id d)) (Some (Module n)) v w = absurd w
  along (Some (Id d)) (Some (RecGroup p)) v w = absurd w
  along (Some (Id d)) (Some (Id e)) v w =
      subst (λ (o : Option TypeTree). (supertype_of groups d ≡ Some e) ↔ (o ≡ Some (tree e))) (sym (supertype_tree groups formed c d v))
      (id_same (supertype_of groups d) e (above_known d v) w)

  module _ (id : CoreTypeId) (lt : id.0 < count groups) where
    abbrev x : EntryOf UnpackedIndex
    x = entry_by_id groups id

    open_is : opened (tree id) ≡ entry_map (tree_named groups) x
    open_is = opens groups formed c id.0 undeclared lt

    subtyping_valid : (bits : ℕ) → IsSubtypingAllowed bits x ↔ (trees.NeedsNoSubtyping (opened (tree id)) ⊎ Has bits Gc)
    subtyping_valid bits =
        let absent = absent_mapped (tree_named groups) x.supertype in
        subst (λ (y : EntryOf TypeTree). IsSubtypingAllowed bits x ↔ (trees.NeedsNoSubtyping y ⊎ Has bits Gc)) (sym open_is) (
          λ h. ⊎_elim (λ n. inl (n.0, absent.0 n.1)) (λ g. inr g) h,
          λ h. ⊎_elim (λ n. inl (n.0, absent.1 n.1)) (λ g. inr g) h,
        )

    above_valid : (o : Option CoreTypeId) → IsKnownOption (count groups) o → IsAboveValid groups x o ↔ trees.IsValidSupertype (opened (tree id)) (option_map tree o)
    above_valid None w = same
    above_valid (Some u) w =
        let final : (opened (tree u)).is_final ≡ (entry_by_id groups u).is_final = ap (λ (y : EntryOf TypeTree). y.is_final) (opens groups formed c u.0 undeclared w) in
        let matches = ids_match groups formed c id u lt w in
        (λ h. (final ∙ h.0, matches.0 h.1), λ h. (sym final ∙ h.0, matches.1 h.1))

    descriptors_valid : (bits : ℕ) → AreDescriptorsAllowed bits x ↔ (trees.IsJoined (opened (tree id)) → Has bits CustomDescriptors × trees.IsStruct (opened (tree id)).inner)
    descriptors_valid bits =
        let descriptor = present_mapped (tree_named groups) x.descriptor in
        let describes = present_mapped (tree_named groups) x.describes in
        let made = struct_mapped (tree_named groups) x.inner in
        subst (λ (y : EntryOf TypeTree). AreDescriptorsAllowed bits x ↔ (trees.IsJoined y → Has bits CustomDescriptors × trees.IsStruct y.inner)) (sym open_is) (
          λ h j. let r = h (⊎_elim (λ p. inl (descriptor.1 p)) (λ p. inr (describes.1 p)) j) in (r.0, made.0 r.1),
          λ h j. let r = h (⊎_elim (λ p. inl (descriptor.0 p)) (λ p. inr (describes.0 p)) j) in (r.0, made.1 r.1),
        )

    along_valid : (o : Option CoreTypeId) → IsKnownOption (count groups) o → DescriptorsGoAlong groups x o ↔ trees.DescriptorsGoAlong (opened (tree id)) (option_map tree o)
    along_valid None w = same
    along_valid (Some u) w =
        let own = entry_known groups formed c id lt in
        let upper = entry_known groups formed c u w in
        let a = along x.descriptor (entry_by_id groups u).descriptor own.descriptor upper.descriptor in
        let b = along x.describes (entry_by_id groups u).describes own.describes upper.describes in
        subst (λ (y : EntryOf TypeTree). DescriptorsGoAlong groups x (Some u) ↔ trees.DescriptorsGoAlong y (Some (tree u))) (sym open_is)
        (subst (λ (y : EntryOf TypeTree). DescriptorsGoAlong groups x (Some u) ↔
        (trees.GoAlong (option_map (tree_named groups) x.descriptor) y.descriptor × trees.GoAlong (option_map (tree_named groups) x.describes) y.describes))
        (sym (opens groups formed c u.0 undeclared w))
        (λ h. (a.0 h.0, b.0 h.1), λ h. (a.1 h.0, b.1 h.1)))

    described_valid : (o : Option UnpackedIndex) → EachOption (IsIdBelow (count groups)) o → IsDescribedBy groups id o ↔ trees.IsDescribedBy (tree id) (option_map (tree_named groups) o)
    described_valid None w = same
    described_valid (Some (Module n)) w = absurd w
    described_valid (Some (RecGroup p)) w = absurd w
    described_valid (Some (Id d)) w =
        let upper = opens groups formed c d.0 undeclared w in
        let named = index_same (entry_by_id groups d).describes id (entry_known groups formed c d w).describes lt in
        let joined = ap (λ (y : EntryOf TypeTree). y.describes) upper in
        let own_final = ap (λ (y : EntryOf TypeTree). y.is_final) open_is in
        let final = ap (λ (y : EntryOf TypeTree). y.is_final) upper in
        (λ h. (joined ∙ named.0 h.0, own_final ∙ h.1 ∙ sym final), λ h. (named.1 (sym joined ∙ h.0), sym own_final ∙ h.1 ∙ final))

    describes_valid : (o : Option UnpackedIndex) → EachOption (IsIdBelow (count groups)) o → Describes groups id o ↔ trees.Describes (tree id) (option_map (tree_named groups) o)
    describes_valid None w = same
    describes_valid (Some (Module n)) w = absurd w
    describes_valid (Some (RecGroup p)) w = absurd w
    describes_valid (Some (Id e)) w =
        let named = index_same (entry_by_id groups e).descriptor id (entry_known groups formed c e w).descriptor lt in
        let joined = ap (λ (y : EntryOf TypeTree). y.descriptor) (opens groups formed c e.0 undeclared w) in
        (λ h. joined ∙ named.0 h, λ h. named.1 (sym joined ∙ h))

    pub type_valid : (z : Settings) → IsTypeValid groups z.features z.limits.subtyping_depth id ↔ IsValidType z (tree id)
    type_valid z =
        let known = entry_known groups formed c id lt in
        let up = above_known id lt in
        let upper : supertype (tree id) ≡ option_map tree (supertype_of groups id) = supertype_tree groups formed c id lt in
        let subtyping = subtyping_valid z.features in
        let composite = subst (λ (y : EntryOf TypeTree). IsCompositeValid groups z.features x ↔ trees.IsValidComposite z.features y)
        (sym open_is) (composite_valid groups formed c z.features x known.inner) in
        let above = subst (λ (o : Option TypeTree). IsAboveValid groups x (supertype_of groups id) ↔ trees.IsValidSupertype (opened (tree id)) o)
        (sym upper) (above_valid (supertype_of groups id) up) in
        let depth = subst (λ (o : Option TypeTree). IsDepthWithin groups z.limits.subtyping_depth (supertype_of groups id) ↔ trees.IsWithinDepth z.limits.subtyping_depth o)
        (sym upper) (depth_within z.limits.subtyping_depth (supertype_of groups id) up) in
        let descriptors = descriptors_valid z.features in
        let along = subst (λ (o : Option TypeTree). DescriptorsGoAlong groups x (supertype_of groups id) ↔ trees.DescriptorsGoAlong (opened (tree id)) o)
        (sym upper) (along_valid (supertype_of groups id) up) in
        let described = subst (λ (y : EntryOf TypeTree). IsDescribedBy groups id x.descriptor ↔ trees.IsDescribedBy (tree id) y.descriptor)
        (sym open_is) (described_valid x.descriptor known.descriptor) in
        let describes = subst (λ (y : EntryOf TypeTree). Describes groups id x.describes ↔ trees.Describes (tree id) y.describes) (sym open_is) (describes_valid x.describes known.describes) in (
          λ h. record {
            subtyping = subtyping.0 h.subtyping;
            composite = composite.0 h.composite;
            above = above.0 h.above;
            depth = depth.0 h.depth;
            descriptors = descriptors.0 h.descriptors;
            along = along.0 h.along;
            described = described.0 h.described;
            describes = describes.0 h.describes;
          },
          λ h. record {
            subtyping = subtyping.1 h.subtyping;
            composite = composite.1 h.composite;
            above = above.1 h.above;
            depth = depth.1 h.depth;
            descriptors = descriptors.1 h.descriptors;
            along = along.1 h.along;
            described = described.1 h.described;
            describes = describes.1 h.describes;
          },
        )
