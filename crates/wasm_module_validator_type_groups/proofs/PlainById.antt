-- Types without references over ids: where no feature asks for canonical forms, they are the valid ones.
use Rattle.std.proofs.Common.{◌≡◌, ◌∙◌, ◌↔◌, ⊎_elim, inl, inr, ℕ, ◌<◌, Bool, true, false, IsTrue, List, [], ◌∷◌, Option, Some, None, refl, ap, sym, subst}
use Rattle.wasm_types.specs.settings.Features.{needs_canonical_types}
use Rattle.wasm_types.specs.trees.declared.index.CoreTypeId.{CoreTypeId}
use Rattle.wasm_types.specs.trees.declared.index.UnpackedIndex.{UnpackedIndex}
use Rattle.wasm_types.specs.trees.Types.{abstract, concrete, exact, ValueOf, number, ref, InnerOf, function, array_of, struct_of, continuation}
use Rattle.wasm_types.specs.trees.Each.{EachValue}
use Rattle.wasm_module_validator_type_storage.specs.trees.Groups.{Group, count, id_in}
use Rattle.wasm_module_validator_type_storage.specs.trees.ByIds.{supertype_of}
use Rattle.wasm_module_validator_type_storage.specs.trees.BelowIds.{undeclared, entry_by_id, value_is_shared_by_id}
use Rattle.wasm_module_validator_type_storage.specs.trees.laws.Ids.{supertype_stored}
use Rattle.wasm_module_validator_type_groups.specs.composites.Composites.{IsPartValid, ArePartsValid, IsInnerValid}
use Rattle.wasm_module_validator_type_groups.specs.ValidTypes.{IsPresent, IsJoined, IsAboveValid, IsDepthWithin, DescriptorsGoAlong, IsDescribedBy, Describes, IsTypeValid}
use Rattle.wasm_module_validator_type_groups.proofs.Plain.{plain_shared, IsNowhere, IsPlainPart, ArePlainParts, IsPlainInner, IsPlain, no_collection, no_descriptors, no_continuations, value_nowhere}

module _ (groups : List Group) (bits : ℕ) (off : needs_canonical_types bits ≡ false) where
  id_shared : (v : ValueOf UnpackedIndex) → EachValue IsNowhere v → value_is_shared_by_id groups v ≡ plain_shared v
  id_shared (number n) h = refl
  id_shared (ref n (abstract s a)) h = refl
  id_shared (ref n (concrete r)) h = absurd h
  id_shared (ref n (exact r)) h = absurd h

  id_part : (s : Bool) (v : ValueOf UnpackedIndex) → IsPartValid groups bits s v ↔ IsPlainPart bits s v
  id_part s v = (
    λ h. let free = value_nowhere bits off v h.0 in (h.0, λ t. subst IsTrue (id_shared v free) (h.1 t), free),
    λ h. (h.0, λ t. subst IsTrue (sym (id_shared v h.2)) (h.1 t)),
  )

  id_parts : (s : Bool) (vs : List (ValueOf UnpackedIndex)) → ArePartsValid groups bits s vs ↔ ArePlainParts bits s vs
  id_parts s [] = (λ h. h, λ h. h)
  id_parts s (v ∷ vs) =
      let a = id_part s v in
      let b = id_parts s vs in
      (λ h. (a.0 h.0, b.0 h.1), λ h. (a.1 h.0, b.1 h.1))

  id_inner : (s : Bool) (x : InnerOf UnpackedIndex) → IsInnerValid groups bits s x ↔ IsPlainInner bits s x
  id_inner s (function ps rs) =
      let a = id_parts s ps in
      let b = id_parts s rs in
      (λ h. (a.0 h.0, b.0 h.1, h.2), λ h. (a.1 h.0, b.1 h.1, h.2))
  id_inner s (array_of x) = (λ h. no_collection bits off h.0, λ h. absurd h)
  id_inner s (struct_of xs) = (λ h. no_collection bits off h.0, λ h. absurd h)
  id_inner s (continuation r) = (λ h. no_continuations bits off h.0, λ h. absurd h)

  id_absent : (o : Option UnpackedIndex) → (IsPresent o → ⊥) → o ≡ None
  id_absent None h = refl
  id_absent (Some t) h = absurd (h tt)

  -- the type of an id is valid exactly where it is plain
  pub id_plain : (most : ℕ) (id : CoreTypeId) → id.0 < count groups → IsTypeValid groups bits most id ↔ IsPlain bits (entry_by_id groups id)
  id_plain most id lt =
      let up : supertype_of groups id ≡ id_in (entry_by_id groups id).supertype = supertype_stored groups id undeclared lt in (
        λ v.
            let own : ((entry_by_id groups id).is_final ≡ true) × ((entry_by_id groups id).supertype ≡ None) =
            ⊎_elim (λ n. n) (λ g. absurd (no_collection bits off g)) v.subtyping in
            let joined : IsJoined (entry_by_id groups id) → ⊥ = λ j. no_descriptors bits off (v.descriptors j).0 in
            record {
              final = own.0;
              top = own.1;
              undescribed = id_absent (entry_by_id groups id).descriptor (λ s. joined (inl s));
              describes = id_absent (entry_by_id groups id).describes (λ s. joined (inr s));
              shared = v.composite.0;
              inner = (id_inner (entry_by_id groups id).shared (entry_by_id groups id).inner).0 v.composite.1;
            },
        λ h.
            let none : None ≡ supertype_of groups id = sym (up ∙ ap id_in h.top) in
            record {
              subtyping = inl (h.final, h.top);
              composite = (h.shared, (id_inner (entry_by_id groups id).shared (entry_by_id groups id).inner).1 h.inner);
              above = subst (IsAboveValid groups (entry_by_id groups id)) none tt;
              depth = subst (IsDepthWithin groups most) none tt;
              descriptors = λ j. absurd (⊎_elim (λ s. subst IsPresent h.undescribed s) (λ s. subst IsPresent h.describes s) j);
              along = subst (DescriptorsGoAlong groups (entry_by_id groups id)) none tt;
              described = subst (IsDescribedBy groups id) (sym h.undescribed) tt;
              describes = subst (Describes groups id) (sym h.describes) tt;
            },
      )
