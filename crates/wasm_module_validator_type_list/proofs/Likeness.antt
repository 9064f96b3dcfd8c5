-- Types that are of one kind with all above them.
use Rattle.std.proofs.Common.{◌≡◌, ◌∙◌, ℕ, zero, suc, ◌+◌, ◌-◌, ◌<◌, ◌≤◌, Bool, true, false, cond, List, [], ◌∷◌, ◌++◌, length, map, get_or, refl, ap, sym, subst, Option, Some, None, arith, ⊎_elim, ◌↔◌}
use Rattle.std.specs.Prelude.{slice_get, IsTrue}
use Rattle.std.proofs.lemmas.Bool.{cases_lt}
use Rattle.std.proofs.lemmas.Option.{none-some, same_Some}
use Rattle.wasm_types.specs.trees.declared.index.CoreTypeId.{CoreTypeId}
use Rattle.wasm_types.specs.trees.declared.index.UnpackedIndex.{UnpackedIndex}
use Rattle.wasm_types.specs.trees.Types.{Abstract, EntryOf, InnerOf, function, array_of, struct_of, continuation}
use Rattle.wasm_types.specs.trees.AbstractOrder.{AbstractBelow}
use Rattle.wasm_types.specs.trees.Below.{abstract_above, bottom_of}
use Rattle.wasm_types.specs.declared.sub_type.SubType.{SubType}
use Rattle.wasm_types.specs.Entries.{Declared, declared_of}
use Rattle.wasm_module_validator_type_storage.specs.trees.Groups.{Group, declared_by_id, supertype_ids}
use Rattle.wasm_module_validator_type_storage.specs.trees.ByIds.{supertype_of, IdBelow, itself, declared}
use Rattle.wasm_module_validator_type_storage.specs.trees.BelowIds.{entry_by_id, undeclared, IsUnder, IsOver, IdBelowAbstract, AbstractBelowId}
use Rattle.wasm_module_validator_type_storage.proofs.Ancestors.{kept, keeps_some}
use Rattle.wasm_module_validator_type_storage.proofs.Places.{get_left, get_right}
use Rattle.wasm_module_validator_type_list.specs.Uniform.{AreAlike, IsUniform, alone, like, AreUniform}
use Rattle.wasm_module_validator_type_list.proofs.Finding.{one_viewed, get_default}
use Rattle.wasm_module_validator_type_list.proofs.Ancestry.{there}

pub none_uniform : (types : List SubType) (supers : List (Option CoreTypeId)) (flags : List Bool) → flags ≡ [] → AreUniform types supers flags
none_uniform types supers flags e n at = absurd (none-some true (sym (ap (λ (l : List Bool). slice_get l n) e) ∙ at))

-- what is there stays, and so does what was said of it
module _ (types news : List SubType) (supers above : List (Option CoreTypeId)) (flags more : List Bool)
    (types_keep : (i : ℕ) (x : SubType) → slice_get types i ≡ Some x → slice_get news i ≡ Some x)
    (supers_keep : (i : ℕ) (x : Option CoreTypeId) → slice_get supers i ≡ Some x → slice_get above i ≡ Some x)
    (flags_keep : (i : ℕ) (x : Bool) → slice_get flags i ≡ Some x → slice_get more i ≡ Some x) where
  pub one_stays : (n : ℕ) → IsUniform types supers flags n → IsUniform news above more n
  one_stays n (alone e) = alone (supers_keep n None e)
  one_stays n (like up own upper e a b f g) = like up own upper (supers_keep n (Some up) e) (types_keep n own a) (types_keep up.0 upper b) (flags_keep up.0 true f) g

pub uniform_same : (types news : List SubType) (supers above : List (Option CoreTypeId)) (flags more : List Bool) → news ≡ types → above ≡ supers → more ≡ flags
    → AreUniform types supers flags → AreUniform news above more
uniform_same types news supers above flags more e f g all n at =
    one_stays types news supers above flags more
    (λ i x h. ap (λ (l : List SubType). slice_get l i) e ∙ h) (λ i x h. ap (λ (l : List (Option CoreTypeId)). slice_get l i) f ∙ h)
    (λ i x h. ap (λ (l : List Bool). slice_get l i) g ∙ h) n
    (all n (sym (ap (λ (l : List Bool). slice_get l n) g) ∙ at))

-- types were added, of which nothing is said
pub uniform_grown : (b d : Bool) (types news further : List SubType) (supers above higher : List (Option CoreTypeId)) (flags : List Bool)
    → news ≡ cond b (types ++ further) types → above ≡ cond d (supers ++ higher) supers → AreUniform types supers flags → AreUniform news above flags
uniform_grown b d types news further supers above higher flags e f all n at =
    one_stays types news supers above flags flags (keeps_some b types news further e) (keeps_some d supers above higher f) (λ i x h. h) n (all n at)

-- and one more is said
one_at : (a b : Bool) (k : ℕ) → slice_get (a ∷ []) k ≡ Some b → (k ≡ 0) × (a ≡ b)
one_at a b zero e = (refl, same_Some a b e)
one_at a b (suc k) e = absurd (none-some b e)

pub uniform_pushed : (types : List SubType) (supers : List (Option CoreTypeId)) (flags more : List Bool) (own : ℕ) (flag b : Bool)
    → AreUniform types supers flags → own ≡ length flags → (IsTrue flag → IsUniform types supers flags own) → more ≡ cond b (flags ++ flag ∷ []) flags → AreUniform types supers more
uniform_pushed types supers flags more own flag false all e h is n at =
    uniform_same types types supers supers flags more refl refl is all n at
uniform_pushed types supers flags more own flag true all e h is n at =
    let keep : (i : ℕ) (x : Bool) → slice_get flags i ≡ Some x → slice_get more i ≡ Some x = kept flags more (flag ∷ []) is in
    let stays : (m : ℕ) → IsUniform types supers flags m → IsUniform types supers more m = one_stays types types supers supers flags more (λ i x h. h) (λ i x h. h) keep in
    let at2 : slice_get (flags ++ flag ∷ []) n ≡ Some true = sym (ap (λ (l : List Bool). slice_get l n) is) ∙ at in
    ⊎_elim
    (λ (early : n < length flags). stays n (all n (sym (get_left flags (flag ∷ []) n early) ∙ at2)))
    (λ (late : length flags ≤ n).
    let first = one_at flag true (n - length flags) (sym (get_right flags (flag ∷ []) n late) ∙ at2) in
    let same : own ≡ n = (let z = first.0 in omega (arith, e)) in
    stays n (subst (λ (m : ℕ). IsUniform types supers flags m) same (h first.1)))
    (cases_lt n (length flags))

-- ---- of all above

module _ (groups : List Group) (types : List SubType) (supers : List (Option CoreTypeId)) (flags : List Bool) (all : AreUniform types supers flags)
    (stored : map declared_of types ≡ declared_by_id groups) (ups : supers ≡ supertype_ids groups) where
  entry_is : (a : CoreTypeId) (x : SubType) → slice_get types a.0 ≡ Some x → entry_by_id groups a ≡ (declared_of x).entry
  entry_is a x at =
      ap (λ (d : Declared). d.entry) (get_default (declared_by_id groups) a.0 undeclared (declared_of x) (one_viewed declared_of types (declared_by_id groups) a.0 x stored at))

  above_is : (a p : CoreTypeId) → supertype_of groups a ≡ Some p → slice_get supers a.0 ≡ Some (Some p)
  above_is a p e = ap (λ (l : List (Option CoreTypeId)). slice_get l a.0) ups ∙ there (supertype_ids groups) a.0 p e

  one_step : (a p : CoreTypeId) → supertype_of groups a ≡ Some p → IsUniform types supers flags a.0 → (slice_get flags p.0 ≡ Some true) × AreAlike (entry_by_id groups a) (entry_by_id groups p)
  one_step a p e (alone f) = absurd (none-some p (same_Some None (Some p) (sym f ∙ above_is a p e)))
  one_step a p e (like up own upper f g h i j) =
      let same : up ≡ p = same_Some up p (same_Some (Some up) (Some p) (sym f ∙ above_is a p e)) in
      let high : entry_by_id groups p ≡ (declared_of upper).entry = subst (λ (x : CoreTypeId). entry_by_id groups x ≡ (declared_of upper).entry) same (entry_is up upper h) in
      let low : entry_by_id groups a ≡ (declared_of own).entry = entry_is a own g in
      let flag : slice_get flags p.0 ≡ Some true = subst (λ (x : CoreTypeId). slice_get flags x.0 ≡ Some true) same i in (
        flag,
        (
          ap (λ (x : EntryOf UnpackedIndex). x.shared) low ∙ j.0 ∙ sym (ap (λ (x : EntryOf UnpackedIndex). x.shared) high),
          ap (λ (x : EntryOf UnpackedIndex). abstract_above x.inner) low ∙ j.1 ∙ sym (ap (λ (x : EntryOf UnpackedIndex). abstract_above x.inner) high),
        ),
      )

  pub like_all : (a j : CoreTypeId) → slice_get flags a.0 ≡ Some true → IdBelow groups a j → AreAlike (entry_by_id groups a) (entry_by_id groups j)
  like_all a j at itself = (refl, refl)
  like_all a j at (declared {b = p} e r) =
      let step = one_step a p e (all a.0 at) in
      let rest = like_all p j step.0 r in
      (step.1.0 ∙ rest.0, step.1.1 ∙ rest.1)

-- ---- of an abstract type

-- what is below one abstract type has one bottom
one_bottom : (x y : InnerOf UnpackedIndex) → abstract_above x ≡ abstract_above y → bottom_of x ≡ bottom_of y
one_bottom (function p q) (function r s) e = refl
one_bottom (function p q) (array_of y) e = absurd cc
one_bottom (function p q) (struct_of y) e = absurd cc
one_bottom (function p q) (continuation y) e = absurd cc
one_bottom (array_of x) (function r s) e = absurd cc
one_bottom (array_of x) (array_of y) e = refl
one_bottom (array_of x) (struct_of y) e = absurd cc
one_bottom (array_of x) (continuation y) e = absurd cc
one_bottom (struct_of x) (function r s) e = absurd cc
one_bottom (struct_of x) (array_of y) e = absurd cc
one_bottom (struct_of x) (struct_of y) e = refl
one_bottom (struct_of x) (continuation y) e = absurd cc
one_bottom (continuation x) (function r s) e = absurd cc
one_bottom (continuation x) (array_of y) e = absurd cc
one_bottom (continuation x) (struct_of y) e = absurd cc
one_bottom (continuation x) (continuation y) e = refl

module _ (groups : List Group) (a : CoreTypeId) (alike : (j : CoreTypeId) → IdBelow groups a j → AreAlike (entry_by_id groups a) (entry_by_id groups j)) (s : Bool) (t : Abstract) where
  pub under_alone : IdBelowAbstract groups a s t → IsUnder groups s t a
  under_alone h =
      let l = alike h.0 h.1 in
      (l.0 ∙ h.2.0, subst (λ (x : Abstract). AbstractBelow x t) (sym l.1) h.2.1)

  pub under_all : IsUnder groups s t a → IdBelowAbstract groups a s t
  under_all h = (a, itself, h)

  pub over_alone : AbstractBelowId groups a s t → IsOver groups s t a
  over_alone h = h a itself

  pub over_all : IsOver groups s t a → AbstractBelowId groups a s t
  over_all h j below =
      let l = alike j below in
      (h.0 ∙ l.0, h.1 ∙ one_bottom (entry_by_id groups a).inner (entry_by_id groups j).inner l.1)
