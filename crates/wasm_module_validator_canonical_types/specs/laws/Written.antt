-- Allowed indices are those of a well referenced group.
use Rattle.std.proofs.Common.{◌≡◌, ◌∙◌, ◌↔◌, ℕ, suc, ◌<◌, ◌≤◌, Bool, List, [], ◌∷◌, length, map, Option, Some, None, refl, ap, sym, subst}
use Rattle.std.specs.Option.{option_map}
use Rattle.wasm_types.specs.settings.Features.{has, Gc}
use Rattle.wasm_types.specs.trees.declared.index.UnpackedIndex.{UnpackedIndex}
use Rattle.wasm_types.specs.trees.declared.index.UnpackedIndex.TheVariants.{Module, RecGroup, Id}
use Rattle.wasm_types.specs.trees.Indices.{number_of}
use Rattle.wasm_types.specs.trees.Types as tree
use Rattle.wasm_types.specs.trees.Types.{EntryOf, entry_map, entry_of_subtype}
use Rattle.wasm_types.specs.trees.Each.{EachOption, EachEntry}
use Rattle.wasm_types.specs.trees.Gates.{Has}
use Rattle.wasm_types.specs.trees.ValidGroup.{written_entries, IsWellReferenced, AreWellReferenced}
use Rattle.wasm_types.specs.trees.laws.Types.{entry_of_each}
use Rattle.wasm_types.specs.Entries.{Declared, first_of}
use Rattle.wasm_module_validator_canonical_types.specs.Written.{IsModuleIndex, AreModuleIndices, HaveOneSupertype, written_type}
use Rattle.wasm_module_validator_canonical_types.specs.Canonical.{IsIndexAllowed, IsIndexBefore, IsTypeAllowed, AreTypesAllowed}
use Rattle.wasm_module_validator_canonical_types.specs.laws.Statements.{written}
use Rattle.wasm_module_validator_canonical_types.specs.laws.Each.{both_entry, back_entry, first_each, each_first}

-- ---- the entry of a type as it is written

first_written : {R S : Type 0} (f : R → S) (is : List R) → tree.first_of (map f is) ≡ option_map f (first_of is)
first_written f [] = refl
first_written f (i ∷ is) = refl

pub entry_written : (d : Declared) → d.entry.supertype ≡ first_of d.supertypes → entry_of_subtype (written_type d) ≡ entry_map number_of d.entry
entry_written d e =
    let first : tree.first_of (map number_of d.supertypes) ≡ option_map number_of d.entry.supertype = first_written number_of d.supertypes ∙ ap (option_map number_of) (sym e) in
    λ i. record {
      is_final = d.entry.is_final;
      supertype = first i;
      shared = d.entry.shared;
      descriptor = option_map number_of d.entry.descriptor;
      describes = option_map number_of d.entry.describes;
      inner = tree.inner_map number_of d.entry.inner;
    }

-- ---- one index

module _ (own : ℕ) where
  before_down : (i : UnpackedIndex) → IsModuleIndex i → IsIndexBefore own i → number_of i < own
  before_down (Module n) m w = w
  before_down (RecGroup p) m w = absurd m
  before_down (Id j) m w = absurd m

  before_up : (i : UnpackedIndex) → IsModuleIndex i → number_of i < own → IsIndexBefore own i
  before_up (Module n) m w = w
  before_up (RecGroup p) m w = tt
  before_up (Id j) m w = tt

  option_down : (o : Option UnpackedIndex) → EachOption IsModuleIndex o → EachOption (IsIndexBefore own) o → EachOption (λ (i : ℕ). i < own) (option_map number_of o)
  option_down None m w = tt
  option_down (Some i) m w = before_down i m w

  option_up : (o : Option UnpackedIndex) → EachOption IsModuleIndex o → EachOption (λ (i : ℕ). i < own) (option_map number_of o) → EachOption (IsIndexBefore own) o
  option_up None m w = tt
  option_up (Some i) m w = before_up i m w

module _ (bits start end : ℕ) where
  abbrev Outside : ℕ → Type 0
  Outside i = start ≤ i → Has bits Gc

  known_down : (i : UnpackedIndex) → IsModuleIndex i → IsIndexAllowed (has Gc bits) start end i → number_of i < end
  known_down (Module n) m w = w.0
  known_down (RecGroup p) m w = absurd m
  known_down (Id j) m w = absurd m

  outside_down : (i : UnpackedIndex) → IsModuleIndex i → IsIndexAllowed (has Gc bits) start end i → Outside (number_of i)
  outside_down (Module n) m w = w.1
  outside_down (RecGroup p) m w = absurd m
  outside_down (Id j) m w = absurd m

  allowed_up : (i : UnpackedIndex) → number_of i < end → Outside (number_of i) → IsIndexAllowed (has Gc bits) start end i
  allowed_up (Module n) v w = (v, w)
  allowed_up (RecGroup p) v w = tt
  allowed_up (Id j) v w = tt

  -- ---- one type

  type_down : (own : ℕ) (d : Declared) → EachEntry IsModuleIndex d.entry → d.entry.supertype ≡ first_of d.supertypes → IsTypeAllowed (has Gc bits) start end own d
      → IsWellReferenced bits start end own (entry_map number_of d.entry)
  type_down own d m e w = record {
    supertype = option_down own d.entry.supertype m.supertype (subst (EachOption (IsIndexBefore own)) (sym e) (first_each (IsIndexBefore own) d.supertypes w.supertypes));
    describes = option_down own d.entry.describes m.describes w.describes;
    known = entry_of_each number_of (λ (i : ℕ). i < end) d.entry
        (both_entry IsModuleIndex (IsIndexAllowed (has Gc bits) start end) (λ i. number_of i < end) known_down d.entry m w.parts);
    outside = entry_of_each number_of Outside d.entry
        (both_entry IsModuleIndex (IsIndexAllowed (has Gc bits) start end) (λ i. Outside (number_of i)) outside_down d.entry m w.parts);
  }

  type_up : (own : ℕ) (d : Declared) → EachEntry IsModuleIndex d.entry → length d.supertypes ≤ 1 → d.entry.supertype ≡ first_of d.supertypes
      → IsWellReferenced bits start end own (entry_map number_of d.entry) → IsTypeAllowed (has Gc bits) start end own d
  type_up own d m one e w =
      let parts = both_entry (λ i. number_of i < end) (λ i. Outside (number_of i)) (IsIndexAllowed (has Gc bits) start end) allowed_up d.entry
      (back_entry number_of (λ (i : ℕ). i < end) d.entry w.known) (back_entry number_of Outside d.entry w.outside) in
      record {
        supertypes = each_first (IsIndexBefore own) d.supertypes one (subst (EachOption (IsIndexBefore own)) e (option_up own d.entry.supertype m.supertype w.supertype));
        describes = option_up own d.entry.describes m.describes w.describes;
        listed = each_first (IsIndexAllowed (has Gc bits) start end) d.supertypes one (subst (EachOption (IsIndexAllowed (has Gc bits) start end)) e parts.supertype);
        parts = parts;
      }

  pub allowed_referenced : (own : ℕ) (explicit : Bool) (ds : List Declared) → AreModuleIndices ds → HaveOneSupertype ds
      → AreTypesAllowed (has Gc bits) start end own ds ↔ AreWellReferenced bits start end own (written_entries (written explicit ds))
  allowed_referenced own explicit [] m s = (λ w. tt, λ w. tt)
  allowed_referenced own explicit (d ∷ ds) m s =
      let rest = allowed_referenced (suc own) explicit ds m.1 s.2 in
      let entry = entry_written d s.1 in (
        λ w. (subst (IsWellReferenced bits start end own) (sym entry) (type_down own d m.0 s.1 w.0), rest.0 w.1),
        λ w. (type_up own d m.0 s.0 s.1 (subst (IsWellReferenced bits start end own) entry w.0), rest.1 w.1),
      )
