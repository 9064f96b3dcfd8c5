-- A list whose types are valid is settled.
use Rattle.std.proofs.Common.{◌≡◌, ◌∙◌, ◌⊎◌, inl, inr, ⊎_elim, ℕ, ◌<◌, Bool, true, false, ◌&&◌, IsTrue, List, [], ◌∷◌, refl, ap, sym, subst, Some}
use Rattle.std.proofs.lemmas.List.Elements.{All-weaker}
use Rattle.wasm_types.specs.settings.Settings.{Settings}
use Rattle.wasm_types.specs.settings.Features.{needs_canonical_types}
use Rattle.wasm_types.specs.trees.declared.index.CoreTypeId.{CoreTypeId}
use Rattle.wasm_types.specs.trees.Types.{Abstract, func, array, struct, cont, InnerOf, function, array_of, struct_of, continuation}
use Rattle.wasm_types.specs.trees.Trees.{TypeTree, opened}
use Rattle.wasm_types.specs.trees.Below.{expanded, supertype, abstract_above, DeclaredBelow}
use Rattle.wasm_types.specs.trees.Matches.{Matches}
use Rattle.wasm_types.specs.trees.Chains.{LinksMatch}
use Rattle.wasm_types.specs.trees.ValidGroup.{IsFunction, IsValidSupertype}
use Rattle.wasm_types.specs.trees.laws.Matches.{links_are_sound}
use Rattle.wasm_module_validator_type_storage.specs.trees.Groups.{Group, count, tree_of}
use Rattle.wasm_module_validator_type_storage.specs.trees.Formed.{IsFormed, AreCanonical}
use Rattle.wasm_module_validator_type_groups.specs.adding.Interned.{IsChecked}
use Rattle.wasm_module_validator_type_groups.proofs.Plain.{tree_plain}
use Rattle.wasm_module_validator_index_spaces.specs.Spaces.{Spaces}
use Rattle.wasm_module_validator_resources.specs.Bare.{is_bare}
use Rattle.wasm_module_validator_resources.specs.Named.{kind_number, are_canonical, IsSettled, IsFunctionId, IsFunctionKind, IsReadOver, IsSettledIn}
use Rattle.wasm_module_validator_resources.specs.laws.Bare.{plain_bare}
use Rattle.wasm_module_validator_resources.specs.laws.Settled.{above_canonical, above_bare}

either : (b : Bool) → (b ≡ true) ⊎ (b ≡ false)
either true = inl refl
either false = inr refl

both : (a b : Bool) → IsTrue a → IsTrue b → IsTrue (a && b)
both true b h w = w
both false b h w = cc

canonical_all : (groups : List Group) → AreCanonical groups → IsTrue (are_canonical groups)
canonical_all [] h = refl
canonical_all (g ∷ earlier) h = both g.is_canonical (are_canonical earlier) h.0 (canonical_all earlier h.1)

-- the number of a constructor, by its abstract type
abbrev number_by : Abstract → ℕ
number_by func = 0
number_by array = 1
number_by struct = 2
number_by cont = 3
number_by a = 4

numbered : {R : Type 0} (x : InnerOf R) → number_by (abstract_above x) ≡ kind_number x
numbered (function ps rs) = refl
numbered (array_of x) = refl
numbered (struct_of xs) = refl
numbered (continuation f) = refl

function_kind : (x : InnerOf TypeTree) → IsFunction x → kind_number x ≡ 0
function_kind (function ps rs) h = refl
function_kind (array_of x) h = absurd h
function_kind (struct_of xs) h = absurd h
function_kind (continuation f) h = absurd h

module _ (z : Settings) (groups : List Group) (formed : IsFormed groups) (checked : IsChecked z groups) where
  bare_type : needs_canonical_types z.features ≡ false → (id : ℕ) → id < count groups → IsTrue (is_bare (opened (tree_of groups id)))
  bare_type off id lt = plain_bare z.features (opened (tree_of groups id)) ((tree_plain z.features off z refl (tree_of groups id)).0 (checked.valid id lt))

  above : (a : CoreTypeId) → a.0 < count groups → (u : TypeTree) → DeclaredBelow (tree_of groups a.0) u
      → (b : CoreTypeId) × (b.0 < count groups) × (tree_of groups b.0 ≡ u)
  above a lt u d = ⊎_elim
      (λ on. above_canonical groups formed (checked.canonical on) d a lt refl)
      (λ off. (a, lt, above_bare (tree_of groups a.0) u (bare_type off a.0 lt) d))
      (either (needs_canonical_types z.features))

  links : (a : CoreTypeId) → a.0 < count groups → LinksMatch (tree_of groups a.0)
  links a lt u v d e =
      let found = above a lt u d in
      let t : TypeTree = tree_of groups found.0.0 in
      let up : supertype t ≡ Some v = ap supertype found.2 ∙ e in
      let two = subst (IsValidSupertype (opened t)) up (checked.valid found.0.0 found.1).above in
      subst (λ (x : TypeTree). Matches (opened x) (opened v)) found.2 two.1

  pub settled : IsSettled z.features groups
  settled = record {
    canonical = λ on. canonical_all groups (checked.canonical on);
    bare = bare_type;
    alike = λ id lt u d.
        let one = links_are_sound (tree_of groups id) (links (record { 0 = id }) lt) u d in
        (one.shared, sym (numbered (expanded (tree_of groups id))) ∙ ap number_by one.constructor ∙ numbered (expanded u));
  }

-- so is one over which a module was read
pub settled_in : (groups : List Group) (m : Spaces) → IsFormed groups → IsReadOver groups m → IsSettledIn groups m
settled_in groups m formed r = record {
  settled = settled m.settings groups formed r.checked;
  known = r.known;
  tags = All-weaker (IsFunctionId groups) (IsFunctionKind groups) (λ i h. (h.0, function_kind (expanded (tree_of groups i.0)) h.1)) m.tags r.tags;
}
