-- What holds of the chains of declared supertypes above the types of valid groups.
use Rattle.std.specs.Prelude.{◌≡◌, List, All, Contains, Some}
use Rattle.wasm_types_trees.specs.Each.{EachEntry}
use Rattle.wasm_types_trees.specs.Trees.{TypeTree, opened}
use Rattle.wasm_types_trees.specs.Below.{expanded, is_shared, supertype, abstract_above, DeclaredBelow}
use Rattle.wasm_types_trees.specs.Matches.{Matches}

-- two types of one sharedness and one constructor
pub record IsAlike (t u : TypeTree) : Type 0 where
  pub shared : is_shared t ≡ is_shared u
  pub constructor : abstract_above (expanded t) ≡ abstract_above (expanded u)

-- each type above t by declaration is alike: so it is where every declared link matches
abbrev pub IsSound : TypeTree → Type 0
IsSound t = (u : TypeTree) → DeclaredBelow t u → IsAlike t u

-- each declared link from t upwards matches
abbrev pub LinksMatch : TypeTree → Type 0
LinksMatch t = (u v : TypeTree) → DeclaredBelow t u → supertype u ≡ Some v → Matches (opened u) (opened v)

-- no declaration leads from a type back to it
abbrev pub HasNoCycle : TypeTree → Type 0
HasNoCycle t = (u : TypeTree) → supertype t ≡ Some u → DeclaredBelow u t → ⊥

-- each type refers to types of the list alone
abbrev pub AreClosed : List TypeTree → Type 0
AreClosed space = All (λ t. EachEntry (Contains space) (opened t)) space

-- all of this holds of each type of the list
pub record AreSound (space : List TypeTree) : Type 0 where
  pub links : All LinksMatch space
  pub sound : All IsSound space
  pub acyclic : All HasNoCycle space
  pub closed : AreClosed space
