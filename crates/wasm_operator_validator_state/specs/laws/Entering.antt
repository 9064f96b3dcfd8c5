-- What the test at the entry of an operator says of what is accepted.
use Rattle.std.proofs.Common.{◌≡◌, ◌↔◌, ◌∙◌, ◌==◌, ℕ, Bool, true, false, IsTrue, List, [], ◌∷◌, arith, refl, sym, subst, eq-eqb, bit_and}
use Rattle.std.proofs.lemmas.Bool.{eqb-true}
use Rattle.std.proofs.lemmas.Nat.{and_le_r}
use Rattle.wasm_types.specs.decoding.declared.error.ErrorKind.{ErrorKind}
use Rattle.wasm_types.specs.settings.Features.{Floats}
use Rattle.wasm_types.specs.trees.Gates.{Has}
use Rattle.wasm_types.specs.decoding.Denials.{Denies}
use Rattle.wasm_types.specs.decoding.DenialLaws.{denies_from}
use Rattle.wasm_operators_immediates.specs.Info.{features_of}
use Rattle.wasm_operators_immediates.specs.declared.proposal.Proposal.{Proposal}
use Rattle.wasm_operators_immediates.specs.declared.proposal.Proposal.TheVariants as proposals
use Rattle.wasm_operators_enums.specs.Op.{Op}
use Rattle.wasm_operators_enums.specs.Table.{info_of}
use Rattle.wasm_operators_enums.specs.declared.role.Role.TheVariants as role
use Rattle.wasm_operators_enums.specs.Roles.{role_of}
use Rattle.wasm_operator_validator_rules.specs.Row.{IsEnabled, names_float}
use Rattle.wasm_operator_validator_resources.specs.Meaning.{Meaning}
use Rattle.wasm_operator_validator_state.specs.State.{Open, State, initialised, ClosesAll, Accepts}
use Rattle.wasm_operator_validator_state.specs.Steps.{IsOpen}
use Rattle.wasm_operator_validator_state.specs.Entering.{MayBegin}
use Rattle.wasm_operator_validator_state.specs.laws.Rows.{some_row}

-- what the table and the rules say of an operator: the proposal that brought it, and whether it has a float in its name
abbrev pub IsOf : Op → Proposal → Bool → Type 0
IsOf o proposal floats = ((info_of o).proposal ≡ proposal) × (names_float o ≡ floats)

pub enabled : (σ : State) (o : Op) (p : Proposal) (floats : Bool) → IsOf o p floats → MayBegin σ p floats → IsEnabled σ.given.bits o
enabled σ o p floats (e, f) b = record {
  proposal = subst (λ (x : Proposal). bit_and σ.given.bits (features_of x) ≡ features_of x) (sym e) b.allowed;
  floats = subst (λ (x : Bool). IsTrue x → Has σ.given.bits Floats) (sym f) b.float;
}

-- where an operator may come a frame is open
pub accepts_open : (m : Meaning) (σ : State) (o : Op) (os : List Op) → Accepts m σ (o ∷ os) → IsOpen σ.opens
accepts_open m σ o os (f, x) = at σ.opens x
  where
    at : (opens : List Open) → ClosesAll m σ.given [] opens (initialised m σ.given σ.inits) (o ∷ os) → IsOpen opens
    at [] x = let y : ◌≡◌ {A = List Op} (o ∷ os) [] = x in cc
    at (p ∷ outer) x = tt

-- an operator that neither opens nor ends a frame may begin where it may come
pub begins : (m : Meaning) (σ : State) (o : Op) (os : List Op) (p : Proposal) (floats : Bool) → role_of o ≡ role.Plain → IsOf o p floats
    → Accepts m σ (o ∷ os) → MayBegin σ p floats
begins m σ o os p floats r (e, f) x =
    let i = accepts_open m σ o os x in
    let (popped, pushed, rest, row, d) = some_row m σ o os r i x in
    let n : IsEnabled σ.given.bits o = row.0 in
    record {
      going = x.0;
      framed = i;
      allowed = subst (λ (y : Proposal). bit_and σ.given.bits (features_of y) ≡ features_of y) e n.proposal;
      float = subst (λ (y : Bool). IsTrue y → Has σ.given.bits Floats) f n.floats;
    }

pub denied_begin : (k : ErrorKind) (m : Meaning) (σ : State) (o : Op) (p : Proposal) (floats : Bool) → role_of o ≡ role.Plain → IsOf o p floats
    → Denies k (MayBegin σ p floats) → Denies k ((os : List Op) × Accepts m σ (o ∷ os))
denied_begin k m σ o p floats r i = denies_from k _ _ (λ (os, x). begins m σ o os p floats r i x)

-- an operator of the first version needs no feature
pub nothing_asked : (bits : ℕ) → bit_and bits (features_of proposals.Mvp) ≡ features_of proposals.Mvp
nothing_asked bits = let h = and_le_r bits 0 in omega arith

pub begins_at_first : (m : Meaning) (σ : State) (o : Op) (os : List Op) → Accepts m σ (o ∷ os) → MayBegin σ proposals.Mvp false
begins_at_first m σ o os x = record {
  going = x.0;
  framed = accepts_open m σ o os x;
  allowed = nothing_asked σ.given.bits;
  float = λ e. let y : false ≡ true = e in cc;
}

pub denied_at_first : (k : ErrorKind) (m : Meaning) (σ : State) (o : Op) → Denies k (MayBegin σ proposals.Mvp false) → Denies k ((os : List Op) × Accepts m σ (o ∷ os))
denied_at_first k m σ o = denies_from k _ _ (λ (os, x). begins_at_first m σ o os x)

-- ---- the parts of the test

pub is_open : (opens : List Open) (b : Bool) → IsTrue b ↔ (opens ≡ []) → b ≡ false → IsOpen opens
is_open [] b i e = let x : b ≡ true = i.1 refl in let y : false ≡ true = sym e ∙ x in cc
is_open (o ∷ outer) b i e = tt

pub not_open : (opens : List Open) → opens ≡ [] → IsOpen opens → ⊥
not_open [] e i = i
not_open (o ∷ outer) e i = cc

-- the proposal is allowed
abbrev pub Allows : ℕ → Proposal → Type 0
Allows bits p = bit_and bits (features_of p) ≡ features_of p

pub allows : (bits : ℕ) (p : Proposal) (b : Bool) → b ≡ (bit_and bits (features_of p) == features_of p) → b ≡ true → Allows bits p
allows bits p b e h = eqb-true (bit_and bits (features_of p)) (features_of p) (sym e ∙ h)

pub not_allows : (bits : ℕ) (p : Proposal) (b : Bool) → b ≡ (bit_and bits (features_of p) == features_of p) → b ≡ false → Allows bits p → ⊥
not_allows bits p b e n h =
    let x : b ≡ true = e ∙ eq-eqb (bit_and bits (features_of p)) (features_of p) h in
    let y : false ≡ true = sym n ∙ x in cc
