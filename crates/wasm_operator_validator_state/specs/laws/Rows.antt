-- How a visit's contract follows from rows: what the code leaves some row gives, and it is the least.
use Rattle.std.proofs.Common.{◌≡◌, ◌↔◌, List, [], ◌∷◌, ◌++◌, refl, subst, reverse, Option, Some, None}
use Rattle.wasm_types.specs.decoding.declared.error.ErrorKind.{ErrorKind}
use Rattle.wasm_operators_enums.specs.Op.{Op}
use Rattle.wasm_operators_enums.specs.declared.role.Role.TheVariants as role
use Rattle.wasm_operators_enums.specs.Roles.{role_of}
use Rattle.wasm_operator_validator_rules.specs.Operands.{ValueType, Operand, AllBelow, all_known, stack}
use Rattle.wasm_operator_validator_state.specs.laws.Operands.{all_below_refl}
use Rattle.wasm_operator_validator_resources.specs.Meaning.{Meaning}
use Rattle.wasm_types.specs.decoding.DenialLaws.{denies_from}
use Rattle.wasm_operator_validator_rules.specs.Context.{Initialised}
use Rattle.wasm_operator_validator_rules.specs.Row.{Takes, Row, after}
use Rattle.wasm_operator_validator_state.specs.Refusals.{Does}
use Rattle.wasm_operator_validator_state.specs.State.{State, initialised, context, Accepts, Decides}
use Rattle.wasm_operator_validator_state.specs.Steps.{Stacks, IsOpen, SameFrames, Same, MayPop, Exchanged}
use Rattle.wasm_operator_validator_state.specs.laws.Accepting.{Image, advanced, closes_left, left_plain, stacks_below}

abbrev pub RowAt : Meaning → State → Op → List Operand → List Operand → Type 0
RowAt m σ o popped pushed = Row (context m σ.given σ.opens) (initialised m σ.given σ.inits) o popped pushed

-- what the code leaves, some row gives, and less
abbrev pub Reached : Meaning → State → Op → State → Type 0
Reached m σ o τ = (n : List Operand) → Stacks m τ n → (popped pushed rest : List Operand) × RowAt m σ o popped pushed × Stacks m σ (reverse popped ++ rest) × AllBelow (reverse pushed ++ rest) n

-- what any row gives, the code leaves
abbrev pub Least : Meaning → State → Op → State → Type 0
Least m σ o τ = (popped pushed rest : List Operand) → RowAt m σ o popped pushed → Stacks m σ (reverse popped ++ rest) → Stacks m τ (reverse pushed ++ rest)

-- no row fits
abbrev pub Unfit : Meaning → State → Op → Type 0
Unfit m σ o = (popped pushed rest : List Operand) → RowAt m σ o popped pushed → Stacks m σ (reverse popped ++ rest) → ⊥

pub row_image : (m : Meaning) (σ τ : State) (o : Op) → SameFrames σ.opens τ.opens → Reached m σ o τ → Least m σ o τ → (n : List Operand) → Stacks m τ n ↔ Image m σ o n
row_image m σ τ o b reached least n = (
  λ c. let (popped, pushed, rest, row, d, l) = reached n c in
      (reverse popped ++ rest, reverse pushed ++ rest, d, (popped, pushed, rest, row, all_below_refl (reverse popped ++ rest), refl), l),
  λ (s, k, c, (popped, pushed, rest, row, l, e), j).
      let d = least popped pushed rest row (stacks_below m σ.opens s (reverse popped ++ rest) c l) in
      stacks_below m τ.opens (reverse pushed ++ rest) n d (subst (λ (x : List Operand). AllBelow x n) e j),
)

-- an operator that sets no local
pub by_row : (m : Meaning) (σ τ : State) (o : Op) → role_of o ≡ role.Plain → ((set : Initialised) → after o set ≡ set) → Same σ τ → Reached m σ o τ → Least m σ o τ
    → (os : List Op) → Accepts m σ (o ∷ os) ↔ Accepts m τ os
by_row m σ τ o p keeps same reached least =
    advanced m σ τ o p (record {
      given = same.given;
      set = rw (same.given, same.inits, keeps (initialised m σ.given σ.inits)) refl;
      frames = same.frames;
      failed = same.failed;
      stacks = row_image m σ τ o same.frames reached least;
    })

-- where an operator is accepted, some row fits
pub some_row : (m : Meaning) (σ : State) (o : Op) (os : List Op) → role_of o ≡ role.Plain → IsOpen σ.opens → Accepts m σ (o ∷ os)
    → (popped pushed rest : List Operand) × RowAt m σ o popped pushed × Stacks m σ (reverse popped ++ rest)
some_row m σ o os p i (f, x) =
    let (s, c, l) = (closes_left m σ.given [] σ.opens _ (o ∷ os) i).0 x in
    let (n, (popped, pushed, rest, row, b, e), q) = (left_plain m σ.given σ.opens _ s o os p).0 l in
    (popped, pushed, rest, row, stacks_below m σ.opens s (reverse popped ++ rest) c b)

pub by_no_row : (m : Meaning) (σ : State) (o : Op) → role_of o ≡ role.Plain → IsOpen σ.opens → Unfit m σ o → (os : List Op) × Accepts m σ (o ∷ os) → ⊥
by_no_row m σ o p i unfit (os, x) = let (popped, pushed, rest, row, d) = some_row m σ o os p i x in unfit popped pushed rest row d

-- the ordinary row, once for all: it is known which types it takes and gives
abbrev pub IsOrdinary : Meaning → State → Op → List ValueType → List ValueType → Type 0
IsOrdinary m σ o ts us = (popped pushed : List Operand) → RowAt m σ o popped pushed ↔ Takes ts us popped pushed

pub ordinary : (r : Option ErrorKind) (m : Meaning) (σ τ : State) (o : Op) (ts us : List ValueType) → role_of o ≡ role.Plain → IsOpen σ.opens
    → ((set : Initialised) → after o set ≡ set) → IsOrdinary m σ o ts us
    → Does r (Exchanged m σ ts us τ) (MayPop m σ (stack ts)) → Decides m σ o r τ
ordinary None m σ τ o ts us p i keeps row x =
    by_row m σ τ o p keeps x.same
    (λ n c. let (rest, d, l) = (x.stacks n).0 c in (all_known ts, all_known us, rest, (row (all_known ts) (all_known us)).1 (refl, refl), d, l))
    (λ popped pushed rest r d.
    let (e, f) = (row popped pushed).0 r in
    let d' : Stacks m σ (stack ts ++ rest) = rw e at d in
    rw f ((x.stacks (stack us ++ rest)).1 (rest, d', all_below_refl (stack us ++ rest))))
ordinary (Some e) m σ τ o ts us p i keeps row x =
    denies_from e _ _ (λ (os, y). let (popped, pushed, rest, r, d) = some_row m σ o os p i y in
    let (f, g) = (row popped pushed).0 r in
    let d' : Stacks m σ (stack ts ++ rest) = rw f at d in (rest, d')) x
