-- A local that was set.
use Rattle.std.proofs.Common.{◌≡◌, ◌↔◌, ◌∙◌, ◌==◌, ◌<◌, ℕ, List, ◌∷◌, ◌++◌, Bool, true, Some, Result, Ok, Err, OnOk, IfErr, length, slice_get, sym, ap, subst, arith}
use Rattle.std.specs.Prelude.{if◌then◌else◌}
use Rattle.std.proofs.lemmas.List.{length-map}
use Rattle.std.proofs.lemmas.Option.{slice_get_within}
use Rattle.wasm_types.specs.decoding.Denials.{Denies}
use Rattle.wasm_types.specs.decoding.declared.error.ErrorKind.{ErrorKind}
use Rattle.wasm_types.specs.decoding.DenialLaws.{denies_from}
use Rattle.wasm_operators_immediates.specs.declared.proposal.Proposal.{Proposal}
use Rattle.wasm_operators_enums.specs.Op.{Op}
use Rattle.wasm_operator_validator_rules.specs.Operands.{ValueType, Operand, stack}
use Rattle.wasm_operator_validator_rules.specs.Context.{Initialised}
use Rattle.wasm_operator_validator_rules.specs.Row.{Takes, GroupRow, after}
use Rattle.wasm_operator_validator_state.specs.resources.Meaning.{Meaning, type_in}
use Rattle.wasm_operator_validator_state.specs.Refusals.{kind_of, refused}
use Rattle.wasm_operator_validator_state.specs.State.{Given, State, initialised, context, types_in, Accepts, Decides, Checks}
use Rattle.wasm_operator_validator_state.specs.Steps.{Stacks, MayPop, Exchanged, with_init}
use Rattle.wasm_operator_validator_state.specs.declared.refusal.Refusal.{Refusal}
use Rattle.wasm_operator_validator_state.specs.declared.refusal.Refusal.TheVariants as refusals
use Rattle.wasm_operator_validator_state.specs.laws.Rows.{some_row}
use Rattle.wasm_operator_validator_state.specs.laws.Locals.{with_init_sets}
use Rattle.wasm_operator_validator_state.specs.Entering.{MayBegin}
use Rattle.wasm_operator_validator_state.specs.laws.Checks.{checks_going}
use Rattle.wasm_operator_validator_stacks.specs.determined.Operators.{IsPlain, Stays}
use Rattle.wasm_operator_validator_stacks.specs.determined.laws.Determined.{written, refused_then}

-- which locals are initialised once one more was set
abbrev pub with_local : ℕ → Initialised → Initialised
with_local x set = λ k. if x == k then true else set k

set_here : (m : Meaning) (σ π : State) (x : ℕ) → π.given ≡ σ.given → π.inits ≡ σ.inits → initialised m π.given (with_init m π x).inits ≡ with_local x (initialised m σ.given σ.inits)
set_here m σ π x e f =
    with_init_sets m π x
    ∙ ap (λ (w : Given). with_local x (initialised m w π.inits)) e
    ∙ ap (λ (inits : List ℕ). with_local x (initialised m σ.given inits)) f

-- the local is one of those that there are
pub set_within : (m : Meaning) (σ τ : State) (x : ℕ) (t : ValueType) → τ.given ≡ σ.given → slice_get (types_in m σ.given.locals) x ≡ Some t → x < length τ.given.locals
set_within m σ τ x t e l =
    let h : x < length (types_in m σ.given.locals) = slice_get_within (types_in m σ.given.locals) x t l in
    let k : length (types_in m σ.given.locals) ≡ length σ.given.locals = length-map σ.given.locals (type_in m) in
    let g : length τ.given.locals ≡ length σ.given.locals = ap (λ (w : Given). length w.locals) e in
    omega (arith, h, k, g)

-- the operands were exchanged, and the local was noted, or there was no memory for that
done : {X : Type 0} (r : Result X Refusal) (m : Meaning) (σ π τ : State) (o : Op) (p : Proposal) (f : Bool) (ts us : List ValueType) (x : ℕ)
    → IsPlain o p f → MayBegin σ p f → ((set : Initialised) → after o set ≡ with_local x set)
    → ((popped pushed : List Operand) → GroupRow (context m σ.given σ.opens) (initialised m σ.given σ.inits) o popped pushed ↔ Takes ts us popped pushed)
    → Exchanged m σ ts us π → OnOk r (τ ≡ with_init m π x) → IfErr r (λ e. (e ≡ refusals.OutOfMemory) × (τ ≡ π)) → Decides m σ o (refused r) τ
done (Ok y) m σ π τ o p f ts us x i b sets row e h n =
    subst (λ (v : State). (os : List Op) → Accepts m σ (o ∷ os) ↔ Accepts m v os) (sym h)
    (written m σ (with_init m π x) o p f ts us i b e.same.given e.same.failed e.same.frames (set_here m σ π x e.same.given e.same.inits ∙ sym (sets (initialised m σ.given σ.inits))) e.stacks row)
done (Err y) m σ π τ o p f ts us x i b sets row e h (k, l) =
    subst (λ (v : Refusal). Denies (kind_of v) ((os : List Op) × Accepts m σ (o ∷ os))) (sym k) tt

stays_noted : {X : Type 0} (r : Result X Refusal) (m : Meaning) (σ π τ : State) (ts us : List ValueType) (x : ℕ)
    → Exchanged m σ ts us π → OnOk r (τ ≡ with_init m π x) → IfErr r (λ e. (e ≡ refusals.OutOfMemory) × (τ ≡ π)) → Stays σ τ
stays_noted (Ok y) m σ π τ ts us x e h n = rw h (record { given = e.same.given; failed = e.same.failed; saved = e.same.saved })
stays_noted (Err y) m σ π τ ts us x e h (k, l) = rw l (record { given = e.same.given; failed = e.same.failed; saved = e.same.saved })

pub set_in_the_end : {X : Type 0} (r : Result X Refusal) (m : Meaning) (σ π τ : State) (o : Op) (p : Proposal) (f : Bool) (ts us : List ValueType) (x : ℕ)
    → IsPlain o p f → MayBegin σ p f → ((set : Initialised) → after o set ≡ with_local x set)
    → ((popped pushed : List Operand) → GroupRow (context m σ.given σ.opens) (initialised m σ.given σ.inits) o popped pushed ↔ Takes ts us popped pushed)
    → Exchanged m σ ts us π → OnOk r (τ ≡ with_init m π x) → IfErr r (λ e. (e ≡ refusals.OutOfMemory) × (τ ≡ π)) → Checks m σ o (refused r) τ
set_in_the_end r m σ π τ o p f ts us x i b sets row e h n =
    let s = stays_noted r m σ π τ ts us x e h n in
    checks_going (refused r) m σ τ o p f b (done r m σ π τ o p f ts us x i b sets row e h n) s.given s.failed s.saved

-- the operands do not fit
pub not_exchanged : (k : ErrorKind) (m : Meaning) (σ τ : State) (o : Op) (p : Proposal) (f : Bool) (ts us : List ValueType) → IsPlain o p f → MayBegin σ p f
    → ((popped pushed : List Operand) → GroupRow (context m σ.given σ.opens) (initialised m σ.given σ.inits) o popped pushed ↔ Takes ts us popped pushed)
    → Denies k (MayPop m σ (stack ts)) → Stays σ τ → Checks m σ o (Some k) τ
not_exchanged k m σ τ o p f ts us i b row d s =
    refused_then k m σ τ o p f b s
    (denies_from k _ _ (λ (os, y). let (popped, pushed, rest, r, c) = some_row m σ o os i.plain b.framed y in
    let (g, h) = (row popped pushed).0 r.1 in
    let c' : Stacks m σ (stack ts ++ rest) = rw g at c in (rest, c')) d)
