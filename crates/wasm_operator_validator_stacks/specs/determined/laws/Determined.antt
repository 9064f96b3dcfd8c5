-- How a check's promise follows from its steps, for an operator that neither opens nor ends a frame.
use Rattle.std.proofs.Common.{◌≡◌, ◌↔◌, ◌∙◌, List, [], ◌∷◌, ◌++◌, Bool, Option, Some, None, refl, sym, subst}
use Rattle.wasm_types.specs.decoding.declared.error.ErrorKind.{ErrorKind}
use Rattle.wasm_types.specs.decoding.Denials.{Denies}
use Rattle.wasm_types.specs.decoding.DenialLaws.{denies, denies_from}
use Rattle.wasm_types.specs.values.declared.value.ValType.{ValType}
use Rattle.wasm_operators_immediates.specs.declared.proposal.Proposal.{Proposal}
use Rattle.wasm_operators_enums.specs.Op.{Op}
use Rattle.wasm_operator_validator_rules.specs.Operands.{ValueType, Operand, AllBelow, all_known, stack}
use Rattle.wasm_operator_validator_rules.specs.Context.{Initialised}
use Rattle.wasm_operator_validator_rules.specs.InstructionTypes.{InstructionType, ◌⟶◌, instruction_type}
use Rattle.wasm_operator_validator_rules.specs.Row.{Takes, GroupRow, after}
use Rattle.wasm_operator_validator_state.specs.resources.Meaning.{Meaning}
use Rattle.wasm_operator_validator_state.specs.Refusals.{Does, kind_of}
use Rattle.wasm_operator_validator_state.specs.declared.refusal.Refusal.{Refusal}
use Rattle.wasm_operator_validator_state.specs.declared.refusal.Refusal.TheVariants as refusals
use Rattle.wasm_operator_validator_state.specs.State.{State, initialised, context, types_in, Accepts, Decides, Checks}
use Rattle.wasm_operator_validator_state.specs.Steps.{Stacks, IsOpen, SameFrames, MayPop, Popped, Pushed, Exchanged}
use Rattle.wasm_operator_validator_state.specs.Entering.{MayBegin, StopsWith}
use Rattle.wasm_operator_validator_state.specs.laws.Operands.{all_below_refl}
use Rattle.wasm_operator_validator_state.specs.laws.Accepting.{advanced, stacks_below}
use Rattle.wasm_operator_validator_state.specs.laws.Rows.{row_image, ordinary, by_no_row}
use Rattle.wasm_operator_validator_state.specs.laws.Entering.{enabled}
use Rattle.wasm_operator_validator_state.specs.laws.Checks.{checks_stopped, checks_going}
use Rattle.wasm_operator_validator_stacks.specs.determined.Operators.{IsPlain, IsInTable, Stays, IsOfContent}
use Rattle.wasm_operator_validator_stacks.specs.determined.laws.Same.{same_refl, stays_refl}

-- ---- refusals

-- at the entry
pub not_begun : (r : Refusal) (m : Meaning) (σ : State) (o : Op) (p : Proposal) (f : Bool) → IsPlain o p f → Denies (kind_of r) (MayBegin σ p f) → StopsWith σ p f r
    → Checks m σ o (Some (kind_of r)) σ
not_begun r m σ o p f i d s = checks_stopped m σ o p f r i.plain (i.of, i.named) d s

-- and that is for content
pub stopped_by_content : (σ : State) (p : Proposal) (f : Bool) (r : Refusal) → StopsWith σ p f r → IsOfContent r
stopped_by_content σ p f refusals.OutOfMemory s = s
stopped_by_content σ p f r s = tt

-- behind it
pub refused_then : (k : ErrorKind) (m : Meaning) (σ τ : State) (o : Op) (p : Proposal) (f : Bool) → MayBegin σ p f → Stays σ τ
    → Denies k ((os : List Op) × Accepts m σ (o ∷ os)) → Checks m σ o (Some k) τ
refused_then k m σ τ o p f b s d = checks_going (Some k) m σ τ o p f b d s.given s.failed s.saved

-- behind it, where nothing was done yet
pub refused_here : (k : ErrorKind) (m : Meaning) (σ : State) (o : Op) (p : Proposal) (f : Bool) → MayBegin σ p f → ((os : List Op) × Accepts m σ (o ∷ os) → ⊥)
    → Checks m σ o (Some k) σ
refused_here k m σ o p f b n = refused_then k m σ σ o p f b (stays_refl σ) (denies k _ n)

-- no row of its group fits
pub no_row : (m : Meaning) (σ : State) (o : Op) (p : Proposal) (f : Bool) → IsPlain o p f → MayBegin σ p f
    → ((popped pushed : List Operand) → GroupRow (context m σ.given σ.opens) (initialised m σ.given σ.inits) o popped pushed → ⊥)
    → (os : List Op) × Accepts m σ (o ∷ os) → ⊥
no_row m σ o p f i b n = by_no_row m σ o i.plain b.framed (λ popped pushed rest r d. n popped pushed r.1)

-- ---- known types

-- its group has exactly the row of these types
pub decided : (r : Option ErrorKind) (m : Meaning) (σ τ : State) (o : Op) (p : Proposal) (f : Bool) (ts us : List ValueType) → IsPlain o p f → MayBegin σ p f
    → ((set : Initialised) → after o set ≡ set)
    → ((popped pushed : List Operand) → GroupRow (context m σ.given σ.opens) (initialised m σ.given σ.inits) o popped pushed ↔ Takes ts us popped pushed)
    → Does r (Exchanged m σ ts us τ) (MayPop m σ (stack ts)) → Decides m σ o r τ
decided r m σ τ o p f ts us i b keeps row x =
    ordinary r m σ τ o ts us i.plain b.framed keeps
    (λ popped pushed. (λ (e, c). (row popped pushed).0 c, λ c. (enabled σ o p f (i.of, i.named) b, (row popped pushed).1 c))) x

pub by_types : (r : Option ErrorKind) (m : Meaning) (σ τ : State) (o : Op) (p : Proposal) (f : Bool) (ts us : List ValueType) → IsPlain o p f → MayBegin σ p f
    → ((set : Initialised) → after o set ≡ set)
    → ((popped pushed : List Operand) → GroupRow (context m σ.given σ.opens) (initialised m σ.given σ.inits) o popped pushed ↔ Takes ts us popped pushed)
    → Does r (Exchanged m σ ts us τ) (MayPop m σ (stack ts)) → Stays σ τ → Checks m σ o r τ
by_types r m σ τ o p f ts us i b keeps row x s =
    checks_going r m σ τ o p f b (decided r m σ τ o p f ts us i b keeps row x) s.given s.failed s.saved

-- ---- the table of instruction types

-- the table has no type for it
pub undetermined : (m : Meaning) (σ : State) (o : Op) (p : Proposal) (f : Bool) → IsInTable o p f → MayBegin σ p f
    → instruction_type (context m σ.given σ.opens) o ≡ None → (os : List Op) × Accepts m σ (o ∷ os) → ⊥
undetermined m σ o p f i b e =
    no_row m σ o p f i.is b
    (λ popped pushed r.
    let (t, h, k) = (i.row _ _ popped pushed).0 r in
    let x : ◌≡◌ {A = Option InstructionType} None (Some t) = sym e ∙ h in cc)

table_row : (x t : InstructionType) (popped pushed : List Operand) → ◌≡◌ {A = Option InstructionType} (Some x) (Some t)
    → Takes t.takes t.gives popped pushed → Takes x.takes x.gives popped pushed
table_row x t popped pushed e r =
    let k : x ≡ t = cc in
    subst (λ (y : InstructionType). Takes y.takes y.gives popped pushed) (sym k) r

-- the table has these types for it, and they were exchanged
pub determined : (r : Option ErrorKind) (m : Meaning) (σ τ : State) (o : Op) (p : Proposal) (f : Bool) (ts us : List ValType) → IsInTable o p f → MayBegin σ p f
    → instruction_type (context m σ.given σ.opens) o ≡ Some (types_in m ts ⟶ types_in m us)
    → Does r (Exchanged m σ (types_in m ts) (types_in m us) τ) (MayPop m σ (stack (types_in m ts))) → Stays σ τ → Checks m σ o r τ
determined r m σ τ o p f ts us i b e x s =
    by_types r m σ τ o p f (types_in m ts) (types_in m us) i.is b i.keeps
    (λ popped pushed. (
      λ c. let (t, h, k) = (i.row _ _ popped pushed).0 c in table_row (types_in m ts ⟶ types_in m us) t popped pushed (sym e ∙ h) k,
      λ k. (i.row _ _ popped pushed).1 (types_in m ts ⟶ types_in m us, e, k),
    )) x s

-- what was only put on
pub given_only : (r : Option ErrorKind) (m : Meaning) (σ τ : State) (us : List ValueType) → Does r (Pushed m σ (stack us) τ) (Unit {0})
    → Does r (Exchanged m σ [] us τ) (MayPop m σ [])
given_only None m σ τ us x = record { same = x.same; stacks = x.stacks }
given_only (Some e) m σ τ us x = denies_from e _ _ (λ y. tt) x

-- what was only taken off
pub taken_only : (r : Option ErrorKind) (m : Meaning) (σ τ : State) (ts : List ValueType) → Does r (Popped m σ (stack ts) τ) (MayPop m σ (stack ts))
    → Does r (Exchanged m σ ts [] τ) (MayPop m σ (stack ts))
taken_only None m σ τ ts x = record {
  same = x.same;
  stacks = λ s. (λ c. (s, (x.stacks s).1 c, all_below_refl s), λ (rest, d, b). stacks_below m τ.opens rest s ((x.stacks rest).0 d) b);
}
taken_only (Some e) m σ τ ts x = x

-- nothing was done
pub unchanged : (m : Meaning) (σ : State) → IsOpen σ.opens → Exchanged m σ [] [] σ
unchanged m σ i = record {
  same = same_refl σ i;
  stacks = λ s. (λ c. (s, c, all_below_refl s), λ (rest, c, b). stacks_below m σ.opens rest s c b);
}

-- ---- an operator that sets a local

-- its group has exactly the row of these types
pub written : (m : Meaning) (σ τ : State) (o : Op) (p : Proposal) (f : Bool) (ts us : List ValueType) → IsPlain o p f → MayBegin σ p f
    → τ.given ≡ σ.given → τ.failed ≡ σ.failed → SameFrames σ.opens τ.opens → initialised m τ.given τ.inits ≡ after o (initialised m σ.given σ.inits)
    → ((s : List Operand) → Stacks m τ s ↔ (rest : List Operand) × Stacks m σ (stack ts ++ rest) × AllBelow (stack us ++ rest) s)
    → ((popped pushed : List Operand) → GroupRow (context m σ.given σ.opens) (initialised m σ.given σ.inits) o popped pushed ↔ Takes ts us popped pushed)
    → (os : List Op) → Accepts m σ (o ∷ os) ↔ Accepts m τ os
written m σ τ o p f ts us i b given failed frames set stacks row =
    advanced m σ τ o i.plain (record {
      given = given;
      set = set;
      frames = frames;
      failed = failed;
      stacks = row_image m σ τ o frames
          (λ n c. let (rest, d, l) = (stacks n).0 c in
          (all_known ts, all_known us, rest, (enabled σ o p f (i.of, i.named) b, (row (all_known ts) (all_known us)).1 (refl, refl)), d, l))
          (λ popped pushed rest r d.
          let (e, h) = (row popped pushed).0 r.1 in
          let d' : Stacks m σ (stack ts ++ rest) = rw e at d in
          rw h ((stacks (stack us ++ rest)).1 (rest, d', all_below_refl (stack us ++ rest))));
    })
