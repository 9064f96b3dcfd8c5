-- The rows of exceptions that are thrown.
use Rattle.std.proofs.Common.{◌≡◌, ◌↔◌, ◌∙◌, ℕ, zero, suc, List, [], ◌∷◌, ◌++◌, Bool, true, false, Option, Some, None, refl, sym, ap, subst, map, slice_get, append-nil}
use Rattle.wasm_operators_immediates.specs.declared.block.BlockType.{BlockType}
use Rattle.wasm_operators_immediates.specs.declared.frames.FrameKind.{FrameKind}
use Rattle.wasm_operators_immediates.specs.declared.proposal.Proposal.TheVariants.{Exceptions, LegacyExceptions}
use Rattle.wasm_operators_enums.specs.Op as op
use Rattle.wasm_operators_enums.specs.Op.{Op}
use Rattle.wasm_operator_validator_rules.specs.Operands.{ValueType, Operand, all_known}
use Rattle.wasm_operator_validator_rules.specs.Context.{is_catch}
use Rattle.wasm_operator_validator_rules.specs.Exceptions.{exception}
use Rattle.wasm_operator_validator_state.specs.resources.Meaning.{Meaning}
use Rattle.wasm_operator_validator_state.specs.State.{Open, State}
use Rattle.wasm_operator_validator_state.specs.Entering.{MayBegin}
use Rattle.wasm_operator_validator_stacks.specs.determined.Operators.{IsPlain}
use Rattle.wasm_operator_validator_stacks.specs.determined.laws.Determined.{no_row}
use Rattle.wasm_operator_validator_control.specs.Clauses.{IsTagIn}
use Rattle.wasm_operator_validator_control.specs.laws.Jumping.{IsLast}
use Rattle.wasm_operator_validator_control.specs.laws.Labels.{frame_at, IsFrame, IsNoFrame}
use Rattle.wasm_operator_validator_control.proofs.CallRows.{Never}
use Rattle.wasm_operator_validator_control.proofs.Tags.{one_tag}

-- ---- throw

abbrev pub throw : ℕ → Op
throw x = op.Exception (op.Throw x)

pub throw_is : (x : ℕ) → IsPlain (throw x) Exceptions false
throw_is x = record { of = refl; named = refl; plain = refl }

pub throw_last : (m : Meaning) (σ : State) (x : ℕ) (ts : List ValueType) → IsTagIn m x ts → IsLast m σ (throw x) ts
throw_last m σ x ts t popped pushed = (
  λ (us, any, u, f). (any, subst (λ (v : List ValueType). popped ≡ any ++ all_known v) (one_tag m x ts us t u) f),
  λ (any, f). (ts, any, t, f),
)

pub no_throw : (m : Meaning) (σ : State) (x : ℕ) → MayBegin σ Exceptions false → ((ts : List ValueType) → IsTagIn m x ts → ⊥) → Never m σ (throw x)
no_throw m σ x i n = no_row m σ (throw x) Exceptions false (throw_is x) i (λ popped pushed (ts, any, t, f). n ts t)

-- ---- throw_ref

abbrev pub throw_ref : Op
throw_ref = op.Exception op.ThrowRef

pub throw_ref_is : IsPlain throw_ref Exceptions false
throw_ref_is = record { of = refl; named = refl; plain = refl }

pub throw_ref_last : (m : Meaning) (σ : State) → IsLast m σ throw_ref (exception true ∷ [])
throw_ref_last m σ popped pushed = (λ r. r, λ r. r)

-- ---- rethrow

abbrev pub rethrow : ℕ → Op
rethrow l = op.Exception (op.Rethrow l)

pub rethrow_is : (l : ℕ) → IsPlain (rethrow l) LegacyExceptions false
rethrow_is l = record { of = refl; named = refl; plain = refl }

-- which of the open frames are clauses
abbrev pub catches_of : List Open → List Bool
catches_of opens = map (λ o. is_catch o.kind) opens

same_kind : (x y : BlockType × FrameKind) → ◌≡◌ {A = Option (BlockType × FrameKind)} (Some x) (Some y) → x.1 ≡ y.1
same_kind x y e = let f : x ≡ y = cc in ap (λ (z : BlockType × FrameKind). z.1) f

pub catch_at : (opens : List Open) (d : ℕ) (bt : BlockType) (k : FrameKind) → IsFrame (frame_at opens d) bt k → slice_get (catches_of opens) d ≡ Some (is_catch k)
catch_at [] d bt k e = absurd (nothing e)
  where
    nothing : IsFrame None bt k → ⊥
    nothing e = cc
catch_at (o ∷ outer) zero bt k e = sym (ap (λ (x : FrameKind). Some (is_catch x)) (same_kind (bt, k) (o.block, o.kind) e))
catch_at (o ∷ outer) (suc d) bt k e = catch_at outer d bt k e

pub no_catch_at : (opens : List Open) (d : ℕ) → IsNoFrame (frame_at opens d) → slice_get (catches_of opens) d ≡ None
no_catch_at [] d e = refl
no_catch_at (o ∷ outer) zero e = cc
no_catch_at (o ∷ outer) (suc d) e = no_catch_at outer d e

pub rethrow_last : (m : Meaning) (σ : State) (l : ℕ) → slice_get (catches_of σ.opens) l ≡ Some true → IsLast m σ (rethrow l) []
rethrow_last m σ l e popped pushed = (λ r. (popped, sym (append-nil popped)), λ r. e)

-- the frame is no clause, or there is none
not_caught : (o : Option Bool) (p : Option Bool) → o ≡ p → (p ≡ Some true → ⊥) → o ≡ Some true → ⊥
not_caught o p e n f = n (sym e ∙ f)

no_frame : ◌≡◌ {A = Option Bool} None (Some true) → ⊥
no_frame e = cc

no_clause : (b : Bool) → b ≡ false → Some b ≡ Some true → ⊥
no_clause b e f = let g : b ≡ true = cc in let h : false ≡ true = sym e ∙ g in cc

no_rethrow : (m : Meaning) (σ : State) (l : ℕ) → MayBegin σ LegacyExceptions false → (slice_get (catches_of σ.opens) l ≡ Some true → ⊥) → Never m σ (rethrow l)
no_rethrow m σ l i n = no_row m σ (rethrow l) LegacyExceptions false (rethrow_is l) i (λ popped pushed r. n r)

pub rethrow_nowhere : (m : Meaning) (σ : State) (l : ℕ) → MayBegin σ LegacyExceptions false → IsNoFrame (frame_at σ.opens l) → Never m σ (rethrow l)
rethrow_nowhere m σ l i e = no_rethrow m σ l i (not_caught (slice_get (catches_of σ.opens) l) None (no_catch_at σ.opens l e) no_frame)

pub rethrow_outside : (m : Meaning) (σ : State) (l : ℕ) (bt : BlockType) (k : FrameKind) → MayBegin σ LegacyExceptions false → IsFrame (frame_at σ.opens l) bt k → is_catch k ≡ false
    → Never m σ (rethrow l)
rethrow_outside m σ l bt k i e f =
    no_rethrow m σ l i (not_caught (slice_get (catches_of σ.opens) l) (Some (is_catch k)) (catch_at σ.opens l bt k e) (no_clause (is_catch k) f))
