-- What an attempt leaves once it is taken back.
use Rattle.std.proofs.Common.{◌≡◌, Option, refl, sym, ap, ◌∙◌}
use Rattle.wasm_types.specs.decoding.declared.error.ErrorKind.{ErrorKind}
use Rattle.wasm_operators_enums.specs.Op.{Op}
use Rattle.wasm_operator_validator_state.specs.resources.Meaning.{Meaning}
use Rattle.wasm_operator_validator_state.specs.State.{Given, Saved, State, Checks, Visits}
use Rattle.wasm_operator_validator_stacks.specs.Layout.{state_of, none_saved, restored, rolled_back, IsBegun, Begins}

-- what is rolled back to is what was saved
back_to : (τ : State) (s : Saved) (b : IsBegun s) → τ.saved ≡ s → rolled_back τ ≡ state_of τ.given none_saved τ.saved.failed b.frames b.operands b.inits
back_to τ s b e = ap (λ (x : Saved). restored τ x.frames x.operands x.inits) (e ∙ b.all)

-- where nothing changed that is given, a rollback gives what stood where the attempt began
taken_back : (σ β τ : State) → Begins σ β → τ.given ≡ β.given → τ.saved ≡ β.saved → rolled_back τ ≡ record σ { saved = none_saved }
taken_back σ β τ h g e = let b : IsBegun β.saved = h.begun in
    back_to τ β.saved b e
    ∙ ap (λ (w : Given). state_of w none_saved τ.saved.failed b.frames b.operands b.inits) g
    ∙ ap (λ (x : Saved). state_of β.given none_saved x.failed b.frames b.operands b.inits) e
    ∙ sym (back_to β β.saved b refl)
    ∙ h.saves

pub taken_back_checks : (m : Meaning) (σ β τ : State) (o : Op) (answer : Option ErrorKind) → Begins σ β → Checks m β o answer τ → rolled_back τ ≡ record σ { saved = none_saved }
taken_back_checks m σ β τ o answer h c = taken_back σ β τ h c.given c.saved

pub taken_back_visits : (m : Meaning) (σ β τ : State) (o : Op) (answer : Option ErrorKind) → Begins σ β → Visits m β o answer τ → rolled_back τ ≡ record σ { saved = none_saved }
taken_back_visits m σ β τ o answer h v = taken_back σ β τ h v.given v.saved
