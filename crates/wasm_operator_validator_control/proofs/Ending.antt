-- The ends of frames.
use Rattle.std.proofs.Common.{◌≡◌, ◌↔◌, ◌∙◌, List, [], ◌∷◌, Bool, false, IsTrue, Option, Some, None, refl, sym, ap, subst, append-nil}
use Rattle.wasm_types.specs.decoding.declared.error.ErrorKind.{ErrorKind}
use Rattle.wasm_types.specs.decoding.Denials.{Denies}
use Rattle.wasm_types.specs.decoding.DenialLaws.{denies, denies_from}
use Rattle.wasm_operators_immediates.specs.declared.block.BlockType.{BlockType}
use Rattle.wasm_operators_immediates.specs.declared.frames.FrameKind.{FrameKind}
use Rattle.wasm_operators_immediates.specs.declared.frames.FrameKind.TheVariants as frames
use Rattle.wasm_operators_immediates.specs.declared.proposal.Proposal.TheVariants.{Mvp}
use Rattle.wasm_operator_validator_rules.specs.Operands.{ValueType, Operand, AllBelow, all_known, stack}
use Rattle.wasm_operator_validator_rules.specs.Context.{Signature}
use Rattle.wasm_operator_validator_rules.specs.Typed.{MayClose}
use Rattle.wasm_operator_validator_state.specs.resources.Meaning.{Meaning}
use Rattle.wasm_operator_validator_state.specs.Refusals.{Does}
use Rattle.wasm_operator_validator_state.specs.declared.frame.Frame.{Frame as OpenFrame}
use Rattle.wasm_operator_validator_state.specs.State.{Open, State, signature_of, Accepts, Decides, Checks}
use Rattle.wasm_operator_validator_state.specs.Steps.{Stacks, SameFrames, Popped, MayPop, Pushed, IsBare, LeavesTo, begun}
use Rattle.wasm_operator_validator_state.specs.Entering.{MayBegin}
use Rattle.wasm_operator_validator_state.specs.laws.Checks.{checks_going}
use Rattle.wasm_operator_validator_state.specs.laws.Closing.{end, else}
use Rattle.wasm_operator_validator_state.specs.laws.Accepting.{MayEnd, results_of, ends}
use Rattle.wasm_operator_validator_state.specs.laws.Frames.{BeginsFrame, pushed_closes, IsIfTop, elses, bare, ended, turned, closes_nothing}
use Rattle.wasm_operator_validator_stacks.specs.determined.Operators.{Stays}
use Rattle.wasm_operator_validator_control.specs.Ending.{Finishes, MayFinish}
use Rattle.wasm_operator_validator_control.specs.laws.Labels.{frame_at, IsFrame}
use Rattle.wasm_operator_validator_control.specs.laws.Turned.{below_as_stacks}

-- the type and the kind of the innermost frame
abbrev pub IsTop : BlockType → FrameKind → List Open → Type 0
IsTop bt k [] = ⊥
IsTop bt k (o ∷ outer) = (bt ≡ o.block) × (k ≡ o.kind)

top_parts : (x y : BlockType × FrameKind) → ◌≡◌ {A = Option (BlockType × FrameKind)} (Some x) (Some y) → (x.0 ≡ y.0) × (x.1 ≡ y.1)
top_parts x y e = let f : x ≡ y = cc in (ap (λ (z : BlockType × FrameKind). z.0) f, ap (λ (z : BlockType × FrameKind). z.1) f)

pub is_top : (opens : List Open) (bt : BlockType) (k : FrameKind) → IsFrame (frame_at opens 0) bt k → IsTop bt k opens
is_top [] bt k e = absurd (nothing e)
  where
    nothing : IsFrame None bt k → ⊥
    nothing e = cc
is_top (o ∷ outer) bt k e = top_parts (bt, k) (o.block, o.kind) e

pub top_results : (m : Meaning) (opens : List Open) (bt : BlockType) (k : FrameKind) → IsTop bt k opens → stack (signature_of m bt).results ≡ results_of m opens
top_results m [] bt k t = absurd t
top_results m (o ∷ outer) bt k t = ap (λ (x : BlockType). stack (signature_of m x).results) t.0

pub top_end : (m : Meaning) (opens : List Open) (bt : BlockType) (k : FrameKind) → IsTop bt k opens → MayClose k (signature_of m bt) ↔ MayEnd m opens
top_end m [] bt k t = absurd t
top_end m (o ∷ outer) bt k t = rw (t.0, t.1) (λ x. x, λ x. x)

pub top_if : (opens : List Open) (bt : BlockType) (k : FrameKind) → IsTop bt k opens → (k ≡ frames.If) ↔ IsIfTop opens
top_if [] bt k t = absurd t
top_if (o ∷ outer) bt k t = (λ e. sym t.1 ∙ e, λ e. t.1 ∙ e)

-- the frame that was left has the type of the innermost
pub frames_type : (os ps : List Open) (σ : State) (f : OpenFrame) (τ : State) (bt : BlockType) (k : FrameKind) → IsTop bt k os → SameFrames os ps → LeavesTo ps σ f τ → f.block_type ≡ bt
frames_type [] ps σ f τ bt k t s l = absurd t
frames_type (o ∷ outer) [] σ f τ bt k t s l = absurd s
frames_type (o ∷ outer) (p ∷ others) σ f τ bt k t s l = l.2 ∙ s.1 ∙ sym t.0

-- ---- taking the results off and leaving

-- the results were taken off, and something was left
pub not_finished : (h : ErrorKind) (m : Meaning) (σ ρ : State) (bt : BlockType) → Popped m σ (stack (signature_of m bt).results) ρ → Denies h (IsBare ρ.opens)
    → Denies h (MayFinish m σ bt)
not_finished h m σ ρ bt p =
    denies_from h _ _ (λ c. bare m ρ.opens ((p.stacks []).0 (subst (λ (v : List Operand). Stacks m σ v) (sym (append-nil (stack (signature_of m bt).results))) c)))

-- they could not be taken off
pub not_popped : (h : ErrorKind) (m : Meaning) (σ : State) (bt : BlockType) → Denies h (MayPop m σ (stack (signature_of m bt).results)) → Denies h (MayFinish m σ bt)
not_popped h m σ bt =
    denies_from h _ _ (λ c. ([], subst (λ (v : List Operand). Stacks m σ v) (sym (append-nil (stack (signature_of m bt).results))) c))

-- what was taken off, by the innermost frame's results
pub top_popped : (m : Meaning) (σ κ : State) (bt : BlockType) (k : FrameKind) → IsTop bt k σ.opens → (x : Finishes m σ bt κ) → Popped m σ (results_of m σ.opens) x.bare
top_popped m σ κ bt k t x = subst (λ (v : List Operand). Popped m σ v x.bare) (top_results m σ.opens bt k t) x.popped

-- ---- end

pub end_unfinished : (h : ErrorKind) (m : Meaning) (σ τ : State) (bt : BlockType) (k : FrameKind) → MayBegin σ Mvp false → IsTop bt k σ.opens → Denies h (MayFinish m σ bt) → Stays σ τ
    → Checks m σ end (Some h) τ
end_unfinished h m σ τ bt k b t d s =
    checks_going (Some h) m σ τ end Mvp false b
    (denies_from h _ _ (λ (os, x). (let (f, c, n, a) = (ends m σ os b.framed).0 x in subst (λ (v : List Operand). Stacks m σ v) (sym (top_results m σ.opens bt k t)) c)) d)
    s.given s.failed s.saved

pub end_without_else : (h : ErrorKind) (m : Meaning) (σ τ : State) (bt : BlockType) (k : FrameKind) → MayBegin σ Mvp false → IsTop bt k σ.opens → (MayClose k (signature_of m bt) → ⊥)
    → Stays σ τ → Checks m σ end (Some h) τ
end_without_else h m σ τ bt k b t never s =
    checks_going (Some h) m σ τ end Mvp false b
    (denies h _ (λ (os, x). (let (f, c, n, a) = (ends m σ os b.framed).0 x in never ((top_end m σ.opens bt k t).1 n))))
    s.given s.failed s.saved

pub end_last : (m : Meaning) (σ κ : State) (bt : BlockType) (k : FrameKind) → MayBegin σ Mvp false → IsTop bt k σ.opens → Finishes m σ bt κ → MayClose k (signature_of m bt) → κ.opens ≡ []
    → Stays σ κ → Checks m σ end None κ
end_last m σ κ bt k b t x may n s =
    checks_going None m σ κ end Mvp false b
    (λ os. (let e = ended m σ x.bare x.frame κ (top_popped m σ κ bt k t x) ((top_end m σ.opens bt k t).0 may) x.leaves os in
    let g = closes_nothing m κ (results_of m σ.opens) n os in (λ y. g.0 (e.0 y), λ y. e.1 (g.1 y))))
    s.given s.failed s.saved

end_decided : (r : Option ErrorKind) (m : Meaning) (σ κ τ : State) (bt : BlockType) (k : FrameKind) → IsTop bt k σ.opens → Finishes m σ bt κ → MayClose k (signature_of m bt)
    → Does r (Pushed m κ (stack (signature_of m bt).results) τ) (Unit {0}) → Decides m σ end r τ
end_decided None m σ κ τ bt k t x may q = λ os.
    (let q' = subst (λ (v : List Operand). Pushed m κ v τ) (top_results m σ.opens bt k t) q in
    let e = ended m σ x.bare x.frame κ (top_popped m σ κ bt k t x) ((top_end m σ.opens bt k t).0 may) x.leaves os in
    let g = pushed_closes m κ τ (results_of m σ.opens) q' os in (λ y. g.0 (e.0 y), λ y. e.1 (g.1 y)))
end_decided (Some h) m σ κ τ bt k t x may q = denies_from h _ _ (λ y. tt) q

pub end_pushed : (r : Option ErrorKind) (m : Meaning) (σ κ τ : State) (bt : BlockType) (k : FrameKind) → MayBegin σ Mvp false → IsTop bt k σ.opens → Finishes m σ bt κ → MayClose k (signature_of m bt)
    → Does r (Pushed m κ (stack (signature_of m bt).results) τ) (Unit {0}) → Stays σ τ → Checks m σ end r τ
end_pushed r m σ κ τ bt k b t x may q s =
    checks_going r m σ τ end Mvp false b (end_decided r m σ κ τ bt k t x may q) s.given s.failed s.saved

-- ---- else

pub else_unfinished : (h : ErrorKind) (m : Meaning) (σ τ : State) (bt : BlockType) (k : FrameKind) → MayBegin σ Mvp false → IsTop bt k σ.opens → Denies h (MayFinish m σ bt) → Stays σ τ
    → Checks m σ else (Some h) τ
else_unfinished h m σ τ bt k b t d s =
    checks_going (Some h) m σ τ else Mvp false b
    (denies_from h _ _ (λ (os, x). (let (f, i, c, a) = (elses m σ os b.framed).0 x in subst (λ (v : List Operand). Stacks m σ v) (sym (top_results m σ.opens bt k t)) c)) d)
    s.given s.failed s.saved

pub else_outside : (h : ErrorKind) (m : Meaning) (σ : State) (bt : BlockType) (k : FrameKind) → MayBegin σ Mvp false → IsTop bt k σ.opens → (k ≡ frames.If → ⊥) → Checks m σ else (Some h) σ
else_outside h m σ bt k b t never =
    checks_going (Some h) m σ σ else Mvp false b
    (denies h _ (λ (os, x). (let (f, i, c, a) = (elses m σ os b.framed).0 x in never ((top_if σ.opens bt k t).1 i))))
    refl refl refl

-- the second part was opened, and has its parameters
else_decided : (r : Option ErrorKind) (m : Meaning) (σ κ ν τ : State) (bt : BlockType) (k : FrameKind) → IsTop bt k σ.opens → k ≡ frames.If → Finishes m σ bt κ
    → ν ≡ record κ { opens = begun frames.Else bt κ.inits ∷ κ.opens } → Does r (Pushed m ν (stack (signature_of m bt).params) τ) (Unit {0}) → Decides m σ else r τ
else_decided None m σ κ ν τ bt k t i x e q = λ os.
    (let n = frames_type σ.opens x.bare.opens x.bare x.frame κ bt k t x.popped.same.frames x.leaves in
    let y = turned m σ x.bare x.frame κ (top_popped m σ κ bt k t x) ((top_if σ.opens bt k t).0 i) x.leaves os in
    let z = subst (λ (c : BlockType). Accepts m σ (else ∷ os) ↔ BeginsFrame m κ frames.Else c os) n y in
    let q' : Pushed m (record κ { opens = begun frames.Else bt κ.inits ∷ κ.opens }) (stack (signature_of m bt).params) τ = subst (λ (v : State). Pushed m v (stack (signature_of m bt).params) τ) e q in
    let g = pushed_closes m (record κ { opens = begun frames.Else bt κ.inits ∷ κ.opens }) τ (stack (signature_of m bt).params) q' os in (λ a. g.0 (z.0 a), λ a. z.1 (g.1 a)))
else_decided (Some h) m σ κ ν τ bt k t i x e q = denies_from h _ _ (λ y. tt) q

pub else_pushed : (r : Option ErrorKind) (m : Meaning) (σ κ ν τ : State) (bt : BlockType) (k : FrameKind) → MayBegin σ Mvp false → IsTop bt k σ.opens → k ≡ frames.If → Finishes m σ bt κ
    → ν ≡ record κ { opens = begun frames.Else bt κ.inits ∷ κ.opens } → Does r (Pushed m ν (stack (signature_of m bt).params) τ) (Unit {0}) → Stays σ τ → Checks m σ else r τ
else_pushed r m σ κ ν τ bt k b t i x e q s =
    checks_going r m σ τ else Mvp false b (else_decided r m σ κ ν τ bt k t i x e q) s.given s.failed s.saved

-- ---- an `if` without `else`

pub if_closes : (b : Bool) (s : Signature) (ts us : List ValueType) → ts ≡ s.params → us ≡ s.results → IsTrue b ↔ AllBelow (all_known ts) (all_known us) → IsTrue b ↔ MayClose frames.If s
if_closes b s ts us e f i =
    let j = subst (λ (x : List ValueType). IsTrue b ↔ AllBelow (all_known x) (all_known us)) e i in
    let l = subst (λ (x : List ValueType). IsTrue b ↔ AllBelow (all_known s.params) (all_known x)) f j in
    let n = below_as_stacks s.params s.results in (λ t. n.0 (l.0 t), λ p. l.1 (n.1 p))
