-- Checks of `try`, of its clauses and of `delegate`; the entry of operators that open, turn or end a frame and need a feature.
use Rattle.std.proofs.Common.{◌≡◌, ◌↔◌, ◌∙◌, ℕ, suc, List, [], ◌∷◌, Bool, false, IsTrue, Option, Some, None, refl, sym, ap, subst, map, slice_get, bit_and}
use Rattle.wasm_types.specs.settings.Features.{Floats}
use Rattle.wasm_types.specs.trees.Gates.{Has}
use Rattle.wasm_types.specs.decoding.declared.error.ErrorKind.{ErrorKind}
use Rattle.wasm_types.specs.decoding.Denials.{Denies}
use Rattle.wasm_types.specs.decoding.DenialLaws.{denies, denies_from}
use Rattle.wasm_operators_immediates.specs.declared.block.BlockType.{BlockType}
use Rattle.wasm_operators_immediates.specs.declared.frames.FrameKind.{FrameKind}
use Rattle.wasm_operators_immediates.specs.declared.frames.FrameKind.TheVariants as frames
use Rattle.wasm_operators_immediates.specs.Info.{features_of}
use Rattle.wasm_operators_immediates.specs.declared.proposal.Proposal.{Proposal}
use Rattle.wasm_operators_immediates.specs.declared.proposal.Proposal.TheVariants.{Exceptions, LegacyExceptions}
use Rattle.wasm_operators_immediates.specs.Tables.{CatchTable}
use Rattle.wasm_operators_enums.specs.Op as op
use Rattle.wasm_operators_enums.specs.Op.{Op}
use Rattle.wasm_operator_validator_rules.specs.Operands.{ValueType, Operand, stack}
use Rattle.wasm_operator_validator_rules.specs.Exceptions.{EachCatches}
use Rattle.wasm_operator_validator_rules.specs.Row.{IsEnabled}
use Rattle.wasm_operator_validator_rules.specs.Typed.{EndsAt}
use Rattle.wasm_operator_validator_state.specs.resources.Meaning.{Meaning}
use Rattle.wasm_operator_validator_state.specs.Refusals.{Does, kind_of}
use Rattle.wasm_operator_validator_state.specs.declared.refusal.Refusal.{Refusal}
use Rattle.wasm_operator_validator_state.specs.declared.frame.Frame.{Frame as OpenFrame}
use Rattle.wasm_operator_validator_state.specs.State.{Open, State, signature_of, label, context, Accepts, Decides, Checks}
use Rattle.wasm_operator_validator_state.specs.Steps.{Stacks, SameFrames, Pushed, IsOpen, LeavesTo, begun}
use Rattle.wasm_operator_validator_state.specs.Entering.{MayBegin, StopsWith}
use Rattle.wasm_operator_validator_state.specs.laws.Entering.{IsOf, accepts_open, enabled}
use Rattle.wasm_operator_validator_state.specs.laws.Checks.{stopped_so, checks_going}
use Rattle.wasm_operator_validator_state.specs.laws.Accepting.{results_of}
use Rattle.wasm_operator_validator_state.specs.laws.Frames.{may_open, pushed_closes}
use Rattle.wasm_operator_validator_state.specs.laws.Clauses.{IsTry, Begins, catch, catch_all, catch_begins, catch_all_begins, IsTryTop, TurnsTo, clauses, BeginsClause, TurnsToOnly, caught, delegate, IsBareTryTop, delegates, delegated}
use Rattle.wasm_operator_validator_stacks.specs.determined.Operators.{Stays}
use Rattle.wasm_operator_validator_control.specs.Clauses.{IsTagIn}
use Rattle.wasm_operator_validator_control.specs.Ending.{Finishes, MayFinish}
use Rattle.wasm_operator_validator_control.specs.laws.Labels.{frame_at, IsFrame, IsNoFrame, label_at, no_label_at, not_labelled}
use Rattle.wasm_operator_validator_control.proofs.Ending.{IsTop, top_results, top_popped, frames_type}
use Rattle.wasm_operator_validator_control.proofs.Tags.{one_tag}

-- ---- the entry

begins_enabled : (m : Meaning) (σ : State) (o : Op) (os : List Op) (p : Proposal) (f : Bool) → IsOf o p f → Accepts m σ (o ∷ os) → IsEnabled σ.given.bits o → MayBegin σ p f
begins_enabled m σ o os p f (e, h) x n = record {
  going = x.0;
  framed = accepts_open m σ o os x;
  allowed = subst (λ (y : Proposal). bit_and σ.given.bits (features_of y) ≡ features_of y) e n.proposal;
  float = subst (λ (y : Bool). IsTrue y → Has σ.given.bits Floats) h n.floats;
}

-- where the operator is accepted its features are on
abbrev pub NeedsFeatures : Meaning → State → Op → Type 0
NeedsFeatures m σ o = (os : List Op) → IsOpen σ.opens → Accepts m σ (o ∷ os) → IsEnabled σ.given.bits o

pub stopped_unless : (r : Refusal) (m : Meaning) (σ : State) (o : Op) (p : Proposal) (f : Bool) → IsOf o p f → NeedsFeatures m σ o → Denies (kind_of r) (MayBegin σ p f) → StopsWith σ p f r
    → Checks m σ o (Some (kind_of r)) σ
stopped_unless r m σ o p f i n d s = record {
  decides = denies_from (kind_of r) _ _ (λ (os, x). begins_enabled m σ o os p f i x (n os (accepts_open m σ o os x) x)) d;
  stopped = stopped_so σ p f r s;
  given = refl;
  failed = refl;
  saved = refl;
}

-- ---- try and try_table

abbrev pub try_op : BlockType → Op
try_op bt = op.Exception (op.Try bt)

abbrev pub try_table : CatchTable → Op
try_table t = op.Exception (op.TryTable t)

pub try_needs : (m : Meaning) (σ : State) (bt : BlockType) → NeedsFeatures m σ (try_op bt)
try_needs m σ bt os i x = let (b, rest, (r, t, asked), d) = may_open m σ (try_op bt) frames.LegacyTry os refl i x in asked

pub try_table_needs : (m : Meaning) (σ : State) (t : CatchTable) → NeedsFeatures m σ (try_table t)
try_table_needs m σ t os i x = let (b, rest, (r, h, asked), d) = may_open m σ (try_table t) frames.TryTable os refl i x in asked.0

-- a clause does not fit its label
pub not_caught : (h : ErrorKind) (m : Meaning) (σ : State) (t : CatchTable) → MayBegin σ Exceptions false → (EachCatches (context m σ.given σ.opens) t.catches → ⊥) → Checks m σ (try_table t) (Some h) σ
not_caught h m σ t b n =
    checks_going (Some h) m σ σ (try_table t) Exceptions false b
    (denies h _ (λ (os, x). (let (c, rest, (r, i, asked), d) = may_open m σ (try_table t) frames.TryTable os refl b.framed x in n asked.1)))
    refl refl refl

-- ---- clauses

pub clause_needs : (m : Meaning) (σ : State) (o : Op) (j : FrameKind) → Begins o j → ((ts : List ValueType) → TurnsTo m σ.given σ.opens o ts → IsEnabled σ.given.bits o) → NeedsFeatures m σ o
clause_needs m σ o j n e os i x = let (f, t, ts, begins, c, a) = (clauses m σ o j os n i).0 x in e ts begins

pub catch_needs : (m : Meaning) (σ : State) (x : ℕ) → NeedsFeatures m σ (catch x)
catch_needs m σ x = clause_needs m σ (catch x) frames.LegacyCatch (catch_begins x) (λ ts t. t.0)

pub catch_all_needs : (m : Meaning) (σ : State) → NeedsFeatures m σ catch_all
catch_all_needs m σ = clause_needs m σ catch_all frames.LegacyCatchAll catch_all_begins (λ ts t. t.0)

top_try : (opens : List Open) (bt : BlockType) (k : FrameKind) → IsTop bt k opens → IsTry k ↔ IsTryTop opens
top_try [] bt k t = absurd t
top_try (o ∷ outer) bt k t = (λ e. subst IsTry t.1 e, λ e. subst IsTry (sym t.1) e)

pub clause_outside : (h : ErrorKind) (m : Meaning) (σ : State) (o : Op) (j : FrameKind) (bt : BlockType) (k : FrameKind) → Begins o j → MayBegin σ LegacyExceptions false → IsTop bt k σ.opens
    → (IsTry k → ⊥) → Checks m σ o (Some h) σ
clause_outside h m σ o j bt k n b t never =
    checks_going (Some h) m σ σ o LegacyExceptions false b
    (denies h _ (λ (os, x). (let (f, i, ts, begins, c, a) = (clauses m σ o j os n b.framed).0 x in never ((top_try σ.opens bt k t).1 i))))
    refl refl refl

-- no tag is named
pub clause_unnamed : (h : ErrorKind) (m : Meaning) (σ : State) (o : Op) (j : FrameKind) → Begins o j → MayBegin σ LegacyExceptions false
    → ((ts : List ValueType) → TurnsTo m σ.given σ.opens o ts → ⊥) → Checks m σ o (Some h) σ
clause_unnamed h m σ o j n b never =
    checks_going (Some h) m σ σ o LegacyExceptions false b
    (denies h _ (λ (os, x). (let (f, i, ts, begins, c, a) = (clauses m σ o j os n b.framed).0 x in never ts begins)))
    refl refl refl

pub clause_unfinished : (h : ErrorKind) (m : Meaning) (σ τ : State) (o : Op) (j : FrameKind) (bt : BlockType) (k : FrameKind) → Begins o j → MayBegin σ LegacyExceptions false → IsTop bt k σ.opens
    → Denies h (MayFinish m σ bt) → Stays σ τ → Checks m σ o (Some h) τ
clause_unfinished h m σ τ o j bt k n b t d s =
    checks_going (Some h) m σ τ o LegacyExceptions false b
    (denies_from h _ _ (λ (os, x). (let (f, i, ts, begins, c, a) = (clauses m σ o j os n b.framed).0 x in
    subst (λ (v : List Operand). Stacks m σ v) (sym (top_results m σ.opens bt k t)) c)) d)
    s.given s.failed s.saved

-- the clause was opened, and has these operands
clause_decided : (r : Option ErrorKind) (m : Meaning) (σ κ ν τ : State) (o : Op) (j : FrameKind) (bt : BlockType) (k : FrameKind) (ts : List ValueType) → Begins o j → IsTop bt k σ.opens → IsTry k
    → TurnsToOnly m σ o ts → Finishes m σ bt κ → ν ≡ record κ { opens = begun j bt κ.inits ∷ κ.opens } → Does r (Pushed m ν (stack ts) τ) (Unit {0}) → Decides m σ o r τ
clause_decided None m σ κ ν τ o j bt k ts n t i turns x e q = λ os.
    (let c = frames_type σ.opens x.bare.opens x.bare x.frame κ bt k t x.popped.same.frames x.leaves in
    let y = caught m σ x.bare x.frame κ o j ts n (top_popped m σ κ bt k t x) ((top_try σ.opens bt k t).0 i) x.leaves turns os in
    let z = subst (λ (v : BlockType). Accepts m σ (o ∷ os) ↔ BeginsClause m κ j v ts os) c y in
    let q' : Pushed m (record κ { opens = begun j bt κ.inits ∷ κ.opens }) (stack ts) τ = subst (λ (v : State). Pushed m v (stack ts) τ) e q in
    let g = pushed_closes m (record κ { opens = begun j bt κ.inits ∷ κ.opens }) τ (stack ts) q' os in (λ a. g.0 (z.0 a), λ a. z.1 (g.1 a)))
clause_decided (Some h) m σ κ ν τ o j bt k ts n t i turns x e q = denies_from h _ _ (λ y. tt) q

pub clause_pushed : (r : Option ErrorKind) (m : Meaning) (σ κ ν τ : State) (o : Op) (j : FrameKind) (bt : BlockType) (k : FrameKind) (ts : List ValueType) → Begins o j → MayBegin σ LegacyExceptions false
    → IsTop bt k σ.opens → IsTry k → TurnsToOnly m σ o ts → Finishes m σ bt κ → ν ≡ record κ { opens = begun j bt κ.inits ∷ κ.opens } → Does r (Pushed m ν (stack ts) τ) (Unit {0}) → Stays σ τ
    → Checks m σ o r τ
clause_pushed r m σ κ ν τ o j bt k ts n b t i turns x e q s =
    checks_going r m σ τ o LegacyExceptions false b (clause_decided r m σ κ ν τ o j bt k ts n t i turns x e q) s.given s.failed s.saved

-- what each of them begins with
pub catch_turns : (m : Meaning) (σ : State) (x : ℕ) (ts : List ValueType) → MayBegin σ LegacyExceptions false → IsTagIn m x ts → TurnsToOnly m σ (catch x) ts
catch_turns m σ x ts b t = ((enabled σ (catch x) LegacyExceptions false (refl, refl) b, t), λ us u. one_tag m x ts us t u.1)

pub catch_all_turns : (m : Meaning) (σ : State) → MayBegin σ LegacyExceptions false → TurnsToOnly m σ catch_all []
catch_all_turns m σ b = ((enabled σ catch_all LegacyExceptions false (refl, refl) b, refl), λ us u. u.1)

pub no_catch : (m : Meaning) (σ : State) (x : ℕ) → ((ts : List ValueType) → IsTagIn m x ts → ⊥) → (ts : List ValueType) → TurnsTo m σ.given σ.opens (catch x) ts → ⊥
no_catch m σ x n ts t = n ts t.1

-- ---- delegate

pub delegate_needs : (m : Meaning) (σ : State) (l : ℕ) → NeedsFeatures m σ (delegate l)
delegate_needs m σ l os i x = let (f, t, c, asked, a) = (delegates m σ l os i).0 x in asked.0

top_bare_try : (opens : List Open) (bt : BlockType) (k : FrameKind) → IsTop bt k opens → (k ≡ frames.LegacyTry) ↔ IsBareTryTop opens
top_bare_try [] bt k t = absurd t
top_bare_try (o ∷ outer) bt k t = (λ e. sym t.1 ∙ e, λ e. t.1 ∙ e)

pub delegate_outside : (h : ErrorKind) (m : Meaning) (σ : State) (l : ℕ) (bt : BlockType) (k : FrameKind) → MayBegin σ LegacyExceptions false → IsTop bt k σ.opens → (k ≡ frames.LegacyTry → ⊥)
    → Checks m σ (delegate l) (Some h) σ
delegate_outside h m σ l bt k b t never =
    checks_going (Some h) m σ σ (delegate l) LegacyExceptions false b
    (denies h _ (λ (os, x). (let (f, i, c, asked, a) = (delegates m σ l os b.framed).0 x in never ((top_bare_try σ.opens bt k t).1 i))))
    refl refl refl

pub delegate_unfinished : (h : ErrorKind) (m : Meaning) (σ τ : State) (l : ℕ) (bt : BlockType) (k : FrameKind) → MayBegin σ LegacyExceptions false → IsTop bt k σ.opens → Denies h (MayFinish m σ bt)
    → Stays σ τ → Checks m σ (delegate l) (Some h) τ
delegate_unfinished h m σ τ l bt k b t d s =
    checks_going (Some h) m σ τ (delegate l) LegacyExceptions false b
    (denies_from h _ _ (λ (os, x). (let (f, i, c, asked, a) = (delegates m σ l os b.framed).0 x in
    subst (λ (v : List Operand). Stacks m σ v) (sym (top_results m σ.opens bt k t)) c)) d)
    s.given s.failed s.saved

-- the frames around the one that was left
around : (m : Meaning) (os ps : List Open) (σ : State) (f : OpenFrame) (τ : State) (l : ℕ) → SameFrames os ps → LeavesTo ps σ f τ
    → slice_get (map (label m) os) (suc l) ≡ slice_get (map (label m) τ.opens) l
around m [] ps σ f τ l s e = absurd s
around m (o ∷ outer) [] σ f τ l s e = absurd s
around m (o ∷ outer) (p ∷ others) σ f τ l s e =
    sym (ap (λ (v : List Open). slice_get (map (label m) v) l) (ap (λ (x : State). x.opens) e.3 ∙ s.3))

left_around : (m : Meaning) (σ κ : State) (bt : BlockType) (l : ℕ) → (x : Finishes m σ bt κ) → slice_get (map (label m) σ.opens) (suc l) ≡ slice_get (map (label m) κ.opens) l
left_around m σ κ bt l x = around m σ.opens x.bare.opens x.bare x.frame κ l x.popped.same.frames x.leaves

pub delegate_nowhere : (h : ErrorKind) (m : Meaning) (σ κ : State) (l : ℕ) (bt : BlockType) → MayBegin σ LegacyExceptions false → Finishes m σ bt κ → IsNoFrame (frame_at κ.opens l) → Stays σ κ
    → Checks m σ (delegate l) (Some h) κ
delegate_nowhere h m σ κ l bt b x e s =
    checks_going (Some h) m σ κ (delegate l) LegacyExceptions false b
    (denies h _ (λ (os, y). (let (f, i, c, asked, a) = (delegates m σ l os b.framed).0 y in
    not_labelled asked.1 (slice_get (map (label m) σ.opens) (suc l)) (left_around m σ κ bt l x ∙ no_label_at m κ.opens l e) asked.2)))
    s.given s.failed s.saved

delegate_decided : (r : Option ErrorKind) (m : Meaning) (σ κ τ : State) (l : ℕ) (bt : BlockType) (k : FrameKind) → IsTop bt k σ.opens → k ≡ frames.LegacyTry
    → EndsAt (context m σ.given σ.opens) (delegate l) → Finishes m σ bt κ → Does r (Pushed m κ (stack (signature_of m bt).results) τ) (Unit {0}) → Decides m σ (delegate l) r τ
delegate_decided None m σ κ τ l bt k t i asked x q = λ os.
    (let q' = subst (λ (v : List Operand). Pushed m κ v τ) (top_results m σ.opens bt k t) q in
    let e = delegated m σ x.bare x.frame κ l (top_popped m σ κ bt k t x) ((top_bare_try σ.opens bt k t).0 i) asked x.leaves os in
    let g = pushed_closes m κ τ (results_of m σ.opens) q' os in (λ y. g.0 (e.0 y), λ y. e.1 (g.1 y)))
delegate_decided (Some h) m σ κ τ l bt k t i asked x q = denies_from h _ _ (λ y. tt) q

pub delegate_pushed : (r : Option ErrorKind) (m : Meaning) (σ κ τ : State) (l : ℕ) (bt : BlockType) (k : FrameKind) (bl : BlockType) (n : FrameKind) → MayBegin σ LegacyExceptions false
    → IsTop bt k σ.opens → k ≡ frames.LegacyTry → Finishes m σ bt κ → IsFrame (frame_at κ.opens l) bl n → Does r (Pushed m κ (stack (signature_of m bt).results) τ) (Unit {0}) → Stays σ τ
    → Checks m σ (delegate l) r τ
delegate_pushed r m σ κ τ l bt k bl n b t i x e q s =
    checks_going r m σ τ (delegate l) LegacyExceptions false b
    (delegate_decided r m σ κ τ l bt k t i
    (enabled σ (delegate l) LegacyExceptions false (refl, refl) b, _, left_around m σ κ bt l x ∙ label_at m κ.opens l bl n e) x q)
    s.given s.failed s.saved
