-- How each kind of operator comes to lead from what was known to what is known after it, by the facts from which its check promises what may
-- follow. The names of laws are those of `wasm_operator_validator_state`.
use Rattle.std.proofs.Common.{◌≡◌, ◌↔◌, ◌∙◌, ℕ, List, [], ◌∷◌, ◌++◌, false, Option, Some, None, refl, sym, ap, subst, append-nil, ◌⊎◌, inl, inr}
use Rattle.wasm_operators_immediates.specs.declared.block.BlockType.{BlockType}
use Rattle.wasm_operators_immediates.specs.declared.frames.FrameKind.{FrameKind}
use Rattle.wasm_operators_enums.specs.Op.{Op}
use Rattle.wasm_operators_enums.specs.declared.role.Role.{Role}
use Rattle.wasm_operators_enums.specs.declared.role.Role.TheVariants as role
use Rattle.wasm_operators_enums.specs.declared.role.Effect.{Effect}
use Rattle.wasm_operators_enums.specs.declared.role.Effect.TheVariants as effects
use Rattle.wasm_operators_enums.specs.Roles.{role_of, effect}
use Rattle.wasm_operator_validator_rules.specs.Operands.{ValueType, Operand, AllBelow, stack}
use Rattle.wasm_operator_validator_rules.specs.Typed.{OpensFrame, entry_of, MayClose, EndsAt, Turns}
use Rattle.wasm_operator_validator_state.specs.resources.Meaning.{Meaning}
use Rattle.wasm_operator_validator_state.specs.declared.frame.Frame.{Frame as OpenFrame}
use Rattle.wasm_operator_validator_state.specs.State.{Given, Open, Saved, State, Covers, signature_of, results, context}
use Rattle.wasm_operator_validator_state.specs.Steps.{StacksOf, Stacks, IsOpen, SameFrames, Popped, Pushed, Entered, Leaves, LeavesTo, begun}
use Rattle.wasm_operator_validator_state.specs.laws.Operands.{all_below_refl}
use Rattle.wasm_operator_validator_state.specs.laws.Accepting.{Advanced, same_open, MayEnd, results_of}
use Rattle.wasm_operator_validator_state.specs.laws.Frames.{covers_nothing, finished}
use Rattle.wasm_operator_validator_soundness.specs.shown.Leading.{PutOn, Nested, Turned, Closed, LeadsBy, LeadsFrom, Leads}

-- the effect on the innermost frame
abbrev pub EffectAt : Op → Effect → List Open → Type 0
EffectAt o e [] = ⊥
EffectAt o e (p ∷ outer) = effect (role_of o) p.kind ≡ Some e

-- ---- an operator that neither opens nor ends a frame

pub leads_plain : (m : Meaning) (σ τ : State) (o : Op) → role_of o ≡ role.Plain → Advanced m σ o τ → Leads m σ o τ
leads_plain m σ τ o r a = at σ.opens (same_open σ.opens τ.opens a.frames).0
  where
    at : (os : List Open) → IsOpen os → LeadsFrom m σ o τ os
    at [] i = absurd i
    at (p ∷ outer) i = subst (λ (x : Role). LeadsBy m σ o τ p outer (effect x p.kind)) (sym r) a

-- ---- one that opens a frame

-- the operands of a frame that has just begun, after these were put on
first_operands : (m : Meaning) (τ : State) (xs s : List Operand) → Stacks m τ s ↔ (rest : List Operand) × Covers m false [] rest × AllBelow (xs ++ rest) s
    → Stacks m τ s ↔ AllBelow xs s
first_operands m τ xs s b = (
  λ c. (let (rest, d, l) = b.0 c in
      let l' : AllBelow (xs ++ []) s = subst (λ (v : List Operand). AllBelow (xs ++ v) s) (covers_nothing m rest d) l in
      subst (λ (v : List Operand). AllBelow v s) (append-nil xs) l'),
  λ l. b.1 ([], tt, subst (λ (v : List Operand). AllBelow v s) (sym (append-nil xs)) l),
)

pub entered_by : (m : Meaning) (ρ κ τ : State) (k : FrameKind) (b : BlockType) → κ ≡ record ρ { opens = begun k b ρ.inits ∷ ρ.opens }
    → Pushed m κ (stack (signature_of m b).params) τ → Entered m ρ k b τ
entered_by m ρ κ τ k b e q =
    let x : Pushed m (record ρ { opens = begun k b ρ.inits ∷ ρ.opens }) (stack (signature_of m b).params) τ
    = subst (λ (y : State). Pushed m y (stack (signature_of m b).params) τ) e q in
    record {
      given = x.same.given;
      inits = x.same.inits;
      saved = x.same.saved;
      frames = x.same.frames;
      stacks = λ s. first_operands m τ (stack (signature_of m b).params) s (x.stacks s);
    }

same_begun : (j : FrameKind) (b c : BlockType) (is js : List ℕ) (os ps qs : List Open) → c ≡ b → js ≡ is → ps ≡ os
    → SameFrames (begun j c js ∷ ps) qs → SameFrames (begun j b is ∷ os) qs
same_begun j b c is js os ps qs e f g s =
    subst (λ (x : BlockType). SameFrames (begun j x is ∷ os) qs) e
    (subst (λ (x : List ℕ). SameFrames (begun j c x ∷ os) qs) f (subst (λ (x : List Open). SameFrames (begun j c js ∷ x) qs) g s))

pub leads_opener : (m : Meaning) (σ ρ κ τ : State) (o : Op) (k : FrameKind) (b : BlockType) → role_of o ≡ role.Opens k
    → OpensFrame (context m σ.given σ.opens) o k (signature_of m b) → Popped m σ (stack (entry_of k (signature_of m b))) ρ
    → κ ≡ record ρ { opens = begun k b ρ.inits ∷ ρ.opens } → Pushed m κ (stack (signature_of m b).params) τ → Leads m σ o τ
leads_opener m σ ρ κ τ o k b r f p e q = at σ.opens (same_open σ.opens ρ.opens p.same.frames).0
  where
    nested : Nested m σ o k τ
    nested =
        let x = entered_by m ρ κ τ k b e q in
        record {
          block = b;
          left = ρ.opens;
          opens = f;
          around = p.same.frames;
          taken = p.stacks;
          given = x.given ∙ p.same.given;
          inits = x.inits ∙ p.same.inits;
          frames = same_begun k b b σ.inits ρ.inits ρ.opens ρ.opens τ.opens refl p.same.inits refl x.frames;
          stacks = x.stacks;
        }

    at : (os : List Open) → IsOpen os → LeadsFrom m σ o τ os
    at [] i = absurd i
    at (p ∷ outer) i = subst (λ (x : Role). LeadsBy m σ o τ p outer (effect x p.kind)) (sym r) nested

-- ---- one that ends a frame

put_on : (m : Meaning) (xs : List Operand) (os ps : List Open) → SameFrames os ps
    → ((n : List Operand) → StacksOf m ps n ↔ (rest : List Operand) × StacksOf m os rest × AllBelow (xs ++ rest) n) → PutOn m xs os ps
put_on m xs [] ps s b = absurd s
put_on m xs (p ∷ outer) ps s b = (s, b)

-- the results were put on what is left, or nothing is
abbrev pub PutOnRest : Meaning → State → List Operand → State → Type 0
PutOnRest m κ xs τ = ((κ.opens ≡ []) × (τ ≡ κ)) ⊎ Pushed m κ xs τ

-- what is left is as it was around the frame, with the operands put on
record Rest (m : Meaning) (κ : State) (xs : List Operand) (τ : State) : Type 0 where
  given : τ.given ≡ κ.given
  inits : τ.inits ≡ κ.inits
  left : PutOn m xs κ.opens τ.opens

rest_of : (m : Meaning) (κ : State) (xs : List Operand) (τ : State) → PutOnRest m κ xs τ → Rest m κ xs τ
rest_of m κ xs τ (inl (n, e)) = record {
  given = ap (λ (x : State). x.given) e;
  inits = ap (λ (x : State). x.inits) e;
  left = subst (λ (os : List Open). PutOn m xs os τ.opens) (sym n) (ap (λ (x : State). x.opens) e ∙ n);
}
rest_of m κ xs τ (inr q) = record { given = q.same.given; inits = q.same.inits; left = put_on m xs κ.opens τ.opens q.same.frames q.stacks }

closed_in : (m : Meaning) (σ ρ κ τ : State) (f : OpenFrame) (o : Op) (p : Open) (outer ps : List Open) → Covers m p.unreachable p.operands (stack (results m p))
    → MayClose p.kind (signature_of m p.block) → EndsAt (context m σ.given σ.opens) o → SameFrames (p ∷ outer) ps → LeavesTo ps ρ f κ → ρ.given ≡ σ.given
    → Rest m κ (stack (results m p)) τ → Closed m σ o p outer τ
closed_in m σ ρ κ τ f o p outer [] c may a s l g x = absurd s
closed_in m σ ρ κ τ f o p outer (q ∷ others) c may a s l g x =
    let e : κ.opens ≡ outer = ap (λ (y : State). y.opens) l.3 ∙ s.3 in
    record {
      may = may;
      at = a;
      ends = c;
      given = x.given ∙ ap (λ (y : State). y.given) l.3 ∙ g;
      inits = x.inits ∙ ap (λ (y : State). y.inits) l.3 ∙ s.2;
      left = subst (λ (os : List Open). PutOn m (stack (results m p)) os τ.opens) e x.left;
    }

pub leads_closed : (m : Meaning) (σ ρ κ τ : State) (f : OpenFrame) (o : Op) → EffectAt o effects.Closes σ.opens → Popped m σ (results_of m σ.opens) ρ
    → MayEnd m σ.opens → EndsAt (context m σ.given σ.opens) o → Leaves ρ f κ → PutOnRest m κ (results_of m σ.opens) τ → Leads m σ o τ
leads_closed m σ ρ κ τ f o i p may a l q = at σ.opens i (finished m σ ρ f κ p l) may p.same.frames (rest_of m κ (results_of m σ.opens) τ q)
  where
    at : (os : List Open) → EffectAt o effects.Closes os → StacksOf m os (results_of m os) → MayEnd m os → SameFrames os ρ.opens → Rest m κ (results_of m os) τ
        → LeadsFrom m σ o τ os
    at [] i c may s x = absurd i
    at (r ∷ outer) i c may s x = subst (LeadsBy m σ o τ r outer) (sym i) (closed_in m σ ρ κ τ f o r outer ρ.opens c may a s l p.same.given x)

-- ---- one between two parts of a frame

abbrev pub TurnsAt : Meaning → State → Op → List ValueType → List Open → Type 0
TurnsAt m σ o ts [] = ⊥
TurnsAt m σ o ts (p ∷ outer) = Turns (context m σ.given σ.opens) (signature_of m p.block) o ts

turned_in : (m : Meaning) (σ ρ κ τ : State) (f : OpenFrame) (o : Op) (j : FrameKind) (ts : List ValueType) (p : Open) (outer ps : List Open)
    → Covers m p.unreachable p.operands (stack (results m p)) → Turns (context m σ.given σ.opens) (signature_of m p.block) o ts → SameFrames (p ∷ outer) ps
    → LeavesTo ps ρ f κ → ρ.given ≡ σ.given → Pushed m (record κ { opens = begun j f.block_type κ.inits ∷ κ.opens }) (stack ts) τ → Turned m σ o j p outer τ
turned_in m σ ρ κ τ f o j ts p outer [] c t s l g q = absurd s
turned_in m σ ρ κ τ f o j ts p outer (r ∷ others) c t s l g q =
    let is : κ.inits ≡ p.before = ap (λ (y : State). y.inits) l.3 ∙ s.2 in
    record {
      types = ts;
      turns = t;
      ends = c;
      given = q.same.given ∙ ap (λ (y : State). y.given) l.3 ∙ g;
      inits = q.same.inits ∙ is;
      frames = same_begun j p.block f.block_type p.before κ.inits outer κ.opens τ.opens (l.2 ∙ s.1) is (ap (λ (y : State). y.opens) l.3 ∙ s.3) q.same.frames;
      stacks = λ n. first_operands m τ (stack ts) n (q.stacks n);
    }

pub leads_turned : (m : Meaning) (σ ρ κ ν τ : State) (f : OpenFrame) (o : Op) (j : FrameKind) (ts : List ValueType) → EffectAt o (effects.Turns j) σ.opens
    → Popped m σ (results_of m σ.opens) ρ → Leaves ρ f κ → TurnsAt m σ o ts σ.opens → ν ≡ record κ { opens = begun j f.block_type κ.inits ∷ κ.opens }
    → Pushed m ν (stack ts) τ → Leads m σ o τ
leads_turned m σ ρ κ ν τ f o j ts i p l t e q = at σ.opens i (finished m σ ρ f κ p l) t p.same.frames
  where
    pushed : Pushed m (record κ { opens = begun j f.block_type κ.inits ∷ κ.opens }) (stack ts) τ
    pushed = subst (λ (y : State). Pushed m y (stack ts) τ) e q

    at : (os : List Open) → EffectAt o (effects.Turns j) os → StacksOf m os (results_of m os) → TurnsAt m σ o ts os → SameFrames os ρ.opens → LeadsFrom m σ o τ os
    at [] i c t s = absurd i
    at (r ∷ outer) i c t s = subst (LeadsBy m σ o τ r outer) (sym i) (turned_in m σ ρ κ τ f o j ts r outer ρ.opens c t s l p.same.given pushed)

-- ---- what an attempt would put back makes no difference

pub leads_unsaved : (m : Meaning) (σ τ : State) (o : Op) (s t : Saved) → Leads m (record σ { saved = s }) o τ → Leads m σ o (record τ { saved = t })
leads_unsaved m σ τ o s t h = at σ.opens h
  where
    by : (p : Open) (outer : List Open) (e : Option Effect) → LeadsBy m (record σ { saved = s }) o τ p outer e → LeadsBy m σ o (record τ { saved = t }) p outer e
    by p outer None d = d
    by p outer (Some effects.Stays) d = record { given = d.given; set = d.set; frames = d.frames; failed = d.failed; stacks = d.stacks }
    by p outer (Some (effects.Nests k)) d = record {
      block = d.block;
      left = d.left;
      opens = d.opens;
      around = d.around;
      taken = d.taken;
      given = d.given;
      inits = d.inits;
      frames = d.frames;
      stacks = d.stacks;
    }
    by p outer (Some (effects.Turns k)) d = record { types = d.types; turns = d.turns; ends = d.ends; given = d.given; inits = d.inits; frames = d.frames; stacks = d.stacks }
    by p outer (Some effects.Closes) d = record { may = d.may; at = d.at; ends = d.ends; given = d.given; inits = d.inits; left = d.left }

    at : (os : List Open) → LeadsFrom m (record σ { saved = s }) o τ os → LeadsFrom m σ o (record τ { saved = t }) os
    at [] h = h
    at (p ∷ outer) h = by p outer (effect (role_of o) p.kind) h
