-- What is accepted where a clause of an older `try` begins, and where `delegate` ends one.
use Rattle.std.proofs.Common.{◌≡◌, ◌↔◌, ◌∙◌, ℕ, List, [], ◌∷◌, ◌++◌, Bool, true, false, Option, Some, refl, sym, ap, subst, append-nil}
use Rattle.wasm_operators_immediates.specs.declared.block.BlockType.{BlockType}
use Rattle.wasm_operators_immediates.specs.declared.frames.FrameKind.{FrameKind}
use Rattle.wasm_operators_immediates.specs.declared.frames.FrameKind.TheVariants as frames
use Rattle.wasm_operators_enums.specs.Op as op
use Rattle.wasm_operators_enums.specs.Op.{Op}
use Rattle.wasm_operators_enums.specs.declared.role.Role.TheVariants as role
use Rattle.wasm_operators_enums.specs.declared.role.Effect.{Effect}
use Rattle.wasm_operators_enums.specs.declared.role.Effect.TheVariants as effects
use Rattle.wasm_operators_enums.specs.Roles.{role_of, clause, effect}
use Rattle.wasm_operators_encoding.specs.expressions.Code.{Code, close, plain, nested, turn, walk, IsIn}
use Rattle.wasm_operator_validator_rules.specs.Operands.{ValueType, Operand, AllBelow, stack}
use Rattle.wasm_operator_validator_rules.specs.Context.{Context, Initialised, Signature, Frame, in_clause, is_catch}
use Rattle.wasm_operator_validator_rules.specs.Typed.{MayClose, EndsAt, Turns, part_kind, other_part, in_part, Typed}
use Rattle.wasm_operator_validator_resources.specs.Meaning.{Meaning}
use Rattle.wasm_operator_validator_state.specs.declared.frame.Frame.{Frame as OpenFrame}
use Rattle.wasm_operator_validator_state.specs.State.{Given, Open, State, Covers, signature_of, initialised, results, context, frame_of, InFrame, ClosesAll, Accepts}
use Rattle.wasm_operator_validator_state.specs.Steps.{Stacks, IsOpen, SameFrames, Popped, begun, LeavesTo, Leaves}
use Rattle.wasm_operator_validator_state.specs.laws.Operands.{all_below_refl}
use Rattle.wasm_operator_validator_state.specs.laws.Closing.{Next}
use Rattle.wasm_operator_validator_state.specs.laws.Accepting.{stacks_below, same_open, Left, closes_left, results_of, AfterEnd}
use Rattle.wasm_operator_validator_state.specs.laws.Frames.{ClosesFrom, context_by, covers_nothing, finished, end_left, left_failed}

-- ---- a clause in a frame

-- a frame that a clause may turn
abbrev pub IsTry : FrameKind → Type 0
IsTry frames.LegacyTry = Unit {0}
IsTry frames.LegacyCatch = Unit {0}
IsTry k = ⊥

-- the operator begins a clause of this kind, and what it begins with does not depend on the type of the `try`
pub record Begins (o : Op) (j : FrameKind) : Type 0 where
  pub does : (k : FrameKind) → effect (role_of o) k ≡ clause j k
  pub kind : part_kind o ≡ j
  pub within : (g : Context) → in_part o g ≡ in_clause g
  pub marks : is_catch j ≡ true
  pub turns : (g : Context) (b c : Signature) (ts : List ValueType) → Turns g b o ts → Turns g c o ts

abbrev pub catch : ℕ → Op
catch x = op.Exception (op.Catch x)

abbrev pub catch_all : Op
catch_all = op.Exception op.CatchAll

pub catch_begins : (x : ℕ) → Begins (catch x) frames.LegacyCatch
catch_begins x = record { does = λ k. refl; kind = refl; within = λ g. refl; marks = refl; turns = λ g b c ts t. t }

pub catch_all_begins : Begins catch_all frames.LegacyCatchAll
catch_all_begins = record { does = λ k. refl; kind = refl; within = λ g. refl; marks = refl; turns = λ g b c ts t. t }

turns_try : (j k : FrameKind) (e : Effect) → clause j k ≡ Some e → IsTry k × (e ≡ effects.Turns j)
turns_try j frames.Block e h = cc
turns_try j frames.If e h = cc
turns_try j frames.Else e h = cc
turns_try j frames.Loop e h = cc
turns_try j frames.TryTable e h = cc
turns_try j frames.LegacyTry e h = (tt, cc)
turns_try j frames.LegacyCatch e h = (tt, cc)
turns_try j frames.LegacyCatchAll e h = cc

try_turns : (j k : FrameKind) → IsTry k → clause j k ≡ Some (effects.Turns j)
try_turns j frames.LegacyTry t = refl
try_turns j frames.LegacyCatch t = refl
try_turns j k t = absurd t

-- the clause begins with these operands
abbrev pub TurnsFrame : Context → Frame → Op → List Operand → List Op → Next → Type 0
TurnsFrame g f o s os K =
    IsTry f.kind × (ts : List ValueType) × Turns g f.block o ts × AllBelow s (stack f.block.results) × InFrame (in_part o g) (other_part o f) f.before (stack ts) os K

pub in_turn : (g : Context) (f : Frame) (set : Initialised) (s : List Operand) (o : Op) (j : FrameKind) (os : List Op) (K : Next) → Begins o j
    → InFrame g f set s (o ∷ os) K ↔ TurnsFrame g f o s os K
in_turn g f set s o j os K n = (ahead, back)
  where
    of : (q : Op) (e : Effect) → effect (role_of q) f.kind ≡ Some e → q ≡ o → IsTry f.kind × (e ≡ effects.Turns j)
    of q e i h = turns_try j f.kind e (sym (n.does f.kind) ∙ ap (λ (x : Op). effect (role_of x) f.kind) (sym h) ∙ i)

    ahead : InFrame g f set s (o ∷ os) K → TurnsFrame g f o s os K
    ahead (close q, rest, i, e, y, k) = let x : effects.Closes ≡ effects.Turns j = (of q effects.Closes i cc).1 in cc
    ahead (plain q more, rest, i, e, y, k) = let x : effects.Stays ≡ effects.Turns j = (of q effects.Stays i.0 cc).1 in cc
    ahead (nested q body more, rest, (l, i, w, v), e, y, k) = let x : effects.Nests l ≡ effects.Turns j = (of q (effects.Nests l) i cc).1 in cc
    ahead (turn q more, rest, (l, i, w), e, (ts, begins, b, y), k) =
        let h : q ≡ o = cc in
        let t = of q (effects.Turns l) i h in
        let u : l ≡ j = let x = t.1 in cc in (
          t.0,
          ts,
          subst (λ (x : Op). Turns g f.block x ts) h begins,
          b,
          (
            more,
            rest,
            subst (λ (x : FrameKind). IsIn x more) (u ∙ sym n.kind) w,
            cc,
            subst (λ (x : Op). Typed (in_part x g) (other_part x f) f.before more (stack ts)) h y,
            k,
          ),
        )

    back : TurnsFrame g f o s os K → InFrame g f set s (o ∷ os) K
    back (t, ts, begins, b, (c, rest, i, e, y, k)) = (
      turn o c,
      rest,
      (j, n.does f.kind ∙ try_turns j f.kind t, subst (λ (x : FrameKind). IsIn x c) n.kind i),
      ap (λ (xs : List Op). o ∷ xs) e,
      (ts, begins, b, y),
      k,
    )

-- ---- a clause in the innermost frame

abbrev pub IsTryTop : List Open → Type 0
IsTryTop [] = ⊥
IsTryTop (o ∷ outer) = IsTry o.kind

-- the clause begins with these operands, and with the locals that were set where the `try` began
abbrev pub AfterTurn : Meaning → Given → FrameKind → List ValueType → List Open → List Op → Type 0
AfterTurn m w j ts [] os = ⊥
AfterTurn m w j ts (o ∷ outer) os = ClosesAll m w (stack ts) (begun j o.block o.before ∷ outer) (initialised m w o.before) os

abbrev nothing : Signature
nothing = record { params = []; results = [] }

-- what an operator turns the innermost frame to
abbrev pub TurnsTo : Meaning → Given → List Open → Op → List ValueType → Type 0
TurnsTo m w opens o ts = Turns (context m w opens) nothing o ts

try_context : (m : Meaning) (w : Given) (bt : BlockType) (outer : List Open) (k : FrameKind) → IsTry k
    → in_clause (context_by m w bt outer k) ≡ context_by m w bt outer frames.LegacyCatch
try_context m w bt outer frames.LegacyTry t = refl
try_context m w bt outer frames.LegacyCatch t = refl
try_context m w bt outer k t = absurd t

catch_context : (m : Meaning) (w : Given) (bt : BlockType) (outer : List Open) (j : FrameKind) → is_catch j ≡ true
    → context_by m w bt outer frames.LegacyCatch ≡ context_by m w bt outer j
catch_context m w bt outer frames.LegacyCatch c = refl
catch_context m w bt outer frames.LegacyCatchAll c = refl
catch_context m w bt outer frames.Block c = cc
catch_context m w bt outer frames.If c = cc
catch_context m w bt outer frames.Else c = cc
catch_context m w bt outer frames.Loop c = cc
catch_context m w bt outer frames.TryTable c = cc
catch_context m w bt outer frames.LegacyTry c = cc

clause_context : (m : Meaning) (w : Given) (p : Open) (outer : List Open) (o : Op) (j : FrameKind) → Begins o j → IsTry p.kind
    → in_part o (context m w (p ∷ outer)) ≡ context m w (begun j p.block p.before ∷ outer)
clause_context m w p outer o j n t =
    n.within (context m w (p ∷ outer)) ∙ try_context m w p.block outer p.kind t ∙ catch_context m w p.block outer j n.marks

-- code of the frame of a clause
abbrev InClause : Meaning → Given → Open → List Open → List Op → Context → FrameKind → List Operand → Type 0
InClause m w p outer os g k v =
    InFrame g (record { kind = k; block = signature_of m p.block; before = initialised m w p.before }) (initialised m w p.before) v os
    (λ rest. ClosesAll m w (stack (results m p)) outer (initialised m w p.before) rest)

by_place : (P : Context → FrameKind → List Operand → Type 0) (g h : Context) (j k : FrameKind) (s t : List Operand) → g ≡ h → j ≡ k → s ≡ t → P g j s ↔ P h k t
by_place P g h j k s t e f i = rw (e, f, i) (λ x. x, λ x. x)

left_turn : (m : Meaning) (w : Given) (opens : List Open) (set : Initialised) (s : List Operand) (o : Op) (j : FrameKind) (os : List Op) → Begins o j
    → Left m w opens set s (o ∷ os) ↔ (IsTryTop opens × (ts : List ValueType) × TurnsTo m w opens o ts × AllBelow s (results_of m opens) × AfterTurn m w j ts opens os)
left_turn m w [] set s o j os n = (λ a. absurd a, λ a. absurd a.0)
left_turn m w (p ∷ outer) set s o j os n = (ahead, back)
  where
    inner : InFrame (context m w (p ∷ outer)) (frame_of m w p) set s (o ∷ os) (λ rest. ClosesAll m w (stack (results m p)) outer (initialised m w p.before) rest)
        ↔ TurnsFrame (context m w (p ∷ outer)) (frame_of m w p) o s os (λ rest. ClosesAll m w (stack (results m p)) outer (initialised m w p.before) rest)
    inner = in_turn (context m w (p ∷ outer)) (frame_of m w p) set s o j os (λ rest. ClosesAll m w (stack (results m p)) outer (initialised m w p.before) rest) n

    place : (ts : List ValueType) (v : List Operand) → IsTry p.kind → v ≡ []
        → InClause m w p outer os (in_part o (context m w (p ∷ outer))) (part_kind o) (stack ts) ↔ InClause m w p outer os (context m w (begun j p.block p.before ∷ outer)) j (stack ts ++ v)
    place ts v t e =
        by_place (InClause m w p outer os) (in_part o (context m w (p ∷ outer))) (context m w (begun j p.block p.before ∷ outer)) (part_kind o) j (stack ts) (stack ts ++ v)
        (clause_context m w p outer o j n t) n.kind (sym (append-nil (stack ts)) ∙ ap (λ (u : List Operand). stack ts ++ u) (sym e))

    ahead : Left m w (p ∷ outer) set s (o ∷ os)
        → IsTry p.kind × (ts : List ValueType) × TurnsTo m w (p ∷ outer) o ts × AllBelow s (stack (results m p)) × AfterTurn m w j ts (p ∷ outer) os
    ahead l =
        let (t, ts, begins, b, x) = inner.0 l in
        (t, ts, n.turns (context m w (p ∷ outer)) (signature_of m p.block) nothing ts begins, b, ([], tt, (place ts [] t refl).0 x))

    back : IsTry p.kind × (ts : List ValueType) × TurnsTo m w (p ∷ outer) o ts × AllBelow s (stack (results m p)) × AfterTurn m w j ts (p ∷ outer) os
        → Left m w (p ∷ outer) set s (o ∷ os)
    back (t, ts, begins, b, (v, c, x)) =
        inner.1 (t, ts, n.turns (context m w (p ∷ outer)) nothing (signature_of m p.block) ts begins, b, (place ts v t (covers_nothing m v c)).1 x)

-- where a clause may come, and what goes on then
abbrev pub ClauseGoes : Meaning → State → Op → FrameKind → List Op → Type 0
ClauseGoes m σ o j os =
    (σ.failed ≡ false) × IsTryTop σ.opens × (ts : List ValueType) × TurnsTo m σ.given σ.opens o ts × Stacks m σ (results_of m σ.opens) × AfterTurn m σ.given j ts σ.opens os

pub clauses : (m : Meaning) (σ : State) (o : Op) (j : FrameKind) (os : List Op) → Begins o j → IsOpen σ.opens → Accepts m σ (o ∷ os) ↔ ClauseGoes m σ o j os
clauses m σ o j os n i = (ahead, back)
  where
    ahead : Accepts m σ (o ∷ os) → ClauseGoes m σ o j os
    ahead (f, x) =
        let (s, c, l) = (closes_left m σ.given [] σ.opens _ (o ∷ os) i).0 x in
        let (t, ts, begins, b, a) = (left_turn m σ.given σ.opens _ s o j os n).0 l in
        (f, t, ts, begins, stacks_below m σ.opens s _ c b, a)

    back : ClauseGoes m σ o j os → Accepts m σ (o ∷ os)
    back (f, t, ts, begins, c, a) = (
      f,
      (closes_left m σ.given [] σ.opens _ (o ∷ os) i).1
          (results_of m σ.opens, c, (left_turn m σ.given σ.opens _ (results_of m σ.opens) o j os n).1 (t, ts, begins, all_below_refl (results_of m σ.opens), a)),
    )

-- ---- the innermost frame is left for a clause

-- a clause has just begun, and these operands are on it
abbrev pub BeginsClause : Meaning → State → FrameKind → BlockType → List ValueType → List Op → Type 0
BeginsClause m τ j bt ts os = ClosesFrom m (record τ { opens = begun j bt τ.inits ∷ τ.opens }) (stack ts) os

clause_parts : (P : Given → List ℕ → BlockType → List Open → Type 0) (v w : Given) (js is : List ℕ) (c b : BlockType) (ps os : List Open)
    → v ≡ w → js ≡ is → c ≡ b → ps ≡ os → P w is b os ↔ P v js c ps
clause_parts P v w js is c b ps os e f g h = rw (e, f, g, h) (λ x. x, λ x. x)

clause_left : (m : Meaning) (w : Given) (j : FrameKind) (ts : List ValueType) (opens ps : List Open) (ρ : State) (f : OpenFrame) (τ : State) (os : List Op) → SameFrames opens ps → LeavesTo ps ρ f τ
    → ρ.given ≡ w → AfterTurn m w j ts opens os ↔ ClosesAll m τ.given (stack ts) (begun j f.block_type τ.inits ∷ τ.opens) (initialised m τ.given τ.inits) os
clause_left m w j ts [] ps ρ f τ os s l e = absurd s
clause_left m w j ts (o ∷ outer) [] ρ f τ os s l e = absurd s
clause_left m w j ts (o ∷ outer) (p ∷ others) ρ f τ os s l e =
    clause_parts (λ (v : Given) (js : List ℕ) (c : BlockType) (ps : List Open). ClosesAll m v (stack ts) (begun j c js ∷ ps) (initialised m v js) os)
    τ.given w τ.inits o.before f.block_type o.block τ.opens outer
    (ap (λ (x : State). x.given) l.3 ∙ e) (ap (λ (x : State). x.inits) l.3 ∙ s.2) (l.2 ∙ s.1) (ap (λ (x : State). x.opens) l.3 ∙ s.3)

-- the operator turns the frame to these operands and to no others
abbrev pub TurnsToOnly : Meaning → State → Op → List ValueType → Type 0
TurnsToOnly m σ o ts = TurnsTo m σ.given σ.opens o ts × ((us : List ValueType) → TurnsTo m σ.given σ.opens o us → us ≡ ts)

pub caught : (m : Meaning) (σ ρ : State) (f : OpenFrame) (τ : State) (o : Op) (j : FrameKind) (ts : List ValueType) → Begins o j → Popped m σ (results_of m σ.opens) ρ → IsTryTop σ.opens
    → Leaves ρ f τ → TurnsToOnly m σ o ts → (os : List Op) → Accepts m σ (o ∷ os) ↔ BeginsClause m τ j f.block_type ts os
caught m σ ρ f τ o j ts n p t l (begins, only) os =
    let i = (same_open σ.opens ρ.opens p.same.frames).0 in
    let e = clause_left m σ.given j ts σ.opens ρ.opens ρ f τ os p.same.frames l p.same.given in
    let g : τ.failed ≡ σ.failed = left_failed ρ.opens ρ f τ l ∙ p.same.failed in (
      λ x. (let (h, k, us, b, c, a) = (clauses m σ o j os n i).0 x in
          (g ∙ h, e.0 (subst (λ (v : List ValueType). AfterTurn m σ.given j v σ.opens os) (only us b) a))),
      λ (h, a). (clauses m σ o j os n i).1 (sym g ∙ h, t, ts, begins, finished m σ ρ f τ p l, e.1 a),
    )

-- ---- `delegate`

abbrev pub delegate : ℕ → Op
delegate l = op.Exception (op.Delegate l)

delegate_closes : (k : FrameKind) (e : Effect) → effect role.Delegate k ≡ Some e → (k ≡ frames.LegacyTry) × (e ≡ effects.Closes)
delegate_closes frames.Block e h = cc
delegate_closes frames.If e h = cc
delegate_closes frames.Else e h = cc
delegate_closes frames.Loop e h = cc
delegate_closes frames.TryTable e h = cc
delegate_closes frames.LegacyTry e h = (refl, cc)
delegate_closes frames.LegacyCatch e h = cc
delegate_closes frames.LegacyCatchAll e h = cc

abbrev pub Delegates : Context → Frame → ℕ → List Operand → Type 0 → Type 0
Delegates g f l s Then = (f.kind ≡ frames.LegacyTry) × AllBelow s (stack f.block.results) × EndsAt g (delegate l) × Then

pub in_delegate : (g : Context) (f : Frame) (set : Initialised) (s : List Operand) (l : ℕ) (os : List Op) (K : Next)
    → InFrame g f set s (delegate l ∷ os) K ↔ Delegates g f l s (K os)
in_delegate g f set s l os K = (ahead, back)
  where
    of : (q : Op) (e : Effect) → effect (role_of q) f.kind ≡ Some e → q ≡ delegate l → (f.kind ≡ frames.LegacyTry) × (e ≡ effects.Closes)
    of q e i h = delegate_closes f.kind e (ap (λ (x : Op). effect (role_of x) f.kind) (sym h) ∙ i)

    ahead : InFrame g f set s (delegate l ∷ os) K → Delegates g f l s (K os)
    ahead (close q, rest, i, e, (b, may, asked), k) =
        let h : q ≡ delegate l = cc in
        let r : rest ≡ os = cc in
        ((of q effects.Closes i h).0, b, subst (EndsAt g) h asked, subst K r k)
    ahead (plain q more, rest, i, e, y, k) = let x : effects.Stays ≡ effects.Closes = (of q effects.Stays i.0 cc).1 in cc
    ahead (nested q body more, rest, (j, i, w, v), e, y, k) = let x : effects.Nests j ≡ effects.Closes = (of q (effects.Nests j) i cc).1 in cc
    ahead (turn q more, rest, (j, i, w), e, y, k) = let x : effects.Turns j ≡ effects.Closes = (of q (effects.Turns j) i cc).1 in cc

    back : Delegates g f l s (K os) → InFrame g f set s (delegate l ∷ os) K
    back (t, b, asked, k) =
        (close (delegate l), os, ap (effect role.Delegate) t, refl, (b, subst (λ (x : FrameKind). MayClose x f.block) (sym t) tt, asked), k)

abbrev pub IsBareTryTop : List Open → Type 0
IsBareTryTop [] = ⊥
IsBareTryTop (o ∷ outer) = o.kind ≡ frames.LegacyTry

left_delegate : (m : Meaning) (w : Given) (opens : List Open) (set : Initialised) (s : List Operand) (l : ℕ) (os : List Op)
    → Left m w opens set s (delegate l ∷ os) ↔ (IsBareTryTop opens × AllBelow s (results_of m opens) × EndsAt (context m w opens) (delegate l) × AfterEnd m w opens os)
left_delegate m w [] set s l os = (λ a. absurd a, λ a. absurd a.0)
left_delegate m w (o ∷ outer) set s l os = in_delegate (context m w (o ∷ outer)) (frame_of m w o) set s l os (λ rest. ClosesAll m w (stack (results m o)) outer (initialised m w o.before) rest)

-- where it may come, and what goes on then
abbrev pub DelegateGoes : Meaning → State → ℕ → List Op → Type 0
DelegateGoes m σ l os =
    (σ.failed ≡ false) × IsBareTryTop σ.opens × Stacks m σ (results_of m σ.opens) × EndsAt (context m σ.given σ.opens) (delegate l) × AfterEnd m σ.given σ.opens os

pub delegates : (m : Meaning) (σ : State) (l : ℕ) (os : List Op) → IsOpen σ.opens → Accepts m σ (delegate l ∷ os) ↔ DelegateGoes m σ l os
delegates m σ l os i = (ahead, back)
  where
    ahead : Accepts m σ (delegate l ∷ os) → DelegateGoes m σ l os
    ahead (f, x) =
        let (s, c, y) = (closes_left m σ.given [] σ.opens _ (delegate l ∷ os) i).0 x in
        let (t, b, asked, a) = (left_delegate m σ.given σ.opens _ s l os).0 y in
        (f, t, stacks_below m σ.opens s _ c b, asked, a)

    back : DelegateGoes m σ l os → Accepts m σ (delegate l ∷ os)
    back (f, t, c, asked, a) = (
      f,
      (closes_left m σ.given [] σ.opens _ (delegate l ∷ os) i).1
          (results_of m σ.opens, c, (left_delegate m σ.given σ.opens _ (results_of m σ.opens) l os).1 (t, all_below_refl (results_of m σ.opens), asked, a)),
    )

pub delegated : (m : Meaning) (σ ρ : State) (f : OpenFrame) (τ : State) (l : ℕ) → Popped m σ (results_of m σ.opens) ρ → IsBareTryTop σ.opens → EndsAt (context m σ.given σ.opens) (delegate l)
    → Leaves ρ f τ → (os : List Op) → Accepts m σ (delegate l ∷ os) ↔ ClosesFrom m τ (results_of m σ.opens) os
delegated m σ ρ f τ l p t asked left os =
    let i = (same_open σ.opens ρ.opens p.same.frames).0 in
    let e = end_left m σ.given σ.opens ρ.opens ρ f τ os p.same.frames left p.same.given in
    let g : τ.failed ≡ σ.failed = left_failed ρ.opens ρ f τ left ∙ p.same.failed in (
      λ x. (let (h, k, c, n, a) = (delegates m σ l os i).0 x in (g ∙ h, e.0 a)),
      λ (h, a). (delegates m σ l os i).1 (sym g ∙ h, t, finished m σ ρ f τ p left, asked, e.1 a),
    )
