-- What is accepted where operands were put on, where a frame begins, and where one ends.
use Rattle.std.proofs.Common.{◌≡◌, ◌↔◌, ◌∙◌, ℕ, List, [], ◌∷◌, ◌++◌, Bool, true, false, refl, sym, ap, subst, append-nil, map}
use Rattle.wasm_operators_immediates.specs.declared.block.BlockType.{BlockType}
use Rattle.wasm_operators_immediates.specs.declared.frames.FrameKind.{FrameKind}
use Rattle.wasm_operators_immediates.specs.declared.frames.FrameKind.TheVariants as frames
use Rattle.wasm_operators_enums.specs.Op.{Op}
use Rattle.wasm_operators_enums.specs.declared.role.Role.TheVariants as role
use Rattle.wasm_operators_enums.specs.Roles.{role_of}
use Rattle.wasm_operator_validator_rules.specs.Operands.{Operand, AllBelow, stack}
use Rattle.wasm_operator_validator_rules.specs.Context.{Context, Initialised, Signature, inside, is_catch, label_of}
use Rattle.wasm_operator_validator_rules.specs.Typed.{OpensFrame, entry_of}
use Rattle.wasm_operator_validator_resources.specs.Meaning.{Meaning}
use Rattle.wasm_operator_validator_state.specs.declared.operand.MaybeType.{MaybeType}
use Rattle.wasm_operator_validator_state.specs.declared.frame.Frame.{Frame as OpenFrame}
use Rattle.wasm_operator_validator_state.specs.State.{Given, Open, State, Covers, signature_of, initialised, types_in, label, results, last_of, context, frame_of, InFrame, ClosesAll, Accepts}
use Rattle.wasm_operator_validator_state.specs.Steps.{StacksOf, Stacks, IsOpen, SameFrames, Popped, Pushed, begun, IsBare, LeavesTo, Leaves}
use Rattle.wasm_operator_validator_state.specs.laws.Operands.{all_below_refl}
use Rattle.wasm_operator_validator_state.specs.laws.Closing.{AfterOpen, opened_frame, end, else, in_open, in_else}
use Rattle.wasm_operator_validator_state.specs.laws.Accepting.{stacks_below, same_open, Left, closes_left, left_below, same_left, moved, MayEnd, results_of, AfterEnd, ends}

-- ---- operands that are put on

-- what closes all from these operands on those of the innermost frame
abbrev pub ClosesFrom : Meaning → State → List Operand → List Op → Type 0
ClosesFrom m σ xs os = (σ.failed ≡ false) × ClosesAll m σ.given xs σ.opens (initialised m σ.given σ.inits) os

pub pushed_closes : (m : Meaning) (σ τ : State) (xs : List Operand) → Pushed m σ xs τ → (os : List Op) → ClosesFrom m σ xs os ↔ Accepts m τ os
pushed_closes m σ τ xs p os = (ahead, back)
  where
    both : IsOpen σ.opens × IsOpen τ.opens
    both = same_open σ.opens τ.opens p.same.frames

    ahead : ClosesFrom m σ xs os → Accepts m τ os
    ahead (f, x) =
        let (rest, d, l) = (closes_left m σ.given xs σ.opens _ os both.0).0 x in
        let n = moved m σ.given τ.given σ.inits τ.inits σ.opens (xs ++ rest) os (sym p.same.given) (sym p.same.inits) l in (
          p.same.failed ∙ f,
          (closes_left m τ.given [] τ.opens _ os both.1).1
              (xs ++ rest, (p.stacks (xs ++ rest)).1 (rest, d, all_below_refl (xs ++ rest)), (same_left m τ.given σ.opens τ.opens _ (xs ++ rest) os p.same.frames).0 n),
        )

    back : Accepts m τ os → ClosesFrom m σ xs os
    back (f, x) =
        let (s, c, l) = (closes_left m τ.given [] τ.opens _ os both.1).0 x in
        let (rest, d, b) = (p.stacks s).0 c in
        let q = (same_left m τ.given σ.opens τ.opens _ s os p.same.frames).1 l in
        let n = moved m τ.given σ.given τ.inits σ.inits σ.opens s os p.same.given p.same.inits q in
        (sym p.same.failed ∙ f, (closes_left m σ.given xs σ.opens _ os both.0).1 (rest, d, left_below m σ.given σ.opens _ (xs ++ rest) s os b n))

-- ---- a frame that begins

-- a frame has just begun, and its parameters are on it
abbrev pub BeginsFrame : Meaning → State → FrameKind → BlockType → List Op → Type 0
BeginsFrame m σ k bt os = ClosesFrom m (record σ { opens = begun k bt σ.inits ∷ σ.opens }) (stack (signature_of m bt).params) os

left_open : (m : Meaning) (w : Given) (opens : List Open) (set : Initialised) (s : List Operand) (o : Op) (k : FrameKind) (os : List Op) → role_of o ≡ role.Opens k
    → IsOpen opens → Left m w opens set s (o ∷ os) ↔ AfterOpen (context m w opens) set o k s os (λ b n later. Left m w opens set n later)
left_open m w [] set s o k os p i = absurd i
left_open m w (f ∷ outer) set s o k os p i = in_open _ (frame_of m w f) set s o k os _ p

begun_context : (m : Meaning) (w : Given) (k : FrameKind) (bt : BlockType) (inits : List ℕ) (opens : List Open) → IsOpen opens
    → context m w (begun k bt inits ∷ opens) ≡ inside k (label_of k (signature_of m bt)) (context m w opens)
begun_context m w k bt inits [] i = absurd i
begun_context m w k bt inits (p ∷ outer) i = refl

pub covers_nothing : (m : Meaning) (s : List Operand) → Covers m false [] s → s ≡ []
covers_nothing m [] c = refl
covers_nothing m (t ∷ s) c = absurd c

-- the body of a frame that has just begun, in a context, and what is left behind its end
abbrev Body : Meaning → State → FrameKind → BlockType → List Op → Context → List Operand → (List Op → Type 0) → Type 0
Body m σ k bt os g s Next =
    InFrame g (opened_frame k (signature_of m bt) (initialised m σ.given σ.inits)) (initialised m σ.given σ.inits) s os Next

-- the same by the operands below those of the frame
abbrev pub BeginsOver : Meaning → State → FrameKind → BlockType → List Op → Type 0
BeginsOver m σ k bt os =
    (rest : List Operand) × Stacks m σ rest
    × Body m σ k bt os (inside k (label_of k (signature_of m bt)) (context m σ.given σ.opens)) (stack (signature_of m bt).params)
    (λ later. Left m σ.given σ.opens (initialised m σ.given σ.inits) (stack (signature_of m bt).results ++ rest) later)

begins_over : (m : Meaning) (σ : State) (k : FrameKind) (bt : BlockType) (os : List Op) → IsOpen σ.opens
    → BeginsFrame m σ k bt os ↔ ((σ.failed ≡ false) × BeginsOver m σ k bt os)
begins_over m σ k bt os i = (ahead, back)
  where
    more : (later : List Op) → ClosesAll m σ.given (stack (signature_of m bt).results) σ.opens (initialised m σ.given σ.inits) later
        ↔ (rest : List Operand) × Stacks m σ rest × Left m σ.given σ.opens (initialised m σ.given σ.inits) (stack (signature_of m bt).results ++ rest) later
    more later = closes_left m σ.given (stack (signature_of m bt).results) σ.opens (initialised m σ.given σ.inits) later i

    ahead : BeginsFrame m σ k bt os → (σ.failed ≡ false) × BeginsOver m σ k bt os
    ahead (f, (s, c, x)) =
        let n = covers_nothing m s c in
        let x' = subst (λ (v : List Operand). Body m σ k bt os (context m σ.given (begun k bt σ.inits ∷ σ.opens)) (stack (signature_of m bt).params ++ v)
        (λ later. ClosesAll m σ.given (stack (signature_of m bt).results) σ.opens (initialised m σ.given σ.inits) later)) n x in
        let x'' = subst (λ (v : List Operand). Body m σ k bt os (context m σ.given (begun k bt σ.inits ∷ σ.opens)) v
        (λ later. ClosesAll m σ.given (stack (signature_of m bt).results) σ.opens (initialised m σ.given σ.inits) later)) (append-nil (stack (signature_of m bt).params)) x' in
        let (code, later, in_it, e, typed, next) = subst (λ (g : Context). Body m σ k bt os g (stack (signature_of m bt).params)
        (λ later. ClosesAll m σ.given (stack (signature_of m bt).results) σ.opens (initialised m σ.given σ.inits) later)) (begun_context m σ.given k bt σ.inits σ.opens i) x'' in
        let (rest, d, l) = (more later).0 next in
        (f, (rest, d, (code, later, in_it, e, typed, l)))

    back : (σ.failed ≡ false) × BeginsOver m σ k bt os → BeginsFrame m σ k bt os
    back (f, (rest, d, (code, later, in_it, e, typed, l))) =
        let x : Body m σ k bt os (inside k (label_of k (signature_of m bt)) (context m σ.given σ.opens)) (stack (signature_of m bt).params)
        (λ later. ClosesAll m σ.given (stack (signature_of m bt).results) σ.opens (initialised m σ.given σ.inits) later) =
        (code, later, in_it, e, typed, (more later).1 (rest, d, l)) in
        let x' = subst (λ (g : Context). Body m σ k bt os g (stack (signature_of m bt).params)
        (λ later. ClosesAll m σ.given (stack (signature_of m bt).results) σ.opens (initialised m σ.given σ.inits) later)) (sym (begun_context m σ.given k bt σ.inits σ.opens i)) x in
        let x'' = subst (λ (v : List Operand). Body m σ k bt os (context m σ.given (begun k bt σ.inits ∷ σ.opens)) v
        (λ later. ClosesAll m σ.given (stack (signature_of m bt).results) σ.opens (initialised m σ.given σ.inits) later)) (sym (append-nil (stack (signature_of m bt).params))) x' in
        (f, ([], tt, x''))

-- an opener carries a type that means this and nothing else within these frames
abbrev pub Means : Meaning → Given → List Open → Op → FrameKind → Signature → Type 0
Means m w opens o k b = (c : Signature) → OpensFrame (context m w opens) o k c ↔ (c ≡ b)

-- the context in an innermost frame by its kind
abbrev pub context_by : Meaning → Given → BlockType → List Open → FrameKind → Context
context_by m w bt outer k = record {
  bits = w.bits;
  «module» = m.«module»;
  locals = types_in m w.locals;
  labels = label_of k (signature_of m bt) ∷ map (label m) outer;
  catches = is_catch k ∷ map (λ o. is_catch o.kind) outer;
  results = last_of ((signature_of m bt).results ∷ map (results m) outer);
  shared = w.shared;
}

same_by : (P : BlockType → List Open → FrameKind → Context) (b c : BlockType) (os ps : List Open) (k l : FrameKind) → c ≡ b → ps ≡ os → l ≡ k → P b os k ≡ P c ps l
same_by P b c os ps k l e f g = rw (e, f, g) refl

-- operands make no difference to the context
same_context : (m : Meaning) (w : Given) (os ps : List Open) → SameFrames os ps → context m w os ≡ context m w ps
same_context m w [] ps b = absurd b
same_context m w (o ∷ outer) [] b = absurd b
same_context m w (o ∷ outer) (p ∷ others) (k, bl, be, ot) = same_by (context_by m w) o.block p.block outer others o.kind p.kind bl ot k

-- what an opener takes was taken off: what goes on is the frame that begins
pub opened : (m : Meaning) (σ ρ : State) (o : Op) (k : FrameKind) (bt : BlockType) → role_of o ≡ role.Opens k → Means m σ.given σ.opens o k (signature_of m bt)
    → Popped m σ (stack (entry_of k (signature_of m bt))) ρ → (os : List Op) → Accepts m σ (o ∷ os) ↔ BeginsFrame m ρ k bt os
opened m σ ρ o k bt r means p os = (λ x. (begins_over m ρ k bt os both.1).1 (ahead x), λ x. back ((begins_over m ρ k bt os both.1).0 x))
  where
    both : IsOpen σ.opens × IsOpen ρ.opens
    both = same_open σ.opens ρ.opens p.same.frames

    means' : Means m ρ.given ρ.opens o k (signature_of m bt)
    means' =
        subst (λ (w : Given). Means m w ρ.opens o k (signature_of m bt)) (sym p.same.given)
        (subst (λ (g : Context). (c : Signature) → OpensFrame g o k c ↔ (c ≡ signature_of m bt)) (same_context m σ.given σ.opens ρ.opens p.same.frames) means)

    ahead : Accepts m σ (o ∷ os) → (ρ.failed ≡ false) × BeginsOver m ρ k bt os
    ahead (f, x) =
        let (s, c, l) = (closes_left m σ.given [] σ.opens _ (o ∷ os) both.0).0 x in
        let n = moved m σ.given ρ.given σ.inits ρ.inits σ.opens s (o ∷ os) (sym p.same.given) (sym p.same.inits) l in
        let q = (same_left m ρ.given σ.opens ρ.opens _ s (o ∷ os) p.same.frames).0 n in
        let (b, rest, op, below, inner) = (left_open m ρ.given ρ.opens (initialised m ρ.given ρ.inits) s o k os r both.1).0 q in
        let e = (means' b).0 op in
        let (below', inner') = subst (λ (v : Signature). AllBelow s (stack (entry_of k v) ++ rest)
        × InFrame (inside k (label_of k v) (context m ρ.given ρ.opens)) (opened_frame k v (initialised m ρ.given ρ.inits)) (initialised m ρ.given ρ.inits) (stack v.params) os
        (λ later. Left m ρ.given ρ.opens (initialised m ρ.given ρ.inits) (stack v.results ++ rest) later)) e (below, inner) in
        (p.same.failed ∙ f, (rest, (p.stacks rest).0 (stacks_below m σ.opens s _ c below'), inner'))

    back : (ρ.failed ≡ false) × BeginsOver m ρ k bt os → Accepts m σ (o ∷ os)
    back (f, (rest, d, inner)) =
        let s = stack (entry_of k (signature_of m bt)) ++ rest in
        let q = (left_open m ρ.given ρ.opens (initialised m ρ.given ρ.inits) s o k os r both.1).1
        (signature_of m bt, rest, (means' (signature_of m bt)).1 refl, all_below_refl s, inner) in
        let l = (same_left m ρ.given σ.opens ρ.opens _ s (o ∷ os) p.same.frames).1 q in
        let n = moved m ρ.given σ.given ρ.inits σ.inits σ.opens s (o ∷ os) p.same.given p.same.inits l in
        (sym p.same.failed ∙ f, (closes_left m σ.given [] σ.opens _ (o ∷ os) both.0).1 (s, (p.stacks rest).1 d, n))

-- where an opener is accepted its type is one, and what it takes is there
abbrev pub MayOpen : Meaning → State → Op → FrameKind → Type 0
MayOpen m σ o k = (b : Signature) × (rest : List Operand) × OpensFrame (context m σ.given σ.opens) o k b × Stacks m σ (stack (entry_of k b) ++ rest)

pub may_open : (m : Meaning) (σ : State) (o : Op) (k : FrameKind) (os : List Op) → role_of o ≡ role.Opens k → IsOpen σ.opens → Accepts m σ (o ∷ os) → MayOpen m σ o k
may_open m σ o k os r i (f, x) =
    let (s, c, l) = (closes_left m σ.given [] σ.opens _ (o ∷ os) i).0 x in
    let (b, rest, op, below, inner) = (left_open m σ.given σ.opens (initialised m σ.given σ.inits) s o k os r i).0 l in
    (b, rest, op, stacks_below m σ.opens s _ c below)

-- ---- else

abbrev pub IsIfTop : List Open → Type 0
IsIfTop [] = ⊥
IsIfTop (o ∷ outer) = o.kind ≡ frames.If

-- the second part of the innermost frame begins, with the locals that were set where the first began
abbrev pub AfterElse : Meaning → Given → List Open → List Op → Type 0
AfterElse m w [] os = ⊥
AfterElse m w (o ∷ outer) os = ClosesAll m w (stack (signature_of m o.block).params) (begun frames.Else o.block o.before ∷ outer) (initialised m w o.before) os

-- the two parts of an `if` are in one context
else_context : (m : Meaning) (w : Given) (o : Open) (outer : List Open) → o.kind ≡ frames.If → context m w (o ∷ outer) ≡ context m w (begun frames.Else o.block o.before ∷ outer)
else_context m w o outer e = ap (context_by m w o.block outer) e

left_else : (m : Meaning) (w : Given) (opens : List Open) (set : Initialised) (s : List Operand) (os : List Op)
    → Left m w opens set s (else ∷ os) ↔ (IsIfTop opens × AllBelow s (results_of m opens) × AfterElse m w opens os)
left_else m w [] set s os = (λ a. absurd a, λ a. absurd a.0)
left_else m w (o ∷ outer) set s os = (ahead, back)
  where
    ahead : Left m w (o ∷ outer) set s (else ∷ os) → (o.kind ≡ frames.If) × AllBelow s (stack (results m o)) × AfterElse m w (o ∷ outer) os
    ahead l =
        let (e, b, x) = (in_else (context m w (o ∷ outer)) (frame_of m w o) set s os
        (λ rest. ClosesAll m w (stack (results m o)) outer (initialised m w o.before) rest)).0 l in
        let x' = subst (λ (g : Context). InFrame g (frame_of m w (begun frames.Else o.block o.before)) (initialised m w o.before) (stack (signature_of m o.block).params) os
        (λ rest. ClosesAll m w (stack (results m o)) outer (initialised m w o.before) rest)) (else_context m w o outer e) x in
        let x'' = subst (λ (v : List Operand). InFrame (context m w (begun frames.Else o.block o.before ∷ outer)) (frame_of m w (begun frames.Else o.block o.before)) (initialised m w o.before) v os
        (λ rest. ClosesAll m w (stack (results m o)) outer (initialised m w o.before) rest)) (sym (append-nil (stack (signature_of m o.block).params))) x' in
        (e, b, ([], tt, x''))

    back : (o.kind ≡ frames.If) × AllBelow s (stack (results m o)) × AfterElse m w (o ∷ outer) os → Left m w (o ∷ outer) set s (else ∷ os)
    back (e, b, (v, c, x)) =
        let n = covers_nothing m v c in
        let x' = subst (λ (v : List Operand). InFrame (context m w (begun frames.Else o.block o.before ∷ outer)) (frame_of m w (begun frames.Else o.block o.before)) (initialised m w o.before)
        (stack (signature_of m o.block).params ++ v) os
        (λ rest. ClosesAll m w (stack (results m o)) outer (initialised m w o.before) rest)) n x in
        let x'' = subst (λ (v : List Operand). InFrame (context m w (begun frames.Else o.block o.before ∷ outer)) (frame_of m w (begun frames.Else o.block o.before)) (initialised m w o.before) v os
        (λ rest. ClosesAll m w (stack (results m o)) outer (initialised m w o.before) rest)) (append-nil (stack (signature_of m o.block).params)) x' in
        let y = subst (λ (g : Context). InFrame g (frame_of m w (begun frames.Else o.block o.before)) (initialised m w o.before) (stack (signature_of m o.block).params) os
        (λ rest. ClosesAll m w (stack (results m o)) outer (initialised m w o.before) rest)) (sym (else_context m w o outer e)) x'' in
        (in_else (context m w (o ∷ outer)) (frame_of m w o) set s os
        (λ rest. ClosesAll m w (stack (results m o)) outer (initialised m w o.before) rest)).1 (e, b, y)

pub elses : (m : Meaning) (σ : State) (os : List Op) → IsOpen σ.opens
    → Accepts m σ (else ∷ os) ↔ ((σ.failed ≡ false) × IsIfTop σ.opens × Stacks m σ (results_of m σ.opens) × AfterElse m σ.given σ.opens os)
elses m σ os i = (ahead, back)
  where
    ahead : Accepts m σ (else ∷ os) → (σ.failed ≡ false) × IsIfTop σ.opens × Stacks m σ (results_of m σ.opens) × AfterElse m σ.given σ.opens os
    ahead (f, x) =
        let (s, c, l) = (closes_left m σ.given [] σ.opens _ (else ∷ os) i).0 x in
        let (e, b, a) = (left_else m σ.given σ.opens _ s os).0 l in
        (f, e, stacks_below m σ.opens s _ c b, a)

    back : (σ.failed ≡ false) × IsIfTop σ.opens × Stacks m σ (results_of m σ.opens) × AfterElse m σ.given σ.opens os → Accepts m σ (else ∷ os)
    back (f, e, c, a) = (
      f,
      (closes_left m σ.given [] σ.opens _ (else ∷ os) i).1
          (results_of m σ.opens, c, (left_else m σ.given σ.opens _ (results_of m σ.opens) os).1 (e, all_below_refl (results_of m σ.opens), a)),
    )

-- ---- the innermost frame is left

covers_bare : (m : Meaning) (u : Bool) (ks : List MaybeType) → ks ≡ [] → Covers m u ks []
covers_bare m true [] e = tt
covers_bare m false [] e = tt
covers_bare m u (k ∷ ks) e = cc

bare_covers : (m : Meaning) (u : Bool) (ks : List MaybeType) → Covers m u ks [] → ks ≡ []
bare_covers m u [] c = refl
bare_covers m u (k ∷ ks) c = absurd c

pub leaves_bare : (m : Meaning) (opens : List Open) (σ : State) (f : OpenFrame) (τ : State) → LeavesTo opens σ f τ → StacksOf m opens []
leaves_bare m [] σ f τ l = absurd l
leaves_bare m (o ∷ outer) σ f τ l = covers_bare m o.unreachable o.operands l.0

pub bare : (m : Meaning) (opens : List Open) → StacksOf m opens [] → IsBare opens
bare m [] c = absurd c
bare m (o ∷ outer) c = bare_covers m o.unreachable o.operands c

-- its results are on it exactly where it is bare once they were taken off
pub finished : (m : Meaning) (σ ρ : State) (f : OpenFrame) (τ : State) → Popped m σ (results_of m σ.opens) ρ → Leaves ρ f τ → Stacks m σ (results_of m σ.opens)
finished m σ ρ f τ p l =
    subst (λ (v : List Operand). Stacks m σ v) (append-nil (results_of m σ.opens)) ((p.stacks []).1 (leaves_bare m ρ.opens ρ f τ l))

pub finishes : (m : Meaning) (σ ρ : State) → Popped m σ (results_of m σ.opens) ρ → Stacks m σ (results_of m σ.opens) → IsBare ρ.opens
finishes m σ ρ p c = bare m ρ.opens ((p.stacks []).0 (subst (λ (v : List Operand). Stacks m σ v) (sym (append-nil (results_of m σ.opens))) c))

pub end_left : (m : Meaning) (w : Given) (opens ps : List Open) (ρ : State) (f : OpenFrame) (τ : State) (os : List Op) → SameFrames opens ps → LeavesTo ps ρ f τ → ρ.given ≡ w
    → AfterEnd m w opens os ↔ ClosesAll m τ.given (results_of m opens) τ.opens (initialised m τ.given τ.inits) os
end_left m w [] ps ρ f τ os s l e = absurd s
end_left m w (o ∷ outer) [] ρ f τ os s l e = absurd s
end_left m w (o ∷ outer) (p ∷ others) ρ f τ os s l e = rw (l.3, e, s.2, s.3) (λ x. x, λ x. x)

pub left_failed : (ps : List Open) (ρ : State) (f : OpenFrame) (τ : State) → LeavesTo ps ρ f τ → τ.failed ≡ ρ.failed
left_failed [] ρ f τ l = absurd l
left_failed (p ∷ others) ρ f τ l = ap (λ (x : State). x.failed) l.3

pub ended : (m : Meaning) (σ ρ : State) (f : OpenFrame) (τ : State) → Popped m σ (results_of m σ.opens) ρ → MayEnd m σ.opens → Leaves ρ f τ → (os : List Op)
    → Accepts m σ (end ∷ os) ↔ ClosesFrom m τ (results_of m σ.opens) os
ended m σ ρ f τ p may l os =
    let i = (same_open σ.opens ρ.opens p.same.frames).0 in
    let e = end_left m σ.given σ.opens ρ.opens ρ f τ os p.same.frames l p.same.given in
    let g : τ.failed ≡ σ.failed = left_failed ρ.opens ρ f τ l ∙ p.same.failed in (
      λ x. let (h, c, n, a) = (ends m σ os i).0 x in (g ∙ h, e.0 a),
      λ (h, a). (ends m σ os i).1 (sym g ∙ h, finished m σ ρ f τ p l, may, e.1 a),
    )

-- where no frame is left
pub closes_nothing : (m : Meaning) (τ : State) (xs : List Operand) → τ.opens ≡ [] → (os : List Op) → ClosesFrom m τ xs os ↔ Accepts m τ os
closes_nothing m τ xs e os = at τ.opens e
  where
    at : (opens : List Open) → opens ≡ []
        → ((τ.failed ≡ false) × ClosesAll m τ.given xs opens (initialised m τ.given τ.inits) os) ↔ ((τ.failed ≡ false) × ClosesAll m τ.given [] opens (initialised m τ.given τ.inits) os)
    at [] e = (λ x. x, λ x. x)
    at (o ∷ outer) e = cc

else_parts : (P : Given → List ℕ → BlockType → List Open → Type 0) (v w : Given) (js is : List ℕ) (c b : BlockType) (ps os : List Open)
    → v ≡ w → js ≡ is → c ≡ b → ps ≡ os → P w is b os ↔ P v js c ps
else_parts P v w js is c b ps os e f g h = rw (e, f, g, h) (λ x. x, λ x. x)

else_left : (m : Meaning) (w : Given) (opens ps : List Open) (ρ : State) (f : OpenFrame) (τ : State) (os : List Op) → SameFrames opens ps → LeavesTo ps ρ f τ → ρ.given ≡ w
    → AfterElse m w opens os ↔ ClosesAll m τ.given (stack (signature_of m f.block_type).params) (begun frames.Else f.block_type τ.inits ∷ τ.opens) (initialised m τ.given τ.inits) os
else_left m w [] ps ρ f τ os s l e = absurd s
else_left m w (o ∷ outer) [] ρ f τ os s l e = absurd s
else_left m w (o ∷ outer) (p ∷ others) ρ f τ os s l e =
    else_parts (λ (v : Given) (js : List ℕ) (c : BlockType) (ps : List Open). ClosesAll m v (stack (signature_of m c).params) (begun frames.Else c js ∷ ps) (initialised m v js) os)
    τ.given w τ.inits o.before f.block_type o.block τ.opens outer
    (ap (λ (x : State). x.given) l.3 ∙ e) (ap (λ (x : State). x.inits) l.3 ∙ s.2) (l.2 ∙ s.1) (ap (λ (x : State). x.opens) l.3 ∙ s.3)

pub turned : (m : Meaning) (σ ρ : State) (f : OpenFrame) (τ : State) → Popped m σ (results_of m σ.opens) ρ → IsIfTop σ.opens → Leaves ρ f τ → (os : List Op)
    → Accepts m σ (else ∷ os) ↔ BeginsFrame m τ frames.Else f.block_type os
turned m σ ρ f τ p t l os =
    let i = (same_open σ.opens ρ.opens p.same.frames).0 in
    let e = else_left m σ.given σ.opens ρ.opens ρ f τ os p.same.frames l p.same.given in
    let g : τ.failed ≡ σ.failed = left_failed ρ.opens ρ f τ l ∙ p.same.failed in (
      λ x. let (h, n, c, a) = (elses m σ os i).0 x in (g ∙ h, e.0 a),
      λ (h, a). (elses m σ os i).1 (sym g ∙ h, t, finished m σ ρ f τ p l, e.1 a),
    )
