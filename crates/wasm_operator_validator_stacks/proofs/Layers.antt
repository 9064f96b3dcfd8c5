use Rattle.std.proofs.Common.{
  ◌≡◌,
  ◌↔◌,
  ◌≤◌,
  ◌<◌,
  ◌-◌,
  ◌+◌,
  ℕ,
  zero,
  suc,
  List,
  [],
  ◌∷◌,
  ◌++◌,
  Option,
  Some,
  None,
  Bool,
  true,
  false,
  refl,
  sym,
  ◌∙◌,
  ap,
  subst,
  arith,
  length,
  take,
  drop,
  reverse,
  get_or,
  nat_eq,
  eq-eqb,
  IsTrue,
  slice_get,
  length-append,
}
use Rattle.std.proofs.lemmas.List.{reverse-append, reverse-reverse, length-reverse, length-drop, length-take-le, take-append-drop, drop_at, length_push}
use Rattle.std.proofs.lemmas.Bool.{eqb-true}
use Rattle.std.proofs.lemmas.Option.{slice_get-get_or}
use Rattle.wasm_types.specs.values.declared.value.ValType.{ValType}
use Rattle.wasm_operator_validator_rules.specs.Operands.{Operand}
use Rattle.wasm_operator_validator_state.specs.resources.Meaning.{Meaning}
use Rattle.wasm_operator_validator_state.specs.declared.operand.MaybeType.{MaybeType}
use Rattle.wasm_operator_validator_state.specs.declared.operand.MaybeType.TheVariants as maybe
use Rattle.wasm_operator_validator_state.specs.State.{Given, Open, Saved, State, Covers}
use Rattle.wasm_operator_validator_state.specs.Steps.{IsOpen, MayPopAny, PoppedAny, Topped, PushedAny, Jumped}
use Rattle.wasm_operator_validator_state.specs.declared.frame.Frame.{Frame}
use Rattle.wasm_operator_validator_locals.specs.tape.Kept.{ReplacesLast}
use Rattle.wasm_operator_validator_stacks.specs.Layout.{opens_of, Layered}

-- what most steps leave: what never changes, what was saved, and whether an operator was refused
abbrev pub Fixed : Type 0
Fixed = Given × Saved × Bool

-- the state that these stand for, with the innermost and the top first
abbrev pub seen : Fixed → List Frame → List MaybeType → List ℕ → State
seen w frames operands inits = record { given = w.0; inits = inits; opens = opens_of frames operands inits; failed = w.2; saved = w.1 }

-- a frame with these operands of its own
abbrev pub opened : Frame → List ℕ → List MaybeType → Open
opened f inits own = record { kind = f.kind; block = f.block_type; before = take f.init_height inits; operands = own; unreachable = f.unreachable }

topped : (μ : Meaning) (u : Bool) (m : MaybeType) (ms : List MaybeType) (s : List Operand) → Covers μ u (m ∷ ms) s ↔ Topped μ m (Covers μ u ms) s
topped μ u m ms [] = (λ c. c, λ c. c)
topped μ u m ms (t ∷ s) = (λ c. c, λ c. c)

-- one more operand is one of the innermost frame
pub seen_pop : (μ : Meaning) (w : Fixed) (f : Frame) (fs : List Frame) (m : MaybeType) (ns : List MaybeType) (inits : List ℕ) → f.height ≤ length ns
    → PoppedAny μ (seen w (f ∷ fs) (m ∷ ns) inits) m (seen w (f ∷ fs) ns inits)
seen_pop μ w f fs m ns inits h =
    let e : suc (length ns) - f.height ≡ suc (length ns - f.height) = omega arith in
    record {
      same = record { given = refl; inits = refl; frames = rw e (refl, refl, refl, refl); failed = refl; saved = refl };
      stacks = λ t s. rw e (λ c. c, λ c. c);
    }

pub seen_push : (μ : Meaning) (w : Fixed) (f : Frame) (fs : List Frame) (m : MaybeType) (ns : List MaybeType) (inits : List ℕ) → f.height ≤ length ns
    → PushedAny μ (seen w (f ∷ fs) ns inits) m (seen w (f ∷ fs) (m ∷ ns) inits)
seen_push μ w f fs m ns inits h =
    let e : suc (length ns) - f.height ≡ suc (length ns - f.height) = omega arith in
    record {
      same = record { given = refl; inits = refl; frames = rw e (refl, refl, refl, refl); failed = refl; saved = refl };
      stacks = λ s. rw e (topped μ f.unreachable m (take (length ns - f.height) ns) s);
    }

-- where the innermost frame has no operand
pub seen_bare : (μ : Meaning) (w : Fixed) (f : Frame) (fs : List Frame) (ms : List MaybeType) (inits : List ℕ) → length ms ≡ f.height → f.unreachable ≡ true
    → PoppedAny μ (seen w (f ∷ fs) ms inits) maybe.Bottom (seen w (f ∷ fs) ms inits)
seen_bare μ w f fs ms inits h u =
    let e : length ms - f.height ≡ 0 = omega arith in
    record {
      same = record { given = refl; inits = refl; frames = (refl, refl, refl, refl); failed = refl; saved = refl };
      stacks = λ t s. rw (e, u) (λ c. (tt, tt), λ c. tt);
    }

pub seen_empty : (μ : Meaning) (w : Fixed) (f : Frame) (fs : List Frame) (ms : List MaybeType) (inits : List ℕ) → length ms ≡ f.height → f.unreachable ≡ false
    → MayPopAny μ (seen w (f ∷ fs) ms inits) → ⊥
seen_empty μ w f fs ms inits h u (t, s, c) =
    let e : length ms - f.height ≡ 0 = omega arith in
    let d : Covers μ false [] (t ∷ s) = rw (e, u) at c in d

abbrev pub cut : Frame → List MaybeType → List MaybeType
cut f ms = drop (length ms - f.height) ms

pub length-cut : (f : Frame) (ms : List MaybeType) → f.height ≤ length ms → length (cut f ms) ≡ f.height
length-cut f ms h = rw length-drop (omega arith)

pub seen_jump : (μ : Meaning) (w : Fixed) (f : Frame) (fs : List Frame) (ms : List MaybeType) (inits : List ℕ) → f.height ≤ length ms
    → Jumped μ (seen w (f ∷ fs) ms inits) (seen w (record f { unreachable = true } ∷ fs) (cut f ms) inits)
seen_jump μ w f fs ms inits h =
    let k = length-cut f ms h in
    let e : length (cut f ms) - f.height ≡ 0 = omega arith in
    record {
      same = record { given = refl; inits = refl; frames = rw e (refl, refl, refl, refl); failed = refl; saved = refl };
      stacks = λ s. rw e tt;
    }

-- a list with a last element
pub last_at : {X : Type 0} (xs : List X) (n : ℕ) (x : X) → length xs ≡ suc n → slice_get xs n ≡ Some x → (front : List X) × (xs ≡ front ++ x ∷ []) × (length front ≡ n)
last_at [] n x l e = cc
last_at (y ∷ []) zero x l e = ([], let h : y ≡ x = cc in rw h refl, refl)
last_at (y ∷ []) (suc n) x l e = cc
last_at (y ∷ z ∷ ys) zero x l e = absurd (omega arith)
last_at (y ∷ z ∷ ys) (suc n) x l e =
    let k : length (z ∷ ys) ≡ suc n = omega arith in
    let (front, f, g) = last_at (z ∷ ys) n x k e in
    (y ∷ front, rw f refl, omega (arith, g))

pub reverse_last : {X : Type 0} (front : List X) (x : X) → reverse (front ++ x ∷ []) ≡ x ∷ reverse front
reverse_last front x = rw reverse-append refl

-- the first elements are the last of the list turned round
reverse_front : {X : Type 0} (s d : List X) (n : ℕ) → length s ≡ n → reverse s ≡ drop (length (reverse (s ++ d)) - n) (reverse (s ++ d))
reverse_front s d n h =
    let k : length (reverse d ++ reverse s) - n ≡ length (reverse d) = omega (arith, length-append (reverse d) (reverse s), length-reverse s) in
    rw (reverse-append s d, k) (sym (drop_at (reverse d) (reverse s) _ refl))

pub reverse_take : {X : Type 0} (n : ℕ) (xs : List X) → n ≤ length xs → reverse (take n xs) ≡ drop (length (reverse xs) - n) (reverse xs)
reverse_take {X} n xs h =
    subst (λ (v : List X). reverse (take n xs) ≡ drop (length (reverse v) - n) (reverse v)) (take-append-drop n xs) (reverse_front (take n xs) (drop n xs) n (length-take-le n xs h))

turned : {X : Type 0} (xs front : List X) (x : X) → xs ≡ front ++ x ∷ [] → (ys : List X) × (reverse xs ≡ x ∷ ys) × (xs ≡ reverse ys ++ x ∷ [])
turned xs front x h = (reverse front, rw h (reverse_last front x), rw (h, reverse-reverse) refl)

-- the frames, the last first, of a list with a last one
pub top_frame : (cs : List Frame) (f : Frame) → slice_get cs (length cs - 1) ≡ Some f → (fs : List Frame) × (reverse cs ≡ f ∷ fs) × (cs ≡ reverse fs ++ f ∷ [])
top_frame [] f e = cc
top_frame (x ∷ cs) f e =
    let k : suc (length cs) - 1 ≡ length cs = omega arith in
    let e' : slice_get (x ∷ cs) (length cs) ≡ Some f = rw k at e in
    let l = last_at (x ∷ cs) (length cs) f refl e' in
    turned (x ∷ cs) l.0 f l.1

-- the state that these stand for, as they lie in memory
abbrev pub held : Fixed → List Frame → List MaybeType → List ℕ → State
held w cs ms inits = seen w (reverse cs) (reverse ms) inits

abbrev pub Sound : List Frame → List MaybeType → List ℕ → Type 0
Sound cs ms inits = Layered (reverse cs) (length ms) (length inits)

-- what the last frame's height is below
pub height_below : (cs : List Frame) (ms : List MaybeType) (inits : List ℕ) (f : Frame) → slice_get cs (length cs - 1) ≡ Some f → Sound cs ms inits → f.height ≤ length ms
height_below cs ms inits f e l =
    let (fs, h, g) = top_frame cs f e in
    let l' : Layered (f ∷ fs) (length ms) (length inits) = rw h at l in l'.0

pub held_pop : (μ : Meaning) (w : Fixed) (cs : List Frame) (ms ns : List MaybeType) (inits : List ℕ) (f : Frame) (m : MaybeType)
    → slice_get cs (length cs - 1) ≡ Some f → Sound cs ms inits → (length ms ≡ f.height → ⊥) → ms ≡ ns ++ m ∷ []
    → PoppedAny μ (held w cs ms inits) m (held w cs ns inits)
held_pop μ w cs ms ns inits f m e l n d =
    let (fs, h, g) = top_frame cs f e in
    let below = height_below cs ms inits f e l in
    let k = ap length d ∙ length_push ns m in
    let low : f.height ≤ length (reverse ns) = rw length-reverse (omega (arith, k, n)) in
    rw (h, d, reverse_last ns m) (seen_pop μ w f fs m (reverse ns) inits low)

pub sound_pop : (cs : List Frame) (ms ns : List MaybeType) (inits : List ℕ) (f : Frame) (m : MaybeType)
    → slice_get cs (length cs - 1) ≡ Some f → Sound cs ms inits → (length ms ≡ f.height → ⊥) → ms ≡ ns ++ m ∷ []
    → Sound cs ns inits
sound_pop cs ms ns inits f m e l n d =
    let (fs, h, g) = top_frame cs f e in
    let k = ap length d ∙ length_push ns m in
    let l' : Layered (f ∷ fs) (length ms) (length inits) = rw h at l in
    let low : f.height ≤ length ns = let b = l'.0 in omega (arith, k, n) in
    rw h (low, l'.1, l'.2)

pub held_push : (μ : Meaning) (w : Fixed) (cs : List Frame) (ms : List MaybeType) (inits : List ℕ) (m : MaybeType)
    → IsOpen (held w cs ms inits).opens → Sound cs ms inits
    → PushedAny μ (held w cs ms inits) m (held w cs (ms ++ m ∷ []) inits) × Sound cs (ms ++ m ∷ []) inits
held_push μ w cs ms inits m o l = rw (reverse_last ms m, length_push) (at (reverse cs) o l)
  where
    at : (fs : List Frame) → IsOpen (seen w fs (reverse ms) inits).opens → Layered fs (length ms) (length inits)
        → PushedAny μ (seen w fs (reverse ms) inits) m (seen w fs (m ∷ reverse ms) inits) × Layered fs (length ms + 1) (length inits)
    at [] o l = absurd o
    at (f ∷ fs) o l =
        let low = l.0 in
        let low' : f.height ≤ length (reverse ms) = rw length-reverse low in
        (seen_push μ w f fs m (reverse ms) inits low', (omega arith, l.1, l.2))

-- where nothing could be taken off
pub held_empty : (μ : Meaning) (w : Fixed) (cs : List Frame) (ms : List MaybeType) (inits : List ℕ) (f : Frame)
    → slice_get cs (length cs - 1) ≡ Some f → Sound cs ms inits → (length ms ≡ f.height → ⊥) → ms ≡ [] → MayPopAny μ (held w cs ms inits) → ⊥
held_empty μ w cs ms inits f e l n d p =
    let below = height_below cs ms inits f e l in
    let none = ap length d in
    n (omega (arith, below, none))

-- nothing is reached from the last frame on
pub held_jump : (μ : Meaning) (w : Fixed) (cs ds : List Frame) (ms ns : List MaybeType) (inits : List ℕ) (f g : Frame) → slice_get cs (length cs - 1) ≡ Some f
    → g ≡ record f { unreachable = true } → ReplacesLast g cs ds → ns ≡ take f.height ms → Sound cs ms inits → Jumped μ (held w cs ms inits) (held w ds ns inits)
held_jump μ w cs ds ms ns inits f g e d (front, y, a, b) k l =
    let (fs, h, i) = top_frame cs f e in
    let p : reverse cs ≡ y ∷ reverse front = rw a (reverse_last front y) in
    let q : f ∷ fs ≡ y ∷ reverse front = sym h ∙ p in
    let r : fs ≡ reverse front = cc in
    let below = height_below cs ms inits f e l in
    let low : f.height ≤ length (reverse ms) = rw length-reverse below in
    let z : reverse ds ≡ record f { unreachable = true } ∷ fs = rw (b, d, r) (reverse_last front (record f { unreachable = true })) in
    rw (z, h, k, reverse_take f.height ms below) (seen_jump μ w f fs (reverse ms) inits low)

pub held_done : (w : Fixed) (cs : List Frame) (ms : List MaybeType) (inits : List ℕ) (b : Bool) → b ≡ nat_eq (length cs) 0
    → IsTrue b ↔ ((held w cs ms inits).opens ≡ [])
held_done w cs ms inits b d = at (reverse cs) (sym (length-reverse cs))
  where
    at : (fs : List Frame) → length cs ≡ length fs → IsTrue b ↔ (opens_of fs (reverse ms) inits ≡ [])
    at [] e = (λ t. refl, λ x. d ∙ eq-eqb (length cs) 0 e)
    at (f ∷ fs) e = (λ t. let x : length cs ≡ 0 = eqb-true (length cs) 0 (sym d ∙ t) in absurd (omega arith), λ x. cc)

some_meaning : Meaning
some_meaning = record {
  «module» = record { types = []; functions = []; tables = []; memories = []; globals = []; tags = []; elements = []; data_count = None; referenced = []; exact_functions = [] };
  ids = [];
}

pub sound_push : (w : Fixed) (cs : List Frame) (ms : List MaybeType) (inits : List ℕ) (m : MaybeType)
    → IsOpen (held w cs ms inits).opens → Sound cs ms inits → Sound cs (ms ++ m ∷ []) inits
sound_push w cs ms inits m o l = (held_push some_meaning w cs ms inits m o l).1

-- what an operand validator keeps, by its parts
abbrev pub fixed : ℕ → List ValType → ℕ → Bool → Option (List MaybeType) → Option (List Frame) → Option (List ℕ) → Bool → Bool → Fixed
fixed bits locals params shared operands frames inits before failed =
    (record { bits = bits; locals = locals; params = params; shared = shared }, record { operands = operands; frames = frames; inits = inits; failed = before }, failed)

-- a frame is open where there is a last one
pub open_last : (w : Fixed) (cs : List Frame) (ms : List MaybeType) (inits : List ℕ) (r : Option Frame) → r ≡ slice_get cs (length cs - 1)
    → ((f : Frame) → r ≡ Some f → ⊥) → IsOpen (held w cs ms inits).opens → ⊥
open_last w [] ms inits r e n i = i
open_last w (c ∷ cs) ms inits r e n i =
    let k : length (c ∷ cs) - 1 < length (c ∷ cs) = omega arith in
    n (get_or (c ∷ cs) (length (c ∷ cs) - 1) c) (e ∙ slice_get-get_or (c ∷ cs) (length (c ∷ cs) - 1) c k)

pub some_frame : (cs : List Frame) (f : Frame) → slice_get cs (length cs - 1) ≡ Some f → 0 < length cs
some_frame [] f e = cc
some_frame (c ∷ cs) f e = omega arith
