-- Open frames: how many, which by its label, and the innermost left.
use Rattle.std.proofs.Common.{
  ◌≡◌,
  ◌≤◌,
  ◌<◌,
  ◌-◌,
  ℕ,
  zero,
  suc,
  List,
  [],
  ◌∷◌,
  ◌++◌,
  Option,
  Some,
  None,
  refl,
  sym,
  ◌∙◌,
  ap,
  arith,
  length,
  take,
  drop,
  reverse,
  option_map,
  get_or,
  slice_get,
  MatchOption,
}
use Rattle.std.proofs.lemmas.List.{length-reverse, length-take-le, get_or-reverse, length_push, take-append-le}
use Rattle.std.proofs.lemmas.Option.{slice_get-get_or, slice_get_past}
use Rattle.wasm_operators_immediates.specs.declared.block.BlockType.{BlockType}
use Rattle.wasm_operators_immediates.specs.declared.frames.FrameKind.{FrameKind}
use Rattle.wasm_operator_validator_state.specs.declared.operand.MaybeType.{MaybeType}
use Rattle.wasm_operator_validator_state.specs.declared.frame.Frame.{Frame}
use Rattle.wasm_operator_validator_state.specs.State.{Open}
use Rattle.wasm_operator_validator_state.specs.Steps.{IsBare, Leaves}
use Rattle.wasm_operator_validator_stacks.specs.Layout.{opens_of, Layered}
use Rattle.wasm_operator_validator_stacks.proofs.Layers.{Fixed, held, Sound, top_frame, height_below, reverse_last}

opens_count : (fs : List Frame) (ms : List MaybeType) (inits : List ℕ) → length (opens_of fs ms inits) ≡ length fs
opens_count [] ms inits = refl
opens_count (f ∷ fs) ms inits = ap suc (opens_count fs (drop (length ms - f.height) ms) (take f.init_height inits))

pub held_count : (w : Fixed) (cs : List Frame) (ms : List MaybeType) (inits : List ℕ) → length cs ≡ length (held w cs ms inits).opens
held_count w cs ms inits = sym (opens_count (reverse cs) (reverse ms) inits ∙ length-reverse cs)

-- the type and the kind of a frame
abbrev pub sort_of : Frame → BlockType × FrameKind
sort_of f = (f.block_type, f.kind)

abbrev pub sort_of_open : Open → BlockType × FrameKind
sort_of_open o = (o.block, o.kind)

opens_get : (fs : List Frame) (ms : List MaybeType) (inits : List ℕ) (n : ℕ) → option_map sort_of_open (slice_get (opens_of fs ms inits) n) ≡ option_map sort_of (slice_get fs n)
opens_get [] ms inits n = refl
opens_get (f ∷ fs) ms inits zero = refl
opens_get (f ∷ fs) ms inits (suc n) = opens_get fs (drop (length ms - f.height) ms) (take f.init_height inits) n

pub held_get : (w : Fixed) (cs : List Frame) (ms : List MaybeType) (inits : List ℕ) (n : ℕ)
    → option_map sort_of_open (slice_get (held w cs ms inits).opens n) ≡ option_map sort_of (slice_get (reverse cs) n)
held_get w cs ms inits n = opens_get (reverse cs) (reverse ms) inits n

-- ---- the innermost frame is left

pub held_not_bare : (w : Fixed) (cs : List Frame) (ms : List MaybeType) (inits : List ℕ) (f : Frame) → slice_get cs (length cs - 1) ≡ Some f → Sound cs ms inits
    → (length ms ≡ f.height → ⊥) → IsBare (held w cs ms inits).opens → ⊥
held_not_bare w cs ms inits f e l n b =
    let (fs, h, i) = top_frame cs f e in
    let below = height_below cs ms inits f e l in
    let b' : take (length (reverse ms) - f.height) (reverse ms) ≡ [] = rw h at b in
    let k : length (reverse ms) - f.height ≤ length (reverse ms) = omega arith in
    let z = sym (length-take-le (length (reverse ms) - f.height) (reverse ms) k) ∙ ap length b' in
    let r = length-reverse ms in
    n (omega (arith, below, z, r))

pub held_leave : (w : Fixed) (cs ds : List Frame) (ms : List MaybeType) (inits js : List ℕ) (f : Frame) (r : Option Frame) → slice_get cs (length cs - 1) ≡ Some f
    → length ms ≡ f.height → js ≡ take f.init_height inits → MatchOption r ((cs ≡ []) × (ds ≡ [])) (λ x. cs ≡ ds ++ x ∷ [])
    → Leaves (held w cs ms inits) f (held w ds ms js)
held_leave w cs ds ms inits js f None e n j (p, q) = let x : None ≡ Some f = rw p at e in cc
held_leave w cs ds ms inits js f (Some x) e n j p =
    let (fs, h, i) = top_frame cs f e in
    let q : reverse cs ≡ x ∷ reverse ds = rw p (reverse_last ds x) in
    let s : f ∷ fs ≡ x ∷ reverse ds = sym h ∙ q in
    let t : fs ≡ reverse ds = cc in
    let r = length-reverse ms in
    let k : length (reverse ms) - f.height ≡ 0 = omega (arith, r, n) in
    rw (h, k, t, j) (refl, refl, refl, refl)

-- ---- a frame by its label

pub no_label : (w : Fixed) (cs : List Frame) (ms : List MaybeType) (inits : List ℕ) (n : ℕ) → length cs ≤ n
    → None ≡ option_map sort_of_open (slice_get (held w cs ms inits).opens n)
no_label w cs ms inits n h =
    let r = length-reverse cs in
    let k : length (reverse cs) ≤ n = omega (arith, r, h) in
    sym (held_get w cs ms inits n ∙ ap (option_map sort_of) (slice_get_past (reverse cs) n k))

pub some_label : (w : Fixed) (cs xs : List Frame) (ms : List MaybeType) (inits : List ℕ) (n : ℕ) (f d : Frame) → xs ≡ cs → n < length xs
    → f ≡ get_or xs (length xs - 1 - n) d → Some (sort_of f) ≡ option_map sort_of_open (slice_get (held w cs ms inits).opens n)
some_label w cs xs ms inits n f d x h e =
    let r = length-reverse xs in
    let k : n < length (reverse xs) = omega (arith, r, h) in
    rw (← x) (sym (held_get w xs ms inits n ∙ ap (option_map sort_of) (slice_get-get_or (reverse xs) n d k ∙ ap Some (get_or-reverse xs n d h ∙ sym e))))

-- the outermost frame is the first of all
pub no_first : (w : Fixed) (cs xs : List Frame) (ms : List MaybeType) (inits : List ℕ) → xs ≡ cs → length xs ≡ 0
    → None ≡ option_map sort_of_open (slice_get (held w cs ms inits).opens (length (held w cs ms inits).opens - 1))
no_first w cs xs ms inits x h =
    let k = ap length x in
    let n = held_count w cs ms inits in
    no_label w cs ms inits (length (held w cs ms inits).opens - 1) (omega (arith, h, k, n))

pub first_label : (w : Fixed) (cs xs : List Frame) (ms : List MaybeType) (inits : List ℕ) (f d : Frame) → xs ≡ cs → 0 < length xs → f ≡ get_or xs 0 d
    → Some (sort_of f) ≡ option_map sort_of_open (slice_get (held w cs ms inits).opens (length (held w cs ms inits).opens - 1))
first_label w cs xs ms inits f d x h e =
    let k = ap length x in
    let n = held_count w cs ms inits in
    let i : length xs - 1 - (length (held w cs ms inits).opens - 1) ≡ 0 = omega (arith, k, n) in
    let e' : f ≡ get_or xs (length xs - 1 - (length (held w cs ms inits).opens - 1)) d = rw i e in
    some_label w cs xs ms inits (length (held w cs ms inits).opens - 1) f d x (omega (arith, h, k, n)) e'

-- ---- one more local is set

pub opens_set : (fs : List Frame) (ms : List MaybeType) (inits : List ℕ) (x height : ℕ) → Layered fs height (length inits)
    → opens_of fs ms (inits ++ x ∷ []) ≡ opens_of fs ms inits
opens_set [] ms inits x height l = refl
opens_set (f ∷ fs) ms inits x height l =
    let k = l.1 in rw (take-append-le f.init_height inits (x ∷ []) k) refl

pub layered_set : (fs : List Frame) (inits : List ℕ) (x height : ℕ) → Layered fs height (length inits) → Layered fs height (length (inits ++ x ∷ []))
layered_set [] inits x height l = l
layered_set (f ∷ fs) inits x height l = let k = l.1 in let n = length_push inits x in (l.0, omega (arith, k, n), l.2)
