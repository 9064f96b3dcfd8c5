-- Operands and frames as they lie in memory.
use Rattle.std.proofs.Common.{◌≡◌, ◌≤◌, ◌<◌, ◌-◌, ◌∙◌, ℕ, zero, suc, List, [], ◌∷◌, Some, None, refl, sym, ap, arith, length, take, reverse, get_or, slice_get}
use Rattle.std.proofs.lemmas.List.{length-reverse, length-take-le, take-append-drop, get_or-reverse}
use Rattle.std.proofs.lemmas.Option.{slice_get-get_or, slice_get_past}
use Rattle.std.specs.Prelude.{option_map}
use Rattle.wasm_operator_validator_state.specs.declared.operand.MaybeType.{MaybeType}
use Rattle.wasm_operator_validator_state.specs.declared.frame.Frame.{Frame}
use Rattle.wasm_operator_validator_stacks.specs.Layout.{opens_of, Layered}
use Rattle.wasm_operator_validator_stacks.specs.Heights.{operands_in, frame_at, known_type}
use Rattle.wasm_operator_validator_stacks.proofs.Layers.{Fixed, held, Sound, cut, length-cut}

-- what lies below a frame is layered too
under : (f : Frame) (fs : List Frame) (ms : List MaybeType) (inits : List ℕ) → Layered (f ∷ fs) (length ms) (length inits)
    → Layered fs (length (cut f ms)) (length (take f.init_height inits))
under f fs ms inits l = rw (length-cut f ms l.0, length-take-le f.init_height inits l.1) l.2

-- all operands are those of the open frames
pub operands_whole : (fs : List Frame) (ms : List MaybeType) (inits : List ℕ) → Layered fs (length ms) (length inits) → operands_in (opens_of fs ms inits) ≡ ms
operands_whole [] [] inits l = refl
operands_whole [] (m ∷ ms) inits l = cc
operands_whole (f ∷ fs) ms inits l =
    rw (operands_whole fs (cut f ms) (take f.init_height inits) (under f fs ms inits l)) (take-append-drop (length ms - f.height) ms)

-- each frame lies over those around it
pub frames_whole : (fs : List Frame) (ms : List MaybeType) (inits : List ℕ) (n : ℕ) → Layered fs (length ms) (length inits)
    → frame_at (opens_of fs ms inits) n ≡ slice_get fs n
frames_whole [] ms inits n l = refl
frames_whole (f ∷ fs) ms inits zero l =
    let u = under f fs ms inits l in
    rw (operands_whole fs (cut f ms) (take f.init_height inits) u, length-cut f ms l.0, length-take-le f.init_height inits l.1) refl
frames_whole (f ∷ fs) ms inits (suc n) l = frames_whole fs (cut f ms) (take f.init_height inits) n (under f fs ms inits l)

-- the same of what lies in memory the last on top
sound_under : (cs : List Frame) (ms : List MaybeType) (inits : List ℕ) → Sound cs ms inits → Layered (reverse cs) (length (reverse ms)) (length inits)
sound_under cs ms inits l = rw length-reverse l

pub held_operands : (w : Fixed) (cs : List Frame) (ms : List MaybeType) (inits : List ℕ) → Sound cs ms inits → operands_in (held w cs ms inits).opens ≡ reverse ms
held_operands w cs ms inits l = operands_whole (reverse cs) (reverse ms) inits (sound_under cs ms inits l)

pub held_height : (w : Fixed) (cs : List Frame) (ms : List MaybeType) (inits : List ℕ) → Sound cs ms inits → length ms ≡ length (operands_in (held w cs ms inits).opens)
held_height w cs ms inits l = sym (ap length (held_operands w cs ms inits l) ∙ length-reverse ms)

pub no_operand : (w : Fixed) (cs : List Frame) (ms : List MaybeType) (inits : List ℕ) (n : ℕ) → Sound cs ms inits → length ms ≤ n
    → None ≡ option_map known_type (slice_get (operands_in (held w cs ms inits).opens) n)
no_operand w cs ms inits n l h =
    let r = length-reverse ms in
    sym (rw (held_operands w cs ms inits l, slice_get_past (reverse ms) n (omega (arith, r, h))) refl)

pub some_operand : (w : Fixed) (cs : List Frame) (ms xs : List MaybeType) (inits : List ℕ) (n : ℕ) (a d : MaybeType) → Sound cs ms inits → xs ≡ ms → n < length xs
    → a ≡ get_or xs (length xs - 1 - n) d → Some (known_type a) ≡ option_map known_type (slice_get (operands_in (held w cs ms inits).opens) n)
some_operand w cs ms xs inits n a d l x h e =
    let r = length-reverse xs in
    let k : n < length (reverse xs) = omega (arith, r, h) in
    let g : slice_get (reverse xs) n ≡ Some a = slice_get-get_or (reverse xs) n d k ∙ ap Some (get_or-reverse xs n d h ∙ sym e) in
    let g' : slice_get (reverse ms) n ≡ Some a = rw x at g in
    sym (rw (held_operands w cs ms inits l, g') refl)

pub no_frame : (w : Fixed) (cs : List Frame) (ms : List MaybeType) (inits : List ℕ) (n : ℕ) → Sound cs ms inits → length cs ≤ n → frame_at (held w cs ms inits).opens n ≡ None
no_frame w cs ms inits n l h =
    let r = length-reverse cs in
    frames_whole (reverse cs) (reverse ms) inits n (sound_under cs ms inits l) ∙ slice_get_past (reverse cs) n (omega (arith, r, h))

pub some_frame_at : (w : Fixed) (cs xs : List Frame) (ms : List MaybeType) (inits : List ℕ) (n : ℕ) (f d : Frame) → Sound cs ms inits → xs ≡ cs → n < length xs
    → f ≡ get_or xs (length xs - 1 - n) d → frame_at (held w cs ms inits).opens n ≡ Some f
some_frame_at w cs xs ms inits n f d l x h e =
    let r = length-reverse xs in
    let k : n < length (reverse xs) = omega (arith, r, h) in
    let g : slice_get (reverse xs) n ≡ Some f = slice_get-get_or (reverse xs) n d k ∙ ap Some (get_or-reverse xs n d h ∙ sym e) in
    frames_whole (reverse cs) (reverse ms) inits n (sound_under cs ms inits l) ∙ (rw x at g)
