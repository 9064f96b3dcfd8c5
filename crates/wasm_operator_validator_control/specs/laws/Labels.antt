-- What a label names, as the code looks it up.
use Rattle.std.proofs.Common.{◌≡◌, ◌∙◌, ℕ, zero, suc, List, [], ◌∷◌, Option, Some, None, refl, sym, ap, slice_get, option_map, map, length, ◌-◌, arith}
use Rattle.wasm_operators_immediates.specs.declared.block.BlockType.{BlockType}
use Rattle.wasm_operators_immediates.specs.declared.frames.FrameKind.{FrameKind}
use Rattle.wasm_operator_validator_rules.specs.Operands.{ValueType}
use Rattle.wasm_operator_validator_rules.specs.Context.{label_of}
use Rattle.wasm_operator_validator_state.specs.resources.Meaning.{Meaning}
use Rattle.wasm_operator_validator_state.specs.State.{Open, signature_of, label, outermost_results}
use Rattle.wasm_operator_validator_state.specs.Steps.{IsOpen, SameFrames}

-- the type and the kind of the frame that a label names
abbrev pub frame_at : List Open → ℕ → Option (BlockType × FrameKind)
frame_at opens d = option_map (λ (o : Open). (o.block, o.kind)) (slice_get opens d)

abbrev pub IsFrame : Option (BlockType × FrameKind) → BlockType → FrameKind → Type 0
IsFrame o bt k = ◌≡◌ {A = Option (BlockType × FrameKind)} (Some (bt, k)) o

abbrev pub IsNoFrame : Option (BlockType × FrameKind) → Type 0
IsNoFrame o = ◌≡◌ {A = Option (BlockType × FrameKind)} None o

same_frame : (x y : BlockType × FrameKind) → ◌≡◌ {A = Option (BlockType × FrameKind)} (Some x) (Some y) → x ≡ y
same_frame x y e = cc

pub label_at : (m : Meaning) (opens : List Open) (d : ℕ) (bt : BlockType) (k : FrameKind) → IsFrame (frame_at opens d) bt k
    → slice_get (map (label m) opens) d ≡ Some (label_of k (signature_of m bt))
label_at m [] d bt k e = absurd (nothing e)
  where
    nothing : IsFrame None bt k → ⊥
    nothing e = cc
label_at m (o ∷ outer) zero bt k e =
    sym (ap (λ (x : BlockType × FrameKind). Some (label_of x.1 (signature_of m x.0))) (same_frame (bt, k) (o.block, o.kind) e))
label_at m (o ∷ outer) (suc d) bt k e = label_at m outer d bt k e

pub no_label_at : (m : Meaning) (opens : List Open) (d : ℕ) → IsNoFrame (frame_at opens d) → slice_get (map (label m) opens) d ≡ None
no_label_at m [] d e = refl
no_label_at m (o ∷ outer) zero e = cc
no_label_at m (o ∷ outer) (suc d) e = no_label_at m outer d e

-- operands that were taken off are no labels
pub same_labels : (m : Meaning) (os ps : List Open) → SameFrames os ps → map (label m) ps ≡ map (label m) os
same_labels m [] ps b = absurd b
same_labels m (o ∷ outer) [] b = absurd b
same_labels m (o ∷ outer) (p ∷ others) (k, bl, be, e) = rw (k, bl, e) refl

-- the same label
pub one_label : (ts us : List ValueType) (o : Option (List ValueType)) → o ≡ Some ts → o ≡ Some us → us ≡ ts
one_label ts us o e f = let g : ◌≡◌ {A = Option (List ValueType)} (Some us) (Some ts) = sym f ∙ e in cc

pub not_labelled : (us : List ValueType) (o : Option (List ValueType)) → o ≡ None → o ≡ Some us → ⊥
not_labelled us o e f = let g : ◌≡◌ {A = Option (List ValueType)} None (Some us) = sym e ∙ f in cc

-- ---- the outermost frame, that of the body

last_frame : (o p : Open) (outer : List Open) → frame_at (o ∷ p ∷ outer) (length (o ∷ p ∷ outer) - 1) ≡ frame_at (p ∷ outer) (length (p ∷ outer) - 1)
last_frame o p outer = let e : length (o ∷ p ∷ outer) - 1 ≡ suc (length (p ∷ outer) - 1) = omega arith in ap (frame_at (o ∷ p ∷ outer)) e

pub outermost_at : (m : Meaning) (opens : List Open) (bt : BlockType) (k : FrameKind) → IsFrame (frame_at opens (length opens - 1)) bt k
    → outermost_results m opens ≡ (signature_of m bt).results
outermost_at m [] bt k e = absurd (nothing e)
  where
    nothing : IsFrame None bt k → ⊥
    nothing e = cc
outermost_at m (o ∷ []) bt k e = sym (ap (λ (x : BlockType × FrameKind). (signature_of m x.0).results) (same_frame (bt, k) (o.block, o.kind) e))
outermost_at m (o ∷ p ∷ outer) bt k e = outermost_at m (p ∷ outer) bt k (e ∙ last_frame o p outer)

pub some_outermost : (opens : List Open) → IsOpen opens → IsNoFrame (frame_at opens (length opens - 1)) → ⊥
some_outermost [] i e = i
some_outermost (o ∷ []) i e = cc
some_outermost (o ∷ p ∷ outer) i e = some_outermost (p ∷ outer) tt (e ∙ last_frame o p outer)
