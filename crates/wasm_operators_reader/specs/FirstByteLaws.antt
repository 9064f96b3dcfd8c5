-- What is told of an operator that was not read is told for memory only if memory was refused, and is why nothing more is read.
use Rattle.std.proofs.Common.{◌≡◌, ◌∙◌, ℕ, inl, inr, Option, Some, None, refl, sym, ap, subst}
use Rattle.wasm_types.specs.decoding.Decoder.{State}
use Rattle.wasm_types.specs.decoding.declared.error.ErrorKind.{ErrorKind}
use Rattle.wasm_types.specs.decoding.ErrorValue.{ErrorValue}
use Rattle.wasm_types.specs.reader.Reading.{IsNotMemory}
use Rattle.wasm_operators_immediates.specs.declared.frames.FrameKind.{FrameKind}
use Rattle.wasm_operators_encoding.specs.expressions.Stack.{innermost}
use Rattle.wasm_operators_reader.specs.FirstByte.{ToldFirst, refused_by_first, refused_in, vector_in}
use Rattle.wasm_operators_reader.specs.Standing.{Standing, Refuses}
use Rattle.wasm_operators_reader.specs.Visiting.{RefusesPlain}

-- it was not read for another reason than memory, if another is told
pub told_content : (k : Option ErrorKind) (place : ℕ) (f e : ErrorValue) → ToldFirst k place f e → IsNotMemory e.kind → IsNotMemory f.kind
told_content None place f e same n = subst (λ (x : ErrorValue). IsNotMemory x.kind) same n
told_content (Some k) place f e (inl told) n = told.0
told_content (Some k) place f e (inr (memory, same)) n = subst (λ (x : ErrorValue). IsNotMemory x.kind) same n

-- by the bytes of a reader that stands in this frame
pub told_in_frame : (k : FrameKind) (s : Standing) (b : State) (f e : ErrorValue) → Some k ≡ innermost s.frames → b ≡ s.bytes
    → ToldFirst (refused_by_first b.settings.features b.rest) b.place f e → ToldFirst (refused_in (innermost s.frames) s.bytes) s.bytes.place f e
told_in_frame k s b f e frame bytes told =
    subst (λ (j : Option FrameKind). ToldFirst (refused_in j s.bytes) s.bytes.place f e) frame
    (subst (λ (a : State). ToldFirst (refused_by_first a.settings.features a.rest) a.place f e) bytes told)

-- the same of who takes no operator on vectors, and stays where it stood
pub refused_plain : (s t : Standing) (k : Option FrameKind) (b : State) (f e : ErrorValue) → Refuses s f → t ≡ s → k ≡ innermost t.frames → b ≡ s.bytes
    → ToldFirst (vector_in k b) b.place f e → RefusesPlain s e
refused_plain s t k b f e r same frame bytes told =
    let framed : k ≡ innermost s.frames = frame ∙ ap (λ (u : Standing). innermost u.frames) same in
    let here = subst (λ (a : State). ToldFirst (vector_in k a) a.place f e) bytes told in
    inl (f, r, subst (λ (j : Option FrameKind). ToldFirst (vector_in j s.bytes) s.bytes.place f e) framed here)
