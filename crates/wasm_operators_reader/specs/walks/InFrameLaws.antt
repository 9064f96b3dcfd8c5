-- What is read in a frame is what a reader with that frame innermost reads.
use Rattle.std.proofs.Common.{◌≡◌, ◌↔◌, inl, inr, Bool, true, false, List, [], ◌∷◌, Option, Some, None, refl, sym, ◌∙◌, subst}
use Rattle.wasm_types.specs.decoding.Decoder.{State}
use Rattle.wasm_types.specs.decoding.ErrorValue.{ErrorValue}
use Rattle.wasm_operators_immediates.specs.declared.frames.FrameKind.{FrameKind}
use Rattle.wasm_operators_enums.specs.Op.{Op}
use Rattle.wasm_operators_enums.specs.Roles.{fits}
use Rattle.wasm_operators_encoding.specs.expressions.Frames.{after}
use Rattle.wasm_operators_encoding.specs.expressions.FrameLaws.{fits_after}
use Rattle.wasm_operators_encoding.specs.expressions.Stack.{innermost}
use Rattle.wasm_operators_reader.specs.Standing.{Reads, Refuses}
use Rattle.wasm_operators_reader.specs.FirstByte.{ToldFirst, vector_in}
use Rattle.wasm_operators_reader.specs.walks.InFrame.{ReadsIn, RefusesIn, RefusesPlainIn}

-- a reader at these bytes with these frames reads this operator, and stands behind it
abbrev pub ReadsTo : List FrameKind → State → Op → State → Type 0
ReadsTo ks s o b = (js : List FrameKind) × Reads (record { bytes = s; frames = ks }) o (record { bytes = b; frames = js })

reads_to : (ks : List FrameKind) (s b : State) (o : Op) → ReadsIn (innermost ks) s o b → ReadsTo ks s o b
reads_to [] s b o h = let no : false ≡ true = h.fits in absurd cc
reads_to (k ∷ ks) s b o h =
    let next = (fits_after o k ks).0 h.fits in
    (next.0, record { canonical = h.canonical; read = h.read; fits = next.1 })

reads_from : (ks : List FrameKind) (s b : State) (o : Op) → ReadsTo ks s o b → ReadsIn (innermost ks) s o b
reads_from [] s b o (js, h) = let no = h.fits in absurd cc
reads_from (k ∷ ks) s b o (js, h) = record { canonical = h.canonical; read = h.read; fits = (fits_after o k ks).1 (js, h.fits) }

pub reads_in_frame : (ks : List FrameKind) (s b : State) (o : Op) → ReadsIn (innermost ks) s o b ↔ ReadsTo ks s o b
reads_in_frame ks s b o = (reads_to ks s b o, reads_from ks s b o)

-- no frames behind it, and so it does not fit
none_of : (o : Op) (k : FrameKind) (ks : List FrameKind) (found : Option (List FrameKind)) → after o (k ∷ ks) ≡ found → fits o (Some k) ≡ false → found ≡ None
none_of o k ks None e f = refl
none_of o k ks (Some js) e f = let t : fits o (Some k) ≡ true = (fits_after o k ks).1 (js, e) in absurd cc

misfit_of : (o : Op) (k : FrameKind) (ks : List FrameKind) (b : Bool) → fits o (Some k) ≡ b → after o (k ∷ ks) ≡ None → b ≡ false
misfit_of o k ks true e f = let next = (fits_after o k ks).0 e in let no : None ≡ Some next.0 = sym f ∙ next.1 in absurd cc
misfit_of o k ks false e f = refl

refuses_to : (ks : List FrameKind) (s : State) (e : ErrorValue) → RefusesIn (innermost ks) s e → Refuses (record { bytes = s; frames = ks }) e
refuses_to [] s e h = h
refuses_to (k ∷ ks) s e (inl h) = inl h
refuses_to (k ∷ ks) s e (inr (m, kind, place)) =
    inr (record { op = m.op; behind = m.behind; canonical = m.canonical; read = m.read; unfit = none_of m.op k ks (after m.op (k ∷ ks)) refl m.misfit }, kind, place)

refuses_from : (ks : List FrameKind) (s : State) (e : ErrorValue) → Refuses (record { bytes = s; frames = ks }) e → RefusesIn (innermost ks) s e
refuses_from [] s e h = h
refuses_from (k ∷ ks) s e (inl h) = inl h
refuses_from (k ∷ ks) s e (inr (u, kind, place)) =
    inr (record { op = u.op; behind = u.behind; canonical = u.canonical; read = u.read; misfit = misfit_of u.op k ks (fits u.op (Some k)) refl u.unfit }, kind, place)

pub refuses_in_frame : (ks : List FrameKind) (s : State) (e : ErrorValue) → RefusesIn (innermost ks) s e ↔ Refuses (record { bytes = s; frames = ks }) e
refuses_in_frame ks s e = (refuses_to ks s e, refuses_from ks s e)

-- what is told where none on vectors is taken, by the bytes of a reader that stands here
pub refused_plain : (k : Option FrameKind) (s b : State) (f e : ErrorValue) → RefusesIn k s f → b ≡ s → ToldFirst (vector_in k b) b.place f e → RefusesPlainIn k s e
refused_plain k s b f e r same told = inl (f, r, subst (λ (a : State). ToldFirst (vector_in k a) a.place f e) same told)
