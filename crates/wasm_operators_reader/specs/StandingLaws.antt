-- From one standing there is at most one step, and none where the reader refuses.
use Rattle.std.proofs.Common.{nat_eq, Bool, true, false, IsTrue, ◌≡◌, inl, inr, ℕ, ◌+◌, ◌<◌, List, [], ◌∷◌, length, Option, Some, None, refl, sym}
use Rattle.std.proofs.Common.{◌∙◌, subst}
use Rattle.wasm_types.specs.decoding.Decoder.{State, Outcome, Done}
use Rattle.wasm_types.specs.settings.Settings.{Settings}
use Rattle.wasm_types.specs.decoding.declared.error.ErrorKind.{ErrorKind}
use Rattle.wasm_types.specs.decoding.declared.error.ErrorKind.TheVariants.{EndOfData, MissingFeature, OutOfMemory, Failed, Other}
use Rattle.wasm_types.specs.decoding.ErrorValue.{ErrorValue}
use Rattle.wasm_types.specs.reader.Reading.{FailsAt, Fails, IsNotMemory}
use Rattle.wasm_operators_immediates.specs.declared.frames.FrameKind.{FrameKind}
use Rattle.wasm_operators_enums.specs.Op.{Op}
use Rattle.wasm_operators_encoding.specs.Coded.{Coded, operator}
use Rattle.wasm_operators_encoding.specs.CodedLaws.{fewer_left}
use Rattle.wasm_operators_encoding.specs.Operators.{coded_of}
use Rattle.wasm_operators_encoding.specs.OperatorLaws.{coded_apart}
use Rattle.wasm_operators_decode.specs.Memory.{keeps_list_at}
use Rattle.wasm_operators_encoding.specs.expressions.Frames.{after}
use Rattle.wasm_operators_reader.specs.Standing.{Standing, Reads, IsUnfit, RefusesIn, Refuses, WantsMemory}
use Rattle.wasm_operators_reader.specs.Iterating.{items_left}

-- ---- an operator has bytes

-- so fewer are left after it
pub reads_fewer : (s : Standing) (o : Op) (t : Standing) → Reads s o t → length t.bytes.rest < length s.bytes.rest
reads_fewer s o t h = fewer_left s.bytes.settings s.bytes t.bytes (coded_of o) h.read

-- and an iterator has fewer items left
pub fewer_items : (failed : Bool) (s : Standing) (o : Op) (t : Standing) → failed ≡ false → Reads s o t → items_left failed t < items_left failed s
fewer_items true s o t e h = absurd cc
fewer_items false s o t e h = reads_fewer s o t h

-- ---- one step

same_coded : (c d : Coded) (t u : State) → Done c t ≡ Done d u → c ≡ d
same_coded c d t u e = cc

same_state : (c d : Coded) (t u : State) → Done c t ≡ Done d u → t ≡ u
same_state c d t u e = cc

same_frames : (is js : List FrameKind) → Some is ≡ Some js → is ≡ js
same_frames is js e = cc

none_some : (found : Option (List FrameKind)) (js : List FrameKind) → found ≡ None → found ≡ Some js → ⊥
none_some found js e f = absurd cc

same_standing : (t u : Standing) → t.bytes ≡ u.bytes → t.frames ≡ u.frames → t ≡ u
same_standing t u e f = λ i. record { bytes = e i; frames = f i }

pub same_parts : (b d : State) (is js : List FrameKind) → b ≡ d → is ≡ js → ◌≡◌ {A = Standing} (record { bytes = b; frames = is }) (record { bytes = d; frames = js })
same_parts b d is js e f = λ i. record { bytes = e i; frames = f i }

-- two steps from one standing are the same
pub one_step : (s : Standing) (o p : Op) (t u : Standing) → Reads s o t → Reads s p u → (o ≡ p) × (t ≡ u)
one_step s o p t u h g =
    let again = sym h.read ∙ g.read in
    let same = coded_apart o p h.canonical g.canonical (same_coded (coded_of o) (coded_of p) t.bytes u.bytes again) in
    let fits : after o s.frames ≡ Some u.frames = subst (λ (q : Op). after q s.frames ≡ Some u.frames) (sym same) g.fits in
    (same, same_standing t u (same_state (coded_of o) (coded_of p) t.bytes u.bytes again) (same_frames t.frames u.frames (sym h.fits ∙ fits)))

-- ---- no step

done_fails : (k : ErrorKind) (p : ℕ) (c : Coded) (t : State) → FailsAt k p (Done c t) → IsNotMemory k → ⊥
done_fails (EndOfData h) p c t e n = absurd cc
done_fails (MissingFeature f) p c t e n = absurd cc
done_fails OutOfMemory p c t e n = n
done_fails Failed p c t e n = e
done_fails Other p c t e n = absurd cc

-- where a decoder fails there is no value
pub unread : (e : ErrorValue) (settings : Settings) (s : State) → Fails e (operator settings s) → IsNotMemory e.kind → (c : Coded) (t : State) → operator settings s ≡ Done c t → ⊥
unread e settings s fails n c t read =
    done_fails e.kind e.offset c t (subst (λ (o : Outcome Coded). FailsAt e.kind e.offset o) read fails) n

pub nothing_follows : (s : Standing) (o : Op) (t : Standing) → s.frames ≡ [] → Reads s o t → ⊥
nothing_follows s o t f h = let g : after o [] ≡ Some t.frames = subst (λ (ks : List FrameKind). after o ks ≡ Some t.frames) f h.fits in absurd cc

refused_at : (s : Standing) (e : ErrorValue) (ks : List FrameKind) → s.frames ≡ ks → RefusesIn ks s e → IsNotMemory e.kind → (o : Op) (t : Standing) → Reads s o t → ⊥
refused_at s e [] f r n o t h = nothing_follows s o t f h
refused_at s e (k ∷ ks) f (inl fails) n o t h = unread e s.bytes.settings s.bytes fails n (coded_of o) t.bytes h.read
refused_at s e (k ∷ ks) f (inr (u, kind, place)) n o t h =
    let same = coded_apart o u.op h.canonical u.canonical (same_coded (coded_of o) (coded_of u.op) t.bytes u.behind (sym h.read ∙ u.read)) in
    none_some (after u.op s.frames) t.frames u.unfit (subst (λ (q : Op). after q s.frames ≡ Some t.frames) same h.fits)

refuses_in : (s : Standing) (e : ErrorValue) (ks : List FrameKind) → nat_eq (length ks) 0 ≡ false → Fails e (operator s.bytes.settings s.bytes) → RefusesIn ks s e
refuses_in s e [] o f = absurd cc
refuses_in s e (k ∷ ks) o f = inl f

-- with a frame open it refuses what no operator begins
pub refuses_fault : (s : Standing) (e : ErrorValue) → nat_eq (length s.frames) 0 ≡ false → Fails e (operator s.bytes.settings s.bytes) → Refuses s e
refuses_fault s e o f = refuses_in s e s.frames o f

unfit_in : (s : Standing) (e : ErrorValue) (ks : List FrameKind) → nat_eq (length ks) 0 ≡ false → IsUnfit s → e.kind ≡ Other → e.offset ≡ s.bytes.place + 1 → RefusesIn ks s e
unfit_in s e [] o u kind place = absurd cc
unfit_in s e (k ∷ ks) o u kind place = inr (u, kind, place)

-- and what may not come next
pub refuses_unfit : (s : Standing) (e : ErrorValue) → nat_eq (length s.frames) 0 ≡ false → IsUnfit s → e.kind ≡ Other → e.offset ≡ s.bytes.place + 1 → Refuses s e
refuses_unfit s e o u kind place = unfit_in s e s.frames o u kind place

-- where it refuses it reads nothing, unless memory ran out
pub refused_no_step : (s : Standing) (e : ErrorValue) → Refuses s e → IsNotMemory e.kind → (o : Op) (t : Standing) → Reads s o t → ⊥
refused_no_step s e r n o t h = refused_at s e s.frames refl r n o t h

-- ---- memory

not_true : (b : Bool) → (IsTrue b → ⊥) → b ≡ false
not_true true h = absurd (h refl)
not_true false h = refl

-- where it wants no memory the operator keeps no list
pub no_list : (s : Standing) → (WantsMemory s → ⊥) → keeps_list_at s.bytes ≡ false
no_list s h = not_true (keeps_list_at s.bytes) (λ t. h (inl t))
