-- What comes next is read lawfully: an answer is final, and a hint is exact.
use Rattle.std.proofs.Common.{◌≡◌, ℕ, zero, suc, ◌+◌, ◌-◌, ◌*◌, ◌<◌, ◌≤◌, ◌^◌, List, [], ◌∷◌, length, refl, sym, subst, arith, cond, Bool, true, false}
use Rattle.std.specs.Prelude.{nat_lt, ◌==◌, ◌++◌}
use Rattle.std.proofs.lemmas.Bool.{ltb-true, ltb-false, lt-ltb, le-ltb}
use Rattle.wasm_types.specs.settings.Settings.{Settings}
use Rattle.wasm_types.specs.decoding.declared.Refusal.{Refusal}
use Rattle.wasm_types.specs.decoding.declared.Refusal.TheVariants.{Other}
use Rattle.wasm_types.specs.decoding.Decoder.{State, extended, Outcome, Done, Short, Fault, Decoder, continue_with, ◌>>=◌, pure, refuse, byte, bytes, GoesOn, GoesForward, IsBeyond, IsLawful}
use Rattle.wasm_types.specs.decoding.Laws.{takes_none, lawful->>=, lawful-pure, lawful-refuse, lawful-byte, lawful-if, lawful-bytes}
use Rattle.wasm_types.specs.decoding.Leb.{unsigned, u32}
use Rattle.wasm_types.specs.decoding.LebLaws.{lawful-unsigned}
use Rattle.wasm_types.specs.decoding.Places.{end_of, StaysIn}
use Rattle.wasm_types.specs.decoding.PlaceLaws.{within-unsigned}
use Rattle.wasm_types.specs.decoding.ListLaws.{lawful-from_place, lawful-refuse_at}
use Rattle.wasm_types.specs.decoding.Text.{name}
use Rattle.wasm_types.specs.reader.Parts.{next_part}
use Rattle.wasm_types.specs.reader.PartLaws.{lawful-next_part}
use Rattle.wasm_sections_items.specs.frames.Decode.{header}
use Rattle.wasm_sections_items.specs.frames.PartLaws.{lawful-header}
use Rattle.wasm_sections_parser.specs.declared.progress.Stage.{Stage}
use Rattle.wasm_sections_parser.specs.declared.progress.Stage.TheVariants as stages
use Rattle.wasm_sections_parser.specs.declared.progress.Progress.{Progress}
use Rattle.wasm_sections_parser.specs.Steps.{version, entry, begun, one_less, kept, number_before, found, in_part, is_announced, has_count, custom_next, section_next, Next, announced, contents_next, contents, code_next, start_next, code_at, code_start, ordered, next_section, body_at, body, next_entry, behind_code_at, behind_code, next_header, at_stage, step}

-- ---- where a number is refused that was cut off

-- a fault is at this offset or further on
abbrev IsFrom : {A : Type 0} → ℕ → Outcome A → Type 0
IsFrom p (Done x t) = Unit {0}
IsFrom p (Short q h) = Unit {0}
IsFrom p (Fault k q) = p ≤ q

-- after an end of data, with more bytes, a fault is no earlier
abbrev IsNoEarlier : {A : Type 0} → Outcome A → Outcome A → Type 0
IsNoEarlier (Done x t) after = Unit {0}
IsNoEarlier (Short p h) after = IsFrom p after
IsNoEarlier (Fault k p) after = Unit {0}

from_within : {A : Type 0} (low high : ℕ) (o : Outcome A) → StaysIn low high o → IsFrom low o
from_within low high (Done x t) h = tt
from_within low high (Short p n) h = tt
from_within low high (Fault k p) h = h.0

then_from : {A B : Type 0} (p : ℕ) (f : A → B) (o : Outcome A) → IsFrom p o → IsFrom p (continue_with o (λ x. pure (f x)))
then_from p f (Done x t) h = tt
then_from p f (Short q n) h = tt
then_from p f (Fault k q) h = h

then_no_earlier : {A B : Type 0} (f : A → B) (o after : Outcome A) → IsNoEarlier o after
    → IsNoEarlier (continue_with o (λ x. pure (f x))) (continue_with after (λ x. pure (f x)))
then_no_earlier f (Done x t) after h = tt
then_no_earlier f (Short p n) after h = then_from p f after h
then_no_earlier f (Fault k p) after h = tt

if_no_earlier : {A : Type 0} (b : Bool) (d e : Decoder A) (s t : State) → IsNoEarlier (d s) (d t) → IsNoEarlier (e s) (e t) → IsNoEarlier (cond b d e s) (cond b d e t)
if_no_earlier true d e s t hd he = hd
if_no_earlier false d e s t hd he = he

number_no_earlier : (k r : ℕ) (rest more : List ℕ) (a : ℕ) (z : Settings) (b : ℕ)
    → IsNoEarlier (unsigned k r (record { rest = rest; place = a; settings = z; start = b })) (unsigned k r (record { rest = rest ++ more; place = a; settings = z; start = b }))
unfolding unsigned
number_no_earlier k r [] more a z b = none k
  where
    here : State
    here = record { rest = more; place = a; settings = z; start = b }

    none : (n : ℕ) → IsNoEarlier (unsigned n r (record { rest = []; place = a; settings = z; start = b })) (unsigned n r here)
    none zero = from_within a (end_of here) (unsigned zero r here) ((within-unsigned zero r).stays here)
    none (suc n) = from_within a (end_of here) (unsigned (suc n) r here) ((within-unsigned (suc n) r).stays here)
number_no_earlier zero r (c ∷ rest) more a z b =
    if_no_earlier (nat_lt c (2 ^ r)) (pure c) (refuse Other 1) (record { rest = rest; place = a + 1; settings = z; start = b })
    (record { rest = rest ++ more; place = a + 1; settings = z; start = b }) tt tt
number_no_earlier (suc k) r (c ∷ rest) more a z b =
    let s : State = record { rest = rest; place = a + 1; settings = z; start = b } in
    let t : State = record { rest = rest ++ more; place = a + 1; settings = z; start = b } in
    if_no_earlier (nat_lt c 128) (pure c) (unsigned k r >>= λ m. pure (128 * m + (c - 128))) s t tt
    (then_no_earlier (λ m. 128 * m + (c - 128)) (unsigned k r s) (unsigned k r t) (number_no_earlier k r rest more (a + 1) z b))

-- ---- a number before an offset

module _ {A : Type 0} (end start : ℕ) where
  abbrev short : ℕ → ℕ → Outcome A
  short p h = Short p h

  abbrev fault : Outcome A
  fault = Fault Other start

  abbrev failed : Refusal → ℕ → Outcome A
  failed k p = Fault k p

  kept_forward : (s : State) (o : Outcome A) → GoesForward s o → GoesForward s (kept end start o)
  kept_forward s (Done x t) g = go (nat_lt end t.place)
    where
      go : (b : Bool) → GoesForward s (cond b (Fault Other start) (Done x t))
      go true = tt
      go false = g
  kept_forward s (Short p h) g = go (nat_lt p end)
    where
      go : (b : Bool) → GoesForward s (cond b (short p h) fault)
      go true = g
      go false = tt
  kept_forward s (Fault k p) g = go (nat_lt p end)
    where
      go : (b : Bool) → GoesForward s (cond b (failed k p) fault)
      go true = tt
      go false = tt

  -- what ends past an offset where the section ended already is refused
  kept_past : (p : ℕ) (o : Outcome A) → end ≤ p → IsBeyond p o → IsFrom p o → kept end start o ≡ Fault Other start
  kept_past p (Done x t) le b f = rw (lt-ltb end t.place (omega (arith, le, b))) refl
  kept_past p (Short q h) le b f = rw (le-ltb q end (omega (arith, le, b))) refl
  kept_past p (Fault k q) le b f = rw (le-ltb q end (omega (arith, le, f))) refl

  kept_beyond : (p : ℕ) (o : Outcome A) → IsBeyond p o → IsBeyond p (kept end start o)
  kept_beyond p (Done x t) b = go (nat_lt end t.place)
    where
      go : (c : Bool) → IsBeyond p (cond c (Fault Other start) (Done x t))
      go true = tt
      go false = b
  kept_beyond p (Short q h) b = go (nat_lt q end)
    where
      go : (c : Bool) → IsBeyond p (cond c (short q h) fault)
      go true = b
      go false = tt
  kept_beyond p (Fault k q) b = go (nat_lt q end)
    where
      go : (c : Bool) → IsBeyond p (cond c (failed k q) fault)
      go true = tt
      go false = tt

  -- how many bytes came
  came : (more : List ℕ) (h : ℕ) (o : Outcome A) (p : ℕ) → end ≤ p
      → (length more < h → o ≡ Short p (h - length more)) × (h ≤ length more → IsBeyond p o) → IsFrom p o → (b : Bool)
      → nat_lt (length more) h ≡ b → kept end start o ≡ Fault Other start
  came more h o p le g f true e = rw (g.0 (ltb-true _ _ e)) (rw (le-ltb p end le) refl)
  came more h o p le g f false e = kept_past p o le (g.1 (ltb-false _ _ e)) f

  kept_steady : (more : List ℕ) (o after : Outcome A) → GoesOn o more after → IsNoEarlier o after → GoesOn (kept end start o) more (kept end start after)
  kept_steady more (Done x t) after g n = subst (λ (z : Outcome A). GoesOn (kept end start (Done x t)) more (kept end start z)) (sym g) (go (nat_lt end t.place))
    where
      go : (b : Bool) → GoesOn (cond b (Fault Other start) (Done x t)) more (cond b (Fault Other start) (Done x (extended t more)))
      go true = refl
      go false = refl
  kept_steady more (Short p h) after g n = go (nat_lt p end) refl
    where
      go : (b : Bool) → nat_lt p end ≡ b → GoesOn (cond b (short p h) fault) more (kept end start after)
      go true e = (λ lt. rw (g.0 lt) (rw e refl), λ le. kept_beyond p after (g.1 le))
      go false e = came more h after p (ltb-false _ _ e) g n (nat_lt (length more) h) refl
  kept_steady more (Fault k p) after g n = subst (λ (o : Outcome A). GoesOn (kept end start (Fault k p)) more (kept end start o)) (sym g) (go (nat_lt p end))
    where
      go : (b : Bool) → GoesOn (cond b (failed k p) fault) more (cond b (failed k p) fault)
      go true = refl
      go false = refl

pub lawful-number_before : (end : ℕ) → IsLawful (number_before end)
unfolding number_before
lawful-number_before end = record {
  forward = λ s. kept_forward end s.place s (u32 s) ((lawful-unsigned 4 4).forward s);
  steady = λ s more. kept_steady end s.place more (u32 s) (u32 (extended s more)) ((lawful-unsigned 4 4).steady s more)
      (number_no_earlier 4 4 s.rest more s.place s.settings s.start);
}

-- ---- the front of a part

module _ {A B : Type 0} (f : A → List ℕ → B) where
  found_forward : (t : State) (o : Outcome A) → GoesForward t (found f t o)
  found_forward t (Done x u) = ([], takes_none t)
  found_forward t (Short p h) = tt
  found_forward t (Fault k p) = tt

  found_steady : (t : State) (more : List ℕ) (o : Outcome A) → GoesOn (found f t o) more (found f (extended t more) o)
  found_steady t more (Done x u) = refl
  found_steady t more (Short p h) = refl
  found_steady t more (Fault k p) = refl

  pub lawful-in_part : (d : Decoder A) (part : State) → IsLawful (in_part d f part)
  unfolding in_part
  lawful-in_part d part = record { forward = λ t. found_forward t (d part); steady = λ t more. found_steady t more (d part) }

-- ---- sections

lawful-announced : (id : ℕ) (x : Next) → IsLawful (announced id x)
lawful-announced id x = lawful-if (is_announced id x.1) _ _ (lawful-pure x) (lawful-refuse Other 0)

lawful-contents : (z : Settings) (p : Progress) (id n : ℕ) → IsLawful (contents z p id n)
unfolding contents
lawful-contents z p id n = lawful->>= (next_part n) (contents_next z p id) (lawful-next_part n) (λ part.
    lawful-if (id == 0) _ _ (lawful-in_part (custom_next p) (name z.limits.string_bytes) part)
    (lawful-if (has_count id) _ _ (lawful->>= (in_part u32 (section_next p id part.rest) part) (announced id) (lawful-in_part (section_next p id part.rest) u32 part) (lawful-announced id))
    (lawful-pure (section_next p id part.rest 0 []))))

lawful-code_start : (p : Progress) (n : ℕ) → IsLawful (code_start p n)
unfolding code_start
lawful-code_start p n = lawful-from_place (code_at p n) (λ place. lawful-if (nat_lt place (2 ^ 64 - n)) _ _
    (lawful->>= (number_before (place + n)) (start_next p n place) (lawful-number_before (place + n))
    (λ k. lawful-if (p.functions == k) _ _ (lawful-pure (code_next p n (place + n) k)) (lawful-refuse_at Other place)))
    (lawful-refuse_at Other place))

pub lawful-next_section : (z : Settings) (p : Progress) → IsLawful (next_section z p)
unfolding next_section
lawful-next_section z p = lawful->>= byte _ lawful-byte (λ id. lawful->>= u32 (ordered z p id) (lawful-unsigned 4 4) (λ n.
    lawful-if _ _ _ (lawful-refuse Other 0) (lawful-if (id == 10) _ _ (lawful-code_start p n) (lawful-contents z p id n))))

pub lawful-next_entry : (p : Progress) (left end : ℕ) → IsLawful (next_entry p left end)
unfolding next_entry
lawful-next_entry p left end = lawful->>= (number_before end) (body p left end) (lawful-number_before end) (λ n. lawful-from_place (body_at p left end n) (λ place.
    lawful-if (nat_lt (end - place) n) _ _ (lawful-refuse_at Other place) (lawful->>= (bytes n) _ (lawful-bytes n) (λ text. lawful-pure (entry text, one_less p left end)))))

lawful-behind_code : (z : Settings) (p : Progress) (end : ℕ) → IsLawful (behind_code z p end)
unfolding behind_code
lawful-behind_code z p end = lawful-from_place (behind_code_at z p end) (λ place. lawful-if (nat_lt place end) _ _ (lawful-refuse_at Other place) (lawful-next_section z p))

pub lawful-next_header : (p : Progress) → IsLawful (next_header p)
unfolding next_header
lawful-next_header p = lawful->>= header _ lawful-header (λ h. lawful-pure (version h, begun p))

lawful-at_stage : (z : Settings) (p : Progress) (stage : Stage) → IsLawful (at_stage z p stage)
lawful-at_stage z p stages.Header = lawful-next_header p
lawful-at_stage z p stages.Sections = lawful-next_section z p
lawful-at_stage z p (stages.Code left end) = lawful-if (left == 0) _ _ (lawful-behind_code z p end) (lawful-next_entry p left end)
lawful-at_stage z p stages.Ended = lawful-refuse Other 0
lawful-at_stage z p stages.Failed = lawful-refuse Other 0

pub lawful-step : (z : Settings) (p : Progress) → IsLawful (step z p)
unfolding step
lawful-step z p = lawful-at_stage z p p.stage
