-- Each way to put decoders together hands their laws on.
use Rattle.std.proofs.Common.{◌≡◌, ℕ, zero, suc, ◌+◌, ◌-◌, ◌<◌, ◌≤◌, List, [], ◌∷◌, ◌++◌, length, take, drop, refl, sym, ap, ◌∙◌, append_assoc, arith}
use Rattle.std.proofs.Common.{cond, ltb, Bool, true, false, inl, inr}
use Rattle.std.proofs.lemmas.List.{length-append, length-take, take-append-drop, take-append-le, drop-append-le}
use Rattle.wasm_types_decoding.specs.declared.Refusal.{Refusal}
use Rattle.wasm_types_decoding.specs.Decoder.{State, extended, Outcome, Done, Short, Fault, Decoder, continue_with, ◌>>=◌, pure, refuse}
use Rattle.wasm_types_decoding.specs.Decoder.{first_of_rest, byte, bytes, repeated, Takes, IsBeyond, Reaches, GoesOn, GoesForward, IsLawful, choice}
use Rattle.wasm_types_decoding.specs.Decoder.{choice_or, ended, within, look, look_first, TakesOne}
use Rattle.std.specs.Prelude.{if◌then◌else◌, ◌==◌}
use Rattle.std.proofs.lemmas.Bool.{cases_lt, le-ltb, lt-ltb}

-- ---- what is taken

pub takes_none : (s : State) → Takes s [] s
takes_none s = record { parts = refl; place = omega arith; settings = refl; start = refl }

pub Takes-then : (s t u : State) (a b : List ℕ) → Takes s a t → Takes t b u → Takes s (a ++ b) u
Takes-then s t u a b p q = record {
  parts = p.parts ∙ ap (λ (r : List ℕ). a ++ r) q.parts ∙ sym (append_assoc a b u.rest);
  place = omega (arith, p.place, q.place, length-append a b);
  settings = q.settings ∙ p.settings;
  start = q.start ∙ p.start;
}

pub reaches_self : (s : State) → Reaches s s
reaches_self s = record { text = []; taken = takes_none s }

pub reaches_then : (s t u : State) → Reaches s t → Reaches t u → Reaches s u
reaches_then s t u p q = record { text = p.text ++ q.text; taken = Takes-then s t u p.text q.text p.taken q.taken }

-- ---- one after the other

module _ {B : Type 0} where
  from_there : (s t : State) (text : List ℕ) (o : Outcome B) → Takes s text t → GoesForward t o → GoesForward s o
  from_there s t text (Done y u) p g = (text ++ g.0, Takes-then s t u text g.0 p g.1)
  from_there s t text (Short q h) p g = (omega (arith, p.place, g.0), g.1)
  from_there s t text (Fault k q) p g = tt

  still_beyond : (p : ℕ) (t : State) (o : Outcome B) → p < t.place → GoesForward t o → IsBeyond p o
  still_beyond p t (Done y u) lt g = omega (arith, g.1.place)
  still_beyond p t (Short q h) lt g = omega (arith, g.0)
  still_beyond p t (Fault k q) lt g = tt

module _ {A B : Type 0} (f : A → Decoder B) (lawful : (x : A) → IsLawful (f x)) where
  forward_then : (s : State) (o : Outcome A) → GoesForward s o → GoesForward s (continue_with o f)
  forward_then s (Done x t) g = from_there s t g.0 (f x t) g.1 ((lawful x).forward t)
  forward_then s (Short p h) g = g
  forward_then s (Fault k p) g = tt

  beyond_then : (p : ℕ) (o : Outcome A) → IsBeyond p o → IsBeyond p (continue_with o f)
  beyond_then p (Done x t) g = still_beyond p t (f x t) g ((lawful x).forward t)
  beyond_then p (Short q h) g = g
  beyond_then p (Fault k q) g = tt

  steady_then : (more : List ℕ) (o after : Outcome A) → GoesOn o more after → GoesOn (continue_with o f) more (continue_with after f)
  steady_then more (Done x t) after g = rw g ((lawful x).steady t more)
  steady_then more (Short p h) after g = (λ lt. rw (g.0 lt) refl, λ le. beyond_then p after (g.1 le))
  steady_then more (Fault k p) after g = rw g refl

pub lawful->>= : {A B : Type 0} (d : Decoder A) (f : A → Decoder B) → IsLawful d → ((x : A) → IsLawful (f x)) → IsLawful (d >>= f)
lawful->>= d f l lf = record {
  forward = λ s. forward_then f lf s (d s) (l.forward s);
  steady = λ s more. steady_then f lf more (d s) (d (extended s more)) (l.steady s more);
}

pub lawful-pure : {A : Type 0} (x : A) → IsLawful (pure x)
lawful-pure x = record { forward = λ s. ([], takes_none s); steady = λ s more. refl }

pub lawful-refuse : {A : Type 0} (k : Refusal) (back : ℕ) → IsLawful (refuse {A = A} k back)
lawful-refuse k back = record { forward = λ s. tt; steady = λ s more. refl }

-- ---- one byte

byte_forward : (rest : List ℕ) (s : State) → s.rest ≡ rest → GoesForward s (first_of_rest rest s)
byte_forward [] s e = (omega arith, omega arith)
byte_forward (b ∷ rest) s e = (b ∷ [], record { parts = e; place = refl; settings = refl; start = refl })

byte_beyond : (s : State) (rest : List ℕ) → 1 ≤ length rest → IsBeyond s.place (first_of_rest rest s)
byte_beyond s [] h = absurd (omega arith)
byte_beyond s (b ∷ rest) h = omega arith

byte_short : (s : State) (rest : List ℕ) → length rest < 1 → first_of_rest rest s ≡ Short s.place (1 - length rest)
byte_short s [] h = refl
byte_short s (b ∷ rest) h = absurd (omega arith)

byte_steady : (rest : List ℕ) (s : State) (more : List ℕ) → GoesOn (first_of_rest rest s) more (first_of_rest (rest ++ more) (extended s more))
byte_steady [] s more = (λ h. byte_short (extended s more) more h, λ h. byte_beyond (extended s more) more h)
byte_steady (b ∷ rest) s more = refl

pub lawful-byte : IsLawful byte
lawful-byte = record { forward = λ s. byte_forward s.rest s refl; steady = λ s more. byte_steady s.rest s more }

-- ---- values in a row

pub lawful-repeated : {A : Type 0} (n : ℕ) (d : Decoder A) → IsLawful d → IsLawful (repeated n d)
unfolding repeated
lawful-repeated zero d l = lawful-pure []
lawful-repeated (suc n) d l = lawful->>= d (λ x. repeated n d >>= λ xs. pure (x ∷ xs)) l
    (λ x. lawful->>= (repeated n d) (λ xs. pure (x ∷ xs)) (lawful-repeated n d l) (λ xs. lawful-pure (x ∷ xs)))

-- ---- a choice

pub lawful-if : {A : Type 0} (b : Bool) (d e : Decoder A) → IsLawful d → IsLawful e → IsLawful (if b then d else e)
lawful-if true d e l m = l
lawful-if false d e l m = m

-- each alternative is lawful
abbrev pub AllLawful : {A : Type 0} → List (ℕ × Decoder A) → Type 0
AllLawful [] = Unit {0}
AllLawful (c ∷ cs) = IsLawful c.1 × AllLawful cs

pub lawful-choice : {A : Type 0} (cs : List (ℕ × Decoder A)) (other : Decoder A) (b : ℕ) → AllLawful cs → IsLawful other → IsLawful (choice cs other b)
lawful-choice [] other b l o = o
lawful-choice (c ∷ cs) other b l o = lawful-if (b == c.0) c.1 (choice cs other b) l.0 (lawful-choice cs other b l.1 o)

pub lawful-choice_or : {A : Type 0} (cs : List (ℕ × Decoder A)) (next : ℕ → Decoder A) (b : ℕ) → AllLawful cs → IsLawful (next b) → IsLawful (choice_or cs next b)
lawful-choice_or [] next b l o = o
lawful-choice_or (c ∷ cs) next b l o = lawful-if (b == c.0) c.1 (choice_or cs next b) l.0 (lawful-choice_or cs next b l.1 o)

-- ---- bytes as they stand

module _ (n : ℕ) (s : State) where
  pub bytes-enough : n ≤ length s.rest → bytes n s ≡ Done (take n s.rest) (record { rest = drop n s.rest; place = s.place + n; settings = s.settings; start = s.start })
  bytes-enough h = let e : ltb (length s.rest) n ≡ false = le-ltb _ _ h in rw e refl

  pub bytes-short : length s.rest < n → bytes n s ≡ Short s.place (n - length s.rest)
  bytes-short h = let e : ltb (length s.rest) n ≡ true = lt-ltb _ _ h in rw e refl

bytes_forward : (n : ℕ) (s : State) → GoesForward s (bytes n s)
bytes_forward n s = elim (cases_lt (length s.rest) n) [
  | inl short ↦ rw (bytes-short n s short) (omega arith, omega arith)
  | inr enough ↦ rw (bytes-enough n s enough) (
    take n s.rest,
    record { parts = sym (take-append-drop n s.rest); place = omega (arith, length-take n s.rest); settings = refl; start = refl },
  )
]

bytes_beyond : (n : ℕ) (s : State) (more : List ℕ) → length s.rest < n → n - length s.rest ≤ length more → IsBeyond s.place (bytes n (extended s more))
bytes_beyond n s more short le =
    rw (bytes-enough n (extended s more) (omega (arith, length-append s.rest more))) (omega arith)

bytes_steady : (n : ℕ) (s : State) (more : List ℕ) → GoesOn (bytes n s) more (bytes n (extended s more))
bytes_steady n s more = elim (cases_lt (length s.rest) n) [
  | inl short ↦ rw (bytes-short n s short) (
    λ lt. bytes-short n (extended s more) (omega (arith, length-append s.rest more))
        ∙ ap (Short s.place) (omega (arith, length-append s.rest more)),
    bytes_beyond n s more short,
  )
  | inr enough ↦ rw (bytes-enough n s enough) (bytes-enough n (extended s more) (omega (arith, length-append s.rest more))
      ∙ rw (take-append-le n s.rest more enough, drop-append-le n s.rest more enough) refl)
]

pub lawful-bytes : (n : ℕ) → IsLawful (bytes n)
lawful-bytes n = record { forward = bytes_forward n; steady = bytes_steady n }

-- ---- parts and looks ahead

module _ {A : Type 0} (early late : Refusal) where
  ended_forward : (t : State) (o : Outcome A) → GoesForward t (ended early late t o)
  ended_forward t (Done x u) = go (length u.rest == 0)
    where
      go : (b : Bool) → GoesForward t (cond b (Done x t) (Fault late u.place))
      go true = ([], takes_none t)
      go false = tt
  ended_forward t (Short q h) = tt
  ended_forward t (Fault k q) = tt

  ended_steady : (t : State) (more : List ℕ) (o : Outcome A) → GoesOn (ended early late t o) more (ended early late (extended t more) o)
  ended_steady t more (Done x u) = go (length u.rest == 0)
    where
      go : (b : Bool) → GoesOn (cond b (Done x t) (Fault late u.place)) more (cond b (Done x (extended t more)) (Fault late u.place))
      go true = refl
      go false = refl
  ended_steady t more (Short q h) = refl
  ended_steady t more (Fault k q) = refl

  -- a part is lawful whatever d is, since what it ends in is there
  pub lawful-within : (n : ℕ) (d : Decoder A) → IsLawful (within early late n d)
  unfolding within
  lawful-within n d = lawful->>= (bytes n) _ (lawful-bytes n) (λ part. record {
    forward = λ t. ended_forward t (d (record { rest = part; place = t.place - n; settings = t.settings; start = t.place - n }));
    steady = λ t more. ended_steady t more (d (record { rest = part; place = t.place - n; settings = t.settings; start = t.place - n }));
  })

module _ {A : Type 0} (f : ℕ → Decoder A) (lawful : (b : ℕ) → IsLawful (f b)) (takes : (b : ℕ) → TakesOne (f b)) where
  look_forward : (rest : List ℕ) (s : State) → GoesForward s (look_first rest s f)
  look_forward [] s = (omega arith, omega arith)
  look_forward (b ∷ rest) s = (lawful b).forward s

  look_short : (more : List ℕ) (s : State) → length more < 1 → look_first more s f ≡ Short s.place (1 - length more)
  look_short [] s h = refl
  look_short (b ∷ more) s h = absurd (omega arith)

  look_beyond : (more : List ℕ) (s : State) → s.rest ≡ more → 1 ≤ length more → IsBeyond s.place (look_first more s f)
  look_beyond [] s e h = absurd (omega arith)
  look_beyond (b ∷ more) s e h = takes b s (rw e (omega arith))

  look_steady : (rest : List ℕ) (s : State) (more : List ℕ) → s.rest ≡ rest → GoesOn (look_first rest s f) more (look_first (rest ++ more) (extended s more) f)
  look_steady [] s more e = (λ h. look_short more (extended s more) h, λ h. look_beyond more (extended s more) (ap (λ (z : List ℕ). z ++ more) e) h)
  look_steady (b ∷ rest) s more e = (lawful b).steady s more

  pub lawful-look : IsLawful (look f)
  lawful-look = record { forward = λ s. look_forward s.rest s; steady = λ s more. look_steady s.rest s more refl }

-- what begins with a byte takes one
takes_byte : {A : Type 0} (f : ℕ → Decoder A) (lawful : (b : ℕ) → IsLawful (f b)) (rest : List ℕ) (s : State) → 0 < length rest
    → IsBeyond s.place (continue_with (first_of_rest rest s) f)
takes_byte f lawful [] s h = absurd (omega arith)
takes_byte f lawful (b ∷ rest) s h =
    let behind : State = record { rest = rest; place = s.place + 1; settings = s.settings; start = s.start } in
    still_beyond s.place behind (f b behind) (omega arith) ((lawful b).forward behind)

pub TakesOne-byte : {A : Type 0} (f : ℕ → Decoder A) → ((b : ℕ) → IsLawful (f b)) → TakesOne (byte >>= f)
TakesOne-byte f lawful s h = takes_byte f lawful s.rest s h
