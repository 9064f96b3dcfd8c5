-- Numbers that were read whole are read again, one by one.
use Rattle.std.proofs.Common.{◌≡◌, ℕ, zero, suc, ◌+◌, ◌-◌, ◌<◌, List, [], ◌∷◌, ◌++◌, length, refl, ap, ◌∙◌, subst, arith, IsTrue}
use Rattle.std.proofs.lemmas.Bool.{eqb-true}
use Rattle.wasm_types.specs.decoding.Decoder.{State, Outcome, Done, Short, Fault, Takes, Decoder, Many, repeated, pure, continue_with, ◌>>=◌}
use Rattle.wasm_types.specs.decoding.ExactLaws.{decides-repeated, done_then}
use Rattle.wasm_types.specs.decoding.Leb.{u32, IsUnsigned}
use Rattle.wasm_types.specs.decoding.LebLaws.{decides-u32}
use Rattle.std.specs.Prelude.{Err}
use Rattle.wasm_types.specs.decoding.declared.error.ErrorKind.{ErrorKind}
use Rattle.wasm_types.specs.decoding.declared.error.ErrorKind.TheVariants.{EndOfData, MissingFeature, OutOfMemory, Failed, Other}
use Rattle.wasm_types.specs.decoding.ErrorValue.{ErrorValue}
use Rattle.wasm_types.specs.reader.Reading.{Answers, FailsAt, NeedsNoMemory, IsNotMemory}
use Rattle.wasm_operators_immediates.specs.Numbers.{numbers_at, values, is_whole}

none_left : (xs : List ℕ) → length xs ≡ 0 → xs ≡ []
none_left [] e = refl
none_left (x ∷ xs) e = absurd (omega arith)

many_length : (n : ℕ) (xs text : List ℕ) → Many (IsUnsigned 32) n xs text → length xs ≡ n
many_length zero [] text h = refl
many_length zero (x ∷ xs) text h = absurd h
many_length (suc n) [] text h = absurd h
many_length (suc n) (x ∷ xs) text h = ap suc (many_length n xs h.1 h.3)

-- what was read whole is there, and ends with the bytes
pub record IsRead (o : Outcome (List ℕ)) : Type 0 where
  pub behind : State
  pub done : o ≡ Done (values o) behind
  pub ended : behind.rest ≡ []

pub whole : (o : Outcome (List ℕ)) → IsTrue (is_whole o) → IsRead o
whole (Done xs s) h = record { behind = s; done = refl; ended = none_left s.rest (eqb-true _ _ h) }
whole (Short p k) h = absurd cc
whole (Fault k p) h = absurd cc

pub length_is : (n : ℕ) (s : State) → IsTrue (is_whole (numbers_at n s)) → length (values (numbers_at n s)) ≡ n
unfolding numbers_at
length_is n s h =
    let w = whole (repeated n u32 s) h in
    let p = (decides-repeated u32 (IsUnsigned 32) decides-u32 n).sound s w.behind (values (repeated n u32 s)) w.done in
    many_length n (values (repeated n u32 s)) p.0 p.2

-- the same bytes at another offset
pub record IsReadAgain (n : ℕ) (s t : State) : Type 0 where
  pub same : values (numbers_at n t) ≡ values (numbers_at n s)
  pub read : IsTrue (is_whole (numbers_at n t))

pub again : (n : ℕ) (s t : State) → t.rest ≡ s.rest → IsTrue (is_whole (numbers_at n s)) → IsReadAgain n s t
unfolding numbers_at
again n s t e h =
    let w = whole (repeated n u32 s) h in
    let all = decides-repeated u32 (IsUnsigned 32) decides-u32 n in
    let xs = values (repeated n u32 s) in
    let p = all.sound s w.behind xs w.done in
    let u : State = record { rest = []; place = t.place + length p.0; settings = t.settings; start = t.start } in
    let k : Takes t p.0 u = record { parts = e ∙ p.1.parts ∙ ap (λ (r : List ℕ). p.0 ++ r) w.ended; place = refl; settings = refl; start = refl } in
    let d : repeated n u32 t ≡ Done xs u = all.complete t u xs p.0 k p.2 in
    record { same = ap values d; read = rw d refl }

-- one of them, and those behind it
pub record IsFirst (n : ℕ) (s t : State) (x : ℕ) : Type 0 where
  pub rest : values (numbers_at n s) ≡ x ∷ values (numbers_at (n - 1) t)
  pub read : IsTrue (is_whole (numbers_at (n - 1) t))

read_more : (x : ℕ) (o : Outcome (List ℕ)) → IsTrue (is_whole (continue_with o (λ xs. pure (x ∷ xs)))) → IsTrue (is_whole o) ×
    (values (continue_with o (λ xs. pure (x ∷ xs))) ≡ x ∷ values o)
read_more x (Done xs s) h = (h, refl)
read_more x (Short p k) h = absurd cc
read_more x (Fault k p) h = absurd cc

abbrev behind : ℕ → ℕ → Decoder (List ℕ)
behind n x = repeated n u32 >>= λ xs. pure (x ∷ xs)

pub first_of : (n x : ℕ) (s t : State) → 0 < n → IsTrue (is_whole (numbers_at n s)) → u32 s ≡ Done x t → IsFirst n s t x
unfolding numbers_at repeated
first_of zero x s t p h e = absurd (omega arith)
first_of (suc n) x s t p h e =
    let r = read_more x (repeated n u32 t) (subst (λ (o : Outcome ℕ). IsTrue (is_whole (continue_with o (behind n)))) e h) in
    let q : suc n - 1 ≡ n = omega arith in
    record { rest = rw q (ap (λ (o : Outcome ℕ). values (continue_with o (behind n))) e ∙ r.1); read = rw q r.0 }

-- where numbers are left, one is read
pub is_read : (n : ℕ) (s : State) → 0 < n → IsTrue (is_whole (numbers_at n s)) → (x : ℕ) × (t : State) × (u32 s ≡ Done x t)
unfolding numbers_at repeated
is_read zero s p h = absurd (omega arith)
is_read (suc n) s p h =
    let w = whole (repeated (suc n) u32 s) h in
    let a = done_then (u32 s) (behind n) (values (repeated (suc n) u32 s)) w.behind w.done in
    (a.0, a.1, a.2)

pub none_at_all : (n : ℕ) (s : State) → n ≡ 0 → values (numbers_at n s) ≡ []
unfolding numbers_at repeated
none_at_all zero s e = refl
none_at_all (suc n) s e = absurd (omega arith)

-- what reads well is refused for memory alone
pub refused : (e : ErrorValue) (x : ℕ) (s t u : State) → u32 s ≡ Done x t → Answers (λ v. v) (Err e) s u (u32 s) → NeedsNoMemory {X = ℕ} (Err e) → ⊥
refused e x s t u d a m = go e.kind (u32 s) d a.0 m
  where
    go : (k : ErrorKind) (o : Outcome ℕ) → o ≡ Done x t → FailsAt k e.offset o → IsNotMemory k → ⊥
    go (EndOfData h) o p f m = cc
    go (MissingFeature w) o p f m = cc
    go OutOfMemory o p f m = m
    go Failed o p f m = f
    go Other o p f m = cc
