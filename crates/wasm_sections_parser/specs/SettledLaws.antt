-- A part that is all there is refused by its settled error; which bytes it has.
use Rattle.std.proofs.Common.{◌≡◌, ℕ, ◌+◌, List, [], ◌∷◌, ◌++◌, length, refl, sym, ap, ◌∙◌, arith, cond, Bool, true, false, Some}
use Rattle.std.proofs.lemmas.List.{append-nil, length-append}
use Rattle.wasm_types.specs.decoding.Decoder.{State, Outcome, Done, Short, Fault, Decoder, continue_with, pure, refuse, bytes}
use Rattle.wasm_types.specs.decoding.Leb.{u32}
use Rattle.wasm_types.specs.decoding.declared.Refusal.TheVariants as refusals
use Rattle.wasm_types.specs.decoding.ExactLaws.{decides-bytes}
use Rattle.wasm_types.specs.decoding.declared.error.ErrorKind.{ErrorKind}
use Rattle.wasm_types.specs.decoding.declared.error.ErrorKind.TheVariants.{EndOfData, MissingFeature, OutOfMemory, Failed, Other}
use Rattle.wasm_types.specs.decoding.ErrorText.{hint_of}
use Rattle.wasm_types.specs.reader.Reading.{FailsAt, IsNotMemory}
use Rattle.wasm_sections_parser.specs.declared.progress.Progress.{Progress}
use Rattle.wasm_sections_parser.specs.Steps.{counted, found, in_part, Next, section_next, is_announced, announced, counted_next}
use Rattle.wasm_sections_parser.specs.Settled.{settled}

module _ {A B : Type 0} (f : A → List ℕ → B) (t : State) where
  pub settled_found : (k : ErrorKind) (p : ℕ) (o : Outcome A) → FailsAt k p o → FailsAt (settled k) p (found f t o)
  settled_found (EndOfData h) p o e = rw e refl
  settled_found (MissingFeature m) p o e = rw e refl
  settled_found OutOfMemory p o e = tt
  settled_found Failed p o e = e
  settled_found Other p o e = rw e refl

pub settled_memory : (k : ErrorKind) → IsNotMemory k → IsNotMemory (settled k)
settled_memory (EndOfData h) m = tt
settled_memory (MissingFeature f) m = tt
settled_memory OutOfMemory m = m
settled_memory Failed m = tt
settled_memory Other m = tt

-- ---- a part that is read by a reader of its own

module _ {A B : Type 0} (d : Decoder A) (f : A → List ℕ → B) (part t : State) where
  pub part_refused : (k : ErrorKind) (p : ℕ) → FailsAt k p (d part) → FailsAt (settled k) p (in_part d f part t)
  unfolding in_part
  part_refused k p e = settled_found f t k p (d part) e

  pub part_read : (x : A) (u : State) → d part ≡ Done x u → in_part d f part t ≡ Done (f x u.rest) t
  unfolding in_part
  part_read x u e = ap (found f t) e

-- what refuses refuses what goes on with it
pub then_refused : {A B : Type 0} (f : A → Decoder B) (k : ErrorKind) (p : ℕ) (o : Outcome A) → FailsAt k p o → FailsAt k p (continue_with o f)
then_refused f (EndOfData h) p o e = rw e refl
then_refused f (MissingFeature m) p o e = rw e refl
then_refused f OutOfMemory p o e = tt
then_refused f Failed p o e = e
then_refused f Other p o e = rw e refl

abbrev fault : ℕ → Outcome Next
fault place = Fault refusals.Other place

-- a section that begins with a count
module _ (p : Progress) (id : ℕ) (part t : State) where
  pub count_refused : (k : ErrorKind) (place : ℕ) → FailsAt k place (u32 part) → FailsAt (settled k) place (counted_next p id part t)
  count_refused k place e = then_refused (announced id) (settled k) place (in_part u32 (section_next p id part.rest) part t) (part_refused u32 (section_next p id part.rest) part t k place e)

  pub count_read : (k : ℕ) (u : State) → u32 part ≡ Done k u → counted_next p id part t ≡ announced id (section_next p id part.rest k u.rest) t
  count_read k u e = ap (λ (o : Outcome Next). continue_with o (announced id)) (part_read u32 (section_next p id part.rest) part t k u e)

  pub count_allowed : (k : ℕ) (u : State) → u32 part ≡ Done k u → is_announced id (counted p id k) ≡ true → counted_next p id part t ≡ Done (section_next p id part.rest k u.rest) t
  count_allowed k u e fits = count_read k u e ∙ ap (λ (b : Bool). cond b (pure (section_next p id part.rest k u.rest)) (refuse refusals.Other 0) t) fits

  pub count_denied : (k : ℕ) (u : State) → u32 part ≡ Done k u → is_announced id (counted p id k) ≡ false → counted_next p id part t ≡ Fault refusals.Other t.place
  count_denied k u e other =
      count_read k u e ∙ ap (λ (b : Bool). cond b (pure (section_next p id part.rest k u.rest)) (refuse refusals.Other 0) t) other ∙ ap fault (omega arith)

-- ---- bytes

-- where bytes that were read stand
pub bytes_span : (n : ℕ) (s t : State) (text : List ℕ) → bytes n s ≡ Done text t → s.place + length text ≡ t.place
bytes_span n s t text e =
    let h = (decides-bytes n).sound s t text e in
    omega (arith, h.1.place, ap length h.2.1)

no_bytes : (xs : List ℕ) → length xs ≡ 0 → xs ≡ []
no_bytes [] e = refl
no_bytes (x ∷ xs) e = absurd (omega arith)

-- all bytes that are left
pub all_bytes : (n : ℕ) (s t : State) (text : List ℕ) → n ≡ length s.rest → bytes n s ≡ Done text t → text ≡ s.rest
all_bytes n s t text m e =
    let h = (decides-bytes n).sound s t text e in
    let none : t.rest ≡ [] = no_bytes t.rest (omega (arith, m, h.2.0, ap length h.2.1, ap length h.1.parts, length-append h.0 t.rest)) in
    sym h.2.1 ∙ sym (append-nil h.0) ∙ ap (λ (z : List ℕ). h.0 ++ z) (sym none) ∙ sym h.1.parts

-- an error that asks for bytes is an end of data
pub hinted : {A : Type 0} (k : ErrorKind) (p n : ℕ) (o : Outcome A) → hint_of k ≡ Some n → FailsAt k p o → o ≡ Short p n
hinted (EndOfData h) p n o q e = e ∙ ap (λ (z : ℕ). Short p z) (some_is h n q)
  where
    some_is : (x y : ℕ) → Some x ≡ Some y → x ≡ y
    some_is x y q' = cc
hinted (MissingFeature m) p n o q e = absurd cc
hinted OutOfMemory p n o q e = absurd cc
hinted Failed p n o q e = absurd cc
hinted Other p n o q e = absurd cc
