-- What is read of the bytes at hand, for the reader that stands before them.
use Rattle.std.proofs.Common.{◌≡◌, ℕ, ◌+◌, ◌-◌, ◌≤◌, List, length, take, refl, sym, arith}
use Rattle.std.proofs.lemmas.List.{length-take, take-append-drop}
use Rattle.wasm_types_decoding.specs.Decoder.{State, Done, Decoder, Reaches}
use Rattle.wasm_types_decoding.specs.declared.error.ErrorKind.{ErrorKind}
use Rattle.wasm_types_decoding.specs.declared.long.Flaw.{Flaw}
use Rattle.wasm_types_decoding.specs.declared.long.Flaw.TheVariants.{Ended, NoRoom}
use Rattle.wasm_types_decoding.specs.Numbers.{behind, GivesAt, RefusedAt, FlawedAt, flaw_offset, IsRefused}
use Rattle.wasm_types_reader.specs.Flaws.{flaw_kind}
use Rattle.wasm_types_reader.specs.Reading.{FailsAt}

pub goes_forward : (s t : State) (n : ℕ) → n ≤ length s.rest → t ≡ behind n s → Reaches s t
goes_forward s t n le e = record {
  text = take n s.rest;
  taken = rw e (record { parts = sym (take-append-drop n s.rest); place = omega (arith, length-take n s.rest); settings = refl; start = refl });
}

pub given : {A : Type 0} (d : Decoder A) (text : List ℕ) (s t : State) (x : A) (n : ℕ) → GivesAt d text 0 x n → text ≡ s.rest → t ≡ behind n s → d s ≡ Done x t
given d text s t x n h same there = let e : n - 0 ≡ n = omega arith in rw there (rw e at (h.gives s (sym same)))

pub refused : {A : Type 0} (d : Decoder A) (text : List ℕ) (s : State) → RefusedAt d text 0 → text ≡ s.rest → IsRefused (d s)
refused d text s h same = h s (sym same)

pub flawed : {A : Type 0} (d : Decoder A) (text : List ℕ) (s : State) (f : Flaw) (k : ErrorKind) (p : ℕ) → FlawedAt d text 0 f → text ≡ s.rest → k ≡ flaw_kind f → p ≡ s.place + flaw_offset f → FailsAt k p (d s)
flawed d text s (Ended i) k p h same kind place = let e : i - 0 ≡ i = omega arith in rw (kind, place) (rw e at (h.refuses s (sym same)))
flawed d text s (NoRoom i b) k p h same kind place = let e : i - 0 ≡ i = omega arith in rw (kind, place) (rw e at (h.refuses s (sym same)))
