-- On the line of one input.
use Rattle.std.proofs.Common.{◌≤◌, ◌^◌, ℕ, ◌+◌, ◌-◌, List, ◌++◌, IfErr, Option, Result, Ok, Err, inr, sym, subst, take, drop, length, take-append-drop, length-append, arith}
use Rattle.std.specs.Io.KnownBytes.{Appends, Consumes, Keeps}
use Rattle.std.proofs.Math.Seq.{take-add}
use Rattle.std.proofs.lemmas.List.{take_rest, length-take}
use Rattle.std.proofs.KnownBytes.{Keeps-refl, Appends-kept, Appends-trans, Consumes-trans}
use Rattle.wasm_check_faults.specs.declared.error.CheckError.{CheckError}
use Rattle.wasm_check_faults.specs.declared.error.CheckError.TheVariants.{Read, TooLong, OutOfMemory, Write}
use Rattle.wasm_check_command.specs.Faults.{FailsReading}
use Rattle.wasm_check_command.specs.Modes.{Ruling, ReadsWithin}
use Rattle.wasm_check_command.specs.Lines.{HasBytes}
use Rattle.wasm_check_command.specs.Verdict.{WritesFront, FailsWriting, FailsAt}

-- what a reader gave so far, and what one read more gave
pub reads_within : (a b c : Option (List ℕ)) (got chunk : List ℕ) (count : ℕ) → Consumes a b got → Consumes b c (take count chunk) → length got + count ≤ 2 ^ 30 + 1
    → ReadsWithin a c
reads_within a b c got chunk count before more short = (
  got ++ take count chunk,
  Consumes-trans a b c got (take count chunk) before more,
  omega (arith, short, length-append got (take count chunk), length-take count chunk),
)

-- ---- over any judge of bytes
module _ (ruling : Ruling) where
  -- an input that couldn't be read
  pub FailsAt-read : (index : ℕ) (name : List ℕ) (said old : Option (List ℕ)) (e : CheckError) → FailsReading index said e → FailsAt ruling index name said old old e
  FailsAt-read index name said old (Read i) h = (h, Keeps-refl old)
  FailsAt-read index name said old (TooLong i) h = (h.0, h.1, Keeps-refl old)
  FailsAt-read index name said old (OutOfMemory i) h = (h, Keeps-refl old)
  FailsAt-read index name said old Write h = absurd h

  -- an input that was read and not judged
  pub FailsAt-written : (index : ℕ) (name bytes : List ℕ) (said old new : Option (List ℕ)) (e : CheckError) → HasBytes ruling said bytes → FailsWriting ruling index name bytes old new e
      → FailsAt ruling index name said old new e
  FailsAt-written index name bytes said old new (Read i) has h = absurd h
  FailsAt-written index name bytes said old new (TooLong i) has h = absurd h
  FailsAt-written index name bytes said old new (OutOfMemory i) has h = h
  FailsAt-written index name bytes said old new Write has h = (h.0, inr (bytes, has, h.1), h.2)

  -- FailsAt-written, at what a call answered
  pub IfErr-written : {T : Type 0} (r : Result T CheckError) (index : ℕ) (name bytes : List ℕ) (said old new : Option (List ℕ)) → HasBytes ruling said bytes
      → IfErr r (FailsWriting ruling index name bytes old new) → IfErr r (FailsAt ruling index name said old new)
  IfErr-written (Ok x) index name bytes said old new has h = h
  IfErr-written (Err e) index name bytes said old new has h = FailsAt-written index name bytes said old new e has h

-- ---- a text that is written piece by piece

module _ (text : List ℕ) (n : ℕ) (a b c : Option (List ℕ)) (front : Appends a b (take n text)) where
  -- nothing more was written of it
  pub front_kept : Keeps b c → WritesFront text a c
  front_kept kept = record {
    front = take n text;
    rest = drop n text;
    whole = sym (take-append-drop n text);
    appended = Appends-kept a b c (take n text) front kept;
  }

  -- so many bytes more were
  pub more_written : (m : ℕ) → Appends b c (take m (take (length text - n) (drop n text))) → Appends a c (take (n + m) text)
  more_written m more =
      subst (Appends a c) (sym (take-add n m text))
      (Appends-trans a b c (take n text) (take m (drop n text)) front (subst (λ (l : List ℕ). Appends b c (take m l)) (take_rest text n) more))

  -- and then no more
  pub stopped_there : (m : ℕ) → Appends b c (take m (take (length text - n) (drop n text))) → WritesFront text a c
  stopped_there m more = record {
    front = take (n + m) text;
    rest = drop (n + m) text;
    whole = sym (take-append-drop (n + m) text);
    appended = more_written m more;
  }
