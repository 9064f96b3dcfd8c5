-- The groups read so far, and the byte at hand, give the number or the flaw.
use Rattle.std.proofs.Common.{◌≡◌, ◌+◌, ◌-◌, ◌∙◌, drop, take, get_or, refl, sym, ap, length, arith, inl, inr}
use Rattle.std.proofs.lemmas.Bool.{MatchBool-at_true, MatchBool-at_false}
use Rattle.std.proofs.lemmas.List.{length-drop}
use Rattle.wasm_types_decoding.specs.Rows.{start_of}
use Rattle.wasm_types_decoding.proofs.LebGroups.{behind_none, byte_here, no_byte_here, left_is, inside_left}
use Rattle.wasm_types_decoding.proofs.LebSigned.{FitsThere, begins, stops, ends, ends_low, refused, goes}
use Rattle.wasm_types_decoding.proofs.long.signed_at.Goals as goal
use Rattle.wasm_types_decoding.proofs.long.signed_at.Goals.{else-shift-bits-via-then-shift-bits+else-not-ends_signed}
use Rattle.wasm_types_decoding.proofs.long.signed_at.Goals.{else-shift-bits-via-else-shift-bits, then-shift-bits-2-via-then-shift-bits-2}
use Rattle.wasm_types_decoding.proofs.long.signed_at.Goals.{then-shift-bits-2-via-else-shift-bits-2+then-byte-lt128}

pub loop-i-init : goal.loop-i-init
loop-i-init c = record { remains = λ s e. rw (behind_none s) (begins c.args.bits s c.requires.some); room = c.requires.some }

pub returns-then-not-ends_signed-clause-answer : goal.returns-then-not-ends_signed-clause-answer
returns-then-not-ends_signed-clause-answer c =
    let lt = inside_left _ _ _ c.requires.inside c.loop-i-test.true in
    record {
      forward = omega arith;
      inside = omega (arith, lt);
      refuses = λ s e.
          let e' = e ∙ sym (left_is c.args.bytes.now c.args.at c.requires.inside) in
          let b = byte_here s _ _ (sym e') c.loop-i-test.true in
          refused _ _ _ _ _ (c.loop-i.invariant.remains s e') c.requires.room _ _ b _ (omega arith) c.if-shift-bits.true
          (MatchBool-at_false _ _ c.if-not-ends_signed.true c.ends_signed.ensures);
    }

pub returns-then-shift-bits-2-clause-answer : goal.returns-then-shift-bits-2-clause-answer
returns-then-shift-bits-2-clause-answer c =
    let lt = inside_left _ _ _ c.requires.inside c.loop-i-test.true in
    let f : FitsThere c.args.bits c.loop-i.shift (get_or (take (length c.args.bytes.now - c.args.at) (drop c.args.at c.args.bytes.now)) c.loop-i.i
    0) = elim c.else-shift-bits.branch [
      | else-shift-bits-via-then-shift-bits+else-not-ends_signed w ↦ inr (MatchBool-at_true _ _ w.if-not-ends_signed.false w.ends_signed.ensures)
      | else-shift-bits-via-else-shift-bits w ↦ inl w.if-shift-bits.false
    ] in
    let low = ends_low _ _ _ f (elim c.then-shift-bits-2.branch [
      | then-shift-bits-2-via-then-shift-bits-2 w ↦ inl w.if-shift-bits-2.true
      | then-shift-bits-2-via-else-shift-bits-2+then-byte-lt128 w ↦ inr w.if-byte-lt128.true
    ]) in
    record {
      forward = omega arith;
      inside = omega (arith, lt);
      gives = λ s e.
          let e' = e ∙ sym (left_is c.args.bytes.now c.args.at c.requires.inside) in
          let b = byte_here s _ _ (sym e') c.loop-i-test.true in
          let n : c.args.at + c.loop-i.i + 1 - c.args.at ≡ c.loop-i.i + 1 = omega arith in
          rw n (ends _ _ _ _ _ (c.loop-i.invariant.remains s e') c.requires.room _ _ b f low _ c.seven_bits.ensures _ c.cast_unsigned.ensures _ c.cast_signed.ensures).0;
    }

pub returns-then-shift-bits-2-clause-within : goal.returns-then-shift-bits-2-clause-within
returns-then-shift-bits-2-clause-within c =
    let s = start_of (take (length c.args.bytes.now - c.args.at) (drop c.args.at c.args.bytes.now)) in
    let b = byte_here s _ _ refl c.loop-i-test.true in
    let f : FitsThere c.args.bits c.loop-i.shift (get_or (take (length c.args.bytes.now - c.args.at) (drop c.args.at c.args.bytes.now)) c.loop-i.i
    0) = elim c.else-shift-bits.branch [
      | else-shift-bits-via-then-shift-bits+else-not-ends_signed w ↦ inr (MatchBool-at_true _ _ w.if-not-ends_signed.false w.ends_signed.ensures)
      | else-shift-bits-via-else-shift-bits w ↦ inl w.if-shift-bits.false
    ] in
    let low = ends_low _ _ _ f (elim c.then-shift-bits-2.branch [
      | then-shift-bits-2-via-then-shift-bits-2 w ↦ inl w.if-shift-bits-2.true
      | then-shift-bits-2-via-else-shift-bits-2+then-byte-lt128 w ↦ inr w.if-byte-lt128.true
    ]) in
    (ends _ _ _ _ _ (c.loop-i.invariant.remains s refl) c.requires.room _ _ b f low _ c.seven_bits.ensures _ c.cast_unsigned.ensures _ c.cast_signed.ensures).1

pub loop-i-preserved : goal.loop-i-preserved
loop-i-preserved c =
    let f : FitsThere c.args.bits c.loop-i.shift (get_or (take (length c.args.bytes.now - c.args.at) (drop c.args.at c.args.bytes.now)) c.loop-i.i
    0) = elim c.else-shift-bits.branch [
      | else-shift-bits-via-then-shift-bits+else-not-ends_signed w ↦ inr (MatchBool-at_true _ _ w.if-not-ends_signed.false w.ends_signed.ensures)
      | else-shift-bits-via-else-shift-bits w ↦ inl w.if-shift-bits.false
    ] in
    record {
      remains = λ s e. goes _ _ _ _ _ (c.loop-i.invariant.remains s e) c.requires.room _ _ (byte_here s _ _ (sym e) c.loop-i-test.true)
          (omega arith) f c.if-byte-lt128.false;
      room = c.if-shift-bits-2.false;
    }

pub returns-clause-answer : goal.returns-clause-answer
returns-clause-answer c =
    let whole = ap length (left_is c.args.bytes.now c.args.at c.requires.inside) ∙ length-drop c.args.at c.args.bytes.now in
    record {
      forward = omega (arith, c.requires.inside);
      inside = omega arith;
      refuses = λ s e.
          let e' = e ∙ sym (left_is c.args.bytes.now c.args.at c.requires.inside) in
          stops _ _ _ _ _ (c.loop-i.invariant.remains s e') c.requires.room _ (no_byte_here s _ _ _ (sym e') c.loop-i-test.false (omega (arith, whole)));
    }
