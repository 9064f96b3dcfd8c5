-- One more lane is read, or the reading ends where it does.
use Rattle.std.proofs.Common.{◌≡◌, ◌<◌, ◌∙◌, ap, List, ℕ, length, take, arith}
use Rattle.std.proofs.lemmas.List.{take_more_set, length-set, take_all}
use Rattle.std.proofs.lemmas.Result.{err_from_is_err_and}
use Rattle.wasm_types.specs.decoding.Decoder.{Done}
use Rattle.wasm_types.specs.decoding.Laws.{reaches_then}
use Rattle.wasm_types.proofs.Rows.{goes_on, ends, is_done}
use Rattle.wasm_operators_encoding.specs.immediates.Bytes.{lane, shuffle}
use Rattle.wasm_operators_encoding.proofs.immediates.bytes.read_shuffle.Goals as goal

pub loop-place-preserved : goal.loop-place-preserved
loop-place-preserved c =
    let lt : c.loop-place.place < length c.loop-place.lanes = omega arith in
    record {
      read =
          rw (take_more_set c.loop-place.lanes c.loop-place.place c.in_ok-lane.lane lt)
          (goes_on (lane 32) (take c.loop-place.place c.loop-place.lanes) 16 c.loop-place.place c.loop-place.reader _ c.loop-place.invariant.read _ _
          c.loop-place-test.true c.in_ok-lane.ensures.answer);
      forward = reaches_then _ _ _ c.loop-place.invariant.forward c.in_ok-lane.ensures.forward;
      size = omega (arith, length-set c.loop-place.lanes c.loop-place.place c.in_ok-lane.lane);
    }

pub returns-in_err-lane-clause-answer : goal.returns-in_err-lane-clause-answer
unfolding shuffle
returns-in_err-lane-clause-answer c =
    let p = err_from_is_err_and c.from_residual.result c.from_residual.ensures.1 in
    rw (p.1, p.2) (ends (lane 32) (take c.loop-place.place c.loop-place.lanes) 16 c.loop-place.place c.loop-place.reader _ c.loop-place.invariant.read
    _ _ c.loop-place-test.true c.in_err-lane.ensures.answer)

pub returns-clause-answer : goal.returns-clause-answer
unfolding shuffle
returns-clause-answer c =
    let whole : take c.loop-place.place c.loop-place.lanes ≡ c.loop-place.lanes = take_all c.loop-place.place c.loop-place.lanes (omega arith) in
    is_done (lane 32) (take c.loop-place.place c.loop-place.lanes) 16 c.loop-place.place c.loop-place.reader _ c.loop-place.invariant.read
    (omega arith) ∙ ap (λ (l : List ℕ). Done l c.loop-place.reader) whole
