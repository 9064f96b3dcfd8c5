use Rattle.std.proofs.Common.{arith, rules, subst, sym}
use Rattle.wasm_check_faults.specs.WordLists.{AreFeatures, words_in}
use Rattle.wasm_check_command.specs.Modes.{by_features}
use Rattle.wasm_check_command.proofs.NeedsLemmas.{lacks_more, lacks_without}
use Rattle.wasm_check_command.proofs.needs.leave_out.Goals as goal

pub loop-place-init : goal.loop-place-init
loop-place-init g c = λ place low high. absurd (omega (arith, low, high))

pub suffices-requires-clause-known : goal.suffices-requires-clause-known
suffices-requires-clause-known g c = subst AreFeatures (sym c.as_slice.ensures.value) c.in_ok-fewer.ensures.known

pub loop-place-preserved : goal.loop-place-preserved
loop-place-preserved g c =
    lacks_more (by_features g.J.Judge.accepts c.args.limits c.args.bytes.now) (words_in c.args.words.now) c.args.from c.loop-place.place c.loop-place.invariant
    (lacks_without (by_features g.J.Judge.accepts c.args.limits c.args.bytes.now) c.args.words.now c.in_ok-fewer.fewer.items c.as_slice.result.now c.loop-place.place
    c.as_slice.ensures.value c.in_ok-fewer.ensures.words (c.in_ok-valid.ensures.no (search rules)))

pub returns-clause-none : goal.returns-clause-none
returns-clause-none g c = λ none place low high. c.loop-place.invariant place low (omega (arith, high, c.loop-place-test.false))
