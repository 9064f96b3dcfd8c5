use Rattle.std.proofs.Common.{◌≡◌, ◌+◌, ap, arith, length, subst, sym}
use Rattle.wasm_check_faults.specs.WordLists.{AreFeatures, Suffices, words_in}
use Rattle.wasm_check_command.specs.Modes.{by_features}
use Rattle.wasm_check_command.proofs.NeedsLemmas.{some_of}
use Rattle.wasm_check_command.proofs.needs.go_through.Goals as goal

pub leave_out-requires-clause-known : goal.leave_out-requires-clause-known
leave_out-requires-clause-known g c = subst AreFeatures (sym c.as_slice.ensures.value) c.loop-turn.invariant.known

pub loop-turn-preserved : goal.loop-turn-preserved
loop-turn-preserved g c =
    let accepts = by_features g.J.Judge.accepts c.args.limits c.args.bytes.now in
    let count = some_of (λ f. length f.words.items + 1 ≡ length c.as_slice.result.now) _ c.in-Some.fewer c.in-Some.is c.in_ok-fewer.ensures.fewer in
    record {
      known = some_of (λ f. AreFeatures f.words.items) _ c.in-Some.fewer c.in-Some.is c.in_ok-fewer.ensures.known;
      enough = some_of (λ f. Suffices accepts (words_in f.words.items)) _ c.in-Some.fewer c.in-Some.is c.in_ok-fewer.ensures.enough;
      count = omega (arith, count, ap length c.as_slice.ensures.value, c.loop-turn.invariant.count);
    }
