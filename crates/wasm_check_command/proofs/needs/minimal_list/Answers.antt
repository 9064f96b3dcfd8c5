use Rattle.std.proofs.Common.{◌≡◌, ◌+◌, ap, arith, length, subst, sym}
use Rattle.wasm_types.specs.settings.Sets.{bits_of}
use Rattle.wasm_check_faults.specs.FeatureLists.{all_features}
use Rattle.wasm_check_faults.specs.WordLists.{AreFeatures, Suffices, words_in}
use Rattle.wasm_check_command.specs.Modes.{by_features}
use Rattle.wasm_check_command.proofs.NeedsLemmas.{all_suffice, minimal_by, some_of}
use Rattle.wasm_check_command.proofs.needs.minimal_list.Goals as goal

pub go_through-requires-clause-enough : goal.go_through-requires-clause-enough
go_through-requires-clause-enough g c =
    all_suffice (by_features g.J.Judge.accepts c.args.limits c.args.bytes.now) c.in_ok-all.all.items (bits_of all_features) c.in_ok-all.ensures.all c.requires.valid

pub leave_out-requires-clause-known : goal.leave_out-requires-clause-known
leave_out-requires-clause-known g c = subst AreFeatures (sym c.as_slice.ensures.value) c.loop-turn.invariant.known

pub loop-turn-preserved : goal.loop-turn-preserved
loop-turn-preserved g c =
    let accepts = by_features g.J.Judge.accepts c.args.limits c.args.bytes.now in
    let count = some_of (λ f. length f.words.items + 1 ≡ length c.as_slice.result.now) _ c.in-Some.fewer c.in-Some.is c.in_ok-fewer.ensures.fewer in
    record {
      known = some_of (λ f. AreFeatures f.words.items) _ c.in-Some.fewer c.in-Some.is c.in_ok-fewer.ensures.known;
      enough = some_of (λ f. Suffices accepts (words_in f.words.items)) _ c.in-Some.fewer c.in-Some.is c.in_ok-fewer.ensures.enough;
      turns = omega (arith, count, ap length c.as_slice.ensures.value, c.loop-turn.invariant.turns);
    }

pub returns-in-None-clause-minimal : goal.returns-in-None-clause-minimal
returns-in-None-clause-minimal g c =
    minimal_by (by_features g.J.Judge.accepts c.args.limits c.args.bytes.now) c.loop-turn.words.items c.as_slice.result.now c.as_slice.ensures.value
    c.loop-turn.invariant.known c.loop-turn.invariant.enough (c.in_ok-fewer.ensures.none c.in-None.is)
