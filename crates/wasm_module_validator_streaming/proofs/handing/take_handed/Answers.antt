-- By the laws of one part after the other.
use Rattle.std.proofs.Common.{◌≡◌, ◌<◌, ◌≤◌, ◌+◌, ◌-◌, ℕ, List, rules, subst, sym, arith, length, length-drop, take, drop}
use Rattle.wasm_module_validator_streaming.specs.Handing.{HasRoom, Follows, DeniesBehind, LongBehind, Says}
use Rattle.wasm_module_validator_streaming.proofs.Handed.{none_follows, rest_denies, rest_follows, rest_has_room, rest_long, says_so, turns_count}
use Rattle.wasm_module_validator_streaming.proofs.OneItem.{all_left}
use Rattle.wasm_module_validator_streaming.proofs.handing.take_handed.Goals as goal

pub loop-turn-init : goal.loop-turn-init
loop-turn-init g c = record {
  within = search rules;
  turns = search rules;
  follows = none_follows g.T.TakesBytes.stands c.args.pending.now.bytes.items c.args.taker.now;
  room = c.requires.room;
  pending = c.requires.pending;
  held = c.requires.held;
}

pub take_some-requires-clause-room : goal.take_some-requires-clause-room
take_some-requires-clause-room g c =
    subst (λ (l : List ℕ). HasRoom g.T.TakesBytes.stands c.loop-turn.pending.bytes.items c.loop-turn.taker (length l)) (sym (all_left c.loop-turn.from c.args.bytes.now)) c.loop-turn.invariant.room

pub returns-in-Err-clause-err : goal.returns-in-Err-clause-err
returns-in-Err-clause-err g c =
    let b = g.T.TakesBytes in
    let held : List ℕ = c.loop-turn.pending.bytes.items in
    let text : List ℕ = c.args.bytes.now in
    says_so (DeniesBehind b.stands b.denied held c.loop-turn.taker (drop c.loop-turn.from text)) (DeniesBehind b.stands b.denied c.args.pending.now.bytes.items c.args.taker.now text)
    (LongBehind b.stands b.waits c.args.most held c.loop-turn.taker (drop c.loop-turn.from text)) (LongBehind b.stands b.waits c.args.most c.args.pending.now.bytes.items c.args.taker.now text)
    (λ e h. rest_denies b.stands c.args.pending.now.bytes.items c.args.taker.now text c.loop-turn.from c.loop-turn.invariant.within held c.loop-turn.taker c.loop-turn.invariant.follows b.denied e h)
    (λ h. rest_long b.stands c.args.pending.now.bytes.items c.args.taker.now text c.loop-turn.from c.loop-turn.invariant.within held c.loop-turn.taker c.loop-turn.invariant.follows b.waits c.args.most h)
    c.in-Err.error
    (subst (λ (l : List ℕ). Says (DeniesBehind b.stands b.denied held c.loop-turn.taker l) (LongBehind b.stands b.waits c.args.most held c.loop-turn.taker l) c.in-Err.error)
    (all_left c.loop-turn.from text) c.in-Err.ensures.err)

pub loop-turn-preserved : goal.loop-turn-preserved
loop-turn-preserved g c =
    let stands = g.T.TakesBytes.stands in
    let from : ℕ = c.loop-turn.from in
    let count : ℕ = c.in-Ok.count in
    let text : List ℕ = c.args.bytes.now in
    let held : List ℕ = c.loop-turn.pending.bytes.items in
    let left : List ℕ = c.take_some.new.pending.bytes.items in
    let same = all_left from text in
    let all : length (drop from text) ≡ length text - from = length-drop from text in
    let few : count ≤ length (drop from text) = subst (λ (l : List ℕ). count ≤ length l) same c.in-Ok.ensures.count in
    let some : count < length (drop from text) → 0 < count = subst (λ (l : List ℕ). count < length l → 0 < count) same c.in-Ok.ensures.some in
    let within : from + count ≤ length text = let before = c.loop-turn.invariant.within in omega (arith, before, all, few) in
    let follows : Follows stands c.args.pending.now.bytes.items c.args.taker.now (take (from + count) text) left c.take_some.new.taker =
    rest_follows stands c.args.pending.now.bytes.items c.args.taker.now text from c.loop-turn.invariant.within held c.loop-turn.taker c.loop-turn.invariant.follows count few left c.take_some.new.taker
    (subst (λ (l : List ℕ). Follows stands held c.loop-turn.taker (take count l) left c.take_some.new.taker) same c.in-Ok.ensures.ok) in
    record {
      within = within;
      turns = turns_count from count c.loop-turn._turn (length text) (length (drop from text)) c.loop-turn.invariant.turns c.loop-turn.invariant.within all few some c.if-from-bytes.false;
      follows = follows;
      room = rest_has_room stands c.args.pending.now.bytes.items c.args.taker.now text (from + count) within left c.take_some.new.taker follows c.requires.room;
      pending = c.in-Ok.ensures.pending;
      held = c.in-Ok.ensures.held;
    }
