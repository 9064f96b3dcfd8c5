-- By the laws of one item more.
use Rattle.std.proofs.Common.{rules, arith, subst, List, ℕ}
use Rattle.wasm_module_validator_streaming.specs.declared.taking.Taken.TheVariants as taken
use Rattle.wasm_module_validator_streaming.specs.Taking.{WaitsFor}
use Rattle.wasm_module_validator_streaming.proofs.OneItem.{all_left, answered_all, item_carries, item_midst, item_within}
use Rattle.wasm_module_validator_streaming.proofs.taking.take_items.Goals as goal

pub loop-turn-init : goal.loop-turn-init
loop-turn-init g c = record { within = search rules; turns = search rules; midst = c.requires; there = λ first got s room. s }

pub returns-in-Waits : goal.returns-in-Waits
returns-in-Waits g c = λ first got s room.
    let b = g.T.TakesBytes in
    let bytes = c.args.bytes.now in
    let left = all_left c.loop-turn.passed bytes in
    let t = answered_all b.stands b.shown b.denied b.waits c.args.eof bytes c.args.taker.now c.loop-turn.taker c.loop-turn.passed _ left c.take.new.self (taken.Waits c.in-Waits.needed)
    c.in-Waits.ensures c.loop-turn.invariant.there first got s room in (
      t.0,
      c.loop-turn.invariant.within,
      subst (λ (l : List ℕ). b.stands first got c.args.eof l c.take.new.self) left t.1,
      subst (λ (l : List ℕ). WaitsFor b.waits c.in-Waits.needed l c.take.new.self) left t.2,
    )

pub returns-in-Ended : goal.returns-in-Ended
returns-in-Ended g c = λ first got s room.
    let b = g.T.TakesBytes in
    let bytes = c.args.bytes.now in
    answered_all b.stands b.shown b.denied b.waits c.args.eof bytes c.args.taker.now c.loop-turn.taker c.loop-turn.passed _ (all_left c.loop-turn.passed bytes) c.take.new.self
    (taken.Ended c.in-Ended.done) c.in-Ended.ensures c.loop-turn.invariant.there first got s room

pub returns-in-Refused : goal.returns-in-Refused
returns-in-Refused g c = λ first got s room.
    let b = g.T.TakesBytes in
    let bytes = c.args.bytes.now in
    answered_all b.stands b.shown b.denied b.waits c.args.eof bytes c.args.taker.now c.loop-turn.taker c.loop-turn.passed _ (all_left c.loop-turn.passed bytes) c.take.new.self
    (taken.Refused c.in-Refused.error) c.in-Refused.ensures c.loop-turn.invariant.there first got s room

pub loop-turn-preserved : goal.loop-turn-preserved
loop-turn-preserved g c =
    let b = g.T.TakesBytes in
    let i = c.loop-turn.invariant in
    let bytes = c.args.bytes.now in
    let left = all_left c.loop-turn.passed bytes in
    let fits = item_within b.stands b.shown b.denied b.waits c.args.eof bytes c.args.taker.now c.loop-turn.taker c.loop-turn.passed _ left c.take.new.self c.in-Item.count c.in-Item.ensures i.midst in
    let some = fits.0 in
    let most = fits.1 in
    let within = i.within in
    let turns = i.turns in
    record {
      within = omega (arith, most, within);
      turns = omega (arith, some, turns);
      midst = item_midst b.stands b.shown b.denied b.waits c.args.eof bytes c.args.taker.now c.loop-turn.taker c.loop-turn.passed _ left c.take.new.self c.in-Item.count c.in-Item.ensures i.midst;
      there = item_carries b.stands b.shown b.denied b.waits c.args.eof bytes c.args.taker.now c.loop-turn.taker c.loop-turn.passed _ left c.take.new.self c.in-Item.count c.in-Item.ensures i.there;
    }
