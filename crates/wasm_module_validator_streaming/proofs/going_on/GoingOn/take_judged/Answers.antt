-- By what judges the module, where no body was refused.
use Rattle.std.proofs.Common.{rules, ◌≡◌, arith}
use Rattle.wasm_module_validator_streaming.proofs.Lost.{midst_judged, stands_there, stands_before, takes_on}
use Rattle.wasm_module_validator_streaming.proofs.going_on.GoingOn.take_judged.Goals as goal

pub take-requires : goal.take-requires
take-requires c = midst_judged c.args.eof c.args.bytes.now c.args.self.now c.requires.sound c.requires.midst

pub returns-then-self-gt0 : goal.returns-then-self-gt0
returns-then-self-gt0 c = λ first got s room.
    takes_on first (record c.args.self.now { judging = c.take.new.self }) got c.args.eof c.args.bytes.now c.requires.sound c.take.result
    (c.take.ensures first.judging got (stands_there first c.args.self.now got c.args.eof c.args.bytes.now c.requires.sound s) room)

pub take-taken-requires : goal.take-taken-requires
take-taken-requires c = midst_judged c.args.eof c.args.bytes.now c.args.self.now c.requires.sound c.requires.midst

pub returns-then-not-self : goal.returns-then-not-self
returns-then-not-self c = λ first got s room.
    takes_on first (record c.args.self.now { judging = c.take-taken.new.self }) got c.args.eof c.args.bytes.now c.requires.sound c.take-taken.result
    (c.take-taken.ensures first.judging got (stands_there first c.args.self.now got c.args.eof c.args.bytes.now c.requires.sound s) room)

pub returns-in-Refused : goal.returns-in-Refused
returns-in-Refused c = λ first got s room.
    let idle : c.args.self.now.judging.passing ≡ 0 = search rules in
    let place = stands_before first c.args.self.now got c.args.eof c.args.bytes.now c.requires.sound s idle in
    let at = c.offset-before.ensures in
    c.go_on.ensures first got c.args.eof (omega (arith, place, at))
    (c.in-Refused.ensures first.judging got (stands_there first c.args.self.now got c.args.eof c.args.bytes.now c.requires.sound s) room)

pub returns-in_default : goal.returns-in_default
returns-in_default c = λ first got s room.
    takes_on first (record c.args.self.now { judging = c.take-taken.new.self }) got c.args.eof c.args.bytes.now c.requires.sound c.take-taken.result
    (c.take-taken.ensures first.judging got (stands_there first c.args.self.now got c.args.eof c.args.bytes.now c.requires.sound s) room)
