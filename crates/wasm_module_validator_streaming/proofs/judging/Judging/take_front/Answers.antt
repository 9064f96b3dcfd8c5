-- A front leads past its section; and where there is none, fewer bytes than are asked for bring none.
use Rattle.std.proofs.Common.{rules, ◌≡◌, ◌<◌, ◌≤◌, ◌+◌, ◌^◌, ℕ, List, length, min, false, true, None, refl, sym, subst, arith}
use Rattle.wasm_sections_parser.specs.Parsing.{between, reads}
use Rattle.wasm_module_validator_streaming.specs.Passing.{IsHead}
use Rattle.wasm_module_validator_streaming.specs.laws.Passing.{none_between, none_cut, none_other, none_far}
use Rattle.wasm_module_validator_streaming.proofs.Stepping.{wait_takes, front_takes}
use Rattle.wasm_module_validator_streaming.proofs.judging.Judging.take_front.Goals as goal

pub returns-then-not-is_between : goal.returns-then-not-is_between
returns-then-not-is_between c = λ first got s room.
    let none : between c.args.self.now.parser.frames.progress.stage c.args.self.now.parser.frames.offset ≡ false = search rules in
    wait_takes first c.args.self.now got c.args.bytes.now s c.requires.idle c.args.needed c.requires.asks c.args.needed c.requires.some (omega arith)
    (λ more less. none_between c.args.self.now.parser.frames none _)

pub returns-in-Cut : goal.returns-in-Cut
returns-in-Cut c = λ first got s room.
    let front = rw c.in-Cut.is at c.read_front.ensures in
    wait_takes first c.args.self.now got c.args.bytes.now s c.requires.idle c.args.needed c.requires.asks c.min.result (search rules) (search rules)
    (λ more less. none_cut c.args.self.now.parser.frames c.args.bytes.now c.in-Cut.more front.1 more (search rules))

pub returns-in-Other : goal.returns-in-Other
returns-in-Other c = λ first got s room.
    let front = rw c.in-Other.is at c.read_front.ensures in
    wait_takes first c.args.self.now got c.args.bytes.now s c.requires.idle c.args.needed c.requires.asks c.args.needed c.requires.some (omega arith)
    (λ more less. none_other c.args.self.now.parser.frames c.args.bytes.now front more)

pub returns-in_default : goal.returns-in_default
returns-in_default c = λ first got s room.
    let far : 2 ^ 64 ≤ c.args.self.now.parser.frames.offset + (length c.args.bytes.now + c.in-Head.missing) = search rules in
    let head : IsHead (reads c.args.self.now.parser.frames c.args.bytes.now) c.in-Head.missing c.in-Head.contents = rw c.in-Head.is at c.read_front.ensures in
    wait_takes first c.args.self.now got c.args.bytes.now s c.requires.idle c.args.needed c.requires.asks c.args.needed c.requires.some (omega arith)
    (λ more less. none_far c.args.self.now.parser.frames c.args.bytes.now c.in-Head.missing c.in-Head.contents head far more)

pub returns-in-Some : goal.returns-in-Some
returns-in-Some c = λ first got s room.
    let there : between c.args.self.now.parser.frames.progress.stage c.args.self.now.parser.frames.offset ≡ true = search rules in
    let head : IsHead (reads c.args.self.now.parser.frames c.args.bytes.now) c.in-Head.missing c.in-Head.contents = rw c.in-Head.is at c.read_front.ensures in
    front_takes first c.args.self.now got c.args.bytes.now s c.requires.idle c.args.needed c.requires.asks
    (record c.args.self.now { parser = c.pass_section.new.self; in_loop = None; passing = c.in-Head.missing; contents = c.in-Head.contents })
    c.in-Head.missing c.in-Head.contents there head (search rules) refl refl refl tt
