-- By the laws of contents that go by.
use Rattle.std.proofs.Common.{rules, ◌≡◌, ◌<◌, ◌-◌, ℕ, List, [], length, min, true, false, refl, ap, arith}
use Rattle.wasm_types.specs.decoding.ErrorValue.{ErrorValue}
use Rattle.wasm_module_validator_streaming.proofs.Stepping.{none_left, contents_end, contents_wait, contents_take}
use Rattle.wasm_module_validator_streaming.proofs.judging.Judging.take_contents.Goals as goal

pub returns-then-eof : goal.returns-then-eof
returns-then-eof c = λ first got s room.
    let none : length c.args.bytes.now ≡ 0 = search rules in
    contents_end first c.args.self.now got c.args.eof c.args.bytes.now s c.requires c.if-eof.true (none_left c.args.bytes.now none) c.eof.result
    (ap (λ (e : ErrorValue). e.kind) c.eof.ensures) (ap (λ (e : ErrorValue). e.offset) c.eof.ensures)

pub returns-then-there-eq0 : goal.returns-then-there-eq0
returns-then-there-eq0 c = λ first got s room.
    let none : length c.args.bytes.now ≡ 0 = search rules in
    let may : c.args.eof ≡ false = search rules in
    contents_wait first c.args.self.now got c.args.eof c.args.bytes.now s c.requires may (none_left c.args.bytes.now none)

pub returns : goal.returns
returns c = λ first got s room.
    let least : c.min-count.result ≡ min c.args.self.now.passing (length c.args.bytes.now) = search rules in
    let there : 0 < length c.args.bytes.now = search rules in
    contents_take first c.args.self.now got c.args.eof c.args.bytes.now s c.requires c.min-count.result least there
    (record c.args.self.now { passing = c.args.self.now.passing - c.min-count.result }) refl refl refl refl s.judge
