use Rattle.std.proofs.Common.{◌≡◌, ◌-◌, length, refl, sym, ap, subst, arith}
use Rattle.wasm_types.specs.decoding.Decoder.{State, Reaches}
use Rattle.wasm_types.specs.decoding.Numbers.{behind}
use Rattle.wasm_operators_reader.proofs.AtOnce.{stands_at, no_more_left}
use Rattle.wasm_operators_reader.proofs.cursor.Cursor.go_to.Goals as goal

pub overflow_sub-self : goal.overflow_sub-self
overflow_sub-self c =
    let reach : Reaches (behind c.self.inside.position c.self.inside.start) c.args.ahead.now = subst (λ (s : State). Reaches s c.args.ahead.now) (sym c.self.view_is) c.requires in
    omega (arith, no_more_left c.self.inside.start c.args.ahead.now c.self.inside.position reach, c.bytes_remaining.ensures, ap length c.self.invariant.0)

pub returns : goal.returns
returns c =
    let reach : Reaches (behind c.self.inside.position c.self.inside.start) c.args.ahead.now = subst (λ (s : State). Reaches s c.args.ahead.now) (sym c.self.view_is) c.requires in
    let n : length c.self.inside.bytes.now - c.bytes_remaining.result ≡ length c.self.inside.start.rest - length c.args.ahead.now.rest = rw (c.bytes_remaining.ensures, c.self.invariant.0) refl in
    stands_at c.self.inside.start c.args.ahead.now c.self.inside.position _ (rw c.self.invariant.0 at c.self.invariant.1) reach n
