use Rattle.wasm_operator_validator_fast_objects.specs.declared.atomics.AccessClass.TheVariants as class
use Rattle.wasm_operator_validator_fast_objects.proofs.AtomicRows.{exchanged}
use Rattle.std.proofs.Common.{refl}
use Rattle.wasm_operator_validator_fast_objects.proofs.atomics.exchange.Goals as goal

pub returns-in-Load : goal.returns-in-Load
returns-in-Load c = λ e.
    let (r, taken, put) = c.change.ensures e in
    exchanged c.args.class class.Load c.args.ty c.args.address c.args.stack.now c.change.new.self r c.args.stack.now.1 c.in-Load.is taken put

pub returns-in-Store : goal.returns-in-Store
returns-in-Store c = λ e.
    exchanged c.args.class class.Store c.args.ty c.args.address c.args.stack.now c.take_two.new.stack c.take_two.new.stack.0 c.take_two.new.stack.1 c.in-Store.is
    (c.take_two.ensures e) refl

pub returns-in-Modify : goal.returns-in-Modify
returns-in-Modify c = λ e.
    let (r, taken, put) = c.take_change.ensures e in
    exchanged c.args.class class.Modify c.args.ty c.args.address c.args.stack.now c.take_change.new.stack r c.args.stack.now.1 c.in-Modify.is taken put

pub returns-in-CompareExchange : goal.returns-in-CompareExchange
returns-in-CompareExchange c = λ e.
    let (r, taken, put) = c.take_two_change.ensures e in
    exchanged c.args.class class.CompareExchange c.args.ty c.args.address c.args.stack.now c.take_two_change.new.stack r c.args.stack.now.1 c.in-CompareExchange.is taken put

pub returns-in-Notify : goal.returns-in-Notify
returns-in-Notify c = λ e.
    let (r, taken, put) = c.take_change-in-Notify.ensures e in
    exchanged c.args.class class.Notify c.args.ty c.args.address c.args.stack.now c.take_change-in-Notify.new.stack r c.args.stack.now.1 c.in-Notify.is taken put

pub returns-in-Wait : goal.returns-in-Wait
returns-in-Wait c = λ e.
    let (r, taken, put) = c.take_two_change-in-Wait.ensures e in
    exchanged c.args.class class.Wait c.args.ty c.args.address c.args.stack.now c.take_two_change-in-Wait.new.stack r c.args.stack.now.1 c.in-Wait.is taken put
