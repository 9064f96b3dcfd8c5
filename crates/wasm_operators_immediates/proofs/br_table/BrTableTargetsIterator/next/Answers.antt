-- The next number is there, and those behind it are left.
use Rattle.std.proofs.Common.{sym, ◌∙◌, ap, arith, length}
use Rattle.wasm_operators_immediates.proofs.Reading.{first_of, is_read, none_at_all, refused}
use Rattle.wasm_operators_immediates.proofs.br_table.BrTableTargetsIterator.next.Goals as goal

pub returns-then-self-eq0-clause-steps : goal.returns-then-self-eq0-clause-steps
returns-then-self-eq0-clause-steps c =
    let e = none_at_all c.self.inside.remaining c.self.inside.reader c.if-self-eq0.true in
    let f = sym c.self.view_is ∙ e in
    (f, f)

pub unreachable-requires : goal.unreachable-requires
unreachable-requires c =
    let p = is_read c.self.inside.remaining c.self.inside.reader (omega arith) c.self.invariant in
    refused c.in_default.field-0 p.0 c.self.inside.reader p.1 c.read_var_u32.new.self p.2 c.in_default.ensures.answer c.in_default.ensures.no_memory

pub invariant_of-self : goal.invariant_of-self
invariant_of-self c = (first_of c.self.inside.remaining c.in-Ok.target c.self.inside.reader c.read_var_u32.new.self (omega arith) c.self.invariant c.in-Ok.ensures.answer).read

pub returns-clause-steps : goal.returns-clause-steps
returns-clause-steps c =
    let f = first_of c.self.inside.remaining c.in-Ok.target c.self.inside.reader c.read_var_u32.new.self (omega arith) c.self.invariant c.in-Ok.ensures.answer in
    sym c.self.view_is ∙ f.rest

pub returns-clause-goes : goal.returns-clause-goes
returns-clause-goes c =
    let f = first_of c.self.inside.remaining c.in-Ok.target c.self.inside.reader c.read_var_u32.new.self (omega arith) c.self.invariant c.in-Ok.ensures.answer in
    let e = sym c.self.view_is ∙ f.rest in
    record { on = λ b. (tt, tt, omega (arith, ap length e)); keeps = tt; rests = λ b. tt }
