use Rattle.std.proofs.Common.{inl, inr}
use Rattle.wasm_check_command.proofs.tables.table_asked.Goals as goal

pub returns-then-are_these : goal.returns-then-are_these
returns-then-are_these g c = inl (c.are_these.ensures c.if-are_these.true)

pub returns-then-are_these-2 : goal.returns-then-are_these-2
returns-then-are_these-2 g c = inr (c.are_these-2.ensures c.if-are_these-2.true)
