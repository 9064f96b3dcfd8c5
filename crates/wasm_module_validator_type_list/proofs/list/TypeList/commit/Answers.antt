use Rattle.std.proofs.Common.{rules}
use Rattle.std.proofs.Common.{◌∙◌, ap}
use Rattle.wasm_module_validator_type_list.proofs.Holding.{groups_same, lists_stay, lists_closed}
use Rattle.wasm_module_validator_type_list.proofs.list.TypeList.commit.Goals as goal

pub invariant_of-self : goal.invariant_of-self
invariant_of-self c = lists_stay c.self.inside.known c.self.inside.lists c.commit.new.self c.commit.ensures.stays c.commit.ensures.depths_stay c.self.invariant

pub returns-in_err-lists-clause-stays : goal.returns-in_err-lists-clause-stays
returns-in_err-lists-clause-stays c = groups_same c.self.inside.lists c.commit.new.self c.commit.ensures.stays ∙ ap (λ l. l.groups) c.self.view_is

pub invariant_of-result : goal.invariant_of-result
invariant_of-result c = lists_closed c.self.inside.known c.self.inside.lists c.in_ok-lists.lists c.in_ok-lists.ensures.same c.in_ok-lists.ensures.no_depths c.self.invariant

pub invariant_of-self-2 : goal.invariant_of-self-2
invariant_of-self-2 c = lists_stay c.self.inside.known c.self.inside.lists c.commit.new.self c.commit.ensures.stays c.commit.ensures.depths_stay c.self.invariant

pub returns-clause-stays : goal.returns-clause-stays
returns-clause-stays c = groups_same c.self.inside.lists c.commit.new.self c.commit.ensures.stays ∙ ap (λ l. l.groups) c.self.view_is

pub returns-clause-same : goal.returns-clause-same
returns-clause-same c = groups_same c.self.inside.lists c.in_ok-lists.lists c.in_ok-lists.ensures.same ∙ ap (λ l. l.groups) c.self.view_is

pub returns-clause-closed : goal.returns-clause-closed
returns-clause-closed c = search rules
