use Rattle.std.proofs.lemmas.Bool.Decides.{Decides-eqb}
use Rattle.std.specs.Prelude.{◌==◌}
use Rattle.std.proofs.Common.{◌↔◌, false, IsTrue}
use Rattle.wasm_types.specs.trees.Below.{DeclaredBelow}
use Rattle.wasm_module_validator_resources.proofs.Answering.{then, never, list_known, meant_pair, not_above, not_under, nowhere_below}
use Rattle.wasm_module_validator_resources.proofs.resources.OperatorValidatorResources.is_below.Goals as goal

pub is_declared_below-requires-clause-a_known : goal.is_declared_below-requires-clause-a_known
is_declared_below-requires-clause-a_known c =
    list_known (c.args.self.now.types.now.groups) c.args.a _ c.in-Known.is c.requires.a_known

pub is_declared_below-requires-clause-b_known : goal.is_declared_below-requires-clause-b_known
is_declared_below-requires-clause-b_known c =
    list_known (c.args.self.now.types.now.groups) c.args.b _ c.in-Known-b.is c.requires.b_known

pub returns-in-Known-b : goal.returns-in-Known-b
returns-in-Known-b c =
    meant_pair (λ t u. IsTrue c.is_declared_below.result ↔ DeclaredBelow t u) (c.args.self.now.types.now.groups) c.args.a c.args.b _ _ c.in-Known.is c.in-Known-b.is
    c.is_declared_below.ensures

pub returns-in-Unknown-b : goal.returns-in-Unknown-b
returns-in-Unknown-b c =
    meant_pair (λ t u. IsTrue false ↔ DeclaredBelow t u) (c.args.self.now.types.now.groups) c.args.a c.args.b _ _ c.in-Known.is c.in-Unknown-b.is
    (never (not_above (c.args.self.now.«module».now.settings.features) (c.args.self.now.types.now.groups) c.type_count-count.ensures.formed c.args.self.now.settled.settled _ _
    (list_known (c.args.self.now.types.now.groups) c.args.a _ c.in-Known.is c.requires.a_known)))

pub returns-in-Known-b-2 : goal.returns-in-Known-b-2
returns-in-Known-b-2 c =
    meant_pair (λ t u. IsTrue false ↔ DeclaredBelow t u) (c.args.self.now.types.now.groups) c.args.a c.args.b _ _ c.in-Unknown.is c.in-Known-b-2.is
    (never (not_under (c.args.self.now.«module».now.settings.features) (c.args.self.now.types.now.groups) c.type_count-count.ensures.formed c.args.self.now.settled.settled _ _
    (list_known (c.args.self.now.types.now.groups) c.args.b _ c.in-Known-b-2.is c.requires.b_known)))

pub returns-in-Unknown-b-2 : goal.returns-in-Unknown-b-2
returns-in-Unknown-b-2 c =
    meant_pair (λ t u. IsTrue (c.in-Unknown.a == c.in-Unknown-b-2.b) ↔ DeclaredBelow t u) (c.args.self.now.types.now.groups) c.args.a c.args.b _ _ c.in-Unknown.is c.in-Unknown-b-2.is
    (then (Decides-eqb c.in-Unknown.a c.in-Unknown-b-2.b) (nowhere_below c.in-Unknown.a c.in-Unknown-b-2.b))
