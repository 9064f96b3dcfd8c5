use Rattle.std.proofs.lemmas.Bool.Decides.{Decides-eqb}
use Rattle.std.specs.Prelude.{◌==◌}
use Rattle.std.proofs.Common.{◌≡◌, ◌↔◌, false, IsTrue, sym}
use Rattle.wasm_module_validator_resources.specs.laws.Trees.{not_nowhere}
use Rattle.wasm_module_validator_resources.proofs.Answering.{then, never, list_known, meant_pair, nowhere_same}
use Rattle.wasm_module_validator_resources.proofs.resources.OperatorValidatorResources.is_same.Goals as goal

pub is_same_type-requires-clause-a_known : goal.is_same_type-requires-clause-a_known
is_same_type-requires-clause-a_known c =
    list_known (c.args.self.now.types.now.groups) c.args.a _ c.in-Known.is c.requires.a_known

pub is_same_type-requires-clause-b_known : goal.is_same_type-requires-clause-b_known
is_same_type-requires-clause-b_known c =
    list_known (c.args.self.now.types.now.groups) c.args.b _ c.in-Known-b.is c.requires.b_known

pub returns-in-Known-b : goal.returns-in-Known-b
returns-in-Known-b c =
    meant_pair (λ t u. IsTrue c.is_same_type.result ↔ (t ≡ u)) (c.args.self.now.types.now.groups) c.args.a c.args.b _ _ c.in-Known.is c.in-Known-b.is
    c.is_same_type.ensures

pub returns-in-Unknown-b : goal.returns-in-Unknown-b
returns-in-Unknown-b c =
    meant_pair (λ t u. IsTrue false ↔ (t ≡ u)) (c.args.self.now.types.now.groups) c.args.a c.args.b _ _ c.in-Known.is c.in-Unknown-b.is
    (never (not_nowhere (c.args.self.now.types.now.groups) _ _ (list_known (c.args.self.now.types.now.groups) c.args.a _ c.in-Known.is c.requires.a_known)))

pub returns-in-Known-b-2 : goal.returns-in-Known-b-2
returns-in-Known-b-2 c =
    meant_pair (λ t u. IsTrue false ↔ (t ≡ u)) (c.args.self.now.types.now.groups) c.args.a c.args.b _ _ c.in-Unknown.is c.in-Known-b-2.is
    (never (λ e. not_nowhere (c.args.self.now.types.now.groups) _ _ (list_known (c.args.self.now.types.now.groups) c.args.b _ c.in-Known-b-2.is c.requires.b_known) (sym e)))

pub returns-in-Unknown-b-2 : goal.returns-in-Unknown-b-2
returns-in-Unknown-b-2 c =
    meant_pair (λ t u. IsTrue (c.in-Unknown.a == c.in-Unknown-b-2.b) ↔ (t ≡ u)) (c.args.self.now.types.now.groups) c.args.a c.args.b _ _ c.in-Unknown.is c.in-Unknown-b-2.is
    (then (Decides-eqb c.in-Unknown.a c.in-Unknown-b-2.b) (nowhere_same c.in-Unknown.a c.in-Unknown-b-2.b))
