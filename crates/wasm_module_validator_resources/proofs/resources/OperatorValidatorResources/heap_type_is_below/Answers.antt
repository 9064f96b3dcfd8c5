use Rattle.std.proofs.Common.{◌≡◌, ◌↔◌, IsTrue}
use Rattle.wasm_types.specs.trees.Below.{DeclaredBelow}
use Rattle.wasm_module_validator_resources.specs.Reading.{names_in}
use Rattle.wasm_module_validator_resources.proofs.Answering.{then, never, under_named, pair_named}
use Rattle.wasm_module_validator_resources.proofs.resources.OperatorValidatorResources.heap_type_is_below.Goals as goal

pub is_under-requires : goal.is_under-requires
is_under-requires c =
    c.named.ensures.known

pub is_below-requires-clause-a_known : goal.is_below-requires-clause-a_known
is_below-requires-clause-a_known c =
    c.named-in-Concrete-b.ensures.known

pub is_below-requires-clause-b_known : goal.is_below-requires-clause-b_known
is_below-requires-clause-b_known c =
    c.named-in-Concrete-b-2.ensures.known

pub is_under-requires-in-Abstract-b-2 : goal.is_under-requires-in-Abstract-b-2
is_under-requires-in-Abstract-b-2 c =
    c.named-in-Abstract-b-2.ensures.known

pub is_same-requires-clause-a_known : goal.is_same-requires-clause-a_known
is_same-requires-clause-a_known c =
    c.named-in-Exact-b-2.ensures.known

pub is_same-requires-clause-b_known : goal.is_same-requires-clause-b_known
is_same-requires-clause-b_known c =
    c.named-in-Exact-b-2-2.ensures.known

pub returns-in-Abstract : goal.returns-in-Abstract
returns-in-Abstract c =
    rw c.in-Abstract.is c.abstract_is_below.ensures

pub returns-in-Abstract-b : goal.returns-in-Abstract-b
returns-in-Abstract-b c =
    rw (c.in-Concrete.is, c.in-Abstract-b.is) (then c.is_under.ensures (under_named (c.args.self.now.«module».now.settings.features) (c.args.self.now.types.now.groups)
    c.args.self.now.settled.settled (names_in (c.args.self.now.types.now.groups) (c.args.self.now.«module».now.types)) c.in-Concrete.index c.named.result c.named.ensures _ _))

pub returns-in-Concrete-b : goal.returns-in-Concrete-b
returns-in-Concrete-b c =
    rw (c.in-Concrete.is, c.in-Concrete-b.is) (pair_named (λ t u. IsTrue c.is_below.result ↔ DeclaredBelow t u) (c.args.self.now.types.now.groups) (names_in
    (c.args.self.now.types.now.groups) (c.args.self.now.«module».now.types)) _ _ _ _ c.named-in-Concrete-b.ensures c.named-in-Concrete-b-2.ensures c.is_below.ensures)

pub returns-in-Exact-b : goal.returns-in-Exact-b
returns-in-Exact-b c =
    rw (c.in-Concrete.is, c.in-Exact-b.is) (never (λ e. e))

pub returns-in-Abstract-b-2 : goal.returns-in-Abstract-b-2
returns-in-Abstract-b-2 c =
    rw (c.in-Exact.is, c.in-Abstract-b-2.is) (then c.is_under-in-Abstract-b-2.ensures (under_named (c.args.self.now.«module».now.settings.features)
    (c.args.self.now.types.now.groups) c.args.self.now.settled.settled (names_in (c.args.self.now.types.now.groups) (c.args.self.now.«module».now.types)) c.in-Exact.index
    c.named-in-Abstract-b-2.result c.named-in-Abstract-b-2.ensures _ _))

pub returns-in-Concrete-b-2 : goal.returns-in-Concrete-b-2
returns-in-Concrete-b-2 c =
    rw (c.in-Exact.is, c.in-Concrete-b-2.is) (pair_named (λ t u. IsTrue c.is_below-in-Concrete-b-2.result ↔ DeclaredBelow t u) (c.args.self.now.types.now.groups) (names_in
    (c.args.self.now.types.now.groups) (c.args.self.now.«module».now.types)) _ _ _ _ c.named-in-Concrete-b-2-2.ensures c.named-in-Concrete-b-2-3.ensures
    c.is_below-in-Concrete-b-2.ensures)

pub returns-in-Exact-b-2 : goal.returns-in-Exact-b-2
returns-in-Exact-b-2 c =
    rw (c.in-Exact.is, c.in-Exact-b-2.is) (pair_named (λ t u. IsTrue c.is_same.result ↔ (t ≡ u)) (c.args.self.now.types.now.groups) (names_in (c.args.self.now.types.now.groups)
    (c.args.self.now.«module».now.types)) _ _ _ _ c.named-in-Exact-b-2.ensures c.named-in-Exact-b-2-2.ensures c.is_same.ensures)
