use Rattle.std.proofs.Common.{◌≡◌, ◌∙◌, refl, sym, ap, true}
use Rattle.std.specs.Ordering.{is_eq}
use Rattle.std.specs.declared.cmp.Ordering.{Ordering}
use Rattle.std.specs.declared.cmp.Ordering.TheVariants.{Less, Equal, Greater}
use Rattle.wasm_types.specs.contracts.rec_group.RecGroupOrd.TheImpl as order
use Rattle.wasm_types.specs.contracts.rec_group.RecGroupOrd.TheImpl.Laws.{matches_eq-law}
use Rattle.wasm_types.proofs.laws.order_is_of_types.Goals as goal

is_tie : (o : Ordering) → is_eq o ≡ true → o ≡ Equal
is_tie Less h = absurd cc
is_tie Equal h = refl
is_tie Greater h = absurd cc

pub returns-clause-order : goal.returns-clause-order
returns-clause-order c = λ g h. refl

pub returns-clause-ties : goal.returns-clause-ties
returns-clause-ties c = λ g h. (
  (λ e. (c.equality_is_of_declarations.ensures.groups g h).0 (matches_eq-law g h ∙ ap is_eq e)),
  (λ e. is_tie (order.ghosts.cmp g h) (sym (matches_eq-law g h) ∙ (c.equality_is_of_declarations.ensures.groups g h).1 e)),
)

pub returns-clause-hash : goal.returns-clause-hash
returns-clause-hash c = λ g. refl
