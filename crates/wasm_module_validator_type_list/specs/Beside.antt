-- Types under their ids, beside another type.
use Rattle.std.specs.Prelude.{◌≡◌, ℕ, List, Option, Some, None, slice_get}
use Rattle.std.specs.declared.cmp.Ordering.{Ordering}
use Rattle.std.specs.declared.cmp.Ordering.TheVariants.{Less}
use Rattle.wasm_types.specs.declared.sub_type.SubType.{SubType}
use Rattle.wasm_types.specs.contracts.sub_type.SubTypeOrd.TheImpl as type_order

-- how a type stands to another, where there is one; nothing stands before all
abbrev pub kept_beside : SubType → Option SubType → Ordering
kept_beside ty None = Less
kept_beside ty (Some kept) = type_order.ghosts.cmp kept ty

-- how the type under an id stands to another
abbrev pub beside : List SubType → SubType → ℕ → Ordering
beside types ty n = kept_beside ty (slice_get types n)

-- the type under the id `a` stands before that under `b`
pub record Precedes (types : List SubType) (a b : ℕ) : Type 0 where
  pub former : SubType
  pub latter : SubType
  pub at_a : slice_get types a ≡ Some former
  pub at_b : slice_get types b ≡ Some latter
  pub less : type_order.ghosts.cmp former latter ≡ Less
