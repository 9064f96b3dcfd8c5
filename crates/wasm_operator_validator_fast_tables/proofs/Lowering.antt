-- Operands that may be taken for others.
use Rattle.std.proofs.Common.{◌≡◌, ◌∙◌, ℕ, List, [], ◌∷◌, refl, ap, subst}
use Rattle.wasm_types.specs.settings.Settings.{Settings}
use Rattle.wasm_types.specs.trees.Trees.{TypeTree}
use Rattle.wasm_operator_validator_rules.specs.Operands.{AllBelow}
use Rattle.wasm_operator_validator_rules.specs.Context.{Context}
use Rattle.wasm_operator_validator_state.specs.laws.Operands.{all_below_refl, all_below_trans, all_below_under}
use Rattle.wasm_operator_validator_state.specs.laws.Closing.{in_below}
use Rattle.wasm_operator_validator_fast_tables.specs.declared.order.Step.{Step}
use Rattle.wasm_operator_validator_fast_tables.specs.declared.tables.Open.{Open}
use Rattle.wasm_operator_validator_fast_tables.specs.declared.tables.Tables.{Tables}
use Rattle.wasm_operator_validator_fast_tables.specs.Stacks.{Values}
use Rattle.wasm_operator_validator_fast_tables.specs.Values.{operands, AreBelow, IsLowered}
use Rattle.wasm_operator_validator_fast_tables.specs.Loop.{Goes, Leads}
use Rattle.wasm_operator_validator_fast_tables.specs.Tables.{Fits}

module _ (steps : List Step) where
  pub lower_same : (v m : Values) → v ≡ m → IsLowered steps v m
  lower_same v m e = (ap (λ (x : Values). x.1) e, λ ids are. subst (λ (x : Values). AllBelow (operands ids v.0) (operands ids x.0)) e (all_below_refl (operands ids v.0)))

  pub lower_trans : (v m w : Values) → IsLowered steps v m → IsLowered steps m w → IsLowered steps v w
  lower_trans v m w (e, b) (f, c) = (e ∙ f, λ ids are. all_below_trans _ _ _ (b ids are) (c ids are))

  -- the same is put on both
  pub lower_under : (k : ℕ) (v m : Values) → IsLowered steps v m → IsLowered steps (k ∷ v.0, v.1) (k ∷ m.0, m.1)
  lower_under k v m (e, b) = (e, λ ids are. all_below_under (operands ids (k ∷ [])) (operands ids v.0) (operands ids m.0) (b ids are))

  -- one that is the same lies on top of others that may be taken for these
  pub lower_past : (k : ℕ) (v m w : Values) → v ≡ (k ∷ m.0, m.1) → IsLowered steps m w → IsLowered steps v (k ∷ w.0, w.1)
  lower_past k v m w e h = lower_trans v (k ∷ m.0, m.1) (k ∷ w.0, w.1) (lower_same v (k ∷ m.0, m.1) e) (lower_under k m w h)

  -- the one on top may be taken for another
  pub lower_top : (k n : ℕ) (r u : List ℕ) → AreBelow steps (k ∷ []) (n ∷ []) → IsLowered steps (k ∷ r, u) (n ∷ r, u)
  lower_top k n r u b = (refl, λ ids are. ((b ids are).0, all_below_refl (operands ids r)))

-- others may be taken for those under the first
pub lower_more : (steps : List Step) (k : ℕ) (v m n : Values) → IsLowered steps v (k ∷ m.0, m.1) → IsLowered steps m n → IsLowered steps v (k ∷ n.0, n.1)
lower_more steps k v m n h g = lower_trans steps v (k ∷ m.0, m.1) (k ∷ n.0, n.1) h (lower_under steps k m n g)

-- the bytes that may follow on the others may follow on these
pub lowered_goes : (t : Tables) (text : List ℕ) (i : ℕ) (o : Open) (outer : List Open) (v m : Values) → IsLowered t.known.order v m
    → (ids : List TypeTree) (z : Settings) (g : Context) → Fits ids z text t g → Goes ids z text t g i (o ∷ outer) m → Goes ids z text t g i (o ∷ outer) v
lowered_goes t text i o outer v m (same, below) ids z g fits (os, spelled, closes) = (
  os,
  spelled,
  λ set before full whole.
      rw same (in_below _ _ set (operands ids v.0) (operands ids m.0) os _ (below ids fits.knows.steps) (closes set before full whole)),
)

pub lowered : (t : Tables) (text : List ℕ) (i e : ℕ) (o : Open) (outer opens : List Open) (v m w : Values) → IsLowered t.known.order v m
    → Leads text t i (o ∷ outer) m e opens w → Leads text t i (o ∷ outer) v e opens w
lowered t text i e o outer opens v m w low leads ids z g fits goes = lowered_goes t text i o outer v m low ids z g fits (leads ids z g fits goes)
