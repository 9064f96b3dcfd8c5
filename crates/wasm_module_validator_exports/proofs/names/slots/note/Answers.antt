use Rattle.std.proofs.Common.{rules, ◌≡◌, ◌∙◌, ℕ, List, cond, false, not, sym, subst, true}
use Rattle.std.specs.BTreeSet.{contains_text}
use Rattle.std.specs.Str.{bytes_eq}
use Rattle.std.proofs.lemmas.Map.Text.{btree_set_updates_text}
use Rattle.wasm_module_validator_exports.proofs.Taking.{is_known, is_unknown}
use Rattle.wasm_module_validator_exports.proofs.names.slots.note.Goals as goal

pub returns-then-is_new : goal.returns-then-is_new
returns-then-is_new c = (
  is_unknown (contains_text c.args.others.now c.args.name.now) (subst (λ (n : List ℕ). true ≡ not (contains_text c.args.others.now n)) c.in-Ok.ensures.ok
      (sym c.if-is_new.true ∙ c.in-Ok-insert.ensures.added)),
  subst (λ (n : List ℕ). (q : List ℕ) → contains_text c.insert.new.self q ≡ cond (bytes_eq n q) true (contains_text c.args.others.now q)) c.in-Ok.ensures.ok
      (btree_set_updates_text _ c.args.others.now c.insert.new.self true c.in-Ok-insert.ensures.updates),
)

pub returns : goal.returns
returns c = (
  is_known (contains_text c.args.others.now c.args.name.now) (subst (λ (n : List ℕ). false ≡ not (contains_text c.args.others.now n)) c.in-Ok.ensures.ok
      (sym c.if-is_new.false ∙ c.in-Ok-insert.ensures.added)),
  search rules,
)
