-- A walk over the operators of an expression names what the expression refers to.
use Rattle.std.proofs.Common.{◌≡◌, ◌∙◌, ℕ, List, [], ◌∷◌, ◌++◌, flat_map, refl, ap, sym, subst, Option, Some, None}
use Rattle.std.proofs.lemmas.List.{append_assoc, append-nil}
use Rattle.wasm_types.specs.decoding.Decoder.{State}
use Rattle.wasm_types.specs.settings.Settings.{Settings}
use Rattle.wasm_operators_enums.specs.Op.{Op}
use Rattle.wasm_operators_encoding.specs.expressions.Code.{Code, walk}
use Rattle.wasm_operators_encoding.specs.expressions.Spelling.{SpelledExpression}
use Rattle.wasm_operators_encoding.specs.expressions.SpellingLaws.{one_expression}
use Rattle.wasm_operators_reader.specs.Standing.{Standing, at_start, IsFinished, Reads, Runs}
use Rattle.wasm_operators_reader.specs.RunLaws.{run_more, run_expression}
use Rattle.wasm_module_validator_rules_in_order.specs.rules.Spaces.{referred_by, referred_in}
use Rattle.wasm_module_validator_resources.specs.referring.Naming.{listed, NamesMore}

-- so many operators were read, and what they name stands behind what stood there
pub record HasNamed (s : Standing) (before : List ℕ) (t : Standing) (after : List ℕ) : Type 0 where
  pub ops : List Op
  pub run : Runs s ops t
  pub named : after ≡ before ++ flat_map referred_by ops

pub named_none : (s : Standing) (before : List ℕ) → HasNamed s before s before
named_none s before = record { ops = []; run = refl; named = sym (append-nil before) }

flat_push : (os : List Op) (o : Op) → flat_map referred_by (os ++ o ∷ []) ≡ flat_map referred_by os ++ referred_by o
flat_push [] o = append-nil (referred_by o)
flat_push (p ∷ os) o = ap (λ (xs : List ℕ). referred_by p ++ xs) (flat_push os o) ∙ sym (append_assoc (referred_by p) (flat_map referred_by os) (referred_by o))

pub named_more : (s t u : Standing) (before now after : List ℕ) (o : Op) → HasNamed s before t now → Reads t o u → after ≡ now ++ referred_by o → HasNamed s before u after
named_more s t u before now after o h r e = record {
  ops = h.ops ++ o ∷ [];
  run = run_more h.ops s t u o h.run r;
  named = e ∙ ap (λ (xs : List ℕ). xs ++ referred_by o) h.named
      ∙ append_assoc before (flat_map referred_by h.ops) (referred_by o) ∙ ap (λ (xs : List ℕ). before ++ xs) (sym (flat_push h.ops o));
}

-- behind the last operator all is named
pub names_more : (s : State) (t : Standing) (before after : List ℕ) → HasNamed (at_start s) before t after → IsFinished t → NamesMore s.settings s.rest before after
names_more s t before after h f c spelled =
    let (d, walked, here) = run_expression s h.ops t h.run f in
    let same : d ≡ c = one_expression s.settings d c s.rest here spelled in
    h.named ∙ ap (λ (os : List Op). before ++ flat_map referred_by os) (sym walked ∙ ap walk same)
