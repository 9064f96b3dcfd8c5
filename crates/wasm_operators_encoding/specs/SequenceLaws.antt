-- Immediates one after the other are read lawfully and exactly.
use Rattle.std.proofs.Common.{◌≡◌, ℕ, List, [], ◌∷◌, map, refl, sym, ap, subst, ◌∙◌}
use Rattle.wasm_types.specs.decoding.Decoder.{Grammar, IsLawful, Decides, Then}
use Rattle.wasm_types.specs.decoding.Laws.{lawful->>=, lawful-pure}
use Rattle.wasm_types.specs.decoding.ExactLaws.{decides->>=, decides-same, decides-map, decides-pure, Mapped}
use Rattle.wasm_types.specs.settings.Settings.{Settings}
use Rattle.wasm_operators_immediates.specs.Kinds.{Kind}
use Rattle.wasm_operators_immediates.specs.Immediates.{Immediate, kind_of}
use Rattle.wasm_operators_encoding.specs.immediates.Immediates.{immediate, OfKind}
use Rattle.wasm_operators_encoding.specs.immediates.ImmediateLaws.{lawful-immediate, decides-immediate}
use Rattle.wasm_operators_encoding.specs.Sequences.{immediates, OfKinds}

module _ (settings : Settings) where
  pub lawful-immediates : (ks : List Kind) → IsLawful (immediates settings ks)
  lawful-immediates [] = lawful-pure []
  lawful-immediates (k ∷ ks) = lawful->>= (immediate settings k) _ (lawful-immediate settings k)
      (λ i. lawful->>= (immediates settings ks) _ (lawful-immediates ks) (λ is. lawful-pure (i ∷ is)))

  -- none but the empty list has no kinds
  none_to : (is : List Immediate) (text : List ℕ) → OfKinds settings [] is text → (is ≡ []) × (text ≡ [])
  none_to [] text h = (refl, h.spelled)
  none_to (i ∷ is) text h = let e : kind_of i ∷ map kind_of is ≡ [] = h.kinds in absurd cc

  module _ (k : Kind) (ks : List Kind) where
    -- the rest behind the first
    abbrev behind : Immediate → Grammar (List Immediate)
    behind i = Mapped (λ (is : List Immediate). i ∷ is) (OfKinds settings ks)

    several_to : (is : List Immediate) (text : List ℕ) → Then (OfKind settings k) behind is text → OfKinds settings (k ∷ ks) is text
    several_to is text h =
        let rest = h.second.1 in
        subst (λ (js : List Immediate). OfKinds settings (k ∷ ks) js text) (sym h.second.2) (record {
          kinds = ap (λ (l : Kind). l ∷ map kind_of h.second.0) h.first.kind ∙ ap (λ (ls : List Kind). k ∷ ls) rest.kinds;
          spelled = (h.front, h.back, h.first.spelled, rest.spelled, h.whole);
        })

    several_from : (is : List Immediate) (text : List ℕ) → OfKinds settings (k ∷ ks) is text → Then (OfKind settings k) behind is text
    several_from [] text h = let e : [] ≡ k ∷ ks = h.kinds in absurd cc
    several_from (i ∷ is) text h =
        let e : kind_of i ∷ map kind_of is ≡ k ∷ ks = h.kinds in
        let parts = h.spelled in
        record {
          value = i;
          front = parts.0;
          back = parts.1;
          first = record { kind = cc; spelled = parts.2 };
          second = (is, record { kinds = cc; spelled = parts.3 }, refl);
          whole = parts.4;
        }

  pub decides-immediates : (ks : List Kind) → Decides (immediates settings ks) (OfKinds settings ks)
  decides-immediates [] = decides-pure [] (OfKinds settings []) (record { kinds = refl; spelled = refl }) none_to
  decides-immediates (k ∷ ks) = decides-same (immediates settings (k ∷ ks)) (Then (OfKind settings k) (behind k ks)) (OfKinds settings (k ∷ ks))
      (decides->>= (immediate settings k) _ (OfKind settings k) (behind k ks) (decides-immediate settings k)
      (λ i. decides-map (immediates settings ks) (λ (is : List Immediate). i ∷ is) (OfKinds settings ks) (decides-immediates ks)))
      (several_to k ks) (several_from k ks)
