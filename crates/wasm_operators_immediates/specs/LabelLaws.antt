-- The labels of br_table are read lawfully, and exactly where bytes spell them.
use Rattle.std.proofs.Common.{ℕ, List, refl, sym, ap, subst}
use Rattle.wasm_types.specs.decoding.Decoder.{Grammar, ◌>>=◌, pure, IsLawful, Decides, Then}
use Rattle.wasm_types.specs.decoding.Laws.{lawful->>=, lawful-pure}
use Rattle.wasm_types.specs.decoding.ExactLaws.{decides->>=, decides-same, decides-map, Mapped}
use Rattle.wasm_types.specs.decoding.Leb.{u32, IsUnsigned}
use Rattle.wasm_types.specs.decoding.LebLaws.{lawful-unsigned, decides-u32}
use Rattle.wasm_types.specs.decoding.Lists.{listed_within, IsListedWithin}
use Rattle.wasm_types.specs.decoding.ListLaws.{lawful-listed_within, decides-listed_within}
use Rattle.wasm_types.specs.settings.Settings.{Settings}
use Rattle.wasm_operators_immediates.specs.Tables.{Labels}
use Rattle.wasm_operators_immediates.specs.Labels.{with_default, labels, SpelledLabels}

module _ (settings : Settings) where
  pub lawful-labels : IsLawful (labels settings)
  unfolding labels
  lawful-labels = lawful->>= (listed_within settings.limits.body_bytes u32) _
      (lawful-listed_within settings.limits.body_bytes u32 (lawful-unsigned 4 4))
      (λ targets. lawful->>= u32 _ (lawful-unsigned 4 4) (λ default. lawful-pure (with_default targets default)))

  -- a default behind these targets
  abbrev behind : List ℕ → Grammar Labels
  behind targets = Mapped (with_default targets) (IsUnsigned 32)

  labels_to : (l : Labels) (text : List ℕ) → Then (IsListedWithin settings.limits.body_bytes (IsUnsigned 32)) behind l text → SpelledLabels settings l text
  labels_to l text h = record {
    front = h.front;
    back = h.back;
    targets = subst (λ (xs : List ℕ). IsListedWithin settings.limits.body_bytes (IsUnsigned 32) xs h.front) (sym (ap (λ (k : Labels). k.targets) h.second.2)) h.first;
    default = subst (λ (n : ℕ). IsUnsigned 32 n h.back) (sym (ap (λ (k : Labels). k.default) h.second.2)) h.second.1;
    whole = h.whole;
  }

  labels_from : (l : Labels) (text : List ℕ) → SpelledLabels settings l text → Then (IsListedWithin settings.limits.body_bytes (IsUnsigned 32)) behind l text
  labels_from l text h = record { value = l.targets; front = h.front; back = h.back; first = h.targets; second = (l.default, h.default, refl); whole = h.whole }

  pub decides-labels : Decides (labels settings) (SpelledLabels settings)
  unfolding labels
  decides-labels = decides-same (labels settings) (Then (IsListedWithin settings.limits.body_bytes (IsUnsigned 32)) behind) (SpelledLabels settings)
      (decides->>= (listed_within settings.limits.body_bytes u32) (λ targets. u32 >>= λ default. pure (with_default targets default))
      (IsListedWithin settings.limits.body_bytes (IsUnsigned 32)) behind
      (decides-listed_within settings.limits.body_bytes u32 (IsUnsigned 32) decides-u32)
      (λ targets. decides-map u32 (with_default targets) (IsUnsigned 32) decides-u32))
      labels_to labels_from
