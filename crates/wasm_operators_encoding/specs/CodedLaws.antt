-- An opcode with its immediates is read lawfully and exactly.
use Rattle.std.proofs.Common.{◌≡◌, ℕ, ◌<◌, List, length, map, Option, Some, None, refl, sym, ap, subst, length-append, arith}
use Rattle.wasm_types.specs.decoding.declared.Refusal.TheVariants.{Other}
use Rattle.wasm_types.specs.decoding.Decoder.{State, Done, Grammar, ◌>>=◌, pure, IsLawful, Decides, Then}
use Rattle.wasm_types.specs.decoding.Laws.{lawful->>=, lawful-pure}
use Rattle.wasm_types.specs.decoding.ListLaws.{lawful-from_place, decides-from_place, lawful-refuse_at, decides-refuse_at}
use Rattle.wasm_types.specs.decoding.ExactLaws.{decides->>=, decides-same, decides-map, Mapped}
use Rattle.wasm_types.specs.settings.Settings.{Settings}
use Rattle.wasm_operators_immediates.specs.Kinds.{Kind}
use Rattle.wasm_operators_immediates.specs.Immediates.{kind_of}
use Rattle.wasm_operators_encoding.specs.Opcodes.{Opcode, opcode, Spells, SpelledOpcode}
use Rattle.wasm_operators_encoding.specs.OpcodeLaws.{lawful-opcode, decides-opcode}
use Rattle.wasm_operators_encoding.specs.Sequences.{immediates, SpelledImmediates, OfKinds}
use Rattle.wasm_operators_encoding.specs.SequenceLaws.{lawful-immediates, decides-immediates}
use Rattle.wasm_operators_encoding.specs.Coded.{kinds_at, Coded, coded, carried_by, behind, operator, SpelledCoded}

module _ (settings : Settings) where
  module _ (place : ℕ) (o : Opcode) where
    lawful-carried_by : (found : Option (List Kind)) → IsLawful (carried_by settings place o found)
    lawful-carried_by None = lawful-refuse_at Other place
    lawful-carried_by (Some ks) = lawful->>= (immediates settings ks) _ (lawful-immediates settings ks) (λ is. lawful-pure (coded o is))

  pub lawful-operator : IsLawful (operator settings)
  unfolding operator
  lawful-operator = lawful-from_place (λ p. opcode >>= behind settings p)
      (λ p. lawful->>= opcode (behind settings p) lawful-opcode (λ o. lawful-carried_by p o (kinds_at o)))

  -- this opcode, and immediates of the kinds that were found for it
  pub record Carried (o : Opcode) (found : Option (List Kind)) (c : Coded) (text : List ℕ) : Type 0 where
    pub opcode : c.opcode ≡ o
    pub kinds : found ≡ Some (map kind_of c.carried)
    pub spelled : SpelledImmediates settings c.carried text

  module _ (place : ℕ) (o : Opcode) where
    carried_to : (ks : List Kind) (c : Coded) (text : List ℕ) → Mapped (coded o) (OfKinds settings ks) c text → Carried o (Some ks) c text
    carried_to ks c text h =
        subst (λ (d : Coded). Carried o (Some ks) d text) (sym h.2) (record { opcode = refl; kinds = λ i. Some (sym h.1.kinds i); spelled = h.1.spelled })

    some_one : (ks ls : List Kind) → Some ks ≡ Some ls → ls ≡ ks
    some_one ks ls e = cc

    carried_from : (ks : List Kind) (c : Coded) (text : List ℕ) → Carried o (Some ks) c text → Mapped (coded o) (OfKinds settings ks) c text
    carried_from ks c text h =
        (c.carried, record { kinds = some_one ks (map kind_of c.carried) h.kinds; spelled = h.spelled }, λ i. coded (h.opcode i) c.carried)

    no_kinds : (ks : List Kind) → None ≡ Some ks → ⊥
    no_kinds ks e = absurd cc

    decides-carried_by : (found : Option (List Kind)) → Decides (carried_by settings place o found) (Carried o found)
    decides-carried_by None = decides-refuse_at Other place (Carried o None) (λ c text h. no_kinds (map kind_of c.carried) h.kinds)
    decides-carried_by (Some ks) =
        decides-same (immediates settings ks >>= λ is. pure (coded o is)) (Mapped (coded o) (OfKinds settings ks)) (Carried o (Some ks))
        (decides-map (immediates settings ks) (coded o) (OfKinds settings ks) (decides-immediates settings ks)) (carried_to ks) (carried_from ks)

  -- what stands behind an opcode
  abbrev carried_behind : Opcode → Grammar Coded
  carried_behind o = Carried o (kinds_at o)

  coded_to : (c : Coded) (text : List ℕ) → Then SpelledOpcode carried_behind c text → SpelledCoded settings c text
  coded_to c text h = record {
    front = h.front;
    back = h.back;
    opcode = subst (λ (o : Opcode). SpelledOpcode o h.front) (sym h.second.opcode) h.first;
    kinds = subst (λ (o : Opcode). kinds_at o ≡ Some (map kind_of c.carried)) (sym h.second.opcode) h.second.kinds;
    carried = h.second.spelled;
    whole = h.whole;
  }

  coded_from : (c : Coded) (text : List ℕ) → SpelledCoded settings c text → Then SpelledOpcode carried_behind c text
  coded_from c text h = record {
    value = c.opcode;
    front = h.front;
    back = h.back;
    first = h.opcode;
    second = record { opcode = refl; kinds = h.kinds; spelled = h.carried };
    whole = h.whole;
  }

  pub decides-operator : Decides (operator settings) (SpelledCoded settings)
  unfolding operator
  decides-operator = decides-from_place (λ p. opcode >>= behind settings p) (SpelledCoded settings)
      (λ p. decides-same (opcode >>= behind settings p) (Then SpelledOpcode carried_behind) (SpelledCoded settings)
      (decides->>= opcode (behind settings p) SpelledOpcode carried_behind decides-opcode (λ o. decides-carried_by p o (kinds_at o)))
      coded_to coded_from)

-- ---- an opcode has bytes

opcode_some : (prefix : Option ℕ) (code : ℕ) (text : List ℕ) → Spells prefix code text → 0 < length text
opcode_some None code text (p, e) = rw e (omega arith)
opcode_some (Some b) code text (rest, p, u, e) = rw e (omega arith)

module _ (settings : Settings) (s t : State) (c : Coded) (read : operator settings s ≡ Done c t) where
  -- fewer are left behind an opcode with its immediates
  pub fewer_left : length t.rest < length s.rest
  fewer_left =
      let found = (decides-operator settings).sound s t c read in
      let some = opcode_some c.opcode.prefix c.opcode.code found.2.front found.2.opcode in
      omega (arith, ap length found.1.parts, ap length found.2.whole, length-append found.0 t.rest, length-append found.2.front found.2.back)

  -- so there was one
  pub some_left : 0 < length s.rest
  some_left = omega (arith, fewer_left)
