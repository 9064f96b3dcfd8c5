-- Ids and places of sections are those of the binary format.
use Rattle.std.proofs.Common.{◌≡◌, ◌⊎◌, ◌==◌, ℕ, Bool, true, false, if◌then◌else◌, List, [], ◌∷◌, Some, refl, inl, inr, eqb-true}
use Rattle.wasm_types.specs.values.Decode.{find}
use Rattle.wasm_sections_parser.specs.Steps.{or_zero, place_of}
use Rattle.wasm_module_validator_rules_in_order.specs.Sections.{Section, number, place}
use Rattle.wasm_module_validator_rules_in_order.specs.Sections as section

pub has_place : (s : Section) → place_of (number s) ≡ place s
has_place section.types = refl
has_place section.imports = refl
has_place section.functions = refl
has_place section.tables = refl
has_place section.memories = refl
has_place section.tags = refl
has_place section.globals = refl
has_place section.exports = refl
has_place section.start = refl
has_place section.element_segments = refl
has_place section.data_count = refl
has_place section.data_segments = refl

-- ---- other ids

-- one of the ids of a list
abbrev IsAmong : List (ℕ × ℕ) → ℕ → Type 0
IsAmong [] id = ⊥
IsAmong (c ∷ cs) id = (id ≡ c.0) ⊎ IsAmong cs id

found : (cs : List (ℕ × ℕ)) (id : ℕ) → (or_zero (find cs id) ≡ 0) ⊎ IsAmong cs id
found [] id = inl refl
found (c ∷ cs) id = by (id == c.0) refl (found cs id)
  where
    by : (b : Bool) → (id == c.0) ≡ b → (or_zero (find cs id) ≡ 0) ⊎ IsAmong cs id → (or_zero (if b then Some c.1 else find cs id) ≡ 0) ⊎ ((id ≡ c.0) ⊎ IsAmong cs id)
    by true e rest = inr (inl (eqb-true id c.0 e))
    by false e (inl none) = inl none
    by false e (inr at) = inr (inr at)

abbrev all_places : List (ℕ × ℕ)
all_places = (1, 1) ∷ (2, 2) ∷ (3, 3) ∷ (4, 4) ∷ (5, 5) ∷ (13, 6) ∷ (6, 7) ∷ (7, 8) ∷ (8, 9) ∷ (9, 10) ∷ (12, 11) ∷ (10, 12) ∷ (11, 13) ∷ []

abbrev IsKnown : ℕ → Type 0
IsKnown id = (id ≡ 10) ⊎ ((s : Section) × (id ≡ number s))

named : (id : ℕ) → IsAmong all_places id → IsKnown id
named id (inl e) = inr (section.types, e)
named id (inr (inl e)) = inr (section.imports, e)
named id (inr (inr (inl e))) = inr (section.functions, e)
named id (inr (inr (inr (inl e)))) = inr (section.tables, e)
named id (inr (inr (inr (inr (inl e))))) = inr (section.memories, e)
named id (inr (inr (inr (inr (inr (inl e)))))) = inr (section.tags, e)
named id (inr (inr (inr (inr (inr (inr (inl e))))))) = inr (section.globals, e)
named id (inr (inr (inr (inr (inr (inr (inr (inl e)))))))) = inr (section.exports, e)
named id (inr (inr (inr (inr (inr (inr (inr (inr (inl e))))))))) = inr (section.start, e)
named id (inr (inr (inr (inr (inr (inr (inr (inr (inr (inl e)))))))))) = inr (section.element_segments, e)
named id (inr (inr (inr (inr (inr (inr (inr (inr (inr (inr (inl e))))))))))) = inr (section.data_count, e)
named id (inr (inr (inr (inr (inr (inr (inr (inr (inr (inr (inr (inl e)))))))))))) = inl e
named id (inr (inr (inr (inr (inr (inr (inr (inr (inr (inr (inr (inr (inl e))))))))))))) = inr (section.data_segments, e)
named id (inr (inr (inr (inr (inr (inr (inr (inr (inr (inr (inr (inr (inr h))))))))))))) = absurd h

pub no_other_places : (id : ℕ) → (place_of id ≡ 0) ⊎ ((id ≡ 10) ⊎ ((s : Section) × (id ≡ number s)))
no_other_places id = by (found all_places id)
  where
    by : (or_zero (find all_places id) ≡ 0) ⊎ IsAmong all_places id → (place_of id ≡ 0) ⊎ IsKnown id
    by (inl e) = inl e
    by (inr h) = inr (named id h)
