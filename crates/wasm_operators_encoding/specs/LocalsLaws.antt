-- The decoders of locals are lawful, and read exactly what their grammars spell.
use Rattle.std.proofs.Common.{◌≡◌, ℕ, zero, suc, ◌-◌, ◌<◌, ◌≤◌, List, [], ◌∷◌, ◌++◌, length, refl, sym, ap, ◌∙◌, subst, arith, ltb}
use Rattle.std.specs.Prelude.{nat_lt}
use Rattle.std.proofs.lemmas.Bool.{ltb-true, ltb-false}
use Rattle.std.proofs.lemmas.List.{append-nil}
use Rattle.wasm_types.specs.decoding.declared.Refusal.TheVariants.{Other}
use Rattle.wasm_types.specs.decoding.Decoder.{◌>>=◌, pure, IsLawful, Decides, Grammar, Then, Many}
use Rattle.wasm_types.specs.decoding.Laws.{lawful->>=, lawful-pure, lawful-if}
use Rattle.wasm_types.specs.decoding.ExactLaws.{Mapped, decides->>=, decides-same, decides-pure, decides-if, decides-map}
use Rattle.wasm_types.specs.decoding.Leb.{u32, IsUnsigned}
use Rattle.wasm_types.specs.decoding.LebLaws.{lawful-unsigned, decides-u32}
use Rattle.wasm_types.specs.decoding.Lists.{refuse_at}
use Rattle.wasm_types.specs.decoding.ListLaws.{lawful-from_place, decides-from_place, lawful-refuse_at, decides-refuse_at}
use Rattle.wasm_types.specs.settings.Settings.{Settings}
use Rattle.wasm_types.specs.values.DecodeValues.{value_type}
use Rattle.wasm_types.specs.values.DecodeLaws.{lawful-value_type}
use Rattle.wasm_types.specs.values.Spelled.{SpelledValue}
use Rattle.wasm_types.specs.values.ValueLaws.{decides-value_type}
use Rattle.wasm_operators_encoding.specs.Locals.{LocalGroup, group_of, total, most_locals, SpelledGroup, SpelledLocals, group, room_or, group_within, groups_within, locals}

-- ---- one group

pub lawful-group : IsLawful group
unfolding group
lawful-group = lawful->>= u32 (λ n. value_type >>= λ t. pure (group_of n t)) (lawful-unsigned 4 4) (λ n. lawful->>= value_type (λ t. pure (group_of n t)) lawful-value_type (λ t. lawful-pure (group_of n t)))

-- the type behind a number
abbrev typed_behind : ℕ → Grammar LocalGroup
typed_behind n = Mapped (group_of n) SpelledValue

group_to : (g : LocalGroup) (text : List ℕ) → Then (IsUnsigned 32) typed_behind g text → SpelledGroup g text
group_to g text h = subst (λ (z : LocalGroup). SpelledGroup z text) (sym h.second.2) (record { count = h.front; type = h.back; counted = h.first; typed = h.second.1; whole = h.whole })

group_from : (g : LocalGroup) (text : List ℕ) → SpelledGroup g text → Then (IsUnsigned 32) typed_behind g text
group_from g text h = record { value = g.count; front = h.count; back = h.type; first = h.counted; second = (g.type, h.typed, refl); whole = h.whole }

pub decides-group : Decides group SpelledGroup
unfolding group
decides-group = decides-same group (Then (IsUnsigned 32) typed_behind) SpelledGroup (decides->>= u32 (λ n. value_type >>= λ t. pure (group_of n t)) (IsUnsigned 32) typed_behind decides-u32 (λ n. decides-map value_type (group_of n) SpelledValue decides-value_type)) group_to group_from

-- ---- one that has room

module _ (room : ℕ) where
  pub lawful-group_within : IsLawful (group_within room)
  unfolding group_within
  lawful-group_within = lawful-from_place (λ p. group >>= room_or room p)
      (λ p. lawful->>= group (room_or room p) lawful-group (λ g. lawful-if (nat_lt room g.count) (refuse_at Other p) (pure g) (lawful-refuse_at Other p) (lawful-pure g)))

  -- a group of at most so many locals
  abbrev pub GroupWithin : Grammar LocalGroup
  GroupWithin g text = SpelledGroup g text × (g.count ≤ room)

  -- the group itself, and nothing behind it
  abbrev only : LocalGroup → Grammar LocalGroup
  only g h text = (h ≡ g) × (text ≡ []) × (g.count ≤ room)

  only_decides : (p : ℕ) (g : LocalGroup) → Decides (room_or room p g) (only g)
  only_decides p g = decides-if (ltb room g.count) (refuse_at Other p) (pure g) (only g)
      (λ t. let large : room < g.count = ltb-true _ _ t in decides-refuse_at Other p (only g) (λ y text h. omega (arith, h.2, large)))
      (λ f. let small : g.count ≤ room = ltb-false _ _ f in decides-pure g (only g) (refl, refl, small) (λ y text h. (h.0, h.1)))

  within_to : (g : LocalGroup) (text : List ℕ) → Then SpelledGroup only g text → GroupWithin g text
  within_to g text h =
      let same = sym h.second.0 in (
        subst (λ (z : List ℕ). SpelledGroup g z) (sym (h.whole ∙ ap (λ (z : List ℕ). h.front ++ z) h.second.1 ∙ append-nil h.front)) (subst (λ (k : LocalGroup). SpelledGroup k h.front) same h.first),
        subst (λ (k : LocalGroup). k.count ≤ room) same h.second.2,
      )

  within_from : (g : LocalGroup) (text : List ℕ) → GroupWithin g text → Then SpelledGroup only g text
  within_from g text h = record { value = g; front = text; back = []; first = h.0; second = (refl, refl, h.1); whole = sym (append-nil text) }

  pub decides-group_within : Decides (group_within room) GroupWithin
  unfolding group_within
  decides-group_within = decides-from_place (λ p. group >>= room_or room p) GroupWithin
      (λ p. decides-same (group >>= room_or room p) (Then SpelledGroup only) GroupWithin (decides->>= group (room_or room p) SpelledGroup only decides-group (only_decides p)) within_to within_from)

-- ---- some in a row

pub lawful-groups_within : (n room : ℕ) → IsLawful (groups_within n room)
unfolding groups_within
lawful-groups_within zero room = lawful-pure []
lawful-groups_within (suc n) room = lawful->>= (group_within room) (λ g. groups_within n (room - g.count) >>= λ gs. pure (g ∷ gs)) (lawful-group_within room)
    (λ g. lawful->>= (groups_within n (room - g.count)) (λ gs. pure (g ∷ gs)) (lawful-groups_within n (room - g.count)) (λ gs. lawful-pure (g ∷ gs)))

-- n groups of at most so many locals together
abbrev pub GroupsWithin : ℕ → ℕ → Grammar (List LocalGroup)
GroupsWithin n room gs text = Many SpelledGroup n gs text × (total gs ≤ room)

none_to : (room : ℕ) (gs : List LocalGroup) (text : List ℕ) → GroupsWithin zero room gs text → (gs ≡ []) × (text ≡ [])
none_to room [] text h = (refl, h.0)
none_to room (g ∷ gs) text h = absurd h.0

module _ (n room : ℕ) where
  -- those behind the first
  abbrev behind : LocalGroup → Grammar (List LocalGroup)
  behind g = Mapped (λ (gs : List LocalGroup). g ∷ gs) (GroupsWithin n (room - g.count))

  many_to : (ys : List LocalGroup) (text : List ℕ) → Then (GroupWithin room) behind ys text → GroupsWithin (suc n) room ys text
  many_to ys text h =
      let small : total (h.value ∷ h.second.0) ≤ room = omega (arith, h.first.1, h.second.1.1) in
      subst (λ (z : List LocalGroup). GroupsWithin (suc n) room z text) (sym h.second.2) ((h.front, h.back, h.first.0, h.second.1.0, h.whole), small)

  many_from : (ys : List LocalGroup) (text : List ℕ) → GroupsWithin (suc n) room ys text → Then (GroupWithin room) behind ys text
  many_from [] text h = absurd h.0
  many_from (g ∷ gs) text h =
      let first : g.count ≤ room = omega (arith, h.1) in
      let rest : total gs ≤ room - g.count = omega (arith, h.1) in
      record { value = g; front = h.0.0; back = h.0.1; first = (h.0.2, first); second = (gs, (h.0.3, rest), refl); whole = h.0.4 }

pub decides-groups_within : (n room : ℕ) → Decides (groups_within n room) (GroupsWithin n room)
unfolding groups_within
decides-groups_within zero room = decides-pure [] (GroupsWithin zero room) (refl, omega arith) (none_to room)
decides-groups_within (suc n) room =
    decides-same (groups_within (suc n) room) (Then (GroupWithin room) (behind n room)) (GroupsWithin (suc n) room)
    (decides->>= (group_within room) (λ g. groups_within n (room - g.count) >>= λ gs. pure (g ∷ gs)) (GroupWithin room) (behind n room) (decides-group_within room)
    (λ g. decides-map (groups_within n (room - g.count)) (λ (gs : List LocalGroup). g ∷ gs) (GroupsWithin n (room - g.count)) (decides-groups_within n (room - g.count))))
    (many_to n room) (many_from n room)

-- ---- all of them

count_is : (n : ℕ) (gs : List LocalGroup) (text : List ℕ) → Many SpelledGroup n gs text → n ≡ length gs
count_is zero [] text h = refl
count_is zero (g ∷ gs) text h = absurd h
count_is (suc n) [] text h = absurd h
count_is (suc n) (g ∷ gs) text h = ap suc (count_is n gs h.1 h.3)

module _ (settings : Settings) where
  pub lawful-locals : IsLawful (locals settings)
  unfolding locals
  lawful-locals = lawful->>= u32 (λ n. groups_within n (most_locals settings)) (lawful-unsigned 4 4) (λ n. lawful-groups_within n (most_locals settings))

  -- the groups behind a count
  abbrev counted : ℕ → Grammar (List LocalGroup)
  counted n = GroupsWithin n (most_locals settings)

  locals_to : (gs : List LocalGroup) (text : List ℕ) → Then (IsUnsigned 32) counted gs text → SpelledLocals settings gs text
  locals_to gs text h =
      let n = count_is h.value gs h.back h.second.0 in
      record {
        listed = record {
          count = h.front;
          values = h.back;
          counted = subst (λ (k : ℕ). IsUnsigned 32 k h.front) n h.first;
          each = subst (λ (k : ℕ). Many SpelledGroup k gs h.back) n h.second.0;
          whole = h.whole;
        };
        within = h.second.1;
      }

  locals_from : (gs : List LocalGroup) (text : List ℕ) → SpelledLocals settings gs text → Then (IsUnsigned 32) counted gs text
  locals_from gs text h = record {
    value = length gs;
    front = h.listed.count;
    back = h.listed.values;
    first = h.listed.counted;
    second = (h.listed.each, h.within);
    whole = h.listed.whole;
  }

  pub decides-locals : Decides (locals settings) (SpelledLocals settings)
  unfolding locals
  decides-locals = decides-same (locals settings) (Then (IsUnsigned 32) counted) (SpelledLocals settings) (decides->>= u32 (λ n. groups_within n (most_locals settings)) (IsUnsigned 32) counted decides-u32 (λ n. decides-groups_within n (most_locals settings))) locals_to locals_from
