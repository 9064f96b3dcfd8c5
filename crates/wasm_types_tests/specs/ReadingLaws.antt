-- What is read, each row by computing it.
use Rattle.std.proofs.Common.{◌≡◌, ◌∙◌, ℕ, [], ◌∷◌, ◌++◌, List, length, get_or, refl, ap, arith, lit<, inl, inr}
use Rattle.std.proofs.lemmas.List.{length-append}
use Rattle.wasm_types.specs.decoding.Decoder.{State, Outcome, Done, Short, Fault}
use Rattle.wasm_types.specs.decoding.Leb.{unsigned}
use Rattle.wasm_types.specs.decoding.Rows.{start_of, behind}
use Rattle.wasm_types.specs.settings.Settings.{Settings}
use Rattle.wasm_types.specs.decoding.ErrorText.{cut_to}
use Rattle.wasm_types.specs.reader.Draining.{Drains}
use Rattle.wasm_types_tests.specs.Reading.{ReachedRows, GivenRows, OffsetRows, SaidRows, NextRows, no_memory}

-- the value, and the offset that is told of
abbrev value_in : Outcome ℕ → ℕ
value_in (Done n s) = n
value_in (Short p h) = h
value_in (Fault k p) = 0

abbrev offset_of : Outcome ℕ → ℕ
offset_of (Done n s) = s.place
offset_of (Short p h) = p
offset_of (Fault k p) = p

-- two bytes do not end in a third
other_bytes : (text : List ℕ) → 0x61 ∷ 0x62 ∷ [] ≡ text ++ 0x63 ∷ [] → ⊥
other_bytes [] e = let h : ◌≡◌ {A = ℕ} 0x61 0x63 = ap (λ (l : List ℕ). get_or l 0 0) e in omega (arith, h)
other_bytes (x ∷ []) e = let h : ◌≡◌ {A = ℕ} 0x62 0x63 = ap (λ (l : List ℕ). get_or l 1 0) e in omega (arith, h)
other_bytes (x ∷ y ∷ zs) e = omega (arith, ap length e, length-append zs (0x63 ∷ []))

pub reached_rows : ReachedRows
reached_rows = record {
  here = record { text = []; taken = record { parts = refl; place = refl; settings = refl; start = refl } };
  further = record { text = 0x61 ∷ []; taken = record { parts = refl; place = refl; settings = refl; start = refl } };
  back = λ r. let e = r.taken.place in omega (arith, e);
  at_another_offset = λ r.
      let whole = ap length r.taken.parts ∙ length-append r.text (0x62 ∷ []) in let e = r.taken.place in
      omega (arith, e, whole);
  in_other_bytes = λ r. other_bytes r.text r.taken.parts;
  under_other_settings = λ r. let e : ◌≡◌ {A = ℕ} 0 3 = ap (λ (z : Settings). z.features) r.taken.settings in omega (arith, e);
  from_another_start = λ r. let e = r.taken.start in cc;
  beyond = lit< tt;
  not_beyond = λ h. omega (arith, h);
  still_short = λ h. omega (arith, h);
  short_further_on = lit< tt;
}

pub given_rows : GivenRows
given_rows = record {
  value = refl;
  another_value = λ h. absurd cc;
  elsewhere = λ h. let e : ◌≡◌ {A = ℕ} 8 7 = ap offset_of h in omega (arith, e);
  value_for_none = λ h. absurd cc;
  refused = refl;
  refused_for_nothing = λ h. absurd cc;
  out_of_memory = tt;
  feature = refl;
  another_feature = λ h. absurd cc;
  fault_for_a_feature = λ h. absurd cc;
  refused_and_stayed = (refl, refl);
  refused_and_gone_on = λ h. let e : ◌≡◌ {A = ℕ} 8 7 = ap (λ (s : State). s.place) h.1 in omega (arith, e);
  collected = (behind 1 [], refl);
  collected_another = λ h. let e = h.1 in absurd cc;
  not_collected = refl;
  not_collected_for_nothing = λ h. absurd cc;
  needs_none = tt;
  needs_some = λ h. h;
}

pub offset_rows : OffsetRows
unfolding unsigned
offset_rows = record {
  second_byte = record { forward = lit< tt; inside = omega arith; gives = λ s e. rw e refl };
  another_byte = λ g. let e : ◌≡◌ {A = ℕ} 0x62 0x61 = ap value_in (g.gives (start_of (0x62 ∷ 0x63 ∷ [])) refl) in omega (arith, e);
  ends_too_late = λ g. let e : ◌≡◌ {A = ℕ} 8 9 = ap offset_of (g.gives (start_of (0x62 ∷ 0x63 ∷ [])) refl) in omega (arith, e);
  none_is_left = λ b g. let h = g.inside in omega (arith, h);
  not_refused = λ h. h;
  at_the_end = tt;
  faulty = tt;
}

pub said_rows : SaidRows
unfolding cut_to unsigned
said_rows = record {
  written = inl refl;
  given_up = inr refl;
  another = λ h. elim h [ inl e ↦ absurd cc | inr e ↦ absurd cc ];
  nothing_of_a_value = tt;
  nothing_elsewhere = tt;
  whole_within = refl;
  cut_short_within = refl;
  no_count = refl;
}

pub next_rows : NextRows
unfolding Drains
next_rows = record {
  last = (refl, refl);
  not_counted = λ h. let e = h.0 in absurd cc;
  one_too_many = λ h. let e = h.0 in absurd cc;
  another_value = λ h. let e = h.1 in absurd cc;
  refused = (lit< tt, refl, refl, refl);
  goes_on_behind_an_error = λ h. let e = h.1 in absurd cc;
  refused_and_gone_on = λ h. let e : ◌≡◌ {A = ℕ} 8 7 = ap (λ (s : State). s.place) h.3 in omega (arith, e);
  error_behind_the_last = λ h. let e = h.0 in omega (arith, e);
  none_and_gone_on = λ h. let e : ◌≡◌ {A = ℕ} 8 7 = ap (λ (s : State). s.place) h.2 in omega (arith, e);
  drained_none = refl;
  drained_of_none = λ h. let e : ◌≡◌ {A = ℕ} 8 7 = ap (λ (s : State). s.place) h in omega (arith, e);
  out_of_memory = inr (no_memory, tt, tt, refl);
}
