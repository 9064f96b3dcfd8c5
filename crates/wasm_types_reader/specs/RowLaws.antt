-- The rows of `Rows`, by computing them.
use Rattle.std.proofs.Common.{◌≡◌, ℕ, ◌∷◌, [], codes, length, refl, sym, ap, ◌∙◌, inl, inr, arith, false}
use Rattle.std.proofs.lemmas.List.{length-append}
use Rattle.wasm_types_decoding.specs.Decoder.{State, Done, byte}
use Rattle.wasm_types_decoding.specs.Leb.{unsigned}
use Rattle.wasm_types_decoding.specs.Rows.{behind}
use Rattle.wasm_types_decoding.specs.declared.error.ErrorKind.{ErrorKind}
use Rattle.wasm_types_decoding.specs.declared.error.ErrorKind.TheVariants.{EndOfData, MissingFeature, OutOfMemory, Failed, Other}
use Rattle.wasm_types_reader.specs.Reading.{FailsAt, IsNotMemory}
use Rattle.wasm_types_reader.specs.Draining.{Drains}
use Rattle.wasm_types_reader.specs.Parts.{counted_part}
use Rattle.wasm_types_decoding.specs.Lists.{size_within}
use Rattle.wasm_types_reader.specs.Words.{u7}
use Rattle.wasm_types_reader.specs.Rows.{PartRows, AnswerRows, ItemRows, RoomRows, MessageRows}

pub part_rows : PartRows
unfolding u7 counted_part unsigned
part_rows = record {
  small = refl;
  large = refl;
  none = refl;
  part = refl;
  cut_short = refl;
  no_count = refl;
  passed = record { text = 0x61 ∷ []; taken = record { parts = refl; place = refl; settings = refl; start = refl }; part = refl };
  passed_too_much = λ p.
      let whole = ap (λ (s : State). length s.rest) p.part in
      let front = ap length p.taken.parts ∙ length-append p.text (0x62 ∷ []) in
      absurd (omega (arith, whole, front));
}

pub answer_rows : AnswerRows
answer_rows = record {
  value = refl;
  another_value = λ h. absurd cc;
  end_of_data = (refl, refl);
  end_with_another_hint = λ h. let e = h.0 in absurd cc;
  fault = (refl, refl);
  fault_elsewhere = λ h. let e = h.0 in absurd cc;
  fault_for_a_value = λ h. let e = h.0 in absurd cc;
  never_failed = λ h. h.0;
  memory_where_taken = tt;
  memory_where_none_is = λ h. h;
  refused_where_none_is = tt;
}

-- what reads well is refused for memory alone
read_well : {X : Type 0} (k : ErrorKind) (p : ℕ) (x : X) (t : State) → FailsAt k p (Done x t) → IsNotMemory k → ⊥
read_well (EndOfData h) p x t f m = cc
read_well (MissingFeature w) p x t f m = cc
read_well OutOfMemory p x t f m = m
read_well Failed p x t f m = f
read_well Other p x t f m = cc

-- one byte is drained, and no more
drains_one : (b : ℕ) (s t u : State) → byte s ≡ Done b u → Drains byte false 1 s t → t ≡ u
unfolding Drains
drains_one b s t u is (inl (x, m, e, q)) = let same : u ≡ m = cc in q ∙ sym same
drains_one b s t u is (inr (e, f, m, q)) = absurd (let f' : FailsAt e.kind e.offset (Done b u) = rw (← is) f in read_well e.kind e.offset b u f' m)

drains_two : (b c : ℕ) (s t u v : State) → byte s ≡ Done b u → byte u ≡ Done c v → Drains byte false 2 s t → t ≡ v
unfolding Drains
drains_two b c s t u v is then_is (inl (x, m, e, q)) = let same : m ≡ u = cc in let q' : Drains byte false 1 u t = rw same at q in drains_one c u t v then_is q'
drains_two b c s t u v is then_is (inr (e, f, m, q)) = absurd (let f' : FailsAt e.kind e.offset (Done b u) = rw (← is) f in read_well e.kind e.offset b u f' m)

pub item_rows : ItemRows
unfolding Drains
item_rows = record {
  next = (refl, refl);
  none_is_left = (refl, refl, refl);
  one_is_left = λ h. let e = h.0 in absurd cc;
  drained = inl (5, behind 1 (0x06 ∷ 0x07 ∷ []), refl, inl (6, behind 2 (0x07 ∷ []), refl, refl));
  not_drained = λ h.
      let e = drains_two 5 6 _ _ (behind 1 (0x06 ∷ 0x07 ∷ [])) (behind 2 (0x07 ∷ [])) refl refl h in
      let place : 7 ≡ 9 = ap (λ (s : State). s.place) e in absurd cc;
  drained_too_far = λ h.
      let e = drains_one 5 _ _ (behind 1 (0x06 ∷ [])) refl h in
      let place : 9 ≡ 8 = ap (λ (s : State). s.place) e in absurd cc;
  drained_to_the_end = inl (5, behind 1 [], refl, inr (record { kind = EndOfData 1; offset = 8; message = codes "unexpected end-of-file" }, refl, tt, refl));
}

pub room_rows : RoomRows
unfolding size_within unsigned
room_rows = record { none = refl; first = refl; no_first = refl; taken = refl; counted = refl; counted_none = refl; above_limit = refl; no_count = refl }

pub message_rows : MessageRows
unfolding unsigned
message_rows = record { above = refl; at_the_limit = refl; no_count = refl; whole = refl; cut_short = refl; whole_above = refl; said = refl; another = λ h. absurd cc }
