-- Worked headers, sections and modules: what is read, and what a rule allows and forbids.
use Rattle.std.proofs.Common.{◌≡◌, ◌⊎◌, ℕ, List, [], ◌∷◌, ◌++◌, length, refl, sym, ap, subst, true, false, Some, inl, inr, arith, lit<}
use Rattle.std.specs.Str.{is_utf8}
use Rattle.wasm_types.specs.settings.Limits.{default_limits}
use Rattle.wasm_types.specs.settings.Settings.{no_features}
use Rattle.wasm_types.specs.decoding.declared.Refusal.TheVariants.{Other}
use Rattle.wasm_types.specs.decoding.Decoder.{Done, Short, Fault, repeated, within}
use Rattle.wasm_types.specs.decoding.Leb.{u32, unsigned, listed, IsUnsigned, last}
use Rattle.wasm_types.specs.decoding.LebLaws.{decides-u32}
use Rattle.wasm_types.specs.decoding.Text.{text_of, counted_within, sized}
use Rattle.wasm_types.specs.values.WorkedTypeLaws.{start_of, behind}
use Rattle.wasm_sections_items.specs.frames.Outer.{
  Header,
  SpelledHeader,
  Part,
  custom,
  code,
  section,
  custom_id,
  rank,
  id_of,
  IsOrdered,
  Counts,
  Declares,
  DeclaresOrAbsent,
  CountsAgree,
  Outer,
  SpelledOuter,
  IsCoreModule,
}
use Rattle.wasm_sections_items.specs.frames.Decode.{header, counted_bytes, named_rest, part}
use Rattle.wasm_sections_items.specs.frames.OuterLaws.{one, one_outer}

-- ---- headers

abbrev head : ℕ → ℕ → Header
head v l = record { version = v; layer = l }

-- version 1; another version; a component; another layer; other magic; too few bytes, by four
pub record HeaderRows : Type 0 where
  pub first_version : header (start_of (0x00 ∷ 0x61 ∷ 0x73 ∷ 0x6d ∷ 0x01 ∷ 0x00 ∷ 0x00 ∷ 0x00 ∷ [])) ≡ Done (head 1 0) (behind 8)
  pub second_version : header (start_of (0x00 ∷ 0x61 ∷ 0x73 ∷ 0x6d ∷ 0x02 ∷ 0x00 ∷ 0x00 ∷ 0x00 ∷ [])) ≡ Done (head 2 0) (behind 8)
  pub high_byte : header (start_of (0x00 ∷ 0x61 ∷ 0x73 ∷ 0x6d ∷ 0x0d ∷ 0x01 ∷ 0x00 ∷ 0x00 ∷ [])) ≡ Done (head 269 0) (behind 8)
  pub component : header (start_of (0x00 ∷ 0x61 ∷ 0x73 ∷ 0x6d ∷ 0x0d ∷ 0x00 ∷ 0x01 ∷ 0x00 ∷ [])) ≡ Done (head 13 1) (behind 8)
  pub second_layer : header (start_of (0x00 ∷ 0x61 ∷ 0x73 ∷ 0x6d ∷ 0x01 ∷ 0x00 ∷ 0x02 ∷ 0x00 ∷ [])) ≡ Fault Other 4
  pub high_layer : header (start_of (0x00 ∷ 0x61 ∷ 0x73 ∷ 0x6d ∷ 0x01 ∷ 0x00 ∷ 0x00 ∷ 0x01 ∷ [])) ≡ Fault Other 4
  pub other_magic : header (start_of (0x00 ∷ 0x61 ∷ 0x73 ∷ 0x6e ∷ [])) ≡ Fault Other 0
  pub nothing : header (start_of []) ≡ Short 0 4
  pub three : header (start_of (0x01 ∷ 0x61 ∷ 0x73 ∷ [])) ≡ Short 0 1
  pub five : header (start_of (0x00 ∷ 0x61 ∷ 0x73 ∷ 0x6d ∷ 0x01 ∷ [])) ≡ Short 4 3
  pub seven : header (start_of (0x00 ∷ 0x61 ∷ 0x73 ∷ 0x6d ∷ 0x01 ∷ 0x00 ∷ 0x00 ∷ [])) ≡ Short 4 1

pub header_rows : HeaderRows
unfolding header
header_rows = record {
  first_version = refl;
  second_version = refl;
  high_byte = refl;
  component = refl;
  second_layer = refl;
  high_layer = refl;
  other_magic = refl;
  nothing =
      refl;
  three = refl;
  five = refl;
  seven = refl;
}

-- ---- sections

-- contents of an id, whatever they are, cut short, of a padded size; custom sections with their names; the code section with its
-- entries, each within the section, all of them to its end
pub record PartRows : Type 0 where
  pub types : part no_features (start_of (0x01 ∷ 0x02 ∷ 0x05 ∷ 0x06 ∷ [])) ≡ Done (section 1 (0x05 ∷ 0x06 ∷ [])) (behind 4)
  pub padded : part no_features (start_of (0x01 ∷ 0x81 ∷ 0x00 ∷ 0x05 ∷ [])) ≡ Done (section 1 (0x05 ∷ [])) (behind 4)
  pub unknown : part no_features (start_of (0x63 ∷ 0x01 ∷ 0x05 ∷ [])) ≡ Done (section 99 (0x05 ∷ [])) (behind 3)
  pub empty : part no_features (start_of (0x01 ∷ 0x00 ∷ [])) ≡ Done (section 1 []) (behind 2)
  pub cut_short : part no_features (start_of (0x01 ∷ 0x05 ∷ 0x05 ∷ [])) ≡ Short 2 4
  pub no_size : part no_features (start_of (0x01 ∷ [])) ≡ Short 1 1
  pub named : is_utf8 (0x61 ∷ []) ≡ true → part no_features (start_of (0x00 ∷ 0x03 ∷ 0x01 ∷ 0x61 ∷ 0x05 ∷ [])) ≡ Done (custom (0x61 ∷ []) (0x05 ∷ [])) (behind 5)
  pub name_past_the_end : part no_features (start_of (0x00 ∷ 0x01 ∷ 0x01 ∷ 0x61 ∷ [])) ≡ Fault Other 3
  pub no_name : part no_features (start_of (0x00 ∷ 0x00 ∷ [])) ≡ Fault Other 2
  pub malformed_name : is_utf8 (0x80 ∷ []) ≡ false → part no_features (start_of (0x00 ∷ 0x02 ∷ 0x01 ∷ 0x80 ∷ [])) ≡ Fault Other 3
  pub entries : part no_features (start_of (0x0a ∷ 0x06 ∷ 0x02 ∷ 0x01 ∷ 0x0b ∷ 0x02 ∷ 0x00 ∷ 0x0b ∷ [])) ≡ Done (code ((0x0b ∷ []) ∷ (0x00 ∷ 0x0b ∷ []) ∷ [])) (behind 8)
  pub entry_past_the_end : part no_features (start_of (0x0a ∷ 0x03 ∷ 0x01 ∷ 0x04 ∷ 0x00 ∷ [])) ≡ Fault Other 4
  pub byte_too_many : part no_features (start_of (0x0a ∷ 0x02 ∷ 0x00 ∷ 0x05 ∷ [])) ≡ Fault Other 3

pub part_rows : PartRows
unfolding default_limits part counted_bytes named_rest sized within unsigned listed repeated counted_within text_of
part_rows = record {
  types = refl;
  padded = refl;
  unknown = refl;
  empty = refl;
  cut_short = refl;
  no_size = refl;
  named = λ e. rw e refl;
  name_past_the_end = refl;
  no_name =
      refl;
  malformed_name = λ e. rw e refl;
  entries = refl;
  entry_past_the_end = refl;
  byte_too_many = refl;
}

-- ---- order

abbrev of : ℕ → Part
of id = section id []

-- every section in its place, with custom and unknown ones anywhere; two exchanged; one twice
pub record OrderRows : Type 0 where
  pub all : IsOrdered (of 1 ∷ of 2 ∷ of 3 ∷ of 4 ∷ of 5 ∷ of 13 ∷ of 6 ∷ of 7 ∷ of 8 ∷ of 9 ∷ of 12 ∷ code [] ∷ of 11 ∷ [])
  pub none : IsOrdered []
  pub customs : IsOrdered (custom [] [] ∷ of 3 ∷ custom [] [] ∷ custom [] [] ∷ of 99 ∷ code [] ∷ custom [] [] ∷ [])
  pub exchanged : IsOrdered (of 5 ∷ of 4 ∷ []) → ⊥
  pub tag_before_memory : IsOrdered (of 13 ∷ of 5 ∷ []) → ⊥
  pub count_after_code : IsOrdered (code [] ∷ of 12 ∷ []) → ⊥
  pub data_before_code : IsOrdered (of 11 ∷ code [] ∷ []) → ⊥
  pub twice : IsOrdered (of 1 ∷ of 1 ∷ []) → ⊥
  pub twice_around_custom : IsOrdered (code [] ∷ custom [] [] ∷ code [] ∷ []) → ⊥

pub order_rows : OrderRows
order_rows = record {
  all = (
    omega arith,
    (
      omega arith,
      (
        omega arith,
        (
          omega arith,
          (omega arith, (omega arith, (omega arith, (omega arith, (omega arith, (omega arith, (omega arith, (omega arith, (omega arith, tt))))))))),
        ),
      ),
    ),
  );
  none = tt;
  customs = (omega arith, (omega arith, tt));
  exchanged = λ h. omega (arith, h.1.0);
  tag_before_memory = λ h. omega (arith, h.1.0);
  count_after_code = λ h. omega (arith, h.1.0);
  data_before_code = λ h. omega (arith, h.1.0);
  twice = λ h. omega (arith, h.1.0);
  twice_around_custom = λ h. omega (arith, h.1.0);
}

-- ---- counts

-- contents that count one, and nothing else
one_counted : (items : List ℕ) → Counts 1 (0x01 ∷ items)
one_counted items = record { count = 0x01 ∷ []; items = items; counted = last 32 1 1 (omega arith) (lit< tt) refl; whole = refl }

only_one : (n : ℕ) (items : List ℕ) → Counts n (0x01 ∷ items) → n ≡ 1
only_one n items h = (one u32 (IsUnsigned 32) decides-u32 n 1 (0x01 ∷ items) h.count h.items (0x01 ∷ []) items h.whole h.counted refl (last 32 1 1 (omega arith) (lit< tt) refl)).0

abbrev functions : List ℕ
functions = 0x01 ∷ 0x00 ∷ []

abbrev body : List (List ℕ)
body = (0x0b ∷ []) ∷ []

-- a function with its body; a body that is missing, and one without a function; no function and no code; segments, counted or not
pub record CountRows : Type 0 where
  pub one : CountsAgree (section 3 functions ∷ code body ∷ [])
  pub none : CountsAgree []
  pub missing_code : CountsAgree (section 3 functions ∷ []) → ⊥
  pub missing_function : CountsAgree (code body ∷ []) → ⊥
  pub segments : CountsAgree (section 12 (0x01 ∷ []) ∷ section 11 functions ∷ [])
  pub missing_segments : CountsAgree (section 12 (0x01 ∷ []) ∷ []) → ⊥
  pub uncounted_segments : CountsAgree (section 11 functions ∷ [])

pub count_rows : CountRows
count_rows = record {
  one = record { functions = 1; declared = inl (inl (refl, one_counted (0x00 ∷ []))); defined = refl; segments = no_count };
  none = record { functions = 0; declared = inr (refl, tt); defined = refl; segments = λ n h. absurd h };
  missing_code = λ h. no_code h.functions h.declared h.defined;
  missing_function = λ h. no_function h.functions h.declared h.defined;
  segments = record { functions = 0; declared = inr (refl, (λ e. omega (arith, e), (λ e. omega (arith, e), tt))); defined = refl; segments = counted_segments };
  missing_segments = λ h. no_segments (h.segments 1 (inl (refl, one_counted [])));
  uncounted_segments = record { functions = 0; declared = inr (refl, (λ e. omega (arith, e), tt)); defined = refl; segments = not_counted };
}
  where
    no_count : (n : ℕ) → Declares 12 n (section 3 functions ∷ code body ∷ []) → DeclaresOrAbsent 11 n (section 3 functions ∷ code body ∷ [])
    no_count n (inl h) = absurd (omega (arith, h.0))
    no_count n (inr h) = absurd h

    no_code : (n : ℕ) → DeclaresOrAbsent 3 n (section 3 functions ∷ []) → n ≡ 0 → ⊥
    no_code n (inl (inl h)) e = omega (arith, e, only_one n (0x00 ∷ []) h.1)
    no_code n (inl (inr h)) e = h
    no_code n (inr h) e = h.1.0 refl

    no_function : (n : ℕ) → DeclaresOrAbsent 3 n (code body ∷ []) → n ≡ 1 → ⊥
    no_function n (inl h) e = h
    no_function n (inr h) e = omega (arith, e, h.0)

    counted_segments : (n : ℕ) → Declares 12 n (section 12 (0x01 ∷ []) ∷ section 11 functions ∷ []) → DeclaresOrAbsent 11 n (section 12 (0x01 ∷ []) ∷ section 11 functions ∷ [])
    counted_segments n (inl h) = inl (inr (inl (refl, subst (λ (k : ℕ). Counts k functions) (sym (only_one n [] h.1)) (one_counted (0x00 ∷ [])))))
    counted_segments n (inr (inl h)) = absurd (omega (arith, h.0))
    counted_segments n (inr (inr h)) = absurd h

    no_segments : DeclaresOrAbsent 11 1 (section 12 (0x01 ∷ []) ∷ []) → ⊥
    no_segments (inl (inl h)) = omega (arith, h.0)
    no_segments (inl (inr h)) = h
    no_segments (inr h) = omega (arith, h.0)

    not_counted : (n : ℕ) → Declares 12 n (section 11 functions ∷ []) → DeclaresOrAbsent 11 n (section 11 functions ∷ [])
    not_counted n (inl h) = absurd (omega (arith, h.0))
    not_counted n (inr h) = absurd h

-- ---- modules

abbrev first_eight : List ℕ
first_eight = 0x00 ∷ 0x61 ∷ 0x73 ∷ 0x6d ∷ 0x01 ∷ 0x00 ∷ 0x00 ∷ 0x00 ∷ []

abbrev outer : Header → List Part → Outer
outer h ps = record { header = h; parts = ps }

headed : SpelledHeader (head 1 0) first_eight
headed = record { version_text = 0x01 ∷ 0x00 ∷ []; layer_text = 0x00 ∷ 0x00 ∷ []; version_bytes = refl; layer_bytes = refl; version = refl; layer = refl; known = omega arith; whole = refl }

-- a bare header; a section behind it; not two versions for the same bytes, and no byte behind the last section. Which of them are
-- modules of this format: another version, a component, an unknown section and a repeated one are none.
pub record OuterRows : Type 0 where
  pub bare : SpelledOuter no_features (outer (head 1 0) []) first_eight
  pub not_another : SpelledOuter no_features (outer (head 2 0) []) first_eight → ⊥
  pub types : SpelledOuter no_features (outer (head 1 0) (section 1 (0x00 ∷ []) ∷ [])) (first_eight ++ (0x01 ∷ 0x01 ∷ 0x00 ∷ []))
  pub not_without : SpelledOuter no_features (outer (head 1 0) []) (first_eight ++ (0x01 ∷ 0x01 ∷ 0x00 ∷ [])) → ⊥
  pub core : IsCoreModule (outer (head 1 0) (section 1 (0x00 ∷ []) ∷ []))
  pub not_version : IsCoreModule (outer (head 2 0) []) → ⊥
  pub not_component : IsCoreModule (outer (head 1 1) []) → ⊥
  pub not_unknown : IsCoreModule (outer (head 1 0) (section 99 [] ∷ [])) → ⊥
  pub not_twice : IsCoreModule (outer (head 1 0) (section 1 (0x00 ∷ []) ∷ section 1 (0x00 ∷ []) ∷ [])) → ⊥

bare_spelled : SpelledOuter no_features (outer (head 1 0) []) first_eight
bare_spelled = record { header_text = first_eight; parts_text = []; headed = headed; each = refl; whole = refl }

types_spelled : SpelledOuter no_features (outer (head 1 0) (section 1 (0x00 ∷ []) ∷ [])) (first_eight ++ (0x01 ∷ 0x01 ∷ 0x00 ∷ []))
types_spelled = record {
  header_text = first_eight;
  parts_text = 0x01 ∷ 0x01 ∷ 0x00 ∷ [];
  headed = headed;
  each = (
    0x01 ∷ 0x01 ∷ 0x00 ∷ [],
    [],
    (
      λ e. omega (arith, e),
      λ e. omega (arith, e),
      (0x01 ∷ 0x00 ∷ [], refl, record { size = 0x01 ∷ []; content = 0x00 ∷ []; counted = last 32 1 1 (omega arith) (lit< tt) refl; spelled = refl; whole = refl }),
    ),
    refl,
    refl,
  );
  whole = refl;
}

pub outer_rows : OuterRows
outer_rows = record {
  bare = bare_spelled;
  not_another = λ h. let e = ap (λ (m : Outer). m.header.version) (one_outer no_features _ _ _ h bare_spelled) in omega (arith, e);
  types = types_spelled;
  not_without = λ h. let e = ap (λ (m : Outer). length m.parts) (one_outer no_features _ _ _ h types_spelled) in omega (arith, e);
  core = record {
    version = refl;
    layer = refl;
    known = (inr (1, refl), tt);
    ordered = (omega arith, tt);
    counts = record { functions = 0; declared = inr (refl, (λ e. omega (arith, e), tt)); defined = refl; segments = none_counted };
  };
  not_version = λ h. let e = h.version in omega (arith, e);
  not_component = λ h. let e = h.layer in omega (arith, e);
  not_unknown = λ h. not_known h.known.0;
  not_twice = λ h. omega (arith, h.ordered.1.0);
}
  where
    none_counted : (n : ℕ) → Declares 12 n (section 1 (0x00 ∷ []) ∷ []) → DeclaresOrAbsent 11 n (section 1 (0x00 ∷ []) ∷ [])
    none_counted n (inl h) = absurd (omega (arith, h.0))
    none_counted n (inr h) = absurd h

    not_known : ((id_of (section 99 []) ≡ custom_id) ⊎ ((r : ℕ) × (rank 99 ≡ Some r))) → ⊥
    not_known (inl e) = omega (arith, e)
    not_known (inr h) = let e = h.1 in cc
