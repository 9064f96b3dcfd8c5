-- A section that is judged is a payload: its contents begin with what its reader reads first.
use Rattle.std.proofs.Common.{◌≡◌, ℕ, ◌+◌, List, [], ◌++◌, length, Option, Some, None, refl, sym, ap, ◌∙◌, subst}
use Rattle.std.proofs.lemmas.List.{append-nil}
use Rattle.wasm_types.specs.settings.Settings.{Settings}
use Rattle.wasm_types.specs.decoding.declared.Refusal.TheVariants.{Other}
use Rattle.wasm_types.specs.decoding.Decoder.{State, Outcome, Done, ended, Grammar}
use Rattle.wasm_types.specs.decoding.Leb.{IsUnsigned, IsListed, u32}
use Rattle.wasm_types.specs.decoding.LebLaws.{decides-u32}
use Rattle.wasm_types.specs.decoding.declared.error.ErrorKind.{ErrorKind}
use Rattle.wasm_types.specs.decoding.declared.error.ErrorKind.TheVariants as kinds
use Rattle.wasm_types.specs.reader.Reading.{FailsAt, IsNotMemory}
use Rattle.wasm_sections_parser.specs.Steps.{section}
use Rattle.wasm_sections.specs.Payloads.{cut, only_number, front_of}
use Rattle.wasm_module_validator_section_order.specs.rules.Syntax.{ModuleTree}
use Rattle.wasm_module_validator_section_order.specs.rules.Binary.{SpelledNumber}
use Rattle.wasm_module_validator_section_order.specs.rules_in_order.Sections.{Section, number}
use Rattle.wasm_module_validator_section_order.specs.rules_in_order.Sections as sections
use Rattle.wasm_module_validator_section_order.specs.rules_in_order.Texts.{SpelledSection}
use Rattle.wasm_module_validator_section_order.specs.rules_in_order.Steps.{SoFar, JudgesShape}

-- ---- sections that are spelled are payloads

-- what is read of the contents of a section at their front
abbrev IsRead : Outcome ℕ → Type 0
IsRead o = (n : ℕ) × (t : State) × (o ≡ Done n t)

read_u32 : (b : State) (n : ℕ) (count values : List ℕ) → b.rest ≡ count ++ values → IsUnsigned 32 n count
    → u32 b ≡ Done n (record { rest = values; place = b.place + length count; settings = b.settings; start = b.start })
read_u32 b n count values parts counted =
    decides-u32.complete b (record { rest = values; place = b.place + length count; settings = b.settings; start = b.start }) n count
    (record { parts = parts; place = refl; settings = refl; start = refl }) counted

module _ (b : State) where
  -- behind a count
  listed : {A : Type 0} (g : Grammar A) (xs : List A) → IsListed g xs b.rest → IsRead (cut (u32 b))
  listed g xs h = (length xs, _, ap cut (read_u32 b (length xs) h.count h.values h.whole h.counted))

  -- all of one number
  one_number : (o : Option ℕ) → SpelledNumber o (Some b.rest) → IsRead (only_number b)
  one_number None h = absurd h
  one_number (Some n) h = (n, b, ap (ended Other Other b) (read_u32 b n b.rest [] (sym (append-nil b.rest)) h))

  section_read : (z : Settings) (s : Section) (m : ModuleTree) → SpelledSection z s m (Some b.rest) → IsRead (front_of (number s) b)
  section_read z sections.types m h = listed _ m.types h
  section_read z sections.imports m h = listed _ m.imports h
  section_read z sections.functions m h = listed _ m.functions h
  section_read z sections.tables m h = listed _ m.tables h
  section_read z sections.memories m h = listed _ m.memories h
  section_read z sections.tags m h = listed _ m.tags h.0
  section_read z sections.globals m h = listed _ m.globals h
  section_read z sections.exports m h = listed _ m.exports h
  section_read z sections.start m h = one_number m.start h
  section_read z sections.element_segments m h = listed _ m.element_segments h
  section_read z sections.data_count m h = one_number m.data_count h
  section_read z sections.data_segments m h = listed _ m.data_segments h

not_both : (k : ErrorKind) (place : ℕ) (o : Outcome ℕ) → IsNotMemory k → FailsAt k place o → IsRead o → ⊥
not_both (kinds.EndOfData h) place o m f r = let e = sym r.2 ∙ f in cc
not_both (kinds.MissingFeature x) place o m f r = let e = sym r.2 ∙ f in cc
not_both kinds.OutOfMemory place o m f r = m
not_both kinds.Failed place o m f r = f
not_both kinds.Other place o m f r = let e = sym r.2 ∙ f in cc

-- a section that is judged is a payload
pub judged_is_payload : (z : Settings) (q r : SoFar) (id : ℕ) (b : State) (k : ErrorKind) (place : ℕ) → JudgesShape z q (section id b.rest) r → IsNotMemory k → FailsAt k place (front_of id b) → ⊥
judged_is_payload z q r id b k place j m f =
    not_both k place (front_of (number j.0) b) m (subst (λ (i : ℕ). FailsAt k place (front_of i b)) j.1 f) (section_read b z j.0 r.tree j.2.spelled)
