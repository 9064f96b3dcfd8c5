-- A custom section that comes next, as a call gives it.
use Rattle.std.proofs.Common.{◌≡◌, ◌∙◌, ℕ, ◌+◌, ◌==◌, List, length, refl, sym, ap, subst, cond, Bool, false, Ok}
use Rattle.std.proofs.lemmas.Bool.{eqb-true, false_from_ne_true}
use Rattle.std.proofs.lemmas.Str.{is_utf8-from_IsUtf8}
use Rattle.std.specs.Str.{IsUtf8}
use Rattle.wasm_types.specs.decoding.Decoder.{State, Done, Reaches, byte, bytes}
use Rattle.wasm_types.specs.decoding.Leb.{u32}
use Rattle.wasm_types.specs.decoding.Text.{name, text_of}
use Rattle.wasm_types.specs.reader.Parts.{next_part}
use Rattle.wasm_types.specs.settings.Settings.{Settings}
use Rattle.wasm_sections_parser.specs.declared.frame.CustomSectionReader.{CustomSectionReader}
use Rattle.wasm_sections_parser.specs.declared.frame.Frame.TheVariants.{Custom}
use Rattle.wasm_sections_parser.specs.declared.parser.Chunk.TheVariants.{Parsed}
use Rattle.wasm_sections_parser.specs.declared.progress.Stage.{Stage}
use Rattle.wasm_sections_parser.specs.declared.progress.Stage.TheVariants.{Sections}
use Rattle.wasm_sections_parser.specs.declared.progress.Progress.{Progress}
use Rattle.wasm_sections_parser.specs.Parsers.{Parser}
use Rattle.wasm_sections_parser.specs.Places.{IsPlaced}
use Rattle.wasm_sections_parser.specs.Steps.{Next, contents, custom, custom_next, in_part, over_stage, is_over, next_section, at_stage, step}
use Rattle.wasm_sections_parser.specs.Parsing.{reads, comes, between, at_end, IsNext, Parses}

nonzero : (n : ℕ) → (n ≡ 0 → ⊥) → n == 0 ≡ false
nonzero n h = false_from_ne_true (n == 0) (λ e. h (eqb-true n 0 e))

-- bytes that are UTF-8
pub text_read : (n : ℕ) (s t : State) (text : List ℕ) → bytes n s ≡ Done text t → IsUtf8 text → text_of n s ≡ Done text t
unfolding text_of
text_read n s t text e utf8 = rw (e, is_utf8-from_IsUtf8 text utf8) refl

-- contents that are a custom section, behind their id and size
pub section_read : (p : Progress) (s m w part t : State) (size : ℕ) (x : Next) → byte s ≡ Done 0 m → u32 m ≡ Done size w → next_part size w ≡ Done part t
    → part.settings ≡ s.settings → in_part (name part.settings.limits.string_bytes) (custom_next p) part t ≡ Done x t → next_section s.settings p s ≡ Done x t
unfolding next_section contents
section_read p s m w part t size x id number taken same given =
    rw (id, number, taken) (subst (λ (z : Settings). in_part (name z.limits.string_bytes) (custom_next p) part t ≡ Done x t) same given)

module _ (p : Parser) (text : List ℕ) (s : p.progress.stage ≡ Sections) (some : length text ≡ 0 → ⊥) where
  goes_on : is_over p.progress ≡ false
  goes_on = ap over_stage s

  within : at_end p text ≡ false
  within = ap (λ (b : Bool). cond b (between p.progress.stage p.offset) false) (nonzero (length text) some)

  comes_section : comes p text ≡ next_section p.settings p.progress (reads p text)
  unfolding step
  comes_section = ap (λ (g : Stage). at_stage p.settings p.progress g (reads p text)) s

  pub custom_given : (eof : Bool) (n o : ℕ) (u t : State) (c : CustomSectionReader) (q : Progress) → u ≡ reads p text
      → next_section u.settings p.progress u ≡ Done (custom c.name.now c.«data».now, q) t
      → IsPlaced (Custom c) q u t.place → Reaches u t → o ≡ t.place → t.start + n ≡ t.place
      → Parses p text eof (Ok (Parsed n (Custom c))) (record { offset = o; settings = p.settings; progress = q })
  custom_given eof n o u t c q e given placed forward at counted =
      let f : p.offset ≡ t.start = sym (ap (λ (v : State). v.start) e) ∙ sym forward.taken.start in
      let read : comes p text ≡ Done (custom c.name.now c.«data».now, q) t =
      comes_section ∙ subst (λ (v : State). next_section v.settings p.progress v ≡ Done (custom c.name.now c.«data».now, q) t) e given in
      let next : IsNext p text n (Custom c) (record { offset = o; settings = p.settings; progress = q }) =
      record {
        after = t;
        read = read;
        placed = subst (λ (v : State). IsPlaced (Custom c) q v t.place) e placed;
        consumed = sym counted ∙ ap (λ (k : ℕ). k + n) (sym f);
        offset = at;
        settings = refl;
      } in
      rw (goes_on, within) next
