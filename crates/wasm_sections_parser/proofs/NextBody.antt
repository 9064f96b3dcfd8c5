-- A body that comes next, as a call gives it.
use Rattle.std.proofs.Common.{◌≡◌, ◌∙◌, ℕ, ◌+◌, ◌==◌, List, length, refl, sym, ap, subst, cond, Bool, true, false, Ok}
use Rattle.std.specs.Prelude.{nat_le}
use Rattle.wasm_types.specs.decoding.Decoder.{State, Done, Reaches}
use Rattle.wasm_sections_parser.specs.declared.frame.Frame.TheVariants.{CodeEntry}
use Rattle.wasm_sections_parser.specs.declared.parser.Chunk.TheVariants.{Parsed}
use Rattle.wasm_sections_parser.specs.declared.progress.Stage.{Stage}
use Rattle.wasm_sections_parser.specs.declared.progress.Stage.TheVariants.{Code}
use Rattle.wasm_sections_parser.specs.declared.progress.Progress.{Progress}
use Rattle.wasm_sections_parser.specs.Parsers.{Parser}
use Rattle.wasm_sections_parser.specs.Steps.{entry, over_stage, is_over, behind_code, next_entry, at_stage, step}
use Rattle.wasm_sections_parser.specs.Parsing.{reads, comes, between, at_end, IsNext, Parses}

either : (b : Bool) → cond b false false ≡ false
either true = refl
either false = refl

module _ (p : Parser) (text : List ℕ) (left end : ℕ) (s : p.progress.stage ≡ Code left end) (l : left == 0 ≡ false) where
  goes_on : is_over p.progress ≡ false
  goes_on = ap over_stage s

  within : at_end p text ≡ false
  within =
      let inside : between p.progress.stage p.offset ≡ false = ap (λ (g : Stage). between g p.offset) s ∙ ap (λ (b : Bool). cond b (nat_le end p.offset) false) l in
      ap (λ (b : Bool). cond (length text == 0) b false) inside ∙ either (length text == 0)

  comes_entry : comes p text ≡ next_entry p.progress left end (reads p text)
  unfolding step
  comes_entry =
      let z = (reads p text).settings in
      ap (λ (g : Stage). at_stage z p.progress g (reads p text)) s
      ∙ ap (λ (b : Bool). cond b (behind_code z p.progress end) (next_entry p.progress left end) (reads p text)) l

  pub body_given : (eof : Bool) (n o : ℕ) (u t r : State) (q : Progress) → u ≡ reads p text → next_entry p.progress left end u ≡ Done (entry r.rest, q) t
      → (r.start ≡ r.place) × (r.place + length r.rest ≡ t.place) × (r.settings ≡ u.settings) → Reaches u t → o ≡ t.place → t.start + n ≡ t.place
      → Parses p text eof (Ok (Parsed n (CodeEntry r))) (record { offset = o; settings = p.settings; progress = q })
  body_given eof n o u t r q e given placed forward at counted =
      let f : p.offset ≡ t.start = sym (ap (λ (v : State). v.start) e) ∙ sym forward.taken.start in
      let read : comes p text ≡ Done (entry r.rest, q) t = comes_entry ∙ subst (λ (v : State). next_entry p.progress left end v ≡ Done (entry r.rest, q) t) e given in
      let next : IsNext p text n (CodeEntry r) (record { offset = o; settings = p.settings; progress = q }) =
      record {
        after = t;
        read = read;
        placed = (placed.0, placed.1, placed.2 ∙ ap (λ (v : State). v.settings) e);
        consumed = sym counted ∙ ap (λ (k : ℕ). k + n) (sym f);
        offset = at;
        settings = refl;
      } in
      rw (goes_on, within) next
