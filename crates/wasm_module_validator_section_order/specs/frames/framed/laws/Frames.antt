-- A module has one list of frames.
use Rattle.std.proofs.Common.{◌≡◌, ℕ, List, [], ◌∷◌, ◌++◌, length, sym, ap, ◌∙◌, subst}
use Rattle.std.specs.Prelude.{drop}
use Rattle.std.proofs.lemmas.List.{append_assoc}
use Rattle.wasm_sections_items.specs.frames.Outer.{Part, SpelledHeader, SpelledPart, Outer}
use Rattle.wasm_sections_items.specs.frames.Outer as outer
use Rattle.wasm_sections_items.specs.frames.Decode.{header, part}
use Rattle.wasm_sections_items.specs.frames.PartLaws.{decides-header, decides-part}
use Rattle.wasm_sections_items.specs.frames.OuterLaws.{one, one_outer}
use Rattle.wasm_sections_parser.specs.Steps.{Shape}
use Rattle.wasm_sections_parser.specs.Steps as frame
use Rattle.wasm_sections_parser.specs.runs.calls.Runs.{entries, Framed, AreFramed, Frames}
use Rattle.wasm_sections_parser.specs.runs.Modules.{IsModule}
use Rattle.wasm_types.specs.decoding.Leb.{u32, IsUnsigned}
use Rattle.wasm_types.specs.decoding.LebLaws.{decides-u32}
use Rattle.wasm_types.specs.settings.Settings.{Settings}

framed_spelled : (z : Settings) (x : Part) (text : List ℕ) (xs : List Shape) → Framed z x text xs → SpelledPart z x text
framed_spelled z (outer.custom name c) text xs f = f.0
framed_spelled z (outer.section id c) text xs f = f.0
framed_spelled z (outer.code es) text xs f = f.0

-- the size of a code section at the front of some bytes
module _ (z : Settings) (es : List (List ℕ)) (text : List ℕ) where
  sized : (front back : List ℕ) → (h : SpelledPart z (outer.code es) front) → text ≡ front ++ back
      → drop 1 text ≡ h.2.size ++ (h.2.content ++ back)
  sized front back h e =
      ap (drop 1) (e ∙ ap (λ (x : List ℕ). x ++ back) (h.1 ∙ ap (λ (x : List ℕ). outer.code_id ∷ x) h.2.whole))
      ∙ append_assoc h.2.size h.2.content back

  one_size : (front back other rest : List ℕ) (h : SpelledPart z (outer.code es) front) (k : SpelledPart z (outer.code es) other)
      → text ≡ front ++ back → text ≡ other ++ rest → length h.2.content ≡ length k.2.content
  one_size front back other rest h k e g =
      (one u32 (IsUnsigned 32) decides-u32 (length h.2.content) (length k.2.content) (drop 1 text) h.2.size (h.2.content ++ back) k.2.size
      (k.2.content ++ rest)
      (sized front back h e) h.2.counted (sized other rest k g) k.2.counted).0

module _ (z : Settings) where
  one_frames : (x : Part) (text front back other rest : List ℕ) (fs gs : List Shape) → text ≡ front ++ back → Framed z x front fs
      → text ≡ other ++ rest
      → Framed z x other gs → fs ≡ gs
  one_frames (outer.custom name c) text front back other rest fs gs e f d g = f.1 ∙ sym g.1
  one_frames (outer.section id c) text front back other rest fs gs e f d g = f.1 ∙ sym g.1
  one_frames (outer.code es) text front back other rest fs gs e f d g =
      f.1 ∙ (ap (λ (n : ℕ). frame.code (length es) n ∷ entries es) (one_size z es text front back other rest f.0 g.0 e d) ∙ sym g.1)

  parts_one : (ps : List Part) (text : List ℕ) (xs ys : List Shape) → AreFramed z ps text xs → AreFramed z ps text ys → xs ≡ ys
  parts_one [] text xs ys f g = f.1 ∙ sym g.1
  parts_one (x ∷ ps) text xs ys f g =
      let here = framed_spelled z x f.0 f.2 f.4 in
      let there = framed_spelled z x g.0 g.2 g.4 in
      let back : f.1 ≡ g.1 = (one (part z) (SpelledPart z) (decides-part z) x x text f.0 f.1 g.0 g.1 f.6 here g.6 there).1 in
      let first : f.2 ≡ g.2 = one_frames x text f.0 f.1 g.0 g.1 f.2 g.2 f.6 f.4 g.6 g.4 in
      let others : f.3 ≡ g.3 = parts_one ps g.1 f.3 g.3 (subst (λ (t : List ℕ). AreFramed z ps t f.3) back f.5) g.5 in
      f.7 ∙ ((λ i. first i ++ others i) ∙ sym g.7)

  of_outer : (m : Outer) (text : List ℕ) (xs ys : List Shape) → Frames z m text xs → Frames z m text ys → xs ≡ ys
  of_outer m text xs ys f g =
      let heads =
      one header SpelledHeader decides-header m.header m.header text f.header_text f.parts_text g.header_text g.parts_text
      f.whole f.headed g.whole g.headed in
      let framed = subst (λ (t : List ℕ). AreFramed z m.parts t f.shapes) heads.1 f.framed in
      let shapes = parts_one m.parts g.parts_text f.shapes g.shapes framed g.framed in
      f.frames ∙ (ap (λ (s : List Shape). frame.version m.header ∷ s) shapes ∙ sym g.frames)

  pub frames_are_one : (text : List ℕ) (xs ys : List Shape) → IsModule z text xs → IsModule z text ys → xs ≡ ys
  frames_are_one text xs ys m n =
      let same = one_outer z m.outer n.outer text m.spelled n.spelled in
      of_outer n.outer text xs ys (subst (λ (o : Outer). Frames z o text xs) same m.frames) n.frames
